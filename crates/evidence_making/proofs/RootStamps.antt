-- Tokens that stamp the root of a hash tree.
use Rattle.std.proofs.Common.{◌≡◌, ◌≢◌, ◌↔◌, ℕ, Bool, true, false, IsTrue, List, Some, None, Result, Ok, Err, IfOk}
use Rattle.std.proofs.Common.{refl, sym, ap, ◌∙◌, subst, if◌then◌else◌}
use Rattle.der_core.specs.Values.{AlgorithmValue}
use Rattle.der_time.specs.Moments.{generalized_moment}
use Rattle.digests.specs.Algorithms.{Names}
use Rattle.digests.specs.Digests.{alg_of, octets_of}
use Rattle.digests.specs.Named.{is_alg, alg_named}
use Rattle.digests.specs.declared.algorithm.Alg.{Alg}
use Rattle.digests.specs.declared.value.Digest.{Digest}
use Rattle.digests.proofs.Named.{alg_itself, alg_says, named_says, named_is}
use Rattle.check_fit.specs.declared.policy.Policy.{Policy}
use Rattle.cms_types.specs.SignedDataValue.{SignedContent, content_info_parts}
use Rattle.tsp_types.specs.ImprintValue.{ImprintValue}
use Rattle.tsp_types.specs.TstValue.{TstValue}
use Rattle.evidence_types.specs.StampValue.{IsSequence}
use Rattle.check_verdict.specs.Passing.{IsDue, IsImprint}
use Rattle.check_evidence.specs.Grounds.{terms_of, of_root}
use Rattle.check_evidence.specs.StampStates.{States}
use Rattle.check_evidence.proofs.States.{one_stated}
use Rattle.evidence_making.specs.declared.fault.StampFault.{StampFault}
use Rattle.evidence_making.specs.declared.fault.StampFault.TheVariants.{TokenMalformed, ImprintDiffers, Order}
use Rattle.evidence_making.specs.Renewed.{is_this}
use Rattle.evidence_making.specs.Stamping.{IsRootImprint, StampsRoot, StampsAnother, IsNoToken, StampsAreOneCase}
use Rattle.evidence_making.specs.Stamping.{StandingStamps, StampsHaveTime}
use Rattle.evidence_making.specs.StampSteps.{IsMomentFor}
use Rattle.evidence_making.proofs.Renewed.{this_says}

-- ---- laws

-- what two stamps of a token state is the same
same_imprint : (token : List ℕ) (root : Digest) (x y : TstValue) → States token x → States token y
    → IsRootImprint x.imprint root → IsRootImprint y.imprint root
same_imprint token root x y h k =
    subst (λ (z : TstValue). IsRootImprint z.imprint root) (one_stated token x y h k)

pub one_case : StampsAreOneCase
one_case = record {
  no_token = λ token root m h none. none h.stated h.states;
  another = λ token root m h o. o.other (same_imprint token root h.stated o.stated h.states o.states h.imprint);
  no_other = λ token root o none. none o.stated o.states;
  one_moment = λ token root m n h k. sym h.moment
      ∙ ap (λ (x : TstValue). generalized_moment x.time) (one_stated token h.stated k.stated h.states k.states)
      ∙ k.moment;
}

-- an imprint that is due as the root is the root
root_imprint : (policy : Policy) (root : Digest) (imprint : ImprintValue)
    → IsImprint policy imprint (of_root (alg_of root) (octets_of root)) → IsRootImprint imprint root
root_imprint policy root imprint i = go (is_alg i.alg (alg_of root)) refl i.digest
  where
    go : (b : Bool) → is_alg i.alg (alg_of root) ≡ b
        → IsDue (if b then Some (octets_of root) else None) imprint.digest → IsRootImprint imprint root
    go true e d = record {
      algorithm = subst (λ (a : Alg). Names imprint.algorithm.oid imprint.algorithm.parameters a)
          (alg_says i.alg (alg_of root) e) i.named;
      octets = d;
    }
    go false e d = absurd d

pub standing_stamps : StandingStamps
standing_stamps g root token m t =
    let p = t.passes in
    record {
      stated = p.stamp;
      states = record {
        signed = p.signed;
        encodes = p.encodes;
        econtent_type = p.econtent_type;
        content = p.content;
        present = p.present;
        encodes_stamp = p.encodes_stamp;
      };
      imprint = root_imprint (terms_of g).policy root p.stamp.imprint p.imprint;
      moment = p.moment;
    }

pub stamps_have_time : StampsHaveTime
stamps_have_time s root m h = (h.stated, h.states, h.moment)

-- ---- what is answered

-- a token is one SEQUENCE
pub token_sequence : (token : List ℕ) (x : TstValue) → States token x → IsSequence token
token_sequence token x h = (
  content_info_parts (SignedContent h.signed),
  record { identifier = refl; size = h.encodes.1.2 },
  h.encodes.0,
)

-- ---- the imprint

module _ (i : ImprintValue) (root : Digest) (a : AlgorithmValue) (alg : Alg) (named : Bool) (same : a ≡ i.algorithm)
    (by : alg ≡ alg_of root) (names : named ≡ is_this alg (alg_named a)) where
  -- the test says whether the imprint names the algorithm
  names_root : named ≡ true → Names i.algorithm.oid i.algorithm.parameters (alg_of root)
  names_root e =
      subst (λ (x : AlgorithmValue). Names x.oid x.parameters (alg_of root)) same
      (subst (λ (b : Alg). Names a.oid a.parameters b) by
      (named_says a alg (this_says alg (alg_named a) (sym names ∙ e))))

  is_named_so : IsRootImprint i root → named ≡ true
  is_named_so h =
      let its : Names a.oid a.parameters alg =
      subst (λ (b : Alg). Names a.oid a.parameters b) (sym by)
      (subst (λ (x : AlgorithmValue). Names x.oid x.parameters (alg_of root)) (sym same) h.algorithm) in
      names ∙ ap (is_this alg) (named_is a alg its) ∙ alg_itself alg

  pub is_other : named ≡ false → IsTrue false ↔ IsRootImprint i root
  is_other e = (
    λ t. absurd (let z : false ≡ true = t in cc),
    λ h. absurd (let z : true ≡ false = sym (is_named_so h) ∙ e in cc),
  )

  pub is_imprint : (octets : List ℕ) (b : Bool) → named ≡ true → octets ≡ i.digest
      → IsTrue b ↔ (octets_of root ≡ octets) → IsTrue b ↔ IsRootImprint i root
  is_imprint octets b e digest is = (
    λ t. record { algorithm = names_root e; octets = sym digest ∙ sym (is.0 t) },
    λ h. is.1 (sym h.octets ∙ sym digest),
  )

-- ---- of a token that states this

module _ (token : List ℕ) (root : Digest) (x : TstValue) (h : States token x) where
  its_imprint : (m : ℕ) → StampsRoot token root m → IsRootImprint x.imprint root
  its_imprint m k = same_imprint token root k.stated x k.states h k.imprint

  its_moment : (m : ℕ) → StampsRoot token root m → generalized_moment x.time ≡ m
  its_moment m k =
      ap (λ (z : TstValue). generalized_moment z.time) (one_stated token x k.stated h k.states) ∙ k.moment

  another_imprint : StampsAnother token root → IsRootImprint x.imprint root → ⊥
  another_imprint k i = k.other (same_imprint token root x k.stated h k.states i)

  pub found_for : (r : Result ℕ StampFault) → IsMomentFor x root r → IfOk r (StampsRoot token root)
  found_for (Ok m) k = record { stated = x; states = h; imprint = k.0; moment = k.1 }
  found_for (Err e) k = tt

  pub only_for : (r : Result ℕ StampFault) → IsMomentFor x root r → (m : ℕ) → StampsRoot token root m → r ≡ Ok m
  only_for (Ok n) k m s = ap Ok (sym k.1 ∙ its_moment m s)
  only_for (Err e) k m s = absurd (k.0 (its_imprint m s))

  pub malformed_for : (r : Result ℕ StampFault) → IsMomentFor x root r
      → (r ≡ Err TokenMalformed) ↔ IsNoToken token
  malformed_for (Ok n) k = (λ e. absurd (let z = e in cc), λ none. absurd (none x h))
  malformed_for (Err f) k = (λ e. absurd (let z = e in let y = k.1 in cc), λ none. absurd (none x h))

  pub differs_for : (r : Result ℕ StampFault) → IsMomentFor x root r
      → (r ≡ Err ImprintDiffers) ↔ StampsAnother token root
  differs_for (Ok n) k = (λ e. absurd (let z = e in cc), λ o. absurd (another_imprint o k.0))
  differs_for (Err f) k = (λ e. record { stated = x; states = h; other = k.0 }, λ o. ap Err k.1)

  pub no_order_for : (r : Result ℕ StampFault) → IsMomentFor x root r → r ≢ Err Order
  no_order_for (Ok n) k e = absurd (let z = e in cc)
  no_order_for (Err f) k e = absurd (let z = e in let y = k.1 in cc)

  pub sequence_for : (r : Result ℕ StampFault) → IsMomentFor x root r → IfOk r (λ m. IsSequence token)
  sequence_for (Ok n) k = token_sequence token x h
  sequence_for (Err f) k = tt

-- ---- of no token

pub never_stamped : (token : List ℕ) (root : Digest) (m : ℕ) → IsNoToken token → StampsRoot token root m → ⊥
never_stamped token root m none h = none h.stated h.states

pub never_another : (token : List ℕ) (root : Digest) → IsNoToken token → StampsAnother token root → ⊥
never_another token root none h = none h.stated h.states
