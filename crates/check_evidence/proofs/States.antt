-- What a time-stamp states is one thing: its moment, its algorithm, who signed it.
use Rattle.std.proofs.Common.{◌≡◌, ℕ, Bool, true, false, List, Option, Some, None, refl, sym, ap, ◌∙◌, subst}
use Rattle.std.proofs.Common.{unwrap_or, if◌then◌else◌}
use Rattle.der_core.specs.Lists.{only}
use Rattle.der_core.specs.Values.{AlgorithmValue}
use Rattle.der_time.specs.Moments.{generalized_moment}
use Rattle.digests.specs.Named.{is_alg}
use Rattle.digests.specs.declared.algorithm.Alg.{Alg}
use Rattle.digests.proofs.Named.{contents_distinct, alg_says}
use Rattle.cms_types.specs.SignerValue.{SignerValue}
use Rattle.cms_types.specs.SignedDataValue.{SignedDataValue}
use Rattle.check_fit.specs.declared.policy.Policy.{Policy}
use Rattle.check_fit.proofs.Readings.{one_value}
use Rattle.tsp_types.specs.ImprintValue.{ImprintValue}
use Rattle.tsp_types.specs.TstValue.{TstValue, EncodesTst}
use Rattle.evidence_types.specs.StampValue.{StampValue}
use Rattle.check_verdict.specs.Passing.{Terms, Due, IsDue, IsImprint, PassesFor}
use Rattle.check_verdict.proofs.Readings.{one_tst}
use Rattle.check_evidence.specs.Grounds.{of_root}
use Rattle.check_evidence.specs.StampStates.{States, HasTime, ImprintedBy, NamedBy, HasAlg, ShowsAlg, IsUntilBy}

pub some_is : {A : Type 0} (a b : A) (o : Option A) → o ≡ Some a → o ≡ Some b → a ≡ b
some_is {A} a b o e h = ap (λ (x : Option A). unwrap_or x a) (sym e ∙ h)

pub one_stated : (token : List ℕ) (x y : TstValue) → States token x → States token y → x ≡ y
one_stated token x y h k =
    let v : h.signed ≡ k.signed = one_value token h.signed k.signed h.encodes k.encodes in
    let content : h.content ≡ k.content = some_is h.content k.content k.signed.encapsulated.content
    (subst (λ (w : SignedDataValue). w.encapsulated.content ≡ Some h.content) v h.present) k.present in
    one_tst k.content x y (subst (λ (c : List ℕ). EncodesTst c x) content h.encodes_stamp) k.encodes_stamp

pub one_time : (s : StampValue) (m n : ℕ) → HasTime s m → HasTime s n → m ≡ n
one_time s m n h k =
    sym h.2 ∙ ap (λ (x : TstValue). generalized_moment x.time) (one_stated s.stamp h.0 k.0 h.1 k.1) ∙ k.2

one_imprint : (s : StampValue) (a b : Alg) → ImprintedBy s a → ImprintedBy s b → a ≡ b
one_imprint s a b h k = contents_distinct a b (sym h.2.contents
    ∙ ap (λ (x : TstValue). x.imprint.algorithm.oid) (one_stated s.stamp h.0 k.0 h.1 k.1) ∙ k.2.contents)

one_named : (named : Option AlgorithmValue) (s : StampValue) (a b : Alg) → NamedBy named s a → NamedBy named s b
    → a ≡ b
one_named None s a b h k = one_imprint s a b h k
one_named (Some named) s a b h k = contents_distinct a b (sym h.contents ∙ k.contents)

pub one_alg : (s : StampValue) (a b : Alg) → HasAlg s a → HasAlg s b → a ≡ b
one_alg s a b h k = one_named s.algorithm s a b h k

-- an algorithm that it has can be asked for
pub shows_alg : (named : Option AlgorithmValue) (s : StampValue) (alg : Alg) → NamedBy named s alg → ShowsAlg named s
shows_alg None s alg h = (h.0, h.1)
shows_alg (Some named) s alg h = tt

pub one_until : (next : Option StampValue) (at : Option ℕ) (s : StampValue) (m n : ℕ) → IsUntilBy next at s m
    → IsUntilBy next at s n → m ≡ n
one_until (Some next) at s m n h k = one_time next m n h k
one_until None (Some last) s m n h k = h ∙ sym k
one_until None None s m n h k = one_time s m n h k

-- ---- tokens that pass

-- the imprint's algorithm is the one by which the root is due
pub imprint_alg : (policy : Policy) (alg : Alg) (root : List ℕ) (imprint : ImprintValue)
    (i : IsImprint policy imprint (of_root alg root)) → i.alg ≡ alg
imprint_alg policy alg root imprint i = go (is_alg i.alg alg) refl i.digest
  where
    go : (b : Bool) → is_alg i.alg alg ≡ b → IsDue (if b then Some root else None) imprint.digest → i.alg ≡ alg
    go true e d = alg_says i.alg alg e
    go false e d = absurd d

-- and it is that root
pub imprint_root : (policy : Policy) (alg : Alg) (root : List ℕ) (imprint : ImprintValue)
    → IsImprint policy imprint (of_root alg root) → imprint.digest ≡ root
imprint_root policy alg root imprint i = go (is_alg i.alg alg) i.digest
  where
    go : (b : Bool) → IsDue (if b then Some root else None) imprint.digest → imprint.digest ≡ root
    go true d = d
    go false d = absurd d

module _ (t : Terms) (token : List ℕ) (due due' : Due) (m m' : ℕ) (p : PassesFor t token due m)
    (q : PassesFor t token due' m') where
  same_data : p.signed ≡ q.signed
  same_data = one_value token p.signed q.signed p.encodes q.encodes

  pub same_signer : p.signer ≡ q.signer
  same_signer = some_is p.signer q.signer (only q.signed.signers)
      (subst (λ (v : SignedDataValue). only v.signers ≡ Some p.signer) same_data
      (ap (λ (l : List SignerValue). only l) p.one_signer))
      (ap (λ (l : List SignerValue). only l) q.one_signer)

  pub same_attributes : p.attributes ≡ q.attributes
  same_attributes = some_is p.attributes q.attributes q.signer.signed_attributes
      (subst (λ (s : SignerValue). s.signed_attributes ≡ Some p.attributes) same_signer p.has) q.has

  pub same_alg : p.fits.alg ≡ q.fits.alg
  same_alg = contents_distinct p.fits.alg q.fits.alg (sym p.fits.named.contents
      ∙ ap (λ (s : SignerValue). s.digest_algorithm.oid) same_signer ∙ q.fits.named.contents)

-- what a token states that passes
pub passing_states : (t : Terms) (token : List ℕ) (due : Due) (m : ℕ) (p : PassesFor t token due m)
    → States token p.stamp
passing_states t token due m p = record {
  signed = p.signed;
  encodes = p.encodes;
  econtent_type = p.econtent_type;
  content = p.content;
  present = p.present;
  encodes_stamp = p.encodes_stamp;
}

-- it passes on one root
pub one_imprinted : (t : Terms) (token : List ℕ) (a b : Alg) (x y : List ℕ) (m n : ℕ)
    → PassesFor t token (of_root a x) m → PassesFor t token (of_root b y) n → x ≡ y
one_imprinted t token a b x y m n p q =
    sym (imprint_root t.policy a x p.stamp.imprint p.imprint)
    ∙ ap (λ (s : TstValue). s.imprint.digest)
    (one_stated token p.stamp q.stamp (passing_states t token (of_root a x) m p)
    (passing_states t token (of_root b y) n q))
    ∙ imprint_root t.policy b y q.stamp.imprint q.imprint

-- a token passes with the moment that it states
pub passing_time : (t : Terms) (s : StampValue) (due : Due) (m : ℕ) → PassesFor t s.stamp due m → HasTime s m
passing_time t s due m p = (p.stamp, passing_states t s.stamp due m p, p.moment)
