-- What a token states, from what its octets and its content read as, step by step.
use Rattle.std.proofs.Common.{◌≡◌, ℕ, List, [], Option, Some, Result, Ok, Err, refl, sym, ap, subst, ◌∙◌}
use Rattle.std.specs.Prelude.{unwrap_or}
use Rattle.der_core.specs.declared.fault.Fault.{Fault}
use Rattle.der_core.specs.Element.{IsBytes}
use Rattle.der_core.specs.Results.{◌>>=◌, or_as}
use Rattle.der_time.specs.Moments.{generalized_moment}
use Rattle.digests.specs.declared.algorithm.Alg.{Alg}
use Rattle.cms_types.specs.SignerValue.{SignerValue}
use Rattle.cms_types.specs.SignedDataValue.{SignedDataValue}
use Rattle.cms_types.specs.declared.fault.CmsFault.{CmsFault}
use Rattle.check_fit.specs.declared.policy.Policy.{Policy}
use Rattle.check_fit.specs.declared.rules.TokenRule.{TokenRule}
use Rattle.check_fit.specs.declared.rules.TokenRule.TheVariants as rule
use Rattle.check_fit.specs.FileFitting.{IsReading}
use Rattle.tsp_types.specs.TstValue.{TstValue, EncodesTst}
use Rattle.check_verdict.specs.Alone.{any_fault}
use Rattle.check_verdict.specs.TokenRules.{IsTstReading, Statement, held, signed_by, imprint_alg, stated, IsStatement}
use Rattle.check_verdict.proofs.Claims.{held_says}
use Rattle.check_verdict.proofs.Tokens.{states}
use Rattle.check_verdict.proofs.TokensGiven.{looks_at}

abbrev statement_ok : Statement → Result Statement TokenRule
statement_ok s = Ok s

module _ (policy : Policy) (token : List ℕ) where
  -- K1
  pub unread : (f : CmsFault) → IsReading token (Err f) → IsStatement policy token (Err (rule.Malformed f))
  unread f is = (
    Err f,
    Err any_fault,
    record { is_signed = is; is_stamp = λ v content e present. absurd (let z = e in cc) },
    refl,
  )

  module _ (v : SignedDataValue) (is : IsReading token (Ok v)) where
    -- K2 and K3
    pub not_held : IsBytes token → (failed : TokenRule) → held v ≡ Err failed
        → IsStatement policy token (Err failed)
    not_held octets failed h = let l = looks_at token v octets is in (
      Ok v,
      l.0,
      l.1,
      sym (ap (λ (r : Result (List ℕ) TokenRule). r >>= λ content. signed_by policy v content
          >>= λ s. or_as rule.TstMalformed l.0
          >>= states policy s) h),
    )

    -- K4 and K5
    pub not_signed : IsBytes token → (content : List ℕ) → held v ≡ Ok content → (failed : TokenRule)
        → signed_by policy v content ≡ Err failed
        → IsStatement policy token (Err failed)
    not_signed octets content h failed k =
        let l = looks_at token v octets is in
        let step :
        (held v >>= λ b. signed_by policy v b >>= λ s. or_as rule.TstMalformed l.0 >>= states policy s)
        ≡ (signed_by policy v content >>= λ s. or_as rule.TstMalformed l.0 >>= states policy s)
        = ap (λ (r : Result (List ℕ) TokenRule). r >>= λ b. signed_by policy v b >>= λ s. or_as rule.TstMalformed l.0
        >>= states policy s) h in (
          Ok v,
          l.0,
          l.1,
          sym (step ∙ ap (λ (r : Result SignerValue TokenRule). r >>= λ s. or_as rule.TstMalformed l.0
              >>= states policy s) k),
        )

    -- K6 to K8
    pub stamp_read : (content : List ℕ) → held v ≡ Ok content → (s : SignerValue) → signed_by policy v content ≡ Ok s
        → (stamp : Result TstValue Fault) → IsTstReading content stamp
        → IsStatement policy token (or_as rule.TstMalformed stamp >>= states policy s)
    stamp_read content h s k stamp reads =
        let step :
        (held v >>= λ b. signed_by policy v b >>= λ x. or_as rule.TstMalformed stamp >>= states policy x)
        ≡ (signed_by policy v content >>= λ x. or_as rule.TstMalformed stamp >>= states policy x)
        = ap (λ (r : Result (List ℕ) TokenRule). r >>= λ b. signed_by policy v b >>= λ x. or_as rule.TstMalformed stamp
        >>= states policy x) h in (
          Ok v,
          stamp,
          record {
            is_signed = is;
            is_stamp = λ w b e present.
                subst (λ (octets : List ℕ). IsTstReading octets stamp) (one_content w b e present) reads;
          },
          sym (step ∙ ap (λ (r : Result SignerValue TokenRule). r >>= λ x. or_as rule.TstMalformed stamp
              >>= states policy x) k),
        )
      where
        okay : SignedDataValue → Result SignedDataValue CmsFault
        okay x = Ok x

        same_value : (x y : SignedDataValue) → okay x ≡ okay y → x ≡ y
        same_value x y e = cc

        some_content : (a b : List ℕ) (o : Option (List ℕ)) → o ≡ Some a → o ≡ Some b → a ≡ b
        some_content a b o e f = let z = sym e ∙ f in cc

        one_content : (w : SignedDataValue) (b : List ℕ) → okay v ≡ okay w → w.encapsulated.content ≡ Some b
            → content ≡ b
        one_content w b e present = some_content content b v.encapsulated.content (held_says v content h).1
            (ap (λ (x : SignedDataValue). x.encapsulated.content) (same_value v w e) ∙ present)

    -- K7 and K8
    pub no_imprint : (content : List ℕ) → held v ≡ Ok content → (s : SignerValue) → signed_by policy v content ≡ Ok s
        → (x : TstValue)
        → EncodesTst content x → (failed : TokenRule) → imprint_alg policy x ≡ Err failed
        → IsStatement policy token (Err failed)
    no_imprint content h s k x encodes failed e =
        subst (λ (r : Result Statement TokenRule). IsStatement policy token r)
        (ap (λ (r : Result Alg TokenRule). r >>= λ alg. statement_ok (stated s x alg)) e)
        (stamp_read content h s k (Ok x) encodes)

    -- none of K1 to K8 fails
    pub stating : (content : List ℕ) → held v ≡ Ok content → (s : SignerValue) → signed_by policy v content ≡ Ok s
        → (x : TstValue)
        → EncodesTst content x → (alg : Alg) → imprint_alg policy x ≡ Ok alg
        → (m : ℕ) → m ≡ generalized_moment x.time → (imprint : List ℕ) → imprint ≡ x.imprint.digest
        → IsStatement policy token (Ok (record {
          claim = record { signer = s; attributes = unwrap_or s.signed_attributes []; moment = m };
          alg = alg;
          imprint = imprint;
        }))
    stating content h s k x encodes alg e m is imprint same =
        rw (is, same) (subst (λ (r : Result Statement TokenRule). IsStatement policy token r)
        (ap (λ (r : Result Alg TokenRule). r >>= λ a. statement_ok (stated s x a)) e)
        (stamp_read content h s k (Ok x) encodes))
