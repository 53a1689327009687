-- One rule fails first.
use Rattle.std.proofs.Common.{◌≡◌, ℕ, ◌<◌, List, sym, subst, ◌∙◌, arith, inl, inr}
use Rattle.std.proofs.lemmas.Bool.{cases_lt}
use Rattle.der_core.specs.Grammar.{file}
use Rattle.der_grammar.specs.Table.{content_info}
use Rattle.der_core.proofs.Refuted.{refuted}
use Rattle.der_grammar.proofs.Clearness.{content_info_clear}
use Rattle.cms_types.specs.SignerValue.{SignerValue}
use Rattle.cms_types.specs.SignedDataValue.{SignedDataValue, SignedContent, OtherContent, EncodesSignedData}
use Rattle.cms_types.specs.declared.fault.CmsFault.TheVariants as cms
use Rattle.cms_types.proofs.SignedDataReaders.{content_encodes, content_unique}
use Rattle.tsp_types.specs.TstValue.{TstValue}
use Rattle.tsp_requester.specs.declared.fault.AttachFault.{AttachFault}
use Rattle.tsp_requester.specs.declared.fault.AttachFault.TheVariants as rule
use Rattle.tsp_requester.specs.Attaching.{IsToken, IsImprintOf, HasSigner, IsStamped, Refuses}
use Rattle.tsp_requester.specs.AttachingLaws.{rule_number}
use Rattle.tsp_requester.proofs.Answered.{never_other, no_signer, of_value, same_signer, same_stamp}

-- ---- what a rule behind another one found

record Valued (bytes : List ℕ) : Type 0 where
  value : SignedDataValue
  encodes : EncodesSignedData bytes value

record Signed (bytes : List ℕ) (number : ℕ) : Type 0 where
  value : SignedDataValue
  signer : SignerValue
  has : HasSigner bytes number value signer

record Stamping (token : List ℕ) : Type 0 where
  stamp : TstValue
  is_token : IsToken token stamp

record Stamped (bytes : List ℕ) (number : ℕ) (token : List ℕ) : Type 0 where
  value : SignedDataValue
  signer : SignerValue
  stamp : TstValue
  stamped : IsStamped bytes number token value signer stamp

value_of : (bytes : List ℕ) (number : ℕ) (token : List ℕ) (g : AttachFault) → Refuses bytes number token g
    → 1 < rule_number g → Valued bytes
value_of bytes number token (rule.Malformed f) r h = absurd (omega (arith, h))
value_of bytes number token rule.NoSuchSigner r h = record { value = r.value; encodes = r.encodes }
value_of bytes number token rule.TokenMalformed r h = record { value = r.value; encodes = r.has.encodes }
value_of bytes number token rule.ImprintDiffers r h = record { value = r.value; encodes = r.has.encodes }
value_of bytes number token rule.TooLong r h = record { value = r.value; encodes = r.stamped.has.encodes }
value_of bytes number token rule.WriteFailed r h = absurd r

signer_of : (bytes : List ℕ) (number : ℕ) (token : List ℕ) (g : AttachFault) → Refuses bytes number token g
    → 2 < rule_number g → Signed bytes number
signer_of bytes number token (rule.Malformed f) r h = absurd (omega (arith, h))
signer_of bytes number token rule.NoSuchSigner r h = absurd (omega (arith, h))
signer_of bytes number token rule.TokenMalformed r h = record { value = r.value; signer = r.signer; has = r.has }
signer_of bytes number token rule.ImprintDiffers r h = record { value = r.value; signer = r.signer; has = r.has }
signer_of bytes number token rule.TooLong r h = record { value = r.value; signer = r.signer; has = r.stamped.has }
signer_of bytes number token rule.WriteFailed r h = absurd r

stamp_of : (bytes : List ℕ) (number : ℕ) (token : List ℕ) (g : AttachFault) → Refuses bytes number token g
    → 3 < rule_number g → Stamping token
stamp_of bytes number token (rule.Malformed f) r h = absurd (omega (arith, h))
stamp_of bytes number token rule.NoSuchSigner r h = absurd (omega (arith, h))
stamp_of bytes number token rule.TokenMalformed r h = absurd (omega (arith, h))
stamp_of bytes number token rule.ImprintDiffers r h = record { stamp = r.stamp; is_token = r.is_token }
stamp_of bytes number token rule.TooLong r h = record { stamp = r.stamp; is_token = r.stamped.is_token }
stamp_of bytes number token rule.WriteFailed r h = absurd r

stamped_of : (bytes : List ℕ) (number : ℕ) (token : List ℕ) (g : AttachFault) → Refuses bytes number token g
    → 4 < rule_number g → Stamped bytes number token
stamped_of bytes number token (rule.Malformed f) r h = absurd (omega (arith, h))
stamped_of bytes number token rule.NoSuchSigner r h = absurd (omega (arith, h))
stamped_of bytes number token rule.TokenMalformed r h = absurd (omega (arith, h))
stamped_of bytes number token rule.ImprintDiffers r h = absurd (omega (arith, h))
stamped_of bytes number token rule.TooLong r h =
    record { value = r.value; signer = r.signer; stamp = r.stamp; stamped = r.stamped }
stamped_of bytes number token rule.WriteFailed r h = absurd r

none_behind : (bytes : List ℕ) (number : ℕ) (token : List ℕ) (g : AttachFault) → Refuses bytes number token g
    → 5 < rule_number g → ⊥
none_behind bytes number token (rule.Malformed f) r h = omega (arith, h)
none_behind bytes number token rule.NoSuchSigner r h = omega (arith, h)
none_behind bytes number token rule.TokenMalformed r h = omega (arith, h)
none_behind bytes number token rule.ImprintDiffers r h = omega (arith, h)
none_behind bytes number token rule.TooLong r h = omega (arith, h)
none_behind bytes number token rule.WriteFailed r h = r

-- ---- so no rule fails first behind one that does

none_later : (bytes : List ℕ) (number : ℕ) (token : List ℕ) (f g : AttachFault) → Refuses bytes number token f
    → Refuses bytes number token g
    → rule_number f < rule_number g → ⊥
none_later bytes number token (rule.Malformed (cms.Malformed f)) g r q h =
    let o = value_of bytes number token g q h in refuted (file content_info) bytes f content_info_clear
    (content_encodes bytes (SignedContent o.value) o.encodes) r
none_later bytes number token (rule.Malformed cms.NotSignedData) g r q h =
    let o = value_of bytes number token g q h in
    never_other o.value r.0 r.1 (content_unique bytes (SignedContent o.value) (OtherContent r.0 r.1) o.encodes r.2)
none_later bytes number token (rule.Malformed cms.OutOfMemory) g r q h = r
none_later bytes number token rule.NoSuchSigner g r q h =
    let o = signer_of bytes number token g q h in
    no_signer o.signer (sym o.has.signer ∙ of_value bytes number o.value r.value o.has.encodes r.encodes ∙ r.none)
none_later bytes number token rule.TokenMalformed g r q h =
    let o = stamp_of bytes number token g q h in r.none o.stamp o.is_token
none_later bytes number token rule.ImprintDiffers g r q h =
    let o = stamped_of bytes number token g q h in
    r.differs (subst (λ (s : SignerValue). IsImprintOf r.stamp.imprint s.signature)
    (same_signer bytes number o.value r.value o.signer r.signer o.stamped.has r.has)
    (subst (λ (x : TstValue). IsImprintOf x.imprint o.signer.signature)
    (same_stamp token o.stamp r.stamp o.stamped.is_token r.is_token) o.stamped.imprint))
none_later bytes number token rule.TooLong g r q h = none_behind bytes number token g q h
none_later bytes number token rule.WriteFailed g r q h = r

pub one_rule : (bytes : List ℕ) (number : ℕ) (token : List ℕ) (f g : AttachFault) → Refuses bytes number token f
    → Refuses bytes number token g
    → rule_number f ≡ rule_number g
one_rule bytes number token f g r q = elim (cases_lt (rule_number f) (rule_number g)) [
  | inl a ↦ absurd (none_later bytes number token f g r q a)
  | inr b ↦ elim (cases_lt (rule_number g) (rule_number f)) [
    | inl a ↦ absurd (none_later bytes number token g f q r a)
    | inr d ↦ omega arith
  ]
]
