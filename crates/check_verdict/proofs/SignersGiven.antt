-- The signer of each number is accepted or refused.
use Rattle.std.proofs.Common.{◌≡◌, ℕ, Bool, true, false, cond, List, length, Option, Some, None, Result, Ok, Err, refl}
use Rattle.std.proofs.Common.{ap, ◌∙◌, inl, inr, ◌⊎◌}
use Rattle.std.specs.Prelude.{is_some, ◌==◌}
use Rattle.der_core.specs.Element.{IsBytes}
use Rattle.der_core.specs.Results.{◌>>=◌}
use Rattle.der_lists.specs.Numbers.{of_number}
use Rattle.cms_types.specs.SignerValue.{SignerValue}
use Rattle.cms_types.specs.SignedDataValue.{SignedDataValue, EncodesSignedData}
use Rattle.cms_types.specs.declared.fault.CmsFault.{CmsFault}
use Rattle.check_fit.specs.declared.rules.FileRule.TheVariants as rule
use Rattle.check_fit.specs.declared.rules.Refused.{Refused}
use Rattle.check_fit.specs.declared.rules.Refused.TheVariants as refused
use Rattle.check_fit.specs.FileFitting.{IsReading, placed, signer_rules}
use Rattle.check_fit.proofs.Octets.{SignerOctets, SignedOctets, signed_octets}
use Rattle.check_fit.proofs.Readings.{reading_of}
use Rattle.check_verdict.specs.Passing.{Terms}
use Rattle.check_verdict.specs.Verdicts.{IsContent}
use Rattle.check_verdict.specs.OneSigner.{SignerYes, SignerRefuses, SignersAreJudged}
use Rattle.check_verdict.proofs.FilesGiven.{member, judged_signer}
use Rattle.check_verdict.proofs.OneSigner.{among, has_number, signer_refusal}

abbrev okay : SignedDataValue → Result SignedDataValue Refused
okay v = Ok v

abbrev refusal : Refused → Result SignedDataValue Refused
refusal r = Err r

abbrev Judged : Terms → (file : List ℕ) → (handed : Option (List ℕ)) → (number : ℕ) → Type 0
Judged t file handed number =
    ((m : ℕ) × SignerYes t file handed number m) ⊎ ((r : Refused) × SignerRefuses t file handed number r)

module _ (t : Terms) (file : List ℕ) (handed : Option (List ℕ)) (number : ℕ) (v : SignedDataValue) (content : List ℕ)
    (s : SignerValue) where
  by_signer : EncodesSignedData file v → IsContent v.encapsulated.content handed content
      → of_number v.signers number ≡ Some s → SignedOctets v
      → Judged t file handed number
  by_signer encodes is there octets =
      elim (judged_signer t content v.encapsulated.content_type s
      (member SignerOctets v.signers s octets.signers (among v.signers number s there))) [
        | inl good ↦ inl (
          good.0,
          record {
            signed = v;
            encodes = encodes;
            content = content;
            is_content = is;
            accepts = record { signer = s; is = there; has = good.1 };
          },
        )
        | inr bad ↦ elim bad [
          | inl fails ↦ inr (
            refused.Signer number fails.0,
            (v, encodes, content, is, record { signer = s; is = there; has = (refl, fails.1) }),
          )
          | inr fails ↦ inr (
            refused.Token number 1 fails.0,
            (v, encodes, content, is, record { signer = s; is = there; has = (refl, fails.1) }),
          )
        ]
      ]

signer_of : (v w : SignedDataValue) (o : Option SignerValue)
    → cond (is_some o) (okay v) (refusal (refused.File rule.NoSuchSigner)) ≡ Ok w
    → (s : SignerValue) × (o ≡ Some s)
signer_of v w None e = absurd cc
signer_of v w (Some s) e = (s, refl)

-- what none of C1 to C6 refuses has one content and a signer of this number
placed_with : (v w : SignedDataValue) (own handed : Option (List ℕ)) (number : ℕ)
    → (placed v own (is_some handed) >>= has_number number) ≡ Ok w
    → (content : List ℕ) × IsContent own handed content × (s : SignerValue) × (of_number v.signers number ≡ Some s)
placed_with v w None None number e = absurd cc
placed_with v w None (Some x) number e = let s = signer_of v w (of_number v.signers number) e in (x, refl, s.0, s.1)
placed_with v w (Some y) None number e = let s = signer_of v w (of_number v.signers number) e in (y, refl, s.0, s.1)
placed_with v w (Some y) (Some x) number e = absurd cc

by_rules : (t : Terms) (file : List ℕ) (handed : Option (List ℕ)) (number : ℕ) → IsBytes file
    → (reading : Result SignedDataValue CmsFault)
    → IsReading file reading → (r : Result SignedDataValue Refused) → signer_rules number reading (is_some handed) ≡ r
    → Judged t file handed number
by_rules t file handed number fits reading reads (Err failed) e =
    (let f = signer_refusal file number reading (is_some handed) failed reads e in
    inr (refused.File f.0, (reading, reads, e ∙ ap refusal f.1)))
by_rules t file handed number fits (Err f) reads (Ok w) e = absurd cc
by_rules t file handed number fits (Ok v) reads (Ok w) e = go (length v.signers == 0) refl e
  where
    go : (b : Bool) → (length v.signers == 0) ≡ b
        → (cond b (refusal (refused.File rule.NoSigner)) (placed v v.encapsulated.content (is_some handed))
        >>= has_number number) ≡ Ok w → Judged t file handed number
    go true z k = absurd cc
    go false z k =
        let c = placed_with v w v.encapsulated.content handed number k in
        by_signer t file handed number v c.0 c.2 reads c.1 c.3 (signed_octets file v reads fits)

pub signers_are_judged : SignersAreJudged
signers_are_judged t file handed number fits = let r = reading_of file fits in
    by_rules t file handed number fits r.0 r.1 (signer_rules number r.0 (is_some handed)) refl
