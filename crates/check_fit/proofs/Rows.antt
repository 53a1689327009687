-- The worked rows of signers that fit and of signers that don't.
use Rattle.std.proofs.Common.{◌≡◌, ◌≢◌, ℕ, ◌<◌, ◌^◌, Bool, true, false, cond, List, [], ◌∷◌, ◌++◌, length, get_or}
use Rattle.std.proofs.Common.{Option, Some, Result, Ok, Err, refl, sym, ap}
use Rattle.std.proofs.Common.{◌∙◌, lit<, arith}
use Rattle.der_core.specs.Element.{el, len}
use Rattle.der_core.specs.Hex.{hex}
use Rattle.der_core.proofs.Lengths.{heads, len_same}
use Rattle.digests.specs.Messages.{digest_of}
use Rattle.digests.specs.declared.algorithm.Alg.TheVariants.{Sha1, Sha256, Sha512, Sha512_256}
use Rattle.digests.proofs.Lengths.{digest_length}
use Rattle.digests.proofs.Rows.{no_octet_rows, abc_rows}
use Rattle.cms_types.specs.SignerValue.{SignerValue}
use Rattle.check_fit.specs.declared.policy.Policy.{Policy}
use Rattle.check_fit.specs.declared.rules.SignerRule.{SignerRule}
use Rattle.check_fit.specs.declared.rules.SignerRule.TheVariants as rule
use Rattle.check_fit.specs.Attributes.{is_element_of}
use Rattle.check_fit.specs.Fitting.{FailsFirst, content_type_fits, stated_digest, signer_claim}
use Rattle.check_fit.specs.FittingRows.{strict, id_data, id_signed_data, of_data, signing_time, content_type, digest_by}
use Rattle.check_fit.specs.FittingRows.{message_digest, by_sha256, abc_digest}
use Rattle.check_fit.specs.FittingRows.{abc_digest_512_256, FittingRows, Fails, UnfitRows, AbcRows}
use Rattle.check_fit.proofs.FitLaw.{element_is, fits_not_fails}
use Rattle.check_fit.proofs.Fitted.{fitted}

pub fitting_rows : (content : List ℕ) → FittingRows content
fitting_rows content = record {
  plain = fitted _ _ _ _ (of_data ∷ digest_by Sha256 content ∷ []) Sha256
      refl refl (lit< tt) (record { contents = refl; plain = tt }) refl refl;
  among_others = fitted _ _ _ _ (signing_time ∷ digest_by Sha256 content ∷ of_data ∷ []) Sha256
      refl refl (lit< tt) (record { contents = refl; plain = tt }) refl refl;
  with_null = fitted _ _ _ _ (of_data ∷ digest_by Sha512 content ∷ []) Sha512
      refl refl (lit< tt) (record { contents = refl; plain = refl }) refl refl;
  by_sha512_256 = fitted _ _ _ _ (of_data ∷ digest_by Sha512_256 content ∷ []) Sha512_256
      refl refl (lit< tt) (record { contents = refl; plain = tt }) refl refl;
  by_sha1 = fitted _ _ _ _ (of_data ∷ digest_by Sha1 content ∷ []) Sha1
      refl refl (lit< tt) (record { contents = refl; plain = tt }) refl refl;
  of_another_type = fitted _ _ _ _ (content_type (el 0x06 id_signed_data ∷ []) ∷ digest_by Sha256 content ∷ []) Sha256
      refl refl (lit< tt) (record { contents = refl; plain = tt }) refl refl;
}

-- ---- signers that don't fit

fails : (policy : Policy) (content : List ℕ) (s : SignerValue) (e : SignerRule) → FailsFirst policy content id_data s e
    → Fails policy content s e
fails policy content s e is = (is, (λ fits. fits_not_fails policy content id_data s e fits is))

-- one of S1 to S5 fails
refused : (policy : Policy) (content : List ℕ) (s : SignerValue) (e : SignerRule)
    → signer_claim policy id_data s ≡ Err e → Fails policy content s e
refused policy content s e is = fails policy content s e (rw is refl)

-- S6 fails
el_inside : (c d : List ℕ) → length c < 2 ^ 32 → length d < 2 ^ 32 → el 0x04 c ≡ el 0x04 d → c ≡ d
el_inside c d small small' e =
    let p = heads 4 4 (len (length c) ++ c) (len (length d) ++ d) e in
    (len_same (length c) (length d) c d (omega (arith, small)) (omega (arith, small')) p.1).1

abbrev answer : Bool → Result (Unit {0}) SignerRule
answer b = cond b (Ok tt) (Err rule.DigestDiffers)

other_digest : (content digest : List ℕ) → length digest < 2 ^ 32 → digest ≢ digest_of Sha256 content
    → Fails strict content (by_sha256 (of_data ∷ message_digest (el 0x04 digest ∷ []) ∷ [])) rule.DigestDiffers
unfolding signer_claim content_type_fits stated_digest len
other_digest content digest small differs = go (is_element_of 0x04 (digest_of Sha256 content) (el 0x04 digest)) refl
  where
    s : SignerValue
    s = by_sha256 (of_data ∷ message_digest (el 0x04 digest ∷ []) ∷ [])

    small' : length (digest_of Sha256 content) < 2 ^ 32
    small' = omega (arith, digest_length Sha256 content)

    go : (b : Bool) → is_element_of 0x04 (digest_of Sha256 content) (el 0x04 digest) ≡ b
        → Fails strict content s rule.DigestDiffers
    go true e = absurd (differs (el_inside digest (digest_of Sha256 content) small small'
        (element_is 0x04 (digest_of Sha256 content) (el 0x04 digest) e).1))
    go false e = fails strict content s rule.DigestDiffers (ap answer e)

pub unfit_rows : (content digest : List ℕ) → UnfitRows content digest
unfolding signer_claim content_type_fits stated_digest len
unfit_rows content digest = record {
  bare = refused strict content _ rule.NoSignedAttrs refl;
  no_type = refused strict content _ rule.ContentTypeAttr refl;
  type_twice = refused strict content _ rule.ContentTypeAttr refl;
  two_types = refused strict content _ rule.ContentTypeAttr refl;
  empty_type = refused strict content _ rule.ContentTypeAttr refl;
  type_octets = refused strict content _ rule.ContentTypeAttr refl;
  other_type = refused strict content _ rule.ContentTypeDiffers refl;
  longer_type = refused strict content _ rule.ContentTypeDiffers refl;
  no_digest = refused strict content _ rule.DigestAttr refl;
  digest_twice = refused strict content _ rule.DigestAttr refl;
  two_digests = refused strict content _ rule.DigestAttr refl;
  digest_integer = refused strict content _ rule.DigestAttr refl;
  unknown = refused strict content _ rule.DigestAlgorithm refl;
  forbidden = refused strict content _ rule.DigestAlgorithm refl;
  first_of_two = refused strict content _ rule.DigestAttr refl;
  other_digest = λ small differs. other_digest content digest small differs;
}

-- ---- a content that is known

other_octets : (a b : ℕ) → a ≡ 0xba → b ≡ 0xe3 → a ≡ b → ⊥
other_octets a b p q e = omega (arith, p, q, e)

pub abc_fit_rows : AbcRows
abc_fit_rows = record {
  abc = fitted _ _ _ _ (of_data ∷ message_digest (el 0x04 abc_digest ∷ []) ∷ []) Sha256
      refl refl (lit< tt) (record { contents = refl; plain = tt }) refl (ap stated (sym abc_rows.sha256));
  abc_512_256 = fitted _ _ _ _ (of_data ∷ message_digest (el 0x04 abc_digest_512_256 ∷ []) ∷ []) Sha512_256
      refl refl (lit< tt) (record { contents = refl; plain = tt }) refl (ap stated (sym abc_rows.sha512_256));
  nothing = other_digest [] abc_digest (lit< tt) (λ e. absurd (not_that (e ∙ no_octet_rows.sha256)));
}
  where
    stated : List ℕ → Option (List ℕ)
    stated d = Some (el 0x04 d)

    not_that : abc_digest ≡ hex "e3b0c44298fc1c149afbf4c8996fb92427ae41e4649b934ca495991b7852b855" → ⊥
    not_that e = other_octets _ _ refl refl (ap (λ (l : List ℕ). get_or l 0 0) e)
