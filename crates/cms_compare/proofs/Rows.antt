-- The worked rows of comparing, by computing.
use Rattle.std.proofs.Common.{◌≡◌, ℕ, List, [], ◌∷◌, Some, None, refl, ap, get_or, Option, lit<}
use Rattle.der_core.specs.Element.{len}
use Rattle.digests.specs.declared.algorithm.Alg.TheVariants.{Sha256}
use Rattle.check_fit.specs.Fitting.{Fits, signer_claim}
use Rattle.check_fit.specs.FittingRows.{id_data, of_data, digest_by}
use Rattle.check_fit.proofs.FitLaw.{fit_from}
use Rattle.check_fit.proofs.Fitted.{fitted}
use Rattle.cms_compare.specs.Comparing.{sha1_too, SignAlike}
use Rattle.cms_compare.specs.Rows.{plain, another, ComparingRows}

alike : (content : List ℕ) → SignAlike (plain content) (another content)
alike content = record { alg = refl; octets = refl }

fits : (content : List ℕ) → Fits sha1_too content id_data (plain content)
fits content = fitted _ _ _ _ (of_data ∷ digest_by Sha256 content ∷ []) Sha256
    refl refl (lit< tt) (record { contents = refl; plain = tt }) refl refl

fits' : (content : List ℕ) → Fits sha1_too content id_data (another content)
fits' content = fitted _ _ _ _ (of_data ∷ digest_by Sha256 content ∷ []) Sha256
    refl refl (lit< tt) (record { contents = refl; plain = refl }) refl refl

-- the length octet of a SET
abbrev size : Option (List ℕ) → ℕ
size None = 0
size (Some xs) = get_or xs 1 0

pub rows : (content : List ℕ) → ComparingRows content
unfolding len signer_claim
rows content = record {
  alike = alike content;
  same = (alike content, refl);
  algorithm = λ h. let z = h.alg in absurd cc;
  attribute = λ h. let z : 26 ≡ 56 = ap size h.octets in absurd cc;
  first = rw (fit_from sha1_too content id_data (plain content) (fits content)) refl;
  second = rw (fit_from sha1_too content id_data (another content) (fits' content)) refl;
  none = refl;
  beyond = refl;
  number_first = refl;
  content_first = refl;
  no_attributes = refl;
}
