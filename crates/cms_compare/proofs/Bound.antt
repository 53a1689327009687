-- Signers that fit and sign alike state one digest of their contents.
use Rattle.std.proofs.Common.{◌≡◌, ℕ, zero, suc, List, [], ◌∷◌, Option, Some, None, refl, sym, ap, subst, ◌∙◌}
use Rattle.std.proofs.Common.{append-nil}
use Rattle.std.specs.Prelude.{IfSome, slice_get, option_map}
use Rattle.std.specs.List.{AllByRecursion}
use Rattle.der_core.specs.Element.{el, IsElement}
use Rattle.der_core.specs.Reading.{spot}
use Rattle.der_core.proofs.Lengths.{el_same}
use Rattle.der_core.proofs.ReadLengths.{ok_is}
use Rattle.der_lists.specs.Numbers.{of_number}
use Rattle.digests.specs.declared.algorithm.Alg.{Alg}
use Rattle.digests.specs.Messages.{digest_of}
use Rattle.digests.specs.Named.{alg_named}
use Rattle.digests.proofs.Named.{named_is}
use Rattle.cms_types.specs.AttributeValue.{AttributeValue, GoodSignedAttributes, attributes_parts, signed_octets}
use Rattle.cms_types.specs.AttributeReading.{signed_attributes_in}
use Rattle.cms_types.specs.SignerValue.{SignerValue, GoodSigner}
use Rattle.cms_types.proofs.AttributeReaders.{signed_attributes_body}
use Rattle.check_fit.specs.Attributes.{single_value}
use Rattle.check_fit.specs.Fitting.{id_message_digest}
use Rattle.check_fit.proofs.FitLaw.{small}
use Rattle.cms_compare.specs.Comparing.{IsSignedBy}
use Rattle.cms_compare.specs.Laws.{SignaturesBindContents}

-- elements of one identifier are the same only if their contents are
same_contents : (t : ℕ) (c c' : List ℕ) → IsElement t c → IsElement t c' → el t c ≡ el t c' → c ≡ c'
same_contents t c c' is is' e =
    (el_same t c [] t c' [] is is' (append-nil (el t c) ∙ e ∙ sym (append-nil (el t c')))).body

-- a signer that a SignedData has is good
good_number : (ss : List SignerValue) (number : ℕ) (s : SignerValue) → AllByRecursion GoodSigner ss
    → of_number ss number ≡ Some s → GoodSigner s
good_number ss zero s h e = absurd cc
good_number ss (suc n) s h e = good_at ss n h e
  where
    good_at : (ss : List SignerValue) (n : ℕ) → AllByRecursion GoodSigner ss → slice_get ss n ≡ Some s → GoodSigner s
    good_at [] n h e = absurd cc
    good_at (x ∷ xs) zero h e = let q : x ≡ s = cc in subst GoodSigner q h.0
    good_at (x ∷ xs) (suc n) h e = good_at xs n h.1 e

good : (file : List ℕ) (number : ℕ) (content : List ℕ) (s : SignerValue) → IsSignedBy file number content s
    → GoodSigner s
good file number content s h = good_number h.signed.signers number s h.encodes.1.0.signers h.numbered

good_attributes : (o : Option (List AttributeValue)) (xs : List AttributeValue) → IfSome o GoodSignedAttributes
    → o ≡ Some xs → GoodSignedAttributes xs
good_attributes (Some ys) xs h e = let q : ys ≡ xs = cc in subst GoodSignedAttributes q h
good_attributes None xs h e = absurd cc

-- the same octets are signed only for the same attributes
same_attributes : (xs ys : List AttributeValue) → GoodSignedAttributes xs → GoodSignedAttributes ys
    → signed_octets xs ≡ signed_octets ys → xs ≡ ys
same_attributes xs ys g k e =
    let p = same_contents 0x31 (attributes_parts xs) (attributes_parts ys) (record { identifier = refl; size = g.size })
    (record { identifier = refl; size = k.size }) e in
    ok_is xs ys (sym (signed_attributes_body.again xs 0 (g.each, g.ascending))
    ∙ ap (λ (b : List ℕ). signed_attributes_in (spot 0 b)) p
    ∙ signed_attributes_body.again ys 0 (k.each, k.ascending))

some_octets : (xs ys : List AttributeValue) (o o' : Option (List AttributeValue)) → o ≡ Some xs → o' ≡ Some ys
    → option_map signed_octets o ≡ option_map signed_octets o' → signed_octets xs ≡ signed_octets ys
some_octets xs ys o o' e e' same = let z : option_map signed_octets (Some xs) ≡ option_map signed_octets (Some ys) =
    ap (option_map signed_octets) (sym e) ∙ same ∙ ap (option_map signed_octets) e' in cc

same_alg : (a b : Alg) (o o' : Option Alg) → o ≡ Some a → o' ≡ Some b → o ≡ o' → a ≡ b
same_alg a b o o' e e' same = let z : Some a ≡ Some b = sym e ∙ same ∙ e' in cc

same_some : (x y : List ℕ) (o : Option (List ℕ)) → o ≡ Some x → o ≡ Some y → x ≡ y
same_some x y o e d = let z : Some x ≡ Some y = sym e ∙ d in cc

pub bound : SignaturesBindContents
bound a i content s h b j content' s' k alike =
    let n = named_is s.digest_algorithm h.fits.alg h.fits.named in
    let m = named_is s'.digest_algorithm k.fits.alg k.fits.named in
    let same =
    same_alg h.fits.alg k.fits.alg (alg_named s.digest_algorithm) (alg_named s'.digest_algorithm) n m alike.alg in
    let octets = some_octets h.fits.attributes k.fits.attributes s.signed_attributes s'.signed_attributes h.fits.present
    k.fits.present alike.octets in
    let g =
    good_attributes s.signed_attributes h.fits.attributes (good a i content s h).signed_attributes h.fits.present in
    let g' = good_attributes s'.signed_attributes k.fits.attributes
    (good b j content' s' k).signed_attributes k.fits.present in
    let attributes = same_attributes h.fits.attributes k.fits.attributes g g' octets in
    let stated = same_some (el 0x04 (digest_of h.fits.alg content)) (el 0x04 (digest_of k.fits.alg content'))
    (single_value h.fits.attributes
    id_message_digest) h.fits.digest
    (ap (λ (xs : List AttributeValue). single_value xs id_message_digest) attributes ∙ k.fits.digest) in
    let digests = same_contents 0x04 (digest_of h.fits.alg content) (digest_of k.fits.alg content')
    (record { identifier = refl; size = small h.fits.alg content })
    (record { identifier = refl; size = small k.fits.alg content' }) stated in
    (h.fits.alg, n, digests ∙ ap (λ (x : Alg). digest_of x content') (sym same))
