-- What is answered of a file and a token: one thing alone.
use Rattle.std.proofs.Common.{◌≡◌, ◌↔◌, ℕ, ◌-◌, ◌<◌, Bool, true, false, List, ◌∷◌, drop, Some, None, Err, refl, sym, ap}
use Rattle.std.proofs.Common.{subst, ◌∙◌}
use Rattle.std.specs.Prelude.{IsTrue}
use Rattle.der_core.specs.Grammar.{file}
use Rattle.der_grammar.specs.Table.{content_info}
use Rattle.der_core.proofs.Refuted.{refuted}
use Rattle.der_grammar.proofs.Clearness.{content_info_clear}
use Rattle.der_lists.specs.Numbers.{of_number}
use Rattle.cms_types.specs.SignerValue.{SignerValue}
use Rattle.cms_types.specs.SignedDataValue.{SignedDataValue, SignedContent, OtherContent, encoding, EncodesSignedData}
use Rattle.cms_types.specs.CmsFaults.{IsCmsFault}
use Rattle.cms_types.specs.declared.fault.CmsFault.{CmsFault}
use Rattle.cms_types.specs.declared.fault.CmsFault.TheVariants as cms
use Rattle.cms_types.proofs.SignedDataReaders.{content_encodes, content_unique}
use Rattle.tsp_types.specs.ImprintValue.{ImprintValue}
use Rattle.tsp_types.specs.TstValue.{TstValue, EncodesTst}
use Rattle.tsp_types.proofs.TstReaders.{tst_unique}
use Rattle.tsp_requester.specs.declared.fault.AttachFault.{AttachFault}
use Rattle.tsp_requester.specs.declared.fault.AttachFault.TheVariants as rule
use Rattle.tsp_requester.specs.Attached.{attached}
use Rattle.tsp_requester.specs.Attaching.{IsToken, IsImprintOf, HasSigner, HaveLengths, Attaches, Refuses, IsAnswer}
use Rattle.tsp_requester.specs.Pieces.{PiecesValue, IsPlace, IsCut, FitInside, file_of}
use Rattle.tsp_requester.proofs.New.{file_is, lengths_fit, fit_lengths}

-- ---- one value, one signer, one stamp

same_value : (bytes : List ℕ) (v w : SignedDataValue) → EncodesSignedData bytes v → EncodesSignedData bytes w → v ≡ w
same_value bytes v w h k = let e = content_unique bytes (SignedContent v) (SignedContent w) h k in cc

some_signer : (a b : SignerValue) → Some a ≡ Some b → a ≡ b
some_signer a b e = cc

some_octets : (a b : List ℕ) → Some a ≡ Some b → a ≡ b
some_octets a b e = cc

pub no_signer : (s : SignerValue) → Some s ≡ None → ⊥
no_signer s e = absurd cc

pub of_value : (bytes : List ℕ) (number : ℕ) (v w : SignedDataValue) → EncodesSignedData bytes v
    → EncodesSignedData bytes w
    → of_number v.signers number ≡ of_number w.signers number
of_value bytes number v w h k = ap (λ (x : SignedDataValue). of_number x.signers number) (same_value bytes v w h k)

pub same_signer : (bytes : List ℕ) (number : ℕ) (v w : SignedDataValue) (a b : SignerValue) → HasSigner bytes number v a
    → HasSigner bytes number w b → a ≡ b
same_signer bytes number v w a b h k =
    some_signer a b (sym h.signer ∙ of_value bytes number v w h.encodes k.encodes ∙ k.signer)

pub same_stamp : (token : List ℕ) (x y : TstValue) → IsToken token x → IsToken token y → x ≡ y
same_stamp token x y h k =
    let e = same_value token h.signed k.signed h.encodes k.encodes in
    let content = some_octets h.content k.content
    (sym h.present ∙ ap (λ (v : SignedDataValue). v.encapsulated.content) e ∙ k.present) in
    tst_unique k.content x y (subst (λ (b : List ℕ). EncodesTst b x) content h.encodes_stamp) k.encodes_stamp

pub one_file : (bytes : List ℕ) (number : ℕ) (token : List ℕ) (w u : SignedDataValue) → Attaches bytes number token w
    → Attaches bytes number token u → w ≡ u
one_file bytes number token w u h k = h.is ∙ ap (λ (v : SignedDataValue). attached v number token)
    (same_value bytes h.value k.value h.stamped.has.encodes k.stamped.has.encodes) ∙ sym k.is

-- ---- attached or refused, and never both

pub never_other : (v : SignedDataValue) (id content : List ℕ) → SignedContent v ≡ OtherContent id content → ⊥
never_other v id content e = absurd cc

pub never_both : (bytes : List ℕ) (number : ℕ) (token : List ℕ) (w : SignedDataValue) (f : AttachFault)
    → Attaches bytes number token w
    → Refuses bytes number token f → ⊥
never_both bytes number token w (rule.Malformed (cms.Malformed f)) h r =
    refuted (file content_info) bytes f content_info_clear
    (content_encodes bytes (SignedContent h.value) h.stamped.has.encodes) r
never_both bytes number token w (rule.Malformed cms.NotSignedData) h r =
    never_other h.value r.0 r.1
    (content_unique bytes (SignedContent h.value) (OtherContent r.0 r.1) h.stamped.has.encodes r.2)
never_both bytes number token w (rule.Malformed cms.OutOfMemory) h r = r
never_both bytes number token w rule.NoSuchSigner h r =
    no_signer h.signer
    (sym h.stamped.has.signer ∙ of_value bytes number h.value r.value h.stamped.has.encodes r.encodes ∙ r.none)
never_both bytes number token w rule.TokenMalformed h r = r.none h.stamp h.stamped.is_token
never_both bytes number token w rule.ImprintDiffers h r =
    r.differs (subst (λ (s : SignerValue). IsImprintOf r.stamp.imprint s.signature)
    (same_signer bytes number h.value r.value h.signer r.signer h.stamped.has r.has)
    (subst (λ (x : TstValue). IsImprintOf x.imprint h.signer.signature)
    (same_stamp token h.stamp r.stamp h.stamped.is_token r.is_token) h.stamped.imprint))
never_both bytes number token w rule.TooLong h r =
    r.lengths (subst (λ (s : SignerValue). HaveLengths r.value number s token)
    (same_signer bytes number h.value r.value h.signer r.signer h.stamped.has r.stamped.has)
    (subst (λ (v : SignedDataValue). HaveLengths v number h.signer token)
    (same_value bytes h.value r.value h.stamped.has.encodes r.stamped.has.encodes) h.lengths))
never_both bytes number token w rule.WriteFailed h r = r

-- ---- what is returned

pub malformed : (bytes : List ℕ) (number : ℕ) (token : List ℕ) (f : CmsFault) → IsCmsFault bytes f
    → (f ≡ cms.OutOfMemory → ⊥)
    → Refuses bytes number token (rule.Malformed f)
malformed bytes number token (cms.Malformed f) h never = h
malformed bytes number token cms.NotSignedData h never = h
malformed bytes number token cms.OutOfMemory h never = never refl

pub refused : (bytes : List ℕ) (number : ℕ) (token : List ℕ) (f : AttachFault) (tells : Type 0) (t : List ℕ) (c : ℕ)
    → Refuses bytes number token f
    → IsAnswer bytes number token (Err f) tells t t c c
refused bytes number token (rule.Malformed f) tells t c r = (r, (λ _. refl), refl)
refused bytes number token rule.NoSuchSigner tells t c r = (r, (λ _. refl), refl)
refused bytes number token rule.TokenMalformed tells t c r = (r, (λ _. refl), refl)
refused bytes number token rule.ImprintDiffers tells t c r = (r, (λ _. refl), refl)
refused bytes number token rule.TooLong tells t c r = (r, (λ _. refl), refl)
refused bytes number token rule.WriteFailed tells t c r = absurd r

-- the token can be attached where its lengths fit, and else it is too long
there : (bytes : List ℕ) (number : ℕ) (token : List ℕ) (p : PiecesValue) (h : IsCut bytes number token p)
    → (0 < number) × ((others : List SignerValue) × (drop (number - 1) h.value.signers ≡ h.signer ∷ others))
there bytes number token p h = (h.place.positive, (h.place.others, h.place.are))

pub can_attach : (bytes : List ℕ) (number : ℕ) (token : List ℕ) (p : PiecesValue) (h : IsCut bytes number token p)
    → FitInside p token
    → Attaches bytes number token (attached h.value number token)
can_attach bytes number token p h fit = record {
  value = h.value;
  signer = h.signer;
  stamp = h.stamp;
  stamped = h.stamped;
  lengths = lengths_fit h.value number h.signer token (there bytes number token p h)
      (subst (λ (q : PiecesValue). FitInside q token) h.is fit);
  is = refl;
}

pub new_file : (bytes : List ℕ) (number : ℕ) (token : List ℕ) (p : PiecesValue) (h : IsCut bytes number token p)
    → file_of p token ≡ encoding (SignedContent (attached h.value number token))
new_file bytes number token p h = ap (λ (q : PiecesValue). file_of q token) h.is
    ∙ file_is h.value number h.signer token (there bytes number token p h)

pub too_long : (bytes : List ℕ) (number : ℕ) (token : List ℕ) (p : PiecesValue) → IsCut bytes number token p
    → (FitInside p token → ⊥)
    → Refuses bytes number token rule.TooLong
too_long bytes number token p h never = record {
  value = h.value;
  signer = h.signer;
  stamp = h.stamp;
  stamped = h.stamped;
  lengths = λ lengths. never (subst (λ (q : PiecesValue). FitInside q token) (sym h.is)
      (fit_lengths h.value number h.signer token (there bytes number token p h) lengths));
}

-- ---- what is found

pub place_in : (all ss : List SignerValue) (number : ℕ) (s : SignerValue) (from : List ℕ) → all ≡ ss
    → IsPlace all number s from → IsPlace ss number s from
place_in all ss number s from e place = subst (λ (l : List SignerValue). IsPlace l number s from) e place

differ : (r : Bool) → r ≡ false → r ≡ true → ⊥
differ r bad good = let z = sym bad ∙ good in cc

pub imprint_of : (imprint : ImprintValue) (octets signature : List ℕ) (r : Bool) → octets ≡ signature
    → IsTrue r ↔ IsImprintOf imprint octets
    → r ≡ true → IsImprintOf imprint signature
imprint_of imprint octets signature r e iff good = subst (λ (l : List ℕ). IsImprintOf imprint l) e (iff.0 good)

pub no_imprint_of : (imprint : ImprintValue) (octets signature : List ℕ) (r : Bool) → octets ≡ signature
    → IsTrue r ↔ IsImprintOf imprint octets
    → r ≡ false → IsImprintOf imprint signature → ⊥
no_imprint_of imprint octets signature r e iff bad h =
    differ r bad (iff.1 (subst (λ (l : List ℕ). IsImprintOf imprint l) (sym e) h))
