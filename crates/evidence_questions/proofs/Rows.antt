-- The worked rows hold.
use Rattle.std.proofs.Common.{◌≡◌, ℕ, List, [], ◌∷◌, ◌++◌, None, drop, length, refl, sym, ap, ◌∙◌, lit<}
use Rattle.std.proofs.Common.{inl, inr, Some, append-nil}
use Rattle.der_core.specs.Element.{len}
use Rattle.der_core.specs.Hex.{hex}
use Rattle.cms_types.specs.SignedDataValue.{SignedDataValue, SignedContent, content_info_parts, EncodesSignedData}
use Rattle.digests.specs.Spelled.{alone, sha256}
use Rattle.evidence_types.specs.StampValue.{StampValue, IsSequence, GoodStamp}
use Rattle.evidence_types.specs.EvidenceValue.{EvidenceValue, EncodesEvidence}
use Rattle.evidence_types.specs.EvidenceRows.{bare, empty, chained, encrypted_by}
use Rattle.evidence_types.proofs.EvidenceReaders.{evidence_unique}
use Rattle.evidence_types.proofs.Rows.{evidence_rows}
use Rattle.trust_lists.specs.Asking.{Asked}
use Rattle.trust_lists.specs.Entries.{EntryValue}
use Rattle.trust_lists.specs.declared.role.Role.TheVariants.{Signer, Tsa}
use Rattle.check_names.specs.NamingRows.{of_authority}
use Rattle.check_verdict.specs.Rows.{token_data, early_data, token_signer, digest_of_stamp, digest_of_early_stamp}
use Rattle.check_verdict.specs.Rows.{attributes_over, early_token, of_token, of_early_token, trusted}
use Rattle.check_verdict.specs.Trusted.{asked}
use Rattle.check_verdict.proofs.Rows.{value_rows, early_reads}
use Rattle.check_questions.specs.FileQuestions.{InOrder, OfEntry, OfEntries}
use Rattle.evidence_questions.specs.RecordQuestions.{OfStamp, AreQuestionsOfRecord}
use Rattle.evidence_questions.specs.Rows.{QuestionRows, authority, signer, late_token, of_one, of_several}

then : {A B : Type 0} (Has : A → List B → Type 0) (x : A) (xs : List A) (ys zs : List B) → Has x ys → InOrder Has xs zs
    → InOrder Has (x ∷ xs) (ys ++ zs)
then Has x xs ys zs h g = record { first = ys; is_first = h; others = zs; are_others = g; is = refl }

-- ---- entries

abbrev of_stamp : List ℕ → Asked
of_stamp digest = asked of_authority (token_signer digest) (attributes_over digest)

asked_of : (digest : List ℕ) → OfEntry Tsa (token_signer digest) authority (of_stamp digest ∷ [])
asked_of digest = inl (
  of_stamp digest,
  record { has_role = refl; matches = (refl, refl); attributes = attributes_over digest; has = refl; is = refl },
  refl,
)

signer_differs : Signer ≡ Tsa → ⊥
signer_differs e = absurd cc

not_asked : (digest : List ℕ) (e : EntryValue) → e.role ≡ Signer → OfEntry Tsa (token_signer digest) e []
not_asked digest e is = inr (λ q h. signer_differs (sym is ∙ h.has_role), refl)

both : (digest : List ℕ) → OfEntries Tsa (token_signer digest) (signer ∷ authority ∷ []) (of_stamp digest ∷ [])
both digest = then (OfEntry Tsa (token_signer digest)) signer (authority ∷ []) [] (of_stamp digest ∷ [])
    (not_asked digest signer refl)
    (then (OfEntry Tsa (token_signer digest)) authority [] (of_stamp digest ∷ []) [] (asked_of digest) refl)

twice : (digest : List ℕ)
    → OfEntries Tsa (token_signer digest) (authority ∷ authority ∷ []) (of_stamp digest ∷ of_stamp digest ∷ [])
twice digest =
    then (OfEntry Tsa (token_signer digest)) authority (authority ∷ []) (of_stamp digest ∷ []) (of_stamp digest ∷ [])
    (asked_of digest)
    (then (OfEntry Tsa (token_signer digest)) authority [] (of_stamp digest ∷ []) [] (asked_of digest) refl)

neither : (digest : List ℕ)
    → OfEntries Tsa (token_signer digest) (signer ∷ trusted Signer None None of_authority ∷ []) []
neither digest =
    then (OfEntry Tsa (token_signer digest)) signer (trusted Signer None None of_authority ∷ []) [] []
    (not_asked digest signer refl)
    (then (OfEntry Tsa (token_signer digest)) (trusted Signer None None of_authority) [] [] []
    (not_asked digest (trusted Signer None None of_authority) refl) refl)

-- ---- time-stamps

late : (trust : List EntryValue) (qs : List Asked) → OfEntries Tsa (token_signer digest_of_stamp) trust qs
    → OfStamp trust (bare late_token) qs
late trust qs h = inl (
  token_signer digest_of_stamp,
  record { signed = token_data; encodes = value_rows.reads_token; one_signer = refl },
  h,
)

early : (trust : List EntryValue) (qs : List Asked) → OfEntries Tsa (token_signer digest_of_early_stamp) trust qs
    → OfStamp trust (bare early_token) qs
early trust qs h = inl (
  token_signer digest_of_early_stamp,
  record { signed = early_data; encodes = early_reads; one_signer = refl },
  h,
)

-- an empty SEQUENCE has no room for what a token begins with
no_room : (ls parts : List ℕ) → 0 ∷ [] ≡ ls ++ 6 ∷ parts → ⊥
no_room [] parts e = absurd cc
no_room (l ∷ []) parts e = absurd cc
no_room (l ∷ m ∷ ls) parts e = absurd cc

nothing_encoded : (v : SignedDataValue) → EncodesSignedData empty v → ⊥
nothing_encoded v h =
    let parts = content_info_parts (SignedContent v) in
    let inside : 0 ∷ [] ≡ len (length parts) ++ parts = ap (drop 1) h.0 in
    no_room (len (length parts)) (drop 1 parts) inside

unasked : (trust : List EntryValue) → OfStamp trust (bare empty) []
unasked trust = inr (λ s h. nothing_encoded h.signed h.encodes, refl)

-- ---- records

is_empty : IsSequence empty
unfolding len
is_empty = ([], record { identifier = refl; size = lit< tt }, refl)

good_empty : GoodStamp (bare empty)
unfolding len
good_empty = record { algorithm = tt; attributes = tt; lists = tt; stamp = is_empty; size = lit< tt }

good_early : GoodStamp (bare early_token)
unfolding len
good_early = record {
  algorithm = tt;
  attributes = tt;
  lists = tt;
  stamp = (drop 4 early_token, record { identifier = refl; size = lit< tt }, refl);
  size = lit< tt;
}

good_late : GoodStamp (bare late_token)
unfolding len
good_late = record {
  algorithm = tt;
  attributes = tt;
  lists = tt;
  stamp = (drop 4 late_token, record { identifier = refl; size = lit< tt }, refl);
  size = lit< tt;
}

abbrev several_value : EvidenceValue
several_value = chained [] ((bare early_token ∷ bare empty ∷ []) ∷ (bare late_token ∷ []) ∷ [])

several_encodes : EncodesEvidence of_several several_value
unfolding len
several_encodes = (
  refl,
  record {
    algorithms = tt;
    algorithms_size = lit< tt;
    crypto_infos = tt;
    encryption = tt;
    chains = record {
      each = (
        record { each = (good_early, (good_empty, tt)); some = λ e. absurd cc; size = lit< tt },
        (record { each = (good_late, tt); some = λ e. absurd cc; size = lit< tt }, tt),
      );
      some = λ e. absurd cc;
      size = lit< tt;
    };
    size = lit< tt;
  },
)

several_by : (trust : List EntryValue) (first second : List Asked)
    → OfEntries Tsa (token_signer digest_of_early_stamp) trust first
    → OfEntries Tsa (token_signer digest_of_stamp) trust second
    → AreQuestionsOfRecord trust of_several (first ++ second)
several_by trust first second h g = record {
  record_value = several_value;
  encodes = several_encodes;
  open_data = refl;
  are = then (OfStamp trust) (bare early_token) (bare empty ∷ bare late_token ∷ []) first second
      (early trust first h)
      (then (OfStamp trust) (bare empty) (bare late_token ∷ []) [] second (unasked trust)
      (only (bare late_token) second (late trust second g)));
}
  where
    only : (s : StampValue) (qs : List Asked) → OfStamp trust s qs → InOrder (OfStamp trust) (s ∷ []) qs
    only s qs h = record { first = qs; is_first = h; others = []; are_others = refl; is = sym (append-nil qs) }

one_by : (trust : List EntryValue) (qs : List Asked) → OfEntries Tsa (token_signer digest_of_stamp) trust qs
    → AreQuestionsOfRecord trust of_one (qs ++ [])
one_by trust qs h = record {
  record_value = chained (alone sha256 ∷ []) ((bare late_token ∷ []) ∷ []);
  encodes = evidence_rows.of_token;
  open_data = refl;
  are = then (OfStamp trust) (bare late_token) [] qs [] (late trust qs h) refl;
}

abbrev encrypted_value : EvidenceValue
encrypted_value = record {
  algorithms = [];
  crypto_infos = None;
  encryption = Some (encrypted_by None);
  chains = (bare empty ∷ []) ∷ [];
}

pub question_rows : QuestionRows
question_rows = record {
  one = one_by (signer ∷ authority ∷ []) (of_token ∷ []) (both digest_of_stamp);
  several = several_by (signer ∷ authority ∷ []) (of_early_token ∷ []) (of_token ∷ []) (both digest_of_early_stamp)
      (both digest_of_stamp);
  repeated = several_by (authority ∷ authority ∷ []) (of_early_token ∷ of_early_token ∷ [])
      (of_token ∷ of_token ∷ [])
      (twice digest_of_early_stamp) (twice digest_of_stamp);
  no_authority =
      one_by (signer ∷ trusted Signer None None of_authority ∷ []) [] (neither digest_of_stamp);
  no_token = record {
    record_value = chained [] ((bare empty ∷ []) ∷ []);
    encodes = evidence_rows.least;
    open_data = refl;
    are = then (OfStamp (authority ∷ [])) (bare empty) [] [] [] (unasked (authority ∷ [])) refl;
  };
  encrypted = λ trust qs h. never_open h.record_value h.encodes h.open_data;
}
  where
    never_open : (v : EvidenceValue)
        → EncodesEvidence (hex "3014 0201 01 3000 a105 0603 883703 3006 3004 3002 3000") v → v.encryption ≡ None → ⊥
    never_open v h is =
        let same = evidence_unique (hex "3014 0201 01 3000 a105 0603 883703 3006 3004 3002 3000") v encrypted_value h
        evidence_rows.encrypted in
        let e : Some (encrypted_by None) ≡ None = sym (ap (λ (w : EvidenceValue). w.encryption) same) ∙ is in
        absurd cc
