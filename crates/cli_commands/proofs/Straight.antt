-- What a sink took whose first octet is the name of a lent writer, that writer took.
use Rattle.std.proofs.Common.{◌≡◌, ◌∷◌, ◌++◌, ℕ, List, [], Option, Some, None, Ok, Err, IsSome, unwrap_or, length, take}
use Rattle.std.proofs.Common.{refl, sym, subst, inl, inr, arith}
use Rattle.std.specs.Prelude.{IfErr}
use Rattle.std.proofs.lemmas.List.{take_all}
use Rattle.std.proofs.KnownBytes.{Appends-kept}
use Rattle.std.specs.Io.KnownBytes.{Appends, Keeps}
use Rattle.devices.specs.Device.{Stops}
use Rattle.der_core.specs.OpenFaults.{FaultsOpenly}
use Rattle.der_core.specs.Grammar.{file}
use Rattle.der_grammar.specs.Table.{content_info}
use Rattle.der_grammar.specs.TooLarge.{IsTooLarge}
use Rattle.cms_types.specs.SignedDataValue.{EncodesAnotherType}
use Rattle.trust_lists.specs.Entries.{EntryValue}
use Rattle.check_questions.specs.QuestionsText.{questions_text}
use Rattle.check_questions.specs.Written.{IsUntouched, EncodesNothing}
use Rattle.check_questions.specs.declared.fault.QuestionsFault.TheVariants as fault
use Rattle.check_stream.specs.StreamQuestions.{IsWrittenOf, IsBeforeText, IsTextOrBefore}
use Rattle.check_stream.specs.declared.fault.StreamQuestionsFault.TheVariants as stream
use Rattle.cli_commands.specs.Asking.{Attempt, IsTextOf, IsTextFor, Takes, IsUnasked, AsksPass}
use Rattle.cli_commands.specs.Checking.{IfKnown}
use Rattle.cli_commands.specs.Rereading.{IsKnown}

-- what is seen as taken: the name of the reference, and what its writer holds
abbrev seen : (name : ℕ) → Option (List ℕ) → List ℕ
seen name contents = name ∷ unwrap_or contents []

-- a writer was lent under a name: what it holds stays known, and at the end it holds what is seen under that name
pub record IsLent (before after final : Option (List ℕ)) (name name' : ℕ) : Type 0 where
  pub known : IsSome before → IsSome after
  pub same : name' ≡ name → final ≡ after

grown : (before after final : Option (List ℕ)) (name name' : ℕ) (bs : List ℕ) → IsLent before after final name name'
    → (IsSome before → seen name' after ≡ seen name before ++ bs) → Appends before final bs
grown None after final name name' bs lent took = tt
grown (Some xs) None final name name' bs lent took = let lost = lent.known refl in absurd (let no : ⊥ = cc in no)
grown (Some xs) (Some ys) final name name' bs lent took =
    let e : name' ∷ ys ≡ name ∷ (xs ++ bs) = took refl in
    let first : name' ≡ name = cc in
    let others : ys ≡ xs ++ bs = cc in
    subst (λ (o : Option (List ℕ)). Appends (Some xs) o bs) (sym (lent.same first)) others

stopped : (before after final : Option (List ℕ)) (name name' : ℕ) (text : List ℕ) → IsLent before after final name name'
    → (IsSome before → Stops (seen name before) (seen name' after) text)
    → (count : ℕ) × Appends before final (take count text)
stopped None after final name name' text lent took = (0, tt)
stopped (Some xs) after final name name' text lent took =
    let stops = took refl in
    (stops.count, grown (Some xs) after final name name' (take stops.count text) lent (λ _. stops.front))

stayed : (before after final : Option (List ℕ)) (name name' : ℕ) → IsLent before after final name name'
    → (IsSome before → seen name' after ≡ seen name before) → Keeps before final
stayed None after final name name' lent took = tt
stayed (Some xs) None final name name' lent took = let lost = lent.known refl in absurd (let no : ⊥ = cc in no)
stayed (Some xs) (Some ys) final name name' lent took =
    let e : name' ∷ ys ≡ name ∷ xs = took refl in
    let first : name' ≡ name = cc in
    let others : ys ≡ xs = cc in
    subst (λ (o : Option (List ℕ)). Keeps (Some xs) o) (sym (lent.same first)) others

-- what holds of the octets of a file that is known
known : (held : Option (List ℕ)) (IsSo : List ℕ → Type 0) → (IsKnown held → IsSo (unwrap_or held []))
    → IfKnown held IsSo
known None IsSo so = tt
known (Some octets) IsSo so = λ are. so (refl, are)

module _ (trust : List EntryValue) (held before after final : Option (List ℕ)) (room name name' count count' : ℕ)
    (lent : IsLent before after final name name') where
  abbrev Or : Attempt → Type 0
  Or r = IsTextOrBefore trust (IsKnown held) (unwrap_or held []) r (IsSome before) (seen name before)
      (seen name' after) count count'

  abbrev Untouched : Type 0
  Untouched = IsUntouched (IsSome before) (seen name before) (seen name' after) count count'

  took : (r : Attempt) → Or r → (IsBeforeText r → Untouched) → Takes (IsTextFor trust held) r before final
  took (Ok u) (inl never) untouched = absurd never
  took (Ok u) (inr (signers, qs, are, of, (taken, counts))) untouched = (
    questions_text qs,
    ((signers, qs, are, refl), known held (λ o. IsTextOf trust o (questions_text qs)) (λ told. (qs, of told, refl))),
    grown before after final name name' (questions_text qs) lent taken,
  )
  took (Err (stream.Questions fault.WriteFailed)) (inl never) untouched = absurd never
  took (Err (stream.Questions fault.WriteFailed)) (inr (signers, qs, are, of, (taken, counts))) untouched = (
    questions_text qs,
    ((signers, qs, are, refl), known held (λ o. IsTextOf trust o (questions_text qs)) (λ told. (qs, of told, refl))),
    stopped before after final name name' (questions_text qs) lent taken,
  )
  took (Err (stream.Questions (fault.Malformed f))) or untouched =
      stayed before after final name name' lent (untouched tt).0
  took (Err (stream.Questions fault.NotSignedData)) or untouched =
      stayed before after final name name' lent (untouched tt).0
  took (Err stream.ReadFailed) or untouched = stayed before after final name name' lent (untouched tt).0
  took (Err stream.TooLong) or untouched = stayed before after final name name' lent (untouched tt).0

  abbrev Written : Attempt → Type 0
  Written r = IsKnown held
      → IsWrittenOf trust (unwrap_or held []) room r (IsSome before) (seen name before) (seen name' after) count count'

  unasked : (r : Attempt) → Written r
      → IfErr r (λ why. IfKnown held (λ o. IsUnasked trust (λ x. IsTooLarge x room) o why))
  unasked (Ok u) written = tt
  unasked (Err (stream.Questions fault.WriteFailed)) written = known held (λ o. (text : List ℕ) × IsTextOf trust o text)
      (λ told. let w = written told in (questions_text w.0, (w.0, w.1, refl)))
  unasked (Err (stream.Questions (fault.Malformed f))) written =
      known held (λ o. FaultsOpenly (file content_info) o f × EncodesNothing o)
      (λ told. let w = written told in (w.0, w.1.0))
  unasked (Err (stream.Questions fault.NotSignedData)) written =
      known held EncodesAnotherType (λ told. (written told).0)
  unasked (Err stream.ReadFailed) written = known held (λ o. Unit {0}) (λ told. tt)
  unasked (Err stream.TooLong) written = known held (λ o. IsTooLarge o room) (λ told. (written told).0)

  pub straight : (r : Attempt) → Or r → (IsBeforeText r → Untouched) → Written r
      → AsksPass trust held room r before final
  straight r or untouched written = (took r or untouched, unasked r written)

-- a flush keeps what was taken, whether it fails or not
pub flushed : (trust : List EntryValue) (held : Option (List ℕ)) (room : ℕ) (u : Unit {0})
    (before between after : Option (List ℕ))
    → AsksPass trust held room (Ok u) before between → Keeps between after
    → AsksPass trust held room (Ok u) before after
flushed trust held room u before between after ((text, is, took), none) kept =
    ((text, is, Appends-kept before between after text took kept), tt)

some_text : (trust : List EntryValue) (held : Option (List ℕ)) (text : List ℕ)
    → IfKnown held (λ o. IsTextOf trust o text)
    → IfKnown held (λ o. (t : List ℕ) × IsTextOf trust o t)
some_text trust None text is = tt
some_text trust (Some octets) text is = λ are. (text, is are)

pub unflushed : (trust : List EntryValue) (held : Option (List ℕ)) (room : ℕ) (u : Unit {0})
    (before between after : Option (List ℕ))
    → AsksPass trust held room (Ok u) before between → Keeps between after
    → AsksPass trust held room (Err (stream.Questions fault.WriteFailed)) before after
unflushed trust held room u before between after ((text, is, took), none) kept = (
  (
    text,
    is,
    (
      length text,
      subst (λ (bs : List ℕ). Appends before after bs) (sym (take_all (length text) text (omega arith)))
          (Appends-kept before between after text took kept),
    ),
  ),
  some_text trust held text is.1,
)
