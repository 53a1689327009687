-- From what a pass over a file states about its octets to what is returned and was written.
use Rattle.std.proofs.Common.{◌≡◌, ◌∙◌, ◌⊎◌, ℕ, List, [], Option, Some, None, Result, Ok, Err, sym, ap, subst, inl, inr}
use Rattle.std.specs.Prelude.{IfOk}
use Rattle.der_core.specs.Element.{IsBytes}
use Rattle.cms_types.specs.SignerValue.{SignerValue}
use Rattle.cms_types.specs.SignedDataValue.{SignedDataValue, ContentInfoValue, SignedContent, OtherContent}
use Rattle.cms_types.specs.SignedDataValue.{EncodesContentInfo, EncodesSignedData, EncodesAnotherType}
use Rattle.check_fit.proofs.Readings.{one_value}
use Rattle.trust_lists.specs.Entries.{EntryValue}
use Rattle.trust_lists.specs.Asking.{Asked}
use Rattle.cms_stream.specs.Opening.{OpenedValue, OpensStream, OpensEncoding, CountsPass}
use Rattle.cms_stream.specs.declared.stream_fault.StreamFault.{StreamFault}
use Rattle.cms_stream.specs.declared.stream_fault.StreamFault.TheVariants as stream
use Rattle.check_questions.specs.declared.fault.QuestionsFault.TheVariants.{Malformed, NotSignedData, WriteFailed}
use Rattle.check_questions.specs.FileQuestions.{AreQuestions, AreQuestionsOf}
use Rattle.check_questions.specs.QuestionsText.{questions_text}
use Rattle.check_questions.specs.Written.{IsUntouched, EncodesNothing}
use Rattle.check_questions.proofs.Files.{some_of_file}
use Rattle.check_questions.proofs.Returned.{never_both}
use Rattle.check_stream.specs.declared.fault.StreamQuestionsFault.TheVariants.{Questions, ReadFailed, TooLong}
use Rattle.check_stream.specs.StreamQuestions.{Returned, IsWrittenOf, IsWrittenAs, IsCutShort}
use Rattle.check_stream.specs.StreamQuestions.{IsMalformed, IsEarly, IsBeforeText, IsTextOrBefore, CountsReads}
use Rattle.check_stream.specs.PassSteps.{HasQuestions, PutsPass}

-- what is stated of the octets of a file that is known
module _ (gains : List ℕ → Type 0) (trust : List EntryValue) (octets : List ℕ) (room : ℕ) (tells : Type 0)
    (t t' : List ℕ) (c c' : ℕ) where
  abbrev Opens : Result (Option OpenedValue) StreamFault → Type 0
  Opens pass = OpensStream gains room octets pass

  abbrev Only : Result (Option OpenedValue) StreamFault → Type 0
  Only pass = (i : ContentInfoValue) → EncodesContentInfo octets i → OpensEncoding gains room octets i pass

  abbrev Puts : Result (Option OpenedValue) StreamFault → Returned → Type 0
  Puts pass r = PutsPass trust pass r tells t t' c c'

  abbrev Of : Returned → Type 0
  Of r = IsWrittenOf trust octets room r tells t t' c c'

  abbrev As : List Asked → Returned → Type 0
  As qs r = IsWrittenAs (questions_text qs) r tells t t' c c'

  -- the file's questions are those of the signers that were kept
  are_of : (o : OpenedValue) (v : SignedDataValue) → EncodesSignedData octets v → o.signers ≡ v.signers
      → (qs : List Asked)
      → AreQuestionsOf trust octets qs → AreQuestions trust o.signers qs
  are_of o v encodes same qs h =
      let value : h.signed ≡ v = one_value octets h.signed v h.encodes encodes in
      subst (λ (ss : List SignerValue). AreQuestions trust ss qs)
      (ap (λ (w : SignedDataValue). w.signers) value ∙ sym same) h.are

  -- and there are some
  some_text : (o : OpenedValue) (v : SignedDataValue) (r : Returned) → IsBytes octets → EncodesSignedData octets v
      → o.signers ≡ v.signers
      → ((qs : List Asked) → AreQuestions trust o.signers qs → As qs r)
      → (qs : List Asked) × AreQuestionsOf trust octets qs × As qs r
  some_text o v r bytes encodes same put =
      let l = some_of_file trust octets v bytes encodes in
      (l.0, l.1, put l.0 (are_of o v encodes same l.0 l.1))

  of_text : (r : Returned) → (IsBeforeText r → ⊥) → (qs : List Asked) × AreQuestionsOf trust octets qs × As qs r → Of r
  of_text (Ok u) has text = text
  of_text (Err (Questions WriteFailed)) has text = text
  of_text (Err (Questions (Malformed f))) has text = absurd (has tt)
  of_text (Err (Questions NotSignedData)) has text = absurd (has tt)
  of_text (Err ReadFailed) has text = absurd (has tt)
  of_text (Err TooLong) has text = absurd (has tt)

  pub written : (pass : Result (Option OpenedValue) StreamFault) (r : Returned) → IsBytes octets → Opens pass
      → Only pass → Puts pass r → Of r
  written (Ok (Some o)) r bytes (v, encodes, (type, same, carries)) only (has, put) =
      of_text r has (some_text o v r bytes encodes same put)
  written (Ok None) r bytes another only (e, untouched) = subst (λ (x : Returned). Of x) (sym e) (another, untouched)
  written (Err (stream.Malformed f)) r bytes faults only (e, untouched) =
      subst (λ (x : Returned). Of x) (sym e) (faults, (only, untouched))
  written (Err stream.ReadFailed) r bytes opens only (e, untouched) = subst (λ (x : Returned). Of x) (sym e) untouched
  written (Err stream.TooLong) r bytes large only (e, untouched) =
      subst (λ (x : Returned). Of x) (sym e) (large, untouched)

  pub text_or_before : (known : Type 0) (pass : Result (Option OpenedValue) StreamFault) (r : Returned)
      → (known → Opens pass) → Puts pass r
      → HasQuestions trust pass → IsTextOrBefore trust known octets r tells t t' c c'
  text_or_before known (Ok (Some o)) r opens (has, put) (qs, are) =
      inr (o.signers, qs, are, (λ told. questions_of o qs are (opens told)), put qs are)
    where
      questions_of : (o : OpenedValue) (qs : List Asked) → AreQuestions trust o.signers qs → Opens (Ok (Some o))
          → AreQuestionsOf trust octets qs
      questions_of o qs are (v, encodes, (type, same, carries)) =
          record {
            signed = v;
            encodes = encodes;
            are = subst (λ (ss : List SignerValue). AreQuestions trust ss qs) same are;
          }
  text_or_before known (Ok None) r opens (e, untouched) some = inl (subst IsBeforeText (sym e) tt)
  text_or_before known (Err (stream.Malformed f)) r opens (e, untouched) some = inl (subst IsBeforeText (sym e) tt)
  text_or_before known (Err stream.ReadFailed) r opens (e, untouched) some = inl (subst IsBeforeText (sym e) tt)
  text_or_before known (Err stream.TooLong) r opens (e, untouched) some = inl (subst IsBeforeText (sym e) tt)

  pub written_as : (pass : Result (Option OpenedValue) StreamFault) (r : Returned) → Opens pass → Only pass
      → Puts pass r
      → (qs : List Asked) → AreQuestionsOf trust octets qs → IsCutShort r ⊎ As qs r
  written_as (Ok (Some o)) r (v, encodes, (type, same, carries)) only (has, put) qs h =
      inr (put qs (are_of o v encodes same qs h))
  written_as (Ok None) r another only (e, untouched) qs h = absurd (never_both octets h.signed h.encodes another)
  written_as (Err (stream.Malformed f)) r faults only (e, untouched) qs h =
      absurd (only (SignedContent h.signed) h.encodes)
  written_as (Err stream.ReadFailed) r opens only (e, untouched) qs h = inl (subst IsCutShort (sym e) tt)
  written_as (Err stream.TooLong) r large only (e, untouched) qs h = inl (subst IsCutShort (sym e) tt)

  pub malformed_told : (pass : Result (Option OpenedValue) StreamFault) (r : Returned) → Opens pass → Puts pass r
      → EncodesNothing octets
      → IsCutShort r ⊎ IsMalformed r
  malformed_told (Ok (Some o)) r (v, encodes, opened) puts nothing = absurd (nothing (SignedContent v) encodes)
  malformed_told (Ok None) r another puts nothing = absurd (nothing (OtherContent another.0 another.1) another.2)
  malformed_told (Err (stream.Malformed f)) r faults (e, untouched) nothing = inr (subst IsMalformed (sym e) tt)
  malformed_told (Err stream.ReadFailed) r opens (e, untouched) nothing = inl (subst IsCutShort (sym e) tt)
  malformed_told (Err stream.TooLong) r large (e, untouched) nothing = inl (subst IsCutShort (sym e) tt)

  pub another_told : (pass : Result (Option OpenedValue) StreamFault) (r : Returned) → Opens pass → Only pass
      → Puts pass r
      → EncodesAnotherType octets → IsCutShort r ⊎ (r ≡ Err (Questions NotSignedData))
  another_told (Ok (Some o)) r (v, encodes, opened) only puts another = absurd (never_both octets v encodes another)
  another_told (Ok None) r opens only (e, untouched) another = inr e
  another_told (Err (stream.Malformed f)) r faults only (e, untouched) another =
      absurd (only (OtherContent another.0 another.1) another.2)
  another_told (Err stream.ReadFailed) r opens only (e, untouched) another = inl (subst IsCutShort (sym e) tt)
  another_told (Err stream.TooLong) r large only (e, untouched) another = inl (subst IsCutShort (sym e) tt)

-- of each file
module _ (trust : List EntryValue) (r : Returned) (tells : Type 0) (t t' : List ℕ) (c c' : ℕ) where
  pub untouched_before : (pass : Result (Option OpenedValue) StreamFault) → PutsPass trust pass r tells t t' c c'
      → IsBeforeText r
      → IsUntouched tells t t' c c'
  untouched_before (Ok (Some o)) (has, put) before = absurd (has before)
  untouched_before (Ok None) (e, untouched) before = untouched
  untouched_before (Err fault) (e, untouched) before = untouched

  text_read : (x : Returned) (n n' : ℕ) → (IsBeforeText x → ⊥) → n' ≡ n → CountsReads x n n'
  text_read (Ok u) n n' has count = count
  text_read (Err (Questions f)) n n' has count = count
  text_read (Err ReadFailed) n n' has count = absurd (has tt)
  text_read (Err TooLong) n n' has count = absurd (has tt)

  pub reads_counted : (pass : Result (Option OpenedValue) StreamFault) (n n' : ℕ) → CountsPass pass n n'
      → PutsPass trust pass r tells t t' c c'
      → CountsReads r n n'
  reads_counted (Ok (Some o)) n n' count (has, put) = text_read r n n' has count
  reads_counted (Ok None) n n' count (e, untouched) = subst (λ (x : Returned). CountsReads x n n') (sym e) count
  reads_counted (Err (stream.Malformed f)) n n' count (e, untouched) =
      subst (λ (x : Returned). CountsReads x n n') (sym e) count
  reads_counted (Err stream.ReadFailed) n n' count (e, untouched) =
      subst (λ (x : Returned). CountsReads x n n') (sym e) count
  reads_counted (Err stream.TooLong) n n' count (e, untouched) =
      subst (λ (x : Returned). CountsReads x n n') (sym e) count

  pub read_to_end : (pass : Result (Option OpenedValue) StreamFault) (rest : List ℕ) → IfOk pass (λ _. rest ≡ [])
      → PutsPass trust pass r tells t t' c c'
      → IsEarly r ⊎ (rest ≡ [])
  read_to_end (Ok opened) rest end puts = inr end
  read_to_end (Err (stream.Malformed f)) rest end (e, untouched) = inl (subst IsEarly (sym e) tt)
  read_to_end (Err stream.ReadFailed) rest end (e, untouched) = inl (subst IsEarly (sym e) tt)
  read_to_end (Err stream.TooLong) rest end (e, untouched) = inl (subst IsEarly (sym e) tt)
