-- A time that is read is good and is there, a good time is read, and faults are those of the grammar.
use Rattle.std.proofs.Common.{◌≡◌, ℕ, true, List, [], ◌∷◌, refl, inl, inr, ◌⊎◌}
use Rattle.der_core.specs.declared.fault.Kind.TheVariants as kind
use Rattle.der_core.specs.Times.{is_utc, is_generalized}
use Rattle.der_core.specs.Form.{Form, part, One}
use Rattle.der_core.specs.Grammar.{any, utc, generalized, time}
use Rattle.der_core.specs.Reading.{either}
use Rattle.der_core.proofs.Readers.{Anything, IsReader, IsBody, named_reader}
use Rattle.der_core.proofs.PartReaders.{Always, alike_reader, formed_body, malformed}
use Rattle.der_core.proofs.EitherReader.{either_reader, enc_either, GoodEither}
use Rattle.der_time.specs.TimeValue.{TimeValue, Utc, Generalized, time_element, GoodTime}
use Rattle.der_time.specs.TimeReading.{utc_text_in, generalized_text_in, time_from, time_at}

pub utc_body : IsBody utc_text_in (λ b. b) (λ b. is_utc b ≡ true) utc
utc_body = formed_body kind.Time is_utc (malformed kind.Time is_utc any)

pub generalized_body : IsBody generalized_text_in (λ b. b) (λ b. is_generalized b ≡ true) generalized
generalized_body = formed_body kind.Time is_generalized (malformed kind.Time is_generalized any)

abbrev pub times : Form → Form
times after = part One (23 ∷ 24 ∷ []) time after

texts_reader : IsReader (either 0x17 utc_text_in 24 generalized_text_in)
    (enc_either 23 refl utc_text_in (λ b. b) (λ b. is_utc b ≡ true) utc utc_body 24 refl generalized_text_in (λ b. b)
    (λ b. is_generalized b ≡ true) generalized generalized_body time refl refl refl)
    (GoodEither 23 refl utc_text_in (λ b. b) (λ b. is_utc b ≡ true) utc utc_body 24 refl generalized_text_in (λ b. b)
    (λ b. is_generalized b ≡ true) generalized generalized_body time refl refl refl) times Always Anything
texts_reader =
    either_reader 23 refl utc_text_in (λ b. b) (λ b. is_utc b ≡ true) utc utc_body 24 refl generalized_text_in (λ b. b)
    (λ b. is_generalized b ≡ true) generalized generalized_body time refl refl refl

text_of : TimeValue → List ℕ ⊎ List ℕ
text_of (Utc text) = inl text
text_of (Generalized text) = inr text

text_there : (t : TimeValue) → time_from (text_of t) ≡ t
unfolding text_of
text_there (Utc text) = refl
text_there (Generalized text) = refl

text_back : (x : List ℕ ⊎ List ℕ) → text_of (time_from x) ≡ x
unfolding text_of
text_back (inl text) = refl
text_back (inr text) = refl

abbrev spelled : TimeValue → List ℕ
spelled t =
    enc_either 23 refl utc_text_in (λ b. b) (λ b. is_utc b ≡ true) utc utc_body 24 refl generalized_text_in (λ b. b)
    (λ b. is_generalized b ≡ true) generalized generalized_body time refl refl refl (text_of t)

abbrev GoodText : TimeValue → Type 0
GoodText t =
    GoodEither 23 refl utc_text_in (λ b. b) (λ b. is_utc b ≡ true) utc utc_body 24 refl generalized_text_in (λ b. b)
    (λ b. is_generalized b ≡ true) generalized generalized_body time refl refl refl (text_of t)

same_time : (t : TimeValue) → spelled t ≡ time_element t
unfolding text_of
same_time (Utc text) = refl
same_time (Generalized text) = refl

good_text : (t : TimeValue) → GoodText t → GoodTime t
unfolding text_of
good_text (Utc text) h = h
good_text (Generalized text) h = h

text_good : (t : TimeValue) → GoodTime t → GoodText t
unfolding text_of
text_good (Utc text) h = h
text_good (Generalized text) h = h

pub time_reader : IsReader time_at time_element GoodTime times Always Anything
unfolding time_at
time_reader = alike_reader spelled time_element GoodText GoodTime same_time good_text text_good time_at times Always
    Always Anything (λ r l. l)
    (named_reader time_from text_of text_there _ _ _ times Always Anything texts_reader (λ x h. text_back x))
