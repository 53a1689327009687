-- What a caller states for a check of an evidence record: data objects, ends of algorithms, a moment.
use Rattle.std.specs.Prelude.{◌≡◌, ◌≢◌, ◌<◌, ◌==◌, ◌⊎◌, ℕ, Bool, List, [], ◌∷◌, length, take, drop, sum, Contains}
use Rattle.std.specs.Prelude.{codes}
use Rattle.std.specs.Prelude.{Option, Some, None}
use Rattle.std.specs.List.{AllZip, slice_split}
use Rattle.std.specs.Str.{IsUtf8}
use Rattle.check_evidence.specs.Grounds.{AlgEnd}
use Rattle.cli_failures.specs.Causes.{Names}
use Rattle.cli_failures.specs.Ends.{IsEndIn, IsTimeIn, StatesNoEnd, StatesNoTime}
use Rattle.cli_failures.specs.declared.failure.Failure.{Failure}

-- An evidence record; the data objects that it should cover, one after the other, and the length of each; texts that
-- state ends of algorithms and a moment; and whether its first list may have no hash values but those of the data.
pub record EvidenceCheck : Type 0 where
  pub evidence : List ℕ
  pub joined : List ℕ
  pub lengths : List ℕ
  pub ends : List ℕ
  pub at : List ℕ
  pub whole : Bool

-- the parts that have these lengths
abbrev pub parts_of : (lengths joined : List ℕ) → List (List ℕ)
parts_of [] joined = []
parts_of (n ∷ lengths) joined = take n joined ∷ parts_of lengths (drop n joined)

abbrev pub data_of : EvidenceCheck → List (List ℕ)
data_of i = parts_of i.lengths i.joined

-- the words of a text, with one space between them
abbrev pub words_of : (text : List ℕ) → List (List ℕ)
words_of text = slice_split (λ b. b == 32) text

-- a text states these ends, a word for each; without an octet it states none
abbrev pub StatesEnds : (text : List ℕ) → List AlgEnd → Type 0
StatesEnds text ends = ((text ≡ []) × (ends ≡ [])) ⊎ (IsUtf8 text × AllZip IsEndIn (words_of text) ends)

-- a text states this moment; without an octet it states none
abbrev pub StatesAt : (text : List ℕ) → Option ℕ → Type 0
StatesAt text None = text ≡ []
StatesAt text (Some m) = IsUtf8 text × IsTimeIn text m

-- the caller states these ends and this moment, and the lengths are those of parts of the octets
pub record States (i : EvidenceCheck) (ends : List AlgEnd) (at : Option ℕ) : Type 0 where
  pub of_ends : StatesEnds i.ends ends
  pub of_at : StatesAt i.at at
  pub of_lengths : sum i.lengths ≡ length i.joined

-- a word of the text states no end
abbrev pub RefusesWord : (text : List ℕ) → Failure → Type 0
RefusesWord text f = Names (codes "end") f × ((word : List ℕ) × Contains (words_of text) word × StatesNoEnd word)

-- there is a text, and a word of it states no end
abbrev pub RefusesEnds : (text : List ℕ) → Failure → Type 0
RefusesEnds text f = (0 < length text) × (RefusesWord text f ⊎ (Names (codes "end") f × (IsUtf8 text → ⊥)))

-- there is a text, and it states no moment
abbrev pub RefusesAt : (text : List ℕ) → Failure → Type 0
RefusesAt text f = Names (codes "at") f × (0 < length text) × ((IsUtf8 text → ⊥) ⊎ StatesNoTime text)

-- the lengths are not those of parts of the octets
abbrev pub RefusesLengths : (lengths joined : List ℕ) → Failure → Type 0
RefusesLengths lengths joined f = Names (codes "lengths") f × (sum lengths ≢ length joined)

-- the first of these that is not as it must be is named: ends, moment, lengths
abbrev pub RefusesStated : EvidenceCheck → Failure → Type 0
RefusesStated i f = RefusesEnds i.ends f ⊎ (((ends : List AlgEnd) × StatesEnds i.ends ends) × (RefusesAt i.at f
    ⊎ (((at : Option ℕ) × StatesAt i.at at) × RefusesLengths i.lengths i.joined f)))
