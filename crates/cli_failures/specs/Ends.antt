-- The moments and the ends of algorithms that words state.
use Rattle.std.specs.Prelude.{◌≡◌, ℕ, true, false, List, ◌++◌, codes}
use Rattle.der_core.specs.Times.{is_generalized}
use Rattle.der_time.specs.Moments.{generalized_moment}
use Rattle.digests.specs.Algorithms.{name_of}
use Rattle.check_evidence.specs.Grounds.{AlgEnd}

-- the text is the contents of a GeneralizedTime, which denote this moment
pub record IsTimeIn (text : List ℕ) (m : ℕ) : Type 0 where
  pub is_time : is_generalized text ≡ true
  pub moment : m ≡ generalized_moment text

abbrev pub StatesNoTime : (text : List ℕ) → Type 0
StatesNoTime text = is_generalized text ≡ false

-- the word is the name of the algorithm, `=`, and the last moment at which it holds
pub record IsEndIn (word : List ℕ) (e : AlgEnd) : Type 0 where
  pub time : List ℕ
  pub parts : word ≡ name_of e.alg ++ (codes "=" ++ time)
  pub last : IsTimeIn time e.last

abbrev pub StatesNoEnd : (word : List ℕ) → Type 0
StatesNoEnd word = (e : AlgEnd) → IsEndIn word e → ⊥
