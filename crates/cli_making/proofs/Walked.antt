-- What a walk along the lines of sums has shown.
use Rattle.std.proofs.Common.{◌≡◌, ◌+◌, ◌++◌, ℕ, not, true, List, [], ◌∷◌, Option, refl, sym, subst}
use Rattle.std.proofs.Common.{ap, ◌∙◌, append_assoc, append-nil}
use Rattle.std.specs.Str.{is_utf8}
use Rattle.std.specs.List.{AllByRecursion}
use Rattle.evidence_trees.specs.HashTrees.{HashTree}
use Rattle.evidence_sums.specs.Lines.{first_number}
use Rattle.evidence_sums.specs.SumLines.{SumValue}
use Rattle.cli_failures.specs.declared.failure.Failure.{Failure}
use Rattle.cli_making.specs.Adding.{Adds}
use Rattle.cli_making.specs.Placing.{Placed, Ways}
use Rattle.cli_making.specs.Making.{AreFiles, ArePut, EachFile, IsFileOf}
use Rattle.cli_making.specs.Unmade.{FailsAt, StopsAt}
use Rattle.cli_making.proofs.Adding.{adds_more, adds_none, adds_nothing}

abbrev Sums : Type 0
Sums = List SumValue

abbrev Files : Type 0
Files = List Placed

-- if it holds of all that are left, it holds of all
abbrev pub AllIf : (SumValue → Type 0) → (left sums : Sums) → Type 0
AllIf P left sums = AllByRecursion P left → AllByRecursion P sums

pub next_all : (P : SumValue → Type 0) (sum : SumValue) (left others sums : Sums) → left ≡ sum ∷ others → P sum
    → AllIf P left sums → AllIf P others sums
next_all P sum left others sums is p whole rest =
    whole (subst (λ (ss : Sums). AllByRecursion P ss) (sym is) (p, rest))

-- it holds of the first that is left, and of the others
pub first_of : (P : SumValue → Type 0) (sum : SumValue) (left others : Sums) → left ≡ sum ∷ others
    → AllByRecursion P left → P sum × AllByRecursion P others
first_of P sum left others is all = subst (λ (ss : Sums). AllByRecursion P ss) is all

-- none is left
pub all_walked : (P : SumValue → Type 0) (left sums : Sums) → left ≡ [] → AllIf P left sums → AllByRecursion P sums
all_walked P left sums is whole = whole (subst (λ (ss : Sums). AllByRecursion P ss) (sym is) tt)

-- ---- names

-- where the name of the first that is left is UTF-8, the first line whose name isn't is one of the others
pub next_number : (sum : SumValue) (left others : Sums) (line : ℕ) → left ≡ sum ∷ others → is_utf8 sum.name ≡ true
    → first_number (λ s. not (is_utf8 s.name)) (line + 1) others ≡ first_number (λ s. not (is_utf8 s.name)) line left
next_number sum left others line is text = rw (is, text) refl

-- ---- files

-- the file of a line, of those of all
pub file_at : (folder : List ℕ) (tree : HashTree) (token : List ℕ) (before : Sums) (s : SumValue) (after : Sums)
    (files : Files) → AreFiles folder tree token (before ++ s ∷ after) files
    → (p : Placed) × IsFileOf folder tree token s p
file_at folder tree token [] s after [] are = absurd are
file_at folder tree token [] s after (p ∷ files) are = (p, are.0)
file_at folder tree token (b ∷ before) s after [] are = absurd are
file_at folder tree token (b ∷ before) s after (p ∷ files) are =
    file_at folder tree token before s after files are.1

module _ (Is : Placed → Type 0) (folder : List ℕ) (tree : HashTree) (token : List ℕ) where
  -- the lines before those that are left have files of which this is so
  pub record Walked (left sums : Sums) : Type 0 where
    pub before : Sums
    pub all : sums ≡ before ++ left
    pub files : Files
    pub are : AreFiles folder tree token before files
    pub each : AllByRecursion Is files

  pub more_files : (before : Sums) (files : Files) (s : SumValue) (p : Placed) → AreFiles folder tree token before files
      → IsFileOf folder tree token s p → AreFiles folder tree token (before ++ s ∷ []) (files ++ p ∷ [])
  more_files [] [] s p are is = (is, tt)
  more_files [] (q ∷ files) s p are is = absurd are
  more_files (b ∷ before) [] s p are is = absurd are
  more_files (b ∷ before) (q ∷ files) s p are is = (are.0, more_files before files s p are.1 is)

  pub more_each : (files : Files) (p : Placed) → AllByRecursion Is files → Is p → AllByRecursion Is (files ++ p ∷ [])
  more_each [] p each is = (is, tt)
  more_each (q ∷ files) p each is = (each.0, more_each files p each.1 is)

  abbrev pub walk_begins : (sums left : Sums) → left ≡ sums → Walked left sums
  walk_begins sums left is = record { before = []; all = sym is; files = []; are = tt; each = tt }

  module _ (sum : SumValue) (left others sums : Sums) (is : left ≡ sum ∷ others) (w : Walked left sums) where
    pub along : sums ≡ w.before ++ sum ∷ others
    along = w.all ∙ ap (λ (l : Sums). w.before ++ l) is

    abbrev pub walk_on : (p : Placed) → IsFileOf folder tree token sum p → Is p → Walked others sums
    walk_on p of so = record {
      before = w.before ++ sum ∷ [];
      all = along ∙ sym (append_assoc w.before (sum ∷ []) others);
      files = w.files ++ p ∷ [];
      are = more_files w.before w.files sum p w.are of;
      each = more_each w.files p w.each so;
    }

    abbrev pub walk_stops : (Fails : SumValue → Failure → Type 0) (f : Failure) → Fails sum f
        → StopsAt Fails folder tree token sums f
    walk_stops Fails f why = record {
      before = w.before;
      line = sum;
      after = others;
      all = along;
      files = w.files;
      are = w.are;
      why = why;
    }

  -- the same of a walk that tests
  pub test_stops : (ways : Ways) → (sum : SumValue) (left others sums : Sums) → left ≡ sum ∷ others
      → (w : Walked left sums) → (f : Failure) → FailsAt ways folder tree token sum f
      → (stop : StopsAt (λ s g. FailsAt ways folder tree token s g) folder tree token sums f)
      × AllByRecursion Is stop.files
  test_stops ways sum left others sums is w f why =
      (walk_stops sum left others sums is w (λ s g. FailsAt ways folder tree token s g) f why, w.each)

  abbrev pub walk_ends : (left sums : Sums) → left ≡ [] → Walked left sums → EachFile Is folder tree token sums
  walk_ends left sums is w =
      let all : sums ≡ w.before = w.all ∙ ap (λ (l : Sums). w.before ++ l) is ∙ append-nil w.before in
      record {
        files = w.files;
        are = subst (λ (ss : Sums). AreFiles folder tree token ss w.files) (sym all) w.are;
        each = w.each;
      }

  -- and these were put
  abbrev pub Written : (before after : Option Files) → (left sums : Sums) → Type 0
  Written before after left sums = (w : Walked left sums) × Adds before after w.files

  pub write_begins : (sums left : Sums) (put : Option Files) → left ≡ sums → Written put put left sums
  write_begins sums left put is = (walk_begins sums left is, adds_none put)

  pub write_ends : (before after : Option Files) (left sums : Sums) → left ≡ [] → Written before after left sums
      → ArePut Is before after folder tree token sums
  write_ends before after left sums is h = record { of_each = walk_ends left sums is h.0; put = h.1 }

  module _ (first before after : Option Files) (sum : SumValue) (left others sums : Sums) (is : left ≡ sum ∷ others)
      (h : Written first before left sums) where
    pub write_on : (p : Placed) × IsFileOf folder tree token sum p × Is p × Adds before after (p ∷ [])
        → Written first after others sums
    write_on (p, of, so, adds) = (
      walk_on sum left others sums is h.0 p of so,
      adds_more first before after h.0.files (p ∷ []) h.1 adds,
    )

    pub write_stops : (ways : Ways) (f : Failure) → FailsAt ways folder tree token sum f → Adds before after []
        → (stop : StopsAt (λ s g. FailsAt ways folder tree token s g) folder tree token sums f)
        × Adds first after stop.files
    write_stops ways f why adds = (
      walk_stops sum left others sums is h.0 (λ s g. FailsAt ways folder tree token s g) f why,
      adds_nothing first before after h.0.files h.1 adds,
    )
