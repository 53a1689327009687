-- The questions of chains are those of each, one after the other.
use Rattle.std.proofs.Common.{◌≡◌, ℕ, List, [], ◌∷◌, ◌++◌, Result, refl, sym, ap, subst, ◌∙◌, append_assoc}
use Rattle.std.proofs.lemmas.List.Concat.{flat_map-cons}
use Rattle.devices.specs.declared.sink.SinkFault.{SinkFault}
use Rattle.trust_lists.specs.Entries.{EntryValue}
use Rattle.trust_lists.specs.Asking.{Asked}
use Rattle.evidence_types.specs.StampValue.{StampValue}
use Rattle.check_evidence.specs.Places.{stamps_of}
use Rattle.check_questions.specs.FileQuestions.{Joined, InOrder, OfToken}
use Rattle.check_questions.specs.AskingSteps.{PutsLines}
use Rattle.evidence_questions.specs.RecordQuestions.{OfStamp, OfStamps}

-- what belongs to two lists, one after the other, belongs to the first and then to the second
pub parted : {A B : Type 0} (Has : A → List B → Type 0) (xs ys : List A) (qs : List B) → InOrder Has (xs ++ ys) qs
    → Joined (InOrder Has xs) (InOrder Has ys) qs
parted Has [] ys qs h = record { first = []; is_first = refl; others = qs; are_others = h; is = refl }
parted {A} {B} Has (x ∷ xs) ys qs j =
    let k = parted Has xs ys j.others j.are_others in
    record {
      first = j.first ++ k.first;
      is_first = record {
        first = j.first;
        is_first = j.is_first;
        others = k.first;
        are_others = k.is_first;
        is = refl;
      };
      others = k.others;
      are_others = k.are_others;
      is = j.is ∙ ap (λ (l : List B). j.first ++ l) k.is ∙ sym (append_assoc j.first k.first k.others);
    }

-- the questions of chains are those of the first of them and of the others
pub chains_parted : (trust : List EntryValue) (left others : List (List StampValue)) (chain : List StampValue)
    → left ≡ chain ∷ others → (qs : List Asked) → OfStamps trust (stamps_of left) qs
    → Joined (OfStamps trust chain) (OfStamps trust (stamps_of others)) qs
chains_parted trust left others chain is qs are = parted (OfStamp trust) chain (stamps_of others) qs
    (subst (λ (l : List StampValue). OfStamps trust l qs)
    (ap stamps_of is ∙ flat_map-cons (λ (c : List StampValue). c) chain others) are)

-- chains of none have no stamps
pub no_chains : (left : List (List StampValue)) → left ≡ [] → stamps_of left ≡ []
no_chains left is = ap stamps_of is

-- what was put of a token was put of the stamp that has it
pub of_its_token : (trust : List EntryValue) (s : StampValue) (token : List ℕ) (r : Result (Unit {0}) SinkFault)
    (tells : Type 0) (t0 t1 : List ℕ) (c0 c1 : ℕ) → token ≡ s.stamp
    → PutsLines (OfToken trust token) r tells t0 t1 c0 c1 → PutsLines (OfStamp trust s) r tells t0 t1 c0 c1
of_its_token trust s token r tells t0 t1 c0 c1 is put qs are =
    put qs (subst (λ (x : List ℕ). OfToken trust x qs) (sym is) are)
