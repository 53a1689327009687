-- How a run ends: which records have a new chain, which request is made, and why not.
use Rattle.std.proofs.Common.{◌≡◌, ◌⊎◌, ℕ, List, Option, Some, None, Result, Ok, Err, inl, inr}
use Rattle.std.specs.Prelude.{IfOk, codes}
use Rattle.digests.specs.Algorithms.{name_of}
use Rattle.digests.specs.declared.algorithm.Alg.{Alg}
use Rattle.evidence_sums.specs.Records.{RecordValue}
use Rattle.cli_tasks.specs.declared.task.RehashRequestWords.{RehashRequestWords}
use Rattle.cli_tasks.specs.declared.task.RehashWords.{RehashWords}
use Rattle.cli_failures.specs.declared.failure.Failure.{Failure}
use Rattle.cli_failures.specs.declared.failure.Failure.TheVariants as failure
use Rattle.cli_failures.specs.Causes.{Names}
use Rattle.cli_failures.specs.Files.{IsHeld}
use Rattle.cli_making.specs.Given.{AreGiven, GivesNot}
use Rattle.cli_making.proofs.Givens.{given_fails, gives_not}
use Rattle.cli_renewing.specs.Keeping.{system_ways}
use Rattle.cli_renewing.specs.Runs.{IsRequestOn}
use Rattle.cli_rehashing.specs.Footings.{AreLineFootings}
use Rattle.cli_rehashing.specs.Lines.{AreLines}
use Rattle.cli_rehashing.specs.Rehashing.{IsApart, IsRehashRequest, IsRequested, asked_folder, given_folder}
use Rattle.cli_rehashing.specs.Unrehashed.{AreNotAnew, HaveNoTree, MakesNoRehashRequest}
use Rattle.cli_rehashing.specs.Unrehashed.{RehashesNot}

-- ---- the request

module _ {F : Type 0} (holds contents : F → Option (List ℕ)) (words : RehashRequestWords) where
  module _ (alg : Alg) (text : List ℕ) (sums : List RecordValue) (are : AreLines alg text sums)
      (apart : IsApart words sums) where
    pub octets_if : {O E : Type 0} (items : O → List ℕ) (r : Result O E)
        → IfOk r (λ o.
        IsRequestOn (λ fs. AreLineFootings (system_ways holds contents) None (asked_folder words) sums fs) (items o))
        → IfOk r (λ o. (request : IsRehashRequest (system_ways holds contents) (asked_folder words) alg text (items o))
        × IsApart words request.sums)
    octets_if items (Err e) made = tt
    octets_if items (Ok o) made = (record { sums = sums; are = are; made = made }, apart)

  module _ (alg : Alg) (named : words.alg.now ≡ name_of alg) where
    pub octets_refused : (text : List ℕ) → IsHeld holds text → (f : Failure)
        → Names (codes "request") f ⊎ ((f ≡ failure.Memory)
        ⊎ HaveNoTree (system_ways holds contents) None (asked_folder words) alg text f)
        → MakesNoRehashRequest holds contents words f
    octets_refused text held f (inl names) = inl names
    octets_refused text held f (inr (inl m)) = inr (inl m)
    octets_refused text held f (inr (inr none)) = inr (inr (inl (inr (alg, named, inr (text, held, none)))))

    pub requested : (text : List ℕ) → IsHeld holds text → (octets : List ℕ)
        → IsRehashRequest (system_ways holds contents) (asked_folder words) alg text octets
        → IsRequested holds contents words
    requested text held octets made = record {
      alg = alg;
      named = named;
      text = text;
      held = held;
      octets = octets;
      made = made;
    }

  -- it is there, and could not be written
  pub unwritten : (f : Failure) → IsRequested holds contents words
      → (f ≡ failure.Memory) ⊎ (f ≡ failure.Write words.out) → MakesNoRehashRequest holds contents words f
  unwritten f made (inl m) = inr (inl m)
  unwritten f made (inr lost) = inr (inr (inr (made, lost)))

-- ---- the records

-- what the words of a command name isn't given; or it is, and the records are not all renewed
module _ {F : Type 0} (holds contents : F → Option (List ℕ)) (words : RehashWords) where
  abbrev Fails : Alg → (text token : List ℕ) → Failure → Type 0
  Fails alg text token f = AreNotAnew (system_ways holds contents) None None (given_folder words) alg text token f

  pub none_given : (f : Failure) → GivesNot holds (Some words.alg.now) words.sums words.token (λ _ _ _ _. ⊥) f
      → RehashesNot holds contents words f
  none_given f why = gives_not holds (Some words.alg.now) words.sums words.token Fails f why

  pub none_anew : (f : Failure) (alg : Alg) (text token : List ℕ) → AreGiven holds (Some words.alg.now) alg text token
      → Fails alg text token f → RehashesNot holds contents words f
  none_anew f alg text token are why =
      given_fails holds (Some words.alg.now) words.sums words.token Fails f alg text token are why
