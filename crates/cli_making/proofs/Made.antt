-- How making records fails, and what was made.
use Rattle.std.proofs.Common.{◌≡◌, ◌⊎◌, ℕ, List, Option, None, Result, Ok, Err, inl, inr, subst}
use Rattle.std.specs.Prelude.{IfErr, OnOk, option_copied}
use Rattle.digests.specs.declared.algorithm.Alg.{Alg}
use Rattle.digests.specs.declared.value.Digest.{Digest}
use Rattle.evidence_trees.specs.HashTrees.{HashTree}
use Rattle.evidence_sums.specs.SumLines.{SumValue}
use Rattle.evidence_sums.specs.Sums.{sums_of}
use Rattle.cli_tasks.specs.declared.task.MakeWords.{MakeWords}
use Rattle.cli_failures.specs.declared.failure.Failure.{Failure}
use Rattle.cli_failures.specs.declared.failure.Failure.TheVariants as failure
use Rattle.cli_making.specs.declared.stamp.Stamp.{Stamp}
use Rattle.cli_making.specs.Given.{AreGiven, GivesNot}
use Rattle.cli_making.specs.Adding.{Adds}
use Rattle.cli_making.specs.Placing.{Placed, Ways, system_ways}
use Rattle.cli_making.specs.Sums.{AreNamed, AreStated, IsMisnamed, IsRootOf, IsTreeOver, LacksMemory, RefusesSums}
use Rattle.cli_making.specs.Sums.{StatesNone}
use Rattle.cli_making.specs.Making.{AreFiles, AreMade, ArePut, AreTested, EachFile}
use Rattle.cli_making.specs.Stamps.{IsStamp, StampsNoTree, StampsTree}
use Rattle.cli_making.specs.Unmade.{FailsAt, IsNotPut, IsUnmade, IsUntested, MakesNoRecords, StopsAt}
use Rattle.cli_making.proofs.Givens.{given_fails, gives_not}
use Rattle.cli_making.proofs.Records.{not_put}
use Rattle.cli_making.proofs.Stamps.{as_of}
use Rattle.cli_making.proofs.Stated.{formed_if}
use Rattle.cli_making.proofs.Adding.{adds_none}
use Rattle.cli_making.proofs.Walked.{file_at}

-- a text of sums is refused: why it states none, why memory ran out behind that, or a name
module _ (alg : Alg) (text : List ℕ) where
  pub not_stated : (f : Failure) → LacksMemory alg text f ⊎ StatesNone alg text f → RefusesSums alg text f
  not_stated f (inl m) = inl m
  not_stated f (inr none) = inr (inl none)

  module _ (sums : List SumValue) (stated : sums_of alg text ≡ Ok sums) where
    pub lacking : (f : Failure) → f ≡ failure.Memory → RefusesSums alg text f
    lacking f m = inl (m, formed_if alg text sums stated)

    pub misnamed : (f : Failure) → (f ≡ failure.Memory) ⊎ IsMisnamed sums f → RefusesSums alg text f
    misnamed f (inl lack) = lacking f lack
    misnamed f (inr names) = inr (inr (sums, stated, names))

module _ (ways : Ways) (put : Option (List Placed)) (folder : List ℕ) (alg : Alg) (text token : List ℕ) where
  pub none_stated : (f : Failure) → RefusesSums alg text f → IsUnmade ways put put folder alg text token f
  none_stated f why = inl (inl why, adds_none put)

  module _ (sums : List SumValue) (stated : sums_of alg text ≡ Ok sums) (named : AreNamed sums) where
    pub lacks : (f : Failure) → f ≡ failure.Memory → IsUnmade ways put put folder alg text token f
    lacks f m = none_stated f (lacking alg text sums stated f m)

    module _ (tree : HashTree) (over : IsTreeOver alg sums tree) where
      are : (root : Digest) → IsRootOf tree root → AreStated alg text sums tree root
      are root is_root = record { stated = stated; named = named; over = over; is_root = is_root }

      pub not_stamped : (f : Failure) → StampsNoTree tree token f → IsUnmade ways put put folder alg text token f
      not_stamped f (root, is_root, not) =
          inl (inr (sums, tree, root, are root is_root, inl not), adds_none put)

      module _ (s : Stamp) (has : (s.tree.now ≡ tree) × (s.token.now ≡ token)) (stamps : IsStamp s) where
        its : StampsTree tree token s.moment
        its = as_of s tree token has (λ t octets. StampsTree t octets s.moment) stamps.0

        pub not_tested : (f : Failure) → IsUntested ways folder s.tree.now s.token.now sums f
            → IsUnmade ways put put folder alg text token f
        not_tested f why =
            let untested = as_of s tree token has (λ t octets. IsUntested ways folder t octets sums f) why in
            inl (inr (sums, tree, its.0, are its.0 its.1, inr (s.moment, its.2, untested)), adds_none put)

        module _ (tested : EachFile ways.can folder s.tree.now s.token.now sums) (after : Option (List Placed)) where
          abbrev ready : AreTested ways folder alg text token
          ready = record {
            sums = sums;
            tree = tree;
            root = its.0;
            stated = are its.0 its.1;
            moment = s.moment;
            stamped = its.2;
            tested = as_of s tree token has (λ t octets. EachFile ways.can folder t octets sums) tested;
          }

          abbrev Stops : HashTree → List ℕ → Failure → Type 0
          Stops t octets f = (stop : StopsAt (λ l g. FailsAt ways folder t octets l g) folder t octets sums f)
              × Adds put after stop.files

          abbrev stops_put : (f : Failure)
              → (stop : StopsAt (λ l g. FailsAt ways folder tree token l g) folder tree token sums f)
              → StopsAt (λ l g. IsNotPut ways folder tree token l g) folder tree token sums f
          stops_put f stop = record {
            before = stop.before;
            line = stop.line;
            after = stop.after;
            all = stop.all;
            files = stop.files;
            are = stop.are;
            why = not_put tree token stop.line ways folder over.leaves.rising
                (file_at folder tree token stop.before stop.line stop.after ready.tested.files
                (subst (λ (ss : List SumValue). AreFiles folder tree token ss ready.tested.files) stop.all
                ready.tested.are)) f stop.why;
          }

          pub stopped_if : {T : Type 0} (r : Result T Failure) → IfErr r (Stops s.tree.now s.token.now)
              → IfErr r (IsUnmade ways put after folder alg text token)
          stopped_if (Ok t) why = tt
          stopped_if (Err f) why =
              let (stop, adds) = as_of s tree token has (λ t octets. Stops t octets f) why in
              inr (record { ready = ready; stop = stops_put f stop; put = adds })

          pub made_if : {T E : Type 0} (Did : Placed → Type 0) (r : Result T E)
              → OnOk r (ArePut Did put after folder s.tree.now s.token.now sums)
              → OnOk r (AreMade ways Did put after folder alg text token)
          made_if Did (Err e) written = tt
          made_if Did (Ok t) written = record {
            ready = ready;
            written = as_of s tree token has (λ t octets. ArePut Did put after folder t octets sums) written;
          }

-- of the words of a command: what they name isn't given; or it is, and no records are made of it, or not all
module _ {F : Type 0} (holds : F → Option (List ℕ)) (words : MakeWords) where
  abbrev Fails : Alg → (text token : List ℕ) → Failure → Type 0
  Fails alg text token f = IsUnmade (system_ways holds) None None words.into.now alg text token f

  pub none_given : (f : Failure)
      → GivesNot holds (option_copied words.alg) words.sums words.token (λ _ _ _ _. ⊥) f → MakesNoRecords holds words f
  none_given f why = gives_not holds (option_copied words.alg) words.sums words.token Fails f why

  pub none_made : (f : Failure) (alg : Alg) (text token : List ℕ)
      → AreGiven holds (option_copied words.alg) alg text token → Fails alg text token f
      → MakesNoRecords holds words f
  none_made f alg text token are why =
      given_fails holds (option_copied words.alg) words.sums words.token Fails f alg text token are why
