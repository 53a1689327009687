-- Records that are tested and put, one line after the other.
use Rattle.std.proofs.Common.{◌≡◌, ℕ, List, [], ◌∷◌, ◌++◌, Option}
use Rattle.cli_failures.specs.declared.failure.Failure.{Failure}
use Rattle.cli_making.specs.Adding.{Adds}
use Rattle.cli_renewing.specs.Keeping.{Kept, Ways}
use Rattle.cli_renewing.specs.Records.{ArePut, AreTested, IsPutAt, IsTested, IsUnputAt, IsUntested, IsUntestedAt}
use Rattle.cli_renewing.specs.Records.{Renewal, StopsAtPut}
use Rattle.cli_renewing.proofs.Puts.{none_put, one_put, one_tested, stops_at, untested_at}
use Rattle.cli_rehashing.proofs.Walks.{Walked, along, begins, goes_on}

module _ {A : Type 0} (ways : Ways) (r : Renewal A) where
  abbrev News : (before after : Option (List Kept)) → List A → Type 0
  News before after front = (news : List (Option (List ℕ))) × ArePut ways before after r front news

  pub tests_begin : (left xs : List A) → left ≡ xs → Walked (AreTested ways r) left xs
  tests_begin left xs is = begins (AreTested ways r) left xs is tt

  pub put_begins : (put : Option (List Kept)) (left xs : List A) → left ≡ xs → Walked (News put put) left xs
  put_begins put left xs is = begins (News put put) left xs is ([], none_put ways r put)

  module _ (x : A) (left others xs : List A) (is : left ≡ x ∷ others) where
    pub tested_on : Walked (AreTested ways r) left xs → IsTested ways r x → Walked (AreTested ways r) others xs
    tested_on w t = goes_on (AreTested ways r) left xs x others is w (AreTested ways r)
        (one_tested ways r w.front x w.so t)

    pub untested_there : Walked (AreTested ways r) left xs → (f : Failure)
        → IsUntestedAt ways r x f → IsUntested ways r xs f
    untested_there w f why = untested_at ways r xs w.front x others (along (AreTested ways r) left xs x others is w) f
        w.so why

    module _ (before mid after : Option (List Kept)) (w : Walked (News before mid) left xs) where
      pub put_on : IsPutAt ways mid after r x → Walked (News before after) others xs
      put_on h = goes_on (News before mid) left xs x others is w (News before after)
          (w.so.0 ++ h.new ∷ [], one_put ways r before mid after w.front w.so.0 x w.so.1 h)

      pub put_stops : (f : Failure) → IsUnputAt ways r x f → Adds mid after []
          → StopsAtPut ways before after r xs f
      put_stops f why none = stops_at ways r xs w.front x others (along (News before mid) left xs x others is w) f
          before mid after w.so.0 w.so.1 none why
