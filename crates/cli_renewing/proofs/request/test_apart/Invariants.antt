use Rattle.std.proofs.Common.{◌≢◌, take}
use Rattle.std.specs.List.{AllByRecursion}
use Rattle.cli_renewing.proofs.request.test_apart.Given as goal

-- the request goes into the file of none of the records so far
abbrev pub invariant-loop-path : goal.invariant-loop-path
invariant-loop-path g l =
    AllByRecursion (λ path. l.words.out.now ≢ path.now) (take l.path-index l.words.records.items)
