use Rattle.std.proofs.Common.{◌≡◌, ◌≢◌, ◌∙◌, List, ℕ, ap, subst, rules}
use Rattle.std.specs.Str.{IsUtf8}
use Rattle.cli_failures.specs.Files.{path_below}
use Rattle.cli_renewing.proofs.Zips.{all_push}
use Rattle.cli_rehashing.specs.Rehashing.{IsApart}
use Rattle.cli_rehashing.proofs.Walks.{first_of, goes_on}
use Rattle.cli_rehashing.proofs.request.test_apart.Goals as goal

pub loop-sum-preserved : goal.loop-sum-preserved
loop-sum-preserved g c =
    let named : c.text_of.result.now ≡ c.in-Some.sum.name =
    c.text_of.ensures ∙ c.as_slice.ensures.value ∙ c.in_ok-name.ensures in
    let there : c.as_str.result.now ≡ path_below c.args.words.now.into.now c.text_of.result.now = search rules in
    record {
      named = (first_of (λ s. IsUtf8 s.name) c.in-Some.sum _ _ c.in-Some.ensures c.loop-sum.invariant.named).1;
      walked = goes_on (λ front. IsApart c.args.words.now front) _ _ c.in-Some.sum _ c.in-Some.ensures
          c.loop-sum.invariant.walked (λ front. IsApart c.args.words.now front)
          (all_push (λ s. c.args.words.now.out.now ≢ path_below c.args.words.now.into.now s.name)
          c.loop-sum.invariant.walked.front c.in-Some.sum c.loop-sum.invariant.walked.so
          (subst (λ (path : List ℕ). c.args.words.now.out.now ≢ path)
          (there ∙ ap (λ (n : List ℕ). path_below c.args.words.now.into.now n) named) c.in_ok-apart.ensures.apart));
    }
