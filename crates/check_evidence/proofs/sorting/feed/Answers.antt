use Rattle.std.proofs.Common.{◌≡◌, ◌∙◌, List, ℕ, ◌+◌, ◌++◌, ap, append_assoc, subst, take}
use Rattle.digests.specs.Selection.{FedWanted}
use Rattle.std.specs.List.{concat}
use Rattle.check_evidence.proofs.Sorted.{concat_more}
use Rattle.check_evidence.proofs.sorting.feed.Goals as goal

pub loop-value-preserved : goal.loop-value-preserved
loop-value-preserved c =
    let h = c.loop-value.invariant in
    let values = c.args.values.now in
    let i = c.loop-value.value-index in
    let more : concat (take i values) ++ c.bytes.result.now ≡ concat (take (i + 1) values) =
    concat_more values i c.value-item.result c.bytes.result.now c.loop-value-test.true c.value-item.is
    c.bytes.ensures in
    record {
      set = c.update.ensures.set ∙ h.set;
      fed = λ m k. subst (λ (x : List ℕ). FedWanted c.update.new.self x)
          (append_assoc m (concat (take i values)) c.bytes.result.now ∙ ap (λ (x : List ℕ). m ++ x) more)
          (c.update.ensures.fed (m ++ concat (take i values)) (h.fed m k));
    }
