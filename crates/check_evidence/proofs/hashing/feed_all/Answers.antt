use Rattle.std.proofs.Common.{◌≡◌, ◌∙◌, List, ℕ, ◌++◌, refl, sym, ap, append-nil, subst}
use Rattle.std.specs.List.{concat}
use Rattle.digests.specs.Selection.{FedWanted}
use Rattle.check_evidence.proofs.Joining.{fed_further}
use Rattle.check_evidence.proofs.hashing.feed_all.Goals as goal

pub loop-value-init : goal.loop-value-init
loop-value-init c = record {
  set = refl;
  fed = λ m k. (m, k, ap (λ (vs : List (List ℕ)). m ++ concat vs) (sym c.again-left.ensures));
}

pub loop-value-preserved : goal.loop-value-preserved
loop-value-preserved c =
    let h = c.loop-value.invariant in
    let next : concat c.loop-value.left ≡ c.bytes.result.now ++ concat c.in-Some.others =
    ap (λ (vs : List (List ℕ)). concat vs) c.in-Some.ensures
    ∙ ap (λ (v : List ℕ). v ++ concat c.in-Some.others) (sym c.bytes.ensures) in
    record {
      set = c.update.ensures.set ∙ h.set;
      fed = λ m k. let f = h.fed m k in (
        f.0 ++ c.bytes.result.now,
        c.update.ensures.fed f.0 f.1,
        fed_further (m ++ concat c.args.values.now) f.0 c.bytes.result.now (concat c.loop-value.left)
            (concat c.in-Some.others) f.2 next,
      );
    }

pub returns-clause-fed : goal.returns-clause-fed
returns-clause-fed c = λ m k. let f = c.loop-value.invariant.fed m k in
    subst (λ (x : List ℕ). FedWanted c.loop-value.hashers x)
    (sym (f.2 ∙ ap (λ (vs : List (List ℕ)). f.0 ++ concat vs) c.in_default.ensures ∙ append-nil f.0)) f.1
