use Rattle.std.proofs.Common.{◌≡◌, ◌∙◌, List, ℕ, true, ◌++◌, refl, sym, ap, subst}
use Rattle.der_core.specs.Lists.{is_less}
use Rattle.std.specs.List.{concat}
use Rattle.check_evidence.specs.Joining.{put_in}
use Rattle.check_evidence.proofs.Joining.{fed_further, before_put_in}
use Rattle.check_evidence.proofs.hashing.feed_before.Goals as goal

pub loop-value-init : goal.loop-value-init
loop-value-init c = record {
  set = refl;
  fed = λ m k.
      (m, k, ap (λ (vs : List (List ℕ)). m ++ concat (put_in c.args.node.now vs)) (sym c.again-left.ensures));
}

pub loop-value-preserved : goal.loop-value-preserved
loop-value-preserved c =
    let h = c.loop-value.invariant in
    let node = c.args.node.now in
    let less : is_less c.in-Some.value node ≡ true =
    subst (λ (v : List ℕ). is_less v node ≡ true) c.bytes.ensures (sym c.if-not-is_less.ensures) in
    let next : concat (put_in node c.loop-value.left)
    ≡ c.bytes-in-Some.result.now ++ concat (put_in node c.in-Some.others) =
    ap (λ (vs : List (List ℕ)). concat (put_in node vs)) c.in-Some.ensures
    ∙ before_put_in node c.in-Some.value c.in-Some.others less
    ∙ ap (λ (v : List ℕ). v ++ concat (put_in node c.in-Some.others)) (sym c.bytes-in-Some.ensures) in
    record {
      set = c.update.ensures.set ∙ h.set;
      fed = λ m k. let f = h.fed m k in (
        f.0 ++ c.bytes-in-Some.result.now,
        c.update.ensures.fed f.0 f.1,
        fed_further (m ++ concat (put_in node c.args.values.now)) f.0 c.bytes-in-Some.result.now
            (concat (put_in node c.loop-value.left)) (concat (put_in node c.in-Some.others)) f.2 next,
      );
    }
