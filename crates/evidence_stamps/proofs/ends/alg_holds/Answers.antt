use Rattle.std.proofs.Common.{◌≡◌, ◌≢◌, ◌≤◌, ◌<◌, sym, ◌∙◌, rules}
use Rattle.evidence_stamps.proofs.Holding.{none_yet, of_another, of_its_own, over, by_all}
use Rattle.evidence_stamps.proofs.ends.alg_holds.Goals as goal
use Rattle.evidence_stamps.proofs.ends.alg_holds.Goals.{then-eq+else-lt, else-eq}

pub loop-end-init : goal.loop-end-init
loop-end-init c = none_yet c.args.alg c.args.moment c.ne-given.result (λ is. search rules, λ other. search rules)

pub loop-end-preserved : goal.loop-end-preserved
loop-end-preserved c =
    let h = c.loop-end.invariant in
    elim c.if-eq.branch [
      | then-eq+else-lt w ↦
          (let same : c.alg.result ≡ c.args.alg = search rules in
          let le : c.args.moment ≤ c.end-item.result.last = search rules in
          rw w.given-is (of_its_own c.args.alg c.args.moment c.loop-end.given c.args.ends.now c.loop-end.end-index
          c.end-item.result c.loop-end-test.true c.end-item.is h (sym c.alg.ensures ∙ same) le))
      | else-eq w ↦
          (let unequal : c.alg.result ≢ c.args.alg = search rules in
          rw w.given-is (of_another c.args.alg c.args.moment c.loop-end.given c.args.ends.now c.loop-end.end-index
          c.end-item.result c.loop-end-test.true c.end-item.is h (λ e. unequal (c.alg.ensures ∙ e))))
    ]

pub returns-then-lt : goal.returns-then-lt
returns-then-lt c =
    let same : c.alg.result ≡ c.args.alg = search rules in
    let late : c.end-item.result.last < c.args.moment = search rules in
    let h = c.loop-end.invariant in (
      λ no. search rules,
      λ k. absurd (over c.args.alg c.args.moment c.loop-end.given c.args.ends.now c.loop-end.end-index
          c.end-item.result c.loop-end-test.true c.end-item.is h (sym c.alg.ensures ∙ same) late k),
    )

pub returns : goal.returns
returns c =
    by_all c.args.alg c.args.moment c.loop-end.given c.args.ends.now c.loop-end.end-index c.loop-end-test.false
    c.loop-end.invariant
