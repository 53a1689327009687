use Rattle.std.proofs.Common.{◌≡◌, ◌∷◌, ◌++◌, ℕ, [], List, drop, sym, ap, ◌∙◌, append_assoc, append-nil}
use Rattle.digests.specs.declared.value.Digest.{Digest}
use Rattle.evidence_sums.specs.Lines.{lines_of}
use Rattle.evidence_sums.specs.Records.{RecordValue, continued}
use Rattle.evidence_sums.specs.SumLines.{sum_in}
use Rattle.evidence_sums.proofs.Places.{no_octets}
use Rattle.evidence_sums.proofs.Recorded.{by_its_alg, continued_formed, none_continued, one_continued}
use Rattle.evidence_sums.proofs.records.RecordSum.digests.Goals as goal

pub loop-left-init : goal.loop-left-init
loop-left-init c =
    let others = continued c.self.inside.alg (lines_of c.self.inside.others.now) in
    record {
      formed = c.self.invariant.1;
      same = ap (λ (ds : List Digest). ds ++ others) (c.in_ok-push.ensures.items
          ∙ ap (λ (ds : List Digest). ds ++ c.in_ok-digest.field-0 ∷ []) c.new-digests.ensures.items)
          ∙ ap (λ (d : Digest). d ∷ others) c.in_ok-digest.ensures
          ∙ ap (λ (r : RecordValue). r.digests) c.self.view_is;
    }

pub loop-left-preserved : goal.loop-left-preserved
loop-left-preserved c =
    let alg = c.self.inside.alg in
    let lines = lines_of c.loop-left.left.now in
    let line = c.first_line.result.0.now in
    let others = lines_of c.first_line.result.1.now in
    let items = c.loop-left.digests.items in
    let digest : c.in_ok-digest-2.field-0 ≡ (sum_in alg (drop 1 line)).digest =
    c.in_ok-digest-2.ensures ∙ ap (λ (w : List ℕ). (sum_in alg w).digest) c.behind.ensures in
    record {
      formed = continued_formed alg lines line others c.first_line.ensures.cut c.loop-left.invariant.formed;
      same = ap (λ (ds : List Digest). ds ++ continued alg others) (c.in_ok-push-2.ensures.items
          ∙ ap (λ (d : Digest). items ++ d ∷ []) digest)
          ∙ append_assoc items ((sum_in alg (drop 1 line)).digest ∷ []) (continued alg others)
          ∙ ap (λ (ds : List Digest). items ++ ds) (sym (one_continued alg lines line others c.first_line.ensures.cut
          (sym c.continues.ensures ∙ c.if-not-continues.false)))
          ∙ c.loop-left.invariant.same;
    }

pub returns-then-not-continues-clause-by : goal.returns-then-not-continues-clause-by
returns-then-not-continues-clause-by c =
    let alg = c.self.inside.alg in
    let items = c.loop-left.digests.items in
    let none : continued alg (lines_of c.loop-left.left.now) ≡ [] =
    none_continued alg (lines_of c.loop-left.left.now) c.first_line.result.0.now (lines_of c.first_line.result.1.now)
    c.first_line.ensures.cut (sym c.continues.ensures ∙ c.if-not-continues.true) in
    by_its_alg alg c.self.inside.line.now (lines_of c.self.inside.others.now) c.args.self.now c.self.view_is items
    (sym (append-nil items) ∙ ap (λ (ds : List Digest). items ++ ds) (sym none) ∙ c.loop-left.invariant.same)

pub returns-clause-by : goal.returns-clause-by
returns-clause-by c =
    let alg = c.self.inside.alg in
    let items = c.loop-left.digests.items in
    let none : continued alg (lines_of c.loop-left.left.now) ≡ [] =
    ap (continued alg) (no_octets c.loop-left.left.now (sym c.is_empty.ensures ∙ c.loop-left-test.false)) in
    by_its_alg alg c.self.inside.line.now (lines_of c.self.inside.others.now) c.args.self.now c.self.view_is items
    (sym (append-nil items) ∙ ap (λ (ds : List Digest). items ++ ds) (sym none) ∙ c.loop-left.invariant.same)
