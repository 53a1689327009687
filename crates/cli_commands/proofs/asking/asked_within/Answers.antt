use Rattle.std.proofs.Common.{◌≡◌, ◌∙◌, ℕ, length, refl, ap, inl, inr, subst, arith, rules}
use Rattle.devices.specs.Device.{raised}
use Rattle.check_stream.specs.StreamQuestions.{CountsReads}
use Rattle.cli_commands.specs.Asking.{AsksPass}
use Rattle.cli_commands.proofs.AskedAgain.{asks_after, asks_within, kept_still, not_again, unfailed}
use Rattle.cli_commands.proofs.asking.asked_within.Goals as goal

pub returns-then-not-is_too_long-clause-asked : goal.returns-then-not-is_too_long-clause-asked
returns-then-not-is_too_long-clause-asked g c =
    let h = c.loop-rooms.invariant in (
      c.loop-rooms.file.file,
      h.unread,
      asks_within c.args.trust.now (g.F.Read.remaining c.loop-rooms.file.file)
          (length c.as_mut_slice.result.now) c.args.limit
          c.put_questions-asked.result (g.O.Write.contents c.args.out.now) (g.O.Write.contents c.loop-rooms.out)
          (g.O.Write.contents c.put_questions-asked.new.out) c.if-not-is_too_long.ensures h.kept
          c.put_questions-asked.ensures.asks,
    )

pub returns-then-not-is_too_long-clause-reads : goal.returns-then-not-is_too_long-clause-reads
returns-then-not-is_too_long-clause-reads g c =
    subst (λ (n : ℕ). CountsReads c.put_questions-asked.result n c.put_questions-asked.new.file.failed)
    c.loop-rooms.invariant.failed
    c.put_questions-asked.ensures.reads

pub returns-in-Err-clause-asked : goal.returns-in-Err-clause-asked
returns-in-Err-clause-asked g c = (
  c.args.file.now.file,
  inl refl,
  not_again c.args.trust.now (g.F.Read.remaining c.args.file.now.file) c.args.limit (g.O.Write.contents c.args.out.now)
      (g.O.Write.contents c.put_questions-asked.new.out)
      (kept_still c.args.trust.now (g.F.Read.remaining c.loop-rooms.file.file)
      (length c.as_mut_slice.result.now) c.put_questions-asked.result (g.O.Write.contents c.args.out.now)
      (g.O.Write.contents c.loop-rooms.out)
      (g.O.Write.contents c.put_questions-asked.new.out) c.if-not-is_too_long.ensures c.loop-rooms.invariant.kept
      c.put_questions-asked.ensures.asks),
)

pub returns-in-Err-clause-reads : goal.returns-in-Err-clause-reads
returns-in-Err-clause-reads g c =
    c.in-Err.ensures.count ∙ ap raised (unfailed c.put_questions-asked.result c.loop-rooms.file.failed
    c.put_questions-asked.new.file.failed c.if-not-is_too_long.ensures c.put_questions-asked.ensures.reads
    ∙ c.loop-rooms.invariant.failed)

pub loop-rooms-preserved : goal.loop-rooms-preserved
loop-rooms-preserved g c = record {
  unread = inr c.in-Ok.ensures.front;
  within = c.next-rooms.ensures.within;
  failed = c.in-Ok.ensures.count ∙ (unfailed c.put_questions-asked.result c.loop-rooms.file.failed
      c.put_questions-asked.new.file.failed c.if-not-is_too_long.ensures c.put_questions-asked.ensures.reads
      ∙ c.loop-rooms.invariant.failed);
  kept = kept_still c.args.trust.now (g.F.Read.remaining c.loop-rooms.file.file) (length c.as_mut_slice.result.now)
      c.put_questions-asked.result (g.O.Write.contents c.args.out.now) (g.O.Write.contents c.loop-rooms.out)
      (g.O.Write.contents c.put_questions-asked.new.out) c.if-not-is_too_long.ensures c.loop-rooms.invariant.kept
      c.put_questions-asked.ensures.asks;
}

pub returns-clause-asked : goal.returns-clause-asked
returns-clause-asked g c =
    let h = c.loop-rooms.invariant in
    let room : length c.as_mut_slice-2.result.now ≡ c.args.limit = first_of (omega arith, (cc), search rules) in (
      c.loop-rooms.file.file,
      h.unread,
      subst (λ (n : ℕ). AsksPass c.args.trust.now (g.F.Read.remaining c.loop-rooms.file.file) n c.put_questions.result
          (g.O.Write.contents c.args.out.now) (g.O.Write.contents c.put_questions.new.out)) room
          (asks_after c.args.trust.now (g.F.Read.remaining c.loop-rooms.file.file)
          (length c.as_mut_slice-2.result.now) c.put_questions.result
          (g.O.Write.contents c.args.out.now) (g.O.Write.contents c.loop-rooms.out)
          (g.O.Write.contents c.put_questions.new.out) h.kept
          c.put_questions.ensures.asks),
    )

pub returns-clause-reads : goal.returns-clause-reads
returns-clause-reads g c =
    subst
    (λ (n : ℕ). CountsReads c.put_questions.result n c.put_questions.new.file.failed) c.loop-rooms.invariant.failed
    c.put_questions.ensures.reads
