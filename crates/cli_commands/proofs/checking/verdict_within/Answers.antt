use Rattle.std.proofs.Common.{◌≡◌, ◌∙◌, ℕ, length, ap, inr, subst, arith, rules}
use Rattle.devices.specs.Device.{raised}
use Rattle.check_fit.specs.FileFitting.{facts_of}
use Rattle.trust_lists.specs.Asking.{is_among}
use Rattle.check_verdict.specs.Checkers.{terms_for}
use Rattle.check_verdict.specs.Checking.{ChecksStream}
use Rattle.cli_commands.specs.Rereading.{OfReading}
use Rattle.cli_commands.proofs.CheckedAgain.{check_on}
use Rattle.cli_commands.proofs.Growing.{read_within}
use Rattle.cli_commands.proofs.Rereadings.{not_again}
use Rattle.cli_commands.proofs.checking.verdict_within.Goals as goal

pub returns-then-not-is_too_long-clause-judged : goal.returns-then-not-is_too_long-clause-judged
returns-then-not-is_too_long-clause-judged g c =
    let h = c.loop-rooms.invariant in
    check_on g.F.Seek.stream_position g.F.Read.remaining
    (facts_of g.S.Source.tells g.S.Source.rest g.S.Source.failures) c.args.limit
    c.verdict_of-verdict.new.file.failed c.verdict_of-verdict.new.content c.verdict_of-verdict.result
    c.args.file.now.file c.loop-rooms.file.file c.args.checker.now c.loop-rooms.checker c.args.answers.now
    c.loop-rooms.answers c.args.content.now c.loop-rooms.content c.args.file.now.failed c.loop-rooms.file.failed
    h.unread h.stays h.vouched h.content h.failed
    (read_within (length c.as_mut_slice.result.now) c.args.limit c.loop-rooms.file.failed
    c.verdict_of-verdict.new.file.failed c.loop-rooms.content c.verdict_of-verdict.new.content
    g.F.Seek.stream_position g.F.Read.remaining c.loop-rooms.file.file
    (λ octets. ChecksStream (facts_of g.S.Source.tells g.S.Source.rest g.S.Source.failures)
    (terms_for c.loop-rooms.checker (λ q. is_among c.loop-rooms.answers q)) octets c.loop-rooms.content
    c.verdict_of-verdict.new.content) c.verdict_of-verdict.result c.if-not-is_too_long.ensures
    c.verdict_of-verdict.ensures.judged)

pub returns-in-Err-clause-judged : goal.returns-in-Err-clause-judged
returns-in-Err-clause-judged g c =
    let h = c.loop-rooms.invariant in
    let (content, failed) = c.verdict_of-verdict.ensures.untouched c.if-not-is_too_long.ensures in
    not_again g.F.Seek.stream_position g.F.Read.remaining c.args.file.now.file c.args.file.now.file c.args.limit
    c.args.file.now.failed
    c.rewind.new.self.failed c.verdict_of-verdict.new.content
    (λ octets. ChecksStream (facts_of g.S.Source.tells g.S.Source.rest g.S.Source.failures)
    (terms_for c.args.checker.now (λ q. is_among c.args.answers.now q)) octets c.args.content.now
    c.verdict_of-verdict.new.content)
    c.args.content.now (c.in-Err.ensures.count ∙ ap raised (failed ∙ h.failed)) (content ∙ h.content)

pub loop-rooms-preserved : goal.loop-rooms-preserved
loop-rooms-preserved g c =
    let h = c.loop-rooms.invariant in
    let (content, failed) = c.verdict_of-verdict.ensures.untouched c.if-not-is_too_long.ensures in
    record {
      unread = inr c.in-Ok.ensures.front;
      within = c.next-rooms.ensures.within;
      failed = c.in-Ok.ensures.count ∙ (failed ∙ h.failed);
      content = content ∙ h.content;
      stays = c.verdict_of-verdict.ensures.stays ∙ h.stays;
      vouched = c.verdict_of-verdict.ensures.same ∙ h.vouched;
    }

pub returns-clause-judged : goal.returns-clause-judged
returns-clause-judged g c =
    let h = c.loop-rooms.invariant in
    let room : length c.as_mut_slice-2.result.now ≡ c.args.limit = first_of (omega arith, (cc), search rules) in
    subst (λ (n : ℕ). OfReading g.F.Seek.stream_position g.F.Read.remaining
    (λ octets. ChecksStream (facts_of g.S.Source.tells g.S.Source.rest g.S.Source.failures)
    (terms_for c.args.checker.now (λ q. is_among c.args.answers.now q)) octets c.args.content.now
    c.verdict_of.new.content) c.args.file.now.file n c.args.file.now.failed c.verdict_of.new.file.failed
    c.args.content.now c.verdict_of.new.content c.verdict_of.result) room
    (check_on g.F.Seek.stream_position g.F.Read.remaining
    (facts_of g.S.Source.tells g.S.Source.rest g.S.Source.failures) (length c.as_mut_slice-2.result.now)
    c.verdict_of.new.file.failed c.verdict_of.new.content c.verdict_of.result c.args.file.now.file
    c.loop-rooms.file.file c.args.checker.now c.loop-rooms.checker c.args.answers.now c.loop-rooms.answers
    c.args.content.now c.loop-rooms.content c.args.file.now.failed c.loop-rooms.file.failed h.unread h.stays h.vouched
    h.content h.failed c.verdict_of.ensures.judged)

pub returns-then-not-is_too_long-clause-same : goal.returns-then-not-is_too_long-clause-same
returns-then-not-is_too_long-clause-same g c = c.verdict_of-verdict.ensures.same ∙ c.loop-rooms.invariant.vouched

pub returns-in-Err-clause-same : goal.returns-in-Err-clause-same
returns-in-Err-clause-same g c = c.verdict_of-verdict.ensures.same ∙ c.loop-rooms.invariant.vouched

pub returns-clause-same : goal.returns-clause-same
returns-clause-same g c = c.verdict_of.ensures.same ∙ c.loop-rooms.invariant.vouched

pub returns-then-not-is_too_long-clause-stays : goal.returns-then-not-is_too_long-clause-stays
returns-then-not-is_too_long-clause-stays g c = c.verdict_of-verdict.ensures.stays ∙ c.loop-rooms.invariant.stays

pub returns-in-Err-clause-stays : goal.returns-in-Err-clause-stays
returns-in-Err-clause-stays g c = c.verdict_of-verdict.ensures.stays ∙ c.loop-rooms.invariant.stays

pub returns-clause-stays : goal.returns-clause-stays
returns-clause-stays g c = c.verdict_of.ensures.stays ∙ c.loop-rooms.invariant.stays
