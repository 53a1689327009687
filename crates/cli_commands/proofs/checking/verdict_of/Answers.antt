use Rattle.std.proofs.Common.{refl, inl, ap, ◌∙◌, length}
use Rattle.devices.specs.Device.{raised}
use Rattle.trust_lists.specs.Asking.{is_among}
use Rattle.check_verdict.specs.Checkers.{CheckerValue, terms_for}
use Rattle.check_verdict.specs.Checking.{ChecksStream}
use Rattle.cli_commands.proofs.Growing.{not_touched}
use Rattle.cli_commands.proofs.Rereadings.{not_again, read_again, read_after}
use Rattle.cli_commands.proofs.checking.verdict_of.Goals as goal
use Rattle.check_fit.specs.FileFitting.{facts_of}

pub returns-then-is_some-clause-judged : goal.returns-then-is_some-clause-judged
returns-then-is_some-clause-judged g c = (c.args.file.now.file, inl refl, c.check_stream_with.ensures.promised.judged)

pub returns-then-is_some-clause-untouched : goal.returns-then-is_some-clause-untouched
returns-then-is_some-clause-untouched g c =
    λ long. not_touched _ _ _ _ _ _ c.check_stream_with.ensures.promised.devices long

pub returns-in-Some-clause-judged : goal.returns-in-Some-clause-judged
returns-in-Some-clause-judged g c =
    read_again g.F.Seek.stream_position g.F.Read.remaining c.args.file.now.file c.listed.new.self.file
    (length c.args.buffer.now) c.args.file.now.failed c.check_stream_by.new.file.failed c.check_stream_by.new.content
    (λ octets. ChecksStream (facts_of g.S.Source.tells g.S.Source.rest g.S.Source.failures)
    (terms_for c.args.checker.now (λ q. is_among c.args.answers.now q)) octets c.args.content.now
    c.check_stream_by.new.content)
    c.listed.new.self.failed c.args.content.now c.in-Some.verdict c.in-Ok.ensures.front c.in-Ok.ensures.count
    c.in-Some.ensures.promised.judged

pub returns-in_default-clause-judged : goal.returns-in_default-clause-judged
returns-in_default-clause-judged g c =
    not_again g.F.Seek.stream_position g.F.Read.remaining c.args.file.now.file c.args.file.now.file
    (length c.args.buffer.now) c.args.file.now.failed c.listed.new.self.failed c.args.content.now
    (λ octets. ChecksStream (facts_of g.S.Source.tells g.S.Source.rest g.S.Source.failures)
    (terms_for c.args.checker.now (λ q. is_among c.args.answers.now q)) octets c.args.content.now c.args.content.now)
    c.args.content.now c.in_default.ensures.count refl

pub returns-in_default-rewind-clause-judged : goal.returns-in_default-rewind-clause-judged
returns-in_default-rewind-clause-judged g c =
    let (content, verifier, failed) = c.in_default-check_stream_by.ensures.untouched refl in
    not_again g.F.Seek.stream_position g.F.Read.remaining c.args.file.now.file c.args.file.now.file
    (length c.args.buffer.now) c.args.file.now.failed c.rewind.new.self.failed c.check_stream_by.new.content
    (λ octets. ChecksStream (facts_of g.S.Source.tells g.S.Source.rest g.S.Source.failures)
    (terms_for c.args.checker.now (λ q. is_among c.args.answers.now q)) octets c.args.content.now
    c.check_stream_by.new.content)
    c.args.content.now (c.in_default-rewind.ensures.count ∙ ap raised (failed ∙ c.in-Ok.ensures.count)) content

pub returns-clause-judged : goal.returns-clause-judged
returns-clause-judged g c =
    let (content, verifier, failed) = c.in_default-check_stream_by.ensures.untouched refl in
    let unfailed = c.in-Ok-rewind.ensures.count ∙ failed ∙ c.in-Ok.ensures.count in
    read_after g.F.Seek.stream_position g.F.Read.remaining c.args.file.now.file c.rewind.new.self.file
    (length c.args.buffer.now) c.check_stream_with-2.new.file.failed c.check_stream_with-2.new.content
    (λ (asked : _ × CheckerValue) before octets.
    ChecksStream (facts_of g.S.Source.tells g.S.Source.rest g.S.Source.failures)
    (terms_for asked.1 (λ q. is_among asked.0 q)) octets before c.check_stream_with-2.new.content)
    (length c.check_stream_by.new.buffer)
    (record {
      asked = (c.args.answers.now, c.args.checker.now);
      content = c.args.content.now;
      failures = c.args.file.now.failed;
    })
    (record {
      asked = (c.check_stream_by.new.verifier, c.check_stream_by.new.checker);
      content = c.check_stream_by.new.content;
      failures = c.rewind.new.self.failed;
    })
    c.check_stream_with-2.result c.in-Ok-rewind.ensures.front c.check_stream_by.auto.buffer
    (λ i. record {
      asked = (verifier i, c.in_default-check_stream_by.ensures.stays i);
      content = content i;
      failures = unfailed i;
    })
    c.check_stream_with-2.ensures.promised.judged

pub returns-in-Some-clause-untouched : goal.returns-in-Some-clause-untouched
returns-in-Some-clause-untouched g c = λ long.
    let (same, count) = not_touched _ _ _ _ _ _ c.in-Some.ensures.promised.devices long in
    (same, count ∙ c.in-Ok.ensures.count)

pub returns-clause-untouched : goal.returns-clause-untouched
returns-clause-untouched g c = λ long.
    let (content, verifier, failed) = c.in_default-check_stream_by.ensures.untouched refl in
    let (same, count) = not_touched _ _ _ _ _ _ c.check_stream_with-2.ensures.promised.devices long in
    (same ∙ content, count ∙ c.in-Ok-rewind.ensures.count ∙ failed ∙ c.in-Ok.ensures.count)

pub returns-clause-same : goal.returns-clause-same
returns-clause-same g c = c.check_stream_with-2.ensures.same ∙ c.in_default-check_stream_by.ensures.same
