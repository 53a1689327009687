use Rattle.std.proofs.Common.{length}
use Rattle.std.specs.Prelude.{⊤}
use Rattle.cms_stream.specs.Passing.{Gains}
use Rattle.check_stream.proofs.Passes.{written, written_as, text_or_before, malformed_told}
use Rattle.check_stream.proofs.Passes.{another_told, untouched_before, reads_counted, read_to_end}
use Rattle.check_stream.proofs.stream_questions.questions_stream.Goals as goal

pub returns-clause-written : goal.returns-clause-written
returns-clause-written g c =
    λ told. written (Gains (λ _. ⊤) (λ _. ⊤)) c.args.trust.now (g.F.Source.rest c.args.file.now)
    (length c.args.buffer.now) _ _ _ _ _ c.open_stream-pass.result c.put_pass.result
    (g.met.F.Source.octets c.args.file.now told)
    (c.open_stream-pass.ensures.opens told) (c.open_stream-pass.ensures.only told) c.put_pass.ensures.puts

pub returns-clause-only : goal.returns-clause-only
returns-clause-only g c =
    λ told. written_as (Gains (λ _. ⊤) (λ _. ⊤)) c.args.trust.now (g.F.Source.rest c.args.file.now)
    (length c.args.buffer.now) _ _ _ _ _ c.open_stream-pass.result c.put_pass.result
    (c.open_stream-pass.ensures.opens told) (c.open_stream-pass.ensures.only told) c.put_pass.ensures.puts

pub returns-clause-malformed : goal.returns-clause-malformed
returns-clause-malformed g c =
    λ told. malformed_told (Gains (λ _. ⊤) (λ _. ⊤)) c.args.trust.now (g.F.Source.rest c.args.file.now)
    (length c.args.buffer.now) _ _ _ _ _ c.open_stream-pass.result c.put_pass.result
    (c.open_stream-pass.ensures.opens told) c.put_pass.ensures.puts

pub returns-clause-another : goal.returns-clause-another
returns-clause-another g c =
    λ told. another_told (Gains (λ _. ⊤) (λ _. ⊤)) c.args.trust.now (g.F.Source.rest c.args.file.now)
    (length c.args.buffer.now) _ _ _ _ _ c.open_stream-pass.result c.put_pass.result
    (c.open_stream-pass.ensures.opens told) (c.open_stream-pass.ensures.only told) c.put_pass.ensures.puts

pub returns-clause-before : goal.returns-clause-before
returns-clause-before g c =
    untouched_before _ c.put_pass.result _ _ _ _ _ c.open_stream-pass.result c.put_pass.ensures.puts

pub returns-clause-text : goal.returns-clause-text
returns-clause-text g c = text_or_before (Gains (λ _. ⊤) (λ _. ⊤)) c.args.trust.now (g.F.Source.rest c.args.file.now)
    (length c.args.buffer.now) _ _ _ _ _ _ c.open_stream-pass.result c.put_pass.result
    c.open_stream-pass.ensures.opens c.put_pass.ensures.puts c.put_pass.ensures.some

pub returns-clause-reads : goal.returns-clause-reads
returns-clause-reads g c =
    reads_counted _ c.put_pass.result _ _ _ _ _ c.open_stream-pass.result _ _ c.open_stream-pass.ensures.count
    c.put_pass.ensures.puts

pub returns-clause-end : goal.returns-clause-end
returns-clause-end g c =
    λ told. read_to_end _ c.put_pass.result _ _ _ _ _ c.open_stream-pass.result _ (c.open_stream-pass.ensures.end told)
    c.put_pass.ensures.puts
