use Rattle.std.proofs.Common.{List, subst, ◌∙◌}
use Rattle.std.proofs.lemmas.Result.{err_from_is_err_and}
use Rattle.devices.proofs.Putting.{two_puts}
use Rattle.trust_lists.specs.Entries.{EntryValue}
use Rattle.trust_lists.specs.ReadBack.{AreGood}
use Rattle.trust_lists.specs.Written.{Puts}
use Rattle.trust_lists.proofs.EntryLines.{list_next, list_part}
use Rattle.trust_lists.proofs.ReadBack.{put_is_said}
use Rattle.trust_lists.proofs.trust.Trust.write.Goals as goal

pub returns-in_err-put_word-clause-wrote : goal.returns-in_err-put_word-clause-wrote
returns-in_err-put_word-clause-wrote g c =
    let p = err_from_is_err_and c.from_residual.result c.from_residual.ensures.1 in
    rw p.1 (list_part p.0 (g.S.Sink.tells c.args.sink.now) (g.S.Sink.taken c.args.sink.now)
    (g.S.Sink.taken c.put_word.new.sink)
    (g.S.Sink.failures c.args.sink.now) (g.S.Sink.failures c.put_word.new.sink)
    c.args.self.now c.in_err-put_word.ensures.wrote)

pub returns-clause-wrote : goal.returns-clause-wrote
returns-clause-wrote g c =
    subst (λ (es : List EntryValue).
    Puts es c.put_entries.result (g.S.Sink.tells c.args.sink.now) (g.S.Sink.taken c.args.sink.now)
    (g.S.Sink.taken c.put_entries.new.sink) (g.S.Sink.failures c.args.sink.now)
    (g.S.Sink.failures c.put_entries.new.sink))
    (c.as_slice.ensures.value ∙ c.self.view_is)
    (list_next (two_puts g.S.Sink.tells g.S.Sink.taken g.S.Sink.failures c.args.sink.now c.put_word.new.sink
    c.put_entries.new.sink
    c.put_word.ensures.telling c.put_entries.result)
    c.as_slice.result.now c.in_ok-put_word.ensures.wrote c.put_entries.ensures.wrote)

pub returns-clause-again : goal.returns-clause-again
returns-clause-again g c =
    put_is_said c.args.self.now c.put_entries.result (g.S.Sink.tells c.args.sink.now) (g.S.Sink.taken c.args.sink.now)
    (g.S.Sink.taken c.put_entries.new.sink)
    (g.S.Sink.failures c.args.sink.now) (g.S.Sink.failures c.put_entries.new.sink) (returns-clause-wrote g c)
    (subst AreGood c.self.view_is c.self.invariant.0)
