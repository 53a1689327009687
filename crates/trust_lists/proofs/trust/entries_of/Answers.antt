use Rattle.std.proofs.Common.{sym, ◌∙◌}
use Rattle.std.proofs.lemmas.Result.{err_from_is_err_and}
use Rattle.trust_lists.proofs.TrustAnswers.{at_end, goes_on, stops_here, says_form, begins_well}
use Rattle.trust_lists.proofs.trust.entries_of.Goals as goal

pub returns-in-Err-clause-refused : goal.returns-in-Err-clause-refused
returns-in-Err-clause-refused c =
    stops_here c.args.version c.args.lines c.loop-line.left c.in-Some.others c.in-Some.line _
    c.in-Some.ensures c.line.view_is c.loop-line.entries.items c.in-Err.rule c.fault_at.result c.in-Err.ensures.stated
    c.fault_at.ensures.memory c.fault_at.ensures.at c.loop-line.invariant.goes

pub returns-in-Err-clause-memory : goal.returns-in-Err-clause-memory
returns-in-Err-clause-memory c =
    λ e. begins_well c.args.version c.args.lines c.loop-line.left c.in-Some.others c.in-Some.line
    _ c.in-Some.ensures c.line.view_is
    (c.in-Err.ensures.memory (sym c.fault_at.ensures.rule ∙ e)) c.loop-line.invariant.begins

pub returns-in_err-push-in-Ok-clause-memory : goal.returns-in_err-push-in-Ok-clause-memory
returns-in_err-push-in-Ok-clause-memory c =
    let p = err_from_is_err_and c.from_residual.result c.from_residual.ensures.1 in
    rw p.1 (λ _. begins_well c.args.version c.args.lines c.loop-line.left c.in-Some.others c.in-Some.line _
    c.in-Some.ensures c.line.view_is
    (says_form c.args.version _ c.in-Ok.entry c.in-Ok.ensures.stated) c.loop-line.invariant.begins)

pub loop-line-preserved : goal.loop-line-preserved
loop-line-preserved c = record {
  goes = goes_on c.args.version c.args.lines c.loop-line.left c.in-Some.others c.in-Some.line _ c.in-Some.ensures
      c.line.view_is
      c.loop-line.entries.items c.push.new.self.items c.in-Ok.entry c.in_ok-push-in-Ok.ensures.items
      c.in-Ok.ensures.stated c.loop-line.invariant.goes;
  begins = λ _. begins_well c.args.version c.args.lines c.loop-line.left c.in-Some.others c.in-Some.line _
      c.in-Some.ensures c.line.view_is
      (says_form c.args.version _ c.in-Ok.entry c.in-Ok.ensures.stated) c.loop-line.invariant.begins;
}

pub returns-clause-found : goal.returns-clause-found
returns-clause-found c = at_end c.args.version c.args.lines c.loop-line.left c.loop-line.entries.items
    c.in_default.ensures c.loop-line.invariant.goes
