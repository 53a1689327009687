use Rattle.std.proofs.Common.{◌≡◌, List, sym, subst, inl}
use Rattle.std.specs.List.{AllByRecursion}
use Rattle.std.proofs.lemmas.Result.{err_from_is_err_and}
use Rattle.digests.specs.Selection.{set_given}
use Rattle.digests.specs.declared.selection.WantedDigests.{WantedDigests}
use Rattle.cli_values.proofs.Held.{held_as}
use Rattle.cli_evidence.specs.Checking.{RefusesRecord}
use Rattle.cli_evidence.specs.Digesting.{AreDigested}
use Rattle.cli_evidence.proofs.Checked.{accepts, data_refused, record_refused, refuses, wanted_refused}
use Rattle.cli_evidence.proofs.Digested.{have_wanted}
use Rattle.cli_evidence.proofs.Stating.{before}
use Rattle.cli_evidence.proofs.check.check_record.Goals as goal

pub returns-in_err-by-clause-refused : goal.returns-in_err-by-clause-refused
returns-in_err-by-clause-refused g c =
    let p = err_from_is_err_and c.from_residual.result c.from_residual.ensures.1 in
    rw (p.1, p.2) (before g.R.File.Read.remaining c.args.words.now.ends.items c.args.words.now.at
    c.args.words.now.trust c.args.words.now.answers (RefusesRecord g.R.File.Read.remaining c.args.words.now)
    c.in_err-by.field-0.0 c.in_err-by.ensures.refused)

pub returns-in_err-octets-clause-refused : goal.returns-in_err-octets-clause-refused
returns-in_err-octets-clause-refused g c =
    let p = err_from_is_err_and c.from_residual-in_err-octets.result c.from_residual-in_err-octets.ensures.1 in
    rw (p.1, p.2) (record_refused g.R.File.Read.remaining c.args.words.now c.in_ok-by.by c.in_ok-by.ensures.found
    c.in_err-octets.field-0.0 (inl c.in_err-octets.ensures.failure))

pub returns-in_err-wanted-clause-refused : goal.returns-in_err-wanted-clause-refused
returns-in_err-wanted-clause-refused g c =
    let p = err_from_is_err_and c.from_residual-in_err-wanted.result c.from_residual-in_err-wanted.ensures.1 in
    rw (p.1, p.2) (wanted_refused g.R.File.Read.remaining c.args.words.now c.in_ok-by.by c.in_ok-by.ensures.found
    c.in_err-wanted.field-0.0 c.as_slice-record.result.now
    (held_as _ _ _ c.as_slice-record.ensures.value c.in_ok-octets.ensures.whole)
    c.in_err-wanted.ensures.refused)

pub returns-in_err-digests-clause-refused : goal.returns-in_err-digests-clause-refused
returns-in_err-digests-clause-refused g c =
    let p = err_from_is_err_and c.from_residual-in_err-digests.result c.from_residual-in_err-digests.ensures.1 in
    rw (p.1, p.2) (data_refused g.R.File.Read.remaining c.args.words.now c.in_ok-by.by c.in_ok-by.ensures.found
    c.in_err-digests.field-0.0 c.as_slice-record.result.now
    (held_as _ _ _ c.as_slice-record.ensures.value c.in_ok-octets.ensures.whole)
    c.in_ok-wanted.wanted c.in_ok-wanted.ensures.found c.in_err-digests.ensures.refused)

pub check_evidence-verdict-requires : goal.check_evidence-verdict-requires
check_evidence-verdict-requires g c =
    let same : c.as_slice.result.now ≡ c.in_ok-digests.digests.items = c.as_slice.ensures.value in
    have_wanted c.as_slice-record.result.now c.in_ok-wanted.wanted c.as_slice.result.now c.in_ok-wanted.ensures.found
    (subst (λ (ds : List WantedDigests). AllByRecursion (λ d. set_given d ≡ c.in_ok-wanted.wanted) ds) (sym same)
    c.in_ok-digests.ensures.found.given)

pub returns-clause-accepted : goal.returns-clause-accepted
returns-clause-accepted g c =
    accepts g.R.File.Read.remaining c.args.words.now c.in_ok-by.by c.in_ok-by.ensures.found c.as_slice-2.result.now
    c.as_slice-2.ensures.value c.as_slice-record.result.now
    (held_as _ _ _ c.as_slice-record.ensures.value c.in_ok-octets.ensures.whole) c.in_ok-wanted.wanted
    c.in_ok-wanted.ensures.found c.as_slice.result.now
    (subst (λ (ds : List WantedDigests). AreDigested g.R.File.Read.remaining c.in_ok-wanted.wanted
    c.args.words.now.data.items ds) (sym c.as_slice.ensures.value) c.in_ok-digests.ensures.found)
    (λ (v : _). v.items) c.check_evidence-verdict.result c.told.result c.check_evidence-verdict.ensures.judged
    c.told.ensures

pub returns-clause-refused : goal.returns-clause-refused
returns-clause-refused g c =
    refuses g.R.File.Read.remaining c.args.words.now c.in_ok-by.by c.in_ok-by.ensures.found c.as_slice-2.result.now
    c.as_slice-2.ensures.value c.as_slice-record.result.now
    (held_as _ _ _ c.as_slice-record.ensures.value c.in_ok-octets.ensures.whole) c.in_ok-wanted.wanted
    c.in_ok-wanted.ensures.found c.as_slice.result.now
    (subst (λ (ds : List WantedDigests). AreDigested g.R.File.Read.remaining c.in_ok-wanted.wanted
    c.args.words.now.data.items ds) (sym c.as_slice.ensures.value) c.in_ok-digests.ensures.found)
    (λ (v : _). v.items) c.check_evidence-verdict.result c.told.result c.check_evidence-verdict.ensures.judged
    c.check_evidence-verdict.ensures.count c.check_evidence-verdict.ensures.memory c.told.ensures
