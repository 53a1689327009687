use Rattle.std.proofs.Common.{◌≡◌, ℕ, List, Option, Bor, option_map, sym, subst, inl}
use Rattle.std.specs.List.{AllByRecursion}
use Rattle.std.proofs.lemmas.Result.{err_from_is_err_and}
use Rattle.digests.specs.Selection.{set_given}
use Rattle.digests.specs.declared.selection.WantedDigests.{WantedDigests}
use Rattle.cli_values.proofs.Held.{held_as}
use Rattle.cli_evidence.specs.Under.{IsHandedIn, RefusesRecordUnder}
use Rattle.cli_evidence.proofs.CheckedUnder.{accepts, content_refused, file_refused, record_refused, refuses}
use Rattle.cli_evidence.proofs.CheckedUnder.{wanted_refused}
use Rattle.cli_evidence.proofs.Digested.{have_wanted}
use Rattle.cli_evidence.proofs.Stating.{before}
use Rattle.cli_evidence.proofs.under.check_signed.Goals as goal

pub returns-in_err-by-clause-refused : goal.returns-in_err-by-clause-refused
returns-in_err-by-clause-refused g c =
    let p = err_from_is_err_and c.from_residual.result c.from_residual.ensures.1 in
    rw (p.1, p.2) (before g.R.File.Read.remaining c.args.words.now.ends.items c.args.words.now.at
    c.args.words.now.trust c.args.words.now.answers (RefusesRecordUnder g.R.File.Read.remaining c.args.words.now)
    c.in_err-by.field-0.0 c.in_err-by.ensures.refused)

pub returns-in_err-octets-clause-refused : goal.returns-in_err-octets-clause-refused
returns-in_err-octets-clause-refused g c =
    let p = err_from_is_err_and c.from_residual-in_err-octets.result c.from_residual-in_err-octets.ensures.1 in
    rw (p.1, p.2) (record_refused g.R.File.Read.remaining c.args.words.now c.in_ok-by.by c.in_ok-by.ensures.found
    c.in_err-octets.field-0.0 (inl c.in_err-octets.ensures.failure))

pub returns-in_err-wanted-clause-refused : goal.returns-in_err-wanted-clause-refused
returns-in_err-wanted-clause-refused g c =
    let p = err_from_is_err_and c.from_residual-in_err-wanted.result c.from_residual-in_err-wanted.ensures.1 in
    rw (p.1, p.2) (wanted_refused g.R.File.Read.remaining c.args.words.now c.in_ok-by.by c.in_ok-by.ensures.found
    c.in_err-wanted.field-0.0 c.as_slice-record.result.now
    (held_as _ _ _ c.as_slice-record.ensures.value c.in_ok-octets.ensures.whole)
    c.in_err-wanted.ensures.refused)

pub returns-in_err-read-clause-refused : goal.returns-in_err-read-clause-refused
returns-in_err-read-clause-refused g c =
    let p = err_from_is_err_and c.from_residual-in_err-read.result c.from_residual-in_err-read.ensures.1 in
    rw (p.1, p.2) (file_refused g.R.File.Read.remaining c.args.words.now c.in_ok-by.by c.in_ok-by.ensures.found
    c.in_err-read.field-0.0 c.as_slice-record.result.now
    (held_as _ _ _ c.as_slice-record.ensures.value c.in_ok-octets.ensures.whole)
    c.in_ok-wanted.wanted c.in_ok-wanted.ensures.found c.in_err-read.ensures.failure)

pub returns-in_err-content-clause-refused : goal.returns-in_err-content-clause-refused
returns-in_err-content-clause-refused g c =
    let p = err_from_is_err_and c.from_residual-in_err-content.result c.from_residual-in_err-content.ensures.1 in
    rw (p.1, p.2) (content_refused g.R.File.Read.remaining c.args.words.now c.in_ok-by.by c.in_ok-by.ensures.found
    c.in_err-content.field-0.0 c.as_slice-record.result.now
    (held_as _ _ _ c.as_slice-record.ensures.value c.in_ok-octets.ensures.whole)
    c.in_ok-wanted.wanted c.in_ok-wanted.ensures.found c.in_err-content.ensures.refused)

pub verdict_within-requires-clause-wanted : goal.verdict_within-requires-clause-wanted
verdict_within-requires-clause-wanted g c =
    have_wanted c.as_slice-record.result.now c.in_ok-wanted.wanted c.as_slice.result.now c.in_ok-wanted.ensures.found
    (subst (λ (ds : List WantedDigests). AllByRecursion (λ d. set_given d ≡ c.in_ok-wanted.wanted) ds)
    (sym c.as_slice.ensures.value) c.in_ok-digests.ensures.given)

pub returns-clause-accepted : goal.returns-clause-accepted
returns-clause-accepted g c =
    accepts g.R.File.Read.remaining c.args.words.now c.in_ok-by.by c.in_ok-by.ensures.found c.as_slice-2.result.now
    c.as_slice-2.ensures.value c.as_slice-record.result.now
    (held_as _ _ _ c.as_slice-record.ensures.value c.in_ok-octets.ensures.whole) c.in_ok-wanted.wanted
    c.in_ok-wanted.ensures.found c.as_slice-file.result.now
    (held_as _ _ _ c.as_slice-file.ensures.value c.in_ok-read.ensures.whole)
    (option_map (λ (s : Bor (List ℕ)). s.now) c.slice_of-handed.result)
    (subst (λ (h : Option (List ℕ)). IsHandedIn g.R.File.Read.remaining c.args.words.now.content h)
    (sym c.slice_of-handed.ensures) c.in_ok-content.ensures.found)
    c.limit_of-limit.result c.limit_of-limit.ensures (λ (v : _). v.items) c.in_ok-verdict.verdict c.told_under.result
    c.in_ok-verdict.ensures c.told_under.ensures

pub returns-clause-refused : goal.returns-clause-refused
returns-clause-refused g c =
    refuses g.R.File.Read.remaining c.args.words.now c.in_ok-by.by c.in_ok-by.ensures.found c.as_slice-2.result.now
    c.as_slice-2.ensures.value c.as_slice-record.result.now
    (held_as _ _ _ c.as_slice-record.ensures.value c.in_ok-octets.ensures.whole) c.in_ok-wanted.wanted
    c.in_ok-wanted.ensures.found c.as_slice-file.result.now
    (held_as _ _ _ c.as_slice-file.ensures.value c.in_ok-read.ensures.whole)
    (option_map (λ (s : Bor (List ℕ)). s.now) c.slice_of-handed.result)
    (subst (λ (h : Option (List ℕ)). IsHandedIn g.R.File.Read.remaining c.args.words.now.content h)
    (sym c.slice_of-handed.ensures) c.in_ok-content.ensures.found)
    c.limit_of-limit.result c.limit_of-limit.ensures (λ (v : _). v.items) c.in_ok-verdict.verdict c.told_under.result
    c.in_ok-verdict.ensures c.told_under.ensures
