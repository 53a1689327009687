use Rattle.std.proofs.Common.{◌≡◌, length, eqb, true, false, sym, arith}
use Rattle.std.proofs.lemmas.Result.{err_from_is_err_and}
use Rattle.der_core.specs.Reading.{within}
use Rattle.der_core.proofs.Lists.{Enters-shorter}
use Rattle.der_lists.specs.Items.{all_in}
use Rattle.der_lists.proofs.Items.{counted_ok, counted_length}
use Rattle.cert_types.specs.ExtensionReading.{extension_in}
use Rattle.cert_types.specs.DistinctExtensions.{distinct_in}
use Rattle.cert_types.proofs.DistinctSteps.{distinct_enter_err, distinct_err, distinct_second, distinct_next}
use Rattle.cert_types.proofs.DistinctSteps.{distinct_end}
use Rattle.cert_types.proofs.DistinctReader.{distinct_list}
use Rattle.cert_types.proofs.distinct.scan_distinct.Goals as goal

pub returns-in_err-parts : goal.returns-in_err-parts
returns-in_err-parts c =
    let some : eqb (length c.loop-list.list.rest) 0 ≡ false = cc in
    let p = err_from_is_err_and c.from_residual.result c.from_residual.ensures.1 in
    rw (p.1, p.2) (distinct_enter_err c.loop-list.count c.loop-list.seen.identifier c.loop-list.seen.usage
    c.loop-list.list (distinct_in
    c.args.all.now) c.loop-list.invariant.octets some c.loop-list.invariant.agrees c.in_err-parts.field-0.0
    c.in_err-parts.ensures.exact.0)

pub returns-in_err-extension : goal.returns-in_err-extension
returns-in_err-extension c =
    let some : eqb (length c.loop-list.list.rest) 0 ≡ false = cc in
    let p = err_from_is_err_and c.from_residual-in_err-extension.result c.from_residual-in_err-extension.ensures.1 in
    rw (p.1, p.2) (distinct_err c.loop-list.count c.loop-list.seen.identifier c.loop-list.seen.usage c.loop-list.list
    (distinct_in c.args.all.now) c.loop-list.invariant.octets some c.loop-list.invariant.agrees c.in_ok-parts.parts
    c.enter.new.self
    c.in_ok-parts.ensures.exact c.in_err-extension.field-0.0 c.in_err-extension.ensures)

pub returns-then-is_again : goal.returns-then-is_again
returns-then-is_again c =
    let some : eqb (length c.loop-list.list.rest) 0 ≡ false = cc in
    let second = distinct_second c.loop-list.count c.loop-list.seen.identifier c.loop-list.seen.usage c.loop-list.list
    (distinct_in c.args.all.now) c.loop-list.invariant.octets some c.loop-list.invariant.agrees c.in_ok-parts.parts
    c.enter.new.self
    c.in_ok-parts.ensures.exact c.in_ok-extension.extension c.in_ok-extension.ensures (sym c.if-is_again.ensures) in
    rw (c.new.ensures, c.position-at.ensures) second

pub loop-list-preserved : goal.loop-list-preserved
loop-list-preserved c =
    let some : eqb (length c.loop-list.list.rest) 0 ≡ false = cc in
    let agrees = distinct_next c.loop-list.count c.loop-list.seen.identifier c.loop-list.seen.usage c.loop-list.list
    (distinct_in c.args.all.now) c.loop-list.invariant.octets some c.loop-list.invariant.agrees c.in_ok-parts.parts
    c.enter.new.self
    c.in_ok-parts.ensures.exact c.in_ok-extension.extension c.in_ok-extension.ensures (sym c.if-is_again.ensures) in
    let shorter = Enters-shorter 0x30 extension_in c.loop-list.list c.in_ok-parts.parts c.enter.new.self
    c.in_ok-parts.ensures.found in
    record {
      octets = c.in_ok-parts.ensures.found.fits_rest;
      room = omega (arith, shorter, c.loop-list.invariant.room);
      agrees = rw (c.with-seen.ensures.identifier, c.with-seen.ensures.usage) agrees;
    }

pub returns : goal.returns
returns c =
    let none : eqb (length c.loop-list.list.rest) 0 ≡ true = cc in
    let all = distinct_in c.args.all.now in
    let counted = distinct_end c.loop-list.count c.loop-list.seen.identifier c.loop-list.seen.usage c.loop-list.list all
    none c.loop-list.invariant.agrees in
    let is = distinct_list c.args.all.now c.rest-most.ensures.octets (counted_ok c.loop-list.count all counted) in
    ((is.0, counted_length c.loop-list.count all (all_in (within 0x30 extension_in) c.args.all.now) counted is.1), is.1)
