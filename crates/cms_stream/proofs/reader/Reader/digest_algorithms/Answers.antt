use Rattle.std.proofs.Common.{rules, ℕ, [], ◌∷◌, ◌∙◌, ap, arith, Option, Result, Ok}
use Rattle.der_core.specs.declared.fault.Fault.{Fault}
use Rattle.der_core.specs.Reading.{version_in}
use Rattle.cms_stream_laws.specs.OpenReading.{OpenSpot, kept}
use Rattle.cms_stream.specs.Passing.{body_to, past}
use Rattle.cms_stream.specs.Readers.{seen}
use Rattle.cms_stream.specs.Hints.{body_until}
use Rattle.cms_stream.proofs.Standing.{within_at}
use Rattle.cms_stream.proofs.reader.Reader.digest_algorithms.Goals as goal

abbrev found : Option OpenSpot → Result (Option OpenSpot) Fault
found o = Ok o

pub returns-then-room-size-clause-tells : goal.returns-then-room-size-clause-tells
returns-then-room-size-clause-tells g c = λ t.
    let s = c.in_ok-end.ensures in
    let e = c.in_ok-inside.ensures in
    let v = c.in_ok-version.ensures in
    let f = c.in_ok-inner.ensures in
    let t1 = s.passes.telling t in
    let t2 = e.telling t1 in
    let t3 = v.telling t2 in
    let end : ℕ = c.in-Some.end in
    let inner : ℕ = c.in_ok-inner.inner in
    let there = seen c.enter-2.new.self (g.S.Source.rest c.enter-2.new.source) in (
      body_to end (seen c.to_signed_data.new.self (g.S.Source.rest c.to_signed_data.new.source)),
      s.tells t
          ∙ ap (λ (o : Option ℕ). found (body_until
          (seen c.to_signed_data.new.self (g.S.Source.rest c.to_signed_data.new.source)) o)) c.in-Some.is,
      (c.in_ok-version.field-0 ∷ [], body_to end (seen c.version.new.self (g.S.Source.rest c.version.new.source))),
      within_at 0x02 (kept (version_in (1 ∷ 3 ∷ 4 ∷ 5 ∷ []))) end c.in_ok-inside.inside _ _ _ _ (e.exact.1 t1)
          (v.exact.1 t2) (v.moved t2),
      (body_to inner there, body_to end (past inner there)),
      f.exact.1 t3,
      first_of (search rules, omega (arith, c.if-room-size.true)),
    )
