use Rattle.std.proofs.Common.{◌∙◌, refl, drop, arith}
use Rattle.std.proofs.lemmas.Grind.{common_steps}
use Rattle.cms_stream_laws.specs.OpenReading.{heading}
use Rattle.cms_stream.proofs.Heading.{IsLooked, IsHeaded, begins_at, begin_fails}
use Rattle.cms_stream.proofs.reader.Reader.begin.Goals as goal

pub returns-in-Err : goal.returns-in-Err
returns-in-Err g c =
    let e = c.in_ok-look.ensures in
    begin_fails g.S.Source c.look.new.self c.look.new.source _ e.asks e.looked c.bytes.ensures.octets c.in-Err.fault
    c.in-Err.ensures.gives

pub returns : goal.returns
returns g c = record {
  exact =
      let e = c.in_ok-look.ensures in (
        e.asks.exact,
        λ t.
            let front : IsLooked 6 c.look.new.self.at c.look.new.self.window c.bytes.result.now _ _ =
            record { looked = e.looked t; is = e.asks.moved t; same = c.bytes.ensures.octets } in
            let header : IsHeaded c.in-Ok.len (heading c.in-Ok.len) c.look.new.self.window c.bytes.result.now
            (drop (heading c.in-Ok.len) c.look.new.self.window) =
            record { there = c.in-Ok.ensures.there.0; size = refl; gone = refl } in
            let h = c.pass_header.ensures in
            rw (h.end, h.at, h.window)
            (begins_at front (e.asks.at ∙ c.requires.first) c.in-Ok.ensures.gives header),
      );
  telling = grind (arith, common_steps);
  at = grind (arith, common_steps);
  moved = grind (arith, common_steps);
}
