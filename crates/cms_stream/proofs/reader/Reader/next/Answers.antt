use Rattle.std.proofs.Common.{refl}
use Rattle.cms_stream_laws.specs.OpenReading.{next_openly}
use Rattle.cms_stream.specs.Passing.{next_header_in}
use Rattle.cms_stream.proofs.Heading.{next_header_is, enter_fails, enter_gives}
use Rattle.cms_stream.proofs.reader.Reader.next.Goals as goal

pub returns-in-Err : goal.returns-in-Err
returns-in-Err g c =
    let e = c.in_ok-look.ensures in
    enter_fails next_openly next_header_in next_header_is g.S.Source c.look.new.self c.look.new.source _ c.args.end
    e.asks e.looked c.bytes.ensures.octets c.in-Err.fault c.in-Err.ensures.gives

pub returns : goal.returns
returns g c =
    let e = c.in_ok-look.ensures in
    let h = c.pass_header.ensures in
    rw (h.end, h.at, h.window) (enter_gives next_openly next_header_in next_header_is g.S.Source c.look.new.self
    c.look.new.source _ c.args.end e.asks e.looked c.bytes.ensures.octets c.in-Ok.ensures.gives c.in-Ok.ensures.there
    refl refl c.requires.inside)
