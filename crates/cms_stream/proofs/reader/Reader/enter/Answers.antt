use Rattle.std.proofs.Common.{refl}
use Rattle.cms_stream_laws.specs.OpenReading.{enter_openly}
use Rattle.cms_stream.specs.Passing.{header_in}
use Rattle.cms_stream.proofs.Heading.{header_is, enter_fails, enter_gives}
use Rattle.cms_stream.proofs.reader.Reader.enter.Goals as goal

pub returns-in-Err : goal.returns-in-Err
returns-in-Err g c =
    let e = c.in_ok-look.ensures in
    enter_fails (enter_openly c.args.tag) (header_in c.args.tag) (header_is c.args.tag) g.S.Source c.look.new.self
    c.look.new.source _ c.args.end e.asks e.looked c.bytes.ensures.octets c.in-Err.fault c.in-Err.ensures.gives

pub returns : goal.returns
returns g c =
    let e = c.in_ok-look.ensures in
    let h = c.pass_header.ensures in
    rw (h.end, h.at, h.window) (enter_gives (enter_openly c.args.tag) (header_in c.args.tag) (header_is c.args.tag)
    g.S.Source c.look.new.self c.look.new.source _ c.args.end e.asks e.looked c.bytes.ensures.octets
    c.in-Ok.ensures.gives c.in-Ok.ensures.there refl refl c.requires.inside)
