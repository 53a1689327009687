-- Where a pass is, with all octets that are to come.
use Rattle.std.specs.Prelude.{ℕ, List, ◌++◌}
use Rattle.der_core.specs.Reading.{Spot, spot}
use Rattle.cms_stream.specs.declared.reader.Reader.{Reader}

abbrev pub seen : Reader → List ℕ → Spot
seen r rest = spot r.at (r.window ++ rest)
