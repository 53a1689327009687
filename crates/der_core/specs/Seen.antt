-- An element as a value, independent of its place in memory.
use Rattle.der_core.specs.declared.element.Element.{Element}
use Rattle.der_core.specs.Reading.{Taken}

abbrev pub seen : Element → Taken
seen e = record { tag = e.tag; body = e.body.now; whole = e.whole.now }
