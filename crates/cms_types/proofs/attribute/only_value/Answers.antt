use Rattle.std.proofs.Common.{◌≡◌, Ok, sym, ap, ◌∙◌}
use Rattle.der_core.specs.Reading.{Spot}
use Rattle.der_core.proofs.ReadLengths.{ok_is}
use Rattle.cms_types.specs.AttributeReading.{values_in}
use Rattle.cms_types.proofs.OnlyValue.{filled_by, filled_by_none}
use Rattle.cms_types.proofs.attribute.only_value.Goals as goal

pub returns-in_default : goal.returns-in_default
returns-in_default c = λ a at. absurd (let z = sym c.in_default.ensures.exact.0 ∙ at.1 in cc)

pub returns-in-Ok-read : goal.returns-in-Ok-read
returns-in-Ok-read c = λ a at.
    let inside = ok_is (c.in-Ok.inside, c.enter.new.self) at.0 (sym c.in-Ok.ensures.exact ∙ at.1) in
    let values : values_in c.in-Ok.inside ≡ Ok a.values = ap (λ (z : Spot × Spot). values_in z.0) inside ∙ at.2 in
    filled_by c.in-Ok.inside a.values c.in-Ok-read.value c.in-Ok.ensures.found.fits values c.in-Ok-read.ensures

pub returns-in-Err : goal.returns-in-Err
returns-in-Err c = λ a at.
    let inside = ok_is (c.in-Ok.inside, c.enter.new.self) at.0 (sym c.in-Ok.ensures.exact ∙ at.1) in
    let values : values_in c.in-Ok.inside ≡ Ok a.values = ap (λ (z : Spot × Spot). values_in z.0) inside ∙ at.2 in
    filled_by_none c.in-Ok.inside a.values c.in-Err.field-0 c.in-Ok.ensures.found.fits values c.in-Err.ensures
