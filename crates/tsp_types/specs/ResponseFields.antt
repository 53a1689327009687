-- The parts of a response as values, independent of their place in memory.
use Rattle.std.specs.Prelude.{option_map}
use Rattle.tsp_types.specs.declared.response.ResponseFields.{ResponseFields}
use Rattle.tsp_types.specs.ResponseValue.{ResponseValue}

abbrev pub response_value : ResponseFields → ResponseValue
response_value r = record { status = r.status; token = option_map (λ b. b.now) r.token }
