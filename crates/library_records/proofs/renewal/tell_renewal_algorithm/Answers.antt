use Rattle.std.proofs.Common.{◌∙◌, inl}
use Rattle.library_records.proofs.renewal.tell_renewal_algorithm.Goals as goal

pub returns-in-Ok : goal.returns-in-Ok
returns-in-Ok c = inl (
  c.as_bytes.result.now,
  (c.in-Ok.last, c.in-Ok.ensures.found, c.as_bytes.ensures.value ∙ c.name.ensures),
  c.tell_made.ensures,
)
