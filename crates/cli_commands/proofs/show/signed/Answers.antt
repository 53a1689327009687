use Rattle.std.proofs.Common.{inr, rules}
use Rattle.cli_values.proofs.Held.{held_as}
use Rattle.cli_commands.proofs.Shown.{no_signed_data}
use Rattle.cli_commands.proofs.show.signed.Goals as goal

pub returns-clause-refused : goal.returns-clause-refused
returns-clause-refused g c = inr (
  c.as_slice.result.now,
  held_as _ _ _ c.as_slice.ensures.value c.in_ok-octets.ensures.whole,
  rw c.from.ensures (no_signed_data _ c.in-Err.fault c.in-Err.ensures.refused
      (λ none. c.in-Err.ensures.memory (first_of (cc, search rules)))),
)
