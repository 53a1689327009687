-- What a failure is about: a value that isn't as it must be, or octets that have a fault.
use Rattle.std.specs.Prelude.{◌≡◌, ℕ, List}
use Rattle.der_core.specs.declared.fault.Fault.{Fault}
use Rattle.der_core.specs.Faults.{Faults}
use Rattle.der_core.specs.Form.{Form}
use Rattle.cli_failures.specs.declared.failure.Failure.{Failure}
use Rattle.cli_failures.specs.declared.failure.Failure.TheVariants as failure

-- the failure names this value, of a command's option or argument, or of a call
abbrev pub Names : (value : List ℕ) → Failure → Type 0
Names value (failure.Usage named) = named.now ≡ value
Names value _ = ⊥

-- the octets have this fault, so they aren't a whole input of this form
pub record IsMalformed (form : Form) (octets : List ℕ) (f : Failure) : Type 0 where
  pub fault : Fault
  pub malformed : f ≡ failure.Malformed fault
  pub found : Faults form octets fault
