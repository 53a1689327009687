-- The number that an exponent is.
use Rattle.std.specs.Prelude.{ℕ}
use Rattle.big_numbers.specs.Numbers.{os2ip}
use Rattle.big_numbers.specs.declared.moduli.Exponent.{Exponent}
use Rattle.big_numbers.specs.declared.moduli.Exponent.TheVariants.{Word, Octets}

abbrev pub exponent_of : Exponent → ℕ
exponent_of (Word e) = e
exponent_of (Octets o) = os2ip o.now
