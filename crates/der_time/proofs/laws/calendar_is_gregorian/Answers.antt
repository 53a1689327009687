use Rattle.std.proofs.Common.{refl}
use Rattle.der_time.specs.Calendar.{days_before_month}
use Rattle.der_time.proofs.Days.{years_are_gregorian, months_are_the_year}
use Rattle.der_time.proofs.Civil.{days_are_civil}
use Rattle.der_time.proofs.laws.calendar_is_gregorian.Goals as goal

pub returns-clause-years : goal.returns-clause-years
returns-clause-years c = years_are_gregorian

pub returns-clause-months : goal.returns-clause-months
returns-clause-months c = months_are_the_year

pub returns-clause-epoch : goal.returns-clause-epoch
unfolding days_before_month
returns-clause-epoch c = refl

pub returns-clause-end : goal.returns-clause-end
unfolding days_before_month
returns-clause-end c = refl

pub returns-clause-civil : goal.returns-clause-civil
returns-clause-civil c = days_are_civil
