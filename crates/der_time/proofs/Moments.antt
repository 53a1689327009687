-- A moment, by the numbers of which it was made.
use Rattle.std.proofs.Common.{◌≡◌, ℕ, ◌+◌, ◌∙◌}
use Rattle.der_time.specs.Calendar.{day_number}
use Rattle.der_time.specs.Moments.{nanos_of}

pub made_of : {m days year month day hour minute second nanos y mo d h mi s n : ℕ}
    → m ≡ nanos_of days hour minute second + nanos → days ≡ day_number year month day → year ≡ y → month ≡ mo → day ≡ d
    → hour ≡ h → minute ≡ mi → second ≡ s → nanos ≡ n → m ≡ nanos_of (day_number y mo d) h mi s + n
made_of made days year month day hour minute second nanos =
    made ∙ (λ i. nanos_of ((days ∙ (λ j. day_number (year j) (month j) (day j))) i) (hour i) (minute i) (second i)
    + nanos i)
