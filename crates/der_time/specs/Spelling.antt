-- The octets of the parts of a GeneralizedTime: numbers by their decimal digits.
use Rattle.std.specs.Prelude.{ℕ, zero, suc, ◌+◌, ◌/◌, ◌%◌, ◌^◌, List, [], ◌∷◌, ◌++◌}

-- a number below 100 in two digits
abbrev pub two : ℕ → List ℕ
two n = (48 + n / 10) ∷ (48 + n % 10) ∷ []

-- YYYYMMDDHHMMSS
abbrev pub stamp : (year month day hour minute second : ℕ) → List ℕ
stamp year month day hour minute second = two (year / 100)
    ++ (two (year % 100) ++ (two month ++ (two day ++ (two hour ++ (two minute ++ two second)))))

-- a number in this many decimal places
unfoldable pub places : ℕ → ℕ → List ℕ
places zero n = []
places (suc k) n = (48 + n / 10 ^ k) ∷ places k (n % 10 ^ k)
