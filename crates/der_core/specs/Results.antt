-- Steps that may fail, one after another: the first failure is the result of the whole.
use Rattle.std.specs.Prelude.{Result, Ok, Err}

infixl 10 ◌>>=◌
abbrev pub ◌>>=◌ : {A B E : Type 0} → Result A E → (A → Result B E) → Result B E
(Ok x) >>= f = f x
(Err e) >>= f = Err e

-- a failure of a part, converted to one of the whole
abbrev pub or_as : {A D E : Type 0} → (D → E) → Result A D → Result A E
or_as f (Ok x) = Ok x
or_as f (Err e) = Err (f e)
