-- What is told of octets, a line or a failure is told of what they are.
use Rattle.std.proofs.Common.{◌≡◌, ℕ, List, Result, Err, refl, subst}
use Rattle.tsp_requester.specs.Attaching.{Puts}
use Rattle.tsp_requester.specs.declared.fault.AttachFault.{AttachFault}
use Rattle.tsp_requester.specs.declared.fault.AttachFault.TheVariants as attach
use Rattle.cli_failures.specs.declared.failure.Failure.{Failure}
use Rattle.library_answers.specs.declared.answer.Answer.{Answer}
use Rattle.library_answers.specs.Failures.{IsLine, IsMade, IsUnmade}

pub made_as : (a b : List ℕ) (said : Answer) (status : ℕ) (before : List ℕ) (size : ℕ) (after : List ℕ) → a ≡ b
    → IsMade a said status before size after
    → IsMade b said status before size after
made_as a b said status before size after e h = subst (λ (x : List ℕ). IsMade x said status before size after) e h

pub unmade_as : (f g : Failure) (said : Answer) (status : ℕ) (before : List ℕ) (size : ℕ) (after : List ℕ) → f ≡ g
    → IsUnmade f said status before size after
    → IsUnmade g said status before size after
unmade_as f g said status before size after e h = subst (λ (x : Failure). IsUnmade x said status before size after) e h

pub line_as : (a b : List ℕ) (m n status : ℕ) (before : List ℕ) (size : ℕ) (after : List ℕ) → a ≡ b → m ≡ n
    → IsLine a m status before size after
    → IsLine b n status before size after
line_as a b m n status before size after e i h = subst (λ (x : ℕ). IsLine b x status before size after) i
    (subst (λ (x : List ℕ). IsLine x m status before size after) e h)

-- a fact of one fault is one of the fault that it is
pub memory_of : {T V E : Type 0} (r : Result T E) (f g : E) → r ≡ Err f → (r ≡ Err g → V) → f ≡ g → V
memory_of {T} {V} {E} r f g is m e = m (subst (λ (x : E). r ≡ Err x) e is)

-- what is told of octets that can't be shown: the fault that they have, and that memory ran out only if it was asked
-- for
pub unshown : {T V E : Type 0} (Has : E → Type 0) (memory : E) (failed : E → Failure) (r : Result T E) (fault : E)
    (f : Failure) (said : Answer) (status : ℕ) (before : List ℕ) (size : ℕ) (after : List ℕ) → r ≡ Err fault
    → Has fault → (r ≡ Err memory → V) → f ≡ failed fault → IsUnmade f said status before size after
    → (e : E) × Has e × (e ≡ memory → V) × IsUnmade (failed e) said status before size after
unshown Has memory failed r fault f said status before size after is has asked made told = (
  fault,
  has,
  memory_of r fault memory is asked,
  unmade_as f (failed fault) said status before size after made told,
)

-- if octets are to be written, only writing fails
pub put_only : (octets : List ℕ) (fault : AttachFault) (tells : Type 0) (taken taken' : List ℕ) (count count' : ℕ)
    → Puts octets (Err fault) tells taken taken' count count' → fault ≡ attach.WriteFailed
put_only octets attach.WriteFailed tells taken taken' count count' h = refl
put_only octets (attach.Malformed f) tells taken taken' count count' h = absurd h
put_only octets attach.NoSuchSigner tells taken taken' count count' h = absurd h
put_only octets attach.TokenMalformed tells taken taken' count count' h = absurd h
put_only octets attach.ImprintDiffers tells taken taken' count count' h = absurd h
put_only octets attach.TooLong tells taken taken' count count' h = absurd h
