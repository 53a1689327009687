-- What can be at the front of parts that may be absent: nothing, or one of their identifiers. So a list of identifiers
-- is enough to distinguish each of them from the part before it, once for all types.
use Rattle.std.proofs.Common.{◌≡◌, ℕ, false, eqb, List, [], ◌∷◌, ◌++◌, Option, Some, None, refl, sym, subst}
use Rattle.der_core.specs.declared.flag.Flag.{Flag}
use Rattle.der_core.specs.declared.flag.Flag.TheVariants.{Absent, False, True}
use Rattle.der_core.specs.Element.{el}
use Rattle.der_core.specs.Values.{optional, flag}
use Rattle.der_core.proofs.PartReaders.{Not}

-- none of these identifiers is at the front
abbrev pub Apart : List ℕ → List ℕ → Type 0
Apart [] r = Unit {0}
Apart (t ∷ ts) r = Not t r × Apart ts r

-- the identifier of an element that may be there is none of these
abbrev pub Others : ℕ → List ℕ → Type 0
Others t [] = Unit {0}
Others t (u ∷ us) = (eqb t u ≡ false) × Others t us

-- of an element that is there
pub front_apart : (t : ℕ) (b r : List ℕ) (us : List ℕ) → Others t us → Apart us (el t b ++ r)
front_apart t b r [] h = tt
front_apart t b r (u ∷ us) h = (h.0, front_apart t b r us h.1)

-- of one that may be absent
pub optional_apart : (t : ℕ) (o : Option (List ℕ)) (r : List ℕ) (us : List ℕ) → Others t us → Apart us r
    → Apart us (optional t o ++ r)
optional_apart t None r us h l = l
optional_apart t (Some b) r us h l = front_apart t b r us h

-- of a BOOLEAN with a default
pub flags_apart : (f : Flag) (r : List ℕ) (us : List ℕ) → Others 1 us → Apart us r → Apart us (flag f ++ r)
flags_apart Absent r us h l = l
flags_apart False r us h l = front_apart 1 (0 ∷ []) r us h
flags_apart True r us h l = front_apart 1 (255 ∷ []) r us h

-- at the end of a body
pub end_apart : (us : List ℕ) → Apart us []
end_apart [] = tt
end_apart (u ∷ us) = (refl, end_apart us)

pub at_end_apart : (us r : List ℕ) → r ≡ [] → Apart us r
at_end_apart us r l = subst (Apart us) (sym l) (end_apart us)
