-- Whether octets are one SEQUENCE.
use Rattle.std.proofs.Common.{◌≡◌, ℕ, ◌+◌, length, List, [], ◌++◌, Bool, true, false, Result, Ok, Err, sym, ap, subst}
use Rattle.std.proofs.Common.{◌∙◌, append-nil}
use Rattle.der_core.specs.declared.fault.Fault.{Fault}
use Rattle.der_core.specs.Element.{IsBytes}
use Rattle.der_core.specs.Reading.{Spot, spot, element_at}
use Rattle.der_core.proofs.PartReaders.{element_reader}
use Rattle.evidence_types.specs.StampValue.{IsSequence}

-- a SEQUENCE is read whole
read_whole : (octets : List ℕ) → IsSequence octets
    → element_at 0x30 (spot 0 octets) ≡ Ok (octets, spot (0 + length octets) [])
read_whole octets h = subst (λ (x : List ℕ). element_at 0x30 (spot 0 x) ≡ Ok (octets, spot (0 + length octets) []))
    (append-nil octets) ((element_reader 0x30).again octets 0 [] h tt)

pub one_sequence : (octets x : List ℕ) (s : Spot) → IsBytes octets → element_at 0x30 (spot 0 octets) ≡ Ok (x, s)
    → s.rest ≡ [] → IsSequence octets
one_sequence octets x s fits e none =
    let takes = (element_reader 0x30).takes (spot 0 octets) (x, s) fits e in
    subst IsSequence (sym (takes.1.parts ∙ ap (λ (l : List ℕ). x ++ l) none ∙ append-nil x)) takes.0

-- what is left
abbrev Read : Type 0
Read = Result (List ℕ × Spot) Fault

abbrev rest_of : List ℕ → Read → List ℕ
rest_of none (Ok y) = y.1.rest
rest_of none (Err f) = none

pub nothing_behind : (octets x : List ℕ) (s : Spot) → element_at 0x30 (spot 0 octets) ≡ Ok (x, s) → IsSequence octets
    → s.rest ≡ []
nothing_behind octets x s e h = sym (ap (rest_of []) (sym (read_whole octets h) ∙ e))

abbrev is_read : Read → Bool
is_read (Ok y) = true
is_read (Err f) = false

pub never_fault : (octets : List ℕ) (f : Fault) → element_at 0x30 (spot 0 octets) ≡ Err f → IsSequence octets → ⊥
never_fault octets f e h = let z : true ≡ false = ap is_read (sym (read_whole octets h) ∙ e) in absurd cc
