-- A version, by the first two octets of its body.
use Rattle.std.proofs.Common.{◌≡◌, ℕ, ◌-◌, ◌≤◌, List, [], ◌∷◌, ◌++◌, length, take, Result, Ok, refl, sym, ap, ◌∙◌}
use Rattle.std.proofs.Common.{arith, inl, inr, ◌⊎◌, append-nil}
use Rattle.std.proofs.lemmas.Bool.{cases_lt}
use Rattle.std.proofs.lemmas.List.{take-append-le, take-take}
use Rattle.der_core.specs.declared.fault.Fault.{Fault}
use Rattle.der_core.specs.Reading.{Spot, spot, any_at, version_in}
use Rattle.devices.specs.declared.source.Source.{Ghosts}
use Rattle.cms_stream_laws.specs.OpenReading.{kept}
use Rattle.cms_stream.specs.declared.reader.Reader.{Reader}
use Rattle.cms_stream.specs.Passing.{IsAtHand, body_to}
use Rattle.cms_stream.specs.Calls.{Moment, moment, Asks}
use Rattle.cms_stream.specs.Parts.{PassesAll}
use Rattle.cms_stream.proofs.Heading.{IsLooked}
use Rattle.cms_stream.proofs.Keeping.{kept_whole}

two_decide : (allowed : List ℕ) (at : ℕ) (xs : List ℕ)
    → version_in allowed (spot at xs) ≡ version_in allowed (spot at (take 2 xs))
two_decide allowed at [] = refl
two_decide allowed at (x ∷ []) = refl
two_decide allowed at (x ∷ y ∷ xs) = refl

first_two : (left : ℕ) (v rest : List ℕ) → (2 ≤ length v) ⊎ (rest ≡ [])
    → take 2 (take left (v ++ rest)) ≡ take 2 (take left v)
first_two left v rest (inr e) = rw (e, append-nil v) refl
first_two left v rest (inl h) = elim (cases_lt left 2) [
  | inl lt ↦ ap (take 2) (take-append-le left v rest (omega (arith, lt, h)))
  | inr le ↦ take-take 2 left (v ++ rest) le ∙ take-append-le 2 v rest h ∙ sym (take-take 2 left v le)
]

pub version_read :
    {at : ℕ} {v octets rest : List ℕ} {s : Spot} (allowed : List ℕ) (end : ℕ) (x : List ℕ) (r : Result (List ℕ) Fault)
    → IsLooked 2 at v octets rest s → kept any_at (body_to end (spot at (v ++ rest))) ≡ Ok x
    → version_in allowed (spot at (take (end - at) octets)) ≡ r
    → kept (version_in allowed) (body_to end s) ≡ r
version_read {at} {v} {octets} {rest} {s} allowed end x r front passed gives =
    ap (λ (z : Spot). kept (version_in allowed) (body_to end z)) (sym front.is)
    ∙ kept_whole (version_in allowed) (body_to end (spot at (v ++ rest))) x passed
    ∙ two_decide allowed at (take (end - at) (v ++ rest))
    ∙ ap (λ (ys : List ℕ). version_in allowed (spot at ys)) (first_two (end - at) v rest front.looked)
    ∙ sym (two_decide allowed at (take (end - at) v))
    ∙ ap (λ (ys : List ℕ). version_in allowed (spot at (take (end - at) ys))) (sym front.same) ∙ gives

-- the same, from the calls that looked at them and passed the body
pub version_passed : {S : Type 0} (g : Ghosts S) (r : Reader) (s : S) (a d : Moment) {u v : Unit {0}} {octets : List ℕ}
    {x : Result (List ℕ) Fault} (allowed : List ℕ) (end : ℕ) → Asks a (Ok u) (moment g r s)
    → (a.tells → IsAtHand 2 r.window (g.rest s)) → octets ≡ r.window → PassesAll end (moment g r s) (Ok v) d
    → version_in allowed (spot r.at (take (end - r.at) octets)) ≡ x
    → (d.failures ≡ a.failures) × (a.tells → kept (version_in allowed) (body_to end a.place) ≡ x)
version_passed g r s a d {x = x} allowed end asks looks same passes gives = (
  passes.exact.0 ∙ asks.exact,
  λ t. version_read allowed end _ x (record { looked = looks t; is = asks.moved t; same = same })
      (passes.exact.1 (asks.telling t)) gives,
)
