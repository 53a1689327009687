-- What is found by a mark is found by what the mark is of.
use Rattle.std.proofs.Common.{◌≡◌, ℕ, List, length, Option, Some, None, refl, ap, ◌∙◌}
use Rattle.trust_lists.specs.Chains.{IsNextAt}
use Rattle.trust_lists.specs.Entries.{EntryValue}
use Rattle.trust_lists.specs.declared.role.Role.{Role}
use Rattle.trust_lists.specs.declared.marks.MarkBy.{MarkBy}
use Rattle.trust_lists.specs.declared.marks.MarkBy.TheVariants.{Serial, KeyId}
use Rattle.trust_lists.specs.Marks.{mark_of, label_of, HasMark, AreMarked, StandsAt, HasSerial, HasKey, IsNext}

-- where an entry has the role, and its certificate the mark, both stand at its place
next_of : (Is : EntryValue → Type 0) (role : Role) (by : MarkBy) (mark : ℕ)
    → ((e : EntryValue) → Is e → (e.role ≡ role) × HasMark by mark e)
    → (entries : List EntryValue) (marks : List ℕ) (first : ℕ) (found : Option ℕ) → AreMarked by entries marks
    → IsNextAt (StandsAt role mark entries marks) (length entries) first found → IsNext Is entries first found
next_of Is role by mark marked entries marks first None are h = λ i e from below is p.
    h i from below (
      are.each i mark e is (marked e p).1 ∙ ap (λ (r : Role). label_of r mark) (marked e p).0,
      (e, is, (marked e p).0),
    )
next_of Is role by mark marked entries marks first (Some at) are h = (
  h.0,
  h.1,
  λ i e from below is p.
      h.3 i from below (
        are.each i mark e is (marked e p).1 ∙ ap (λ (r : Role). label_of r mark) (marked e p).0,
        (e, is, (marked e p).0),
      ),
)

pub next_serial :
    (role : Role) (issuer serial : List ℕ) (entries : List EntryValue) (marks : List ℕ) (first : ℕ) (found : Option ℕ)
    → AreMarked Serial entries marks
    → IsNextAt (StandsAt role (mark_of (mark_of 0 issuer) serial) entries marks) (length entries) first found
    → IsNext (HasSerial role issuer serial) entries first found
next_serial role issuer serial entries marks first found are h =
    next_of (HasSerial role issuer serial) role Serial
    (mark_of (mark_of 0 issuer) serial) marked entries marks first found are h
  where
    marked : (e : EntryValue) → HasSerial role issuer serial e
        → (e.role ≡ role) × HasMark Serial (mark_of (mark_of 0 issuer) serial) e
    marked e has = (has.0, rw (has.1, has.2) refl)

pub next_key_id :
    (role : Role) (id : List ℕ) (entries : List EntryValue) (marks : List ℕ) (first : ℕ) (found : Option ℕ)
    → AreMarked KeyId entries marks
    → IsNextAt (StandsAt role (mark_of 0 id) entries marks) (length entries) first found
    → IsNext (HasKey role id) entries first found
next_key_id role id entries marks first found are h =
    next_of (HasKey role id) role KeyId (mark_of 0 id)
    (λ e has. (has.0, (id, has.1, refl))) entries marks first found are h
