-- There are no questions about entries that the signer's identifier doesn't match.
use Rattle.std.proofs.Common.{◌≡◌, ℕ, zero, suc, ◌+◌, ◌-◌, ◌<◌, ◌≤◌, List, [], ◌∷◌, ◌++◌, Some, length, drop, get_or}
use Rattle.std.proofs.Common.{sym, ap, subst, ◌∙◌}
use Rattle.std.proofs.Common.{arith, inl, inr}
use Rattle.std.specs.Prelude.{slice_get}
use Rattle.std.proofs.lemmas.List.{drop_all, drop_more}
use Rattle.std.proofs.lemmas.Option.{slice_get_cases}
use Rattle.cms_types.specs.SignerValue.{SidValue, SignerValue}
use Rattle.check_names.specs.Naming.{Matches}
use Rattle.trust_lists.specs.declared.role.Role.{Role}
use Rattle.trust_lists.specs.Entries.{EntryValue}
use Rattle.trust_lists.specs.Asking.{Asked}
use Rattle.trust_lists.specs.Marks.{NoneFrom}
use Rattle.check_questions.specs.FileQuestions.{Joined, InOrder, OfEntry}
use Rattle.check_verdict.proofs.Found.{stands_at}
use Rattle.check_questions.proofs.Under.{no_question}

-- what belongs to entries of which the first have nothing belongs to the others
passed_over : (Has : EntryValue → List Asked → Type 0) (es : List EntryValue) (d from : ℕ) → from + d ≤ length es
    → ((i : ℕ) (x : EntryValue) → from ≤ i → i < from + d → slice_get es i ≡ Some x → (qs : List Asked) → Has x qs
    → qs ≡ [])
    → (qs : List Asked) → InOrder Has (drop from es) qs → InOrder Has (drop (from + d) es) qs
passed_over Has es zero from le none qs h =
    let z : from ≡ from + 0 = omega arith in subst (λ (n : ℕ). InOrder Has (drop n es) qs) z h
passed_over Has es (suc d) from le none qs h = elim ((slice_get_cases es from).1) [
  | inl p ↦ (let e : drop from es ≡ p.0 ∷ drop (from + 1) es = drop_more es from p.0 p.1
      ∙ ap (λ (y : EntryValue). y ∷ drop (from + 1) es) p.3 in
      let j : Joined (Has p.0) (InOrder Has (drop (from + 1) es)) qs =
      subst (λ (l : List EntryValue). InOrder Has l qs) e h in
      let k : qs ≡ j.others = j.is
      ∙ ap (λ (a : List Asked). a ++ j.others) (none from p.0 (omega arith) (omega arith) p.2 j.first j.is_first) in
      let z : (from + 1) + d ≡ from + suc d = omega arith in
      subst (λ (n : ℕ). InOrder Has (drop n es) qs) z (passed_over Has es d (from + 1) (omega (arith, le))
      (λ i x ge lt. none i x (omega (arith, ge)) (omega (arith, lt))) qs
      (subst (InOrder Has (drop (from + 1) es)) (sym k) j.are_others)))
  | inr over ↦ absurd (omega (arith, over.0, le))
]

-- what belongs to all entries from one on belongs to those from the next one on that is found
pub of_found : (role : Role) (s : SignerValue) (trust : List EntryValue) (found : SidValue) → found ≡ s.sid
    → (from at : ℕ) → from ≤ at → at ≤ length trust
    → NoneFrom (λ e. (e.role ≡ role) × Matches found e.certificate) trust from at → (qs : List Asked)
    → InOrder (OfEntry role s) (drop from trust) qs → InOrder (OfEntry role s) (drop at trust) qs
of_found role s trust found is from at le within none qs are =
    let z : from + (at - from) ≡ at = omega (arith, le) in
    subst (λ (n : ℕ). InOrder (OfEntry role s) (drop n trust) qs) z
    (passed_over (OfEntry role s) trust (at - from) from (omega (arith, le, within)) nothing qs are)
  where
    nothing : (i : ℕ) (x : EntryValue) → from ≤ i → i < from + (at - from) → slice_get trust i ≡ Some x
        → (qs : List Asked) → OfEntry role s x qs → qs ≡ []
    nothing i x ge lt here ys h = no_question role s x (λ q u. none i x ge (omega (arith, lt, le)) here
        (u.has_role, subst (λ (id : SidValue). Matches id x.certificate) (sym is) u.matches)) ys h

pub at_end : (trust : List EntryValue) → drop (length trust) trust ≡ []
at_end trust = drop_all (length trust) trust (omega arith)

pub first_left : (es trust : List EntryValue) → es ≡ trust → (at : ℕ) (e : EntryValue) → e ≡ get_or es at e
    → at < length trust → drop at trust ≡ e ∷ drop (at + 1) trust
first_left es trust same at e is lt = drop_more trust at e lt
    ∙ ap (λ (y : EntryValue). y ∷ drop (at + 1) trust) (sym (stands_at es trust same at e is))
