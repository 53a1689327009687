-- An archive time-stamp that fits stands, or fails one of W6 and W7.
use Rattle.std.proofs.Common.{◌≡◌, ◌⊎◌, ℕ, List, refl, sym, ◌∙◌, inl, inr}
use Rattle.check_evidence.specs.declared.rules.StampRule.{StampRule}
use Rattle.check_evidence.specs.declared.rules.StampRule.TheVariants as rule
use Rattle.check_evidence.specs.Grounds.{Grounds}
use Rattle.check_evidence.specs.Places.{Place}
use Rattle.check_evidence.specs.Standing.{Stands}
use Rattle.check_evidence.specs.Failing.{FailsToLast}
use Rattle.check_evidence.proofs.Uses.{EndOfUse, Strong, Lasting, end_of, end_of_weak, end_of_lapsed}
use Rattle.check_evidence.proofs.Uses.{strong_too, lasting_too}

-- its algorithms don't hold; or they hold, and no entry does
abbrev Ends : (g : Grounds) (ds : List (List ℕ)) (p : Place) → EndOfUse g ds p → StampRule → Type 0
Ends g ds p e failed = ((failed ≡ rule.Weak) × (Strong g ds p e → ⊥))
    ⊎ ((failed ≡ rule.Lapsed) × Strong g ds p e × (Lasting g ds p e → ⊥))

module _ (g : Grounds) (ds : List (List ℕ)) (p : Place) where
  ends : (failed : StampRule) → FailsToLast g ds p failed → (e : EndOfUse g ds p) × Ends g ds p e failed
  ends rule.Weak h = (end_of_weak g ds p h, inl (refl, h.not))
  ends rule.Lapsed h = (end_of_lapsed g ds p h, inr (refl, h.algs, h.not))
  ends rule.Algorithm h = absurd h
  ends rule.HashLength h = absurd h
  ends rule.NotCovered h = absurd h
  ends (rule.Token failed) h = absurd h
  ends rule.Order h = absurd h
  ends rule.Others h = absurd h

  pub never_ended : Stands g ds p → (failed : StampRule) → FailsToLast g ds p failed → ⊥
  never_ended st failed h = go (ends failed h)
    where
      go : (e : EndOfUse g ds p) × Ends g ds p e failed → ⊥
      go (e, inl (is, weak)) = weak (strong_too g ds p (end_of g ds p st) e st.algs)
      go (e, inr (is, strong, lapsed)) = lapsed (lasting_too g ds p (end_of g ds p st) e st.lasts)

  pub one_end : (a b : StampRule) → FailsToLast g ds p a → FailsToLast g ds p b → a ≡ b
  one_end a b h k = go (ends a h) (ends b k)
    where
      go : (e : EndOfUse g ds p) × Ends g ds p e a → (f : EndOfUse g ds p) × Ends g ds p f b → a ≡ b
      go (e, inl (is, weak)) (f, inl (is', weak')) = is ∙ sym is'
      go (e, inl (is, weak)) (f, inr (is', strong, lapsed)) = absurd (weak (strong_too g ds p f e strong))
      go (e, inr (is, strong, lapsed)) (f, inl (is', weak)) = absurd (weak (strong_too g ds p e f strong))
      go (e, inr (is, strong, lapsed)) (f, inr (is', strong', lapsed')) = is ∙ sym is'
