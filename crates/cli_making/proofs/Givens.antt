-- What the words of a command name.
use Rattle.std.proofs.Common.{◌≡◌, ℕ, List, Option, inl, inr, sym, subst}
use Rattle.std.specs.Borrow.{Bor}
use Rattle.digests.specs.declared.algorithm.Alg.{Alg}
use Rattle.cli_failures.specs.declared.failure.Failure.{Failure}
use Rattle.cli_failures.specs.Files.{IsHeld}
use Rattle.cli_making.specs.Given.{AreGiven, GivesNot}
use Rattle.cli_making.proofs.ByImprint.{by_lent, may_name_by}

module _ {F : Type 0} (holds : F → Option (List ℕ)) (name : Option (List ℕ)) where
  -- what is lent of it is the same
  pub given_as : (alg : Alg) (text token lent lent_token : List ℕ) → lent ≡ text → lent_token ≡ token
      → AreGiven holds name alg text token → AreGiven holds name alg lent lent_token
  given_as alg text token lent lent_token same same_token are = record {
    by = by_lent name alg text token lent lent_token same same_token are.by;
    text_held = subst (λ (octets : List ℕ). IsHeld holds octets) (sym same) are.text_held;
    token_held = subst (λ (octets : List ℕ). IsHeld holds octets) (sym same_token) are.token_held;
  }

  module _ (sums token_path : Bor (List ℕ)) (Fails : Alg → List ℕ → List ℕ → Failure → Type 0) (f : Failure) where
    -- it isn't given
    pub gives_not : GivesNot holds name sums token_path (λ _ _ _ _. ⊥) f
        → GivesNot holds name sums token_path Fails f
    gives_not (inl alg) = inl alg
    gives_not (inr (may, inl unread)) = inr (may, inl unread)
    gives_not (inr (may, inr (text, held, inl unread))) = inr (may, inr (text, held, inl unread))
    gives_not (inr (may, inr (text, held, inr (token, token_held, (alg, by, none))))) = absurd none

    -- it is given, and fails so
    pub given_fails : (alg : Alg) (text token : List ℕ) → AreGiven holds name alg text token → Fails alg text token f
        → GivesNot holds name sums token_path Fails f
    given_fails alg text token are why =
        inr (
          may_name_by name text token alg are.by,
          inr (text, are.text_held, inr (token, are.token_held, (alg, are.by, why))),
        )
