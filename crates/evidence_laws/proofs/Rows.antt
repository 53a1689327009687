-- The worked rows.
use Rattle.std.proofs.Common.{◌≡◌, ℕ, ◌≤◌, [], ◌∷◌, refl, lit<, lit≤, arith, inl, inr}
use Rattle.std.proofs.lemmas.List.Elements.{All-nil, All-head, All-tail, All-from_recursion}
use Rattle.digests.specs.declared.algorithm.Alg.{Alg}
use Rattle.digests.specs.declared.algorithm.Alg.TheVariants.{Sha1, Sha256, Sha512}
use Rattle.check_verdict.proofs.Lists.{any_never}
use Rattle.check_evidence.specs.Grounds.{AlgEnd}
use Rattle.check_evidence.specs.Ends.{AlgHolds}
use Rattle.evidence_laws.specs.Rows.{EndRows, BesideRows, until}

abbrev IsSha1 : AlgEnd → Type 0
IsSha1 e = e.alg ≡ Sha1

-- no end of these is earlier
abbrev InTime : Alg → ℕ → AlgEnd → Type 0
InTime alg m e = e.alg ≡ alg → m ≤ e.last

sha256_other : Sha256 ≡ Sha1 → ⊥
sha256_other e = absurd cc

sha1_other : Sha1 ≡ Sha256 → ⊥
sha1_other e = absurd cc

sha512_other : Sha512 ≡ Sha256 → ⊥
sha512_other e = absurd cc

no_end : (m : ℕ) → AlgHolds [] Sha1 m → ⊥
no_end m h = any_never IsSha1 [] (h.given refl) (All-nil (λ e. IsSha1 e → ⊥))

end_of_another : (m : ℕ) → AlgHolds (until Sha256 9 ∷ []) Sha1 m → ⊥
end_of_another m h = any_never IsSha1 (until Sha256 9 ∷ []) (h.given refl)
    (All-from_recursion (λ e. IsSha1 e → ⊥) (until Sha256 9 ∷ []) (sha256_other, tt))

late : 6 ≤ 5 → ⊥
late h = omega (arith, h)

pub end_rows : EndRows
end_rows = record {
  sha1_never = no_end;
  sha1_of_another = end_of_another;
  sha1_at_its_end = record {
    in_time = All-from_recursion (InTime Sha1 5) (until Sha1 5 ∷ []) ((λ e. lit≤ tt), tt);
    given = λ e. (0, until Sha1 5, lit< tt, refl, refl);
  };
  sha1_after_it = λ h. late (All-head (InTime Sha1 6) (until Sha1 5) [] h.in_time refl);
  without_an_end = λ m. record { in_time = All-nil (InTime Sha256 m); given = λ e. absurd (sha256_other e) };
  ends_of_others = λ m. record {
    in_time = All-from_recursion (InTime Sha256 m) (until Sha1 5 ∷ until Sha512 0 ∷ [])
        ((λ e. absurd (sha1_other e)), ((λ e. absurd (sha512_other e)), tt));
    given = λ e. absurd (sha256_other e);
  };
  at_the_earlier = record {
    in_time = All-from_recursion (InTime Sha256 5) (until Sha256 9 ∷ until Sha256 5 ∷ [])
        ((λ e. lit≤ tt), ((λ e. lit≤ tt), tt));
    given = λ e. absurd (sha256_other e);
  };
  after_the_earlier = λ h. late (All-head (InTime Sha256 6) (until Sha256 5) []
      (All-tail (InTime Sha256 6) (until Sha256 9) (until Sha256 5 ∷ []) h.in_time) refl);
  in_either_order = λ h. late (All-head (InTime Sha256 6) (until Sha256 5) (until Sha256 9 ∷ []) h.in_time refl);
}

pub beside_rows : BesideRows
beside_rows = record {
  first_there = refl;
  second_there = refl;
  third_there = refl;
  first_before = inr (refl, lit< tt);
  second_before = inl (lit< tt);
  before_first = refl;
  before_second = refl;
  before_third = refl;
  after_first = refl;
  after_second = refl;
  after_third = refl;
  beside_second = refl;
  beside_third = refl;
}
