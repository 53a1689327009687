-- Until when digest algorithms hold, by what the user says.
use Rattle.std.specs.Prelude.{◌≡◌, ℕ, ◌≤◌, List, All, Any}
use Rattle.digests.specs.declared.algorithm.Alg.{Alg}
use Rattle.digests.specs.declared.algorithm.Alg.TheVariants.{Sha1}
use Rattle.check_evidence.specs.Grounds.{AlgEnd}

-- An algorithm holds at a moment if no end that is given for it is earlier. SHA-1 holds only until an end that is
-- given.
pub record AlgHolds (ends : List AlgEnd) (alg : Alg) (m : ℕ) : Type 0 where
  pub in_time : All (λ (e : AlgEnd). e.alg ≡ alg → m ≤ e.last) ends
  pub given : alg ≡ Sha1 → Any (λ (e : AlgEnd). e.alg ≡ Sha1) ends
