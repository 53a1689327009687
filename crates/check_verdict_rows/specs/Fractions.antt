-- Worked rows: fractions of a second count at the ends of periods, of which both ends are part (RFC 3161, 2.4.2; RFC
-- 5280,
-- 4.1.2.5).
use Rattle.std.specs.Prelude.{ℕ, List, [], ◌∷◌, Option, Some, None, codes}
use Rattle.der_time.specs.Moments.{generalized_moment}
use Rattle.check_fit.specs.declared.rules.TokenRule.{TokenRule}
use Rattle.check_fit.specs.declared.rules.TokenRule.TheVariants as token
use Rattle.check_verdict.specs.TokenRules.{TokenClaim, RunsOut}
use Rattle.check_verdict.specs.Rows.{digest_of_stamp, token_signer, attributes_over, attests, terms, ten_oclock}
use Rattle.check_verdict.specs.Rows.{half_a_second_later}

-- what a token of the authority says that states this time
abbrev pub claim_of : (time : List ℕ) → TokenClaim
claim_of time = record {
  signer = token_signer digest_of_stamp;
  attributes = attributes_over digest_of_stamp;
  moment = generalized_moment time;
}

-- under one entry with this period, and a verifier that vouches for nothing, it fails this rule first
abbrev pub FailsAt : (from until : Option ℕ) → (time : List ℕ) → TokenRule → Type 0
FailsAt from until time failed = RunsOut (terms (attests from until ∷ []) []) (claim_of time) failed

pub record FractionRows : Type 0 where
  -- half a second after the end of the entry's period, and at its end
  pub after_end : FailsAt None (Some ten_oclock) (codes "20240115100000.5Z") token.Period
  pub at_end : FailsAt None (Some half_a_second_later) (codes "20240115100000.5Z") token.SignatureFails
  -- half a second before its beginning, and at its beginning
  pub before_start : FailsAt (Some half_a_second_later) None (codes "20240115100000Z") token.Period
  pub at_start : FailsAt (Some half_a_second_later) None (codes "20240115100000.5Z") token.SignatureFails
  -- half a second after the end of the certificate's period, and at its end
  pub after_certificate : FailsAt None None (codes "20240131235959.5Z") token.Period
  pub with_certificate : FailsAt None None (codes "20240131235959Z") token.SignatureFails
