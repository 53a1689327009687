-- When a signed file is accepted under an evidence record (RFC 4998, 1.1 and 5.3; RFC 5652; RFC 3161). Begin here.
--
-- The record shows by which moment the file existed, and the content where one was handed in: k. What the file says of
-- itself is then judged as one could judge it at k. So the answer is yes with moment m exactly when there is a k that
-- the record shows for these octets, and the headline's answer is yes with m, where
--   an algorithm is allowed exactly if it holds at k: the end of SHA-256 may be long past, if k isn't
--   an authority's entry counts for a token only if it holds at genTime and also at k, and genTime isn't later than k
-- The entries of signers count as ever, by the moments of the tokens, and m is the headline's: the latest signer's
-- earliest genTime, not k.
--
-- Its words, and where they are defined:
--   the record shows k for these octets    Shows in check_evidence/specs/Showing.antt
--   the headline's yes with m              Yes in check_verdict/specs/Verdicts.antt; Headline says it in one sentence
--   an algorithm holds at k                AlgHolds in check_evidence/specs/Ends.antt, by the ends that the user gives
--   the entries as they count              beside in check_verdict/specs/Beside.antt; TokensUnder says it of a token in
--                                          the words above, and a law of this crate that they are the same
use Rattle.std.specs.Prelude.{◌≡◌, ◌↔◌, ℕ, List, [], ◌∷◌, map, Option, Some, None, IsTrue}
use Rattle.digests.specs.declared.algorithm.Alg.{Alg}
use Rattle.check_fit.specs.declared.policy.Policy.{Policy}
use Rattle.check_fit.specs.Fitting.{is_allowed}
use Rattle.check_verdict.specs.Beside.{beside}
use Rattle.check_verdict.specs.Passing.{Terms}
use Rattle.check_verdict.specs.Verdicts.{Yes, Refuses}
use Rattle.check_evidence.specs.Grounds.{AlgEnd, Grounds}
use Rattle.check_evidence.specs.Ends.{AlgHolds}
use Rattle.check_evidence.specs.Showing.{Shows}
use Rattle.check_evidence.specs.Refusing.{Refuses as RefusesRecord}
use Rattle.check_under.specs.declared.refused.UnderRefused.{UnderRefused}
use Rattle.check_under.specs.declared.refused.UnderRefused.TheVariants as refused

-- what the record must show: the file, and the content that was handed in
abbrev pub data_of : (file : List ℕ) → (handed : Option (List ℕ)) → List (List ℕ)
data_of file None = file ∷ []
data_of file (Some content) = file ∷ content ∷ []

-- a policy allows an algorithm exactly if it holds at this moment
abbrev pub AllowsAt : (ends : List AlgEnd) → ℕ → Policy → Type 0
AllowsAt ends k policy = (alg : Alg) → IsTrue (is_allowed policy alg) ↔ AlgHolds ends alg k

-- what the file is judged by: the record shows its data by some k, and these terms are those of k
pub record AreTermsUnder (g : Grounds) (octets : List ℕ) (data_objects : List (List ℕ)) (t : Terms) : Type 0 where
  pub shown : ℕ
  pub shows : Shows g octets data_objects shown
  pub allows : AllowsAt g.ends shown t.policy
  pub trust : t.trust ≡ map (beside shown) g.trust
  pub vouches : t.vouches ≡ g.vouches

-- The file is accepted with this moment under the record of these octets.
pub record YesUnder (g : Grounds) (octets file : List ℕ) (handed : Option (List ℕ)) (m : ℕ) : Type 0 where
  pub terms : Terms
  pub under : AreTermsUnder g octets (data_of file handed) terms
  pub yes : Yes terms file handed m

-- It is refused: the record is, for the file and the content; or it shows them, and the file is refused.
abbrev pub RefusesUnder : Grounds → (octets file : List ℕ) → (handed : Option (List ℕ)) → UnderRefused → Type 0
RefusesUnder g octets file handed (refused.Evidence r) = RefusesRecord g octets (data_of file handed) r
RefusesUnder g octets file handed (refused.Signed r) = (t : Terms)
    × AreTermsUnder g octets (data_of file handed) t × Refuses t file handed r
