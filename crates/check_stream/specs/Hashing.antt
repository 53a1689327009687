-- The digests of a content that passed, or was handed in, by which signers are judged.
use Rattle.std.specs.Prelude.{◌≡◌, ℕ, false, List, Option, Some, None, MatchOption, Result, Ok, Err}
use Rattle.digests.specs.declared.algorithm.Alg.{Alg}
use Rattle.digests.specs.declared.set.Algs.{Algs}
use Rattle.digests.specs.declared.selection.Wanted.{Wanted}
use Rattle.digests.specs.declared.selection.WantedDigests.{WantedDigests}
use Rattle.digests.specs.Sets.{is_in}
use Rattle.digests.specs.Selection.{FedWanted, set_of}
use Rattle.cms_types.specs.SignerValue.{SignerValue}
use Rattle.check_fit.specs.declared.policy.Policy.{Policy}
use Rattle.check_fit.specs.declared.rules.Refused.{Refused}
use Rattle.check_fit.specs.Fitting.{WantedBy}
use Rattle.check_fit.specs.FileFitting.{SourceFacts, HasDigests, OfSource}

-- one of the signers needs an algorithm that is none of these
abbrev pub Lacks : Policy → List SignerValue → Algs → Type 0
Lacks policy signers given = (alg : Alg) × WantedBy policy signers alg × (is_in alg given ≡ false)

-- the digests of this content that these signers need
abbrev pub AreWanted : Policy → List SignerValue → (content : List ℕ) → Result WantedDigests Refused → Type 0
AreWanted policy signers content (Ok digests) = HasDigests policy content signers digests
AreWanted policy signers content (Err e) = ⊥

-- these are the digests, as the signers need them, of the octets that the hashers were fed
abbrev pub AreOfPassed : Policy → List SignerValue → Wanted → Result WantedDigests Refused → Type 0
AreOfPassed policy signers hashers result =
    (digests : WantedDigests) × (result ≡ Ok digests)
    × ((m : List ℕ) → FedWanted hashers m → HasDigests policy m signers digests)

-- the digests that these signers need: of the content that passed, if none was handed in, and no digests if one of
-- them is lacking; or of what the source of the content gave
abbrev pub HashesWanted : {S : Type 0} → SourceFacts S → Policy → List SignerValue → Wanted → (before after : Option S)
    → Option (Result WantedDigests Refused) → Type 0
HashesWanted facts policy signers hashers None after result =
    (after ≡ None) × MatchOption result (Lacks policy signers (set_of hashers)) (AreOfPassed policy signers hashers)
HashesWanted {S} facts policy signers hashers (Some s) after result =
    (s' : S) × (after ≡ Some s') × (outcome : Result WantedDigests Refused) × (result ≡ Some outcome)
    × OfSource (AreWanted policy signers) (facts.tells s) (facts.rest s) (facts.rest s') (facts.failures s)
    (facts.failures s') outcome
