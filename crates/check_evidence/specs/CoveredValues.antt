-- The values that an archive time-stamp must cover (RFC 4998, 4.3, 5.2 and 5.3), as they are handed in: each is
-- computed when it is asked for.
use Rattle.std.specs.Prelude.{◌≡◌, ◌≢◌, ⊤, ℕ, true, List, [], ◌∷◌, ◌++◌, length, Option, Some, None}
use Rattle.std.specs.List.{AllZip, AllByRecursion}
use Rattle.digests.specs.Digests.{alg_of, octets_of}
use Rattle.digests.specs.Messages.{digest_of}
use Rattle.digests.specs.Selection.{AreOfWanted, set_given}
use Rattle.digests.specs.Sets.{is_in}
use Rattle.digests.specs.declared.algorithm.Alg.{Alg}
use Rattle.digests.specs.declared.selection.WantedDigests.{WantedDigests}
use Rattle.digests.specs.declared.value.Digest.{Digest}
use Rattle.check_evidence.specs.declared.covered.Covered.{Covered}
use Rattle.check_evidence.specs.declared.covered.Covered.TheVariants as covered

-- the value of a data object: its hash value (4.3, step 1); after chains whose sequence has this digest the hash value
-- of both (5.2, step 4)
abbrev pub value_of : Alg → (chains : Option Digest) → (data_object : List ℕ) → List ℕ
value_of alg None data_object = digest_of alg data_object
value_of alg (Some chains) data_object = digest_of alg (digest_of alg data_object ++ octets_of chains)

-- the value of a data object that has these digests
pub record IsValueOf (alg : Alg) (chains : Option Digest) (digests : WantedDigests) (value : List ℕ) : Type 0 where
  pub data_object : List ℕ
  pub are : AreOfWanted digests data_object
  pub is : value ≡ value_of alg chains data_object

-- these are the values, in order, by this algorithm
abbrev pub AreValues : Alg → Covered → (values : List (List ℕ)) → Type 0
AreValues alg (covered.One d) values = values ≡ octets_of d ∷ []
AreValues alg (covered.Each chains digests) values = AllZip (IsValueOf alg chains) digests.now values

-- they can be computed: the one is by the algorithm, and of each data object there is a digest by it
abbrev pub AreGiven : Alg → Covered → Type 0
AreGiven alg (covered.One d) = alg_of d ≡ alg
AreGiven alg (covered.Each chains digests) = AllByRecursion (λ d. is_in alg (set_given d) ≡ true) digests.now

-- there is one
abbrev pub AreSome : Covered → Type 0
AreSome (covered.One d) = ⊤
AreSome (covered.Each chains digests) = digests.now ≢ []

-- how many there are
abbrev pub how_many : Covered → ℕ
how_many (covered.One d) = 1
how_many (covered.Each chains digests) = length digests.now
