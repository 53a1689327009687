-- What `evidence request` makes: the request for a stamp of the root of the hash tree over the digests that a file
-- states (RFC 4998, 4.2; RFC 3161, 2.4.1), and why it makes none. `holds` is what an open file holds, and `contents`
-- what it has taken, if that is known.
use Rattle.std.specs.Prelude.{◌≡◌, ◌≤◌, ◌^◌, ◌⊎◌, ℕ, List, Option, length, codes, option_copied}
use Rattle.std.specs.Io.KnownBytes.{Appends}
use Rattle.digests.specs.declared.algorithm.Alg.{Alg}
use Rattle.digests.specs.declared.value.Digest.{Digest}
use Rattle.digests.specs.Algorithms.{name_of}
use Rattle.tsp_types.specs.Asked.{asked}
use Rattle.tsp_types.specs.RequestValue.{EncodesRequest, request_parts}
use Rattle.evidence_trees.specs.HashTrees.{HashTree}
use Rattle.evidence_sums.specs.SumLines.{SumValue}
use Rattle.cli_tasks.specs.declared.task.RootRequestWords.{RootRequestWords}
use Rattle.cli_failures.specs.declared.failure.Failure.{Failure}
use Rattle.cli_failures.specs.declared.failure.Failure.TheVariants as failure
use Rattle.cli_failures.specs.Causes.{Names}
use Rattle.cli_failures.specs.Files.{IsFailureToRead, IsHeld}
use Rattle.cli_failures.specs.Requests.{longer}
use Rattle.cli_values.specs.Values.{IsInHex, IsPolicy}
use Rattle.cli_values.specs.Refusals.{RefusesAlg, RefusesNonce, RefusesPolicy}
use Rattle.cli_making.specs.Sums.{AreStated, RefusesSums}

-- the words ask for a stamp under this policy and with this nonce
pub record AreRootValues (words : RootRequestWords) (policy nonce : Option (List ℕ)) : Type 0 where
  pub of_policy : IsPolicy (option_copied words.policy) policy
  pub of_nonce : IsInHex (option_copied words.nonce) nonce

-- the text of a file states sums by the algorithm of the words, with this root of the tree over their digests
pub record IsRootHeld {F : Type 0} (holds : F → Option (List ℕ)) (words : RootRequestWords) (root : Digest)
    : Type 0 where
  pub alg : Alg
  pub named : words.alg.now ≡ name_of alg
  pub text : List ℕ
  pub held : IsHeld holds text
  pub sums : List SumValue
  pub tree : HashTree
  pub are : AreStated alg text sums tree root

-- these octets encode the request for a stamp of that root that the words ask for
pub record IsRootRequest {F : Type 0} (holds : F → Option (List ℕ)) (words : RootRequestWords) (octets : List ℕ)
    : Type 0 where
  pub root : Digest
  pub of_root : IsRootHeld holds words root
  pub policy : Option (List ℕ)
  pub nonce : Option (List ℕ)
  pub are : AreRootValues words policy nonce
  pub encoded : EncodesRequest octets (asked root policy nonce words.cert)

-- a file took the octets of that request after what it held, if it is known what such a file holds
pub record IsRootRequestWritten {F : Type 0} (holds contents : F → Option (List ℕ)) (words : RootRequestWords)
    : Type 0 where
  pub octets : List ℕ
  pub made : IsRootRequest holds words octets
  pub before : F
  pub after : F
  pub wrote : Appends (contents before) (contents after) octets

-- ---- why none is made

-- policy or nonce isn't as it must be; the policy is judged first
abbrev pub RefusesRootValues : RootRequestWords → Failure → Type 0
RefusesRootValues words f = RefusesPolicy (option_copied words.policy) f
    ⊎ ((policy : Option (List ℕ)) × IsPolicy (option_copied words.policy) policy
    × RefusesNonce (option_copied words.nonce) f)

-- a request for a stamp of this root would be longer than an element can be
abbrev pub RefusesLength : Digest → (policy nonce : Option (List ℕ)) → RootRequestWords → Failure → Type 0
RefusesLength root policy nonce words f = Names (longer policy) f
    × (2 ^ 32 ≤ length (request_parts (asked root policy nonce words.cert)))

-- the file can't be read, its text states no sums by this algorithm, or the request would be too long
abbrev pub RefusesRoot : {F : Type 0} → (holds : F → Option (List ℕ)) → RootRequestWords → Alg
    → (policy nonce : Option (List ℕ)) → Failure → Type 0
RefusesRoot holds words alg policy nonce f = IsFailureToRead words.sums f
    ⊎ ((text : List ℕ) × IsHeld holds text × (RefusesSums alg text f
    ⊎ ((sums : List SumValue) × (tree : HashTree) × (root : Digest) × AreStated alg text sums tree root
    × RefusesLength root policy nonce words f)))

-- the first that isn't as it must be: the algorithm's name, then policy and nonce, and then the file
abbrev pub RefusesRootRequest : {F : Type 0} → (holds : F → Option (List ℕ)) → RootRequestWords → Failure → Type 0
RefusesRootRequest holds words f = RefusesAlg words.alg.now f
    ⊎ ((alg : Alg) × (words.alg.now ≡ name_of alg) × (RefusesRootValues words f
    ⊎ ((policy : Option (List ℕ)) × (nonce : Option (List ℕ)) × AreRootValues words policy nonce
    × RefusesRoot holds words alg policy nonce f)))

-- No request is made: the file that should take it is the one of the sums, as far as their paths say; memory ran out;
-- something isn't as it must be; or that file can't be made or written, once the request is there.
abbrev pub MakesNoRootRequest : {F : Type 0} → (holds : F → Option (List ℕ)) → RootRequestWords → Failure → Type 0
MakesNoRootRequest holds words f = Names (codes "OUT") f ⊎ ((f ≡ failure.Memory)
    ⊎ (RefusesRootRequest holds words f
    ⊎ ((octets : List ℕ) × IsRootRequest holds words octets × (f ≡ failure.Write words.out))))
