-- The request that the words of the command line ask for. `holds` is what an open file holds, if that is known.
use Rattle.std.specs.Prelude.{◌≡◌, ◌≢◌, ℕ, List, Option, option_copied}
use Rattle.std.specs.Io.KnownBytes.{Appends}
use Rattle.digests.specs.declared.algorithm.Alg.{Alg}
use Rattle.digests.specs.declared.value.Digest.{Digest}
use Rattle.digests.specs.Algorithms.{name_of}
use Rattle.tsp_types.specs.RequestValue.{EncodesRequest}
use Rattle.tsp_types.specs.Asked.{asked}
use Rattle.cli_tasks.specs.declared.task.RequestWords.{RequestWords}
use Rattle.cli_tasks.specs.declared.task.Stamped.{Stamped}
use Rattle.cli_tasks.specs.declared.task.Stamped.TheVariants as stamped
use Rattle.cli_failures.specs.Files.{IsHeld}
use Rattle.cli_failures.specs.Signatures.{IsSignatureDigest}
use Rattle.cli_values.specs.Values.{IsDigest, IsInHex, IsPolicy}

-- what is to be stamped: a digest that is given, or that of a signature in a file
abbrev pub IsStamped : {F : Type 0} → (holds : F → Option (List ℕ)) → (name : List ℕ) → Stamped → Digest → Type 0
IsStamped holds name (stamped.Digest digits) digest = IsDigest name digits.now digest
IsStamped holds name (stamped.Signature path number) digest = (alg : Alg) × (name ≡ name_of alg)
    × ((octets : List ℕ) × IsHeld holds octets × IsSignatureDigest alg octets number digest)

-- the words ask for a stamp under this policy and with this nonce
pub record AreValues (words : RequestWords) (policy nonce : Option (List ℕ)) : Type 0 where
  pub of_policy : IsPolicy (option_copied words.policy) policy
  pub of_nonce : IsInHex (option_copied words.nonce) nonce

-- these octets encode the request of this digest that the words ask for
pub record IsRequestFor (words : RequestWords) (digest : Digest) (octets : List ℕ) : Type 0 where
  pub policy : Option (List ℕ)
  pub nonce : Option (List ℕ)
  pub are : AreValues words policy nonce
  pub encoded : EncodesRequest octets (asked digest policy nonce words.cert)

-- these octets encode the request that the words ask for
pub record IsRequestOf {F : Type 0} (holds : F → Option (List ℕ)) (words : RequestWords)
    (octets : List ℕ) : Type 0 where
  pub digest : Digest
  pub of_digest : IsStamped holds words.alg.now words.stamped digest
  pub is : IsRequestFor words digest octets

-- a file took the octets of that request after what it held, if it is known what such a file holds
pub record IsRequestWritten {F : Type 0} (holds contents : F → Option (List ℕ)) (words : RequestWords) : Type 0 where
  pub octets : List ℕ
  pub made : IsRequestOf holds words octets
  pub before : F
  pub after : F
  pub wrote : Appends (contents before) (contents after) octets

-- the file that is written isn't the one of the signature
abbrev pub IsOutApart : Stamped → (out : List ℕ) → Type 0
IsOutApart (stamped.Digest digits) out = Unit {0}
IsOutApart (stamped.Signature path number) out = out ≢ path.now
