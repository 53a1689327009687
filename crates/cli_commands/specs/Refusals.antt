-- Which value of a request is refused: the first that isn't as it must be, of digest, policy and nonce; then the file
-- of a signature. `holds` is what an open file holds, if that is known.
use Rattle.std.specs.Prelude.{◌≡◌, ◌≤◌, ◌^◌, ◌⊎◌, ℕ, List, Option, codes, length, option_copied}
use Rattle.std.specs.Borrow.{Bor}
use Rattle.digests.specs.declared.algorithm.Alg.{Alg}
use Rattle.digests.specs.declared.value.Digest.{Digest}
use Rattle.digests.specs.Algorithms.{name_of}
use Rattle.tsp_types.specs.RequestValue.{request_parts}
use Rattle.tsp_types.specs.Asked.{asked}
use Rattle.cli_tasks.specs.declared.task.RequestWords.{RequestWords}
use Rattle.cli_failures.specs.declared.failure.Failure.{Failure}
use Rattle.cli_failures.specs.declared.failure.Failure.TheVariants as failure
use Rattle.cli_tasks.specs.declared.task.Stamped.{Stamped}
use Rattle.cli_tasks.specs.declared.task.Stamped.TheVariants as stamped
use Rattle.cli_failures.specs.Causes.{Names}
use Rattle.cli_failures.specs.Files.{IsFailureToRead, IsHeld}
use Rattle.cli_failures.specs.Signatures.{HasNoSigner, IsSignatureDigest}
use Rattle.cli_values.specs.Values.{IsDigest, IsPolicy}
use Rattle.cli_values.specs.Refusals.{RefusesAlg, RefusesDigest, RefusesNonce, RefusesPolicy}
use Rattle.cli_commands.specs.Requests.{AreValues}

-- policy or nonce isn't as it must be; the policy is judged first
abbrev pub RefusesValues : RequestWords → Failure → Type 0
RefusesValues words f = RefusesPolicy (option_copied words.policy) f
    ⊎ ((policy : Option (List ℕ)) × IsPolicy (option_copied words.policy) policy
    × RefusesNonce (option_copied words.nonce) f)

-- a request of this digest would be longer than an element can be
pub record RefusesLength (words : RequestWords) (digest : Digest) (f : Failure) : Type 0 where
  pub policy : Option (List ℕ)
  pub nonce : Option (List ℕ)
  pub are : AreValues words policy nonce
  pub size : 2 ^ 32 ≤ length (request_parts (asked digest policy nonce words.cert))
  pub names : Names (codes "policy") f ⊎ Names (codes "nonce") f

-- the first that isn't as it must be, if a digest is given: digest, then policy and nonce
abbrev pub RefusesGiven : RequestWords → (digits : List ℕ) → Failure → Type 0
RefusesGiven words digits f = RefusesDigest words.alg.now digits f
    ⊎ ((digest : Digest) × IsDigest words.alg.now digits digest
    × (RefusesValues words f ⊎ RefusesLength words digest f))

-- the file doesn't give the signature, or a request of its digest would be too long
abbrev pub RefusesFile : {F : Type 0} → (holds : F → Option (List ℕ)) → RequestWords → Alg
    → (path : Bor (List ℕ)) (number : ℕ) → Failure → Type 0
RefusesFile holds words alg path number f = IsFailureToRead path f
    ⊎ ((octets : List ℕ) × IsHeld holds octets × (HasNoSigner octets number f
    ⊎ ((digest : Digest) × IsSignatureDigest alg octets number digest × RefusesLength words digest f)))

-- if the digest is that of a signature: the algorithm's name, then policy and nonce, and then the file
abbrev pub RefusesSignature : {F : Type 0} → (holds : F → Option (List ℕ)) → RequestWords
    → (path : Bor (List ℕ)) (number : ℕ) → Failure → Type 0
RefusesSignature holds words path number f = RefusesAlg words.alg.now f
    ⊎ ((alg : Alg) × (words.alg.now ≡ name_of alg) × (RefusesValues words f
    ⊎ (((policy nonce : Option (List ℕ)) × AreValues words policy nonce) × RefusesFile holds words alg path number f)))

abbrev pub RefusesStamped : {F : Type 0} → (holds : F → Option (List ℕ)) → RequestWords → Stamped → Failure → Type 0
RefusesStamped holds words (stamped.Digest digits) f = RefusesGiven words digits.now f
RefusesStamped holds words (stamped.Signature path number) f = RefusesSignature holds words path number f

-- memory ran out, or the first that isn't as it must be is named
abbrev pub Refuses : {F : Type 0} → (holds : F → Option (List ℕ)) → RequestWords → Failure → Type 0
Refuses holds words f = (f ≡ failure.Memory) ⊎ RefusesStamped holds words words.stamped f

-- the file that should take the request is the one of the signature, as far as their paths say
abbrev pub RefusesOut : Stamped → Failure → Type 0
RefusesOut (stamped.Digest digits) f = ⊥
RefusesOut (stamped.Signature path number) f = Names (codes "OUT") f

-- no request is made: that file is refused, something else is, or the file can't be made or written
abbrev pub MakesNone : {F : Type 0} → (holds : F → Option (List ℕ)) → RequestWords → Failure → Type 0
MakesNone holds words f = RefusesOut words.stamped f ⊎ (Refuses holds words f ⊎ (f ≡ failure.Write words.out))
