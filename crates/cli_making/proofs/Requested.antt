-- Which request is made, and how that fails.
use Rattle.std.proofs.Common.{◌≡◌, ◌⊎◌, ◌≤◌, ◌^◌, ℕ, List, Option, Result, Ok, Err, inl, inr, subst, length}
use Rattle.std.specs.Prelude.{IfErr, IfOk, option_copied}
use Rattle.digests.specs.declared.algorithm.Alg.{Alg}
use Rattle.digests.specs.declared.value.Digest.{Digest}
use Rattle.digests.specs.Algorithms.{name_of}
use Rattle.tsp_types.specs.Asked.{asked}
use Rattle.tsp_types.specs.RequestValue.{EncodesRequest, request_parts}
use Rattle.evidence_trees.specs.HashTrees.{HashTree}
use Rattle.evidence_sums.specs.SumLines.{SumValue}
use Rattle.cli_tasks.specs.declared.task.RootRequestWords.{RootRequestWords}
use Rattle.cli_failures.specs.declared.failure.Failure.{Failure}
use Rattle.cli_failures.specs.declared.failure.Failure.TheVariants as failure
use Rattle.cli_failures.specs.Causes.{Names}
use Rattle.cli_failures.specs.Files.{IsFailureToRead, IsHeld}
use Rattle.cli_failures.specs.Requests.{longer}
use Rattle.cli_values.specs.Values.{IsInHex, IsPolicy}
use Rattle.cli_making.specs.Requesting.{AreRootValues, IsRootRequest, MakesNoRootRequest, RefusesRootRequest}
use Rattle.cli_making.specs.Sums.{AreStated, RefusesSums}

-- a text states sums, with this root of the tree over their digests
abbrev pub IsRootIn : Alg → (text : List ℕ) → Digest → Type 0
IsRootIn alg text root = (sums : List SumValue) × (tree : HashTree) × AreStated alg text sums tree root

module _ {F : Type 0} (holds : F → Option (List ℕ)) (words : RootRequestWords) (alg : Alg)
    (named : words.alg.now ≡ name_of alg) where
  module _ (policy nonce : Option (List ℕ)) (of_policy : IsPolicy (option_copied words.policy) policy)
      (of_nonce : IsInHex (option_copied words.nonce) nonce) where
    are : AreRootValues words policy nonce
    are = record { of_policy = of_policy; of_nonce = of_nonce }

    pub file_refused : (f : Failure) → IsFailureToRead words.sums f
        → (f ≡ failure.Memory) ⊎ RefusesRootRequest holds words f
    file_refused f fails = inr (inr (alg, named, inr (policy, nonce, are, inl fails)))

    pub sums_refused : (text : List ℕ) (f : Failure) → IsHeld holds text
        → RefusesSums alg text f → (f ≡ failure.Memory) ⊎ RefusesRootRequest holds words f
    sums_refused text f held why =
        inr (inr (alg, named, inr (policy, nonce, are, inr (text, held, inl why))))

    module _ (text : List ℕ) (root : Digest) (held : IsHeld holds text) (stated : IsRootIn alg text root) where
      too_long : (f : Failure) → (f ≡ failure.Memory) ⊎ (Names (longer policy) f
          × (2 ^ 32 ≤ length (request_parts (asked root policy nonce words.cert))))
          → (f ≡ failure.Memory) ⊎ RefusesRootRequest holds words f
      too_long f (inl m) = inl m
      too_long f (inr long) = inr (inr (
        alg,
        named,
        inr (
          policy,
          nonce,
          are,
          inr (
            text,
            held,
            inr (stated.0, stated.1, root, stated.2, long),
          ),
        ),
      ))

      asks : (octets : List ℕ) → EncodesRequest octets (asked root policy nonce words.cert)
          → IsRootRequest holds words octets
      asks octets encoded = record {
        root = root;
        of_root = record {
          alg = alg;
          named = named;
          text = text;
          held = held;
          sums = stated.0;
          tree = stated.1;
          are = stated.2;
        };
        policy = policy;
        nonce = nonce;
        are = are;
        encoded = encoded;
      }

      -- the request of the policy and the nonce that are handed on
      pub asks_if : {O E : Type 0} (items : O → List ℕ) (p n : Option (List ℕ)) → p ≡ policy → n ≡ nonce
          → (r : Result O E) → IfOk r (λ o. EncodesRequest (items o) (asked root p n words.cert))
          → IfOk r (λ o. IsRootRequest holds words (items o))
      asks_if items p n of_p of_n (Err e) encoded = tt
      asks_if items p n of_p of_n (Ok o) encoded = asks (items o)
          (subst (λ (q : Option (List ℕ)). EncodesRequest (items o) (asked root policy q words.cert)) of_n
          (subst (λ (q : Option (List ℕ)). EncodesRequest (items o) (asked root q n words.cert)) of_p encoded))

      abbrev Long : (p n : Option (List ℕ)) → Failure → Type 0
      Long p n f = (f ≡ failure.Memory) ⊎ (Names (longer p) f
          × (2 ^ 32 ≤ length (request_parts (asked root p n words.cert))))

      pub length_refused_if : {O : Type 0} (p n : Option (List ℕ)) → p ≡ policy → n ≡ nonce → (r : Result O Failure)
          → IfErr r (λ f. (f ≡ failure.Memory) ⊎ (Names (longer p) f
          × (2 ^ 32 ≤ length (request_parts (asked root p n words.cert)))))
          → IfErr r (λ f. (f ≡ failure.Memory) ⊎ RefusesRootRequest holds words f)
      length_refused_if p n of_p of_n (Ok o) long = tt
      length_refused_if p n of_p of_n (Err f) long = too_long f
          (subst (λ (q : Option (List ℕ)). Long policy q f) of_n
          (subst (λ (q : Option (List ℕ)). Long q n f) of_p long))

-- no request was made
pub unrequested : {F : Type 0} (holds : F → Option (List ℕ)) (words : RootRequestWords) (f : Failure)
    → (f ≡ failure.Memory) ⊎ RefusesRootRequest holds words f → MakesNoRootRequest holds words f
unrequested holds words f (inl m) = inr (inl m)
unrequested holds words f (inr refuses) = inr (inr (inl refuses))

-- the request is there, and could not be written
pub unwritten : {F : Type 0} (holds : F → Option (List ℕ)) (words : RootRequestWords) (octets : List ℕ) (f : Failure)
    → IsRootRequest holds words octets → (f ≡ failure.Memory) ⊎ (f ≡ failure.Write words.out)
    → MakesNoRootRequest holds words f
unwritten holds words octets f made (inl m) = inr (inl m)
unwritten holds words octets f made (inr lost) = inr (inr (inr (octets, made, lost)))
