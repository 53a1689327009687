-- How a run ends: which records are renewed, which request is made, and why not.
use Rattle.std.proofs.Common.{◌≡◌, ◌⊎◌, ◌≤◌, ◌<◌, ◌^◌, ℕ, List, [], ◌∷◌, Option, None, Result, Ok, Err, refl}
use Rattle.std.proofs.Common.{inl, inr, length, false, arith}
use Rattle.std.specs.Prelude.{IfErr, IfOk, OnOk, codes}
use Rattle.std.specs.Borrow.{Bor}
use Rattle.std.specs.List.{AllZip}
use Rattle.digests.specs.declared.value.Digest.{Digest}
use Rattle.tsp_types.specs.Asked.{asked}
use Rattle.tsp_types.specs.RequestValue.{EncodesRequest, request_parts}
use Rattle.evidence_trees.specs.HashTrees.{HashTree}
use Rattle.cli_tasks.specs.declared.task.RenewalRequestWords.{RenewalRequestWords}
use Rattle.cli_failures.specs.declared.failure.Failure.{Failure}
use Rattle.cli_failures.specs.declared.failure.Failure.TheVariants as failure
use Rattle.cli_failures.specs.Causes.{Names}
use Rattle.cli_making.specs.declared.stamp.Stamp.{Stamp}
use Rattle.cli_making.specs.Stamps.{IsStamp, StampsTree}
use Rattle.cli_making.specs.Sums.{IsRootOf}
use Rattle.cli_making.proofs.Adding.{adds_none}
use Rattle.cli_making.proofs.Stamps.{as_of}
use Rattle.cli_renewing.specs.declared.footing.Footing.{Footing}
use Rattle.cli_renewing.specs.Footings.{AreFootings, ComesAfter, IsFootingRead, IsTreeOn}
use Rattle.cli_renewing.specs.Keeping.{Kept, Ways, system_ways}
use Rattle.cli_renewing.specs.Records.{ArePut, AreTested, IsUntested, Renewal, StopsAtPut}
use Rattle.cli_renewing.specs.Runs.{AreDone, AreNotDone, AreRefused, AreStamped, IsNotLater, IsRequestOn}
use Rattle.cli_renewing.specs.Renewing.{IsRenewalRequest}
use Rattle.cli_renewing.specs.Unrenewed.{HaveNoTree, MakesNoRenewalRequest, StopsAt}

-- no footing is only of no path
none_of_none : {A B : Type 0} (R : A → B → Type 0) (xs : List A) (ys : List B) → AllZip R xs ys → ys ≡ [] → xs ≡ []
none_of_none R [] ys all is = refl
none_of_none R (x ∷ xs) [] all is = absurd all
none_of_none R (x ∷ xs) (y ∷ ys) all is = absurd (let z : y ∷ ys ≡ [] = is in cc)

module _ (ways : Ways) (token : Option (List ℕ)) (paths : List (Bor (List ℕ))) where
  pub no_footings : (f : Failure) → (f ≡ failure.Memory) ⊎ StopsAt ways token paths f → HaveNoTree ways token paths f
  no_footings f (inl m) = inr (inl m)
  no_footings f (inr s) = inr (inr s)

  pub no_tree : (footings : List Footing) → AreFootings ways token paths footings → (f : Failure)
      → (f ≡ failure.Memory) ⊎ ((footings ≡ []) × Names (codes "RECORD") f) → HaveNoTree ways token paths f
  no_tree footings are f (inl m) = inr (inl m)
  no_tree footings are f (inr (none, named)) =
      inl (
        none_of_none (λ (p : Bor (List ℕ)) (g : Footing). IsFootingRead ways token p.now g) paths footings are none,
        named,
      )

-- ---- the request

pub asks_if : {O E : Type 0} (Are : List Footing → Type 0) (footings : List Footing) → Are footings
    → (tree : HashTree) (root : Digest) → IsTreeOn footings tree root → (items : O → List ℕ) (r : Result O E)
    → IfOk r (λ o. EncodesRequest (items o) (asked root None None false)) → IfOk r (λ o. IsRequestOn Are (items o))
asks_if Are footings are tree root over items (Err e) encoded = tt
asks_if Are footings are tree root over items (Ok o) encoded =
    record { footings = footings; are = are; tree = tree; root = root; over = over; encoded = encoded }

-- it isn't made only if memory ran out
pub asks_not : {O : Type 0} (P : Failure → Type 0) → P failure.Memory → (root : Digest)
    → length (request_parts (asked root None None false)) < 2 ^ 32 → (r : Result O Failure)
    → IfErr r (λ f. (f ≡ failure.Memory) ⊎ (Names (codes "nonce") f
    × (2 ^ 32 ≤ length (request_parts (asked root None None false))))) → IfErr r P
asks_not P lacks root short (Ok o) why = tt
asks_not P lacks root short (Err f) (inl m) = rw m lacks
asks_not P lacks root short (Err f) (inr (named, long)) = absurd (omega (arith, short, long))

-- it is there, and could not be written
pub unwritten : {F : Type 0} (holds contents : F → Option (List ℕ)) (words : RenewalRequestWords) (octets : List ℕ)
    (f : Failure) → IsRenewalRequest (system_ways holds contents) words.records.items octets
    → (f ≡ failure.Memory) ⊎ (f ≡ failure.Write words.out) → MakesNoRenewalRequest holds contents words f
unwritten holds contents words octets f made (inl m) = inr (inl (inr (inl m)))
unwritten holds contents words octets f made (inr lost) = inr (inr (octets, made, lost))

-- ---- the records

module _ {A : Type 0} (ways : Ways) (NoTree : Failure → Type 0) (Are : List Footing → Type 0)
    (renewal : HashTree → List ℕ → ℕ → Renewal A) (xs : List A) (token : List ℕ) where
  refused : (put : Option (List Kept)) (f : Failure) → AreRefused ways NoTree Are renewal xs token f
      → AreNotDone ways put put NoTree Are renewal xs token f
  refused put f why = inl (why, adds_none put)

  pub treeless : (put : Option (List Kept)) (f : Failure) → NoTree f
      → AreNotDone ways put put NoTree Are renewal xs token f
  treeless put f why = refused put f (inl why)

  module _ (footings : List Footing) (are : Are footings) (tree : HashTree)
      (over : (root : Digest) → IsRootOf tree root → IsTreeOn footings tree root) where
    pub unstamped : (put : Option (List Kept)) (f : Failure) → IsNotLater tree footings token f
        → AreNotDone ways put put NoTree Are renewal xs token f
    unstamped put f (inl (root, is_root, not)) =
        refused put f (inr (footings, tree, root, are, over root is_root, inl not))
    unstamped put f (inr (m, (root, is_root, stamps), early)) =
        refused put f (inr (footings, tree, root, are, over root is_root, inr (m, stamps, inl early)))

    module _ (s : Stamp) (has : (s.tree.now ≡ tree) × (s.token.now ≡ token)) (stamps : IsStamp s) where
      its : StampsTree tree token s.moment
      its = as_of s tree token has (λ t octets. StampsTree t octets s.moment) stamps.0

      pub untested : ComesAfter s.moment footings → (put : Option (List Kept)) (f : Failure)
          → IsUntested ways (renewal s.tree.now s.token.now s.moment) xs f
          → AreNotDone ways put put NoTree Are renewal xs token f
      untested later put f why =
          let there = as_of s tree token has (λ t octets. IsUntested ways (renewal t octets s.moment) xs f) why in
          refused put f (inr (footings, tree, its.0, are, over its.0 its.1, inr (s.moment, its.2, inr (later, there))))

      module _ (later : ComesAfter s.moment footings)
          (tested : AreTested ways (renewal s.tree.now s.token.now s.moment) xs) (before after : Option (List Kept))
        where
          stamped : AreStamped Are token tree s.moment
          stamped = record {
            footings = footings;
            are = are;
            root = its.0;
            over = over its.0 its.1;
            stamped = its.2;
            later = later;
          }

          all_tested : AreTested ways (renewal tree token s.moment) xs
          all_tested = as_of s tree token has (λ t octets. AreTested ways (renewal t octets s.moment) xs) tested

          -- how it ended: all are renewed; or those before one, which failed
          pub ended : {T : Type 0} (r : Result T Failure)
              → OnOk r ((news : List (Option (List ℕ)))
              × ArePut ways before after (renewal s.tree.now s.token.now s.moment) xs news)
              → IfErr r (StopsAtPut ways before after (renewal s.tree.now s.token.now s.moment) xs)
              → OnOk r (AreDone ways before after Are renewal xs token)
              × IfErr r (AreNotDone ways before after NoTree Are renewal xs token)
          ended (Ok t) (news, made) why = (
            record {
              tree = tree;
              moment = s.moment;
              stamped = stamped;
              tested = all_tested;
              news = news;
              made = as_of s tree token has
                  (λ t octets. ArePut ways before after (renewal t octets s.moment) xs news) made;
            },
            tt,
          )
          ended (Err f) made why = (
            tt,
            inr (record {
              tree = tree;
              moment = s.moment;
              stamped = stamped;
              tested = all_tested;
              stop = as_of s tree token has
                  (λ t octets. StopsAtPut ways before after (renewal t octets s.moment) xs f) why;
            }),
          )
