-- A token over the root of a hash tree.
use Rattle.std.proofs.Common.{◌≡◌, ◌≢◌, ◌↔◌, ℕ, List, Result, Err, inl, inr, refl, subst}
use Rattle.digests.specs.declared.value.Digest.{Digest}
use Rattle.evidence_trees.specs.HashTrees.{HashTree}
use Rattle.evidence_making.specs.Stamping.{IsNoToken, StampsAnother}
use Rattle.evidence_making.specs.declared.fault.StampFault.{StampFault}
use Rattle.evidence_making.specs.declared.fault.StampFault.TheVariants as stamp
use Rattle.cli_failures.specs.declared.failure.Failure.TheVariants as failure
use Rattle.cli_making.specs.declared.stamp.Stamp.{Stamp}
use Rattle.cli_making.specs.Stamps.{StampsNot}

-- why a token doesn't stamp a root, by the fault that is returned
pub stamps_not : (token : List ℕ) (root : Digest) (r : Result ℕ StampFault) (fault : StampFault) → r ≡ Err fault
    → (r ≡ Err stamp.TokenMalformed) ↔ IsNoToken token → (r ≡ Err stamp.ImprintDiffers) ↔ StampsAnother token root
    → r ≢ Err stamp.Order → StampsNot token root (failure.Unstamping fault)
stamps_not token root r stamp.TokenMalformed is malformed differs order = inl (refl, malformed.0 is)
stamps_not token root r stamp.ImprintDiffers is malformed differs order = inr (refl, differs.0 is)
stamps_not token root r stamp.Order is malformed differs order = absurd (order is)

-- what holds of the tree and the token that a stamp has holds of those that it was made of
pub as_of : (s : Stamp) (tree : HashTree) (token : List ℕ) → (s.tree.now ≡ tree) × (s.token.now ≡ token)
    → (P : HashTree → List ℕ → Type 0) → P s.tree.now s.token.now → P tree token
as_of s tree token has P h =
    subst (λ (t : HashTree). P t token) has.0 (subst (λ (octets : List ℕ). P s.tree.now octets) has.1 h)
