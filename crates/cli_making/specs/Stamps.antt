-- Whether a token is over the root of a hash tree (RFC 4998, 4.2), or why it isn't.
use Rattle.std.specs.Prelude.{◌≡◌, ◌⊎◌, ℕ, List}
use Rattle.digests.specs.declared.value.Digest.{Digest}
use Rattle.evidence_types.specs.StampValue.{IsSequence}
use Rattle.evidence_trees.specs.HashTrees.{HashTree}
use Rattle.evidence_making.specs.Stamping.{IsNoToken, StampsAnother, StampsRoot}
use Rattle.evidence_making.specs.declared.fault.StampFault.TheVariants as stamp
use Rattle.cli_failures.specs.declared.failure.Failure.{Failure}
use Rattle.cli_failures.specs.declared.failure.Failure.TheVariants as failure
use Rattle.cli_making.specs.declared.stamp.Stamp.{Stamp}
use Rattle.cli_making.specs.Sums.{IsRootOf}

-- the token stamps the root of the tree with this moment
abbrev pub StampsTree : HashTree → (token : List ℕ) → (m : ℕ) → Type 0
StampsTree tree token m = (root : Digest) × IsRootOf tree root × StampsRoot token root m

-- U7: the file holds no token; U8: the token stamps something else than the root
abbrev pub StampsNot : (token : List ℕ) → (root : Digest) → Failure → Type 0
StampsNot token root f = ((f ≡ failure.Unstamping stamp.TokenMalformed) × IsNoToken token)
    ⊎ ((f ≡ failure.Unstamping stamp.ImprintDiffers) × StampsAnother token root)

-- so it is with the root of the tree
abbrev pub StampsNoTree : HashTree → (token : List ℕ) → Failure → Type 0
StampsNoTree tree token f = (root : Digest) × IsRootOf tree root × StampsNot token root f

-- the token stamps the tree with the moment, and is one SEQUENCE
abbrev pub IsStamp : Stamp → Type 0
IsStamp s = StampsTree s.tree.now s.token.now s.moment × IsSequence s.token.now
