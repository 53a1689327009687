-- What is found on the way to the moment of a token.
use Rattle.std.specs.Prelude.{◌≡◌, ℕ, Result, Ok, Err}
use Rattle.der_time.specs.Moments.{generalized_moment}
use Rattle.digests.specs.declared.value.Digest.{Digest}
use Rattle.tsp_types.specs.TstValue.{TstValue}
use Rattle.evidence_making.specs.declared.fault.StampFault.{StampFault}
use Rattle.evidence_making.specs.declared.fault.StampFault.TheVariants.{ImprintDiffers}
use Rattle.evidence_making.specs.Stamping.{IsRootImprint}

-- the moment of a time-stamp whose imprint is the root; or the imprint is another
abbrev pub IsMomentFor : TstValue → Digest → Result ℕ StampFault → Type 0
IsMomentFor stated root (Ok m) = IsRootImprint stated.imprint root × (generalized_moment stated.time ≡ m)
IsMomentFor stated root (Err fault) = (IsRootImprint stated.imprint root → ⊥) × (fault ≡ ImprintDiffers)
