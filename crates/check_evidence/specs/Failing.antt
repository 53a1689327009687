-- The rules that an archive time-stamp fails, W1 to W8, each after those before it.
use Rattle.std.specs.Prelude.{◌⊎◌, ℕ, List}
use Rattle.digests.specs.declared.algorithm.Alg.{Alg}
use Rattle.check_fit.specs.declared.rules.TokenRule.{TokenRule}
use Rattle.check_verdict.specs.TokenRules.{TokenFailsFor}
use Rattle.check_evidence.specs.Grounds.{Grounds, terms_of, of_root, of_none}
use Rattle.check_evidence.specs.Roots.{IsRoot}
use Rattle.check_evidence.specs.Places.{Place}
use Rattle.check_evidence.specs.StampStates.{ShowsAlg, IsUntil}
use Rattle.check_evidence.specs.Covering.{covered_at}
use Rattle.check_evidence.specs.Standing.{IsAlgOf, HasLengths, Covers, Imprints, IsOrdered, FitsIn, AlgsHold, Lasts}
use Rattle.check_evidence.specs.declared.rules.StampRule.{StampRule}
use Rattle.check_evidence.specs.declared.rules.StampRule.TheVariants as rule

-- W1: its algorithm can be asked for, and there is none that is also that of the first of its chain
pub record HasNoAlg (p : Place) : Type 0 where
  pub shows : ShowsAlg p.stamp.algorithm p.stamp
  pub none : (alg : Alg) → IsAlgOf p alg → ⊥

-- W2: its algorithm is this one, and a hash value has another length
pub record HasOtherLength (p : Place) : Type 0 where
  pub alg : Alg
  pub is_alg : IsAlgOf p alg
  pub other : HasLengths p.stamp.lists alg → ⊥

-- W3: W1 and W2 hold, and it doesn't cover what it must
pub record CoversNot (data_objects : List (List ℕ)) (p : Place) : Type 0 where
  pub alg : Alg
  pub is_alg : IsAlgOf p alg
  pub lengths : HasLengths p.stamp.lists alg
  pub not : Covers data_objects p alg → ⊥

-- W4: W1 to W3 hold, and the token fails this rule first, where the root is due as its imprint
pub record TokenFailsAt (g : Grounds) (data_objects : List (List ℕ)) (p : Place) (failed : TokenRule) : Type 0 where
  pub alg : Alg
  pub is_alg : IsAlgOf p alg
  pub lengths : HasLengths p.stamp.lists alg
  pub covers : Covers data_objects p alg
  pub root : List ℕ
  pub is_root : IsRoot alg p.stamp.lists (covered_at alg data_objects p) root
  pub fails : TokenFailsFor (terms_of g) p.stamp.stamp (of_root alg root) failed

-- W4 of a stamp whose algorithm can't be asked for, since there is no field and no token: W1 to W3 aren't asked
pub record TokenUnread (g : Grounds) (p : Place) (failed : TokenRule) : Type 0 where
  pub unread : ShowsAlg p.stamp.algorithm p.stamp → ⊥
  pub fails : TokenFailsFor (terms_of g) p.stamp.stamp of_none failed

-- W5: W1 to W4 hold, and it isn't later than the one before, or, of the last one, later than the moment that is named
pub record IsDisordered (g : Grounds) (data_objects : List (List ℕ)) (p : Place) : Type 0 where
  pub alg : Alg
  pub moment : ℕ
  pub is_alg : IsAlgOf p alg
  pub lengths : HasLengths p.stamp.lists alg
  pub covers : Covers data_objects p alg
  pub imprints : Imprints g data_objects p alg moment
  pub not : IsOrdered g p moment → ⊥

-- it fits, and an algorithm doesn't hold at the end of its use: W6
pub record IsWeak (g : Grounds) (data_objects : List (List ℕ)) (p : Place) : Type 0 where
  pub alg : Alg
  pub moment : ℕ
  pub fits : FitsIn g data_objects p alg moment
  pub until : ℕ
  pub is_until : IsUntil g.at p until
  pub not : AlgsHold g.ends alg fits.imprints.passes.imprint.alg fits.imprints.passes.fits.alg until → ⊥

-- it fits, its algorithms hold, and no entry under which its token passes holds at the end of its use: W7
pub record IsLapsed (g : Grounds) (data_objects : List (List ℕ)) (p : Place) : Type 0 where
  pub alg : Alg
  pub moment : ℕ
  pub fits : FitsIn g data_objects p alg moment
  pub until : ℕ
  pub is_until : IsUntil g.at p until
  pub algs : AlgsHold g.ends alg fits.imprints.passes.imprint.alg fits.imprints.passes.fits.alg until
  pub not : Lasts g fits.imprints.passes.signer fits.imprints.passes.attributes moment until → ⊥

-- the stamp at a place fails this one of W1 to W5 first
abbrev pub FailsToFit : Grounds → (data_objects : List (List ℕ)) → Place → StampRule → Type 0
FailsToFit g data_objects p rule.Algorithm = HasNoAlg p
FailsToFit g data_objects p rule.HashLength = HasOtherLength p
FailsToFit g data_objects p rule.NotCovered = CoversNot data_objects p
FailsToFit g data_objects p (rule.Token failed) =
    TokenFailsAt g data_objects p failed ⊎ TokenUnread g p failed
FailsToFit g data_objects p rule.Order = IsDisordered g data_objects p
FailsToFit g data_objects p rule.Weak = ⊥
FailsToFit g data_objects p rule.Lapsed = ⊥
FailsToFit g data_objects p rule.Others = ⊥

-- it fits, and fails this one of W6 and W7 first
abbrev pub FailsToLast : Grounds → (data_objects : List (List ℕ)) → Place → StampRule → Type 0
FailsToLast g data_objects p rule.Weak = IsWeak g data_objects p
FailsToLast g data_objects p rule.Lapsed = IsLapsed g data_objects p
FailsToLast g data_objects p _ = ⊥
