-- What a request is made of, and which of its values is refused.
use Rattle.std.specs.Prelude.{ℕ, List, Option, Some, None, codes}
use Rattle.der_oid_text.specs.OidText.{Spells}
use Rattle.cli_failures.specs.declared.failure.Failure.{Failure}
use Rattle.cli_failures.specs.Causes.{Names}

-- the text isn't an object identifier
abbrev pub SpellsNone : (text : List ℕ) → Failure → Type 0
SpellsNone text f = Names (codes "policy") f × ((contents : List ℕ) → Spells text contents → ⊥)

-- a request that is too long is refused by its policy, if it has one, or else by its nonce
abbrev pub longer : (oid : Option (List ℕ)) → List ℕ
longer None = codes "nonce"
longer (Some b) = codes "policy"
