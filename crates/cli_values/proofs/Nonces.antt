-- Contents that digits spell are those of an INTEGER, or the digits spell none.
use Rattle.std.proofs.Common.{◌≡◌, ℕ, List, Option, Some, None, true, false, Ok, IfSome, codes}
use Rattle.hex.specs.Hex.{decode_of}
use Rattle.der_core.specs.Contents.{is_integer}
use Rattle.cli_failures.specs.declared.failure.Failure.{Failure}
use Rattle.cli_failures.specs.Causes.{Names}
use Rattle.cli_values.specs.Values.{IsInHex}
use Rattle.cli_values.specs.Refusals.{RefusesNonce}

no_nonce : (digits contents : List ℕ) → decode_of digits ≡ Ok contents → is_integer contents ≡ false
    → (other : Option (List ℕ)) → IsInHex (Some digits) other → IfSome other (λ b. is_integer b ≡ true) → ⊥
no_nonce digits contents spelled wrong None again right = absurd again
no_nonce digits contents spelled wrong (Some e) again right = cc

pub refuses_nonce : (digits contents : List ℕ) (f : Failure) → Names (codes "nonce") f → decode_of digits ≡ Ok contents
    → is_integer contents ≡ false
    → RefusesNonce (Some digits) f
refuses_nonce digits contents f names spelled wrong = (names, no_nonce digits contents spelled wrong)
