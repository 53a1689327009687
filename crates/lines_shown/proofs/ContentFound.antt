-- The content of a SignedData that is a TSTInfo by its type.
use Rattle.std.proofs.Common.{◌≡◌, List, ℕ, Option, Some, None, Bor, sym}
use Rattle.std.specs.Prelude.{IfSome, option_map}
use Rattle.tsp_types.specs.TstValue.{id_tst_info}

pub content_found : (found : Option (Bor (List ℕ))) (type : List ℕ) (content : Option (List ℕ)) → type ≡ id_tst_info
    → option_map (λ b. b.now) found ≡ content
    → IfSome found (λ b. (type ≡ id_tst_info) × (content ≡ Some b.now))
content_found None type content is e = tt
content_found (Some b) type content is e = (is, sym e)
