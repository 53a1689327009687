-- Whether a name is text.
use Rattle.std.proofs.Common.{◌≡◌, ℕ, Bool, true, false, List, sym, ap, ◌∙◌}
use Rattle.std.specs.Str.{IsUtf8, is_utf8}
use Rattle.std.proofs.lemmas.Str.{IsUtf8-from_is_utf8}

pub text_there : (stated name : List ℕ) (has : Bool) → stated ≡ name → has ≡ is_utf8 stated → has ≡ true → IsUtf8 name
text_there stated name has same is it =
    IsUtf8-from_is_utf8 name (ap is_utf8 (sym same) ∙ sym is ∙ it)

pub no_text_there : (stated name : List ℕ) (has : Bool) → stated ≡ name → has ≡ is_utf8 stated → has ≡ false
    → is_utf8 name ≡ false
no_text_there stated name has same is it = ap is_utf8 (sym same) ∙ sym is ∙ it
