-- The contents of an OBJECT IDENTIFIER, octet by octet.
use Rattle.std.specs.Prelude.{◌≡◌, ℕ, Bool, true, not, ◌&&◌, List, [], ◌∷◌, ◌++◌, nat_lt, ◌==◌}
use Rattle.der_core.specs.Contents.{is_oid}
use Rattle.cms_stream.specs.declared.oid.OidTest.{OidTest}

-- whether what follows completes such contents: started says whether an octet passed, begins whether a subidentifier
-- begins
unfoldable pub oid_from : (started begins : Bool) → List ℕ → Bool
oid_from started begins [] = started && begins
oid_from started begins (x ∷ xs) = not (begins && x == 128) && oid_from true (nat_lt x 128) xs

-- whether the octets that were passed on so far, and those that follow, are such contents
abbrev pub Tested : OidTest → List ℕ → Type 0
Tested t m = (zs : List ℕ) → is_oid (m ++ zs) ≡ (t.sound && oid_from t.started t.begins zs)

-- one more octet was passed on
pub record Steps (before : OidTest) (octet : ℕ) (after : OidTest) : Type 0 where
  pub sound : after.sound ≡ (before.sound && not (before.begins && octet == 128))
  pub started : after.started ≡ true
  pub begins : after.begins ≡ nat_lt octet 128
