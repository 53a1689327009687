-- What holds of the definitions of attaching.
use Rattle.std.specs.Prelude.{◌≡◌, ℕ, List}
use Rattle.cms_types.specs.SignedDataValue.{SignedDataValue, SignedContent, encoding, EncodesSignedData}
use Rattle.tsp_requester.specs.declared.fault.AttachFault.{AttachFault}
use Rattle.tsp_requester.specs.declared.fault.AttachFault.TheVariants as rule
use Rattle.tsp_requester.specs.Attaching.{Attaches, Refuses}

-- what can be attached isn't refused
abbrev pub NeverBoth : Type 0
NeverBoth = (bytes : List ℕ) (number : ℕ) (token : List ℕ) (w : SignedDataValue) (f : AttachFault)
    → Attaches bytes number token w → Refuses bytes number token f → ⊥

-- there is one SignedData with the token
abbrev pub OneFile : Type 0
OneFile = (bytes : List ℕ) (number : ℕ) (token : List ℕ) (w u : SignedDataValue) → Attaches bytes number token w
    → Attaches bytes number token u → w ≡ u

-- and the octets that are written encode it
abbrev pub NewFilesEncode : Type 0
NewFilesEncode = (bytes : List ℕ) (number : ℕ) (token : List ℕ) (w : SignedDataValue) → Attaches bytes number token w
    → EncodesSignedData (encoding (SignedContent w)) w

-- the number of a rule
abbrev pub rule_number : AttachFault → ℕ
rule_number (rule.Malformed f) = 1
rule_number rule.NoSuchSigner = 2
rule_number rule.TokenMalformed = 3
rule_number rule.ImprintDiffers = 4
rule_number rule.TooLong = 5
rule_number rule.WriteFailed = 6

-- exactly one rule fails first
abbrev pub OneRule : Type 0
OneRule = (bytes : List ℕ) (number : ℕ) (token : List ℕ) (f g : AttachFault) → Refuses bytes number token f
    → Refuses bytes number token g → rule_number f ≡ rule_number g
