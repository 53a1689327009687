-- Worked rows over the definitions: attributes and signers are any values.
use Rattle.std.specs.Prelude.{◌≡◌, ◌^◌, ◌-◌, ℕ, List, [], ◌∷◌, Some, None, length}
use Rattle.der_core.specs.Element.{el}
use Rattle.der_core.specs.Values.{HasLength}
use Rattle.cms_types.specs.AttributeValue.{AttributeValue}
use Rattle.cms_types.specs.SignerValue.{SignerValue}
use Rattle.tsp_requester.specs.Attached.{with_attribute, stamped, changed}

-- a new list; after two others, which keep their order
pub record AttributeRows : Type 0 where
  pub absent : (a : AttributeValue) → with_attribute a None ≡ a ∷ []
  pub behind : (a b c : AttributeValue) → with_attribute a (Some (c ∷ b ∷ [])) ≡ c ∷ b ∷ a ∷ []

-- the signer of that number alone; no signer has the number 0, and of two none has the number 3
pub record NumberRows : Type 0 where
  pub first : (t : List ℕ) (a b : SignerValue) → changed (stamped t) (a ∷ b ∷ []) 1 ≡ stamped t a ∷ b ∷ []
  pub second : (t : List ℕ) (a b : SignerValue) → changed (stamped t) (a ∷ b ∷ []) 2 ≡ a ∷ stamped t b ∷ []
  pub zero : (t : List ℕ) (a b : SignerValue) → changed (stamped t) (a ∷ b ∷ []) 0 ≡ a ∷ b ∷ []
  pub third : (t : List ℕ) (a b : SignerValue) → changed (stamped t) (a ∷ b ∷ []) 3 ≡ a ∷ b ∷ []

-- an element is longer than its contents by the header, which grows by an octet at 128, 256, 65,536
pub record SizeRows : Type 0 where
  pub of_127 : (b : List ℕ) → length b ≡ 127 → length (el 0x30 b) ≡ 129
  pub of_128 : (b : List ℕ) → length b ≡ 128 → length (el 0x30 b) ≡ 131
  pub of_255 : (b : List ℕ) → length b ≡ 255 → length (el 0x30 b) ≡ 258
  pub of_256 : (b : List ℕ) → length b ≡ 256 → length (el 0x30 b) ≡ 260
  pub of_65535 : (b : List ℕ) → length b ≡ 65535 → length (el 0x30 b) ≡ 65539
  pub of_65536 : (b : List ℕ) → length b ≡ 65536 → length (el 0x30 b) ≡ 65541

-- four length octets state 4,294,967,295, and no more
pub record LimitRows : Type 0 where
  pub greatest : (b : List ℕ) → length b ≡ 2 ^ 32 - 1 → HasLength b
  pub past : (b : List ℕ) → length b ≡ 2 ^ 32 → HasLength b → ⊥
