-- There are no more tokens than octets.
use Rattle.std.proofs.Common.{◌≡◌, ℕ, ◌+◌, ◌≤◌, Bool, true, false, List, [], ◌∷◌, ◌++◌, length, refl, ap, arith}
use Rattle.std.specs.Prelude.{filter}
use Rattle.std.specs.List.{AllByRecursion}
use Rattle.std.proofs.lemmas.List.{length-append}
use Rattle.std.proofs.lemmas.List.Concat.{flat_map-cons}
use Rattle.der_core.specs.Element.{len, el}
use Rattle.der_core.specs.Values.{IsOpaque}
use Rattle.cms_types.specs.AttributeValue.{AttributeValue, joined, attribute_element, attributes_parts, GoodAttribute}
use Rattle.cms_types.specs.Tokens.{is_token, tokens_in}

-- each element has at least one octet
pub fewer_values : (xs : List (List ℕ)) → AllByRecursion IsOpaque xs → length xs ≤ length (joined xs)
fewer_values [] h = omega arith
fewer_values (x ∷ xs) h =
    let one = ap length h.0.3 in
    let size = ap length (flat_map-cons (λ (y : List ℕ). y) x xs) in
    omega (arith, fewer_values xs h.1, size, length-append x (joined xs), one)

values_fit : (a : AttributeValue) → GoodAttribute a → length a.values ≤ length (attribute_element a)
values_fit a h =
    let set = length-append (len (length (joined a.values))) (joined a.values) in
    let parts = length-append (el 0x06 a.id) (el 0x31 (joined a.values)) in
    let whole = length-append (len (length (el 0x06 a.id ++ el 0x31 (joined a.values))))
    (el 0x06 a.id ++ el 0x31 (joined a.values)) in
    omega (arith, fewer_values a.values h.values, set, parts, whole)

tokens_cons : (a : AttributeValue) (xs : List AttributeValue)
    → length (tokens_in (a ∷ xs)) ≤ length a.values + length (tokens_in xs)
tokens_cons a xs = go (is_token a) refl
  where
    go : (b : Bool) → is_token a ≡ b → length (tokens_in (a ∷ xs)) ≤ length a.values + length (tokens_in xs)
    go true e = rw e (omega (
      arith,
      ap length (flat_map-cons (λ (c : AttributeValue). c.values) a (filter is_token xs)),
      length-append a.values (tokens_in xs),
    ))
    go false e = rw e (omega arith)

pub fewer_tokens : (xs : List AttributeValue) → AllByRecursion GoodAttribute xs
    → length (tokens_in xs) ≤ length (attributes_parts xs)
fewer_tokens [] h = omega arith
fewer_tokens (a ∷ xs) h =
    omega (
      arith,
      tokens_cons a xs,
      fewer_tokens xs h.1,
      values_fit a h.0,
      ap length (flat_map-cons attribute_element a xs),
      length-append (attribute_element a) (attributes_parts xs),
    )

pub fewer_in_all : (current : List (List ℕ)) (left : List AttributeValue) → AllByRecursion IsOpaque current
    → AllByRecursion GoodAttribute left
    → length (current ++ tokens_in left) ≤ length (joined current) + length (attributes_parts left)
fewer_in_all current left h g =
    omega (arith, fewer_values current h, fewer_tokens left g, length-append current (tokens_in left))
