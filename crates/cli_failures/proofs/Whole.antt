-- What was read of no more than so many octets, and is less, is all.
use Rattle.std.proofs.Common.{◌≡◌, ◌≢◌, ◌<◌, ◌≤◌, ◌++◌, ℕ, List, [], Option, Some, None, IfSome, length, take, min}
use Rattle.std.proofs.Common.{option_map, arith, refl, sym, subst, ◌∙◌}
use Rattle.std.proofs.lemmas.List.{length-take, take_all}
use Rattle.cli_failures.specs.declared.folder.Found.{Found}
use Rattle.cli_failures.specs.declared.folder.Found.TheVariants as found
use Rattle.cli_failures.specs.Files.{IsFound, IsFoundIn}

pub taken_whole : (limit : ℕ) (known : Option (List ℕ)) (before items : List ℕ) → before ≡ []
    → IfSome (option_map (take limit) known) (λ xs. items ≡ before ++ xs)
    → length items < limit → IfSome known (λ held. items ≡ held)
taken_whole limit None before items none read less = tt
taken_whole limit (Some xs) before items none read less =
    let taken : items ≡ take limit xs = rw (read, none) refl in
    let count : length items ≡ min limit (length xs) = rw taken (length-take limit xs) in
    taken ∙ take_all limit xs (omega arith)

-- so are they these octets, if there are as many
pub taken_same : (limit : ℕ) (known : Option (List ℕ)) (before items octets : List ℕ) → before ≡ []
    → IfSome (option_map (take limit) known) (λ xs. items ≡ before ++ xs)
    → length octets < limit → items ≡ octets → IfSome known (λ held. octets ≡ held)
taken_same limit known before items octets none read less same =
    let all : IfSome known (λ held. items ≡ held) =
    taken_whole limit known before items none read (subst (λ (xs : List ℕ). length xs < limit) (sym same) less)
    in subst (λ (xs : List ℕ). IfSome known (λ held. xs ≡ held)) same all

-- and what is held is other octets, if others were read
pub taken_other : (limit : ℕ) (known : Option (List ℕ)) (before items octets : List ℕ) → before ≡ []
    → IfSome (option_map (take limit) known) (λ xs. items ≡ before ++ xs)
    → length octets < limit → items ≢ octets → IfSome known (λ held. octets ≢ held)
taken_other limit None before items octets none read less other = tt
taken_other limit (Some xs) before items octets none read less other = λ e.
    let taken : items ≡ take limit xs = rw (read, none) refl in
    let all : take limit xs ≡ xs = take_all limit xs (subst (λ (ys : List ℕ). length ys ≤ limit) e (omega arith)) in
    absurd (other (taken ∙ all ∙ sym e))

-- what is found in a file is found in one that was opened
pub found_in_file : {F : Type 0} (holds : F → Option (List ℕ)) (file : F) (octets : List ℕ) (x : Found)
    → IsFoundIn (holds file) octets x → IsFound holds octets x
found_in_file holds file octets found.Nothing h = tt
found_in_file holds file octets found.Same h = (file, h)
found_in_file holds file octets found.Other h = (file, h)
