-- Lines that are added one after another are the lines of all; and what a loop over a list keeps.
use Rattle.std.proofs.Common.{◌≡◌, ℕ, suc, ◌+◌, ◌++◌, ◌∷◌, [], List, length, refl, sym, subst, ◌∙◌, ap, append_assoc}
use Rattle.std.proofs.Common.{append-nil, arith}
use Rattle.std.specs.List.{AllByRecursion}
use Rattle.lines_shown.specs.EvidenceLines.{Adds, AreLines}

-- whatever lines those have that are left, numbered from this number on: with these behind it, the text has the lines
-- of all behind what it began with
abbrev pub Leads : {A : Type 0} → (Are : ℕ → A → List ℕ → Type 0) → (all : List A) → (before now : List ℕ) → (next : ℕ)
    → (left : List A) → Type 0
Leads Are all before now next left = (others : List ℕ) → AreLines Are next left others
    → Adds (AreLines Are 1 all) before (now ++ others)

pub none_yet : {A : Type 0} (Are : ℕ → A → List ℕ → Type 0) (all : List A) (before : List ℕ)
    → Leads Are all before before 1 all
none_yet Are all before others are = (others, are, refl)

pub one_more : {A : Type 0} (Are : ℕ → A → List ℕ → Type 0) (all : List A) (before now after : List ℕ) (n : ℕ) (x : A)
    (left xs : List A) → left ≡ x ∷ xs → Leads Are all before now n left → Adds (Are n x) now after
    → Leads Are all before after (n + 1) xs
one_more {A} Are all before now after n x left xs is_left leads (first, is, e) others are =
    let joined : now ++ (first ++ others) ≡ after ++ others =
    sym (append_assoc now first others) ∙ ap (λ (t : List ℕ). t ++ others) (sym e) in
    subst (λ (t : List ℕ). Adds (AreLines Are 1 all) before t) joined
    (leads (first ++ others)
    (subst (λ (ys : List A). AreLines Are n ys (first ++ others)) (sym is_left) (first, others, is, are, refl)))

pub all_done : {A : Type 0} (Are : ℕ → A → List ℕ → Type 0) (all : List A) (before now : List ℕ) (n : ℕ) (left : List A)
    → left ≡ [] → Leads Are all before now n left → Adds (AreLines Are 1 all) before now
all_done {A} Are all before now n left none leads =
    subst (λ (t : List ℕ). Adds (AreLines Are 1 all) before t) (append-nil now)
    (leads [] (subst (λ (ys : List A). AreLines Are n ys []) (sym none) refl))

-- what is counted, and what is known of each of those that are left
pub counted_on : {A : Type 0} (n total : ℕ) (x : A) (left xs : List A) → left ≡ x ∷ xs → n + length left ≡ total
    → (n + 1) + length xs ≡ total
counted_on {A} n total x left xs is_left counted =
    let more : length left ≡ suc (length xs) = ap (λ (ys : List A). length ys) is_left in
    omega (arith, more, counted)

pub others_are : {A : Type 0} (P : A → Type 0) (x : A) (left xs : List A) → left ≡ x ∷ xs → AllByRecursion P left
    → AllByRecursion P xs
others_are {A} P x left xs is_left all = (subst (λ (ys : List A). AllByRecursion P ys) is_left all).1
