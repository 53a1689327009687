-- What a text of sums states, and which failure its fault is.
use Rattle.std.proofs.Common.{◌≡◌, ◌⊎◌, ◌≤◌, ◌<◌, ◌+◌, ℕ, suc, List, [], ◌∷◌, map, length, Option, Some, None}
use Rattle.std.proofs.Common.{Bool, true, false, not, Ok, Err, All, Contains, refl, sym, subst, ap, ◌∙◌, inl, inr}
use Rattle.std.proofs.Common.{arith}
use Rattle.std.specs.Prelude.{◌==◌, IsOk}
use Rattle.std.specs.List.{AllByRecursion, slice_split}
use Rattle.std.proofs.lemmas.List.Elements.{All-from_recursion, All-tail, All-head}
use Rattle.digests.specs.declared.algorithm.Alg.{Alg}
use Rattle.digests.specs.declared.algorithm.Alg.TheVariants as algs
use Rattle.digests.specs.declared.value.Digest.{Digest}
use Rattle.digests.specs.Digests.{alg_of, octets_of}
use Rattle.evidence_trees.specs.HashTrees.{HashTree}
use Rattle.evidence_sums.specs.Lines.{lines_of, lines_of_parts, first_number}
use Rattle.evidence_sums.specs.Names.{is_name}
use Rattle.evidence_sums.specs.SumLines.{SumValue, digest_with, is_sum_line, name_in, sum_in}
use Rattle.evidence_sums.specs.Sums.{Answer, no_line, sums_of, unless, well_formed}
use Rattle.evidence_sums.specs.declared.sums_fault.SumsFault.{SumsFault}
use Rattle.evidence_sums.specs.declared.sums_fault.SumsRule.{SumsRule}
use Rattle.evidence_sums.specs.declared.sums_fault.SumsRule.TheVariants as rule
use Rattle.evidence_sums.proofs.Cuts.{some_part}
use Rattle.evidence_sums.proofs.Places.{all_formed}
use Rattle.cli_failures.specs.Failures.{failure_by_sums, failure_of_sums}
use Rattle.cli_making.specs.Leaves.{AreReady, IsLeaf}
use Rattle.cli_making.specs.Sums.{AreNamed, IsTreeOver, LacksMemory, StatesNone}

-- ---- the lines of a text that states sums

-- no rule is failed
unless_ok : (r : SumsRule) (o : Option ℕ) (a : Answer) (sums : List SumValue) → unless r o a ≡ Ok sums
    → (o ≡ None) × (a ≡ Ok sums)
unless_ok r None a sums e = (refl, e)
unless_ok r (Some line) a sums e = absurd (let no : ⊥ = cc in no)

same_ok : (a : Answer) (xs ys : List SumValue) → a ≡ Ok xs → a ≡ Ok ys → ys ≡ xs
same_ok a xs ys x y = cc

pub record IsOfLines (alg : Alg) (text : List ℕ) (sums : List SumValue) : Type 0 where
  pub lines : sums ≡ map (sum_in alg) (lines_of text)
  pub formed : first_number (λ l. not (is_sum_line alg l)) 1 (lines_of text) ≡ None
  pub some : no_line (lines_of text) ≡ None
  pub named : first_number (λ l. not (is_name (name_in alg l))) 1 (lines_of text) ≡ None

pub of_lines : (alg : Alg) (text : List ℕ) (sums : List SumValue) → sums_of alg text ≡ Ok sums
    → IsOfLines alg text sums
of_lines alg text sums e =
    let formed = unless_ok rule.Line _ _ sums e in
    let some = unless_ok rule.Empty _ _ sums formed.1 in
    let named = unless_ok rule.Name _ _ sums some.1 in
    let once = unless_ok rule.NameTwice _ _ sums named.1 in
    record {
      lines = same_ok (Ok (map (sum_in alg) (lines_of text))) _ _ refl once.1;
      formed = formed.0;
      some = some.0;
      named = named.0;
    }

-- ---- how many lines there are

few_parts : (octet : ℕ) (q : List ℕ) (qs : List (List ℕ)) (n : ℕ) → length (lines_of_parts (q ∷ qs)) ≤ n
    → length (lines_of_parts ((octet ∷ q) ∷ qs)) ≤ n + 1
few_parts octet q [] n few = omega arith
few_parts octet q (p ∷ ps) n few = omega arith

few_lines : (text : List ℕ) → length (lines_of text) ≤ length text
few_lines [] = omega arith
few_lines (octet ∷ text) = by_case (octet == 10) refl (some_part (λ b. b == 10) text) (few_lines text)
  where
    by_case : (b : Bool) → octet == 10 ≡ b
        → ((q : List ℕ) × (qs : List (List ℕ)) × (slice_split (λ b. b == 10) text ≡ q ∷ qs))
        → length (lines_of text) ≤ length text → length (lines_of (octet ∷ text)) ≤ length (octet ∷ text)
    by_case true e (q, qs, is) few =
        let rest : length (lines_of_parts (q ∷ qs)) ≤ length text = rw is at few in
        rw (e, is) (omega arith)
    by_case false e (q, qs, is) few =
        let rest : length (lines_of_parts (q ∷ qs)) ≤ length text = rw is at few in
        let more = few_parts octet q qs (length text) rest in
        rw (e, is) (omega arith)

length_map : {X Y : Type 0} (f : X → Y) (xs : List X) → length (map f xs) ≡ length xs
length_map f [] = refl
length_map f (x ∷ xs) = ap suc (length_map f xs)

pub few_sums : (alg : Alg) (text : List ℕ) (sums : List SumValue) → sums_of alg text ≡ Ok sums
    → length sums ≤ length text
few_sums alg text sums e =
    let of = of_lines alg text sums e in
    let long : length sums ≡ length (lines_of text) =
    ap length of.lines ∙ length_map (sum_in alg) (lines_of text) in
    let few = few_lines text in omega arith

-- ---- the digests

map-map : {X Y Z : Type 0} (g : Y → Z) (f : X → Y) (xs : List X) → map g (map f xs) ≡ map (λ x. g (f x)) xs
map-map g f [] = refl
map-map g f (x ∷ xs) = ap (λ l. g (f x) ∷ l) (map-map g f xs)

some_mapped : {Y : Type 0} (f : List ℕ → Y) (ls : List (List ℕ)) → no_line ls ≡ None → 0 < length (map f ls)
some_mapped f [] none = absurd (let no : ⊥ = cc in no)
some_mapped f (l ∷ ls) none = omega arith

by_alg : (alg : Alg) (octets : List ℕ) → alg_of (digest_with alg octets) ≡ alg
by_alg algs.Sha1 octets = refl
by_alg algs.Sha224 octets = refl
by_alg algs.Sha256 octets = refl
by_alg algs.Sha384 octets = refl
by_alg algs.Sha512 octets = refl
by_alg algs.Sha512_224 octets = refl
by_alg algs.Sha512_256 octets = refl

-- all digests are by the algorithm
all_by : (alg : Alg) (ls : List (List ℕ)) → AllByRecursion (λ s. alg_of s.digest ≡ alg) (map (sum_in alg) ls)
all_by alg [] = tt
all_by alg (l ∷ ls) = (by_alg alg _, all_by alg ls)

pub all_stated : (alg : Alg) (text : List ℕ) (sums : List SumValue) → sums_of alg text ≡ Ok sums
    → AllByRecursion (λ s. alg_of s.digest ≡ alg) sums
all_stated alg text sums e = subst (λ (ss : List SumValue). AllByRecursion (λ s. alg_of s.digest ≡ alg) ss)
    (sym (of_lines alg text sums e).lines) (all_by alg (lines_of text))

all_digests : (alg : Alg) (sums : List SumValue) → AllByRecursion (λ s. alg_of s.digest ≡ alg) sums
    → AllByRecursion (λ d. alg_of d ≡ alg) (map (λ s. s.digest) sums)
all_digests alg [] all = tt
all_digests alg (s ∷ sums) all = (all.0, all_digests alg sums all.1)

-- the digests that are handed to the tree
pub digests_by : (alg : Alg) (text : List ℕ) (sums : List SumValue) (digests : List Digest) → sums_of alg text ≡ Ok sums
    → digests ≡ map (λ s. s.digest) sums → All (λ d. alg_of d ≡ alg) digests
digests_by alg text sums digests e same = subst (λ (ds : List Digest). All (λ d. alg_of d ≡ alg) ds) (sym same)
    (All-from_recursion (λ d. alg_of d ≡ alg) (map (λ s. s.digest) sums)
    (all_digests alg sums (all_stated alg text sums e)))

pub some_digests : (alg : Alg) (text : List ℕ) (sums : List SumValue) (digests : List Digest)
    → sums_of alg text ≡ Ok sums → digests ≡ map (λ s. s.digest) sums → 0 < length digests
some_digests alg text sums digests e same =
    let of = of_lines alg text sums e in
    let some = some_mapped (λ l. (sum_in alg l).digest) (lines_of text) of.some in
    let is : digests ≡ map (λ l. (sum_in alg l).digest) (lines_of text) =
    same ∙ (ap (map (λ (s : SumValue). s.digest)) of.lines
    ∙ map-map (λ (s : SumValue). s.digest) (sum_in alg) (lines_of text)) in
    rw is some

-- and the values that the tree is over
pub values_of : (sums : List SumValue) (digests : List Digest) → digests ≡ map (λ s. s.digest) sums
    → map octets_of digests ≡ map (λ s. octets_of s.digest) sums
values_of sums digests same = ap (map octets_of) same ∙ map-map octets_of (λ (s : SumValue). s.digest) sums

-- each is a leaf of the tree
abbrev AreLeaves : HashTree → List SumValue → Type 0
AreLeaves tree sums = AllByRecursion (λ s. IsLeaf tree s) sums

are_leaves : (alg : Alg) (tree : HashTree) → tree.algorithm ≡ alg → (sums : List SumValue)
    → AllByRecursion (λ s. alg_of s.digest ≡ alg) sums
    → All (Contains tree.leaves) (map (λ s. octets_of s.digest) sums) → AreLeaves tree sums
are_leaves alg tree by [] all there = tt
are_leaves alg tree by (s ∷ sums) all there = (
  (all.0 ∙ sym by, All-head (Contains tree.leaves) _ _ there),
  are_leaves alg tree by sums all.1 (All-tail (Contains tree.leaves) _ _ there),
)

are_ready : (tree : HashTree) (sums : List SumValue) → AreNamed sums → AreLeaves tree sums → AreReady tree sums
are_ready tree [] named leaves = tt
are_ready tree (s ∷ sums) named leaves =
    (record { named = named.0; leaf = leaves.0 }, are_ready tree sums named.1 leaves.1)

-- with a name, so that its record can be made; in the tree that a stamp has, too
pub ready_there : (alg : Alg) (text : List ℕ) (sums : List SumValue) (tree its : HashTree) → sums_of alg text ≡ Ok sums
    → AreNamed sums → IsTreeOver alg sums tree → its ≡ tree → AreReady its sums
ready_there alg text sums tree its e named over same =
    subst (λ (t : HashTree). AreReady t sums) (sym same)
    (are_ready tree sums named
    (are_leaves alg tree over.algorithm sums (all_stated alg text sums e) over.leaves.all))

-- ---- faults

module _ (alg : Alg) (text : List ℕ) where
  pub formed_if : (sums : List SumValue) → sums_of alg text ≡ Ok sums → IsOk (well_formed alg text)
  formed_if sums e =
      let of = of_lines alg text sums e in
      subst (λ (a : Answer). IsOk a) (sym (all_formed alg (lines_of text) (Ok (map (sum_in alg) (lines_of text)))
      of.formed of.some of.named)) refl

  by_rule : (fault : SumsFault) (r : SumsRule) → fault.rule ≡ r
      → (fault ≡ record { rule = rule.OutOfMemory; line = 0 }) ⊎ (sums_of alg text ≡ Err fault)
      → (fault.rule ≡ rule.OutOfMemory → IsOk (well_formed alg text))
      → LacksMemory alg text (failure_by_sums r fault) ⊎ StatesNone alg text (failure_by_sums r fault)
  by_rule fault rule.OutOfMemory is h m = inl (refl, m is)
  by_rule fault rule.Line is (inl same) m = absurd (let z : ⊥ = cc in z)
  by_rule fault rule.Line is (inr h) m = inr (record { fault = fault; first = h; told = refl })
  by_rule fault rule.Empty is (inl same) m = absurd (let z : ⊥ = cc in z)
  by_rule fault rule.Empty is (inr h) m = inr (record { fault = fault; first = h; told = refl })
  by_rule fault rule.Name is (inl same) m = absurd (let z : ⊥ = cc in z)
  by_rule fault rule.Name is (inr h) m = inr (record { fault = fault; first = h; told = refl })
  by_rule fault rule.NameTwice is (inl same) m = absurd (let z : ⊥ = cc in z)
  by_rule fault rule.NameTwice is (inr h) m = inr (record { fault = fault; first = h; told = refl })

  -- want of memory is told as such, and any other fault is the first of the text
  pub states_none : (fault : SumsFault)
      → (fault ≡ record { rule = rule.OutOfMemory; line = 0 }) ⊎ (sums_of alg text ≡ Err fault)
      → (fault.rule ≡ rule.OutOfMemory → IsOk (well_formed alg text))
      → LacksMemory alg text (failure_of_sums fault) ⊎ StatesNone alg text (failure_of_sums fault)
  states_none fault h m = by_rule fault fault.rule refl h m
