-- The names that were passed, and the set of them as they stand in the lines.
use Rattle.std.proofs.Common.{◌≡◌, ℕ, ◌+◌, Bool, true, false, not, List, ◌∷◌, Bor, Some, refl, sym}
use Rattle.std.proofs.Common.{ap, ◌∙◌, arith}
use Rattle.std.specs.Prelude.{◌||◌, cond}
use Rattle.std.specs.declared.cmp.Ordering.{Ordering}
use Rattle.std.specs.declared.cmp.Ordering.TheVariants.{Less, Equal, Greater}
use Rattle.std.specs.Ordering.{nat_cmp, is_eq, ordering_then}
use Rattle.std.specs.Cmp.Lexicographic.{slice_cmp}
use Rattle.std.specs.List.{list_all}
use Rattle.std.specs.BTreeSet.{BTreeSet, contains, Updates}
use Rattle.std.proofs.lemmas.Cmp.{same_from_slice_cmp}
use Rattle.std.proofs.lemmas.Bool.Decides.{nat_tests}
use Rattle.der_core.specs.Lists.{is_same}
use Rattle.der_core.proofs.Encoded.{same}
use Rattle.digests.specs.declared.algorithm.Alg.{Alg}
use Rattle.evidence_sums.specs.Marks.{mark_of}
use Rattle.evidence_sums.specs.Names.{is_escaped, unescaped}
use Rattle.evidence_sums.specs.LineTests.{is_continued, is_line, named_again}
use Rattle.evidence_sums.specs.SumLines.{escaped_in, name_in}
use Rattle.evidence_sums.specs.Sums.{is_among}
use Rattle.evidence_sums.proofs.Escapes.{and_first, and_second, same_names}
use Rattle.evidence_sums.proofs.GoodLines.{good}
use Rattle.evidence_sums.proofs.LineParts.{head_line}

-- a mark and a name as it stands, and their order
abbrev pub Marked : Type 0
Marked = ℕ × Bor (List ℕ)

abbrev pub marked_cmp : Marked → Marked → Ordering
marked_cmp a b = ordering_then (nat_cmp a.0 b.0) (slice_cmp nat_cmp a.1.now b.1.now)

abbrev pub marked : Bor (List ℕ) → Marked
marked name = (mark_of name.now, name)

same_cmp : (xs ys : List ℕ) (o : Ordering) → o ≡ slice_cmp nat_cmp xs ys → is_eq o ≡ is_same xs ys
same_cmp = same_from_slice_cmp nat_cmp is_eq is_same refl (λ _ _. refl) (λ _ _. refl)
    (λ x y xs ys o h. grind (arith, nat_tests))

-- a number is in no order with itself
tied_itself : (m : ℕ) → nat_cmp m m ≡ Equal
tied_itself m = grind (arith, nat_tests)

second_tied : (o p : Ordering) → is_eq p ≡ false → is_eq (ordering_then o p) ≡ false
second_tied Less p e = refl
second_tied Equal p e = e
second_tied Greater p e = refl

-- names with their marks are the same exactly if the names are
same_marked : (a b : Bor (List ℕ)) → is_eq (marked_cmp (marked a) (marked b)) ≡ is_same a.now b.now
same_marked a b = by_case (is_same a.now b.now) refl
  where
    names : is_eq (slice_cmp nat_cmp a.now b.now) ≡ is_same a.now b.now
    names = same_cmp a.now b.now (slice_cmp nat_cmp a.now b.now) refl

    by_case : (c : Bool) → is_same a.now b.now ≡ c → is_eq (marked_cmp (marked a) (marked b)) ≡ is_same a.now b.now
    by_case true e =
        let marks : nat_cmp (mark_of a.now) (mark_of b.now) ≡ Equal =
        ap (λ (w : List ℕ). nat_cmp (mark_of a.now) (mark_of w)) (sym (same a.now b.now e))
        ∙ tied_itself (mark_of a.now) in
        ap (λ (o : Ordering). is_eq (ordering_then o (slice_cmp nat_cmp a.now b.now))) marks ∙ names
    by_case false e =
        second_tied (nat_cmp (mark_of a.now) (mark_of b.now)) (slice_cmp nat_cmp a.now b.now) (names ∙ e) ∙ sym e

-- the set has a name that stands so exactly if the name is one of these
abbrev pub Keeps : List (List ℕ) → BTreeSet Marked → Type 0
Keeps names kept = (q : Bor (List ℕ)) → is_escaped q.now ≡ true
    → contains marked_cmp kept (marked q) ≡ is_among names (unescaped q.now)

pub keeps_more : (names : List (List ℕ)) (kept more : BTreeSet Marked) (mark : ℕ) (name : Bor (List ℕ))
    → mark ≡ mark_of name.now → is_escaped name.now ≡ true → Updates marked_cmp kept more (mark, name) true
    → Keeps names kept → Keeps (unescaped name.now ∷ names) more
keeps_more names kept more mark name is stands updates keeps = λ q e.
    updates.0 (marked q)
    ∙ ap (λ (m : ℕ). cond (is_eq (marked_cmp (m, name) (marked q))) true (contains marked_cmp kept (marked q))) is
    ∙ ap (λ (b : Bool). cond b true (contains marked_cmp kept (marked q)))
    (same_marked name q ∙ sym (same_names name.now q.now stands e))
    ∙ ap (λ (b : Bool). cond (is_same (unescaped name.now) (unescaped q.now)) true b) (keeps q e)
    ∙ joined (is_same (unescaped name.now) (unescaped q.now)) (is_among names (unescaped q.now))
  where
    joined : (a b : Bool) → cond a true b ≡ (a || b)
    joined true b = refl
    joined false b = refl

-- ---- one line more

pub not_kept : (kept added : Bool) → added ≡ not kept → added ≡ true → kept ≡ false
not_kept true added is new = absurd (let no : false ≡ true = sym is ∙ new in cc)
not_kept false added is new = refl

module _ (may_continue : Bool) (alg : Alg) (passed lines others : List (List ℕ)) (number : ℕ) (line : List ℕ)
    (is : lines ≡ line ∷ others) where
  -- a line that continues another has no name
  pub passed_over : is_continued may_continue line ≡ true
      → named_again may_continue alg passed number lines ≡ named_again may_continue alg passed (number + 1) others
  passed_over more = ap (λ (ls : List (List ℕ)). named_again may_continue alg passed number ls) is ∙ rw more refl

  module _ (stands : List ℕ) (head : is_continued may_continue line ≡ false) (there : stands ≡ escaped_in alg line)
    where
      pub passed_more : is_among passed (unescaped stands) ≡ false
          → named_again may_continue alg passed number lines
          ≡ named_again may_continue alg (unescaped stands ∷ passed) (number + 1) others
      passed_more new =
          let apart : is_among passed (name_in alg line) ≡ false =
          sym (ap (λ (w : List ℕ). is_among passed (unescaped w)) there) ∙ new in
          let same : name_in alg line ≡ unescaped stands = sym (ap unescaped there) in
          ap (λ (ls : List (List ℕ)). named_again may_continue alg passed number ls) is
          ∙ rw (head, apart)
          (ap (λ (w : List ℕ). named_again may_continue alg (w ∷ passed) (number + 1) others) same)

      -- a name that is there again
      pub passed_found : is_among passed (unescaped stands) ≡ true
          → named_again may_continue alg passed number lines ≡ Some number
      passed_found old =
          let again : is_among passed (name_in alg line) ≡ true =
          sym (ap (λ (w : List ℕ). is_among passed (unescaped w)) there) ∙ old in
          ap (λ (ls : List (List ℕ)). named_again may_continue alg passed number ls) is ∙ rw (head, again) refl

pub is_kept : (kept added : Bool) → added ≡ not kept → added ≡ false → kept ≡ true
is_kept true added is old = refl
is_kept false added is old = absurd (let no : true ≡ false = sym is ∙ old in cc)

-- ---- a name, as it stands in the first line of those that are left

module _ (may_continue : Bool) (alg : Alg) (lines others : List (List ℕ)) (line : List ℕ) (cut : lines ≡ line ∷ others)
    (formed : list_all (is_line may_continue alg) lines ≡ true) where
  all : list_all (is_line may_continue alg) (line ∷ others) ≡ true
  all = sym (ap (list_all (is_line may_continue alg)) cut) ∙ formed

  pub formed_behind : list_all (is_line may_continue alg) others ≡ true
  formed_behind = and_second (is_line may_continue alg line) (list_all (is_line may_continue alg) others) all

  module _ (name : Bor (List ℕ)) (head : is_continued may_continue line ≡ false) (is : name.now ≡ escaped_in alg line)
    where
      pub name_stands : is_escaped name.now ≡ true
      name_stands = ap is_escaped is
          ∙ (good alg line (head_line may_continue alg line
          (and_first (is_line may_continue alg line) (list_all (is_line may_continue alg) others) all) head)).stands

      -- the set says whether it was passed
      pub name_among : (passed : List (List ℕ)) (kept : BTreeSet Marked) (mark : ℕ) → Keeps passed kept
          → mark ≡ mark_of name.now → is_among passed (unescaped name.now) ≡ contains marked_cmp kept (mark, name)
      name_among passed kept mark keeps its =
          sym (keeps name name_stands) ∙ ap (λ (m : ℕ). contains marked_cmp kept (m, name)) (sym its)
