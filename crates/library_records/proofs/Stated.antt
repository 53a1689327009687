-- What the words of a text state, one after the other; and that callers state one thing.
use Rattle.std.proofs.Common.{◌≡◌, ◌+◌, ◌-◌, ◌<◌, ◌≤◌, zero, suc, ℕ, Bool, true, Option, Some, None, inl, inr}
use Rattle.std.proofs.Common.{length-append, codes, List, [], ◌∷◌, ◌++◌, length, eqb, refl, sym, ap, get_or, false}
use Rattle.std.proofs.Common.{◌∙◌, subst, append_assoc, arith, length-drop}
use Rattle.std.specs.Prelude.{Contains, IsTrue, ◌↔◌, if◌then◌else◌}
use Rattle.std.specs.List.{AllZip, position_or_len, before_first, after_first}
use Rattle.std.proofs.lemmas.List.Splits.{slice_split_none, slice_split_first}
use Rattle.std.proofs.lemmas.List.Sums.{fails_before_first}
use Rattle.der_core.specs.Times.{is_generalized}
use Rattle.der_time.specs.Moments.{generalized_moment}
use Rattle.digests.specs.Algorithms.{name_of}
use Rattle.digests.specs.declared.algorithm.Alg.{Alg}
use Rattle.digests.specs.declared.algorithm.Alg.TheVariants as alg
use Rattle.check_evidence.specs.Grounds.{AlgEnd}
use Rattle.cli_failures.specs.declared.failure.Failure.{Failure}
use Rattle.cli_failures.specs.Ends.{IsEndIn, IsTimeIn, StatesNoEnd}
use Rattle.cli_failures.proofs.StatedEnds.{is_equals, joined, time_after}
use Rattle.library_records.specs.Stated.{EvidenceCheck, States, StatesEnds, StatesAt, words_of}
use Rattle.library_records.specs.Stated.{RefusesEnds, RefusesAt, RefusesStated}

abbrev pub is_space : ℕ → Bool
is_space b = eqb b 32

-- a first word, and those behind the space after it
pub first_word : (left word others : List ℕ) → position_or_len is_space left < length left
    → word ≡ before_first is_space left → others ≡ after_first is_space left → words_of left ≡ word ∷ words_of others
first_word left word others there front back = rw (front, back) (slice_split_first is_space left 0 there)

-- a word alone
pub one_word : (left : List ℕ) → position_or_len is_space left ≡ length left → words_of left ≡ left ∷ []
one_word left none = slice_split_none is_space left
    (λ k d lt. fails_before_first is_space left k d (subst (λ (n : ℕ). k < n) (sym none) lt))

pub shorter : (left others : List ℕ) → position_or_len is_space left < length left → others ≡ after_first is_space left
    → length others < length left
shorter left others there back =
    let e : length others ≡ length left - (position_or_len is_space left + 1) =
    ap (λ (l : List ℕ). length l) back ∙ length-drop (position_or_len is_space left + 1) left in
    omega arith

-- the ends so far, and those of the words that are left, are all
pub record EndsSoFar (text left : List ℕ) (ends : List AlgEnd) : Type 0 where
  pub found : (rest : List AlgEnd) → AllZip IsEndIn (words_of left) rest → AllZip IsEndIn (words_of text) (ends ++ rest)
  pub among : (word : List ℕ) → Contains (words_of left) word → Contains (words_of text) word

pub no_ends : (text : List ℕ) (ends : List AlgEnd) → ends ≡ [] → EndsSoFar text text ends
no_ends text ends none = record {
  found = λ rest h. subst (λ (l : List AlgEnd). AllZip IsEndIn (words_of text) (l ++ rest)) (sym none) h;
  among = λ word c. c;
}

behind : (w : List ℕ) (ws : List (List ℕ)) (word : List ℕ) → Contains ws word → Contains (w ∷ ws) word
behind w ws word (k, lt, is) = (suc k, omega arith, is)

pub first_is : (w : List ℕ) (ws : List (List ℕ)) → Contains (w ∷ ws) w
first_is w ws = (0, omega arith, refl)

module _ (text left : List ℕ) (ends : List AlgEnd) (h : EndsSoFar text left ends) where
  -- a word that states an end
  pub one_end : (word others : List ℕ) (more : List AlgEnd) (e : AlgEnd) → words_of left ≡ word ∷ words_of others
      → IsEndIn word e → more ≡ ends ++ e ∷ [] → EndsSoFar text others more
  one_end word others more e cut is longer = record {
    found = λ rest are.
        subst (λ (l : List AlgEnd). AllZip IsEndIn (words_of text) (l ++ rest)) (sym longer)
        (subst (λ (l : List AlgEnd). AllZip IsEndIn (words_of text) l) (sym (append_assoc ends (e ∷ []) rest))
        (h.found (e ∷ rest) (subst (λ (ws : List (List ℕ)). AllZip IsEndIn ws (e ∷ rest)) (sym cut) (is, are))));
    among = λ w c. h.among w (subst (λ (ws : List (List ℕ)). Contains ws w) (sym cut)
        (behind word (words_of others) w c));
  }

  -- the last one
  pub last_end : (more : List AlgEnd) (e : AlgEnd) → words_of left ≡ left ∷ [] → IsEndIn left e → more ≡ ends ++ e ∷ []
      → AllZip IsEndIn (words_of text) more
  last_end more e cut is longer = subst (λ (l : List AlgEnd). AllZip IsEndIn (words_of text) l) (sym longer)
      (h.found (e ∷ []) (subst (λ (ws : List (List ℕ)). AllZip IsEndIn ws (e ∷ [])) (sym cut) (is, tt)))

  -- a word that states none
  pub no_end : (word : List ℕ) (behind : List (List ℕ)) → words_of left ≡ word ∷ behind
      → StatesNoEnd word → (w : List ℕ) × Contains (words_of text) w × StatesNoEnd w
  no_end word behind cut none = (
    word,
    h.among word (subst (λ (ws : List (List ℕ)). Contains ws word) (sym cut) (first_is word behind)),
    none,
  )

-- ---- what is stated is one thing

-- no name of an algorithm has `=`
name_before : (a : Alg) (time : List ℕ) → before_first is_equals (joined a time) ≡ name_of a
name_before alg.Sha1 time = refl
name_before alg.Sha224 time = refl
name_before alg.Sha256 time = refl
name_before alg.Sha384 time = refl
name_before alg.Sha512 time = refl
name_before alg.Sha512_224 time = refl
name_before alg.Sha512_256 time = refl

-- the algorithm of a name, by its length and the octets that tell it from others
abbrev alg_by : (name : List ℕ) → Alg
alg_by name = if eqb (length name) 4 then alg.Sha1
    else (if eqb (length name) 10 then (if eqb (get_or name 8 0) 50 then alg.Sha512_224 else alg.Sha512_256)
    else (if eqb (get_or name 3 0) 51 then alg.Sha384 else (if eqb (get_or name 3 0) 53 then alg.Sha512
    else (if eqb (get_or name 4 0) 50 then alg.Sha224 else alg.Sha256))))

alg_again : (a : Alg) → alg_by (name_of a) ≡ a
alg_again alg.Sha1 = refl
alg_again alg.Sha224 = refl
alg_again alg.Sha256 = refl
alg_again alg.Sha384 = refl
alg_again alg.Sha512 = refl
alg_again alg.Sha512_224 = refl
alg_again alg.Sha512_256 = refl

ends_alike : (a b : Alg) (m n : ℕ) → a ≡ b → m ≡ n → (let e : AlgEnd = record { alg = a; last = m } in
    let f : AlgEnd = record { alg = b; last = n } in e ≡ f)
ends_alike a b m n algs lasts = cc

one_end_in : (word : List ℕ) (e f : AlgEnd) → IsEndIn word e → IsEndIn word f → e ≡ f
one_end_in word e f is its =
    let names : name_of e.alg ≡ name_of f.alg = sym (name_before e.alg is.time)
    ∙ ap (before_first is_equals) (sym is.parts ∙ its.parts) ∙ name_before f.alg its.time in
    let algs : e.alg ≡ f.alg = sym (alg_again e.alg) ∙ ap alg_by names ∙ alg_again f.alg in
    let times : is.time ≡ its.time = sym (time_after e.alg is.time)
    ∙ ap (after_first is_equals) (sym is.parts ∙ its.parts) ∙ time_after f.alg its.time in
    let lasts : e.last ≡ f.last = is.last.moment ∙ ap generalized_moment times ∙ sym its.last.moment in
    ends_alike e.alg f.alg e.last f.last algs lasts

both_alike : (e f : AlgEnd) (es fs : List AlgEnd) → e ≡ f → es ≡ fs → e ∷ es ≡ f ∷ fs
both_alike e f es fs first others = cc

ends_in_words : (words : List (List ℕ)) (es fs : List AlgEnd) → AllZip IsEndIn words es → AllZip IsEndIn words fs
    → es ≡ fs
ends_in_words [] [] [] is its = refl
ends_in_words [] [] (f ∷ fs) is its = absurd its
ends_in_words [] (e ∷ es) fs is its = absurd is
ends_in_words (w ∷ words) [] fs is its = absurd is
ends_in_words (w ∷ words) (e ∷ es) [] is its = absurd its
ends_in_words (w ∷ words) (e ∷ es) (f ∷ fs) is its =
    both_alike e f es fs (one_end_in w e f is.0 its.0) (ends_in_words words es fs is.1 its.1)

-- without an octet there is no end
none_in_nothing : (text : List ℕ) (es : List AlgEnd) → text ≡ [] → AllZip IsEndIn (words_of text) es → ⊥
none_in_nothing text es none h = no es (subst (λ (t : List ℕ). AllZip IsEndIn (words_of t) es) none h)
  where
    no : (es : List AlgEnd) → AllZip IsEndIn (words_of []) es → ⊥
    no [] h = h
    no (e ∷ es) (is, others) =
        let k : length is.time + 1 ≤ length (codes "=" ++ is.time) = omega arith in
        let l : 0 ≡ length (joined e.alg is.time) = ap (λ (w : List ℕ). length w) is.parts in
        omega (arith, length-append (name_of e.alg) (codes "=" ++ is.time))

pub one_list : (text : List ℕ) (es fs : List AlgEnd) → StatesEnds text es → StatesEnds text fs → es ≡ fs
one_list text es fs (inl (none, is)) (inl (none', its)) = is ∙ sym its
one_list text es fs (inl (none, is)) (inr (formed, its)) = absurd (none_in_nothing text fs none its)
one_list text es fs (inr (formed, is)) (inl (none, its)) = absurd (none_in_nothing text es none is)
one_list text es fs (inr (formed, is)) (inr (formed', its)) = ends_in_words (words_of text) es fs is its

-- without an octet there is no time
no_time : (text : List ℕ) (m : ℕ) → text ≡ [] → IsTimeIn text m → ⊥
no_time text m none is = let t : is_generalized [] ≡ true = sym (ap is_generalized none) ∙ is.is_time in cc

pub one_at : (text : List ℕ) (a b : Option ℕ) → StatesAt text a → StatesAt text b → a ≡ b
one_at text None None is its = refl
one_at text None (Some n) is its = absurd (no_time text n is its.1)
one_at text (Some m) None is its = absurd (no_time text m its is.1)
one_at text (Some m) (Some n) is its = let e : m ≡ n = is.1.moment ∙ sym its.1.moment in cc

pub states_one : (i : EvidenceCheck) (es fs : List AlgEnd) (a b : Option ℕ) → States i es a → States i fs b
    → (es ≡ fs) × (a ≡ b)
states_one i es fs a b is its = (one_list i.ends es fs is.of_ends its.of_ends, one_at i.at a b is.of_at its.of_at)

-- ---- and nothing that is refused

end_of_word : (words : List (List ℕ)) (es : List AlgEnd) (k : ℕ) (word : List ℕ) → AllZip IsEndIn words es
    → k < length words → get_or words k word ≡ word → (e : AlgEnd) × IsEndIn word e
end_of_word [] es k word h lt is = absurd (omega arith)
end_of_word (w ∷ words) [] k word h lt is = absurd h
end_of_word (w ∷ words) (e ∷ es) zero word h lt is = (e, subst (λ (x : List ℕ). IsEndIn x e) is h.0)
end_of_word (w ∷ words) (e ∷ es) (suc k) word h lt is = end_of_word words es k word h.1 (omega arith) is

pub ends_refused : (text : List ℕ) (f : Failure) (es : List AlgEnd) → RefusesEnds text f → StatesEnds text es → ⊥
ends_refused text f es (some, why) (inl (none, is)) =
    let e : length text ≡ 0 = ap (λ (t : List ℕ). length t) none in omega arith
ends_refused text f es (some, inl (names, (word, (k, lt, at), none))) (inr (formed, is)) =
    let e = end_of_word (words_of text) es k word is lt at in none e.0 e.1
ends_refused text f es (some, inr (names, unformed)) (inr (formed, is)) = unformed formed

pub at_refused : (text : List ℕ) (f : Failure) (a : Option ℕ) → RefusesAt text f → StatesAt text a → ⊥
at_refused text f None (names, some, why) is =
    let e : length text ≡ 0 = ap (λ (t : List ℕ). length t) is in omega arith
at_refused text f (Some m) (names, some, inl unformed) is = unformed is.0
at_refused text f (Some m) (names, some, inr none) is =
    let t : is_generalized text ≡ true = is.1.is_time in let no : is_generalized text ≡ false = none in cc

pub states_or_refuses : (i : EvidenceCheck) (f : Failure) (es : List AlgEnd) (a : Option ℕ) → RefusesStated i f
    → States i es a → ⊥
states_or_refuses i f es a (inl ends) is = ends_refused i.ends f es ends is.of_ends
states_or_refuses i f es a (inr (ends, inl at)) is = at_refused i.at f a at is.of_at
states_or_refuses i f es a (inr (ends, inr (at, other))) is = other.1 is.of_lengths

-- a test that fails says that it is not so
pub says_not : (b : Bool) (A : Type 0) → IsTrue b ↔ A → b ≡ false → A → ⊥
says_not b A test fails is = let t : b ≡ true = test.1 is in cc
