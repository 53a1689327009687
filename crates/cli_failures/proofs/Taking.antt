-- What a writer took of some octets.
use Rattle.std.proofs.Common.{◌≡◌, ◌++◌, ◌∙◌, ◌+◌, ◌-◌, ℕ, List, [], Option, Some, None, refl}
use Rattle.std.proofs.Common.{sym, ap, subst, length, take, drop, append_assoc, append-nil, inl, inr, arith}
use Rattle.std.proofs.Math.Seq.{take-append_seam, take-append-add}
use Rattle.std.proofs.lemmas.Bool.{cases_lt}
use Rattle.std.proofs.lemmas.List.{take-append-drop, take-append-le, take_all, length-drop}
use Rattle.std.proofs.KnownBytes.{Appends-kept}
use Rattle.std.proofs.Common.{Result, Ok, Err}
use Rattle.std.specs.Prelude.{IfErr, OnOk}
use Rattle.std.specs.Io.KnownBytes.{Appends, Keeps}
use Rattle.cli_failures.specs.declared.failure.Failure.{Failure}
use Rattle.cli_failures.specs.Output.{Begins, IsLost}

-- the octets up to those that are left
pub record UpTo (octets left : List ℕ) (before after : Option (List ℕ)) : Type 0 where
  pub done : List ℕ
  pub are : octets ≡ done ++ left
  pub took : Appends before after done

-- a text behind another
pub appends_both : (a b c : Option (List ℕ)) (s t : List ℕ) → Appends a b s → Appends b c t → Appends a c (s ++ t)
appends_both None b c s t p q = tt
appends_both (Some x) None c s t p q = absurd p
appends_both (Some x) (Some y) None s t p q = absurd q
appends_both (Some x) (Some y) (Some z) s t p q = q ∙ ap (λ (v : List ℕ). v ++ t) p ∙ append_assoc x s t

-- nothing behind a text
pub appends_none : (a : Option (List ℕ)) → Appends a a []
appends_none None = tt
appends_none (Some x) = sym (append-nil x)

-- nothing, which is a beginning of any text
pub begins_none : (a : Option (List ℕ)) (text : List ℕ) → Begins a a text
begins_none a text = (0, appends_none a)

-- the whole text
pub begins_whole : (a b : Option (List ℕ)) (text : List ℕ) → Appends a b text → Begins a b text
begins_whole a b text took = (
  length text,
  subst (λ (bs : List ℕ). Appends a b bs) (sym (take_all (length text) text (omega arith))) took,
)

-- the whole text, or a beginning of one that was lost
pub begins_either : {T : Type 0} (a b : Option (List ℕ)) (text : List ℕ) (printed : Result T Failure)
    → OnOk printed (Appends a b text) → IfErr printed (λ f. IsLost f × Begins a b text) → Begins a b text
begins_either a b text (Ok u) whole cut = begins_whole a b text whole
begins_either a b text (Err f) whole (lost, cut) = cut

-- a beginning behind a text
pub begins_behind : (a b c : Option (List ℕ)) (s t : List ℕ) → Appends a b s → Begins b c t → Begins a c (s ++ t)
begins_behind a b c s t took (count, more) = (
  length s + count,
  subst (λ (bs : List ℕ). Appends a c bs) (sym (take-append-add s t count))
      (appends_both a b c s (take count t) took more),
)

-- a beginning of a text is one of a longer text
pub begins_front : (a b : Option (List ℕ)) (s t : List ℕ) → Begins a b s → Begins a b (s ++ t)
begins_front a b s t (count, took) = elim (cases_lt count (length s)) [
  | inl lt ↦ (count, subst (λ (bs : List ℕ). Appends a b bs) (sym (take-append-le count s t (omega (arith, lt)))) took)
  | inr le ↦ (length s, subst (λ (bs : List ℕ). Appends a b bs) (take_all count s le ∙ sym (take-append_seam s t)) took)
]

pub up_to_none : (octets : List ℕ) (a : Option (List ℕ)) → UpTo octets octets a a
up_to_none octets a = record { done = []; are = refl; took = appends_none a }

-- all that is left is there behind the octets that were taken
rest_is : (n : ℕ) (left : List ℕ) → take (length left - n) (drop n left) ≡ drop n left
rest_is n left = take_all (length left - n) (drop n left) (omega (arith, length-drop n left))

pub up_to_more : (octets left : List ℕ) (a b c : Option (List ℕ)) (n : ℕ) → UpTo octets left a b
    → Appends b c (take n left)
    → UpTo octets (take (length left - n) (drop n left)) a c
up_to_more octets left a b c n h more = record {
  done = h.done ++ take n left;
  are = h.are ∙ ap (λ (v : List ℕ). h.done ++ v) (sym (take-append-drop n left))
      ∙ sym (append_assoc h.done (take n left) (drop n left))
      ∙ ap (λ (v : List ℕ). (h.done ++ take n left) ++ v) (sym (rest_is n left));
  took = appends_both a b c h.done (take n left) h.took more;
}

-- what was taken is a beginning
pub cut_more : (octets left : List ℕ) (a b c : Option (List ℕ)) (n : ℕ) → UpTo octets left a b
    → Appends b c (take n left)
    → Begins a c octets
cut_more octets left a b c n h more = (
  length h.done + n,
  subst (λ (bs : List ℕ). Appends a c bs)
      (sym (ap (take (length h.done + n)) h.are ∙ take-append-add h.done left n))
      (appends_both a b c h.done (take n left) h.took more),
)

pub cut_kept : (octets left : List ℕ) (a b c : Option (List ℕ)) → UpTo octets left a b → Keeps b c → Begins a c octets
cut_kept octets left a b c h kept = (
  length h.done,
  subst (λ (bs : List ℕ). Appends a c bs) (sym (ap (take (length h.done)) h.are ∙ take-append_seam h.done left))
      (Appends-kept a b c h.done h.took kept),
)
