-- A key is within the limits exactly if it is judged.
use Rattle.std.proofs.Common.{◌≡◌, ◌↔◌, ℕ, ◌%◌, Bool, true, false, ◌&&◌, IsTrue, List, length, get_or, refl}
use Rattle.std.specs.Prelude.{◌==◌, nat_lt, nat_le}
use Rattle.std.proofs.lemmas.Bool.{and_parts, and_from, eqb-true, eq-eqb, ltb-true, lt-ltb, leb-true, le-leb}
use Rattle.std.proofs.lemmas.Bool.{false≢true}
use Rattle.big_numbers.specs.Numbers.{bits_of, os2ip}
use Rattle.rsa_keys.specs.KeyValue.{IsJudged}
use Rattle.rsa_keys.specs.KeyReading.{is_judged}

-- two tests that say the same are the same
pub same_answer : (a b : Bool) (P : Type 0) → (IsTrue a ↔ P) → ((b ≡ true) ↔ P) → a ≡ b
same_answer true true P f g = refl
same_answer true false P f g = absurd (false≢true (g.1 (f.0 refl)))
same_answer false true P f g = absurd (false≢true (f.1 (g.0 refl)))
same_answer false false P f g = refl

pub judged_says : (n e : List ℕ) → (is_judged n e ≡ true) ↔ IsJudged n e
unfolding is_judged
judged_says n e =
    let a : Bool = nat_lt 0 (get_or n 0 0) in
    let b : Bool = nat_le 512 (bits_of n) in
    let c : Bool = nat_le (length n) 1024 in
    let d : Bool = os2ip n % 2 == 1 in
    let f : Bool = nat_lt 0 (get_or e 0 0) in
    let g : Bool = nat_le (length e) 8 in
    let h : Bool = os2ip e % 2 == 1 in
    let i : Bool = nat_le 3 (os2ip e) in (
      λ t.
          let p = and_parts (a && b && c && d && f && g && h) i t in
          let q = and_parts (a && b && c && d && f && g) h p.0 in
          let r = and_parts (a && b && c && d && f) g q.0 in
          let s = and_parts (a && b && c && d) f r.0 in
          let u = and_parts (a && b && c) d s.0 in
          let v = and_parts (a && b) c u.0 in
          let w = and_parts a b v.0 in
          record {
            first = ltb-true 0 (get_or n 0 0) w.0;
            least = leb-true 512 (bits_of n) w.1;
            most = leb-true (length n) 1024 v.1;
            odd = eqb-true (os2ip n % 2) 1 u.1;
            exponent_first = ltb-true 0 (get_or e 0 0) s.1;
            exponent_most = leb-true (length e) 8 r.1;
            exponent_odd = eqb-true (os2ip e % 2) 1 q.1;
            exponent_least = leb-true 3 (os2ip e) p.1;
          },
      λ k.
          and_from (a && b && c && d && f && g && h) i
          (and_from (a && b && c && d && f && g) h
          (and_from (a && b && c && d && f) g
          (and_from (a && b && c && d) f
          (and_from (a && b && c) d
          (and_from (a && b) c
          (and_from a b (lt-ltb 0 (get_or n 0 0) k.first) (le-leb 512 (bits_of n) k.least))
          (le-leb (length n) 1024 k.most)) (eq-eqb (os2ip n % 2) 1 k.odd))
          (lt-ltb 0 (get_or e 0 0) k.exponent_first)) (le-leb (length e) 8 k.exponent_most))
          (eq-eqb (os2ip e % 2) 1 k.exponent_odd)) (le-leb 3 (os2ip e) k.exponent_least),
    )
