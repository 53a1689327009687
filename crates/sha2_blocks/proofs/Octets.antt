-- Lists of octets that are cut and put together.
use Rattle.std.proofs.Common.{◌≡◌, ℕ, ◌+◌, ◌-◌, ◌≤◌, List, ◌++◌, length, take, drop, sym, ap, ◌∙◌, arith, length-append}
use Rattle.std.proofs.Common.{length-take}
use Rattle.std.proofs.lemmas.List.{drop-take, take-append-drop, take-take}
use Rattle.std.proofs.lemmas.Slice.{take-put_mid}
use Rattle.std.proofs.Math.Seq.{take-append_seam}
use borrow.Rule.Slice.PartMut.{put_mid}

-- the front of a list, cut at an earlier place
pub joined : (d : List ℕ) (a e : ℕ) → a ≤ e → take e d ≡ take a d ++ take (e - a) (drop a d)
joined d a e le =
    let n : ℕ = e - a in
    let at : e ≡ a + n = omega arith in
    let whole : take a (take (a + n) d) ++ drop a (take (a + n) d) ≡ take (a + n) d =
    take-append-drop a (take (a + n) d) in
    ap (λ (k : ℕ). take k d) at ∙ sym (rw (take-take a (a + n) d (omega arith), drop-take a n d) at whole)

-- three lists, put into room one after the other
pub put_thrice : (after x rest zeros bits y z : List ℕ) (k l at end : ℕ) → x ≡ rest → y ≡ zeros → z ≡ bits
    → at ≡ length rest + length zeros → end ≡ at + length bits
    → take end (put_mid at l (put_mid (length rest) k (x ++ after) y) z) ≡ (rest ++ zeros) ++ bits
put_thrice after x rest zeros bits y z k l at end ex ey ez ea ee =
    let front : take (length rest) (x ++ after) ≡ rest = rw ex (take-append_seam rest after) in
    let fits : length rest ≤ length (x ++ after) = omega (arith, length-append x after, ap length ex) in
    let room : List ℕ = put_mid (length rest) k (x ++ after) y in
    let two : take at room ≡ rest ++ zeros =
    rw ey (take-put_mid (length rest) k (x ++ after) zeros at ea fits ∙ ap (λ (s : List ℕ). s ++ zeros) front) in
    let wide : at ≤ length room = omega (arith, length-take at room, ap length two, length-append rest zeros) in
    rw ez (take-put_mid at l room bits end ee wide ∙ ap (λ (s : List ℕ). s ++ bits) two)
