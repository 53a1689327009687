-- The steps of EMSA-PSS.
use Rattle.std.proofs.Common.{◌≡◌, ℕ, ◌+◌, ◌≤◌, List, ◌++◌, length, take, replicate, ap, ◌∙◌, length-append}
use Rattle.std.proofs.Common.{append_assoc, arith}
use Rattle.std.proofs.lemmas.Slice.{take-put_mid}
use borrow.Rule.Slice.PartMut.{put_mid, post_of}

-- a hash value and a salt, one after the other, behind eight octets 0
pub salted_is : (hash salt h s : List ℕ) (middle end k j : ℕ) → h ≡ hash → s ≡ salt → middle ≡ 8 + length hash
    → end ≡ middle + length salt
    → take end (put_mid middle j (put_mid 8 k (replicate 1096 0) h) s) ≡ replicate 8 0 ++ (hash ++ salt)
salted_is hash salt h s middle end k j eh es em ee =
    let lh : length h ≡ length hash = ap length eh in
    let ls : length s ≡ length salt = ap length es in
    let xs : List ℕ = put_mid 8 k (replicate 1096 0) h in
    let lx : middle ≤ length xs = omega (
      arith,
      length-append (replicate 8 0) (h ++ post_of 8 k (replicate 1096 0)),
      length-append h (post_of 8 k (replicate 1096 0)),
    ) in
    take-put_mid middle j xs s end (omega arith) lx
    ∙ ap (λ z. z ++ s) (take-put_mid 8 k (replicate 1096 0) h middle (omega arith) (omega arith))
    ∙ append_assoc (replicate 8 0) h s
    ∙ ap (λ z. replicate 8 0 ++ (z ++ s)) eh ∙ ap (λ z. replicate 8 0 ++ (hash ++ z)) es
