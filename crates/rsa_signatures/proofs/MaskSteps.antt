-- The steps of MGF1.
use Rattle.std.proofs.Common.{◌≡◌, ℕ, ◌+◌, ◌-◌, ◌*◌, ◌/◌, ◌%◌, ◌^◌, ◌<◌, ◌≤◌, List, [], ◌∷◌, ◌++◌, length, get_or, set}
use Rattle.std.proofs.Common.{take, drop, replicate, refl, ap, sym, ◌∙◌, zero, suc, add-one, lit≤, length-append}
use Rattle.std.proofs.Common.{append_assoc, arith}
use Rattle.std.specs.Prelude.{bit_xor}
use Rattle.std.proofs.Math.ListN.{length-replicate, replicate-append-replicate}
use Rattle.std.proofs.Math.Nat.{div-eq_of_lt, mod-eq_of_lt, div-one, lt-mul-div-succ, mul-le-mul_left, mul-le-mul_right}
use Rattle.std.proofs.Math.Nat.{mul-div-le}
use Rattle.std.proofs.lemmas.List.{take_at, drop_at, set-append_right, take-take, take_more_set}
use Rattle.std.proofs.lemmas.Slice.{take-put_mid}
use borrow.Rule.Slice.PartMut.{put_mid}
use Rattle.digests.specs.declared.algorithm.Alg.{Alg}
use Rattle.digests.specs.declared.algorithm.Alg.TheVariants.{Sha1, Sha224, Sha256, Sha384, Sha512, Sha512_224}
use Rattle.digests.specs.declared.algorithm.Alg.TheVariants.{Sha512_256}
use Rattle.digests.specs.Algorithms.{length_of}
use Rattle.big_numbers.specs.Numbers.{i2osp}
use Rattle.rsa_signatures.specs.Pss.{mgf1, mgf1_blocks, xor_octets}

pub least : (alg : Alg) → 20 ≤ length_of alg
least Sha1 = lit≤ tt
least Sha224 = lit≤ tt
least Sha256 = lit≤ tt
least Sha384 = lit≤ tt
least Sha512 = lit≤ tt
least Sha512_224 = lit≤ tt
least Sha512_256 = lit≤ tt

pub most : (alg : Alg) → length_of alg ≤ 64
most Sha1 = lit≤ tt
most Sha224 = lit≤ tt
most Sha256 = lit≤ tt
most Sha384 = lit≤ tt
most Sha512 = lit≤ tt
most Sha512_224 = lit≤ tt
most Sha512_256 = lit≤ tt

-- a counter in four octets
pub counter_octets : (n : ℕ) → n < 256 → i2osp n 4 ≡ 0 ∷ 0 ∷ 0 ∷ n ∷ []
counter_octets n h =
    let a : n / 16777216 ≡ 0 = div-eq_of_lt (omega arith) in
    let b : n % 16777216 ≡ n = mod-eq_of_lt (omega arith) in
    let d : n / 65536 ≡ 0 = div-eq_of_lt (omega arith) in
    let e : n % 65536 ≡ n = mod-eq_of_lt (omega arith) in
    let f : n / 256 ≡ 0 = div-eq_of_lt (omega arith) in
    let g : n % 256 ≡ n = mod-eq_of_lt h in
    simp (a, b, d, e, f, g, div-one)

-- the seed with the counter after it
pub seed_and_counter : (seed room : List ℕ) (end n : ℕ) → length seed ≡ end → end ≤ 64 → room ≡ replicate 68 0
    → take (end + 4) (set (put_mid 0 end room seed) (end + 3) n) ≡ seed ++ 0 ∷ 0 ∷ 0 ∷ n ∷ []
seed_and_counter seed room end n l h e =
    let r : ℕ = 64 - end in
    let zeros : List ℕ = replicate (suc (suc (suc (suc r)))) 0 in
    let whole : replicate 68 0 ≡ replicate end 0 ++ zeros =
    ap (λ k. replicate k 0) (let q : 68 ≡ end + suc (suc (suc (suc r))) = omega arith in q)
    ∙ sym (replicate-append-replicate end (suc (suc (suc (suc r)))) 0) in
    let past : drop end room ≡ zeros = ap (λ z. drop end z) (e ∙ whole)
    ∙ drop_at (replicate end 0) zeros end (length-replicate {A = ℕ} end 0) in
    ap (λ z. take (end + 4) (set (seed ++ z) (end + 3) n)) past
    ∙ ap (λ z. take (end + 4) z) (set-append_right seed zeros end (end + 3) n l (omega arith))
    ∙ ap (λ k. take (end + 4) (seed ++ set zeros k n)) (let q : end + 3 - end ≡ 3 = omega arith in q)
    ∙ ap (λ z. take (end + 4) z) (sym (append_assoc seed (0 ∷ 0 ∷ 0 ∷ n ∷ []) (replicate r 0)))
    ∙ take_at (seed ++ 0 ∷ 0 ∷ 0 ∷ n ∷ []) (replicate r 0) (end + 4)
    (length-append seed (0 ∷ 0 ∷ 0 ∷ n ∷ []) ∙ ap (λ z. z + 4) l)

pub mask_goes_on : (alg : Alg) (seed room block : List ℕ) (size counter k : ℕ) → length block ≡ size
    → size * counter ≤ length room
    → take (size * counter) room ≡ mgf1_blocks alg seed counter
    → take (size * (counter + 1)) (put_mid (size * counter) k room block) ≡ mgf1_blocks alg seed counter ++ block
mask_goes_on alg seed room block size counter k l h e =
    take-put_mid (size * counter) k room block (size * (counter + 1)) (omega arith) h ∙ ap (λ z. z ++ block) e

enough : (count size n : ℕ) → 20 ≤ size → (count + size - 1) / size ≡ n → count ≤ size * n
enough count size n h e =
    let below : count + size - 1 < size * ((count + size - 1) / size + 1) =
    lt-mul-div-succ (count + size - 1) (omega arith) in
    let m : size * ((count + size - 1) / size) ≡ size * n = ap (λ z. size * z) e in
    omega arith

pub mask_ends : (alg : Alg) (seed room : List ℕ) (count n : ℕ) → (count + length_of alg - 1) / length_of alg ≡ n
    → take (length_of alg * n) room ≡ mgf1_blocks alg seed n → take count room ≡ mgf1 alg seed count
mask_ends alg seed room count n e f =
    let some = least alg in
    let h : count ≤ length_of alg * n = enough count (length_of alg) n some e in
    sym (take-take count (length_of alg * n) room h) ∙ ap (λ z. take count z) f
    ∙ ap (λ i. take count (mgf1_blocks alg seed i)) (sym e)

xor_more : (i : ℕ) (xs ys : List ℕ) → i < length xs → i < length ys
    → xor_octets (take (suc i) xs) (take (suc i) ys)
    ≡ xor_octets (take i xs) (take i ys) ++ bit_xor (get_or xs i 0) (get_or ys i 0) ∷ []
xor_more zero (x ∷ xs) (y ∷ ys) h g = refl
xor_more (suc i) (x ∷ xs) (y ∷ ys) h g = ap (λ z. bit_xor x y ∷ z) (xor_more i xs ys (omega arith) (omega arith))
xor_more i [] ys h g = absurd (omega arith)
xor_more i (x ∷ xs) [] h g = absurd (omega arith)

pub xor_goes_on : (octets old mask : List ℕ) (i : ℕ) → i < length old → length octets ≡ length old
    → length mask ≡ length old
    → take i octets ≡ xor_octets (take i old) (take i mask)
    → get_or octets i 0 ≡ get_or old i 0
    → take (i + 1) (set octets i (bit_xor (get_or octets i 0) (get_or mask i 0)))
    ≡ xor_octets (take (i + 1) old) (take (i + 1) mask)
xor_goes_on octets old mask i h l m e f =
    take_more_set octets i (bit_xor (get_or octets i 0) (get_or mask i 0)) (omega arith)
    ∙ ap (λ z. z ++ bit_xor (get_or octets i 0) (get_or mask i 0) ∷ []) e
    ∙ ap (λ x. xor_octets (take i old) (take i mask) ++ bit_xor x (get_or mask i 0) ∷ []) f
    ∙ sym (xor_more i old mask h (omega arith))
    ∙ ap (λ k. xor_octets (take k old) (take k mask)) (sym (add-one i))

-- each block has room
pub room_for : (count size counter : ℕ) → 20 ≤ size → size ≤ 64 → count ≤ 1024 → counter < (count + size - 1) / size
    → size * counter + size ≤ 1088
room_for count size counter h g f e =
    let a : size * (counter + 1) ≤ size * ((count + size - 1) / size) =
    mul-le-mul_left size (let q : counter + 1 ≤ (count + size - 1) / size = omega arith in q) in
    let b : size * ((count + size - 1) / size) ≤ count + size - 1 = mul-div-le (count + size - 1) size in
    omega arith

pub counter_fits : (count size counter : ℕ) → 20 ≤ size → size ≤ 64 → count ≤ 1024 → counter < (count + size - 1) / size
    → counter < 2 ^ 8
counter_fits count size counter h g f e =
    let a = room_for count size counter h g f e in
    let b : 20 * counter ≤ size * counter = mul-le-mul_right counter h in
    omega arith
