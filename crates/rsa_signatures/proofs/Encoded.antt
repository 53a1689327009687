-- What an encoded message is made of.
use Rattle.std.proofs.Common.{◌≡◌, ℕ, ◌+◌, ◌-◌, ◌<◌, ◌≤◌, List, [], ◌∷◌, ◌++◌, length, get_or, set, replicate, ap, sym}
use Rattle.std.proofs.Common.{◌∙◌, zero, suc, lit<, length-append, append_assoc, arith}
use Rattle.std.proofs.Math.ListN.{replicate-append-replicate, length-replicate, drop_of_length-le}
use Rattle.std.proofs.lemmas.List.{set_at, take_at, drop_at, append-nil}
use Rattle.std.proofs.Math.Nat.{le_of_eq}
use borrow.Rule.Slice.PartMut.{put_mid}
use Rattle.rsa_signatures.specs.Pkcs1.{emsa_pkcs1_v1_5}

front : ℕ → List ℕ
front p = 0 ∷ 1 ∷ (replicate p 255 ++ 0 ∷ [])

length-front : (p : ℕ) → length (front p) ≡ suc (suc (suc p))
unfolding front
length-front p = ap (λ z. suc (suc z))
    (length-append (replicate p 255) (0 ∷ []) ∙ ap (λ z. z + 1) (length-replicate p 255) ∙ omega arith)

put_three : (p i : ℕ)
    → set (set (set (replicate (suc (suc (p + suc i))) 255) 0 0) 1 1) (suc (suc p)) 0 ≡ front p ++ replicate i 255
unfolding front
put_three p i =
    ap (λ z. 0 ∷ 1 ∷ set z p 0) (sym (replicate-append-replicate p (suc i) 255))
    ∙ ap (λ z. 0 ∷ 1 ∷ z) (set_at (replicate p 255) 255 (replicate i 255) 0 p (length-replicate p 255)
    ∙ sym (append_assoc (replicate p 255) (0 ∷ []) (replicate i 255)))

put_info : (p i : ℕ) (info : List ℕ) → put_mid (suc (suc (suc p))) i (front p ++ replicate i 255) info ≡ front p ++ info
put_info p i info =
    let e = take_at (front p) (replicate i 255) (suc (suc (suc p))) (length-front p) in
    let f = drop_at (front p) (replicate i 255) (suc (suc (suc p))) (length-front p) in
    let g = drop_of_length-le {A = ℕ} (replicate i 255) (le_of_eq (length-replicate {A = ℕ} i 255)) in
    rw (e, f, g) (ap (λ z. front p ++ z) (append-nil info))

pub encoded : (p i end at k : ℕ) (filled told info : List ℕ) → filled ≡ replicate (suc (suc (p + suc i))) 255
    → end ≡ suc (suc (suc p)) → at ≡ suc (suc p) → k ≡ i → told ≡ info
    → put_mid end k (set (set (set filled 0 0) 1 1) at 0) told ≡ 0 ∷ 1 ∷ (replicate p 255 ++ 0 ∷ info)
unfolding front
encoded p i end at k filled told info f e a l t =
    rw (f, e, a, l, t) (ap (λ z. put_mid (suc (suc (suc p))) i z info) (put_three p i) ∙ put_info p i info
    ∙ ap (λ z. 0 ∷ 1 ∷ z) (append_assoc (replicate p 255) (0 ∷ []) info))

pub length-encoded : (t : List ℕ) (k : ℕ) → length t + 11 ≤ k → length (emsa_pkcs1_v1_5 t k) ≡ k
length-encoded t k h =
    ap (λ z. suc (suc z)) (length-append (replicate (k - length t - 3) 255) (0 ∷ t)
    ∙ ap (λ z. z + suc (length t)) (length-replicate (k - length t - 3) 255))
    ∙ omega arith

append_fits : (xs ys : List ℕ) (k : ℕ) → ((k : ℕ) → get_or xs k 0 < 256) → ((k : ℕ) → get_or ys k 0 < 256)
    → get_or (xs ++ ys) k 0 < 256
append_fits [] ys k f g = g k
append_fits (x ∷ xs) ys zero f g = f 0
append_fits (x ∷ xs) ys (suc k) f g = append_fits xs ys k (λ j. f (suc j)) g

replicate_fits : (n k : ℕ) → get_or (replicate n 255) k 0 < 256
replicate_fits zero k = lit< tt
replicate_fits (suc n) zero = lit< tt
replicate_fits (suc n) (suc k) = replicate_fits n k

cons_fits : (x : ℕ) (xs : List ℕ) (k : ℕ) → x < 256 → ((k : ℕ) → get_or xs k 0 < 256) → get_or (x ∷ xs) k 0 < 256
cons_fits x xs zero f g = f
cons_fits x xs (suc k) f g = g k

pub encoded_fits : (t : List ℕ) (em_len k : ℕ) → ((k : ℕ) → get_or t k 0 < 256)
    → get_or (emsa_pkcs1_v1_5 t em_len) k 0 < 256
encoded_fits t em_len k fits =
    cons_fits 0 (1 ∷ (replicate (em_len - length t - 3) 255 ++ 0 ∷ t)) k (lit< tt)
    (λ j. cons_fits 1 (replicate (em_len - length t - 3) 255 ++ 0 ∷ t) j (lit< tt) (λ i.
    append_fits (replicate (em_len - length t - 3) 255) (0 ∷ t) i (replicate_fits (em_len - length t - 3))
    (λ h. cons_fits 0 t h (lit< tt) fits)))
