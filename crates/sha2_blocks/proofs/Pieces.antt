-- How the hash values and the octets after their blocks follow a message as it grows, whatever the length of a word.
use Rattle.std.proofs.Common.{◌≡◌, ℕ, zero, suc, ◌+◌, ◌-◌, ◌*◌, ◌/◌, ◌%◌, ◌<◌, ◌≤◌, List, [], ◌++◌, length, take, drop}
use Rattle.std.proofs.Common.{refl, sym, ap, ◌∙◌, append_assoc, arith, length-append, length-drop}
use Rattle.std.proofs.lemmas.List.{append-nil, drop_all, length-take-le, take_all, take-append-drop}
use Rattle.std.proofs.lemmas.Slice.{take-put_mid}
use Rattle.sha2_blocks.proofs.Octets.{joined}
use Rattle.sha2_blocks.proofs.Words.{Words, block_of, count_of, compress_of, after_of, padding_of, HashesOf, EachOf}
use Rattle.sha2_blocks.proofs.Words.{KeptOf, all_after, nothing_after, block_after, front_after, Absorbed}
use Rattle.sha2_blocks.proofs.Words.{nothing_absorbed, absorbed_short, absorbed_fill, absorbed_block, absorbed_tail}
use Rattle.sha2_blocks.proofs.Words.{blocks_are, blocks_end, blocks_more, blocks_below, count_in_block}
use Rattle.sha2_blocks.proofs.Words.{count_again, count_more, padded_alike, each_then, each_after, kept_after}
use Rattle.sha2_blocks.proofs.Words.{kept_then}
use borrow.Rule.Slice.PartMut.{post_of, put_mid}

module _ (w : Words) where
  abbrev block : ℕ
  block = block_of w

  abbrev count : ℕ
  count = count_of w

  abbrev after : List ℕ → List ℕ → ℕ → List ℕ
  after h x n = after_of w h x n

  -- how many octets came, as they are counted, and each hash value with the octets that it lacks
  abbrev pub Holds : (total : ℕ) (hs : HashesOf w) (rest m : List ℕ) → Type 0
  Holds total hs rest m = (total ≡ length m % count) × EachOf w hs (λ i h. Absorbed w i h rest m)

  abbrev pub padded : List ℕ → List ℕ
  padded m = m ++ padding_of w (length m)

  abbrev pub final : List ℕ → List ℕ → List ℕ
  final i m = after i (padded m) (length (padded m) / block)

  -- ---- whole blocks

  -- the next block of these octets
  pub next_block : (h d x : List ℕ) (n a : ℕ) → a ≡ block * n → x ≡ take (a + block - a) (drop a d)
      → compress_of w (after h d n) x ≡ after h d (n + 1)
  next_block h d x n a ea ex =
      let at : a ≡ n * block = omega (arith, ea) in
      let width : a + block - a ≡ block = omega arith in
      ap (compress_of w (after h d n)) (ex ∙ (λ i. take (width i) (drop (at i) d))) ∙ sym (block_after w h d n)

  -- it was taken
  pub block_taken : (h d hash now x : List ℕ) (n a : ℕ) → hash ≡ after h d n → now ≡ compress_of w hash x
      → a ≡ block * n → x ≡ take (a + block - a) (drop a d) → now ≡ after h d (n + 1)
  block_taken h d hash now x n a before is ea ex =
      is ∙ ap (λ (y : List ℕ). compress_of w y x) before ∙ next_block h d x n a ea ex

  one_block : (h x : List ℕ) → length x ≡ block → after h x (length x / block) ≡ compress_of w h x
  one_block h x e =
      let size : length x ≡ 1 * block = omega (arith, e) in
      let front : 0 * block ≡ 0 = omega arith in
      ap (λ (n : ℕ). after h x (n / block)) size ∙ ap (after h x) (blocks_are w 1) ∙ block_after w h x 0
      ∙ (λ i. compress_of w (nothing_after w h x i) (take block (drop (front i) x)))
      ∙ ap (compress_of w h) (take_all block x (omega (arith, e)))

  absorbed_upto : (i h b m x : List ℕ) (n : ℕ) → Absorbed w i h b m → length m % block ≡ 0 → n * block ≤ length x
      → Absorbed w i (after h x n) b (m ++ take (n * block) x)
  absorbed_upto i h b m x zero held edge fits =
      let front : 0 * block ≡ 0 = omega arith in
      rw (front, nothing_after w h x, append-nil m) held
  absorbed_upto i h b m x (suc n) held edge fits =
      let next : suc n * block ≡ n * block + block = omega arith in
      let one : suc n ≡ n + 1 = omega arith in
      rw (next, one, block_after w h x n) (absorbed_block w i (after h x n) b m x _ (n * block)
      (absorbed_upto i h b m x n held edge (omega (arith, next, fits))) (blocks_more w (length m) n edge)
      (omega (arith, next, fits)) refl)

  absorbed_blocks : (i h b m x : List ℕ) → Absorbed w i h b m → length m % block ≡ 0 → length x % block ≡ 0
      → Absorbed w i (after h x (length x / block)) b (m ++ x)
  absorbed_blocks i h b m x held edge whole =
      let all : length x / block * block ≡ length x = omega (arith, blocks_below w (length x), whole) in
      rw (all, take_all (length x) x (omega arith)) at
      (absorbed_upto i h b m x (length x / block) held edge (omega (arith, all)))

  -- ---- a piece of a message

  -- no block was begun
  pub none_begun : (i hash rest now m piece : List ℕ) (start : ℕ) → length m % block ≡ 0 → start ≡ 0
      → Absorbed w i hash rest m → Absorbed w i (after hash [] 0) now (m ++ take start piece)
  none_begun i hash rest now m piece start at es held =
      rw (nothing_after w hash [], es, append-nil m) (held.0, rw at (rw at at held.1))

  -- a block that a piece completes
  pub completed : (i hash rest now m piece ys : List ℕ) (used k start : ℕ) → length m % block ≡ used → 0 < used
      → used < block → start ≡ block - used → start ≤ length piece → length rest ≡ block → k ≡ start
      → ys ≡ take start piece → Absorbed w i hash rest m
      → Absorbed w i (after hash (take block (put_mid used k rest ys))
      (length (take block (put_mid used k rest ys)) / block)) now (m ++ take start piece)
  completed i hash rest now m piece ys used k start at some small er fits whole ek ey held =
      let size : length (take start piece) ≡ start = length-take-le start piece fits in
      let none : post_of used k rest ≡ [] =
      drop_all k (drop used rest) (omega (arith, length-drop used rest, whole, ek, er)) in
      let filled : put_mid used k rest ys ≡ take (length m % block) rest ++ take start piece =
      rw (none, append-nil, ey, at) refl in
      let front : length (take (length m % block) rest) ≡ used =
      length-take-le (length m % block) rest (omega (arith, at, small, whole)) ∙ at in
      let full : length (put_mid used k rest ys) ≡ block = omega (
        arith,
        ap length filled,
        length-append (take (length m % block) rest) (take start piece),
        size,
        front,
        er,
        small,
      ) in
      rw (take_all block (put_mid used k rest ys) (omega (arith, full)), one_block hash (put_mid used k rest ys) full)
      (absorbed_fill w i hash rest now m (take start piece) (put_mid used k rest ys) held
      (omega (arith, at, size, er, small)) filled)

  -- all of a piece: the block that it completed, if any, the whole blocks after it, and the octets after these
  pub all_taken : (hs mid now : HashesOf w) (begun rest left last m d ys : List ℕ) (start end k : ℕ) → start ≤ end
      → end ≤ length d → length d - end < block → (length m + start) % block ≡ 0 → (length m + end) % block ≡ 0
      → (end - start) % block ≡ 0
      → now ≡ all_after w (all_after w mid begun (length begun / block)) (take (end - start) (drop start d))
      (length (take (end - start) (drop start d)) / block)
      → mid ≡ hs → last ≡ ys ++ post_of 0 k left → ys ≡ drop end d
      → ((i h : List ℕ) → Absorbed w i h rest m
      → Absorbed w i (after h begun (length begun / block)) left (m ++ take start d))
      → EachOf w hs (λ i h. Absorbed w i h rest m) → EachOf w now (λ i h. Absorbed w i h last (m ++ d))
  all_taken hs mid now begun rest left last m d ys start end k order fits near first edge between is same el ey done
      held =
      let blocks : List ℕ = take (end - start) (drop start d) in
      let number : length blocks ≡ end - start =
      length-take-le (end - start) (drop start d) (omega (arith, length-drop start d, order, fits)) in
      let size : length (m ++ take start d) ≡ length m + start =
      length-append m (take start d)
      ∙ ap (λ (n : ℕ). length m + n) (length-take-le start d (omega (arith, order, fits))) in
      let whole : (m ++ take start d) ++ blocks ≡ m ++ take end d =
      append_assoc m (take start d) blocks ∙ ap (λ (x : List ℕ). m ++ x) (sym (joined d start end order)) in
      rw (is, same) (each_after w _ _ _ _ _ (each_after w hs begun _ _ _ held done)
      (λ i h absorbed. absorbed_tail w i last _ left m d ys end k
      (rw whole at (absorbed_blocks i h left (m ++ take start d) blocks absorbed
      (ap (λ (n : ℕ). n % block) size ∙ first) (ap (λ (n : ℕ). n % block) number ∙ between))) edge fits near el ey))

  pub kept_twice : (hs mid now : HashesOf w) (x y : List ℕ) (n k : ℕ)
      → now ≡ all_after w (all_after w mid x n) y k → mid ≡ hs → KeptOf w hs now
  kept_twice hs mid now x y n k is same =
      rw (is, same) (kept_then w _ _ _ (kept_after w hs x n) (kept_after w (all_after w hs x n) y k))

  -- a piece that leaves the block open
  pub shorter : (hs : HashesOf w) (total now : ℕ) (rest left m piece ys : List ℕ) (used k : ℕ) → Holds total hs rest m
      → length rest ≡ block → used ≡ total % block → used + length piece < block → ys ≡ piece
      → now ≡ (total + length piece) % count → left ≡ put_mid used k rest ys → Holds now hs left (m ++ piece)
  shorter hs total now rest left m piece ys used k held whole at near same sum put =
      let place : used ≡ length m % block = at ∙ count_in_block w total (length m) held.0 in
      let front : take (used + length piece) left ≡ take used rest ++ piece =
      rw (put, same) (take-put_mid used k rest piece (used + length piece) refl (omega (arith, whole, near))) in (
        sum ∙ count_more w total (length m) (length piece) held.0
            ∙ ap (λ (n : ℕ). n % count) (sym (length-append m piece)),
        each_then w hs _ _ held.1 (λ i h absorbed. absorbed_short w i h rest left m piece absorbed
            (omega (arith, place, near)) (rw (← place) front)),
      )

  -- a piece that ends a block
  pub longer : (hs new : HashesOf w) (total now : ℕ) (rest left m piece : List ℕ) (used : ℕ) → Holds total hs rest m
      → used ≡ total % block → now ≡ (total + length piece) % count
      → ((x : List ℕ) → length x % block ≡ used → EachOf w hs (λ i h. Absorbed w i h rest x)
      → EachOf w new (λ i h. Absorbed w i h left (x ++ piece)))
      → Holds now new left (m ++ piece)
  longer hs new total now rest left m piece used held at sum done = (
    sum ∙ count_more w total (length m) (length piece) held.0
        ∙ ap (λ (n : ℕ). n % count) (sym (length-append m piece)),
    done m (sym (at ∙ count_in_block w total (length m) held.0)) held.1,
  )

  -- ---- the end of a message

  blocks_front : (m : List ℕ) → length (take (length m / block * block) m) ≡ length m / block * block
  blocks_front m = length-take-le (length m / block * block) m (omega (arith, blocks_below w (length m)))

  front_edge : (n : ℕ) (x : List ℕ) → n % block ≡ 0 → n ≤ length x → length (take n x) % block ≡ 0
  front_edge n x edge fits = ap (λ (k : ℕ). k % block) (length-take-le n x fits) ∙ edge

  -- the padded message, cut anywhere before the padding
  message_end : (m rest last : List ℕ) (total end : ℕ) → rest ≡ drop end m → last ≡ rest ++ padding_of w total
      → total % count ≡ length m % count → take end m ++ last ≡ padded m
  message_end m rest last total end er el et =
      let same : padding_of w total ≡ padding_of w (length m) = padded_alike w total (length m) et in
      ap (λ (x : List ℕ). take end m ++ x) (el ∙ (λ i. er i ++ same i))
      ∙ sym (append_assoc (take end m) (drop end m) (padding_of w (length m)))
      ∙ ap (λ (x : List ℕ). x ++ padding_of w (length m)) (take-append-drop end m)

  -- the hash value of its whole blocks is that of a message that ends there
  front_absorbed : (i h b m : List ℕ) → Absorbed w i h b m → Absorbed w i h b (take (length m / block * block) m)
  front_absorbed i h b m held =
      let q : ℕ = length m / block in
      let f : List ℕ = take (q * block) m in
      let size : length f ≡ q * block = blocks_front m in
      let count-is : length f / block ≡ q = ap (λ (n : ℕ). n / block) size ∙ blocks_are w q in
      let none : length f % block ≡ 0 = ap (λ (n : ℕ). n % block) size ∙ blocks_end w q in
      let same : after i m q ≡ after i f q =
      rw (take-append-drop (q * block) m) at (front_after w i f (drop (q * block) m) q (omega (arith, size))) in
      (rw count-is (held.0 ∙ same), rw (none, count-is) (sym (drop_all (q * block) f (omega (arith, size)))))

  -- the hash value of a padded message, after the blocks that come last
  ended : (i hash b f last m : List ℕ) → Absorbed w i hash b f → length f % block ≡ 0 → length last % block ≡ 0
      → f ++ last ≡ padded m → after hash last (length last / block) ≡ final i m
  ended i hash b f last m held whole edge e = (rw e at (absorbed_blocks i hash b f last held whole edge)).0

  -- of each hash value of a hasher, where the padding comes after the octets that are left
  pub all_ended : (hs now : HashesOf w) (rest m room : List ℕ) (total n : ℕ) → Holds total hs rest m
      → now ≡ all_after w (all_after w hs (take n room) (length (take n room) / block)) [] 0 → n % block ≡ 0
      → n ≤ length room → take n room ≡ take (total % block) rest ++ padding_of w total
      → EachOf w now (λ i h. h ≡ final i m)
  all_ended hs now rest m room total n held is edge fits octets =
      rw is (each_after w _ [] 0 (λ i h. h ≡ final i m) _ (each_after w hs (take n room) _ _ _ held.1 one)
      (λ i h e. nothing_after w h [] ∙ e))
    where
      one : (i h : List ℕ) → Absorbed w i h rest m → after h (take n room) (length (take n room) / block) ≡ final i m
      one i h absorbed =
          let same : take (total % block) rest ≡ drop (length m / block * block) m =
          ap (λ (k : ℕ). take k rest) (count_in_block w total (length m) held.0) ∙ absorbed.1 in
          ended i h rest _ (take n room) m (front_absorbed i h rest m absorbed)
          (ap (λ (k : ℕ). k % block) (blocks_front m) ∙ blocks_end w (length m / block)) (front_edge n room edge fits)
          (message_end m _ (take n room) total _ same octets (count_again w total (length m) held.0))

  -- of one that is completely in memory
  pub hashed : (i hash now m rest room : List ℕ) (end n : ℕ) → end ≡ length m - length m % block
      → hash ≡ after i (take end m) (length (take end m) / block)
      → now ≡ after hash (take n room) (length (take n room) / block) → n % block ≡ 0 → n ≤ length room
      → rest ≡ drop end m → take n room ≡ rest ++ padding_of w (length m) → now ≡ final i m
  hashed i hash now m rest room end n at first second edge fits left octets =
      let blocks : end ≡ length m / block * block = omega (arith, at, blocks_below w (length m)) in
      let whole : end % block ≡ 0 = ap (λ (k : ℕ). k % block) blocks ∙ blocks_end w (length m / block) in
      let front : length (take end m) % block ≡ 0 = front_edge end m whole (omega (arith, at)) in
      let nothing : 0 * block ≡ 0 = omega arith in
      let none : 0 % block ≡ 0 = ap (λ (k : ℕ). k % block) (sym nothing) ∙ blocks_end w 0 in
      second ∙ ap (λ (h : List ℕ). after h (take n room) (length (take n room) / block)) first
      ∙ ended i _ [] (take end m) (take n room) m
      (absorbed_blocks i i [] [] (take end m) (nothing_absorbed w i) none front) front (front_edge n room edge fits)
      (message_end m rest (take n room) (length m) end left octets refl)
