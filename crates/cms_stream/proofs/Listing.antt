-- One turn of a loop that reads elements to the end of their body.
use Rattle.std.proofs.Common.{◌≡◌, ℕ, zero, suc, ◌+◌, ◌-◌, ◌<◌, ◌≤◌, Bool, true, false, cond, eqb, List, [], ◌∷◌}
use Rattle.std.proofs.Common.{length, take, drop, Result, Ok, Err, refl}
use Rattle.std.proofs.Common.{sym, ap, ◌∙◌, arith}
use Rattle.std.proofs.lemmas.Bool.{ne_eqb, eqb-true, lt-ltb}
use Rattle.std.proofs.lemmas.List.{nil_from_length, drop-drop}
use Rattle.der_core.specs.declared.fault.Fault.{Fault}
use Rattle.der_core.specs.Reading.{Spot, spot}
use Rattle.der_core.specs.Results.{◌>>=◌}
use Rattle.devices.specs.Device.{raised}
use Rattle.cms_stream.specs.declared.stream_fault.StreamFault.{StreamFault}
use Rattle.cms_stream.specs.declared.stream_fault.StreamFault.TheVariants.{Malformed, ReadFailed, TooLong}
use Rattle.cms_stream.specs.Passing.{past, Reads, Finds}
use Rattle.cms_stream_laws.specs.OpenReading.{OpenSpot, OpenBody, lost, OpenReader, enter_openly, within_openly}
use Rattle.cms_stream_laws.specs.OpenReading.{many_openly_from}

-- where none of the octets that are due are to come an item says so
abbrev pub Misses : {A : Type 0} → OpenReader A → Type 0
Misses item = (w : OpenSpot) → 0 < w.left → length w.rest ≡ 0 → item w ≡ Err lost

pub take_nothing : (n : ℕ) (xs : List ℕ) → xs ≡ [] → take n xs ≡ []
take_nothing zero xs e = refl
take_nothing (suc n) xs e = ap (take (suc n)) e

pub within_misses : {A : Type 0} (tag : ℕ) (openly : OpenBody A) → Misses (within_openly tag openly)
unfolding enter_openly
within_misses tag openly w some none =
    let gone : w.rest ≡ [] = nil_from_length w.rest none in
    let short : 0 < w.left = some in
    rw (take_nothing w.left w.rest gone, none, lt-ltb 0 w.left short) refl

module _ {A : Type 0} (item : OpenReader A) (misses : Misses item) where
  abbrev pub Listed : Type 0
  Listed = Result (List A) Fault

  abbrev pub onto : A → Listed → Listed
  onto x r = r >>= λ xs. Ok (x ∷ xs)

  abbrev failing : Fault → Result (A × OpenSpot) Fault
  failing f = Err f

  abbrev listing : Fault → Listed
  listing f = Err f

  carried : {f : Fault} → failing lost ≡ failing f → listing lost ≡ listing f
  carried {f} z = cc

  -- an item was read, and the others are read from there
  pub turned : (k : ℕ) (w : OpenSpot) (y : A × OpenSpot) → 0 < w.left → w.left ≤ k → item w ≡ Ok y
      → many_openly_from item k w ≡ onto y.0 (many_openly_from item (k - 1) y.1)
  unfolding many_openly_from
  turned zero w y some le e = absurd (omega (arith, some, le))
  turned (suc k) w y some le e =
      let j : suc k - 1 ≡ k = omega arith in
      rw (ne_eqb w.left 0 (λ z. omega (arith, z, some)), j) (by_rest (eqb (length w.rest) 0) refl)
    where
      by_rest : (b : Bool) → eqb (length w.rest) 0 ≡ b
          → cond {A = Listed} b (Err lost) (item w >>= λ x. many_openly_from item k x.1 >>= λ xs. Ok (x.0 ∷ xs))
          ≡ onto y.0 (many_openly_from item k y.1)
      by_rest true h = absurd (let z = sym (misses w some (eqb-true _ _ h)) ∙ e in cc)
      by_rest false h = rw e refl

  -- an item failed
  pub stopped : (k : ℕ) (w : OpenSpot) (f : Fault) → 0 < w.left → w.left ≤ k → item w ≡ Err f
      → many_openly_from item k w ≡ Err f
  unfolding many_openly_from
  stopped zero w f some le e = absurd (omega (arith, some, le))
  stopped (suc k) w f some le e =
      rw (ne_eqb w.left 0 (λ z. omega (arith, z, some))) (by_rest (eqb (length w.rest) 0) refl)
    where
      by_rest : (b : Bool) → eqb (length w.rest) 0 ≡ b
          → cond {A = Listed} b (Err lost) (item w >>= λ x. many_openly_from item k x.1 >>= λ xs. Ok (x.0 ∷ xs)) ≡ Err f
      by_rest true h = carried (sym (misses w some (eqb-true _ _ h)) ∙ e)
      by_rest false h = rw e refl

  -- the body ended
  pub finished : (k : ℕ) (w : OpenSpot) → w.left ≡ 0 → many_openly_from item k w ≡ Ok []
  unfolding many_openly_from
  finished zero w e = rw e refl
  finished (suc k) w e = rw e refl

-- what a list still owes, where its first items were read: the others decide it
pub record After {A : Type 0} (read : OpenReader A) (whole : Result (List A) Fault) (k : ℕ) (w : OpenSpot) :
    Type 0 where
  pub fails : (f : Fault) → many_openly_from read k w ≡ Err f → whole ≡ Err f
  pub gives : (xs : List A) → many_openly_from read k w ≡ Ok xs → (ys : List A) × (whole ≡ Ok ys)

module _ {A : Type 0} (item : OpenReader A) (misses : Misses item) where
  pub after_none : (k : ℕ) (w : OpenSpot) → After item (many_openly_from item k w) k w
  after_none k w = record { fails = λ f e. e; gives = λ xs e. (xs, e) }

  pub after_one : (whole : Result (List A) Fault) (k : ℕ) (w v : OpenSpot) (y : A × OpenSpot) → 0 < w.left → w.left ≤ k
      → item w ≡ Ok y → y.1 ≡ v
      → After item whole k w → After item whole (k - 1) v
  after_one whole k w v y some le e is h =
      let turn : many_openly_from item k w ≡ onto item misses y.0 (many_openly_from item (k - 1) v) =
      turned item misses k w y some le e
      ∙ ap (λ (u : OpenSpot). onto item misses y.0 (many_openly_from item (k - 1) u)) is in
      record {
        fails = λ f g. h.fails f (turn ∙ ap (onto item misses y.0) g);
        gives = λ xs g. h.gives (y.0 ∷ xs) (turn ∙ ap (onto item misses y.0) g);
      }

  pub after_fault : (whole : Result (List A) Fault) (k : ℕ) (w : OpenSpot) (f : Fault) → 0 < w.left → w.left ≤ k
      → item w ≡ Err f → After item whole k w
      → whole ≡ Err f
  after_fault whole k w f some le e h = h.fails f (stopped item misses k w f some le e)

  pub after_all : (whole : Result (List A) Fault) (k : ℕ) (w : OpenSpot) → w.left ≡ 0 → After item whole k w
      → (ys : List A) × (whole ≡ Ok ys)
  after_all whole k w none h = h.gives [] (finished item misses k w none)

-- a call is made within another: what is known before it, what the failures are counted from, and that its faults are
-- those of the whole
pub record Within {Y W : Type 0} (t u : Type 0) (b c : ℕ) (read : Result Y Fault) (whole : Result W Fault) :
    Type 0 where
  pub tells : u → t
  pub same : b ≡ c
  pub faults : (f : Fault) → u → read ≡ Err f → whole ≡ Err f

module _ {Y W : Type 0} {t u : Type 0} {b c : ℕ} {read : Result Y Fault} {whole : Result W Fault}
    (inner : Within t u b c read whole) where
  -- an error that such a call hands on
  pub handed_over : {X Z : Type 0} (view : X → Y) (q : Z → W → Type 0) (e : StreamFault) (a : ℕ)
      → Reads view (Err e) t b a read
      → Finds q ⊥ (Err e) u c a whole
  handed_over view q (Malformed f) a h = (h.0 ∙ inner.same, λ (x : u). inner.faults f x (h.1 (inner.tells x)))
  handed_over view q TooLong a h = absurd h
  handed_over view q ReadFailed a h = h ∙ ap raised inner.same

  -- the same of one that may say that there is no room
  pub limited : {X Z : Type 0} {long long' : Type 0} (p : X → Y → Type 0) (q : Z → W → Type 0) (e : StreamFault) (a : ℕ)
      → (u → long → long')
      → Finds p long (Err e) t b a read → Finds q long' (Err e) u c a whole
  limited p q (Malformed f) a far h = (h.0 ∙ inner.same, λ (x : u). inner.faults f x (h.1 (inner.tells x)))
  limited p q TooLong a far h = (h.0 ∙ inner.same, λ (x : u). far x (h.1 (inner.tells x)))
  limited p q ReadFailed a far h = h ∙ ap raised inner.same

pub past_past : (m n : ℕ) (s : Spot) → s.pos ≤ m → m ≤ n → past n (past m s) ≡ past n s
past_past m n s h g =
    let count : n - m + (m - s.pos) ≡ n - s.pos = omega (arith, h, g) in
    ap (spot n)
    (drop-drop (n - m) (m - s.pos) s.rest ∙ ap (λ (k : ℕ). drop k s.rest) (swap (m - s.pos) (n - m) ∙ count))
  where
    swap : (a b : ℕ) → a + b ≡ b + a
    swap a b = omega arith

-- one step after another
pub moved_on : (s u v : Spot) (m n : ℕ) → u ≡ past m s → v ≡ past n u → s.pos ≤ m → m ≤ n → v ≡ past n s
moved_on s u v m n e f h g = f ∙ ap (past n) e ∙ past_past m n s h g
