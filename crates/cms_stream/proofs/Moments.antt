-- Calls one after another, by the moments between them: what the first ones did, the last one ends.
use Rattle.std.proofs.Common.{◌≡◌, ℕ, ◌<◌, ◌≤◌, ◌-◌, Bool, true, false, List, drop, Option, Some, None, Result, Ok}
use Rattle.std.proofs.Common.{Err, refl, sym, ap, subst, ◌∙◌, arith}
use Rattle.der_core.specs.declared.fault.Fault.{Fault}
use Rattle.der_core.specs.Reading.{Spot, spot, any_at}
use Rattle.der_core.specs.Results.{◌>>=◌}
use Rattle.cms_stream_laws.specs.OpenReading.{OpenSpot, OpenBody, OpenReader, enter_openly, within_openly, many_openly}
use Rattle.cms_stream_laws.specs.OpenReading.{kept}
use Rattle.cms_stream.specs.declared.stream_fault.StreamFault.{StreamFault}
use Rattle.cms_stream.specs.Passing.{Finds, Reads, body_to, past, peeked}
use Rattle.cms_stream.specs.Calls.{Moment, Passes, Looks, Enters, ReadsBody}
use Rattle.cms_stream.proofs.Listing.{Misses, After, Within, after_one, after_fault, after_all, limited, handed_over}
use Rattle.cms_stream.proofs.Listing.{moved_on}
use Rattle.cms_stream.proofs.Keeping.{kept_gives}
use Rattle.cms_stream.proofs.Standing.{peek, within_at, within_not}

-- a call answered, and this reading gives something of which P holds
abbrev pub Gave : {X Y : Type 0} → Result Y Fault → (Y → Type 0) → (Placed : Type 0) → Spot → Moment → X → Moment
    → Type 0
Gave {X} {Y} read P Placed place from x to =
    Passes ((to.failures ≡ from.failures) × (from.tells → (y : Y) × (read ≡ Ok y) × P y)) Placed place from (Ok x) to

-- ---- a call within another failed, which hands that on

module _ {Y W : Type 0} {read : Result Y Fault} {whole : Result W Fault} (a b d : Moment)
    (inner : Within b.tells a.tells b.failures a.failures read whole) where
  pub hands_on : {X Z : Type 0} {long long' : Type 0} {place : Spot} (p : X → Y → Type 0) (q : Z → W → Type 0)
      (e : StreamFault) → (a.tells → long → long') → (b.tells → d.tells)
      → Finds p long (Err e) b.tells b.failures d.failures read
      → Passes {X = Z} (Finds q long' (Err e) a.tells a.failures d.failures whole) (Unit {0}) place a (Err e) d
  hands_on p q e far telling h = record {
    exact = limited inner p q e d.failures far h;
    telling = λ t. telling (inner.tells t);
    at = tt;
    moved = λ t. tt;
  }

  -- one that may not refuse for lack of room
  pub hands_over : {X Z : Type 0} {place : Spot} (view : X → Y) (q : Z → W → Type 0) (e : StreamFault)
      → (b.tells → d.tells) → Reads view (Err e) b.tells b.failures d.failures read
      → Passes {X = Z} (Finds q ⊥ (Err e) a.tells a.failures d.failures whole) (Unit {0}) place a (Err e) d
  hands_over view q e telling h = record {
    exact = handed_over inner view q e d.failures h;
    telling = λ t. telling (inner.tells t);
    at = tt;
    moved = λ t. tt;
  }

-- ---- an element was entered

module _ {A : Type 0} (tag : ℕ) (openly : OpenBody A) (end inner : ℕ) (a b d : Moment)
    (enters : Enters (enter_openly tag) end a (Ok inner) b) where
  -- and its contents were read
  pub front_read : {X Z : Type 0} {x : X} {z : Z} {Q : A → Type 0} {P : A × OpenSpot → Type 0}
      → Gave (openly (body_to inner b.place)) Q (d.place.pos ≡ inner) (past inner b.place) b z d
      → ((y : A) → Q y → P (y, body_to end d.place))
      → Gave (within_openly tag openly (body_to end a.place)) P ((a.place.pos < d.place.pos) × (d.place.pos ≤ end))
      (past d.place.pos a.place) a x d
  front_read h into = record {
    exact = (
      h.exact.0 ∙ enters.exact.0,
      λ t. let u = enters.telling t in let y = h.exact.1 u in (
        (y.0, body_to end d.place),
        within_at tag openly end inner a.place b.place d.place y.0 (enters.exact.1 t) y.1 (h.moved u),
        into y.0 y.2,
      ),
    );
    telling = λ t. h.telling (enters.telling t);
    at = (omega (arith, h.at, enters.at.0, enters.at.1), omega (arith, h.at, enters.at.2));
    moved = λ t. moved_on a.place b.place d.place b.place.pos inner (enters.moved t) (h.moved (enters.telling t))
        (omega (arith, enters.at.0)) enters.at.1
        ∙ ap (λ (n : ℕ). past n a.place) (sym h.at);
  }

  -- or its contents were not read
  pub front_not : {X Z : Type 0} {long long' : Type 0} (p : X → A → Type 0) (q : Z → A × OpenSpot → Type 0)
      (e : StreamFault) → (a.tells → long → long') → (b.tells → d.tells)
      → Finds p long (Err e) b.tells b.failures d.failures (openly (body_to inner b.place))
      → Passes {X = Z} (Finds q long' (Err e) a.tells a.failures d.failures
      (within_openly tag openly (body_to end a.place)))
      (Unit {0}) (past d.place.pos a.place) a (Err e) d
  front_not p q e far telling h =
      hands_on a b d
      (record {
        tells = enters.telling;
        same = enters.exact.0;
        faults = λ f t g. within_not tag openly (body_to end a.place) (body_to inner b.place)
            (body_to end (past inner b.place)) f (enters.exact.1 t) g;
      })
      p q e far telling h

-- the same, where its contents were kept, and then read as a slice
module _ {A : Type 0} (tag : ℕ) (read : Spot → Result A Fault) (end inner : ℕ) (a b d : Moment)
    (enters : Enters (enter_openly tag) end a (Ok inner) b) where
  pub kept_read : {X : Type 0} {x : X} {u : Unit {0}} {P : A × OpenSpot → Type 0} {octets : List ℕ}
      → ReadsBody (λ v. octets) (kept any_at) inner b (Ok u) d → (y : A) → read (spot b.place.pos octets) ≡ Ok y
      → P (y, body_to end d.place)
      → Gave (within_openly tag (kept read) (body_to end a.place)) P
      ((a.place.pos < d.place.pos) × (d.place.pos ≤ end)) (past d.place.pos a.place) a x d
  kept_read {X} {x} {u} {P} {octets} h y gives is =
      let all : Gave (kept read (body_to inner b.place)) (λ z. z ≡ y) (d.place.pos ≡ inner) (past inner b.place) b u d =
      record {
        exact = (h.exact.0, λ t. (y, kept_gives read (body_to inner b.place) octets y (h.exact.1 t) gives, refl));
        telling = h.telling;
        at = h.at;
        moved = h.moved;
      } in
      front_read tag (kept read) end inner a b d enters {x = x} {P = P} all
      (λ z e. subst (λ (v : A). P (v, body_to end d.place)) (sym e) is)

-- ---- it was looked whether an element is there, and it was entered

module _ {A : Type 0} (tag : ℕ) (openly : OpenBody A) (part : OpenReader (Option A))
    (stands : (w : OpenSpot) → peeked tag w ≡ Ok true
    → part w ≡ (within_openly tag openly w >>= λ x. Ok (Some x.0, x.1)))
    (end inner : ℕ) (a b d m : Moment) {there : Bool} (looks : Looks (peeked tag) end a (Ok there) m)
    (is : there ≡ true) (enters : Enters (enter_openly tag) end m (Ok inner) b) where
  pub optional_read : {X Z : Type 0} {x : X} {z : Z} {Q : A → Type 0} {P : Option A × OpenSpot → Type 0}
      → Gave (openly (body_to inner b.place)) Q (d.place.pos ≡ inner) (past inner b.place) b z d
      → ((y : A) → Q y → P (Some y, body_to end d.place))
      → Gave (part (body_to end a.place)) P ((a.place.pos ≤ d.place.pos) × (d.place.pos ≤ end))
      (past d.place.pos a.place) a x d
  optional_read {Q = Q} {P = P} h into =
      let f : Gave {X = Unit {0}} (within_openly tag openly (body_to end m.place)) (λ y. P (Some y.0, y.1))
      ((m.place.pos < d.place.pos) × (d.place.pos ≤ end)) (past d.place.pos m.place) m tt d =
      front_read tag openly end inner m b d enters h into in
      record {
        exact = (
          f.exact.0 ∙ looks.exact.0,
          λ t. let y = f.exact.1 (looks.telling t) in (
            (Some y.0.0, y.0.1),
            stands (body_to end a.place) (looks.exact.1 t ∙ ap peek is)
                ∙ ap (λ (s : Spot). within_openly tag openly (body_to end s) >>= λ x. Ok (Some x.0, x.1))
                (sym (looks.moved t))
                ∙ ap (λ (r : Result (A × OpenSpot) Fault). r >>= λ x. Ok (Some x.0, x.1)) y.1,
            y.2,
          ),
        );
        telling = λ t. f.telling (looks.telling t);
        at = (omega (arith, f.at.0, looks.at), f.at.1);
        moved = λ t. f.moved (looks.telling t) ∙ ap (past d.place.pos) (looks.moved t);
      }

-- or it is absent

past_here : (s : Spot) (n : ℕ) → n ≡ s.pos → past n s ≡ s
past_here s n e =
    let none : n - s.pos ≡ 0 = omega (arith, e) in
    ap (λ (k : ℕ). spot n (drop k s.rest)) none ∙ ap (λ (k : ℕ). spot k s.rest) e

abbrev absent_at : {A : Type 0} → ℕ → Spot → Result (Option A × OpenSpot) Fault
absent_at end s = Ok (None, body_to end s)

module _ {A : Type 0} (tag : ℕ) (part : OpenReader (Option A))
    (absent : (w : OpenSpot) → peeked tag w ≡ Ok false → part w ≡ Ok (None, w)) (end : ℕ) (a m : Moment) {there : Bool}
    (looks : Looks (peeked tag) end a (Ok there) m) (is : there ≡ false) where
  pub optional_absent : {X : Type 0} {x : X} {P : Option A × OpenSpot → Type 0} → a.place.pos ≤ end
      → P (None, body_to end m.place)
      → Gave (part (body_to end a.place)) P ((a.place.pos ≤ m.place.pos) × (m.place.pos ≤ end))
      (past m.place.pos a.place) a x m
  optional_absent inside holds = record {
    exact = (
      looks.exact.0,
      λ t. (
        (None, body_to end m.place),
        absent (body_to end a.place) (looks.exact.1 t ∙ ap peek is) ∙ ap (absent_at end) (sym (looks.moved t)),
        holds,
      ),
    );
    telling = looks.telling;
    at = (omega (arith, looks.at), omega (arith, looks.at, inside));
    moved = λ t. looks.moved t ∙ sym (past_here a.place m.place.pos looks.at);
  }

-- ---- a loop over elements to the end of their body

-- of the elements of a body that ends there, those between two moments were passed
pub record Passed {A : Type 0} (item : OpenReader A) (end : ℕ) (a b : Moment) : Type 0 where
  pub inside : b.place.pos ≤ end
  pub onward : a.place.pos ≤ b.place.pos
  pub failures : b.failures ≡ a.failures
  pub telling : a.tells → b.tells
  pub moved : a.tells → b.place ≡ past b.place.pos a.place
  pub left : (k : ℕ) × (end - b.place.pos ≤ k)
      × (a.tells → After item (many_openly item (body_to end a.place)) k (body_to end b.place))

module _ {A : Type 0} (item : OpenReader A) (misses : Misses item) (end : ℕ) (a b : Moment)
    (h : Passed item end a b) where
  pub one_passed : {X : Type 0} {x : X} {d : Moment} → b.place.pos < end
      → Gave (item (body_to end b.place)) (λ y. y.1 ≡ body_to end d.place)
      ((b.place.pos < d.place.pos) × (d.place.pos ≤ end)) (past d.place.pos b.place) b x d
      → Passed item end a d
  one_passed {X} {x} {d} some e = record {
    inside = e.at.1;
    onward = omega (arith, h.onward, e.at.0);
    failures = e.exact.0 ∙ h.failures;
    telling = λ t. e.telling (h.telling t);
    moved = λ t. moved_on a.place b.place d.place b.place.pos d.place.pos (h.moved t) (e.moved (h.telling t)) h.onward
        (omega (arith, e.at.0));
    left = (
      h.left.0 - 1,
      omega (arith, h.left.1, e.at.0),
      λ t. let y = e.exact.1 (h.telling t) in
          after_one item misses _ h.left.0 (body_to end b.place) (body_to end d.place) y.0 (omega (arith, some))
          h.left.1 y.1 y.2 (h.left.2 t),
    );
  }

  pub passed_not : {d : Moment} (e : StreamFault) → b.place.pos < end → (b.tells → d.tells)
      → Finds {X = Unit {0}} (λ x y. y.1 ≡ body_to end d.place) ⊥ (Err e) b.tells b.failures d.failures
      (item (body_to end b.place))
      → Passes {X = Unit {0}} (Finds {X = Unit {0}} (λ x ys. Unit {0}) ⊥ (Err e) a.tells a.failures d.failures
      (many_openly item (body_to end a.place))) (Unit {0}) (past end a.place) a (Err e) d
  passed_not {d} e some telling failed =
      hands_on a b d
      (record {
        tells = h.telling;
        same = h.failures;
        faults = λ f t p. after_fault item misses _ h.left.0 (body_to end b.place) f (omega (arith, some)) h.left.1 p
            (h.left.2 t);
      })
      {X = Unit {0}} {Z = Unit {0}} (λ x y. y.1 ≡ body_to end d.place) (λ x ys. Unit {0}) e (λ t l. l) telling failed

  pub all_passed : {X : Type 0} {x : X} → end ≤ b.place.pos
      → Gave (many_openly item (body_to end a.place)) (λ ys. Unit {0}) (b.place.pos ≡ end) (past end a.place) a x b
  all_passed none =
      let at : b.place.pos ≡ end = omega (arith, h.inside, none) in
      record {
        exact = (
          h.failures,
          λ t. let r = after_all item misses _ h.left.0 (body_to end b.place) (omega (arith, none)) (h.left.2 t) in
              (r.0, r.1, tt),
        );
        telling = h.telling;
        at = at;
        moved = λ t. h.moved t ∙ ap (λ (n : ℕ). past n a.place) at;
      }
