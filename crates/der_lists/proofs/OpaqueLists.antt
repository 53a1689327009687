-- Lists of elements of any kind: in any order, in ascending order, with some identifiers.
use Rattle.std.proofs.Common.{◌≡◌, ℕ, zero, suc, ◌+◌, Bool, true, false, not, ◌&&◌, cond, eqb, List, [], ◌∷◌, ◌++◌}
use Rattle.std.proofs.Common.{length, Result, Ok, Err, refl, sym, ap}
use Rattle.std.proofs.Common.{subst, ◌∙◌, arith, inl, inr}
use Rattle.std.specs.List.{flat_map, AllByRecursion}
use Rattle.std.proofs.lemmas.Bool.{and_parts, not-true, not-false}
use Rattle.der_core.specs.declared.fault.Fault.{Fault}
use Rattle.der_core.specs.declared.fault.Kind.TheVariants.{Order, Tag}
use Rattle.der_core.specs.Element.{is_tag, el, IsElement, IsBytes}
use Rattle.der_core.specs.Form.{Form, Many, Ordered, full, opaque, part, opaques, takes, inside_of, behind, may_stand}
use Rattle.der_core.specs.Form.{passed_by, is_early, is_second, Element}
use Rattle.der_core.specs.Form.{whole, last_of}
use Rattle.der_core.specs.Encoding.{Encodes, anything, next}
use Rattle.der_core.specs.Faults.{Place, place, IsDue, passes, stays, FaultFrom}
use Rattle.der_core.specs.Lists.{some, is_less}
use Rattle.der_core.specs.Reading.{fault, Spot, spot, Taken, next_at, many_from, many_in}
use Rattle.der_core.specs.Results.{◌>>=◌}
use Rattle.der_core.specs.Standing.{IsTaken}
use Rattle.der_core.specs.Values.{IsOpaque}
use Rattle.der_core.proofs.ReadLengths.{chosen, ok_is}
use Rattle.der_core.proofs.Headers.{err_is, fact_is}
use Rattle.der_core.proofs.Elements.{next_takes, next_again, next_fault}
use Rattle.der_core.proofs.Results.{bind_ok, bind_err}
use Rattle.der_core.proofs.Lists.{bind_same}
use Rattle.der_core.proofs.Readers.{IsBody}
use Rattle.der_core.proofs.PartReaders.{alike_body}
use Rattle.der_lists.specs.Items.{Reading, all_in, IsList, opaque_item, opaque_front}
use Rattle.der_lists.specs.Checked.{Check, checked_from, checked_in, rank_at, tag_in, tag_at, ordered_in, tagged_in}
use Rattle.der_lists.specs.Ranks.{AscendsFrom, Ascending, is_tagged}
use Rattle.der_lists.proofs.Items.{ok_items}
use Rattle.der_lists.proofs.CheckedLists.{AllFrom, IsListed, checked_body}

abbrev Same : List ℕ → List ℕ
Same x = x

last_snoc : (es : List Element) (e : Element) → last_of (es ++ e ∷ []) ≡ whole e
last_snoc [] e = refl
last_snoc (d ∷ []) e = refl
last_snoc (d ∷ c ∷ es) e = last_snoc (c ∷ es) e

-- the last element that was passed
abbrev pub Last : List Element → List ℕ → Type 0
Last ps last = last_of ps ≡ last

pub last_is : (ps : List Element) (t : ℕ) (b : List ℕ) → Last (ps ++ (t, b) ∷ []) (el t b)
last_is ps t b = last_snoc ps (t, b)

-- a fault after an element that the first due part takes
pub stands_on : (due : Form) (s s' : Spot) (t : ℕ) (b : List ℕ) (ps : List Element) (f : Fault) → IsElement t b
    → s.rest ≡ el t b ++ s'.rest → s'.pos ≡ s.pos + length (el t b) → takes due t ≡ true
    → FaultFrom (place s'.pos s'.rest (behind due b) (passed_by due ps (t, b))) f
    → FaultFrom (place s.pos s.rest due ps) f
stands_on due s s' t b ps f element parts moved took h =
    let q = subst (λ (m : ℕ). FaultFrom (place m s'.rest (behind due b) (passed_by due ps (t, b))) f) moved h in
    subst (λ (xs : List ℕ). FaultFrom (place s.pos xs due ps) f) (sym parts)
    (q.0, passes t b s'.rest element took q.1, q.2)

-- an element of any kind is read
abbrev Fine : Type 1
Fine = List ℕ → List ℕ → Type 0

module _ (check : Check) (due : Form) (Good : List ℕ → List ℕ → Type 0) (step : List ℕ → List ℕ)
    (State : List Element → List ℕ → Type 0)
    (stay : (b : List ℕ) → behind due b ≡ due)
    (grows : (ps : List Element) (e : Element) → passed_by due ps e ≡ ps ++ e ∷ [])
    (inside : (t : ℕ) → inside_of due t ≡ opaque) (is_due : IsDue due)
    (second : (ps : List Element) (e : Element) → is_second due ps e ≡ false)
    (check_ok : (last w : List ℕ) (s : Spot) (y : Taken × Spot) → IsTaken s y.0 y.1 → next_at s ≡ Ok y
    → check last s ≡ Ok w
    → Good last (el y.0.tag y.0.body) × (w ≡ step (el y.0.tag y.0.body)))
    (check_again : (last : List ℕ) (t : ℕ) (b : List ℕ) (n : ℕ) (r : List ℕ) → IsElement t b → Good last (el t b)
    → check last (spot n (el t b ++ r)) ≡ Ok (step (el t b)))
    (check_err : (last : List ℕ) (s : Spot) (f : Fault) (ps : List Element) → State ps last → IsBytes s.rest
    → (s.rest ≡ [] → ⊥)
    → check last s ≡ Err f → FaultFrom (place s.pos s.rest due ps) f)
    (must : (s : Spot) (ps : List Element) (f : Fault) → IsBytes s.rest → (s.rest ≡ [] → ⊥) → next_at s ≡ Err f
    → FaultFrom (place s.pos s.rest due ps) f)
    (takes_it : (last : List ℕ) (t : ℕ) (b : List ℕ) → IsElement t b → Good last (el t b) → takes due t ≡ true)
    (not_early : (last : List ℕ) (ps : List Element) (t : ℕ) (b : List ℕ) → State ps last → Good last (el t b)
    → is_early due ps (t, b) ≡ false)
    (next_state : (ps : List Element) (t : ℕ) (b : List ℕ) → State (ps ++ (t, b) ∷ []) (step (el t b))) where
  abbrev GoodOpaque : List ℕ → List ℕ → Type 0
  GoodOpaque last x = IsOpaque x × Good last x

  read_ok : (s : Spot) (y : List ℕ × Spot) → IsBytes s.rest → opaque_item s ≡ Ok y
      → (x : Taken) × (next_at s ≡ Ok (x, y.1)) × IsTaken s x y.1 × (y.0 ≡ el x.tag x.body)
  unfolding opaque_item
  read_ok s y fits e =
      let b = bind_ok (next_at s) (λ x. Ok (x.0.whole, x.1)) y e in
      let k = next_takes s b.0 fits b.1 in
      let is : (b.0.0.whole, b.0.1) ≡ y = ok_is (b.0.0.whole, b.0.1) y b.2 in
      let here : b.0.1 ≡ y.1 = ap (λ (z : List ℕ × Spot). z.1) is in (
        b.0.0,
        subst (λ (u : Spot). next_at s ≡ Ok (b.0.0, u)) here b.1,
        subst (λ (u : Spot). IsTaken s b.0.0 u) here k,
        sym (ap (λ (z : List ℕ × Spot). z.0) is) ∙ k.whole,
      )

  read_err : (s : Spot) (f : Fault) → opaque_item s ≡ Err f → next_at s ≡ Err f
  unfolding opaque_item
  read_err s f e =
      elim (bind_err (next_at s) (λ x. Ok (x.0.whole, x.1)) f e) [ inl b ↦ b | inr b ↦ absurd (let z = b.2 in cc) ]

  read_again : (t : ℕ) (b : List ℕ) (n : ℕ) (r : List ℕ) → IsElement t b
      → opaque_item (spot n (el t b ++ r)) ≡ Ok (el t b, spot (n + length (el t b)) r)
  unfolding opaque_item
  read_again t b n r h = rw (next_again n t b r h) refl

  read_goes : (last w : List ℕ) (s : Spot) (y : List ℕ × Spot) (f : Fault) (ps : List Element) → IsBytes s.rest
      → check last s ≡ Ok w → opaque_item s ≡ Ok y
      → ((qs : List Element) → State qs w → FaultFrom (place y.1.pos y.1.rest due qs) f)
      → FaultFrom (place s.pos s.rest due ps) f
  read_goes last w s y f ps fits c e h =
      let k = read_ok s y fits e in
      let x = k.0 in
      let g = check_ok last w s (x, y.1) k.2 k.1 c in
      let b : FaultFrom (place y.1.pos y.1.rest due (ps ++ (x.tag, x.body) ∷ [])) f = h (ps ++ (x.tag, x.body) ∷ [])
      (subst (λ (v : List ℕ). State (ps ++ (x.tag, x.body) ∷ []) v) (sym g.1) (next_state ps x.tag x.body)) in
      stands_on due s y.1 x.tag x.body ps f k.2.element k.2.parts k.2.moved (takes_it last x.tag x.body k.2.element g.0)
      (subst (λ (d : Form). FaultFrom (place y.1.pos y.1.rest d (passed_by due ps (x.tag, x.body))) f)
      (sym (stay x.body))
      (subst (λ (qs : List Element). FaultFrom (place y.1.pos y.1.rest due qs) f) (sym (grows ps (x.tag, x.body))) b))

  read_encodes : (last x r : List ℕ) (ps : List Element) → State ps last → GoodOpaque last x
      → ((qs : List Element) → State qs (step x) → Encodes qs due r) → Encodes ps due (x ++ r)
  read_encodes last x r ps was good more =
      let t : ℕ = good.0.0 in
      let b : List ℕ = good.0.1 in
      let is : x ≡ el t b = good.0.3 in
      let g : Good last (el t b) = subst (Good last) is good.1 in
      let m : Encodes (ps ++ (t, b) ∷ []) due r = more (ps ++ (t, b) ∷ [])
      (subst (λ (v : List ℕ). State (ps ++ (t, b) ∷ []) (step v)) (sym is) (next_state ps t b)) in
      next t b r (ap (λ (v : List ℕ). v ++ r) is) good.0.2 (takes_it last t b good.0.2 g) (not_early last ps t b was g)
      (second ps (t, b))
      (subst (λ (d : Form). Encodes [] d b) (sym (inside t)) anything)
      (subst (λ (d : Form). Encodes (passed_by due ps (t, b)) d r) (sym (stay b))
      (subst (λ (qs : List Element). Encodes qs due r) (sym (grows ps (t, b))) m))

  pub opaque_listed : IsListed check opaque_item Same GoodOpaque step State due
  opaque_listed = record {
    takes = λ last w s y fits c e.
        let k = read_ok s y fits e in
        let g = check_ok last w s (k.0, y.1) k.2 k.1 c in (
          (
            subst (λ (v : List ℕ). IsOpaque v) (sym k.3) (k.0.tag, k.0.body, k.2.element, refl),
            subst (Good last) (sym k.3) g.0,
          ),
          record {
            parts = k.2.parts ∙ ap (λ (v : List ℕ). v ++ y.1.rest) (sym k.3);
            moved = k.2.moved ∙ ap (λ (v : List ℕ). s.pos + length v) (sym k.3);
          },
          g.1 ∙ ap step (sym k.3),
        );
    some = λ last x good. omega (arith, ap length good.0.3);
    checks = λ last x n r good. subst (λ (v : List ℕ). check last (spot n (v ++ r)) ≡ Ok (step v)) (sym good.0.3)
        (check_again last good.0.0 good.0.1 n r good.0.2 (subst (Good last) good.0.3 good.1));
    again = λ last x n r good.
        subst (λ (v : List ℕ). opaque_item (spot n (v ++ r)) ≡ Ok (v, spot (n + length v) r)) (sym good.0.3)
        (read_again good.0.0 good.0.1 n r good.0.2);
    refuses = check_err;
    faults = λ last w s f ps was fits some c e. must s ps f fits some (read_err s f e);
    goes = λ last w s y f ps was fits c e h. read_goes last w s y f ps fits c e h;
    encodes = λ last x r ps was good more. read_encodes last x r ps was good more;
  }

-- a fault of the element at the front, where elements are due that may be absent
pub due_fault : (due : Form) (s : Spot) (ps : List Element) (f : Fault) → IsDue due → IsBytes s.rest → (s.rest ≡ [] → ⊥)
    → next_at s ≡ Err f
    → FaultFrom (place s.pos s.rest due ps) f
due_fault due s ps f is_due fits some e = let p : Place = place s.pos s.rest due ps in
    (p, stays, next_fault s f p fits refl refl is_due (λ none. absurd (some none)) e)

-- ---- in any order

abbrev Free : Check
Free last s = Ok []

free_from : {A : Type 0} (read : Reading A) (k : ℕ) (last : List ℕ) (s : Spot)
    → checked_from Free read k last s ≡ many_from read k s
unfolding checked_from many_from
free_from read zero last s = refl
free_from read (suc k) last s =
    ap (λ (r : Result (List _) Fault). cond (eqb (length s.rest) 0) (Ok []) r)
    (bind_same (read s) _ _
    (λ x e. ap (λ (r : Result (List _) Fault). r >>= λ xs. Ok (x.0 ∷ xs)) (free_from read k [] x.1)))

free_in : {A : Type 0} (read : Reading A) (s : Spot) → checked_in Free read [] s ≡ many_in read s
unfolding checked_in many_in
free_in read s = free_from read (length s.rest) [] s

-- the same values by another reading that gives the same
pub same_body : {A : Type 0} (read read' : Spot → Result A Fault) (enc : A → List ℕ) (Good : A → Type 0) (form : Form)
    → ((s : Spot) → read s ≡ read' s) → IsBody read enc Good form → IsBody read' enc Good form
same_body read read' enc Good form same law = record {
  takes = λ s x fits e. law.takes s x fits (same s ∙ e);
  again = λ x n h. sym (same (spot n (enc x))) ∙ law.again x n h;
  faults = λ s f fits e. law.faults s f fits (same s ∙ e);
  encodes = law.encodes;
}

abbrev Always : List ℕ → List ℕ → Type 0
Always last x = Unit {0}

abbrev none : List ℕ → List ℕ
none x = []

abbrev Any : List Element → List ℕ → Type 0
Any ps last = Unit {0}

abbrev many : Form
many = opaques Many full

free_listed : IsListed Free opaque_item Same (λ last x. IsOpaque x × Unit {0}) none Any many
free_listed = opaque_listed Free many Always none Any (λ b. refl) (λ ps e. refl) (λ t. refl) tt (λ ps e. refl)
    (λ last w s y k e c. (tt, sym (ok_is [] w c))) (λ last t b n r h g. refl)
    (λ last s f ps was fits some e. absurd (let z = e in cc))
    (λ s ps f fits some e. due_fault many s ps f tt fits some e)
    (λ last t b h g. h.identifier) (λ last ps t b was g. refl) (λ ps t b. tt)

abbrev EachOpaque : List (List ℕ) → Type 0
EachOpaque xs = AllByRecursion IsOpaque xs

free_good : (last : List ℕ) (xs : List (List ℕ)) → AllFrom (λ last x. IsOpaque x × Unit {0}) none last xs
    → EachOpaque xs
free_good last [] h = tt
free_good last (x ∷ xs) h = (h.0.0, free_good [] xs h.1)

good_free : (last : List ℕ) (xs : List (List ℕ)) → EachOpaque xs
    → AllFrom (λ last x. IsOpaque x × Unit {0}) none last xs
good_free last [] h = tt
good_free last (x ∷ xs) h = ((h.0, tt), good_free [] xs h.1)

-- elements in any order
pub opaques_body : IsBody (many_in opaque_item) (flat_map Same) EachOpaque (opaques Many full)
opaques_body = alike_body (flat_map Same) (flat_map Same) (AllFrom (λ last x. IsOpaque x × Unit {0}) none []) EachOpaque
    (λ xs. refl) (free_good [])
    (good_free []) (many_in opaque_item) many
    (same_body (checked_in Free opaque_item []) (many_in opaque_item) (flat_map Same) _ many (free_in opaque_item)
    (checked_body Free opaque_item Same _ none Any many free_listed refl refl refl tt))

-- ---- in ascending order

abbrev Ranked : List ℕ → List ℕ → Type 0
Ranked last x = is_less x last ≡ false

abbrev in_order : Form
in_order = opaques Ordered full

abbrev Step : Type 0
Step = Result (List ℕ) Fault

abbrev ranked_ok : List ℕ → Step
ranked_ok w = Ok w

rank_takes : (last w : List ℕ) (s : Spot) (y : Taken × Spot) → IsTaken s y.0 y.1 → next_at s ≡ Ok y
    → rank_at opaque_front last s ≡ Ok w
    → Ranked last (el y.0.tag y.0.body) × (w ≡ el y.0.tag y.0.body)
unfolding rank_at opaque_front
rank_takes last w s y k e c =
    let here : rank_at opaque_front last s
    ≡ cond (is_less y.0.whole last) (Err (fault Order s.pos)) (ranked_ok y.0.whole) = rw e refl in
    let less : Step = Err (fault Order s.pos) in
    elim (chosen (is_less y.0.whole last) less (ranked_ok y.0.whole) (Ok w) (sym here ∙ c)) [
      | inl h ↦ absurd (let z = h.1 in cc)
      | inr h ↦ (subst (λ (v : List ℕ). is_less v last ≡ false) k.whole h.0, sym (ok_is y.0.whole w h.1) ∙ k.whole)
    ]

rank_again : (last : List ℕ) (t : ℕ) (b : List ℕ) (n : ℕ) (r : List ℕ) → IsElement t b → Ranked last (el t b)
    → rank_at opaque_front last (spot n (el t b ++ r)) ≡ Ok (el t b)
unfolding rank_at opaque_front
rank_again last t b n r h g = rw (next_again n t b r h, g) refl

rank_fault : (last : List ℕ) (s : Spot) (f : Fault) (ps : List Element) → Last ps last → IsBytes s.rest
    → (s.rest ≡ [] → ⊥)
    → rank_at opaque_front last s ≡ Err f → FaultFrom (place s.pos s.rest in_order ps) f
unfolding rank_at opaque_front
rank_fault last s f ps was fits some e = go (next_at s) refl
  where
    go : (r : Result (Taken × Spot) Fault) → next_at s ≡ r → FaultFrom (place s.pos s.rest in_order ps) f
    go (Err g) m =
        let is : g ≡ f = err_is _ _ (sym (let here : rank_at opaque_front last s ≡ Err g = rw m refl in here) ∙ e) in
        due_fault in_order s ps f tt fits some (subst (λ (h : Fault). next_at s ≡ Err h) is m)
    go (Ok y) m =
        let k = next_takes s y fits m in
        let here : rank_at opaque_front last s
        ≡ cond (is_less y.0.whole last) (Err (fault Order s.pos)) (ranked_ok y.0.whole) = rw m refl in
        let less : Step = Err (fault Order s.pos) in
        elim (chosen (is_less y.0.whole last) less (ranked_ok y.0.whole) (Err f) (sym here ∙ e)) [
          | inr h ↦ absurd (let z = h.1 in cc)
          | inl h ↦
              let p : Place = place s.pos s.rest in_order ps in
              let early : is_less (el y.0.tag y.0.body) (last_of ps) ≡ true =
              subst (λ (v : List ℕ). is_less (el y.0.tag y.0.body) v ≡ true) (sym was)
              (subst (λ (v : List ℕ). is_less v last ≡ true) k.whole h.0) in (
                p,
                stays,
                fact_is p (fault Order s.pos) f (err_is _ _ h.1)
                    (y.0.tag, y.0.body, (k.element, k.element.identifier, y.1.rest, k.parts), early, refl),
              )
        ]

ordered_listed :
    IsListed (rank_at opaque_front) opaque_item Same (λ last x. IsOpaque x × Ranked last x) Same Last in_order
ordered_listed = opaque_listed (rank_at opaque_front) in_order Ranked Same Last (λ b. refl) (λ ps e. refl)
    (λ t. refl) tt (λ ps e. refl)
    rank_takes rank_again rank_fault (λ s ps f fits some e. due_fault in_order s ps f tt fits some e)
    (λ last t b h g. h.identifier)
    (λ last ps t b was g. subst (λ (v : List ℕ). is_less (el t b) v ≡ false) (sym was) g) last_is

abbrev EachInOrder : List (List ℕ) → Type 0
EachInOrder xs = AllByRecursion IsOpaque xs × Ascending xs

ranked_good : (last : List ℕ) (xs : List (List ℕ)) → AllFrom (λ last x. IsOpaque x × Ranked last x) Same last xs
    → AllByRecursion IsOpaque xs × AscendsFrom last xs
ranked_good last [] h = (tt, tt)
ranked_good last (x ∷ xs) h = let m = ranked_good x xs h.1 in ((h.0.0, m.0), (h.0.1, m.1))

good_ranked : (last : List ℕ) (xs : List (List ℕ)) → AllByRecursion IsOpaque xs × AscendsFrom last xs
    → AllFrom (λ last x. IsOpaque x × Ranked last x) Same last xs
good_ranked last [] h = tt
good_ranked last (x ∷ xs) h = ((h.0.0, h.1.0), good_ranked x xs (h.0.1, h.1.1))

-- elements in ascending order
pub ordered_opaques_body :
    IsBody (ordered_in opaque_front opaque_item) (flat_map Same) EachInOrder (opaques Ordered full)
ordered_opaques_body =
    alike_body (flat_map Same) (flat_map Same) _ EachInOrder (λ xs. refl) (ranked_good []) (good_ranked [])
    (ordered_in opaque_front opaque_item) in_order
    (checked_body (rank_at opaque_front) opaque_item Same _ Same Last in_order ordered_listed refl refl refl refl)

-- ---- with some identifiers

module _ (tags : List ℕ) where
  abbrev OfTag : List ℕ → List ℕ → Type 0
  OfTag last x = is_tagged tags x ≡ true

  abbrev chosen_tags : Form
  chosen_tags = part Many tags (λ t. opaque) full

  abbrev Tags : Check
  Tags last s = tag_at tags s

  tag_takes : (last w : List ℕ) (s : Spot) (y : Taken × Spot) → IsTaken s y.0 y.1 → next_at s ≡ Ok y
      → tag_at tags s ≡ Ok w
      → OfTag last (el y.0.tag y.0.body) × (w ≡ [])
  unfolding tag_at
  tag_takes last w s y k e c =
      let t : ℕ = y.0.tag in
      let wrong : Step = Err (fault Tag s.pos) in
      let here : tag_in tags s s.rest ≡ cond (is_tag t && not (some (λ u. eqb u t) tags)) wrong (Ok []) =
      ap (tag_in tags s) k.parts in
      elim (chosen (is_tag t && not (some (λ u. eqb u t) tags)) wrong (Ok []) (Ok w) (sym here ∙ c)) [
        | inl h ↦ absurd (let z = h.1 in cc)
        | inr h ↦ (
          not-false (some (λ u. eqb u t) tags)
              (sym (ap (λ (v : Bool). v && not (some (λ u. eqb u t) tags)) k.element.identifier) ∙ h.0),
          sym (ok_is [] w h.1),
        )
      ]

  tag_again : (last : List ℕ) (t : ℕ) (b : List ℕ) (n : ℕ) (r : List ℕ) → IsElement t b → OfTag last (el t b)
      → tag_at tags (spot n (el t b ++ r)) ≡ Ok []
  unfolding tag_at
  tag_again last t b n r h g = let id : is_tag t ≡ true = h.identifier in rw (id, g) refl

  tag_fault_at : (s : Spot) (xs : List ℕ) (f : Fault) (ps : List Element) → s.rest ≡ xs → tag_in tags s xs ≡ Err f
      → FaultFrom (place s.pos s.rest chosen_tags ps) f
  tag_fault_at s [] f ps is e = absurd (let z = e in cc)
  tag_fault_at s (t ∷ xs) f ps is e =
      let p : Place = place s.pos s.rest chosen_tags ps in
      let wrong : Step = Err (fault Tag s.pos) in
      elim (chosen (is_tag t && not (some (λ u. eqb u t) tags)) wrong (Ok []) (Err f) e) [
        | inr h ↦ absurd (let z = h.1 in cc)
        | inl h ↦
            let q = and_parts (is_tag t) (not (some (λ u. eqb u t) tags)) h.0 in
            let none : may_stand chosen_tags t ≡ false = rw (not-true (some (λ u. eqb u t) tags) q.1) refl in
            (p, stays, fact_is p (fault Tag s.pos) f (err_is _ _ h.1) (t, xs, ((tt, is), q.0), none, refl))
      ]

  tags_listed : IsListed Tags opaque_item Same (λ last x. IsOpaque x × OfTag last x) none Any chosen_tags
  unfolding tag_at
  tags_listed = opaque_listed Tags chosen_tags OfTag none Any (λ b. refl) (λ ps e. refl) (λ t. refl) tt (λ ps e. refl)
      tag_takes tag_again (λ last s f ps was fits some e. tag_fault_at s s.rest f ps refl e)
      (λ s ps f fits some e. due_fault chosen_tags s ps f tt fits some e)
      (λ last t b h g. g) (λ last ps t b was g. refl) (λ ps t b. tt)

  abbrev pub EachTagged : List (List ℕ) → Type 0
  EachTagged xs = AllByRecursion (λ x. IsOpaque x × (is_tagged tags x ≡ true)) xs

  tagged_good : (last : List ℕ) (xs : List (List ℕ)) → AllFrom (λ last x. IsOpaque x × OfTag last x) none last xs
      → EachTagged xs
  tagged_good last [] h = tt
  tagged_good last (x ∷ xs) h = (h.0, tagged_good [] xs h.1)

  good_tagged : (last : List ℕ) (xs : List (List ℕ)) → EachTagged xs
      → AllFrom (λ last x. IsOpaque x × OfTag last x) none last xs
  good_tagged last [] h = tt
  good_tagged last (x ∷ xs) h = (h.0, good_tagged [] xs h.1)

  -- elements with these identifiers
  pub tagged_body : IsBody (tagged_in tags) (flat_map Same) EachTagged (part Many tags (λ t. opaque) full)
  tagged_body = alike_body (flat_map Same) (flat_map Same) _ EachTagged (λ xs. refl) (tagged_good []) (good_tagged [])
      (tagged_in tags) chosen_tags
      (checked_body Tags opaque_item Same _ none Any chosen_tags tags_listed refl refl refl tt)

-- the elements of a list are those of its octets
pub opaques_there : (s : Spot) → IsBytes s.rest → IsList opaque_item s
    → (s.rest ≡ flat_map Same (all_in opaque_item s)) × EachOpaque (all_in opaque_item s)
opaques_there s fits h =
    let t = opaques_body.takes s (all_in opaque_item s) fits (ok_items (many_in opaque_item s) h) in (t.1, t.0)
