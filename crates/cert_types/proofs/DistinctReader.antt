-- The extensions of a certificate are read exactly when they are there and none of those that may occur once occurs
-- twice.
use Rattle.std.proofs.Common.{◌≡◌, ℕ, zero, suc, ◌+◌, ◌-◌, ◌<◌, ◌≤◌, ◌^◌, Bool, true, false, not, ◌&&◌, ◌||◌, cond, eqb}
use Rattle.std.proofs.Common.{List, [], ◌∷◌, ◌++◌, length, Result}
use Rattle.std.proofs.Common.{Ok, Err, refl, sym, ap, subst, ◌∙◌, arith, inl, inr, ◌⊎◌, lit<}
use Rattle.std.specs.Prelude.{count_by, IsOk}
use Rattle.std.proofs.lemmas.Bool.{eqb-true, eqb-false, eq-eqb, ne_eqb, and_parts, not-true}
use Rattle.std.proofs.lemmas.List.{nil_from_length, length-append}
use Rattle.std.proofs.lemmas.List.Concat.{flat_map-cons}
use Rattle.std.proofs.lemmas.List.Sums.{sum_by-cons}
use Rattle.der_core.specs.declared.fault.Fault.{Fault}
use Rattle.der_core.specs.declared.fault.Kind.TheVariants.{Tag, Value}
use Rattle.der_core.specs.Element.{is_tag, el, IsElement, IsBytes}
use Rattle.der_core.specs.Lists.{some, is_same, is_front}
use Rattle.der_core.specs.Encoding.{Encodes, ended, next, absent}
use Rattle.der_core.specs.Form.{Distinct, full, Element, has_id, is_second, may_stand}
use Rattle.der_core.specs.Faults.{Place, place, stays, Fact, FaultFrom}
use Rattle.der_grammar.specs.Table.{id_subject_key_identifier, id_ext_key_usage, extension, certificate_extensions}
use Rattle.der_core.specs.Reading.{fault, Spot, spot, Taken, next_at, is_other, expect_at, enter_at, within}
use Rattle.der_core.specs.Results.{◌>>=◌}
use Rattle.der_core.specs.Standing.{Enters}
use Rattle.der_lists.specs.Items.{all_in, IsList}
use Rattle.der_core.proofs.Lengths.{el_same}
use Rattle.der_core.proofs.ReadLengths.{chosen, ok_is}
use Rattle.der_core.proofs.Headers.{fails, err_is, fact_is}
use Rattle.der_core.proofs.Elements.{next_fault}
use Rattle.der_core.proofs.Results.{bind_ok, bind_err}
use Rattle.der_core.proofs.Readers.{IsBody, swapped, enter_ok, within_ok, within_again, fault_inside, fault_behind}
use Rattle.cert_types.specs.ExtensionValue.{ExtensionValue, extension_parts, extensions_parts, GoodExtension}
use Rattle.cert_types.specs.ExtensionValue.{GoodExtensions}
use Rattle.cert_types.specs.ExtensionReading.{extension_in, extensions_in}
use Rattle.cert_types.specs.DistinctExtensions.{is_subject_key_identifier, is_ext_key_usage, GoodDistinct, is_again}
use Rattle.cert_types.specs.DistinctExtensions.{distinct_from, distinct_in}
use Rattle.cert_types.proofs.ExtensionReaders.{ExtensionParts, extension_body, extensions_body}
use Rattle.der_core.proofs.SameOctets.{same_again}

-- ---- what begins with an object identifier

front_of : (a r : List ℕ) → is_front a (a ++ r) ≡ true
front_of [] r = refl
front_of (x ∷ a) r = rw (eq-eqb x x refl) (front_of a r)

front_rest : (a b : List ℕ) → is_front a b ≡ true → (r : List ℕ) × (b ≡ a ++ r)
front_rest [] b h = (b, refl)
front_rest (x ∷ a) [] h = absurd cc
front_rest (x ∷ a) (y ∷ b) h =
    let p = and_parts (eqb x y) (is_front a b) h in
    let q = front_rest a b p.1 in
    (q.0, ap (λ (s : List ℕ). y ∷ s) q.1 ∙ ap (λ (n : ℕ). n ∷ (a ++ q.0)) (sym (eqb-true x y p.0)))

pub same_is : (a b : List ℕ) → is_same a b ≡ true → a ≡ b
same_is [] [] h = refl
same_is [] (y ∷ b) h = absurd cc
same_is (x ∷ a) [] h = absurd cc
same_is (x ∷ a) (y ∷ b) h = let p = and_parts (eqb x y) (is_same a b) h in ap (λ (n : ℕ). n ∷ a) (eqb-true x y p.0)
    ∙ ap (λ (s : List ℕ). y ∷ s) (same_is a b p.1)

cases : (a : Bool) → (a ≡ true) ⊎ (a ≡ false)
cases true = inl refl
cases false = inr refl

both_true : (a b : Bool) → (a ≡ true → b ≡ true) → (b ≡ true → a ≡ true) → a ≡ b
both_true true true f g = refl
both_true false false f g = refl
both_true true false f g = absurd (let z = f refl in cc)
both_true false true f g = absurd (let z = g refl in cc)

-- the contents of an extension begin with an object identifier exactly when it is the extension's
has_is : (id : List ℕ) (e : ExtensionValue) → IsElement 6 id → GoodExtension e
    → has_id id (48, extension_parts e) ≡ is_same e.id id
has_is id e is good = both_true (is_front (el 0x06 id) (extension_parts e)) (is_same e.id id) there back
  where
    mine : IsElement 6 e.id
    mine = record { identifier = refl; size = good.id.1 }

    there : is_front (el 0x06 id) (extension_parts e) ≡ true → is_same e.id id ≡ true
    there h = let q = front_rest (el 0x06 id) (extension_parts e) h in let s = el_same 6 e.id _ 6 id q.0 mine is q.1 in
        subst (λ (x : List ℕ). is_same e.id x ≡ true) s.body (same_again e.id)

    back : is_same e.id id ≡ true → is_front (el 0x06 id) (extension_parts e) ≡ true
    back h = subst (λ (x : List ℕ). is_front (el 0x06 x) (extension_parts e) ≡ true) (same_is e.id id h)
        (front_of (el 0x06 e.id) _)

identifier_element : IsElement 6 id_subject_key_identifier
identifier_element = record { identifier = refl; size = lit< tt }

usage_element : IsElement 6 id_ext_key_usage
usage_element = record { identifier = refl; size = lit< tt }

-- ---- what was seen, and the elements that were passed

record Seen (ps : List Element) (a b : Bool) : Type 0 where
  identifier : some (has_id id_subject_key_identifier) ps ≡ a
  usage : some (has_id id_ext_key_usage) ps ≡ b

some_more : (p : Element → Bool) (ps : List Element) (e : Element) → some p (ps ++ e ∷ []) ≡ (some p ps || p e)
some_more p [] e = or_false (p e)
  where
    or_false : (v : Bool) → (v || false) ≡ v
    or_false true = refl
    or_false false = refl
some_more p (x ∷ ps) e = rw (some_more p ps e) (or_assoc (p x) (some p ps) (p e))
  where
    or_assoc : (u v w : Bool) → (u || (v || w)) ≡ ((u || v) || w)
    or_assoc true v w = refl
    or_assoc false v w = refl

abbrev passed : List Element → ExtensionValue → List Element
passed ps e = ps ++ (48, extension_parts e) ∷ []

seen_more : (ps : List Element) (a b : Bool) (e : ExtensionValue) → Seen ps a b → GoodExtension e
    → Seen (passed ps e) (a || is_subject_key_identifier e) (b || is_ext_key_usage e)
seen_more ps a b e s good = record {
  identifier = some_more (has_id id_subject_key_identifier) ps (48, extension_parts e)
      ∙ rw (s.identifier, has_is id_subject_key_identifier e identifier_element good) refl;
  usage = some_more (has_id id_ext_key_usage) ps (48, extension_parts e)
      ∙ rw (s.usage, has_is id_ext_key_usage e usage_element good) refl;
}

second_is : (ps : List Element) (a b : Bool) (e : ExtensionValue) → Seen ps a b → GoodExtension e
    → is_second certificate_extensions ps (48, extension_parts e) ≡ is_again a b e
second_is ps a b e s good =
    rw (
      s.identifier,
      s.usage,
      has_is id_subject_key_identifier e identifier_element good,
      has_is id_ext_key_usage e usage_element good,
    )
    (swap (is_subject_key_identifier e) a (is_ext_key_usage e) b)
  where
    swap : (p u q v : Bool) → ((p && u) || ((q && v) || false)) ≡ ((u && p) || (v && q))
    swap true true q v = refl
    swap true false true true = refl
    swap true false true false = refl
    swap true false false true = refl
    swap true false false false = refl
    swap false true true true = refl
    swap false true true false = refl
    swap false true false true = refl
    swap false true false false = refl
    swap false false true true = refl
    swap false false true false = refl
    swap false false false true = refl
    swap false false false false = refl

-- ---- how many there are of a kind, and whether one was seen

more : (a q : Bool) (n m : ℕ) → m ≡ cond q 1 0 + n → (a && q) ≡ false → n + cond (a || q) 1 0 ≤ 1 → m + cond a 1 0 ≤ 1
more true true n m e h le = absurd cc
more true false n m e h le = omega (arith, e)
more false true n m e h le = omega (arith, e)
more false false n m e h le = omega (arith, e)

less : (a q : Bool) (n m : ℕ) → m ≡ cond q 1 0 + n → m + cond a 1 0 ≤ 1
    → ((a && q) ≡ false) × (n + cond (a || q) 1 0 ≤ 1)
less true true n m e le = absurd (omega (arith, e))
less true false n m e le = (refl, omega (arith, e))
less false true n m e le = (refl, omega (arith, e))
less false false n m e le = (refl, omega (arith, e))

count_cons : (p : ExtensionValue → Bool) (e : ExtensionValue) (es : List ExtensionValue)
    → count_by p (e ∷ es) ≡ cond (p e) 1 0 + count_by p es
count_cons p e es = sum_by-cons (λ x. cond (p x) 1 0) e es

-- these may follow, whether one of each kind was seen or not
record Follow (a b : Bool) (es : List ExtensionValue) : Type 0 where
  good : GoodExtensions es
  identifiers : count_by is_subject_key_identifier es + cond a 1 0 ≤ 1
  usages : count_by is_ext_key_usage es + cond b 1 0 ≤ 1

or_false : (a b : Bool) → (a || b) ≡ false → (a ≡ false) × (b ≡ false)
or_false true b e = absurd cc
or_false false b e = (refl, e)

follow_none : (a b : Bool) → Follow a b []
follow_none a b = record { good = tt; identifiers = at_most_one a; usages = at_most_one b }
  where
    at_most_one : (v : Bool) → 0 + cond v 1 0 ≤ 1
    at_most_one true = omega arith
    at_most_one false = omega arith

follow_cons : (a b : Bool) (e : ExtensionValue) (es : List ExtensionValue) → GoodExtension e
    → is_again a b e ≡ false → Follow (a || is_subject_key_identifier e) (b || is_ext_key_usage e) es
    → Follow a b (e ∷ es)
follow_cons a b e es good h f =
    let p = or_false (a && is_subject_key_identifier e) (b && is_ext_key_usage e) h in
    record {
      good = (good, f.good);
      identifiers = more a (is_subject_key_identifier e) (count_by is_subject_key_identifier es)
          (count_by is_subject_key_identifier (e ∷ es))
          (count_cons is_subject_key_identifier e es) p.0 f.identifiers;
      usages = more b (is_ext_key_usage e) (count_by is_ext_key_usage es) (count_by is_ext_key_usage (e ∷ es))
          (count_cons is_ext_key_usage e es) p.1 f.usages;
    }

follow_tail : (a b : Bool) (e : ExtensionValue) (es : List ExtensionValue) → Follow a b (e ∷ es)
    → (is_again a b e ≡ false) × Follow (a || is_subject_key_identifier e) (b || is_ext_key_usage e) es
follow_tail a b e es f =
    let p = less a (is_subject_key_identifier e) (count_by is_subject_key_identifier es)
    (count_by is_subject_key_identifier (e ∷ es))
    (count_cons is_subject_key_identifier e es) f.identifiers in
    let q = less b (is_ext_key_usage e) (count_by is_ext_key_usage es) (count_by is_ext_key_usage (e ∷ es))
    (count_cons is_ext_key_usage e es) f.usages in
    (rw (p.0, q.0) refl, record { good = f.good.1; identifiers = p.1; usages = q.1 })

-- ---- the reading

abbrev Read : Type 0
Read = Result (List ExtensionValue) Fault

abbrev read : List ExtensionValue → Read
read es = Ok es

abbrev rest_of : ℕ → Bool → Bool → ExtensionValue × Spot → Read
rest_of k a b x =
    distinct_from k (a || is_subject_key_identifier x.0) (b || is_ext_key_usage x.0) x.1 >>= λ es. Ok (x.0 ∷ es)

abbrev tested : ℕ → Bool → Bool → Spot → ExtensionValue × Spot → Read
tested k a b s x = cond (is_again a b x.0) (Err (fault Value s.pos)) (rest_of k a b x)

-- the extension that was here
pub record Stood (s : Spot) (x : ExtensionValue × Spot) : Type 0 where
  pub c : Spot
  pub entered : Enters 48 s c x.1
  pub good : GoodExtension x.0
  pub spelled : c.rest ≡ extension_parts x.0

pub stood : (s : Spot) (x : ExtensionValue × Spot) → IsBytes s.rest → within 0x30 extension_in s ≡ Ok x → Stood s x
stood s x fits e =
    let w = within_ok 48 refl extension_in extension_parts ExtensionParts extension extension_body s x fits e in
    record {
      c = w.0;
      entered = w.1;
      good =
          record { id = w.2.0; value = w.2.1.1; size = subst (λ (b : List ℕ). length b < 2 ^ 32) w.3 w.1.element.size };
      spelled = w.3;
    }

distinct_ok : (k : ℕ) (a b : Bool) (s : Spot) (es : List ExtensionValue) → IsBytes s.rest → length s.rest ≤ k
    → distinct_from k a b s ≡ Ok es
    → Follow a b es × (s.rest ≡ extensions_parts es)
unfolding distinct_from
distinct_ok zero a b s es fits le e =
    subst (λ (v : List ExtensionValue). Follow a b v × (s.rest ≡ extensions_parts v)) (ok_is [] es e)
    (follow_none a b, nil_from_length s.rest (omega arith))
distinct_ok (suc k) a b s es fits le e =
    elim (chosen (eqb (length s.rest) 0) (read []) (within 0x30 extension_in s >>= tested k a b s) (Ok es) e) [
      | inl h ↦ subst (λ (v : List ExtensionValue). Follow a b v × (s.rest ≡ extensions_parts v)) (ok_is [] es h.1)
          (follow_none a b, nil_from_length s.rest (eqb-true _ _ h.0))
      | inr h ↦
          let x = bind_ok (within 0x30 extension_in s) (tested k a b s) es h.1 in
          let w = stood s x.0 fits x.1 in
          elim (chosen (is_again a b x.0.0) (Err (fault Value s.pos)) (rest_of k a b x.0) (Ok es) x.2) [
            | inl g ↦ absurd (let z = g.1 in cc)
            | inr g ↦
                let r = bind_ok (distinct_from k (a || is_subject_key_identifier x.0.0)
                (b || is_ext_key_usage x.0.0) x.0.1) (λ ys. Ok (x.0.0 ∷ ys)) es g.1 in
                let parts : s.rest ≡ el 0x30 (extension_parts x.0.0) ++ x.0.1.rest =
                subst (λ (c : List ℕ). s.rest ≡ el 0x30 c ++ x.0.1.rest) w.spelled w.entered.parts in
                let shorter : length x.0.1.rest ≤ k =
                omega (arith, ap length parts, length-append (el 0x30 (extension_parts x.0.0)) x.0.1.rest) in
                let ih = distinct_ok k (a || is_subject_key_identifier x.0.0)
                (b || is_ext_key_usage x.0.0) x.0.1 r.0 w.entered.fits_rest shorter r.1 in
                let all : s.rest ≡ extensions_parts (x.0.0 ∷ r.0) = parts
                ∙ ap (λ (t : List ℕ). el 0x30 (extension_parts x.0.0) ++ t) ih.1
                ∙ sym (flat_map-cons (λ y. el 0x30 (extension_parts y)) x.0.0 r.0) in
                subst (λ (v : List ExtensionValue). Follow a b v × (s.rest ≡ extensions_parts v))
                (ok_is (x.0.0 ∷ r.0) es r.2)
                (follow_cons a b x.0.0 r.0 w.good g.0 ih.0, all)
          ]
    ]

distinct_again : (k : ℕ) (a b : Bool) (es : List ExtensionValue) (n : ℕ) → Follow a b es
    → length (extensions_parts es) ≤ k → distinct_from k a b (spot n (extensions_parts es)) ≡ Ok es
unfolding distinct_from
distinct_again zero a b [] n f le = refl
distinct_again (suc k) a b [] n f le = refl
distinct_again zero a b (e ∷ es) n f le =
    absurd (omega (arith, ap length (flat_map-cons (λ y. el 0x30 (extension_parts y)) e es)))
distinct_again (suc k) a b (e ∷ es) n f le =
    let t = follow_tail a b e es f in
    let is : extensions_parts (e ∷ es) ≡ el 0x30 (extension_parts e) ++ extensions_parts es =
    flat_map-cons (λ y. el 0x30 (extension_parts y)) e es in
    let size = length-append (el 0x30 (extension_parts e)) (extensions_parts es) in
    let some_left : eqb (length (el 0x30 (extension_parts e) ++ extensions_parts es)) 0 ≡ false =
    ne_eqb _ _ (λ z. omega (arith, z)) in
    let shorter : length (extensions_parts es) ≤ k = omega (arith, ap length is, size) in
    let here = within_again 48 refl extension_in extension_parts ExtensionParts extension extension_body e n
    (extensions_parts es)
    ((f.good.0.id, (tt, f.good.0.value)), f.good.0.size) in
    ap (λ (r : List ℕ). distinct_from (suc k) a b (spot n r)) is
    ∙ rw (
      some_left,
      here,
      t.0,
      distinct_again k (a || is_subject_key_identifier e) (b || is_ext_key_usage e) es
          (n + length (el 0x30 (extension_parts e))) t.1 shorter,
    ) refl

distinct_encodes : (ps : List Element) (a b : Bool) (es : List ExtensionValue) → Seen ps a b → Follow a b es
    → Encodes ps certificate_extensions (extensions_parts es)
distinct_encodes ps a b [] s f = absent refl (ended refl)
distinct_encodes ps a b (e ∷ es) s f =
    let t = follow_tail a b e es f in
    next 48 (extension_parts e) (extensions_parts es) (flat_map-cons (λ y. el 0x30 (extension_parts y)) e es)
    (record { identifier = refl; size = f.good.0.size }) refl refl
    (second_is ps a b e s f.good.0 ∙ t.0) (extension_body.encodes e (f.good.0.id, (tt, f.good.0.value)))
    (distinct_encodes (passed ps e) (a || is_subject_key_identifier e) (b || is_ext_key_usage e) es
    (seen_more ps a b e s f.good.0) t.1)

-- ---- the faults

abbrev Step : Type 0
Step = Result (Taken × Spot) Fault

abbrev at_list : Spot → List Element → Place
at_list s ps = place s.pos s.rest certificate_extensions ps

list_refuses : (n : ℕ) (xs : List ℕ) (ps : List Element) → is_other 0x30 xs ≡ true
    → Fact Tag (place n xs certificate_extensions ps) n
list_refuses n [] ps h = absurd cc
list_refuses n (t ∷ xs) ps h =
    let p = and_parts (is_tag t) (not (eqb t 48)) h in
    let none : may_stand certificate_extensions t ≡ false = rw (swapped 48 t (not-true (eqb t 48) p.1)) refl in
    (t, xs, ((tt, refl), p.0), none, refl)

enter_fault : (s : Spot) (f : Fault) → IsBytes s.rest → (s.rest ≡ [] → ⊥) → enter_at 0x30 s ≡ Err f
    → (ps : List Element) → FaultFrom (at_list s ps) f
unfolding enter_at expect_at
enter_fault s f fits go_on e ps =
    let p : Place = at_list s ps in
    let other : Step = Err (fault Tag s.pos) in
    elim (bind_err (expect_at 0x30 s) (λ x. Ok (spot (x.1.pos - length x.0.body) x.0.body, x.1)) f e) [
      | inr b ↦ absurd (let z = b.2 in cc)
      | inl b ↦ elim (chosen (is_other 0x30 s.rest) other (next_at s) (fails f) b) [
        | inl h ↦ (p, stays, fact_is p (fault Tag s.pos) f (err_is _ _ h.1) (list_refuses s.pos s.rest ps h.0))
        | inr h ↦ (p, stays, next_fault s f p fits refl refl tt (λ none. absurd (go_on none)) h.1)
      ]
    ]

abbrev ids : List (List ℕ)
ids = id_subject_key_identifier ∷ id_ext_key_usage ∷ []

-- the second of a kind is here
again_fault : (s : Spot) (x : ExtensionValue × Spot) (ps : List Element) (a b : Bool) → Stood s x → Seen ps a b
    → is_again a b x.0 ≡ true → Fact Value (at_list s ps) s.pos
again_fault s x ps a b w seen h =
    let is : IsElement 48 (extension_parts x.0) = subst (λ (c : List ℕ). IsElement 48 c) w.spelled w.entered.element in
    let parts : s.rest ≡ el 0x30 (extension_parts x.0) ++ x.1.rest =
    subst (λ (c : List ℕ). s.rest ≡ el 0x30 c ++ x.1.rest) w.spelled w.entered.parts in
    inr (
      48,
      extension_parts x.0,
      (is, refl, x.1.rest, parts),
      second_is ps a b x.0 seen w.good ∙ h,
      extension_body.encodes x.0 (w.good.id, (tt, w.good.value)),
      refl,
    )

distinct_fault : (k : ℕ) (a b : Bool) (s : Spot) (f : Fault) (ps : List Element) → Seen ps a b → IsBytes s.rest
    → distinct_from k a b s ≡ Err f
    → FaultFrom (at_list s ps) f
unfolding distinct_from
distinct_fault zero a b s f ps seen fits e = absurd (let z = e in cc)
distinct_fault (suc k) a b s f ps seen fits e =
    let p : Place = at_list s ps in
    elim (chosen (eqb (length s.rest) 0) (read []) (within 0x30 extension_in s >>= tested k a b s) (fails f) e) [
      | inl h ↦ absurd (let z = h.1 in cc)
      | inr h ↦ elim (bind_err (within 0x30 extension_in s) (tested k a b s) f h.1) [
        | inl m ↦ elim (bind_err (enter_at 0x30 s) (λ x. extension_in x.0 >>= λ v. Ok (v, x.1)) f m) [
          | inl c ↦ enter_fault s f fits (λ none. eqb-false _ _ h.0 (ap length none)) c ps
          | inr c ↦
              let w = enter_ok 48 s c.0 fits c.1 in
              elim (bind_err (extension_in c.0.0) (λ v. Ok (v, c.0.1)) f c.2) [
                | inl d ↦ fault_inside (Distinct ids) 48 s c.0.0 c.0.1 extension full ps f w
                    (extension_body.faults c.0.0 f w.fits d)
                | inr d ↦ absurd (let z = d.2 in cc)
              ]
        ]
        | inr m ↦
            let x = m.0 in
            let w = stood s x fits m.1 in
            elim (chosen (is_again a b x.0) (Err (fault Value s.pos)) (rest_of k a b x) (fails f) m.2) [
              | inl g ↦ (p, stays, fact_is p (fault Value s.pos) f (err_is _ _ g.1) (again_fault s x ps a b w seen g.0))
              | inr g ↦ elim (bind_err (distinct_from k (a || is_subject_key_identifier x.0)
                  (b || is_ext_key_usage x.0) x.1) (λ es. Ok (x.0 ∷ es)) f g.1) [
                    | inr d ↦ absurd (let z = d.2 in cc)
                    | inl d ↦
                        let ih = distinct_fault k (a || is_subject_key_identifier x.0) (b || is_ext_key_usage x.0) x.1 f
                        (passed ps x.0)
                        (seen_more ps a b x.0 seen w.good) w.entered.fits_rest d in
                        fault_behind (Distinct ids) 48 s w.c x.1 extension full ps f w.entered
                        (subst (λ (c : List ℕ). FaultFrom (at_list x.1 (ps ++ (48, c) ∷ [])) f) (sym w.spelled) ih)
                  ]
            ]
      ]
    ]

none_seen : Seen [] false false
none_seen = record { identifier = refl; usage = refl }

first : (es : List ExtensionValue) → GoodDistinct es → Follow false false es
first es h = record { good = h.good; identifiers = omega (arith, h.identifiers); usages = omega (arith, h.usages) }

-- a body of extensions, where none of those that may occur once occurs twice
pub distinct_body : IsBody distinct_in extensions_parts GoodDistinct certificate_extensions
distinct_body = record {
  takes = λ s es fits e. let t = distinct_ok (length s.rest) false false s es fits (omega arith) e in (
    record { good = t.0.good; identifiers = omega (arith, t.0.identifiers); usages = omega (arith, t.0.usages) },
    t.1,
  );
  again = λ es n h. distinct_again (length (extensions_parts es)) false false es n (first es h) (omega arith);
  faults = λ s f fits e. distinct_fault (length s.rest) false false s f [] none_seen fits e;
  encodes = λ es h. distinct_encodes [] false false es none_seen (first es h);
}

-- they are a list of extensions
pub distinct_listed : (s : Spot) (es : List ExtensionValue) → IsBytes s.rest → distinct_in s ≡ Ok es
    → extensions_in s ≡ Ok es
distinct_listed s es fits e =
    let t = distinct_body.takes s es fits e in ap (λ (b : List ℕ). extensions_in (spot s.pos b)) t.1
    ∙ extensions_body.again es s.pos t.0.good

-- extensions that were checked are a list
pub distinct_list : (s : Spot) → IsBytes s.rest → IsOk (distinct_in s)
    → IsList (within 0x30 extension_in) s × (distinct_in s ≡ Ok (all_in (within 0x30 extension_in) s))
distinct_list s fits h = go (distinct_in s) refl h
  where
    go : (r : Read) → distinct_in s ≡ r → IsOk r
        → IsList (within 0x30 extension_in) s × (distinct_in s ≡ Ok (all_in (within 0x30 extension_in) s))
    go (Err f) e k = absurd cc
    go (Ok es) e k = let listed = distinct_listed s es fits e in (rw listed refl, rw listed e)
