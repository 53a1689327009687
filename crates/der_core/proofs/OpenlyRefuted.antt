-- An encoding has no fault at an open place either.
use Rattle.std.proofs.Common.{◌≡◌, ℕ, ◌+◌, List, [], ◌∷◌, ◌++◌, length, take, true, refl, sym, ap, subst, ◌∙◌}
use Rattle.std.proofs.Common.{append_assoc, append-nil, arith, inl, inr}
use Rattle.std.proofs.Common.{Option, Some, None}
use Rattle.std.proofs.lemmas.List.{length-append, take_at}
use Rattle.der_core.specs.declared.fault.Fault.{Fault}
use Rattle.der_core.specs.declared.fault.Kind.{Kind}
use Rattle.der_core.specs.Element.{len, el, IsElement}
use Rattle.der_core.specs.Form.{Form, opaque, contents, full, part, opaques, switch, filled, inside_of, behind, dropped}
use Rattle.der_core.specs.Form.{body_of, Element, passed_by}
use Rattle.der_core.specs.Encoding.{Encodes, IsEncoding}
use Rattle.der_core.specs.Faults.{place, Fact}
use Rattle.der_core.specs.OpenFaults.{OpenPlace, open_place, nearer, ReachesOpenly, stays, passes, enters, drops}
use Rattle.der_core.specs.OpenFaults.{Completes, OpenFactIn, FaultsOpenly}
use Rattle.der_core.specs.Clear.{clear}
use Rattle.der_core.proofs.Lengths.{heads, len_same}
use Rattle.der_core.proofs.Refuted.{starts_at, opened, left_out, entered, refuted, refuted_at, clear_after}
use Rattle.der_core.proofs.Refuted.{clear_behind, clear_inside, clear_body, size_of}

-- an encoding is here, up to the stated end
abbrev IsMet : Option ℕ → List ℕ → Type 0
IsMet None s = Unit {0}
IsMet (Some left) s = left ≡ length s

record HoldsOpenly (p : OpenPlace) : Type 0 where
  encoded : Encodes p.passed p.due p.rest
  clearly : clear p.due ≡ true
  is_met : IsMet p.left p.rest

met_behind : (left : Option ℕ) (a r : List ℕ) → IsMet left (a ++ r) → IsMet (nearer left (length a)) r
met_behind None a r m = tt
met_behind (Some left) a r m = omega (arith, m, length-append a r)

reached : (p q : OpenPlace) → ReachesOpenly p q → HoldsOpenly p → HoldsOpenly q
reached p q stays h = h
reached p q (passes {n} {left} {due} {ps} t b r is took m) h =
    let o = opened ps due (el t b ++ r) t b r h.encoded h.clearly took is refl in
    reached (open_place (n + length (el t b)) r (nearer left (length (el t b))) (behind due b)
    (passed_by due ps (t, b))) q m
    (record {
      encoded = o.behind_it;
      clearly = clear_behind due b h.clearly;
      is_met = met_behind left (el t b) r h.is_met;
    })
reached p q (enters {n} {left} {due} {ps} t l s id fits took within m) h =
    let k = starts_at due (t ∷ (len l ++ s)) t (len l ++ s) h.encoded h.clearly took refl in
    let e = heads t k.t (len l ++ s) ((len (length k.b) ++ k.b) ++ k.r) k.spelled in
    let z = len_same l (length k.b) s (k.b ++ k.r) (omega (arith, fits)) (size_of k.t k.b k.is)
    (e.1 ∙ append_assoc (len (length k.b)) k.b k.r) in
    let is : IsElement t k.b = subst (λ (u : ℕ). IsElement u k.b) (sym e.0) k.is in
    let spelled : t ∷ (len l ++ s) ≡ el t k.b ++ k.r =
    subst (λ (u : ℕ). t ∷ (len l ++ s) ≡ el u k.b ++ k.r) (sym e.0) k.spelled in
    let o = opened ps due (t ∷ (len l ++ s)) t k.b k.r h.encoded h.clearly took is spelled in
    let b-is : take l s ≡ k.b = ap (take l) z.1 ∙ take_at k.b k.r l (sym z.0) in
    reached (open_place (n + (1 + length (len l))) (take l s) (Some l) (body_of (inside_of due t)) []) q m
    (record {
      encoded = subst (λ (x : List ℕ). Encodes [] (body_of (inside_of due t)) x) (sym b-is)
          (entered (inside_of due t) k.b o.in_it);
      clearly = clear_body (inside_of due t) (clear_inside due t took h.clearly);
      is_met = z.0 ∙ ap length (sym b-is);
    })
reached p q (drops {n} {s} {left} {due} {ps} d out m) h =
    reached (open_place n s left (dropped due) []) q m
    (record { encoded = left_out due s h.encoded out d; clearly = clear_after due h.clearly; is_met = h.is_met })

met_whole : (left : Option ℕ) (s : List ℕ) → IsMet left s → Completes left s []
met_whole None s m = tt
met_whole (Some left) s m = omega (arith, m)

-- such a fact is one with nothing missing
closed : (f : Form) (k : Kind) (n m : ℕ) (s : List ℕ) (left : Option ℕ) (ps : List Element) → IsMet left s
    → OpenFactIn f k (open_place n s left f ps) m → Fact k (place n s f ps) m
closed (contents k' formed allowed) k n m s left ps is_met fact =
    subst (λ (x : List ℕ). Fact k (place n x (contents k' formed allowed) ps) m) (append-nil s)
    (fact [] (met_whole left s is_met))
closed opaque k n m s left ps is_met fact = fact
closed full k n m s left ps is_met fact = fact
closed (part count tags inside after) k n m s left ps is_met fact = fact
closed (opaques count after) k n m s left ps is_met fact = fact
closed (switch tag inside these same other) k n m s left ps is_met fact = fact
closed (filled f) k n m s left ps is_met fact = fact

pub openly_refuted : (form : Form) (bytes : List ℕ) (f : Fault) → clear form ≡ true → IsEncoding form bytes
    → FaultsOpenly form bytes f → ⊥
openly_refuted form bytes f ok e (inl h) = refuted form bytes f ok e h
openly_refuted form bytes f ok e (inr (q, m, fact)) =
    let h = reached (open_place 0 bytes None form []) q m (record { encoded = e; clearly = ok; is_met = tt }) in
    refuted_at f.kind (place q.at q.rest q.due q.passed) f.at (record { encoded = h.encoded; clearly = h.clearly })
    (closed q.due f.kind q.at f.at q.rest q.left q.passed h.is_met fact)
