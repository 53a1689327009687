-- A test that given steps lead to an open place of given octets, and what may be said there.
use Rattle.std.proofs.Common.{◌≡◌, ℕ, ◌+◌, ◌<◌, ◌^◌, List, [], ◌∷◌, ◌++◌, length, take, Bool, true, false, sym, subst}
use Rattle.std.proofs.Common.{append-nil, arith, inr, ◌&&◌, Option}
use Rattle.std.proofs.Common.{Some, None}
use Rattle.std.specs.Prelude.{nat_lt, nat_le}
use Rattle.std.proofs.lemmas.Bool.{ltb-true, leb-true}
use Rattle.der_core.specs.declared.fault.Fault.{Fault}
use Rattle.der_core.specs.declared.fault.Kind.{Kind}
use Rattle.der_core.specs.Element.{is_tag, len, el}
use Rattle.der_core.specs.Lists.{is_same}
use Rattle.der_core.specs.Form.{Form, opaque, contents, full, part, opaques, switch, filled, takes, inside_of, behind}
use Rattle.der_core.specs.Form.{may_drop, dropped, body_of, Element}
use Rattle.der_core.specs.Form.{passed_by}
use Rattle.der_core.specs.Faults.{place, Fact}
use Rattle.der_core.specs.OpenFaults.{OpenPlace, open_place, IsWithin, nearer, whole_length, ReachesOpenly, stays}
use Rattle.der_core.specs.OpenFaults.{passes, enters, drops, OpenFactIn}
use Rattle.der_core.specs.OpenFaults.{open_start, FaultsOpenly, States, StatesAt}
use Rattle.der_core.proofs.Refuted.{and_true}
use Rattle.der_core.proofs.Encoded.{same, header, stands, standing}
use Rattle.der_core.proofs.Found.{not_both, alike, is_not, not_here, tag, body, more, fact}

pub data Step : Type 0 where
  over : Step
  into : Step
  without : Step

-- where each step leads
abbrev pub over_it : OpenPlace → OpenPlace
over_it p = open_place (p.at + length (el (tag p.rest) (body p.rest))) (more p.rest)
    (nearer p.left (length (el (tag p.rest) (body p.rest))))
    (behind p.due (body p.rest)) (passed_by p.due p.passed (tag p.rest, body p.rest))

abbrev pub into_it : OpenPlace → OpenPlace
into_it p = let h = header p.rest in open_place (p.at + (1 + length (len h.size))) (take h.size h.beyond) (Some h.size)
    (body_of (inside_of p.due h.tag)) []

abbrev pub without_it : OpenPlace → OpenPlace
without_it p = open_place p.at p.rest p.left (dropped p.due) []

abbrev pub led : List Step → OpenPlace → OpenPlace
led [] p = p
led (over ∷ steps) p = led steps (over_it p)
led (into ∷ steps) p = led steps (into_it p)
led (without ∷ steps) p = led steps (without_it p)

-- whether each may be taken
abbrev is_within : ℕ → Option ℕ → Bool
is_within n None = true
is_within n (Some left) = nat_le n left

within_it : (n : ℕ) (left : Option ℕ) → is_within n left ≡ true → IsWithin n left
within_it n None e = tt
within_it n (Some left) e = leb-true n left e

abbrev pub is_header : List ℕ → Form → Bool
is_header s due = let h = header s in
    is_same s (h.tag ∷ (len h.size ++ h.beyond)) && (is_tag h.tag && (nat_lt h.size (2 ^ 32) && takes due h.tag))

abbrev pub may_go : List Step → OpenPlace → Bool
may_go [] p = true
may_go (over ∷ steps) p =
    (stands p.rest (tag p.rest) (body p.rest) (more p.rest) && takes p.due (tag p.rest)) && may_go steps (over_it p)
may_go (into ∷ steps) p = (is_header p.rest p.due && (let h = header p.rest in is_within (whole_length h.size) p.left))
    && may_go steps (into_it p)
may_go (without ∷ steps) p = (may_drop p.due && is_not p.due p.rest) && may_go steps (without_it p)

record Heads (s : List ℕ) (due : Form) (t l : ℕ) (r : List ℕ) : Type 0 where
  spelled : s ≡ t ∷ (len l ++ r)
  identifier : is_tag t ≡ true
  fits : l < 2 ^ 32
  took : takes due t ≡ true

headed : (s : List ℕ) (due : Form) (t l : ℕ) (r : List ℕ)
    → (is_same s (t ∷ (len l ++ r)) && (is_tag t && (nat_lt l (2 ^ 32) && takes due t))) ≡ true → Heads s due t l r
headed s due t l r e =
    let a = and_true (is_same s (t ∷ (len l ++ r))) (is_tag t && (nat_lt l (2 ^ 32) && takes due t)) e in
    let b = and_true (is_tag t) (nat_lt l (2 ^ 32) && takes due t) a.1 in
    let c = and_true (nat_lt l (2 ^ 32)) (takes due t) b.1 in
    record { spelled = same s (t ∷ (len l ++ r)) a.0; identifier = b.0; fits = ltb-true l (2 ^ 32) c.0; took = c.1 }

pub led_there : (steps : List Step) (p : OpenPlace) → may_go steps p ≡ true → ReachesOpenly p (led steps p)
led_there [] p e = stays
led_there (over ∷ steps) p e =
    let a = and_true (stands p.rest (tag p.rest) (body p.rest) (more p.rest) && takes p.due (tag p.rest))
    (may_go steps (over_it p)) e in
    let b = and_true (stands p.rest (tag p.rest) (body p.rest) (more p.rest)) (takes p.due (tag p.rest)) a.0 in
    let h = standing p.rest (tag p.rest) (body p.rest) (more p.rest) b.0 in
    let f : List ℕ → Type 0 = λ s. ReachesOpenly (open_place p.at s p.left p.due p.passed) (led steps (over_it p)) in
    subst f (sym h.spelled) (passes (tag p.rest) (body p.rest) (more p.rest) h.is b.1 (led_there steps (over_it p) a.1))
led_there (into ∷ steps) p e =
    let x = header p.rest in
    let a = and_true (is_header p.rest p.due && is_within (whole_length x.size) p.left) (may_go steps (into_it p)) e in
    let b = and_true (is_header p.rest p.due) (is_within (whole_length x.size) p.left) a.0 in
    let h = headed p.rest p.due x.tag x.size x.beyond b.0 in
    let f : List ℕ → Type 0 = λ s. ReachesOpenly (open_place p.at s p.left p.due p.passed) (led steps (into_it p)) in
    subst f (sym h.spelled)
    (enters x.tag x.size x.beyond h.identifier h.fits h.took (within_it (whole_length x.size) p.left b.1)
    (led_there steps (into_it p) a.1))
led_there (without ∷ steps) p e =
    let a = and_true (may_drop p.due && is_not p.due p.rest) (may_go steps (without_it p)) e in
    let b = and_true (may_drop p.due) (is_not p.due p.rest) a.0 in
    drops b.0 (not_here p.due p.rest b.1) (led_there steps (without_it p) a.1)

-- what is stated there
stating : (p : OpenPlace) (n t l : ℕ) (r : List ℕ) → Heads p.rest p.due t l r → n ≡ whole_length l → States p n
stating p n t l r h e = (t, l, r, h.spelled, h.identifier, h.fits, h.took, e)

abbrev pub is_stated : OpenPlace → ℕ → Bool
is_stated p n = let h = header p.rest in is_header p.rest p.due && (alike n (whole_length h.size)).passed

pub states_it : (p : OpenPlace) (n : ℕ) → is_stated p n ≡ true → States p n
states_it p n e =
    let x = header p.rest in
    let a = and_true (is_header p.rest p.due) (alike n (whole_length x.size)).passed e in
    stating p n x.tag x.size x.beyond (headed p.rest p.due x.tag x.size x.beyond a.0)
    ((alike n (whole_length x.size)).shows a.1)

-- that its element has this many octets is stated at the place to which the steps lead
pub stated_at : (form : Form) (bytes : List ℕ) (due : Form) (n : ℕ) (steps : List Step)
    → may_go steps (open_start form bytes) ≡ true
    → (led steps (open_start form bytes)).due ≡ due → is_stated (led steps (open_start form bytes)) n ≡ true
    → StatesAt form bytes due n
stated_at form bytes due n steps e is s = (
  led steps (open_start form bytes),
  led_there steps (open_start form bytes) e,
  is,
  states_it (led steps (open_start form bytes)) n s,
)

-- contents that are completely present have nothing missing up to their end
no_more : (s xs : List ℕ) (left : ℕ) → left ≡ length s → length s + length xs ≡ left → s ++ xs ≡ s
no_more s [] left e c = append-nil s
no_more s (x ∷ xs) left e c = absurd (omega arith)

abbrev is_whole : Option ℕ → ℕ → Bool
is_whole None n = false
is_whole (Some left) n = (alike left n).passed

open_contents : (k k' : Kind) (formed allowed : List ℕ → Bool) (at n : ℕ) (s : List ℕ) (left : Option ℕ)
    (ps : List Element) → is_whole left (length s) ≡ true
    → Fact k (place at s (contents k' formed allowed) ps) n
    → OpenFactIn (contents k' formed allowed) k (open_place at s left (contents k' formed allowed) ps) n
open_contents k k' formed allowed at n s None ps w f more c = not_both w
open_contents k k' formed allowed at n s (Some left) ps w f more c =
    subst (λ (x : List ℕ). Fact k (place at x (contents k' formed allowed) ps) n)
    (sym (no_more s more left ((alike left (length s)).shows w) c)) f

abbrev is_known : Form → Option ℕ → ℕ → Bool
is_known (contents k formed allowed) left n = is_whole left n
is_known opaque left n = true
is_known full left n = true
is_known (part count tags inside after) left n = true
is_known (opaques count after) left n = true
is_known (switch tag inside these same other) left n = true
is_known (filled f) left n = true

known : (k : Kind) (at n : ℕ) (s : List ℕ) (left : Option ℕ) (f : Form) (ps : List Element)
    → is_known f left (length s) ≡ true
    → Fact k (place at s f ps) n → OpenFactIn f k (open_place at s left f ps) n
known k at n s left (contents k' formed allowed) ps w h = open_contents k k' formed allowed at n s left ps w h
known k at n s left opaque ps w h = h
known k at n s left full ps w h = h
known k at n s left (part count tags inside after) ps w h = h
known k at n s left (opaques count after) ps w h = h
known k at n s left (switch tag inside these same other) ps w h = h
known k at n s left (filled f) ps w h = h

abbrev is_open_fact : OpenPlace → Kind → ℕ → Bool
is_open_fact p k n = is_known p.due p.left (length p.rest) && (fact k (place p.at p.rest p.due p.passed) n).passed

-- the fault is met at the place to which the steps lead
pub found_openly : (form : Form) (bytes : List ℕ) (f : Fault) (steps : List Step)
    → (may_go steps (open_start form bytes) && is_open_fact (led steps (open_start form bytes)) f.kind f.at) ≡ true
    → FaultsOpenly form bytes f
found_openly form bytes f steps e =
    let q = led steps (open_start form bytes) in
    let a = and_true (may_go steps (open_start form bytes)) (is_open_fact q f.kind f.at) e in
    let b = and_true (is_known q.due q.left (length q.rest))
    (fact f.kind (place q.at q.rest q.due q.passed) f.at).passed a.1 in
    inr (
      q,
      led_there steps (open_start form bytes) a.0,
      known f.kind q.at f.at q.rest q.left q.due q.passed b.0
          ((fact f.kind (place q.at q.rest q.due q.passed) f.at).shows b.1),
    )
