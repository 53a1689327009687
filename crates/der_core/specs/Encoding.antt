-- Which octets are a good encoding of a form.
use Rattle.std.specs.Prelude.{◌≡◌, ◌≢◌, ℕ, Bool, true, false, List, [], ◌++◌}
use Rattle.der_core.specs.declared.fault.Kind.{Kind}
use Rattle.der_core.specs.Element.{el, IsElement}
use Rattle.der_core.specs.Form.{Form, opaque, contents, full, filled, takes, inside_of, behind, may_drop, dropped}
use Rattle.der_core.specs.Form.{Element, passed_by, is_early, is_second}

-- the octets are an encoding of the form, where these elements of the list that is due came before them
pub data Encodes : List Element → Form → List ℕ → Type 0 where
  anything : {ps : List Element} {s : List ℕ} → Encodes ps opaque s
  held : {ps : List Element} {s : List ℕ} {k : Kind} {formed allowed : List ℕ → Bool} → formed s ≡ true
      → allowed s ≡ true → Encodes ps (contents k formed allowed) s
  ended : {ps : List Element} {s : List ℕ} → s ≡ [] → Encodes ps full s
  next : {ps : List Element} {due : Form} {s : List ℕ} (t : ℕ) (b r : List ℕ) → s ≡ el t b ++ r
      → IsElement t b → takes due t ≡ true
      → is_early due ps (t, b) ≡ false → is_second due ps (t, b) ≡ false
      → Encodes [] (inside_of due t) b → Encodes (passed_by due ps (t, b)) (behind due b) r → Encodes ps due s
  absent : {ps : List Element} {due : Form} {s : List ℕ} → may_drop due ≡ true
      → Encodes [] (dropped due) s → Encodes ps due s
  has : {ps : List Element} {f : Form} {s : List ℕ} → s ≢ [] → Encodes [] f s → Encodes ps (filled f) s

-- a whole input
abbrev pub IsEncoding : Form → List ℕ → Type 0
IsEncoding form bytes = Encodes [] form bytes
