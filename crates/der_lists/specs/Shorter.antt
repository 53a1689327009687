-- Items that are elements have at least one octet.
use Rattle.std.proofs.Common.{ℕ, ◌<◌, List, length, Result, Ok, ap, subst, arith}
use Rattle.std.proofs.lemmas.List.{length-append}
use Rattle.der_core.specs.declared.fault.Fault.{Fault}
use Rattle.der_core.specs.Element.{len, el, IsBytes}
use Rattle.der_core.specs.Reading.{Spot, next_at, within}
use Rattle.der_core.proofs.ReadLengths.{ok_is}
use Rattle.der_core.proofs.Elements.{next_takes, IsBytes-part}
use Rattle.der_core.proofs.Results.{bind_ok}
use Rattle.der_core.proofs.Lists.{inside_of, Enters-shorter}
use Rattle.der_lists.specs.Items.{IsItem, opaque_item}

-- an element with one identifier, for any reader of its contents
pub within_shorter : {A : Type 0} (tag : ℕ) (inside : Spot → Result A Fault) → IsItem (within tag inside)
within_shorter tag inside = record {
  shorter = λ s y fits e. let k = inside_of tag inside s y fits e in Enters-shorter tag inside s k.0 y.1 k.1;
  fits = λ s y fits e. (inside_of tag inside s y fits e).1.fits_rest;
}

pub opaque_shorter : IsItem opaque_item
unfolding opaque_item
opaque_shorter = record {
  shorter = λ s y fits e.
      let b = bind_ok (next_at s) (λ x. Ok (x.0.whole, x.1)) y e in
      let k = next_takes s b.0 fits b.1 in
      let n : length b.0.1.rest < length s.rest =
      omega (arith, ap length k.parts, length-append (el b.0.0.tag b.0.0.body) b.0.1.rest) in
      subst (λ (z : List ℕ × Spot). length z.1.rest < length s.rest) (ok_is (b.0.0.whole, b.0.1) y b.2) n;
  fits = λ s y fits e.
      let b = bind_ok (next_at s) (λ x. Ok (x.0.whole, x.1)) y e in
      let k = next_takes s b.0 fits b.1 in
      let n : IsBytes b.0.1.rest =
      (IsBytes-part s.rest (len (length b.0.0.body)) b.0.0.body b.0.1.rest b.0.0.tag k.parts fits).1 in
      subst (λ (z : List ℕ × Spot). IsBytes z.1.rest) (ok_is (b.0.0.whole, b.0.1) y b.2) n;
}
