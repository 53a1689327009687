use Rattle.std.proofs.Common.{◌≡◌, length, eqb, true, false, sym, ap, inl, ◌∙◌, subst, List, ℕ}
use Rattle.std.proofs.lemmas.Bool.{eqb-false}
use Rattle.der_core.specs.declared.fault.Kind.TheVariants.{Order}
use Rattle.der_core.specs.Element.{el}
use Rattle.der_core.specs.Lists.{is_less}
use Rattle.der_core.specs.Reading.{fault}
use Rattle.der_core.specs.Form.{last_of}
use Rattle.der_core.specs.Seen.{seen}
use Rattle.der_core.proofs.Ordered.{passes, goes_on}
use Rattle.der_core.proofs.order.in_order.Goals as goal

pub returns-then-is_less-clause-fault : goal.returns-then-is_less-clause-fault
returns-then-is_less-clause-fault c =
    let taken = c.in_ok-element.ensures.found in
    let p = c.loop-cursor.invariant.passed in
    let x = c.in_ok-element.element in
    let less : is_less x.whole.now c.loop-cursor.last.now ≡ true = sym c.if-is_less.ensures in
    let early : is_less (el x.tag x.body.now) (last_of p.0) ≡ true =
    subst (λ (v : List ℕ). is_less (el x.tag x.body.now) v ≡ true) (sym p.4)
    (subst (λ (v : List ℕ). is_less v c.loop-cursor.last.now ≡ true) taken.whole less) in (
      p.0,
      c.loop-cursor.cursor.rest,
      p.1,
      p.2,
      inl (
        (x.tag, x.body.now),
        c.next.new.self.rest,
        taken.element,
        taken.parts,
        early,
        c.new.ensures ∙ ap (fault Order) (c.position-at.ensures ∙ p.3),
      ),
    )

pub loop-cursor-preserved : goal.loop-cursor-preserved
loop-cursor-preserved c =
    let taken = c.in_ok-element.ensures.found in
    let x = c.in_ok-element.element in
    let some : eqb (length c.loop-cursor.cursor.rest) 0 ≡ false = cc in
    record {
      passed = passes c.args.body.now c.loop-cursor.cursor c.next.new.self c.loop-cursor.last.now
          (seen x) c.loop-cursor.invariant.passed taken
          (sym c.if-is_less.ensures);
      follows = λ o.
          goes_on c.loop-cursor.last.now c.loop-cursor.cursor.rest x.tag x.body.now x.whole.now c.next.new.self.rest
          (c.loop-cursor.invariant.follows o) (λ nil. eqb-false _ _ some (ap length nil)) taken.whole
          (λ t b r h is. (c.in_ok-element.ensures.only t b r h is).0);
    }
