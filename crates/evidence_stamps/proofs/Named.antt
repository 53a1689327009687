-- The algorithm of an archive time-stamp without its field, by what its token states.
use Rattle.std.proofs.Common.{◌≡◌, ◌↔◌, Bool, true, false, IsTrue, Option, Some, None, sym, subst, ◌∙◌}
use Rattle.std.specs.Prelude.{is_some}
use Rattle.der_core.specs.Values.{AlgorithmValue}
use Rattle.digests.specs.Algorithms.{Names}
use Rattle.digests.specs.declared.algorithm.Alg.{Alg}
use Rattle.tsp_types.specs.TstValue.{TstValue}
use Rattle.evidence_types.specs.StampValue.{StampValue}
use Rattle.check_evidence.specs.StampStates.{NamedBy, HasAlg, ShowsAlg}
use Rattle.evidence_stamps.specs.StateValue.{StateValue, IsStateOf}
use Rattle.check_evidence.proofs.States.{one_stated}

module _ (s : StampValue) (state : Option StateValue) (is : IsStateOf s.stamp state) (absent : s.algorithm ≡ None) where
  named_so : (alg : Alg) → HasAlg s alg → NamedBy None s alg
  named_so alg h = subst (λ (o : Option AlgorithmValue). NamedBy o s alg) absent h

  -- it is that of the imprint
  pub imprint_names : (x : StateValue) → state ≡ Some x → (alg : Alg) → HasAlg s alg
      → Names x.stated.imprint.algorithm.oid x.stated.imprint.algorithm.parameters alg
  imprint_names x e alg h =
      let k = named_so alg h in
      let its = subst (λ (o : Option StateValue). IsStateOf s.stamp o) e is in
      subst (λ (y : TstValue). Names y.imprint.algorithm.oid y.imprint.algorithm.parameters alg)
      (one_stated s.stamp k.0 x.stated k.1 its.states) k.2

  -- or there is none
  pub none_named : state ≡ None → (alg : Alg) → HasAlg s alg → ⊥
  none_named e alg h =
      let k = named_so alg h in subst (λ (o : Option StateValue). IsStateOf s.stamp o) e is k.0 k.1

  -- it can be asked for exactly if something is stated
  pub shown_if : (b : Bool) → b ≡ is_some state → IsTrue b ↔ ShowsAlg s.algorithm s
  shown_if b e = rw absent (go state is b e)
    where
      go : (o : Option StateValue) → IsStateOf s.stamp o → (t : Bool) → t ≡ is_some o
          → IsTrue t ↔ ShowsAlg None s
      go (Some x) h t f = (λ yes. (x.stated, h.states), λ k. f)
      go None h t f = (λ yes. absurd (let z : true ≡ false = sym yes ∙ f in cc), λ k. absurd (h k.0 k.1))
