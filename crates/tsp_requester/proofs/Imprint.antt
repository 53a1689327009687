-- What a comparison says of an imprint.
use Rattle.std.proofs.Common.{◌≡◌, ◌↔◌, ℕ, Bool, true, List, Option, Some, sym, ap, subst, ◌∙◌}
use Rattle.std.specs.Prelude.{IsTrue}
use Rattle.der_core.specs.Lists.{is_same}
use Rattle.der_core.proofs.Encoded.{same}
use Rattle.der_core.proofs.SameOctets.{same_again}
use Rattle.digests.specs.Algorithms.{Names}
use Rattle.digests.specs.Messages.{digest_of}
use Rattle.digests.specs.declared.algorithm.Alg.{Alg}
use Rattle.tsp_types.specs.ImprintValue.{ImprintValue}
use Rattle.tsp_requester.specs.Attaching.{IsImprintOf}

some_is : (a b : Alg) → Some a ≡ Some b → a ≡ b
some_is a b e = cc

-- an algorithm that this identifier names with these parameters, and the only one
pub record IsNamedAlone (oid : List ℕ) (parameters : Option (List ℕ)) (alg : Alg) : Type 0 where
  pub named : Names oid parameters alg
  pub only : (a : Alg) → Names oid parameters a → Some alg ≡ Some a

-- the same of octets that were read
pub named_as : (oid oid' : List ℕ) (parameters parameters' : Option (List ℕ)) (alg : Alg) → oid ≡ oid'
    → parameters ≡ parameters'
    → IsNamedAlone oid parameters alg → IsNamedAlone oid' parameters' alg
named_as oid oid' parameters parameters' alg at_oid at_parameters h =
    subst (λ (o : List ℕ). IsNamedAlone o parameters' alg) at_oid
    (subst (λ (q : Option (List ℕ)). IsNamedAlone oid q alg) at_parameters h)

pub imprint_when : (imprint : ImprintValue) (stamped : List ℕ) (alg : Alg) (x d : List ℕ) (r : Bool)
    → IsNamedAlone imprint.algorithm.oid imprint.algorithm.parameters alg
    → x ≡ imprint.digest → d ≡ digest_of alg stamped → r ≡ is_same x d → IsTrue r ↔ IsImprintOf imprint stamped
imprint_when imprint stamped alg x d r alone at_x at_d at_r = (
  λ h. record { alg = alg; named = alone.named; digest = sym at_x ∙ (same x d (sym at_r ∙ h) ∙ at_d) },
  λ i.
      let alike : alg ≡ i.alg = some_is alg i.alg (alone.only i.alg i.named) in
      let e : x ≡ d = at_x ∙ (i.digest ∙ (ap (λ (a : Alg). digest_of a stamped) (sym alike) ∙ sym at_d)) in
      at_r ∙ subst (λ (l : List ℕ). is_same x l ≡ true) e (same_again x),
)
