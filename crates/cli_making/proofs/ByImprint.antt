-- By which algorithm the sums of a command are.
use Rattle.std.proofs.Common.{◌≡◌, ◌⊎◌, ◌∙◌, ℕ, zero, suc, List, Option, Some, None, Ok, Err, inl, inr, refl, sym, ap}
use Rattle.std.proofs.Common.{subst}
use Rattle.std.specs.Prelude.{IfSome, option_map}
use Rattle.digests.specs.declared.algorithm.Alg.{Alg}
use Rattle.digests.specs.declared.algorithm.Alg.TheVariants.{Sha256}
use Rattle.digests.specs.Algorithms.{Names, name_of}
use Rattle.tsp_types.specs.TstValue.{TstValue}
use Rattle.check_evidence.proofs.States.{one_stated}
use Rattle.evidence_stamps.specs.StateValue.{IsStateOf, StateValue}
use Rattle.evidence_sums.specs.Sums.{Answer, sums_of}
use Rattle.evidence_sums.specs.declared.sums_fault.SumsFault.{SumsFault}
use Rattle.evidence_sums.specs.declared.sums_fault.SumsRule.{SumsRule}
use Rattle.evidence_sums.specs.declared.sums_fault.SumsRule.TheVariants as rule
use Rattle.cli_making.specs.Algorithm.{FailsAtOnce, ImprintNames, IsAlgBy, IsByImprint, MayName}

-- ---- a name

pub may_name : (name : Option (List ℕ)) (found : Option Alg) → name ≡ option_map name_of found → MayName name
may_name name None is = subst (λ (n : Option (List ℕ)). MayName n) (sym is) tt
may_name name (Some alg) is = subst (λ (n : Option (List ℕ)). MayName n) (sym is) (alg, refl)

pub may_name_by : (name : Option (List ℕ)) (text token : List ℕ) (alg : Alg) → IsAlgBy name text token alg
    → MayName name
may_name_by None text token alg by = tt
may_name_by (Some name) text token alg by = (alg, by)

-- what is lent of text and token is the same
pub by_lent : (name : Option (List ℕ)) (alg : Alg) (text token lent lent_token : List ℕ) → lent ≡ text
    → lent_token ≡ token → IsAlgBy name text token alg → IsAlgBy name lent lent_token alg
by_lent name alg text token lent lent_token same same_token by =
    subst (λ (octets : List ℕ). IsAlgBy name octets lent_token alg) (sym same)
    (subst (λ (octets : List ℕ). IsAlgBy name text octets alg) (sym same_token) by)

-- ---- the imprint

module _ (token : List ℕ) where
  -- a token states one thing
  pub imprint_named : (s : StateValue) → IsStateOf token (Some s) → (alg : Alg) → ImprintNames token alg
      → Names s.stated.imprint.algorithm.oid s.stated.imprint.algorithm.parameters alg
  imprint_named s is alg h =
      subst (λ (x : TstValue). Names x.imprint.algorithm.oid x.imprint.algorithm.parameters alg)
      (one_stated token h.stated s.stated h.states is.states) h.names

  pub names_imprint : (s : StateValue) → IsStateOf token (Some s) → (found : Option Alg)
      → IfSome found (Names s.stated.imprint.algorithm.oid s.stated.imprint.algorithm.parameters)
      → IfSome found (ImprintNames token)
  names_imprint s is None names = tt
  names_imprint s is (Some alg) names = record { stated = s.stated; states = is.states; names = names }

  pub nothing_named : IsStateOf token None → (alg : Alg) → ImprintNames token alg → ⊥
  nothing_named none alg h = none h.stated h.states

-- ---- line 1

abbrev told : SumsRule → ℕ → Answer
told r n = Err (record { rule = r; line = n })

abbrev no_sum : Answer
no_sum = told rule.Line 1

by_parts : (a : Answer) (f : SumsFault) → a ≡ Err f → (r : SumsRule) → f.rule ≡ r → (n : ℕ) → f.line ≡ n
    → (a ≡ no_sum) ⊎ (a ≡ no_sum → ⊥)
by_parts a f of rule.Line is zero at = inr (λ e. let no : ⊥ = cc in no)
by_parts a f of rule.Line is (suc zero) at =
    inl (of ∙ (ap (λ (r : SumsRule). told r f.line) is ∙ ap (told rule.Line) at))
by_parts a f of rule.Line is (suc (suc n)) at = inr (λ e. let no : ⊥ = cc in no)
by_parts a f of rule.Empty is n at = inr (λ e. let no : ⊥ = cc in no)
by_parts a f of rule.Name is n at = inr (λ e. let no : ⊥ = cc in no)
by_parts a f of rule.NameTwice is n at = inr (λ e. let no : ⊥ = cc in no)
by_parts a f of rule.OutOfMemory is n at = inr (λ e. let no : ⊥ = cc in no)

is_or_not : (a b : Answer) → a ≡ b → (a ≡ no_sum) ⊎ (a ≡ no_sum → ⊥)
is_or_not a (Ok sums) of = inr (λ e. let no : ⊥ = cc in no)
is_or_not a (Err f) of = by_parts a f of f.rule refl f.line refl

-- it is no sum by an algorithm, or is one
fails_or : (alg : Alg) (text : List ℕ) → FailsAtOnce alg text ⊎ (FailsAtOnce alg text → ⊥)
fails_or alg text = is_or_not (sums_of alg text) (sums_of alg text) refl

-- ---- the algorithm of the sums

module _ (text token : List ℕ) where
  pub unnamed : ((alg : Alg) → ImprintNames token alg → ⊥) → IsByImprint text token Sha256
  unnamed none = inr (refl, λ other o. none other o.named)

  -- line 1 is no sum by the algorithm of the imprint
  pub unfit : (alg : Alg) → ((other : Alg) → ImprintNames token other → Some alg ≡ Some other) → FailsAtOnce alg text
      → IsByImprint text token Sha256
  unfit alg only fails = inr (
    refl,
    λ other o.
        let named = only other o.named in
        let same : alg ≡ other = cc in
        o.first (subst (λ (a : Alg). FailsAtOnce a text) same fails),
  )

  pub fit : (alg : Alg) → ImprintNames token alg → (FailsAtOnce alg text → ⊥) → IsByImprint text token alg
  fit alg named first = inl (record { named = named; first = first })

  -- if it is SHA-256, it is that whatever line 1 is
  pub either : (alg : Alg) → alg ≡ Sha256 → ImprintNames token alg
      → ((other : Alg) → ImprintNames token other → Some alg ≡ Some other) → IsByImprint text token alg
  either alg is named only = by_case (fails_or alg text)
    where
      by_case : FailsAtOnce alg text ⊎ (FailsAtOnce alg text → ⊥) → IsByImprint text token alg
      by_case (inl fails) = subst (λ (a : Alg). IsByImprint text token a) (sym is) (unfit alg only fails)
      by_case (inr first) = fit alg named first
