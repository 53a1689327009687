-- Octets hold at most one token, and none if it is said why not.
use Rattle.std.proofs.Common.{◌≡◌, ℕ, List, [], Option, Some, inl, inr, refl, sym, subst, ◌∙◌, append-nil}
use Rattle.der_core.specs.Element.{el}
use Rattle.der_core.specs.Encoding.{IsEncoding, anything, ended, next}
use Rattle.der_core.specs.Grammar.{file}
use Rattle.der_core.specs.Values.{IsOpaque}
use Rattle.der_core.proofs.Refuted.{refuted}
use Rattle.der_grammar.specs.Table.{response}
use Rattle.der_grammar.proofs.Clearness.{response_clear}
use Rattle.tsp_types.specs.ResponseValue.{ResponseValue}
use Rattle.tsp_types.proofs.ResponseReaders.{response_encodes, response_unique}
use Rattle.tsp_requester.specs.Answering.{IsGrantedToken, LacksToken}
use Rattle.tsp_requester.specs.declared.rules.MatchFault.{MatchFault}
use Rattle.cli_failures.specs.declared.failure.Failure.{Failure}
use Rattle.cli_failures.specs.Stamps.{element, HoldsNoStamp, IsStampIn}

same_some : (a b : List ℕ) (o : Option (List ℕ)) → o ≡ Some a → o ≡ Some b → a ≡ b
same_some a b o e h = let z = sym e ∙ h in cc

-- a response has one token
one_granted : (v w : ResponseValue) (a b : List ℕ) → v ≡ w → IsGrantedToken v a → IsGrantedToken w b → a ≡ b
one_granted v w a b same h g =
    same_some a b w.token (subst (λ (r : ResponseValue). r.token ≡ Some a) same h.holds) g.holds

pub one_token : (octets a b : List ℕ) → IsStampIn octets a → IsStampIn octets b → a ≡ b
one_token octets a b (inl (by, (given, encodes, granted))) (inl (by', (given', encodes', granted'))) =
    one_granted given given' a b (response_unique octets given given' encodes encodes') granted granted'
one_token octets a b (inl (by, held)) (inr (not, whole, is)) = absurd (not by)
one_token octets a b (inr (not, whole, is)) (inl (by, held)) = absurd (not by)
one_token octets a b (inr (not, whole, is)) (inr (not', whole', is')) = is ∙ sym is'

-- a response that has a token doesn't lack it
has_it : (given : ResponseValue) (token : List ℕ) (rule : MatchFault) → IsGrantedToken given token
    → LacksToken given rule → ⊥
has_it given token rule h (inl (not, e)) = not h.granted
has_it given token rule h (inr (granted, inl (none, e))) = none token h.holds
has_it given token rule h (inr (granted, inr (octets, holds, never))) = never

-- one whole element is an encoding of one
is_encoding : (octets : List ℕ) → IsOpaque octets → IsEncoding element octets
is_encoding octets (t, b, is, e) =
    next t b [] (e ∙ sym (append-nil (el t b))) is is.identifier refl refl anything (ended refl)

pub never_both : (octets token : List ℕ) (f : Failure) → IsStampIn octets token → HoldsNoStamp octets f → ⊥
never_both octets token f (inl (by, (given, encodes, granted))) (inl (by', inl none)) =
    refuted (file response) octets none.fault response_clear (response_encodes octets given encodes) none.found
never_both octets token f (inl (by, (given, encodes, granted))) (inl (by', inr (other, rule, is, lacks, e))) =
    has_it other token rule
    (subst (λ (r : ResponseValue). IsGrantedToken r token) (response_unique octets given other encodes is) granted)
    lacks
never_both octets token f (inl (by, held)) (inr (not, none)) = not by
never_both octets token f (inr (not, whole, is)) (inl (by, none)) = not by
never_both octets token f (inr (not, whole, is)) (inr (not', none)) =
    refuted element octets none.fault refl (is_encoding octets whole) none.found
