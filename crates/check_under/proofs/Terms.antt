-- The terms of a check under a record are those of one moment.
use Rattle.std.proofs.Common.{◌≡◌, ◌∙◌, ℕ, Bool, true, false, List, map, refl, sym, subst, ap}
use Rattle.digests.specs.declared.set.Algs.{Algs}
use Rattle.check_fit.specs.declared.policy.Policy.{Policy}
use Rattle.check_fit.proofs.Policies.{same_set}
use Rattle.check_verdict.specs.Beside.{beside}
use Rattle.check_verdict.specs.Passing.{Terms}
use Rattle.check_verdict.specs.Verdicts.{Yes}
use Rattle.check_verdict.proofs.Verdicts.{one_moment, never_both}
use Rattle.check_evidence.specs.Grounds.{AlgEnd, Grounds}
use Rattle.check_evidence.specs.Laws.{RecordsShowOneMoment, RecordsNeverBoth}
use Rattle.check_under.specs.Under.{data_of, AllowsAt, AreTermsUnder}
use Rattle.check_under.specs.Laws.{UnderOneMoment, UnderNeverBoth}
use Rattle.check_under.specs.declared.refused.UnderRefused.TheVariants as refused

same_bool : (a b : Bool) → (a ≡ true → b ≡ true) → (b ≡ true → a ≡ true) → a ≡ b
same_bool true b f g = sym (f refl)
same_bool false true f g = g refl
same_bool false false f g = refl

abbrev allowing : Algs → Policy
allowing algs = record { allowed = algs }

pub same_policy : (ends : List AlgEnd) (k : ℕ) (p q : Policy) → AllowsAt ends k p → AllowsAt ends k q → p ≡ q
same_policy ends k p q a b = ap allowing (same_set p.allowed q.allowed
    (λ alg. same_bool _ _ (λ x. (b alg).1 ((a alg).0 x)) (λ x. (a alg).1 ((b alg).0 x))))

terms_same : (t u : Terms) → t.policy ≡ u.policy → t.trust ≡ u.trust → t.vouches ≡ u.vouches → t ≡ u
terms_same t u p q r = rw (p, q, r) refl

pub same_terms : RecordsShowOneMoment → (g : Grounds) (octets : List ℕ) (ds : List (List ℕ)) (t u : Terms)
    → AreTermsUnder g octets ds t → AreTermsUnder g octets ds u → t ≡ u
same_terms one g octets ds t u a b =
    let k : a.shown ≡ b.shown = one g octets ds a.shown b.shown a.shows b.shows in
    terms_same t u
    (same_policy g.ends b.shown t.policy u.policy
    (subst (λ (n : ℕ). AllowsAt g.ends n t.policy) k a.allows) b.allows)
    (a.trust ∙ ap (λ (n : ℕ). map (beside n) g.trust) k ∙ sym b.trust)
    (a.vouches ∙ sym b.vouches)

pub under_one_moment : RecordsShowOneMoment → UnderOneMoment
under_one_moment one g octets file handed m n y z =
    let same : y.terms ≡ z.terms = same_terms one g octets (data_of file handed) y.terms z.terms y.under z.under in
    one_moment z.terms file handed m n (subst (λ (t : Terms). Yes t file handed m) same y.yes) z.yes

pub under_never_both : RecordsShowOneMoment → RecordsNeverBoth → UnderNeverBoth
under_never_both one never g octets file handed m (refused.Evidence r) y h =
    never g octets (data_of file handed) y.under.shown r y.under.shows h
under_never_both one never g octets file handed m (refused.Signed r) y (t, under, refuses) =
    let same : y.terms ≡ t = same_terms one g octets (data_of file handed) y.terms t y.under under in
    never_both t file handed m r (subst (λ (u : Terms). Yes u file handed m) same y.yes) refuses
