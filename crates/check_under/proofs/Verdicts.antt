-- The verdict under a record, by that about the record and that about the file.
use Rattle.std.proofs.Common.{◌≡◌, ◌∙◌, ◌⊎◌, ℕ, Bool, List, map, Option, None, Result, Ok, Err}
use Rattle.std.proofs.Common.{refl, subst, ap, inl, inr}
use Rattle.std.specs.Prelude.{IfSome}
use Rattle.devices.specs.declared.source.Source.{Ghosts}
use Rattle.check_fit.specs.declared.policy.Policy.{Policy}
use Rattle.check_fit.specs.declared.rules.Refused.{Refused}
use Rattle.trust_lists.specs.Asking.{Asked}
use Rattle.check_verdict.specs.Beside.{beside}
use Rattle.check_verdict.specs.Passing.{Terms}
use Rattle.check_verdict.specs.TokenVerdicts.{terms_of}
use Rattle.check_verdict.specs.Verdicts.{Yes}
use Rattle.check_verdict.specs.Checking.{CountsAsks}
use Rattle.check_stream.specs.StreamVerdicts.{Given, StreamChecks, StreamSaysYes, StreamVerdictOrDevice}
use Rattle.check_evidence.specs.Grounds.{Grounds}
use Rattle.check_evidence.specs.Laws.{RecordsShowOneMoment}
use Rattle.check_evidence.specs.Showing.{Shows}
use Rattle.check_evidence.specs.declared.rules.EvidenceRefused.{EvidenceRefused}
use Rattle.judge_evidence.specs.RecordVerdicts.{ShowsOrDevice}
use Rattle.check_under.specs.Under.{data_of, AllowsAt, AreTermsUnder}
use Rattle.check_under.specs.UnderVerdicts.{said_under, said_of_file, IsDeviceUnder, GivesYesUnder, IsVerdictUnder}
use Rattle.check_under.specs.UnderVerdicts.{JudgesUnder, CountsUnder}
use Rattle.check_under.specs.declared.refused.UnderRefused.TheVariants as refused
use Rattle.check_under.proofs.Terms.{same_terms}

-- the terms by which the file is judged
pub are_terms : (g : Grounds) (octets : List ℕ) (ds : List (List ℕ)) (k : ℕ) (policy : Policy)
    (vouches : Asked → Bool) → Shows g octets ds k → AllowsAt g.ends k policy → vouches ≡ g.vouches
    → AreTermsUnder g octets ds (terms_of policy (map (beside k) g.trust) vouches)
are_terms g octets ds k policy vouches shows allows same = record {
  shown = k;
  shows = shows;
  allows = allows;
  trust = refl;
  vouches = same;
}

module _ (t : Terms) (file : List ℕ) (handed : Option (List ℕ)) (m : ℕ) where
  is_yes : (said : Result ℕ Refused) → StreamSaysYes t file handed said m → said_under said ≡ Ok m → Yes t file handed m
  is_yes (Ok n) (inl long) e = absurd cc
  is_yes (Ok n) (inr h) e = h.sound (let same : n ≡ m = cc in ap (λ (x : ℕ). Ok x) same)
  is_yes (Err r) h e = absurd cc

  told : (said : Result ℕ Refused) → StreamSaysYes t file handed said m → Yes t file handed m
      → (said_under said ≡ Ok m) ⊎ IsDeviceUnder (said_under said)
  told (Ok n) (inl long) y = absurd cc
  told (Ok n) (inr h) y = elim (h.complete y) [
    | inl e ↦ inl (let same : n ≡ m = cc in ap (λ (x : ℕ). Ok x) same)
    | inr device ↦ absurd device
  ]
  told (Err r) (inl long) y = inr (inl long)
  told (Err r) (inr h) y = elim (h.complete y) [
    | inl e ↦ absurd cc
    | inr device ↦ inr (inr device)
  ]

module _ (g : Grounds) (octets file : List ℕ) (handed : Option (List ℕ)) (m : ℕ) where
  -- the record shows the data
  pub gives_yes : RecordsShowOneMoment → (t : Terms) → AreTermsUnder g octets (data_of file handed) t
      → (said : Result ℕ Refused) → StreamSaysYes t file handed said m
      → GivesYesUnder g octets file handed (said_under said) m
  gives_yes one t under said h = record {
    sound = λ e. record { terms = t; under = under; yes = is_yes t file handed m said h e };
    complete = λ y. told t file handed m said h (subst (λ (u : Terms). Yes u file handed m)
        (same_terms one g octets (data_of file handed) y.terms t y.under under) y.yes);
  }

  -- it is refused
  pub gives_no : (r : EvidenceRefused) → ((k : ℕ) → Shows g octets (data_of file handed) k → ShowsOrDevice k (Err r))
      → GivesYesUnder g octets file handed (Err (refused.Evidence r)) m
  gives_no r complete = record {
    sound = λ e. absurd cc;
    complete = λ y. elim (complete y.under.shown y.under.shows) [
      | inl e ↦ absurd cc
      | inr device ↦ inr device
    ];
  }

-- the verdict, where the record shows the data
pub is_verdict : (g : Grounds) (octets file : List ℕ) (handed : Option (List ℕ)) (t : Terms)
    → AreTermsUnder g octets (data_of file handed) t → (said : Result ℕ Refused)
    → ((m : ℕ) → StreamSaysYes t file handed said m) → StreamVerdictOrDevice t file handed said
    → IsVerdictUnder g octets file handed (said_under said)
is_verdict g octets file handed t under (Ok m) says v =
    record { terms = t; under = under; yes = is_yes t file handed m (Ok m) (says m) refl }
is_verdict g octets file handed t under (Err r) says v = (t, under, v)

-- the same of each file
pub judges_under : {S : Type 0} (g : Grounds) (octets : List ℕ) (ds : List (List ℕ)) (given : Given)
    (content : Ghosts S) (before after : Option S) (t : Terms) → AreTermsUnder g octets ds t
    → (said : Result ℕ Refused) → StreamChecks t given content before after said
    → JudgesUnder g octets ds given content before after (said_under said)
judges_under g octets ds given content before after t under (Ok m) checks = (t, under, checks)
judges_under g octets ds given content before after t under (Err r) checks = (t, under, checks)

-- what holds of what is said of the file
pub of_file : (P : Result ℕ Refused → Type 0) (said : Result ℕ Refused) → P said
    → IfSome (said_of_file (said_under said)) P
of_file P (Ok m) p = p
of_file P (Err r) p = p

pub said_something : (said : Result ℕ Refused) → said_of_file (said_under said) ≡ None → ⊥
said_something (Ok m) e = absurd cc
said_something (Err r) e = absurd cc

-- the count of failures after both
pub counts_under : (said : Result ℕ Refused) (count between after : ℕ) → between ≡ count → CountsAsks said between after
    → CountsUnder (said_under said) count after
counts_under (Ok m) count between after same h = h ∙ same
counts_under (Err r) count between after same h = subst (λ (n : ℕ). CountsAsks (Err r) n after) same h
