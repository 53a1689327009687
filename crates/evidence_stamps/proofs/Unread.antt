-- What octets state by which no token can be read, and which rule they fail then.
use Rattle.std.proofs.Common.{◌≡◌, ℕ, List, Ok, Err, sym, subst, ap, ◌∙◌}
use Rattle.check_fit.specs.declared.policy.Policy.{Policy}
use Rattle.check_fit.specs.declared.rules.TokenRule.{TokenRule}
use Rattle.check_fit.specs.FileFitting.{IsReading}
use Rattle.tsp_types.specs.TstValue.{TstValue}
use Rattle.check_verdict.specs.Passing.{Terms, Due}
use Rattle.check_verdict.specs.TokenRules.{Statement, IsStatement, IsTstReading, TokenFailsFor, token_statement}
use Rattle.check_verdict.proofs.Claims.{statement_says}
use Rattle.check_verdict.proofs.TokenVerdicts.{statement_fails}
use Rattle.check_evidence.specs.StampStates.{States}

-- a token that states something to a check states it here
pub stated_here : (policy : Policy) (token : List ℕ) (s : Statement) → IsStatement policy token (Ok s)
    → (x : TstValue) × States token x
stated_here policy token s (signed, stamp, reads, is) =
    let says = statement_says policy signed stamp s (sym is) in (
      says.tst,
      record {
        signed = says.value;
        encodes = subst (IsReading token) says.reads reads.is_signed;
        econtent_type = says.econtent_type;
        content = says.content;
        present = says.present;
        encodes_stamp = subst (IsTstReading says.content) says.reads_tst
            (reads.is_stamp says.value says.content says.reads says.present);
      },
    )

-- one of K1 to K8 fails whatever is due
pub fails_whatever : (t : Terms) (policy : Policy) (token : List ℕ) (due : Due) (failed : TokenRule)
    → t.policy ≡ policy → IsStatement policy token (Err failed) → TokenFailsFor t token due failed
fails_whatever t policy token due failed same (signed, stamp, reads, is) =
    statement_fails t token due signed stamp reads failed
    (ap (λ (p : Policy). token_statement p signed stamp) same ∙ sym is)
