use Rattle.std.proofs.Common.{rules, ◌≡◌, ◌≢◌, List, [], length, sym, subst, arith}
use Rattle.std.proofs.lemmas.Bool.Decides.{nat_tests}
use Rattle.evidence_types.specs.StampValue.{StampValue}
use Rattle.check_evidence.specs.Grounds.{Grounds}
use Rattle.judge_evidence.specs.Asking.{IsAskedOfChains}
use Rattle.judge_evidence.specs.Data.{HaveWanted}
use Rattle.judge_evidence.specs.Terms.{grounds_of}
use Rattle.judge_evidence.specs.Walking.{IsChainsVerdict}
use Rattle.judge_evidence.proofs.Answered.{unopened, without_data, by_chains, some_objects}
use Rattle.judge_evidence.proofs.Values.{nil_of}
use Rattle.judge_evidence.proofs.check.judge_record.Goals as goal

pub judge_chains-requires-clause-wanted : goal.judge_chains-requires-clause-wanted
judge_chains-requires-clause-wanted g c =
    subst (λ (chains : List (List StampValue)). HaveWanted chains c.args.digests.now) (sym c.chains.ensures)
    (c.requires c.in-Ok.evidence c.in-Ok.ensures.0)

pub returns-in-Err-clause-judged : goal.returns-in-Err-clause-judged
returns-in-Err-clause-judged g c = λ ds are.
    unopened (grounds_of c.args.terms.now (g.V.Verifier.vouches c.args.verifier.now)) c.args.octets.now ds
    c.in-Err.failed c.in-Err.ensures

pub returns-then-is_empty-clause-judged : goal.returns-then-is_empty-clause-judged
returns-then-is_empty-clause-judged g c = λ ds are.
    let zero : length c.args.digests.now ≡ 0 = first_of (search rules, grind (arith, nat_tests)) in
    without_data (grounds_of c.args.terms.now (g.V.Verifier.vouches c.args.verifier.now)) c.args.octets.now
    c.in-Ok.evidence c.args.digests.now ds c.in-Ok.ensures (nil_of c.args.digests.now zero) are

pub returns-clause-judged : goal.returns-clause-judged
returns-clause-judged g c = λ ds are.
    let t : Grounds = grounds_of c.args.terms.now (g.V.Verifier.vouches c.args.verifier.now) in
    let some : c.args.digests.now ≢ [] = search rules in
    by_chains t c.args.octets.now c.in-Ok.evidence c.args.digests.now ds c.judge_chains.result c.in-Ok.ensures some are
    (subst (λ (chains : List (List StampValue)). IsChainsVerdict t ds chains c.judge_chains.result) c.chains.ensures
    (c.judge_chains.ensures.judged ds are))

pub returns-in-Err-clause-only : goal.returns-in-Err-clause-only
returns-in-Err-clause-only g c = λ ds are test tests. g.V.Verifier.asked_nothing test _

pub returns-then-is_empty-clause-only : goal.returns-then-is_empty-clause-only
returns-then-is_empty-clause-only g c = λ ds are test tests. g.V.Verifier.asked_nothing test _

pub returns-clause-only : goal.returns-clause-only
returns-clause-only g c = λ ds are test tests.
    let t : Grounds = grounds_of c.args.terms.now (g.V.Verifier.vouches c.args.verifier.now) in
    let some : c.args.digests.now ≢ [] = search rules in
    c.judge_chains.ensures.only ds are test (λ q about. tests q (record {
      some_data = some_objects c.args.digests.now ds some are;
      record_value = c.in-Ok.evidence;
      encodes = c.in-Ok.ensures.0;
      open_data = c.in-Ok.ensures.1;
      about = subst (λ (chains : List (List StampValue)). IsAskedOfChains t ds chains q) c.chains.ensures about;
    }))

pub returns-clause-device : goal.returns-clause-device
returns-clause-device g c = λ failed. record {
  record_value = c.in-Ok.evidence;
  encodes = c.in-Ok.ensures.0;
  open_data = c.in-Ok.ensures.1;
  some = search rules;
}
