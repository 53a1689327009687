use Rattle.std.proofs.Common.{◌≡◌, ◌∙◌, ℕ, suc, ◌+◌, Bool, true, false, List, [], ◌∷◌, ◌++◌, length, Option, Some, refl}
use Rattle.std.proofs.Common.{sym, subst, ap, arith, inl, inr}
use Rattle.std.proofs.lemmas.List.{append_assoc, append-nil, length-append}
use Rattle.digests.specs.Sets.{is_in}
use Rattle.digests.specs.Selection.{set_given}
use Rattle.cms_types.specs.SignerValue.{SignerValue}
use Rattle.check_fit.specs.Fitting.{WantedBy}
use Rattle.check_verdict.proofs.Asks.{among_all}
use Rattle.check_verdict.proofs.Acceptance.{Passed, passed_none, passed_more, passed_all, judged_bad, wanted_among}
use Rattle.check_verdict.proofs.Acceptance.{wanted_last, numbered_of}
use Rattle.check_verdict.proofs.Going.{goes_further, still_terms, wanted_before, wanted_now}
use Rattle.check_verdict.proofs.file.judge_signers.Goals as goal

never_false : (b : Bool) → (b ≡ false → false ≡ true) → b ≡ true
never_false true f = refl
never_false false f = f refl

pub loop-signer-init : goal.loop-signer-init
loop-signer-init g c = record {
  before = [];
  all = c.again-left.ensures;
  numbered = refl;
  counted = omega (arith, c.len-count.ensures);
  first = λ e. refl;
  none = λ e. refl;
  had = λ alg w. absurd w;
  so_far = λ t is content has. passed_none t content c.args.econtent_type.now;
  only = λ t is content has test asks. g.V.Verifier.asked_nothing test _;
  goes = record { same = refl; count = refl; stays = refl };
}

pub returns-in-Err-clause-judged : goal.returns-in-Err-clause-judged
returns-in-Err-clause-judged g c = λ some t is content has.
    let h = c.loop-signer.invariant in
    let all : h.before ++ c.in-Some.signer ∷ c.in-Some.others ≡ c.args.signers.now =
    ap (λ (xs : List SignerValue). h.before ++ xs)
    (sym c.in-Some.ensures) ∙ h.all in
    rw (c.numbered.ensures)
    (judged_bad t content c.args.econtent_type.now h.before c.in-Some.signer c.in-Some.others c.args.signers.now
    c.loop-signer.number c.loop-signer.latest c.in-Err.refused all h.numbered (h.so_far t is content has)
    (c.in-Err.ensures.judged t (still_terms h.goes t is) content has.0
    (λ alg w. has.1 alg (subst (λ (xs : List SignerValue). WantedBy c.args.checker.now.policy xs alg) all
    (wanted_among c.args.checker.now.policy h.before c.in-Some.signer c.in-Some.others alg
    (wanted_before h.goes c.in-Some.signer alg w))))))

pub loop-signer-preserved : goal.loop-signer-preserved
loop-signer-preserved g c =
    let h = c.loop-signer.invariant in
    let all : h.before ++ c.in-Some.signer ∷ c.in-Some.others ≡ c.args.signers.now =
    ap (λ (xs : List SignerValue). h.before ++ xs)
    (sym c.in-Some.ensures) ∙ h.all in
    let one_less : length c.loop-signer.left ≡ suc (length c.in-Some.others) =
    ap (λ (xs : List SignerValue). length xs) c.in-Some.ensures in
    record {
      before = h.before ++ c.in-Some.signer ∷ [];
      all = append_assoc h.before (c.in-Some.signer ∷ []) c.in-Some.others ∙ all;
      numbered = length-append h.before (c.in-Some.signer ∷ []) ∙ ap (λ (n : ℕ). n + 1) h.numbered;
      counted = omega (arith, one_less, h.counted);
      first = λ e. absurd (omega (arith, e));
      none = λ e. absurd cc;
      had = λ alg w. elim (wanted_last c.args.checker.now.policy h.before c.in-Some.signer alg w) [
        | inl b ↦ h.had alg b
        | inr l ↦ never_false (is_in alg (set_given c.args.digests.now)) (c.in-Ok.ensures.lacking alg
            (wanted_now h.goes c.in-Some.signer alg l))
      ];
      so_far = λ t is content has.
          passed_more t content c.args.econtent_type.now h.before c.in-Some.signer c.in-Ok.moment c.later.result
          c.loop-signer.latest (h.so_far t is content has)
          (c.in-Ok.ensures.judged t (still_terms h.goes t is) content has.0
          (λ alg w. has.1 alg (subst (λ (xs : List SignerValue). WantedBy c.args.checker.now.policy xs alg) all
          (wanted_among c.args.checker.now.policy h.before c.in-Some.signer c.in-Some.others alg
          (wanted_before h.goes c.in-Some.signer alg w))))) c.later.ensures;
      only = λ t is content has test asks. g.V.Verifier.asked_further test _ _ _ (h.only t is content has test asks)
          (c.in-Ok.ensures.only t (still_terms h.goes t is) content has.0
          (λ alg w. has.1 alg (subst (λ (xs : List SignerValue). WantedBy c.args.checker.now.policy xs alg) all
          (wanted_among c.args.checker.now.policy h.before c.in-Some.signer c.in-Some.others alg
          (wanted_before h.goes c.in-Some.signer alg w)))) test
          (asks c.in-Some.signer (among_all h.before c.in-Some.signer c.in-Some.others c.args.signers.now all)));
      goes = goes_further h.goes c.in-Ok.ensures.same c.in-Ok.ensures.count c.in-Ok.ensures.stays;
    }

pub returns-in-Some-latest-clause-none : goal.returns-in-Some-latest-clause-none
returns-in-Some-latest-clause-none g c = λ empty.
    let h = c.loop-signer.invariant in
    let left : length c.loop-signer.left ≡ 0 = ap (λ (xs : List SignerValue). length xs) c.in_default.ensures in
    let all : length c.again-left.result ≡ length c.args.signers.now =
    ap (λ (xs : List SignerValue). length xs) c.again-left.ensures in
    let none : length c.args.signers.now ≡ 0 = ap (λ (xs : List SignerValue). length xs) empty in
    absurd (let z = h.first (omega (arith, left, all, none, h.counted, c.len-count.ensures)) in
    let k = c.in-Some-latest.is in cc)

pub returns-in-Some-latest-clause-judged : goal.returns-in-Some-latest-clause-judged
returns-in-Some-latest-clause-judged g c = λ some t is content has.
    let h = c.loop-signer.invariant in
    let all : h.before ≡ c.args.signers.now = sym (append-nil h.before)
    ∙ ap (λ (xs : List SignerValue). h.before ++ xs) (sym c.in_default.ensures) ∙ h.all in
    let latest : Passed t content c.args.econtent_type.now h.before (Some c.in-Some-latest.moment) =
    subst (λ (o : Option ℕ). Passed t content c.args.econtent_type.now h.before o) c.in-Some-latest.is
    (h.so_far t is content has) in
    passed_all t content c.args.econtent_type.now c.args.signers.now c.in-Some-latest.moment
    (subst (λ (xs : List SignerValue). Passed t content c.args.econtent_type.now xs (Some c.in-Some-latest.moment)) all
    latest)

pub returns-in-Err-clause-only : goal.returns-in-Err-clause-only
returns-in-Err-clause-only g c = λ t is content has test asks.
    let h = c.loop-signer.invariant in
    let all : h.before ++ c.in-Some.signer ∷ c.in-Some.others ≡ c.args.signers.now =
    ap (λ (xs : List SignerValue). h.before ++ xs)
    (sym c.in-Some.ensures) ∙ h.all in
    g.V.Verifier.asked_further test _ _ _ (h.only t is content has test asks)
    (c.in-Err.ensures.only t (still_terms h.goes t is) content has.0
    (λ alg w. has.1 alg (subst (λ (xs : List SignerValue). WantedBy c.args.checker.now.policy xs alg) all
    (wanted_among c.args.checker.now.policy h.before c.in-Some.signer c.in-Some.others alg
    (wanted_before h.goes c.in-Some.signer alg w)))) test
    (asks c.in-Some.signer (among_all h.before c.in-Some.signer c.in-Some.others c.args.signers.now all)))

pub returns-in-Some-latest-clause-lacking : goal.returns-in-Some-latest-clause-lacking
returns-in-Some-latest-clause-lacking g c = λ alg wanted missing.
    let h = c.loop-signer.invariant in
    let all : h.before ≡ c.args.signers.now = sym (append-nil h.before)
    ∙ ap (λ (xs : List SignerValue). h.before ++ xs) (sym c.in_default.ensures) ∙ h.all in
    let there : is_in alg (set_given c.args.digests.now) ≡ true =
    h.had alg (subst (λ (xs : List SignerValue). WantedBy c.args.checker.now.policy xs alg) (sym all) wanted) in
    let never : false ≡ true = sym missing ∙ there in
    absurd cc

pub returns-in-Err-clause-kind : goal.returns-in-Err-clause-kind
returns-in-Err-clause-kind g c = λ some.
    let h = c.loop-signer.invariant in
    let one_less : length c.loop-signer.left ≡ suc (length c.in-Some.others) =
    ap (λ (xs : List SignerValue). length xs) c.in-Some.ensures in
    let all : length c.again-left.result ≡ length c.args.signers.now =
    ap (λ (xs : List SignerValue). length xs) c.again-left.ensures in
    rw (c.numbered.ensures) (numbered_of (length c.args.signers.now) (c.loop-signer.number + 1) c.in-Err.refused
    (omega (arith), omega (arith, one_less, h.counted, c.len-count.ensures, all)))

pub returns-in-Some-latest-clause-only : goal.returns-in-Some-latest-clause-only
returns-in-Some-latest-clause-only g c = λ t is content has test asks.
    let h = c.loop-signer.invariant in
    h.only t is content has test asks
