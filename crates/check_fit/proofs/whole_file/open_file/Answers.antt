use Rattle.std.proofs.Common.{rules, ◌≡◌, Bool, List, Ok, Err, subst}
use Rattle.std.specs.Prelude.{◌↔◌, IsTrue, is_some}
use Rattle.digests.specs.declared.algorithm.Alg.{Alg}
use Rattle.digests.specs.Sets.{is_in}
use Rattle.digests.specs.Selection.{set_given}
use Rattle.cms_types.specs.SignerValue.{SignerValue}
use Rattle.check_fit.specs.Fitting.{WantedBy}
use Rattle.check_fit.specs.FileFitting.{facts_of, placed, file_rules, Opens}
use Rattle.check_fit.proofs.FileLaw.{provided, placed_from, unhashed, opens, by_digests}
use Rattle.check_fit.proofs.whole_file.open_file.Goals as goal

pub returns-in_err-digests : goal.returns-in_err-digests
returns-in_err-digests g c =
    let reading = c.in_ok-signed.ensures in
    let v = c.in_ok-signed.signed in
    let left : file_rules reading.0 (is_some c.args.content.now) ≡ Ok v =
    subst (λ (b : Bool). file_rules reading.0 b ≡ Ok v) c.is_some.ensures reading.2 in
    let r : c.from_residual-in_err-digests.result ≡ Err c.in_err-digests.field-0.0 = search rules in (
      reading.0,
      reading.1,
      rw (r) (unhashed (facts_of g.S.Source.tells g.S.Source.rest g.S.Source.failures)
          (Opens c.args.policy.now) c.wanted_by-wanted.result v
          (placed v v.encapsulated.content (is_some c.args.content.now))
          (file_rules reading.0 (is_some c.args.content.now))
          (placed_from reading.0 (is_some c.args.content.now) v left) left
          c.args.content.now c.hash_content.new.content c.in_err-digests.field-0.0 c.in_err-digests.ensures),
    )

pub returns : goal.returns
returns g c =
    let reading = c.in_ok-signed.ensures in
    let v = c.in_ok-signed.signed in
    let left : file_rules reading.0 (is_some c.args.content.now) ≡ Ok v =
    subst (λ (b : Bool). file_rules reading.0 b ≡ Ok v) c.is_some.ensures reading.2 in
    let wanted : (alg : Alg) → IsTrue (is_in alg c.wanted_by-wanted.result) ↔ WantedBy c.args.policy.now v.signers alg =
    subst (λ (xs : List SignerValue). (alg : Alg)
    → IsTrue (is_in alg c.wanted_by-wanted.result) ↔ WantedBy c.args.policy.now xs alg)
    c.signers.ensures c.wanted_by-wanted.ensures in (
      reading.0,
      reading.1,
      by_digests (facts_of g.S.Source.tells g.S.Source.rest g.S.Source.failures)
          (Opens c.args.policy.now) c.wanted_by-wanted.result v
          (placed v v.encapsulated.content (is_some c.args.content.now))
          (file_rules reading.0 (is_some c.args.content.now))
          (placed_from reading.0 (is_some c.args.content.now) v left) left
          c.args.content.now c.hash_content.new.content c.in_ok-digests.digests (Ok (v, c.in_ok-digests.digests))
          (λ content set are.
          opens c.args.policy.now content reading.0 (is_some c.args.content.now) v c.in_ok-digests.digests left (
            are,
            provided c.args.policy.now v.signers c.wanted_by-wanted.result
                (set_given c.in_ok-digests.digests) set wanted,
          ))
          c.in_ok-digests.ensures,
    )
