use Rattle.std.proofs.Common.{◌≡◌, ◌++◌, ℕ, List, Err, sym, ap, ◌∙◌, arith}
use Rattle.std.proofs.lemmas.Result.{err_from_is_err_and}
use Rattle.evidence_making.specs.declared.fault.MakeFault.TheVariants.{TooLong}
use Rattle.evidence_making.specs.Frames.{frame_value, its_lists, stamp_inside, head_octets, chains_octets}
use Rattle.evidence_making.proofs.Lengths.{lists_less_whole}
use Rattle.evidence_making.proofs.Octets.{all_octets}
use Rattle.evidence_making.proofs.putting.record_of.Goals as goal

pub returns-in_err-put_stamp-clause-too_long : goal.returns-in_err-put_stamp-clause-too_long
returns-in_err-put_stamp-clause-too_long c =
    let r = err_from_is_err_and c.from_residual-in_err-put_stamp.result c.from_residual-in_err-put_stamp.ensures.1 in (
      λ t. let same : c.in_err-put_stamp.field-0.0 ≡ TooLong = let z = sym (r.1 ∙ ap Err r.2) ∙ t in cc in
          let long = c.in_err-put_stamp.ensures.too_long (ap Err same) in
          omega (
            arith,
            long,
            lists_less_whole (frame_value c.args.frame.now)
                (its_lists c.args.frame.now c.args.values.now) c.args.token.now,
          ),
      λ h. absurd (let z = c.in_ok-headers.ensures.too_long.1 h in cc),
    )

pub returns-clause-octets : goal.returns-clause-octets
returns-clause-octets c =
    let f = frame_value c.args.frame.now in
    let h = c.in_ok-headers.headers in
    let stamp : List ℕ = stamp_inside f.alg (its_lists c.args.frame.now c.args.values.now) c.args.token.now in
    let head : c.put_head.new.out.items ≡ head_octets h f = c.in_ok-put_head.ensures
    ∙ ap (λ (x : List ℕ). x ++ head_octets h f) c.in_ok-out.ensures.items in
    c.in_ok-put_stamp.ensures.put ∙ ap (λ (x : List ℕ). x ++ stamp) (c.in_ok-put_chains.ensures
    ∙ ap (λ (x : List ℕ). x ++ chains_octets h f) head)
    ∙ all_octets f (its_lists c.args.frame.now c.args.values.now) c.args.token.now h c.in_ok-headers.ensures.headers
