use Rattle.std.proofs.Common.{◌∙◌, ap, ◌+◌, ◌&&◌, ◌++◌, List, ℕ, drop, arith}
use Rattle.der_core.specs.Lists.{is_same}
use Rattle.cms_stream.proofs.OidTests.{drop_step}
use Rattle.cms_stream.proofs.type_test.SignedDataTestTaker.take.Goals as goal

pub loop-octet-preserved : goal.loop-octet-preserved
loop-octet-preserved c zs =
    let xs : List ℕ = c.args.octets.now in
    let k : ℕ = c.loop-octet.octet-index in
    c.loop-octet.invariant zs
    ∙ ap (λ (ys : List ℕ). c.loop-octet.self.same && is_same c.loop-octet.self.left.now ys)
    (drop_step xs zs k (omega arith))
    ∙ c.step.ensures (drop (k + 1) xs ++ zs)
