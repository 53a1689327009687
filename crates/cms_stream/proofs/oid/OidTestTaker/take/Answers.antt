use Rattle.std.proofs.Common.{◌∙◌, ap, ◌+◌, ◌&&◌, ◌++◌, List, ℕ, drop, get_or, arith}
use Rattle.cms_stream.specs.Oids.{oid_from}
use Rattle.cms_stream.proofs.OidTests.{one_more, drop_step}
use Rattle.cms_stream.proofs.oid.OidTestTaker.take.Goals as goal

pub loop-octet-preserved : goal.loop-octet-preserved
loop-octet-preserved c zs =
    let xs : List ℕ = c.args.octets.now in
    let k : ℕ = c.loop-octet.octet-index in
    c.loop-octet.invariant zs
    ∙ ap (λ (ys : List ℕ). c.loop-octet.self.sound && oid_from c.loop-octet.self.started c.loop-octet.self.begins ys)
    (drop_step xs zs k (omega arith))
    ∙ one_more c.loop-octet.self c.step.new.self (get_or xs k 0)
    (drop (k + 1) xs ++ zs) c.step.ensures.sound c.step.ensures.started c.step.ensures.begins
