use Rattle.std.proofs.Common.{◌≡◌, ◌<◌, ◌+◌, suc, List, length, sym, ap, ◌∙◌, arith, All, Bor, subst}
use Rattle.digests.specs.Algorithms.{length_of}
use Rattle.digests.specs.Digests.{alg_of}
use Rattle.digests.specs.declared.value.Digest.{Digest}
use Rattle.evidence_trees.proofs.leaves.push_once.Goals as goal

pub push-requires-then-not-is_same : goal.push-requires-then-not-is_same
push-requires-then-not-is_same c =
    let size = c.args.leaves.now.size in
    let all = subst (λ (ds : List (Bor Digest)). All (λ d. length_of (alg_of d.now) ≡ size) ds)
    c.in-Some.ensures.cases.0 c.requires.size in
    let below : suc c.loop-digest.digest-index < length c.in-Some.others.now + 1 =
    omega (arith, c.loop-digest-test.true) in
    ap length c.bytes-octets.ensures.octets
    ∙ (c.bytes-octets.ensures.count ∙ all (suc c.loop-digest.digest-index) _ (omega (arith, below)))
    ∙ sym (c.loop-digest.invariant.size ∙ c.in_ok-push.ensures.size)
