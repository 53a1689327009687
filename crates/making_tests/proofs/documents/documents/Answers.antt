use Rattle.std.proofs.Common.{◌≡◌, List, All, sym, subst}
use Rattle.std.proofs.lemmas.List.Elements.{All-push}
use Rattle.digests.specs.Digests.{alg_of}
use Rattle.digests.specs.declared.value.Digest.{Digest}
use Rattle.making_tests.proofs.documents.documents.Goals as goal

pub loop-number-preserved : goal.loop-number-preserved
loop-number-preserved c =
    subst (λ (ds : List Digest). All (λ d. alg_of d ≡ c.args.alg) ds) (sym c.in_ok-push.ensures.items)
    (All-push (λ d. alg_of d ≡ c.args.alg) c.loop-number.documents.items c.digest-document.result
    c.loop-number.invariant c.digest-document.ensures.algorithm)
