use Rattle.std.proofs.Common.{◌≡◌, List, All, sym, subst}
use Rattle.std.proofs.lemmas.List.Elements.{All-push}
use Rattle.digests.specs.Digests.{alg_of}
use Rattle.digests.specs.declared.value.Digest.{Digest}
use Rattle.making_tests.proofs.making.with.Goals as goal

pub returns : goal.returns
returns c =
    subst (λ (ds : List Digest). All (λ d. alg_of d ≡ c.args.alg) ds) (sym c.in_ok-push.ensures.items)
    (All-push (λ d. alg_of d ≡ c.args.alg) c.args.digests.items c.args.other c.requires.all c.requires.other)
