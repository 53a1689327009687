use Rattle.digests.proofs.laws.algorithms_are_named.Goals as goal
use Rattle.digests.proofs.Named.{named_says, named_is, alg_says, alg_is}

pub returns : goal.returns
returns c = record {
  named = λ a alg. (named_says a alg, named_is a alg);
  same = λ a b. (alg_says a b, alg_is a b);
}
