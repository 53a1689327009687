use Rattle.std.specs.Option.{option_copied}
use Rattle.std.specs.Str.{IsUtf8}
use Rattle.cli_rehashing.specs.Footings.{AreLineFootings}
use Rattle.cli_rehashing.proofs.Lines.{are_some, of_first, one_more}
use Rattle.cli_rehashing.proofs.Walks.{ends, first_of}
use Rattle.cli_rehashing.proofs.footings.footings_of.Goals as goal

pub loop-sum-preserved : goal.loop-sum-preserved
loop-sum-preserved g c = record {
  named = (first_of (λ s. IsUtf8 s.name) c.in-Some.sum _ _ c.in-Some.ensures c.loop-sum.invariant.named).1;
  walked = one_more g.K.KeepsBelow.ways (option_copied c.args.token) c.args.folder.now c.in-Some.sum _ _
      c.args.sums.now c.loop-sum.footings.items c.in-Some.ensures c.loop-sum.invariant.walked c.in_ok-footing.footing
      c.in_ok-footing.ensures.found _ c.in_ok-push.ensures.items;
}

pub returns-clause-by : goal.returns-clause-by
returns-clause-by g c =
    of_first g.K.KeepsBelow.ways (option_copied c.args.token) c.args.folder.now c.requires.0 c.requires.1
    c.args.sums.now c.requires.2 c.loop-sum.footings.items
    (ends (λ front. AreLineFootings g.K.KeepsBelow.ways (option_copied c.args.token) c.args.folder.now front
    c.loop-sum.footings.items) c.loop-sum.left c.args.sums.now c.in_default.ensures c.loop-sum.invariant.walked)

pub returns-clause-some : goal.returns-clause-some
returns-clause-some g c =
    are_some g.K.KeepsBelow.ways (option_copied c.args.token) c.args.folder.now c.requires.0 c.requires.1
    c.args.sums.now c.requires.2 c.loop-sum.footings.items
    (ends (λ front. AreLineFootings g.K.KeepsBelow.ways (option_copied c.args.token) c.args.folder.now front
    c.loop-sum.footings.items) c.loop-sum.left c.args.sums.now c.in_default.ensures c.loop-sum.invariant.walked)
