use Rattle.digests.proofs.laws.oids_are_good.Goals as goal
use Rattle.digests.proofs.Named.{contents_formed, contents_short, contents_distinct}

pub returns : goal.returns
returns c = record {
  formed = contents_formed;
  short = contents_short;
  distinct = contents_distinct;
}
