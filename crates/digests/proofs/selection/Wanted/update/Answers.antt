use Rattle.digests.proofs.selection.Wanted.update.Goals as goal

pub returns-clause-fed : goal.returns-clause-fed
returns-clause-fed c = λ m fed. record {
  sha1 = c.feed_sha1.ensures.fed m fed.sha1;
  short = c.feed_short.ensures.fed m fed.short;
  long = c.feed_long.ensures.fed m fed.long;
}
