use Rattle.evidence_making.proofs.Already.{fits_if, never_fits}
use Rattle.evidence_making.proofs.done.fits_over.Goals as goal

pub returns-in-Some-clause-fits : goal.returns-in-Some-clause-fits
returns-in-Some-clause-fits c =
    fits_if c.roots_are_unique.ensures.unique c.args.stamp.now c.args.leaf.now c.in-Some.root c.args.last
    c.stamp.result.now c.is_stamped.result c.stamp.ensures (rw c.in-Some.is at c.in_ok-root.ensures.root)
    c.is_stamped.ensures

pub returns-in-None-clause-fits : goal.returns-in-None-clause-fits
returns-in-None-clause-fits c = never_fits c.args.stamp.now c.args.leaf.now c.args.last
    (rw c.in-None.is at c.in_ok-root.ensures.root)
