use Rattle.evidence_sums.proofs.WrittenLines.{fits}
use Rattle.evidence_sums.proofs.laws.reading_fits_writing.Goals as goal

pub returns : goal.returns
returns c = fits
