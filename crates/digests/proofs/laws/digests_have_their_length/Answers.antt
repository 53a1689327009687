use Rattle.digests.proofs.laws.digests_have_their_length.Goals as goal
use Rattle.digests.proofs.Lengths.{digest_length, length_most}

pub returns : goal.returns
returns c = record { length = digest_length; most = length_most }
