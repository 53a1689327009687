use Rattle.cms_stream_laws.proofs.Windows.{six_octets}
use Rattle.cms_stream_laws.proofs.six_octets_decide.Goals as goal

pub returns : goal.returns
returns c = six_octets
