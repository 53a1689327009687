use Rattle.cms_stream.proofs.OidTests.{oid_is}
use Rattle.cms_stream.proofs.oid.OidTest.new.Goals as goal

pub returns : goal.returns
returns c = oid_is
