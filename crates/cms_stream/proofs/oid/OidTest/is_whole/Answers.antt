use Rattle.cms_stream.proofs.OidTests.{whole_begins, whole_started, whole_sound}
use Rattle.cms_stream.proofs.oid.OidTest.is_whole.Goals as goal

pub returns-then-self-2-clause-whole : goal.returns-then-self-2-clause-whole
returns-then-self-2-clause-whole c m h = whole_begins c.args.self.now m c.if-self.true c.if-self-2.true h

pub returns-else-self-2-clause-whole : goal.returns-else-self-2-clause-whole
returns-else-self-2-clause-whole c m h = whole_started c.args.self.now m c.if-self.true c.if-self-2.false h

pub returns-else-self-clause-whole : goal.returns-else-self-clause-whole
returns-else-self-clause-whole c m h = whole_sound c.args.self.now m c.if-self.false h
