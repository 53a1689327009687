use Rattle.cms_stream.proofs.TypeTests.{same_whole, same_other}
use Rattle.cms_stream.proofs.type_test.SignedDataTest.is_whole.Goals as goal

pub returns-then-self : goal.returns-then-self
returns-then-self c m h = same_whole c.args.self.now m c.is_empty.result c.if-self.true c.is_empty.ensures h

pub returns-else-self : goal.returns-else-self
returns-else-self c m h = same_other c.args.self.now m c.if-self.false h
