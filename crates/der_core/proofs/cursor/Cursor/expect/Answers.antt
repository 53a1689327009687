use Rattle.der_core.proofs.Moved.{expect_found, expect_only, expect_faulty}
use Rattle.der_core.proofs.cursor.Cursor.expect.Goals as goal

pub returns-clause-found : goal.returns-clause-found
returns-clause-found c = expect_found c.args.tag c.args.self.now c.expect_element.new.self c.expect_element.result
    (rw (← c.self.view_is) c.self.invariant.1) c.expect_element.ensures

pub returns-clause-only : goal.returns-clause-only
returns-clause-only c =
    expect_only c.args.tag c.args.self.now c.expect_element.new.self c.expect_element.result c.expect_element.ensures

pub returns-clause-fault : goal.returns-clause-fault
returns-clause-fault c = expect_faulty c.args.tag c.args.self.now c.expect_element.new.self c.expect_element.result
    (rw (← c.self.view_is) c.self.invariant.1) c.expect_element.ensures
