use Rattle.der_core.proofs.Moved.{open_found, open_faulty}
use Rattle.der_core.proofs.cursor.Cursor.open.Goals as goal

pub returns-clause-found : goal.returns-clause-found
returns-clause-found c = open_found c.args.tag c.args.self.now c.open_element.new.self c.open_element.result
    (rw (← c.self.view_is) c.self.invariant.1) c.open_element.ensures.moves

pub returns-clause-fault : goal.returns-clause-fault
returns-clause-fault c = open_faulty c.args.tag c.args.self.now c.open_element.new.self c.open_element.result
    (rw (← c.self.view_is) c.self.invariant.1) c.open_element.ensures.moves
