use Rattle.der_core.proofs.Moved.{next_found, next_only, next_faulty}
use Rattle.der_core.proofs.cursor.Cursor.next.Goals as goal

pub returns-clause-found : goal.returns-clause-found
returns-clause-found c = next_found c.args.self.now c.next_element.new.self c.next_element.result
    (rw (← c.self.view_is) c.self.invariant.1) c.next_element.ensures

pub returns-clause-only : goal.returns-clause-only
returns-clause-only c = next_only c.args.self.now c.next_element.new.self c.next_element.result c.next_element.ensures

pub returns-clause-fault : goal.returns-clause-fault
returns-clause-fault c = next_faulty c.args.self.now c.next_element.new.self c.next_element.result
    (rw (← c.self.view_is) c.self.invariant.1) c.next_element.ensures
