use Rattle.der_core.proofs.Moved.{optional_none, optional_found, optional_only, optional_faulty, optional_stays}
use Rattle.der_core.proofs.cursor.Cursor.optional.Goals as goal

pub returns-clause-none : goal.returns-clause-none
returns-clause-none c = optional_none c.args.tag c.args.self.now c.optional_element.new.self c.optional_element.result
    c.optional_element.ensures

pub returns-clause-found : goal.returns-clause-found
returns-clause-found c = optional_found c.args.tag c.args.self.now c.optional_element.new.self c.optional_element.result
    (rw (← c.self.view_is) c.self.invariant.1) c.optional_element.ensures

pub returns-clause-only : goal.returns-clause-only
returns-clause-only c = optional_only c.args.tag c.args.self.now c.optional_element.new.self c.optional_element.result
    c.optional_element.ensures

pub returns-clause-fault : goal.returns-clause-fault
returns-clause-fault c =
    optional_faulty c.args.tag c.args.self.now c.optional_element.new.self c.optional_element.result
    (rw (← c.self.view_is) c.self.invariant.1) c.optional_element.ensures

pub returns-clause-stays_at_none : goal.returns-clause-stays_at_none
returns-clause-stays_at_none c = optional_stays c.args.tag c.args.self.now c.optional_element.new.self
    c.optional_element.result c.optional_element.ensures
