use Rattle.scenario.proofs.fault.fault_from.Goals as goal

pub returns-then-start-eq3 : goal.returns-then-start-eq3
returns-then-start-eq3 c = c.requires.states c.if-has_states.true c.if-start-eq3.true
