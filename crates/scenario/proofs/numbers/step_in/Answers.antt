use Rattle.scenario.proofs.Readings.{step_none, step_some}
use Rattle.scenario.proofs.numbers.step_in.Goals as goal

pub returns-in-Ok-clause-none : goal.returns-in-Ok-clause-none
returns-in-Ok-clause-none c =
    let k = c.in-Ok.ensures.ok in
    step_none c.ticks_of.result c.args.text.now c.in-Ok.reading k.0 k.1 k.2 c.ticks_of.ensures.none

pub returns-in-Ok-clause-uneven : goal.returns-in-Ok-clause-uneven
returns-in-Ok-clause-uneven c =
    let k = c.in-Ok.ensures.ok in
    step_some c.ticks_of.result c.args.text.now c.in-Ok.reading k.1 k.2 c.ticks_of.ensures.some
