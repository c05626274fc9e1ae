use Rattle.scenario.specs.Table.{number_of}
use Rattle.scenario.proofs.Finds.{says_ok, past_ok}
use Rattle.scenario.proofs.numbers.read_number.Goals as goal

pub returns-then-is_past : goal.returns-then-is_past
returns-then-is_past c =
    let k = c.in-Ok.ensures.ok in
    past_ok (number_of c.args.number.now) c.args.text.now c.places.result c.in-Ok.reading c.is_past.result c.places.ensures.same k.0 k.1 k.2 c.is_past.ensures c.if-is_past.true

pub returns-else-is_past : goal.returns-else-is_past
returns-else-is_past c =
    let k = c.in-Ok.ensures.ok in
    says_ok (number_of c.args.number.now) c.args.text.now c.places.result c.in-Ok.reading c.is_past.result c.places.ensures.same k.0 k.1 k.2 c.is_past.ensures c.if-is_past.false
