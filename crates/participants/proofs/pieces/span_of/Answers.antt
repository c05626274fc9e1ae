use Rattle.participants.proofs.Heights.{span_by_box}
use Rattle.participants.proofs.pieces.span_of.Goals as goal

pub returns-in-Some-clause-piece : goal.returns-in-Some-clause-piece
returns-in-Some-clause-piece c = span_by_box c.args.o.now c.args.bounds.now c.in-Some.bounds c.cut_span.result c.in-Some.is c.cut_span.ensures
