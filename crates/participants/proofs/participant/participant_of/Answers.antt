use Rattle.participants.proofs.Outsets.{holding}
use Rattle.participants.proofs.participant.participant_of.Goals as goal

pub returns : goal.returns
returns c =
    let o = c.requires.outset in
    holding c.args.net.now c.args.h.k c.args.h.steps c.args.m.now c.args.outset.now.start.start c.args.outset.now.start.speed c.args.outset.now.labels c.is_some.result c.in_ok-polys.polys c.in_ok-octs.octs
    o.start o.range o.lane c.in_ok-polys.ensures c.in_ok-octs.ensures.exact c.in_ok-octs.ensures.small c.is_some.ensures
