use Rattle.std.proofs.Common.{◌∙◌}
use Rattle.lane_paths.proofs.ShortestLengthLaws.{none_left}
use Rattle.lane_paths.proofs.links.relax_all.Goals as goal

pub returns-clause-settled : goal.returns-clause-settled
returns-clause-settled c = λ p first u.
    none_left c.args.net.now p c.args.search.now.limit first c.relax_next.new.search (c.in_ok-relax_next.ensures.limit ∙ c.loop.invariant.2) (c.in_ok-relax_next.ensures.none c.if-branch.false) (c.in_ok-relax_next.ensures.under_way p first (c.loop.invariant.3 p first u))
