use Rattle.std.proofs.Common.{◌+◌, ◌∙◌, ℕ, length, refl, subst}
use Rattle.lanelets.specs.Listing.{AreBelow}
use Rattle.lanelets.proofs.LevelLaws.{noted_first, way_more}
use Rattle.lanelets.proofs.levels.lower_from.Goals as goal

pub loop-init : goal.loop-init
loop-init c = (
  refl,
  noted_first (length c.args.numbers.now) c.args.c c.args.noted.now.items c.push.new.self.items c.requires.noted c.in_ok-push.ensures.items c.requires.within,
  λ first u. way_more c.args.pairs.now first c.args.numbers.now c.args.noted.now.items c.push.new.self.items c.args.c c.in_ok-push.ensures.items u,
)

pub loop-preserved : goal.loop-preserved
loop-preserved c = (
  c.lower_next.auto.numbers ∙ c.loop.invariant.0,
  subst (λ (z : ℕ). AreBelow z c.lower_next.new.noted.items) c.loop.invariant.0 c.in_ok-lower_next.ensures.noted,
  λ first u. c.in_ok-lower_next.ensures.under_way first (c.args.c + 1) (c.loop.invariant.2 first u),
)

pub returns-clause-under_way : goal.returns-clause-under_way
returns-clause-under_way c = λ first u. c.in_ok-lower_next.ensures.under_way first (c.args.c + 1) (c.loop.invariant.2 first u)
