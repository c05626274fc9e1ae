use Rattle.std.proofs.Common.{◌≡◌, arith, subst}
use Rattle.lanelets.specs.Levels.{AreOwn}
use Rattle.lanelets.proofs.ClassLaws.{own_none, own_more}
use Rattle.lanelets.proofs.classes.own_numbers.Goals as goal

pub loop-c-init : goal.loop-c-init
loop-c-init c = own_none c.in_ok-numbers.numbers.items c.in_ok-numbers.ensures.items

pub loop-c-preserved : goal.loop-c-preserved
loop-c-preserved c = own_more c.loop-c.c c.loop-c.numbers.items c.push.new.self.items c.loop-c.invariant c.in_ok-push.ensures.items

pub returns : goal.returns
returns c = let h : c.loop-c.c ≡ c.args.count = omega (arith, c.loop-c-test.false, c.loop-c.auto.c-end) in subst (λ n. AreOwn n c.loop-c.numbers.items) h c.loop-c.invariant
