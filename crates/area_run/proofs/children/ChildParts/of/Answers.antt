use Rattle.std.proofs.Common.{◌≡◌, ◌∙◌, ℕ, ◌≤◌, arith, min, length}
use Rattle.area_run.proofs.JoinCalls.{of_first, of_near, of_parts}
use Rattle.area_run.proofs.SlotCalls.{addable}
use Rattle.area_run.proofs.children.ChildParts.of.Goals as goal

min_left : (m a b : ℕ) → m ≡ min a b → m ≤ a
min_left m a b e = grind (arith, e)

min_right : (m a b : ℕ) → m ≡ min a b → m ≤ b
min_right m a b e = grind (arith, e)

pub put_rows-requires-clause-slow : goal.put_rows-requires-clause-slow
put_rows-requires-clause-slow c = (addable c.args.plan.now.grid.g c.args.b.now.ylo c.args.b.now.yhi c.args.plan.now.e.v c.args.y c.requires.plan.grid.g c.requires.reach.ylo c.requires.reach.yhi c.requires.reach.y c.requires.plan.bounds.v c.requires.child c.slots_of-first.ensures.convex).slow

pub put_rows-requires-clause-first : goal.put_rows-requires-clause-first
put_rows-requires-clause-first c = of_first c.args.plan.now c.args.b.now c.requires.plan c.requires.reach c.args.y c.requires.child c.slots_of-first.ensures.convex c.slots_of-first.result.0 c.slots_of-first.result.1 c.min-few.result
    c.slots_of-first.ensures.first c.slots_of-first.ensures.count (min_left _ _ _ c.min-few.ensures)

pub put_rows-requires-clause-near : goal.put_rows-requires-clause-near
put_rows-requires-clause-near c = of_near c.args.plan.now c.args.b.now c.requires.plan c.requires.reach c.args.y c.requires.child c.slots_of-first.ensures.convex c.slots_of-first.result.0 c.slots_of-first.result.1 c.min-few.result
    c.slots_of-first.ensures.first c.slots_of-first.ensures.count (min_left _ _ _ c.min-few.ensures)

pub returns-clause-parts : goal.returns-clause-parts
returns-clause-parts c = of_parts c.args.plan.now c.args.b.now c.requires.plan c.requires.reach c.args.y c.requires.child c.slots_of-first.ensures.convex c.slots_of-first.result.0 c.slots_of-first.result.1 c.min-few.result
    c.slots_of-first.ensures.first c.slots_of-first.ensures.count (min_left _ _ _ c.min-few.ensures) c.put_rows.new.rows (min_right _ _ _ c.min-few.ensures) c.put_rows.ensures.count c.put_rows.ensures.parts
