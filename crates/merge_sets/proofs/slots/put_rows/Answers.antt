use Rattle.std.proofs.Common.{◌≡◌, ◌∙◌, ◌<◌, ◌≤◌, ◌+ℤ◌, arith, sym, subst, length, ℕ, ℤ, pos, to_z, of_z, w64}
use Rattle.merge_sets.specs.Cells.{AreRows, IsPartNumbers}
use Rattle.convex_poly.proofs.Wide.{back}
use Rattle.merge_sets.proofs.PartSlots.{read}
use Rattle.merge_sets.proofs.RowLists.{rows_more, slot_read, rows_at, counter_small}
use Rattle.merge_sets.proofs.slots.put_rows.Goals as goal

pub loop-j-preserved : goal.loop-j-preserved
loop-j-preserved c = rows_more c.loop-j.j (read c.args.width) (read c.args.first) c.args.k c.args.p.now c.loop-j.rows c.slot_numbers.result c.loop-j.invariant
    (omega (arith, c.loop-j-test.true, c.requires.room, c.loop-j.auto.rows))
    (subst (λ (z : ℤ). IsPartNumbers (read c.args.width) z c.args.k c.args.p.now c.slot_numbers.result)
    (slot_read c.args.first c.from.result c.loop-j.j c.requires.first (back c.args.first c.ranges.first.sfits) (counter_small c.loop-j.j c.args.n c.loop-j-test.true c.ranges.n.fits) c.from.ensures) c.slot_numbers.ensures.part)
    c.slot_numbers.ensures.sound

pub returns-clause-parts : goal.returns-clause-parts
returns-clause-parts c = rows_at c.loop-j.j c.args.n (read c.args.width) c.args.width (read c.args.first) c.args.first c.args.k c.args.p.now c.loop-j.rows (omega (arith, c.loop-j-test.false, c.loop-j.auto.j-end)) (back c.args.width c.ranges.width.sfits) (back c.args.first c.ranges.first.sfits) c.loop-j.invariant
