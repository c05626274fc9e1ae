use Rattle.std.proofs.Common.{◌≡◌, ◌∙◌, ◌<◌, ◌≤◌, ◌+ℤ◌, arith, sym, subst, length, ℕ, ℤ, pos, to_z, of_z, w64, Some, None, ◌+◌}
use Rattle.merge_sets.specs.Cells.{JoinsColumns, IsPartNumbers, numbers_of}
use Rattle.convex_poly.proofs.Wide.{back}
use Rattle.merge_sets.proofs.PartSlots.{read}
use Rattle.merge_sets.proofs.RowLists.{slot_read, counter_small}
use Rattle.merge_sets.proofs.Joins.{both_eight}
use Rattle.merge_sets.proofs.ColumnLists.{columns_none, columns_skip, columns_more}
use Rattle.merge_sets.proofs.columns.join_columns.Goals as goal
use Rattle.merge_sets.proofs.columns.join_columns.Goals.{in-Some, in_default}

pub loop-i-init : goal.loop-i-init
loop-i-init c = columns_none c.args.at c.args.stride c.args.m (read c.args.width) (read c.args.first) c.args.k c.args.x.now c.args.rows.now c.requires.apart c.args.cells.now c.requires.cells

pub join_column-requires-clause-cells : goal.join_column-requires-clause-cells
join_column-requires-clause-cells c = λ i d g. both_eight _ (numbers_of d) (c.loop-i.invariant.sound i d g)

pub join_column-requires-clause-eights : goal.join_column-requires-clause-eights
join_column-requires-clause-eights c = λ j f l g. (c.requires.eights j f l g).eight

pub loop-i-preserved : goal.loop-i-preserved
loop-i-preserved c =
    let column : read (read c.args.first +ℤ read c.from.result) ≡ read c.args.first +ℤ pos c.loop-i.i = slot_read c.args.first c.from.result c.loop-i.i c.requires.first (back c.args.first c.ranges.first.sfits) (counter_small c.loop-i.i c.args.n c.loop-i-test.true c.ranges.n.fits) c.from.ensures in
    elim c.match-slot_numbers.branch [
      | in-Some w ↦ subst (JoinsColumns c.args.at c.args.stride (c.loop-i.i + 1) c.args.m (read c.args.width) (read c.args.first) c.args.k c.args.x.now c.args.rows.now c.args.cells.now) (sym w.cells-is)
          (columns_more c.args.at c.args.stride c.args.m (read c.args.width) (read c.args.first) c.args.k c.args.x.now c.args.rows.now c.requires.apart c.loop-i.i c.args.cells.now c.loop-i.cells _ w.in-Some.numbers c.loop-i.invariant
          (subst (λ (z : ℤ). IsPartNumbers (read c.args.width) z c.args.k c.args.x.now (Some w.in-Some.numbers)) column w.in-Some.ensures.part)
          w.in-Some.ensures.sound c.requires.few c.requires.eights w.join_column.ensures)
      | in_default w ↦ subst (JoinsColumns c.args.at c.args.stride (c.loop-i.i + 1) c.args.m (read c.args.width) (read c.args.first) c.args.k c.args.x.now c.args.rows.now c.args.cells.now) (sym w.cells-is)
          (columns_skip c.args.at c.args.stride c.args.m (read c.args.width) (read c.args.first) c.args.k c.args.x.now c.args.rows.now c.requires.apart c.loop-i.i c.args.cells.now c.loop-i.cells c.loop-i.invariant
          (subst (λ (z : ℤ). IsPartNumbers (read c.args.width) z c.args.k c.args.x.now None) column w.in_default.ensures.part))
    ]
