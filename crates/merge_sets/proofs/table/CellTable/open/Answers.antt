use Rattle.std.proofs.Common.{◌≡◌, ◌∙◌, arith, refl, subst}
use Rattle.merge_sets.proofs.Openings.{opened_none, opened_more, opened_table}
use Rattle.merge_sets.proofs.table.CellTable.open.Goals as goal

pub loop-preserved : goal.loop-preserved
loop-preserved c = opened_more c.loop.counter c.loop.cells.items c.push.new.self.items c.empty_cell.result c.loop.rows.items c.push-in-loop.new.self.items c.loop.invariant c.empty_cell.ensures c.in_ok-push.ensures.items c.in_ok-push-2.ensures.items

pub invariant_of-result : goal.invariant_of-result
invariant_of-result c = opened_table c.loop.counter c.loop.cells.items c.loop.rows.items c.none.result c.none.ensures.near c.none.ensures.none c.loop.invariant
