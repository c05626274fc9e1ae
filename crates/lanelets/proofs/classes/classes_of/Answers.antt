use Rattle.std.proofs.Common.{◌∙◌, sym}
use Rattle.lanelets.specs.Steps.{net_of}
use Rattle.lanelets.proofs.ClassLaws.{classes_listed, number_rows, rows_low, rows_turned}
use Rattle.lanelets.proofs.PairLists.{net_many}
use Rattle.lanelets.proofs.classes.classes_of.Goals as goal

pub columns_of-requires-clause-within : goal.columns_of-requires-clause-within
columns_of-requires-clause-within c =
    rows_low c.requires.kept.0 (net_of c.args.cells.now) c.in_ok-numbers.numbers.items c.in_ok-rows.rows.items c.deref-2.result.now _ (c.len.ensures.is ∙ sym (net_many c.args.cells.now)) c.deref-2.ensures.value (c.in_ok-numbers.ensures c.requires.kept.0 c.requires.kept.1)
    (number_rows c.deref.result.now c.in_ok-numbers.numbers.items c.in_ok-rows.rows.items c.deref.ensures.value c.in_ok-rows.ensures)

pub returns : goal.returns
returns c = λ every k. classes_listed every (net_of c.args.cells.now) _ (c.in_ok-numbers.ensures every k)
    (rows_turned (net_of c.args.cells.now) c.in_ok-numbers.numbers.items c.in_ok-rows.rows.items c.deref-2.result.now c.in_ok-members.members.items _ (c.len.ensures.is ∙ sym (net_many c.args.cells.now)) c.deref-2.ensures.value
    (number_rows c.deref.result.now c.in_ok-numbers.numbers.items c.in_ok-rows.rows.items c.deref.ensures.value c.in_ok-rows.ensures) c.in_ok-members.ensures)
