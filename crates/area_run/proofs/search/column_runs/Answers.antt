use Rattle.std.proofs.Common.{rules, arith}
use Rattle.std.proofs.lemmas.Int.{ints}
use lib.IntN.{ℤ, pos}
use lib.Signed.{◌<ℤ◌}
use Rattle.spot_terms.specs.Whole.{Within}
use Rattle.area_run.proofs.Searching.{in_order, is_column, low_border, high_border}
use Rattle.area_run.proofs.search.column_runs.Goals as goal

positive : (w : ℤ) → Within (pos 100_000) (pos 100_000_000) w → pos 0 <ℤ w
positive w h = omega (arith, ints, h.low)

pub slice_bounds-result-count : goal.slice_bounds-result-count
slice_bounds-result-count c = in_order c.args.w c.args.col _ _ c.args.runs.now _ _ (positive c.args.w c.requires.wide) (low_border c.args.w c.args.col c.requires.wide c.requires.col c.requires.low) (high_border c.args.w c.args.col c.requires.wide c.requires.col c.requires.high) c.begun_before-from.ensures c.begun_before-to.ensures

pub slice_bounds-result-start : goal.slice_bounds-result-start
slice_bounds-result-start c =
    let ordered = in_order c.args.w c.args.col _ _ c.args.runs.now _ _ (positive c.args.w c.requires.wide) (low_border c.args.w c.args.col c.requires.wide c.requires.col c.requires.low) (high_border c.args.w c.args.col c.requires.wide c.requires.col c.requires.high) c.begun_before-from.ensures c.begun_before-to.ensures in
    search (rules, ordered, c.begun_before-to.ensures.within)

pub returns : goal.returns
returns c = is_column c.args.w c.args.col _ _ c.args.runs.now _ _ (positive c.args.w c.requires.wide) (low_border c.args.w c.args.col c.requires.wide c.requires.col c.requires.low) (high_border c.args.w c.args.col c.requires.wide c.requires.col c.requires.high) c.begun_before-from.ensures c.begun_before-to.ensures
