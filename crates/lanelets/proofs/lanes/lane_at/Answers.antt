use Rattle.std.proofs.Common.{◌≡◌, ◌∙◌, ap, sym, arith}
use Rattle.std.specs.Prelude.{Option, Some}
use Rattle.std.specs.Option.{option_map}
use Rattle.spot_terms.specs.Cells.{Lane}
use Rattle.spot_terms.specs.Ranges.{IsLaneInRange}
use Rattle.lanelets.proofs.LaneCells.{size_within}
use Rattle.lanelets.proofs.lanes.lane_at.Goals as goal
use Rattle.lanelets.proofs.Places.{all_got}

got : {A B : Type 0} (f : A → B) (r : Option A) (p : A) (g : Option B) → option_map f r ≡ g → r ≡ Some p → g ≡ Some (f p)
got f r p g e h = sym e ∙ ap (option_map f) h

pub returns-clause-is : goal.returns-clause-is
returns-clause-is c = got _ c.get_index.result c.unwrap.result _ c.get_index.ensures.entry c.unwrap.ensures

pub returns-clause-range : goal.returns-clause-range
returns-clause-range c = all_got (λ (l : Lane). IsLaneInRange l.1) c.args.lanes.now.entries c.args.e _ c.requires.buildable.each (got _ c.get_index.result c.unwrap.result _ c.get_index.ensures.entry c.unwrap.ensures)

pub returns-clause-few : goal.returns-clause-few
returns-clause-few c =
    let within = size_within c.args.lanes.now.entries c.args.e (c.unwrap.result.0.now, c.unwrap.result.1.now) (got _ c.get_index.result c.unwrap.result _ c.get_index.ensures.entry c.unwrap.ensures) in
    let few = c.requires.buildable.few in omega (arith, within, few)
