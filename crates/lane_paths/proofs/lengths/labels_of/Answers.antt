use Rattle.std.proofs.Common.{get_or, ◌≡◌, ℕ, ◌+◌, ◌<◌, List, arith, length, refl, subst, sym, take}
use Rattle.std.proofs.lemmas.List.{take_all}
use Rattle.std.proofs.lemmas.Option.{slice_get-get_or}
use Rattle.lanelets.proofs.Places.{all_got, take_at}
use Rattle.lane_paths.specs.Reached.{AreListedOf}
use Rattle.lane_paths.proofs.ReachedLists.{listed_below, listed_next, listed_none}
use Rattle.lane_paths.proofs.lengths.labels_of.Goals as goal

pub loop-c-init : goal.loop-c-init
loop-c-init c = listed_none c.args.lengths.now c.in_ok-labels.labels.items c.in_ok-labels.ensures.items

pub add_label-requires-clause-within : goal.add_label-requires-clause-within
add_label-requires-clause-within c = all_got (λ (d : ℕ). d < length c.args.lengths.now) c.args.cells.now c.loop-c.c-index (get_or c.args.cells.now c.loop-c.c-index 0) c.requires.within
    (slice_get-get_or c.args.cells.now c.loop-c.c-index 0 c.loop-c-test.true)

pub add_label-requires-clause-rises : goal.add_label-requires-clause-rises
add_label-requires-clause-rises c = c.loop-c.invariant.rises

pub add_label-requires-clause-most : goal.add_label-requires-clause-most
add_label-requires-clause-most c = listed_below c.args.lengths.now c.args.cells.now c.loop-c.c-index (get_or c.args.cells.now c.loop-c.c-index 0) c.loop-c.labels.items c.requires.sorted
    (slice_get-get_or c.args.cells.now c.loop-c.c-index 0 c.loop-c-test.true) c.loop-c.invariant

pub loop-c-preserved : goal.loop-c-preserved
loop-c-preserved c =
    let k = c.loop-c.c-index in
    let here = slice_get-get_or c.args.cells.now k 0 c.loop-c-test.true in
    subst (λ (z : List ℕ). AreListedOf c.args.lengths.now z c.add_label.new.labels.items) (sym (take_at c.args.cells.now k (k + 1) (get_or c.args.cells.now c.loop-c.c-index 0) refl here))
    (listed_next c.args.lengths.now (take k c.args.cells.now) (get_or c.args.cells.now c.loop-c.c-index 0) c.loop-c.labels.items c.add_label.new.labels.items c.in_ok-add_label.ensures c.loop-c.invariant)

pub returns : goal.returns
returns c = subst (λ (z : List ℕ). AreListedOf c.args.lengths.now z c.loop-c.labels.items) (take_all c.loop-c.c-index c.args.cells.now (omega (arith, c.loop-c-test.false))) c.loop-c.invariant
