use Rattle.std.proofs.Common.{◌<◌, ◌≤◌, ◌≡◌, Some, ap, arith, subst, sym, List, ℕ, length}
use Rattle.std.specs.Prelude.{slice_get, slice_index_or}
use Rattle.std.specs.List.Sorted.{IsNonDecreasingBy}
use Rattle.participants.specs.Places.{places_in, PlaceTable}
use Rattle.participants.specs.declared.places.Place.{Place}
use Rattle.participants.proofs.Ranks.{counts_rise, first_count, one_of_counted, place_got, some_counts}
use Rattle.participants.proofs.places.Places.get.Goals as goal

pub last_up_to-block-requires-clause-rise : goal.last_up_to-block-requires-clause-rise
last_up_to-block-requires-clause-rise c =
    let is = one_of_counted c.self.inside.items.items c.self.inside.intervals.items c.args.self.now c.args.interval c.index.result.now c.self.view_is c.requires.interval c.index.ensures c.self.invariant in
    subst (λ (ns : List ℕ). IsNonDecreasingBy (λ (n : ℕ). n) ns) (sym c.list-before.ensures) (counts_rise c.self.inside.items.items c.args.interval c.index.result.now is)

pub last_up_to-block-requires-clause-some : goal.last_up_to-block-requires-clause-some
last_up_to-block-requires-clause-some c =
    let is = one_of_counted c.self.inside.items.items c.self.inside.intervals.items c.args.self.now c.args.interval c.index.result.now c.self.view_is c.requires.interval c.index.ensures c.self.invariant in
    let below : c.args.rank < length (places_in c.args.interval c.self.inside.items.items) = subst (λ (t : PlaceTable). c.args.rank < length (places_in c.args.interval t.places)) (sym c.self.view_is) c.requires.rank in
    subst (λ (ns : List ℕ). 0 < length ns) (sym c.list-before.ensures) (some_counts c.self.inside.items.items c.args.interval c.index.result.now is c.args.rank below)

pub last_up_to-block-requires-clause-first : goal.last_up_to-block-requires-clause-first
last_up_to-block-requires-clause-first c =
    let is = one_of_counted c.self.inside.items.items c.self.inside.intervals.items c.args.self.now c.args.interval c.index.result.now c.self.view_is c.requires.interval c.index.ensures c.self.invariant in
    let below : c.args.rank < length (places_in c.args.interval c.self.inside.items.items) = subst (λ (t : PlaceTable). c.args.rank < length (places_in c.args.interval t.places)) (sym c.self.view_is) c.requires.rank in
    subst (λ (ns : List ℕ). slice_index_or ns 0 0 ≤ c.args.rank) (sym c.list-before.ensures) (first_count c.self.inside.items.items c.args.interval c.index.result.now is c.args.rank below)

pub returns-then-left-eq0 : goal.returns-then-left-eq0
returns-then-left-eq0 c =
    let long = c.self.inside.items.ok.0 in
    subst (λ (places : List Place). slice_get (places_in c.args.interval places) c.args.rank ≡ Some c.index-place.result.now) (ap (λ (t : PlaceTable). t.places) c.self.view_is)
    (place_got c.self.inside.items.items c.args.interval c.loop-at.at c.args.rank c.index-place.result.now (omega (arith, c.loop-at-test.true, c.min-to.ensures, c.len.ensures, long))
    c.index-place.ensures c.if-place-interval.true (omega (arith, c.loop-at.invariant, c.if-left-eq0.true)))
