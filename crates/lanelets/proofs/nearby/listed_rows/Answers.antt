use Rattle.std.proofs.Common.{◌≡◌, ℕ, List, length, refl, sym, ap, arith, subst}
use Rattle.std.specs.Prelude.{Some, slice_get, ◌↔◌}
use Rattle.spot_terms.specs.Cells.{Lane}
use Rattle.spot_terms.specs.Lists.{Includes}
use Rattle.lanelets.specs.Links.{ArePlaces}
use Rattle.lanelets.specs.Listing.{AreColumns, AreRows}
use Rattle.lanelets.specs.Nearby.{AreListed, AreSideRows}
use Rattle.lanelets.proofs.Places.{same_lengths}
use Rattle.lanelets.proofs.LaneCells.{buildable_few}
use Rattle.lanelets.proofs.LinkLists.{named_row, places_within}
use Rattle.lanelets.proofs.RowLists.{rows_next}
use Rattle.lanelets.proofs.nearby.listed_rows.Goals as goal

pub loop-f-preserved : goal.loop-f-preserved
loop-f-preserved c =
    let lanes = c.args.lanes.now.entries in
    let m : Lane = (c.lane_at.result.0, c.lane_at.result.1.now) in
    let rows : AreSideRows lanes c.in_ok-listed.listed.items = c.in_ok-listed.ensures in
    let turned : AreColumns c.in_ok-listed.listed.items (length lanes) c.in_ok-listing.listing.items = rw (c.deref.ensures.value, c.lane_count.ensures.is) at c.in_ok-listing.ensures in
    let before : ArePlaces lanes m.1.sides c.in_ok-row.row = subst (λ (ids : List ℕ). ArePlaces lanes ids c.in_ok-row.row) c.list.ensures c.in_ok-row.ensures in
    let here : slice_get c.in_ok-listing.listing.items c.loop-f.f ≡ Some c.list_at.result.now = rw c.deref-in-loop-f.ensures.value at c.list_at.ensures in
    let row = named_row (λ l. l.1.sides) (λ l. l.1.sides) lanes c.in_ok-listed.listed.items c.in_ok-listing.listing.items c.loop-f.f m c.in_ok-row.row c.list_at.result.now c.lane_at.ensures.is rows turned before here in
    rows_next (λ f e. AreListed lanes e f) c.loop-f.f _ c.loop-f.rows.items c.push.new.self.items c.extend.new.self refl c.in_ok-push.ensures.items c.loop-f.invariant
    (subst (λ (xs : List ℕ). (e : ℕ) → (Includes xs e ↔ AreListed lanes e c.loop-f.f)) (sym c.in_ok-extend.ensures) row)

pub returns : goal.returns
returns c =
    let all : c.loop-f.f ≡ length c.args.lanes.now.entries = omega arith in
    subst (λ (n : ℕ). AreRows (λ f e. AreListed c.args.lanes.now.entries e f) n c.loop-f.rows.items) all c.loop-f.invariant

pub columns_of-requires-clause-few : goal.columns_of-requires-clause-few
columns_of-requires-clause-few c =
    let few = buildable_few c.args.lanes.now.entries c.requires in
    let many = same_lengths (λ (l : Lane) row. ArePlaces c.args.lanes.now.entries l.1.sides row) c.args.lanes.now.entries c.in_ok-listed.listed.items c.in_ok-listed.ensures in
    let same = ap length c.deref.ensures.value in
    omega (arith, few, many, same)

pub columns_of-requires-clause-within : goal.columns_of-requires-clause-within
columns_of-requires-clause-within c =
    rw (c.deref.ensures.value, c.lane_count.ensures.is) (places_within (λ l. l.1.sides) c.args.lanes.now.entries c.args.lanes.now.entries c.in_ok-listed.listed.items c.in_ok-listed.ensures)
