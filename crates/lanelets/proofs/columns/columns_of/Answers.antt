use Rattle.std.proofs.Common.{◌≡◌, ◌+◌, subst, List, ℕ, refl}
use Rattle.std.specs.Prelude.{Some, slice_get}
use Rattle.lanelets.specs.Listing.{HasRow}
use Rattle.lanelets.proofs.ColumnLists.{columns_next, columns_all}
use Rattle.lanelets.proofs.Places.{read_at}
use Rattle.lanelets.proofs.columns.columns_of.Goals as goal
use Rattle.spot_terms.proofs.ItemPlaces.{written}

pub loop-i-preserved : goal.loop-i-preserved
loop-i-preserved c =
    let lent = c.deref_mut.ensures.value in
    let row : slice_get c.args.rows.now c.loop-i.i ≡ Some c.index-rows-i.result = read_at c.args.rows.now c.loop-i.i c.index-rows-i.result c.loop-i-test.true c.index-rows-i.is in
    let has : HasRow c.loop-i.columns.items c.index-rows-i.result c.loop-i.i c.add_row.new.columns = subst (λ (r : List ℕ). HasRow c.loop-i.columns.items r c.loop-i.i c.add_row.new.columns) c.list.ensures (subst (λ (xs : List (List ℕ)). HasRow xs c.list.result.now c.loop-i.i c.add_row.new.columns) lent c.in_ok-add_row.ensures) in
    rw (written c.loop-i.columns.len c.add_row.new.columns c.loop-i.columns.items c.loop-i.columns.ok.0 has.many)
    (columns_next c.args.rows.now c.loop-i.i (c.loop-i.i + 1) c.args.count c.index-rows-i.result c.loop-i.columns.items c.add_row.new.columns refl row c.loop-i.invariant has)

pub returns : goal.returns
returns c = columns_all c.args.rows.now c.loop-i.i c.args.count c.loop-i.columns.items c.loop-i-test.false c.loop-i.invariant
