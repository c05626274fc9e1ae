use Rattle.std.proofs.Common.{◌≡◌, ◌<◌, ℕ, length, take, get_or, arith}
use Rattle.std.proofs.lemmas.List.{take_more, take_all}
use Rattle.std.specs.Prelude.{Some, slice_get}
use Rattle.lanelets.specs.Listing.{IsWith}
use Rattle.lanelets.proofs.Places.{read_at}
use Rattle.lanelets.proofs.ColumnLists.{row_more}
use Rattle.lanelets.proofs.columns.add_row.Goals as goal
use Rattle.spot_terms.proofs.Places.{all_at}

pub loop-x-preserved : goal.loop-x-preserved
loop-x-preserved c =
    let y : ℕ = get_or c.args.row.now c.loop-x.x-index 0 in
    let more = take_more c.args.row.now c.loop-x.x-index 0 c.loop-x-test.true in
    let same = c.loop-x.auto.columns in
    let below : y < length c.args.columns.now = all_at (λ x. x < length c.args.columns.now) c.args.row.now c.loop-x.x-index 0 c.requires c.loop-x-test.true in
    let was : slice_get c.loop-x.columns y ≡ Some c.index-columns-x.result = read_at c.loop-x.columns y c.index-columns-x.result (omega (arith, below, same)) c.index-columns-x.is in
    let with : IsWith c.index-columns-x.result c.args.i c.push_once.new.self = rw (← c.index-columns-x.is) at c.in_ok-push_once.ensures in
    rw more (row_more c.args.columns.now c.loop-x.columns (take c.loop-x.x-index c.args.row.now) y c.args.i c.index-columns-x.result c.push_once.new.self c.loop-x.invariant was with)

pub returns : goal.returns
returns c = let all = take_all c.loop-x.x-index c.args.row.now c.loop-x-test.false in rw all at c.loop-x.invariant
