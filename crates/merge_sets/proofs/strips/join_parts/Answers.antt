use Rattle.std.proofs.Common.{◌≡◌, ◌<◌, ◌≤◌, ◌+◌, arith, refl, sym, None, length}
use Rattle.std.proofs.lemmas.Option.{slice_get-get_or}
use Rattle.convex_poly.proofs.Wide.{back}
use Rattle.merge_sets.proofs.PartSlots.{read}
use Rattle.merge_sets.proofs.RowLists.{rows_at}
use Rattle.merge_sets.proofs.StripItems.{eight_item, parts_more, sound_item}
use Rattle.merge_sets.proofs.strips.join_parts.Goals as goal

pub join_slot-requires-clause-known : goal.join_slot-requires-clause-known
join_slot-requires-clause-known c = rows_at (length c.args.known.now) (length c.args.known.now) c.args.width (read c.args.width) c.args.first (read c.args.first) c.args.k c.args.p.now c.args.known.now refl (sym (back c.args.width c.ranges.width.sfits)) (sym (back c.args.first c.ranges.first.sfits)) c.requires.known

pub join_slot-requires-clause-row : goal.join_slot-requires-clause-row
join_slot-requires-clause-row c =
    let within : c.args.at + c.loop-j.j < length c.loop-j.rows = omega (arith, c.loop-j-test.true, c.requires.room, c.loop-j.auto.rows) in
    eight_item c.args.k _ (sound_item c.args.k c.loop-j.rows (c.args.at + c.loop-j.j) _ c.loop-j.invariant.sound (slice_get-get_or c.loop-j.rows (c.args.at + c.loop-j.j) None within))

pub loop-j-preserved : goal.loop-j-preserved
loop-j-preserved c =
    let within : c.args.at + c.loop-j.j < length c.loop-j.rows = omega (arith, c.loop-j-test.true, c.requires.room, c.loop-j.auto.rows) in
    parts_more c.args.at c.loop-j.j (read c.args.width) (read c.args.first) c.args.k c.args.p.now c.args.rows.now c.loop-j.rows _ c.join_slot.ensures.part c.join_slot.new.row c.loop-j.invariant
    (slice_get-get_or c.loop-j.rows (c.args.at + c.loop-j.j) None within) c.join_slot.ensures.is c.join_slot.ensures.sound c.join_slot.ensures.sum within
