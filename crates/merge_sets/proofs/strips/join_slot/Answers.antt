use Rattle.std.proofs.Common.{◌≡◌, ◌∙◌, ◌+ℤ◌, ap, subst, arith, pos, ℤ, None, length, ◌<◌, to_z, of_z, w64}
use Rattle.std.proofs.lemmas.Option.{slice_get-get_or}
use Rattle.convex_poly.proofs.Wide.{back}
use Rattle.merge_sets.specs.Cells.{IsPartNumbers}
use Rattle.merge_sets.proofs.PartSlots.{read}
use Rattle.merge_sets.proofs.RowLists.{slot_read}
use Rattle.merge_sets.proofs.StripItems.{eight_item, known_part}
use Rattle.merge_sets.proofs.strips.join_slot.Goals as goal

pub join_part-requires-clause-part : goal.join_part-requires-clause-part
join_part-requires-clause-part c =
    eight_item c.args.k _ (known_part (length c.args.known.now) c.args.width c.args.first c.args.k c.args.p.now c.args.known.now c.args.j _ c.requires.known c.if-at-known.true (slice_get-get_or c.args.known.now c.args.j None c.if-at-known.true)).1

pub returns-then-at-known : goal.returns-then-at-known
returns-then-at-known c =
    let (is, sound) = known_part (length c.args.known.now) c.args.width c.args.first c.args.k c.args.p.now c.args.known.now c.args.j _ c.requires.known c.if-at-known.true (slice_get-get_or c.args.known.now c.args.j None c.if-at-known.true) in
    record { part = _; is = is; sound = sound; sum = c.join_part.ensures }

pub returns-else-at-known : goal.returns-else-at-known
returns-else-at-known c =
    let small : c.args.j < 4_294_967_296 = let f = c.ranges.j.fits in omega (arith, f) in
    let column : read (read c.args.first +ℤ read c.from.result) ≡ c.args.first +ℤ pos c.args.j =
    slot_read c.args.first c.from.result c.args.j c.requires.first (back c.args.first c.ranges.first.sfits) small c.from.ensures ∙ ap (λ (z : ℤ). z +ℤ pos c.args.j) (back c.args.first c.ranges.first.sfits) in
    record {
      part = c.slot_numbers.result;
      is = subst (λ (z : ℤ). IsPartNumbers z (c.args.first +ℤ pos c.args.j) c.args.k c.args.p.now c.slot_numbers.result) (back c.args.width c.ranges.width.sfits)
          (subst (λ (z : ℤ). IsPartNumbers (read c.args.width) z c.args.k c.args.p.now c.slot_numbers.result) column c.slot_numbers.ensures.part);
      sound = c.slot_numbers.ensures.sound;
      sum = c.join_part-else-at-known.ensures;
    }
