-- Each state of a pair whose place is in a cell is in the parts that the pair leaves there.
use Rattle.std.proofs.Common.{◌≡◌, ◌⊎◌, ℕ, inl, inr, arith, subst, List, Option, Some, None}
use Rattle.std.proofs.lemmas.Int.{ints}
use lib.IntN.{ℤ, pos, neg_ℤ, ◌-ℤ◌}
use lib.Signed.{◌≤ℤ◌}
use Rattle.spot_terms.specs.CellNumbers.{Numbers, IsJoined}
use Rattle.spot_terms.specs.ClippedTo.{places, IsClippedTo, IsClippedAway}
use Rattle.spot_terms.specs.Frames.{at}
use Rattle.spot_terms.specs.Grid.{slot_low, slot_high}
use Rattle.spot_terms.specs.Hull.{InHull, IsCornerList}
use Rattle.spot_terms.specs.Motions.{State}
use Rattle.spot_terms.specs.Clips.{as_it_is, x_turned}
use Rattle.spot_terms.specs.Whole.{Within}
use Rattle.spot_terms.specs.declared.plain.Pt.{Pt}
use Rattle.round_out.proofs.ClipLaws.{clip_keeps_side}
use Rattle.round_out.proofs.Reflections.{mirror_as_it_is, mirror_x_turned}
use Rattle.merge_sets.specs.Tables.{HoldsInCell, PartsHold}
use Rattle.spot_terms.proofs.Orders.{at_most_opposite}

-- a whole point of a polygon at the places from lo to hi is in its part there
part_holds : (lo hi : ℤ) (vs part : List Pt) (p v : ℤ) → IsCornerList vs → IsClippedTo (places lo hi) vs part → InHull vs (at p v) → Within lo hi p → InHull part (at p v)
part_holds lo hi vs part p v convex (half, first, (left, second, e)) h w =
    let in_half : InHull half (at p v) = clip_keeps_side as_it_is mirror_as_it_is hi vs (Some half) convex first (at p v) h w.high in
    let in_left : InHull left (at p v) = clip_keeps_side x_turned mirror_x_turned (neg_ℤ lo) half (Some left) first.1.ordered second (at p v) in_half (at_most_opposite lo p w.low) in
    subst (λ (z : List Pt). InHull z (at p v)) e in_left

-- a polygon without a part at these places has no whole point there
none_held : (lo hi : ℤ) (vs : List Pt) (p v : ℤ) → IsCornerList vs → IsClippedAway (places lo hi) vs → InHull vs (at p v) → Within lo hi p → ⊥
none_held lo hi vs p v convex (inl first) h w = clip_keeps_side as_it_is mirror_as_it_is hi vs None convex first (at p v) h w.high
none_held lo hi vs p v convex (inr (half, first, inl second)) h w =
    clip_keeps_side x_turned mirror_x_turned (neg_ℤ lo) half None first.1.ordered second (at p v) (clip_keeps_side as_it_is mirror_as_it_is hi vs (Some half) convex first (at p v) h w.high) (at_most_opposite lo p w.low)
none_held lo hi vs p v convex (inr (half, first, inr (left, second, none))) h w = absurd none

pub leave_states : (w g : ℤ) (k : ℕ) (col row : ℤ) (x y : List Pt) (old new : Option Numbers) (s : State) → IsCornerList x → IsCornerList y → IsJoined w g k col row x y old new → HoldsInCell w g col row x y s → PartsHold w g k col row x y s
leave_states w g k col row x y old new s convex_x convex_y (inl (a, b, in_column, in_row, e)) h = record {
  part_x = a;
  part_y = b;
  in_column = in_column;
  in_row = in_row;
  holds_x = part_holds (slot_low w col) (slot_high w col) x a s.p.x s.v.x convex_x in_column h.holds_x h.in_column;
  holds_y = part_holds (slot_low g row) (slot_high g row) y b s.p.y s.v.y convex_y in_row h.holds_y h.in_row;
}
leave_states w g k col row x y old new s convex_x convex_y (inr (inl away, e)) h = absurd (none_held (slot_low w col) (slot_high w col) x s.p.x s.v.x convex_x away h.holds_x h.in_column)
leave_states w g k col row x y old new s convex_x convex_y (inr (inr away, e)) h = absurd (none_held (slot_low g row) (slot_high g row) y s.p.y s.v.y convex_y away h.holds_y h.in_row)
