-- Clips leave corners between those of what they clip: children and their parts are in the box and slow.
use Rattle.std.proofs.Common.{◌≡◌, inl, inr, sym, subst, arith, List, ◌++◌, map, Some, ◌≤◌}
use Rattle.std.specs.List.{AllByRecursion}
use Rattle.std.specs.Prelude.{nat_abs}
use Rattle.std.proofs.lemmas.Int.{ints}
use Rattle.std.proofs.lemmas.List.{map-id}
use lib.IntN.{ℤ, pos, neg_ℤ, ◌-ℤ◌}
use lib.Signed.{◌≤ℤ◌}
use Rattle.spot_terms.specs.ClippedTo.{places, speeds, IsClippedTo}
use Rattle.spot_terms.specs.Clips.{Reflection, IsClip, as_it_is, x_turned, swapped, turned_and_swapped, clip_points}
use Rattle.spot_terms.specs.Hull.{IsCornerList}
use Rattle.spot_terms.specs.Lists.{Includes}
use Rattle.spot_terms.specs.Whole.{Within}
use Rattle.spot_terms.specs.declared.plain.Pt.{Pt}
use Rattle.spot_terms.proofs.ListLemmas.{all_included, all_of}
use Rattle.spot_terms.proofs.Members.{in_map}
use Rattle.round_out.proofs.Boxes.{IsBetween, InBoxOf}
use Rattle.round_out.proofs.ClipHulls.{clip_of, clip_of_box, clip_of_side}
use Rattle.round_out.proofs.Reflections.{IsMirror, mirror_as_it_is, mirror_x_turned}
use Rattle.propagate.specs.Children.{IsInPlane}

-- a speed of at most v in size
pub in_bound : (v z : ℤ) → pos 0 ≤ℤ v → nat_abs z ≤ nat_abs v → Within (neg_ℤ v) v z
in_bound v z h k = record { low = omega (arith, ints, h, k); high = omega (arith, ints, h, k) }

-- ---- what holds of the corners of a box

-- where it holds of two points, it holds of all in their box
abbrev HoldsInBoxes : (Pt → Type 0) → Type 0
HoldsInBoxes Q = (p q u : Pt) → InBoxOf p q u → Q p → Q q → Q u

between_within : (lo hi a b z : ℤ) → IsBetween a b z → Within lo hi a → Within lo hi b → Within lo hi z
between_within lo hi a b z (inl h) v w = record { low = omega (arith, ints, h.0, v.low); high = omega (arith, ints, h.1, w.high) }
between_within lo hi a b z (inr h) v w = record { low = omega (arith, ints, h.0, w.low); high = omega (arith, ints, h.1, v.high) }

between_at_most : (c a b z : ℤ) → IsBetween a b z → a ≤ℤ c → b ≤ℤ c → z ≤ℤ c
between_at_most c a b z (inl h) v w = omega (arith, ints, h.1, w)
between_at_most c a b z (inr h) v w = omega (arith, ints, h.1, v)

slow_in_boxes : (v : ℤ) → HoldsInBoxes (λ c. Within (neg_ℤ v) v c.y)
slow_in_boxes v p q u box a b = between_within (neg_ℤ v) v p.y q.y u.y box.y a b

right_in_boxes : (hi : ℤ) → HoldsInBoxes (λ c. c.x ≤ℤ hi)
right_in_boxes hi p q u box a b = between_at_most hi p.x q.x u.x box.x a b

plane_in_boxes : (lo hi v : ℤ) → HoldsInBoxes (IsInPlane lo hi v)
plane_in_boxes lo hi v p q u box a b = record {
  place = between_within lo hi p.x q.x u.x box.x a.place b.place;
  speed = between_within (neg_ℤ v) v p.y q.y u.y box.y a.speed b.speed;
}

-- ---- clips by place

module _ (t : Reflection) (m : IsMirror t) (c : ℤ) (half left : List Pt) (clip : IsClip t c half (Some left)) where
  among : (u : Pt) → Includes left u → Includes (clip_of t c half) u
  among u j = all_included (Includes (clip_of t c half)) left u clip.1.among j

  -- a clip keeps what holds in boxes
  kept : (Q : Pt → Type 0) → HoldsInBoxes Q → AllByRecursion Q half → AllByRecursion Q left
  kept Q boxes h = all_of Q left (λ u j. let (a, b, k, l, box) = clip_of_box t m c half u (among u j) in boxes a b u box (all_included Q half a h k) (all_included Q half b h l))

  on_side : AllByRecursion (λ u. (t u).x ≤ℤ c) left
  on_side = all_of (λ u. (t u).x ≤ℤ c) left (λ u j. clip_of_side t m c half u (among u j))

-- ---- clips by speed, as clips by place of the reflected corners

module _ (t : Reflection) (c : ℤ) (half left : List Pt) (clip : IsClip t c half (Some left)) where
  -- a corner comes from a point of the reflected clip
  record Comes (u : Pt) : Type 0 where
    z : Pt
    is : u ≡ t z
    side : z.x ≤ℤ c
    a : Pt
    b : Pt
    has_a : Includes (map t half) a
    has_b : Includes (map t half) b
    box : InBoxOf a b z

  comes : (u : Pt) → Includes left u → Comes u
  comes u j =
      let (z, k, e) = in_map t (clip_points c (map t half)) u (all_included (Includes (clip_of t c half)) left u clip.1.among j) in
      let i : Includes (clip_of as_it_is c (map t half)) z = subst (λ (l : List Pt). Includes (map as_it_is (clip_points c l)) z) (sym (map-id (map t half)))
      (subst (λ (l : List Pt). Includes l z) (sym (map-id (clip_points c (map t half)))) k) in
      let (a, b, p, q, box) = clip_of_box as_it_is mirror_as_it_is c (map t half) z i in
      record { z = z; is = e; side = clip_of_side as_it_is mirror_as_it_is c (map t half) z i; a = a; b = b; has_a = p; has_b = q; box = box }

fast_side : (v : ℤ) (half left : List Pt) → IsClip swapped v half (Some left) → AllByRecursion (λ u. u.y ≤ℤ v) left
fast_side v half left clip = all_of (λ u. u.y ≤ℤ v) left (λ u j. let k = comes swapped v half left clip u j in subst (λ (w : Pt). w.y ≤ℤ v) (sym k.is) k.side)

slow_sides : (v : ℤ) (half left : List Pt) → IsClip turned_and_swapped v half (Some left) → AllByRecursion (λ u. u.y ≤ℤ v) half → AllByRecursion (λ u. Within (neg_ℤ v) v u.y) left
slow_sides v half left clip fast = all_of (λ u. Within (neg_ℤ v) v u.y) left (λ u j.
    let k = comes turned_and_swapped v half left clip u j in
    let (p, i, e) = in_map turned_and_swapped half k.a k.has_a in
    let (q, l, f) = in_map turned_and_swapped half k.b k.has_b in
    subst (λ (w : Pt). Within (neg_ℤ v) v w.y) (sym k.is)
    (within k.z.x k.side
    (at_least k.a.x k.b.x k.z.x k.box.x (subst (λ (w : Pt). neg_ℤ v ≤ℤ w.x) (sym e) (turned p.y (all_included (λ u. u.y ≤ℤ v) half p fast i))) (subst (λ (w : Pt). neg_ℤ v ≤ℤ w.x) (sym f) (turned q.y (all_included (λ u. u.y ≤ℤ v) half q fast l))))))
  where
    turned : (y : ℤ) → y ≤ℤ v → neg_ℤ v ≤ℤ (pos 0 -ℤ y)
    turned y h = omega (arith, ints, h)

    at_least : (a b z : ℤ) → IsBetween a b z → neg_ℤ v ≤ℤ a → neg_ℤ v ≤ℤ b → neg_ℤ v ≤ℤ z
    at_least a b z (inl h) k l = omega (arith, ints, h.0, k)
    at_least a b z (inr h) k l = omega (arith, ints, h.0, l)

    within : (z : ℤ) → z ≤ℤ v → neg_ℤ v ≤ℤ z → Within (neg_ℤ v) v (pos 0 -ℤ z)
    within z h k = record { low = omega (arith, ints, h); high = omega (arith, ints, k) }

-- ---- children and parts

-- the corners of a corner list are at the places from lo to hi, and at most v fast
pub record AreInside (lo hi v : ℤ) (vs : List Pt) : Type 0 where
  pub convex : IsCornerList vs
  pub plane : AllByRecursion (IsInPlane lo hi v) vs

pub clip_inside : (t : Reflection) (m : IsMirror t) (c lo hi v : ℤ) (half left : List Pt) → IsClip t c half (Some left) → AreInside lo hi v half → AreInside lo hi v left
clip_inside t m c lo hi v half left clip h = record { convex = clip.1.ordered; plane = kept t m c half left clip (IsInPlane lo hi v) (plane_in_boxes lo hi v) h.plane }

-- a part at some places
pub part_inside : (a b lo hi v : ℤ) (half part : List Pt) → IsClippedTo (places a b) half part → AreInside lo hi v half → AreInside lo hi v part
part_inside a b lo hi v half part (c, first, (d, second, e)) h =
    subst (AreInside lo hi v) e (clip_inside x_turned mirror_x_turned (neg_ℤ a) lo hi v c d second (clip_inside as_it_is mirror_as_it_is b lo hi v half c first h))

-- a child
pub child_inside : (lo hi v : ℤ) (frame child : List Pt) → IsClippedTo (speeds v ++ places lo hi) frame child → AreInside lo hi v child
child_inside lo hi v frame child (c1, h1, (c2, h2, (c3, h3, (c4, h4, e)))) =
    let slow2 = slow_sides v c1 c2 h2 (fast_side v frame c1 h1) in
    let slow3 = kept as_it_is mirror_as_it_is hi c2 c3 h3 (λ c. Within (neg_ℤ v) v c.y) (slow_in_boxes v) slow2 in
    let right3 = on_side as_it_is mirror_as_it_is hi c2 c3 h3 in
    let slow4 = kept x_turned mirror_x_turned (neg_ℤ lo) c3 c4 h4 (λ c. Within (neg_ℤ v) v c.y) (slow_in_boxes v) slow3 in
    let right4 = kept x_turned mirror_x_turned (neg_ℤ lo) c3 c4 h4 (λ c. c.x ≤ℤ hi) (right_in_boxes hi) right3 in
    let left4 = on_side x_turned mirror_x_turned (neg_ℤ lo) c3 c4 h4 in
    subst (AreInside lo hi v) e (record {
      convex = h4.1.ordered;
      plane = all_of (IsInPlane lo hi v) c4 (λ c i. record {
        place = record { low = low c.x (all_included (λ u. (pos 0 -ℤ u.x) ≤ℤ neg_ℤ lo) c4 c left4 i); high = all_included (λ u. u.x ≤ℤ hi) c4 c right4 i };
        speed = all_included (λ u. Within (neg_ℤ v) v u.y) c4 c slow4 i;
      });
    })
  where
    low : (x : ℤ) → (pos 0 -ℤ x) ≤ℤ neg_ℤ lo → lo ≤ℤ x
    low x h = omega (arith, ints, h)

pub inside_places : (lo hi v : ℤ) (vs : List Pt) → AreInside lo hi v vs → AllByRecursion (λ c. Within lo hi c.x) vs
inside_places lo hi v vs h = all_of (λ c. Within lo hi c.x) vs (λ c i. (all_included (IsInPlane lo hi v) vs c h.plane i).place)
