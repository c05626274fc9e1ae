-- The greatest numbers of the parts of a cell are in order, and in the box.
use Rattle.std.proofs.Common.{◌≡◌, ◌∙◌, ◌≤◌, ◌<◌, ℕ, inl, inr, refl, sym, subst, arith, List, [], ◌∷◌, length}
use Rattle.std.specs.Prelude.{slice_index_or}
use Rattle.std.specs.List.{AllByRecursion}
use Rattle.std.proofs.lemmas.Int.{ints}
use lib.IntN.{ℤ, pos, negsuc, neg_ℤ, ◌+ℤ◌, ◌*ℤ◌}
use lib.Signed.{◌≤ℤ◌}
use Rattle.spot_terms.specs.BaseSets.{SetValue}
use Rattle.spot_terms.specs.ChildNumbers.{support}
use Rattle.spot_terms.specs.Courses.{Course}
use Rattle.spot_terms.specs.Frames.{IsFrameInOrder, frame_normals, number, frame_points}
use Rattle.spot_terms.specs.Hull.{IsSupport, dot}
use Rattle.spot_terms.specs.Lists.{Includes, Pairwise}
use Rattle.spot_terms.specs.Reach.{Normal}
use Rattle.spot_terms.specs.StepLists.{HasParts, IsMost, AreMost, IsFrameOf}
use Rattle.spot_terms.specs.declared.plain.Pt.{Pt}
use Rattle.spot_terms.proofs.ListLemmas.{all_included, all_of, pairwise_at, pairwise_each}
use Rattle.spot_terms.proofs.Orders.{at_most_trans}
use Rattle.spot_terms.proofs.Supports.{supports_are}
use Rattle.round_out.specs.Frames.{IsWithinAxes}
use Rattle.round_out.proofs.FrameBounds.{supports_in_order}
use Rattle.round_out.proofs.FramePolys.{few_frame_points, within_axes}
use Rattle.propagate.specs.Children.{IsInPlane}
use Rattle.area_laws.specs.Filling.{Pair}
use Rattle.convex_poly.proofs.CornerCounts.{few_points}
use Rattle.area_laws.proofs.Corners.{IsSmallPlane, small_positions}
use Rattle.area_laws.proofs.Sides.{AreInside}

-- a corner is within the support of its polygon
corner_bound : (n : Normal) (corners : List Pt) (c : Pt) → Includes corners c → dot n.0 n.1 c ≤ℤ support n corners
corner_bound n [] c i = absurd i
corner_bound n (d ∷ corners) c i = (supports_are.greatest n d corners).bound c i

-- a corner reaches it
record Reached (n : Normal) (corners : List Pt) : Type 0 where
  corner : Pt
  here : Includes corners corner
  there : dot n.0 n.1 corner ≡ support n corners

corner_reached : (n : Normal) (c : Pt) (corners : List Pt) → Reached n (c ∷ corners)
corner_reached n c corners = let (d, i, e) = (supports_are.greatest n c corners).reached in record { corner = d; here = i; there = e }

-- the numbers along the axes of points at the places from lo to hi, at most v fast
record AreNumbersInside (lo hi v : ℤ) (numbers : List ℤ) : Type 0 where
  fast : number numbers 0 ≤ℤ v
  right : number numbers 1 ≤ℤ hi
  slow : number numbers 4 ≤ℤ v
  left : number numbers 5 ≤ℤ neg_ℤ lo

north : (x y v h : ℤ) → (pos 0 *ℤ x +ℤ pos 1 *ℤ y) ≡ h → y ≤ℤ v → h ≤ℤ v
north x y v h e l = omega (arith, ints)

east : (x y hi h : ℤ) → (pos 1 *ℤ x +ℤ pos 0 *ℤ y) ≡ h → x ≤ℤ hi → h ≤ℤ hi
east x y hi h e l = omega (arith, ints)

south : (x y v h : ℤ) → (pos 0 *ℤ x +ℤ negsuc 0 *ℤ y) ≡ h → neg_ℤ v ≤ℤ y → h ≤ℤ v
south x y v h e l = omega (arith, ints)

west : (x y lo h : ℤ) → (negsuc 0 *ℤ x +ℤ pos 0 *ℤ y) ≡ h → lo ≤ℤ x → h ≤ℤ neg_ℤ lo
west x y lo h e l = omega (arith, ints)

turned : (z h lo : ℤ) → neg_ℤ h ≤ℤ z → h ≤ℤ neg_ℤ lo → lo ≤ℤ z
turned z h lo l m = omega (arith, ints)

slowed : (z h v : ℤ) → neg_ℤ h ≤ℤ z → h ≤ℤ v → neg_ℤ v ≤ℤ z
slowed z h v l m = omega (arith, ints)

module _ (course : Course) (i : ℕ) (before : List SetValue) (plane : Pair → List Pt) (col row : ℤ) where
  -- a corner of a part in the cell
  abbrev pub IsPartCorner : Pt → Type 0
  IsPartCorner c = (x y : List Pt) × HasParts course i before col row x y × Includes (plane (x, y)) c

  bounded : (n : Normal) (h : ℤ) (c : Pt) → IsPartCorner c → IsMost course i before plane col row n h → dot n.0 n.1 c ≤ℤ h
  bounded n h c (x, y, parts, j) m = at_most_trans (dot n.0 n.1 c) (support n (plane (x, y))) h (corner_bound n (plane (x, y)) c j) (m.bound x y parts)

  -- one corner for each of the numbers
  record Reaching (ns : List Normal) (hs : List ℤ) : Type 0 where
    corners : List Pt
    each : (c : Pt) → Includes corners c → IsPartCorner c
    reached : Pairwise (λ n h. (c : Pt) × Includes corners c × (dot n.0 n.1 c ≡ h)) ns hs

  module _ (some : (x y : List Pt) → HasParts course i before col row x y → (c : Pt) × (rest : List Pt) × (plane (x, y) ≡ c ∷ rest)) where
    reach : (n : Normal) (h : ℤ) → IsMost course i before plane col row n h → (c : Pt) × IsPartCorner c × (dot n.0 n.1 c ≡ h)
    reach n h m =
        let (x, y, parts, e) = m.reached in
        let (c, rest, f) = some x y parts in
        let r : Reached n (plane (x, y)) = subst (Reached n) (sym f) (corner_reached n c rest) in
        (r.corner, (x, y, parts, r.here), r.there ∙ e)

    all_reached : (ns : List Normal) (hs : List ℤ) → Pairwise (IsMost course i before plane col row) ns hs → Reaching ns hs
    all_reached [] [] p = record { corners = []; each = λ c j. absurd j; reached = tt }
    all_reached [] (h ∷ hs) p = absurd p
    all_reached (n ∷ ns) [] p = absurd p
    all_reached (n ∷ ns) (h ∷ hs) p =
        let (c, is, e) = reach n h p.0 in
        let r = all_reached ns hs p.1 in
        record {
          corners = c ∷ r.corners;
          each = λ d j. each c is r d j;
          reached = ((c, inl refl, e), pairwise_each (λ n h. (c : Pt) × Includes r.corners c × (dot n.0 n.1 c ≡ h)) (λ n h. (d : Pt) × Includes (c ∷ r.corners) d × (dot n.0 n.1 d ≡ h)) ns hs (λ n h k. (k.0, inr k.1, k.2)) r.reached);
        }
      where
        each : (c : Pt) → IsPartCorner c → (r : Reaching ns hs) → (d : Pt) → Includes (c ∷ r.corners) d → IsPartCorner d
        each c is r d (inl e) = subst IsPartCorner (sym e) is
        each c is r d (inr j) = r.each d j

    -- the corners have these supports
    supports : (r : List Pt) → ((c : Pt) → Includes r c → IsPartCorner c) → (ns : List Normal) (hs : List ℤ) → Pairwise (IsMost course i before plane col row) ns hs
        → Pairwise (λ n h. (c : Pt) × Includes r c × (dot n.0 n.1 c ≡ h)) ns hs → Pairwise (λ n h. IsSupport r n.0 n.1 h) ns hs
    supports r each [] [] p q = tt
    supports r each [] (h ∷ hs) p q = absurd p
    supports r each (n ∷ ns) [] p q = absurd p
    supports r each (n ∷ ns) (h ∷ hs) p q = (record { bound = λ c j. bounded n h c (each c j) p.0; reached = q.0 }, supports r each ns hs p.1 q.1)

    -- so the numbers are in order
    pub most_in_order : (numbers : List ℤ) → AreMost course i before plane col row numbers → IsFrameInOrder (pos course.k) numbers
    most_in_order numbers m =
        let r = all_reached (frame_normals (pos course.k)) numbers m in
        supports_in_order course.k r.corners numbers (supports r.corners r.each (frame_normals (pos course.k)) numbers m r.reached)

    -- ---- where all parts are inside

    module _ (lo hi v : ℤ) (inside : (x y : List Pt) → HasParts course i before col row x y → AreInside lo hi v (plane (x, y))) where
      in_plane : (c : Pt) → IsPartCorner c → IsInPlane lo hi v c
      in_plane c (x, y, parts, j) = all_included (IsInPlane lo hi v) (plane (x, y)) c (inside x y parts).plane j

      reached_at : (j : ℕ) (numbers : List ℤ) → j < 8 → AreMost course i before plane col row numbers
          → (c : Pt) × IsPartCorner c × (dot (slice_index_or (frame_normals (pos course.k)) j (pos 0, pos 0)).0 (slice_index_or (frame_normals (pos course.k)) j (pos 0, pos 0)).1 c ≡ number numbers j)
      reached_at j numbers l m = reach (slice_index_or (frame_normals (pos course.k)) j (pos 0, pos 0)) (number numbers j)
          (pairwise_at (IsMost course i before plane col row) (frame_normals (pos course.k)) numbers j (pos 0, pos 0) (pos 0) l m)

      -- along the axes the numbers are those of the box
      numbers_inside : (numbers : List ℤ) → AreMost course i before plane col row numbers → AreNumbersInside lo hi v numbers
      numbers_inside numbers m =
          let (c0, i0, e0) = reached_at 0 numbers (omega arith) m in
          let (c1, i1, e1) = reached_at 1 numbers (omega arith) m in
          let (c4, i4, e4) = reached_at 4 numbers (omega arith) m in
          let (c5, i5, e5) = reached_at 5 numbers (omega arith) m in
          record {
            fast = north c0.x c0.y v (number numbers 0) e0 (in_plane c0 i0).speed.high;
            right = east c1.x c1.y hi (number numbers 1) e1 (in_plane c1 i1).place.high;
            slow = south c4.x c4.y v (number numbers 4) e4 (in_plane c4 i4).speed.low;
            left = west c5.x c5.y lo (number numbers 5) e5 (in_plane c5 i5).place.low;
          }

      -- so the points of the cell's polygon are inside too
      points_inside : (numbers : List ℤ) → 1 ≤ course.k → AreMost course i before plane col row numbers → AllByRecursion (IsInPlane lo hi v) (frame_points (pos course.k) numbers)
      points_inside numbers ticks m =
          let axes = within_axes (pos course.k) numbers (omega (arith, ints, ticks)) (most_in_order numbers m) in
          let inside = numbers_inside numbers m in
          all_of (IsInPlane lo hi v) (frame_points (pos course.k) numbers) (λ c j. let at_c = all_included (IsWithinAxes numbers) (frame_points (pos course.k) numbers) c axes j in record {
            place = record { low = turned c.x (number numbers 5) lo at_c.west inside.left; high = at_most_trans c.x (number numbers 1) hi at_c.east inside.right };
            speed = record { low = slowed c.y (number numbers 4) v at_c.south inside.slow; high = at_most_trans c.y (number numbers 0) v at_c.north inside.fast };
          })

      pub frame_inside : (numbers : List ℤ) (corners : List Pt) → 1 ≤ course.k → AreMost course i before plane col row numbers → IsFrameOf course.k numbers corners → AreInside lo hi v corners
      frame_inside numbers corners ticks m hull = let points = points_inside numbers ticks m in record {
        convex = hull.ordered;
        plane = all_of (IsInPlane lo hi v) corners (λ c j. all_included (IsInPlane lo hi v) (frame_points (pos course.k) numbers) c points (all_included (Includes (frame_points (pos course.k) numbers)) corners c hull.among j));
      }

      -- which has few corners
      pub frame_few : IsSmallPlane lo hi v → (numbers : List ℤ) (corners : List Pt) → 1 ≤ course.k → AreMost course i before plane col row numbers → IsFrameOf course.k numbers corners → length corners ≤ 12
      frame_few small numbers corners ticks m hull =
          let few = few_points (frame_points (pos course.k) numbers) corners (small_positions lo hi v (frame_points (pos course.k) numbers) small (points_inside numbers ticks m)) hull in
          let points = few_frame_points (pos course.k) numbers in
          omega (arith, few, points)
