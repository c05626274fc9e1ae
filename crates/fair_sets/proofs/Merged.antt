-- Bounds of a child, of its parts, and of the polygons of a cell.
use Rattle.std.proofs.Common.{◌≡◌, ◌∙◌, ℕ, ◌<◌, refl, sym, subst, List, []}
use Rattle.std.specs.Prelude.{nat_abs}
use lib.IntN.{ℤ, pos, neg_ℤ, ◌+ℤ◌}
use lib.Signed.{◌≤ℤ◌}
use Rattle.spot_terms.specs.declared.plain.Pt.{Pt}
use Rattle.spot_terms.specs.BaseSets.{SetValue}
use Rattle.spot_terms.specs.ChildNumbers.{support, child_numbers}
use Rattle.spot_terms.specs.Courses.{Course}
use Rattle.spot_terms.specs.Frames.{number, frame_normals}
use Rattle.spot_terms.specs.Reach.{Normal, minus_one}
use Rattle.spot_terms.specs.StepLists.{IsChild, IsFrameOf, HasParts, IsMost, AreMost}
use Rattle.spot_terms.proofs.ListLemmas.{pairwise_at}
use Rattle.round_out.specs.Growth.{by_speed, by_place, frame_normal, AreWithin, RoundingLaws}
use Rattle.round_out.proofs.Bounds.{same, north_of, south_of, places_within, places_east, places_west}
use Rattle.round_out.proofs.GreatestOrders.{IsGreatest, within_greatest}
use Rattle.fair_sets.proofs.Orders.{children_in_order}

-- ---- a child

module _ (laws : RoundingLaws) (course : Course) (lo hi : ℤ) (vs child : List Pt) where
  -- what the frame, two clips of speed and two of places can add
  pub child_within : (i : ℕ) → 0 < nat_abs course.a → 0 < course.k → i < 8 → IsChild course lo hi vs child
      → AreWithin (frame_normal (pos course.k) i)
      (number (child_numbers course.a course.k vs) i +ℤ by_speed (frame_normal (pos course.k) i) +ℤ by_place (frame_normal (pos course.k) i) +ℤ by_place (frame_normal (pos course.k) i) +ℤ by_speed (frame_normal (pos course.k) i) +ℤ by_speed (frame_normal (pos course.k) i)) child
  child_within i some ticks l (frame, is_frame, (first, a, (second, b, rest))) =
      places_within laws lo hi second child (frame_normal (pos course.k) i) _ rest
      (laws.speed_min course.v first second (frame_normal (pos course.k) i) _ b
      (laws.speed_max course.v frame first (frame_normal (pos course.k) i) _ a
      (laws.frame course.k (child_numbers course.a course.k vs) frame i ticks (children_in_order laws course.a course.k vs some ticks) is_frame l)))

  pub child_north : IsChild course lo hi vs child → AreWithin (pos 0, pos 1) course.v child
  child_north (frame, is_frame, (first, a, (second, b, rest))) =
      same (pos 0, pos 1) course.v child (same (pos 0, pos 1) (course.v +ℤ pos 0) child
      (places_within laws lo hi second child (pos 0, pos 1) course.v rest
      (same (pos 0, pos 1) course.v second (laws.speed_min course.v first second (pos 0, pos 1) course.v b
      (north_of course.v first (laws.stays_speed_max course.v frame first a))))))

  pub child_south : IsChild course lo hi vs child → AreWithin (pos 0, minus_one) course.v child
  child_south (frame, is_frame, (first, a, (second, b, rest))) =
      same (pos 0, minus_one) course.v child (same (pos 0, minus_one) (course.v +ℤ pos 0) child
      (places_within laws lo hi second child (pos 0, minus_one) course.v rest
      (south_of course.v second (laws.stays_speed_min course.v first second b))))

  pub child_east : IsChild course lo hi vs child → AreWithin (pos 1, pos 0) hi child
  child_east (frame, is_frame, (first, a, (second, b, rest))) = places_east laws lo hi second child rest

  pub child_west : IsChild course lo hi vs child → AreWithin (minus_one, pos 0) (neg_ℤ lo) child
  child_west (frame, is_frame, (first, a, (second, b, rest))) = places_west laws lo hi second child rest

-- ---- the polygons of a cell, in the plane that `plane` picks

module _ (laws : RoundingLaws) (course : Course) (i : ℕ) (before : List SetValue) (col row : ℤ) (plane : List Pt × List Pt → List Pt) where
  abbrev Part : List Pt → Type 0
  Part vs = (x : List Pt) × (y : List Pt) × HasParts course i before col row x y × (vs ≡ plane (x, y))

  abbrev HasCorners : Type 0
  HasCorners = (x y : List Pt) → HasParts course i before col row x y → plane (x, y) ≡ [] → ⊥

  most_at : (numbers : List ℤ) → AreMost course i before plane col row numbers → (j : ℕ) → j < 8 → IsMost course i before plane col row (frame_normal (pos course.k) j) (number numbers j)
  most_at numbers most j l = pairwise_at (IsMost course i before plane col row) (frame_normals (pos course.k)) numbers j (pos 0, pos 0) (pos 0) l most

  greatest : (n : Normal) (h : ℤ) → IsMost course i before plane col row n h → IsGreatest Part n h
  greatest n h m = record {
    bound = λ vs p. let (x, y, parts, e) = p in subst (λ (z : List Pt). support n z ≤ℤ h) (sym e) (m.bound x y parts);
    reached = let (x, y, parts, e) = m.reached in (plane (x, y), (x, y, parts, refl), e);
  }

  part_some : HasCorners → (vs : List Pt) → Part vs → vs ≡ [] → ⊥
  part_some some vs (x, y, parts, e) none = some x y parts (sym e ∙ none)

  -- along each normal there is a part whose support the cell's polygon exceeds by at most what rounding a speed adds
  pub record Reach (j : ℕ) (merged : List Pt) : Type 0 where
    pub x : List Pt
    pub y : List Pt
    pub parts : HasParts course i before col row x y
    pub within : AreWithin (frame_normal (pos course.k) j) (support (frame_normal (pos course.k) j) (plane (x, y)) +ℤ by_speed (frame_normal (pos course.k) j)) merged

  pub merged_within : HasCorners → 0 < course.k → (numbers : List ℤ) (merged : List Pt) → AreMost course i before plane col row numbers → IsFrameOf course.k numbers merged → (j : ℕ) → j < 8 → Reach j merged
  merged_within some ticks numbers merged most frame j l =
      let (vs, (x, y, parts, e), within) = within_greatest laws course.k ticks Part (part_some some) numbers merged (λ k m. greatest (frame_normal (pos course.k) k) (number numbers k) (most_at numbers most k m)) frame j l in
      record {
        x = x;
        y = y;
        parts = parts;
        within = subst (λ (z : List Pt). AreWithin (frame_normal (pos course.k) j) (support (frame_normal (pos course.k) j) z +ℤ by_speed (frame_normal (pos course.k) j)) merged) e within;
      }
