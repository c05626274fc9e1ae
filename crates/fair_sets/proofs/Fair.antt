-- A set of a next list is a fair child.
use Rattle.std.proofs.Common.{◌≡◌, inl, ℕ, zero, suc, ◌-◌, ◌*◌, ◌<◌, arith, refl, sym, subst, List, [], ◌∷◌, map, length}
use Rattle.std.specs.Prelude.{nat_abs}
use Rattle.std.proofs.lemmas.Int.{ints}
use lib.IntN.{ℤ, pos, neg_ℤ, ◌+ℤ◌, ◌*ℤ◌}
use lib.Signed.{◌≤ℤ◌}
use Rattle.spot_terms.specs.declared.plain.Pt.{Pt}
use Rattle.spot_terms.specs.BaseSets.{SetValue}
use Rattle.spot_terms.specs.ChildNumbers.{support, frame_supports, child_numbers, slacks, Reaches, IsParent, IsFairAlong, IsFairChild}
use Rattle.spot_terms.specs.Courses.{Course, box_at}
use Rattle.spot_terms.specs.Frames.{number}
use Rattle.spot_terms.specs.Grid.{slot_low, slot_high}
use Rattle.spot_terms.specs.Lists.{Includes}
use Rattle.spot_terms.specs.Pieces.{Hits}
use Rattle.spot_terms.specs.Reach.{Normal, along, minus_one}
use Rattle.spot_terms.specs.StepLists.{IsChild, IsInSlot, HasParts, IsCut}
use Rattle.spot_terms.proofs.ListLemmas.{all_included}
use Rattle.spot_terms.proofs.Members.{in_map}
use Rattle.round_out.specs.Growth.{by_speed, by_place, frame_normal, RoundingLaws}
use Rattle.fair_sets.specs.Fairness.{NextListsAreFair}
use Rattle.round_out.proofs.Bounds.{hull_some, support_at_most, places_within, places_east, places_west, places_some}
use Rattle.fair_sets.proofs.Merged.{child_within, Reach, merged_within}

-- ---- the account

-- the frame of the child, two clips of speed, two of the box, two of the cell, the frame of the cell and two of the run
account_run : (v h s p slack : ℤ) → v ≤ℤ ((h +ℤ s +ℤ p +ℤ p +ℤ s +ℤ s) +ℤ s +ℤ s +ℤ s +ℤ s +ℤ s) → (pos 8 *ℤ s +ℤ pos 2 *ℤ p) ≤ℤ slack → v ≤ℤ (h +ℤ slack)
account_run v h s p slack a b = omega (arith, ints)

account_cell : (v h s p slack : ℤ) → pos 0 ≤ℤ s → v ≤ℤ ((h +ℤ s +ℤ p +ℤ p +ℤ s +ℤ s) +ℤ s +ℤ s +ℤ s) → (pos 8 *ℤ s +ℤ pos 2 *ℤ p) ≤ℤ slack → v ≤ℤ (h +ℤ slack)
account_cell v h s p slack c a b = omega (arith, ints)

slack_down : (k : ℕ) → 0 < k → (pos 8 *ℤ pos (nat_abs (neg_ℤ (pos k)) - 1) +ℤ pos 2 *ℤ pos 1) ≤ℤ pos (8 * k)
slack_down k some = omega (arith, ints)

slack_down_one : (k : ℕ) → 0 < k → (pos 8 *ℤ pos (nat_abs (neg_ℤ (pos k)) - 1) +ℤ pos 2 *ℤ pos 0) ≤ℤ pos (8 * k)
slack_down_one k some = omega (arith, ints)

slack_up : (k : ℕ) → 0 < k → (pos 8 *ℤ pos (k - 1) +ℤ pos 2 *ℤ pos 1) ≤ℤ pos (8 * k)
slack_up k some = omega (arith, ints)

slack_up_one : (k : ℕ) → 0 < k → (pos 8 *ℤ pos (k - 1) +ℤ pos 2 *ℤ pos 0) ≤ℤ pos (8 * k)
slack_up_one k some = omega (arith, ints)

slack_none : (pos 8 *ℤ pos 0 +ℤ pos 2 *ℤ pos 0) ≤ℤ pos 0
slack_none = omega (arith, ints)

-- eight of a speed's rounding and two of a place's are within the slack
enough : (k i : ℕ) → 0 < k → i < 8 → (pos 8 *ℤ by_speed (frame_normal (pos k) i) +ℤ pos 2 *ℤ by_place (frame_normal (pos k) i)) ≤ℤ number (map pos (slacks k)) i
enough k zero some l = slack_none
enough k (suc zero) some l = slack_none
enough k (suc (suc zero)) some l = slack_down k some
enough k (suc (suc (suc zero))) some l = slack_down_one k some
enough k (suc (suc (suc (suc zero)))) some l = slack_none
enough k (suc (suc (suc (suc (suc zero))))) some l = slack_none
enough k (suc (suc (suc (suc (suc (suc zero)))))) some l = slack_up k some
enough k (suc (suc (suc (suc (suc (suc (suc zero))))))) some l = slack_up_one k some
enough k (suc (suc (suc (suc (suc (suc (suc (suc i)))))))) some l = absurd (omega (arith, l))

-- the i-th support
support_at : (k i : ℕ) (vs : List Pt) → i < 8 → support (frame_normal (pos k) i) vs ≡ number (frame_supports k vs) i
support_at k zero vs l = refl
support_at k (suc zero) vs l = refl
support_at k (suc (suc zero)) vs l = refl
support_at k (suc (suc (suc zero))) vs l = refl
support_at k (suc (suc (suc (suc zero)))) vs l = refl
support_at k (suc (suc (suc (suc (suc zero))))) vs l = refl
support_at k (suc (suc (suc (suc (suc (suc zero)))))) vs l = refl
support_at k (suc (suc (suc (suc (suc (suc (suc zero))))))) vs l = refl
support_at k (suc (suc (suc (suc (suc (suc (suc (suc i)))))))) vs l = absurd (omega (arith, l))

below_eight : (i : ℕ) → Includes (0 ∷ 1 ∷ 2 ∷ 3 ∷ 4 ∷ 5 ∷ 6 ∷ 7 ∷ []) i → i < 8
below_eight i h =
    all_included (λ j. j < 8) (0 ∷ 1 ∷ 2 ∷ 3 ∷ 4 ∷ 5 ∷ 6 ∷ 7 ∷ []) i (omega arith, (omega arith, (omega arith, (omega arith, (omega arith, (omega arith, (omega arith, (omega arith, tt)))))))) h

not_negative : (n : Normal) → pos 0 ≤ℤ by_speed n
not_negative n = low (nat_abs n.1 - 1)
  where
    low : (m : ℕ) → pos 0 ≤ℤ pos m
    low m = omega (arith, ints)

below : (x y lo n : ℤ) → (pos 1 *ℤ x +ℤ pos 0 *ℤ y) ≤ℤ (n +ℤ pos 0 +ℤ pos 0 +ℤ pos 0 +ℤ pos 0 +ℤ pos 0 +ℤ pos 0 +ℤ pos 0) → (minus_one *ℤ x +ℤ pos 0 *ℤ y) ≤ℤ neg_ℤ lo → lo ≤ℤ n
below x y lo n h k = omega (arith, ints)

above : (x y hi n : ℤ) → (minus_one *ℤ x +ℤ pos 0 *ℤ y) ≤ℤ (n +ℤ pos 0 +ℤ pos 0 +ℤ pos 0 +ℤ pos 0 +ℤ pos 0 +ℤ pos 0 +ℤ pos 0) → (pos 1 *ℤ x +ℤ pos 0 *ℤ y) ≤ℤ hi → neg_ℤ n ≤ℤ hi
above x y hi n h k = omega (arith, ints)

chain_run : (v m s h : ℤ) → v ≤ℤ (m +ℤ s +ℤ s +ℤ s) → m ≤ℤ h → v ≤ℤ (h +ℤ s +ℤ s +ℤ s)
chain_run v m s h a b = omega (arith, ints)

chain_cell : (v m s h : ℤ) → v ≤ℤ (m +ℤ s) → m ≤ℤ h → v ≤ℤ (h +ℤ s)
chain_cell v m s h a b = omega (arith, ints)

-- ---- parents

-- a corner
corner : (vs : List Pt) → (vs ≡ [] → ⊥) → (c : Pt) × Includes vs c
corner [] some = absurd (some refl)
corner (c ∷ vs) some = (c, inl refl)

module _ (laws : RoundingLaws) (course : Course) (accelerates : 0 < nat_abs course.a) (ticks : 0 < course.k) where
  reaches : (lo hi width c : ℤ) (vs child part : List Pt) → IsChild course lo hi vs child → IsInSlot course width c child part → Reaches course.a course.k vs width c
  reaches lo hi width c vs child part is_child in_slot =
      let (q, j) = corner part (places_some laws (slot_low width c) (slot_high width c) child part in_slot) in
      let east = all_included (λ u. along (pos 1, pos 0) u ≤ℤ _) part q (places_within laws (slot_low width c) (slot_high width c) child part (pos 1, pos 0) _ in_slot (child_within laws course lo hi vs child 1 accelerates ticks (omega arith) is_child)) j in
      let west = all_included (λ u. along (minus_one, pos 0) u ≤ℤ _) part q (places_within laws (slot_low width c) (slot_high width c) child part (minus_one, pos 0) _ in_slot (child_within laws course lo hi vs child 5 accelerates ticks (omega arith) is_child)) j in
      let low = all_included (λ u. along (minus_one, pos 0) u ≤ℤ neg_ℤ (slot_low width c)) part q (places_west laws (slot_low width c) (slot_high width c) child part in_slot) j in
      let high = all_included (λ u. along (pos 1, pos 0) u ≤ℤ slot_high width c) part q (places_east laws (slot_low width c) (slot_high width c) child part in_slot) j in
      record {
        from_below = below q.x q.y (slot_low width c) (number (child_numbers course.a course.k vs) 1) east low;
        from_above = above q.x q.y (slot_high width c) (number (child_numbers course.a course.k vs) 5) west high;
      }

  module _ (i : ℕ) (before : List SetValue) where
    parent : (col row : ℤ) (x y : List Pt) (parts : HasParts course i before col row x y) (c : SetValue) → c.col ≡ col → c.row ≡ row → IsParent course parts.set c
    parent col row x y parts c e f = record {
      x = subst (Reaches course.a course.k parts.set.x course.w) (sym e) (reaches (box_at course i).xlo (box_at course i).xhi course.w col parts.set.x parts.child_x x parts.is_child_x parts.part_x);
      y = subst (Reaches course.a course.k parts.set.y course.g) (sym f) (reaches (box_at course i).ylo (box_at course i).yhi course.g row parts.set.y parts.child_y y parts.is_child_y parts.part_y);
    }

    -- ---- fair along each normal

    module _ (count : ℕ) (Held : ℕ → Pt → Type 0) (lo : ℤ) (c : SetValue) (cut : IsCut course i before count Held lo c) where
      fair_x : (j : ℕ) → j < 8 → IsFairAlong course before c (λ b. b.x) j
      fair_x j l =
          let m = cut.merged in
          let r : Reach laws course i before c.col c.row (λ p. p.0) j cut.x = merged_within laws course i before c.col c.row (λ p. p.0) (λ x y h. places_some laws (slot_low course.w c.col) (slot_high course.w c.col) h.child_x x h.part_x) ticks m.numbers_x cut.x m.most_x m.frame_x j l in
          let b : SetValue = r.parts.set in
          let n : Normal = frame_normal (pos course.k) j in
          let child = child_within laws course (box_at course i).xlo (box_at course i).xhi b.x r.parts.child_x j accelerates ticks l r.parts.is_child_x in
          let part = places_within laws (slot_low course.w c.col) (slot_high course.w c.col) r.parts.child_x r.x n _ r.parts.part_x child in
          let most = support_at_most n _ r.x (places_some laws (slot_low course.w c.col) (slot_high course.w c.col) r.parts.child_x r.x r.parts.part_x) part in
          let run = places_within laws lo cut.hi cut.x c.x n _ cut.clipped r.within in
          let last = support_at_most n _ c.x (places_some laws lo cut.hi cut.x c.x cut.clipped) run in (
            b,
            r.parts.listed,
            parent c.col c.row r.x r.y r.parts c refl refl,
            subst (λ z. z ≤ℤ (number (child_numbers course.a course.k b.x) j +ℤ number (map pos (slacks course.k)) j)) (support_at course.k j c.x l)
                (account_run (support n c.x) (number (child_numbers course.a course.k b.x) j) (by_speed n) (by_place n) (number (map pos (slacks course.k)) j) (chain_run (support n c.x) (support n r.x) (by_speed n) _ last most) (enough course.k j ticks l)),
          )

      fair_y : (j : ℕ) → j < 8 → IsFairAlong course before c (λ b. b.y) j
      fair_y j l =
          let m = cut.merged in
          let r : Reach laws course i before c.col c.row (λ p. p.1) j c.y = merged_within laws course i before c.col c.row (λ p. p.1) (λ x y h. places_some laws (slot_low course.g c.row) (slot_high course.g c.row) h.child_y y h.part_y) ticks m.numbers_y c.y m.most_y m.frame_y j l in
          let b : SetValue = r.parts.set in
          let n : Normal = frame_normal (pos course.k) j in
          let child = child_within laws course (box_at course i).ylo (box_at course i).yhi b.y r.parts.child_y j accelerates ticks l r.parts.is_child_y in
          let part = places_within laws (slot_low course.g c.row) (slot_high course.g c.row) r.parts.child_y r.y n _ r.parts.part_y child in
          let most = support_at_most n _ r.y (places_some laws (slot_low course.g c.row) (slot_high course.g c.row) r.parts.child_y r.y r.parts.part_y) part in
          let last = support_at_most n _ c.y (hull_some _ c.y m.frame_y) r.within in (
            b,
            r.parts.listed,
            parent c.col c.row r.x r.y r.parts c refl refl,
            subst (λ z. z ≤ℤ (number (child_numbers course.a course.k b.y) j +ℤ number (map pos (slacks course.k)) j)) (support_at course.k j c.y l)
                (account_cell (support n c.y) (number (child_numbers course.a course.k b.y) j) (by_speed n) (by_place n) (number (map pos (slacks course.k)) j) (not_negative n) (chain_cell (support n c.y) (support n r.y) (by_speed n) _ last most) (enough course.k j ticks l)),
          )

      fair_child : IsFairChild course before c
      fair_child = record {
        x = λ j h. fair_x j (below_eight j h);
        y = λ j h. fair_y j (below_eight j h);
      }

-- ---- lists

pub next_lists_fair : RoundingLaws → NextListsAreFair
next_lists_fair laws course i before pieces sets accelerates ticks next b h =
    let (c, j, e) = in_map (λ (z : ℤ × SetValue). z.1) next.cuts b (subst (λ (z : List SetValue). Includes z b) next.sets_are h) in
    subst (IsFairChild course before) (sym e) (fair_child laws course accelerates ticks i before (length pieces) (Hits pieces) c.0 c.1 (next.each c j))
