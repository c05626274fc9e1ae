-- The lists of a run, each with the one before.
use Rattle.std.proofs.Common.{◌≡◌, ◌∙◌, inl, inr, ℕ, zero, suc, ◌+◌, ◌*◌, arith, refl, sym, subst, List, [], ◌∷◌, length, Some, None, if◌then◌else◌, int_lt}
use Rattle.std.specs.Prelude.{nat_abs, slice_get}
use Rattle.std.proofs.lemmas.Int.{ints}
use lib.IntN.{ℤ, pos, neg_ℤ, ◌+ℤ◌, ◌-ℤ◌, ◌*ℤ◌}
use lib.Signed.{◌≤ℤ◌, ◌<ℤ◌}
use Rattle.spot_terms.specs.declared.plain.Pt.{Pt}
use Rattle.spot_terms.specs.declared.lines.End.{End}
use Rattle.spot_terms.specs.BaseSets.{SetValue, rect_of}
use Rattle.spot_terms.specs.Courses.{Course, box_at, outer_box, start_of}
use Rattle.spot_terms.specs.Frames.{at}
use Rattle.spot_terms.specs.Grid.{slot, slot_low, slot_high, IsRemoved}
use Rattle.spot_terms.specs.Pieces.{Piece, Hits}
use Rattle.spot_terms.specs.Reach.{reach_number}
use Rattle.spot_terms.specs.StepLists.{segment, first_set, IsFirstList, IsNextList, Follow}
use Rattle.spot_terms.specs.TwoSided.{IsBetween, IsInPlace, AreInPlace, IsUsable}
use Rattle.spot_terms.specs.Whole.{Within, SizeAtMost, quotient_floor}
use Rattle.spot_terms.proofs.Quotients.{quotient_floor-is}
use Rattle.spot_terms.proofs.StepLists.{segment_all}
use Rattle.spot_terms.proofs.Ring.{ring, var, num, ◌⊕◌, ◌⊗◌}
use Rattle.round_out.specs.Growth.{RoundingLaws}
use Rattle.fair_sets.specs.Fairness.{StepListsAreTwoSided}
use Rattle.fair_sets.proofs.Fair.{next_lists_fair}
use Rattle.fair_sets.proofs.InPlace.{chain, ends_within, next_lists_in_place}

some_is : {X : Type 0} (x y : X) → Some x ≡ Some y → x ≡ y
some_is x y e = cc

none_some : {X : Type 0} (y : X) → None ≡ Some y → ⊥
none_some y e = absurd (cc)

module _ (course : Course) (pieces : ℕ → List Piece) (n : ℕ) (end : End) where
  abbrev Next : ℕ → List SetValue → List SetValue → Type 0
  Next i before sets = IsNextList course i before (length (pieces i)) (Hits (pieces i)) sets

  next_at : (i : ℕ) (first : List SetValue) (later : List (List SetValue)) → Follow course (λ j. length (pieces j)) (λ j. Hits (pieces j)) n i first later end
      → (j : ℕ) (before sets : List SetValue) → slice_get (first ∷ later) j ≡ Some before → slice_get later j ≡ Some sets → Next (suc (i + j)) before sets
  next_at i [] later f j before sets a b = absurd (none_some sets (subst (λ (z : List (List SetValue)). slice_get z j ≡ Some sets) f.0 b))
  next_at i (c ∷ cs) [] f j before sets a b = absurd (none_some sets b)
  next_at i (c ∷ cs) (next ∷ later) f zero before sets a b =
      let (less, is_next, rest) = f in
      subst (λ m. Next m before sets) (omega arith) (subst (λ (z : List SetValue). Next (suc i) z sets) (some_is (c ∷ cs) before a) (subst (λ (z : List SetValue). Next (suc i) (c ∷ cs) z) (some_is next sets b) is_next))
  next_at i (c ∷ cs) (next ∷ later) f (suc j) before sets a b =
      let (less, is_next, rest) = f in
      subst (λ m. Next m before sets) (omega arith) (next_at (suc i) next later rest j before sets a b)

  next_from_start : (first : List SetValue) (later : List (List SetValue)) → Follow course (λ j. length (pieces j)) (λ j. Hits (pieces j)) n 0 first later end
      → (j : ℕ) (before sets : List SetValue) → slice_get (first ∷ later) j ≡ Some before → slice_get later j ≡ Some sets → Next (suc j) before sets
  next_from_start first later f j before sets a b = subst (λ m. Next (suc m) before sets) (none_more j) (next_at 0 first later f j before sets a b)
    where
      none_more : (j : ℕ) → 0 + j ≡ j
      none_more j = omega arith

-- ---- the set of the start

segment_some : (p lo hi : ℤ) → segment p lo hi ≡ [] → ⊥
segment_some p lo hi e = absurd (let f : at p lo ∷ (if int_lt lo hi then at p hi ∷ [] else []) ≡ [] = e in cc)

in_slot : (width place : ℤ) → pos 0 <ℤ width → Within (slot_low width (slot width place)) (slot_high width (slot width place)) place
in_slot width place some =
    let is = quotient_floor-is place width some in
    record { low = is.product_le; high = high place width (quotient_floor place width *ℤ width) _ (next (quotient_floor place width) width) is.next_product_gt }
  where
    next : (q d : ℤ) → (q +ℤ pos 1) *ℤ d ≡ (q *ℤ d) +ℤ d
    next q d = ring (q ∷ d ∷ []) ((var 0 ⊕ num (pos 1)) ⊗ var 1) ((var 0 ⊗ var 1) ⊕ var 1) refl

    high : (p w l m : ℤ) → m ≡ l +ℤ w → p <ℤ m → p ≤ℤ (l +ℤ w -ℤ pos 1)
    high p w l m e h = omega (arith, ints)

no_ticks : (k : ℕ) → 0 ≡ 0 * k
no_ticks k = omega arith

one_place : (p x : ℤ) → Within p p x → x ≡ p
one_place p x w = pin p x w.low w.high
  where
    pin : (p x : ℤ) → p ≤ℤ x → x ≤ℤ p → x ≡ p
    pin p x h k = omega (arith, ints)

itself : (p : ℤ) → Within p p p
itself p = record { low = omega (arith, ints); high = omega (arith, ints) }

ends_at : (a b p : ℤ) → a ≡ p → b ≡ p → Within a b p
ends_at a b p e f = subst (λ z. Within z b p) (sym e) (subst (λ z. Within p z p) (sym f) (itself p))

minus_x : (x y : ℤ) → neg_ℤ (neg_ℤ (pos 1) *ℤ x +ℤ pos 0 *ℤ y) ≡ x
minus_x x y = omega (arith, ints)

plus_x : (x y : ℤ) → pos 1 *ℤ x +ℤ pos 0 *ℤ y ≡ x
plus_x x y = omega (arith, ints)

minus_y : (x y : ℤ) → neg_ℤ (pos 0 *ℤ x +ℤ neg_ℤ (pos 1) *ℤ y) ≡ y
minus_y x y = omega (arith, ints)

plus_y : (x y : ℤ) → pos 0 *ℤ x +ℤ pos 1 *ℤ y ≡ y
plus_y x y = omega (arith, ints)

module _ (course : Course) where
  xlo_first : (outer_box (start_of course) 0).xlo ≡ course.p.x
  unfolding outer_box reach_number
  xlo_first = minus_x course.p.x course.p.y

  xlo_is : (box_at course 0).xlo ≡ course.p.x
  xlo_is = subst (λ t. (outer_box (start_of course) t).xlo ≡ course.p.x) (no_ticks course.k) xlo_first

  xhi_first : (outer_box (start_of course) 0).xhi ≡ course.p.x
  unfolding outer_box reach_number
  xhi_first = plus_x course.p.x course.p.y

  xhi_is : (box_at course 0).xhi ≡ course.p.x
  xhi_is = subst (λ t. (outer_box (start_of course) t).xhi ≡ course.p.x) (no_ticks course.k) xhi_first

  ylo_first : (outer_box (start_of course) 0).ylo ≡ course.p.y
  unfolding outer_box reach_number
  ylo_first = minus_y course.p.x course.p.y

  ylo_is : (box_at course 0).ylo ≡ course.p.y
  ylo_is = subst (λ t. (outer_box (start_of course) t).ylo ≡ course.p.y) (no_ticks course.k) ylo_first

  yhi_first : (outer_box (start_of course) 0).yhi ≡ course.p.y
  unfolding outer_box reach_number
  yhi_first = plus_y course.p.x course.p.y

  yhi_is : (box_at course 0).yhi ≡ course.p.y
  yhi_is = subst (λ t. (outer_box (start_of course) t).yhi ≡ course.p.y) (no_ticks course.k) yhi_first

  module _ (usable : IsUsable course) (count : ℕ) (Held : ℕ → Pt → Type 0) (stands : IsRemoved count Held course.g (slot course.g course.p.y) course.p.x → ⊥) where
    start_between : IsBetween course.p.x course.p.x (first_set course).x
    start_between = segment_all (λ c. Within course.p.x course.p.x c.x) course.p.x course.b.xlo course.b.xhi (itself course.p.x) (itself course.p.x)

    start_in_place : IsInPlace course 0 count Held (first_set course)
    start_in_place = record {
      col = segment_all (λ c. Within (slot_low course.w (slot course.w course.p.x)) (slot_high course.w (slot course.w course.p.x)) c.x) course.p.x course.b.xlo course.b.xhi (in_slot course.w course.p.x usable.columns) (in_slot course.w course.p.x usable.columns);
      row = segment_all (λ c. Within (slot_low course.g (slot course.g course.p.y)) (slot_high course.g (slot course.g course.p.y)) c.x) course.p.y course.b.ylo course.b.yhi (in_slot course.g course.p.y usable.rows) (in_slot course.g course.p.y usable.rows);
      box_x = let w = ends_at (box_at course 0).xlo (box_at course 0).xhi course.p.x xlo_is xhi_is in segment_all (λ c. Within (box_at course 0).xlo (box_at course 0).xhi c.x) course.p.x course.b.xlo course.b.xhi w w;
      box_y = let w = ends_at (box_at course 0).ylo (box_at course 0).yhi course.p.y ylo_is yhi_is in segment_all (λ c. Within (box_at course 0).ylo (box_at course 0).yhi c.x) course.p.y course.b.ylo course.b.yhi w w;
      slow_x = segment_all (λ c. SizeAtMost (nat_abs course.v) c.y) course.p.x course.b.xlo course.b.xhi usable.fits.xlo usable.fits.xhi;
      slow_y = segment_all (λ c. SizeAtMost (nat_abs course.v) c.y) course.p.y course.b.ylo course.b.yhi usable.fits.ylo usable.fits.yhi;
      free = λ x w removed.
          let (low, high) = ends_within course.p.x course.p.x (first_set course).x (segment_some course.p.x course.b.xlo course.b.xhi) start_between in
          stands (subst (λ z. IsRemoved count Held course.g (slot course.g course.p.y) z) (one_place course.p.x x (record { low = chain course.p.x (rect_of (first_set course)).xlo x low w.low; high = chain x (rect_of (first_set course)).xhi course.p.x w.high high })) removed);
    }

  none_in_place : (i count : ℕ) (Held : ℕ → Pt → Type 0) → AreInPlace course i count Held []
  none_in_place i count Held = record { each = λ b h. absurd h; one = λ col row lo hi j k b c run at_j at_k in_b in_c. absurd (none_some b at_j) }

  one_in_place : (i count : ℕ) (Held : ℕ → Pt → Type 0) (b : SetValue) → IsInPlace course i count Held b → AreInPlace course i count Held (b ∷ [])
  one_in_place i count Held b place = record {
    each = λ c h. elim h [ inl e ↦ subst (IsInPlace course i count Held) (sym e) place | inr none ↦ absurd none ];
    one = λ col row lo hi j k c d run at_j at_k in_c in_d. first_alone b c j at_j ∙ sym (first_alone b d k at_k);
  }
    where
      first_alone : (b c : SetValue) (j : ℕ) → slice_get (b ∷ []) j ≡ Some c → j ≡ 0
      first_alone b c zero e = refl
      first_alone b c (suc j) e = absurd (none_some c e)

  first_in_place : IsUsable course → (pieces : ℕ → List Piece) (sets : List SetValue) → IsFirstList course (λ j. length (pieces j)) (λ j. Hits (pieces j)) sets → AreInPlace course 0 (length (pieces 0)) (Hits (pieces 0)) sets
  first_in_place usable pieces sets (inl (stands, e)) = subst (AreInPlace course 0 (length (pieces 0)) (Hits (pieces 0))) (sym e) (one_in_place 0 (length (pieces 0)) (Hits (pieces 0)) (first_set course) (start_in_place usable (length (pieces 0)) (Hits (pieces 0)) stands))
  first_in_place usable pieces sets (inr (removed, e)) = subst (AreInPlace course 0 (length (pieces 0)) (Hits (pieces 0))) (sym e) (none_in_place 0 (length (pieces 0)) (Hits (pieces 0)))

-- ---- all lists

-- what stands before an item
before_at : {X : Type 0} (x : X) (xs : List X) (j : ℕ) (y : X) → slice_get xs j ≡ Some y → (z : X) × (slice_get (x ∷ xs) j ≡ Some z)
before_at x xs zero y e = (x, refl)
before_at x [] (suc j) y e = absurd (none_some y e)
before_at x (w ∷ xs) (suc j) y e = before_at w xs j y e

pub lists_two_sided : RoundingLaws → StepListsAreTwoSided
lists_two_sided laws course pieces n [] end usable lists = absurd lists
lists_two_sided laws course pieces n (first ∷ later) end usable (is_first, follow) = record {
  first = λ sets e. subst (IsFirstList course (λ j. length (pieces j)) (λ j. Hits (pieces j))) (some_is first sets e) is_first;
  place = place;
  fair = λ i before sets a b. next_lists_fair laws course (suc i) before (pieces (suc i)) sets usable.accelerates usable.ticks (next_from_start course pieces n end first later follow i before sets a b);
}
  where
    place : (i : ℕ) (sets : List SetValue) → slice_get (first ∷ later) i ≡ Some sets → AreInPlace course i (length (pieces i)) (Hits (pieces i)) sets
    place zero sets e = subst (AreInPlace course 0 (length (pieces 0)) (Hits (pieces 0))) (some_is first sets e) (first_in_place course usable pieces first is_first)
    place (suc i) sets e =
        let (before, a) = before_at first later i sets e in
        next_lists_in_place laws course (suc i) before (pieces (suc i)) sets usable.accelerates usable.ticks (next_from_start course pieces n end first later follow i before sets a e)
