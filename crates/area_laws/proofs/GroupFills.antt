-- A table that was filled from some sets is filled from a group more.
use Rattle.std.proofs.Common.{◌≡◌, ◌∙◌, ◌⊎◌, inl, inr, refl, sym, subst, arith, ℕ, List, [], ◌∷◌, ◌++◌, Option, Some, None, append-nil}
use Rattle.std.proofs.lemmas.Int.{ints, by_lt_z}
use Rattle.std.proofs.lemmas.List.{append_assoc}
use Rattle.std.specs.Prelude.{IsSomeAnd}
use lib.IntN.{ℤ, pos, ◌+ℤ◌, ◌-ℤ◌}
use lib.Signed.{◌≤ℤ◌, ◌<ℤ◌}
use Rattle.spot_terms.specs.BaseSets.{SetValue, HoldsState, InRect, greatest_place, least_place}
use Rattle.spot_terms.specs.CellNumbers.{joined}
use Rattle.spot_terms.specs.ChildNumbers.{frame_supports}
use Rattle.spot_terms.specs.ClippedTo.{places, IsClippedTo, IsClippedAway}
use Rattle.spot_terms.specs.Courses.{Course, box_at, slots_met}
use Rattle.spot_terms.specs.Grid.{slot, slot_low, slot_high}
use Rattle.spot_terms.specs.Frames.{at}
use Rattle.spot_terms.specs.Hull.{InHull, IsCornerList}
use Rattle.spot_terms.specs.Lists.{Includes}
use Rattle.spot_terms.specs.Motions.{State}
use Rattle.spot_terms.specs.declared.plain.Pt.{Pt}
use Rattle.spot_terms.proofs.ListLemmas.{includes_either}
use Rattle.spot_terms.proofs.Members.{in_map}
use Rattle.round_out.specs.declared.frames.FrameNumbers.{FrameNumbers}
use Rattle.propagate.specs.Children.{AreChildren, HoldsNext, HoldsPlane, IsPlaneChild, IsNext}
use Rattle.carve.proofs.RowPlaces.{columns_counted}
use Rattle.merge_sets.specs.Merging.{CollectsAll}
use Rattle.merge_sets.specs.Tables.{HoldsInCell, PartsHold, Table}
use Rattle.merge_sets.proofs.Parts.{leave_states}
use Rattle.merge_sets.proofs.PolyEnds.{places_order}
use Rattle.merge_sets.proofs.SlotsMet.{none_there}
use Rattle.area_laws.specs.Filling.{Pair, ArePairsOf, IsFilledFrom}
use Rattle.area_laws.specs.Groups.{pairs_with, with_part, HasAnswer, AreRowNumbers, IsStrip, HasGroup, IsGroupOf}
use Rattle.area_laws.specs.Laws.{GroupsFill}
use Rattle.area_laws.proofs.Groups.{group_away, group_collects, group_none, group_part, row_numbers}
use Rattle.area_laws.proofs.Pairs.{one_more, none_more}
use Rattle.area_laws.proofs.Sides.{child_inside, in_bound}
use Rattle.spot_terms.proofs.Slots.{slots_rise}

-- ---- the children of a set by planes

module _ (course : Course) (i : ℕ) (b : SetValue) (speed : pos 0 ≤ℤ course.v) where
  -- the child of each plane, and what it holds
  pub record IsChildAlong (lo hi : ℤ) (corners : List Pt) (child : Option (List Pt)) : Type 0 where
    pub is : IsPlaneChild course lo hi corners child
    pub holds : HoldsPlane course lo hi corners child

  abbrev pub IsChildAlongX : Option (List Pt) → Type 0
  IsChildAlongX x = IsChildAlong (box_at course i).xlo (box_at course i).xhi b.x x

  abbrev pub IsChildAlongY : Option (List Pt) → Type 0
  IsChildAlongY y = IsChildAlong (box_at course i).ylo (box_at course i).yhi b.y y

  next_x : (x : Option (List Pt)) → IsChildAlongX x → (s t : State) → HoldsState b s → IsNext course s t → InRect (box_at course i) t.p → IsSomeAnd x (λ c. InHull c (at t.p.x t.v.x))
  next_x x h s t held n r = h.holds s.p.x s.v.x t.p.x t.v.x held.x n.x (in_bound course.v t.v.x speed n.slow.x) r.x

  next_y : (y : Option (List Pt)) → IsChildAlongY y → (s t : State) → HoldsState b s → IsNext course s t → InRect (box_at course i) t.p → IsSomeAnd y (λ c. InHull c (at t.p.y t.v.y))
  next_y y h s t held n r = h.holds s.p.y s.v.y t.p.y t.v.y held.y n.y (in_bound course.v t.v.y speed n.slow.y) r.y

  pub both_children : (x y : List Pt) → IsChildAlongX (Some x) → IsChildAlongY (Some y) → AreChildren course (box_at course i) b (Some (x, y)) × HoldsNext course (box_at course i) b (Some (x, y))
  both_children x y h k = ((h.is, k.is), λ s t held n r. (next_x (Some x) h s t held n r, next_y (Some y) k s t held n r))

  pub no_child_x : IsChildAlongX None → AreChildren course (box_at course i) b None × HoldsNext course (box_at course i) b None
  no_child_x h = (inl h.is, λ s t held n r. next_x None h s t held n r)

  pub no_child_y : IsChildAlongY None → AreChildren course (box_at course i) b None × HoldsNext course (box_at course i) b None
  no_child_y h = (inr h.is, λ s t held n r. next_y None h s t held n r)

-- ---- a group, set by set

module _ (course : Course) (i : ℕ) (x : List Pt) where
  pub no_group : IsGroupOf course i x [] []
  no_group = record {
    convex = λ y j. absurd j;
    brings = λ before pairs are. subst (λ (l : List SetValue). ArePairsOf course i l pairs) (sym (append-nil before)) are;
  }

  module _ (sets : List SetValue) (ys : List (List Pt)) (b : SetValue) (h : IsGroupOf course i x sets ys) where
    behind : (before : List SetValue) (pairs : List Pair) → ArePairsOf course i (before ++ sets ++ b ∷ []) pairs → ArePairsOf course i (before ++ (sets ++ b ∷ [])) pairs
    behind before pairs are = subst (λ (l : List SetValue). ArePairsOf course i l pairs) (append_assoc before sets (b ∷ [])) are

    pub group_child : (y : List Pt) → AreChildren course (box_at course i) b (Some (x, y)) → HoldsNext course (box_at course i) b (Some (x, y)) → IsGroupOf course i x (sets ++ b ∷ []) (y ∷ ys)
    group_child y is holds = record {
      convex = convex;
      brings = λ before pairs are. behind before ((x, y) ∷ (pairs_with x ys ++ pairs)) (one_more course i (before ++ sets) (pairs_with x ys ++ pairs) b (h.brings before pairs are) (x, y) is holds);
    }
      where
        convex : (z : List Pt) → Includes (y ∷ ys) z → IsCornerList z
        convex z (inl e) = subst IsCornerList (sym e) (child_inside (box_at course i).ylo (box_at course i).yhi course.v is.1.0 y is.1.2).convex
        convex z (inr j) = h.convex z j

    pub group_childless : AreChildren course (box_at course i) b None → HoldsNext course (box_at course i) b None → IsGroupOf course i x (sets ++ b ∷ []) ys
    group_childless is holds = record {
      convex = h.convex;
      brings = λ before pairs are. behind before (pairs_with x ys ++ pairs) (none_more course i (before ++ sets) (pairs_with x ys ++ pairs) b (h.brings before pairs are) is holds);
    }

-- ---- no state is lost

leave_of : (w g : ℤ) (k : ℕ) (col row : ℤ) (x y : List Pt) (s : State) → IsCornerList x → IsCornerList y → HasAnswer w col x → HasAnswer g row y → HoldsInCell w g col row x y s → PartsHold w g k col row x y s
leave_of w g k col row x y s cx cy (inl (px, hx)) (inl (py, hy)) h = leave_states w g k col row x y None (Some (joined None (frame_supports k px, frame_supports k py))) s cx cy (inl (px, py, hx, hy, refl)) h
leave_of w g k col row x y s cx cy (inl hx) (inr away) h = leave_states w g k col row x y None None s cx cy (inr (inr away, refl)) h
leave_of w g k col row x y s cx cy (inr away) hy h = leave_states w g k col row x y None None s cx cy (inr (inl away, refl)) h

row_answer : (g : ℤ) (k : ℕ) (row : ℤ) (ys : List (List Pt)) (r : Option (List ℤ)) (y : List Pt) → AreRowNumbers g k row ys r → Includes ys y → HasAnswer g row y
row_answer g k row [] r y h j = absurd j
row_answer g k row (z ∷ ys) r y (old, rest, is) (inl e) = subst (HasAnswer g row) (sym e) (own is)
  where
    own : ((part : List Pt) × IsClippedTo (places (slot_low g row) (slot_high g row)) z part × (r ≡ Some (with_part old (frame_supports k part)))) ⊎ (IsClippedAway (places (slot_low g row) (slot_high g row)) z × (r ≡ old)) → HasAnswer g row z
    own (inl (part, h, e)) = inl (part, h)
    own (inr (away, e)) = inr away
row_answer g k row (z ∷ ys) r y (old, rest, is) (inr j) = row_answer g k row ys old y rest j

-- ---- all columns are done

-- x has no part in any other column
pub other_away : (w : ℤ) (x : List Pt) (first col : ℤ) (n : ℕ) → pos 0 <ℤ w → IsCornerList x → first ≡ slot w (least_place x) → n ≡ slots_met w (least_place x) (greatest_place x)
    → (col <ℤ first) ⊎ ((first +ℤ pos n) ≤ℤ col) → IsClippedAway (places (slot_low w col) (slot_high w col)) x
other_away w x first col n wide convex e f out = none_there x w col wide convex (past out)
  where
    counted : pos (slots_met w (least_place x) (greatest_place x)) ≡ slot w (greatest_place x) -ℤ slot w (least_place x) +ℤ pos 1
    counted = columns_counted (slot w (least_place x)) (slot w (greatest_place x)) (slots_rise w (least_place x) (greatest_place x) wide (places_order x))

    after : (p q first col : ℤ) (n m : ℕ) → first ≡ p → n ≡ m → pos m ≡ q -ℤ p +ℤ pos 1 → (first +ℤ pos n) ≤ℤ col → q <ℤ col
    after p q first col n m e f c h = omega (arith, ints, e, f, c, h)

    past : (col <ℤ first) ⊎ ((first +ℤ pos n) ≤ℤ col) → (col <ℤ slot w (least_place x)) ⊎ (slot w (greatest_place x) <ℤ col)
    past (inl h) = inl (subst (λ (z : ℤ). col <ℤ z) e h)
    past (inr h) = inr (after (slot w (least_place x)) (slot w (greatest_place x)) first col n (slots_met w (least_place x) (greatest_place x)) e f counted h)

module _ (course : Course) (i : ℕ) (before : List SetValue) (old new : Table) (f : IsFilledFrom course i before old) (x : List Pt) (sets : List SetValue) (ys : List (List Pt)) (group : IsGroupOf course i x sets ys)
    (convex : IsCornerList x) (first : ℤ) (n : ℕ) (has : HasGroup f.grid.w f.grid.g course.k x ys first n old new) (low : ℤ) (rows : List (Option FrameNumbers)) (strip : IsStrip f.grid.g course.k ys low rows)
    (away : (col : ℤ) → (col <ℤ first) ⊎ ((first +ℤ pos n) ≤ℤ col) → IsClippedAway (places (slot_low f.grid.w col) (slot_high f.grid.w col)) x) where
  by_side : {P : Type 0} (col : ℤ) → (first ≤ℤ col → col <ℤ (first +ℤ pos n) → P) → ((col <ℤ first) ⊎ ((first +ℤ pos n) ≤ℤ col) → P) → P
  by_side col a b = by_lt_z col first (λ less. b (inl less)) (λ from. by_lt_z col (first +ℤ pos n) (λ to. a from to) (λ past. b (inr past)))

  collects : CollectsAll new f.grid course.k (pairs_with x ys ++ f.pairs)
  collects col row after held = by_side col
      (λ from to. let (was, had, is) = has.inside col row after from to held in group_collects f.grid.w f.grid.g course.k col row f.pairs x was (f.collects col row was had) ys after is)
      (λ out. let (r, are) = row_numbers f.grid.g course.k ys low rows strip row in
      group_collects f.grid.w f.grid.g course.k col row f.pairs x after (f.collects col row after (has.outside col row after out held)) ys after (r, are, inr (away col out, refl)))

  leave : (p : Pair) (col row : ℤ) (s : State) → Includes (pairs_with x ys ++ f.pairs) p → HoldsInCell f.grid.w f.grid.g col row p.0 p.1 s → PartsHold f.grid.w f.grid.g course.k col row p.0 p.1 s
  leave p col row s j h = go (includes_either (pairs_with x ys) f.pairs p j)
    where
      own : (y : List Pt) → Includes ys y → HoldsInCell f.grid.w f.grid.g col row x y s → PartsHold f.grid.w f.grid.g course.k col row x y s
      own y k g =
          let (r, are) = row_numbers f.grid.g course.k ys low rows strip row in
          leave_of f.grid.w f.grid.g course.k col row x y s convex (group.convex y k) (by_side col (λ from to. has.answers col from to) (λ out. inr (away col out))) (row_answer f.grid.g course.k row ys r y are k) g

      go : Includes (pairs_with x ys) p ⊎ Includes f.pairs p → PartsHold f.grid.w f.grid.g course.k col row p.0 p.1 s
      go (inl k) = let (y, l, e) = in_map (λ (y : List Pt). (x, y)) ys p k in
          subst (λ (z : Pair). HoldsInCell f.grid.w f.grid.g col row z.0 z.1 s → PartsHold f.grid.w f.grid.g course.k col row z.0 z.1 s) (sym e) (own y l) h
      go (inr k) = f.leave p col row s k h

  pub filled_group : IsFilledFrom course i (before ++ sets) new
  filled_group = record {
    o = f.o;
    grid = f.grid;
    begun = record { step = has.step ∙ f.begun.step; box = f.begun.box; w = f.begun.w; g = f.begun.g };
    pairs = pairs_with x ys ++ f.pairs;
    are_pairs = group.brings before f.pairs f.are_pairs;
    collects = collects;
    leave = leave;
  }

-- ---- as calls answer it

-- where the columns are those that x meets
pub group_filled : (course : Course) (i : ℕ) (before : List SetValue) (old new : Table) (f : IsFilledFrom course i before old) (x : List Pt) (sets : List SetValue) (ys : List (List Pt)) (first : ℤ) (n : ℕ) (low : ℤ) (rows : List (Option FrameNumbers))
    → pos 0 <ℤ course.w → IsGroupOf course i x sets ys → IsCornerList x → first ≡ slot f.grid.w (least_place x) → n ≡ slots_met f.grid.w (least_place x) (greatest_place x) → IsStrip f.grid.g course.k ys low rows
    → HasGroup f.grid.w f.grid.g course.k x ys first n old new → IsFilledFrom course i (before ++ sets) new
group_filled course i before old new f x sets ys first n low rows wide group convex e c strip has =
    filled_group course i before old new f x sets ys group convex first n has low rows strip
    (λ col out. other_away f.grid.w x first col n (subst (λ (z : ℤ). pos 0 <ℤ z) (sym f.begun.w) wide) convex e c out)

-- sets without children
pub childless_filled : (course : Course) (i : ℕ) (before : List SetValue) (t : Table) (x : List Pt) (sets : List SetValue) → IsFilledFrom course i before t → IsGroupOf course i x sets [] → IsFilledFrom course i (before ++ sets) t
childless_filled course i before t x sets f group = record {
  o = f.o;
  grid = f.grid;
  begun = f.begun;
  pairs = f.pairs;
  are_pairs = group.brings before f.pairs f.are_pairs;
  collects = f.collects;
  leave = f.leave;
}

pub groups_fill : GroupsFill
groups_fill = record {
  none = no_group;
  child = λ course i x sets ys b y h is holds. group_child course i x sets ys b h y is holds;
  childless = λ course i x sets ys b h is holds. group_childless course i x sets ys b h is holds;
  no_column = group_none;
  away = λ w g k x ys first old n t low rows h strip away. group_away w g k x ys first old n t h low rows strip away;
  part = λ w g k x ys first old n t u low rows f h strip is joins. group_part w g k x ys first old n t h low rows strip u f is joins;
  filled = group_filled;
  none_filled = childless_filled;
}
