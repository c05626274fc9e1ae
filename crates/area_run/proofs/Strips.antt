-- Strips: what they have after each child, and the rows of them that come into a column.
use Rattle.std.proofs.Common.{◌≡◌, ◌∙◌, ◌⊎◌, inl, inr, ℕ, zero, suc, ◌+◌, ◌-◌, ◌<◌, ◌≤◌, arith, refl, sym, ap, subst, List, [], ◌∷◌, length, take, drop, Option, Some, None}
use Rattle.std.specs.Prelude.{nat_abs, option_map, slice_get, IfSome}
use Rattle.std.proofs.lemmas.Int.{ints, by_lt_z}
use Rattle.std.proofs.lemmas.List.{length-take-le, length-drop}
use Rattle.std.proofs.lemmas.Option.{none-some, same_Some}
use lib.IntN.{ℤ, pos, ◌+ℤ◌, ◌-ℤ◌}
use lib.Signed.{◌≤ℤ◌, ◌<ℤ◌}
use Rattle.spot_terms.specs.BaseSets.{least_place, greatest_place}
use Rattle.spot_terms.specs.ClippedTo.{places, IsClippedAway}
use Rattle.spot_terms.specs.Courses.{slots_met}
use Rattle.spot_terms.specs.Grid.{slot, slot_low, slot_high}
use Rattle.spot_terms.specs.Hull.{IsCornerList}
use Rattle.spot_terms.specs.Whole.{Within}
use Rattle.spot_terms.specs.declared.plain.Pt.{Pt}
use Rattle.spot_terms.proofs.ItemPlaces.{get_take, got_below, item_at}
use Rattle.spot_terms.proofs.Orders.{natural_of}
use Rattle.spot_terms.proofs.Places.{compare3}
use Rattle.round_out.specs.declared.frames.FrameNumbers.{FrameNumbers}
use Rattle.base_sets.specs.declared.grid.OuterBox.{OuterBox}
use Rattle.merge_sets.specs.Cells.{AreSound, IsPartNumbers}
use Rattle.merge_sets.specs.Strips.{AreSoundRows, IsForgotten, JoinsParts, row_joined}
use Rattle.area_laws.specs.Groups.{AreRowNumbers, IsStrip, with_part}
use Rattle.area_laws.proofs.Groups.{row_away, row_part}
use Rattle.area_run.specs.Strips.{FitsBox, IsEmptyStrip, IsStripOf, first_row, row_count}
use Rattle.area_run.specs.Windows.{IsWidened}
use Rattle.area_run.specs.declared.plan.Plan.{Plan}

abbrev numbers_in : Option FrameNumbers → Option (List ℤ)
numbers_in r = option_map (λ f. f.n) r

-- a place is before, in or behind a stretch
pub by_stretch : {P : Type 0} (from to j : ℕ) → (from ≤ j → j < to → P) → ((j < from) ⊎ (to ≤ j) → P) → P
by_stretch {P = P} from to j here there = compare3 j from (λ l. there (inl l)) (λ e. on (omega (arith, e))) (λ g. on (omega (arith, g)))
  where
    on : from ≤ j → P
    on a = compare3 j to (λ l. here a l) (λ e. there (inr (omega (arith, e)))) (λ g. there (inr (omega (arith, g))))

module _ (plan : Plan) (b : OuterBox) where
  -- ---- empty strips

  pub empty_strip : (rows : List (Option FrameNumbers)) → row_count plan b ≤ length rows → ((j : ℕ) (r : Option FrameNumbers) → slice_get rows j ≡ Some r → r ≡ None) → IsEmptyStrip plan b rows 0 0
  empty_strip rows room none = record {
    fits = record {
      room = room;
      order = omega arith;
      within = omega arith;
      quiet = λ j r o got. none j r got;
      sound = λ j f got. absurd (none-some f (sym (none j (Some f) got)));
    };
    none = record {
      here = λ j r l got. ap numbers_in (none j r got);
      there = λ row o. refl;
    };
  }

  pub started : (old new : List (Option FrameNumbers)) (n : ℕ) → row_count plan b ≤ length old → n ≡ length old → IsForgotten 0 n old new → IsEmptyStrip plan b new 0 0
  started old new n room e h = empty_strip new (let c = h.count in omega (arith, c, room)) (λ j r got. h.inside j r (omega arith) (let l = got_below new j r got in let c = h.count in omega (arith, l, c, e)) got)

  pub cleared : (old new : List (Option FrameNumbers)) (from to : ℕ) → FitsBox plan b old from to → IsForgotten from to old new → IsEmptyStrip plan b new 0 0
  cleared old new from to f h = empty_strip new (let c = h.count in let r = f.room in omega (arith, c, r))
      (λ j r got. by_stretch from to j (λ a l. h.inside j r a l got) (λ o. f.quiet j r o (sym (h.outside j o) ∙ got)))

  -- ---- a child more

  module _ (y : List Pt) (first : ℤ) (at n : ℕ) (old new : List (Option FrameNumbers)) (joins : JoinsParts at n plan.grid.g first plan.k y old new)
      (at_is : first ≡ first_row plan b +ℤ pos at) (within : at + n ≤ row_count plan b)
      (away : (row : ℤ) → (row <ℤ first) ⊎ ((first +ℤ pos n) ≤ℤ row) → IsClippedAway (places (slot_low plan.grid.g row) (slot_high plan.grid.g row)) y) where
    with_joined : (row : ℤ) (ys : List (List Pt)) (r part : Option FrameNumbers) (s : Option (List ℤ)) → AreRowNumbers plan.grid.g plan.k row ys (numbers_in r) → IsPartNumbers plan.grid.g row plan.k y part → s ≡ row_joined r part
        → AreRowNumbers plan.grid.g plan.k row (y ∷ ys) s
    with_joined row ys r None s h is e = subst (AreRowNumbers plan.grid.g plan.k row (y ∷ ys)) (sym e) (row_away plan.grid.g plan.k row ys y (numbers_in r) h is)
    with_joined row ys None (Some f) s h is e = subst (AreRowNumbers plan.grid.g plan.k row (y ∷ ys)) (sym e) (row_part plan.grid.g plan.k row ys y None f h is)
    with_joined row ys (Some q) (Some f) s h is e = subst (AreRowNumbers plan.grid.g plan.k row (y ∷ ys)) (sym e) (row_part plan.grid.g plan.k row ys y (Some q.n) f h is)

    same_row : (j i : ℕ) → j ≡ at + i → first +ℤ pos i ≡ first_row plan b +ℤ pos j
    same_row j i e = omega (arith, ints, e, at_is)

    -- a row into which no part came
    still : (ys : List (List Pt)) (j : ℕ) (r : Option FrameNumbers) → IsStripOf plan b ys old → j < row_count plan b → (j < at) ⊎ (at + n ≤ j) → slice_get new j ≡ Some r
        → AreRowNumbers plan.grid.g plan.k (first_row plan b +ℤ pos j) (y ∷ ys) (numbers_in r)
    still ys j r h l o got =
        row_away plan.grid.g plan.k (first_row plan b +ℤ pos j) ys y (numbers_in r) (h.here j r l (sym (joins.outside j o) ∙ got)) (away (first_row plan b +ℤ pos j) (out o))
      where
        out : (j < at) ⊎ (at + n ≤ j) → ((first_row plan b +ℤ pos j) <ℤ first) ⊎ ((first +ℤ pos n) ≤ℤ (first_row plan b +ℤ pos j))
        out (inl a) = inl (omega (arith, ints, a, at_is))
        out (inr a) = inr (omega (arith, ints, a, at_is))

    gains : (ys : List (List Pt)) (j i : ℕ) (r q : Option FrameNumbers) → IsStripOf plan b ys old → j < row_count plan b → j ≡ at + i → i < n → slice_get old j ≡ Some q → slice_get new j ≡ Some r
        → AreRowNumbers plan.grid.g plan.k (first_row plan b +ℤ pos j) (y ∷ ys) (numbers_in r)
    gains ys j i r q h l e m had got =
        let (s, found, (part, is, sum)) = joins.inside i q m (ap (slice_get old) (sym e) ∙ had) in
        let same : s ≡ r = same_Some s r (sym found ∙ ap (slice_get new) (sym e) ∙ got) in
        with_joined (first_row plan b +ℤ pos j) ys q part (numbers_in r) (h.here j q l had)
        (subst (λ (z : ℤ). IsPartNumbers plan.grid.g z plan.k y part) (same_row j i e) is) (ap numbers_in (sym same) ∙ sum)

    behind : (j : ℕ) → at ≤ j → j < at + n → (i : ℕ) × (j ≡ at + i) × (i < n)
    behind j a l = (j - at, omega (arith, a), omega (arith, a, l))

    pub strip_joined : (ys : List (List Pt)) → row_count plan b ≤ length old → IsStripOf plan b ys old → IsStripOf plan b (y ∷ ys) new
    strip_joined ys room h = record {
      here = λ j r l got. by_stretch at (at + n) j
          (λ a m. let (i, e, k) = behind j a m in let (q, had) = item_at old j (below j l) in gains ys j i r q h l e k had got)
          (λ o. still ys j r h l o got);
      there = λ row o. row_away plan.grid.g plan.k row ys y None (h.there row o) (away row (outside row o));
    }
      where
        below : (j : ℕ) → j < row_count plan b → j < length old
        below j l = omega (arith, l, room)

        outside : (row : ℤ) → (row <ℤ first_row plan b) ⊎ ((first_row plan b +ℤ pos (row_count plan b)) ≤ℤ row) → (row <ℤ first) ⊎ ((first +ℤ pos n) ≤ℤ row)
        outside row (inl a) = inl (omega (arith, ints, a, at_is))
        outside row (inr a) = inr (omega (arith, ints, a, at_is, within))

    pub fits_joined : (from to low high : ℕ) → FitsBox plan b old from to → IsWidened from to at (at + n) low high → FitsBox plan b new low high
    fits_joined from to low high f w = record {
      room = (let c = joins.count in let r = f.room in omega (arith, c, r));
      order = w.order;
      within = w.bound (row_count plan b) f.within within;
      quiet = λ j r o got. f.quiet j r (before j o) (sym (joins.outside j (beside j o)) ∙ got);
      sound = joins.sound;
    }
      where
        beside : (j : ℕ) → (j < low) ⊎ (high ≤ j) → (j < at) ⊎ (at + n ≤ j)
        beside j (inl a) = inl (let l = w.left in omega (arith, a, l))
        beside j (inr a) = inr (let r = w.right in omega (arith, a, r))

        within_old : (j : ℕ) → (low ≤ from) × (to ≤ high) → (j < low) ⊎ (high ≤ j) → (j < from) ⊎ (to ≤ j)
        within_old j (p, q) (inl a) = inl (omega (arith, a, p))
        within_old j (p, q) (inr a) = inr (omega (arith, a, q))

        before : (j : ℕ) → (j < low) ⊎ (high ≤ j) → (j < from) ⊎ (to ≤ j)
        before j o = elim w.holds [
          | inl e ↦ compare3 j from (λ l. inl l) (λ g. inr (omega (arith, e, g))) (λ g. inr (omega (arith, e, g)))
          | inr h ↦ within_old j h o
        ]

  -- ---- the rows that have numbers

  get_rest : (rows : List (Option FrameNumbers)) (n i : ℕ) → slice_get (drop n rows) i ≡ slice_get rows (n + i)
  get_rest rows zero i = let e : 0 + i ≡ i = omega arith in ap (slice_get rows) (sym e)
  get_rest [] (suc n) i = refl
  get_rest (r ∷ rows) (suc n) i = let e : suc n + i ≡ suc (n + i) = omega arith in get_rest rows n i ∙ ap (slice_get (r ∷ rows)) (sym e)

  module _ (rows : List (Option FrameNumbers)) (from to : ℕ) (f : FitsBox plan b rows from to) where
    pub window : List (Option FrameNumbers)
    window = take (to - from) (drop from rows)

    pub window_length : length (take (to - from) (drop from rows)) ≡ to - from
    window_length = length-take-le (to - from) (drop from rows) (let l : length (drop from rows) ≡ length rows - from = length-drop from rows in let r = f.room in let w = f.within in omega (arith, l, r, w))

    window_item : (j : ℕ) (r : Option FrameNumbers) → slice_get (take (to - from) (drop from rows)) j ≡ Some r → (j < to - from) × (slice_get rows (from + j) ≡ Some r)
    window_item j r got = let (l, had) = get_take (drop from rows) (to - from) j r got in (l, sym (get_rest rows from j) ∙ had)

    pub window_sound : (j : ℕ) (g : FrameNumbers) → slice_get (take (to - from) (drop from rows)) j ≡ Some (Some g) → AreSound plan.k g.n
    window_sound j g got = f.sound (from + j) g (window_item j (Some g) got).1

    shifted : (j : ℕ) → first_row plan b +ℤ pos (from + j) ≡ first_row plan b +ℤ pos from +ℤ pos j
    shifted j = omega (arith, ints)

    in_box : (j : ℕ) → j < to - from → from + j < row_count plan b
    in_box j l = let w = f.within in omega (arith, l, w)

    -- how far a row is from the first
    row_place : (row : ℤ) → first_row plan b ≤ℤ row → (j : ℕ) × (row ≡ first_row plan b +ℤ pos j)
    row_place row h = let (n, e) = natural_of (row -ℤ first_row plan b) (omega (arith, ints, h)) in (n, omega (arith, ints, e))

    pub window_strip : (ys : List (List Pt)) → IsStripOf plan b ys rows → IsStrip plan.grid.g plan.k ys (first_row plan b +ℤ pos from) (take (to - from) (drop from rows))
    window_strip ys h = record {
      here = λ j r got. let (l, had) = window_item j r got in
          subst (λ (z : ℤ). AreRowNumbers plan.grid.g plan.k z ys (numbers_in r)) (shifted j) (h.here (from + j) r (in_box j l) had);
      there = λ row o. by_lt_z row (first_row plan b) (λ less. h.there row (inl less)) (λ low. by_lt_z row (first_row plan b +ℤ pos (row_count plan b))
          (λ high. let (j, e) = row_place row low in silent row j e (inside row j e high) (beside row j e o))
          (λ past. h.there row (inr past)));
    }
      where
        inside : (row : ℤ) (j : ℕ) → row ≡ first_row plan b +ℤ pos j → row <ℤ (first_row plan b +ℤ pos (row_count plan b)) → j < row_count plan b
        inside row j e h = omega (arith, ints, e, h)

        beside : (row : ℤ) (j : ℕ) → row ≡ first_row plan b +ℤ pos j → (row <ℤ (first_row plan b +ℤ pos from)) ⊎ ((first_row plan b +ℤ pos from +ℤ pos (length (take (to - from) (drop from rows)))) ≤ℤ row) → (j < from) ⊎ (to ≤ j)
        beside row j e (inl a) = inl (omega (arith, ints, e, a))
        beside row j e (inr a) = inr (let o = f.order in omega (arith, ints, e, a, window_length, o))

        silent : (row : ℤ) (j : ℕ) → row ≡ first_row plan b +ℤ pos j → j < row_count plan b → (j < from) ⊎ (to ≤ j) → AreRowNumbers plan.grid.g plan.k row ys None
        silent row j e l o =
            let (r, got) = item_at rows j (let m = f.room in omega (arith, l, m)) in
            subst (λ (z : ℤ). AreRowNumbers plan.grid.g plan.k z ys None) (sym e)
            (subst (λ (z : Option FrameNumbers). AreRowNumbers plan.grid.g plan.k (first_row plan b +ℤ pos j) ys (numbers_in z)) (f.quiet j r o got) (h.here j r l got))
