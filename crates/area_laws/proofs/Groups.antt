-- Pairs that have one polygon along x come into a table column by column.
use Rattle.std.proofs.Common.{◌≡◌, ◌∙◌, ◌⊎◌, inl, inr, refl, sym, ap, subst, arith, ℕ, ◌+◌, ◌<◌, List, [], ◌∷◌, ◌++◌, length, Option, Some, None}
use Rattle.std.specs.Prelude.{option_map}
use Rattle.std.specs.Int.{int_max}
use Rattle.std.proofs.lemmas.Int.{ints, clamps, by_lt_z}
use lib.IntN.{ℤ, pos, ◌+ℤ◌, ◌-ℤ◌}
use lib.Signed.{◌≤ℤ◌, ◌<ℤ◌}
use Rattle.spot_terms.specs.CellNumbers.{Numbers, greater, joined, IsInColumn, Collects}
use Rattle.spot_terms.specs.ChildNumbers.{frame_supports}
use Rattle.spot_terms.specs.ClippedTo.{places, IsClippedTo, IsClippedAway}
use Rattle.spot_terms.specs.Grid.{slot_low, slot_high}
use Rattle.spot_terms.specs.declared.plain.Pt.{Pt}
use Rattle.spot_terms.proofs.CellNumbers.{joining_collects}
use Rattle.spot_terms.proofs.ItemPlaces.{item_at}
use Rattle.spot_terms.proofs.Orders.{natural_of}
use Rattle.round_out.specs.declared.frames.FrameNumbers.{FrameNumbers}
use Rattle.merge_sets.specs.Cells.{IsPartNumbers, joined_with}
use Rattle.merge_sets.specs.Tables.{Holds, JoinsRows, Table}
use Rattle.area_laws.specs.Filling.{Pair}
use Rattle.area_laws.specs.Groups.{pairs_with, with_part, HasAnswer, AreRowNumbers, IsStrip, joined_row, IsGroupJoined, HasGroup}

-- ---- the greater numbers, taken twice and in another order

greater_same : (a : List ℤ) → greater a a ≡ a
greater_same [] = refl
greater_same (x ∷ a) =
    let first : int_max x x ≡ x = omega (arith, ints, clamps) in
    let rest : greater a a ≡ a = greater_same a in
    cc

greater_again : (o a : List ℤ) → greater (greater o a) a ≡ greater o a
greater_again [] a = refl
greater_again (x ∷ o) [] = refl
greater_again (x ∷ o) (y ∷ a) =
    let first : int_max (int_max x y) y ≡ int_max x y = omega (arith, ints, clamps) in
    let rest : greater (greater o a) a ≡ greater o a = greater_again o a in
    cc

greater_swap : (o m b : List ℤ) → greater (greater o m) b ≡ greater o (greater m b)
greater_swap [] m b = refl
greater_swap (x ∷ o) [] b = refl
greater_swap (x ∷ o) (y ∷ m) [] = refl
greater_swap (x ∷ o) (y ∷ m) (z ∷ b) =
    let first : int_max (int_max x y) z ≡ int_max x (int_max y z) = omega (arith, ints, clamps) in
    let rest : greater (greater o m) b ≡ greater o (greater m b) = greater_swap o m b in
    cc

abbrev numbers_of : List ℤ → List ℤ → Option Numbers
numbers_of a b = Some (a, b)

same_numbers : (x y z w : List ℤ) → x ≡ y → z ≡ w → numbers_of x z ≡ numbers_of y w
same_numbers x y z w e f = cc

-- one part more
joined_more : (old : Option Numbers) (a b : List ℤ) (r : Option (List ℤ)) → Some (joined (joined_row old a r) (a, b)) ≡ joined_row old a (Some (with_part r b))
joined_more old a b None = refl
joined_more None a b (Some m) = same_numbers (greater a a) a (greater m b) (greater m b) (greater_same a) refl
joined_more (Some o) a b (Some m) = same_numbers (greater (greater o.0 a) a) (greater o.0 a) (greater (greater o.1 m) b) (greater o.1 (greater m b)) (greater_again o.0 a) (greater_swap o.1 m b)

-- ---- a cell after a group

module _ (w g : ℤ) (k : ℕ) (col row : ℤ) (pairs : List Pair) (x : List Pt) (old : Option Numbers) (h : Collects w g k col row pairs old) where
  away_collects : (ys : List (List Pt)) → IsClippedAway (places (slot_low w col) (slot_high w col)) x → Collects w g k col row (pairs_with x ys ++ pairs) old
  away_collects [] away = h
  away_collects (y ∷ ys) away = joining_collects w g k col row (pairs_with x ys ++ pairs) x y old old (away_collects ys away) (inr (inl away, refl))

  part_collects : (part : List Pt) → IsInColumn w g k col row x part → (ys : List (List Pt)) (r : Option (List ℤ)) → AreRowNumbers g k row ys r
      → Collects w g k col row (pairs_with x ys ++ pairs) (joined_row old (frame_supports k part) r)
  part_collects part is [] r e = subst (λ (z : Option (List ℤ)). Collects w g k col row pairs (joined_row old (frame_supports k part) z)) (sym e) h
  part_collects part is (y ∷ ys) r (before, rows, inl (py, in_row, e)) =
      let a : List ℤ = frame_supports k part in
      let b : List ℤ = frame_supports k py in
      let more = joining_collects w g k col row (pairs_with x ys ++ pairs) x y (joined_row old a before) (Some (joined (joined_row old a before) (a, b))) (part_collects part is ys before rows) (inl (part, py, is, in_row, refl)) in
      subst (λ (z : Option (List ℤ)). Collects w g k col row (pairs_with x (y ∷ ys) ++ pairs) (joined_row old a z)) (sym e)
      (subst (Collects w g k col row (pairs_with x (y ∷ ys) ++ pairs)) (joined_more old a b before) more)
  part_collects part is (y ∷ ys) r (before, rows, inr (away, e)) =
      let a : List ℤ = frame_supports k part in
      subst (λ (z : Option (List ℤ)). Collects w g k col row (pairs_with x (y ∷ ys) ++ pairs) (joined_row old a z)) (sym e)
      (joining_collects w g k col row (pairs_with x ys ++ pairs) x y (joined_row old a before) (joined_row old a before) (part_collects part is ys before rows) (inr (inr away, refl)))

  pub group_collects : (ys : List (List Pt)) (new : Option Numbers) → IsGroupJoined w g k col row x ys old new → Collects w g k col row (pairs_with x ys ++ pairs) new
  group_collects ys new (r, rows, inl (part, is, e)) = subst (Collects w g k col row (pairs_with x ys ++ pairs)) (sym e) (part_collects part is ys r rows)
  group_collects ys new (r, rows, inr (away, e)) = subst (Collects w g k col row (pairs_with x ys ++ pairs)) (sym e) (away_collects ys away)

-- ---- rows of a strip

-- with one polygon more
pub row_part : (g : ℤ) (k : ℕ) (row : ℤ) (ys : List (List Pt)) (y : List Pt) (old : Option (List ℤ)) (f : FrameNumbers) → AreRowNumbers g k row ys old → IsPartNumbers g row k y (Some f) → AreRowNumbers g k row (y ∷ ys) (Some (with_part old f.n))
row_part g k row ys y old f h (part, is, e) = (old, h, inl (part, is, ap (λ (z : List ℤ). Some (with_part old z)) e))

pub row_away : (g : ℤ) (k : ℕ) (row : ℤ) (ys : List (List Pt)) (y : List Pt) (old : Option (List ℤ)) → AreRowNumbers g k row ys old → IsPartNumbers g row k y None → AreRowNumbers g k row (y ∷ ys) old
row_away g k row ys y old h away = (old, h, inr (away, refl))

-- how far a row is from the first
place_from : (low row : ℤ) → low ≤ℤ row → (j : ℕ) × (row ≡ low +ℤ pos j)
place_from low row h = go (row -ℤ low) (omega (arith, ints, h)) refl
  where
    go : (z : ℤ) → pos 0 ≤ℤ z → row -ℤ low ≡ z → (j : ℕ) × (row ≡ low +ℤ pos j)
    go z h e = let (n, f) = natural_of z h in (n, omega (arith, ints, e, f))

-- each row has its numbers
pub row_numbers : (g : ℤ) (k : ℕ) (ys : List (List Pt)) (low : ℤ) (rows : List (Option FrameNumbers)) → IsStrip g k ys low rows → (row : ℤ) → (r : Option (List ℤ)) × AreRowNumbers g k row ys r
row_numbers g k ys low rows s row = by_lt_z row low (λ less. (None, s.there row (inl less)))
    (λ from. by_lt_z row (low +ℤ pos (length rows)) (λ within. at (place_from low row from) within) (λ past. (None, s.there row (inr past))))
  where
    at : (j : ℕ) × (row ≡ low +ℤ pos j) → row <ℤ (low +ℤ pos (length rows)) → (r : Option (List ℤ)) × AreRowNumbers g k row ys r
    at (j, e) within =
        let (r, got) = item_at rows j (omega (arith, ints, e, within)) in
        (option_map (λ f. f.n) r, subst (λ (z : ℤ). AreRowNumbers g k z ys (option_map (λ f. f.n) r)) (sym e) (s.here j r got))

-- ---- column by column

module _ (w g : ℤ) (k : ℕ) (x : List Pt) (ys : List (List Pt)) (first : ℤ) (old : Table) where
  pub group_none : HasGroup w g k x ys first 0 old old
  group_none = record {
    step = refl;
    answers = λ col low high. absurd (omega (arith, ints, low, high));
    inside = λ col row after low high held. absurd (omega (arith, ints, low, high));
    outside = λ col row after out held. held;
  }

  -- the next column, or an earlier one
  by_column : (n : ℕ) (col : ℤ) → col <ℤ (first +ℤ pos (n + 1)) → (col <ℤ (first +ℤ pos n)) ⊎ (col ≡ first +ℤ pos n)
  by_column n col high = by_lt_z col (first +ℤ pos n) (λ less. inl less) (λ from. inr (omega (arith, ints, high, from)))

  still_out : (n : ℕ) (col : ℤ) → (col <ℤ first) ⊎ ((first +ℤ pos (n + 1)) ≤ℤ col) → (col <ℤ first) ⊎ ((first +ℤ pos n) ≤ℤ col)
  still_out n col (inl h) = inl h
  still_out n col (inr h) = inr (omega (arith, ints, h))

  module _ (n : ℕ) (t : Table) (h : HasGroup w g k x ys first n old t) (low : ℤ) (rows : List (Option FrameNumbers)) (strip : IsStrip g k ys low rows) where
    here_out : (col : ℤ) → col ≡ first +ℤ pos n → (col <ℤ first) ⊎ ((first +ℤ pos n) ≤ℤ col)
    here_out col e = inr (omega (arith, ints, e))

    -- x has no part in the next column
    pub group_away : IsPartNumbers w (first +ℤ pos n) k x None → HasGroup w g k x ys first (n + 1) old t
    group_away away = record {
      step = h.step;
      answers = λ col from high. answer col from (by_column n col high);
      inside = λ col row after from high held. inside col row after from held (by_column n col high);
      outside = λ col row after out held. h.outside col row after (still_out n col out) held;
    }
      where
        away_at : (col : ℤ) → col ≡ first +ℤ pos n → IsClippedAway (places (slot_low w col) (slot_high w col)) x
        away_at col e = subst (λ (c : ℤ). IsClippedAway (places (slot_low w c) (slot_high w c)) x) (sym e) away

        answer : (col : ℤ) → first ≤ℤ col → (col <ℤ (first +ℤ pos n)) ⊎ (col ≡ first +ℤ pos n) → HasAnswer w col x
        answer col from (inl less) = h.answers col from less
        answer col from (inr e) = inr (away_at col e)

        inside : (col row : ℤ) (after : Option Numbers) → first ≤ℤ col → Holds t col row after → (col <ℤ (first +ℤ pos n)) ⊎ (col ≡ first +ℤ pos n)
            → (before : Option Numbers) × Holds old col row before × IsGroupJoined w g k col row x ys before after
        inside col row after from held (inl less) = h.inside col row after from less held
        inside col row after from held (inr e) =
            let (r, are) = row_numbers g k ys low rows strip row in
            (after, h.outside col row after (here_out col e) held, (r, are, inr (away_at col e, refl)))

    -- the numbers of the part of x in the next column are joined to the cells of the strip
    pub group_part : (u : Table) (f : FrameNumbers) → IsPartNumbers w (first +ℤ pos n) k x (Some f) → JoinsRows t u (first +ℤ pos n) low f.n rows → HasGroup w g k x ys first (n + 1) old u
    group_part u f (part, is, numbers) joins = record {
      step = joins.step ∙ h.step;
      answers = λ col from high. answer col from (by_column n col high);
      inside = λ col row after from high held. inside col row after from held (by_column n col high);
      outside = λ col row after out held. h.outside col row after (still_out n col out) (joins.outside col row after (λ j l e f. not_out col out e) held);
    }
      where
        not_out : (col : ℤ) → (col <ℤ first) ⊎ ((first +ℤ pos (n + 1)) ≤ℤ col) → col ≡ first +ℤ pos n → ⊥
        not_out col (inl h) e = absurd (omega (arith, ints, h, e))
        not_out col (inr h) e = absurd (omega (arith, ints, h, e))

        part_at : (col : ℤ) → col ≡ first +ℤ pos n → IsClippedTo (places (slot_low w col) (slot_high w col)) x part
        part_at col e = subst (λ (c : ℤ). IsClippedTo (places (slot_low w c) (slot_high w c)) x part) (sym e) is

        answer : (col : ℤ) → first ≤ℤ col → (col <ℤ (first +ℤ pos n)) ⊎ (col ≡ first +ℤ pos n) → HasAnswer w col x
        answer col from (inl less) = h.answers col from less
        answer col from (inr e) = inl (part, part_at col e)

        less_not : (col : ℤ) → col <ℤ (first +ℤ pos n) → col ≡ first +ℤ pos n → ⊥
        less_not col less e = absurd (omega (arith, ints, less, e))

        -- joined with a row's numbers
        joined_is : (r : Option FrameNumbers) (before after : Option Numbers) → after ≡ joined_with f.n r before → after ≡ joined_row before (frame_supports k part) (option_map (λ f. f.n) r)
        joined_is None before after e = e
        joined_is (Some y) before after e = e ∙ ap (λ (z : List ℤ). joined_row before z (Some y.n)) numbers

        row_here : (row : ℤ) (after : Option Numbers) → Holds u (first +ℤ pos n) row after → (j : ℕ) → row ≡ low +ℤ pos j → j < length rows
            → (before : Option Numbers) × Holds old (first +ℤ pos n) row before × IsGroupJoined w g k (first +ℤ pos n) row x ys before after
        row_here row after held j e l =
            let (r, got) = item_at rows j l in
            let (before, was, is_joined) = joins.inside j r after got (subst (λ (z : ℤ). Holds u (first +ℤ pos n) z after) e held) in (
              before,
              h.outside (first +ℤ pos n) row before (here_out (first +ℤ pos n) refl) (subst (λ (z : ℤ). Holds t (first +ℤ pos n) z before) (sym e) was),
              (option_map (λ f. f.n) r, subst (λ (z : ℤ). AreRowNumbers g k z ys (option_map (λ f. f.n) r)) (sym e) (strip.here j r got), inl (part, is, joined_is r before after is_joined)),
            )

        row_there : (row : ℤ) (after : Option Numbers) → Holds u (first +ℤ pos n) row after → (row <ℤ low) ⊎ ((low +ℤ pos (length rows)) ≤ℤ row)
            → (before : Option Numbers) × Holds old (first +ℤ pos n) row before × IsGroupJoined w g k (first +ℤ pos n) row x ys before after
        row_there row after held out = (
          after,
          h.outside (first +ℤ pos n) row after (here_out (first +ℤ pos n) refl) (joins.outside (first +ℤ pos n) row after (λ j l e f. not_row j l out f) held),
          (None, strip.there row out, inl (part, is, refl)),
        )
          where
            not_row : (j : ℕ) → j < length rows → (row <ℤ low) ⊎ ((low +ℤ pos (length rows)) ≤ℤ row) → row ≡ low +ℤ pos j → ⊥
            not_row j l (inl h) e = absurd (omega (arith, ints, h, e))
            not_row j l (inr h) e = absurd (omega (arith, ints, h, e, l))

        here : (row : ℤ) (after : Option Numbers) → Holds u (first +ℤ pos n) row after
            → (before : Option Numbers) × Holds old (first +ℤ pos n) row before × IsGroupJoined w g k (first +ℤ pos n) row x ys before after
        here row after held = by_lt_z row low (λ less. row_there row after held (inl less))
            (λ from. by_lt_z row (low +ℤ pos (length rows)) (λ within. let (j, e) = place_from low row from in row_here row after held j e (omega (arith, ints, e, within))) (λ past. row_there row after held (inr past)))

        inside : (col row : ℤ) (after : Option Numbers) → first ≤ℤ col → Holds u col row after → (col <ℤ (first +ℤ pos n)) ⊎ (col ≡ first +ℤ pos n)
            → (before : Option Numbers) × Holds old col row before × IsGroupJoined w g k col row x ys before after
        inside col row after from held (inl less) = h.inside col row after from less (joins.outside col row after (λ j l e f. less_not col less e) held)
        inside col row after from held (inr e) =
            subst (λ (c : ℤ). Holds u c row after → (before : Option Numbers) × Holds old c row before × IsGroupJoined w g k c row x ys before after) (sym e) (here row after) held
