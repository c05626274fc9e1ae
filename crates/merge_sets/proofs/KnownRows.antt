-- A table after known numbers came in, and what it answers.
use Rattle.std.proofs.Common.{◌≡◌, ◌∙◌, ◌⊎◌, ℕ, zero, suc, ◌+◌, ◌-◌, ◌*◌, ◌≤◌, ◌<◌, arith, ap, sym, refl, subst, List, length, inl, inr, false}
use Rattle.std.specs.Prelude.{nat_abs, Option, Some, None, IfSome, option_map, slice_get}
use Rattle.std.proofs.lemmas.Option.{none-some, same_Some, slice_get_within, slice_get-get_or}
use lib.IntN.{ℤ, pos, ◌+ℤ◌, ◌-ℤ◌}
use lib.Signed.{◌≤ℤ◌, ◌<ℤ◌}
use Rattle.spot_terms.specs.CellNumbers.{Numbers}
use Rattle.spot_terms.specs.Courses.{cells_of, slots_met}
use Rattle.spot_terms.specs.Grid.{slot}
use Rattle.round_out.specs.declared.frames.FrameNumbers.{FrameNumbers}
use Rattle.spot_terms.proofs.Orders.{below_or_at_least, plus_zero}
use Rattle.spot_terms.proofs.Places.{compare3}
use Rattle.base_sets.specs.declared.grid.Grid.{Grid}
use Rattle.base_sets.specs.declared.grid.OuterBox.{OuterBox}
use Rattle.base_sets.specs.Values.{rect_of_box}
use Rattle.merge_sets.specs.BoxSlots.{HasCell, place_in}
use Rattle.merge_sets.specs.Cells.{AreEight, AreSound, IsStep, IsTable, JoinsColumn, OfBoth, joined_with, numbers_of, pair_of}
use Rattle.merge_sets.specs.Tables.{AreSoundIn, CanJoin, Holds, IsCellOf, JoinsRows, place_of}
use Rattle.merge_sets.specs.declared.cells.Cell.{Cell}
use Rattle.merge_sets.specs.declared.places.BoxSlots.{BoxSlots}
use Rattle.merge_sets.proofs.BoxCells.{one_place, place_below, place_past, steps_past}
use Rattle.merge_sets.proofs.ColumnLists.{sound_greater}
use Rattle.merge_sets.proofs.Joins.{both_joined}
use Rattle.merge_sets.proofs.Steps.{StepOf, cell_at, cell_in, cell_of, cell_side, holds_at, holds_one, none_past, not_of, place_same, table_of}

within_n : (p at n : ℕ) → at ≤ p → p < at + n → p - at < n
within_n p at n h l = omega (arith, h, l)

reach_n : (p at : ℕ) → at ≤ p → p ≡ at + (p - at)
reach_n p at h = omega (arith, h)

-- ---- what a table answers

module _ (step : StepOf) (slots : BoxSlots) (used : ℕ) (cells : List Cell) (rows : List (Option FrameNumbers)) (t : IsTable step slots used cells rows) (most : ℕ) (col row : ℤ) where
  -- a cell of the slots that the table keeps
  pub holds_in : (c : Cell) → HasCell slots col row → slice_get cells (place_in slots col row) ≡ Some c → Holds (table_of most step cells) col row (numbers_of c)
  holds_in c has got = go step refl
    where
      go : (s : StepOf) → step ≡ s → Holds (table_of most s cells) col row (numbers_of c)
      go None e = absurd (t.before e col row has)
      go (Some (o, grid, k)) e =
          let are = (t.in_step o grid k e).slots_are in
          holds_at o grid k most cells col row c (cell_of o grid slots col row are has) (subst (λ (p : ℕ). slice_get cells p ≡ Some c) (place_same o grid slots col row are) got)

  -- any other cell
  pub holds_none : (HasCell slots col row → ⊥) → Holds (table_of most step cells) col row None
  holds_none out = go step refl
    where
      go : (s : StepOf) → step ≡ s → Holds (table_of most s cells) col row None
      go None e = refl
      go (Some (o, grid, k)) e = none_past o grid k most cells col row (λ cell. out (cell_in o grid slots col row (t.in_step o grid k e).slots_are cell))

  -- the place of a cell is within the list
  pub within : HasCell slots col row → place_in slots col row < length cells
  within has = go step refl
    where
      go : (s : StepOf) → step ≡ s → place_in slots col row < length cells
      go None e = absurd (t.before e col row has)
      go (Some (o, grid, k)) e =
          let s = t.in_step o grid k e in
          let l : place_in slots col row < cells_of grid.w grid.g (rect_of_box o) = subst (λ (p : ℕ). p < cells_of grid.w grid.g (rect_of_box o)) (sym (place_same o grid slots col row s.slots_are)) (place_below o grid col row (cell_of o grid slots col row s.slots_are has)) in
          let u = s.used_is in let f = t.few in omega (arith, l, u, f)

  -- the numbers of a cell make frames of the step
  pub sound_in : (c : Cell) (m : Option (FrameNumbers × FrameNumbers)) → HasCell slots col row → slice_get cells (place_in slots col row) ≡ Some c → option_map pair_of m ≡ numbers_of c → AreSoundIn (table_of most step cells) m
  sound_in c None has got is = tt
  sound_in c (Some m) has got is = go step refl
    where
      go : (s : StepOf) → step ≡ s → AreSoundIn (table_of most s cells) (Some m)
      go None e = absurd (t.before e col row has)
      go (Some (o, grid, k)) e =
          let both : OfBoth (AreSound k) (Some (pair_of m)) = subst (OfBoth (AreSound k)) (sym is) ((t.in_step o grid k e).sound (place_in slots col row) c got) in
          (o, grid, k, refl, both.0, both.1)

-- ---- known numbers came into cells of a column

module _ (o : OuterBox) (grid : Grid) (k : ℕ) (slots : BoxSlots) (used : ℕ) (old : List Cell) (rows : List (Option FrameNumbers))
    (t : IsTable (Some (o, grid, k)) slots used old rows) (col low : ℤ) (x : List ℤ) (known : List (Option FrameNumbers))
    (each : (j : ℕ) → j < length known → IsCellOf o grid col (low +ℤ pos j)) where
  step : IsStep o grid k slots used old
  step = t.in_step o grid k refl

  first : 0 < length known → IsCellOf o grid col low
  first l = subst (IsCellOf o grid col) (plus_zero low) (each 0 l)

  some : (j : ℕ) → j < length known → 0 < length known
  some j l = omega (arith, l)

  -- the place of a cell that is j rows further up
  row_place : (j : ℕ) → j < length known → place_of o grid col (low +ℤ pos j) ≡ place_of o grid col low + j
  row_place j l = ap (λ (z : ℕ). nat_abs (col -ℤ slot grid.w o.xlo) * slots_met grid.g o.ylo o.yhi + z) (steps_past (slot grid.g o.ylo) low j (first (some j l)).1.low)
      ∙ more (nat_abs (col -ℤ slot grid.w o.xlo) * slots_met grid.g o.ylo o.yhi) (nat_abs (low -ℤ slot grid.g o.ylo)) j
    where
      more : (a b j : ℕ) → a + (b + j) ≡ a + b + j
      more a b j = omega arith

  pub known_fit : HasCell slots col low → place_in slots col low + length known ≤ used
  known_fit has = subst (λ (p : ℕ). p + length known ≤ used) (sym (place_same o grid slots col low step.slots_are)) (go (below_or_at_least 0 (length known)))
    where
      below : (row : ℤ) → IsCellOf o grid col row → place_of o grid col row < used
      below row cell = let l = place_below o grid col row cell in let u = step.used_is in omega (arith, l, u)

      go : (0 < length known) ⊎ (length known ≤ 0) → place_of o grid col low + length known ≤ used
      go (inl l) = let e = row_place (length known - 1) (omega (arith, l)) in let h = below (low +ℤ pos (length known - 1)) (each (length known - 1) (omega (arith, l))) in omega (arith, e, h, l)
      go (inr z) = let h = below low (cell_of o grid slots col low step.slots_are has) in omega (arith, z, h)

  -- no cell of the box is there: there are no numbers
  pub known_none : (HasCell slots col low → ⊥) → length known ≤ 0
  known_none out = go (below_or_at_least 0 (length known))
    where
      go : (0 < length known) ⊎ (length known ≤ 0) → length known ≤ 0
      go (inl l) = absurd (out (cell_in o grid slots col low step.slots_are (first l)))
      go (inr z) = z

  pub same_joins : (most : ℕ) → length known ≤ 0 → JoinsRows (table_of most (Some (o, grid, k)) old) (table_of most (Some (o, grid, k)) old) col low x known
  same_joins most none = record {
    most = refl;
    step = refl;
    inside = λ j r after got held. absurd (let l = slice_get_within known j r got in omega (arith, l, none));
    outside = λ c row after apart held. held;
  }

  module _ (has : HasCell slots col low) (new : List Cell) (joins : JoinsColumn (place_in slots col low) (length known) x known old new) where
    at_is : place_in slots col low ≡ place_of o grid col low
    at_is = place_same o grid slots col low step.slots_are

    -- a cell that isn't one of these is as before
    other : (c row : ℤ) → IsCellOf o grid c row → ((j : ℕ) → j < length known → c ≡ col → row ≡ low +ℤ pos j → ⊥) → slice_get new (place_of o grid c row) ≡ slice_get old (place_of o grid c row)
    other c row cell apart = joins.outside (place_of o grid c row) (compare3 (place_of o grid c row) (place_in slots col low)
        (λ l. inl l)
        (λ e. past (omega (arith, e)))
        (λ l. past (omega (arith, l))))
      where
        -- a place among them is that of one of these cells
        among : (j : ℕ) → j < length known → place_of o grid c row ≡ place_in slots col low + j → ⊥
        among j l e = let (same_col, same_row) = one_place o grid c row col (low +ℤ pos j) cell (each j l) (e ∙ ap (λ (p : ℕ). p + j) at_is ∙ sym (row_place j l)) in apart j l same_col same_row

        by : place_in slots col low ≤ place_of o grid c row → (place_of o grid c row < place_in slots col low + length known) ⊎ (place_in slots col low + length known ≤ place_of o grid c row) → (place_of o grid c row < place_in slots col low) ⊎ (place_in slots col low + length known ≤ place_of o grid c row)
        by h (inl l) = absurd (among (place_of o grid c row - place_in slots col low) (within_n (place_of o grid c row) (place_in slots col low) (length known) h l) (reach_n (place_of o grid c row) (place_in slots col low) h))
        by h (inr l) = inr l

        past : place_in slots col low ≤ place_of o grid c row → (place_of o grid c row < place_in slots col low) ⊎ (place_in slots col low + length known ≤ place_of o grid c row)
        past h = by h (below_or_at_least (place_of o grid c row) (place_in slots col low + length known))

    pub known_table : AreSound k x → ((j : ℕ) (f : FrameNumbers) → slice_get known j ≡ Some (Some f) → AreSound k f.n) → IsTable (Some (o, grid, k)) slots used new rows
    known_table sound_x sound = record {
      few = let e = joins.count in let f = t.few in omega (arith, e, f);
      unused = λ p c h got. t.unused p c h (sym (joins.outside p (inr (let f = known_fit has in omega (arith, f, h)))) ∙ got);
      as_many = t.as_many ∙ sym joins.count;
      near = t.near;
      before = t.before;
      in_step = λ b h n e. subst (λ (z : OuterBox × Grid × ℕ). IsStep z.0 z.1 z.2 slots used new) (same_Some (o, grid, k) (b, h, n) e) (record {
        box = step.box;
        widths = step.widths;
        ticks = step.ticks;
        slots_are = step.slots_are;
        used_is = step.used_is;
        sound = each_sound;
      });
    }
      where
        row_sound : (j : ℕ) (r : Option FrameNumbers) → slice_get known j ≡ Some r → IfSome r (λ f. AreSound k f.n)
        row_sound j None got = tt
        row_sound j (Some f) got = sound j f got

        joined_sound : (p : ℕ) (c : Cell) → place_in slots col low ≤ p → p < place_in slots col low + length known → slice_get new p ≡ Some c → OfBoth (AreSound k) (numbers_of c)
        joined_sound p c h l got =
            let j : ℕ = p - place_in slots col low in
            let p_is : p ≡ place_in slots col low + j = reach_n p (place_in slots col low) h in
            let less : j < length known = within_n p (place_in slots col low) (length known) h l in
            let row : slice_get known j ≡ Some _ = slice_get-get_or known j None less in
            let (m, before) = cell_at old (place_in slots col low + j) (let f = known_fit has in let g = t.few in omega (arith, f, g, less)) in
            let (d, found, is) = joins.inside j _ m less row before in
            let same : c ≡ d = same_Some c d (sym got ∙ ap (slice_get new) p_is ∙ found) in
            subst (λ (z : Cell). OfBoth (AreSound k) (numbers_of z)) (sym same) (subst (OfBoth (AreSound k)) (sym is)
            (both_joined (AreSound k) (sound_greater k) x _ (numbers_of m) sound_x (row_sound j _ row) (step.sound (place_in slots col low + j) m before)))

        each_sound : (p : ℕ) (c : Cell) → slice_get new p ≡ Some c → OfBoth (AreSound k) (numbers_of c)
        each_sound p c got = elim (below_or_at_least p (place_in slots col low)) [
          | inl l ↦ step.sound p c (sym (joins.outside p (inl l)) ∙ got)
          | inr h ↦ elim (below_or_at_least p (place_in slots col low + length known)) [
            | inl l ↦ joined_sound p c h l got
            | inr l ↦ step.sound p c (sym (joins.outside p (inr l)) ∙ got)
          ]
        ]

    pub known_joins : (most n : ℕ) → n ≡ most → JoinsRows (table_of most (Some (o, grid, k)) old) (table_of n (Some (o, grid, k)) new) col low x known
    known_joins most n e = subst (λ (z : ℕ). JoinsRows (table_of most (Some (o, grid, k)) old) (table_of z (Some (o, grid, k)) new) col low x known) (sym e) (record {
      most = refl;
      step = refl;
      inside = λ j r after got held.
          let less : j < length known = slice_get_within known j r got in
          let place : place_of o grid col (low +ℤ pos j) ≡ place_in slots col low + j = row_place j less ∙ ap (λ (p : ℕ). p + j) (sym at_is) in
          let (m, before) = cell_at old (place_in slots col low + j) (let f = known_fit has in let g = t.few in omega (arith, f, g, less)) in
          let (d, found, is) = joins.inside j r m less got before in (
            numbers_of m,
            holds_at o grid k most old col (low +ℤ pos j) m (each j less) (ap (slice_get old) place ∙ before),
            holds_one (table_of most (Some (o, grid, k)) new) col (low +ℤ pos j) after (numbers_of d) held (holds_at o grid k most new col (low +ℤ pos j) d (each j less) (ap (slice_get new) place ∙ found)) ∙ is,
          );
      outside = λ c row after apart held. elim (cell_side o grid c row) [
        | inr out ↦ subst (Holds (table_of most (Some (o, grid, k)) old) c row) (holds_one (table_of most (Some (o, grid, k)) new) c row None after (none_past o grid k most new c row (not_of o grid c row out)) held) (none_past o grid k most old c row (not_of o grid c row out))
        | inl cell ↦ let (m, before) = cell_at old (place_of o grid c row) (let l = place_below o grid c row cell in let u = step.used_is in let f = t.few in omega (arith, l, u, f)) in
            subst (Holds (table_of most (Some (o, grid, k)) old) c row) (holds_one (table_of most (Some (o, grid, k)) new) c row (numbers_of m) after (holds_at o grid k most new c row m cell (other c row cell apart ∙ before)) held) (holds_at o grid k most old c row m cell before)
      ];
    })
