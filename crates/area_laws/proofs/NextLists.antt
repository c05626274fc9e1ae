-- The list of a step, cell by cell: by column, then by row.
use Rattle.std.proofs.Common.{◌≡◌, ◌∙◌, ◌⊎◌, inl, inr, refl, sym, subst, arith, ℕ, List, [], ◌++◌, Some, None, append-nil}
use Rattle.std.proofs.lemmas.Int.{ints, by_lt_z}
use Rattle.std.proofs.lemmas.List.{map-append}
use lib.IntN.{ℤ, pos, ◌+ℤ◌}
use lib.Signed.{◌≤ℤ◌, ◌<ℤ◌}
use Rattle.spot_terms.specs.BaseSets.{SetValue, HoldsState}
use Rattle.spot_terms.specs.Courses.{Course, box_at}
use Rattle.spot_terms.specs.Grid.{slot, IsRemoved, AreFreeRuns, CoverTheRest}
use Rattle.spot_terms.specs.Lists.{Includes}
use Rattle.spot_terms.specs.Motions.{State}
use Rattle.spot_terms.specs.StepLists.{IsCut, ComesBefore, IsNextList}
use Rattle.spot_terms.specs.declared.plain.Pt.{Pt}
use Rattle.spot_terms.proofs.ListLemmas.{includes_front, includes_back, includes_either}
use Rattle.carve.specs.Cuts.{IsCutBy}
use Rattle.merge_sets.specs.Tables.{IsMergedIn, Table}
use Rattle.area_laws.specs.CellSets.{Cut, sets_of, IsCellBefore, IsThisCell, AreSetsOf, AreSetsBefore, AreSetsAt}
use Rattle.area_laws.specs.Filling.{IsFilledFrom}
use Rattle.area_laws.specs.Laws.{GoesFromCellToCell}
use Rattle.area_laws.specs.Leading.{IsNextState, IsRemovedOrHeld, LeadsOn}
use Rattle.area_laws.specs.Reaching.{IsCellIn}
use Rattle.area_laws.proofs.CellCuts.{no_sets, cell_sets}
use Rattle.area_laws.proofs.Reaching.{cut_in}
use Rattle.spot_terms.proofs.Slots.{slots_rise}
use Rattle.spot_terms.proofs.Ascents.{ascends_joined}

-- ---- cells in order

-- the next cell of the column
row_done : (col row c r : ℤ) → IsCellBefore col (row +ℤ pos 1) c r → IsCellBefore col row c r ⊎ IsThisCell col row c r
row_done col row c r (inl h) = inl (inl h)
row_done col row c r (inr (e, h)) = by_lt_z r row (λ less. inl (inr (e, less))) (λ more. inr (e, omega (arith, ints, h, more)))

row_later : (col row c r : ℤ) → IsCellBefore col row c r → IsCellBefore col (row +ℤ pos 1) c r
row_later col row c r (inl h) = inl h
row_later col row c r (inr (e, h)) = inr (e, omega (arith, ints, h))

-- the first cell of the next column
column_done : (col last first c r : ℤ) → first ≤ℤ r → r ≤ℤ last → IsCellBefore (col +ℤ pos 1) first c r → IsCellBefore col (last +ℤ pos 1) c r
column_done col last first c r low high (inl h) = by_lt_z c col (λ less. inl less) (λ more. inr (omega (arith, ints, h, more), omega (arith, ints, high)))
column_done col last first c r low high (inr (e, h)) = absurd (omega (arith, ints, h, low))

column_later : (col row first c r : ℤ) → IsCellBefore col row c r → IsCellBefore (col +ℤ pos 1) first c r
column_later col row first c r (inl h) = inl (omega (arith, ints, h))
column_later col row first c r (inr (e, h)) = inl (omega (arith, ints, e))

not_first : (col row c r : ℤ) → col ≤ℤ c → row ≤ℤ r → IsCellBefore col row c r → ⊥
not_first col row c r low high (inl h) = absurd (omega (arith, ints, h, low))
not_first col row c r low high (inr (e, h)) = absurd (omega (arith, ints, h, high))

-- ---- the sets of the cells that are done

module _ (course : Course) (i : ℕ) (before : List SetValue) (count : ℕ) (Hits : ℕ → Pt → Type 0) (wide : pos 0 <ℤ course.w) (high : pos 0 <ℤ course.g) where
  -- a next state is in a cell of the box
  state_in : (s u : State) → IsNextState course i s u → IsCellIn course i (slot course.w u.p.x) (slot course.g u.p.y)
  state_in s u n = record {
    col_in = record { low = slots_rise course.w _ _ wide n.in_box.x.low; high = slots_rise course.w _ _ wide n.in_box.x.high };
    row_in = record { low = slots_rise course.g _ _ high n.in_box.y.low; high = slots_rise course.g _ _ high n.in_box.y.high };
  }

  -- the same sets are those of other cells, where the two kinds differ in no cell of the box
  sets_over : (Of Over : ℤ → ℤ → Type 0) (sets : List SetValue) → ((c r : ℤ) → Of c r → Over c r) → ((c r : ℤ) → IsCellIn course i c r → Over c r → Of c r)
      → AreSetsOf course i before count Hits Of sets → AreSetsOf course i before count Hits Over sets
  sets_over Of Over sets on back h = record {
    cuts = h.cuts;
    sets_are = h.sets_are;
    are_cuts = record {
      ordered = h.are_cuts.ordered;
      each = λ c j. ((h.are_cuts.each c j).0, on c.1.col c.1.row (h.are_cuts.each c j).1);
      all = λ c cut n. h.are_cuts.all c cut (back c.1.col c.1.row (cut_in course i before count Hits c wide high cut) n);
    };
    hold = λ b s u j held next n. h.hold b s u j held next (back (slot course.w u.p.x) (slot course.g u.p.y) (state_in s u next) n);
  }

  -- at first
  pub no_cells : AreSetsBefore course i before count Hits (slot course.w (box_at course i).xlo) (slot course.g (box_at course i).ylo) []
  no_cells = record {
    cuts = [];
    sets_are = refl;
    are_cuts = record {
      ordered = tt;
      each = λ c j. absurd j;
      all = λ c cut n. let cell = cut_in course i before count Hits c wide high cut in absurd (not_first _ _ c.1.col c.1.row cell.col_in.low cell.row_in.low n);
    };
    hold = λ b s u j held next n. let cell = state_in s u next in absurd (not_first _ _ (slot course.w u.p.x) (slot course.g u.p.y) cell.col_in.low cell.row_in.low n);
  }

  -- a cell more
  pub more_cells : (col row : ℤ) (sets here : List SetValue) → AreSetsBefore course i before count Hits col row sets → AreSetsAt course i before count Hits col row here
      → AreSetsBefore course i before count Hits col (row +ℤ pos 1) (sets ++ here)
  more_cells col row sets here h a = record {
    cuts = h.cuts ++ a.cuts;
    sets_are = let e : sets ≡ sets_of h.cuts = h.sets_are in let f : here ≡ sets_of a.cuts = a.sets_are in let g : sets_of (h.cuts ++ a.cuts) ≡ sets_of h.cuts ++ sets_of a.cuts = map-append (λ (c : Cut). c.1) h.cuts a.cuts in cc;
    are_cuts = record {
      ordered = ascends_joined (ComesBefore course i before count Hits) h.cuts a.cuts h.are_cuts.ordered a.are_cuts.ordered (λ b c j k. in_order b c (h.are_cuts.each b j).1 (a.are_cuts.each c k).1);
      each = λ c j. each c (includes_either h.cuts a.cuts c j);
      all = λ c cut n. all c cut (row_done col row c.1.col c.1.row n);
    };
    hold = λ b s u j held next n. hold b s u j held next (row_done col row (slot course.w u.p.x) (slot course.g u.p.y) n);
  }
    where
      in_order : (b c : Cut) → IsCellBefore col row b.1.col b.1.row → IsThisCell col row c.1.col c.1.row → ComesBefore course i before count Hits b c
      in_order b c (inl l) (e, f) = inl (subst (λ (z : ℤ). b.1.col <ℤ z) (sym e) l)
      in_order b c (inr (g, l)) (e, f) = inr (g ∙ sym e, inl (subst (λ (z : ℤ). b.1.row <ℤ z) (sym f) l))

      each : (c : Cut) → Includes h.cuts c ⊎ Includes a.cuts c → IsCut course i before count Hits c.0 c.1 × IsCellBefore col (row +ℤ pos 1) c.1.col c.1.row
      each c (inl j) = ((h.are_cuts.each c j).0, row_later col row c.1.col c.1.row (h.are_cuts.each c j).1)
      each c (inr j) = ((a.are_cuts.each c j).0, now (a.are_cuts.each c j).1)
        where
          now : IsThisCell col row c.1.col c.1.row → IsCellBefore col (row +ℤ pos 1) c.1.col c.1.row
          now (e, f) = inr (e, omega (arith, ints, f))

      all : (c : Cut) → IsCut course i before count Hits c.0 c.1 → IsCellBefore col row c.1.col c.1.row ⊎ IsThisCell col row c.1.col c.1.row → Includes (h.cuts ++ a.cuts) c
      all c cut (inl n) = includes_front h.cuts a.cuts c (h.are_cuts.all c cut n)
      all c cut (inr n) = includes_back h.cuts a.cuts c (a.are_cuts.all c cut n)

      front : (u : State) → IsRemovedOrHeld course count Hits sets u → IsRemovedOrHeld course count Hits (sets ++ here) u
      front u (inl gone) = inl gone
      front u (inr (b, j, k)) = inr (b, includes_front sets here b j, k)

      back : (u : State) → IsRemovedOrHeld course count Hits here u → IsRemovedOrHeld course count Hits (sets ++ here) u
      back u (inl gone) = inl gone
      back u (inr (b, j, k)) = inr (b, includes_back sets here b j, k)

      hold : (b : SetValue) (s u : State) → Includes before b → HoldsState b s → IsNextState course i s u
          → IsCellBefore col row (slot course.w u.p.x) (slot course.g u.p.y) ⊎ IsThisCell col row (slot course.w u.p.x) (slot course.g u.p.y)
          → IsRemovedOrHeld course count Hits (sets ++ here) u
      hold b s u j held next (inl n) = front u (h.hold b s u j held next n)
      hold b s u j held next (inr n) = back u (a.hold b s u j held next n)

  -- a column more
  pub more_columns : (col : ℤ) (sets : List SetValue) → AreSetsBefore course i before count Hits col (slot course.g (box_at course i).yhi +ℤ pos 1) sets
      → AreSetsBefore course i before count Hits (col +ℤ pos 1) (slot course.g (box_at course i).ylo) sets
  more_columns col sets h = sets_over (IsCellBefore col (slot course.g (box_at course i).yhi +ℤ pos 1)) (IsCellBefore (col +ℤ pos 1) (slot course.g (box_at course i).ylo)) sets
      (λ c r n. column_later col _ _ c r n) (λ c r cell n. column_done col _ _ c r cell.row_in.low cell.row_in.high n) h

  -- all columns are done
  all_done : (c r : ℤ) → IsCellIn course i c r → IsCellBefore (slot course.w (box_at course i).xhi +ℤ pos 1) (slot course.g (box_at course i).ylo) c r
  all_done c r cell = inl (let h = cell.col_in.high in omega (arith, ints, h))

  pub is_next_list : (sets : List SetValue) → AreSetsBefore course i before count Hits (slot course.w (box_at course i).xhi +ℤ pos 1) (slot course.g (box_at course i).ylo) sets
      → IsNextList course i before count Hits sets
  is_next_list sets h = record {
    cuts = h.cuts;
    sets_are = h.sets_are;
    ordered = h.are_cuts.ordered;
    each = λ c j. (h.are_cuts.each c j).0;
    all = λ c cut. h.are_cuts.all c cut (all_done c.1.col c.1.row (cut_in course i before count Hits c wide high cut));
  }

  pub leads_on : (sets : List SetValue) → AreSetsBefore course i before count Hits (slot course.w (box_at course i).xhi +ℤ pos 1) (slot course.g (box_at course i).ylo) sets
      → LeadsOn course count Hits i before sets
  leads_on sets h b s u j held next = h.hold b s u j held next (all_done (slot course.w u.p.x) (slot course.g u.p.y) (state_in s u next))

-- ---- over a table that was filled from the sets before

module _ (course : Course) (i : ℕ) (before : List SetValue) (count : ℕ) (Hits : ℕ → Pt → Type 0) (t : Table) (wide : pos 0 <ℤ course.w) (high : pos 0 <ℤ course.g) (f : IsFilledFrom course i before t) where
  pub empty_cell : (col row : ℤ) (sets : List SetValue) → IsMergedIn t col row None → AreSetsBefore course i before count Hits col row sets
      → AreSetsBefore course i before count Hits col (row +ℤ pos 1) sets
  empty_cell col row sets none h =
      subst (λ (l : List SetValue). AreSetsBefore course i before count Hits col (row +ℤ pos 1) l) (append-nil sets)
      (more_cells course i before count Hits wide high col row sets [] h (no_sets course i before count Hits t wide high f col row none))

  pub cut_cell : (col row : ℤ) (b : SetValue) (runs : List (ℤ × ℤ)) (old new : List SetValue) → IsMergedIn t col row (Some b)
      → AreFreeRuns (IsRemoved count Hits course.g row) course.w col col runs → CoverTheRest (IsRemoved count Hits course.g row) course.w col col runs
      → IsCutBy b runs old new → AreSetsBefore course i before count Hits col row old → AreSetsBefore course i before count Hits col (row +ℤ pos 1) new
  cut_cell col row b runs old new is free covers cut h =
      subst (λ (l : List SetValue). AreSetsBefore course i before count Hits col (row +ℤ pos 1) l) (sym cut.added)
      (more_cells course i before count Hits wide high col row old cut.cuts h
      (cell_sets course i before count Hits t wide high f col row b runs cut.cuts is free covers cut.exact cut.keeps))

  pub goes_from_cell_to_cell : GoesFromCellToCell course i before count Hits t
  goes_from_cell_to_cell = record {
    none = no_cells course i before count Hits wide high;
    empty = empty_cell;
    cell = cut_cell;
    column = more_columns course i before count Hits wide high;
    list = is_next_list course i before count Hits wide high;
    leads = leads_on course i before count Hits wide high;
  }
