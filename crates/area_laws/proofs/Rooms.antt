-- The sets of a step are at most its row boxes: each is of another free run of the rows.
use Rattle.std.proofs.Common.{◌≡◌, ◌∙◌, ◌⊎◌, inl, inr, refl, sym, ap, subst, arith, ℕ, zero, suc, ◌+◌, ◌≤◌, length, List, [], ◌∷◌, ◌++◌, map, length-append}
use Rattle.std.proofs.lemmas.List.{length-map}
use Rattle.std.proofs.lemmas.Int.{ints}
use Rattle.std.specs.List.{AllByRecursion}
use lib.IntN.{ℤ, pos, ◌+ℤ◌, ◌-ℤ◌}
use lib.Signed.{◌≤ℤ◌, ◌<ℤ◌}
use Rattle.spot_terms.specs.BaseSets.{SetValue}
use Rattle.spot_terms.specs.Courses.{Course, box_at, slots_met}
use Rattle.spot_terms.specs.Frames.{at}
use Rattle.spot_terms.specs.Grid.{slot, slot_low, slot_high, IsRemoved, IsFreeRun, AreFreeRuns}
use Rattle.spot_terms.specs.Lists.{Includes, Ascends}
use Rattle.spot_terms.specs.RowBoxes.{row_boxes_in, runs_bound}
use Rattle.spot_terms.specs.StepLists.{IsCut, ComesBefore, IsNextList}
use Rattle.spot_terms.specs.Whole.{Within}
use Rattle.spot_terms.specs.declared.plain.Pt.{Pt}
use Rattle.spot_terms.proofs.ListLemmas.{all_of, all_included, includes_front, includes_back, includes_either, includes_map}
use Rattle.spot_terms.proofs.Members.{in_map, all_in_map}
use Rattle.spot_terms.proofs.Orders.{antisymmetric, at_most_trans, below_not_equal}
use Rattle.convex_poly.proofs.CornerCounts.{IsDistinct, distinct_few}
use Rattle.carve.specs.RowSums.{sum_rows}
use Rattle.carve.proofs.RowCounts.{rows_are_boxes}
use Rattle.carve.proofs.RowPlaces.{columns_counted}
use Rattle.area_laws.specs.CellSets.{Cut, sets_of, IsCellBefore, AreSetsBefore}
use Rattle.area_laws.specs.Reaching.{IsCellIn}
use Rattle.area_laws.specs.Rooms.{AreFewRuns, HasFewRuns}
use Rattle.area_laws.proofs.CellCuts.{starts_ascend}
use Rattle.area_laws.proofs.Reaching.{cut_in}
use Rattle.spot_terms.proofs.Slots.{slots_rise, one_slot}

-- ---- different items

distinct_joined : (xs ys : List Pt) → IsDistinct xs → IsDistinct ys → ((x y : Pt) → Includes xs x → Includes ys y → x ≡ y → ⊥) → IsDistinct (xs ++ ys)
distinct_joined [] ys a b apart = b
distinct_joined (x ∷ xs) ys a b apart = (all_of (λ y. x ≡ y → ⊥) (xs ++ ys) (λ y j. each y (includes_either xs ys y j)), distinct_joined xs ys a.1 b (λ u v j k. apart u v (inr j) k))
  where
    each : (y : Pt) → Includes xs y ⊎ Includes ys y → x ≡ y → ⊥
    each y (inl j) = all_included (λ z. x ≡ z → ⊥) xs y a.0 j
    each y (inr j) = apart x y (inl refl) j

-- what stands in order under a name, where equal names are out of order
distinct_names : {X : Type 0} (R : X → X → Type 0) (name : X → Pt) (xs : List X) → ((x y : X) → Includes xs x → Includes xs y → R x y → name x ≡ name y → ⊥) → Ascends R xs → IsDistinct (map name xs)
distinct_names R name [] apart a = tt
distinct_names R name (x ∷ xs) apart a = (
  all_in_map (λ z. name x ≡ z → ⊥) name xs (λ y j. apart x y (inl refl) (inr j) (all_included (R x) xs y a.0 j)),
  distinct_names R name xs (λ u v j k. apart u v (inr j) (inr k)) a.1,
)

-- ---- a free run by its row and its start

abbrev run_name : ℤ → ℤ × ℤ → Pt
run_name row run = at row run.0

abbrev cut_name : Cut → Pt
cut_name c = at c.1.row c.0

module _ (course : Course) (i : ℕ) (count : ℕ) (Hits : ℕ → Pt → Type 0) (range : ℕ → ℤ × ℤ) where
  -- a free run of a cell of the box begins at q.y in the row q.x
  record IsName (q : Pt) : Type 0 where
    col : ℤ
    hi : ℤ
    cell : IsCellIn course i col q.x
    run : IsFreeRun (IsRemoved count Hits course.g q.x) course.w col q.y hi

  abbrev bound : ℤ → ℕ
  bound row = runs_bound course.w course.g (box_at course i) count range row

  -- the names of the runs of n rows
  record RowNames (first : ℤ) (n : ℕ) : Type 0 where
    names : List Pt
    few : length names ≤ sum_rows bound first n
    all : (q : Pt) → IsName q → first ≤ℤ q.x → q.x <ℤ (first +ℤ pos n) → Includes names q

  row_names : (first : ℤ) (n : ℕ) → ((row : ℤ) → first ≤ℤ row → row <ℤ (first +ℤ pos n) → (runs : List (ℤ × ℤ)) × AreFewRuns course i count Hits range row runs) → RowNames first n
  row_names first zero h = record { names = []; few = omega arith; all = λ q is low high. absurd (omega (arith, ints, low, high)) }
  row_names first (suc n) h =
      let (runs, is) = h first (omega (arith, ints)) (omega (arith, ints)) in
      let rest = row_names (first +ℤ pos 1) n (λ row low high. h row (omega (arith, ints, low)) (omega (arith, ints, high))) in
      record {
        names = map (run_name first) runs ++ rest.names;
        few = (let a = length-append (map (run_name first) runs) rest.names in let b = length-map runs (run_name first) in let c = is.few in let d = rest.few in omega (arith, a, b, c, d));
        all = λ q name low high. all runs is rest q name low high (by_row q.x first low);
      }
    where
      by_row : (row first : ℤ) → first ≤ℤ row → (row ≡ first) ⊎ ((first +ℤ pos 1) ≤ℤ row)
      by_row row first low = grind (arith, ints)

      all : (runs : List (ℤ × ℤ)) → AreFewRuns course i count Hits range first runs → (rest : RowNames (first +ℤ pos 1) n) → (q : Pt) → IsName q → first ≤ℤ q.x → q.x <ℤ (first +ℤ pos (suc n))
          → (q.x ≡ first) ⊎ ((first +ℤ pos 1) ≤ℤ q.x) → Includes (map (run_name first) runs ++ rest.names) q
      all runs is rest q name low high (inl e) =
          let run : IsFreeRun (IsRemoved count Hits course.g first) course.w name.col q.y name.hi = subst (λ (z : ℤ). IsFreeRun (IsRemoved count Hits course.g z) course.w name.col q.y name.hi) e name.run in
          let there : Includes runs (q.y, name.hi) = is.free.all name.col q.y name.hi name.cell.col_in run in
          includes_front (map (run_name first) runs) rest.names q (subst (λ (z : ℤ). Includes (map (run_name first) runs) (at z q.y)) (sym e) (includes_map (run_name first) runs (q.y, name.hi) there))
      all runs is rest q name low high (inr later) = includes_back (map (run_name first) runs) rest.names q (rest.all q name later (omega (arith, ints, high)))

  -- different names are at most as many as row boxes
  few_names : pos 0 <ℤ course.g → (box_at course i).ylo ≤ℤ (box_at course i).yhi → HasFewRuns course i count Hits range → (names : List Pt) → IsDistinct names
      → ((q : Pt) → Includes names q → IsName q) → length names ≤ row_boxes_in course.w course.g (box_at course i) count range
  few_names high order has names apart are =
      let first : ℤ = slot course.g (box_at course i).ylo in
      let last : ℤ = slot course.g (box_at course i).yhi in
      let n : ℕ = slots_met course.g (box_at course i).ylo (box_at course i).yhi in
      let counted : pos n ≡ last -ℤ first +ℤ pos 1 = columns_counted first last (slots_rise course.g (box_at course i).ylo (box_at course i).yhi high order) in
      let rows = row_names first n (λ row low below. has row (record { low = low; high = upto row first last n counted below })) in
      let all : AllByRecursion (Includes rows.names) names = all_of (Includes rows.names) names (λ q j. let name = are q j in rows.all q name name.cell.row_in.low (under q.x first last n counted name.cell.row_in.high)) in
      let a = distinct_few names rows.names apart all in
      let b = rows.few in
      let c = rows_are_boxes course.w course.g (box_at course i) count range high order in
      omega (arith, a, b, c)
    where
      upto : (row first last : ℤ) (n : ℕ) → pos n ≡ last -ℤ first +ℤ pos 1 → row <ℤ (first +ℤ pos n) → row ≤ℤ last
      upto row first last n e h = omega (arith, ints, e, h)

      under : (row first last : ℤ) (n : ℕ) → pos n ≡ last -ℤ first +ℤ pos 1 → row ≤ℤ last → row <ℤ (first +ℤ pos n)
      under row first last n e h = omega (arith, ints, e, h)

-- ---- the names of sets

module _ (course : Course) (i : ℕ) (before : List SetValue) (count : ℕ) (Hits : ℕ → Pt → Type 0) (range : ℕ → ℤ × ℤ) (wide : pos 0 <ℤ course.w) (high : pos 0 <ℤ course.g) where
  abbrev Names : Pt → Type 0
  Names q = IsName course i count Hits range q

  -- the start of a run is in its column
  in_column : (row col lo hi : ℤ) → IsFreeRun (IsRemoved count Hits course.g row) course.w col lo hi → Within (slot_low course.w col) (slot_high course.w col) lo
  in_column row col lo hi f = record { low = f.low; high = at_most_trans lo hi (slot_high course.w col) f.some f.high }

  cut_named : (c : Cut) → IsCut course i before count Hits c.0 c.1 → Names (cut_name c)
  cut_named c cut = record { col = c.1.col; hi = cut.hi; cell = cut_in course i before count Hits c wide high cut; run = cut.run }

  -- two runs of one name are of one column
  same_column : (row line col d lo from hi to : ℤ) → at row lo ≡ at line from → IsFreeRun (IsRemoved count Hits course.g row) course.w col lo hi
      → IsFreeRun (IsRemoved count Hits course.g line) course.w d from to → (col ≡ d) × (row ≡ line) × (lo ≡ from)
  same_column row line col d lo from hi to e f g =
      let starts : lo ≡ from = ap (λ (q : Pt). q.y) e in
      (one_slot course.w col d from wide (subst (λ (z : ℤ). Within (slot_low course.w col) (slot_high course.w col) z) starts (in_column row col lo hi f)) (in_column line d from to g), ap (λ (q : Pt). q.x) e, starts)

  cuts_apart : (c d : Cut) → IsCut course i before count Hits c.0 c.1 → IsCut course i before count Hits d.0 d.1 → ComesBefore course i before count Hits c d → cut_name c ≡ cut_name d → ⊥
  cuts_apart c d cut dut order e = go order (same_column c.1.row d.1.row c.1.col d.1.col c.0 d.0 cut.hi dut.hi e cut.run dut.run)
    where
      go : ComesBefore course i before count Hits c d → (c.1.col ≡ d.1.col) × (c.1.row ≡ d.1.row) × (c.0 ≡ d.0) → ⊥
      go (inl l) s = below_not_equal c.1.col d.1.col l s.0
      go (inr (f, inl l)) s = below_not_equal c.1.row d.1.row l s.1
      go (inr (f, inr l)) s = below_not_equal c.0 d.0 l.1 s.2

  module _ (cuts : List Cut) (ordered : Ascends (ComesBefore course i before count Hits) cuts) (each : (c : Cut) → Includes cuts c → IsCut course i before count Hits c.0 c.1) where
    cuts_distinct : IsDistinct (map cut_name cuts)
    cuts_distinct = distinct_names (ComesBefore course i before count Hits) cut_name cuts (λ c d j k order e. cuts_apart c d (each c j) (each d k) order e) ordered

    cuts_named : (q : Pt) → Includes (map cut_name cuts) q → Names q
    cuts_named q j = let (c, k, e) = in_map cut_name cuts q j in subst Names (sym e) (cut_named c (each c k))

    -- with the free runs of a cell that is not done
    module _ (col row : ℤ) (runs : List (ℤ × ℤ)) (cell : IsCellIn course i col row) (free : AreFreeRuns (IsRemoved count Hits course.g row) course.w col col runs)
        (done : (c : Cut) → Includes cuts c → IsCellBefore col row c.1.col c.1.row) where
      run_here : (r : ℤ × ℤ) → Includes runs r → IsFreeRun (IsRemoved count Hits course.g row) course.w col r.0 r.1
      run_here r j = let k = free.each r j in subst (λ (z : ℤ). IsFreeRun (IsRemoved count Hits course.g row) course.w z r.0 r.1) (antisymmetric k.col col k.among.high k.among.low) k.free_run

      run_named : (q : Pt) → Includes (map (run_name row) runs) q → Names q
      run_named q j = let (r, k, e) = in_map (run_name row) runs q j in subst Names (sym e) (record { col = col; hi = r.1; cell = cell; run = run_here r k })

      runs_distinct : IsDistinct (map (run_name row) runs)
      runs_distinct = distinct_names (λ r s. r.0 <ℤ s.0) (run_name row) runs (λ r s j k l e. below_not_equal r.0 s.0 l (ap (λ (q : Pt). q.y) e))
          (starts_ascend runs (λ r j. (run_here r j).some) free.ordered)

      apart : (p q : Pt) → Includes (map cut_name cuts) p → Includes (map (run_name row) runs) q → p ≡ q → ⊥
      apart p q j k e =
          let (c, l, f) = in_map cut_name cuts p j in
          let (r, m, g) = in_map (run_name row) runs q k in
          go c (done c l) (same_column c.1.row row c.1.col col c.0 r.0 (each c l).hi r.1 (sym f ∙ e ∙ g) (each c l).run (run_here r m))
        where
          go : (c : Cut) → IsCellBefore col row c.1.col c.1.row → {lo : ℤ} → (c.1.col ≡ col) × (c.1.row ≡ row) × (c.0 ≡ lo) → ⊥
          go c (inl l) s = below_not_equal c.1.col col l s.0
          go c (inr (e, l)) s = below_not_equal c.1.row row l s.1

      pub cell_has_room : (box_at course i).ylo ≤ℤ (box_at course i).yhi → HasFewRuns course i count Hits range
          → length (sets_of cuts) + length runs ≤ row_boxes_in course.w course.g (box_at course i) count range
      cell_has_room order has =
          let all = few_names course i count Hits range high order has (map cut_name cuts ++ map (run_name row) runs) (distinct_joined (map cut_name cuts) (map (run_name row) runs) cuts_distinct runs_distinct apart)
          (λ q j. elim (includes_either (map cut_name cuts) (map (run_name row) runs) q j) [ inl k ↦ cuts_named q k | inr k ↦ run_named q k ]) in
          let a = length-append (map cut_name cuts) (map (run_name row) runs) in
          let b = length-map cuts cut_name in
          let c = length-map runs (run_name row) in
          let d = length-map cuts (λ (z : Cut). z.1) in
          omega (arith, all, a, b, c, d)

    pub list_has_room : (box_at course i).ylo ≤ℤ (box_at course i).yhi → HasFewRuns course i count Hits range
        → length (sets_of cuts) ≤ row_boxes_in course.w course.g (box_at course i) count range
    list_has_room order has =
        let all = few_names course i count Hits range high order has (map cut_name cuts) cuts_distinct cuts_named in
        let b = length-map cuts cut_name in
        let d = length-map cuts (λ (z : Cut). z.1) in
        omega (arith, all, b, d)

  -- ---- as the loop asks

  pub room_before : (col row : ℤ) (sets : List SetValue) (runs : List (ℤ × ℤ)) → (box_at course i).ylo ≤ℤ (box_at course i).yhi → HasFewRuns course i count Hits range → IsCellIn course i col row
      → AreSetsBefore course i before count Hits col row sets → AreFreeRuns (IsRemoved count Hits course.g row) course.w col col runs
      → length sets + length runs ≤ row_boxes_in course.w course.g (box_at course i) count range
  room_before col row sets runs order has cell h free =
      subst (λ (l : List SetValue). length l + length runs ≤ row_boxes_in course.w course.g (box_at course i) count range) (sym h.sets_are)
      (cell_has_room h.cuts h.are_cuts.ordered (λ c j. (h.are_cuts.each c j).0) col row runs cell free (λ c j. (h.are_cuts.each c j).1) order has)

  pub room_of_list : (sets : List SetValue) → (box_at course i).ylo ≤ℤ (box_at course i).yhi → HasFewRuns course i count Hits range → IsNextList course i before count Hits sets
      → length sets ≤ row_boxes_in course.w course.g (box_at course i) count range
  room_of_list sets order has l =
      subst (λ (z : List SetValue). length z ≤ row_boxes_in course.w course.g (box_at course i) count range) (sym l.sets_are) (list_has_room l.cuts l.ordered l.each order has)
