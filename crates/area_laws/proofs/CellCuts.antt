-- The sets of one cell: its polygons cut to its free runs.
use Rattle.std.proofs.Common.{◌≡◌, ◌∙◌, inl, inr, refl, sym, ap, subst, ℕ, List, [], ◌∷◌, Option, Some, None}
use Rattle.std.specs.Prelude.{IsSomeAnd}
use Rattle.std.proofs.lemmas.Option.{same_Some}
use lib.IntN.{ℤ, pos}
use lib.Signed.{◌≤ℤ◌, ◌<ℤ◌}
use Rattle.spot_terms.specs.BaseSets.{SetValue, HoldsState}
use Rattle.spot_terms.specs.CellNumbers.{Numbers, Collects}
use Rattle.spot_terms.specs.ClippedTo.{places, IsClippedTo}
use Rattle.spot_terms.specs.Courses.{Course}
use Rattle.spot_terms.specs.Frames.{at}
use Rattle.spot_terms.specs.Grid.{slot, IsRemoved, IsFreeRun, IsFreeRunOf, AreFreeRuns, AreInTurn, CoverTheRest}
use Rattle.spot_terms.specs.Hull.{InHull}
use Rattle.spot_terms.specs.Lists.{Includes, Ascends}
use Rattle.spot_terms.specs.Motions.{State}
use Rattle.spot_terms.specs.StepLists.{IsMerged, IsCut, ComesBefore}
use Rattle.spot_terms.specs.declared.plain.Pt.{Pt}
use Rattle.spot_terms.proofs.ListLemmas.{all_of, all_included}
use Rattle.spot_terms.proofs.OneClip.{clips_one, clips_not_both}
use Rattle.spot_terms.proofs.Orders.{antisymmetric, at_most_below, reflexive}
use Rattle.base_sets.specs.declared.grid.Grid.{Grid}
use Rattle.base_sets.specs.declared.grid.OuterBox.{OuterBox}
use Rattle.carve.specs.Cuts.{with_x, AreCuts, KeepsStates}
use Rattle.merge_sets.specs.Tables.{Holds, HoldsInCell, IsMergedIn, IsMergedOf, Table}
use Rattle.merge_sets.proofs.Collections.{merged_sets_hold}
use Rattle.area_laws.specs.CellSets.{Cut, sets_of, IsThisCell, HoldIn, AreSetsAt}
use Rattle.area_laws.specs.Filling.{Pair, IsFilledFrom}
use Rattle.area_laws.specs.Leading.{IsNextState}
use Rattle.area_laws.proofs.Parts.{is_merged, not_merged, merged_one}
use Rattle.spot_terms.proofs.Slots.{place_in_slot}

-- ---- the cuts of a set, with the starts of their runs

abbrev run_at : ℤ → ℤ → ℤ × ℤ
run_at lo hi = (lo, hi)

abbrev cut_at : ℤ → SetValue → Cut
cut_at lo s = (lo, s)

record CutsOf (b : SetValue) (runs : List (ℤ × ℤ)) (sets : List SetValue) : Type 0 where
  cuts : List Cut
  sets_are : sets ≡ sets_of cuts
  each : (c : Cut) → Includes cuts c → (hi : ℤ) × Includes runs (c.0, hi) × (x : List Pt) × IsClippedTo (places c.0 hi) b.x x × (c.1 ≡ with_x b x)
  all : (lo hi : ℤ) (x : List Pt) → Includes runs (lo, hi) → IsClippedTo (places lo hi) b.x x → Includes cuts (lo, with_x b x)
  ordered : Ascends (λ r s. r.0 <ℤ s.0) runs → Ascends (λ c d. c.0 <ℤ d.0) cuts

cuts_of : (b : SetValue) (runs : List (ℤ × ℤ)) (sets : List SetValue) → AreCuts b runs sets → CutsOf b runs sets
cuts_of b [] sets e = record { cuts = []; sets_are = e; each = λ c i. absurd i; all = λ lo hi x i h. absurd i; ordered = λ o. tt }
cuts_of b (run ∷ runs) sets (inl (away, rest)) = let r = cuts_of b runs sets rest in record {
  cuts = r.cuts;
  sets_are = r.sets_are;
  each = λ c i. let (hi, j, x, h, e) = r.each c i in (hi, inr j, x, h, e);
  all = λ lo hi x i h. all lo hi x r i h;
  ordered = λ o. r.ordered o.1;
}
  where
    all : (lo hi : ℤ) (x : List Pt) (r : CutsOf b runs sets) → Includes (run ∷ runs) (lo, hi) → IsClippedTo (places lo hi) b.x x → Includes r.cuts (lo, with_x b x)
    all lo hi x r (inl e) h = absurd (clips_not_both (places run.0 run.1) b.x x (subst (λ (z : ℤ × ℤ). IsClippedTo (places z.0 z.1) b.x x) e h) away)
    all lo hi x r (inr j) h = r.all lo hi x j h
cuts_of b (run ∷ runs) sets (inr (part, later, clip, rest, e)) = let r = cuts_of b runs later rest in record {
  cuts = (run.0, with_x b part) ∷ r.cuts;
  sets_are = let f : later ≡ sets_of r.cuts = r.sets_are in e ∙ ap (λ (l : List SetValue). with_x b part ∷ l) f;
  each = λ c i. each c r i;
  all = λ lo hi x i h. all lo hi x r i h;
  ordered = λ o. (all_of (λ d. run.0 <ℤ d.0) r.cuts (λ d i. let (hi, j, x, h, k) = r.each d i in all_included (λ s. run.0 <ℤ s.0) runs (d.0, hi) o.0 j), r.ordered o.1);
}
  where
    each : (c : Cut) (r : CutsOf b runs later) → Includes ((run.0, with_x b part) ∷ r.cuts) c → (hi : ℤ) × Includes (run ∷ runs) (c.0, hi) × (x : List Pt) × IsClippedTo (places c.0 hi) b.x x × (c.1 ≡ with_x b x)
    each c r (inl f) = (run.1, inl (first c f), part, subst (λ (z : ℤ). IsClippedTo (places z run.1) b.x part) (sym (ap (λ (z : Cut). z.0) f)) clip, ap (λ (z : Cut). z.1) f)
      where
        first : (c : Cut) → c ≡ cut_at run.0 (with_x b part) → run_at c.0 run.1 ≡ run
        first c f = ap (λ (z : ℤ). run_at z run.1) (ap (λ (z : Cut). z.0) f)
    each c r (inr i) = let (hi, j, x, h, f) = r.each c i in (hi, inr j, x, h, f)

    all : (lo hi : ℤ) (x : List Pt) (r : CutsOf b runs later) → Includes (run ∷ runs) (lo, hi) → IsClippedTo (places lo hi) b.x x → Includes ((run.0, with_x b part) ∷ r.cuts) (lo, with_x b x)
    all lo hi x r (inl f) h = inl (pair_one (ap (λ (z : ℤ × ℤ). z.0) f) (clips_one (places run.0 run.1) b.x x part (subst (λ (z : ℤ × ℤ). IsClippedTo (places z.0 z.1) b.x x) f h) clip))
      where
        pair_one : lo ≡ run.0 → x ≡ part → cut_at lo (with_x b x) ≡ cut_at run.0 (with_x b part)
        pair_one e g = cc
    all lo hi x r (inr j) h = inr (r.all lo hi x j h)

-- runs that end before the later ones begin, and aren't empty, begin in their order
pub starts_ascend : (runs : List (ℤ × ℤ)) → ((r : ℤ × ℤ) → Includes runs r → r.0 ≤ℤ r.1) → AreInTurn runs → Ascends (λ r s. r.0 <ℤ s.0) runs
starts_ascend [] some a = tt
starts_ascend (r ∷ runs) some a = (
  all_of (λ s. r.0 <ℤ s.0) runs (λ s j. at_most_below r.0 r.1 s.0 (some r (inl refl)) (all_included (λ s. r.1 <ℤ s.0) runs s a.0 j)),
  starts_ascend runs (λ s j. some s (inr j)) a.1,
)

abbrev set_from : ℤ → ℤ → List Pt → List Pt → SetValue
set_from c r x y = record { col = c; row = r; x = x; y = y }

same_set : (s b : SetValue) → s.col ≡ b.col → s.row ≡ b.row → s.y ≡ b.y → with_x b s.x ≡ s
same_set s b e f g = same s.col b.col s.row b.row s.y b.y e f g
  where
    same : (c d r q : ℤ) (y z : List Pt) → c ≡ d → r ≡ q → y ≡ z → set_from d q s.x z ≡ set_from c r s.x y
    same c d r q y z e f g = cc

-- a statement on a column and a row, at other names of them
pub at_cell : (P : ℤ → ℤ → Type 0) (c d r q : ℤ) → c ≡ d → r ≡ q → P c r → P d q
at_cell P c d r q e f p = subst (λ (z : ℤ). P z q) e (subst (λ (z : ℤ). P c z) f p)

-- ---- a cell's sets

module _ (course : Course) (i : ℕ) (before : List SetValue) (t : Table) (f : IsFilledFrom course i before t) where
  -- what the table says, in the widths of the course
  collects_at : (col row : ℤ) (numbers : Option Numbers) → Holds t col row numbers → Collects course.w course.g course.k col row f.pairs numbers
  collects_at col row numbers h = at_cell (λ w g. Collects w g course.k col row f.pairs numbers) f.grid.w course.w f.grid.g course.g f.begun.w f.begun.g (f.collects col row numbers h)

  -- no state of a pair is lost in its cell
  module _ (wide : pos 0 <ℤ course.w) (high : pos 0 <ℤ course.g) (col row : ℤ) where
    pub state_held : (answer : Option SetValue) (b : SetValue) (s u : State) → IsMergedIn t col row answer → Includes before b → HoldsState b s → IsNextState course i s u
        → IsThisCell col row (slot course.w u.p.x) (slot course.g u.p.y) → IsSomeAnd answer (λ b. HoldsState b u)
    state_held answer b s u merged j held next here = go (f.are_pairs.hold b s u j held next)
      where
        go : (p : Pair) × Includes f.pairs p × InHull p.0 (at u.p.x u.v.x) × InHull p.1 (at u.p.y u.v.y) → IsSomeAnd answer (λ b. HoldsState b u)
        go ((x, y), listed, in_x, in_y) =
            let cell : HoldsInCell course.w course.g col row x y u = record {
              holds_x = in_x;
              holds_y = in_y;
              in_column = place_in_slot course.w u.p.x col wide here.0;
              in_row = place_in_slot course.g u.p.y row high here.1;
            } in
            let parts = f.leave (x, y) col row u listed (at_cell (λ w g. HoldsInCell w g col row x y u) course.w f.grid.w course.g f.grid.g (sym f.begun.w) (sym f.begun.g) cell) in
            merged_sets_hold t f.o f.grid course.k f.pairs x y col row u answer f.begun.step f.collects listed parts merged

  -- the set of a cell has the cell's polygons
  record IsCellSet (col row : ℤ) (b : SetValue) : Type 0 where
    merged : IsMerged course i before col row b.x b.y
    col_is : b.col ≡ col
    row_is : b.row ≡ row

  cell_set : (col row : ℤ) (b : SetValue) → IsMergedIn t col row (Some b) → IsCellSet col row b
  cell_set col row b (o, grid, k, numbers, is, held, col_is, row_is, merged) =
      let same : (o, grid, k) ≡ (f.o, f.grid, course.k) = same_Some (o, grid, k) (f.o, f.grid, course.k) (sym is ∙ f.begun.step) in
      let frames : IsMergedOf course.k numbers b = subst (λ (z : OuterBox × Grid × ℕ). IsMergedOf z.2 numbers b) same merged in
      record {
        merged = is_merged course i before f.pairs f.are_pairs col row numbers b.x b.y (collects_at col row (Some numbers) held) frames.frame_x frames.frame_y;
        col_is = col_is;
        row_is = row_is;
      }

module _ (course : Course) (i : ℕ) (before : List SetValue) (count : ℕ) (Hits : ℕ → Pt → Type 0) (t : Table) (wide : pos 0 <ℤ course.w) (high : pos 0 <ℤ course.g) (f : IsFilledFrom course i before t) (col row : ℤ) where
  -- a cell into which nothing came
  pub no_sets : IsMergedIn t col row None → AreSetsAt course i before count Hits col row []
  no_sets none = record {
    cuts = [];
    sets_are = refl;
    are_cuts = record {
      ordered = tt;
      each = λ c j. absurd j;
      all = λ c cut here. absurd (not_merged course i before f.pairs f.are_pairs col row cut.x c.1.y (collects_at course i before t f col row None none)
          (at_cell (λ z q. IsMerged course i before z q cut.x c.1.y) c.1.col col c.1.row row here.0 here.1 cut.merged));
    };
    hold = λ b s u j held next here. absurd (state_held course i before t f wide high col row None b s u none j held next here);
  }

  -- a cell's set, cut to the free runs of its column
  module _ (b : SetValue) (runs : List (ℤ × ℤ)) (sets : List SetValue) (is : IsMergedIn t col row (Some b))
      (free : AreFreeRuns (IsRemoved count Hits course.g row) course.w col col runs) (covers : CoverTheRest (IsRemoved count Hits course.g row) course.w col col runs)
      (are_cuts : AreCuts b runs sets) (keeps : KeepsStates b runs sets) where
    abbrev set : IsCellSet course i before t f col row b
    set = cell_set course i before t f col row b is

    abbrev IsRun : ℤ → ℤ → ℤ → ℤ → Type 0
    IsRun c r lo hi = IsFreeRun (IsRemoved count Hits course.g r) course.w c lo hi

    run_of : (lo hi : ℤ) → IsFreeRunOf (IsRemoved count Hits course.g row) course.w col col (lo, hi) → IsRun col row lo hi
    run_of lo hi r = subst (λ (z : ℤ). IsRun z row lo hi) (antisymmetric r.col col r.among.high r.among.low) r.free_run

    each_cut : (c : Cut) → (hi : ℤ) × Includes runs (c.0, hi) × (x : List Pt) × IsClippedTo (places c.0 hi) b.x x × (c.1 ≡ with_x b x) → IsCut course i before count Hits c.0 c.1 × IsThisCell col row c.1.col c.1.row
    each_cut (lo, s) (hi, j, x, h, e) = subst (λ (z : SetValue). IsCut course i before count Hits lo z × IsThisCell col row z.col z.row) (sym e) (
      record {
        hi = hi;
        run = at_cell (λ c r. IsRun c r lo hi) col b.col row b.row (sym set.col_is) (sym set.row_is) (run_of lo hi (free.each (lo, hi) j));
        x = b.x;
        merged = at_cell (λ c r. IsMerged course i before c r b.x b.y) col b.col row b.row (sym set.col_is) (sym set.row_is) set.merged;
        clipped = h;
      },
      (set.col_is, set.row_is),
    )

    all_cut : (cuts : CutsOf b runs sets) (c : Cut) → IsCut course i before count Hits c.0 c.1 → IsThisCell col row c.1.col c.1.row → Includes cuts.cuts c
    all_cut cuts (lo, s) cut here =
        let m : IsMerged course i before col row cut.x s.y = at_cell (λ c r. IsMerged course i before c r cut.x s.y) s.col col s.row row here.0 here.1 cut.merged in
        let (ex, ey) = merged_one course i before col row cut.x s.y b.x b.y m set.merged in
        let r : IsRun col row lo cut.hi = at_cell (λ c r. IsRun c r lo cut.hi) s.col col s.row row here.0 here.1 cut.run in
        let j : Includes runs (lo, cut.hi) = free.all col lo cut.hi (record { low = reflexive col; high = reflexive col }) r in
        let k : Includes cuts.cuts (lo, with_x b s.x) = cuts.all lo cut.hi s.x j (subst (λ (z : List Pt). IsClippedTo (places lo cut.hi) z s.x) ex cut.clipped) in
        subst (λ (z : SetValue). Includes cuts.cuts (lo, z)) (same_set s b (here.0 ∙ sym set.col_is) (here.1 ∙ sym set.row_is) ey) k

    ordered_cuts : (cuts : List Cut) → ((c : Cut) → Includes cuts c → IsThisCell col row c.1.col c.1.row) → Ascends (λ c d. c.0 <ℤ d.0) cuts → Ascends (ComesBefore course i before count Hits) cuts
    ordered_cuts [] here a = tt
    ordered_cuts (c ∷ cuts) here a = (
      all_of (ComesBefore course i before count Hits c) cuts (λ d j. inr (meet (here c (inl refl)).0 (here d (inr j)).0, inr (meet (here c (inl refl)).1 (here d (inr j)).1, all_included (λ d. c.0 <ℤ d.0) cuts d a.0 j))),
      ordered_cuts cuts (λ d j. here d (inr j)) a.1,
    )
      where
        meet : {x y z : ℤ} → x ≡ z → y ≡ z → x ≡ y
        meet e f = e ∙ sym f

    pub cell_sets : AreSetsAt course i before count Hits col row sets
    cell_sets =
        let cuts = cuts_of b runs sets are_cuts in
        record {
          cuts = cuts.cuts;
          sets_are = cuts.sets_are;
          are_cuts = record {
            ordered = ordered_cuts cuts.cuts (λ c j. (each_cut c (cuts.each c j)).1) (cuts.ordered (starts_ascend runs (λ r j. (free.each r j).free_run.some) free.ordered));
            each = λ c j. each_cut c (cuts.each c j);
            all = all_cut cuts;
          };
          hold = holds;
        }
      where
        holds : HoldIn course i before count Hits (IsThisCell col row) sets
        holds c s u j held next here =
            let own : HoldsState b u = state_held course i before t f wide high col row (Some b) c s u is j held next here in
            let column = place_in_slot course.w u.p.x col wide here.0 in
            elim (covers u.p.x column.low column.high) [
              | inl gone ↦ inl (subst (λ (z : ℤ). IsRemoved count Hits course.g z u.p.x) (sym here.1) gone)
              | inr run ↦ inr (keeps run.0 u run.1 own run.2)
            ]
