-- What a table has of all pairs that came in, and what its sets hold.
use Rattle.std.proofs.Common.{◌≡◌, ◌∙◌, ℕ, ◌+◌, ◌≤◌, arith, sym, subst, List, [], ◌∷◌, length, sum}
use Rattle.std.specs.Prelude.{Option, Some, None, IsSomeAnd}
use Rattle.std.proofs.lemmas.Int.{ints}
use Rattle.std.proofs.lemmas.Option.{same_Some}
use lib.IntN.{ℤ, pos}
use lib.Signed.{◌≤ℤ◌}
use Rattle.spot_terms.specs.BaseSets.{SetValue, HoldsState}
use Rattle.spot_terms.specs.CellNumbers.{Numbers, Collects, IsMostOf, LeavesParts}
use Rattle.spot_terms.specs.ChildNumbers.{support}
use Rattle.spot_terms.specs.Frames.{at, InFrame, frame_normals}
use Rattle.spot_terms.specs.Hull.{InHull, whole_pt}
use Rattle.spot_terms.specs.Lists.{Includes, Pairwise}
use Rattle.spot_terms.specs.Motions.{State}
use Rattle.spot_terms.specs.Reach.{Normal, along}
use Rattle.spot_terms.specs.declared.plain.Pt.{Pt}
use Rattle.spot_terms.proofs.CellNumbers.{joining_collects}
use Rattle.spot_terms.proofs.HullLaws.{hull_laws}
use Rattle.spot_terms.proofs.Orders.{at_most_trans}
use Rattle.spot_terms.proofs.Supports.{supports_are}
use Rattle.base_sets.specs.declared.grid.Grid.{Grid}
use Rattle.base_sets.specs.declared.grid.OuterBox.{OuterBox}
use Rattle.merge_sets.specs.Merging.{CollectsAll, MergedSetsHold, TablesCollect}
use Rattle.merge_sets.specs.Tables.{Adds, Holds, IsMergedIn, IsMergedOf, PartsHold, Table}
use Rattle.merge_sets.proofs.Steps.{holds_one}

pub tables_collect : TablesCollect
tables_collect = record {
  none = λ t grid k empty col row numbers held. subst (Collects grid.w grid.g k col row []) (holds_one t col row None numbers (empty col row) held) (λ x y l. l.1);
  more = λ old new o grid k pairs x y step adds all col row after held.
      let (before, holds, joined) = adds.cells o grid k col row after step held in
      joining_collects grid.w grid.g k col row pairs x y before after (all col row before holds) joined;
}

-- ---- a point of a part is within the greatest numbers

no_weights : (ws : List ℕ) → length ws ≡ 0 → 1 ≤ sum ws → ⊥
no_weights [] e s = absurd (omega (arith, s))
no_weights (w ∷ ws) e s = absurd (omega (arith, e))

along_at_most : (n : Normal) (corners : List Pt) (q : Pt) → InHull corners q → along n q ≤ℤ support n corners
along_at_most n [] q h = absurd (no_weights h.weights h.each h.some)
along_at_most n (c ∷ corners) q h =
    let b = hull_laws.support n.0 n.1 (support n (c ∷ corners)) (c ∷ corners) (whole_pt q) (supports_are.greatest n c corners) h in
    omega (arith, ints, b)

within : (w g : ℤ) (k : ℕ) (col row : ℤ) (pairs : List (List Pt × List Pt)) (plane : List Pt × List Pt → List Pt) (a b : List Pt) (q : Pt) → LeavesParts w g k col row pairs a b → InHull (plane (a, b)) q
    → (ns : List Normal) (hs : List ℤ) → Pairwise (IsMostOf w g k col row pairs plane) ns hs → Pairwise (λ n h. along n q ≤ℤ h) ns hs
within w g k col row pairs plane a b q l i [] [] m = tt
within w g k col row pairs plane a b q l i [] (h ∷ hs) m = absurd m
within w g k col row pairs plane a b q l i (n ∷ ns) [] m = absurd m
within w g k col row pairs plane a b q l i (n ∷ ns) (h ∷ hs) m =
    (at_most_trans (along n q) (support n (plane (a, b))) h (along_at_most n (plane (a, b)) q i) (m.0.bound a b l), within w g k col row pairs plane a b q l i ns hs m.1)

pub merged_sets_hold : MergedSetsHold
merged_sets_hold t o grid k pairs x y col row s None step all listed parts held = all col row None held parts.part_x parts.part_y ((x, y), listed, parts.in_column, parts.in_row)
merged_sets_hold t o grid k pairs x y col row s (Some b) step all listed parts (box, h, n, numbers, is, held, col_is, row_is, merged) =
    let same : (box, h, n) ≡ (o, grid, k) = same_Some (box, h, n) (o, grid, k) (sym is ∙ step) in
    let frames : IsMergedOf k numbers b = subst (λ (z : OuterBox × Grid × ℕ). IsMergedOf z.2 numbers b) same merged in
    let leaves : LeavesParts grid.w grid.g k col row pairs parts.part_x parts.part_y = ((x, y), listed, parts.in_column, parts.in_row) in
    let most : Collects grid.w grid.g k col row pairs (Some numbers) = all col row (Some numbers) held in
    record {
      x = frames.holds_x (at s.p.x s.v.x) (within grid.w grid.g k col row pairs (λ p. p.0) parts.part_x parts.part_y (at s.p.x s.v.x) leaves parts.holds_x (frame_normals (pos k)) numbers.0 most.0);
      y = frames.holds_y (at s.p.y s.v.y) (within grid.w grid.g k col row pairs (λ p. p.1) parts.part_x parts.part_y (at s.p.y s.v.y) leaves parts.holds_y (frame_normals (pos k)) numbers.1 most.1);
    }
