-- How far the polygons of a cell's set reach past the parts that came in.
use Rattle.std.proofs.Common.{◌≡◌, ◌∙◌, ℕ, ◌<◌, refl, sym, subst, List, []}
use Rattle.std.specs.Prelude.{Some}
use Rattle.std.proofs.lemmas.Option.{same_Some}
use lib.IntN.{ℤ, pos, ◌+ℤ◌}
use lib.Signed.{◌≤ℤ◌}
use Rattle.spot_terms.specs.CellNumbers.{Numbers, Collects, IsMostOf, LeavesParts}
use Rattle.spot_terms.specs.ChildNumbers.{support}
use Rattle.spot_terms.specs.Frames.{number, frame_normals}
use Rattle.spot_terms.specs.Grid.{slot_low, slot_high}
use Rattle.spot_terms.specs.Lists.{Pairwise}
use Rattle.spot_terms.specs.Reach.{Normal}
use Rattle.spot_terms.specs.StepLists.{IsFrameOf}
use Rattle.spot_terms.specs.declared.plain.Pt.{Pt}
use Rattle.spot_terms.proofs.ListLemmas.{pairwise_at}
use Rattle.round_out.specs.Growth.{AreWithin, by_speed, frame_normal}
use Rattle.round_out.proofs.Bounds.{places_some}
use Rattle.round_out.proofs.FrameExcess.{rounding_laws}
use Rattle.round_out.proofs.GreatestOrders.{IsGreatest, within_greatest}
use Rattle.base_sets.specs.declared.grid.Grid.{Grid}
use Rattle.base_sets.specs.declared.grid.OuterBox.{OuterBox}
use Rattle.merge_sets.specs.Merging.{ExceedsPart, MergedSetsExceed}
use Rattle.merge_sets.specs.Tables.{IsMergedOf}

module _ (grid : Grid) (k : ℕ) (pairs : List (List Pt × List Pt)) (col row : ℤ) where
  abbrev Leaves : List Pt → List Pt → Type 0
  Leaves x y = LeavesParts grid.w grid.g k col row pairs x y

  some_x : (x y : List Pt) → Leaves x y → x ≡ [] → ⊥
  some_x x y (p, i, in_column, in_row) = places_some rounding_laws (slot_low grid.w col) (slot_high grid.w col) p.0 x in_column

  some_y : (x y : List Pt) → Leaves x y → y ≡ [] → ⊥
  some_y x y (p, i, in_column, in_row) = places_some rounding_laws (slot_low grid.g row) (slot_high grid.g row) p.1 y in_row

  -- in the plane that `plane` picks
  module _ (plane : List Pt × List Pt → List Pt) where
    abbrev Part : List Pt → Type 0
    Part vs = (x : List Pt) × (y : List Pt) × Leaves x y × (vs ≡ plane (x, y))

    part_some : ((x y : List Pt) → Leaves x y → plane (x, y) ≡ [] → ⊥) → (vs : List Pt) → Part vs → vs ≡ [] → ⊥
    part_some some vs (x, y, parts, e) none = some x y parts (sym e ∙ none)

    greatest : (n : Normal) (h : ℤ) → IsMostOf grid.w grid.g k col row pairs plane n h → IsGreatest Part n h
    greatest n h m = record {
      bound = λ vs p. let (x, y, parts, e) = p in subst (λ (z : List Pt). support n z ≤ℤ h) (sym e) (m.bound x y parts);
      reached = let (x, y, parts, e) = m.reached in (plane (x, y), (x, y, parts, refl), e);
    }

    exceeds : ((x y : List Pt) → Leaves x y → plane (x, y) ≡ [] → ⊥) → 0 < k → (numbers : List ℤ) (corners : List Pt) → Pairwise (IsMostOf grid.w grid.g k col row pairs plane) (frame_normals (pos k)) numbers → IsFrameOf k numbers corners
        → (i : ℕ) → i < 8 → ExceedsPart grid k pairs col row plane i corners
    exceeds some ticks numbers corners most frame i l =
        let (vs, (x, y, parts, e), within) = within_greatest rounding_laws k ticks Part (part_some some) numbers corners
        (λ j m. greatest (frame_normal (pos k) j) (number numbers j) (pairwise_at (IsMostOf grid.w grid.g k col row pairs plane) (frame_normals (pos k)) numbers j (pos 0, pos 0) (pos 0) m most)) frame i l in
        (x, y, parts, subst (λ (z : List Pt). AreWithin (frame_normal (pos k) i) (support (frame_normal (pos k) i) z +ℤ by_speed (frame_normal (pos k) i)) corners) e within)

pub merged_sets_exceed : MergedSetsExceed
merged_sets_exceed t o grid k pairs col row b i ticks l step all (box, h, n, numbers, is, held, col_is, row_is, merged) =
    let same : (box, h, n) ≡ (o, grid, k) = same_Some (box, h, n) (o, grid, k) (sym is ∙ step) in
    let frames : IsMergedOf k numbers b = subst (λ (z : OuterBox × Grid × ℕ). IsMergedOf z.2 numbers b) same merged in
    let most : Collects grid.w grid.g k col row pairs (Some numbers) = all col row (Some numbers) held in (
      exceeds grid k pairs col row (λ p. p.0) (some_x grid k pairs col row) ticks numbers.0 b.x most.0 frames.frame_x i l,
      exceeds grid k pairs col row (λ p. p.1) (some_y grid k pairs col row) ticks numbers.1 b.y most.1 frames.frame_y i l,
    )
