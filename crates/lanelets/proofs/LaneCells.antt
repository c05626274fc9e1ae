-- The cells of lanelets piece by piece, and the sizes of lanelets.
use Rattle.std.proofs.Common.{◌≡◌, ◌∙◌, ℕ, zero, suc, ◌+◌, ◌≤◌, List, [], ◌∷◌, ◌++◌, length, drop, refl, ap, arith}
use Rattle.std.proofs.lemmas.List.{drop_all, length-drop}
use Rattle.std.specs.Prelude.{Some, slice_get}
use Rattle.std.specs.List.{AllByRecursion}
use Rattle.spot_terms.specs.Cells.{Pair, Lane, NetCell, part_count, part_cell, cells_of_piece, cells_from, lane_cells}
use Rattle.spot_terms.specs.Lists.{Pairwise, numbers_below}
use Rattle.spot_terms.specs.Network.{lane_of}
use Rattle.spot_terms.specs.Ranges.{AreBuildable, IsLaneInRange}
use Rattle.spot_terms.specs.declared.network.Origin.{Origin}
use Rattle.spot_terms.specs.declared.network.Origin.TheVariants.{Part, Bridge}
use Rattle.spot_terms.proofs.Members.{all_in_map}
use Rattle.lanelets.specs.declared.cell.Placed.{Placed}
use Rattle.spot_terms.specs.Ranges.{lane_size, lanes_size}
use Rattle.lanelets.specs.Made.{Adds, IsMadeOf, IsPlaced, source_of}
use Rattle.lanelets.proofs.Places.{drop_at}
use Rattle.spot_terms.proofs.ListLemmas.{all_append}

-- ---- step by step

-- the cells from a piece on are those of the piece and those from the next on
pub pieces_step : (lane q m : ℕ) (ls rs : List Pair) (l l' r r' : Pair) → m ≡ q + 1 → slice_get ls q ≡ Some l → slice_get ls (q + 1) ≡ Some l' → slice_get rs q ≡ Some r → slice_get rs (q + 1) ≡ Some r'
    → cells_from lane q (drop q ls) (drop q rs) ≡ cells_of_piece lane q l l' r r' ++ cells_from lane m (drop m ls) (drop m rs)
pieces_step lane q m ls rs l l' r r' e hl hl' hr hr' =
    let a : drop q ls ≡ l ∷ drop (q + 1) ls = drop_at ls q (q + 1) l refl hl in
    let b : drop (q + 1) ls ≡ l' ∷ drop (q + 1 + 1) ls = drop_at ls (q + 1) (q + 1 + 1) l' refl hl' in
    let c : drop q rs ≡ r ∷ drop (q + 1) rs = drop_at rs q (q + 1) r refl hr in
    let d : drop (q + 1) rs ≡ r' ∷ drop (q + 1 + 1) rs = drop_at rs (q + 1) (q + 1 + 1) r' refl hr' in
    rw (e, a, b, c, d) refl

one_left : (xs : List Pair) → length xs ≡ 1 → (x : Pair) × (xs ≡ x ∷ [])
one_left [] e = absurd (omega (arith, e))
one_left (x ∷ []) e = (x, refl)
one_left (x ∷ y ∷ xs) e = absurd (omega (arith, e))

no_piece : (lane q : ℕ) (ls rs : List Pair) → length ls ≡ 1 → cells_from lane q ls rs ≡ []
no_piece lane q [] rs e = absurd (omega (arith, e))
no_piece lane q (x ∷ []) rs e = refl
no_piece lane q (x ∷ y ∷ xs) rs e = absurd (omega (arith, e))

-- no piece begins at the last point
pub pieces_end : (lane q : ℕ) (ls rs : List Pair) → length ls ≡ q + 1 → cells_from lane q (drop q ls) rs ≡ []
pieces_end lane q ls rs e = no_piece lane q (drop q ls) rs (length-drop q ls ∙ omega (arith, e))

pub lanes_step : (n m : ℕ) (lanes : List Lane) (l : Lane) → m ≡ n + 1 → slice_get lanes n ≡ Some l → lane_cells n (drop n lanes) ≡ cells_from n 0 l.1.left l.1.right ++ lane_cells m (drop m lanes)
lanes_step n m lanes l e h = let a = drop_at lanes n (n + 1) l refl h in rw (e, a) refl

pub lanes_end : (n : ℕ) (lanes : List Lane) → length lanes ≤ n → lane_cells n (drop n lanes) ≡ []
lanes_end n lanes h = ap (lane_cells n) (drop_all n lanes h)

-- ---- where the cells are

abbrev pub IsOfLane : ℕ → NetCell → Type 0
IsOfLane e n = lane_of n.origin ≡ Some e

pub cells_of_lane : (e q : ℕ) (ls rs : List Pair) → AllByRecursion (IsOfLane e) (cells_from e q ls rs)
cells_of_lane e q [] rs = tt
cells_of_lane e q (l ∷ []) rs = tt
cells_of_lane e q (l ∷ l' ∷ ls) [] = tt
cells_of_lane e q (l ∷ l' ∷ ls) (r ∷ []) = tt
cells_of_lane e q (l ∷ l' ∷ ls) (r ∷ r' ∷ rs) =
    all_append (IsOfLane e) (cells_of_piece e q l l' r r') (cells_from e (q + 1) (l' ∷ ls) (r' ∷ rs))
    (all_in_map (IsOfLane e) (part_cell e q l l' r r' (part_count l l' r r')) (numbers_below (part_count l l' r r')) (λ t i. refl))
    (cells_of_lane e (q + 1) (l' ∷ ls) (r' ∷ rs))

source_is : (o : Origin) (e : ℕ) → lane_of o ≡ Some e → source_of o ≡ e
source_is (Part f piece part parts) e h = cc
source_is (Bridge f g) e h = cc

-- cells of a lanelet have its place
pub placed : (lanes : List Lane) (e : ℕ) (l : Lane) (net : List NetCell) (made : List Placed) → slice_get lanes e ≡ Some l → AllByRecursion (IsOfLane e) net → Pairwise (IsMadeOf l.0) net made → Pairwise (IsPlaced lanes) net made
placed lanes e l [] [] h a p = tt
placed lanes e l [] (m ∷ made) h a p = absurd p
placed lanes e l (n ∷ net) [] h a p = absurd p
placed lanes e l (n ∷ net) (m ∷ made) h a p = (record { lane = l; lane_is = ap (slice_get lanes) (source_is n.origin e a.0) ∙ h; made = p.0 }, placed lanes e l net made h a.1 p.1)

pub adds_placed : (lanes : List Lane) (e : ℕ) (l : Lane) (net : List NetCell) (a b : List Placed) → slice_get lanes e ≡ Some l → AllByRecursion (IsOfLane e) net → Adds (IsMadeOf l.0) net a b → Adds (IsPlaced lanes) net a b
adds_placed lanes e l net a b h all k = record { added = k.added; after_is = k.after_is; each = placed lanes e l net k.added h all k.each }

-- ---- sizes

pub size_within : (lanes : List Lane) (k : ℕ) (l : Lane) → slice_get lanes k ≡ Some l → lane_size l.1 ≤ lanes_size lanes
size_within [] k l h = cc
size_within (m ∷ lanes) zero l h = let e : m ≡ l = cc in rw (← e) (omega arith)
size_within (m ∷ lanes) (suc k) l h = let s = size_within lanes k l h in omega (arith, s)

pub few_lanes : (lanes : List Lane) → AllByRecursion (λ (l : Lane). IsLaneInRange l.1) lanes → length lanes ≤ lanes_size lanes
few_lanes [] a = omega arith
few_lanes (l ∷ lanes) a = let s = few_lanes lanes a.1 in let some = a.0.some in omega (arith, s, some)

pub buildable_few : (lanes : List Lane) → AreBuildable lanes → length lanes ≤ 67108864
buildable_few lanes b = let few = few_lanes lanes b.each in let total = b.few in omega (arith, few, total)
