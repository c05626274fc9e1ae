-- The boxes of a list of cells and those of blocks, by place.
use Rattle.std.proofs.Common.{◌≡◌, ◌∙◌, ◌⊎◌, inl, inr, ℕ, ◌+◌, ◌*◌, ◌/◌, ◌%◌, ◌<◌, ◌≤◌, List, [], ◌∷◌, ◌++◌, length, length-append, sym, subst, arith}
use Rattle.std.proofs.lemmas.Bool.{cases_eq}
use Rattle.std.proofs.lemmas.List.{length-set}
use Rattle.std.proofs.lemmas.Option.{slice_get-get_or}
use Rattle.std.specs.Prelude.{ℤ, ◌≤ℤ◌, Some, slice_get, slice_index_or, slice_set}
use Rattle.spot_terms.specs.Lists.{Lists}
use Rattle.spot_terms.specs.Whole.{Within}
use Rattle.spot_terms.specs.declared.plain.Pt.{Pt}
use Rattle.spot_terms.proofs.ItemPlaces.{get_either, get_set_either, got_below, item_at}
use Rattle.spot_terms.proofs.Orders.{at_most_trans}
use Rattle.convex_poly.specs.Boxes.{IsBoxOf, IsInBox}
use Rattle.convex_poly.specs.declared.boxes.BoundingBox.{BoundingBox}
use Rattle.convex_poly.proofs.BoxLaws.{box_has}
use Rattle.lanelets.specs.declared.boxes.CellBoxes.{CellBoxes}
use Rattle.lanelets.specs.declared.boxes.TheConstants.{BLOCK}
use Rattle.lanelets.specs.declared.cell.Placed.{Placed}
use Rattle.lanelets.specs.Boxes.{AreBlocks, AreBoxes, AreCellBoxes, IsBoxIn}
use Rattle.lanelets.specs.Holding.{HoldsAt, HoldsBelow}
use Rattle.lanelets.proofs.NumberLists.{lists_as}
use Rattle.lanelets.proofs.Places.{partner_at, read_at, same_at, same_lengths}

pub as_many_boxes : (made : List Placed) (boxes : List BoundingBox) → AreBoxes made boxes → length boxes ≡ length made
as_many_boxes made boxes all = same_lengths (λ (x : Placed). IsBoxOf x.cell.poly) made boxes all

pub box_at : (made : List Placed) (boxes : List BoundingBox) (k : ℕ) (x : Placed) (s : BoundingBox) → AreBoxes made boxes → k < length boxes → IsBoxOf (slice_index_or made k x).cell.poly (slice_index_or boxes k s)
box_at made boxes k x s all low =
    let many = as_many_boxes made boxes all in
    partner_at (λ (y : Placed). IsBoxOf y.cell.poly) made boxes k (slice_index_or made k x) (slice_index_or boxes k s) all (slice_get-get_or made k x (omega (arith, low, many))) (slice_get-get_or boxes k s low)

-- ---- a box round two boxes

-- what is between two numbers is between a lesser and a greater one
pub within_wider : (low high least greatest z : ℤ) → least ≤ℤ low → high ≤ℤ greatest → Within low high z → Within least greatest z
within_wider low high least greatest z a b w = record { low = at_most_trans least low z a w.low; high = at_most_trans z high greatest w.high b }

-- ---- blocks, box by box

-- the first n boxes have their blocks
pub record BlocksSoFar (boxes : List BoundingBox) (n : ℕ) (blocks : List BoundingBox) : Type 0 where
  pub all : n ≤ length blocks * BLOCK
  pub needed : length blocks * BLOCK < n + BLOCK
  pub each : (c : ℕ) (box block : BoundingBox) → c < n → slice_get boxes c ≡ Some box → slice_get blocks (c / BLOCK) ≡ Some block → IsBoxIn box block

-- the first box of a block is its block's at first
pub block_begins : (boxes blocks more : List BoundingBox) (n : ℕ) (next : BoundingBox) → n % BLOCK ≡ 0 → slice_get boxes n ≡ Some next → more ≡ blocks ++ next ∷ [] → BlocksSoFar boxes n blocks → BlocksSoFar boxes (n + 1) more
block_begins boxes blocks more n next e at is b =
    let here : n ≡ length blocks * BLOCK = (let a = b.all in let d = b.needed in omega (arith, e, a, d)) in
    let long : length (blocks ++ next ∷ []) ≡ length blocks + 1 = length-append blocks (next ∷ []) in
    subst (λ (bs : List BoundingBox). BlocksSoFar boxes (n + 1) bs) (sym is) (record {
      all = omega (arith, here, long);
      needed = omega (arith, here, long);
      each = λ c box block low h g. elim (get_either blocks (c / BLOCK) next block g) [
        | inl old ↦ (let k = got_below blocks (c / BLOCK) block old in b.each c box block (omega (arith, here, k)) h old)
        | inr new ↦ (
            let place = new.0 in
            let same : c ≡ n = omega (arith, here, place, low) in
            let is_next : box ≡ next = same_at boxes n box next (subst (λ (k : ℕ). slice_get boxes k ≡ Some box) same h) at in
            subst (IsBoxIn box) (is_next ∙ sym new.1) (λ p i. i))
      ];
    })

-- a further box of it
pub block_goes_on : (boxes blocks : List BoundingBox) (n : ℕ) (next old new : BoundingBox) → (n % BLOCK ≡ 0 → ⊥) → slice_get boxes n ≡ Some next → old ≡ slice_index_or blocks (n / BLOCK) old → IsBoxIn old new → IsBoxIn next new
    → BlocksSoFar boxes n blocks → BlocksSoFar boxes (n + 1) (slice_set blocks (n / BLOCK) new)
block_goes_on boxes blocks n next old new e at is_old keeps has b =
    let long = length-set blocks (n / BLOCK) new in
    let inside : n / BLOCK < length blocks = (let a = b.all in let d = b.needed in omega (arith, e, a, d)) in
    let was = read_at blocks (n / BLOCK) old inside is_old in
    record {
      all = (let a = b.all in omega (arith, a, inside, long));
      needed = (let d = b.needed in omega (arith, d, long));
      each = λ c box block low h g. elim (get_set_either blocks (n / BLOCK) (c / BLOCK) new inside) [
        | inl here ↦ (
            let is : new ≡ block = same_at (slice_set blocks (n / BLOCK) new) (c / BLOCK) new block here.1 g in
            subst (IsBoxIn box) is (elim (cases_eq c n) [
              | inl same ↦ subst (λ (x : BoundingBox). IsBoxIn x new) (same_at boxes n next box at (subst (λ (k : ℕ). slice_get boxes k ≡ Some box) same h)) has
              | inr other ↦ (λ p i. keeps p (b.each c box old (omega (arith, low, other)) h (subst (λ (k : ℕ). slice_get blocks k ≡ Some old) (sym here.0) was) p i))
            ]))
        | inr there ↦ b.each c box block (before c there.0 low) h (sym there.1 ∙ g)
      ];
    }
  where
    before : (c : ℕ) → (n / BLOCK < c / BLOCK) ⊎ (c / BLOCK < n / BLOCK) → c < n + 1 → c < n
    before c (inl up) low = absurd (omega (arith, up, low))
    before c (inr down) low = omega (arith, down)

pub blocks_all : (boxes blocks : List BoundingBox) (n : ℕ) → n ≡ length boxes → BlocksSoFar boxes n blocks → AreBlocks boxes blocks
blocks_all boxes blocks n e b = record {
  all = (let a = b.all in omega (arith, e, a));
  needed = (let d = b.needed in omega (arith, e, d));
  each = λ c box block h g. b.each c box block (let low = got_below boxes c box h in omega (arith, e, low)) h g;
}

-- ---- a block whose box doesn't cover a point

-- none of its cells holds the point
pub block_skip : (made : List Placed) (boxes : CellBoxes) (p : Pt) (k : ℕ) (block : BoundingBox) (xs : List ℕ) → AreCellBoxes made boxes → slice_get boxes.blocks.items k ≡ Some block → (IsInBox block p → ⊥) → Lists (HoldsBelow made p (k * BLOCK)) xs → Lists (HoldsBelow made p ((k + 1) * BLOCK)) xs
block_skip made boxes p k block xs are at never = lists_as (HoldsBelow made p (k * BLOCK)) (HoldsBelow made p ((k + 1) * BLOCK)) xs
    (λ c q. (let low = q.0 in omega (arith, low), q.1))
    (λ c q. (elim (below_or_in c q.0) [ inl low ↦ low | inr place ↦ absurd (none c place q.1) ], q.1))
  where
    below_or_in : (c : ℕ) → c < (k + 1) * BLOCK → (c < k * BLOCK) ⊎ (k ≡ c / BLOCK)
    below_or_in c low = elim (cases_eq k (c / BLOCK)) [ inl same ↦ inr same | inr other ↦ inl (omega (arith, low, other)) ]

    none : (c : ℕ) → k ≡ c / BLOCK → HoldsAt made p c → ⊥
    none c place h =
        let low = got_below made c h.0 h.1 in
        let many = as_many_boxes made boxes.each.items are.each in
        let (box, box_is) = item_at boxes.each.items c (omega (arith, low, many)) in
        let around : IsBoxOf h.0.cell.poly box = partner_at (λ (y : Placed). IsBoxOf y.cell.poly) made boxes.each.items c h.0 box are.each h.1 box_is in
        never (are.blocks.each c box block box_is (subst (λ (m : ℕ). slice_get boxes.blocks.items m ≡ Some block) place at) p (box_has h.0.cell.poly box p around h.2))
