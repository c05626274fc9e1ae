-- What calls ask of the arguments that a step gives them.
use Rattle.std.proofs.Common.{ℕ, ◌≤◌, refl, arith, List}
use Rattle.std.specs.Prelude.{nat_abs}
use Rattle.std.proofs.lemmas.Int.{ints}
use lib.IntN.{ℤ, pos, neg_ℤ, ◌+ℤ◌, ◌-ℤ◌, ◌*ℤ◌}
use lib.Signed.{◌≤ℤ◌, ◌<ℤ◌}
use Rattle.spot_terms.specs.Grid.{slot, slot_low, slot_high, AreFreeRuns}
use Rattle.spot_terms.specs.Whole.{Within, SizeAtMost}
use Rattle.spot_terms.specs.declared.plain.Pt.{Pt}
use Rattle.spot_terms.proofs.ListLemmas.{all_included, all_of}
use Rattle.spot_terms.proofs.Quotients.{product_le_at, next_product_gt_at}
use Rattle.spot_terms.proofs.Ring.{spread_left}
use Rattle.carve.specs.Ranges.{AreRunPlaces, IsRowNear}
use Rattle.carve.proofs.Founds.{low_le}
use Rattle.propagate.specs.Children.{IsChildIn, IsInPlane}
use Rattle.merge_sets.specs.Tables.{IsAddable}
use Rattle.spot_terms.proofs.Orders.{at_most_trans}

-- a child can be added to the table of its box
pub child_addable : (lo hi v : ℤ) (child : List Pt) → Within (pos 0) (pos 900_000) v → IsChildIn lo hi v child → IsAddable lo hi child
child_addable lo hi v child speed h = record {
  few = let f = h.few in omega (arith, f);
  slow = all_of (λ c. SizeAtMost 1_000_000 c.y) child (λ c j. small c.y (all_included (IsInPlane lo hi v) child c h.within j).speed);
  within = all_of (λ c. Within lo hi c.x) child (λ c j. (all_included (IsInPlane lo hi v) child c h.within j).place);
}
  where
    small : (y : ℤ) → Within (neg_ℤ v) v y → nat_abs y ≤ 1_000_000
    small y s = omega (arith, ints, speed.low, speed.high, s.low, s.high)

-- the slots of a box aren't far off
pub record IsSlotNear (width c : ℤ) : Type 0 where
  pub low : SizeAtMost 22_000_000_000_000 (slot_low width c)
  pub high : SizeAtMost 22_000_000_000_000 (slot_high width c)

pub slot_near : (width lo hi c : ℤ) → Within (pos 100_000) (pos 100_000_000) width → SizeAtMost 21_000_000_000_000 lo → SizeAtMost 21_000_000_000_000 hi → Within (slot width lo) (slot width hi) c → IsSlotNear width c
slot_near width lo hi c wide a b among =
    let some : pos 0 <ℤ width = positive width wide in
    let first = low_le width (slot width lo) c some among.low in
    let last = low_le width c (slot width hi) some among.high in
    let below = next_product_gt_at lo width (slot width lo) some refl in
    let above = product_le_at hi width (slot width hi) some refl in
    record {
      low = low_size (c *ℤ width) (slot width lo *ℤ width) (slot width hi *ℤ width) first last (less (slot width lo) below) above;
      high = high_size (c *ℤ width) (slot width lo *ℤ width) (slot width hi *ℤ width) first last (less (slot width lo) below) above;
    }
  where
    positive : (w : ℤ) → Within (pos 100_000) (pos 100_000_000) w → pos 0 <ℤ w
    positive w h = omega (arith, ints, h.low)

    less : (q : ℤ) → lo <ℤ ((q +ℤ pos 1) *ℤ width) → lo <ℤ (q *ℤ width +ℤ width)
    less q h = omega (arith, ints, h, spread_left q (pos 1) width)

    low_size : (z p q : ℤ) → p ≤ℤ z → z ≤ℤ q → lo <ℤ (p +ℤ width) → q ≤ℤ hi → nat_abs z ≤ 22_000_000_000_000
    low_size z p q f l k m = omega (arith, ints, f, l, k, m, a, b, wide.high, wide.low)

    high_size : (z p q : ℤ) → p ≤ℤ z → z ≤ℤ q → lo <ℤ (p +ℤ width) → q ≤ℤ hi → nat_abs (z +ℤ width -ℤ pos 1) ≤ 22_000_000_000_000
    high_size z p q f l k m = omega (arith, ints, f, l, k, m, a, b, wide.high, wide.low)

-- the free runs of the columns of a box can be cut to
pub run_places : (Removed : ℤ → Type 0) (width lo hi first last : ℤ) (runs : List (ℤ × ℤ)) → Within (pos 100_000) (pos 100_000_000) width → SizeAtMost 21_000_000_000_000 lo → SizeAtMost 21_000_000_000_000 hi
    → slot width lo ≤ℤ first → last ≤ℤ slot width hi → AreFreeRuns Removed width first last runs → AreRunPlaces runs
run_places Removed width lo hi first last runs wide a b from to free = all_of (λ run. SizeAtMost 40_000_000_000_000 run.0 × SizeAtMost 40_000_000_000_000 run.1) runs (λ run j.
    let r = free.each run j in
    let near = slot_near width lo hi r.col wide a b (record { low = at_most_trans (slot width lo) first r.col from r.among.low; high = at_most_trans r.col last (slot width hi) r.among.high to }) in
    small run.0 run.1 (slot_low width r.col) (slot_high width r.col) near.low near.high r.free_run.low r.free_run.some r.free_run.high)
  where
    small : (x y l h : ℤ) → nat_abs l ≤ 22_000_000_000_000 → nat_abs h ≤ 22_000_000_000_000 → l ≤ℤ x → x ≤ℤ y → y ≤ℤ h → SizeAtMost 40_000_000_000_000 x × SizeAtMost 40_000_000_000_000 y
    small x y l h p q a b c = (omega (arith, ints, p, q, a, b, c), omega (arith, ints, p, q, a, b, c))

-- the free runs of a row of a box can be asked for
pub row_near : (far : ℕ) (g lo hi row : ℤ) → Within (pos 100_000) (pos 100_000_000) g → SizeAtMost 21_000_000_000_000 lo → SizeAtMost 21_000_000_000_000 hi → 22_000_000_000_000 ≤ far
    → Within (slot g lo) (slot g hi) row → IsRowNear far g row
row_near far g lo hi row high a b enough among = let near = slot_near g lo hi row high a b among in record {
  low = within (slot_low g row) near.low;
  high = within (slot_high g row) near.high;
  low_far = reach (slot_low g row) near.low;
  high_far = reach (slot_high g row) near.high;
}
  where
    within : (z : ℤ) → nat_abs z ≤ 22_000_000_000_000 → nat_abs z ≤ 40_000_000_000_000
    within z h = omega (arith, h)

    reach : (z : ℤ) → nat_abs z ≤ 22_000_000_000_000 → nat_abs z ≤ far
    reach z h = omega (arith, h, enough)
