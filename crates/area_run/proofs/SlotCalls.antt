-- The slots that a child meets, as the code counts them.
use Rattle.std.proofs.Common.{◌≡◌, ◌∙◌, ◌⊎◌, inl, inr, ℕ, ◌+◌, ◌<◌, ◌≤◌, arith, refl, sym, ap, subst, List, to_z, of_z, w64}
use Rattle.std.specs.Prelude.{nat_abs}
use Rattle.std.proofs.lemmas.Int.{ints}
use lib.IntN.{ℤ, pos, ◌+ℤ◌, ◌-ℤ◌}
use lib.Signed.{◌≤ℤ◌, ◌<ℤ◌}
use Rattle.spot_terms.specs.BaseSets.{least_place, greatest_place}
use Rattle.spot_terms.specs.ClippedTo.{places, IsClippedAway}
use Rattle.spot_terms.specs.Courses.{slots_met}
use Rattle.spot_terms.specs.Grid.{slot, slot_low, slot_high}
use Rattle.spot_terms.specs.Hull.{IsCornerList}
use Rattle.spot_terms.specs.Whole.{Within}
use Rattle.spot_terms.specs.declared.plain.Pt.{Pt}
use Rattle.base_sets.proofs.Slots.{AreSlots, slots_are}
use Rattle.carve.proofs.RowPlaces.{columns_counted}
use Rattle.propagate.specs.Children.{IsChildIn}
use Rattle.merge_sets.specs.Cells.{IsNear}
use Rattle.merge_sets.specs.Tables.{IsAddable}
use Rattle.spot_terms.proofs.Slots.{some_width}
use Rattle.merge_sets.proofs.BoxCells.{counted_slots}
use Rattle.merge_sets.proofs.SlotsMet.{MeetsWithin, meets_within}
use Rattle.area_laws.proofs.Arguments.{child_addable}
use Rattle.area_laws.proofs.GroupFills.{other_away}

module _ (width lo hi v : ℤ) (child : List Pt) (wide : Within (pos 100_000) (pos 100_000_000) width) (lo_small : nat_abs lo ≤ 40_000_000_000_000) (hi_small : nat_abs hi ≤ 40_000_000_000_000) (order : lo ≤ℤ hi)
    (speed : Within (pos 0) (pos 900_000) v) (is : IsChildIn lo hi v child) (convex : IsCornerList child) where
  pub addable : IsAddable lo hi child
  addable = child_addable lo hi v child speed is

  meets : MeetsWithin width lo hi child
  meets = meets_within width lo hi child wide lo_small hi_small convex addable.within

  sizes : AreSlots (slot width hi) (slot width lo)
  sizes = slots_are width lo hi wide order lo_small hi_small

  abbrev first : ℤ
  first = slot width (least_place child)

  abbrev last : ℤ
  last = slot width (greatest_place child)

  abbrev count : ℕ
  count = slots_met width (least_place child) (greatest_place child)

  counted : pos count ≡ last -ℤ first +ℤ pos 1
  counted = columns_counted first last meets.order

  box_counted : pos (slots_met width lo hi) ≡ slot width hi -ℤ slot width lo +ℤ pos 1
  box_counted = columns_counted (slot width lo) (slot width hi) sizes.order

  pub first_small : nat_abs first ≤ 400_000_000
  first_small = small first (slot width lo) (slot width hi) sizes.low sizes.high meets.low (trans first last (slot width hi) meets.order meets.high)
    where
      small : (z a b : ℤ) → nat_abs a ≤ 400_000_000 → nat_abs b ≤ 400_000_000 → a ≤ℤ z → z ≤ℤ b → nat_abs z ≤ 400_000_000
      small z a b p q h k = omega (arith, ints, p, q, h, k)

      trans : (a b c : ℤ) → a ≤ℤ b → b ≤ℤ c → a ≤ℤ c
      trans a b c h k = omega (arith, ints, h, k)

  pub low_small : nat_abs (slot width lo) ≤ 400_000_000
  low_small = sizes.low

  pub box_few : slots_met width lo hi ≤ 1_000_000_000
  box_few = few (slots_met width lo hi) (slot width hi) (slot width lo) box_counted sizes.low sizes.high
    where
      few : (n : ℕ) (p q : ℤ) → pos n ≡ p -ℤ q +ℤ pos 1 → nat_abs q ≤ 400_000_000 → nat_abs p ≤ 400_000_000 → n ≤ 1_000_000_000
      few n p q e h k = omega (arith, ints, e, h, k)

  pub count_few : count ≤ 1_000_000_000
  count_few = few count last first (slot width lo) (slot width hi) counted sizes.low sizes.high meets.low meets.high
    where
      few : (n : ℕ) (l f a b : ℤ) → pos n ≡ l -ℤ f +ℤ pos 1 → nat_abs a ≤ 400_000_000 → nat_abs b ≤ 400_000_000 → a ≤ℤ f → l ≤ℤ b → n ≤ 1_000_000_000
      few n l f a b e h k p q = omega (arith, ints, e, h, k, p, q)

  pub near_slot : (i : ℕ) → i < count → IsNear width (first +ℤ pos i)
  near_slot i l = meets.near i l

  pub among : (i : ℕ) → i < count → Within (slot width lo) (slot width hi) (first +ℤ pos i)
  among i l = wider (slot width lo) first last (slot width hi) (first +ℤ pos i) meets.low meets.high (counted_slots first last i meets.order l)
    where
      wider : (a b c d z : ℤ) → a ≤ℤ b → c ≤ℤ d → Within b c z → Within a d z
      wider a b c d z h k w = record { low = omega (arith, ints, h, w.low); high = omega (arith, ints, k, w.high) }

  -- how far the first slot is from the box's first
  pub place_is : (at : ℕ) → pos at ≡ first -ℤ slot width lo → first ≡ slot width lo +ℤ pos at
  place_is at e = omega (arith, ints, e)

  pub place_low : slot width lo ≤ℤ first
  place_low = meets.low

  pub place_within : (at : ℕ) → pos at ≡ first -ℤ slot width lo → at + count ≤ slots_met width lo hi
  place_within at e = fits at count (slots_met width lo hi) first last (slot width lo) (slot width hi) e counted box_counted meets.high
    where
      fits : (at n m : ℕ) (f l a b : ℤ) → pos at ≡ f -ℤ a → pos n ≡ l -ℤ f +ℤ pos 1 → pos m ≡ b -ℤ a +ℤ pos 1 → l ≤ℤ b → at + n ≤ m
      fits at n m f l a b e g h k = omega (arith, ints, e, g, h, k)

  -- it has no part in other slots
  pub away_there : (c : ℤ) → (c <ℤ first) ⊎ ((first +ℤ pos count) ≤ℤ c) → IsClippedAway (places (slot_low width c) (slot_high width c)) child
  away_there c o = other_away width child first c count (some_width width wide) convex refl refl o
