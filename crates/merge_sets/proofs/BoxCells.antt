-- Where the cells of a box stand: column after column, each from its lowest row on.
use Rattle.std.proofs.Common.{◌≡◌, ◌∙◌, ◌⊎◌, ℕ, ◌+◌, ◌-◌, ◌*◌, ◌≤◌, ◌<◌, arith, ap, sym, refl, subst, inl, inr}
use Rattle.std.specs.Prelude.{nat_abs}
use Rattle.std.proofs.lemmas.Int.{ints}
use lib.IntN.{ℤ, pos, ◌+ℤ◌, ◌-ℤ◌}
use lib.Signed.{◌≤ℤ◌}
use Rattle.spot_terms.specs.Courses.{cells_of, slots_met}
use Rattle.spot_terms.specs.Grid.{slot}
use Rattle.spot_terms.specs.Whole.{Within, count_between, quotient_floor}
use Rattle.spot_terms.proofs.QuotientBounds.{floor_between}
use Rattle.spot_terms.proofs.Places.{compare3}
use Rattle.base_sets.specs.declared.grid.Grid.{Grid}
use Rattle.base_sets.specs.declared.grid.OuterBox.{OuterBox}
use Rattle.base_sets.specs.Values.{IsBox, IsGrid, rect_of_box}
use Rattle.merge_sets.specs.Tables.{IsCellOf, place_of}
use Rattle.base_sets.proofs.Slots.{count_is}
use Rattle.spot_terms.proofs.Orders.{row_before, factor_order}

-- ---- natural numbers

pub sum_out : (a i b j R : ℕ) → (a + i) * R + (b + j) ≡ a * R + b + i * R + j
sum_out a i b j R = let e : (a + i) * R ≡ a * R + i * R = grind arith in omega (arith, e)

-- two places of columns of R cells each are one place only where column and row are the same
same_parts : (a b c d R : ℕ) → b < R → d < R → a * R + b ≡ c * R + d → (a ≡ c) × (b ≡ d)
same_parts a b c d R h k e = compare3 a c
    (λ l. absurd (let g : a * R + R ≤ c * R = row_before a c R R l (omega arith) in omega (arith, g, h, e)))
    (λ s. (s, let g : a * R ≡ c * R = ap (λ (z : ℕ). z * R) s in omega (arith, g, e)))
    (λ l. absurd (let g : c * R + R ≤ a * R = row_before c a R R l (omega arith) in omega (arith, g, k, e)))

-- m cells from row b on of each of n columns from column a on don't hold another cell
pub apart_from : (R a b m n c d : ℕ) → b + m ≤ R → d < R → ((i : ℕ) → i < n → c ≡ a + i → (d < b) ⊎ (b + m ≤ d)) → (i : ℕ) → i < n
    → (c * R + d < a * R + b + i * R) ⊎ (a * R + b + i * R + m ≤ c * R + d)
apart_from R a b m n c d h k apart i l = compare3 c (a + i)
    (λ before. inl (let g : c * R + R ≤ (a + i) * R = row_before c (a + i) R R before (omega arith) in let e : (a + i) * R ≡ a * R + i * R = grind arith in omega (arith, g, e, k)))
    (λ s. let e : c * R ≡ a * R + i * R = ap (λ (z : ℕ). z * R) s ∙ grind arith in elim (apart i l s) [ inl less ↦ inl (omega (arith, e, less)) | inr more ↦ inr (omega (arith, e, more)) ])
    (λ after. inr (let g : (a + i) * R + R ≤ c * R = row_before (a + i) c R R after (omega arith) in let e : (a + i) * R ≡ a * R + i * R = grind arith in omega (arith, g, e, h)))

-- the last of n columns from column a on
pub last_within : (R a b m n C : ℕ) → b + m ≤ R → a + n ≤ C → 0 < n → a * R + b + (n - 1) * R + m ≤ C * R
last_within R a b m n C h k l =
    let g : (a + (n - 1)) * R + R ≤ C * R = row_before (a + (n - 1)) C R R (omega (arith, k, l)) (omega arith) in
    let e : (a + (n - 1)) * R ≡ a * R + (n - 1) * R = spread a (n - 1) R in omega (arith, g, e, h)
  where
    spread : (a i R : ℕ) → (a + i) * R ≡ a * R + i * R
    spread a i R = grind arith

pub columns_within : (a n C R : ℕ) → a + n ≤ C → n * R ≤ C * R
columns_within a n C R h = factor_order n C R (omega (arith, h))

-- ---- how far a slot is past the first one

pub steps_past : (q z : ℤ) (i : ℕ) → q ≤ℤ z → nat_abs ((z +ℤ pos i) -ℤ q) ≡ nat_abs (z -ℤ q) + i
steps_past q z i h = omega (arith, ints)

pub reached : (q z : ℤ) → q ≤ℤ z → z ≡ q +ℤ pos (nat_abs (z -ℤ q))
reached q z h = omega (arith, ints)

same_steps : (q y z : ℤ) → q ≤ℤ y → q ≤ℤ z → nat_abs (y -ℤ q) ≡ nat_abs (z -ℤ q) → y ≡ z
same_steps q y z h k e = omega (arith, ints)

pub steps_below : (q p z : ℤ) → Within q p z → nat_abs (z -ℤ q) < count_between q p
steps_below q p z w =
    let low = w.low in let high = w.high in
    let order : q ≤ℤ p = omega (arith, ints, low, high) in
    let less : nat_abs (z -ℤ q) < nat_abs (p -ℤ q +ℤ pos 1) = omega (arith, ints, low, high) in
    subst (λ (n : ℕ). nat_abs (z -ℤ q) < n) (count_is p q order) less

-- a count of slots from one that is further on
pub counted_within : (q p left right : ℤ) → q ≤ℤ left → left ≤ℤ right → right ≤ℤ p → nat_abs (left -ℤ q) + count_between left right ≤ count_between q p
counted_within q p left right h o l =
    let whole : q ≤ℤ p = omega (arith, ints, h, o, l) in
    let plain : nat_abs (left -ℤ q) + nat_abs (right -ℤ left +ℤ pos 1) ≤ nat_abs (p -ℤ q +ℤ pos 1) = omega (arith, ints, h, o, l) in
    subst (λ (n : ℕ). nat_abs (left -ℤ q) + n ≤ count_between q p) (count_is right left o) (subst (λ (n : ℕ). nat_abs (left -ℤ q) + nat_abs (right -ℤ left +ℤ pos 1) ≤ n) (count_is p q whole) plain)

-- the slots of a count
pub counted_slots : (left right : ℤ) (i : ℕ) → left ≤ℤ right → i < count_between left right → Within left right (left +ℤ pos i)
counted_slots left right i o l =
    let less : i < nat_abs (right -ℤ left +ℤ pos 1) = subst (λ (n : ℕ). i < n) (sym (count_is right left o)) l in
    record { low = omega (arith, ints); high = omega (arith, ints, o, less) }

-- ---- cells of a box

-- how many cells a column of a box has
abbrev pub column_of : OuterBox → Grid → ℕ
column_of o grid = slots_met grid.g o.ylo o.yhi

-- a cell that is i columns and j rows past another
pub place_past : (o : OuterBox) (grid : Grid) (col row : ℤ) (i j : ℕ) → slot grid.w o.xlo ≤ℤ col → slot grid.g o.ylo ≤ℤ row
    → place_of o grid (col +ℤ pos i) (row +ℤ pos j) ≡ place_of o grid col row + i * column_of o grid + j
place_past o grid col row i j h k =
    ap (λ (z : ℕ). z * column_of o grid + nat_abs ((row +ℤ pos j) -ℤ slot grid.g o.ylo)) (steps_past (slot grid.w o.xlo) col i h)
    ∙ ap (λ (z : ℕ). (nat_abs (col -ℤ slot grid.w o.xlo) + i) * column_of o grid + z) (steps_past (slot grid.g o.ylo) row j k)
    ∙ sum_out (nat_abs (col -ℤ slot grid.w o.xlo)) i (nat_abs (row -ℤ slot grid.g o.ylo)) j (column_of o grid)

pub one_place : (o : OuterBox) (grid : Grid) (col row c r : ℤ) → IsCellOf o grid col row → IsCellOf o grid c r → place_of o grid col row ≡ place_of o grid c r → (col ≡ c) × (row ≡ r)
one_place o grid col row c r h k e =
    let (a, b) = same_parts (nat_abs (col -ℤ slot grid.w o.xlo)) (nat_abs (row -ℤ slot grid.g o.ylo)) (nat_abs (c -ℤ slot grid.w o.xlo)) (nat_abs (r -ℤ slot grid.g o.ylo)) (column_of o grid)
    (steps_below (slot grid.g o.ylo) (slot grid.g o.yhi) row h.1) (steps_below (slot grid.g o.ylo) (slot grid.g o.yhi) r k.1) e in
    (same_steps (slot grid.w o.xlo) col c h.0.low k.0.low a, same_steps (slot grid.g o.ylo) row r h.1.low k.1.low b)

pub place_below : (o : OuterBox) (grid : Grid) (col row : ℤ) → IsCellOf o grid col row → place_of o grid col row < cells_of grid.w grid.g (rect_of_box o)
place_below o grid col row h =
    let b = steps_below (slot grid.g o.ylo) (slot grid.g o.yhi) row h.1 in
    let g : nat_abs (col -ℤ slot grid.w o.xlo) * column_of o grid + column_of o grid ≤ slots_met grid.w o.xlo o.xhi * column_of o grid
    = row_before (nat_abs (col -ℤ slot grid.w o.xlo)) (slots_met grid.w o.xlo o.xhi) (column_of o grid) (column_of o grid) (steps_below (slot grid.w o.xlo) (slot grid.w o.xhi) col h.0) (omega arith) in
    less (nat_abs (col -ℤ slot grid.w o.xlo) * column_of o grid) (nat_abs (row -ℤ slot grid.g o.ylo)) (column_of o grid) (slots_met grid.w o.xlo o.xhi * column_of o grid) b g
  where
    less : (a b R C : ℕ) → b < R → a + R ≤ C → a + b < C
    less a b R C h k = omega (arith, h, k)
