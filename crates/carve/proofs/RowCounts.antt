-- The free runs of all rows are at most the row boxes: the same pairs of a row and a piece, counted both ways.
use Rattle.std.proofs.Common.{◌≡◌, ◌∙◌, ◌⊎◌, inl, inr, refl, sym, ap, subst, arith, rules, ℕ, zero, suc, ◌+◌, ◌*◌, ◌≤◌, List, [], ◌∷◌, sum_by, Bool, true, false}
use Rattle.std.specs.Prelude.{int_le, ◌&&◌}
use Rattle.std.specs.Int.{int_max, int_min}
use Rattle.std.proofs.lemmas.Int.{ints, clamps, by_lt_z}
use Rattle.std.proofs.lemmas.List.Sums.{sum_by-cons}
use lib.IntN.{ℤ, pos, negsuc, ◌+ℤ◌, ◌-ℤ◌, ◌*ℤ◌}
use lib.Signed.{◌≤ℤ◌, ◌<ℤ◌}
use Rattle.spot_terms.specs.BaseSets.{Rect}
use Rattle.spot_terms.specs.Courses.{slots_met, cells_of}
use Rattle.spot_terms.specs.Grid.{slot, slot_low, slot_high}
use Rattle.spot_terms.specs.Lists.{numbers_below}
use Rattle.spot_terms.specs.RowBoxes.{slots_shared, row_boxes_in, pieces_met, runs_bound}
use Rattle.spot_terms.specs.Whole.{count_between, quotient_floor}
use Rattle.spot_terms.proofs.Quotients.{product_le_at, next_product_gt_at, below_factor}
use Rattle.spot_terms.proofs.Ring.{spread_left}
use Rattle.carve.specs.RowSums.{sum_rows, RowsAreBoxes}
use Rattle.spot_terms.proofs.Orders.{at_most_true, above_false, at_most_below, at_most_trans}
use Rattle.carve.proofs.Shared.{not_shared}
use Rattle.spot_terms.proofs.Slots.{slots_rise}

-- ---- sums over rows

sum_both : (f h : ℤ → ℕ) (a : ℤ) (n : ℕ) → sum_rows (λ r. f r + h r) a n ≡ sum_rows f a n + sum_rows h a n
sum_both f h a zero = refl
sum_both f h a (suc n) = let rest = sum_both f h (a +ℤ pos 1) n in omega (arith, rest)

sum_same : (c : ℕ) (a : ℤ) (n : ℕ) → sum_rows (λ r. c) a n ≡ c * n
sum_same c a zero = omega arith
sum_same c a (suc n) = let rest = sum_same c (a +ℤ pos 1) n in omega (arith, rest)

sum_zero : (a : ℤ) (n : ℕ) → sum_rows (λ r. 0) a n ≡ 0
sum_zero a zero = refl
sum_zero a (suc n) = let rest = sum_zero (a +ℤ pos 1) n in omega (arith, rest)

sum_alike : (f h : ℤ → ℕ) (a : ℤ) (n : ℕ) → ((r : ℤ) → f r ≡ h r) → sum_rows f a n ≡ sum_rows h a n
sum_alike f h a zero e = refl
sum_alike f h a (suc n) e = let one = e a in let rest = sum_alike f h (a +ℤ pos 1) n e in omega (arith, one, rest)

-- by rows or by pieces
swapped_sums : (F : ℕ → ℤ → ℕ) (xs : List ℕ) (a : ℤ) (n : ℕ) → sum_rows (λ r. sum_by (λ p. F p r) xs) a n ≡ sum_by (λ p. sum_rows (F p) a n) xs
swapped_sums F [] a n = sum_zero a n
swapped_sums F (x ∷ xs) a n =
    sum_alike (λ r. sum_by (λ p. F p r) (x ∷ xs)) (λ r. F x r + sum_by (λ p. F p r) xs) a n (λ r. sum_by-cons (λ p. F p r) x xs)
    ∙ (sum_both (F x) (λ r. sum_by (λ p. F p r) xs) a n
    ∙ (ap (λ (z : ℕ). sum_rows (F x) a n + z) (swapped_sums F xs a n)
    ∙ sym (sum_by-cons (λ p. sum_rows (F p) a n) x xs)))

sum_by_alike : (f h : ℕ → ℕ) (xs : List ℕ) → ((x : ℕ) → f x ≡ h x) → sum_by f xs ≡ sum_by h xs
sum_by_alike f h [] e = refl
sum_by_alike f h (x ∷ xs) e = let one = e x in let rest = sum_by_alike f h xs e in let a = sum_by-cons f x xs in let b = sum_by-cons h x xs in omega (arith, one, rest, a, b)

-- ---- how many numbers a range has

abbrev pub Counts : ℤ → ℤ → ℕ → Type 0
Counts m n c = ((m ≤ℤ (n +ℤ pos 1)) × (pos c ≡ n -ℤ m +ℤ pos 1)) ⊎ (((n +ℤ pos 1) ≤ℤ m) × (c ≡ 0))

counted : (z m n : ℤ) → z ≡ n -ℤ m +ℤ pos 1 → Counts m n (count_between m n)
counted (pos z) m n e = inl (omega (arith, ints, e), rw (← e) refl)
counted (negsuc z) m n e = inr (omega (arith, ints, e), rw (← e) refl)

pub counts : (m n : ℤ) → Counts m n (count_between m n)
counts m n = counted (n -ℤ m +ℤ pos 1) m n refl

-- the numbers from a on: a, and those behind it
first_and_rest : (lo hi a last : ℤ) (A B C : ℕ) → a ≤ℤ last → Counts (int_max lo a) (int_min hi a) A → Counts (int_max lo (a +ℤ pos 1)) (int_min hi last) B → Counts (int_max lo a) (int_min hi last) C → A + B ≡ C
first_and_rest lo hi a last A B C h (inl x) (inl y) (inl z) = omega (arith, ints, clamps, h, x.0, x.1, y.0, y.1, z.0, z.1)
first_and_rest lo hi a last A B C h (inl x) (inl y) (inr z) = omega (arith, ints, clamps, h, x.0, x.1, y.0, y.1, z.0, z.1)
first_and_rest lo hi a last A B C h (inl x) (inr y) (inl z) = omega (arith, ints, clamps, h, x.0, x.1, y.0, y.1, z.0, z.1)
first_and_rest lo hi a last A B C h (inl x) (inr y) (inr z) = omega (arith, ints, clamps, h, x.0, x.1, y.0, y.1, z.0, z.1)
first_and_rest lo hi a last A B C h (inr x) (inl y) (inl z) = omega (arith, ints, clamps, h, x.0, x.1, y.0, y.1, z.0, z.1)
first_and_rest lo hi a last A B C h (inr x) (inl y) (inr z) = omega (arith, ints, clamps, h, x.0, x.1, y.0, y.1, z.0, z.1)
first_and_rest lo hi a last A B C h (inr x) (inr y) (inl z) = omega (arith, ints, clamps, h, x.0, x.1, y.0, y.1, z.0, z.1)
first_and_rest lo hi a last A B C h (inr x) (inr y) (inr z) = omega (arith, ints, clamps, h, x.0, x.1, y.0, y.1, z.0, z.1)

none_left : (lo hi a last : ℤ) (C : ℕ) → last +ℤ pos 1 ≡ a → Counts (int_max lo a) (int_min hi last) C → 0 ≡ C
none_left lo hi a last C h (inl z) = omega (arith, ints, clamps, h, z.0, z.1)
none_left lo hi a last C h (inr z) = omega (arith, ints, clamps, h, z.0, z.1)

-- row by row, the rows of a range among those from a to the last
rows_counted : (lo hi a last : ℤ) (n : ℕ) → last +ℤ pos 1 ≡ a +ℤ pos n → sum_rows (λ r. count_between (int_max lo r) (int_min hi r)) a n ≡ count_between (int_max lo a) (int_min hi last)
rows_counted lo hi a last zero e = none_left lo hi a last _ (omega (arith, ints, e)) (counts (int_max lo a) (int_min hi last))
rows_counted lo hi a last (suc n) e =
    let rest = rows_counted lo hi (a +ℤ pos 1) last n (omega (arith, ints, e)) in
    let both = first_and_rest lo hi a last _ _ _ (omega (arith, ints, e)) (counts (int_max lo a) (int_min hi a)) (counts (int_max lo (a +ℤ pos 1)) (int_min hi last)) (counts (int_max lo a) (int_min hi last)) in
    omega (arith, rest, both)

-- ---- the slot of a slot's ends

slot_one : (g r z : ℤ) → pos 0 <ℤ g → (r *ℤ g) ≤ℤ z → z <ℤ ((r +ℤ pos 1) *ℤ g) → slot g z ≡ r
slot_one g r z wide low high =
    let a = product_le_at z g (slot g z) wide refl in
    let b = next_product_gt_at z g (slot g z) wide refl in
    let x = below_factor (slot g z) (r +ℤ pos 1) g wide (at_most_below (slot g z *ℤ g) z ((r +ℤ pos 1) *ℤ g) a high) in
    let y = below_factor r (slot g z +ℤ pos 1) g wide (at_most_below (r *ℤ g) z ((slot g z +ℤ pos 1) *ℤ g) low b) in
    even (slot g z) r x y
  where
    even : (q r : ℤ) → q <ℤ (r +ℤ pos 1) → r <ℤ (q +ℤ pos 1) → q ≡ r
    even q r h k = omega (arith, ints, h, k)

pub low_slot : (g r : ℤ) → pos 0 <ℤ g → slot g (slot_low g r) ≡ r
low_slot g r wide = slot_one g r (slot_low g r) wide (omega (arith, ints)) (omega (arith, ints, wide, spread_left r (pos 1) g))

pub high_slot : (g r : ℤ) → pos 0 <ℤ g → slot g (slot_high g r) ≡ r
high_slot g r wide = slot_one g r (slot_high g r) wide (omega (arith, ints, wide)) (omega (arith, ints, wide, spread_left r (pos 1) g))

-- ---- rows that meet a range

pub shared : (g : ℤ) (s t : ℤ × ℤ) → s.0 ≤ℤ s.1 → t.0 ≤ℤ t.1 → slots_shared g s t ≡ count_between (int_max (slot g s.0) (slot g t.0)) (int_min (slot g s.1) (slot g t.1))
shared g s t h k = rw (at_most_true s.0 s.1 h, at_most_true t.0 t.1 k) refl

row_shared : (g : ℤ) (s : ℤ × ℤ) (r : ℤ) → pos 0 <ℤ g → s.0 ≤ℤ s.1 → slots_shared g s (slot_low g r, slot_high g r) ≡ count_between (int_max (slot g s.0) r) (int_min (slot g s.1) r)
row_shared g s r wide h =
    shared g s (slot_low g r, slot_high g r) h (omega (arith, ints, wide))
    ∙ (ap (λ (z : ℤ). count_between (int_max (slot g s.0) z) (int_min (slot g s.1) (slot g (slot_high g r)))) (low_slot g r wide)
    ∙ ap (λ (z : ℤ). count_between (int_max (slot g s.0) r) (int_min (slot g s.1) z)) (high_slot g r wide))

piece_rows : (g ylo yhi : ℤ) (s : ℤ × ℤ) (n : ℕ) → pos 0 <ℤ g → ylo ≤ℤ yhi → slot g yhi +ℤ pos 1 ≡ slot g ylo +ℤ pos n
    → sum_rows (λ r. slots_shared g s (slot_low g r, slot_high g r)) (slot g ylo) n ≡ slots_shared g s (ylo, yhi)
piece_rows g ylo yhi s n wide order e = by_lt_z s.1 s.0
    (λ none. sum_alike (λ r. slots_shared g s (slot_low g r, slot_high g r)) (λ r. 0) (slot g ylo) n (λ r. not_shared g s (slot_low g r, slot_high g r) none)
    ∙ (sum_zero (slot g ylo) n ∙ sym (not_shared g s (ylo, yhi) none)))
    (λ some. sum_alike (λ r. slots_shared g s (slot_low g r, slot_high g r)) (λ r. count_between (int_max (slot g s.0) r) (int_min (slot g s.1) r)) (slot g ylo) n (λ r. row_shared g s r wide some)
    ∙ (rows_counted (slot g s.0) (slot g s.1) (slot g ylo) (slot g yhi) n e ∙ sym (shared g s (ylo, yhi) some order)))

met_rows : (m n : ℤ) (c : ℕ) → m ≤ℤ n → Counts m n c → n +ℤ pos 1 ≡ m +ℤ pos c
met_rows m n c h (inl z) = omega (arith, ints, h, z.0, z.1)
met_rows m n c h (inr z) = absurd (omega (arith, ints, h, z.0))

pub rows_are_boxes : RowsAreBoxes
rows_are_boxes w g o count range wide order =
    let n : ℕ = slots_met g o.ylo o.yhi in
    let last : slot g o.yhi +ℤ pos 1 ≡ slot g o.ylo +ℤ pos n = met_rows (slot g o.ylo) (slot g o.yhi) n (slots_rise g o.ylo o.yhi wide order) (counts (slot g o.ylo) (slot g o.yhi)) in
    let split = sum_both (λ r. slots_met w o.xlo o.xhi) (λ r. sum_by (λ p. slots_shared g (range p) (slot_low g r, slot_high g r)) (numbers_below count)) (slot g o.ylo) n in
    let cells = sum_same (slots_met w o.xlo o.xhi) (slot g o.ylo) n in
    let turned = swapped_sums (λ p r. slots_shared g (range p) (slot_low g r, slot_high g r)) (numbers_below count) (slot g o.ylo) n in
    let pieces = sum_by_alike (λ p. sum_rows (λ r. slots_shared g (range p) (slot_low g r, slot_high g r)) (slot g o.ylo) n) (λ p. slots_shared g (range p) (o.ylo, o.yhi)) (numbers_below count)
    (λ p. piece_rows g o.ylo o.yhi (range p) n wide order last) in
    omega (arith, split, cells, turned, pieces)

-- a piece whose range holds both ends meets a row at least
pub shared_once : (g low high : ℤ) (r : ℤ × ℤ) → pos 0 <ℤ g → low ≤ℤ high → r.0 ≤ℤ low → high ≤ℤ r.1 → 1 ≤ slots_shared g r (low, high)
shared_once g low high r wide order a b =
    let x = slots_rise g r.0 low wide a in
    let y = slots_rise g low high wide order in
    let z = slots_rise g high r.1 wide b in
    let e : slots_shared g r (low, high) ≡ count_between (int_max (slot g r.0) (slot g low)) (int_min (slot g r.1) (slot g high)) = shared g r (low, high) (at_most_trans r.0 low r.1 a (at_most_trans low high r.1 order b)) order in
    rw e (one (int_max (slot g r.0) (slot g low)) (int_min (slot g r.1) (slot g high)) _ (omega (arith, ints, clamps, x, y, z)) (counts _ _))
  where
    one : (m n : ℤ) (c : ℕ) → m ≤ℤ n → Counts m n c → 1 ≤ c
    one m n c h (inl k) = omega (arith, ints, h, k.0, k.1)
    one m n c h (inr k) = absurd (omega (arith, ints, h, k.0))
