-- Rows of octagons.
use Rattle.std.proofs.Common.{◌≡◌, ℕ, ◌≤◌, ◌<◌, arith, sym, subst, List, [], ◌∷◌, length}
use Rattle.std.specs.Prelude.{nat_abs, IsTrue, ◌↔◌, true, Option, Some, None}
use Rattle.std.specs.Int.{int_max, int_min}
use Rattle.std.specs.List.{AllByRecursion}
use Rattle.std.proofs.lemmas.Int.{ints, by_lt_z}
use lib.IntN.{ℤ, pos, negsuc, ◌+ℤ◌, ◌-ℤ◌, ◌*ℤ◌}
use lib.Signed.{◌≤ℤ◌, ◌<ℤ◌, le_z}
use borrow.Author.Differences.{true_is_le}
use Rattle.spot_terms.specs.Reach.{InOctagon}
use Rattle.spot_terms.specs.Whole.{Within, SizeAtMost}
use Rattle.spot_terms.proofs.Orders.{at_most_trans}
use Rattle.convex_poly.specs.OctRows.{HasRows, IsEastwards, IsWestwards, number}
use Rattle.convex_poly.specs.Runs.{IsRun, IsSpanOf, pt}
use Rattle.spot_terms.proofs.Places.{all_at}

-- a row of an octagon, by its numbers
abbrev pub KeepsRow : List ℤ → ℤ → ℤ → Type 0
KeepsRow n y x = (x ≤ℤ number n 0) × ((x +ℤ y) ≤ℤ number n 1) × (y ≤ℤ number n 2) × ((y -ℤ x) ≤ℤ number n 3) × ((pos 0 -ℤ x) ≤ℤ number n 4) × ((pos 0 -ℤ (x +ℤ y)) ≤ℤ number n 5) × ((pos 0 -ℤ y) ≤ℤ number n 6) × ((x -ℤ y) ≤ℤ number n 7)

row_in : (n : List ℤ) (x y : ℤ) → length n ≡ 8 → KeepsRow n y x → InOctagon n (pt x y)
row_in [] x y e h = absurd (omega arith)
row_in (a ∷ []) x y e h = absurd (omega arith)
row_in (a ∷ b ∷ []) x y e h = absurd (omega arith)
row_in (a ∷ b ∷ c ∷ []) x y e h = absurd (omega arith)
row_in (a ∷ b ∷ c ∷ d ∷ []) x y e h = absurd (omega arith)
row_in (a ∷ b ∷ c ∷ d ∷ f ∷ []) x y e h = absurd (omega arith)
row_in (a ∷ b ∷ c ∷ d ∷ f ∷ g ∷ []) x y e h = absurd (omega arith)
row_in (a ∷ b ∷ c ∷ d ∷ f ∷ g ∷ i ∷ []) x y e h = absurd (omega arith)
row_in (a ∷ b ∷ c ∷ d ∷ f ∷ g ∷ i ∷ j ∷ []) x y e h = (east a h.0, (ne b h.1, (north c h.2, (nw d h.3, (west f h.4, (sw g h.5, (south i h.6, (se j h.7, tt))))))))
  where
    east : (a : ℤ) → x ≤ℤ a → ((pos 1 *ℤ x) +ℤ (pos 0 *ℤ y)) ≤ℤ a
    east a h = omega (arith, ints)

    ne : (a : ℤ) → (x +ℤ y) ≤ℤ a → ((pos 1 *ℤ x) +ℤ (pos 1 *ℤ y)) ≤ℤ a
    ne a h = omega (arith, ints)

    north : (a : ℤ) → y ≤ℤ a → ((pos 0 *ℤ x) +ℤ (pos 1 *ℤ y)) ≤ℤ a
    north a h = omega (arith, ints)

    nw : (a : ℤ) → (y -ℤ x) ≤ℤ a → ((negsuc 0 *ℤ x) +ℤ (pos 1 *ℤ y)) ≤ℤ a
    nw a h = omega (arith, ints)

    west : (a : ℤ) → (pos 0 -ℤ x) ≤ℤ a → ((negsuc 0 *ℤ x) +ℤ (pos 0 *ℤ y)) ≤ℤ a
    west a h = omega (arith, ints)

    sw : (a : ℤ) → (pos 0 -ℤ (x +ℤ y)) ≤ℤ a → ((negsuc 0 *ℤ x) +ℤ (negsuc 0 *ℤ y)) ≤ℤ a
    sw a h = omega (arith, ints)

    south : (a : ℤ) → (pos 0 -ℤ y) ≤ℤ a → ((pos 0 *ℤ x) +ℤ (negsuc 0 *ℤ y)) ≤ℤ a
    south a h = omega (arith, ints)

    se : (a : ℤ) → (x -ℤ y) ≤ℤ a → ((pos 1 *ℤ x) +ℤ (negsuc 0 *ℤ y)) ≤ℤ a
    se a h = omega (arith, ints)
row_in (a ∷ b ∷ c ∷ d ∷ f ∷ g ∷ i ∷ j ∷ k ∷ n) x y e h = absurd (omega arith)

in_row : (n : List ℤ) (x y : ℤ) → InOctagon n (pt x y) → KeepsRow n y x
in_row [] x y h = absurd h
in_row (a ∷ []) x y h = absurd h.1
in_row (a ∷ b ∷ []) x y h = absurd h.1.1
in_row (a ∷ b ∷ c ∷ []) x y h = absurd h.1.1.1
in_row (a ∷ b ∷ c ∷ d ∷ []) x y h = absurd h.1.1.1.1
in_row (a ∷ b ∷ c ∷ d ∷ f ∷ []) x y h = absurd h.1.1.1.1.1
in_row (a ∷ b ∷ c ∷ d ∷ f ∷ g ∷ []) x y h = absurd h.1.1.1.1.1.1
in_row (a ∷ b ∷ c ∷ d ∷ f ∷ g ∷ i ∷ []) x y h = absurd h.1.1.1.1.1.1.1
in_row (a ∷ b ∷ c ∷ d ∷ f ∷ g ∷ i ∷ j ∷ n) x y h = (east a h.0, ne b h.1.0, north c h.1.1.0, nw d h.1.1.1.0, west f h.1.1.1.1.0, sw g h.1.1.1.1.1.0, south i h.1.1.1.1.1.1.0, se j h.1.1.1.1.1.1.1.0)
  where
    east : (a : ℤ) → ((pos 1 *ℤ x) +ℤ (pos 0 *ℤ y)) ≤ℤ a → x ≤ℤ a
    east a h = omega (arith, ints)

    ne : (a : ℤ) → ((pos 1 *ℤ x) +ℤ (pos 1 *ℤ y)) ≤ℤ a → (x +ℤ y) ≤ℤ a
    ne a h = omega (arith, ints)

    north : (a : ℤ) → ((pos 0 *ℤ x) +ℤ (pos 1 *ℤ y)) ≤ℤ a → y ≤ℤ a
    north a h = omega (arith, ints)

    nw : (a : ℤ) → ((negsuc 0 *ℤ x) +ℤ (pos 1 *ℤ y)) ≤ℤ a → (y -ℤ x) ≤ℤ a
    nw a h = omega (arith, ints)

    west : (a : ℤ) → ((negsuc 0 *ℤ x) +ℤ (pos 0 *ℤ y)) ≤ℤ a → (pos 0 -ℤ x) ≤ℤ a
    west a h = omega (arith, ints)

    sw : (a : ℤ) → ((negsuc 0 *ℤ x) +ℤ (negsuc 0 *ℤ y)) ≤ℤ a → (pos 0 -ℤ (x +ℤ y)) ≤ℤ a
    sw a h = omega (arith, ints)

    south : (a : ℤ) → ((pos 0 *ℤ x) +ℤ (negsuc 0 *ℤ y)) ≤ℤ a → (pos 0 -ℤ y) ≤ℤ a
    south a h = omega (arith, ints)

    se : (a : ℤ) → ((pos 1 *ℤ x) +ℤ (negsuc 0 *ℤ y)) ≤ℤ a → (x -ℤ y) ≤ℤ a
    se a h = omega (arith, ints)

-- both rows, by the ends and the rows
rows_of : (n : List ℤ) (low high x : ℤ) → HasRows n low high → IsEastwards n low high x → IsWestwards n low high x → low ≤ℤ high → KeepsRow n low x × KeepsRow n high x
rows_of n low high x r e w o = let (c, i) = r in let (f, d, g) = e in let (a, b, j) = w in (
  (omega (arith, ints), omega (arith, ints), omega (arith, ints), omega (arith, ints), omega (arith, ints), omega (arith, ints), omega (arith, ints), omega (arith, ints)),
  (omega (arith, ints), omega (arith, ints), omega (arith, ints), omega (arith, ints), omega (arith, ints), omega (arith, ints), omega (arith, ints), omega (arith, ints)),
)

has_of : (n : List ℤ) (low high x : ℤ) → KeepsRow n low x → KeepsRow n high x → HasRows n low high
has_of n low high x l h = (h.2, l.6)

east_of : (n : List ℤ) (low high x : ℤ) → KeepsRow n low x → KeepsRow n high x → IsEastwards n low high x
east_of n low high x l h = let a = l.4 in let b = h.3 in let c = l.5 in (omega (arith, ints), omega (arith, ints), omega (arith, ints))

west_of : (n : List ℤ) (low high x : ℤ) → KeepsRow n low x → KeepsRow n high x → IsWestwards n low high x
west_of n low high x l h = let a = l.0 in let b = h.1 in let c = l.7 in (omega (arith, ints), omega (arith, ints), omega (arith, ints))

abbrev pub InBoth : List ℤ → ℤ → ℤ → ℤ → Type 0
InBoth n low high x = InOctagon n (pt x low) × InOctagon n (pt x high)

module _ (n : List ℤ) (low high first last : ℤ) (order : low ≤ℤ high) (firsts : (x : ℤ) → (first ≤ℤ x) ↔ IsEastwards n low high x) (lasts : (x : ℤ) → (x ≤ℤ last) ↔ IsWestwards n low high x) where
  within : (x : ℤ) → InBoth n low high x → Within first last x
  within x h = let l = in_row n x low h.0 in let u = in_row n x high h.1 in record { low = (firsts x).1 (east_of n low high x l u); high = (lasts x).1 (west_of n low high x l u) }

  pub oct_span : length n ≡ 8 → HasRows n low high → first ≤ℤ last → IsSpanOf (InBoth n low high) (first, last)
  oct_span eight rows o = record {
    ordered = o;
    exact = λ x. (within x, (λ w. let k = rows_of n low high x rows ((firsts x).0 w.low) ((lasts x).0 w.high) order in (row_in n x low eight k.0, row_in n x high eight k.1)));
  }

  pub oct_none : (HasRows n low high → first ≤ℤ last → ⊥) → (x : ℤ) → InBoth n low high x → ⊥
  oct_none outside x h =
      let w = within x h in
      outside (has_of n low high x (in_row n x low h.0) (in_row n x high h.1)) (at_most_trans first x last w.low w.high)

-- ---- two rows, whichever is lower

pub rows_turned : (n : List ℤ) (y0 y1 : ℤ) (r : Option (ℤ × ℤ)) → IsRun (InBoth n (int_min y0 y1) (int_max y0 y1)) r → IsRun (InBoth n y0 y1) r
rows_turned n y0 y1 r h = by_lt_z y1 y0
    (λ down. turned r (subst (λ z. IsRun (InBoth n z y0) r) (least y0 y1 down) (subst (λ z. IsRun (InBoth n (int_min y0 y1) z) r) (greatest y0 y1 down) h)))
    (λ up. subst (λ z. IsRun (InBoth n z y1) r) (least_up y0 y1 up) (subst (λ z. IsRun (InBoth n (int_min y0 y1) z) r) (greatest_up y0 y1 up) h))
  where
    least : (y0 y1 : ℤ) → y1 <ℤ y0 → int_min y0 y1 ≡ y1
    least y0 y1 h = grind (arith, ints)

    greatest : (y0 y1 : ℤ) → y1 <ℤ y0 → int_max y0 y1 ≡ y0
    greatest y0 y1 h = grind (arith, ints)

    least_up : (y0 y1 : ℤ) → y0 ≤ℤ y1 → int_min y0 y1 ≡ y0
    least_up y0 y1 h = grind (arith, ints)

    greatest_up : (y0 y1 : ℤ) → y0 ≤ℤ y1 → int_max y0 y1 ≡ y1
    greatest_up y0 y1 h = grind (arith, ints)

    turned : (r : Option (ℤ × ℤ)) → IsRun (InBoth n y1 y0) r → IsRun (InBoth n y0 y1) r
    turned None h = λ x i. h x (i.1, i.0)
    turned (Some s) h = record { ordered = h.ordered; exact = λ x. ((λ i. (h.exact x).0 (i.1, i.0)), (λ w. let i = (h.exact x).1 w in (i.1, i.0))) }

-- ---- the greatest of three and the least of three

pub max_three : (a b c m x : ℤ) → m ≡ int_max (int_max a b) c → (m ≤ℤ x) ↔ ((a ≤ℤ x) × (b ≤ℤ x) × (c ≤ℤ x))
max_three a b c m x e = ((λ h. (grind (arith, ints), grind (arith, ints), grind (arith, ints))), (λ h. let f = h.0 in let g = h.1 in let k = h.2 in grind (arith, ints)))

pub min_three : (a b c m x : ℤ) → m ≡ int_min (int_min a b) c → (x ≤ℤ m) ↔ ((x ≤ℤ a) × (x ≤ℤ b) × (x ≤ℤ c))
min_three a b c m x e = ((λ h. (grind (arith, ints), grind (arith, ints), grind (arith, ints))), (λ h. let f = h.0 in let g = h.1 in let k = h.2 in grind (arith, ints)))

pub number_size : (n : List ℤ) (k : ℕ) → AllByRecursion (SizeAtMost 100000000000000) n → k < length n → nat_abs (number n k) ≤ 100000000000000
number_size n k h l = all_at (SizeAtMost 100000000000000) n k (pos 0) h l

-- the two tests of the rows
pub row_tests : (a b p q : ℤ) → le_z a b ≡ true → (IsTrue (le_z p q) → (a ≤ℤ b) × (p ≤ℤ q)) × ((a ≤ℤ b) × (p ≤ℤ q) → IsTrue (le_z p q))
row_tests a b p q h = ((λ t. (first a b h, second p q t)), (λ k. back p q k.1))
  where
    first : (a b : ℤ) → le_z a b ≡ true → a ≤ℤ b
    first a b h = omega (arith, ints)

    second : (p q : ℤ) → IsTrue (le_z p q) → p ≤ℤ q
    second p q h = omega (arith, ints)

    back : (p q : ℤ) → p ≤ℤ q → IsTrue (le_z p q)
    back p q h = sym (true_is_le p q (omega (arith, ints)))
