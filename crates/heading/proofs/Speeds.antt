-- The start speed of a box.
use Rattle.std.proofs.Common.{◌≡◌, ℕ, ◌+◌, ◌*◌, ◌≤◌, max, arith, inl, inr, ℤ, ◌≤ℤ◌, nat_abs, mul-le-mul}
use Rattle.std.proofs.lemmas.Int.{ints}
use Rattle.std.proofs.lemmas.Bool.{cases_lt}
use Rattle.spot_terms.specs.declared.plain.Pt.{Pt}
use Rattle.spot_terms.specs.declared.plain.VBox.{VBox}
use Rattle.spot_terms.specs.Whole.{square, Within, IsRootCeiling}
use Rattle.spot_terms.specs.Motions.{InBox, IsStartSpeed}
use Rattle.spot_terms.specs.Ranges.{IsBoxWithin}

-- m is the greatest size on a side
abbrev pub IsGreatestSize : ℤ → ℤ → ℕ → Type 0
IsGreatestSize lo hi m = m ≡ max (nat_abs lo) (nat_abs hi)

size_le : (v lo hi : ℤ) → lo ≤ℤ v → v ≤ℤ hi → nat_abs v ≤ max (nat_abs lo) (nat_abs hi)
size_le v lo hi h g = omega (arith, ints)

within_size : (v lo hi : ℤ) (m : ℕ) → IsGreatestSize lo hi m → Within lo hi v → nat_abs v ≤ m
within_size v lo hi m e h = rw e (size_le v lo hi h.low h.high)

-- an end of the side has the greatest size
corner : (lo hi : ℤ) (m : ℕ) → IsGreatestSize lo hi m → lo ≤ℤ hi → (v : ℤ) × Within lo hi v × (nat_abs v ≡ m)
corner lo hi m e h = elim (cases_lt (nat_abs lo) (nat_abs hi)) [
  | inl more ↦ (hi, record { low = h; high = omega (arith, ints) }, omega arith)
  | inr less ↦ (lo, record { low = omega (arith, ints); high = h }, omega arith)
]

covers_box : (b : VBox) (x y r : ℕ) → IsGreatestSize b.xlo b.xhi x → IsGreatestSize b.ylo b.yhi y → x * x + y * y ≤ r * r → (v : Pt) → InBox b v → square v.x + square v.y ≤ r * r
covers_box b x y r p q h v i =
    let first = within_size v.x b.xlo b.xhi x p i.x in
    let second = within_size v.y b.ylo b.yhi y q i.y in
    omega (arith, mul-le-mul first first, mul-le-mul second second)

covers_corner : (b : VBox) (x y r : ℕ) → IsGreatestSize b.xlo b.xhi x → IsGreatestSize b.ylo b.yhi y → b.xlo ≤ℤ b.xhi → b.ylo ≤ℤ b.yhi → ((v : Pt) → InBox b v → square v.x + square v.y ≤ r * r) → x * x + y * y ≤ r * r
covers_corner b x y r p q f g h =
    let (vx, wx, ex) = corner b.xlo b.xhi x p f in
    let (vy, wy, ey) = corner b.ylo b.yhi y q g in
    let all : nat_abs vx * nat_abs vx + nat_abs vy * nat_abs vy ≤ r * r = h (record { x = vx; y = vy }) (record { x = wx; y = wy }) in
    rw (ex, ey) at all

-- the root of the squares of the greatest sizes, rounded up
pub start_speed-is : (m : ℕ) (b : VBox) (x y s : ℕ) → IsBoxWithin m b → IsGreatestSize b.xlo b.xhi x → IsGreatestSize b.ylo b.yhi y → IsRootCeiling (x * x + y * y) s → IsStartSpeed b s
start_speed-is m b x y s w p q h = record {
  holds = covers_box b x y s p q h.enough;
  least = λ r g. h.least r (covers_corner b x y r p q w.x_ordered w.y_ordered g);
}

pub start_speed-small : (b : VBox) (x y s : ℕ) → IsBoxWithin 400_002 b → IsGreatestSize b.xlo b.xhi x → IsGreatestSize b.ylo b.yhi y → IsRootCeiling (x * x + y * y) s → s ≤ 900_000
start_speed-small b x y s w p q h =
    let first : x ≤ 400_002 = omega arith in
    let second : y ≤ 400_002 = omega arith in
    h.least 900_000 (omega (arith, mul-le-mul first first, mul-le-mul second second))
