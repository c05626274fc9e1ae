-- Products, sums and differences of short vectors, as the code computes them.
use Rattle.std.proofs.Common.{◌≡◌, ◌≤◌, arith, ap, ◌∙◌}
use Rattle.std.proofs.lemmas.Int.{ints}
use Rattle.std.specs.Prelude.{nat_abs}
use lib.IntN.{ℤ, ◌*ℤ◌, ◌-ℤ◌, ◌+ℤ◌}
use mir.Syntax.{w64}
use mir.Val.{to_z, of_z}
use Rattle.spot_terms.specs.declared.plain.Pt.{Pt}
use Rattle.spot_terms.proofs.OneHull.{same_pt}
use Rattle.convex_poly.specs.Vectors.{minus, IsShort}
use Rattle.convex_poly.proofs.Wide.{product_within, small_back}

-- a product of two coordinates of vectors
pub product_is : (a b : ℤ) → nat_abs a ≤ 1_000_000_000 → nat_abs b ≤ 1_000_000_000 → to_z w64 (of_z w64 (to_z w64 (of_z w64 a) *ℤ to_z w64 (of_z w64 b))) ≡ a *ℤ b
product_is a b h k =
    let within : nat_abs (a *ℤ b) ≤ 9_000_000_000_000_000_000 = omega (arith, product_within a b 1_000_000_000 1_000_000_000 h k) in
    rw (small_back a (omega (arith, h)), small_back b (omega (arith, k))) (small_back (a *ℤ b) within)

-- and its size
pub product_size : (r a b : ℤ) → nat_abs a ≤ 1_000_000_000 → nat_abs b ≤ 1_000_000_000 → r ≡ a *ℤ b → nat_abs r ≤ 1_000_000_000_000_000_000
product_size r a b h k e = rw e (omega (arith, product_within a b 1_000_000_000 1_000_000_000 h k))

-- what a call that is handed two coordinates says of their product
pub product_of : (r a b : ℤ) → nat_abs a ≤ 1_000_000_000 → nat_abs b ≤ 1_000_000_000 → r ≡ to_z w64 (of_z w64 a) *ℤ to_z w64 (of_z w64 b) → r ≡ a *ℤ b
product_of r a b h k e = e ∙ ap (λ z. z *ℤ to_z w64 (of_z w64 b)) (small_back a (omega (arith, h))) ∙ ap (λ z. a *ℤ z) (small_back b (omega (arith, k)))

-- a sum and a difference of two such products
pub plus_is : (r s x y : ℤ) → nat_abs r ≤ 1_000_000_000_000_000_000 → nat_abs s ≤ 1_000_000_000_000_000_000 → r ≡ x → s ≡ y → to_z w64 (of_z w64 (to_z w64 (of_z w64 r) +ℤ to_z w64 (of_z w64 s))) ≡ x +ℤ y
plus_is r s x y h k e f = omega (arith, ints)

pub minus_is : (r s x y : ℤ) → nat_abs r ≤ 1_000_000_000_000_000_000 → nat_abs s ≤ 1_000_000_000_000_000_000 → r ≡ x → s ≡ y → to_z w64 (of_z w64 (to_z w64 (of_z w64 r) -ℤ to_z w64 (of_z w64 s))) ≡ x -ℤ y
minus_is r s x y h k e f = omega (arith, ints)

pub minus_size : (r s : ℤ) → nat_abs r ≤ 1_000_000_000_000_000_000 → nat_abs s ≤ 1_000_000_000_000_000_000 → nat_abs (to_z w64 (of_z w64 (to_z w64 (of_z w64 r) -ℤ to_z w64 (of_z w64 s)))) ≤ 2_000_000_000_000_000_000
minus_size r s h k = omega (arith, ints)

-- the vector between two points as the code computes it
offset_is : (a b : ℤ) → nat_abs (a -ℤ b) ≤ 1_000_000_000 → a ≡ to_z w64 (of_z w64 a) → b ≡ to_z w64 (of_z w64 b) → to_z w64 (of_z w64 (to_z w64 (of_z w64 a) -ℤ to_z w64 (of_z w64 b))) ≡ a -ℤ b
offset_is a b h e f = omega (arith, ints)

-- and as a point
pub vector_is : (p q : Pt) → IsShort (minus p q) → p.x ≡ to_z w64 (of_z w64 p.x) → q.x ≡ to_z w64 (of_z w64 q.x) → p.y ≡ to_z w64 (of_z w64 p.y) → q.y ≡ to_z w64 (of_z w64 q.y)
    → ◌≡◌ {A = Pt} (record { x = to_z w64 (of_z w64 (to_z w64 (of_z w64 p.x) -ℤ to_z w64 (of_z w64 q.x))); y = to_z w64 (of_z w64 (to_z w64 (of_z w64 p.y) -ℤ to_z w64 (of_z w64 q.y))) }) (minus p q)
vector_is p q h px qx py qy = same_pt _ _ (offset_is p.x q.x h.x px qx) (offset_is p.y q.y h.y py qy)
