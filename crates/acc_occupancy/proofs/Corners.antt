-- The corner of a box that lies farthest along a normal.
use Rattle.std.proofs.Common.{◌≡◌, ◌⊎◌, ℕ, zero, suc, ◌<◌, ◌≤◌, arith, ℤ, ◌+ℤ◌, ◌*ℤ◌}
use Rattle.std.proofs.lemmas.Int.{ints, clamps}
use Rattle.std.specs.Int.{int_max}
use Rattle.spot_terms.specs.Ranges.{IsBoxWithin}
use Rattle.spot_terms.specs.Reach.{normal_at, along, box_number}
use Rattle.spot_terms.specs.declared.plain.VBox.{VBox}

-- a fact of each number below 8
each_number : (P : ℕ → Type 0) → P 0 → P 1 → P 2 → P 3 → P 4 → P 5 → P 6 → P 7 → (n : ℕ) → n < 8 → P n
each_number P a b c d e f g h zero l = a
each_number P a b c d e f g h (suc zero) l = b
each_number P a b c d e f g h (suc (suc zero)) l = c
each_number P a b c d e f g h (suc (suc (suc zero))) l = d
each_number P a b c d e f g h (suc (suc (suc (suc zero)))) l = e
each_number P a b c d e f g h (suc (suc (suc (suc (suc zero))))) l = f
each_number P a b c d e f g h (suc (suc (suc (suc (suc (suc zero)))))) l = g
each_number P a b c d e f g h (suc (suc (suc (suc (suc (suc (suc zero))))))) l = h
each_number P a b c d e f g h (suc (suc (suc (suc (suc (suc (suc (suc n)))))))) l = absurd (omega (arith, l))

pub farthest_corner : (b : VBox) (m : ℕ) (x y : ℤ) (n : ℕ) → n < 8 → IsBoxWithin m b → (((3 ≤ n) × (n ≤ 5)) × (x ≡ b.xlo)) ⊎ (((n < 3) ⊎ (5 < n)) × (x ≡ b.xhi)) → ((5 ≤ n) × (y ≡ b.ylo)) ⊎ ((n < 5) × (y ≡ b.yhi)) → along (normal_at n) (record { x = x; y = y }) ≡ box_number (normal_at n) b
unfolding box_number
farthest_corner b m x y n l r p q =
    let order_x = r.x_ordered in
    let order_y = r.y_ordered in
    let P : ℕ → Type 0 = λ k. (((3 ≤ k) × (k ≤ 5)) × (x ≡ b.xlo)) ⊎ (((k < 3) ⊎ (5 < k)) × (x ≡ b.xhi)) → ((5 ≤ k) × (y ≡ b.ylo)) ⊎ ((k < 5) × (y ≡ b.yhi)) → (normal_at k).0 *ℤ x +ℤ (normal_at k).1 *ℤ y ≡ int_max ((normal_at k).0 *ℤ b.xlo) ((normal_at k).0 *ℤ b.xhi) +ℤ int_max ((normal_at k).1 *ℤ b.ylo) ((normal_at k).1 *ℤ b.yhi) in
    each_number P
    (λ u v. omega (arith, ints, clamps)) (λ u v. omega (arith, ints, clamps)) (λ u v. omega (arith, ints, clamps)) (λ u v. omega (arith, ints, clamps)) (λ u v. omega (arith, ints, clamps)) (λ u v. omega (arith, ints, clamps)) (λ u v. omega (arith, ints, clamps)) (λ u v. omega (arith, ints, clamps)) n l p q
