-- A point beside a crossing, rounded down or up, is past a bound of both ends of the edge by less than the size of the
-- factor of what was rounded.
use Rattle.std.proofs.Common.{◌≡◌, ◌∙◌, ℕ, ◌+◌, ◌-◌, ◌*◌, ◌≤◌, ◌<◌, arith, refl, sym, subst, List, [], ◌∷◌}
use Rattle.std.specs.Prelude.{nat_abs}
use Rattle.std.proofs.lemmas.Int.{ints, unsigned_abs-mul}
use lib.IntN.{ℤ, pos, ◌+ℤ◌, ◌-ℤ◌, ◌*ℤ◌}
use lib.Signed.{◌≤ℤ◌, ◌<ℤ◌}
use Rattle.spot_terms.proofs.Orders.{product_not_negative}
use Rattle.spot_terms.proofs.Quotients.{below_factor}
use Rattle.spot_terms.proofs.Ring.{ring, var, num, ◌⊕◌, ◌⊖◌, ◌⊗◌}

-- d · (n · (c, y)) by the two ends a and b, t of d from a, and the rest that was rounded
value_is : (n1 n2 ax ay bx by c y : ℤ) → (bx -ℤ ax) *ℤ (n1 *ℤ c +ℤ n2 *ℤ y) ≡ ((bx -ℤ c) *ℤ (n1 *ℤ ax +ℤ n2 *ℤ ay) +ℤ (c -ℤ ax) *ℤ (n1 *ℤ bx +ℤ n2 *ℤ by)) +ℤ n2 *ℤ ((bx -ℤ ax) *ℤ (y -ℤ ay) -ℤ (by -ℤ ay) *ℤ (c -ℤ ax))
value_is n1 n2 ax ay bx by c y =
    ring (n1 ∷ n2 ∷ ax ∷ ay ∷ bx ∷ by ∷ c ∷ y ∷ [])
    ((var 4 ⊖ var 2) ⊗ ((var 0 ⊗ var 6) ⊕ (var 1 ⊗ var 7)))
    ((((var 4 ⊖ var 6) ⊗ ((var 0 ⊗ var 2) ⊕ (var 1 ⊗ var 3))) ⊕ ((var 6 ⊖ var 2) ⊗ ((var 0 ⊗ var 4) ⊕ (var 1 ⊗ var 5)))) ⊕ (var 1 ⊗ (((var 4 ⊖ var 2) ⊗ (var 7 ⊖ var 3)) ⊖ ((var 5 ⊖ var 3) ⊗ (var 6 ⊖ var 2))))) refl

le_times : (a b m n : ℕ) → a ≤ m → b ≤ n → a * b ≤ m * n
le_times a b m n h k = grind arith

rest_small : (n2 e : ℤ) (k d : ℕ) → nat_abs n2 ≤ k → nat_abs e ≤ d → (n2 *ℤ e) ≤ℤ pos (k * d)
rest_small n2 e k d h g = let both : nat_abs (n2 *ℤ e) ≤ k * d = rw (unsigned_abs-mul n2 e) (le_times (nat_abs n2) (nat_abs e) k d h g) in omega (arith, ints, both)

-- a part of the way times what is below the bound
below : (t s z : ℤ) → pos 0 ≤ℤ t → z ≤ℤ s → (t *ℤ z) ≤ℤ (t *ℤ s)
below t s z h g =
    let p : pos 0 ≤ℤ (t *ℤ (s -ℤ z)) = product_not_negative t (s -ℤ z) h (omega (arith, ints)) in
    let e : t *ℤ (s -ℤ z) ≡ t *ℤ s -ℤ t *ℤ z = ring (t ∷ s ∷ z ∷ []) (var 0 ⊗ (var 1 ⊖ var 2)) ((var 0 ⊗ var 1) ⊖ (var 0 ⊗ var 2)) refl in
    omega (arith, ints, p, e)

parts : (ax bx c s : ℤ) → (bx -ℤ c) *ℤ s +ℤ (c -ℤ ax) *ℤ s ≡ s *ℤ (bx -ℤ ax)
parts ax bx c s = ring (ax ∷ bx ∷ c ∷ s ∷ []) (((var 1 ⊖ var 2) ⊗ var 3) ⊕ ((var 2 ⊖ var 0) ⊗ var 3)) (var 3 ⊗ (var 1 ⊖ var 0)) refl

-- the place (c, y) beside the crossing of the edge from a to b with x = c: y is rounded down or up, so that the rest is
-- below the way in size
pub crossing_growth : (n1 n2 ax ay bx by c y s : ℤ) (k d : ℕ) → bx -ℤ ax ≡ pos (d + 1) → ax ≤ℤ c → c ≤ℤ bx
    → nat_abs ((bx -ℤ ax) *ℤ (y -ℤ ay) -ℤ (by -ℤ ay) *ℤ (c -ℤ ax)) ≤ d → nat_abs n2 ≤ k → 0 < k
    → (n1 *ℤ ax +ℤ n2 *ℤ ay) ≤ℤ s → (n1 *ℤ bx +ℤ n2 *ℤ by) ≤ℤ s → (n1 *ℤ c +ℤ n2 *ℤ y) <ℤ (s +ℤ pos k)
crossing_growth n1 n2 ax ay bx by c y s k d wide from to rounded factor some a b =
    let first = below (bx -ℤ c) s (n1 *ℤ ax +ℤ n2 *ℤ ay) (omega (arith, ints)) a in
    let second = below (c -ℤ ax) s (n1 *ℤ bx +ℤ n2 *ℤ by) (omega (arith, ints)) b in
    let rest = rest_small n2 ((bx -ℤ ax) *ℤ (y -ℤ ay) -ℤ (by -ℤ ay) *ℤ (c -ℤ ax)) k d factor rounded in
    below_factor (n1 *ℤ c +ℤ n2 *ℤ y) (s +ℤ pos k) (pos (d + 1)) (omega (arith, ints))
    (subst (λ w. ((n1 *ℤ c +ℤ n2 *ℤ y) *ℤ w) <ℤ ((s +ℤ pos k) *ℤ w)) wide
    (sum (n1 *ℤ c +ℤ n2 *ℤ y) s (bx -ℤ ax) _ _ _ _ _ k d wide some (turn (bx -ℤ ax) (n1 *ℤ c +ℤ n2 *ℤ y) ∙ value_is n1 n2 ax ay bx by c y) first second rest (parts ax bx c s)))
  where
    turn : (p q : ℤ) → q *ℤ p ≡ p *ℤ q
    turn p q = ring (p ∷ q ∷ []) (var 1 ⊗ var 0) (var 0 ⊗ var 1) refl

    more : (s w : ℤ) (k d : ℕ) → w ≡ pos (d + 1) → (s +ℤ pos k) *ℤ w ≡ s *ℤ w +ℤ pos (k * d + k)
    more s w k d e = ring (s ∷ w ∷ pos k ∷ []) ((var 0 ⊕ var 2) ⊗ var 1) ((var 0 ⊗ var 1) ⊕ (var 2 ⊗ var 1)) refl ∙ rw e (omega (arith, ints))

    sum : (v s w p q p' q' r : ℤ) (k d : ℕ) → w ≡ pos (d + 1) → 0 < k → v *ℤ w ≡ (p +ℤ q) +ℤ r → p ≤ℤ p' → q ≤ℤ q' → r ≤ℤ pos (k * d) → p' +ℤ q' ≡ s *ℤ w → (v *ℤ w) <ℤ ((s +ℤ pos k) *ℤ w)
    sum v s w p q p' q' r k d e some f h g l t = let m = more s w k d e in omega (arith, ints, m)
