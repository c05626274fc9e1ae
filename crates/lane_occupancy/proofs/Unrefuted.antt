-- What can't be refuted: a greatest and a least number of a kind. A gap or a route isn't computed here, and what follows
-- from it is an order of numbers, which holds where it can't be refuted.
use Rattle.std.proofs.Common.{◌≡◌, ℕ, zero, suc, ◌+◌, ◌≤◌, ◌<◌, arith, sym, subst}
use Rattle.spot_terms.specs.Bodies.{IsLeast, IsGreatest}

abbrev pub Unrefuted : Type 0 → Type 0
Unrefuted P = (P → ⊥) → ⊥

-- a bounded kind of numbers that 0 is of has a greatest one
pub greatest_of : (P : ℕ → Type 0) (bound : ℕ) → P 0 → ((w : ℕ) → P w → w ≤ bound) → Unrefuted ((w : ℕ) × IsGreatest P w)
greatest_of P zero h k refuse = refuse (0, record { holds = h; greatest = k })
greatest_of P (suc bound) h k refuse = greatest_of P bound h below refuse
  where
    last : (w : ℕ) → P w → w ≡ suc bound → ⊥
    last w g e = refuse (w, record { holds = g; greatest = λ q i. subst (λ x. q ≤ x) (sym e) (k q i) })

    below : (w : ℕ) → P w → w ≤ bound
    below w g = let e : w ≡ suc bound → ⊥ = last w g in let l : w ≤ suc bound = k w g in omega arith

-- a kind of numbers that some number is of has a least one
pub least_of : (P : ℕ → Type 0) (n : ℕ) → P n → Unrefuted ((l : ℕ) × IsLeast P l × (l ≤ n))
least_of P n h refuse = none_below (n + 1) (omega arith) n (omega arith) h
  where
    none_below : (k : ℕ) → k ≤ n + 1 → (m : ℕ) → m < k → P m → ⊥
    none_below zero e m less g = absurd (omega arith)
    none_below (suc k) e m less g = refuse (m, record { holds = g; least = λ q i. above q (λ l. none_below k (omega arith) q (omega arith) i) }, omega arith)
      where
        above : (q : ℕ) → (q < m → ⊥) → m ≤ q
        above q f = omega arith

-- an order of numbers holds where it can't be refuted
pub stable : (n m : ℕ) → Unrefuted (n ≤ m) → n ≤ m
stable zero m h = omega arith
stable (suc n) zero h = absurd (h (λ k. omega arith))
stable (suc n) (suc m) h = let k : n ≤ m = stable n m (λ f. h (λ g. f (omega arith))) in omega arith
