-- Reach lengths in closed form.
use Rattle.std.proofs.Common.{◌≡◌, ◌∙◌, ◌⊎◌, inl, inr, ℕ, zero, suc, ◌+◌, ◌-◌, ◌*◌, ◌/◌, ◌≤◌, ◌<◌, refl, sym, ap, arith}
use Rattle.std.proofs.Math.Nat.{le-div_iff_mul-le}
use Rattle.std.specs.Prelude.{min}
use Rattle.spot_terms.specs.LanePolygons.{reach_length}
use Rattle.spot_terms.proofs.Orders.{below_or_at_least}
use Rattle.lane_occupancy.proofs.Paces.{reach_length-suc}

none : (speed a v : ℕ) → reach_length speed a v 0 ≡ 0
unfolding reach_length
none speed a v = refl

-- while each speed is at most v
pub risen_is : (speed a v k : ℕ) → speed + k * a ≤ v → k * speed + k * (k + 1) / 2 * a ≡ reach_length speed a v k
risen_is speed a v zero h = omega (arith, none speed a v)
risen_is speed a v (suc k) h =
    let before : k * speed + k * (k + 1) / 2 * a ≡ reach_length speed a v k = risen_is speed a v k (omega (arith, h)) in
    let half : suc k * (suc k + 1) / 2 ≡ k * (k + 1) / 2 + suc k = omega arith in
    let least : min (speed + suc k * a) v ≡ speed + suc k * a = omega (arith, h) in
    let next = reach_length-suc speed a v k in
    rw half (omega (arith, before, least, next))

-- from the tick on at which the speed would be at least v
pub capped : (speed a v m n : ℕ) → v ≤ speed + suc m * a → reach_length speed a v (m + n) ≡ reach_length speed a v m + n * v
capped speed a v m zero h = let e : m + 0 ≡ m = omega arith in rw e (omega arith)
capped speed a v m (suc n) h =
    let least : min (speed + suc (m + n) * a) v ≡ v = omega (arith, h) in
    let e : m + suc n ≡ suc (m + n) = omega arith in
    rw e (omega (arith, reach_length-suc speed a v (m + n), least, capped speed a v m n h))

pub reach_within : (speed a v k : ℕ) → reach_length speed a v k ≤ k * v
reach_within speed a v zero = omega (arith, none speed a v)
reach_within speed a v (suc k) = omega (arith, reach_length-suc speed a v k, reach_within speed a v k)

-- as the code puts it together, where the speeds rise for `rising` ticks
module _ (speed a v ticks rising risen : ℕ) (some : 1 ≤ a) (rising_is : rising ≡ min ((v - speed) / a) ticks) (risen_is : (w : ℕ) → speed + rising * a ≤ w → risen ≡ reach_length speed a w rising) where
  -- each of these speeds is at most v
  low : (r : ℕ) → r ≤ (v - speed) / a → (r ≡ 0) ⊎ (speed + r * a ≤ v)
  low zero h = inl refl
  low (suc r) h = inr (let k : suc r * a ≤ v - speed = (le-div_iff_mul-le {k = a} {x = suc r} {y = v - speed} some).0 h in omega (arith, k))

  front : risen ≡ reach_length speed a v rising
  front = elim (low rising (omega (arith, rising_is))) [
    | inr h ↦ risen_is v h
    | inl e ↦ risen_is (speed + rising * a) (omega arith) ∙ ap (reach_length speed a (speed + rising * a)) e ∙ none speed a (speed + rising * a) ∙ sym (ap (reach_length speed a v) e ∙ none speed a v)
  ]

  -- and the next is at least v, if there is one
  high : rising < ticks → v ≤ speed + suc rising * a
  high h = elim (below_or_at_least (v - speed) (suc rising * a)) [
    | inl l ↦ omega (arith, l)
    | inr l ↦ absurd (let k : suc rising ≤ (v - speed) / a = (le-div_iff_mul-le {k = a} {x = suc rising} {y = v - speed} some).1 l in omega (arith, k, rising_is, h))
  ]

  pub together : risen + (ticks - rising) * v ≡ reach_length speed a v ticks
  together = elim (below_or_at_least rising ticks) [
    | inl h ↦ rw front (sym (ap (reach_length speed a v) (let e : ticks ≡ rising + (ticks - rising) = omega (arith, h) in e) ∙ capped speed a v rising (ticks - rising) (high h)))
    | inr h ↦ (let same : ticks ≡ rising = omega (arith, h, rising_is) in let rest : (ticks - rising) * v ≡ 0 = (let z : ticks - rising ≡ 0 = omega (arith, h) in ap (λ n. n * v) z ∙ (let w : 0 * v ≡ 0 = omega arith in w)) in omega (arith, rest, front, ap (reach_length speed a v) same))
  ]
