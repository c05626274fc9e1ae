-- The box holds every start velocity.
use Rattle.std.proofs.Common.{◌≡◌, ℕ, suc, ◌*◌, ◌^◌, ◌≤◌, arith, ℤ, pos, negsuc, nat_abs, false, int_lt}
use Rattle.std.proofs.lemmas.Int.{ints}
use Rattle.spot_terms.specs.Directions.{IsStartVelocity, cosine, sine, rough_cosine, rough_sine, least_speed, greatest_speed, start_box}
use Rattle.spot_terms.specs.Motions.{InBox}
use Rattle.spot_terms.specs.declared.plain.VBox.{VBox}
use Rattle.heading.proofs.Sums.{IsSumOf, cosine_sum, sine_sum, polynomial-negative}
use Rattle.heading.proofs.Covers.{opposite, least_covers, greatest_covers}
use Rattle.heading.proofs.Bounds.{wider}

pub cosine_near : (t : ℤ) → nat_abs t ≤ 7 * 10 ^ 6 → IsSumOf (rough_cosine t) (cosine t) 231
cosine_near t h = cosine_sum t 20 h (omega arith)

not_below : (a : ℕ) → int_lt (pos a) (pos 0) ≡ false
not_below a = grind (arith, ints)

pub sine_near : (t : ℤ) → nat_abs t ≤ 7 * 10 ^ 6 → IsSumOf (rough_sine t) (sine t) 231
sine_near (pos a) h = rw (not_below a) (wider _ _ (11 * 20) 231 (omega arith) (sine_sum a 19 h (omega arith)))
sine_near (negsuc a) h = rw (polynomial-negative a 19) (opposite _ _ 231 (wider _ _ (11 * 20) 231 (omega arith) (sine_sum (suc a) 19 h (omega arith))))

pub box_holds : (s t vx vy : ℤ) → nat_abs s ≤ 200_000 → nat_abs t ≤ 7_000_000 → IsStartVelocity s t vx vy → InBox (start_box s t) (record { x = vx; y = vy })
unfolding start_box
box_holds s t vx vy h g v = record {
  x = record {
    low = least_covers vx s (rough_cosine t) (cosine t) h (cosine_near t g) v.x;
    high = greatest_covers vx s (rough_cosine t) (cosine t) h (cosine_near t g) v.x;
  };
  y = record {
    low = least_covers vy s (rough_sine t) (sine t) h (sine_near t g) v.y;
    high = greatest_covers vy s (rough_sine t) (sine t) h (sine_near t g) v.y;
  };
}

-- the ends of its two sides make the box
pub box_is : (s t xlo xhi ylo yhi : ℤ) → xlo ≡ least_speed s (rough_cosine t) → xhi ≡ greatest_speed s (rough_cosine t) → ylo ≡ least_speed s (rough_sine t) → yhi ≡ greatest_speed s (rough_sine t) → ◌≡◌ {A = VBox} (record { xlo = xlo; xhi = xhi; ylo = ylo; yhi = yhi }) (start_box s t)
unfolding start_box
box_is s t xlo xhi ylo yhi a b d e = cc
