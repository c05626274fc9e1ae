use Rattle.std.proofs.Common.{◌≡◌, ℕ, ◌+◌, ◌*◌, ◌==◌, true, false, arith}
use Rattle.std.proofs.lemmas.Bool.Decides.{nat_tests}
use Rattle.spot_terms.specs.Whole.{root_floor, root_ceiling}
use Rattle.spot_num.proofs.isqrt_ceil.Goals as goal

exact : (n r : ℕ) → r ≡ root_floor n → r * r ≡ n → r ≡ root_ceiling n
unfolding root_ceiling
exact n r e same =
    let test : ((root_floor n * root_floor n) == n) ≡ true = rw (← e) (grind (arith, nat_tests)) in
    rw test e

above : (n r : ℕ) → r ≡ root_floor n → ¬ (r * r ≡ n) → r + 1 ≡ root_ceiling n
unfolding root_ceiling
above n r e other =
    let test : ((root_floor n * root_floor n) == n) ≡ false = rw (← e) (grind (arith, nat_tests)) in
    rw test (omega arith)

pub returns-then-wide-n-clause-value : goal.returns-then-wide-n-clause-value
returns-then-wide-n-clause-value c = exact _ _ c.isqrt_floor-root.ensures.value c.if-wide-n.true

pub returns-else-wide-n-clause-value : goal.returns-else-wide-n-clause-value
returns-else-wide-n-clause-value c = above _ _ c.isqrt_floor-root.ensures.value c.if-wide-n.false
