use Rattle.std.proofs.Common.{◌≡◌, ◌∙◌, ◌≤◌, ℤ, pos, ◌+ℤ◌, ◌-ℤ◌, ◌<ℤ◌, sym, subst, to_z, of_z, w64, to_z-of_z, arith, FitsSigned, ap}
use Rattle.std.specs.Prelude.{nat_abs}
use Rattle.std.specs.Int.{int_div_euclid}
use Rattle.std.proofs.lemmas.Int.{ints}
use lib.Signed.{◌≤ℤ◌}
use Rattle.spot_terms.specs.Whole.{Within, quotient_floor, count_between}
use Rattle.spot_terms.proofs.Quotients.{int_div_euclid-floor}
use Rattle.base_sets.proofs.Slots.{AreSlots, slots_are, count_is}
use Rattle.base_sets.proofs.grid.slots_met.Goals as goal
use Rattle.base_sets.proofs.grid.slots_met.Goals.{After-div_euclid-2}

quotient : (a b r a' b' : ℤ) → pos 0 <ℤ b → a' ≡ a → b' ≡ b → r ≡ int_div_euclid a' b' → r ≡ quotient_floor a b
quotient a b r a' b' some e f h = h ∙ ap (λ (z : ℤ). int_div_euclid z b') e ∙ ap (λ (z : ℤ). int_div_euclid a z) f ∙ int_div_euclid-floor a b some

positive : (w : ℤ) → Within (pos 100_000) (pos 100_000_000) w → pos 0 <ℤ w
positive w h = omega (arith, ints, h.low)

last : (c : After-div_euclid-2) → c.div_euclid.result ≡ quotient_floor c.args.hi c.args.width
last c = quotient c.args.hi c.args.width c.div_euclid.result _ _ (positive c.args.width c.requires.width) (to_z-of_z c.ranges.hi) (to_z-of_z c.ranges.width) c.div_euclid.ensures

first : (c : After-div_euclid-2) → c.div_euclid-2.result ≡ quotient_floor c.args.lo c.args.width
first c = quotient c.args.lo c.args.width c.div_euclid-2.result _ _ (positive c.args.width c.requires.width) (to_z-of_z c.ranges.lo) (to_z-of_z c.ranges.width) c.div_euclid-2.ensures

slots : (c : After-div_euclid-2) → AreSlots c.div_euclid.result c.div_euclid-2.result
slots c =
    subst (λ z. AreSlots z c.div_euclid-2.result) (sym (last c))
    (subst (λ z. AreSlots (quotient_floor c.args.hi c.args.width) z) (sym (first c)) (slots_are c.args.width c.args.lo c.args.hi c.requires.width c.requires.order c.requires.low c.requires.high))

number : (p q : ℤ) → AreSlots p q → to_z w64 (of_z w64 (to_z w64 (of_z w64 (to_z w64 (of_z w64 p) -ℤ to_z w64 (of_z w64 q))) +ℤ pos 1)) ≡ p -ℤ q +ℤ pos 1
number p q h = omega (arith, ints, h.low, h.high)

fits : (p q : ℤ) → AreSlots p q → FitsSigned w64 (to_z w64 (of_z w64 (to_z w64 (of_z w64 p) -ℤ to_z w64 (of_z w64 q))) +ℤ pos 1)
fits p q h = omega (arith, ints, h.low, h.high)

few : (p q : ℤ) → AreSlots p q → nat_abs (p -ℤ q +ℤ pos 1) ≤ 1_000_000_000
few p q h = omega (arith, ints, h.low, h.high)

some : (p q : ℤ) → AreSlots p q → pos 0 ≤ℤ (p -ℤ q +ℤ pos 1)
some p q h = omega (arith, ints, h.order)

pub overflow_add-result : goal.overflow_add-result
overflow_add-result c = fits c.div_euclid.result c.div_euclid-2.result (slots c)

pub overflow_cast-result : goal.overflow_cast-result
overflow_cast-result c =
    let p = some c.div_euclid.result c.div_euclid-2.result (slots c) in
    let m = few c.div_euclid.result c.div_euclid-2.result (slots c) in
    rw (number c.div_euclid.result c.div_euclid-2.result (slots c)) (search (p, m, arith, ints))

pub returns-clause-value : goal.returns-clause-value
returns-clause-value c =
    rw (number c.div_euclid.result c.div_euclid-2.result (slots c))
    (count_is c.div_euclid.result c.div_euclid-2.result (slots c).order ∙ ap (λ (z : ℤ). count_between z c.div_euclid.result) (first c) ∙ ap (λ (z : ℤ). count_between (quotient_floor c.args.lo c.args.width) z) (last c))

pub returns-clause-few : goal.returns-clause-few
returns-clause-few c = rw (number c.div_euclid.result c.div_euclid-2.result (slots c)) (few c.div_euclid.result c.div_euclid-2.result (slots c))
