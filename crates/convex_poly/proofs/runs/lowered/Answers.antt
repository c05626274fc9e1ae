use Rattle.std.proofs.Common.{◌≡◌, ◌∙◌, ◌<ℤ◌, ◌≤ℤ◌, ◌+ℤ◌, ◌-ℤ◌, ◌*ℤ◌, arith, to_z, of_z, w64, IsTrue, true, false, subst, sym, ap, to_z-of_z, FitsSigned}
use Rattle.std.specs.Int.{w128}
use Rattle.std.proofs.lemmas.Int.{ints, by_lt_z}
use Rattle.convex_poly.specs.Runs.{IsSpanOf, IsQuotient}
use Rattle.convex_poly.proofs.Wide.{plus_is, small_back, between_back}
use Rattle.convex_poly.proofs.RunSteps.{IsLowered, lowered_keep, lowered_below, lowered_cut, lowered_none}
use Rattle.convex_poly.proofs.runs.lowered.Goals as goal

pub returns-then-has_room : goal.returns-then-has_room
returns-then-has_room c =
    let rise : FitsSigned w64 c.args.rise = c.ranges.rise in
    let room : FitsSigned w128 c.args.room = c.ranges.room in
    let from : FitsSigned w64 c.args.from = c.ranges.from in
    let end : FitsSigned w64 c.args.span.1 = omega (arith, ints, c.requires.span.last) in
    let test : (IsTrue c.has_room.result → (c.args.rise *ℤ (c.args.span.1 -ℤ c.args.from)) ≤ℤ c.args.room) × ((c.args.rise *ℤ (c.args.span.1 -ℤ c.args.from)) ≤ℤ c.args.room → IsTrue c.has_room.result) = simp to_z-of_z at c.has_room.ensures in
    lowered_keep c.args.span.0 c.args.span.1 c.args.from c.args.room c.args.rise c.requires.span.ordered c.requires.rise (test.0 c.if-has_room.true)

pub overflow_add-last : goal.overflow_add-last
overflow_add-last c = let small = c.quotient.ensures.within in let f = c.from.ensures in let g = c.requires.from in omega (arith, ints)

pub overflow_cast-result : goal.overflow_cast-result
overflow_cast-result c =
    let rise : FitsSigned w64 c.args.rise = c.ranges.rise in
    let room : FitsSigned w128 c.args.room = c.ranges.room in
    let from : FitsSigned w64 c.args.from = c.ranges.from in
    let end : FitsSigned w64 c.args.span.1 = omega (arith, ints, c.requires.span.last) in
    let test : (IsTrue c.has_room.result → (c.args.rise *ℤ (c.args.span.1 -ℤ c.args.from)) ≤ℤ c.args.room) × ((c.args.rise *ℤ (c.args.span.1 -ℤ c.args.from)) ≤ℤ c.args.room → IsTrue c.has_room.result) = simp to_z-of_z at c.has_room.ensures in
    let cut : IsQuotient c.args.room c.args.rise c.quotient.result = simp to_z-of_z at c.quotient.ensures.value in
    let past : c.args.room <ℤ (c.args.rise *ℤ (c.args.span.1 -ℤ c.args.from)) = by_lt_z c.args.room (c.args.rise *ℤ (c.args.span.1 -ℤ c.args.from)) (λ l. l) (λ l. absurd (let yes : c.has_room.result ≡ true = test.1 l in let no : c.has_room.result ≡ false = c.if-has_room.false in cc)) in
    let is : to_z w128 (of_z w128 (to_z w128 (of_z w128 c.from.result) +ℤ to_z w128 (of_z w128 c.quotient.result))) ≡ c.args.from +ℤ c.quotient.result = plus_is c.from.result c.quotient.result c.args.from c.requires.from c.quotient.ensures.within (c.from.ensures ∙ small_back c.args.from (omega (arith, c.requires.from))) in
    let other : c.from-2.result ≡ c.args.span.0 = c.from-2.ensures ∙ small_back c.args.span.0 (omega (arith, c.requires.span.first)) in
    let t = c.if-last-from.false in
    let inside : (c.args.from +ℤ c.quotient.result) <ℤ c.args.span.1 = lowered_below c.args.span.1 c.args.from c.args.room c.args.rise c.quotient.result c.requires.rise cut past in
    let here : c.args.span.0 ≤ℤ (c.args.from +ℤ c.quotient.result) = omega (arith, ints) in
    let one = c.requires.span.first in let two = c.requires.span.last in
    omega (arith, ints)

pub returns-then-last-from : goal.returns-then-last-from
returns-then-last-from c =
    let rise : FitsSigned w64 c.args.rise = c.ranges.rise in
    let room : FitsSigned w128 c.args.room = c.ranges.room in
    let from : FitsSigned w64 c.args.from = c.ranges.from in
    let end : FitsSigned w64 c.args.span.1 = omega (arith, ints, c.requires.span.last) in
    let test : (IsTrue c.has_room.result → (c.args.rise *ℤ (c.args.span.1 -ℤ c.args.from)) ≤ℤ c.args.room) × ((c.args.rise *ℤ (c.args.span.1 -ℤ c.args.from)) ≤ℤ c.args.room → IsTrue c.has_room.result) = simp to_z-of_z at c.has_room.ensures in
    let cut : IsQuotient c.args.room c.args.rise c.quotient.result = simp to_z-of_z at c.quotient.ensures.value in
    let past : c.args.room <ℤ (c.args.rise *ℤ (c.args.span.1 -ℤ c.args.from)) = by_lt_z c.args.room (c.args.rise *ℤ (c.args.span.1 -ℤ c.args.from)) (λ l. l) (λ l. absurd (let yes : c.has_room.result ≡ true = test.1 l in let no : c.has_room.result ≡ false = c.if-has_room.false in cc)) in
    let is : to_z w128 (of_z w128 (to_z w128 (of_z w128 c.from.result) +ℤ to_z w128 (of_z w128 c.quotient.result))) ≡ c.args.from +ℤ c.quotient.result = plus_is c.from.result c.quotient.result c.args.from c.requires.from c.quotient.ensures.within (c.from.ensures ∙ small_back c.args.from (omega (arith, c.requires.from))) in
    let other : c.from-2.result ≡ c.args.span.0 = c.from-2.ensures ∙ small_back c.args.span.0 (omega (arith, c.requires.span.first)) in
    let t = c.if-last-from.true in
    let gone : (c.args.from +ℤ c.quotient.result) <ℤ c.args.span.0 = omega (arith, ints) in
    lowered_none c.args.span.0 c.args.span.1 c.args.from c.args.room c.args.rise c.quotient.result c.requires.rise cut gone

pub returns-else-last-from : goal.returns-else-last-from
returns-else-last-from c =
    let rise : FitsSigned w64 c.args.rise = c.ranges.rise in
    let room : FitsSigned w128 c.args.room = c.ranges.room in
    let from : FitsSigned w64 c.args.from = c.ranges.from in
    let end : FitsSigned w64 c.args.span.1 = omega (arith, ints, c.requires.span.last) in
    let test : (IsTrue c.has_room.result → (c.args.rise *ℤ (c.args.span.1 -ℤ c.args.from)) ≤ℤ c.args.room) × ((c.args.rise *ℤ (c.args.span.1 -ℤ c.args.from)) ≤ℤ c.args.room → IsTrue c.has_room.result) = simp to_z-of_z at c.has_room.ensures in
    let cut : IsQuotient c.args.room c.args.rise c.quotient.result = simp to_z-of_z at c.quotient.ensures.value in
    let past : c.args.room <ℤ (c.args.rise *ℤ (c.args.span.1 -ℤ c.args.from)) = by_lt_z c.args.room (c.args.rise *ℤ (c.args.span.1 -ℤ c.args.from)) (λ l. l) (λ l. absurd (let yes : c.has_room.result ≡ true = test.1 l in let no : c.has_room.result ≡ false = c.if-has_room.false in cc)) in
    let is : to_z w128 (of_z w128 (to_z w128 (of_z w128 c.from.result) +ℤ to_z w128 (of_z w128 c.quotient.result))) ≡ c.args.from +ℤ c.quotient.result = plus_is c.from.result c.quotient.result c.args.from c.requires.from c.quotient.ensures.within (c.from.ensures ∙ small_back c.args.from (omega (arith, c.requires.from))) in
    let other : c.from-2.result ≡ c.args.span.0 = c.from-2.ensures ∙ small_back c.args.span.0 (omega (arith, c.requires.span.first)) in
    let t = c.if-last-from.false in
    let inside : (c.args.from +ℤ c.quotient.result) <ℤ c.args.span.1 = lowered_below c.args.span.1 c.args.from c.args.room c.args.rise c.quotient.result c.requires.rise cut past in
    let here : c.args.span.0 ≤ℤ (c.args.from +ℤ c.quotient.result) = omega (arith, ints) in
    let first : to_z w64 (of_z w64 c.args.span.0) ≡ c.args.span.0 = small_back c.args.span.0 (omega (arith, c.requires.span.first)) in
    let last : to_z w64 (of_z w64 (to_z w128 (of_z w128 (to_z w128 (of_z w128 c.from.result) +ℤ to_z w128 (of_z w128 c.quotient.result))))) ≡ c.args.from +ℤ c.quotient.result = ap (λ z. to_z w64 (of_z w64 z)) is ∙ between_back (c.args.from +ℤ c.quotient.result) c.args.span.0 c.args.span.1 c.requires.span.first c.requires.span.last here inside in
    subst (λ z. IsSpanOf (IsLowered c.args.span.0 c.args.span.1 c.args.from c.args.room c.args.rise) (z, to_z w64 (of_z w64 (to_z w128 (of_z w128 (to_z w128 (of_z w128 c.from.result) +ℤ to_z w128 (of_z w128 c.quotient.result))))))) (sym first)
    (lowered_cut c.args.span.0 c.args.span.1 c.args.from c.args.room c.args.rise c.quotient.result (to_z w64 (of_z w64 (to_z w128 (of_z w128 (to_z w128 (of_z w128 c.from.result) +ℤ to_z w128 (of_z w128 c.quotient.result)))))) c.requires.rise cut past last (subst (λ z. c.args.span.0 ≤ℤ z) (sym last) here))
