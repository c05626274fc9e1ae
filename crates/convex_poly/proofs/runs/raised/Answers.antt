use Rattle.std.proofs.Common.{◌≡◌, ◌∙◌, ◌<ℤ◌, ◌≤ℤ◌, ◌-ℤ◌, ◌*ℤ◌, arith, to_z, of_z, w64, IsTrue, true, false, subst, sym, ap, to_z-of_z, FitsSigned}
use Rattle.std.specs.Int.{w128}
use Rattle.std.proofs.lemmas.Int.{ints, by_lt_z}
use Rattle.convex_poly.specs.Runs.{IsSpanOf, IsQuotient}
use Rattle.convex_poly.proofs.Wide.{minus_is, small_back, between_back_up}
use Rattle.convex_poly.proofs.RunSteps.{IsRaised, raised_keep, raised_above, raised_cut, raised_none}
use Rattle.convex_poly.proofs.runs.raised.Goals as goal

pub returns-then-has_room : goal.returns-then-has_room
returns-then-has_room c =
    let fall : FitsSigned w64 c.args.fall = c.ranges.fall in
    let room : FitsSigned w128 c.args.room = c.ranges.room in
    let from : FitsSigned w64 c.args.from = c.ranges.from in
    let end : FitsSigned w64 c.args.span.0 = omega (arith, ints, c.requires.span.first) in
    let test : (IsTrue c.has_room.result → (c.args.fall *ℤ (c.args.from -ℤ c.args.span.0)) ≤ℤ c.args.room) × ((c.args.fall *ℤ (c.args.from -ℤ c.args.span.0)) ≤ℤ c.args.room → IsTrue c.has_room.result) = simp to_z-of_z at c.has_room.ensures in
    raised_keep c.args.span.0 c.args.span.1 c.args.from c.args.room c.args.fall c.requires.span.ordered c.requires.fall (test.0 c.if-has_room.true)

pub overflow_sub-first : goal.overflow_sub-first
overflow_sub-first c = let small = c.quotient.ensures.within in let f = c.from.ensures in let g = c.requires.from in omega (arith, ints)

pub overflow_cast-result : goal.overflow_cast-result
overflow_cast-result c =
    let fall : FitsSigned w64 c.args.fall = c.ranges.fall in
    let room : FitsSigned w128 c.args.room = c.ranges.room in
    let from : FitsSigned w64 c.args.from = c.ranges.from in
    let end : FitsSigned w64 c.args.span.0 = omega (arith, ints, c.requires.span.first) in
    let test : (IsTrue c.has_room.result → (c.args.fall *ℤ (c.args.from -ℤ c.args.span.0)) ≤ℤ c.args.room) × ((c.args.fall *ℤ (c.args.from -ℤ c.args.span.0)) ≤ℤ c.args.room → IsTrue c.has_room.result) = simp to_z-of_z at c.has_room.ensures in
    let cut : IsQuotient c.args.room c.args.fall c.quotient.result = simp to_z-of_z at c.quotient.ensures.value in
    let past : c.args.room <ℤ (c.args.fall *ℤ (c.args.from -ℤ c.args.span.0)) = by_lt_z c.args.room (c.args.fall *ℤ (c.args.from -ℤ c.args.span.0)) (λ l. l) (λ l. absurd (let yes : c.has_room.result ≡ true = test.1 l in let no : c.has_room.result ≡ false = c.if-has_room.false in cc)) in
    let is : to_z w128 (of_z w128 (to_z w128 (of_z w128 c.from.result) -ℤ to_z w128 (of_z w128 c.quotient.result))) ≡ c.args.from -ℤ c.quotient.result = minus_is c.from.result c.quotient.result c.args.from c.requires.from c.quotient.ensures.within (c.from.ensures ∙ small_back c.args.from (omega (arith, c.requires.from))) in
    let other : c.from-2.result ≡ c.args.span.1 = c.from-2.ensures ∙ small_back c.args.span.1 (omega (arith, c.requires.span.last)) in
    let t = c.if-first-from.false in
    let inside : c.args.span.0 <ℤ (c.args.from -ℤ c.quotient.result) = raised_above c.args.span.0 c.args.from c.args.room c.args.fall c.quotient.result c.requires.fall cut past in
    let here : (c.args.from -ℤ c.quotient.result) ≤ℤ c.args.span.1 = omega (arith, ints) in
    let one = c.requires.span.first in let two = c.requires.span.last in
    omega (arith, ints)

pub returns-then-first-from : goal.returns-then-first-from
returns-then-first-from c =
    let fall : FitsSigned w64 c.args.fall = c.ranges.fall in
    let room : FitsSigned w128 c.args.room = c.ranges.room in
    let from : FitsSigned w64 c.args.from = c.ranges.from in
    let end : FitsSigned w64 c.args.span.0 = omega (arith, ints, c.requires.span.first) in
    let test : (IsTrue c.has_room.result → (c.args.fall *ℤ (c.args.from -ℤ c.args.span.0)) ≤ℤ c.args.room) × ((c.args.fall *ℤ (c.args.from -ℤ c.args.span.0)) ≤ℤ c.args.room → IsTrue c.has_room.result) = simp to_z-of_z at c.has_room.ensures in
    let cut : IsQuotient c.args.room c.args.fall c.quotient.result = simp to_z-of_z at c.quotient.ensures.value in
    let past : c.args.room <ℤ (c.args.fall *ℤ (c.args.from -ℤ c.args.span.0)) = by_lt_z c.args.room (c.args.fall *ℤ (c.args.from -ℤ c.args.span.0)) (λ l. l) (λ l. absurd (let yes : c.has_room.result ≡ true = test.1 l in let no : c.has_room.result ≡ false = c.if-has_room.false in cc)) in
    let is : to_z w128 (of_z w128 (to_z w128 (of_z w128 c.from.result) -ℤ to_z w128 (of_z w128 c.quotient.result))) ≡ c.args.from -ℤ c.quotient.result = minus_is c.from.result c.quotient.result c.args.from c.requires.from c.quotient.ensures.within (c.from.ensures ∙ small_back c.args.from (omega (arith, c.requires.from))) in
    let other : c.from-2.result ≡ c.args.span.1 = c.from-2.ensures ∙ small_back c.args.span.1 (omega (arith, c.requires.span.last)) in
    let t = c.if-first-from.true in
    let gone : c.args.span.1 <ℤ (c.args.from -ℤ c.quotient.result) = omega (arith, ints) in
    raised_none c.args.span.0 c.args.span.1 c.args.from c.args.room c.args.fall c.quotient.result c.requires.fall cut gone

pub returns-else-first-from : goal.returns-else-first-from
returns-else-first-from c =
    let fall : FitsSigned w64 c.args.fall = c.ranges.fall in
    let room : FitsSigned w128 c.args.room = c.ranges.room in
    let from : FitsSigned w64 c.args.from = c.ranges.from in
    let end : FitsSigned w64 c.args.span.0 = omega (arith, ints, c.requires.span.first) in
    let test : (IsTrue c.has_room.result → (c.args.fall *ℤ (c.args.from -ℤ c.args.span.0)) ≤ℤ c.args.room) × ((c.args.fall *ℤ (c.args.from -ℤ c.args.span.0)) ≤ℤ c.args.room → IsTrue c.has_room.result) = simp to_z-of_z at c.has_room.ensures in
    let cut : IsQuotient c.args.room c.args.fall c.quotient.result = simp to_z-of_z at c.quotient.ensures.value in
    let past : c.args.room <ℤ (c.args.fall *ℤ (c.args.from -ℤ c.args.span.0)) = by_lt_z c.args.room (c.args.fall *ℤ (c.args.from -ℤ c.args.span.0)) (λ l. l) (λ l. absurd (let yes : c.has_room.result ≡ true = test.1 l in let no : c.has_room.result ≡ false = c.if-has_room.false in cc)) in
    let is : to_z w128 (of_z w128 (to_z w128 (of_z w128 c.from.result) -ℤ to_z w128 (of_z w128 c.quotient.result))) ≡ c.args.from -ℤ c.quotient.result = minus_is c.from.result c.quotient.result c.args.from c.requires.from c.quotient.ensures.within (c.from.ensures ∙ small_back c.args.from (omega (arith, c.requires.from))) in
    let other : c.from-2.result ≡ c.args.span.1 = c.from-2.ensures ∙ small_back c.args.span.1 (omega (arith, c.requires.span.last)) in
    let t = c.if-first-from.false in
    let inside : c.args.span.0 <ℤ (c.args.from -ℤ c.quotient.result) = raised_above c.args.span.0 c.args.from c.args.room c.args.fall c.quotient.result c.requires.fall cut past in
    let here : (c.args.from -ℤ c.quotient.result) ≤ℤ c.args.span.1 = omega (arith, ints) in
    let first : to_z w64 (of_z w64 c.args.span.1) ≡ c.args.span.1 = small_back c.args.span.1 (omega (arith, c.requires.span.last)) in
    let last : to_z w64 (of_z w64 (to_z w128 (of_z w128 (to_z w128 (of_z w128 c.from.result) -ℤ to_z w128 (of_z w128 c.quotient.result))))) ≡ c.args.from -ℤ c.quotient.result = ap (λ z. to_z w64 (of_z w64 z)) is ∙ between_back_up (c.args.from -ℤ c.quotient.result) c.args.span.0 c.args.span.1 c.requires.span.first c.requires.span.last inside here in
    subst (λ z. IsSpanOf (IsRaised c.args.span.0 c.args.span.1 c.args.from c.args.room c.args.fall) (to_z w64 (of_z w64 (to_z w128 (of_z w128 (to_z w128 (of_z w128 c.from.result) -ℤ to_z w128 (of_z w128 c.quotient.result))))), z)) (sym first)
    (raised_cut c.args.span.0 c.args.span.1 c.args.from c.args.room c.args.fall c.quotient.result (to_z w64 (of_z w64 (to_z w128 (of_z w128 (to_z w128 (of_z w128 c.from.result) -ℤ to_z w128 (of_z w128 c.quotient.result)))))) c.requires.fall cut past last (subst (λ z. z ≤ℤ c.args.span.1) (sym last) here))
