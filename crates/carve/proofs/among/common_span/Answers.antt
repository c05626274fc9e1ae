use Rattle.std.proofs.Common.{rules, ◌≡◌, ℤ, ◌≤ℤ◌, ◌<ℤ◌, arith, w64, FitsSigned, to_z-of_z}
use Rattle.std.specs.Int.{int_max, int_min}
use Rattle.std.proofs.lemmas.Int.{ints, clamps}
use Rattle.convex_poly.specs.Runs.{IsSpanOf}
use Rattle.carve.specs.Ranges.{InBoth}
use Rattle.spot_terms.proofs.Orders.{at_most_of_true, above_of_false}
use Rattle.carve.proofs.among.common_span.Goals as goal

common : (a b : ℤ × ℤ) (first last : ℤ) → first ≡ int_max a.0 b.0 → last ≡ int_min a.1 b.1 → first ≤ℤ last → IsSpanOf (InBoth a b) (first, last)
common a b first last e f h = record {
  ordered = h;
  exact = λ x. (λ k. record { low = least k.0.low k.1.low; high = most k.0.high k.1.high }, λ w. (record { low = left w.low; high = left_high w.high }, record { low = right w.low; high = right_high w.high }));
}
  where
    least : {x : ℤ} → a.0 ≤ℤ x → b.0 ≤ℤ x → first ≤ℤ x
    least h k = omega (arith, ints, clamps)

    most : {x : ℤ} → x ≤ℤ a.1 → x ≤ℤ b.1 → x ≤ℤ last
    most h k = omega (arith, ints, clamps)

    left : {x : ℤ} → first ≤ℤ x → a.0 ≤ℤ x
    left h = omega (arith, ints, clamps)

    right : {x : ℤ} → first ≤ℤ x → b.0 ≤ℤ x
    right h = omega (arith, ints, clamps)

    left_high : {x : ℤ} → x ≤ℤ last → x ≤ℤ a.1
    left_high h = omega (arith, ints, clamps)

    right_high : {x : ℤ} → x ≤ℤ last → x ≤ℤ b.1
    right_high h = omega (arith, ints, clamps)

apart : (a b : ℤ × ℤ) (first last : ℤ) → first ≡ int_max a.0 b.0 → last ≡ int_min a.1 b.1 → last <ℤ first → (x : ℤ) → InBoth a b x → ⊥
apart a b first last e f h x k = let l = k.0.low in let m = k.1.low in let n = k.0.high in let o = k.1.high in omega (arith, ints, clamps)

pub returns-then-first-last : goal.returns-then-first-last
returns-then-first-last c =
    let fits_first : FitsSigned w64 c.max-first.result = record { sfits = c.max-first.type_inv } in
    let fits_last : FitsSigned w64 c.min-last.result = record { sfits = c.min-last.type_inv } in
    let first : c.max-first.result ≡ int_max c.args.a.0 c.args.b.0 = search (rules, c.max-first.ensures.value) in
    let last : c.min-last.result ≡ int_min c.args.a.1 c.args.b.1 = search (rules, c.min-last.ensures.value) in
    simp to_z-of_z (common c.args.a c.args.b c.max-first.result c.min-last.result first last (at_most_of_true c.max-first.result c.min-last.result (simp to_z-of_z at c.if-first-last.true)))

pub returns-else-first-last : goal.returns-else-first-last
returns-else-first-last c =
    let fits_first : FitsSigned w64 c.max-first.result = record { sfits = c.max-first.type_inv } in
    let fits_last : FitsSigned w64 c.min-last.result = record { sfits = c.min-last.type_inv } in
    let first : c.max-first.result ≡ int_max c.args.a.0 c.args.b.0 = search (rules, c.max-first.ensures.value) in
    let last : c.min-last.result ≡ int_min c.args.a.1 c.args.b.1 = search (rules, c.min-last.ensures.value) in
    apart c.args.a c.args.b c.max-first.result c.min-last.result first last (above_of_false c.max-first.result c.min-last.result (simp to_z-of_z at c.if-first-last.false))
