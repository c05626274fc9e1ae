use Rattle.std.proofs.Common.{rules, ◌≡◌, ℤ, ◌≤ℤ◌, ◌<ℤ◌, arith, to_z-of_z, FitsSigned, w64, to_z, of_z, ap, subst, ◌⊎◌, inl, inr, false}
use Rattle.std.specs.Prelude.{int_le}
use Rattle.std.proofs.lemmas.Int.{ints}
use Rattle.carve.proofs.rows.run_within.Goals as goal
use Rattle.carve.proofs.rows.run_within.Goals.{else-range-low-via-then-range-low+else-high-range, else-range-low-via-else-range-low}

pub returns-then-high-range-clause-run : goal.returns-then-high-range-clause-run
returns-then-high-range-clause-run g c =
    let fits_low : FitsSigned w64 c.args.low = c.ranges.low in
    let fits_high : FitsSigned w64 c.args.high = c.ranges.high in
    simp to_z-of_z at c.run.ensures

above : (a b c d : ℤ) → a ≡ c → b ≡ d → int_le a b ≡ false → d <ℤ c
above a b c d e f h = subst (λ (z : ℤ). d <ℤ z) e (subst (λ (z : ℤ). z <ℤ a) f (more a b h))
  where
    more : (a b : ℤ) → int_le a b ≡ false → b <ℤ a
    more a b h = search (rules, h)

none : (low high : ℤ) (r s : ℤ × ℤ) → r ≡ s → s.0 ≤ℤ low → high ≤ℤ s.1 → (low <ℤ r.0) ⊎ (r.1 <ℤ high) → ⊥
none low high r s e a b (inl h) = let f : r.0 ≡ s.0 = ap (λ (z : ℤ × ℤ). z.0) e in omega (arith, ints, f, a, h)
none low high r s e a b (inr h) = let f : r.1 ≡ s.1 = ap (λ (z : ℤ × ℤ). z.1) e in omega (arith, ints, f, b, h)

pub returns-else-range-low-clause-run : goal.returns-else-range-low-clause-run
returns-else-range-low-clause-run g c = λ x k.
    let read_0 : to_z w64 (of_z w64 c.args.range.0) ≡ c.args.range.0 = search rules in
    let read_1 : to_z w64 (of_z w64 c.args.range.1) ≡ c.args.range.1 = search rules in
    let read_low : to_z w64 (of_z w64 c.args.low) ≡ c.args.low = to_z-of_z c.ranges.low in
    let read_high : to_z w64 (of_z w64 c.args.high) ≡ c.args.high = to_z-of_z c.ranges.high in
    let low = (g.met.O.Occupied.in_range c.args.o.now c.args.step c.args.piece (record { x = x; y = c.args.low }) k.0).low in
    let high = (g.met.O.Occupied.in_range c.args.o.now c.args.step c.args.piece (record { x = x; y = c.args.high }) k.1).high in
    none c.args.low c.args.high c.args.range (g.O.Occupied.range c.args.o.now c.args.step c.args.piece) c.requires.range low high (elim c.else-range-low.branch [
      | else-range-low-via-then-range-low+else-high-range w ↦ inr (above _ _ c.args.high c.args.range.1 read_high read_1 w.if-high-range.false)
      | else-range-low-via-else-range-low w ↦ inl (above _ _ c.args.range.0 c.args.low read_0 read_low w.if-range-low.false)
    ])
