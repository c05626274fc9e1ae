use Rattle.std.proofs.Common.{◌≡◌, ℕ, ◌+◌, ◌/◌, min, arith, ◌∙◌, ap, ◌++◌}
use Rattle.spot_decimal.specs.Written.{front}
use Rattle.spot_decimal.proofs.Sizes.{IsSized, size_some, size_none}
use Rattle.spot_decimal.proofs.value.size_of.Goals as goal

pub returns-in_err-tenths-clause-none : goal.returns-in_err-tenths-clause-none
returns-in_err-tenths-clause-none c = λ (e : ℕ) (s : c.args.decimal.now.exponent.size ≡ min e 1000).
    let d = c.args.decimal.now.digits in
    let k : IsSized d.whole.now d.part.now c.args.decimal.now.exponent.size e c.args.places = record { whole_digits = c.requires.whole; part_digits = c.requires.part; short = c.requires.short; few = c.requires.places; least = s } in
    rw c.from_residual.ensures (size_none _ _ c.args.decimal.now.exponent.minus _ _ _ k (rw c.places_kept.ensures at c.in_err-tenths.ensures.none))

pub returns-then-size-gt-MOST-clause-none : goal.returns-then-size-gt-MOST-clause-none
returns-then-size-gt-MOST-clause-none c = λ (e : ℕ) (s : c.args.decimal.now.exponent.size ≡ min e 1000).
    let d = c.args.decimal.now.digits in
    let k : IsSized d.whole.now d.part.now c.args.decimal.now.exponent.size e c.args.places = record { whole_digits = c.requires.whole; part_digits = c.requires.part; short = c.requires.short; few = c.requires.places; least = s } in
    let t = c.in_ok-tenths.ensures.some in
    ((c.in_ok-tenths.tenths + 5) / 10, (size_some _ _ c.args.decimal.now.exponent.minus _ _ _ _ k (t.0 ∙ ap (λ (n : ℕ). front (d.whole.now ++ d.part.now) n) c.places_kept.ensures) t.1, omega arith))

pub returns-else-size-gt-MOST-clause-some : goal.returns-else-size-gt-MOST-clause-some
returns-else-size-gt-MOST-clause-some c = λ (e : ℕ) (s : c.args.decimal.now.exponent.size ≡ min e 1000).
    let d = c.args.decimal.now.digits in
    let k : IsSized d.whole.now d.part.now c.args.decimal.now.exponent.size e c.args.places = record { whole_digits = c.requires.whole; part_digits = c.requires.part; short = c.requires.short; few = c.requires.places; least = s } in
    let t = c.in_ok-tenths.ensures.some in
    (size_some _ _ c.args.decimal.now.exponent.minus _ _ _ _ k (t.0 ∙ ap (λ (n : ℕ). front (d.whole.now ++ d.part.now) n) c.places_kept.ensures) t.1, omega arith)
