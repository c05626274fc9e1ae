use Rattle.std.proofs.Common.{◌≡◌, ◌∙◌, ◌≤◌, ◌++◌, arith, ap, List, ℕ, ℤ, to_z, of_z, w64}
use Rattle.std.specs.Fmt.{signed_decimal}
use Rattle.std.specs.Prelude.{nat_abs}
use Rattle.convex_poly.proofs.Wide.{back}
use Rattle.spot_terms.proofs.Numerals.{whole_is_signed}
use Rattle.svg_report.proofs.lines.put_number.Goals as goal

pub returns-clause-bytes : goal.returns-clause-bytes
returns-clause-bytes c =
    let near : nat_abs c.args.n ≤ 1_000_000_000_000_000 = c.requires.near in
    let read : to_z w64 (of_z w64 c.args.n) ≡ c.args.n = back c.args.n c.ranges.n.sfits in
    c.digits.ensures.bytes ∙ ap (λ (z : ℤ). c.args.line.now ++ signed_decimal z) read ∙ ap (λ (t : List ℕ). c.args.line.now ++ t) (whole_is_signed c.args.n (omega (arith, near)))
