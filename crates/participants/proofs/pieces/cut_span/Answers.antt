use Rattle.std.proofs.Common.{rules, ◌≡◌, ◌∙◌, ℤ, pos, neg_ℤ, ◌-ℤ◌, w64, FitsSigned, to_z, of_z, to_z-of_z, ap, get_or}
use Rattle.std.specs.Int.{int_max, int_min}
use Rattle.carve.specs.Ranges.{IsRange}
use Rattle.participants.proofs.Heights.{near_at, fits_near, fits_minus, two, pair}
use Rattle.spot_terms.proofs.Orders.{opposite_is}
use Rattle.participants.proofs.pieces.cut_span.Goals as goal

pub returns : goal.returns
returns c =
    let s6 = near_at c.args.o.now.n 6 c.requires.small in
    let s2 = near_at c.args.o.now.n 2 c.requires.small in
    let f6 = fits_near (get_or c.args.o.now.n 6 (pos 0)) s6 in
    let f2 = fits_near (get_or c.args.o.now.n 2 (pos 0)) s2 in
    let south : to_z w64 (of_z w64 (pos 0 -ℤ to_z w64 (of_z w64 (get_or c.args.o.now.n 6 (pos 0))))) ≡ neg_ℤ (get_or c.args.o.now.n 6 (pos 0)) =
    ap (λ (z : ℤ). to_z w64 (of_z w64 (pos 0 -ℤ z))) (to_z-of_z f6) ∙ (to_z-of_z (fits_minus (get_or c.args.o.now.n 6 (pos 0)) s6) ∙ opposite_is (get_or c.args.o.now.n 6 (pos 0))) in
    let first : to_z w64 (of_z w64 c.args.bounds.now.low.y) ≡ c.args.bounds.now.low.y = search rules in
    let last : to_z w64 (of_z w64 c.args.bounds.now.high.y) ≡ c.args.bounds.now.high.y = search rules in
    let low : c.max.result ≡ int_max (neg_ℤ (get_or c.args.o.now.n 6 (pos 0))) c.args.bounds.now.low.y = c.max.ensures.value ∙ two int_max _ _ _ _ south first in
    let high : c.min.result ≡ int_min (get_or c.args.o.now.n 2 (pos 0)) c.args.bounds.now.high.y = c.min.ensures.value ∙ two int_min _ _ _ _ (to_z-of_z f2) last in
    let fits_max : FitsSigned w64 c.max.result = record { sfits = c.max.type_inv } in
    let fits_min : FitsSigned w64 c.min.result = record { sfits = c.min.type_inv } in
    pair (λ (r : ℤ × ℤ). IsRange r c.unless_empty.result) _ _ _ _ (to_z-of_z fits_max ∙ low) (to_z-of_z fits_min ∙ high) c.unless_empty.ensures
