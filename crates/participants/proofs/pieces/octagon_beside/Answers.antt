use Rattle.std.proofs.Common.{◌≡◌, ◌∙◌, ℤ, pos, neg_ℤ, ◌-ℤ◌, ◌<ℤ◌, w64, FitsSigned, to_z, of_z, to_z-of_z, ap, subst, get_or, true, int_lt}
use Rattle.spot_terms.proofs.Orders.{below_of_true, opposite_is}
use Rattle.participants.proofs.Besides.{octagon_left, octagon_right}
use Rattle.participants.proofs.Heights.{near_at, fits_near, fits_minus}
use Rattle.participants.proofs.pieces.octagon_beside.Goals as goal

pub returns-then-o-left : goal.returns-then-o-left
returns-then-o-left c = λ yes.
    let f0 = fits_near (get_or c.args.o.now.n 0 (pos 0)) (near_at c.args.o.now.n 0 c.requires.small) in
    let fl : FitsSigned w64 c.args.left = c.ranges.left in
    let less : get_or c.args.o.now.n 0 (pos 0) <ℤ c.args.left = below_of_true (get_or c.args.o.now.n 0 (pos 0)) c.args.left (simp to_z-of_z at c.if-o-left.true) in
    octagon_left c.args.o.now.n c.args.left c.args.right less

pub returns : goal.returns
returns c = λ yes.
    let s4 = near_at c.args.o.now.n 4 c.requires.small in
    let f4 = fits_near (get_or c.args.o.now.n 4 (pos 0)) s4 in
    let fr : FitsSigned w64 c.args.right = c.ranges.right in
    let west : to_z w64 (of_z w64 (pos 0 -ℤ to_z w64 (of_z w64 (get_or c.args.o.now.n 4 (pos 0))))) ≡ neg_ℤ (get_or c.args.o.now.n 4 (pos 0)) =
    ap (λ (z : ℤ). to_z w64 (of_z w64 (pos 0 -ℤ z))) (to_z-of_z f4) ∙ (to_z-of_z (fits_minus (get_or c.args.o.now.n 4 (pos 0)) s4) ∙ opposite_is (get_or c.args.o.now.n 4 (pos 0))) in
    let test : int_lt c.args.right (neg_ℤ (get_or c.args.o.now.n 4 (pos 0))) ≡ true =
    subst (λ (z : ℤ). int_lt z (neg_ℤ (get_or c.args.o.now.n 4 (pos 0))) ≡ true) (to_z-of_z fr) (subst (λ (z : ℤ). int_lt (to_z w64 (of_z w64 c.args.right)) z ≡ true) west yes) in
    octagon_right c.args.o.now.n c.args.left c.args.right (below_of_true c.args.right (neg_ℤ (get_or c.args.o.now.n 4 (pos 0))) test)
