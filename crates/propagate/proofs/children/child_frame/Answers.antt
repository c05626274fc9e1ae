use Rattle.std.proofs.Common.{◌∙◌, ◌≡◌, ℕ, ◌≤◌, ap, sym, subst, to_z, of_z, w64, pos, List, ℤ, arith}
use Rattle.std.specs.Prelude.{nat_abs}
use Rattle.std.proofs.lemmas.Int.{ints}
use Rattle.spot_terms.specs.declared.plain.Pt.{Pt}
use Rattle.spot_terms.specs.ChildNumbers.{child_numbers}
use Rattle.spot_terms.specs.Frames.{InFrame, frame_points}
use Rattle.spot_terms.specs.Hull.{IsHullOf, InHull}
use Rattle.spot_terms.specs.Whole.{Within}
use Rattle.propagate.proofs.ChildCode.{slow_read}
use Rattle.propagate.proofs.NextStates.{held_by_frame}
use Rattle.propagate.proofs.children.child_frame.Goals as goal
use Rattle.propagate.proofs.children.child_frame.Goals.{After-frame_poly}

ticks : (k : ℕ) (z : ℤ) → k ≤ 1000 → z ≡ pos k → to_z w64 (of_z w64 z) ≡ pos k
ticks k z h e = omega (arith, ints, e)

read : (c : After-frame_poly) → to_z w64 (of_z w64 c.from-ticks.result) ≡ pos c.args.k
read c = ticks c.args.k c.from-ticks.result c.requires.ticks.1 c.from-ticks.ensures

numbers : (c : After-frame_poly) → c.child_numbers.result.n ≡ child_numbers c.args.a c.args.k c.args.p.now
numbers c =
    c.child_numbers.ensures.exact ∙ ap (λ (z : ℤ). child_numbers (to_z w64 (of_z w64 c.args.a)) (nat_abs z) c.args.p.now) (read c)
    ∙ ap (λ (z : ℤ). child_numbers z c.args.k c.args.p.now) (slow_read c.args.a c.requires.acceleration)

pub child_numbers-requires-clause-acceleration : goal.child_numbers-requires-clause-acceleration
child_numbers-requires-clause-acceleration c = subst (Within (pos 1) (pos 20)) (sym (slow_read c.args.a c.requires.acceleration)) c.requires.acceleration

pub child_numbers-requires-clause-ticks : goal.child_numbers-requires-clause-ticks
child_numbers-requires-clause-ticks c = subst (Within (pos 1) (pos 1000)) (sym (ticks c.args.k c.from-ticks.result c.requires.ticks.1 c.from-ticks.ensures)) (record { low = omega (arith, ints, c.requires.ticks.0); high = omega (arith, ints, c.requires.ticks.1) })

pub frame_poly-requires-clause-ticks : goal.frame_poly-requires-clause-ticks
frame_poly-requires-clause-ticks c = subst (Within (pos 1) (pos 1000)) (sym (ticks c.args.k c.from-ticks.result c.requires.ticks.1 c.from-ticks.ensures)) (record { low = omega (arith, ints, c.requires.ticks.0); high = omega (arith, ints, c.requires.ticks.1) })

pub returns-clause-frame : goal.returns-clause-frame
returns-clause-frame c =
    subst (λ z. IsHullOf (frame_points z (child_numbers c.args.a c.args.k c.args.p.now)) c.frame_poly.result) (read c)
    (subst (λ (f : List ℤ). IsHullOf (frame_points (to_z w64 (of_z w64 c.from-ticks.result)) f) c.frame_poly.result) (numbers c) c.frame_poly.ensures.hull)

pub returns-clause-holds : goal.returns-clause-holds
returns-clause-holds c p v q w i t =
    held_by_frame c.args.a c.args.k c.args.p.now c.frame_poly.result
    (subst (λ z. (u : Pt) → InFrame z (child_numbers c.args.a c.args.k c.args.p.now) u → InHull c.frame_poly.result u) (read c)
    (subst (λ (f : List ℤ). (u : Pt) → InFrame (to_z w64 (of_z w64 c.from-ticks.result)) f u → InHull c.frame_poly.result u) (numbers c) c.frame_poly.ensures.holds)) p v q w i t
