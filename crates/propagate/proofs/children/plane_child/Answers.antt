use Rattle.std.proofs.Common.{◌≡◌, sym, subst, to_z, of_z, w64, pos, ℤ, arith, Some, None}
use Rattle.std.specs.Prelude.{nat_abs}
use Rattle.std.proofs.lemmas.Int.{ints}
use Rattle.spot_terms.specs.ChildNumbers.{child_numbers}
use Rattle.spot_terms.specs.ClippedTo.{places, speeds}
use Rattle.spot_terms.specs.StepLists.{IsFrameOf}
use Rattle.spot_terms.specs.Whole.{Within}
use Rattle.convex_poly.proofs.Wide.{back}
use Rattle.round_out.specs.Parts.{IsPart, KeepsParts, StaysBetween, StaysSlow}
use Rattle.base_sets.specs.Values.{course_with}
use Rattle.propagate.specs.Children.{HoldsFrame}
use Rattle.propagate.proofs.ChildCode.{slow_read}
use Rattle.propagate.proofs.ChildParts.{plane_some, plane_none, plane_holds, plane_holds_none, plane_within}
use Rattle.propagate.proofs.children.plane_child.Goals as goal
use Rattle.propagate.proofs.children.plane_child.Goals.{After-part_between, After-slow_part}

speed_read : (v : ℤ) → Within (pos 0) (pos 900_000) v → to_z w64 (of_z w64 v) ≡ v
speed_read v h = omega (arith, ints, h.low, h.high)

frame : (c : After-slow_part) → IsFrameOf c.args.k (child_numbers c.args.e.now.a c.args.k c.args.p.now) c.child_frame.result
frame c = subst (λ z. IsFrameOf c.args.k (child_numbers z c.args.k c.args.p.now) c.child_frame.result) (slow_read c.args.e.now.a c.requires.bounds.a) c.child_frame.ensures.frame

held : (c : After-slow_part) → HoldsFrame (nat_abs c.args.e.now.a) c.args.k c.args.p.now c.child_frame.result
held c = subst (λ z. HoldsFrame (nat_abs z) c.args.k c.args.p.now c.child_frame.result) (slow_read c.args.e.now.a c.requires.bounds.a) c.child_frame.ensures.holds

pub child_frame-requires-clause-acceleration : goal.child_frame-requires-clause-acceleration
child_frame-requires-clause-acceleration c = subst (Within (pos 1) (pos 20)) (sym (slow_read c.args.e.now.a c.requires.bounds.a)) c.requires.bounds.a

pub slow_part-requires-clause-speed : goal.slow_part-requires-clause-speed
slow_part-requires-clause-speed c = rw (speed_read c.args.e.now.v c.requires.bounds.v) (omega (arith, ints, c.requires.bounds.v.low, c.requires.bounds.v.high))

pub slow_part-requires-clause-corners : goal.slow_part-requires-clause-corners
slow_part-requires-clause-corners c = omega (arith, c.child_frame.ensures.few)

pub part_between-requires-clause-corners : goal.part_between-requires-clause-corners
part_between-requires-clause-corners c = omega (arith, c.child_frame.ensures.few, c.in-Some.ensures.few)

slow : (c : After-part_between) → IsPart (speeds c.args.e.now.v) c.child_frame.result (Some c.in-Some.slow)
slow c = subst (λ z. IsPart (speeds z) c.child_frame.result (Some c.in-Some.slow)) (speed_read c.args.e.now.v c.requires.bounds.v) c.in-Some.ensures.part

part : (c : After-part_between) → IsPart (places c.args.lo c.args.hi) c.in-Some.slow c.part_between.result
part c =
    subst (λ z. IsPart (places z c.args.hi) c.in-Some.slow c.part_between.result) (back c.args.lo c.ranges.lo.sfits)
    (subst (λ z. IsPart (places (to_z w64 (of_z w64 c.args.lo)) z) c.in-Some.slow c.part_between.result) (back c.args.hi c.ranges.hi.sfits) c.part_between.ensures.part)

pub returns-in-Some-clause-exact : goal.returns-in-Some-clause-exact
returns-in-Some-clause-exact c s grid =
    plane_some (course_with s c.args.e.now grid c.args.k) c.args.lo c.args.hi c.args.p.now c.child_frame.result c.in-Some.slow c.part_between.result
    (subst (λ z. IsFrameOf c.args.k (child_numbers z c.args.k c.args.p.now) c.child_frame.result) (slow_read c.args.e.now.a c.requires.bounds.a) c.child_frame.ensures.frame) (slow c) (part c)

pub returns-in-Some-clause-holds : goal.returns-in-Some-clause-holds
returns-in-Some-clause-holds c s grid =
    plane_holds (course_with s c.args.e.now grid c.args.k) c.args.lo c.args.hi c.args.p.now c.child_frame.result c.in-Some.slow c.part_between.result
    (subst (λ z. HoldsFrame (nat_abs z) c.args.k c.args.p.now c.child_frame.result) (slow_read c.args.e.now.a c.requires.bounds.a) c.child_frame.ensures.holds)
    (subst (λ z. KeepsParts (speeds z) c.child_frame.result (Some c.in-Some.slow)) (speed_read c.args.e.now.v c.requires.bounds.v) c.in-Some.ensures.keeps)
    (subst (λ z. KeepsParts (places z c.args.hi) c.in-Some.slow c.part_between.result) (back c.args.lo c.ranges.lo.sfits)
    (subst (λ z. KeepsParts (places (to_z w64 (of_z w64 c.args.lo)) z) c.in-Some.slow c.part_between.result) (back c.args.hi c.ranges.hi.sfits) c.part_between.ensures.keeps))

pub returns-in-Some-clause-within : goal.returns-in-Some-clause-within
returns-in-Some-clause-within c =
    plane_within c.args.lo c.args.hi c.args.e.now.v c.child_frame.result c.in-Some.slow c.part_between.result c.child_frame.ensures.few (slow c) (part c) c.in-Some.ensures.few c.part_between.ensures.few
    (subst (λ z. StaysSlow z (Some c.in-Some.slow)) (speed_read c.args.e.now.v c.requires.bounds.v) c.in-Some.ensures.side)
    (subst (λ z. StaysBetween z c.args.hi c.part_between.result) (back c.args.lo c.ranges.lo.sfits)
    (subst (λ z. StaysBetween (to_z w64 (of_z w64 c.args.lo)) z c.part_between.result) (back c.args.hi c.ranges.hi.sfits) c.part_between.ensures.side))
    c.part_between.ensures.axes

pub returns-in-None-clause-exact : goal.returns-in-None-clause-exact
returns-in-None-clause-exact c s grid =
    plane_none (course_with s c.args.e.now grid c.args.k) c.args.lo c.args.hi c.args.p.now c.child_frame.result
    (subst (λ z. IsFrameOf c.args.k (child_numbers z c.args.k c.args.p.now) c.child_frame.result) (slow_read c.args.e.now.a c.requires.bounds.a) c.child_frame.ensures.frame)
    (subst (λ z. IsPart (speeds z) c.child_frame.result None) (speed_read c.args.e.now.v c.requires.bounds.v) c.in-None.ensures.part)

pub returns-in-None-clause-holds : goal.returns-in-None-clause-holds
returns-in-None-clause-holds c s grid =
    plane_holds_none (course_with s c.args.e.now grid c.args.k) c.args.lo c.args.hi c.args.p.now c.child_frame.result
    (subst (λ z. HoldsFrame (nat_abs z) c.args.k c.args.p.now c.child_frame.result) (slow_read c.args.e.now.a c.requires.bounds.a) c.child_frame.ensures.holds)
    (subst (λ z. KeepsParts (speeds z) c.child_frame.result None) (speed_read c.args.e.now.v c.requires.bounds.v) c.in-None.ensures.keeps)
