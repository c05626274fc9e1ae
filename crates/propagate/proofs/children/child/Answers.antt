use Rattle.std.proofs.Common.{◌≡◌, ◌≤◌, subst, to_z, of_z, w64, pos, neg_ℤ, ℤ, arith, Some, None, inl, inr}
use Rattle.std.specs.Prelude.{nat_abs}
use Rattle.std.proofs.lemmas.Int.{ints}
use lib.Signed.{◌≤ℤ◌}
use Rattle.spot_terms.specs.Courses.{Course}
use Rattle.spot_terms.specs.Whole.{Within}
use Rattle.base_sets.specs.Values.{course_with}
use Rattle.propagate.specs.Children.{IsPlaneChild, HoldsPlane, IsChildIn}
use Rattle.propagate.proofs.children.child.Goals as goal

read : (z : ℤ) → nat_abs z ≤ 40_000_000_000_000 → to_z w64 (of_z w64 z) ≡ z
read z h = omega (arith, ints)

-- a fact of two places, as the code reads them
at_places : (P : ℤ → ℤ → Type 0) (lo hi : ℤ) → nat_abs lo ≤ 40_000_000_000_000 → nat_abs hi ≤ 40_000_000_000_000 → P (to_z w64 (of_z w64 lo)) (to_z w64 (of_z w64 hi)) → P lo hi
at_places P lo hi h k p = subst (λ z. P z hi) (read lo h) (subst (λ z. P (to_z w64 (of_z w64 lo)) z) (read hi k) p)

-- a speed of at most v in size
slow : (v w : ℤ) → pos 0 ≤ℤ v → nat_abs w ≤ nat_abs v → Within (neg_ℤ v) v w
slow v w h s = record { low = omega (arith, ints); high = omega (arith, ints) }

small : (z : ℤ) → nat_abs z ≤ 40_000_000_000_000 → nat_abs (to_z w64 (of_z w64 z)) ≤ 40_000_000_000_000
small z h = rw (read z h) h

pub plane_child-requires-clause-near : goal.plane_child-requires-clause-near
plane_child-requires-clause-near c = c.requires.x

pub plane_child-requires-clause-bounds : goal.plane_child-requires-clause-bounds
plane_child-requires-clause-bounds c = c.requires.bounds

pub plane_child-requires-clause-ticks : goal.plane_child-requires-clause-ticks
plane_child-requires-clause-ticks c = c.requires.ticks

pub plane_child-requires-clause-low : goal.plane_child-requires-clause-low
plane_child-requires-clause-low c = small c.args.o.now.xlo c.requires.reach.xlo

pub plane_child-requires-clause-high : goal.plane_child-requires-clause-high
plane_child-requires-clause-high c = small c.args.o.now.xhi c.requires.reach.xhi

pub plane_child-requires-in-Some-clause-near : goal.plane_child-requires-in-Some-clause-near
plane_child-requires-in-Some-clause-near c = c.requires.y

pub plane_child-requires-in-Some-clause-bounds : goal.plane_child-requires-in-Some-clause-bounds
plane_child-requires-in-Some-clause-bounds c = c.requires.bounds

pub plane_child-requires-in-Some-clause-ticks : goal.plane_child-requires-in-Some-clause-ticks
plane_child-requires-in-Some-clause-ticks c = c.requires.ticks

pub plane_child-requires-in-Some-clause-low : goal.plane_child-requires-in-Some-clause-low
plane_child-requires-in-Some-clause-low c = small c.args.o.now.ylo c.requires.reach.ylo

pub plane_child-requires-in-Some-clause-high : goal.plane_child-requires-in-Some-clause-high
plane_child-requires-in-Some-clause-high c = small c.args.o.now.yhi c.requires.reach.yhi

pub returns-in-Some-plane_child-clause-exact : goal.returns-in-Some-plane_child-clause-exact
returns-in-Some-plane_child-clause-exact c s grid =
    let course : Course = course_with s c.args.e.now grid c.args.k in (
      at_places (λ lo hi. IsPlaneChild course lo hi c.args.b.now.x (Some c.in-Some.x)) c.args.o.now.xlo c.args.o.now.xhi c.requires.reach.xlo c.requires.reach.xhi (c.in-Some.ensures.exact s grid),
      at_places (λ lo hi. IsPlaneChild course lo hi c.args.b.now.y (Some c.in-Some-plane_child.y)) c.args.o.now.ylo c.args.o.now.yhi c.requires.reach.ylo c.requires.reach.yhi (c.in-Some-plane_child.ensures.exact s grid),
    )

pub returns-in-Some-plane_child-clause-holds : goal.returns-in-Some-plane_child-clause-holds
returns-in-Some-plane_child-clause-holds c s grid t u h n r =
    let course : Course = course_with s c.args.e.now grid c.args.k in (
      at_places (λ lo hi. HoldsPlane course lo hi c.args.b.now.x (Some c.in-Some.x)) c.args.o.now.xlo c.args.o.now.xhi c.requires.reach.xlo c.requires.reach.xhi (c.in-Some.ensures.holds s grid) t.p.x t.v.x u.p.x u.v.x h.x n.x (slow c.args.e.now.v u.v.x c.requires.bounds.v.low n.slow.x) r.x,
      at_places (λ lo hi. HoldsPlane course lo hi c.args.b.now.y (Some c.in-Some-plane_child.y)) c.args.o.now.ylo c.args.o.now.yhi c.requires.reach.ylo c.requires.reach.yhi (c.in-Some-plane_child.ensures.holds s grid) t.p.y t.v.y u.p.y u.v.y h.y n.y (slow c.args.e.now.v u.v.y c.requires.bounds.v.low n.slow.y) r.y,
    )

pub returns-in-Some-plane_child-clause-x_in : goal.returns-in-Some-plane_child-clause-x_in
returns-in-Some-plane_child-clause-x_in c = at_places (λ lo hi. IsChildIn lo hi c.args.e.now.v c.in-Some.x) c.args.o.now.xlo c.args.o.now.xhi c.requires.reach.xlo c.requires.reach.xhi c.in-Some.ensures.within

pub returns-in-Some-plane_child-clause-y_in : goal.returns-in-Some-plane_child-clause-y_in
returns-in-Some-plane_child-clause-y_in c = at_places (λ lo hi. IsChildIn lo hi c.args.e.now.v c.in-Some-plane_child.y) c.args.o.now.ylo c.args.o.now.yhi c.requires.reach.ylo c.requires.reach.yhi c.in-Some-plane_child.ensures.within

pub returns-in-None-plane_child-clause-exact : goal.returns-in-None-plane_child-clause-exact
returns-in-None-plane_child-clause-exact c s grid = inr (at_places (λ lo hi. IsPlaneChild (course_with s c.args.e.now grid c.args.k) lo hi c.args.b.now.y None) c.args.o.now.ylo c.args.o.now.yhi c.requires.reach.ylo c.requires.reach.yhi (c.in-None-plane_child.ensures.exact s grid))

pub returns-in-None-plane_child-clause-holds : goal.returns-in-None-plane_child-clause-holds
returns-in-None-plane_child-clause-holds c s grid t u h n r =
    at_places (λ lo hi. HoldsPlane (course_with s c.args.e.now grid c.args.k) lo hi c.args.b.now.y None) c.args.o.now.ylo c.args.o.now.yhi c.requires.reach.ylo c.requires.reach.yhi (c.in-None-plane_child.ensures.holds s grid) t.p.y t.v.y u.p.y u.v.y h.y n.y (slow c.args.e.now.v u.v.y c.requires.bounds.v.low n.slow.y) r.y

pub returns-in-None-clause-exact : goal.returns-in-None-clause-exact
returns-in-None-clause-exact c s grid = inl (at_places (λ lo hi. IsPlaneChild (course_with s c.args.e.now grid c.args.k) lo hi c.args.b.now.x None) c.args.o.now.xlo c.args.o.now.xhi c.requires.reach.xlo c.requires.reach.xhi (c.in-None.ensures.exact s grid))

pub returns-in-None-clause-holds : goal.returns-in-None-clause-holds
returns-in-None-clause-holds c s grid t u h n r =
    at_places (λ lo hi. HoldsPlane (course_with s c.args.e.now grid c.args.k) lo hi c.args.b.now.x None) c.args.o.now.xlo c.args.o.now.xhi c.requires.reach.xlo c.requires.reach.xhi (c.in-None.ensures.holds s grid) t.p.x t.v.x u.p.x u.v.x h.x n.x (slow c.args.e.now.v u.v.x c.requires.bounds.v.low n.slow.x) r.x
