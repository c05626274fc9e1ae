use Rattle.std.proofs.Common.{rules, ◌≡◌, ◌∙◌, ◌<◌, ◌≤◌, ℕ, ℤ, arith, refl, sym, ap, subst, length, List, Some, get_or, to_z, of_z, w64}
use Rattle.std.specs.Prelude.{slice_get}
use Rattle.std.proofs.lemmas.Option.{slice_get-get_or}
use Rattle.convex_poly.proofs.Wide.{back}
use Rattle.merge_sets.specs.Planes.{IsPlane, HasTicks, PlaneValue}
use Rattle.merge_sets.specs.Tables.{Holds}
use Rattle.merge_sets.specs.declared.planes.Plane.{Plane}
use Rattle.merge_sets.proofs.PlaneLists.{length_set, merged_by, plane_found, planes_set}
use Rattle.merge_sets.proofs.planes.Planes.go_to.Goals as goal

pub set_plane-requires-in-Some-clause-plane : goal.set_plane-requires-in-Some-clause-plane
set_plane-requires-in-Some-clause-plane c =
    let inside : c.args.j < c.self.inside.rows = subst (λ (v : PlaneValue). c.args.j < v.rows) (sym c.self.view_is) c.requires.row in
    let many = c.self.invariant.1 in
    let got : slice_get c.self.inside.ys.items c.args.j ≡ Some c.index_mut.result.now = slice_get-get_or c.self.inside.ys.items c.args.j c.index_mut.result.now (omega (arith, inside, many)) ∙ ap (λ (p : Plane). Some p) (sym c.index_mut.ensures.value) in
    c.self.invariant.3 c.args.j c.index_mut.result.now got

pub invariant_of-self : goal.invariant_of-self
invariant_of-self c =
    let inside : c.args.j < c.self.inside.rows = subst (λ (v : PlaneValue). c.args.j < v.rows) (sym c.self.view_is) c.requires.row in
    let many = c.self.invariant.1 in (
      c.self.invariant.0,
      length_set c.self.inside.ys.items c.args.j c.set_plane-in-Some.new.plane ∙ c.self.invariant.1,
      c.set_plane.ensures.plane,
      planes_set c.self.inside.k c.self.inside.ys.items c.args.j c.set_plane-in-Some.new.plane (omega (arith, inside, many)) c.self.invariant.3 c.set_plane-in-Some.ensures.plane,
    )

pub returns-in-Some-clause-merged : goal.returns-in-Some-clause-merged
returns-in-Some-clause-merged c =
    let inside : c.args.j < c.self.inside.rows = subst (λ (v : PlaneValue). c.args.j < v.rows) (sym c.self.view_is) c.requires.row in
    let many = c.self.invariant.1 in
    let col : to_z w64 (of_z w64 c.args.col) ≡ c.args.col = back c.args.col c.ranges.col.sfits in
    let row : to_z w64 (of_z w64 c.args.row) ≡ c.args.row = back c.args.row c.ranges.row.sfits in
    let ticks : HasTicks c.args.table.now c.self.inside.k = subst (λ (v : PlaneValue). HasTicks c.args.table.now v.k) (sym c.self.view_is) c.requires.ticks in (
      c.set_plane-in-Some.new.plane.poly,
      plane_found c.self.inside.ys.items c.args.j c.set_plane-in-Some.new.plane (omega (arith, inside, many)),
      (
        ticks.0,
        ticks.1,
        c.self.inside.k,
        (c.in-Some.x.n, c.in-Some.y.n),
        ticks.2,
        subst (λ (z : ℤ). Holds c.args.table.now z c.args.row (Some (c.in-Some.x.n, c.in-Some.y.n))) col
            (subst (λ (z : ℤ). Holds c.args.table.now (to_z w64 (of_z w64 c.args.col)) z (Some (c.in-Some.x.n, c.in-Some.y.n))) row c.in-Some.ensures.exact),
        refl,
        refl,
        merged_by c.self.inside.k c.in-Some.x.n c.in-Some.y.n c.set_plane.new.plane c.set_plane-in-Some.new.plane c.args.col c.args.row c.set_plane.ensures.plane c.set_plane-in-Some.ensures.plane c.set_plane.ensures.numbers c.set_plane-in-Some.ensures.numbers,
      ),
    )
