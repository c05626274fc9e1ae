use Rattle.std.proofs.Common.{rules, ◌≡◌, ◌∙◌, ◌-◌, ℕ, ℤ, ◌+ℤ◌, pos, List, ap, sym, subst, take, drop, length, Some}
use Rattle.std.specs.Prelude.{slice_get}
use Rattle.std.proofs.lemmas.Option.{slice_get-get_or}
use Rattle.spot_terms.specs.BaseSets.{Rect}
use Rattle.spot_terms.specs.Courses.{box_at}
use Rattle.spot_terms.specs.Grid.{slot}
use Rattle.area_run.specs.Plans.{course_of}
use Rattle.area_run.specs.Rows.{AreRunsOf}
use Rattle.area_run.proofs.Listing.{row_at}
use Rattle.area_run.proofs.rows.StepRuns.row.Goals as goal

pub offset_bounds-deref-from : goal.offset_bounds-deref-from
offset_bounds-deref-from g c =
    let at : slice_get c.args.self.now.ends.items c.args.j ≡ Some c.index.result.now = slice_get-get_or c.args.self.now.ends.items c.args.j c.index.result.now c.requires.row ∙ ap (λ (p : ℕ × ℕ). Some p) (sym c.index.ensures) in
    let row = row_at (course_of c.args.self.now.plan) c.args.self.now.step (g.O.Occupied.count c.args.self.now.o.now c.args.self.now.step) (g.O.Occupied.hits c.args.self.now.o.now c.args.self.now.step) (g.O.Occupied.range c.args.self.now.o.now c.args.self.now.step) c.args.self.now.free.items c.args.self.now.ends.items c.args.j c.index.result.now c.requires.stage.listed at in
    let long : length c.deref.result.now ≡ length c.args.self.now.free.items = ap length c.deref.ensures.value in
    let order = row.order in
    let inside = row.inside in
    search (rules, order, inside, long, c.deref.type_inv)

pub slice_bounds-result-count : goal.slice_bounds-result-count
slice_bounds-result-count g c =
    let at : slice_get c.args.self.now.ends.items c.args.j ≡ Some c.index.result.now = slice_get-get_or c.args.self.now.ends.items c.args.j c.index.result.now c.requires.row ∙ ap (λ (p : ℕ × ℕ). Some p) (sym c.index.ensures) in
    let row = row_at (course_of c.args.self.now.plan) c.args.self.now.step (g.O.Occupied.count c.args.self.now.o.now c.args.self.now.step) (g.O.Occupied.hits c.args.self.now.o.now c.args.self.now.step) (g.O.Occupied.range c.args.self.now.o.now c.args.self.now.step) c.args.self.now.free.items c.args.self.now.ends.items c.args.j c.index.result.now c.requires.stage.listed at in
    let long : length c.deref.result.now ≡ length c.args.self.now.free.items = ap length c.deref.ensures.value in
    let order = row.order in
    let inside = row.inside in
    order

pub slice_bounds-result-start : goal.slice_bounds-result-start
slice_bounds-result-start g c =
    let at : slice_get c.args.self.now.ends.items c.args.j ≡ Some c.index.result.now = slice_get-get_or c.args.self.now.ends.items c.args.j c.index.result.now c.requires.row ∙ ap (λ (p : ℕ × ℕ). Some p) (sym c.index.ensures) in
    let row = row_at (course_of c.args.self.now.plan) c.args.self.now.step (g.O.Occupied.count c.args.self.now.o.now c.args.self.now.step) (g.O.Occupied.hits c.args.self.now.o.now c.args.self.now.step) (g.O.Occupied.range c.args.self.now.o.now c.args.self.now.step) c.args.self.now.free.items c.args.self.now.ends.items c.args.j c.index.result.now c.requires.stage.listed at in
    let long : length c.deref.result.now ≡ length c.args.self.now.free.items = ap length c.deref.ensures.value in
    let order = row.order in
    let inside = row.inside in
    search (rules, order, inside, long)

pub slice_bounds-result-end : goal.slice_bounds-result-end
slice_bounds-result-end g c =
    let at : slice_get c.args.self.now.ends.items c.args.j ≡ Some c.index.result.now = slice_get-get_or c.args.self.now.ends.items c.args.j c.index.result.now c.requires.row ∙ ap (λ (p : ℕ × ℕ). Some p) (sym c.index.ensures) in
    let row = row_at (course_of c.args.self.now.plan) c.args.self.now.step (g.O.Occupied.count c.args.self.now.o.now c.args.self.now.step) (g.O.Occupied.hits c.args.self.now.o.now c.args.self.now.step) (g.O.Occupied.range c.args.self.now.o.now c.args.self.now.step) c.args.self.now.free.items c.args.self.now.ends.items c.args.j c.index.result.now c.requires.stage.listed at in
    let long : length c.deref.result.now ≡ length c.args.self.now.free.items = ap length c.deref.ensures.value in
    let order = row.order in
    let inside = row.inside in
    search (rules, order, inside, long)

pub returns : goal.returns
returns g c =
    let at : slice_get c.args.self.now.ends.items c.args.j ≡ Some c.index.result.now = slice_get-get_or c.args.self.now.ends.items c.args.j c.index.result.now c.requires.row ∙ ap (λ (p : ℕ × ℕ). Some p) (sym c.index.ensures) in
    let row = row_at (course_of c.args.self.now.plan) c.args.self.now.step (g.O.Occupied.count c.args.self.now.o.now c.args.self.now.step) (g.O.Occupied.hits c.args.self.now.o.now c.args.self.now.step) (g.O.Occupied.range c.args.self.now.o.now c.args.self.now.step) c.args.self.now.free.items c.args.self.now.ends.items c.args.j c.index.result.now c.requires.stage.listed at in
    let long : length c.deref.result.now ≡ length c.args.self.now.free.items = ap length c.deref.ensures.value in
    let order = row.order in
    let inside = row.inside in
    subst (λ (r : Rect). AreRunsOf (course_of c.args.self.now.plan) c.args.self.now.step (g.O.Occupied.count c.args.self.now.o.now c.args.self.now.step) (g.O.Occupied.hits c.args.self.now.o.now c.args.self.now.step) (g.O.Occupied.range c.args.self.now.o.now c.args.self.now.step) (slot c.args.self.now.plan.grid.g r.ylo +ℤ pos c.args.j) (take (c.index.result.now.1 - c.index.result.now.0) (drop c.index.result.now.0 c.deref.result.now))) (sym c.requires.stage.exact)
    (subst (λ (zs : List (ℤ × ℤ)). AreRunsOf (course_of c.args.self.now.plan) c.args.self.now.step (g.O.Occupied.count c.args.self.now.o.now c.args.self.now.step) (g.O.Occupied.hits c.args.self.now.o.now c.args.self.now.step) (g.O.Occupied.range c.args.self.now.o.now c.args.self.now.step) (slot c.args.self.now.plan.grid.g (box_at (course_of c.args.self.now.plan) c.args.self.now.step).ylo +ℤ pos c.args.j) (take (c.index.result.now.1 - c.index.result.now.0) (drop c.index.result.now.0 zs))) (sym c.deref.ensures.value) row.are)
