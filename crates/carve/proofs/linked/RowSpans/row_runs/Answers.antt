use Rattle.std.proofs.Common.{rules, ◌≡◌, ◌∙◌, ◌↔◌, ◌<◌, ◌≤◌, ◌+◌, ℕ, ℤ, arith, refl, sym, ap, subst, length, List, Option, Some, get_or, vec_capacity}
use Rattle.std.specs.Prelude.{slice_get}
use Rattle.std.proofs.lemmas.Option.{slice_get-get_or, same_Some}
use Rattle.spot_terms.specs.Courses.{slots_met}
use Rattle.spot_terms.specs.Grid.{slot, AreFreeRuns, CoverTheRest}
use Rattle.carve.specs.Linked.{AreLinked, AreSpansOf, Linked}
use Rattle.carve.specs.Taking.{IsTaken}
use Rattle.carve.specs.declared.linked.Link.{Link}
use Rattle.carve.specs.declared.runs.Span.{Span}
use Rattle.carve.proofs.RowPlaces.{same_cover, same_runs}
use Rattle.carve.proofs.linked.RowSpans.row_runs.Goals as goal

-- the spans of a row are linked from what stands for it
from_head : (heads : List (Option ℕ)) (links others : List Link) (j : ℕ) (head : Option ℕ) (all : List Span) → j < length heads → head ≡ get_or heads j head → others ≡ links → AreSpansOf heads links j all → AreLinked others head all
from_head heads links others j head all l e f (from, got, linked) =
    let here : slice_get heads j ≡ Some head = slice_get-get_or heads j head l ∙ ap (λ (z : Option ℕ). Some z) (sym e) in
    subst (λ (ls : List Link). AreLinked ls head all) (sym f) (subst (λ (z : Option ℕ). AreLinked links z all) (same_Some from head (sym got ∙ here)) linked)

pub list_spans-requires : goal.list_spans-requires
list_spans-requires c =
    let row : c.args.j < length c.self.inside.heads.items = subst (λ (v : Linked). c.args.j < length v.heads) (sym c.self.view_is) c.requires.row in
    let spans = c.self.invariant.2 c.args.j row in
    let pieces : c.self.inside.pieces ≡ c.args.self.now.pieces = ap (λ (v : Linked). v.pieces) c.self.view_is in
    let room : c.runs.inside.room ≡ c.args.runs.now.room = ap (λ r. r.room) c.runs.view_is in
    let few = spans.3 in
    record {
      linked = (
        spans.0,
        from_head c.self.inside.heads.items c.self.inside.links.items c.deref.result.now c.args.j c.index.result.now spans.0 row c.index.ensures c.deref.ensures.value spans.1,
        spans.2,
        omega (arith, few, pieces, room, c.requires.room, c.runs.invariant.0),
      );
    }

pub find_free-requires-clause-room : goal.find_free-requires-clause-room
find_free-requires-clause-room c =
    let row : c.args.j < length c.self.inside.heads.items = subst (λ (v : Linked). c.args.j < length v.heads) (sym c.self.view_is) c.requires.row in
    let spans = c.self.invariant.2 c.args.j row in
    let pieces : c.self.inside.pieces ≡ c.args.self.now.pieces = ap (λ (v : Linked). v.pieces) c.self.view_is in
    let room : c.runs.inside.room ≡ c.args.runs.now.room = ap (λ r. r.room) c.runs.view_is in
    let few = spans.3 in
    let long = c.list_spans.ensures.count spans.0 (from_head c.self.inside.heads.items c.self.inside.links.items c.deref.result.now c.args.j c.index.result.now spans.0 row c.index.ensures c.deref.ensures.value spans.1) in
    let read : length c.deref-2.result.now ≡ length c.list_spans.new.spans.items = ap length c.deref-2.ensures.value in
    omega (arith, few, pieces, room, long, read, c.requires.room, c.runs.invariant.1)

pub returns-clause-exact : goal.returns-clause-exact
returns-clause-exact c = λ all h.
    let row : c.args.j < length c.self.inside.heads.items = subst (λ (v : Linked). c.args.j < length v.heads) (sym c.self.view_is) c.requires.row in
    let mine : AreSpansOf c.self.inside.heads.items c.self.inside.links.items c.args.j all = subst (λ (v : Linked). AreSpansOf v.heads v.links c.args.j all) (sym c.self.view_is) h in
    let same = c.list_spans.ensures.same all (from_head c.self.inside.heads.items c.self.inside.links.items c.deref.result.now c.args.j c.index.result.now all row c.index.ensures c.deref.ensures.value mine) in
    same_runs (IsTaken all) (IsTaken c.list_spans.new.spans.items) c.args.grid.now.w (slot c.args.grid.now.w c.args.b.now.xlo) (slot c.args.grid.now.w c.args.b.now.xhi) c.find_free.new.free.items same
    (subst (λ (zs : List Span). AreFreeRuns (IsTaken zs) c.args.grid.now.w (slot c.args.grid.now.w c.args.b.now.xlo) (slot c.args.grid.now.w c.args.b.now.xhi) c.find_free.new.free.items) c.deref-2.ensures.value c.find_free.ensures.exact)

pub returns-clause-covers : goal.returns-clause-covers
returns-clause-covers c = λ all h.
    let row : c.args.j < length c.self.inside.heads.items = subst (λ (v : Linked). c.args.j < length v.heads) (sym c.self.view_is) c.requires.row in
    let mine : AreSpansOf c.self.inside.heads.items c.self.inside.links.items c.args.j all = subst (λ (v : Linked). AreSpansOf v.heads v.links c.args.j all) (sym c.self.view_is) h in
    let same = c.list_spans.ensures.same all (from_head c.self.inside.heads.items c.self.inside.links.items c.deref.result.now c.args.j c.index.result.now all row c.index.ensures c.deref.ensures.value mine) in
    same_cover (IsTaken all) (IsTaken c.list_spans.new.spans.items) c.args.grid.now.w (slot c.args.grid.now.w c.args.b.now.xlo) (slot c.args.grid.now.w c.args.b.now.xhi) c.find_free.new.free.items same
    (subst (λ (zs : List Span). CoverTheRest (IsTaken zs) c.args.grid.now.w (slot c.args.grid.now.w c.args.b.now.xlo) (slot c.args.grid.now.w c.args.b.now.xhi) c.find_free.new.free.items) c.deref-2.ensures.value c.find_free.ensures.covers)

pub returns-clause-few : goal.returns-clause-few
returns-clause-few c = λ all h.
    let row : c.args.j < length c.self.inside.heads.items = subst (λ (v : Linked). c.args.j < length v.heads) (sym c.self.view_is) c.requires.row in
    let mine : AreSpansOf c.self.inside.heads.items c.self.inside.links.items c.args.j all = subst (λ (v : Linked). AreSpansOf v.heads v.links c.args.j all) (sym c.self.view_is) h in
    let long = c.list_spans.ensures.count all (from_head c.self.inside.heads.items c.self.inside.links.items c.deref.result.now c.args.j c.index.result.now all row c.index.ensures c.deref.ensures.value mine) in
    let read : length c.deref-2.result.now ≡ length c.list_spans.new.spans.items = ap length c.deref-2.ensures.value in
    omega (arith, long, read, c.find_free.ensures.few)
