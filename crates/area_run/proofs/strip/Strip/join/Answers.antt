use Rattle.std.proofs.Common.{◌≡◌, ◌∙◌, ◌≤◌, ◌+◌, ◌∷◌, ℕ, arith, ap, sym, subst, List, Option, length}
use Rattle.std.proofs.lemmas.List.{with_items_is}
use Rattle.round_out.specs.declared.frames.FrameNumbers.{FrameNumbers}
use Rattle.merge_sets.specs.Strips.{AreSoundRows, JoinsParts}
use Rattle.area_run.specs.Strips.{FitsBox, IsStripOf}
use Rattle.area_run.proofs.JoinCalls.{at_is, away, cast_fits, first_asked, joins_plain, known_asked, near_asked, read, row_plain, steps, sub_fits, within}
use Rattle.area_run.proofs.SlotCalls.{addable}
use Rattle.area_run.proofs.Strips.{fits_joined, strip_joined}
use Rattle.area_run.proofs.strip.Strip.join.Goals as goal

pub overflow_sub-at : goal.overflow_sub-at
overflow_sub-at c = sub_fits c.args.plan.now c.args.b.now c.requires.plan c.requires.reach c.args.child.now c.requires.parts c.row.result (row_plain c.args.plan.now c.args.b.now c.requires.plan c.requires.reach c.row.result c.row.ensures)

pub overflow_cast-at : goal.overflow_cast-at
overflow_cast-at c = cast_fits c.args.plan.now c.args.b.now c.requires.plan c.requires.reach c.args.child.now c.requires.parts c.row.result (row_plain c.args.plan.now c.args.b.now c.requires.plan c.requires.reach c.row.result c.row.ensures)

pub join_parts-requires-clause-room : goal.join_parts-requires-clause-room
join_parts-requires-clause-room c =
    let fits = within c.args.plan.now c.args.b.now c.requires.plan c.requires.reach c.args.child.now c.requires.parts c.row.result (row_plain c.args.plan.now c.args.b.now c.requires.plan c.requires.reach c.row.result c.row.ensures) in
    let room = c.requires.fits.room in
    subst (λ (z : List (Option FrameNumbers)). steps c.args.child.now.first c.row.result + c.args.child.now.count ≤ length z) (sym c.deref_mut.ensures.value) (omega (arith, fits, room))

pub join_parts-requires-clause-rows : goal.join_parts-requires-clause-rows
join_parts-requires-clause-rows c = subst (λ (z : List (Option FrameNumbers)). AreSoundRows c.args.plan.now.k z) (sym c.deref_mut.ensures.value) c.requires.fits.sound

pub join_parts-requires-clause-known : goal.join_parts-requires-clause-known
join_parts-requires-clause-known c = known_asked c.args.plan.now c.args.b.now c.requires.plan c.requires.reach c.args.child.now c.requires.parts c.row.result (row_plain c.args.plan.now c.args.b.now c.requires.plan c.requires.reach c.row.result c.row.ensures)

pub join_parts-requires-clause-slow : goal.join_parts-requires-clause-slow
join_parts-requires-clause-slow c = (addable c.args.plan.now.grid.g c.args.b.now.ylo c.args.b.now.yhi c.args.plan.now.e.v c.args.child.now.y c.requires.plan.grid.g c.requires.reach.ylo c.requires.reach.yhi c.requires.reach.y c.requires.plan.bounds.v c.requires.parts.child c.requires.parts.convex).slow

pub join_parts-requires-clause-first : goal.join_parts-requires-clause-first
join_parts-requires-clause-first c = first_asked c.args.plan.now c.args.b.now c.requires.plan c.requires.reach c.args.child.now c.requires.parts c.row.result (row_plain c.args.plan.now c.args.b.now c.requires.plan c.requires.reach c.row.result c.row.ensures)

pub join_parts-requires-clause-near : goal.join_parts-requires-clause-near
join_parts-requires-clause-near c = near_asked c.args.plan.now c.args.b.now c.requires.plan c.requires.reach c.args.child.now c.requires.parts c.row.result (row_plain c.args.plan.now c.args.b.now c.requires.plan c.requires.reach c.row.result c.row.ensures)

pub returns-clause-fits : goal.returns-clause-fits
returns-clause-fits c =
    let joins : JoinsParts (steps c.args.child.now.first c.row.result) c.args.child.now.count c.args.plan.now.grid.g c.args.child.now.first c.args.plan.now.k c.args.child.now.y c.args.self.now.rows.items c.join_parts.new.rows =
    joins_plain c.args.plan.now c.args.b.now c.requires.plan c.requires.reach c.args.child.now c.requires.parts c.row.result (row_plain c.args.plan.now c.args.b.now c.requires.plan c.requires.reach c.row.result c.row.ensures) (steps c.args.child.now.first c.row.result) c.args.self.now.rows.items c.join_parts.new.rows
    (subst (λ (z : List (Option FrameNumbers)). JoinsParts (steps c.args.child.now.first c.row.result) c.args.child.now.count (read c.args.plan.now.grid.g) (read c.args.child.now.first) c.args.plan.now.k c.args.child.now.y z c.join_parts.new.rows) c.deref_mut.ensures.value c.join_parts.ensures) in
    subst (λ v. FitsBox c.args.plan.now c.args.b.now v.items c.widen.new.self.from c.widen.new.self.to) (sym c.widen.ensures.rows)
    (subst (λ (z : List (Option FrameNumbers)). FitsBox c.args.plan.now c.args.b.now z c.widen.new.self.from c.widen.new.self.to) (sym (with_items_is c.args.self.now.rows c.join_parts.new.rows (c.join_parts.ensures.count ∙ c.deref_mut.ensures.len)))
    (fits_joined c.args.plan.now c.args.b.now c.args.child.now.y c.args.child.now.first (steps c.args.child.now.first c.row.result) c.args.child.now.count c.args.self.now.rows.items c.join_parts.new.rows joins
    (at_is c.args.plan.now c.args.b.now c.requires.plan c.requires.reach c.args.child.now c.requires.parts c.row.result (row_plain c.args.plan.now c.args.b.now c.requires.plan c.requires.reach c.row.result c.row.ensures)) (within c.args.plan.now c.args.b.now c.requires.plan c.requires.reach c.args.child.now c.requires.parts c.row.result (row_plain c.args.plan.now c.args.b.now c.requires.plan c.requires.reach c.row.result c.row.ensures))
    (away c.args.plan.now c.args.b.now c.requires.plan c.requires.reach c.args.child.now c.requires.parts c.row.result (row_plain c.args.plan.now c.args.b.now c.requires.plan c.requires.reach c.row.result c.row.ensures)) c.args.self.now.from c.args.self.now.to c.widen.new.self.from c.widen.new.self.to c.requires.fits c.widen.ensures.widened))

pub returns-clause-joined : goal.returns-clause-joined
returns-clause-joined c = λ ys h.
    let joins : JoinsParts (steps c.args.child.now.first c.row.result) c.args.child.now.count c.args.plan.now.grid.g c.args.child.now.first c.args.plan.now.k c.args.child.now.y c.args.self.now.rows.items c.join_parts.new.rows =
    joins_plain c.args.plan.now c.args.b.now c.requires.plan c.requires.reach c.args.child.now c.requires.parts c.row.result (row_plain c.args.plan.now c.args.b.now c.requires.plan c.requires.reach c.row.result c.row.ensures) (steps c.args.child.now.first c.row.result) c.args.self.now.rows.items c.join_parts.new.rows
    (subst (λ (z : List (Option FrameNumbers)). JoinsParts (steps c.args.child.now.first c.row.result) c.args.child.now.count (read c.args.plan.now.grid.g) (read c.args.child.now.first) c.args.plan.now.k c.args.child.now.y z c.join_parts.new.rows) c.deref_mut.ensures.value c.join_parts.ensures) in
    subst (λ v. IsStripOf c.args.plan.now c.args.b.now (c.args.child.now.y ∷ ys) v.items) (sym c.widen.ensures.rows)
    (subst (λ (z : List (Option FrameNumbers)). IsStripOf c.args.plan.now c.args.b.now (c.args.child.now.y ∷ ys) z) (sym (with_items_is c.args.self.now.rows c.join_parts.new.rows (c.join_parts.ensures.count ∙ c.deref_mut.ensures.len)))
    (strip_joined c.args.plan.now c.args.b.now c.args.child.now.y c.args.child.now.first (steps c.args.child.now.first c.row.result) c.args.child.now.count c.args.self.now.rows.items c.join_parts.new.rows joins
    (at_is c.args.plan.now c.args.b.now c.requires.plan c.requires.reach c.args.child.now c.requires.parts c.row.result (row_plain c.args.plan.now c.args.b.now c.requires.plan c.requires.reach c.row.result c.row.ensures)) (within c.args.plan.now c.args.b.now c.requires.plan c.requires.reach c.args.child.now c.requires.parts c.row.result (row_plain c.args.plan.now c.args.b.now c.requires.plan c.requires.reach c.row.result c.row.ensures))
    (away c.args.plan.now c.args.b.now c.requires.plan c.requires.reach c.args.child.now c.requires.parts c.row.result (row_plain c.args.plan.now c.args.b.now c.requires.plan c.requires.reach c.row.result c.row.ensures)) ys c.requires.fits.room h))
