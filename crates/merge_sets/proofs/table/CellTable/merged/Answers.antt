use Rattle.std.proofs.Common.{◌≡◌, ◌∙◌, ◌≤◌, ℕ, ℤ, pos, List, None, Some, ap, length, refl, subst, sym, to_z, of_z, w64}
use Rattle.std.specs.Prelude.{Option}
use Rattle.convex_poly.proofs.Wide.{back}
use Rattle.spot_terms.specs.CellNumbers.{Numbers}
use Rattle.spot_terms.specs.Frames.{InFrame, IsFrameInOrder, frame_points}
use Rattle.spot_terms.specs.Hull.{InHull, IsHullOf}
use Rattle.spot_terms.specs.declared.plain.Pt.{Pt}
use Rattle.merge_sets.specs.Cells.{AreSound}
use Rattle.merge_sets.specs.Tables.{Holds, IsMergedOf, Table}
use Rattle.merge_sets.proofs.Merged.{sound_at, ticks_read, ticks_within}
use Rattle.merge_sets.proofs.Steps.{StepOf, table_of}
use Rattle.merge_sets.proofs.table.CellTable.merged.Goals as goal

pub frame_poly-requires-clause-order : goal.frame_poly-requires-clause-order
frame_poly-requires-clause-order c = subst (λ (z : ℤ). IsFrameInOrder z c.in-Some-numbers.x.n) (sym (ticks_read c.in-Some.k c.from.result c.from.ensures (c.self.invariant.in_step c.in-Some.field-0-0 c.in-Some.field-0-1 c.in-Some.k c.in-Some.is).ticks.1))
    (sound_at c.args.self.now c.in-Some.field-0-0 c.in-Some.field-0-1 c.in-Some.k c.in-Some-numbers.x c.in-Some-numbers.y (ap (λ (v : Table). v.step) (sym c.self.view_is) ∙ c.in-Some.is) c.in-Some-numbers.ensures.sound).0.order

pub frame_poly-requires-clause-range : goal.frame_poly-requires-clause-range
frame_poly-requires-clause-range c = (sound_at c.args.self.now c.in-Some.field-0-0 c.in-Some.field-0-1 c.in-Some.k c.in-Some-numbers.x c.in-Some-numbers.y (ap (λ (v : Table). v.step) (sym c.self.view_is) ∙ c.in-Some.is) c.in-Some-numbers.ensures.sound).0.eight.range

pub frame_poly-requires-clause-ticks : goal.frame_poly-requires-clause-ticks
frame_poly-requires-clause-ticks c = ticks_within c.in-Some.k c.from.result c.from.ensures (c.self.invariant.in_step c.in-Some.field-0-0 c.in-Some.field-0-1 c.in-Some.k c.in-Some.is).ticks.0 (c.self.invariant.in_step c.in-Some.field-0-0 c.in-Some.field-0-1 c.in-Some.k c.in-Some.is).ticks.1

pub frame_poly-requires-in-Some-numbers-clause-order : goal.frame_poly-requires-in-Some-numbers-clause-order
frame_poly-requires-in-Some-numbers-clause-order c = subst (λ (z : ℤ). IsFrameInOrder z c.in-Some-numbers.y.n) (sym (ticks_read c.in-Some.k c.from-in-Some-numbers.result c.from-in-Some-numbers.ensures (c.self.invariant.in_step c.in-Some.field-0-0 c.in-Some.field-0-1 c.in-Some.k c.in-Some.is).ticks.1))
    (sound_at c.args.self.now c.in-Some.field-0-0 c.in-Some.field-0-1 c.in-Some.k c.in-Some-numbers.x c.in-Some-numbers.y (ap (λ (v : Table). v.step) (sym c.self.view_is) ∙ c.in-Some.is) c.in-Some-numbers.ensures.sound).1.order

pub frame_poly-requires-in-Some-numbers-clause-range : goal.frame_poly-requires-in-Some-numbers-clause-range
frame_poly-requires-in-Some-numbers-clause-range c = (sound_at c.args.self.now c.in-Some.field-0-0 c.in-Some.field-0-1 c.in-Some.k c.in-Some-numbers.x c.in-Some-numbers.y (ap (λ (v : Table). v.step) (sym c.self.view_is) ∙ c.in-Some.is) c.in-Some-numbers.ensures.sound).1.eight.range

pub frame_poly-requires-in-Some-numbers-clause-ticks : goal.frame_poly-requires-in-Some-numbers-clause-ticks
frame_poly-requires-in-Some-numbers-clause-ticks c = ticks_within c.in-Some.k c.from-in-Some-numbers.result c.from-in-Some-numbers.ensures (c.self.invariant.in_step c.in-Some.field-0-0 c.in-Some.field-0-1 c.in-Some.k c.in-Some.is).ticks.0 (c.self.invariant.in_step c.in-Some.field-0-0 c.in-Some.field-0-1 c.in-Some.k c.in-Some.is).ticks.1

pub returns-in-Some-numbers : goal.returns-in-Some-numbers
returns-in-Some-numbers c =
    let col : to_z w64 (of_z w64 c.args.col) ≡ c.args.col = back c.args.col c.ranges.col.sfits in
    let row : to_z w64 (of_z w64 c.args.row) ≡ c.args.row = back c.args.row c.ranges.row.sfits in (
      c.in-Some.field-0-0,
      c.in-Some.field-0-1,
      c.in-Some.k,
      (c.in-Some-numbers.x.n, c.in-Some-numbers.y.n),
      ap (λ (v : Table). v.step) (sym c.self.view_is) ∙ c.in-Some.is,
      subst (λ (z : ℤ). Holds c.args.self.now z c.args.row (Some (c.in-Some-numbers.x.n, c.in-Some-numbers.y.n))) col
          (subst (λ (z : ℤ). Holds c.args.self.now (to_z w64 (of_z w64 c.args.col)) z (Some (c.in-Some-numbers.x.n, c.in-Some-numbers.y.n))) row c.in-Some-numbers.ensures.exact),
      col,
      row,
      record {
        frame_x = subst (λ (z : ℤ). IsHullOf (frame_points z c.in-Some-numbers.x.n) c.frame_poly.result) (ticks_read c.in-Some.k c.from.result c.from.ensures (c.self.invariant.in_step c.in-Some.field-0-0 c.in-Some.field-0-1 c.in-Some.k c.in-Some.is).ticks.1) c.frame_poly.ensures.hull;
        frame_y = subst (λ (z : ℤ). IsHullOf (frame_points z c.in-Some-numbers.y.n) c.frame_poly-in-Some-numbers.result) (ticks_read c.in-Some.k c.from-in-Some-numbers.result c.from-in-Some-numbers.ensures (c.self.invariant.in_step c.in-Some.field-0-0 c.in-Some.field-0-1 c.in-Some.k c.in-Some.is).ticks.1) c.frame_poly-in-Some-numbers.ensures.hull;
        holds_x = subst (λ (z : ℤ). (q : Pt) → InFrame z c.in-Some-numbers.x.n q → InHull c.frame_poly.result q) (ticks_read c.in-Some.k c.from.result c.from.ensures (c.self.invariant.in_step c.in-Some.field-0-0 c.in-Some.field-0-1 c.in-Some.k c.in-Some.is).ticks.1) c.frame_poly.ensures.holds;
        holds_y = subst (λ (z : ℤ). (q : Pt) → InFrame z c.in-Some-numbers.y.n q → InHull c.frame_poly-in-Some-numbers.result q) (ticks_read c.in-Some.k c.from-in-Some-numbers.result c.from-in-Some-numbers.ensures (c.self.invariant.in_step c.in-Some.field-0-0 c.in-Some.field-0-1 c.in-Some.k c.in-Some.is).ticks.1) c.frame_poly-in-Some-numbers.ensures.holds;
        few_x = c.frame_poly.ensures.few;
        few_y = c.frame_poly-in-Some-numbers.ensures.few;
      },
    )

pub returns-in-None-numbers : goal.returns-in-None-numbers
returns-in-None-numbers c =
    let col : to_z w64 (of_z w64 c.args.col) ≡ c.args.col = back c.args.col c.ranges.col.sfits in
    let row : to_z w64 (of_z w64 c.args.row) ≡ c.args.row = back c.args.row c.ranges.row.sfits in
    subst (λ (z : ℤ). Holds c.args.self.now z c.args.row None) col (subst (λ (z : ℤ). Holds c.args.self.now (to_z w64 (of_z w64 c.args.col)) z None) row c.in-None-numbers.ensures.exact)

pub returns-in-None : goal.returns-in-None
returns-in-None c =
    subst (λ (v : Table). Holds v c.args.col c.args.row None) c.self.view_is
    (subst (λ (s : StepOf). Holds (table_of (length c.self.inside.cells.items) s c.self.inside.cells.items) c.args.col c.args.row None) (sym c.in-None.is) refl)
