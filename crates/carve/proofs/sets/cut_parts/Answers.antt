use Rattle.std.proofs.Common.{◌≡◌, ◌∙◌, ℕ, ◌+◌, ◌<◌, ◌≤◌, ◌++◌, ◌∷◌, [], nat_abs, w64, FitsSigned, to_z-of_z, ℤ, pos, arith, refl, ap, sym, subst, length, get_or, List, length-append}
use Rattle.std.specs.List.{AllByRecursion}
use Rattle.std.proofs.lemmas.List.{take_more}
use Rattle.spot_terms.specs.BaseSets.{SetValue}
use Rattle.spot_terms.specs.Whole.{Within}
use Rattle.spot_terms.specs.declared.plain.Pt.{Pt}
use Rattle.spot_terms.proofs.Places.{all_at}
use Rattle.carve.specs.Cuts.{with_x, IsCutBy}
use Rattle.carve.specs.Parts.{parts_of}
use Rattle.carve.specs.Rooms.{SetRoom}
use Rattle.carve.proofs.CutSteps.{none_cut, cut_some, cut_next, whole_part}
use Rattle.carve.proofs.RowPlaces.{fits_place}
use Rattle.carve.proofs.sets.cut_parts.Goals as goal
use Rattle.carve.proofs.sets.cut_parts.Goals.{Joined-lie_between, then-lie_between, else-lie_between}

pub loop-run-init : goal.loop-run-init
loop-run-init c = record { cut = none_cut (parts_of c.args.b.now) c.args.out.now.sets; few = omega arith; room = refl }

sizes_at : (runs : List (ℤ × ℤ)) (i : ℕ) → AllByRecursion (λ (r : ℤ × ℤ). (nat_abs r.0 ≤ 40_000_000_000_000) × (nat_abs r.1 ≤ 40_000_000_000_000)) runs → i < length runs
    → (nat_abs (get_or runs i (pos 0, pos 0)).0 ≤ 40_000_000_000_000) × (nat_abs (get_or runs i (pos 0, pos 0)).1 ≤ 40_000_000_000_000)
sizes_at runs i h k = all_at (λ (r : ℤ × ℤ). (nat_abs r.0 ≤ 40_000_000_000_000) × (nat_abs r.1 ≤ 40_000_000_000_000)) runs i (pos 0, pos 0) h k

pub cut_part-requires-clause-low : goal.cut_part-requires-clause-low
cut_part-requires-clause-low c = (sizes_at c.args.runs.now c.loop-run.run-index c.requires.places c.loop-run-test.true).0

pub cut_part-requires-clause-high : goal.cut_part-requires-clause-high
cut_part-requires-clause-high c = (sizes_at c.args.runs.now c.loop-run.run-index c.requires.places c.loop-run-test.true).1

longer : (more new : List SetValue) (c : SetValue) (old i : ℕ) → more ≡ new ++ c ∷ [] → length new ≤ old + i → length more ≤ old + (i + 1)
longer more new c old i e h = rw (e, length-append) (omega arith)

pub loop-run-preserved : goal.loop-run-preserved
loop-run-preserved c =
    let b : SetValue = parts_of c.args.b.now in
    let run : ℤ × ℤ = get_or c.args.runs.now c.loop-run.run-index (pos 0, pos 0) in
    let more = take_more c.args.runs.now c.loop-run.run-index (pos 0, pos 0) c.loop-run-test.true in
    let sizes = sizes_at c.args.runs.now c.loop-run.run-index c.requires.places c.loop-run-test.true in
    let fits_0 : FitsSigned w64 run.0 = fits_place run.0 sizes.0 in
    let fits_1 : FitsSigned w64 run.1 = fits_place run.1 sizes.1 in
    elim c.if-lie_between.branch [
      | then-lie_between w ↦
          let yes : AllByRecursion (λ (v : Pt). Within run.0 run.1 v.x) c.corners.result.now = simp to_z-of_z at (c.lie_between.ensures.0 w.if-lie_between.true) in
          let within : AllByRecursion (λ (v : Pt). Within run.0 run.1 v.x) b.x = subst (AllByRecursion (λ (v : Pt). Within run.0 run.1 v.x)) c.corners.ensures.items yes in
          let sets : c.if-lie_between.out.sets ≡ c.loop-run.out.sets ++ with_x b b.x ∷ [] =
          ap (λ (l : SetRoom). l.sets) w.out-is ∙ (ap (λ (l : SetRoom). l.sets) w.push.ensures ∙ ap (λ (v : SetValue). c.loop-run.out.sets ++ v ∷ []) (w.set_with_x.ensures ∙ ap (with_x b) w.copy.ensures)) in
          record {
            cut = cut_some b _ _ run _ _ _ b.x c.loop-run.invariant.cut (whole_part run.0 run.1 b.x c.corners.ensures.polygon.convex within) (λ q h on. h) sets more;
            few = longer _ _ _ _ _ sets c.loop-run.invariant.few;
            room = ap (λ (l : SetRoom). l.room) w.out-is ∙ ap (λ (l : SetRoom). l.room) w.push.ensures ∙ c.loop-run.invariant.room;
          }
      | else-lie_between w ↦
          let out : c.if-lie_between.out ≡ w.cut_part.new.out = w.out-is in
          record {
            cut = subst (λ (l : SetRoom). IsCutBy b _ c.args.out.now.sets l.sets) (sym out) (cut_next b _ _ run _ _ _ c.loop-run.invariant.cut w.cut_part.ensures.sets more);
            few = subst (λ (l : SetRoom). length l.sets ≤ length c.args.out.now.sets + (c.loop-run.run-index + 1)) (sym out) (omega (arith, w.cut_part.ensures.few, c.loop-run.invariant.few));
            room = ap (λ (l : SetRoom). l.room) out ∙ w.cut_part.ensures.room ∙ c.loop-run.invariant.room;
          }
    ]
