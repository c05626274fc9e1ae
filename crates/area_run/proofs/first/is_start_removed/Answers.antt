use Rattle.std.proofs.Common.{FitsSigned, w64, to_z, of_z, to_z-of_z, ℕ, ◌≡◌, ◌∙◌, arith, refl, sym, subst, false, inl, inr}
use Rattle.std.specs.Prelude.{IsTrue}
use Rattle.spot_terms.specs.Frames.{at}
use Rattle.spot_terms.specs.Grid.{slot, slot_high, slot_low}
use Rattle.carve.proofs.RowPlaces.{fits_place}
use Rattle.area_run.proofs.Starting.{both_ends}
use Rattle.spot_terms.proofs.Orders.{below_or_here}
use Rattle.area_run.proofs.first.is_start_removed.Goals as goal

pub returns-then-is_across : goal.returns-then-is_across
returns-then-is_across g c =
    let fits_low : FitsSigned w64 c.start_row-low.result.0 = fits_place _ (let k = c.start_row-low.ensures.low_near in omega (arith, k)) in
    let fits_high : FitsSigned w64 c.start_row-low.result.1 = fits_place _ (let k = c.start_row-low.ensures.high_near in omega (arith, k)) in
    let fits_x : FitsSigned w64 c.args.plan.now.s.p.x = fits_place _ (omega (arith, c.requires.plan.start.x)) in
    let low : to_z w64 (of_z w64 c.start_row-low.result.0) ≡ slot_low c.args.plan.now.grid.g (slot c.args.plan.now.grid.g c.args.plan.now.s.p.y) = to_z-of_z fits_low ∙ c.start_row-low.ensures.low in
    let high : to_z w64 (of_z w64 c.start_row-low.result.1) ≡ slot_high c.args.plan.now.grid.g (slot c.args.plan.now.grid.g c.args.plan.now.s.p.y) = to_z-of_z fits_high ∙ c.start_row-low.ensures.high in
    let same_x : to_z w64 (of_z w64 c.args.plan.now.s.p.x) ≡ c.args.plan.now.s.p.x = to_z-of_z fits_x in
    let h = both_ends (g.O.Occupied.hits c.args.o.now 0 c.loop-piece.piece) c.args.plan.now.s.p.x _ _ _ _ _ same_x low high (c.if-is_across.ensures.0 refl) in
    (λ t. (c.loop-piece.piece, omega (arith, c.loop-piece-test.true, c.pieces-piece-end.ensures), h.0, h.1), λ r. refl)

clash : IsTrue false → ⊥
clash h = cc

pub loop-piece-preserved : goal.loop-piece-preserved
loop-piece-preserved g c =
    let fits_low : FitsSigned w64 c.start_row-low.result.0 = fits_place _ (let k = c.start_row-low.ensures.low_near in omega (arith, k)) in
    let fits_high : FitsSigned w64 c.start_row-low.result.1 = fits_place _ (let k = c.start_row-low.ensures.high_near in omega (arith, k)) in
    let fits_x : FitsSigned w64 c.args.plan.now.s.p.x = fits_place _ (omega (arith, c.requires.plan.start.x)) in
    let low : to_z w64 (of_z w64 c.start_row-low.result.0) ≡ slot_low c.args.plan.now.grid.g (slot c.args.plan.now.grid.g c.args.plan.now.s.p.y) = to_z-of_z fits_low ∙ c.start_row-low.ensures.low in
    let high : to_z w64 (of_z w64 c.start_row-low.result.1) ≡ slot_high c.args.plan.now.grid.g (slot c.args.plan.now.grid.g c.args.plan.now.s.p.y) = to_z-of_z fits_high ∙ c.start_row-low.ensures.high in
    let same_x : to_z w64 (of_z w64 c.args.plan.now.s.p.x) ≡ c.args.plan.now.s.p.x = to_z-of_z fits_x in
    record {
      none = λ p l h k. elim (below_or_here p c.loop-piece.piece l) [
        | inl less ↦ c.loop-piece.invariant.none p less h k
        | inr same ↦ clash (c.if-is_across.ensures.1 (both_ends (g.O.Occupied.hits c.args.o.now 0 c.loop-piece.piece) _ _ _ c.args.plan.now.s.p.x _ _ (sym same_x) refl refl
            (subst (λ (q : ℕ). g.O.Occupied.hits c.args.o.now 0 q (at c.args.plan.now.s.p.x (to_z w64 (of_z w64 c.start_row-low.result.0)))) same h, subst (λ (q : ℕ). g.O.Occupied.hits c.args.o.now 0 q (at c.args.plan.now.s.p.x (to_z w64 (of_z w64 c.start_row-low.result.1)))) same k)))
      ];
    }

pub returns : goal.returns
returns g c =
    let fits_low : FitsSigned w64 c.start_row-low.result.0 = fits_place _ (let k = c.start_row-low.ensures.low_near in omega (arith, k)) in
    let fits_high : FitsSigned w64 c.start_row-low.result.1 = fits_place _ (let k = c.start_row-low.ensures.high_near in omega (arith, k)) in
    let fits_x : FitsSigned w64 c.args.plan.now.s.p.x = fits_place _ (omega (arith, c.requires.plan.start.x)) in
    let low : to_z w64 (of_z w64 c.start_row-low.result.0) ≡ slot_low c.args.plan.now.grid.g (slot c.args.plan.now.grid.g c.args.plan.now.s.p.y) = to_z-of_z fits_low ∙ c.start_row-low.ensures.low in
    let high : to_z w64 (of_z w64 c.start_row-low.result.1) ≡ slot_high c.args.plan.now.grid.g (slot c.args.plan.now.grid.g c.args.plan.now.s.p.y) = to_z-of_z fits_high ∙ c.start_row-low.ensures.high in
    let same_x : to_z w64 (of_z w64 c.args.plan.now.s.p.x) ≡ c.args.plan.now.s.p.x = to_z-of_z fits_x in (
      λ t. absurd (clash t),
      λ (p, below, l, h).
          let at_ends = both_ends (g.O.Occupied.hits c.args.o.now 0 p) c.args.plan.now.s.p.x _ _ c.args.plan.now.s.p.x _ _ refl (sym low) (sym high) (l, h) in
          absurd (c.loop-piece.invariant.none p (omega (arith, below, c.loop-piece-test.false, c.pieces-piece-end.ensures)) at_ends.0 at_ends.1),
    )
