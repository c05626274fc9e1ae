use Rattle.std.proofs.Common.{◌≡◌, ◌∙◌, ℕ, ◌+◌, arith, refl, subst, w64, FitsSigned, to_z, of_z, to_z-of_z, ℤ, rules}
use Rattle.std.specs.Prelude.{Some}
use Rattle.spot_terms.specs.RowBoxes.{slots_shared}
use Rattle.carve.specs.Ranges.{IsRange}
use Rattle.carve.proofs.BoxSums.{rows_of, no_rows, piece_met, piece_missed}
use Rattle.carve.proofs.occupied.Occupied.rows.Goals as goal
use Rattle.carve.proofs.occupied.Occupied.rows.Goals.{in-Some, in_default}

pub loop-piece-init : goal.loop-piece-init
loop-piece-init g c = record {
  sum = no_rows _ (c.args.b.now.ylo, c.args.b.now.yhi) (g.Self.Occupied.range c.args.self.now c.args.step);
  few = omega arith;
}

pub loop-piece-preserved : goal.loop-piece-preserved
loop-piece-preserved g c =
    elim c.match-span.branch [
      | in-Some w ↦
          let is : IsRange (g.Self.Occupied.range c.args.self.now c.args.step c.loop-piece.piece) (Some (w.in-Some.low, w.in-Some.high)) = w.in-Some.ensures in
          let here : w.rows_shared-rows.result ≡ slots_shared (to_z w64 (of_z w64 c.args.g)) (w.in-Some.low, w.in-Some.high) (c.args.b.now.ylo, c.args.b.now.yhi) = search (rules, w.rows_shared-rows.ensures.value) in
          record {
            sum = piece_met _ (c.args.b.now.ylo, c.args.b.now.yhi) (g.Self.Occupied.range c.args.self.now c.args.step) c.loop-piece.piece (c.loop-piece.piece + 1) w.in-Some.low w.in-Some.high c.loop-piece.rows w.rows_shared-rows.result c.match-span.rows
                refl c.loop-piece.invariant.sum is here w.rows-is;
            few = omega (arith, w.rows-is, w.rows_shared-rows.ensures.few, c.loop-piece.invariant.few);
          }
      | in_default w ↦ record {
        sum = piece_missed _ (c.args.b.now.ylo, c.args.b.now.yhi) (g.Self.Occupied.range c.args.self.now c.args.step) c.loop-piece.piece (c.loop-piece.piece + 1) c.loop-piece.rows c.match-span.rows
            refl c.loop-piece.invariant.sum w.in_default.ensures w.rows-is;
        few = omega (arith, w.rows-is, c.loop-piece.invariant.few);
      }
    ]

pub returns-clause-sum : goal.returns-clause-sum
returns-clause-sum g c =
    let f : FitsSigned w64 c.args.g = c.ranges.g in
    let n : c.loop-piece.piece ≡ c.pieces-piece-end.result = (let a = c.loop-piece.auto.piece-end in omega (arith, a, c.loop-piece-test.false)) in
    let whole : c.loop-piece.piece ≡ g.Self.Occupied.count c.args.self.now c.args.step = n ∙ c.pieces-piece-end.ensures in
    let sum : c.loop-piece.rows ≡ rows_of c.args.g (c.args.b.now.ylo, c.args.b.now.yhi) (g.Self.Occupied.range c.args.self.now c.args.step) c.loop-piece.piece =
    subst (λ (z : ℤ). c.loop-piece.rows ≡ rows_of z (c.args.b.now.ylo, c.args.b.now.yhi) (g.Self.Occupied.range c.args.self.now c.args.step) c.loop-piece.piece) (to_z-of_z f) c.loop-piece.invariant.sum in
    subst (λ (m : ℕ). c.loop-piece.rows ≡ rows_of c.args.g (c.args.b.now.ylo, c.args.b.now.yhi) (g.Self.Occupied.range c.args.self.now c.args.step) m) whole sum
