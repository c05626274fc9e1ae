-- The polygons of a cell as frames of its numbers, in the words of the step.
use Rattle.std.proofs.Common.{◌≡◌, ◌∙◌, ℕ, ◌≤◌, arith, subst, sym, List, to_z, of_z, w64}
use Rattle.std.specs.Prelude.{nat_abs, Some}
use Rattle.std.proofs.lemmas.Int.{ints}
use Rattle.std.proofs.lemmas.Option.{same_Some}
use lib.IntN.{ℤ, pos}
use lib.Signed.{◌≤ℤ◌}
use Rattle.spot_terms.specs.CellNumbers.{Numbers}
use Rattle.spot_terms.specs.Frames.{InFrame, IsFrameInOrder, frame_points}
use Rattle.spot_terms.specs.Hull.{InHull, IsHullOf}
use Rattle.spot_terms.specs.Whole.{Within}
use Rattle.spot_terms.specs.declared.plain.Pt.{Pt}
use Rattle.round_out.specs.declared.frames.FrameNumbers.{FrameNumbers}
use Rattle.base_sets.specs.declared.grid.Grid.{Grid}
use Rattle.base_sets.specs.declared.grid.OuterBox.{OuterBox}
use Rattle.merge_sets.specs.Cells.{AreSound}
use Rattle.merge_sets.specs.Tables.{AreSoundIn, Table}
use Rattle.merge_sets.proofs.PartSlots.{read}

-- sound for the ticks of the step
pub sound_at : (t : Table) (o : OuterBox) (grid : Grid) (k : ℕ) (x y : FrameNumbers) → t.step ≡ Some (o, grid, k) → AreSoundIn t (Some (x, y)) → AreSound k x.n × AreSound k y.n
sound_at t o grid k x y e (b, h, n, is, sound_x, sound_y) =
    let same : (b, h, n) ≡ (o, grid, k) = same_Some (b, h, n) (o, grid, k) (sym is ∙ e) in
    (subst (λ (z : OuterBox × Grid × ℕ). AreSound z.2 x.n) same sound_x, subst (λ (z : OuterBox × Grid × ℕ). AreSound z.2 y.n) same sound_y)

pub ticks_read : (k : ℕ) (r : ℤ) → r ≡ pos k → k ≤ 1000 → read r ≡ pos k
ticks_read k r e h = omega (arith, ints, e, h)

pub ticks_within : (k : ℕ) (r : ℤ) → r ≡ pos k → 1 ≤ k → k ≤ 1000 → Within (pos 1) (pos 1000) (read r)
ticks_within k r e l h = subst (Within (pos 1) (pos 1000)) (sym (ticks_read k r e h)) (record { low = omega (arith, ints, l); high = omega (arith, ints, h) })
