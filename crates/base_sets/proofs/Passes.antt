-- Between two states of a motion of the ego, so many ticks lead from the one to the other along x and along y.
use Rattle.std.proofs.Common.{◌≡◌, ◌∙◌, ℕ, zero, suc, ◌+◌, arith, ap, sym, ℤ, List}
use Rattle.std.specs.Prelude.{nat_abs, slice_get, Some}
use Rattle.spot_terms.specs.EgoMotions.{EgoTick, EgoSpeedAtMost}
use Rattle.spot_terms.specs.Motions.{State, Steps}
use Rattle.spot_terms.proofs.Steps.{step_at}
use Rattle.base_sets.specs.Passes.{Passes}

one_state : (s t : State) → Some s ≡ Some t → s ≡ t
one_state s t e = cc

pub passes_x : (a v : ℤ) (states : List State) (i k : ℕ) (s t : State) → Steps (EgoTick a) (EgoSpeedAtMost v) states → slice_get states i ≡ Some s → slice_get states (i + k) ≡ Some t → Passes (nat_abs a) k s.p.x s.v.x t.p.x t.v.x
passes_x a v states i zero s t h e f =
    let same : s ≡ t = one_state s t (sym e ∙ (let g : i + 0 ≡ i = omega arith in rw g at f)) in (ap (λ (z : State). z.p.x) same, ap (λ (z : State). z.v.x) same)
passes_x a v states i (suc k) s t h e f =
    let g : i + suc k ≡ suc (i + k) = omega arith in
    let (o, before, tick) = step_at (EgoTick a) (EgoSpeedAtMost v) states (i + k) t h (rw g at f) in
    (o.p.x, o.v.x, passes_x a v states i k s o h e before, tick.x, tick.x_bounded)

pub passes_y : (a v : ℤ) (states : List State) (i k : ℕ) (s t : State) → Steps (EgoTick a) (EgoSpeedAtMost v) states → slice_get states i ≡ Some s → slice_get states (i + k) ≡ Some t → Passes (nat_abs a) k s.p.y s.v.y t.p.y t.v.y
passes_y a v states i zero s t h e f =
    let same : s ≡ t = one_state s t (sym e ∙ (let g : i + 0 ≡ i = omega arith in rw g at f)) in (ap (λ (z : State). z.p.y) same, ap (λ (z : State). z.v.y) same)
passes_y a v states i (suc k) s t h e f =
    let g : i + suc k ≡ suc (i + k) = omega arith in
    let (o, before, tick) = step_at (EgoTick a) (EgoSpeedAtMost v) states (i + k) t h (rw g at f) in
    (o.p.y, o.v.y, passes_y a v states i k s o h e before, tick.y, tick.y_bounded)
