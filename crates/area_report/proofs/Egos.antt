-- The problem of a command, and its ego.
use Rattle.std.proofs.Common.{◌≡◌, inl, inr, ℕ, ◌*◌, ◌==◌, ◌≤◌, Bool, true, false, cond, List, [], ◌∷◌, find, Option, Some, None, refl, sym, subst, arith, ℤ, pos, ◌≤ℤ◌}
use Rattle.std.specs.Prelude.{nat_abs}
use Rattle.std.specs.List.{AllByRecursion}
use Rattle.std.proofs.lemmas.Int.{ints}
use Rattle.spot_terms.specs.Courses.{Course}
use Rattle.spot_terms.specs.Directions.{IsStartVelocity, start_box}
use Rattle.spot_terms.specs.EgoMotions.{FitsBound}
use Rattle.spot_terms.specs.Frames.{at}
use Rattle.spot_terms.specs.Lists.{Includes}
use Rattle.spot_terms.specs.Motions.{InBox}
use Rattle.spot_terms.specs.Ranges.{IsBoxWithin, IsCommandInRange, IsProblemInRange}
use Rattle.spot_terms.specs.declared.command.Command.{Command}
use Rattle.spot_terms.specs.declared.plain.VBox.{VBox}
use Rattle.spot_terms.specs.declared.scenario.Problem.{Problem}
use Rattle.spot_terms.specs.declared.scenario.Scenario.{Scenario}
use Rattle.spot_terms.proofs.ListLemmas.{all_included}
use Rattle.spot_terms.proofs.Unique.{some_injective}
use Rattle.spot_claims.specs.Problems.{chosen, IsSlowEnough}
use Rattle.text_report.specs.declared.ego_line.EgoLine.{EgoLine}
use Rattle.area_report.specs.Egos.{IsEgoOf}

-- a problem that is chosen is one of them
found_among : (id : ℕ) (ps : List Problem) (p : Problem) → find (λ (q : Problem). q.id == id) ps ≡ Some p → Includes ps p
found_among id [] p e = cc
found_among id (q ∷ ps) p e = either (q.id == id) (found_among id ps p) e
  where
    either : (t : Bool) → (find (λ (x : Problem). x.id == id) ps ≡ Some p → Includes ps p) → cond t (Some q) (find (λ (x : Problem). x.id == id) ps) ≡ Some p → Includes (q ∷ ps) p
    either true later same = inl (sym (some_injective q p same))
    either false later same = inr (later same)

chosen_among : (id : Option ℕ) (ps : List Problem) (p : Problem) → chosen id ps ≡ Some p → Includes ps p
chosen_among None [] p e = cc
chosen_among None (q ∷ ps) p e = inl (sym (some_injective q p e))
chosen_among (Some id) ps p e = found_among id ps p e

pub chosen_in_range : (id : Option ℕ) (ps : List Problem) (p : Problem) → chosen id ps ≡ Some p → AllByRecursion IsProblemInRange ps → IsProblemInRange p
chosen_in_range id ps p e all = all_included IsProblemInRange ps p all (chosen_among id ps p e)

-- ---- the ego

thousand : (n lo hi : ℕ) (z : ℤ) → z ≡ pos (1000 * n) → lo ≤ n → n ≤ hi → (pos (1000 * lo) ≤ℤ z) × (z ≤ℤ pos (1000 * hi))
thousand n lo hi z e low high = (omega (arith, ints, e, low), omega (arith, ints, e, high))

pub ego_is : (c : Command) (p : Problem) (a v w g x y s t : ℤ) (b : VBox) → IsCommandInRange c → IsProblemInRange p → a ≡ pos c.ego_acc → v ≡ pos (1000 * c.ego_speed) → w ≡ pos (1000 * c.cell_x) → g ≡ pos (1000 * c.cell_y)
    → x ≡ p.x → y ≡ p.y → s ≡ p.speed → t ≡ p.angle → b ≡ start_box s t → ((vx vy : ℤ) → IsStartVelocity s t vx vy → InBox b (at vx vy)) → IsBoxWithin 400_002 b
    → IsEgoOf c p (record { problem = p.id; e = record { a = a; v = v }; grid = record { w = w; g = g }; s = record { p = record { x = x; y = y }; b = b } })
ego_is c p a v w g x y s t b range place a_is v_is w_is g_is x_is y_is s_is t_is b_is holds small =
    let speed = thousand c.ego_speed 1 100 v v_is range.ego_speed.0 range.ego_speed.1 in
    let columns = thousand c.cell_x 100 100_000 w w_is range.cell_x.0 range.cell_x.1 in
    let rows = thousand c.cell_y 100 100_000 g g_is range.cell_y.0 range.cell_y.1 in
    let acc = range.ego_acc in
    let px = place.x in
    let py = place.y in
    let s0 = speed.0 in
    let s1 = speed.1 in
    record {
      problem = refl;
      course = λ scenario. rw (a_is, v_is, w_is, g_is, x_is, y_is, b_is, s_is, t_is) refl;
      start = record { x = omega (arith, ints, x_is, px); y = omega (arith, ints, y_is, py); box = wider };
      bounds = record {
        a = record { low = omega (arith, ints, a_is, acc); high = omega (arith, ints, a_is, acc) };
        v = record { low = omega (arith, ints, s0); high = omega (arith, ints, s1) };
      };
      grid = record { w = record { low = columns.0; high = columns.1 }; g = record { low = rows.0; high = rows.1 } };
      velocities = λ vx vy h. rw (s_is, t_is) at (velocity vx vy) h;
    }
  where
    velocity : (vx vy : ℤ) → IsStartVelocity s t vx vy → InBox (start_box s t) (at vx vy)
    velocity vx vy h = subst (λ (z : VBox). InBox z (at vx vy)) b_is (holds vx vy h)

    size : (z : ℤ) → nat_abs z ≤ 400_002 → nat_abs z ≤ 900_000
    size z h = omega (arith, h)

    wider : IsBoxWithin 900_000 b
    wider = record { x_ordered = small.x_ordered; y_ordered = small.y_ordered; xlo = size b.xlo small.xlo; xhi = size b.xhi small.xhi; ylo = size b.ylo small.ylo; yhi = size b.yhi small.yhi }

-- the ego fits its bound where the problem is slow enough
pub slow_of : (s : Scenario) (c : Command) (p : Problem) (e : EgoLine) → IsEgoOf c p e → FitsBound e.s.b e.e.v → IsSlowEnough c p
slow_of s c p e is fits = subst (λ (course : Course). FitsBound course.b course.v) (is.course s) fits

pub fits_of : (s : Scenario) (c : Command) (p : Problem) (e : EgoLine) → IsEgoOf c p e → IsSlowEnough c p → FitsBound e.s.b e.e.v
fits_of s c p e is slow = subst (λ (course : Course). FitsBound course.b course.v) (sym (is.course s)) slow
