-- What is written is tight: this follows from what it is.
use Rattle.std.proofs.Common.{◌≡◌, ◌∙◌, ℕ, ◌*◌, ◌≤◌, arith, refl, sym, subst, List}
use Rattle.std.proofs.lemmas.Int.{ints}
use lib.IntN.{ℤ, pos}
use lib.Signed.{◌<ℤ◌}
use Rattle.spot_terms.specs.Ranges.{IsCommandInRange}
use Rattle.spot_terms.specs.Tasks.{FindsArea}
use Rattle.spot_terms.specs.TwoSided.{IsUsable}
use Rattle.spot_terms.specs.declared.command.Command.{Command}
use Rattle.spot_terms.specs.declared.command.Task.{Task}
use Rattle.spot_terms.specs.declared.command.Task.TheVariants.{Predict, Area, Replay, Draw, Sample}
use Rattle.spot_terms.specs.declared.lines.End.{End}
use Rattle.spot_terms.specs.declared.scenario.Problem.{Problem}
use Rattle.spot_terms.specs.declared.scenario.Scenario.{Scenario}
use Rattle.spot_terms.proofs.Unique.{some_one}
use Rattle.round_out.proofs.FrameExcess.{rounding_laws}
use Rattle.fair_sets.proofs.Runs.{lists_two_sided}
use Rattle.spot_claims.specs.Outcomes.{PassesAll}
use Rattle.spot_claims.specs.Outputs.{IsOutput, IsOutputOf}
use Rattle.spot_claims.specs.Problems.{chosen, course_of, IsChosen, IsSlowEnough}
use Rattle.spot_claims.specs.Tight.{IsTightOf}

kilometres : (n : ℕ) → 100 ≤ n → pos 0 <ℤ pos (1000 * n)
kilometres n h = omega (arith, ints, h)

module _ (s : Scenario) (c : Command) (few : IsCommandInRange c) (passes : PassesAll s c) where
  -- the problem that is chosen is slow enough
  slow : FindsArea c.task → (p : Problem) → IsChosen s c p → IsSlowEnough c p
  slow finds p is =
      let (q, is_chosen, at_start, slow_enough) = passes.passing.problem finds in
      subst (IsSlowEnough c) (some_one (chosen c.problem s.problems) q p is_chosen is) slow_enough

  usable : FindsArea c.task → (p : Problem) → IsChosen s c p → IsUsable (course_of s c p)
  usable finds p is = record {
    accelerates = few.ego_acc.0;
    ticks = s.in_range.step_low;
    columns = kilometres c.cell_x few.cell_x.0;
    rows = kilometres c.cell_y few.cell_y.0;
    fits = slow finds p is;
  }

  of_task : (task : Task) (text : List ℕ) (ends : End) → c.task ≡ task → IsOutputOf task s c text ends → IsTightOf task s c text
  of_task Predict text ends e h = h.0
  of_task Area text ends e h =
      let r = h.report in record {
        lines = h.lines;
        report = record { end = ends; report = r; two_sided = lists_two_sided rounding_laws (course_of s c r.problem) r.pieces c.steps r.lists ends (usable (subst FindsArea (sym e) tt) r.problem r.run.chosen) r.run.lists_are };
        fits = h.fits;
        text_is = h.text_is;
      }
  of_task Replay text ends e h =
      let r = h.report in record {
        lines = h.lines;
        report = record { end = ends; report = r; two_sided = lists_two_sided rounding_laws (course_of s c r.problem) r.pieces c.steps r.lists ends (usable (subst FindsArea (sym e) tt) r.problem r.run.chosen) r.run.lists_are };
        fits = h.fits;
        text_is = h.text_is;
      }
  of_task Draw text ends e h = tt
  of_task Sample text ends e h = tt

  pub output_tight : (text : List ℕ) (ends : End) → IsOutput s c text ends → IsTightOf c.task s c text
  output_tight text ends h = of_task c.task text ends refl h
