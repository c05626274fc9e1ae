-- The drawing of a command: what it is, and what it tells.
use Rattle.std.proofs.Common.{◌≡◌, ◌∙◌, inl, ℕ, List, [], Option, length, sym, ap, ap₂, subst, append-nil}
use Rattle.std.specs.Io.KnownBytes.{Appends}
use Rattle.spot_terms.specs.BaseSets.{SetValue}
use Rattle.spot_terms.specs.Causes.{AppendsFront}
use Rattle.spot_terms.specs.Courses.{Course}
use Rattle.spot_terms.specs.Ranges.{IsCommandInRange}
use Rattle.spot_terms.specs.RowBoxes.{IsWithinArea}
use Rattle.spot_terms.specs.StepLists.{AreStepLists}
use Rattle.spot_terms.specs.Tasks.{PredictsTraffic, FindsArea}
use Rattle.spot_terms.specs.declared.command.Command.{Command}
use Rattle.spot_terms.specs.declared.command.Task.{Task}
use Rattle.spot_terms.specs.declared.command.Task.TheVariants.{Draw}
use Rattle.spot_terms.specs.declared.scenario.Scenario.{Scenario}
use Rattle.spot_terms.specs.declared.status.Status.{Status}
use Rattle.spot_terms.specs.declared.status.Status.TheVariants.{WriteFault}
use Rattle.base_sets.specs.Values.{course_with}
use Rattle.participants.specs.Pieces.{pieces_at}
use Rattle.participants.specs.Predictions.{Occupancies}
use Rattle.text_report.specs.declared.ego_line.EgoLine.{EgoLine}
use Rattle.area_run.specs.Plans.{course_of, plan_with}
use Rattle.area_run.specs.Running.{Stand, IsOpened}
use Rattle.area_run.specs.declared.plan.Plan.{Plan}
use Rattle.spot_claims.specs.Headline.{ClaimsOf}
use Rattle.spot_claims.specs.Outputs.{IsOutputOf, IsOutput, status_of}
use Rattle.area_report.specs.Areas.{StandsAtLast}
use Rattle.area_report.specs.Egos.{HasEgo}
use Rattle.spot_run.specs.Areas.{count_at, hits_at, range_at, CanOpen, IsPastArea, StatusAt}
use Rattle.spot_run.specs.Drawings.{drawing_at}
use Rattle.spot_run.specs.Tells.{TakesFor, HasClaims, Tells}
use Rattle.spot_run.specs.Writes.{IsPredicted, IsPastLimit}
use Rattle.spot_run.proofs.AreaTells.{to_run, past_tells, status_is, done_tells, passes_problem}
use Rattle.spot_run.proofs.Causes.{draw_status}
use Rattle.spot_run.proofs.OverTraffic as traffic
use Rattle.spot_run.proofs.Predictions.{limit_tells}

-- ---- of the task that draws

pub draw_finds : (c : Command) → c.task ≡ Draw → FindsArea c.task
draw_finds c task = subst FindsArea (sym task) tt

pub draw_predicts : (c : Command) → c.task ≡ Draw → PredictsTraffic c.task
draw_predicts c task = subst PredictsTraffic (sym task) tt

-- of traffic that passes a limit
pub traffic_tells : (s : Scenario) (c : Command) → c.task ≡ Draw → (e : EgoLine) (before after : Option (List ℕ)) (status : Status) → HasEgo s c e → IsPastLimit s c.steps status → Tells s c before after status
traffic_tells s c task e before after status ego h = limit_tells s c before after status (passes_problem s c e ego) (draw_predicts c task) h

-- ---- of a run that was opened over a prediction, and went to its last step

module _ (s : Scenario) (e : EgoLine) (o : Occupancies) (steps : ℕ) (r now : Stand Occupancies) (opened : IsOpened o (plan_with e.s e.e e.grid s.step) steps (count_at o) (hits_at o) r) where
  pub last_of : StandsAtLast (course_of r.plan) (count_at r.o) (hits_at r.o) r.steps now.at now.sets → StandsAtLast (course_with e.s e.e e.grid s.step) (count_at o) (hits_at o) steps now.at now.sets
  last_of h = to_run count_at hits_at s e o steps r opened (λ (p : Plan) (x : Occupancies) (n : ℕ). StandsAtLast (course_of p) (count_at x) (hits_at x) n now.at now.sets) h

  pub drawing_is : now.o ≡ r.o → now.plan ≡ r.plan → drawing_at (course_of now.plan) now.o now.at now.sets ≡ drawing_at (course_with e.s e.e e.grid s.step) o now.at now.sets
  drawing_is pieces plan = ap₂ (λ (p : Plan) (x : Occupancies). drawing_at (course_of p) x now.at now.sets) (plan ∙ opened.plan_is) (pieces ∙ opened.pieces)

-- ---- over the prediction of the scenario, where a run stands at its last step

module _ (s : Scenario) (c : Command) (task : c.task ≡ Draw) (e : EgoLine) (o : Occupancies) (ego : HasEgo s c e) (predicted : IsPredicted s c.steps o) where
  pub opens : IsCommandInRange c → CanOpen s o.steps 40_000_000_000_000 e c.steps
  opens few = traffic.can_open s c e o ego predicted few

  -- of an area that passes a limit
  pub limit_passed_tells : (before after : Option (List ℕ)) (status : Status) → IsPastArea (course_with e.s e.e e.grid s.step) (count_at o) (range_at o) c.steps status → Tells s c before after status
  limit_passed_tells before after status h =
      past_tells s c e ego (pieces_at o) (traffic.pieces_are s c (draw_finds c task) (draw_predicts c task) e o ego predicted) (traffic.passes_to_area s c (draw_finds c task) (draw_predicts c task) e o ego predicted) before after status h

  module _ (at : ℕ) (sets : List SetValue) (last : StandsAtLast (course_with e.s e.e e.grid s.step) (count_at o) (hits_at o) c.steps at sets) where
    is_output : IsOutput s c (drawing_at (course_with e.s e.e e.grid s.step) o at sets) last.end
    is_output = subst (λ (t : Task). IsOutputOf t s c (drawing_at (course_with e.s e.e e.grid s.step) o at sets) last.end) (sym task) (record {
      problem = ego.problem;
      pieces = pieces_at o;
      lists = last.lists;
      run = record {
        chosen = ego.is_chosen;
        pieces_are = traffic.pieces_are s c (draw_finds c task) (draw_predicts c task) e o ego predicted;
        lists_are = subst (λ (course : Course). AreStepLists course (count_at o) (hits_at o) c.steps last.lists last.end) (ego.is.course s) last.lists_are;
      };
      last = at;
      last_is = last.last_is;
      sets = sets;
      sets_are = last.sets_are;
      text_is = ap (λ (course : Course). drawing_at course o at sets) (ego.is.course s);
    })

    -- a drawing claims nothing of lines
    no_claims : (text : List ℕ) → HasClaims s c text
    no_claims text lines is = subst (λ (t : Task). ClaimsOf t s c lines) (sym task) tt

    status_same : (status : Status) → StatusAt at sets status → status ≡ status_of c.task last.end
    status_same status is = status_is at sets last.end status last.end_is is ∙ sym (draw_status last.end) ∙ ap (λ (t : Task). status_of t last.end) (sym task)

    module _ (within : IsWithinArea (course_with e.s e.e e.grid s.step) (count_at o) (range_at o) c.steps) where
      -- what can take each output can take the drawing
      pub drawing_room : (can : ℕ → Type 0) → TakesFor s c can → can (length (drawing_at (course_with e.s e.e e.grid s.step) o at sets))
      drawing_room can takes =
          takes (drawing_at (course_with e.s e.e e.grid s.step) o at sets) (traffic.passes_all s c (draw_finds c task) (draw_predicts c task) e o ego predicted within) (inl (last.end, is_output))

      -- of a fault of writing
      pub fault_tells : (before after : Option (List ℕ)) → AppendsFront before after (drawing_at (course_with e.s e.e e.grid s.step) o at sets) → Tells s c before after WriteFault
      fault_tells before after (front, back, text_is, app) = record {
        passes = traffic.passes_all s c (draw_finds c task) (draw_predicts c task) e o ego predicted within;
        pieces = λ finds. traffic.some_pieces s c (draw_finds c task) (draw_predicts c task) e o ego predicted;
        text = drawing_at (course_with e.s e.e e.grid s.step) o at sets;
        output = inl (last.end, is_output);
        front = front;
        back = back;
        text_is = text_is;
        appends = app;
        whole = λ done. absurd done;
        claims = λ done. absurd done;
      }

      -- of a whole drawing
      pub drawn_tells : (before after : Option (List ℕ)) (status : Status) → Appends before after (drawing_at (course_with e.s e.e e.grid s.step) o at sets) → StatusAt at sets status → Tells s c before after status
      drawn_tells before after status app is = done_tells s c before after at sets status is (record {
        passes = traffic.passes_all s c (draw_finds c task) (draw_predicts c task) e o ego predicted within;
        pieces = λ finds. traffic.some_pieces s c (draw_finds c task) (draw_predicts c task) e o ego predicted;
        text = drawing_at (course_with e.s e.e e.grid s.step) o at sets;
        output = inl (last.end, is_output);
        front = drawing_at (course_with e.s e.e e.grid s.step) o at sets;
        back = [];
        text_is = append-nil (drawing_at (course_with e.s e.e e.grid s.step) o at sets);
        appends = app;
        whole = λ done. record { ends = last.end; output = is_output; status_is = status_same status is };
        claims = λ done. no_claims (drawing_at (course_with e.s e.e e.grid s.step) o at sets);
      })
