-- What a prediction that was written tells of its command.
use Rattle.std.proofs.Common.{◌≡◌, inl, inr, ℕ, ◌++◌, ◌∷◌, List, [], Option, refl, sym, subst, append-nil}
use Rattle.spot_terms.specs.Ids.{HaveUniqueIds}
use Rattle.spot_terms.specs.Ranges.{IsCommandInRange}
use Rattle.spot_terms.specs.Report.{last_line}
use Rattle.spot_terms.specs.Tasks.{PredictsTraffic, FindsArea}
use Rattle.spot_terms.specs.declared.command.Command.{Command}
use Rattle.spot_terms.specs.declared.command.Task.{Task}
use Rattle.spot_terms.specs.declared.command.Task.TheVariants.{Predict}
use Rattle.spot_terms.specs.declared.lines.End.TheVariants as end
use Rattle.spot_terms.specs.declared.lines.Mode.TheVariants as mode
use Rattle.spot_terms.specs.declared.scenario.Scenario.{Scenario}
use Rattle.spot_terms.specs.declared.status.Status.{Status}
use Rattle.spot_terms.specs.declared.status.Status.TheVariants.{Open, Empty, Limit, WriteFault, Memory}
use Rattle.spot_terms.specs.declared.status.Which.TheVariants.{TooManyCells, LaneTooWide, TooManyLanePolygons}
use Rattle.spot_claims.specs.Headline.{ClaimsOf}
use Rattle.spot_claims.specs.Outcomes.{PassesAll}
use Rattle.spot_claims.specs.Outputs.{IsOutputOf, IsOutput, status_of}
use Rattle.spot_claims.specs.Stages.{IsWithinTraffic, PassesToNetwork}
use Rattle.participants.specs.Predictions.{Occupancies}
use Rattle.spot_run.specs.Lines.{traffic_lines, prediction_lines}
use Rattle.spot_run.specs.Tells.{TakesFor, ClaimsIn, Tells}
use Rattle.spot_run.specs.Writes.{report_of, IsPredicted, IsPastLimit, TakesPrediction, WritesPrediction}
use Rattle.spot_run.proofs.Alone.{IsOther, AreOthers}
use Rattle.spot_run.proofs.Claims.{has_claims}
use Rattle.spot_run.proofs.Covers.{traffic_covers}
use Rattle.spot_run.proofs.Fits.{fits_report}
use Rattle.spot_run.proofs.Reports.{predict_report}

-- ---- limits of traffic

pub within_traffic : (s : Scenario) (c : Command) (o : Occupancies) → IsPredicted s c.steps o → IsWithinTraffic s c
within_traffic s c o predicted = record { network = predicted.network; pairs = predicted.pairs }

pub limit_tells : (s : Scenario) (c : Command) (before after : Option (List ℕ)) (status : Status) → PassesToNetwork s c → PredictsTraffic c.task → IsPastLimit s c.steps status → Tells s c before after status
limit_tells s c before after (Limit TooManyCells step count) passing predicts h = (h.0, record { passing = passing; predicts = predicts; count_is = h.1; many = h.2 })
limit_tells s c before after (Limit LaneTooWide step id) passing predicts h = (h.0, record { passing = passing; predicts = predicts; few = h.1; first = h.2 })
limit_tells s c before after (Limit TooManyLanePolygons step count) passing predicts h = (h.0, record { passing = passing; predicts = predicts; network = h.1; count_is = h.2; many = h.3 })
limit_tells s c before after Memory passing predicts h = tt
limit_tells s c before after status passing predicts h = absurd h

-- ---- of the task that predicts alone

done_is_other : AreOthers (last_line end.Done ∷ [])
done_is_other l (inl e) = subst IsOther (sym e) tt
done_is_other l (inr i) = absurd i

module _ (s : Scenario) (c : Command) (task : c.task ≡ Predict) where
  predicts : PredictsTraffic c.task
  predicts = subst PredictsTraffic (sym task) tt

  finds_none : FindsArea c.task → ⊥
  finds_none h = subst FindsArea task h

  passes : PassesToNetwork s c
  passes = record { problem = λ finds. absurd (finds_none finds) }

  passes_all : (o : Occupancies) → IsPredicted s c.steps o → PassesAll s c
  passes_all o predicted = record { passing = passes; within = record { traffic = λ _. within_traffic s c o predicted; area = λ finds. absurd (finds_none finds) } }

  module _ (few : IsCommandInRange c) where
    is_output : (o : Occupancies) → IsPredicted s c.steps o → IsOutput s c (report_of s c.steps o) end.Done
    is_output o predicted = subst (λ (t : Task). IsOutputOf t s c (report_of s c.steps o) end.Done) (sym task) (
      record {
        lines = prediction_lines s.step c.steps s.movers o;
        report = predict_report s c o predicted.is;
        fits = fits_report mode.Predict s c.steps o (last_line end.Done ∷ []) few.steps.1 predicted (tt, tt);
        text_is = refl;
      },
      refl,
    )

    -- what can take each output can take the prediction
    pub predict_room : (can : ℕ → Type 0) → TakesFor s c can → TakesPrediction s c.steps can
    predict_room can takes = λ o predicted. takes (report_of s c.steps o) (passes_all o predicted) (inl (end.Done, is_output o predicted))

    claims_in : (o : Occupancies) → HaveUniqueIds s → IsPredicted s c.steps o → ClaimsIn s c (report_of s c.steps o)
    claims_in o ids predicted = record {
      lines = prediction_lines s.step c.steps s.movers o;
      text_is = refl;
      claims = subst (λ (t : Task). ClaimsOf t s c (prediction_lines s.step c.steps s.movers o)) (sym task) (
        record { rest = traffic_lines s.movers o ++ last_line end.Done ∷ []; lines_are = refl },
        traffic_covers mode.Predict (last_line end.Done ∷ []) done_is_other s c o ids predicted,
      );
    }

    opens : status_of c.task end.Done ≡ Open
    opens = subst (λ (t : Task). status_of t end.Done ≡ Open) (sym task) refl

    pub predict_tells : (before after : Option (List ℕ)) (status : Status) → HaveUniqueIds s → WritesPrediction s c.steps before after status → Tells s c before after status
    predict_tells before after Open ids (o, predicted, app) = record {
      passes = passes_all o predicted;
      pieces = λ finds. absurd (finds_none finds);
      text = report_of s c.steps o;
      output = inl (end.Done, is_output o predicted);
      front = report_of s c.steps o;
      back = [];
      text_is = append-nil (report_of s c.steps o);
      appends = app;
      whole = λ done. record { ends = end.Done; output = is_output o predicted; status_is = sym opens };
      claims = λ done. has_claims s c (report_of s c.steps o) (claims_in o ids predicted);
    }
    predict_tells before after WriteFault ids (o, predicted, (front, back, text, app)) = record {
      passes = passes_all o predicted;
      pieces = λ finds. absurd (finds_none finds);
      text = report_of s c.steps o;
      output = inl (end.Done, is_output o predicted);
      front = front;
      back = back;
      text_is = text;
      appends = app;
      whole = λ done. absurd done;
      claims = λ done. absurd done;
    }
    predict_tells before after (Empty i) ids h = absurd h
    predict_tells before after (Limit which step count) ids h = limit_tells s c before after (Limit which step count) passes predicts h
    predict_tells before after status ids h = limit_tells s c before after status passes predicts h
