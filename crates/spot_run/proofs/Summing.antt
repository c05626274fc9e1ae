-- The summary of a made scenario, and what it tells of its command.
use Rattle.std.proofs.Common.{◌≡◌, ◌∙◌, inl, ℕ, ◌++◌, ◌≤◌, List, [], length, Option, refl, sym, ap, ap₂, subst, append-nil, ℤ}
use Rattle.std.specs.Prelude.{sum_by}
use Rattle.std.specs.Io.KnownBytes.{Appends}
use Rattle.spot_terms.specs.Cells.{cells}
use Rattle.spot_terms.specs.Causes.{AppendsFront}
use Rattle.spot_terms.specs.Courses.{Course}
use Rattle.spot_terms.specs.Participants.{HasPairs}
use Rattle.spot_terms.specs.StepLists.{AreStepLists}
use Rattle.spot_terms.specs.Summaries.{summary_text}
use Rattle.spot_terms.specs.Tasks.{PredictsTraffic, FindsArea}
use Rattle.spot_terms.specs.declared.command.Command.{Command}
use Rattle.spot_terms.specs.declared.command.Task.{Task}
use Rattle.spot_terms.specs.declared.command.Task.TheVariants.{Sample}
use Rattle.spot_terms.specs.declared.limits.TheConstants.{MOST_LANE_POLYGONS}
use Rattle.spot_terms.specs.declared.lines.End.{End}
use Rattle.spot_terms.specs.declared.scenario.Scenario.{Scenario}
use Rattle.spot_terms.specs.declared.status.Status.{Status}
use Rattle.spot_terms.specs.declared.status.Status.TheVariants.{Open, Empty, WriteFault}
use Rattle.spot_claims.specs.Headline.{ClaimsOf}
use Rattle.spot_claims.specs.Outputs.{IsOutputOf, IsOutput, IsWritten, status_of}
use Rattle.base_sets.specs.Values.{course_with}
use Rattle.participants.specs.Pieces.{pieces_at}
use Rattle.participants.specs.Predictions.{Occupancies}
use Rattle.participants.proofs.Pairs.{polygons_of, pairs_of}
use Rattle.text_report.specs.Summaries.{value_of}
use Rattle.text_report.specs.declared.ego_line.EgoLine.{EgoLine}
use Rattle.text_report.specs.declared.summary.Summary.{Summary}
use Rattle.area_report.specs.Egos.{HasEgo, IsProblemFault}
use Rattle.area_report.specs.declared.total.Total.{Total}
use Rattle.spot_run.specs.Areas.{count_at, hits_at, range_at, IsPastArea}
use Rattle.spot_run.specs.Samples.{text_of, IsTotalOver, IsSummed, IsStopped}
use Rattle.spot_run.specs.Tells.{TakesFor, HasClaims, Tells}
use Rattle.spot_run.specs.Writes.{IsPredicted, IsPastLimit}
use Rattle.spot_run.proofs.AreaTells.{passes_problem, problem_tells, past_tells}
use Rattle.spot_run.proofs.OverTraffic as traffic
use Rattle.spot_run.proofs.Predictions.{limit_tells}

module _ (c : Command) (task : c.task ≡ Sample) where
  pub sample_finds : FindsArea c.task
  sample_finds = subst FindsArea (sym task) tt

  pub sample_predicts : PredictsTraffic c.task
  sample_predicts = subst PredictsTraffic (sym task) tt

  -- nothing is claimed of a summary's text
  no_claims : (s : Scenario) (text : List ℕ) → HasClaims s c text
  no_claims s text = λ lines same. subst (λ (t : Task). ClaimsOf t s c lines) (sym task) tt

  opens : (ends : End) → Open ≡ status_of c.task ends
  opens ends = subst (λ (t : Task). Open ≡ status_of t ends) (sym task) refl

  module _ (s : Scenario) (summary : Summary) (h : IsSummed s c (length (text_of c)) summary) where
    is_output : IsOutput s c (summary_text (value_of summary)) summary.end
    is_output = subst (λ (t : Task). IsOutputOf t s c (summary_text (value_of summary)) summary.end) (sym task) h.is

    -- what can take each output can take the summary
    pub summary_room : (can : ℕ → Type 0) → TakesFor s c can → can (length (summary_text (value_of summary)))
    summary_room can takes = takes (summary_text (value_of summary)) h.passes (inl (summary.end, is_output))

    pub summary_tells : (before after : Option (List ℕ)) → Appends before after (summary_text (value_of summary)) → Tells s c before after Open
    summary_tells before after app = record {
      passes = h.passes;
      pieces = λ _. h.pieces;
      text = summary_text (value_of summary);
      output = inl (summary.end, is_output);
      front = summary_text (value_of summary);
      back = [];
      text_is = append-nil (summary_text (value_of summary));
      appends = app;
      whole = λ _. record { ends = summary.end; output = is_output; status_is = opens summary.end };
      claims = λ _. no_claims s (summary_text (value_of summary));
    }

    pub front_tells : (before after : Option (List ℕ)) → AppendsFront before after (summary_text (value_of summary)) → Tells s c before after WriteFault
    front_tells before after (front, back, text_is, app) = record {
      passes = h.passes;
      pieces = λ _. h.pieces;
      text = summary_text (value_of summary);
      output = inl (summary.end, is_output);
      front = front;
      back = back;
      text_is = text_is;
      appends = app;
      whole = λ done. absurd done;
      claims = λ done. absurd done;
    }

-- ---- the summary of a run over a prediction

module _ (s : Scenario) (c : Command) (task : c.task ≡ Sample) (e : EgoLine) (ego : HasEgo s c e) (o : Occupancies) (predicted : IsPredicted s c.steps o) where
  pub summed : (bytes cell_count polygons : ℕ) (total : Total) → cell_count ≡ length (cells s.lanelets.entries) → polygons ≡ sum_by polygons_of o.participants → IsTotalOver s c.steps e o total
      → IsSummed s c bytes (record { seed = c.seed; lanes = c.lanes; movers = c.movers; bytes = bytes; cells = cell_count; polygons = polygons; sets = total.sets; end = total.end })
  summed bytes cell_count polygons total cells_are polygons_are h = record {
    passes = traffic.passes_all s c (sample_finds c task) (sample_predicts c task) e o ego predicted h.within;
    pieces = traffic.some_pieces s c (sample_finds c task) (sample_predicts c task) e o ego predicted;
    is = record {
      problem = ego.problem;
      pieces = pieces_at o;
      lists = h.total_is.lists;
      run = record {
        chosen = ego.is_chosen;
        pieces_are = traffic.pieces_are s c (sample_finds c task) (sample_predicts c task) e o ego predicted;
        lists_are = subst (λ (course : Course). AreStepLists course (count_at o) (hits_at o) c.steps h.total_is.lists total.end) (ego.is.course s) h.total_is.lists_are;
      };
      polygons = polygons;
      polygons_are = subst (HasPairs s c.steps) (sym polygons_are) (pairs_of s c.steps o predicted.is);
      text_is = ap₂ (λ (n k : ℕ). summary_text (record { seed = c.seed; lanes = c.lanes; movers = c.movers; bytes = bytes; cells = n; polygons = polygons; sets = k; end = total.end })) cells_are h.total_is.sets_are;
    };
  }

  -- the polygons are few enough
  pub few_polygons : sum_by polygons_of o.participants ≤ MOST_LANE_POLYGONS
  few_polygons = predicted.pairs (sum_by polygons_of o.participants) (pairs_of s c.steps o predicted.is)

  -- ---- a limit that is passed

  area_unwritten : (course : Course) (count : ℕ → ℕ) (range : ℕ → ℕ → ℤ × ℤ) (n : ℕ) (status : Status) → IsPastArea course count range n status → IsWritten status → ⊥
  area_unwritten course count range n Open h w = h
  area_unwritten course count range n (Empty i) h w = h
  area_unwritten course count range n WriteFault h w = h
  area_unwritten course count range n status h w = w

  pub area_stops : (status : Status) → IsPastArea (course_with e.s e.e e.grid s.step) (count_at o) (range_at o) c.steps status → IsStopped s c status
  area_stops status h = record {
    tells = λ before after. past_tells s c e ego (pieces_at o) (traffic.pieces_are s c (sample_finds c task) (sample_predicts c task) e o ego predicted) (traffic.passes_to_area s c (sample_finds c task) (sample_predicts c task) e o ego predicted) before after status h;
    unwritten = area_unwritten (course_with e.s e.e e.grid s.step) (count_at o) (range_at o) c.steps status h;
  }

module _ (s : Scenario) (c : Command) (task : c.task ≡ Sample) where
  problem_unwritten : (status : Status) → IsProblemFault s c status → IsWritten status → ⊥
  problem_unwritten Open h w = h
  problem_unwritten (Empty i) h w = h
  problem_unwritten WriteFault h w = h
  problem_unwritten status h w = w

  pub problem_stops : (status : Status) → IsProblemFault s c status → IsStopped s c status
  problem_stops status h = record { tells = λ before after. problem_tells s c (sample_finds c task) before after status h; unwritten = problem_unwritten status h }

  limit_unwritten : (steps : ℕ) (status : Status) → IsPastLimit s steps status → IsWritten status → ⊥
  limit_unwritten steps Open h w = h
  limit_unwritten steps (Empty i) h w = h
  limit_unwritten steps WriteFault h w = h
  limit_unwritten steps status h w = w

  pub limit_stops : (e : EgoLine) (status : Status) → HasEgo s c e → IsPastLimit s c.steps status → IsStopped s c status
  limit_stops e status ego h = record { tells = λ before after. limit_tells s c before after status (passes_problem s c e ego) (sample_predicts c task) h; unwritten = limit_unwritten c.steps status h }

-- a stopped run is no write fault
pub stopped_no_fault : (s : Scenario) (c : Command) (status : Status) → IsStopped s c status → status ≡ WriteFault → ⊥
stopped_no_fault s c status h e = h.unwritten (subst IsWritten (sym e) tt)
