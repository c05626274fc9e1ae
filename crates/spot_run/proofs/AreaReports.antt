-- The area of a command: that all stages are passed, and what its report is and claims.
use Rattle.std.proofs.Common.{◌≡◌, ◌∙◌, inl, inr, ℕ, ◌≤◌, List, [], ◌∷◌, ◌++◌, length, Option, refl, sym, ap, ap₂, subst, append_assoc}
use Rattle.spot_terms.specs.BaseSets.{SetValue}
use Rattle.spot_terms.specs.Courses.{Course}
use Rattle.spot_terms.specs.Ids.{HaveUniqueIds}
use Rattle.spot_terms.specs.Pieces.{Hits}
use Rattle.spot_terms.specs.Ranges.{IsCommandInRange}
use Rattle.spot_terms.specs.Report.{Line, EgoValue, ego_line, last_line, report_text, FitsLine, IsReport}
use Rattle.spot_terms.specs.StepLists.{AreStepLists}
use Rattle.spot_terms.specs.Tasks.{PredictsTraffic, FindsArea}
use Rattle.spot_terms.specs.declared.command.Command.{Command}
use Rattle.spot_terms.specs.declared.command.Task.{Task}
use Rattle.spot_terms.specs.declared.command.Task.TheVariants.{Area}
use Rattle.spot_terms.specs.declared.lines.End.{End}
use Rattle.spot_terms.specs.declared.lines.Mode.TheVariants as mode
use Rattle.spot_terms.specs.declared.scenario.Scenario.{Scenario}
use Rattle.spot_terms.specs.declared.status.Status.{Status}
use Rattle.base_sets.specs.Values.{course_with}
use Rattle.participants.specs.Pieces.{pieces_at}
use Rattle.participants.specs.Predictions.{Occupancies}
use Rattle.text_report.specs.Values.{ego_value}
use Rattle.text_report.specs.declared.ego_line.EgoLine.{EgoLine}
use Rattle.text_report.proofs.ReportLines.{report_text-append}
use Rattle.spot_claims.specs.AreaOf.{ArePieces, lines_from, area_lines, lines_so_far, IsAreaReport, IsAreaBeginning, AreListsSoFar}
use Rattle.spot_claims.specs.Headline.{ClaimsOf}
use Rattle.spot_claims.specs.Outputs.{IsOutputOf, IsOutput, IsBeginningOf, IsOutputSoFar, status_of}
use Rattle.spot_claims.specs.Problems.{course_of, ego_of}
use Rattle.spot_claims.proofs.AreaCovers.{area_covers}
use Rattle.area_report.specs.Areas.{AreShort, text_so_far, whole_text, IsStepsText, AllHold}
use Rattle.area_report.specs.Egos.{HasEgo}
use Rattle.area_report.proofs.Egos.{chosen_in_range, fits_of}
use Rattle.area_report.proofs.FitsSteps.{IsCourse, DiscsFit}
use Rattle.spot_run.specs.Areas.{count_at, hits_at, CanOpen, opening_text}
use Rattle.spot_run.specs.Lines.{traffic_lines, opening_lines, report_lines}
use Rattle.spot_run.specs.Tells.{ClaimsIn, Tells}
use Rattle.spot_run.specs.Writes.{IsPredicted, IsPastLimit}
use Rattle.spot_run.proofs.AreaLines.{area_others, ego_fits, is_course, begun_fits, all_fits}
use Rattle.spot_run.proofs.Covers.{traffic_covers}
use Rattle.spot_run.proofs.Fits.{fits_report}
use Rattle.spot_run.proofs.AreaTells.{IsOver, passes_problem}
use Rattle.spot_run.proofs.OverTraffic as traffic
use Rattle.spot_run.proofs.Predictions.{limit_tells}
use Rattle.spot_run.proofs.Reports.{is_traffic}

-- ---- of the task that finds the area

pub area_finds : (c : Command) → c.task ≡ Area → FindsArea c.task
area_finds c task = subst FindsArea (sym task) tt

pub area_predicts : (c : Command) → c.task ≡ Area → PredictsTraffic c.task
area_predicts c task = subst PredictsTraffic (sym task) tt

-- ---- one text behind another

pub two_texts : (a b : List Line) (x : Line) → report_text (a ++ x ∷ []) ++ report_text b ≡ report_text (a ++ x ∷ b)
two_texts a b x = sym (report_text-append (a ++ x ∷ []) b) ∙ ap report_text (append_assoc a (x ∷ []) b)

-- the line of an ego by its problem's id and its course
abbrev pub line_value : ℕ → Course → EgoValue
line_value id course = record { problem = id; a = course.a; v = course.v; w = course.w; g = course.g; p = course.p; b = course.b }

-- ---- the ego of the command, and the prediction of the scenario

module _ (s : Scenario) (c : Command) (task : c.task ≡ Area) (e : EgoLine) (o : Occupancies) (ego : HasEgo s c e) (predicted : IsPredicted s c.steps o) where
  pub pieces_are : ArePieces s c (pieces_at o)
  pieces_are = traffic.pieces_are s c (area_finds c task) (area_predicts c task) e o ego predicted

  over_course : (P : Course → Type 0) → P (course_with e.s e.e e.grid s.step) → P (course_of s c ego.problem)
  over_course P h = traffic.over_course s c (area_finds c task) (area_predicts c task) e o ego predicted P h

  -- ---- the report

  same_ego : ego_value e ≡ ego_of ego.problem (course_of s c ego.problem)
  same_ego = ap₂ line_value ego.is.problem (ego.is.course s)

  no_discs : DiscsFit (λ i. []) c.steps
  no_discs i d within among = absurd among

  module _ (few : IsCommandInRange c) where
    pub can_open : CanOpen s o.steps 40_000_000_000_000 e c.steps
    can_open = traffic.can_open s c e o ego predicted few

    good_course : IsCourse (course_of s c ego.problem)
    good_course = over_course IsCourse (is_course e s.step ego.is.start ego.is.bounds ego.is.grid (s.in_range.step_low, s.in_range.step_high) (fits_of s c ego.problem e ego.is ego.slow))

    good_ego : FitsLine (ego_line (ego_of ego.problem (course_of s c ego.problem)))
    good_ego =
        let id = (chosen_in_range c.problem s.problems ego.problem ego.is_chosen s.in_range.each_problem).id in
        subst (λ (x : EgoValue). FitsLine (ego_line x)) same_ego (ego_fits e (subst (λ (n : ℕ). n ≤ 4_294_967_295) (sym ego.is.problem) id) ego.is.start ego.is.bounds ego.is.grid)

    -- the lines behind those of the traffic
    abbrev more_lines : List (List SetValue) → End → List Line
    more_lines lists ends = area_lines ego.problem (course_of s c ego.problem) (λ i. []) lists ends

    abbrev all_lines : List (List SetValue) → End → List Line
    all_lines lists ends = report_lines mode.Area s.step c.steps s.movers o (more_lines lists ends)

    abbrev first_lines : List (List SetValue) → List Line
    first_lines lists = report_lines mode.Area s.step c.steps s.movers o (lines_so_far ego.problem (course_of s c ego.problem) (λ i. []) lists)

    -- over the pieces of the prediction, in the course of the problem
    abbrev AreLists : List (List SetValue) → End → Type 0
    AreLists lists ends = AreStepLists (course_of s c ego.problem) (λ i. length (pieces_at o i)) (λ i. Hits (pieces_at o i)) c.steps lists ends

    abbrev AreFirst : List (List SetValue) → Type 0
    AreFirst lists = AreListsSoFar (course_of s c ego.problem) (λ i. length (pieces_at o i)) (λ i. Hits (pieces_at o i)) c.steps lists

    abbrev is_report : (lists : List (List SetValue)) (ends : End) → AreLists lists ends → IsAreaReport s c (all_lines lists ends) ends
    is_report lists ends are = record {
      traffic = traffic_lines s.movers o;
      traffic_is = is_traffic s c o predicted.is;
      problem = ego.problem;
      pieces = pieces_at o;
      lists = lists;
      run = record { chosen = ego.is_chosen; pieces_are = pieces_are; lists_are = are };
      lines_are = refl;
    }

    abbrev is_beginning : (lists : List (List SetValue)) → AreFirst lists → IsAreaBeginning s c (first_lines lists)
    is_beginning lists are = record {
      traffic = traffic_lines s.movers o;
      traffic_is = is_traffic s c o predicted.is;
      problem = ego.problem;
      pieces = pieces_at o;
      lists = lists;
      run = record { chosen = ego.is_chosen; pieces_are = pieces_are; lists_are = are };
      lines_are = refl;
    }

    -- ---- its text

    whole_is : (lists : List (List SetValue)) (ends : End) → opening_text s c.steps o e ++ whole_text (λ i. []) lists ends ≡ report_text (all_lines lists ends)
    whole_is lists ends =
        two_texts (opening_lines mode.Area s.step c.steps s.movers o) (lines_from (λ i. []) 0 lists ++ last_line ends ∷ []) (ego_line (ego_value e))
        ∙ ap (λ (x : EgoValue). report_text (opening_lines mode.Area s.step c.steps s.movers o ++ ego_line x ∷ (lines_from (λ i. []) 0 lists ++ last_line ends ∷ []))) same_ego

    first_is : (lists : List (List SetValue)) → opening_text s c.steps o e ++ text_so_far (λ i. []) lists ≡ report_text (first_lines lists)
    first_is lists =
        two_texts (opening_lines mode.Area s.step c.steps s.movers o) (lines_from (λ i. []) 0 lists) (ego_line (ego_value e))
        ∙ ap (λ (x : EgoValue). report_text (opening_lines mode.Area s.step c.steps s.movers o ++ ego_line x ∷ lines_from (λ i. []) 0 lists)) same_ego

    -- ---- the output

    pub whole_output : (lists : List (List SetValue)) (ends : End) → AreStepLists (course_with e.s e.e e.grid s.step) (count_at o) (hits_at o) c.steps lists ends → AreShort lists
        → IsOutput s c (opening_text s c.steps o e ++ whole_text (λ i. []) lists ends) ends
    whole_output lists ends are short =
        let over : AreLists lists ends = over_course (λ course. AreStepLists course (count_at o) (hits_at o) c.steps lists ends) are in
        subst (λ (t : Task). IsOutputOf t s c (opening_text s c.steps o e ++ whole_text (λ i. []) lists ends) ends) (sym task) (record {
          lines = all_lines lists ends;
          report = is_report lists ends over;
          fits = fits_all lists ends over short;
          text_is = whole_is lists ends;
        })
      where
        fits_all : (lists : List (List SetValue)) (ends : End) → AreLists lists ends → AreShort lists → IsReport (all_lines lists ends)
        fits_all lists ends over short = fits_report mode.Area s c.steps o (more_lines lists ends) few.steps.1 predicted
            (all_fits (course_of s c ego.problem) good_course (λ i. length (pieces_at o i)) (λ i. Hits (pieces_at o i)) c.steps few.steps.1 (λ i. []) no_discs (ego_of ego.problem (course_of s c ego.problem)) lists ends good_ego over short)

    first_output : (lists : List (List SetValue)) → AreListsSoFar (course_with e.s e.e e.grid s.step) (count_at o) (hits_at o) c.steps lists → AreShort lists
        → IsBeginningOf c.task s c (opening_text s c.steps o e ++ text_so_far (λ i. []) lists)
    first_output lists are short =
        let over : AreFirst lists = over_course (λ course. AreListsSoFar course (count_at o) (hits_at o) c.steps lists) are in
        subst (λ (t : Task). IsBeginningOf t s c (opening_text s c.steps o e ++ text_so_far (λ i. []) lists)) (sym task) (record {
          lines = first_lines lists;
          report = is_beginning lists over;
          fits = fits_report mode.Area s c.steps o (lines_so_far ego.problem (course_of s c ego.problem) (λ i. []) lists) few.steps.1 predicted
              (begun_fits (course_of s c ego.problem) good_course (λ i. length (pieces_at o i)) (λ i. Hits (pieces_at o i)) c.steps few.steps.1 (λ i. []) no_discs (ego_of ego.problem (course_of s c ego.problem)) lists good_ego over short);
          text_is = first_is lists;
        })

    -- the text of all steps, or of the first ones, is the output or a beginning of it
    pub output_so_far : (text : List ℕ) → IsStepsText (λ i. []) (course_with e.s e.e e.grid s.step) (count_at o) (hits_at o) c.steps text → IsOutputSoFar s c (opening_text s c.steps o e ++ text)
    output_so_far text (inl (lists, ends, are, short, is)) = subst (λ (x : List ℕ). IsOutputSoFar s c (opening_text s c.steps o e ++ x)) (sym is) (inl (ends, whole_output lists ends are short))
    output_so_far text (inr (lists, are, short, is)) = subst (λ (x : List ℕ). IsOutputSoFar s c (opening_text s c.steps o e ++ x)) (sym is) (inr (first_output lists are short))

    -- ---- its claims

    pub claims_in : (lists : List (List SetValue)) (ends : End) → HaveUniqueIds s → AreStepLists (course_with e.s e.e e.grid s.step) (count_at o) (hits_at o) c.steps lists ends
        → AllHold (course_with e.s e.e e.grid s.step) (count_at o) (hits_at o) c.steps lists → ClaimsIn s c (opening_text s c.steps o e ++ whole_text (λ i. []) lists ends)
    claims_in lists ends ids are hold =
        let over : AreLists lists ends = over_course (λ course. AreStepLists course (count_at o) (hits_at o) c.steps lists ends) are in
        record {
          lines = all_lines lists ends;
          text_is = whole_is lists ends;
          claims = subst (λ (t : Task). ClaimsOf t s c (all_lines lists ends)) (sym task) (
            record { rest = traffic_lines s.movers o ++ more_lines lists ends; lines_are = refl },
            traffic_covers mode.Area (more_lines lists ends) (area_others (ego_of ego.problem (course_of s c ego.problem)) lists ends) s c o ids predicted,
            area_covers s c (all_lines lists ends) ends (is_report lists ends over) task few.steps.0 ego.is.velocities (over_course (λ course. AllHold course (count_at o) (hits_at o) c.steps lists) hold),
          );
        }

    pub area_over : HaveUniqueIds s → IsOver s c e ego (opening_text s c.steps o e) (λ i. []) (pieces_at o)
    area_over ids = record {
      pieces_are = pieces_are;
      passing = traffic.passes_to_area s c (area_finds c task) (area_predicts c task) e o ego predicted;
      passes = traffic.passes_all s c (area_finds c task) (area_predicts c task) e o ego predicted;
      so_far = output_so_far;
      whole = whole_output;
      claims = λ lists ends are hold. claims_in lists ends ids are hold;
      status = λ ends. ap (λ (t : Task). status_of t ends) task;
    }

-- of traffic that passes a limit
pub traffic_tells : (s : Scenario) (c : Command) → c.task ≡ Area → (e : EgoLine) (before after : Option (List ℕ)) (status : Status) → HasEgo s c e → IsPastLimit s c.steps status → Tells s c before after status
traffic_tells s c task e before after status ego h = limit_tells s c before after status (passes_problem s c e ego) (area_predicts c task) h
