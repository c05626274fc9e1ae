-- The area that avoids recorded traffic: that all stages are passed, and what its report is and claims.
use Rattle.std.proofs.Common.{◌≡◌, ◌∙◌, inl, inr, ℕ, suc, ◌+◌, ◌-◌, ◌==◌, ◌≤◌, List, [], ◌∷◌, ◌++◌, map, filter, length, refl, sym, ap, ap₂, subst, arith, ℤ, nat_abs}
use Rattle.std.specs.List.{flat_map}
use Rattle.std.proofs.lemmas.Int.{ints}
use Rattle.spot_terms.specs.BaseSets.{SetValue}
use Rattle.spot_terms.specs.Courses.{Course}
use Rattle.spot_terms.specs.Lists.{Includes}
use Rattle.spot_terms.specs.OccupiedPieces.{discs, discs_of, fixed_disc, recorded_disc}
use Rattle.spot_terms.specs.Pieces.{disc}
use Rattle.spot_terms.specs.Ranges.{AreStatesInRange, IsCommandInRange, IsFixedInRange, IsMoverInRange, IsStateInRange}
use Rattle.spot_terms.specs.Report.{Line, EgoValue, head_line, time_line, ego_line, disc_line, last_line, report_text, FitsLine}
use Rattle.spot_terms.specs.RowBoxes.{IsWithinArea}
use Rattle.spot_terms.specs.StepLists.{AreStepLists}
use Rattle.spot_terms.specs.Tasks.{PredictsTraffic, FindsArea}
use Rattle.spot_terms.specs.declared.command.Command.{Command}
use Rattle.spot_terms.specs.declared.command.Task.{Task}
use Rattle.spot_terms.specs.declared.command.Task.TheVariants.{Replay}
use Rattle.spot_terms.specs.declared.lines.End.{End}
use Rattle.spot_terms.specs.declared.lines.Mode.TheVariants as mode
use Rattle.spot_terms.specs.declared.plain.Disc.{Disc}
use Rattle.spot_terms.specs.declared.plain.Pt.{Pt}
use Rattle.spot_terms.specs.declared.scenario.Scenario.{Scenario}
use Rattle.spot_terms.proofs.Distinct.{from_filter}
use Rattle.spot_terms.proofs.ListLemmas.{includes_either, all_included}
use Rattle.spot_terms.proofs.Members.{in_map, in_flat_map}
use Rattle.base_sets.specs.Values.{course_with}
use Rattle.replay_sets.specs.Discs.{DiscLists, discs_at, pieces_at}
use Rattle.text_report.specs.Values.{ego_value}
use Rattle.text_report.specs.declared.ego_line.EgoLine.{EgoLine}
use Rattle.spot_claims.specs.AreaOf.{ArePieces, step_lines, lines_from, area_lines, lines_so_far, IsReplayReport, IsReplayBeginning, FollowSoFar, AreListsSoFar}
use Rattle.spot_claims.specs.Headline.{ClaimsOf}
use Rattle.spot_claims.specs.Outcomes.{PassesAll}
use Rattle.spot_claims.specs.Outputs.{IsOutputOf, IsOutput, IsBeginningOf, IsOutputSoFar, status_of}
use Rattle.spot_claims.specs.Problems.{ego_radius, course_of, ego_of}
use Rattle.spot_claims.specs.Stages.{PassesToArea}
use Rattle.spot_claims.proofs.AreaCovers.{replay_covers}
use Rattle.spot_claims.proofs.OneReport.{replay_same}
use Rattle.area_report.specs.Areas.{AreShort, text_so_far, whole_text, IsStepsText, AllHold}
use Rattle.area_report.specs.Egos.{HasEgo}
use Rattle.area_report.proofs.Egos.{chosen_in_range, fits_of}
use Rattle.area_report.proofs.FitsSteps.{IsCourse, DiscsFit, lists_so_far}
use Rattle.spot_run.specs.Areas.{discs_count, discs_hits, discs_range, CanOpen, IsRecorded, replay_opening}
use Rattle.spot_run.specs.Tells.{ClaimsIn}
use Rattle.spot_run.proofs.AreaLines.{ego_fits, is_course, begun_fits, all_fits}
use Rattle.spot_run.proofs.AreaReports.{two_texts, line_value}
use Rattle.spot_run.proofs.AreaTells.{IsOver, passes_problem, passes_over}
use Rattle.spot_run.proofs.Causes.{replay_status}
use Rattle.spot_run.proofs.Limits.{pieces_replay}

-- ---- the lines of the discs fit

disc_fits : (radius i : ℕ) (d : Disc) → radius ≤ 150_000_000 → i ≤ 100 → (id r : ℕ) (x y : ℤ) → d.id ≡ id → d.p.x ≡ x → d.p.y ≡ y → d.r ≡ r + radius → id ≤ 4_294_967_295 → r ≤ 250_000_000 → nat_abs x ≤ 10_000_000_000_000 → nat_abs y ≤ 10_000_000_000_000
    → FitsLine (disc_line i d.id d.p d.r)
disc_fits radius i d small few id r x y id_is x_is y_is r_is id_few r_few x_small y_small = (
  omega (arith, few),
  omega (arith, id_is, id_few),
  (omega (arith, ints, x_is, x_small), omega (arith, ints, y_is, y_small)),
  omega (arith, r_is, r_few, small),
)

module _ (s : Scenario) (radius : ℕ) (small : radius ≤ 150_000_000) where
  fixed_fits : (i : ℕ) (d : Disc) → i ≤ 100 → Includes (map (fixed_disc radius) s.fixed) d → FitsLine (disc_line i d.id d.p d.r)
  fixed_fits i d few among =
      let (f, k, e) = in_map (fixed_disc radius) s.fixed d among in
      let is : IsFixedInRange f = all_included IsFixedInRange s.fixed f s.in_range.each_fixed k in
      disc_fits radius i d small few f.id f.inscribed f.x f.y (ap (λ (z : Disc). z.id) e) (ap (λ (z : Disc). z.p.x) e) (ap (λ (z : Disc). z.p.y) e) (ap (λ (z : Disc). z.r) e) is.id is.inscribed is.x is.y

  state_fits : (i : ℕ) (d : Disc) → i ≤ 100 → Includes (flat_map (discs_of radius i) s.movers) d → FitsLine (disc_line i d.id d.p d.r)
  state_fits i d few among =
      let (m, at, j) = in_flat_map (discs_of radius i) s.movers d among in
      let (state, k, e) = in_map (recorded_disc radius m) (filter (λ (x : ℕ × ℤ × ℤ). x.0 == i) m.recorded) d j in
      let is : IsMoverInRange m = all_included IsMoverInRange s.movers m s.in_range.each_mover at in
      let place : IsStateInRange state = all_included IsStateInRange m.recorded state (all_included AreStatesInRange s.movers m s.in_range.each_state at) (from_filter (λ (x : ℕ × ℤ × ℤ). x.0 == i) m.recorded state k) in
      disc_fits radius i d small few m.id m.inscribed state.1 state.2 (ap (λ (z : Disc). z.id) e) (ap (λ (z : Disc). z.p.x) e) (ap (λ (z : Disc). z.p.y) e) (ap (λ (z : Disc). z.r) e) is.id is.inscribed place.x place.y

  discs_fit : (n : ℕ) → n ≤ 100 → DiscsFit (discs s radius) n
  unfolding discs
  discs_fit n few = λ i d within among. elim (includes_either (map (fixed_disc radius) s.fixed) (flat_map (discs_of radius i) s.movers) d among) [
    | inl j ↦ fixed_fits i d (omega (arith, few, within)) j
    | inr j ↦ state_fits i d (omega (arith, few, within)) j
  ]

-- ---- of equal discs up to the last step, the lines are equal

module _ (course : Course) (count : ℕ → ℕ) (Hits : ℕ → ℕ → Pt → Type 0) (f g : ℕ → List Disc) (n : ℕ) (same : (i : ℕ) → i ≤ n → f i ≡ g i) where
  later_same : (i : ℕ) (sets : List SetValue) (later : List (List SetValue)) → FollowSoFar course count Hits n i sets later → lines_from f (i + 1) later ≡ lines_from g (i + 1) later
  later_same i sets [] follows = refl
  later_same i [] (next ∷ later) follows = absurd follows
  later_same i (b ∷ sets) (next ∷ later) follows =
      let less = follows.0 in
      let one : suc i ≡ i + 1 = omega arith in
      ap₂ (λ (ds : List Disc) (ls : List Line). step_lines (i + 1) ds next ++ ls) (same (i + 1) (omega (arith, less)))
      (subst (λ (k : ℕ). lines_from f (k + 1) later ≡ lines_from g (k + 1) later) one (later_same (suc i) next later follows.2))

  pub lines_same : (lists : List (List SetValue)) → AreListsSoFar course count Hits n lists → lines_from f 0 lists ≡ lines_from g 0 lists
  lines_same [] are = absurd are
  lines_same (first ∷ later) are = ap₂ (λ (ds : List Disc) (ls : List Line). step_lines 0 ds first ++ ls) (same 0 (omega arith)) (later_same 0 first later are.1)

-- ---- the radius of the ego

pub small_radius : (c : Command) → IsCommandInRange c → ego_radius c ≤ 150_000_000
small_radius c range = let l = range.ego_length.1 in omega (arith, l)

module _ (s : Scenario) (c : Command) (e : EgoLine) (r : DiscLists) (ego : HasEgo s c e) (recorded : IsRecorded s c r) (few : IsCommandInRange c) where
  pub can_open : CanOpen s (length r - 1) 40_000_000_000_000 e c.steps
  can_open = record {
    start = ego.is.start;
    bounds = ego.is.bounds;
    grid = ego.is.grid;
    ticks = (s.in_range.step_low, s.in_range.step_high);
    fits = fits_of s c ego.problem e ego.is ego.slow;
    few = few.steps.1;
    last_in = omega (arith, recorded.long);
    far_out = omega arith;
  }

-- ---- the ego of the command, and the recorded traffic of the scenario

module _ (s : Scenario) (c : Command) (task : c.task ≡ Replay) (e : EgoLine) (r : DiscLists) (ego : HasEgo s c e) (recorded : IsRecorded s c r) (few : IsCommandInRange c) where
  pieces_are : ArePieces s c (pieces_at r)
  pieces_are = pieces_replay s c (pieces_at r) task (λ i within. ap (λ (ds : List Disc). map (λ d. disc d.p d.r) ds) (recorded.discs_are i within))

  not_predicted : {X : Type 0} → PredictsTraffic c.task → X
  not_predicted predicts = absurd (subst PredictsTraffic task predicts)

  passing : PassesToArea s c ego.problem
  passing = record { finds = subst FindsArea (sym task) tt; passing = passes_problem s c e ego; chosen = ego.is_chosen; traffic = λ predicts. not_predicted predicts }

  passes_all : IsWithinArea (course_with e.s e.e e.grid s.step) (discs_count r) (discs_range r) c.steps → PassesAll s c
  passes_all h = passes_over s c e ego (pieces_at r) (λ pieces are. replay_same s c (pieces_at r) pieces task pieces_are are) (λ predicts. not_predicted predicts) h

  over_course : (P : Course → Type 0) → P (course_with e.s e.e e.grid s.step) → P (course_of s c ego.problem)
  over_course P h = subst P (ego.is.course s) h

  same_ego : ego_value e ≡ ego_of ego.problem (course_of s c ego.problem)
  same_ego = ap₂ line_value ego.is.problem (ego.is.course s)

  good_course : IsCourse (course_of s c ego.problem)
  good_course = over_course IsCourse (is_course e s.step ego.is.start ego.is.bounds ego.is.grid (s.in_range.step_low, s.in_range.step_high) (fits_of s c ego.problem e ego.is ego.slow))

  good_ego : FitsLine (ego_line (ego_of ego.problem (course_of s c ego.problem)))
  good_ego =
      let id = (chosen_in_range c.problem s.problems ego.problem ego.is_chosen s.in_range.each_problem).id in
      subst (λ (x : EgoValue). FitsLine (ego_line x)) same_ego (ego_fits e (subst (λ (n : ℕ). n ≤ 4_294_967_295) (sym ego.is.problem) id) ego.is.start ego.is.bounds ego.is.grid)

  good_discs : DiscsFit (discs s (ego_radius c)) c.steps
  good_discs = discs_fit s (ego_radius c) (small_radius c few) c.steps few.steps.1

  abbrev all_lines : List (List SetValue) → End → List Line
  all_lines lists ends = head_line mode.Replay ∷ time_line s.step c.steps ∷ area_lines ego.problem (course_of s c ego.problem) (discs s (ego_radius c)) lists ends

  abbrev first_lines : List (List SetValue) → List Line
  first_lines lists = head_line mode.Replay ∷ time_line s.step c.steps ∷ lines_so_far ego.problem (course_of s c ego.problem) (discs s (ego_radius c)) lists

  abbrev AreLists : List (List SetValue) → End → Type 0
  AreLists lists ends = AreStepLists (course_of s c ego.problem) (discs_count r) (discs_hits r) c.steps lists ends

  abbrev AreFirst : List (List SetValue) → Type 0
  AreFirst lists = AreListsSoFar (course_of s c ego.problem) (discs_count r) (discs_hits r) c.steps lists

  abbrev is_report : (lists : List (List SetValue)) (ends : End) → AreLists lists ends → IsReplayReport s c (all_lines lists ends) ends
  is_report lists ends are = record {
    problem = ego.problem;
    pieces = pieces_at r;
    lists = lists;
    run = record { chosen = ego.is_chosen; pieces_are = pieces_are; lists_are = are };
    lines_are = refl;
  }

  abbrev is_beginning : (lists : List (List SetValue)) → AreFirst lists → IsReplayBeginning s c (first_lines lists)
  is_beginning lists are = record {
    problem = ego.problem;
    pieces = pieces_at r;
    lists = lists;
    run = record { chosen = ego.is_chosen; pieces_are = pieces_are; lists_are = are };
    lines_are = refl;
  }

  -- ---- its text

  head_fits : FitsLine (time_line s.step c.steps)
  head_fits = let k = s.in_range.step_high in let n = few.steps.1 in (omega (arith, k), omega (arith, n))

  same_lines : (lists : List (List SetValue)) → AreFirst lists → lines_from (discs_at r) 0 lists ≡ lines_from (discs s (ego_radius c)) 0 lists
  same_lines lists are = lines_same (course_of s c ego.problem) (discs_count r) (discs_hits r) (discs_at r) (discs s (ego_radius c)) c.steps recorded.discs_are lists are

  first_is : (lists : List (List SetValue)) → AreFirst lists → replay_opening s c.steps e ++ text_so_far (discs_at r) lists ≡ report_text (first_lines lists)
  first_is lists are =
      two_texts (head_line mode.Replay ∷ time_line s.step c.steps ∷ []) (lines_from (discs_at r) 0 lists) (ego_line (ego_value e))
      ∙ ap₂ (λ (x : EgoValue) (ls : List Line). report_text (head_line mode.Replay ∷ time_line s.step c.steps ∷ ego_line x ∷ ls)) same_ego (same_lines lists are)

  whole_is : (lists : List (List SetValue)) (ends : End) → AreLists lists ends → replay_opening s c.steps e ++ whole_text (discs_at r) lists ends ≡ report_text (all_lines lists ends)
  whole_is lists ends are =
      two_texts (head_line mode.Replay ∷ time_line s.step c.steps ∷ []) (lines_from (discs_at r) 0 lists ++ last_line ends ∷ []) (ego_line (ego_value e))
      ∙ ap₂ (λ (x : EgoValue) (ls : List Line). report_text (head_line mode.Replay ∷ time_line s.step c.steps ∷ ego_line x ∷ (ls ++ last_line ends ∷ []))) same_ego
      (same_lines lists (lists_so_far (course_of s c ego.problem) good_course (discs_count r) (discs_hits r) c.steps lists ends are))

  -- ---- the output

  whole_output : (lists : List (List SetValue)) (ends : End) → AreStepLists (course_with e.s e.e e.grid s.step) (discs_count r) (discs_hits r) c.steps lists ends → AreShort lists
      → IsOutput s c (replay_opening s c.steps e ++ whole_text (discs_at r) lists ends) ends
  whole_output lists ends are short =
      let over : AreLists lists ends = over_course (λ course. AreStepLists course (discs_count r) (discs_hits r) c.steps lists ends) are in
      subst (λ (t : Task). IsOutputOf t s c (replay_opening s c.steps e ++ whole_text (discs_at r) lists ends) ends) (sym task) (record {
        lines = all_lines lists ends;
        report = is_report lists ends over;
        fits = (tt, (head_fits, all_fits (course_of s c ego.problem) good_course (discs_count r) (discs_hits r) c.steps few.steps.1 (discs s (ego_radius c)) good_discs (ego_of ego.problem (course_of s c ego.problem)) lists ends good_ego over short));
        text_is = whole_is lists ends over;
      })

  first_output : (lists : List (List SetValue)) → AreListsSoFar (course_with e.s e.e e.grid s.step) (discs_count r) (discs_hits r) c.steps lists → AreShort lists
      → IsBeginningOf c.task s c (replay_opening s c.steps e ++ text_so_far (discs_at r) lists)
  first_output lists are short =
      let over : AreFirst lists = over_course (λ course. AreListsSoFar course (discs_count r) (discs_hits r) c.steps lists) are in
      subst (λ (t : Task). IsBeginningOf t s c (replay_opening s c.steps e ++ text_so_far (discs_at r) lists)) (sym task) (record {
        lines = first_lines lists;
        report = is_beginning lists over;
        fits = (tt, (head_fits, begun_fits (course_of s c ego.problem) good_course (discs_count r) (discs_hits r) c.steps few.steps.1 (discs s (ego_radius c)) good_discs (ego_of ego.problem (course_of s c ego.problem)) lists good_ego over short));
        text_is = first_is lists over;
      })

  -- the text of all steps, or of the first ones, is the output or a beginning of it
  output_so_far : (text : List ℕ) → IsStepsText (discs_at r) (course_with e.s e.e e.grid s.step) (discs_count r) (discs_hits r) c.steps text → IsOutputSoFar s c (replay_opening s c.steps e ++ text)
  output_so_far text (inl (lists, ends, are, short, is)) = subst (λ (x : List ℕ). IsOutputSoFar s c (replay_opening s c.steps e ++ x)) (sym is) (inl (ends, whole_output lists ends are short))
  output_so_far text (inr (lists, are, short, is)) = subst (λ (x : List ℕ). IsOutputSoFar s c (replay_opening s c.steps e ++ x)) (sym is) (inr (first_output lists are short))

  -- ---- its claims

  claims_in : (lists : List (List SetValue)) (ends : End) → AreStepLists (course_with e.s e.e e.grid s.step) (discs_count r) (discs_hits r) c.steps lists ends
      → AllHold (course_with e.s e.e e.grid s.step) (discs_count r) (discs_hits r) c.steps lists → ClaimsIn s c (replay_opening s c.steps e ++ whole_text (discs_at r) lists ends)
  claims_in lists ends are hold =
      let over : AreLists lists ends = over_course (λ course. AreStepLists course (discs_count r) (discs_hits r) c.steps lists ends) are in
      record {
        lines = all_lines lists ends;
        text_is = whole_is lists ends over;
        claims = subst (λ (t : Task). ClaimsOf t s c (all_lines lists ends)) (sym task) (
          record { rest = area_lines ego.problem (course_of s c ego.problem) (discs s (ego_radius c)) lists ends; lines_are = refl },
          replay_covers s c (all_lines lists ends) ends (is_report lists ends over) task ego.is.velocities (over_course (λ course. AllHold course (discs_count r) (discs_hits r) c.steps lists) hold),
        );
      }

  pub replay_over : IsOver s c e ego (replay_opening s c.steps e) (discs_at r) (pieces_at r)
  replay_over = record {
    pieces_are = pieces_are;
    passing = passing;
    passes = passes_all;
    so_far = output_so_far;
    whole = whole_output;
    claims = claims_in;
    status = λ ends. ap (λ (t : Task). status_of t ends) task ∙ replay_status ends;
  }
