-- What the area of a scenario that was found, or not, tells of its command.
use Rattle.std.proofs.Common.{◌≡◌, ◌∙◌, inl, inr, ℕ, ◌≤◌, ◌<◌, ◌^◌, List, [], ◌∷◌, ◌++◌, length, Option, Result, Ok, Err, refl, sym, ap, subst, append-nil, arith, ℤ}
use Rattle.std.specs.Result.{IsErr}
use Rattle.std.specs.Io.KnownBytes.{Appends}
use Rattle.std.proofs.lemmas.List.{length-append}
use Rattle.spot_terms.specs.BaseSets.{SetValue}
use Rattle.spot_terms.specs.Causes.{AppendsFront}
use Rattle.spot_terms.specs.Courses.{Course, box_at}
use Rattle.spot_terms.specs.Pieces.{Piece, Hits, range_of}
use Rattle.spot_terms.specs.RowBoxes.{IsWithinArea, IsAreaTooWide, IsNarrow, HasTooManyBoxes, row_boxes_in}
use Rattle.spot_terms.specs.StepLists.{IsFirstList, AreStepLists}
use Rattle.spot_terms.specs.Tasks.{PredictsTraffic, FindsArea}
use Rattle.spot_terms.specs.declared.command.Command.{Command}
use Rattle.spot_terms.specs.declared.command.Task.TheVariants.{Area}
use Rattle.spot_terms.specs.declared.lines.End.{End}
use Rattle.spot_terms.specs.declared.limits.TheConstants.{MOST_ROW_BOXES}
use Rattle.spot_terms.specs.declared.plain.Disc.{Disc}
use Rattle.spot_terms.specs.declared.plain.Pt.{Pt}
use Rattle.spot_terms.specs.declared.scenario.Problem.{Problem}
use Rattle.spot_terms.specs.declared.scenario.Scenario.{Scenario}
use Rattle.spot_terms.specs.declared.status.Code.TheVariants.{NoProblem, LateProblem, EgoTooFast}
use Rattle.spot_terms.specs.declared.status.Status.{Status}
use Rattle.spot_terms.specs.declared.status.Status.TheVariants.{Refused, Limit, WriteFault, Memory}
use Rattle.spot_terms.specs.declared.status.Which.TheVariants.{AreaTooWide, TooManyBoxes}
use Rattle.spot_io.specs.Writes.{WritesText}
use Rattle.spot_io.specs.declared.traits.Sink.{Ghosts as Sink}
use Rattle.spot_io.proofs.Writing.{cause_of_both, front_of_both, fault_first, takes_second}
use Rattle.spot_io.proofs.Moves.{appends_more}
use Rattle.base_sets.specs.Values.{course_with}
use Rattle.text_report.specs.declared.ego_line.EgoLine.{EgoLine}
use Rattle.area_run.specs.Plans.{course_of, plan_with}
use Rattle.area_run.specs.Running.{Stand, IsOpened}
use Rattle.area_run.specs.Passed.{IsRefused}
use Rattle.area_run.specs.declared.fault.AreaFault.{AreaFault}
use Rattle.area_run.specs.declared.fault.AreaFault.TheVariants as fault
use Rattle.area_run.specs.declared.plan.Plan.{Plan}
use Rattle.area_report.specs.Areas.{AreShort, text_so_far, whole_text, IsStepsText, AllHold, IsEnd, WritesSteps}
use Rattle.area_report.specs.Egos.{HasEgo, IsProblemFault}
use Rattle.spot_claims.specs.Outcomes.{PassesAll}
use Rattle.spot_claims.specs.Outputs.{IsOutput, IsOutputSoFar, IsWritten, status_of}
use Rattle.spot_claims.specs.AreaOf.{ArePieces, IsWithinAreaOver}
use Rattle.spot_claims.specs.Problems.{chosen, course_of as problem_course}
use Rattle.spot_claims.specs.Stages.{IsWithinTraffic, PassesToNetwork, PassesToArea}
use Rattle.spot_terms.proofs.Unique.{some_one}
use Rattle.spot_run.specs.Areas.{IsPastArea, StatusAt, HasWrittenAll, WritesBehind}
use Rattle.spot_run.specs.Tells.{TakesFor, ClaimsIn, HasWritten, Tells}
use Rattle.spot_run.proofs.Claims.{has_claims}

-- ---- behind what stands before the first step

-- the text of the first step alone is that of some steps
first_text : (recorded : ℕ → List Disc) (course : Course) (count : ℕ → ℕ) (Hits : ℕ → ℕ → Pt → Type 0) (n : ℕ) (sets : List SetValue) → IsFirstList course count Hits sets → IsStepsText recorded course count Hits n (text_so_far recorded (sets ∷ []))
first_text recorded course count Hits n sets first = inr (sets ∷ [], (first, tt), (short first, tt), refl)
  where
    short : IsFirstList course count Hits sets → length sets < 2 ^ 64
    short (inl (left, one)) = let few : length sets ≡ 1 = ap length one in omega (arith, few)
    short (inr (gone, none)) = let few : length sets ≡ 0 = ap length none in omega (arith, few)

module _ {K : Type 0} (sink : Sink K) (opening : List ℕ) (recorded : ℕ → List Disc) (course : Course) (count : ℕ → ℕ) (Hits : ℕ → ℕ → Pt → Type 0) (n : ℕ) where
  abbrev pub HasRoomBehind : K → Type 0
  HasRoomBehind old = (text : List ℕ) → IsStepsText recorded course count Hits n text → sink.takes old (length (opening ++ text))

  -- what can take it all can take the opening
  pub takes_opening : (old : K) (sets : List SetValue) → IsFirstList course count Hits sets → ((few many : ℕ) → few ≤ many → sink.takes old many → sink.takes old few) → HasRoomBehind old → sink.takes old (length opening)
  takes_opening old sets first fewer room =
      let text = text_so_far recorded (sets ∷ []) in
      fewer (length opening) (length (opening ++ text)) (omega (arith, length-append {A = ℕ})) (room text (first_text recorded course count Hits n sets first))

  -- and once this is written, the steps
  pub takes_steps : {T E : Type 0} {x : T} (old now : K) → WritesText {E = E} sink old now opening (Ok x) → HasRoomBehind old → (text : List ℕ) → IsStepsText recorded course count Hits n text → sink.takes now (length text)
  takes_steps old now w room text is = takes_second text w (room text is)

  pub opening_fault : {T U E : Type 0} {x : E} (old new : K) (at : ℕ) (here sets : List SetValue) (result : Result T E) → IsFirstList course count Hits sets → WritesText {T = U} sink old new opening (Err x) → IsErr result
      → WritesBehind opening recorded course count Hits n sink old new at here result
  opening_fault old new at here sets (Ok y) first w err = cc
  opening_fault {T = T} old new at here sets (Err y) first w err = record {
    ok = tt;
    err = (text_so_far recorded (sets ∷ []), first_text recorded course count Hits n sets first, (fault_first {T = T} (text_so_far recorded (sets ∷ [])) (Err y) w err).err);
    cause = record { later = w.cause.later; same = tt; failed = w.cause.failed };
  }

  pub steps_behind : {T U E : Type 0} {x : U} (old now new : K) (at : ℕ) (sets : List SetValue) (result : Result T E) → WritesText {E = E} sink old now opening (Ok x) → WritesSteps recorded course count Hits n sink now new at sets result
      → WritesBehind opening recorded course count Hits n sink old new at sets result
  steps_behind old now new at sets (Ok y) v w =
      let all = w.ok in record {
        ok = record {
          lists = all.lists;
          end = all.end;
          lists_are = all.lists_are;
          short = all.short;
          hold = all.hold;
          end_is = all.end_is;
          appends = appends_more (sink.written old) (sink.written now) (sink.written new) opening (whole_text recorded all.lists all.end) v.ok all.appends;
        };
        err = tt;
        cause = cause_of_both (Ok y) v.cause.same w.cause;
      }
  steps_behind old now new at sets (Err y) v w =
      let (text, is, front) = w.err in record {
        ok = tt;
        err = (text, is, front_of_both (sink.written old) (sink.written now) (sink.written new) opening text v.ok front);
        cause = cause_of_both (Err y) v.cause.same w.cause;
      }

-- ---- over a run that was just opened

-- too many row boxes are answered only where there are
pub boxes_refused : (course : Course) (count : ℕ → ℕ) (range : ℕ → ℕ → ℤ × ℤ) (n step boxes : ℕ) (answered : AreaFault) → answered ≡ fault.TooManyBoxes step boxes → IsRefused course count range n answered
    → IsNarrow course n × HasTooManyBoxes course count range n step boxes
boxes_refused course count range n step boxes answered same h = of_boxes (subst (IsRefused course count range n) same h)
  where
    of_boxes : IsRefused course count range n (fault.TooManyBoxes step boxes) → IsNarrow course n × HasTooManyBoxes course count range n step boxes
    of_boxes (inl passed) = passed
    of_boxes (inr none) = let e : fault.TooManyBoxes step boxes ≡ fault.Memory = none.0 in cc

module _ {O : Type 0} (count : O → ℕ → ℕ) (hits : O → ℕ → ℕ → Pt → Type 0) (s : Scenario) (e : EgoLine) (o : O) (steps : ℕ) (r : Stand O) (opened : IsOpened o (plan_with e.s e.e e.grid s.step) steps (count o) (hits o) r) where
  -- what is said of the plan, the pieces and the steps that it was opened with is said of its own
  pub of_run : (P : Plan → O → ℕ → Type 0) → P (plan_with e.s e.e e.grid s.step) o steps → P r.plan r.o r.steps
  of_run P h = subst (λ (p : Plan). P p r.o r.steps) (sym opened.plan_is) (subst (λ (x : O). P (plan_with e.s e.e e.grid s.step) x r.steps) (sym opened.pieces) (subst (λ (n : ℕ). P (plan_with e.s e.e e.grid s.step) o n) (sym opened.steps_are) h))

  pub to_run : (P : Plan → O → ℕ → Type 0) → P r.plan r.o r.steps → P (plan_with e.s e.e e.grid s.step) o steps
  to_run P h = subst (λ (n : ℕ). P (plan_with e.s e.e e.grid s.step) o n) opened.steps_are (subst (λ (x : O). P (plan_with e.s e.e e.grid s.step) x r.steps) opened.pieces (subst (λ (p : Plan). P p r.o r.steps) opened.plan_is h))

  pub first_of : IsFirstList (course_of r.plan) (count r.o) (hits r.o) r.sets
  first_of =
      subst (λ (p : Plan). IsFirstList (course_of p) (count r.o) (hits r.o) r.sets) (sym opened.plan_is)
      (subst (λ (x : O). IsFirstList (course_with e.s e.e e.grid s.step) (count x) (hits x) r.sets) (sym opened.pieces) opened.first)

-- ---- the status of a run that is done

pub status_is : (at : ℕ) (sets : List SetValue) (ends : End) (status : Status) → IsEnd at sets ends → StatusAt at sets status → status ≡ status_of Area ends
status_is at [] ends status e h = h ∙ ap (status_of Area) (sym e)
status_is at (b ∷ sets) ends status e h = h ∙ ap (status_of Area) (sym e)

pub done_tells : (s : Scenario) (c : Command) (before after : Option (List ℕ)) (at : ℕ) (sets : List SetValue) (status : Status) → StatusAt at sets status → HasWritten s c before after status → Tells s c before after status
done_tells s c before after at [] status h w = subst (λ (x : Status). HasWritten s c before after x → Tells s c before after x) (sym h) (λ y. y) w
done_tells s c before after at (b ∷ sets) status h w = subst (λ (x : Status). HasWritten s c before after x → Tells s c before after x) (sym h) (λ y. y) w

pub done_is_written : (at : ℕ) (sets : List SetValue) (status : Status) → StatusAt at sets status → IsWritten status
done_is_written at [] status h = subst IsWritten (sym h) tt
done_is_written at (b ∷ sets) status h = subst IsWritten (sym h) tt

pub done_is_no_fault : (at : ℕ) (sets : List SetValue) (status : Status) → StatusAt at sets status → status ≡ WriteFault → ⊥
done_is_no_fault at [] status h e = cc
done_is_no_fault at (b ∷ sets) status h e = cc

-- ---- what a mode that finds an area has

-- over its pieces, where it writes these discs with the steps, behind an opening
pub record IsOver (s : Scenario) (c : Command) (e : EgoLine) (ego : HasEgo s c e) (opening : List ℕ) (recorded : ℕ → List Disc) (pieces : ℕ → List Piece) : Type 0 where
  pub pieces_are : ArePieces s c pieces
  pub passing : PassesToArea s c ego.problem
  pub passes : IsWithinArea (course_with e.s e.e e.grid s.step) (λ i. length (pieces i)) (λ i. range_of (pieces i)) c.steps → PassesAll s c
  pub so_far : (text : List ℕ) → IsStepsText recorded (course_with e.s e.e e.grid s.step) (λ i. length (pieces i)) (λ i. Hits (pieces i)) c.steps text → IsOutputSoFar s c (opening ++ text)
  pub whole : (lists : List (List SetValue)) (ends : End) → AreStepLists (course_with e.s e.e e.grid s.step) (λ i. length (pieces i)) (λ i. Hits (pieces i)) c.steps lists ends → AreShort lists
      → IsOutput s c (opening ++ whole_text recorded lists ends) ends
  pub claims : (lists : List (List SetValue)) (ends : End) → AreStepLists (course_with e.s e.e e.grid s.step) (λ i. length (pieces i)) (λ i. Hits (pieces i)) c.steps lists ends
      → AllHold (course_with e.s e.e e.grid s.step) (λ i. length (pieces i)) (λ i. Hits (pieces i)) c.steps lists → ClaimsIn s c (opening ++ whole_text recorded lists ends)
  pub status : (ends : End) → status_of c.task ends ≡ status_of Area ends

pub passes_problem : (s : Scenario) (c : Command) (e : EgoLine) → HasEgo s c e → PassesToNetwork s c
passes_problem s c e ego = record { problem = λ finds. (ego.problem, ego.is_chosen, ego.at_start, ego.slow) }

module _ (s : Scenario) (c : Command) (e : EgoLine) (ego : HasEgo s c e) (mine : ℕ → List Piece) (one : (pieces : ℕ → List Piece) → ArePieces s c pieces → (i : ℕ) → i ≤ c.steps → mine i ≡ pieces i) where
  -- what is within the limits over these pieces is so over all pieces of the scenario
  within_over : (course : Course) (pieces : ℕ → List Piece) → ArePieces s c pieces → IsWithinArea course (λ i. length (mine i)) (λ i. range_of (mine i)) c.steps → IsWithinAreaOver course c.steps pieces
  within_over course pieces are h = record {
    narrow = h.narrow;
    few = λ i within. subst (λ (ps : List Piece). row_boxes_in course.w course.g (box_at course i) (length ps) (range_of ps) ≤ MOST_ROW_BOXES) (one pieces are i within) (h.few i within);
  }

  pub passes_over : (PredictsTraffic c.task → IsWithinTraffic s c) → IsWithinArea (course_with e.s e.e e.grid s.step) (λ i. length (mine i)) (λ i. range_of (mine i)) c.steps → PassesAll s c
  passes_over traffic h = record {
    passing = passes_problem s c e ego;
    within = record {
      traffic = traffic;
      area = λ finds problem pieces is are.
          let one : ego.problem ≡ problem = some_one (chosen c.problem s.problems) ego.problem problem ego.is_chosen is in
          subst (λ (p : Problem). IsWithinAreaOver (problem_course s c p) c.steps pieces) one
          (within_over (problem_course s c ego.problem) pieces are (subst (λ (course : Course). IsWithinArea course (λ i. length (mine i)) (λ i. range_of (mine i)) c.steps) (ego.is.course s) h));
    };
  }

-- ---- what it tells

-- of a problem that is refused
pub problem_tells : (s : Scenario) (c : Command) → FindsArea c.task → (before after : Option (List ℕ)) (status : Status) → IsProblemFault s c status → Tells s c before after status
problem_tells s c finds before after (Refused NoProblem place) h = (h.0, record { finds = finds; none = h.1 })
problem_tells s c finds before after (Refused LateProblem place) h = record { finds = finds; problem = h.problem; chosen = h.is_chosen; late = h.late; place_is = h.place_is }
problem_tells s c finds before after (Refused EgoTooFast place) h = record { finds = finds; problem = h.problem; chosen = h.is_chosen; at_start = h.at_start; fast = h.fast; place_is = h.place_is }
problem_tells s c finds before after status h = absurd h

-- of an area that passes a limit
pub past_tells : (s : Scenario) (c : Command) (e : EgoLine) (ego : HasEgo s c e) (pieces : ℕ → List Piece) → ArePieces s c pieces → PassesToArea s c ego.problem → (before after : Option (List ℕ)) (status : Status)
    → IsPastArea (course_with e.s e.e e.grid s.step) (λ i. length (pieces i)) (λ i. range_of (pieces i)) c.steps status → Tells s c before after status
past_tells s c e ego pieces are passing before after (Limit AreaTooWide step cells) h = (
  record {
    problem = ego.problem;
    passing = passing;
    wide = subst (λ (course : Course). IsAreaTooWide course c.steps step cells) (ego.is.course s) h;
  },
  (pieces, are),
)
past_tells s c e ego pieces are passing before after (Limit TooManyBoxes step boxes) h = record {
  problem = ego.problem;
  passing = passing;
  pieces = pieces;
  pieces_are = are;
  narrow = subst (λ (course : Course). IsNarrow course c.steps) (ego.is.course s) h.0;
  many = subst (λ (course : Course). HasTooManyBoxes course (λ i. length (pieces i)) (λ i. range_of (pieces i)) c.steps step boxes) (ego.is.course s) h.1;
}
past_tells s c e ego pieces are passing before after Memory h = tt
past_tells s c e ego pieces are passing before after status h = absurd h

module _ (s : Scenario) (c : Command) (e : EgoLine) (ego : HasEgo s c e) (opening : List ℕ) (recorded : ℕ → List Disc) (pieces : ℕ → List Piece) (over : IsOver s c e ego opening recorded pieces) where
  pub area_tells : (before after : Option (List ℕ)) (status : Status) → IsPastArea (course_with e.s e.e e.grid s.step) (λ i. length (pieces i)) (λ i. range_of (pieces i)) c.steps status → Tells s c before after status
  area_tells before after status h = past_tells s c e ego pieces over.pieces_are over.passing before after status h

  module _ (within : IsWithinArea (course_with e.s e.e e.grid s.step) (λ i. length (pieces i)) (λ i. range_of (pieces i)) c.steps) where
    -- what can take each output and each beginning can take it all
    pub area_room : (can : ℕ → Type 0) → TakesFor s c can → (text : List ℕ) → IsStepsText recorded (course_with e.s e.e e.grid s.step) (λ i. length (pieces i)) (λ i. Hits (pieces i)) c.steps text → can (length (opening ++ text))
    area_room can takes text is = takes (opening ++ text) (over.passes within) (over.so_far text is)

    -- of a fault of writing
    pub fault_tells : (before after : Option (List ℕ)) (text : List ℕ) → IsStepsText recorded (course_with e.s e.e e.grid s.step) (λ i. length (pieces i)) (λ i. Hits (pieces i)) c.steps text → AppendsFront before after (opening ++ text)
        → Tells s c before after WriteFault
    fault_tells before after text is (front, back, text_is, app) = record {
      passes = over.passes within;
      pieces = λ finds. (pieces, over.pieces_are);
      text = opening ++ text;
      output = over.so_far text is;
      front = front;
      back = back;
      text_is = text_is;
      appends = app;
      whole = λ done. absurd done;
      claims = λ done. absurd done;
    }

    -- of a whole report
    whole_written : (before after : Option (List ℕ)) (status : Status) (lists : List (List SetValue)) (ends : End)
        → AreStepLists (course_with e.s e.e e.grid s.step) (λ i. length (pieces i)) (λ i. Hits (pieces i)) c.steps lists ends → AreShort lists → AllHold (course_with e.s e.e e.grid s.step) (λ i. length (pieces i)) (λ i. Hits (pieces i)) c.steps lists
        → Appends before after (opening ++ whole_text recorded lists ends) → status ≡ status_of c.task ends → HasWritten s c before after status
    whole_written before after status lists ends are short hold app is =
        let output : IsOutput s c (opening ++ whole_text recorded lists ends) ends = over.whole lists ends are short in record {
          passes = over.passes within;
          pieces = λ finds. (pieces, over.pieces_are);
          text = opening ++ whole_text recorded lists ends;
          output = inl (ends, output);
          front = opening ++ whole_text recorded lists ends;
          back = [];
          text_is = append-nil (opening ++ whole_text recorded lists ends);
          appends = app;
          whole = λ done. record { ends = ends; output = output; status_is = is };
          claims = λ done. has_claims s c (opening ++ whole_text recorded lists ends) (over.claims lists ends are hold);
        }

    pub whole_tells : (before after : Option (List ℕ)) (status : Status) (at : ℕ) (sets : List SetValue)
        → HasWrittenAll opening recorded (course_with e.s e.e e.grid s.step) (λ i. length (pieces i)) (λ i. Hits (pieces i)) c.steps before after at sets → StatusAt at sets status → Tells s c before after status
    whole_tells before after status at sets h is =
        let same : status ≡ status_of c.task h.end = status_is at sets h.end status h.end_is is ∙ sym (over.status h.end) in
        done_tells s c before after at sets status is (whole_written before after status h.lists h.end h.lists_are h.short h.hold h.appends same)
