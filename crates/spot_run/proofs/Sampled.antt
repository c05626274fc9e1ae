-- What a run of a sample says of its answer.
use Rattle.std.proofs.Common.{◌≡◌, ◌∙◌, ◌⊎◌, inl, inr, ℕ, List, ◌++◌, length, Option, Some, refl, sym, ap, subst}
use Rattle.spot_terms.specs.Statuses.{IsDone}
use Rattle.spot_terms.specs.Tasks.{ReadsInput}
use Rattle.spot_terms.specs.declared.command.Command.{Command}
use Rattle.spot_terms.specs.declared.command.Task.{Task}
use Rattle.spot_terms.specs.declared.command.Task.TheVariants.{Sample}
use Rattle.spot_terms.specs.declared.scenario.Scenario.{Scenario}
use Rattle.spot_terms.specs.declared.status.Code.{Code}
use Rattle.spot_terms.specs.declared.status.Code.TheVariants.{NotJson, NotTree, NoProblem, LateProblem, EgoTooFast}
use Rattle.spot_terms.specs.declared.status.Status.{Status}
use Rattle.spot_terms.specs.declared.status.Status.TheVariants.{BadWords, Refused, Limit, ReadFault, WriteFault, Memory}
use Rattle.spot_terms.specs.declared.status.Which.TheVariants.{TooLong, TooManyCells, LaneTooWide, TooManyLanePolygons, AreaTooWide, TooManyBoxes}
use Rattle.spot_claims.specs.Answers.{IsOutside, ExactlyWhere, IsOfCheck, ExactlyFor, HasNoProblem, HasLateProblem, HasFastProblem, HasManyCells, HasWideLane, HasManyPairs, HasWideArea, HasManyBoxes, IsKnownAs}
use Rattle.spot_claims.specs.Headline.{ClaimsOf, Claims, Headline}
use Rattle.spot_claims.specs.Outcomes.{IsAcceptedInput, MayBeInput, PassesAll, Fails, Completes, TakesOutput, WritesOutput}
use Rattle.spot_claims.specs.Outputs.{IsWritten}
use Rattle.spot_claims.specs.Runs.{Run, WriteFails}
use Rattle.spot_claims.specs.Scenario.{IsScenarioOf}
use Rattle.spot_claims.specs.Stages.{AreForReading, IsInputOf, IsInput, IsAccepting}
use Rattle.spot_claims.specs.Tight.{IsTight, IsTightOf}
use Rattle.spot_run.specs.Samples.{text_of, IsMade, TakesSample, TellsSample}
use Rattle.spot_run.specs.Tells.{Tells}
use Rattle.spot_run.proofs.Causes.{AllHold, never, no_headline, no_output, no_tight, tells_known, other_answer, no_check}
use Rattle.spot_run.proofs.Limits.{no_problem_carried, late_carried, fast_carried, cells_carried, wide_carried, many_pairs_carried, wide_area_carried, boxes_carried, no_problem_comes, late_comes, fast_comes, cells_comes, wide_comes, pairs_comes, wide_area_comes, boxes_comes, passes_done}
use Rattle.spot_run.proofs.Runs.{IsForCommand, AreAlike, alike, appended, done_written, written_of}

module _ (run : Run) (c : Command) (for : IsForCommand run c) (task : c.task ≡ Sample) where
  -- nothing is read
  unread : AreForReading run → ⊥
  unread (d, stands, reads) = subst ReadsInput task (subst (λ (x : Command). ReadsInput x.task) (for.only d stands) reads)

  -- the input is the made text
  made_text : (bytes : List ℕ) → IsInput c run.told bytes → bytes ≡ text_of c
  made_text bytes h = subst (λ (t : Task). IsInputOf t c run.told bytes) task h

  made_input : IsInput c run.told (text_of c)
  made_input = subst (λ (t : Task). IsInputOf t c run.told (text_of c)) (sym task) refl

  -- what is said of the command is said of each that the words stand for
  exactly_for : (Cause : Scenario → Command → Type 0) (answer : Status) → ExactlyWhere ((s : Scenario) × IsAccepting c run.told s × Cause s c) answer run.status → ExactlyFor run Cause answer
  exactly_for Cause answer at = λ d stands told. subst (λ (x : Command). ExactlyWhere ((s : Scenario) × IsAccepting x run.told s × Cause s x) answer run.status) (sym (for.only d stands)) at

  -- ---- memory was wanted

  module _ (e : run.status ≡ Memory) where
    other : (answer : Status) → (Memory ≡ answer → ⊥) → run.status ≡ answer → ⊥
    other answer not f = not (sym e ∙ f)

    free : (Cause : Scenario → Command → Type 0) (answer : Status) → (Memory ≡ answer → ⊥) → ExactlyFor run Cause answer
    free Cause answer not = exactly_for Cause answer (record { only = λ f. absurd (other answer not f); comes = λ _. inr (inl e) })

    memory_holds : AllHold run
    memory_holds = record {
      headline = no_headline run (λ done. subst IsDone e done);
      output = no_output run (λ written. subst IsWritten e written);
      tight = no_tight run (λ done. subst IsDone e done);
      source_read = record {
        whole = λ bytes told for later. absurd (unread for);
        limit = λ bytes step count told f. absurd (other (Limit TooLong step count) (λ g. cc) f);
      };
      known = subst (λ (status : Status). IsKnownAs status run) (sym e) tt;
      bad_words = record { only = λ f. absurd (other BadWords (λ g. cc) f); comes = λ none. absurd (none c for.stands) };
      read_fault = λ f. absurd (other ReadFault (λ g. cc) f);
      too_long = λ bytes told. never (other (Limit TooLong 0 67108865) (λ g. cc)) (λ cause. unread cause.0);
      not_json = λ bytes told. never (other (Refused NotJson 0) (λ g. cc)) (λ cause. unread cause.0.reads);
      not_tree = λ bytes place told. never (other (Refused NotTree place) (λ g. cc)) (λ cause. unread cause.0.reads);
      refused = λ bytes code place told of. never (other (Refused code place) (λ g. cc)) (λ cause. unread cause.0.reads);
      no_problem = free HasNoProblem (Refused NoProblem 0) (λ g. cc);
      late_problem = λ place. free (HasLateProblem place) (Refused LateProblem place) (λ g. cc);
      ego_too_fast = λ place. free (HasFastProblem place) (Refused EgoTooFast place) (λ g. cc);
      too_many_cells = λ count. free (HasManyCells count) (Limit TooManyCells 0 count) (λ g. cc);
      lane_too_wide = λ id. free (HasWideLane id) (Limit LaneTooWide 0 id) (λ g. cc);
      too_many_lane_polygons = λ count. free (HasManyPairs count) (Limit TooManyLanePolygons 0 count) (λ g. cc);
      area_too_wide = λ step count. free (HasWideArea step count) (Limit AreaTooWide step count) (λ g. cc);
      too_many_boxes = λ step count. free (HasManyBoxes step count) (Limit TooManyBoxes step count) (λ g. cc);
      write_fault = λ f. absurd (other WriteFault (λ g. cc) f);
      complete = λ d bytes stands input accepted passes none. inr e;
    }

  -- ---- there was a scenario

  module _ (s : Scenario) (made : IsMade c s) (tells : Tells s c run.before run.after run.status) (fails : run.status ≡ WriteFault → WriteFails run) where
    not : (answer : Status) → (Tells s c run.before run.after answer → ⊥) → run.status ≡ answer → ⊥
    not answer other e = other_answer run s c tells answer other e

    accepts : IsAccepting c run.told s
    accepts = record { bytes = text_of c; input = made_input; scenario = made }

    accepted_alike : (t : Scenario) → IsAccepting c run.told t → AreAlike t s
    accepted_alike t accepting = alike accepting.bytes t s accepting.scenario (subst (λ (b : List ℕ). IsScenarioOf b s) (sym (made_text accepting.bytes accepting.input)) made)

    -- a cause that is told with the answer, and that leaves no other
    cause_of : (Cause : Scenario → Command → Type 0) (answer : Status) → (Tells s c run.before run.after answer → Cause s c)
        → ((t : Scenario) → AreAlike t s → Cause t c → (run.status ≡ answer) ⊎ IsOutside run.status) → ExactlyFor run Cause answer
    cause_of Cause answer is comes = exactly_for Cause answer (record {
      only = λ e. (s, accepts, is (subst (Tells s c run.before run.after) e tells));
      comes = λ (t, accepting, cause). comes t (accepted_alike t accepting) cause;
    })

    -- a summary's text claims nothing
    headline : Headline run
    headline = λ t d text lines r fits same. subst (λ (x : Command). Claims t x lines) (sym (for.only d r.stands)) (subst (λ (k : Task). ClaimsOf k t c lines) (sym task) tt)

    output : WritesOutput run
    output = λ d old stands told before_is written.
        let w = written_of s c run.before run.after run.status written tells in
        let (new, after_is, grown) = appended run.before run.after old w.front before_is w.appends in (
          new,
          after_is,
          record {
            command = c;
            stands = for.stands;
            bytes = text_of c;
            input = made_input;
            scenario = s;
            scenario_is = made;
            within = w.passes.within;
            text = w.text;
            output = w.output;
            front = w.front;
            back = w.back;
            text_is = w.text_is;
            appended = grown;
            whole = w.whole;
          },
        )

    -- nothing is asked of a summary's text
    tight : IsTight run
    tight = λ d old stands told before_is done.
        let w = done_written s c run.before run.after run.status done tells in
        let (new, after_is, grown) = appended run.before run.after old w.front before_is w.appends in (
          new,
          after_is,
          record {
            command = c;
            stands = for.stands;
            bytes = text_of c;
            input = made_input;
            scenario = s;
            scenario_is = made;
            text = w.front;
            appended = grown;
            tight = subst (λ (k : Task). IsTightOf k s c w.front) (sym task) tt;
          },
        )

    complete : Completes run
    complete = λ d bytes stands. subst (λ (x : Command). IsInput x run.told bytes → IsAcceptedInput x bytes → ((t : Scenario) → IsScenarioOf bytes t → PassesAll t x) → (Fails run → ⊥) → IsDone run.status ⊎ (run.status ≡ Memory)) (sym (for.only d stands))
        (λ input accepted passes none.
        elim (passes_done s c run.before run.after run.status (passes s (subst (λ (b : List ℕ). IsScenarioOf b s) (sym (made_text bytes input)) made)) tells) [
          | inl (inl done) ↦ inl done
          | inl (inr fault) ↦ absurd (none (inr (fails fault)))
          | inr memory ↦ inr memory
        ])

    made_holds : AllHold run
    made_holds = record {
      headline = headline;
      output = output;
      tight = tight;
      source_read = record {
        whole = λ bytes told for later. absurd (unread for);
        limit = λ bytes step count told e. absurd (not (Limit TooLong step count) (λ w. w) e);
      };
      known = tells_known run s c run.before run.after run.status for tells;
      bad_words = record { only = λ e. absurd (not BadWords (λ w. w) e); comes = λ none. absurd (none c for.stands) };
      read_fault = λ e. absurd (not ReadFault (λ w. w) e);
      too_long = λ bytes told. never (not (Limit TooLong 0 67108865) (λ w. w)) (λ cause. unread cause.0);
      not_json = λ bytes told. never (not (Refused NotJson 0) (λ w. w)) (λ cause. unread cause.0.reads);
      not_tree = λ bytes place told. never (not (Refused NotTree place) (λ w. w)) (λ cause. unread cause.0.reads);
      refused = λ bytes code place told of. never (not (Refused code place) (no_check s c run.before run.after code place of)) (λ cause. unread cause.0.reads);
      no_problem = cause_of HasNoProblem (Refused NoProblem 0) (λ y. y.1) (λ t same x. no_problem_comes s c run.before run.after run.status (no_problem_carried s t c same x) tells);
      late_problem = λ place. cause_of (HasLateProblem place) (Refused LateProblem place) (λ y. y) (λ t same x. late_comes s c run.before run.after run.status place (late_carried s t c same place x) tells);
      ego_too_fast = λ place. cause_of (HasFastProblem place) (Refused EgoTooFast place) (λ y. y) (λ t same x. fast_comes s c run.before run.after run.status place (fast_carried s t c same place x) tells);
      too_many_cells = λ count. cause_of (HasManyCells count) (Limit TooManyCells 0 count) (λ y. y.1) (λ t same x. cells_comes s c run.before run.after run.status count (cells_carried s t c same count x) tells);
      lane_too_wide = λ id. cause_of (HasWideLane id) (Limit LaneTooWide 0 id) (λ y. y.1) (λ t same x. wide_comes s c run.before run.after run.status id (wide_carried s t c same id x) tells);
      too_many_lane_polygons = λ count. cause_of (HasManyPairs count) (Limit TooManyLanePolygons 0 count) (λ y. y.1) (λ t same x. pairs_comes s c run.before run.after run.status count (many_pairs_carried s t c same count x) tells);
      area_too_wide = λ step count. cause_of (HasWideArea step count) (Limit AreaTooWide step count) (λ y. y.0) (λ t same x. wide_area_comes s c run.before run.after run.status step count (wide_area_carried s t c same step count x) tells);
      too_many_boxes = λ step count. cause_of (HasManyBoxes step count) (Limit TooManyBoxes step count) (λ y. y) (λ t same x. boxes_comes s c run.before run.after run.status step count (boxes_carried s t c same step count x) tells);
      write_fault = fails;
      complete = complete;
    }

-- all is said of a run of a sample
pub sampled : (run : Run) (c : Command) → IsForCommand run c → c.task ≡ Sample → TellsSample c run.before run.after run.status → (run.status ≡ WriteFault → WriteFails run) → AllHold run
sampled run c for task (inl memory) fails = memory_holds run c for task memory
sampled run c for task (inr (s, made, tells)) fails = made_holds run c for task s made tells fails

-- the room in the sink
pub sample_room : (run : Run) (can : ℕ → Type 0) (c : Command) → TakesOutput run.Stands run.told can → IsForCommand run c → c.task ≡ Sample → TakesSample c can
sample_room run can c takes for task = λ s made text passes output. takes c (text_of c) s text for.stands (subst (λ (t : Task). MayBeInput t c run.told (text_of c)) (sym task) refl) made passes output
