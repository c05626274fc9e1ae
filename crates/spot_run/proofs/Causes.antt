-- What a run says of its answer, by how far it came.
use Rattle.std.proofs.Common.{◌≡◌, ◌≢◌, ◌∙◌, ◌⊎◌, inl, inr, ℕ, ◌<◌, ◌≤◌, List, [], length, Option, Some, Err, refl, sym, ap, subst, arith}
use Rattle.spot_terms.specs.declared.plain.Pt.{Pt}
use Rattle.spot_terms.specs.StepLists.{AreStepLists}
use Rattle.spot_terms.specs.Courses.{Course}
use Rattle.spot_terms.specs.BaseSets.{SetValue}
use Rattle.spot_terms.specs.declared.limits.TheConstants.{MOST_BYTES}
use Rattle.std.specs.Prelude.{IfSome}
use Rattle.spot_terms.specs.Causes.{Takes}
use Rattle.spot_terms.specs.Pieces.{Hits}
use Rattle.spot_terms.specs.Statuses.{IsDone}
use Rattle.spot_terms.specs.Tasks.{ReadsInput, PredictsTraffic, FindsArea}
use Rattle.spot_terms.specs.declared.command.Command.{Command}
use Rattle.spot_terms.specs.declared.command.Task.{Task}
use Rattle.spot_terms.specs.declared.command.Task.TheVariants.{Predict, Area, Replay, Draw, Sample}
use Rattle.spot_terms.specs.declared.lines.End.{End}
use Rattle.spot_terms.specs.declared.lines.End.TheVariants as end
use Rattle.spot_terms.specs.declared.scenario.Scenario.{Scenario}
use Rattle.spot_terms.specs.declared.status.Code.{Code}
use Rattle.spot_terms.specs.declared.status.Code.TheVariants.{NotJson, NotTree, NoProblem, LateProblem, EgoTooFast}
use Rattle.spot_terms.specs.declared.status.Which.TheVariants.{TooLong, TooManyCells, LaneTooWide, TooManyLanePolygons, AreaTooWide, TooManyBoxes}
use Rattle.spot_terms.specs.declared.status.Status.{Status}
use Rattle.spot_terms.specs.declared.status.Status.TheVariants.{Open, Empty, BadWords, Refused, Limit, ReadFault, WriteFault, Memory}
use Rattle.spot_tree.proofs.Readings.{one_tree, one_place, tree_is_json, fault_is_json, tree_has_no_fault}
use Rattle.scenario.proofs.OneRefusal.{one_refusal}
use Rattle.spot_claims.proofs.AreaCovers.{ends_within}
use Rattle.spot_claims.specs.Answers.{IsOutside, ExactlyWhere, BadWordsExactly, ReadFaultOnly, TooLongExactly, NotJsonExactly, NotTreeExactly, IsRefusedAt, IsOfCheck, RefusedExactly, ExactlyFor, HasNoProblem, NoProblemExactly, HasLateProblem, LateProblemExactly, HasFastProblem, EgoTooFastExactly, HasManyCells, TooManyCellsExactly, HasWideLane, LaneTooWideExactly, HasManyPairs, TooManyLanePolygonsExactly, HasWideArea, AreaTooWideExactly, HasManyBoxes, TooManyBoxesExactly, WriteFaultOnly, EndsEmpty, AreFor, IsKnownAs, IsKnown}
use Rattle.spot_claims.specs.Headline.{Headline}
use Rattle.spot_claims.specs.Outcomes.{IsAfterReading, ReadsSource, IsAcceptedInput, PassesAll, Fails, Completes, WritesOutput}
use Rattle.spot_claims.specs.Outputs.{IsOutputOf, IsWritten, status_of}
use Rattle.spot_claims.specs.Problems.{course_of}
use Rattle.spot_claims.specs.Profile.{IsAccepted, IsRefused}
use Rattle.spot_claims.specs.Runs.{Run, ReadFails, WriteFails}
use Rattle.spot_claims.specs.Scenario.{IsScenarioOf}
use Rattle.spot_claims.specs.Stages.{AreNoCommand, AreForReading, IsRead, IsTold, IsInput, IsAccepting}
use Rattle.spot_claims.specs.Tight.{IsTight}
use Rattle.spot_claims.specs.Tree.{Element, IsTreeOf, IsNoJson, HasFaultAt}
use Rattle.spot_run.specs.Loads.{IsReadWhole, Loads, IsLoadFault}
use Rattle.spot_run.specs.Tells.{Tells}
use Rattle.spot_run.proofs.Limits.{no_problem_carried, late_carried, fast_carried, cells_carried, wide_carried, many_pairs_carried, wide_area_carried, boxes_carried, no_problem_comes, late_comes, fast_comes, cells_comes, wide_comes, pairs_comes, wide_area_comes, boxes_comes, passes_done}
use Rattle.spot_run.proofs.Runs.{IsForCommand, read_some, AreAlike, alike, HasLoaded, for_reading, input_of, is_input, headline, output, tight}

-- all that is said of a run
pub record AllHold (run : Run) : Type 0 where
  pub headline : Headline run
  pub output : WritesOutput run
  pub tight : IsTight run
  pub source_read : ReadsSource run
  pub known : IsKnown run
  pub bad_words : BadWordsExactly run
  pub read_fault : ReadFaultOnly run
  pub too_long : TooLongExactly run
  pub not_json : NotJsonExactly run
  pub not_tree : NotTreeExactly run
  pub refused : RefusedExactly run
  pub no_problem : NoProblemExactly run
  pub late_problem : LateProblemExactly run
  pub ego_too_fast : EgoTooFastExactly run
  pub too_many_cells : TooManyCellsExactly run
  pub lane_too_wide : LaneTooWideExactly run
  pub too_many_lane_polygons : TooManyLanePolygonsExactly run
  pub area_too_wide : AreaTooWideExactly run
  pub too_many_boxes : TooManyBoxesExactly run
  pub write_fault : WriteFaultOnly run
  pub complete : Completes run

-- ---- where a cause can't be

-- neither the answer nor its cause
pub never : {Cause : Type 0} {answer status : Status} → status ≢ answer → (Cause → ⊥) → ExactlyWhere Cause answer status
never other none = record { only = λ e. absurd (other e); comes = λ cause. absurd (none cause) }

pub no_tight : (run : Run) → (IsDone run.status → ⊥) → IsTight run
no_tight run none = λ c old stands told before done. absurd (none done)

pub no_headline : (run : Run) → (IsDone run.status → ⊥) → Headline run
no_headline run none = λ s c text lines r fits same. absurd (none r.done)

pub no_output : (run : Run) → (IsWritten run.status → ⊥) → WritesOutput run
no_output run none = λ c old stands told before written. absurd (none written)

-- ---- words for no command

pub no_command_holds : (run : Run) → run.status ≡ BadWords → AreNoCommand run → AllHold run
no_command_holds run e nothing = record {
  headline = no_headline run (λ done. subst IsDone e done);
  tight = no_tight run (λ done. subst IsDone e done);
  output = no_output run (λ written. subst IsWritten e written);
  source_read = record {
    whole = λ bytes told for later. absurd (subst IsAfterReading e later);
    limit = λ bytes step count told f. absurd (other (Limit TooLong step count) (λ g. cc) f);
  };
  known = subst (λ status. IsKnownAs status run) (sym e) tt;
  bad_words = record { only = λ f. nothing; comes = λ none. inl e };
  read_fault = λ f. absurd (other ReadFault (λ g. cc) f);
  too_long = λ bytes told. never (other (Limit TooLong 0 67108865) (λ g. cc)) (λ cause. unread cause.0);
  not_json = λ bytes told. never (other (Refused NotJson 0) (λ g. cc)) (λ cause. unread cause.0.reads);
  not_tree = λ bytes place told. never (other (Refused NotTree place) (λ g. cc)) (λ cause. unread cause.0.reads);
  refused = λ bytes code place told of. never (other (Refused code place) (λ g. cc)) (λ cause. unread cause.0.reads);
  no_problem = λ c stands told. absurd (nothing c stands);
  late_problem = λ place c stands told. absurd (nothing c stands);
  ego_too_fast = λ place c stands told. absurd (nothing c stands);
  too_many_cells = λ count c stands told. absurd (nothing c stands);
  lane_too_wide = λ id c stands told. absurd (nothing c stands);
  too_many_lane_polygons = λ count c stands told. absurd (nothing c stands);
  area_too_wide = λ step count c stands told. absurd (nothing c stands);
  too_many_boxes = λ step count c stands told. absurd (nothing c stands);
  write_fault = λ f. absurd (other WriteFault (λ g. cc) f);
  complete = λ c bytes stands input accepted passes none. absurd (nothing c stands);
}
  where
    other : (answer : Status) → (BadWords ≡ answer → ⊥) → run.status ≡ answer → ⊥
    other answer not f = not (sym e ∙ f)

    unread : AreForReading run → ⊥
    unread (c, stands, reads) = nothing c stands

-- ---- of the command that was read

-- what is said of it is said of each that the words stand for
exactly_for : (run : Run) (c : Command) (Cause : Scenario → Command → Type 0) (answer : Status) → IsForCommand run c → ReadsInput c.task
    → ((bytes : List ℕ) → run.told ≡ Some bytes → ExactlyWhere ((s : Scenario) × IsAccepting c run.told s × Cause s c) answer run.status) → ExactlyFor run Cause answer
exactly_for run c Cause answer for reads at = λ d stands. subst (λ (x : Command). IsTold x run.told → ExactlyWhere ((s : Scenario) × IsAccepting x run.told s × Cause s x) answer run.status) (sym (for.only d stands))
    (λ told. let (bytes, is) = told reads in at bytes is)

-- ---- a fault of loading

-- what loading answered
pub record HasFailed (run : Run) (c : Command) : Type 0 where
  pub for : IsForCommand run c
  pub reads : ReadsInput c.task
  pub told : (bytes : List ℕ) → run.told ≡ Some bytes → Loads bytes run.left (Err run.status)
  pub fault : IsLoadFault run.status
  pub read : run.status ≡ ReadFault → ReadFails run

fault_not_done : (status : Status) → IsLoadFault status → IsDone status → ⊥
fault_not_done Open fault done = fault
fault_not_done (Empty i) fault done = fault
fault_not_done status fault done = done

fault_not_written : (status : Status) → IsLoadFault status → IsWritten status → ⊥
fault_not_written Open fault written = fault
fault_not_written (Empty i) fault written = fault
fault_not_written WriteFault fault written = fault
fault_not_written status fault written = written

-- each command that the words stand for is the one that was read
each_for : (HasStage : Task → Type 0) (run : Run) (c : Command) → IsForCommand run c → HasStage c.task → AreFor HasStage run
each_for HasStage run c for h = λ d stands. subst (λ (x : Command). HasStage x.task) (sym (for.only d stands)) h

fault_known : (run : Run) (status : Status) → IsLoadFault status → AreFor ReadsInput run → IsKnownAs status run
fault_known run ReadFault fault reads = tt
fault_known run Memory fault reads = tt
fault_known run (Limit TooLong step count) fault reads = (fault.0, fault.1, reads)
fault_known run (Refused NotJson place) fault reads = (fault, reads)
fault_known run (Refused NotTree place) fault reads = reads
fault_known run (Refused NoProblem place) fault reads = absurd fault
fault_known run (Refused LateProblem place) fault reads = absurd fault
fault_known run (Refused EgoTooFast place) fault reads = absurd fault
fault_known run (Refused code place) fault reads = (fault, reads)
fault_known run status fault reads = absurd fault

after_whole : (bytes : List ℕ) (left : Option (List ℕ)) (status : Status) → IsAfterReading status → Loads bytes left (Err status) → left ≡ Some []
after_whole bytes left ReadFault later loads = absurd later
after_whole bytes left Memory later loads = absurd later
after_whole bytes left (Limit TooLong step count) later loads = absurd later
after_whole bytes left (Refused NotJson place) later loads = loads.0.1
after_whole bytes left (Refused NotTree place) later loads = loads.0.1
after_whole bytes left (Refused code place) later loads = loads.0.1
after_whole bytes left status later loads = absurd loads

too_many : (bytes : List ℕ) → length bytes ≤ MOST_BYTES → MOST_BYTES < length bytes → ⊥
too_many bytes few many = omega (arith, few, many)

too_long_of : (run : Run) (bytes : List ℕ) (left : Option (List ℕ)) (status : Status) → AreForReading run → Loads bytes left (Err status) → IsLoadFault status → ExactlyWhere (AreForReading run × (MOST_BYTES < length bytes)) (Limit TooLong 0 67108865) status
too_long_of run bytes left ReadFault for h k = record { only = λ e. cc; comes = λ _. inr (inr refl) }
too_long_of run bytes left Memory for h k = record { only = λ e. cc; comes = λ _. inr (inl refl) }
too_long_of run bytes left (Limit TooLong step count) for h k = record { only = λ e. (for, h.0); comes = λ _. inl (rw (k.0, k.1) refl) }
too_long_of run bytes left (Refused NotJson place) for h k = record { only = λ e. cc; comes = λ cause. absurd (too_many bytes h.0.0 cause.1) }
too_long_of run bytes left (Refused NotTree place) for h k = record { only = λ e. cc; comes = λ cause. absurd (too_many bytes h.0.0 cause.1) }
too_long_of run bytes left (Refused code place) for h k = record { only = λ e. cc; comes = λ cause. absurd (too_many bytes h.0.0 cause.1) }
too_long_of run bytes left status for h k = absurd k

-- bytes aren't of an accepted tree and refused
not_both : (bytes : List ℕ) (tree : List Element) (code : Code) (place : ℕ) → IsTreeOf bytes tree → IsAccepted tree → IsRefusedAt bytes code place → ⊥
not_both bytes tree code place tree_is accepted (other, other_is, refused) = subst IsAccepted (one_tree bytes tree other tree_is other_is) accepted place refused.number code refused.fails

not_refused : (bytes : List ℕ) (s : Scenario) (code : Code) (place : ℕ) → IsScenarioOf bytes s → IsRefusedAt bytes code place → ⊥
not_refused bytes s code place (tree, tree_is, scenario) refused = not_both bytes tree code place tree_is scenario.accepted refused

-- a fault of loading doesn't come where the bytes are those of a scenario
outside_at : (bytes : List ℕ) (left : Option (List ℕ)) (tree : List Element) (status : Status) → Loads bytes left (Err status) → IsLoadFault status → length bytes ≤ MOST_BYTES → IsTreeOf bytes tree → IsAccepted tree → IsOutside status
outside_at bytes left tree ReadFault h k few tree_is accepted = inr refl
outside_at bytes left tree Memory h k few tree_is accepted = inl refl
outside_at bytes left tree (Limit TooLong step count) h k few tree_is accepted = absurd (too_many bytes few h.0)
outside_at bytes left tree (Refused NotJson place) h k few tree_is accepted = absurd (tree_is_json bytes tree tree_is h.1)
outside_at bytes left tree (Refused NotTree place) h k few tree_is accepted = absurd (tree_has_no_fault bytes tree place tree_is h.1)
outside_at bytes left tree (Refused code place) h k few tree_is accepted = absurd (not_both bytes tree code place tree_is accepted h.1)
outside_at bytes left tree status h k few tree_is accepted = absurd k

same_code : (a b : Code) (p q : ℕ) → Refused a p ≡ Refused b q → a ≡ b
same_code a b p q e = cc

same_place : (a b : Code) (p q : ℕ) → Refused a p ≡ Refused b q → p ≡ q
same_place a b p q e = cc

-- bytes are refused in one way at most
same_refusal : (bytes : List ℕ) (code reason : Code) (place other : ℕ) → IsRefusedAt bytes code place → IsRefusedAt bytes reason other → Refused reason other ≡ Refused code place
same_refusal bytes code reason place other (tree, tree_is, refused) (again, again_is, first) =
    let one = one_refusal bytes again place other code reason again_is (subst (λ x. IsRefused x place code) (one_tree bytes tree again tree_is again_is) refused) first in
    sym (ap (λ p. Refused code p) one.0 ∙ ap (λ c. Refused c other) one.1)

-- the refusal of a loading that answered a status
refused_of : (run : Run) (bytes : List ℕ) (code : Code) (place : ℕ) (left : Option (List ℕ)) (status : Status) → IsOfCheck code → AreForReading run → Loads bytes left (Err status) → IsLoadFault status
    → ExactlyWhere (IsRead run bytes × IsRefusedAt bytes code place) (Refused code place) status
refused_of run bytes code place left ReadFault of for h k = record { only = λ e. cc; comes = λ cause. inr (inr refl) }
refused_of run bytes code place left Memory of for h k = record { only = λ e. cc; comes = λ cause. inr (inl refl) }
refused_of run bytes code place left (Limit TooLong step count) of for h k = record { only = λ e. cc; comes = λ cause. absurd (too_many bytes cause.0.few h.0) }
refused_of run bytes code place left (Refused NotJson other) of for h k = record { only = λ e. absurd (subst IsOfCheck (sym (same_code NotJson code other place e)) of); comes = λ cause. absurd (tree_is_json bytes cause.1.0 cause.1.1 h.1) }
refused_of run bytes code place left (Refused NotTree other) of for h k = record { only = λ e. absurd (subst IsOfCheck (sym (same_code NotTree code other place e)) of); comes = λ cause. absurd (tree_has_no_fault bytes cause.1.0 other cause.1.1 h.1) }
refused_of run bytes code place left (Refused answered other) of for h k = record {
  only = λ e. (record { reads = for; few = h.0.0 }, subst (λ c. IsRefusedAt bytes c place) (same_code answered code other place e) (subst (IsRefusedAt bytes answered) (same_place answered code other place e) h.1));
  comes = λ cause. inl (same_refusal bytes code answered place other cause.1 h.1);
}
refused_of run bytes code place left status of for h k = absurd k

not_json_of : (run : Run) (bytes : List ℕ) (left : Option (List ℕ)) (status : Status) → AreForReading run → Loads bytes left (Err status) → IsLoadFault status → ExactlyWhere (IsRead run bytes × IsNoJson bytes) (Refused NotJson 0) status
not_json_of run bytes left ReadFault for h k = record { only = λ e. cc; comes = λ _. inr (inr refl) }
not_json_of run bytes left Memory for h k = record { only = λ e. cc; comes = λ _. inr (inl refl) }
not_json_of run bytes left (Limit TooLong step count) for h k = record { only = λ e. cc; comes = λ cause. absurd (too_many bytes cause.0.few h.0) }
not_json_of run bytes left (Refused NotJson place) for h k = record { only = λ e. (record { reads = for; few = h.0.0 }, h.1); comes = λ _. inl (ap (λ (p : ℕ). Refused NotJson p) k) }
not_json_of run bytes left (Refused NotTree place) for h k = record { only = λ e. cc; comes = λ cause. absurd (fault_is_json bytes place h.1 cause.1) }
not_json_of run bytes left (Refused code place) for h k = record {
  only = λ e. absurd (subst IsOfCheck (same_code code NotJson place 0 e) k);
  comes = λ cause. absurd (tree_is_json bytes h.1.0 h.1.1 cause.1);
}
not_json_of run bytes left status for h k = absurd k

not_tree_of : (run : Run) (bytes : List ℕ) (place : ℕ) (left : Option (List ℕ)) (status : Status) → AreForReading run → Loads bytes left (Err status) → IsLoadFault status → ExactlyWhere (IsRead run bytes × HasFaultAt bytes place) (Refused NotTree place) status
not_tree_of run bytes place left ReadFault for h k = record { only = λ e. cc; comes = λ _. inr (inr refl) }
not_tree_of run bytes place left Memory for h k = record { only = λ e. cc; comes = λ _. inr (inl refl) }
not_tree_of run bytes place left (Limit TooLong step count) for h k = record { only = λ e. cc; comes = λ cause. absurd (too_many bytes cause.0.few h.0) }
not_tree_of run bytes place left (Refused NotJson other) for h k = record { only = λ e. cc; comes = λ cause. absurd (fault_is_json bytes place cause.1 h.1) }
not_tree_of run bytes place left (Refused NotTree other) for h k = record {
  only = λ e. (record { reads = for; few = h.0.0 }, subst (HasFaultAt bytes) (same_place NotTree NotTree other place e) h.1);
  comes = λ cause. inl (ap (λ (p : ℕ). Refused NotTree p) (one_place bytes other place h.1 cause.1));
}
not_tree_of run bytes place left (Refused code other) for h k = record {
  only = λ e. absurd (subst IsOfCheck (same_code code NotTree other place e) k);
  comes = λ cause. absurd (tree_has_no_fault bytes h.1.0 place h.1.1 cause.1);
}
not_tree_of run bytes place left status for h k = absurd k

limit_of : (bytes : List ℕ) (left : Option (List ℕ)) (status : Status) (step count : ℕ) → Loads bytes left (Err status) → status ≡ Limit TooLong step count → Takes 67108865 bytes left
limit_of bytes left status step count loads e = (subst (λ (x : Status). Loads bytes left (Err x)) e loads).1

-- an accepted input leaves only want of memory and a read fault
accepted_outside : (run : Run) (c : Command) (t : Scenario) → HasFailed run c → IsAccepting c run.told t → IsOutside run.status
accepted_outside run c t h accepting =
    let (told, few) = input_of c h.reads run.told accepting.bytes accepting.input in
    let (tree, tree_is, scenario) = accepting.scenario in
    outside_at accepting.bytes run.left tree run.status (h.told accepting.bytes told) h.fault few tree_is scenario.accepted

-- a cause of an accepted scenario: the answer is no fault of loading
after_fault : (run : Run) (c : Command) (Cause : Scenario → Command → Type 0) (answer : Status) → HasFailed run c → (IsLoadFault answer → ⊥) → ExactlyFor run Cause answer
after_fault run c Cause answer h other = exactly_for run c Cause answer h.for h.reads (λ bytes told. record {
  only = λ e. absurd (other (subst IsLoadFault e h.fault));
  comes = λ (t, accepting, cause). inr (accepted_outside run c t h accepting);
})

-- what is said of the completion of the command that was read is said of each that the words stand for
complete_for : (run : Run) (c : Command) → IsForCommand run c → ReadsInput c.task
    → ((bytes : List ℕ) (tree : List Element) → run.told ≡ Some bytes → length bytes ≤ MOST_BYTES → IsTreeOf bytes tree → IsAccepted tree → ((s : Scenario) → IsScenarioOf bytes s → PassesAll s c) → (Fails run → ⊥) → IsDone run.status ⊎ (run.status ≡ Memory))
    → Completes run
complete_for run c for reads at = λ d bytes stands. subst (λ (x : Command). IsInput x run.told bytes → IsAcceptedInput x bytes → ((s : Scenario) → IsScenarioOf bytes s → PassesAll s x) → (Fails run → ⊥) → IsDone run.status ⊎ (run.status ≡ Memory))
    (sym (for.only d stands))
    (λ input accepted passes none.
    let (told, few) = input_of c reads run.told bytes input in
    let (tree, tree_is, is) = accepted reads in at bytes tree told few tree_is is passes none)

fault_holds : (run : Run) (c : Command) → HasFailed run c → AllHold run
fault_holds run c h = record {
  headline = no_headline run (fault_not_done run.status h.fault);
  tight = no_tight run (fault_not_done run.status h.fault);
  output = no_output run (fault_not_written run.status h.fault);
  source_read = record {
    whole = λ bytes told for later. after_whole bytes run.left run.status later (h.told bytes told);
    limit = λ bytes step count told e. limit_of bytes run.left run.status step count (h.told bytes told) e;
  };
  known = fault_known run run.status h.fault (each_for ReadsInput run c h.for h.reads);
  bad_words = record { only = λ e. absurd (subst IsLoadFault e h.fault); comes = λ none. absurd (none c h.for.stands) };
  read_fault = λ e. (for_reading run c h.for h.reads, h.read e);
  too_long = λ bytes told. too_long_of run bytes run.left run.status (for_reading run c h.for h.reads) (h.told bytes told) h.fault;
  not_json = λ bytes told. not_json_of run bytes run.left run.status (for_reading run c h.for h.reads) (h.told bytes told) h.fault;
  not_tree = λ bytes place told. not_tree_of run bytes place run.left run.status (for_reading run c h.for h.reads) (h.told bytes told) h.fault;
  refused = λ bytes code place told of. refused_of run bytes code place run.left run.status of (for_reading run c h.for h.reads) (h.told bytes told) h.fault;
  no_problem = after_fault run c HasNoProblem (Refused NoProblem 0) h (λ f. f);
  late_problem = λ place. after_fault run c (HasLateProblem place) (Refused LateProblem place) h (λ f. f);
  ego_too_fast = λ place. after_fault run c (HasFastProblem place) (Refused EgoTooFast place) h (λ f. f);
  too_many_cells = λ count. after_fault run c (HasManyCells count) (Limit TooManyCells 0 count) h (λ f. f);
  lane_too_wide = λ id. after_fault run c (HasWideLane id) (Limit LaneTooWide 0 id) h (λ f. f);
  too_many_lane_polygons = λ count. after_fault run c (HasManyPairs count) (Limit TooManyLanePolygons 0 count) h (λ f. f);
  area_too_wide = λ step count. after_fault run c (HasWideArea step count) (Limit AreaTooWide step count) h (λ f. f);
  too_many_boxes = λ step count. after_fault run c (HasManyBoxes step count) (Limit TooManyBoxes step count) h (λ f. f);
  write_fault = λ e. absurd (subst IsLoadFault e h.fault);
  complete = complete_for run c h.for h.reads (λ bytes tree told few tree_is is passes none. elim (outside_at bytes run.left tree run.status (h.told bytes told) h.fault few tree_is is) [
    | inl memory ↦ inr memory
    | inr read ↦ absurd (none (inl (for_reading run c h.for h.reads, h.read read)))
  ]);
}

-- ---- a scenario that was loaded

-- the scenario of an accepted input is the one that was loaded
accepted_alike : (run : Run) (c : Command) (s t : Scenario) → HasLoaded run c s → IsAccepting c run.told t → AreAlike t s
accepted_alike run c s t h accepting =
    let told = (input_of c h.reads run.told accepting.bytes accepting.input).0 in
    alike accepting.bytes t s accepting.scenario (h.told accepting.bytes told).1

-- the scenario that was loaded is accepted
accepts : (run : Run) (c : Command) (s : Scenario) (bytes : List ℕ) → HasLoaded run c s → run.told ≡ Some bytes → IsAccepting c run.told s
accepts run c s bytes h told = record {
  bytes = bytes;
  input = is_input c h.reads run.told bytes told (h.told bytes told).0.0;
  scenario = (h.told bytes told).1;
}

-- a cause that is told with the answer, and that leaves no other
cause_of : (run : Run) (c : Command) (s : Scenario) (Cause : Scenario → Command → Type 0) (answer : Status) → HasLoaded run c s → (Tells s c run.before run.after answer → Cause s c)
    → ((t : Scenario) → AreAlike t s → Cause t c → (run.status ≡ answer) ⊎ IsOutside run.status) → ExactlyFor run Cause answer
cause_of run c s Cause answer h is comes = exactly_for run c Cause answer h.for h.reads (λ bytes told. record {
  only = λ e. (s, accepts run c s bytes h told, is (subst (Tells s c run.before run.after) e h.tells));
  comes = λ (t, accepting, cause). comes t (accepted_alike run c s t h accepting) cause;
})

-- a run that ends empty ends at one of its steps
ended_within : (course : Course) (count : ℕ → ℕ) (Hits : ℕ → ℕ → Pt → Type 0) (n : ℕ) (lists : List (List SetValue)) (ends : End) (i : ℕ) → AreStepLists course count Hits n lists ends → Empty i ≡ status_of Area ends → i ≤ n
ended_within course count Hits n lists end.Done i are e = cc
ended_within course count Hits n lists end.Open i are e = cc
ended_within course count Hits n lists (end.Empty j) i are e =
    let at : i ≡ j = cc in
    subst (λ (k : ℕ). k ≤ n) (sym at) (ends_within course count Hits n lists j are)

pub replay_status : (ends : End) → status_of Replay ends ≡ status_of Area ends
replay_status end.Done = refl
replay_status end.Open = refl
replay_status (end.Empty i) = refl

pub draw_status : (ends : End) → status_of Draw ends ≡ status_of Area ends
draw_status end.Done = refl
draw_status end.Open = refl
draw_status (end.Empty i) = refl

empty_known : (task : Task) (s : Scenario) (c : Command) (text : List ℕ) (ends : End) (i : ℕ) → IsOutputOf task s c text ends → Empty i ≡ status_of task ends → EndsEmpty task × (i ≤ c.steps)
empty_known Predict s c text end.Done i output e = cc
empty_known Predict s c text end.Open i output e = let done : end.Open ≡ end.Done = output.1 in cc
empty_known Predict s c text (end.Empty j) i output e = let done : end.Empty j ≡ end.Done = output.1 in cc
empty_known Area s c text ends i output e =
    let run = output.report.run in
    (tt, ended_within (course_of s c output.report.problem) (λ k. length (output.report.pieces k)) (λ k. Hits (output.report.pieces k)) c.steps output.report.lists ends i run.lists_are e)
empty_known Replay s c text ends i output e =
    let run = output.report.run in
    (tt, ended_within (course_of s c output.report.problem) (λ k. length (output.report.pieces k)) (λ k. Hits (output.report.pieces k)) c.steps output.report.lists ends i run.lists_are (e ∙ replay_status ends))
empty_known Draw s c text ends i output e =
    (tt, ended_within (course_of s c output.problem) (λ k. length (output.pieces k)) (λ k. Hits (output.pieces k)) c.steps output.lists ends i output.run.lists_are (e ∙ draw_status ends))
empty_known Sample s c text ends i output e = cc

pub tells_known : (run : Run) (s : Scenario) (c : Command) (before after : Option (List ℕ)) (status : Status) → IsForCommand run c → Tells s c before after status → IsKnownAs status run
tells_known run s c before after Open for h = tt
tells_known run s c before after WriteFault for h = tt
tells_known run s c before after Memory for h = tt
tells_known run s c before after (Empty i) for h =
    let whole = h.whole tt in
    let both = empty_known c.task s c h.front whole.ends i whole.output whole.status_is in
    (each_for EndsEmpty run c for both.0, λ d stands. subst (λ (x : Command). i ≤ x.steps) (sym (for.only d stands)) both.1)
tells_known run s c before after (Refused NoProblem place) for h = (h.0, each_for FindsArea run c for h.1.finds)
tells_known run s c before after (Refused LateProblem place) for h = each_for FindsArea run c for h.finds
tells_known run s c before after (Refused EgoTooFast place) for h = each_for FindsArea run c for h.finds
tells_known run s c before after (Limit TooManyCells step count) for h = (h.0, each_for PredictsTraffic run c for h.1.predicts)
tells_known run s c before after (Limit LaneTooWide step id) for h = (h.0, each_for PredictsTraffic run c for h.1.predicts)
tells_known run s c before after (Limit TooManyLanePolygons step count) for h = (h.0, each_for PredictsTraffic run c for h.1.predicts)
tells_known run s c before after (Limit AreaTooWide step count) for h = each_for FindsArea run c for h.0.passing.finds
tells_known run s c before after (Limit TooManyBoxes step count) for h = each_for FindsArea run c for h.passing.finds
tells_known run s c before after status for h = absurd h

-- an answer that tells what can't be isn't given
pub other_answer : (run : Run) (s : Scenario) (c : Command) → Tells s c run.before run.after run.status → (answer : Status) → (Tells s c run.before run.after answer → ⊥) → run.status ≡ answer → ⊥
other_answer run s c tells answer other e = other (subst (Tells s c run.before run.after) e tells)

-- nor that of a check of the tree
pub no_check : (s : Scenario) (c : Command) (before after : Option (List ℕ)) (code : Code) (place : ℕ) → IsOfCheck code → Tells s c before after (Refused code place) → ⊥
no_check s c before after NoProblem place of w = of
no_check s c before after LateProblem place of w = of
no_check s c before after EgoTooFast place of w = of
no_check s c before after code place of w = w

loaded_holds : (run : Run) (c : Command) (s : Scenario) → HasLoaded run c s → AllHold run
loaded_holds run c s h = record {
  headline = headline run c s h;
  output = output run c s h;
  tight = tight run c s h;
  source_read = record {
    whole = λ bytes told for later. (h.told bytes told).0.1;
    limit = λ bytes step count told e. absurd (not (Limit TooLong step count) (λ w. w) e);
  };
  known = tells_known run s c run.before run.after run.status h.for h.tells;
  bad_words = record { only = λ e. absurd (not BadWords (λ w. w) e); comes = λ none. absurd (none c h.for.stands) };
  read_fault = λ e. absurd (not ReadFault (λ w. w) e);
  too_long = λ bytes told. never (not (Limit TooLong 0 67108865) (λ w. w)) (λ cause. too_many bytes (h.told bytes told).0.0 cause.1);
  not_json = λ bytes told. never (not (Refused NotJson 0) (λ w. w)) (λ cause. let (tree, tree_is, scenario) = (h.told bytes told).1 in tree_is_json bytes tree tree_is cause.1);
  not_tree = λ bytes place told. never (not (Refused NotTree place) (λ w. w)) (λ cause. let (tree, tree_is, scenario) = (h.told bytes told).1 in tree_has_no_fault bytes tree place tree_is cause.1);
  refused = λ bytes code place told of. never (not (Refused code place) (no_check s c run.before run.after code place of)) (λ cause. not_refused bytes s code place (h.told bytes told).1 cause.1);
  no_problem = cause_of run c s HasNoProblem (Refused NoProblem 0) h (λ y. y.1) (λ t same x. no_problem_comes s c run.before run.after run.status (no_problem_carried s t c same x) h.tells);
  late_problem = λ place. cause_of run c s (HasLateProblem place) (Refused LateProblem place) h (λ y. y) (λ t same x. late_comes s c run.before run.after run.status place (late_carried s t c same place x) h.tells);
  ego_too_fast = λ place. cause_of run c s (HasFastProblem place) (Refused EgoTooFast place) h (λ y. y) (λ t same x. fast_comes s c run.before run.after run.status place (fast_carried s t c same place x) h.tells);
  too_many_cells = λ count. cause_of run c s (HasManyCells count) (Limit TooManyCells 0 count) h (λ y. y.1) (λ t same x. cells_comes s c run.before run.after run.status count (cells_carried s t c same count x) h.tells);
  lane_too_wide = λ id. cause_of run c s (HasWideLane id) (Limit LaneTooWide 0 id) h (λ y. y.1) (λ t same x. wide_comes s c run.before run.after run.status id (wide_carried s t c same id x) h.tells);
  too_many_lane_polygons = λ count. cause_of run c s (HasManyPairs count) (Limit TooManyLanePolygons 0 count) h (λ y. y.1) (λ t same x. pairs_comes s c run.before run.after run.status count (many_pairs_carried s t c same count x) h.tells);
  area_too_wide = λ step count. cause_of run c s (HasWideArea step count) (Limit AreaTooWide step count) h (λ y. y.0) (λ t same x. wide_area_comes s c run.before run.after run.status step count (wide_area_carried s t c same step count x) h.tells);
  too_many_boxes = λ step count. cause_of run c s (HasManyBoxes step count) (Limit TooManyBoxes step count) h (λ y. y) (λ t same x. boxes_comes s c run.before run.after run.status step count (boxes_carried s t c same step count x) h.tells);
  write_fault = h.cause;
  complete = complete_for run c h.for h.reads (λ bytes tree told few tree_is is passes none. elim (passes_done s c run.before run.after run.status (passes s (h.told bytes told).1) h.tells) [
    | inl (inl done) ↦ inl done
    | inl (inr fault) ↦ absurd (none (inr (h.cause fault)))
    | inr memory ↦ inr memory
  ]);
}
  where
    not : (answer : Status) → (Tells s c run.before run.after answer → ⊥) → run.status ≡ answer → ⊥
    not answer other e = other_answer run s c h.tells answer other e

-- ---- by what loading and writing say

pub loaded : (run : Run) (c : Command) (s : Scenario) → IsForCommand run c → ReadsInput c.task → ((bytes : List ℕ) → run.told ≡ Some bytes → IsReadWhole bytes run.left × IsScenarioOf bytes s)
    → Tells s c run.before run.after run.status → (run.status ≡ WriteFault → WriteFails run) → AllHold run
loaded run c s for reads told tells cause = loaded_holds run c s (record { for = for; reads = reads; told = told; tells = tells; cause = cause })

pub failed : (run : Run) (c : Command) → IsForCommand run c → ReadsInput c.task → ((bytes : List ℕ) → run.told ≡ Some bytes → Loads bytes run.left (Err run.status)) → IsLoadFault run.status → (run.status ≡ ReadFault → ReadFails run) → AllHold run
failed run c for reads told fault read = fault_holds run c (record { for = for; reads = reads; told = told; fault = fault; read = read })
