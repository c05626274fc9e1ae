-- What is true of a run stays true once its sink has sent on what it kept back, or couldn't.
use Rattle.std.proofs.Common.{◌≡◌, ◌∙◌, ◌⊎◌, inl, inr, sym, ap, subst, ℕ, ◌≤◌, ◌++◌, List, Option, Some, None, arith}
use Rattle.std.specs.Io.KnownBytes.{Keeps}
use Rattle.spot_terms.specs.Causes.{Rose}
use Rattle.spot_terms.specs.Statuses.{IsDone}
use Rattle.spot_terms.specs.declared.status.Code.TheVariants.{NotJson}
use Rattle.spot_terms.specs.declared.status.Status.{Status}
use Rattle.spot_terms.specs.declared.status.Status.TheVariants.{Open, Empty, BadWords, Refused, Limit, ReadFault, WriteFault, Memory}
use Rattle.spot_terms.specs.declared.status.Which.TheVariants.{TooLong}
use Rattle.spot_claims.specs.Answers.{IsOutside, ExactlyWhere, BadWordsExactly, ReadFaultOnly, TooLongExactly, NotJsonExactly, NotTreeExactly, RefusedExactly, NoProblemExactly, LateProblemExactly, EgoTooFastExactly, TooManyCellsExactly, LaneTooWideExactly, TooManyLanePolygonsExactly, AreaTooWideExactly, TooManyBoxesExactly, WriteFaultOnly, IsKnown, IsKnownAs}
use Rattle.spot_claims.specs.Headline.{Headline}
use Rattle.spot_claims.specs.Outcomes.{Completes, Fails, IsAfterReading, ReadsSource, WritesOutput}
use Rattle.spot_claims.specs.Outputs.{IsWritten}
use Rattle.spot_claims.specs.Runs.{Run}
use Rattle.spot_claims.specs.Stages.{IsRead}
use Rattle.spot_cli.specs.Endings.{EndsAs}
use Rattle.spot_terms.proofs.Unique.{some_injective}

-- ---- statuses

done_written : (status : Status) → IsDone status → IsWritten status
done_written Open h = tt
done_written (Empty i) h = tt
done_written status h = absurd h

done_after_reading : (status : Status) → IsDone status → IsAfterReading status
done_after_reading Open h = tt
done_after_reading (Empty i) h = tt
done_after_reading status h = absurd h

-- an answer after which nothing is written stays
same_answer : (before after answer : Status) → EndsAs before after → (IsWritten answer → ⊥) → before ≡ answer → after ≡ answer
same_answer before after answer (inl same) unwritten is = same ∙ is
same_answer before after answer (inr fault) unwritten is = absurd (unwritten (done_written answer (subst IsDone is fault.0)))

-- and it was there before
was_answer : (before after answer : Status) → EndsAs before after → (IsWritten answer → ⊥) → after ≡ answer → before ≡ answer
was_answer before after answer (inl same) unwritten is = sym same ∙ is
was_answer before after answer (inr fault) unwritten is = absurd (unwritten (subst IsWritten (sym fault.1 ∙ is) tt))

stays_outside : (before after : Status) → EndsAs before after → IsOutside before → IsOutside after
stays_outside before after ends (inl memory) = inl (same_answer before after Memory ends (λ written. written) memory)
stays_outside before after ends (inr fault) = inr (same_answer before after ReadFault ends (λ written. written) fault)

was_done : (before after : Status) → EndsAs before after → IsDone after → IsDone before
was_done before after (inl same) done = subst IsDone same done
was_done before after (inr fault) done = fault.0

was_written : (before after : Status) → EndsAs before after → IsWritten after → IsWritten before
was_written before after (inl same) written = subst IsWritten same written
was_written before after (inr fault) written = done_written before fault.0

pub stays_written : (before after : Status) → EndsAs before after → IsWritten before → IsWritten after
stays_written before after (inl same) written = subst IsWritten (sym same) written
stays_written before after (inr fault) written = subst IsWritten (sym fault.1) tt

-- where nothing can have been written, the run wasn't done before either
pub not_done : (before after : Status) → EndsAs before after → (IsWritten after → ⊥) → IsDone before → ⊥
not_done before after ends unwritten done = unwritten (stays_written before after ends (done_written before done))

same_done : (before after : Status) → EndsAs before after → IsDone after → after ≡ before
same_done before after (inl same) done = same
same_done before after (inr fault) done = absurd (subst IsDone fault.1 done)

was_after_reading : (before after : Status) → EndsAs before after → IsAfterReading after → IsAfterReading before
was_after_reading before after (inl same) h = subst IsAfterReading same h
was_after_reading before after (inr fault) h = done_after_reading before fault.0

-- ---- causes

exactly_still : (was cause : Type 0) (answer before after : Status) → EndsAs before after → (IsWritten answer → ⊥) → (was → cause) → (cause → was) → ExactlyWhere was answer before → ExactlyWhere cause answer after
exactly_still was cause answer before after ends unwritten to from h = record {
  only = λ is. to (h.only (was_answer before after answer ends unwritten is));
  comes = λ there. elim (h.comes (from there)) [
    | inl is ↦ inl (same_answer before after answer ends unwritten is)
    | inr outside ↦ inr (stays_outside before after ends outside)
  ];
}

rose_before : (first middle last : ℕ) → middle ≤ last → Rose first middle → Rose first last
rose_before first middle last more rose = omega arith

rose_after : (first middle last : ℕ) → first ≤ middle → Rose middle last → Rose first last
rose_after first middle last more rose = omega arith

-- ---- known bytes

kept_some : (middle last : Option (List ℕ)) (xs : List ℕ) → Keeps middle last → middle ≡ Some xs → last ≡ Some xs
kept_some None last xs kept e = cc
kept_some (Some ys) None xs kept e = absurd kept
kept_some (Some ys) (Some zs) xs kept e = cc

-- ---- the run

-- what sending on makes of a run: what the sink told stays, and a whole output may end by a write fault
pub record IsSentOn (run : Run) (after : Option (List ℕ)) (faults : ℕ) (status : Status) : Type 0 where
  pub ends : EndsAs run.status status
  pub kept : Keeps run.after after
  pub earlier : run.write_faults ≤ run.write_faults_now
  pub later : run.write_faults_now ≤ faults
  pub cause : status ≡ WriteFault → (run.status ≡ WriteFault) ⊎ Rose run.write_faults_now faults

-- the run with what is there afterwards
abbrev pub sent_on : Run → Option (List ℕ) → ℕ → Status → Run
sent_on run after faults status = record {
  Stands = run.Stands;
  told = run.told;
  left = run.left;
  read_faults = run.read_faults;
  read_faults_now = run.read_faults_now;
  before = run.before;
  after = after;
  write_faults = run.write_faults;
  write_faults_now = faults;
  status = status;
}

module _ (run : Run) (after : Option (List ℕ)) (faults : ℕ) (status : Status) (sent : IsSentOn run after faults status) where
  abbrev now : Run
  now = sent_on run after faults status

  -- ---- what is written and read

  pub output_still : WritesOutput run → WritesOutput now
  output_still h = λ c old stands told before_is written.
      let (new, after_is, writes) = h c old stands told before_is (was_written run.status status sent.ends written) in (
        new,
        kept_some run.after after new sent.kept after_is,
        record {
          command = writes.command;
          stands = writes.stands;
          bytes = writes.bytes;
          input = writes.input;
          scenario = writes.scenario;
          scenario_is = writes.scenario_is;
          within = writes.within;
          text = writes.text;
          output = writes.output;
          front = writes.front;
          back = writes.back;
          text_is = writes.text_is;
          appended = writes.appended;
          whole = λ done.
              let w = writes.whole (was_done run.status status sent.ends done) in
              record { ends = w.ends; output = w.output; status_is = same_done run.status status sent.ends done ∙ w.status_is };
        },
      )

  pub headline_still : WritesOutput run → Headline run → Headline now
  headline_still output h = λ s c text lines r fits text_is.
      let done : IsDone run.status = was_done run.status status sent.ends r.done in
      let (new, after_is, _) = output c r.old r.stands (λ _. (r.bytes, r.told_is)) r.before_is (done_written run.status done) in
      let same : new ≡ r.old ++ text = some_injective new (r.old ++ text) (sym (kept_some run.after after new sent.kept after_is) ∙ r.after_is) in
      h s c text lines (record {
        stands = r.stands;
        bytes = r.bytes;
        told_is = r.told_is;
        scenario_is = r.scenario_is;
        done = done;
        old = r.old;
        before_is = r.before_is;
        after_is = after_is ∙ ap Some same;
      }) fits text_is

  pub source_read_still : ReadsSource run → ReadsSource now
  source_read_still h = record {
    whole = λ bytes told_is reads ended. h.whole bytes told_is reads (was_after_reading run.status status sent.ends ended);
    limit = λ bytes step count told_is is. h.limit bytes step count told_is (was_answer run.status status (Limit TooLong step count) sent.ends (λ written. written) is);
  }

  -- ---- when each answer comes

  known_as : (s : Status) → IsKnownAs s run → IsKnownAs s now
  known_as (Refused NotJson place) h = h
  known_as (Refused code place) h = h
  known_as (Limit TooLong step count) h = h
  known_as (Limit which step count) h = h
  known_as s h = h

  pub known_still : IsKnown run → IsKnown now
  known_still h = elim sent.ends [
    | inl same ↦ subst (λ (s : Status). IsKnownAs s now) (sym same) (known_as run.status h)
    | inr fault ↦ subst (λ (s : Status). IsKnownAs s now) (sym fault.1) tt
  ]

  -- a cause that speaks of the words and the source alone
  same_cause : (cause : Type 0) (answer : Status) → (IsWritten answer → ⊥) → ExactlyWhere cause answer run.status → ExactlyWhere cause answer status
  same_cause cause answer unwritten h = exactly_still cause cause answer run.status status sent.ends unwritten (λ there. there) (λ there. there) h

  -- a cause for which the source is read
  read_cause : (bytes : List ℕ) (cause : Type 0) (answer : Status) → (IsWritten answer → ⊥) → ExactlyWhere (IsRead run bytes × cause) answer run.status → ExactlyWhere (IsRead now bytes × cause) answer status
  read_cause bytes cause answer unwritten h = exactly_still (IsRead run bytes × cause) (IsRead now bytes × cause) answer run.status status sent.ends unwritten
      (λ there. (record { reads = there.0.reads; few = there.0.few }, there.1)) (λ there. (record { reads = there.0.reads; few = there.0.few }, there.1)) h

  pub bad_words_still : BadWordsExactly run → BadWordsExactly now
  bad_words_still h = record {
    only = λ is. h.only (was_answer run.status status BadWords sent.ends (λ written. written) is);
    comes = λ none. elim (h.comes none) [
      | inl bad ↦ inl (same_answer run.status status BadWords sent.ends (λ written. written) bad)
      | inr memory ↦ inr (same_answer run.status status Memory sent.ends (λ written. written) memory)
    ];
  }

  pub read_fault_still : ReadFaultOnly run → ReadFaultOnly now
  read_fault_still h is = h (was_answer run.status status ReadFault sent.ends (λ written. written) is)

  pub too_long_still : TooLongExactly run → TooLongExactly now
  too_long_still h bytes is = same_cause _ _ (λ written. written) (h bytes is)

  pub not_json_still : NotJsonExactly run → NotJsonExactly now
  not_json_still h bytes is = read_cause bytes _ _ (λ written. written) (h bytes is)

  pub not_tree_still : NotTreeExactly run → NotTreeExactly now
  not_tree_still h bytes place is = read_cause bytes _ _ (λ written. written) (h bytes place is)

  pub refused_still : RefusedExactly run → RefusedExactly now
  refused_still h bytes code place is of = read_cause bytes _ _ (λ written. written) (h bytes code place is of)

  pub no_problem_still : NoProblemExactly run → NoProblemExactly now
  no_problem_still h c stands told = same_cause _ _ (λ written. written) (h c stands told)

  pub late_problem_still : LateProblemExactly run → LateProblemExactly now
  late_problem_still h place c stands told = same_cause _ _ (λ written. written) (h place c stands told)

  pub ego_too_fast_still : EgoTooFastExactly run → EgoTooFastExactly now
  ego_too_fast_still h place c stands told = same_cause _ _ (λ written. written) (h place c stands told)

  pub too_many_cells_still : TooManyCellsExactly run → TooManyCellsExactly now
  too_many_cells_still h count c stands told = same_cause _ _ (λ written. written) (h count c stands told)

  pub lane_too_wide_still : LaneTooWideExactly run → LaneTooWideExactly now
  lane_too_wide_still h id c stands told = same_cause _ _ (λ written. written) (h id c stands told)

  pub too_many_lane_polygons_still : TooManyLanePolygonsExactly run → TooManyLanePolygonsExactly now
  too_many_lane_polygons_still h count c stands told = same_cause _ _ (λ written. written) (h count c stands told)

  pub area_too_wide_still : AreaTooWideExactly run → AreaTooWideExactly now
  area_too_wide_still h step count c stands told = same_cause _ _ (λ written. written) (h step count c stands told)

  pub too_many_boxes_still : TooManyBoxesExactly run → TooManyBoxesExactly now
  too_many_boxes_still h step count c stands told = same_cause _ _ (λ written. written) (h step count c stands told)

  pub write_fault_still : WriteFaultOnly run → WriteFaultOnly now
  write_fault_still h is = elim (sent.cause is) [
    | inl fault ↦ rose_before run.write_faults run.write_faults_now faults sent.later (h fault)
    | inr rose ↦ rose_after run.write_faults run.write_faults_now faults sent.earlier rose
  ]

  still_fails : Fails run → Fails now
  still_fails (inl read) = inl read
  still_fails (inr write) = inr (rose_before run.write_faults run.write_faults_now faults sent.later write)

  pub complete_still : WriteFaultOnly run → Completes run → Completes now
  complete_still fault h = λ c bytes stands input accepted passes none.
      elim (h c bytes stands input accepted passes (λ fails. none (still_fails fails))) [
        | inl done ↦ elim sent.ends [
          | inl same ↦ inl (subst IsDone (sym same) done)
          | inr changed ↦ absurd (none (inr (write_fault_still fault changed.1)))
        ]
        | inr memory ↦ inr (same_answer run.status status Memory sent.ends (λ written. written) memory)
      ]
