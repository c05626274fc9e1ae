-- The steps of a run, and what is written of them.
use Rattle.std.proofs.Common.{◌≡◌, ◌∙◌, ℕ, suc, ◌+◌, ◌<◌, ◌^◌, List, [], map, length, Result, Ok, Err, refl, sym, ap, ap₂, subst, arith}
use Rattle.std.specs.Result.{IsErr}
use Rattle.std.proofs.lemmas.List.{length-map}
use Rattle.spot_terms.specs.Avoidance.{HoldsOrStrikes}
use Rattle.spot_terms.specs.BaseSets.{SetValue}
use Rattle.spot_terms.specs.Report.{last_line, line_text, report_text}
use Rattle.spot_terms.specs.StepLists.{IsNextList, IsFirstList, IsStepList}
use Rattle.spot_terms.specs.declared.lines.End.{End}
use Rattle.spot_terms.specs.declared.plain.Disc.{Disc}
use Rattle.spot_terms.specs.declared.plain.Pt.{Pt}
use Rattle.spot_io.specs.Writes.{WritesText}
use Rattle.spot_io.specs.declared.traits.Sink.{Ghosts as Sink}
use Rattle.spot_io.proofs.Writing.{text_is}
use Rattle.base_sets.specs.Values.{value_of}
use Rattle.base_sets.specs.declared.sets.BaseSet.{BaseSet}
use Rattle.area_run.specs.Plans.{course_of}
use Rattle.area_run.specs.Running.{Stand}
use Rattle.area_run.specs.declared.plan.Plan.{Plan}
use Rattle.spot_claims.specs.AreaOf.{step_lines}
use Rattle.area_report.specs.Areas.{GoesOn, IsEnd, WritesSteps}
use Rattle.area_report.proofs.RunSteps.{is_first, is_next, goes, IsAfter, stops}
use Rattle.area_report.proofs.StepTexts.{lines_at, IsShort, IsSoFar, HasRoom, takes_first, first_written, fault_first_step, takes_further, further_written, fault_further, takes_end, end_written}

module _ {O K : Type 0} (count : O → ℕ → ℕ) (hits : O → ℕ → ℕ → Pt → Type 0) (recorded : ℕ → List Disc) (sink : Sink K) where
  -- over a run that has gone on, and a sink: the pieces and the plan are the same, and the steps up to the one at which the
  -- run stands are written
  pub record StandsWritten (first now : Stand O) (old new : K) : Type 0 where
    pub pieces : now.o ≡ first.o
    pub plan : now.plan ≡ first.plan
    pub steps : now.steps ≡ first.steps
    pub written : IsSoFar (course_of first.plan) (count first.o) (hits first.o) first.steps recorded sink old new now.at now.sets

  abbrev pub CanTake : Stand O → K → Type 0
  CanTake first old = HasRoom (course_of first.plan) (count first.o) (hits first.o) first.steps recorded sink old

  -- the text of a step, as the code has its number, its discs and its sets
  abbrev pub text_at : ℕ → List Disc → List BaseSet → List ℕ
  text_at i ds bs = report_text (step_lines i ds (map value_of bs))

  text_same : (i j : ℕ) (ds : List Disc) (bs : List BaseSet) (sets : List SetValue) → ds ≡ recorded i → i ≡ j → map value_of bs ≡ sets → text_at i ds bs ≡ report_text (lines_at recorded j sets)
  text_same i j ds bs sets d e f =
      ap (λ (x : List Disc). text_at i x bs) d
      ∙ ap₂ (λ (k : ℕ) (xs : List SetValue). report_text (lines_at recorded k xs)) e f

  short : (bs : List BaseSet) (sets : List SetValue) → map value_of bs ≡ sets → length bs < 2 ^ 64 → IsShort sets
  short bs sets e few = subst IsShort e (subst (λ (n : ℕ). n < 2 ^ 64) (sym (length-map bs value_of)) few)

  -- ---- the first step

  pub takes_start : (first : Stand O) (old : K) (i : ℕ) (ds : List Disc) (bs : List BaseSet) → ds ≡ recorded i → first.at ≡ 0 → i ≡ first.at → map value_of bs ≡ first.sets → IsStepList (course_of first.plan) (count first.o) (hits first.o) first.at first.sets → length bs < 2 ^ 64 → CanTake first old
      → sink.takes old (length (text_at i ds bs))
  takes_start first old i ds bs d zero e f is few room =
      subst (λ (x : List ℕ). sink.takes old (length x)) (sym (text_same i 0 ds bs first.sets d (e ∙ zero) f)) (takes_first (course_of first.plan) (count first.o) (hits first.o) first.steps recorded sink old first.sets (is_first count hits first zero is) (short bs first.sets f few) room)

  pub start_written : {T E : Type 0} {x : T} (first : Stand O) (old new : K) (i : ℕ) (ds : List Disc) (bs : List BaseSet) → ds ≡ recorded i → first.at ≡ 0 → i ≡ first.at → map value_of bs ≡ first.sets → IsStepList (course_of first.plan) (count first.o) (hits first.o) first.at first.sets
      → length bs < 2 ^ 64 → HoldsOrStrikes (course_of first.plan) (count first.o) (hits first.o) first.at first.sets → WritesText {E = E} sink old new (text_at i ds bs) (Ok x) → StandsWritten first first old new
  start_written first old new i ds bs d zero e f is few holds w = record {
    pieces = refl;
    plan = refl;
    steps = refl;
    written = subst (λ (k : ℕ). IsSoFar (course_of first.plan) (count first.o) (hits first.o) first.steps recorded sink old new k first.sets) (sym zero)
        (first_written (course_of first.plan) (count first.o) (hits first.o) first.steps recorded sink first.sets (is_first count hits first zero is) (short bs first.sets f few)
        (subst (λ (k : ℕ). HoldsOrStrikes (course_of first.plan) (count first.o) (hits first.o) k first.sets) zero holds) (text_is (text_same i 0 ds bs first.sets d (e ∙ zero) f) w));
  }

  pub start_fault : {T U E : Type 0} {x : E} (first : Stand O) (old new : K) (i to : ℕ) (ds : List Disc) (bs : List BaseSet) (here : List SetValue) (result : Result T E) → ds ≡ recorded i → first.at ≡ 0 → i ≡ first.at → map value_of bs ≡ first.sets
      → IsStepList (course_of first.plan) (count first.o) (hits first.o) first.at first.sets → length bs < 2 ^ 64 → WritesText {T = U} sink old new (text_at i ds bs) (Err x) → IsErr result
      → WritesSteps recorded (course_of first.plan) (count first.o) (hits first.o) first.steps sink old new to here result
  start_fault first old new i to ds bs here result d zero e f is few w err =
      fault_first_step (course_of first.plan) (count first.o) (hits first.o) first.steps recorded sink to first.sets here result (is_first count hits first zero is) (short bs first.sets f few) (text_is (text_same i 0 ds bs first.sets d (e ∙ zero) f) w) err

  -- ---- a further step

  is_held : (first now next : Stand O) → next.o ≡ first.o → next.plan ≡ first.plan → next.at ≡ now.at + 1 → HoldsOrStrikes (course_of next.plan) (count next.o) (hits next.o) next.at next.sets
      → HoldsOrStrikes (course_of first.plan) (count first.o) (hits first.o) (suc now.at) next.sets
  is_held first now next e f g h =
      let at : next.at ≡ suc now.at = omega (arith, g) in
      subst (λ (o : O). HoldsOrStrikes (course_of first.plan) (count o) (hits o) (suc now.at) next.sets) e
      (subst (λ (p : Plan). HoldsOrStrikes (course_of p) (count next.o) (hits next.o) (suc now.at) next.sets) f
      (subst (λ (i : ℕ). HoldsOrStrikes (course_of next.plan) (count next.o) (hits next.o) i next.sets) at h))

  pub takes_step : (first now next : Stand O) (old b : K) (i : ℕ) (ds : List Disc) (bs : List BaseSet) → ds ≡ recorded i → StandsWritten first now old b → GoesOn now.at now.steps now.sets → IsAfter count hits now next → i ≡ next.at → map value_of bs ≡ next.sets → length bs < 2 ^ 64 → CanTake first old
      → sink.takes b (length (text_at i ds bs))
  takes_step first now next old b i ds bs d v h after e f few room =
      subst (λ (x : List ℕ). sink.takes b (length x)) (sym (text_same i (suc now.at) ds bs next.sets d (e ∙ after.at ∙ omega arith) f))
      (takes_further (course_of first.plan) (count first.o) (hits first.o) first.steps recorded sink old b now.at now.sets next.sets v.written (goes count hits first now v.steps h) (is_next count hits first now next v.pieces v.plan after.at after.list) (short bs next.sets f few) room)

  pub step_written : {T E : Type 0} {x : T} (first now next : Stand O) (old b new : K) (i : ℕ) (ds : List Disc) (bs : List BaseSet) → ds ≡ recorded i → StandsWritten first now old b → GoesOn now.at now.steps now.sets → IsAfter count hits now next → i ≡ next.at → map value_of bs ≡ next.sets
      → length bs < 2 ^ 64 → HoldsOrStrikes (course_of next.plan) (count next.o) (hits next.o) next.at next.sets → WritesText {E = E} sink b new (text_at i ds bs) (Ok x) → StandsWritten first next old new
  step_written first now next old b new i ds bs d v h after e f few holds w =
      let pieces : next.o ≡ first.o = after.pieces ∙ v.pieces in
      let plan : next.plan ≡ first.plan = after.plan ∙ v.plan in
      let at : suc now.at ≡ next.at = sym (after.at ∙ omega arith) in record {
        pieces = pieces;
        plan = plan;
        steps = after.steps ∙ v.steps;
        written = subst (λ (k : ℕ). IsSoFar (course_of first.plan) (count first.o) (hits first.o) first.steps recorded sink old new k next.sets) at
            (further_written (course_of first.plan) (count first.o) (hits first.o) first.steps recorded sink old b new now.at now.sets next.sets v.written (goes count hits first now v.steps h) (is_next count hits first now next v.pieces v.plan after.at after.list)
            (short bs next.sets f few) (is_held first now next pieces plan after.at holds) (text_is (text_same i (suc now.at) ds bs next.sets d (e ∙ sym at) f) w));
      }

  pub step_fault : {T U E : Type 0} {x : E} (first now next : Stand O) (old b new : K) (i to : ℕ) (ds : List Disc) (bs : List BaseSet) (here : List SetValue) (result : Result T E) → ds ≡ recorded i → StandsWritten first now old b → GoesOn now.at now.steps now.sets → IsAfter count hits now next
      → i ≡ next.at → map value_of bs ≡ next.sets → length bs < 2 ^ 64 → WritesText {T = U} sink b new (text_at i ds bs) (Err x) → IsErr result
      → WritesSteps recorded (course_of first.plan) (count first.o) (hits first.o) first.steps sink old new to here result
  step_fault first now next old b new i to ds bs here result d v h after e f few w err =
      fault_further (course_of first.plan) (count first.o) (hits first.o) first.steps recorded sink old b new now.at to now.sets next.sets here result v.written (goes count hits first now v.steps h) (is_next count hits first now next v.pieces v.plan after.at after.list)
      (short bs next.sets f few) (text_is (text_same i (suc now.at) ds bs next.sets d (e ∙ after.at ∙ omega arith) f) w) err

  -- ---- the end

  pub takes_last : (first now : Stand O) (old b : K) (end : End) → StandsWritten first now old b → (GoesOn now.at now.steps now.sets → ⊥) → IsEnd now.at now.sets end → CanTake first old → sink.takes b (length (line_text (last_line end)))
  takes_last first now old b end v none is room = takes_end (course_of first.plan) (count first.o) (hits first.o) first.steps recorded sink old b now.at now.sets end v.written (stops count hits first now v.steps none) is room

  pub last_written : {T E : Type 0} (first now : Stand O) (old b new : K) (end : End) (result : Result T E) → StandsWritten first now old b → (GoesOn now.at now.steps now.sets → ⊥) → IsEnd now.at now.sets end
      → WritesText sink b new (line_text (last_line end)) result → WritesSteps recorded (course_of first.plan) (count first.o) (hits first.o) first.steps sink old new now.at now.sets result
  last_written first now old b new end result v none is w = end_written (course_of first.plan) (count first.o) (hits first.o) first.steps recorded sink old b new now.at now.sets end result v.written (stops count hits first now v.steps none) is w
