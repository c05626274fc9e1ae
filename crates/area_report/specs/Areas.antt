-- What is written of the steps of a run.
use Rattle.std.specs.Prelude.{◌≡◌, ◌⊎◌, ℕ, ◌+◌, ◌<◌, ◌^◌, List, [], ◌∷◌, ◌++◌, map, length, Option, Some, slice_get, Result, OnOk, OnErr}
use Rattle.std.specs.Io.KnownBytes.{Appends}
use Rattle.std.specs.List.{AllByRecursion}
use Rattle.spot_terms.specs.Avoidance.{HoldsOrStrikes}
use Rattle.spot_terms.specs.BaseSets.{SetValue}
use Rattle.spot_terms.specs.Causes.{HasCause, AppendsFront}
use Rattle.spot_terms.specs.Courses.{Course}
use Rattle.spot_terms.specs.Report.{Line, disc_line, last_line, report_text}
use Rattle.spot_terms.specs.StepLists.{AreStepLists}
use Rattle.spot_terms.specs.declared.lines.End.{End}
use Rattle.spot_terms.specs.declared.lines.End.TheVariants.{Open, Empty}
use Rattle.spot_terms.specs.declared.plain.Disc.{Disc}
use Rattle.spot_terms.specs.declared.plain.Pt.{Pt}
use Rattle.spot_io.specs.declared.traits.Sink.{Ghosts as Sink}
use Rattle.spot_claims.specs.AreaOf.{lines_from, AreListsSoFar}

-- ---- where a run stands

-- it has sets, and steps are left
abbrev pub GoesOn : ℕ → ℕ → List SetValue → Type 0
GoesOn at steps [] = ⊥
GoesOn at steps (b ∷ sets) = at < steps

-- how it ends where no further step is made
abbrev pub IsEnd : ℕ → List SetValue → End → Type 0
IsEnd at [] end = end ≡ Empty at
IsEnd at (b ∷ sets) end = end ≡ Open

-- ---- texts

-- the number of the sets of each step can be written
abbrev pub AreShort : List (List SetValue) → Type 0
AreShort lists = AllByRecursion (λ sets. length sets < 2 ^ 64) lists

-- the lines of the recorded discs of a step
abbrev pub disc_lines : ℕ → List Disc → List Line
disc_lines i discs = map (λ d. disc_line i d.id d.p d.r) discs

-- the recorded discs and the sets of each step
abbrev pub text_so_far : (ℕ → List Disc) → List (List SetValue) → List ℕ
text_so_far recorded lists = report_text (lines_from recorded 0 lists)

-- and how the run ends
abbrev pub whole_text : (ℕ → List Disc) → List (List SetValue) → End → List ℕ
whole_text recorded lists end = report_text (lines_from recorded 0 lists ++ last_line end ∷ [])

module _ (course : Course) (count : ℕ → ℕ) (Hits : ℕ → ℕ → Pt → Type 0) (n : ℕ) where
  -- each list holds each motion that goes on to its step, or the motion was at a piece by then
  abbrev pub AllHold : List (List SetValue) → Type 0
  AllHold lists = (i : ℕ) (sets : List SetValue) → slice_get lists i ≡ Some sets → HoldsOrStrikes course count Hits i sets

  -- a run stands at the last of the steps that are made
  pub record StandsAtLast (at : ℕ) (sets : List SetValue) : Type 0 where
    pub lists : List (List SetValue)
    pub end : End
    pub lists_are : AreStepLists course count Hits n lists end
    pub last_is : at + 1 ≡ length lists
    pub sets_are : slice_get lists at ≡ Some sets
    pub end_is : IsEnd at sets end

-- over the discs that are recorded for each step
module _ (recorded : ℕ → List Disc) (course : Course) (count : ℕ → ℕ) (Hits : ℕ → ℕ → Pt → Type 0) (n : ℕ) where
  -- the text of all steps that are made and of the end, or of the first steps
  abbrev pub IsStepsText : List ℕ → Type 0
  IsStepsText text = ((lists : List (List SetValue)) × (end : End) × AreStepLists course count Hits n lists end × AreShort lists × (text ≡ whole_text recorded lists end))
      ⊎ ((lists : List (List SetValue)) × AreListsSoFar course count Hits n lists × AreShort lists × (text ≡ text_so_far recorded lists))

  -- the text of the steps was appended, and of the end at which the run stands
  pub record HasWrittenSteps (before after : Option (List ℕ)) (at : ℕ) (sets : List SetValue) : Type 0 where
    pub lists : List (List SetValue)
    pub end : End
    pub lists_are : AreStepLists course count Hits n lists end
    pub short : AreShort lists
    pub hold : AllHold course count Hits n lists
    pub end_is : IsEnd at sets end
    pub appends : Appends before after (whole_text recorded lists end)

  -- a front of the text of the steps was, or of the first steps
  abbrev pub HasBegunSteps : Option (List ℕ) → Option (List ℕ) → Type 0
  HasBegunSteps before after = (text : List ℕ) × IsStepsText text × AppendsFront before after text

  -- of a sink before and after: at Ok the run stands at its last step, and all was appended
  pub record WritesSteps {K T E : Type 0} (sink : Sink K) (old new : K) (at : ℕ) (sets : List SetValue) (result : Result T E) : Type 0 where
    pub ok : OnOk result (HasWrittenSteps (sink.written old) (sink.written new) at sets)
    pub err : OnErr result (HasBegunSteps (sink.written old) (sink.written new))
    pub cause : HasCause (sink.faults old) (sink.faults new) result
