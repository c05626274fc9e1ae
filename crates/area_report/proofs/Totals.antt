-- The sets of the steps that a run has made.
use Rattle.std.proofs.Common.{◌≡◌, ◌∙◌, ℕ, suc, ◌+◌, ◌*◌, ◌<◌, ◌≤◌, ◌^◌, List, [], ◌∷◌, ◌++◌, length, refl, sym, ap, subst, arith, length-append}
use Rattle.std.specs.Prelude.{sum_by}
use Rattle.std.proofs.lemmas.List.Sums.{sum_by_push}
use Rattle.spot_terms.specs.BaseSets.{SetValue}
use Rattle.spot_terms.specs.StepLists.{IsNextList, IsStepList}
use Rattle.spot_terms.specs.declared.lines.End.{End}
use Rattle.spot_terms.specs.declared.plain.Pt.{Pt}
use Rattle.spot_claims.specs.AreaOf.{AreListsSoFar}
use Rattle.area_run.specs.Plans.{course_of}
use Rattle.area_run.specs.Running.{Stand}
use Rattle.area_report.specs.Areas.{GoesOn, IsEnd}
use Rattle.area_report.specs.Totals.{IsTotal}
use Rattle.area_report.specs.declared.total.Total.{Total}
use Rattle.area_report.proofs.RunSteps.{IsAfter, goes, is_first, is_next, stops}
use Rattle.area_report.proofs.StepTexts.{so_far_more, all_lists}

longer : (at next : ℕ) (earlier : List (List SetValue)) (sets : List SetValue) → at ≡ length earlier → next ≡ at + 1 → next ≡ length (earlier ++ sets ∷ [])
longer at next earlier sets e f = let l = length-append earlier (sets ∷ []) in omega (arith, e, f, l)

more_small : (at next total sets : ℕ) → total ≤ (at + 1) * 2 ^ 64 → next ≡ at + 1 → sets < 2 ^ 64 → total + sets ≤ (next + 1) * 2 ^ 64
more_small at next total sets small e few = omega (arith, small, e, few)

-- what so many steps have fits
pub fits : (at next total sets : ℕ) → total ≤ (at + 1) * 2 ^ 64 → next ≡ at + 1 → sets < 2 ^ 64 → next < 2 ^ 32 → total + sets < 2 ^ 128
fits at next total sets small e few early = omega (arith, small, e, few, early)

module _ {O : Type 0} (count : O → ℕ → ℕ) (hits : O → ℕ → ℕ → Pt → Type 0) where
  -- of a run that has gone on: the steps up to the one at which it stands have so many sets together
  pub record StandsCounted (first now : Stand O) (total : ℕ) : Type 0 where
    pub pieces : now.o ≡ first.o
    pub plan : now.plan ≡ first.plan
    pub steps : now.steps ≡ first.steps
    pub earlier : List (List SetValue)
    pub long : now.at ≡ length earlier
    pub are : AreListsSoFar (course_of first.plan) (count first.o) (hits first.o) first.steps (earlier ++ now.sets ∷ [])
    pub total_is : total ≡ sum_by length (earlier ++ now.sets ∷ [])
    pub small : total ≤ (now.at + 1) * 2 ^ 64

  pub start_counted : (first : Stand O) (total : ℕ) → first.at ≡ 0 → IsStepList (course_of first.plan) (count first.o) (hits first.o) first.at first.sets → total ≡ length first.sets → total < 2 ^ 64 → StandsCounted first first total
  start_counted first total zero is e few = record {
    pieces = refl;
    plan = refl;
    steps = refl;
    earlier = [];
    long = zero;
    are = (is_first count hits first zero is, tt);
    total_is = omega (arith, e);
    small = omega (arith, few);
  }

  pub step_counted : (first now next : Stand O) (total sets : ℕ) → StandsCounted first now total → GoesOn now.at now.steps now.sets → IsAfter count hits now next → sets ≡ length next.sets → sets < 2 ^ 64 → StandsCounted first next (total + sets)
  step_counted first now next total sets v goes_on after e few = record {
    pieces = after.pieces ∙ v.pieces;
    plan = after.plan ∙ v.plan;
    steps = after.steps ∙ v.steps;
    earlier = v.earlier ++ now.sets ∷ [];
    long = longer now.at next.at v.earlier now.sets v.long after.at;
    are = further now.sets (goes count hits first now v.steps goes_on) v.are (is_next count hits first now next v.pieces v.plan after.at after.list);
    total_is = sum_more total sets (v.earlier ++ now.sets ∷ []) next.sets v.total_is e;
    small = more_small now.at next.at total sets v.small after.at few;
  }
    where
      further : (here : List SetValue) → GoesOn now.at first.steps here → AreListsSoFar (course_of first.plan) (count first.o) (hits first.o) first.steps (v.earlier ++ here ∷ [])
          → IsNextList (course_of first.plan) (suc now.at) here (count first.o (suc now.at)) (hits first.o (suc now.at)) next.sets
          → AreListsSoFar (course_of first.plan) (count first.o) (hits first.o) first.steps ((v.earlier ++ here ∷ []) ++ next.sets ∷ [])
      further [] less are is = absurd less
      further (b ∷ bs) less are is = so_far_more (course_of first.plan) (count first.o) (hits first.o) first.steps now.at v.earlier b bs next.sets v.long are less is

      sum_more : (total sets : ℕ) (lists : List (List SetValue)) (last : List SetValue) → total ≡ sum_by length lists → sets ≡ length last → total + sets ≡ sum_by length (lists ++ last ∷ [])
      sum_more total sets lists last e f = let p = sum_by_push length lists last in omega (arith, e, f, p)

  pub all_counted : (first now : Stand O) (total : Total) → StandsCounted first now total.sets → (GoesOn now.at now.steps now.sets → ⊥) → IsEnd now.at now.sets total.end
      → IsTotal (course_of first.plan) (count first.o) (hits first.o) first.steps total
  all_counted first now total v none is = record {
    lists = v.earlier ++ now.sets ∷ [];
    lists_are = all_lists (course_of first.plan) (count first.o) (hits first.o) first.steps now.at v.earlier now.sets total.end v.long v.are is (stops count hits first now v.steps none);
    sets_are = v.total_is;
  }
