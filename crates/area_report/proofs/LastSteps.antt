-- The steps of a run up to the last, which are not written.
use Rattle.std.proofs.Common.{◌≡◌, ◌∙◌, ℕ, suc, ◌+◌, ◌≤◌, List, [], ◌∷◌, ◌++◌, length, Some, refl, sym, subst, arith}
use Rattle.std.specs.Prelude.{slice_get}
use Rattle.spot_terms.specs.BaseSets.{SetValue}
use Rattle.spot_terms.specs.Courses.{Course}
use Rattle.spot_terms.specs.StepLists.{IsNextList, IsFirstList}
use Rattle.spot_terms.specs.declared.lines.End.{End}
use Rattle.spot_terms.specs.declared.lines.End.TheVariants.{Open, Empty}
use Rattle.spot_terms.specs.declared.plain.Pt.{Pt}
use Rattle.spot_claims.specs.AreaOf.{AreListsSoFar}
use Rattle.area_run.specs.Plans.{course_of}
use Rattle.area_run.specs.Running.{Stand}
use Rattle.area_run.specs.declared.plan.Plan.{Plan}
use Rattle.area_report.specs.Areas.{GoesOn, IsEnd, StandsAtLast}
use Rattle.area_report.proofs.StepTexts.{so_far_more, all_lists, longer}

-- the last of a list stands behind the others
last_at : (earlier : List (List SetValue)) (sets : List SetValue) → slice_get (earlier ++ sets ∷ []) (length earlier) ≡ Some sets
last_at [] sets = refl
last_at (s ∷ earlier) sets = last_at earlier sets

module _ (course : Course) (count : ℕ → ℕ) (Hits : ℕ → ℕ → Pt → Type 0) (n : ℕ) where
  -- the lists up to that of the step at which a run stands
  pub record IsAtStep (at : ℕ) (sets : List SetValue) : Type 0 where
    pub earlier : List (List SetValue)
    pub long : at ≡ length earlier
    pub within : at ≤ n
    pub are : AreListsSoFar course count Hits n (earlier ++ sets ∷ [])

  at_first : (sets : List SetValue) → IsFirstList course count Hits sets → IsAtStep 0 sets
  at_first sets is = record { earlier = []; long = refl; within = omega arith; are = (is, tt) }

  at_next : (at : ℕ) (sets next : List SetValue) → IsAtStep at sets → GoesOn at n sets → IsNextList course (suc at) sets (count (suc at)) (Hits (suc at)) next → IsAtStep (suc at) next
  at_next at [] next v goes is = absurd goes
  at_next at (b ∷ bs) next v goes is = record {
    earlier = v.earlier ++ (b ∷ bs) ∷ [];
    long = longer at v.earlier (b ∷ bs) v.long;
    within = omega (arith, goes);
    are = so_far_more course count Hits n at v.earlier b bs next v.long v.are goes is;
  }

  end_at : (at : ℕ) (sets : List SetValue) → (end : End) × IsEnd at sets end
  end_at at [] = (Empty at, refl)
  end_at at (b ∷ sets) = (Open, refl)

  at_last : (at : ℕ) (sets : List SetValue) → IsAtStep at sets → (GoesOn at n sets → ⊥) → StandsAtLast course count Hits n at sets
  at_last at sets v stops =
      let (end, is) = end_at at sets in
      let long : suc at ≡ length (v.earlier ++ sets ∷ []) = longer at v.earlier sets v.long in record {
        lists = v.earlier ++ sets ∷ [];
        end = end;
        lists_are = all_lists course count Hits n at v.earlier sets end v.long v.are is stops;
        last_is = omega (arith, long);
        sets_are = subst (λ (i : ℕ). slice_get (v.earlier ++ sets ∷ []) i ≡ Some sets) (sym v.long) (last_at v.earlier sets);
        end_is = is;
      }

-- ---- over a run

module _ {O : Type 0} (count : O → ℕ → ℕ) (hits : O → ℕ → ℕ → Pt → Type 0) where
  -- it has gone on: the pieces, the plan and the steps are the same
  pub record HasGone (first now : Stand O) : Type 0 where
    pub pieces : now.o ≡ first.o
    pub plan : now.plan ≡ first.plan
    pub steps : now.steps ≡ first.steps
    pub step : IsAtStep (course_of first.plan) (count first.o) (hits first.o) first.steps now.at now.sets

  pub gone_first : (first : Stand O) → first.at ≡ 0 → IsFirstList (course_of first.plan) (count first.o) (hits first.o) first.sets → HasGone first first
  gone_first first zero is = record {
    pieces = refl;
    plan = refl;
    steps = refl;
    step = subst (λ (k : ℕ). IsAtStep (course_of first.plan) (count first.o) (hits first.o) first.steps k first.sets) (sym zero) (at_first (course_of first.plan) (count first.o) (hits first.o) first.steps first.sets is);
  }

  pub gone_next : (first now next : Stand O) → HasGone first now → GoesOn now.at now.steps now.sets → next.o ≡ now.o → next.plan ≡ now.plan → next.steps ≡ now.steps → next.at ≡ now.at + 1
      → IsNextList (course_of now.plan) next.at now.sets (count now.o next.at) (hits now.o next.at) next.sets → HasGone first next
  gone_next first now next v goes o plan steps at is =
      let one : next.at ≡ suc now.at = omega (arith, at) in record {
        pieces = o ∙ v.pieces;
        plan = plan ∙ v.plan;
        steps = steps ∙ v.steps;
        step = subst (λ (k : ℕ). IsAtStep (course_of first.plan) (count first.o) (hits first.o) first.steps k next.sets) (sym one)
            (at_next (course_of first.plan) (count first.o) (hits first.o) first.steps now.at now.sets next.sets v.step (subst (λ (n : ℕ). GoesOn now.at n now.sets) v.steps goes)
            (subst (λ (k : ℕ). IsNextList (course_of first.plan) k now.sets (count first.o k) (hits first.o k) next.sets) one
            (subst (λ (x : O). IsNextList (course_of first.plan) next.at now.sets (count x next.at) (hits x next.at) next.sets) v.pieces
            (subst (λ (p : Plan). IsNextList (course_of p) next.at now.sets (count now.o next.at) (hits now.o next.at) next.sets) v.plan is))));
      }

  pub gone_last : (first now : Stand O) → HasGone first now → (GoesOn now.at now.steps now.sets → ⊥) → StandsAtLast (course_of first.plan) (count first.o) (hits first.o) first.steps now.at now.sets
  gone_last first now v stops = at_last (course_of first.plan) (count first.o) (hits first.o) first.steps now.at now.sets v.step (λ goes. stops (subst (λ (n : ℕ). GoesOn now.at n now.sets) (sym v.steps) goes))
