-- A run that goes on by its steps.
use Rattle.std.proofs.Common.{◌≡◌, ℕ, suc, ◌+◌, List, sym, subst, arith}
use Rattle.spot_terms.specs.BaseSets.{SetValue}
use Rattle.spot_terms.specs.StepLists.{IsNextList, IsFirstList, IsStepList}
use Rattle.spot_terms.specs.declared.plain.Pt.{Pt}
use Rattle.area_run.specs.Plans.{course_of}
use Rattle.area_run.specs.Running.{Stand}
use Rattle.area_run.specs.declared.plan.Plan.{Plan}
use Rattle.area_report.specs.Areas.{GoesOn}

module _ {O : Type 0} (count : O → ℕ → ℕ) (hits : O → ℕ → ℕ → Pt → Type 0) where
  pub is_first : (first : Stand O) → first.at ≡ 0 → IsStepList (course_of first.plan) (count first.o) (hits first.o) first.at first.sets → IsFirstList (course_of first.plan) (count first.o) (hits first.o) first.sets
  is_first first zero is = subst (λ (i : ℕ). IsStepList (course_of first.plan) (count first.o) (hits first.o) i first.sets) zero is

  -- the run has gone on by a step
  pub record IsAfter (now next : Stand O) : Type 0 where
    pub pieces : next.o ≡ now.o
    pub plan : next.plan ≡ now.plan
    pub steps : next.steps ≡ now.steps
    pub at : next.at ≡ now.at + 1
    pub list : IsNextList (course_of now.plan) next.at now.sets (count now.o next.at) (hits now.o next.at) next.sets

  pub is_next : (first now next : Stand O) → now.o ≡ first.o → now.plan ≡ first.plan → next.at ≡ now.at + 1 → IsNextList (course_of now.plan) next.at now.sets (count now.o next.at) (hits now.o next.at) next.sets
      → IsNextList (course_of first.plan) (suc now.at) now.sets (count first.o (suc now.at)) (hits first.o (suc now.at)) next.sets
  is_next first now next e f g is =
      let at : next.at ≡ suc now.at = omega (arith, g) in
      subst (λ (o : O). IsNextList (course_of first.plan) (suc now.at) now.sets (count o (suc now.at)) (hits o (suc now.at)) next.sets) e
      (subst (λ (p : Plan). IsNextList (course_of p) (suc now.at) now.sets (count now.o (suc now.at)) (hits now.o (suc now.at)) next.sets) f
      (subst (λ (i : ℕ). IsNextList (course_of now.plan) i now.sets (count now.o i) (hits now.o i) next.sets) at is))

  pub goes : (first now : Stand O) → now.steps ≡ first.steps → GoesOn now.at now.steps now.sets → GoesOn now.at first.steps now.sets
  goes first now e h = subst (λ (n : ℕ). GoesOn now.at n now.sets) e h

  pub stops : (first now : Stand O) → now.steps ≡ first.steps → (GoesOn now.at now.steps now.sets → ⊥) → GoesOn now.at first.steps now.sets → ⊥
  stops first now e none h = none (subst (λ (n : ℕ). GoesOn now.at n now.sets) (sym e) h)
