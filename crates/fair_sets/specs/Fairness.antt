-- The sets of a step as defined, seen from the other side.
use Rattle.std.specs.Prelude.{ℕ, ◌<◌, List, length, nat_abs}
use Rattle.spot_terms.specs.BaseSets.{SetValue}
use Rattle.spot_terms.specs.Courses.{Course}
use Rattle.spot_terms.specs.Pieces.{Piece, Hits}
use Rattle.spot_terms.specs.StepLists.{IsNextList, AreStepLists}
use Rattle.spot_terms.specs.TwoSided.{AreFairChildren, AreInPlace, AreTwoSided, IsUsable}
use Rattle.spot_terms.specs.declared.lines.End.{End}

-- where the ego can accelerate and a step has ticks
abbrev pub NextListsAreFair : Type 0
NextListsAreFair = (course : Course) (i : ℕ) (before : List SetValue) (pieces : List Piece) (sets : List SetValue)
    → 0 < nat_abs course.a → 0 < course.k → IsNextList course i before (length pieces) (Hits pieces) sets → AreFairChildren course before sets

abbrev pub NextListsAreInPlace : Type 0
NextListsAreInPlace = (course : Course) (i : ℕ) (before : List SetValue) (pieces : List Piece) (sets : List SetValue)
    → 0 < nat_abs course.a → 0 < course.k → IsNextList course i before (length pieces) (Hits pieces) sets → AreInPlace course i (length pieces) (Hits pieces) sets

abbrev pub StepListsAreTwoSided : Type 0
StepListsAreTwoSided = (course : Course) (pieces : ℕ → List Piece) (n : ℕ) (lists : List (List SetValue)) (end : End)
    → IsUsable course → AreStepLists course (λ j. length (pieces j)) (λ j. Hits (pieces j)) n lists end → AreTwoSided course pieces lists
