-- The line on standard error for each status.
use Rattle.std.specs.Prelude.{ℕ, List, [], ◌∷◌, ◌++◌, codes, decimal}
use Rattle.spot_terms.specs.declared.status.Code.{Code}
use Rattle.spot_terms.specs.declared.status.Code.TheVariants.{NotJson, NotTree, Root, Version, Missing, BadNumber, OutOfRange, StepSize, BadId, DuplicateId, BoundCount, UncertainPosition, UncertainValue, TooManyParticipants, NoProblem, LateProblem, EgoTooFast}
use Rattle.spot_terms.specs.declared.status.Which.{Which}
use Rattle.spot_terms.specs.declared.status.Which.TheVariants.{TooLong, TooManyCells, LaneTooWide, TooManyLanePolygons, AreaTooWide, TooManyBoxes}
use Rattle.spot_terms.specs.declared.status.Status.{Status}
use Rattle.spot_terms.specs.declared.status.Status.TheVariants.{Open, Empty, BadWords, Refused, Limit, ReadFault, WriteFault, Memory}

abbrev pub code_word : Code → List ℕ
code_word NotJson = codes "NotJson"
code_word NotTree = codes "NotTree"
code_word Root = codes "Root"
code_word Version = codes "Version"
code_word Missing = codes "Missing"
code_word BadNumber = codes "BadNumber"
code_word OutOfRange = codes "OutOfRange"
code_word StepSize = codes "StepSize"
code_word BadId = codes "BadId"
code_word DuplicateId = codes "DuplicateId"
code_word BoundCount = codes "BoundCount"
code_word UncertainPosition = codes "UncertainPosition"
code_word UncertainValue = codes "UncertainValue"
code_word TooManyParticipants = codes "TooManyParticipants"
code_word NoProblem = codes "NoProblem"
code_word LateProblem = codes "LateProblem"
code_word EgoTooFast = codes "EgoTooFast"

abbrev pub which_word : Which → List ℕ
which_word TooLong = codes "TooLong"
which_word TooManyCells = codes "TooManyCells"
which_word LaneTooWide = codes "LaneTooWide"
which_word TooManyLanePolygons = codes "TooManyLanePolygons"
which_word AreaTooWide = codes "AreaTooWide"
which_word TooManyBoxes = codes "TooManyBoxes"

-- the line without its line feed; nothing is said where the whole report was written
abbrev pub status_line : Status → List ℕ
status_line Open = []
status_line (Empty step) = []
status_line BadWords = codes "spot: bad command line"
status_line (Refused code place) = codes "spot: refused " ++ code_word code ++ codes " at " ++ decimal place
status_line (Limit which step count) =
    codes "spot: limit " ++ which_word which ++ codes " step " ++ decimal step ++ codes " count " ++ decimal count
status_line ReadFault = codes "spot: read fault"
status_line WriteFault = codes "spot: write fault"
status_line Memory = codes "spot: out of memory"

-- the line with its line feed, or nothing
abbrev pub said : Status → List ℕ
said Open = []
said (Empty step) = []
said status = status_line status ++ 10 ∷ []
