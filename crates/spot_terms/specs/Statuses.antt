-- Statuses.
use Rattle.std.specs.Prelude.{ℕ}
use Rattle.spot_terms.specs.declared.status.Status.{Status}
use Rattle.spot_terms.specs.declared.status.Status.TheVariants.{Open, Empty, BadWords, Refused, Limit, ReadFault, WriteFault, Memory}

abbrev pub status_number : Status → ℕ
status_number Open = 0
status_number (Empty i) = 1
status_number BadWords = 2
status_number (Refused code place) = 3
status_number (Limit which step count) = 4
status_number ReadFault = 5
status_number WriteFault = 6
status_number Memory = 7

-- the whole report was written
abbrev pub IsDone : Status → Type 0
IsDone Open = Unit {0}
IsDone (Empty i) = Unit {0}
IsDone status = ⊥
