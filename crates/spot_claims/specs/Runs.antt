-- A run of the top call.
use Rattle.std.specs.Prelude.{ℕ, List, Option}
use Rattle.spot_terms.specs.Causes.{Rose}
use Rattle.spot_terms.specs.declared.command.Command.{Command}
use Rattle.spot_terms.specs.declared.status.Status.{Status}

-- what a run was given, what it left behind, and what it answered
pub record Run : Type 1 where
  -- which command the words stand for
  pub Stands : Command → Type 0
  -- the bytes that the source told, those that it has left, and how many of its calls had failed and have failed
  pub told : Option (List ℕ)
  pub left : Option (List ℕ)
  pub read_faults : ℕ
  pub read_faults_now : ℕ
  -- the bytes that had been written to the sink, those that are, and how many of its calls had failed and have failed
  pub before : Option (List ℕ)
  pub after : Option (List ℕ)
  pub write_faults : ℕ
  pub write_faults_now : ℕ
  pub status : Status

-- a call of the source has failed
abbrev pub ReadFails : Run → Type 0
ReadFails run = Rose run.read_faults run.read_faults_now

-- a call of the sink has failed
abbrev pub WriteFails : Run → Type 0
WriteFails run = Rose run.write_faults run.write_faults_now
