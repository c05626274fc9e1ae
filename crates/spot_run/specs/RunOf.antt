-- The run of a call.
use Rattle.std.specs.Prelude.{List}
use Rattle.std.specs.declared.alloc.Global.{Global}
use Rattle.std.specs.declared.string.String.{String}
use Rattle.spot_terms.specs.declared.status.Status.{Status}
use Rattle.spot_io.specs.declared.traits.Source.{Ghosts as Reading}
use Rattle.spot_io.specs.declared.traits.Sink.{Ghosts as Writing}
use Rattle.spot_words.specs.Words.{StandsFor}
use Rattle.spot_claims.specs.Runs.{Run}

-- of words, a source before and after, a sink before and after, and the answer
abbrev pub run_of : {S K : Type 0} → List (String Global) → Reading S → S → S → Writing K → K → K → Status → Run
run_of words reading source source_now writing sink sink_now status = record {
  Stands = StandsFor words;
  told = reading.left source;
  left = reading.left source_now;
  read_faults = reading.faults source;
  read_faults_now = reading.faults source_now;
  before = writing.written sink;
  after = writing.written sink_now;
  write_faults = writing.faults sink;
  write_faults_now = writing.faults sink_now;
  status = status;
}
