-- What writing a text to a sink promises.
use Rattle.std.specs.Prelude.{ℕ, ◌+◌, List, length, Result, OnOk, OnErr}
use Rattle.std.specs.Io.KnownBytes.{Appends}
use Rattle.spot_terms.specs.Causes.{HasCause, AppendsFront}
use Rattle.spot_io.specs.declared.traits.Sink.{Ghosts as Sink}

-- of a kind of sink, and a sink of it before and after: at Ok the text was appended, and what the sink could take beside
-- it the sink still can; at a fault a front of the text was appended, and the count of faults has risen
pub record WritesText {K T E : Type 0} (sink : Sink K) (old new : K) (text : List ℕ) (result : Result T E) : Type 0 where
  pub ok : OnOk result (Appends (sink.written old) (sink.written new) text)
  pub err : OnErr result (AppendsFront (sink.written old) (sink.written new) text)
  pub room : OnOk result ((more : ℕ) → sink.takes old (length text + more) → sink.takes new more)
  pub cause : HasCause (sink.faults old) (sink.faults new) result
