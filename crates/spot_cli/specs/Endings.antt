-- How a run ends once its report has left the buffer.
use Rattle.std.specs.Prelude.{◌≡◌, ◌⊎◌}
use Rattle.spot_terms.specs.Statuses.{IsDone}
use Rattle.spot_terms.specs.declared.status.Status.{Status}
use Rattle.spot_terms.specs.declared.status.Status.TheVariants.{WriteFault}

-- as before, or by a write fault where a report was to be written
abbrev pub EndsAs : Status → Status → Type 0
EndsAs before after = (after ≡ before) ⊎ (IsDone before × (after ≡ WriteFault))
