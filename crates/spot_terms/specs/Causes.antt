-- When a call may answer a fault, and which bytes it moves.
use Rattle.std.specs.Prelude.{◌≡◌, ℕ, ◌+◌, ◌-◌, ◌^◌, ◌≤◌, min, List, ◌++◌, length, drop, Option, Some, Result, OnOk, OnErr}
use Rattle.std.specs.Io.KnownBytes.{Appends}

-- the count has risen, or stands at its last value
abbrev pub Rose : ℕ → ℕ → Type 0
Rose before now = min (before + 1) (2 ^ 64 - 1) ≤ now

-- the count never falls, is as before where the call answers Ok, and has risen where it answers a fault
pub record HasCause {T E : Type 0} (before now : ℕ) (result : Result T E) : Type 0 where
  pub later : before ≤ now
  pub same : OnOk result (now ≡ before)
  pub failed : OnErr result (Rose before now)

-- told bytes lose their first n, of which they have as many
abbrev pub Takes : ℕ → List ℕ → Option (List ℕ) → Type 0
Takes n told new = (n ≤ length told) × (new ≡ Some (drop n told))

-- a front of the bytes was appended to what was written, where that is told
abbrev pub AppendsFront : Option (List ℕ) → Option (List ℕ) → List ℕ → Type 0
AppendsFront old new bytes = (front back : List ℕ) × (front ++ back ≡ bytes) × Appends old new front
