-- What reading to the end does to told bytes, by the answer.
use Rattle.std.specs.Prelude.{◌≡◌, ℕ, ◌≤◌, List, [], Option, Some, None, Result, Ok, Err, ⊤}
use Rattle.std.specs.declared.alloc.Global.{Global}
use Rattle.std.specs.declared.vec.Vec.{Vec}
use Rattle.spot_terms.specs.Causes.{Takes}
use Rattle.spot_io.specs.declared.transfers.ReadEnd.{ReadEnd}
use Rattle.spot_io.specs.declared.transfers.ReadEnd.TheVariants.{Fault, TooLong, Memory}

-- they all came and none is left; or one more than the limit was taken; or a fault left the rest, with no more than the
-- limit taken; or memory ran out, where the last piece that was taken may have passed the limit by one
abbrev pub ReadsTold : List ℕ → Option (List ℕ) → Result (Vec ℕ Global) ReadEnd → Type 0
ReadsTold told new (Ok bytes) = (bytes.items ≡ told) × (new ≡ Some [])
ReadsTold told new (Err TooLong) = Takes 67108865 told new
ReadsTold told new (Err Fault) = (n : ℕ) × (n ≤ 67108864) × Takes n told new
ReadsTold told new (Err Memory) = (n : ℕ) × (n ≤ 67108865) × Takes n told new

-- the same, where the source tells its bytes
abbrev pub ReadsAll : Option (List ℕ) → Option (List ℕ) → Result (Vec ℕ Global) ReadEnd → Type 0
ReadsAll None new result = ⊤
ReadsAll (Some told) new result = ReadsTold told new result
