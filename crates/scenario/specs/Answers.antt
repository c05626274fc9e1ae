-- What reading a tree answers. Want of memory is free.
use Rattle.std.specs.Prelude.{List, ⊤}
use Rattle.spot_claims.specs.Tree.{Element}
use Rattle.spot_claims.specs.Profile.{IsRefused}
use Rattle.scenario.specs.declared.read.ReadFault.{ReadFault}
use Rattle.scenario.specs.declared.read.ReadFault.TheVariants.{Refused, Memory}

-- exactly why there is no scenario
abbrev pub IsWhy : List Element → ReadFault → Type 0
IsWhy tree (Refused code place) = IsRefused tree place code
IsWhy tree Memory = ⊤
