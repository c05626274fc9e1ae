-- A set whose polygons are kept elsewhere.
use Rattle.spot_terms.specs.BaseSets.{SetValue}
use Rattle.carve.specs.declared.sets.SetParts.{SetParts}

abbrev pub parts_of : SetParts → SetValue
parts_of b = record { col = b.col; row = b.row; x = b.x.now; y = b.y.now }
