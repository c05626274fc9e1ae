-- Cells that side moves join.
use Rattle.std.proofs.Common.{ℕ, ◌<◌, List, length}
use Rattle.std.proofs.lemmas.Option.{slice_get_within}
use Rattle.spot_terms.specs.Cells.{Lane, NetCell}
use Rattle.spot_terms.specs.Network.{IsSide}
use Rattle.lanelets.specs.Beside.{IsBeside, here, next}
use Rattle.lanelets.proofs.SideLaws.{side_back}

-- side moves after side moves
pub beside_join : (lanes : List Lane) (net : List NetCell) (e d c : ℕ) → IsBeside lanes net d c → IsBeside lanes net e d → IsBeside lanes net e c
beside_join lanes net e d c here k = k
beside_join lanes net e d c (next {e = f} h b) k = next h (beside_join lanes net e d f b k)

-- one more side move
pub beside_on : (lanes : List Lane) (net : List NetCell) (d e c : ℕ) → IsBeside lanes net d c → IsSide lanes net d e → IsBeside lanes net e c
beside_on lanes net d e c b s = beside_join lanes net e d c b (next s here)

-- side moves lead back
pub beside_back : (lanes : List Lane) (net : List NetCell) (d c : ℕ) → IsBeside lanes net d c → IsBeside lanes net c d
beside_back lanes net d c here = here
beside_back lanes net d c (next {e = e} h b) = beside_on lanes net e c d (beside_back lanes net d e b) (side_back lanes net c e h)

-- they lead from cells to cells
pub beside_within : (lanes : List Lane) (net : List NetCell) (d c : ℕ) → c < length net → IsBeside lanes net d c → d < length net
beside_within lanes net d c l here = l
beside_within lanes net d c l (next {e = e} h b) = beside_within lanes net d e (slice_get_within net e h.b h.d_is) b
