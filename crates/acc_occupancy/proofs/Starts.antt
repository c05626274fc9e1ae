-- The line of a start is in range.
use Rattle.std.proofs.Common.{arith}
use Rattle.std.specs.Prelude.{nat_abs}
use Rattle.std.proofs.lemmas.Int.{ints}
use Rattle.spot_terms.specs.Lists.{Includes}
use Rattle.spot_terms.specs.Ranges.{IsStart}
use Rattle.spot_terms.specs.Reach.{Normal, normals}
use Rattle.spot_terms.specs.declared.plain.AccStart.{AccStart}
use Rattle.round_out.proofs.Discs.{disc_number_positive}
use Rattle.acc_occupancy.specs.declared.line.Line.{Line}
use Rattle.acc_occupancy.specs.Lines.{IsLine, IsLineInRange}
use Rattle.acc_occupancy.proofs.Sizes.{along_within, box_number_within, rounding_within, rise_within, cap_within, body_within, a_small}

pub line_in_range : (s : AccStart) (n : Normal) (l : Line) → IsStart s → Includes normals n → IsLine s n l → IsLineInRange l
line_in_range s n l r i h =
    let place = along_within s.p 20_000_000_000_000 n i r.x r.y in
    let speed = box_number_within s.b 900_000 n i r.box in
    let a_low = r.a.low in
    let a_high = a_small s r in
    let rise_low = disc_number_positive n (nat_abs s.a) (omega (arith, ints)) (omega arith) i in
    let rise_high = rise_within s n r i in
    let cap = cap_within s n r i in
    let spread = rounding_within n i in
    let body = body_within s n r i in
    record {
      place = rw h.place (omega arith);
      speed = rw h.speed (omega arith);
      rise = rw h.rise (record { low = omega (arith, ints); high = omega (arith, ints) });
      cap = rw h.cap (record { low = omega (arith, ints); high = omega (arith, ints) });
      rounding = rw h.spread (record { low = omega (arith, ints); high = omega (arith, ints) });
      body = rw h.body (record { low = omega (arith, ints); high = omega (arith, ints) });
    }
