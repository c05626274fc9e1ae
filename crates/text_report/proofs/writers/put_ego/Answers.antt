use Rattle.std.proofs.Common.{◌≡◌, ◌++◌, ◌∷◌, arith}
use Rattle.std.proofs.lemmas.Int.{to_z-of_z, ints}
use Rattle.std.specs.Fmt.{signed_decimal}
use Rattle.spot_terms.specs.Report.{pt_words, box_words}
use Rattle.text_report.proofs.Spaced.{starts, number_stands, whole_stands, words_stand, words_end}
use Rattle.text_report.proofs.writers.put_ego.Goals as goal

pub returns : goal.returns
returns c =
    let e = c.args.e.now in
    let a : c.number-2.new.self ≡ c.number.new.self ++ 32 ∷ signed_decimal e.e.a = grind (arith, to_z-of_z) in
    let v : c.number-3.new.self ≡ c.number-2.new.self ++ 32 ∷ signed_decimal e.e.v = grind (arith, to_z-of_z) in
    let w : c.number-4.new.self ≡ c.number-3.new.self ++ 32 ∷ signed_decimal e.grid.w = grind (arith, to_z-of_z) in
    let g : c.number-5.new.self ≡ c.number-4.new.self ++ 32 ∷ signed_decimal e.grid.g = grind (arith, to_z-of_z) in
    (starts c.start.ensures
    (number_stands e.problem (omega arith) c.number.ensures.bytes
    (whole_stands e.e.a (omega (arith, ints)) a
    (whole_stands e.e.v (omega (arith, ints)) v
    (whole_stands e.grid.w (omega (arith, ints)) w
    (whole_stands e.grid.g (omega (arith, ints)) g
    (words_stand (pt_words e.s.p) c.point.ensures.bytes
    (words_end (box_words e.s.b) c.velocities.ensures.bytes c.end.ensures)))))))).is
