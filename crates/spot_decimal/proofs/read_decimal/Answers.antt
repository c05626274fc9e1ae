use Rattle.std.proofs.Common.{refl, arith}
use mir.Syntax.{w128}
use mir.Val.{to_z, of_z}
use Rattle.spot_decimal.specs.Written.{IsWritten}
use Rattle.spot_decimal.proofs.Signs.{answered, none_beyond, beyond}
use Rattle.spot_decimal.proofs.read_decimal.Goals as goal

pub returns-clause-ok : goal.returns-clause-ok
returns-clause-ok c =
    let d = c.in-Some-parse.decimal in
    let k : IsWritten c.args.text.now d.minus d.digits.whole.now d.digits.part.now d.exponent.minus d.exponent.size = rw c.as_bytes-bytes.ensures.value at c.in-Some-parse.ensures in
    let s = c.in-Some-size_of.ensures.some k.exponent k.least in
    let a = answered c.args.text.now d.minus d.digits.whole.now d.digits.part.now d.exponent.minus d.exponent.size c.args.places c.in-Some-size_of.size c.with_sign.result k s.0 s.1 c.with_sign.ensures in
    (omega arith, a.0, a.1)

pub returns-clause-too_large : goal.returns-clause-too_large
returns-clause-too_large c =
    let d = c.in-Some-parse.decimal in
    let k : IsWritten c.args.text.now d.minus d.digits.whole.now d.digits.part.now d.exponent.minus d.exponent.size = rw c.as_bytes-bytes.ensures.value at c.in-Some-parse.ensures in
    let s = c.in-Some-size_of.ensures.some k.exponent k.least in
    let a = answered c.args.text.now d.minus d.digits.whole.now d.digits.part.now d.exponent.minus d.exponent.size c.args.places c.in-Some-size_of.size c.with_sign.result k s.0 s.1 c.with_sign.ensures in
    (λ h. (cc), λ h. absurd (none_beyond c.args.places c.args.text.now h.1.0 (to_z w128 (of_z w128 c.with_sign.result)) h.1.1.0 a.0 h.1.1.1 a.1))

pub returns-in_default-size_of-clause-too_large : goal.returns-in_default-size_of-clause-too_large
returns-in_default-size_of-clause-too_large c =
    let d = c.in-Some-parse.decimal in
    let k : IsWritten c.args.text.now d.minus d.digits.whole.now d.digits.part.now d.exponent.minus d.exponent.size = rw c.as_bytes-bytes.ensures.value at c.in-Some-parse.ensures in
    let b = beyond c.args.text.now d.minus d.digits.whole.now d.digits.part.now d.exponent.minus d.exponent.size c.args.places k (c.in_default-size_of.ensures.none k.exponent k.least) in
    (λ _. (omega arith, b), λ _. refl)
