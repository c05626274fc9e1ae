use Rattle.spot_decimal.proofs.PlainParts.{plain_answered}
use Rattle.spot_decimal.proofs.plain.plain_reading.Goals as goal

pub returns : goal.returns
returns c =
    let d = c.in_ok-digits.digits in
    let s = c.in_ok-size.ensures in
    let t = c.take_sign-signed in
    plain_answered c.args.text.now t.result.rest.now t.result.minus d.part d.value c.args.places c.in_ok-size.size c.with_sign.result t.ensures.minus t.ensures.rest c.in_ok-digits.ensures.plain s.0 s.1 c.with_sign.ensures
