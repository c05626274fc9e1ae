use Rattle.std.proofs.Common.{◌∙◌, ℕ, Option, ap}
use Rattle.spot_terms.specs.Decimal.{is_exponent}
use Rattle.spot_decimal.specs.Written.{head_to, tail_from}
use Rattle.spot_decimal.proofs.Cuts.{head_is, tail_is}
use Rattle.spot_decimal.proofs.parts.cut_at_exponent.Goals as goal

pub returns-clause-head : goal.returns-clause-head
returns-clause-head c = c.cut_at.ensures.head ∙ (ap (λ (o : Option ℕ). head_to o c.args.text.now) c.exponent_place.ensures.value ∙ head_is is_exponent c.args.text.now)

pub returns-clause-tail : goal.returns-clause-tail
returns-clause-tail c = c.cut_at.ensures.tail ∙ (ap (λ (o : Option ℕ). tail_from o c.args.text.now) c.exponent_place.ensures.value ∙ tail_is is_exponent c.args.text.now)
