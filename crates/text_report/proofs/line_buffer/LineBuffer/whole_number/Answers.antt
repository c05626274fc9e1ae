use Rattle.std.proofs.Common.{◌+◌, ◌≤◌, length, arith}
use Rattle.std.proofs.lemmas.Grind.{common_steps}
use Rattle.text_report.proofs.Digits.{at_most_19, natural_behind, negative_behind}
use Rattle.text_report.proofs.line_buffer.LineBuffer.whole_number.Goals.{then-n-lt0, else-n-lt0}
use Rattle.text_report.proofs.line_buffer.LineBuffer.whole_number.Goals as goal

pub natural_digits-requires : goal.natural_digits-requires
natural_digits-requires c =
    let few = at_most_19 c.unsigned_abs.result (grind (arith, common_steps)) in
    let front : length c.if-n-lt0.self ≤ length c.args.self.now + 2 = elim c.if-n-lt0.branch [
      | then-n-lt0 w ↦ grind (arith, common_steps)
      | else-n-lt0 w ↦ grind (arith, common_steps)
    ] in
    omega (arith, few, front, c.requires)

pub returns-clause-bytes : goal.returns-clause-bytes
returns-clause-bytes c = elim c.if-n-lt0.branch [
  | then-n-lt0 w ↦ negative_behind c.natural_digits.new.self c.if-n-lt0.self c.args.self.now c.args.n (grind (arith, common_steps)) (grind (arith, common_steps)) (grind (arith, common_steps)) (grind (arith, common_steps))
  | else-n-lt0 w ↦ natural_behind c.natural_digits.new.self c.if-n-lt0.self c.args.self.now c.args.n (grind (arith, common_steps)) (grind (arith, common_steps)) (grind (arith, common_steps)) (grind (arith, common_steps))
]

pub returns-clause-short : goal.returns-clause-short
returns-clause-short c =
    let few = at_most_19 c.unsigned_abs.result (grind (arith, common_steps)) in
    let front : length c.if-n-lt0.self ≤ length c.args.self.now + 2 = elim c.if-n-lt0.branch [
      | then-n-lt0 w ↦ grind (arith, common_steps)
      | else-n-lt0 w ↦ grind (arith, common_steps)
    ] in
    omega (arith, few, front, c.natural_digits.ensures.len)
