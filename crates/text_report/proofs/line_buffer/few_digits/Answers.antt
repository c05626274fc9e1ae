use Rattle.std.proofs.Common.{sym, arith}
use Rattle.itoa.proofs.Decimal.{length_one, length_two}
use Rattle.text_report.proofs.Digits.{length_three, length_of_thousands}
use Rattle.text_report.proofs.line_buffer.few_digits.Goals as goal

pub returns-then-n-ge1000 : goal.returns-then-n-ge1000
returns-then-n-ge1000 c = sym (length_of_thousands c.args.n (grind (arith)) c.requires)

pub returns-then-n-ge100 : goal.returns-then-n-ge100
returns-then-n-ge100 c = sym (length_three c.args.n (grind (arith)) (grind (arith)))

pub returns-then-n-ge10 : goal.returns-then-n-ge10
returns-then-n-ge10 c = sym (length_two c.args.n (grind (arith)) (grind (arith)))

pub returns-else-n-ge10 : goal.returns-else-n-ge10
returns-else-n-ge10 c = sym (length_one c.args.n (grind (arith)))
