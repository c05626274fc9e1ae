use Rattle.std.proofs.Common.{◌+◌, ◌-◌, ◌≡◌, ◌∙◌, ℕ, List, true, length, take, drop, take_all, length-drop, arith, ap, sym, subst}
use Rattle.std.specs.Str.Parse.{digits_value_after}
use Rattle.spot_terms.specs.Decimal.{are_digits}
use Rattle.spot_decimal.specs.Written.{IsPlain}
use Rattle.spot_decimal.proofs.PlainParts.{plain_whole, plain_parts, small_end, small_behind}
use Rattle.spot_decimal.proofs.plain.plain_of.Goals as goal

behind_all : (n : ℕ) (text : List ℕ) → take (length text - (n + 1)) (drop (n + 1) text) ≡ drop (n + 1) text
behind_all n text = take_all (length text - (n + 1)) (drop (n + 1) text) (omega (arith, length-drop (n + 1) text))

pub returns-then-whole-text-clause-plain : goal.returns-then-whole-text-clause-plain
returns-then-whole-text-clause-plain c =
    let text = c.args.text.now in
    let w = c.run_of-whole.ensures in
    let all : take c.run_of-whole.result.count text ≡ text = take_all c.run_of-whole.result.count text (omega arith) in
    let g : are_digits text ≡ true = rw all at w.digits in
    let e : c.run_of-whole.result.value ≡ digits_value_after 10 0 text = rw all at w.value in
    plain_whole text c.run_of-whole.result.value g (omega arith) e

pub returns-then-whole-text-clause-small : goal.returns-then-whole-text-clause-small
returns-then-whole-text-clause-small c = omega (arith, c.run_of-whole.ensures.small, small_end 0 c.run_of-whole.result.count 18 (omega arith))

pub run_of-part-requires : goal.run_of-part-requires
run_of-part-requires c =
    let text = c.args.text.now in
    let n = c.run_of-whole.result.count in
    let few = small_behind c.run_of-whole.result.value n (length (drop (n + 1) text)) 19 c.run_of-whole.ensures.small (omega (arith, length-drop (n + 1) text)) in
    rw (behind_all n text) few

pub returns-then-part-behind-clause-plain : goal.returns-then-part-behind-clause-plain
returns-then-part-behind-clause-plain c =
    let text = c.args.text.now in
    let n = c.run_of-whole.result.count in
    let w = c.run_of-whole.ensures in
    let p = c.run_of-part.ensures in
    let behind = take (length text - (n + 1)) (drop (n + 1) text) in
    let all : take c.run_of-part.result.count behind ≡ drop (n + 1) text = take_all c.run_of-part.result.count behind (omega arith) ∙ behind_all n text in
    let g : are_digits (drop (n + 1) text) ≡ true = rw all at p.digits in
    let f : c.run_of-part.result.value ≡ digits_value_after 10 c.run_of-whole.result.value (drop (n + 1) text) = rw all at p.value in
    let count : length (drop (n + 1) text) ≡ c.run_of-part.result.count = ap length (sym (behind_all n text)) ∙ sym c.if-part-behind.true in
    subst (λ (k : ℕ). IsPlain text k c.run_of-part.result.value) count (plain_parts text n c.run_of-whole.result.value c.run_of-part.result.value (omega arith) (omega arith) w.digits c.if-text-whole-ne46.false g w.value f)

pub returns-then-part-behind-clause-small : goal.returns-then-part-behind-clause-small
returns-then-part-behind-clause-small c =
    let text = c.args.text.now in
    let n = c.run_of-whole.result.count in
    let count : c.run_of-part.result.count ≡ length (drop (n + 1) text) = c.if-part-behind.true ∙ ap length (behind_all n text) in
    let few = small_behind c.run_of-whole.result.value n c.run_of-part.result.count 18 c.run_of-whole.ensures.small (omega (arith, count, length-drop (n + 1) text)) in
    omega (arith, c.run_of-part.ensures.small, few)
