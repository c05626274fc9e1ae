use Rattle.std.proofs.Common.{◌≡◌, ◌∙◌, ◌+◌, ◌*◌, ◌%◌, List, [], ◌∷◌, ◌++◌, codes, decimal, ap, ℕ}
use Rattle.json.specs.Token.{Token, end_array}
use Rattle.spot_terms.specs.Samples.{leaf}
use Rattle.spot_terms.specs.Samples.{hundredths, body, start}
use Rattle.sample_roads.specs.Written.{tokens_of, opening_with_id}
use Rattle.sample_roads.proofs.Appended.{before}
use Rattle.sample_roads.proofs.sample.put_mover.Goals as goal

three : (f : List ℕ → List ℕ → List ℕ → List Token) (x y z a b c : List ℕ) → x ≡ a → y ≡ b → z ≡ c → f x y z ≡ f a b c
three f x y z a b c e g h = ap (λ (t : List ℕ). f t y z) e ∙ (ap (λ (t : List ℕ). f a t z) g ∙ ap (λ (t : List ℕ). f a b t) h)

pub returns-clause-tokens : goal.returns-clause-tokens
returns-clause-tokens c =
    let r = c.close.result in
    let d = c.close.new.out.tokens in
    let m = c.args.m in
    let o = opening_with_id (codes "dynamicObstacle") (decimal (1001 + m)) in
    let b = tokens_of (leaf (codes "type") (codes "car")) ++ tokens_of body in
    let y = hundredths (350 * (m % c.args.lanes) + 175) in
    let s = tokens_of (start (decimal c.args.place) y (decimal c.args.pace)) in
    let e : c.open_with_id.new.out.tokens ≡ c.args.out.now.tokens ++ o = c.in_ok-open_with_id.ensures.tokens ∙ ap (λ (t : List ℕ). c.args.out.now.tokens ++ opening_with_id (codes "dynamicObstacle") t) c.format.ensures.text in
    let f : c.put_start.new.out.tokens ≡ c.put_car.new.out.tokens ++ s = c.in_ok-put_start.ensures.tokens ∙ three (λ (t : List ℕ) (u : List ℕ) (v : List ℕ). c.put_car.new.out.tokens ++ tokens_of (start t u v)) c.format-2.result.now c.as_str.result.now c.format-3.result.now (decimal c.args.place) y (decimal c.args.pace) c.format-2.ensures.text (c.as_str.ensures.value ∙ c.in_ok-y.ensures) c.format-3.ensures.text in
    before r c.args.out.now.tokens c.open_with_id.new.out.tokens d o (b ++ (s ++ end_array ∷ [])) e
    (before r c.open_with_id.new.out.tokens c.put_car.new.out.tokens d b (s ++ end_array ∷ []) c.in_ok-put_car.ensures.tokens
    (before r c.put_car.new.out.tokens c.put_start.new.out.tokens d s (end_array ∷ []) f c.close.ensures.tokens))
