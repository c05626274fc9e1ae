use Rattle.std.proofs.Common.{◌≡◌, ◌∙◌, ◌*◌, ◌-◌, List, [], ◌∷◌, ◌++◌, codes, decimal, ap, sym, ℕ}
use Rattle.json.specs.Token.{Token, end_array}
use Rattle.spot_terms.specs.Samples.{tenths, bound, left_of, right_of, lanelet}
use Rattle.sample_roads.specs.Written.{tokens_of, all_tokens, opening_with_id}
use Rattle.sample_roads.proofs.Appended.{before, same, held, all_behind}
use Rattle.sample_roads.proofs.lanes.put_lanelet.Goals as goal

pub returns-clause-tokens : goal.returns-clause-tokens
returns-clause-tokens c =
    let r = c.close.result in
    let d = c.close.new.out.tokens in
    let lanes = c.args.lanes in
    let j = c.args.j in
    let l = tokens_of (bound (codes "leftBound") (tenths (35 * j))) in
    let g = tokens_of (bound (codes "rightBound") (tenths (35 * (j - 1)))) in
    let sides = all_tokens (left_of lanes j) ++ all_tokens (right_of j) in
    let o = opening_with_id (codes "lanelet") (decimal j) in
    let e : c.open_with_id.new.out.tokens ≡ c.args.out.now.tokens ++ o = c.in_ok-open_with_id.ensures.tokens ∙ ap (λ (t : List ℕ). c.args.out.now.tokens ++ opening_with_id (codes "lanelet") t) c.format.ensures.text in
    let lt : c.as_str.result.now ≡ tenths (35 * j) = c.as_str.ensures.value ∙ c.in_ok-left.ensures in
    let gt : c.as_str-2.result.now ≡ tenths (35 * (j - 1)) = c.as_str-2.ensures.value ∙ c.in_ok-right.ensures in
    let le : c.put_bound.new.out.tokens ≡ c.open_with_id.new.out.tokens ++ l = c.in_ok-put_bound.ensures.tokens ∙ ap (λ (t : List ℕ). c.open_with_id.new.out.tokens ++ tokens_of (bound (codes "leftBound") t)) lt in
    let ge : c.put_bound-2.new.out.tokens ≡ c.put_bound.new.out.tokens ++ g = c.in_ok-put_bound-2.ensures.tokens ∙ ap (λ (t : List ℕ). c.put_bound.new.out.tokens ++ tokens_of (bound (codes "rightBound") t)) gt in
    same r c.args.out.now.tokens d (o ++ (l ++ (g ++ (sides ++ end_array ∷ [])))) (tokens_of (lanelet lanes j))
    (ap (λ (ts : List Token). o ++ (l ++ (g ++ ts))) (ap (λ (ts : List Token). ts ++ end_array ∷ []) (sym (all_behind (left_of lanes j) (right_of j))) ∙ sym (held (left_of lanes j ++ right_of j))))
    (before r c.args.out.now.tokens c.open_with_id.new.out.tokens d o (l ++ (g ++ (sides ++ end_array ∷ []))) e
    (before r c.open_with_id.new.out.tokens c.put_bound.new.out.tokens d l (g ++ (sides ++ end_array ∷ [])) le
    (before r c.put_bound.new.out.tokens c.put_bound-2.new.out.tokens d g (sides ++ end_array ∷ []) ge
    (before r c.put_bound-2.new.out.tokens c.put_sides.new.out.tokens d sides (end_array ∷ []) c.in_ok-put_sides.ensures.tokens c.close.ensures.tokens))))
