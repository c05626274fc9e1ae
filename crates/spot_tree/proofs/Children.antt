-- The numbers of children are those of elements.
use Rattle.std.proofs.Common.{◌≡◌, ◌∙◌, ℕ, ◌+◌, ◌<◌, ◌≤◌, Bool, true, false, cond, List, [], ◌∷◌, ◌++◌, length, None, ap, sym, refl, subst, arith, length-append}
use Rattle.std.specs.List.{All, AllByRecursion}
use Rattle.std.proofs.lemmas.List.Elements.{All-from_recursion}
use Rattle.serde_json.specs.Data.{Data, null, boolean, number, string, array, object, Items, no_items, item}
use Rattle.spot_terms.specs.Lists.{AreDistinct}
use Rattle.spot_claims.specs.Tree.{Element, wanted, wanted_in, wanted_behind_name, wanted_behind_attributes, wanted_of, content, is_string, numbered, children_from}
use Rattle.spot_claims.specs.Tree.{IsTree, Rising, all_children, IsTreeOf, fault_of}
use Rattle.spot_tree.proofs.Counting.{few_elements}
use Rattle.spot_tree.proofs.Numbering.{numbered-append, behind_name_is, length-numbered, wanted_other}
use Rattle.spot_tree.proofs.Parents.{once_in}
use Rattle.spot_terms.proofs.ListLemmas.{all_append}

abbrev Below : ℕ → List ℕ → Type 0
Below end cs = AllByRecursion (λ c. c < end) cs

abbrev Good : ℕ → Element → Type 0
Good end e = All (λ c. c < end) e.children × Rising 0 e.children

abbrev Inside : ℕ → List Element → Type 0
Inside end es = AllByRecursion (Good end) es

from_lower : (a b : ℕ) (cs : List ℕ) → a ≤ b → Rising b cs → Rising a cs
from_lower a b [] h k = tt
from_lower a b (c ∷ cs) h k = (omega (arith, k.0), k.1)

-- the numbers of the elements among items rise
children_rise : (n : ℕ) (ds : Items) → Rising n (children_from n ds)
children_rise n no_items = tt
children_rise n (item null ds) = (omega arith, children_rise (n + 1) ds)
children_rise n (item (boolean b) ds) = (omega arith, children_rise (n + 1) ds)
children_rise n (item (number x) ds) = (omega arith, children_rise (n + 1) ds)
children_rise n (item (string s) ds) = children_rise n ds
children_rise n (item (array es) ds) = (omega arith, from_lower (n + 1) (n + length (wanted (array es))) (children_from (n + length (wanted (array es))) ds) (omega arith) (children_rise (n + length (wanted (array es))) ds))
children_rise n (item (object ms) ds) = (omega arith, children_rise (n + 1) ds)

one_child : (n end : ℕ) (d : Data) (rest : List ℕ) (b : Bool) → b ≡ is_string d → (b ≡ false → n < end) → Below end (cond b rest rest) → (b ≡ false → Below end (n ∷ rest)) → Below end (cond b rest (n ∷ rest))
one_child n end d rest true e f g h = g
one_child n end d rest false e f g h = h refl

-- each number is that of an element
children_below : (n end : ℕ) (ds : Items) → n + length (wanted_in ds) ≤ end → Below end (children_from n ds)
children_below n end no_items h = tt
children_below n end (item null ds) h = (omega arith, children_below (n + 1) end ds (omega arith))
children_below n end (item (boolean b) ds) h = (omega arith, children_below (n + 1) end ds (omega arith))
children_below n end (item (number x) ds) h = (omega arith, children_below (n + 1) end ds (omega arith))
children_below n end (item (string s) ds) h = children_below n end ds h
children_below n end (item (array es) ds) h =
    (omega (arith, length-append (wanted (array es)) (wanted_in ds)), children_below (n + length (wanted (array es))) end ds (omega (arith, length-append (wanted (array es)) (wanted_in ds))))
children_below n end (item (object ms) ds) h = (omega arith, children_below (n + 1) end ds (omega arith))

joined_inside : (n end : ℕ) (xs ys : List Data) → Inside end (numbered n xs) → Inside end (numbered (n + length xs) ys) → Inside end (numbered n (xs ++ ys))
joined_inside n end xs ys h k = subst (Inside end) (sym (numbered-append n xs ys)) (all_append _ (numbered n xs) (numbered (n + length xs) ys) h k)

no_child : (end : ℕ) → All (λ c. c < end) [] × Rising 0 []
no_child end = (All-from_recursion (λ (c : ℕ). c < end) [] tt, tt)

mutual
  inside : (n end : ℕ) (d : Data) → n + length (wanted d) ≤ end → Inside end (numbered n (wanted d))
  inside n end null h = (no_child end, tt)
  inside n end (boolean b) h = (no_child end, tt)
  inside n end (number x) h = (no_child end, tt)
  inside n end (string s) h = tt
  inside n end (array ds) h =
      let same = ap (λ (ws : List Data). length ws) (behind_name_is ds) in
      ((All-from_recursion (λ (c : ℕ). c < end) _ (children_below (n + 1) end (content ds) (omega arith)), from_lower 0 (n + 1) (children_from (n + 1) (content ds)) (omega arith) (children_rise (n + 1) (content ds))), inside_behind_name (n + 1) end ds (omega arith))
  inside n end (object ms) h = (no_child end, tt)

  inside_behind_name : (n end : ℕ) (ds : Items) → n + length (wanted_behind_name ds) ≤ end → Inside end (numbered n (wanted_behind_name ds))
  inside_behind_name n end no_items h = tt
  inside_behind_name n end (item d ds) h = inside_behind_attributes n end ds h

  inside_behind_attributes : (n end : ℕ) (ds : Items) → n + length (wanted_behind_attributes ds) ≤ end → Inside end (numbered n (wanted_behind_attributes ds))
  inside_behind_attributes n end no_items h = tt
  inside_behind_attributes n end (item null ds) h = (no_child end, inside_in (n + 1) end ds (omega arith))
  inside_behind_attributes n end (item (boolean b) ds) h = (no_child end, inside_in (n + 1) end ds (omega arith))
  inside_behind_attributes n end (item (number x) ds) h = (no_child end, inside_in (n + 1) end ds (omega arith))
  inside_behind_attributes n end (item (string s) ds) h = inside_in n end ds h
  inside_behind_attributes n end (item (array es) ds) h =
      joined_inside n end (wanted (array es)) (wanted_in ds) (inside n end (array es) (omega (arith, length-append (wanted (array es)) (wanted_in ds)))) (inside_in (n + length (wanted (array es))) end ds (omega (arith, length-append (wanted (array es)) (wanted_in ds))))
  inside_behind_attributes n end (item (object ms) ds) h = inside_in n end ds h

  inside_in : (n end : ℕ) (ds : Items) → n + length (wanted_in ds) ≤ end → Inside end (numbered n (wanted_in ds))
  inside_in n end no_items h = tt
  inside_in n end (item d ds) h =
      joined_inside n end (wanted d) (wanted_in ds) (inside n end d (omega (arith, length-append (wanted d) (wanted_in ds)))) (inside_in (n + length (wanted d)) end ds (omega (arith, length-append (wanted d) (wanted_in ds))))

-- a value that isn't a string is a tree of its own elements
pub whole_is : (d : Data) → is_string d ≡ false → wanted_of d ≡ wanted d
whole_is null h = refl
whole_is (boolean b) h = refl
whole_is (number n) h = refl
whole_is (string s) h = cc
whole_is (array ds) h = refl
whole_is (object ms) h = refl

pub tree_is_whole : (d : Data) (es : List Element) → is_string d ≡ false → length (wanted d) ≤ 67108864 → es ≡ numbered 0 (wanted d) → IsTree es
tree_is_whole d es s few e =
    let n : length es ≡ length (wanted d) = ap length e ∙ length-numbered 0 (wanted d) in
    let inside_all = subst (λ (xs : List Element). Inside (length es) xs) (sym e) (inside 0 (length es) d (omega arith)) in
    record {
      some = omega (arith, wanted_other d s);
      few = omega arith;
      within = λ k x h. let good = All-from_recursion (Good (length es)) es inside_all k x h in good.0;
      rising = λ k x h. let good = All-from_recursion (Good (length es)) es inside_all k x h in good.1;
      once = subst (λ (xs : List Element). AreDistinct (0 ∷ all_children xs)) (sym e) (once_in d s);
    }

-- the tree of bytes is a tree
not_a_string : (d : Data) → fault_of d ≡ None → is_string d ≡ false
not_a_string null h = refl
not_a_string (boolean b) h = refl
not_a_string (number n) h = refl
not_a_string (string s) h = cc
not_a_string (array ds) h = refl
not_a_string (object ms) h = refl

pub tree_of_is_tree : (bytes : List ℕ) (tree same : List Element) → length bytes ≤ 67108864 → IsTreeOf bytes tree → same ≡ tree → IsTree same
tree_of_is_tree bytes tree same few is e =
    let s = not_a_string is.value is.sound in
    let w = whole_is is.value s in
    tree_is_whole is.value same s (omega (arith, few, few_elements bytes is.value is.json.1, ap length w)) (e ∙ (is.elements ∙ ap (numbered 0) w))
