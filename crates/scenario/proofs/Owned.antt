-- Lists of elements below others, in which no element stands twice.
use Rattle.std.proofs.Common.{◌≡◌, ◌∙◌, ◌⊎◌, inl, inr, ℕ, zero, suc, ◌<◌, ◌≤◌, List, [], ◌∷◌, ◌++◌, length, get_or, Option, Some, None, true, false, cond, refl, sym, subst, arith, ◌==◌}
use Rattle.std.specs.List.{filter_map, flat_map}
use Rattle.std.specs.Str.{bytes_eq}
use Rattle.std.specs.Cmp.Lexicographic.{bytes_decides}
use Rattle.std.proofs.lemmas.Bool.Decides.{nat_tests}
use Rattle.spot_terms.proofs.Members.{in_flat_map}
use Rattle.spot_terms.proofs.ListLemmas.{includes_either}
use Rattle.spot_terms.specs.Lists.{Includes, AreDistinct}
use Rattle.spot_terms.proofs.Distinct.{distinct_append, distinct_flat_map, distinct_filter}
use Rattle.spot_claims.specs.Tree.{Element, IsTree, element_in, all_children, is_called, all_named, first_named}
use Rattle.spot_claims.specs.Paths.{first_child, each_child}
use Rattle.spot_claims.specs.Scenario.{below}
use Rattle.spot_tree.proofs.Parents.{one_parent, distinct_children, parent_inside}
use Rattle.scenario.proofs.Counts.{count_cons}
use Rattle.scenario.proofs.Few.{Below, Same, next, none_below, all_below, all_in}
use Rattle.scenario.proofs.Members.{in_filter_map, item_in, found_in}
use Rattle.scenario.proofs.Rises.{in_filter}
use Rattle.spot_terms.proofs.Orders.{true_not_false, next_is}

-- ---- distinct numbers below a number are no more than it

-- 1 where the numbers are equal
abbrev Head : ℕ → ℕ → ℕ
Head x t = cond (x == t) 1 0

same_absent_by : (t x : ℕ) (xs : List ℕ) → (x ≡ t → ⊥) → Same t xs ≡ 0 → Same t (x ∷ xs) ≡ 0
same_absent_by t x xs apart e = let k = count_cons (λ d. d == t) x xs (x == t) refl in let other = not_equal x t apart in omega (arith, k, e, other)
  where
    not_equal : (x t : ℕ) → (x ≡ t → ⊥) → Head x t ≡ 0
    not_equal x t apart = grind (arith, nat_tests)

same_absent : (t : ℕ) (xs : List ℕ) → (Includes xs t → ⊥) → Same t xs ≡ 0
same_absent t [] h = refl
same_absent t (x ∷ xs) h = same_absent_by t x xs (λ e. h (inl (sym e))) (same_absent t xs (λ k. h (inr k)))

head_or : (t x : ℕ) → (x ≡ t) ⊎ (Head x t ≡ 0)
head_or t x = grind (arith, nat_tests)

head_most : (t x : ℕ) → Head x t ≤ 1
head_most t x = grind (arith, nat_tests)

distinct_same : (t : ℕ) (xs : List ℕ) → AreDistinct xs → Same t xs ≤ 1
distinct_same t [] d = omega arith
distinct_same t (x ∷ xs) d = let k = count_cons (λ y. y == t) x xs (x == t) refl in elim (head_or t x) [
  | inl e ↦ let P : ℕ → Type 0 = λ y. Same y xs ≡ 0 in let none = subst P e (same_absent x xs d.0) in let most = head_most t x in omega (arith, k, none, most)
  | inr e ↦ let rest = distinct_same t xs d.1 in omega (arith, k, e, rest)
]

below_few : (m : ℕ) (xs : List ℕ) → AreDistinct xs → Below m xs ≤ m
below_few zero xs d = let z = none_below xs in omega (arith, z)
below_few (suc m) xs d =
    let P : ℕ → Type 0 = λ k. Below k xs ≤ k in
    let rest = below_few m xs d in
    let one = distinct_same m xs d in
    let more = next m xs in subst P (sym (next_is m)) (omega (arith, rest, one, more))

pub few_distinct : (m : ℕ) (xs : List ℕ) → AreDistinct xs → ((x : ℕ) → Includes xs x → x < m) → length xs ≤ m
few_distinct m xs d below = let all = all_below xs m (λ k x l. below (get_or xs k x) (item_in xs k x l)) in let few = below_few m xs d in omega (arith, all, few)

-- ---- children of a name

distinct_found : (f : ℕ → Option ℕ) (e : ℕ) (o : Option ℕ) → f e ≡ o → AreDistinct (filter_map f (e ∷ []))
distinct_found f e None is = rw is tt
distinct_found f e (Some x) is = rw is (λ h. h, tt)

-- c is a child of p, and has this name
pub record IsChild (tree : List Element) (name : List ℕ) (p c : ℕ) : Type 0 where
  pub listed : Includes (element_in tree p).children c
  pub called : is_called tree name c ≡ true

pub child_named : (tree : List Element) (name : List ℕ) (p c : ℕ) → Includes (all_named tree name p) c → IsChild tree name p c
child_named tree name p c h = let k = in_filter (is_called tree name) (element_in tree p).children c h in record { listed = k.0; called = k.1 }

pub first_child_named : (tree : List Element) (name : List ℕ) (p c : ℕ) → Includes (below tree p (first_child name ∷ [])) c → IsChild tree name p c
first_child_named tree name p c h =
    let from = in_filter_map (first_named tree name) (p ∷ []) c h in
    let P : ℕ → Type 0 = λ e. first_named tree name e ≡ Some c in
    child_named tree name p c (found_in (is_called tree name) (element_in tree p).children c (subst P (only from.0 p from.1) from.2))
  where
    only : (x p : ℕ) → Includes (p ∷ []) x → x ≡ p
    only x p (inl s) = s
    only x p (inr h) = absurd h

-- n is a child of the name b of a child of the name a of p
pub record IsGrandchild (tree : List Element) (a b : List ℕ) (p n : ℕ) : Type 0 where
  pub parent : ℕ
  pub is_parent : IsChild tree a p parent
  pub is_child : IsChild tree b parent n

-- the way to the children of a name of the first child of another
abbrev pub Through : List Element → List ℕ → List ℕ → ℕ → List ℕ
Through tree a b p = below tree p (first_child a ∷ each_child b ∷ [])

pub grandchild_named : (tree : List Element) (a b : List ℕ) (p n : ℕ) → Includes (Through tree a b p) n → IsGrandchild tree a b p n
grandchild_named tree a b p n h =
    let from = in_flat_map (all_named tree b) (filter_map (first_named tree a) (p ∷ [])) n h in
    record { parent = from.0; is_parent = first_child_named tree a p from.0 from.1; is_child = child_named tree b from.0 n from.2 }

-- an element has one name
pub one_name : (tree : List Element) (e : ℕ) (a b : List ℕ) → bytes_eq a b ≡ false → is_called tree a e ≡ true → is_called tree b e ≡ true → ⊥
one_name tree e a b other h k =
    let s : (element_in tree e).name ≡ a = (bytes_decides (element_in tree e).name a).0 h in
    let t : (element_in tree e).name ≡ b = (bytes_decides (element_in tree e).name b).0 k in
    let same : bytes_eq a b ≡ true = (bytes_decides a b).1 (sym s ∙ t) in
    true_not_false (bytes_eq a b) same other

-- ---- lists that each element has for itself

-- no list of an element has one twice, no two elements have one in common, and all are elements
pub record IsOwned (tree : List Element) (f : ℕ → List ℕ) : Type 0 where
  pub each : (p : ℕ) → AreDistinct (f p)
  pub one : (p q n : ℕ) → Includes (f p) n → Includes (f q) n → p ≡ q
  pub inside : (p n : ℕ) → Includes (f p) n → n < length tree

child_inside : (tree : List Element) → IsTree tree → (p c : ℕ) → Includes (element_in tree p).children c → c < length tree
child_inside tree is p c h = all_in (length tree) (element_in tree p).children c (is.within p _ (parent_inside tree p c h)) h

pub owned_named : (tree : List Element) (name : List ℕ) → IsTree tree → IsOwned tree (all_named tree name)
owned_named tree name is = record {
  each = λ p. distinct_filter (is_called tree name) (element_in tree p).children (distinct_children tree is.once.1 p);
  one = λ p q n h k. one_parent tree is.once.1 p q n (child_named tree name p n h).listed (child_named tree name q n k).listed;
  inside = λ p n h. child_inside tree is p n (child_named tree name p n h).listed;
}

pub owned_first : (tree : List Element) (name : List ℕ) → IsTree tree → IsOwned tree (λ p. below tree p (first_child name ∷ []))
owned_first tree name is = record {
  each = λ p. distinct_found (first_named tree name) p (first_named tree name p) refl;
  one = λ p q n h k. one_parent tree is.once.1 p q n (first_child_named tree name p n h).listed (first_child_named tree name q n k).listed;
  inside = λ p n h. child_inside tree is p n (first_child_named tree name p n h).listed;
}

one_grandparent : (tree : List Element) → AreDistinct (all_children tree) → (a b : List ℕ) (p q n : ℕ) → IsGrandchild tree a b p n → IsGrandchild tree a b q n → p ≡ q
one_grandparent tree once a b p q n h k =
    let same = one_parent tree once h.parent k.parent n h.is_child.listed k.is_child.listed in
    let P : ℕ → Type 0 = λ t. Includes (element_in tree q).children t in
    one_parent tree once p q h.parent h.is_parent.listed (subst P (sym same) k.is_parent.listed)

pub owned_through : (tree : List Element) (a b : List ℕ) → IsTree tree → IsOwned tree (Through tree a b)
owned_through tree a b is =
    let named = owned_named tree b is in
    record {
      each = λ p. distinct_flat_map (all_named tree b) (filter_map (first_named tree a) (p ∷ [])) (distinct_found (first_named tree a) p (first_named tree a p) refl) named.each named.one;
      one = λ p q n h k. one_grandparent tree is.once.1 a b p q n (grandchild_named tree a b p n h) (grandchild_named tree a b q n k);
      inside = λ p n h. let g = grandchild_named tree a b p n h in child_inside tree is g.parent n g.is_child.listed;
    }

-- two such lists with nothing in common
abbrev pub Apart : (ℕ → List ℕ) → (ℕ → List ℕ) → Type 0
Apart f g = (p q n : ℕ) → Includes (f p) n → Includes (g q) n → ⊥

one_joined : (tree : List Element) (f g : ℕ → List ℕ) → IsOwned tree f → IsOwned tree g → Apart f g → (p q n : ℕ) → Includes (f p) n ⊎ Includes (g p) n → Includes (f q) n ⊎ Includes (g q) n → p ≡ q
one_joined tree f g a b apart p q n (inl h) (inl k) = a.one p q n h k
one_joined tree f g a b apart p q n (inl h) (inr k) = absurd (apart p q n h k)
one_joined tree f g a b apart p q n (inr h) (inl k) = absurd (apart q p n k h)
one_joined tree f g a b apart p q n (inr h) (inr k) = b.one p q n h k

pub owned_joined : (tree : List Element) (f g : ℕ → List ℕ) → IsOwned tree f → IsOwned tree g → Apart f g → IsOwned tree (λ p. f p ++ g p)
owned_joined tree f g a b apart = record {
  each = λ p. distinct_append (f p) (g p) (a.each p) (b.each p) (apart p p);
  one = λ p q n h k. one_joined tree f g a b apart p q n (includes_either (f p) (g p) n h) (includes_either (f q) (g q) n k);
  inside = λ p n h. elim (includes_either (f p) (g p) n h) [ inl k ↦ a.inside p n k | inr k ↦ b.inside p n k ];
}

pub apart_joined : (f g h : ℕ → List ℕ) → Apart f g → Apart f h → Apart f (λ q. g q ++ h q)
apart_joined f g h a b p q n x y = elim (includes_either (g q) (h q) n y) [ inl k ↦ a p q n x k | inr k ↦ b p q n x k ]

pub apart_named : (tree : List Element) (a b : List ℕ) → bytes_eq a b ≡ false → Apart (all_named tree a) (all_named tree b)
apart_named tree a b other p q n h k = one_name tree n a b other (child_named tree a p n h).called (child_named tree b q n k).called

pub apart_below : (tree : List Element) (a b c : List ℕ) → bytes_eq b c ≡ false → Apart (Through tree a b) (all_named tree c)
apart_below tree a b c other p q n h k = one_name tree n b c other (grandchild_named tree a b p n h).is_child.called (child_named tree c q n k).called

-- the same name below two names
pub apart_ways : (tree : List Element) (a b c : List ℕ) → IsTree tree → bytes_eq a b ≡ false → Apart (Through tree a c) (Through tree b c)
apart_ways tree a b c is other p q n h k =
    let g = grandchild_named tree a c p n h in
    let o = grandchild_named tree b c q n k in
    let same = one_parent tree is.once.1 g.parent o.parent n g.is_child.listed o.is_child.listed in
    let P : ℕ → Type 0 = λ t. is_called tree b t ≡ true in
    one_name tree g.parent a b other g.is_parent.called (subst P (sym same) o.is_parent.called)

-- the lists of distinct elements have together no more than there are elements
pub few_owned : (tree : List Element) (f : ℕ → List ℕ) (es : List ℕ) → IsOwned tree f → AreDistinct es → length (flat_map f es) ≤ length tree
few_owned tree f es owned d = few_distinct (length tree) (flat_map f es) (distinct_flat_map f es d owned.each owned.one) (λ n h. let from = in_flat_map f es n h in owned.inside from.0 n from.2)
