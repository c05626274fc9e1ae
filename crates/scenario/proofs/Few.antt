-- An accepted tree has at most 4,096 obstacles.
use Rattle.std.proofs.Common.{◌≡◌, ◌∙◌, ◌⊎◌, inl, inr, ℕ, zero, suc, ◌+◌, ◌<◌, ◌≤◌, List, [], ◌∷◌, ◌++◌, length, get_or, Bool, true, false, cond, refl, sym, ap, subst, arith, nat_lt, ◌==◌, codes, length-append, append-nil}
use Rattle.std.specs.List.{All, filter, count_by}
use Rattle.std.specs.Str.{bytes_eq}
use Rattle.std.specs.Cmp.Lexicographic.{bytes_decides}
use Rattle.std.proofs.lemmas.Bool.Decides.{nat_tests}
use Rattle.spot_terms.specs.Lists.{Includes}
use Rattle.spot_claims.specs.Tree.{Element, IsTree, Rising, is_called, all_named, element_in, no_element}
use Rattle.spot_claims.specs.Paths.{at_path, statics, dynamics}
use Rattle.spot_claims.specs.Profile.{IsAccepted, at_paths, obstacles}
use Rattle.scenario.proofs.Accepts.{not_too_many}
use Rattle.scenario.proofs.Counts.{count_cons, count_none, count_front}
use Rattle.scenario.proofs.Rises.{low_before, in_filter}
use Rattle.scenario.proofs.Members.{item_in}
use Rattle.spot_terms.proofs.ListLemmas.{includes_either, includes_front}
use Rattle.spot_terms.proofs.Orders.{below_or_at_least, next_is}

-- ---- how many are below a number, and how many are it

abbrev pub Below : ℕ → List ℕ → ℕ
Below t xs = count_by (λ d. nat_lt d t) xs

abbrev pub Same : ℕ → List ℕ → ℕ
Same t xs = count_by (λ d. d == t) xs

one_next : (d t : ℕ) → cond (nat_lt d (t + 1)) 1 0 ≡ cond (nat_lt d t) 1 0 + cond (d == t) 1 0
one_next d t = grind (arith, nat_tests)

pub next : (t : ℕ) (xs : List ℕ) → Below (t + 1) xs ≡ Below t xs + Same t xs
next t [] = refl
next t (x ∷ xs) =
    let a = count_cons (λ d. nat_lt d (t + 1)) x xs (nat_lt x (t + 1)) refl in
    let b = count_cons (λ d. nat_lt d t) x xs (nat_lt x t) refl in
    let c = count_cons (λ d. d == t) x xs (x == t) refl in
    let n = next t xs in
    let o = one_next x t in omega (arith, a, b, c, n, o)

pub none_below : (xs : List ℕ) → Below 0 xs ≡ 0
none_below xs = count_none (λ d. nat_lt d 0) xs (λ k d h. no_less (get_or xs k d))
  where
    no_less : (x : ℕ) → nat_lt x 0 ≡ false
    no_less x = grind (arith, nat_tests)

same_in_by : (t x : ℕ) (xs : List ℕ) (b : Bool) → (x == t) ≡ b → (Same t xs ≡ 1 → Includes xs t) → Same t (x ∷ xs) ≡ 1 → Includes (x ∷ xs) t
same_in_by t x xs true e rest h = inl (equal x t e)
  where
    equal : (x t : ℕ) → (x == t) ≡ true → t ≡ x
    equal x t e = grind (arith, nat_tests)
same_in_by t x xs false e rest h = let c = count_cons (λ d. d == t) x xs false e in inr (rest (omega (arith, c, h)))

same_in : (t : ℕ) (xs : List ℕ) → Same t xs ≡ 1 → Includes xs t
same_in t [] h = absurd (omega (arith, h))
same_in t (x ∷ xs) h = same_in_by t x xs (x == t) refl (same_in t xs) h

-- the one with exactly n below it
between : (xs : List ℕ) (n t : ℕ) → ((s : ℕ) → Same s xs ≤ 1) → n < Below t xs → (s : ℕ) × (Below s xs ≡ n) × (Same s xs ≡ 1)
between xs n zero one h = let z = none_below xs in absurd (omega (arith, z, h))
between xs n (suc t) one h = elim (below_or_at_least n (Below t xs)) [
  | inl l ↦ between xs n t one l
  | inr l ↦ let m = next t xs in let k = one t in let g : n < Below (t + 1) xs = up xs n t h in (t, omega (arith, l, m, k, g), omega (arith, l, m, k, g))
]
  where
    up : (xs : List ℕ) (n t : ℕ) → n < Below (suc t) xs → n < Below (t + 1) xs
    up xs n t h = let P : ℕ → Type 0 = λ s. n < Below s xs in subst P (next_is t) h

pub all_below : (xs : List ℕ) (m : ℕ) → All (λ x. x < m) xs → Below m xs ≡ length xs
all_below xs m h = count_front (λ d. nat_lt d m) xs (length xs) (omega arith) (λ k d l. less (get_or xs k d) m (h k d l)) (λ k d a l. absurd (omega arith))
  where
    less : (x m : ℕ) → x < m → nat_lt x m ≡ true
    less x m h = grind (arith, nat_tests)

-- ---- each child is one

same_after : (t : ℕ) (cs : List ℕ) → Rising (t + 1) cs → Same t cs ≡ 0
same_after t cs r = count_none (λ d. d == t) cs (λ k d h. apart (get_or cs k d) t (low_before (t + 1) cs k d r h))
  where
    apart : (x t : ℕ) → t + 1 ≤ x → (x == t) ≡ false
    apart x t h = grind (arith, nat_tests)

same_once_by : (low t c : ℕ) (cs : List ℕ) (b : Bool) → (c == t) ≡ b → Rising low (c ∷ cs) → Same t cs ≤ 1 → Same t (c ∷ cs) ≤ 1
same_once_by low t c cs true e r h =
    let same : c ≡ t = equal c t e in
    let P : ℕ → Type 0 = λ x. Rising (x + 1) cs in
    let none = same_after t cs (subst P same r.1) in
    let k = count_cons (λ d. d == t) c cs true e in omega (arith, k, none)
  where
    equal : (x t : ℕ) → (x == t) ≡ true → x ≡ t
    equal x t e = grind (arith, nat_tests)
same_once_by low t c cs false e r h = let k = count_cons (λ d. d == t) c cs false e in omega (arith, k, h)

same_once : (low t : ℕ) (cs : List ℕ) → Rising low cs → Same t cs ≤ 1
same_once low t [] r = omega arith
same_once low t (c ∷ cs) r = same_once_by low t c cs (c == t) refl r (same_once (c + 1) t cs r.1)

-- two tests of which no element passes both
two_tests : (p q : ℕ → Bool) (t : ℕ) (cs : List ℕ) → ((x : ℕ) → p x ≡ true → q x ≡ true → ⊥) → Same t (filter p cs) + Same t (filter q cs) ≤ Same t cs
two_tests p q t [] apart = omega arith
two_tests p q t (c ∷ cs) apart = by_tests p q t c cs (p c) (q c) refl refl apart (two_tests p q t cs apart)
  where
    by_tests : (p q : ℕ → Bool) (t c : ℕ) (cs : List ℕ) (a b : Bool) → p c ≡ a → q c ≡ b → ((x : ℕ) → p x ≡ true → q x ≡ true → ⊥) → Same t (filter p cs) + Same t (filter q cs) ≤ Same t cs
        → Same t (cond (p c) (c ∷ filter p cs) (filter p cs)) + Same t (cond (q c) (c ∷ filter q cs) (filter q cs)) ≤ Same t (c ∷ cs)
    by_tests p q t c cs true true e f apart h = absurd (apart c e f)
    by_tests p q t c cs true false e f apart h = let k = count_cons (λ d. d == t) c (filter p cs) (c == t) refl in let m = count_cons (λ d. d == t) c cs (c == t) refl in rw (e, f) (omega (arith, k, m, h))
    by_tests p q t c cs false true e f apart h = let k = count_cons (λ d. d == t) c (filter q cs) (c == t) refl in let m = count_cons (λ d. d == t) c cs (c == t) refl in rw (e, f) (omega (arith, k, m, h))
    by_tests p q t c cs false false e f apart h = let m = count_cons (λ d. d == t) c cs (c == t) refl in rw (e, f) (omega (arith, m, h))

same_append : (t : ℕ) (xs ys : List ℕ) → Same t (xs ++ ys) ≡ Same t xs + Same t ys
same_append t [] ys = omega arith
same_append t (x ∷ xs) ys =
    let a = count_cons (λ d. d == t) x (xs ++ ys) (x == t) refl in
    let b = count_cons (λ d. d == t) x xs (x == t) refl in
    let c = same_append t xs ys in omega (arith, a, b, c)

-- ---- obstacles

abbrev pub Statics : List Element → List ℕ
Statics tree = all_named tree (codes "staticObstacle") 0

abbrev pub Dynamics : List Element → List ℕ
Dynamics tree = all_named tree (codes "dynamicObstacle") 0

pub both_named : (n : List ℕ) → bytes_eq n (codes "staticObstacle") ≡ true → bytes_eq n (codes "dynamicObstacle") ≡ true → ⊥
both_named n a b =
    let s : n ≡ codes "staticObstacle" = (bytes_decides n (codes "staticObstacle")).0 a in
    let d : n ≡ codes "dynamicObstacle" = (bytes_decides n (codes "dynamicObstacle")).0 b in
    let e : 115 ≡ 100 = ap (λ l. get_or l 0 0) (sym s ∙ d) in absurd (omega (arith, e))

pub all_in : (m : ℕ) (xs : List ℕ) (x : ℕ) → All (λ c. c < m) xs → Includes xs x → x < m
all_in m [] x h k = absurd k
all_in m (y ∷ ys) x h (inl s) = let l = h 0 0 (omega arith) in omega (arith, l, s)
all_in m (y ∷ ys) x h (inr k) = all_in m ys x (λ i d l. h (suc i) d (omega arith)) k

abbrev pub Both : List Element → List ℕ
Both tree = Statics tree ++ Dynamics tree

pub both_are : (tree : List Element) → at_paths tree obstacles ≡ Both tree
both_are tree = simp append-nil

one_each : (tree : List Element) → Rising 0 (element_in tree 0).children → (t : ℕ) → Same t (Both tree) ≤ 1
one_each tree r t =
    let a = same_append t (Statics tree) (Dynamics tree) in
    let b = two_tests (is_called tree (codes "staticObstacle")) (is_called tree (codes "dynamicObstacle")) t (element_in tree 0).children (λ x p q. both_named (element_in tree x).name p q) in
    let c = same_once 0 t (element_in tree 0).children r in omega (arith, a, b, c)

inside : (tree : List Element) (m : ℕ) → All (λ c. c < m) (element_in tree 0).children → All (λ x. x < m) (Both tree)
inside tree m h = λ k d l. elim (includes_either (Statics tree) (Dynamics tree) (get_or (Both tree) k d) (item_in (Both tree) k d l)) [
  | inl s ↦ all_in m (element_in tree 0).children (get_or (Both tree) k d) h (in_filter (is_called tree (codes "staticObstacle")) (element_in tree 0).children (get_or (Both tree) k d) s).0
  | inr s ↦ all_in m (element_in tree 0).children (get_or (Both tree) k d) h (in_filter (is_called tree (codes "dynamicObstacle")) (element_in tree 0).children (get_or (Both tree) k d) s).0
]

too_many : (tree : List Element) → IsAccepted tree → Rising 0 (element_in tree 0).children → (m : ℕ) → All (λ c. c < m) (element_in tree 0).children → 4096 < length (Both tree) → ⊥
too_many tree ok r m h big =
    let all = all_below (Both tree) m (inside tree m h) in
    let at = between (Both tree) 4096 m (one_each tree r) (omega (arith, all, big)) in
    let count : count_by (λ d. nat_lt d at.0) (at_paths tree obstacles) ≡ 4096 = ap (λ l. count_by (λ d. nat_lt d at.0) l) (both_are tree) ∙ at.1 in
    elim (includes_either (Statics tree) (Dynamics tree) at.0 (same_in at.0 (Both tree) at.2)) [
      | inl s ↦ not_too_many tree ok statics at.0 (inl refl) (includes_front (Statics tree) [] at.0 s) count
      | inr s ↦ not_too_many tree ok dynamics at.0 (inr (inl refl)) (includes_front (Dynamics tree) [] at.0 s) count
    ]

at_most : (n : ℕ) → (4096 < n → ⊥) → n ≤ 4096
at_most n h = elim (least n) [ inl l ↦ l | inr l ↦ absurd (h l) ]
  where
    least : (n : ℕ) → (n ≤ 4096) ⊎ (4096 < n)
    least n = grind arith

pub few_obstacles : (tree : List Element) → IsAccepted tree → IsTree tree → length (at_path tree dynamics) + length (at_path tree statics) ≤ 4096
few_obstacles tree ok t =
    let few = at_most (length (Both tree)) (too_many tree ok (t.rising 0 no_element t.some) (length tree) (t.within 0 no_element t.some)) in
    let n = length-append (Statics tree) (Dynamics tree) in
    let a = ap (λ (l : List ℕ). length l) (append-nil (Statics tree)) in
    let b = ap (λ (l : List ℕ). length l) (append-nil (Dynamics tree)) in omega (arith, few, n, a, b)
