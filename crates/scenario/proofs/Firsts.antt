-- The first place of each id, and who stands second.
use Rattle.std.proofs.Common.{◌≡◌, ◌∙◌, ◌⊎◌, inl, inr, ℕ, ◌+◌, ◌<◌, ◌≤◌, List, [], ◌∷◌, ◌++◌, length, take, get_or, Option, Some, None, Bool, true, false, cond, refl, sym, ap, subst, arith, nat_lt, ◌&&◌, ◌==◌}
use Rattle.std.proofs.lemmas.List.{take_more}
use Rattle.std.proofs.lemmas.Bool.Decides.{nat_tests, eqb_tells}
use Rattle.std.specs.BTreeMap.{BTreeMap, get, is_at}
use Rattle.std.specs.Map.{lookup}
use Rattle.std.specs.Ordering.{nat_cmp}
use Rattle.spot_terms.proofs.ListLemmas.{includes_front}
use Rattle.spot_terms.specs.Lists.{Includes}
use Rattle.spot_claims.specs.Tree.{Element}
use Rattle.spot_claims.specs.Paths.{id_at}
use Rattle.spot_claims.specs.Profile.{is_second, same_id, at_paths}
use Rattle.scenario.specs.Known.{IsFirstOf, FirstIs, HasFirsts, IsKnown, first_in, least_of_places}
use Rattle.scenario.specs.Table.{group_paths}
use Rattle.scenario.specs.declared.known.Known.{Known}
use Rattle.scenario.specs.declared.table.Group.{Group}
use Rattle.scenario.specs.declared.table.Group.TheVariants.{Lanelets, Obstacles, Problems}
use Rattle.scenario.proofs.Members.{in_last, in_more, any_in, none_in}

-- ---- an element without an id

pub no_both : (o : Option ℕ) (i : ℕ) → o ≡ None → o ≡ Some i → ⊥
no_both o i e f = cc

pub two_ids : (o : Option ℕ) (k i : ℕ) → o ≡ Some k → o ≡ Some i → k ≡ i
two_ids o k i e f = cc

skip : (tree : List Element) (es : List ℕ) (x i : ℕ) (o : Option ℕ) → FirstIs tree es i o → id_at tree x ≡ None → FirstIs tree (es ++ x ∷ []) i o
skip tree es x i None h none = λ d k e. elim (in_more es x d k) [ inl l ↦ h d l e | inr s ↦ no_both (id_at tree x) i none (ap (id_at tree) (sym s) ∙ e) ]
skip tree es x i (Some p) h none = record {
  listed = includes_front es (x ∷ []) p h.listed;
  id_is = h.id_is;
  least = λ d k e. elim (in_more es x d k) [ inl l ↦ h.least d l e | inr s ↦ absurd (no_both (id_at tree x) i none (ap (id_at tree) (sym s) ∙ e)) ];
}

pub firsts_skip : (tree : List Element) (es : List ℕ) (i x : ℕ) (f : ℕ → Option ℕ) → i < length es → HasFirsts tree (take i es) f → id_at tree (get_or es i 0) ≡ None → HasFirsts tree (take (i + 1) es) f
firsts_skip tree es i x f h k none =
    let P : List ℕ → Type 0 = λ l. HasFirsts tree l f in
    subst P (sym (take_more es i 0 h)) (record { first = λ q. skip tree (take i es) (get_or es i 0) q (f q) (k.first q) none })

-- ---- an element with an id

at_same : (k q : ℕ) → k ≡ q → is_at (nat_cmp k) q ≡ true
at_same k q e = grind (arith, nat_tests)

at_other : (k q : ℕ) → (k ≡ q → ⊥) → is_at (nat_cmp k) q ≡ false
at_other k q e = grind (arith, nat_tests)

lesser : (p e : ℕ) (b : Bool) → nat_lt p e ≡ b → (cond b p e ≤ p) × (cond b p e ≤ e) × ((cond b p e ≡ p) ⊎ (cond b p e ≡ e))
lesser p e true h = (omega arith, grind (arith, nat_tests), inl refl)
lesser p e false h = (grind (arith, nat_tests), omega arith, inr refl)

take_one : (tree : List Element) (es : List ℕ) (x i : ℕ) (o : Option ℕ) → FirstIs tree es i o → id_at tree x ≡ Some i → IsFirstOf tree (es ++ x ∷ []) i (least_of_places o x)
take_one tree es x i None h e = record {
  listed = in_last es x;
  id_is = e;
  least = λ d k g. elim (in_more es x d k) [ inl l ↦ absurd (h d l g) | inr s ↦ omega arith ];
}
take_one tree es x i (Some p) h e =
    let least = lesser p x (nat_lt p x) refl in
    let P : ℕ → Type 0 = λ q. Includes (es ++ x ∷ []) q × (id_at tree q ≡ Some i) in
    let at : P (cond (nat_lt p x) p x) = elim least.2 [
      | inl s ↦ subst P (sym s) (includes_front es (x ∷ []) p h.listed, h.id_is)
      | inr s ↦ subst P (sym s) (in_last es x, e)
    ] in
    record {
      listed = at.0;
      id_is = at.1;
      least = λ d k g. elim (in_more es x d k) [ inl l ↦ let far = h.least d l g in let near = least.0 in omega (arith, far, near) | inr s ↦ let near = least.1 in omega (arith, near, s) ];
    }

other : (tree : List Element) (es : List ℕ) (x k i : ℕ) (o : Option ℕ) → FirstIs tree es i o → id_at tree x ≡ Some k → (k ≡ i → ⊥) → FirstIs tree (es ++ x ∷ []) i o
other tree es x k i None h has apart = λ d l e. elim (in_more es x d l) [ inl m ↦ h d m e | inr s ↦ apart (two_ids (id_at tree x) k i has (ap (id_at tree) (sym s) ∙ e)) ]
other tree es x k i (Some p) h has apart = record {
  listed = includes_front es (x ∷ []) p h.listed;
  id_is = h.id_is;
  least = λ d l e. elim (in_more es x d l) [ inl m ↦ h.least d m e | inr s ↦ absurd (apart (two_ids (id_at tree x) k i has (ap (id_at tree) (sym s) ∙ e))) ];
}

write_at : (tree : List Element) (es : List ℕ) (x k q : ℕ) (f : ℕ → Option ℕ) → id_at tree x ≡ Some k → HasFirsts tree es f → ((k ≡ q) ⊎ (k ≡ q → ⊥)) → FirstIs tree (es ++ x ∷ []) q (cond (is_at (nat_cmp k) q) (Some (least_of_places (f k) x)) (f q))
write_at tree es x k q f e h (inl s) =
    let P : Bool → Type 0 = λ b. FirstIs tree (es ++ x ∷ []) q (cond b (Some (least_of_places (f k) x)) (f q)) in
    let Q : ℕ → Type 0 = λ i. IsFirstOf tree (es ++ x ∷ []) i (least_of_places (f k) x) in
    subst P (sym (at_same k q s)) (subst Q s (take_one tree es x k (f k) (h.first k) e))
write_at tree es x k q f e h (inr apart) =
    let P : Bool → Type 0 = λ b. FirstIs tree (es ++ x ∷ []) q (cond b (Some (least_of_places (f k) x)) (f q)) in
    subst P (sym (at_other k q apart)) (other tree es x k q (f q) (h.first q) e apart)

same_or_not : (k q : ℕ) → (k ≡ q) ⊎ (k ≡ q → ⊥)
same_or_not k q = elim (eqb_tells k q) [ inl a ↦ inl a.1 | inr a ↦ inr a.1 ]

pub firsts_write : (tree : List Element) (es : List ℕ) (i k place : ℕ) (f g : ℕ → Option ℕ) → i < length es → HasFirsts tree (take i es) f → id_at tree (get_or es i 0) ≡ Some k
    → place ≡ least_of_places (f k) (get_or es i 0) → ((q : ℕ) → g q ≡ cond (is_at (nat_cmp k) q) (Some place) (f q)) → HasFirsts tree (take (i + 1) es) g
firsts_write tree es i k place f g h before e is write =
    let P : List ℕ → Type 0 = λ l. HasFirsts tree l g in
    let x = get_or es i 0 in
    subst P (sym (take_more es i 0 h)) (record {
      first = λ q.
          let Q : Option ℕ → Type 0 = λ o. FirstIs tree (take i es ++ x ∷ []) q o in
          subst Q (sym (write q ∙ ap (λ p. cond (is_at (nat_cmp k) q) (Some p) (f q)) is)) (write_at tree (take i es) x k q f e before (same_or_not k q));
    })

-- ---- who stands second

before_equal : (d e i : ℕ) → d < e → (nat_lt d e && (i == i)) ≡ true
before_equal d e i h = grind (arith, nat_tests)

pub second_at : (tree : List Element) (d e i : ℕ) → id_at tree e ≡ Some i → id_at tree d ≡ Some i → d < e → (nat_lt d e && same_id (id_at tree d) (id_at tree e)) ≡ true
second_at tree d e i a b h = ap (λ p. nat_lt d e && same_id p (id_at tree e)) b ∙ (ap (λ p. nat_lt d e && same_id (Some i) p) a ∙ before_equal d e i h)

pub second_yes : (tree : List Element) (es : List ℕ) (e i p : ℕ) → id_at tree e ≡ Some i → IsFirstOf tree es i p → p < e → is_second tree es e ≡ true
second_yes tree es e i p has f h = any_in (λ d. nat_lt d e && same_id (id_at tree d) (id_at tree e)) es p f.listed (second_at tree p e i has f.id_is h)

and_false : (b : Bool) → (b && false) ≡ false
and_false true = refl
and_false false = refl

apart_ids : (d e m n : ℕ) → ((m ≡ n) → e ≤ d) → (nat_lt d e && (m == n)) ≡ false
apart_ids d e m n h = elim (eqb_tells m n) [
  | inl a ↦ let far : e ≤ d = h a.1 in grind (arith, nat_tests)
  | inr a ↦ grind (arith, nat_tests)
]

apart : (d e : ℕ) (o q : Option ℕ) → ((i : ℕ) → o ≡ Some i → q ≡ Some i → e ≤ d) → (nat_lt d e && same_id o q) ≡ false
apart d e None q h = and_false (nat_lt d e)
apart d e (Some m) None h = and_false (nat_lt d e)
apart d e (Some m) (Some n) h = apart_ids d e m n (λ s. h n (ap Some s) refl)

not_second : (tree : List Element) (d e : ℕ) (q : Option ℕ) → id_at tree e ≡ q → ((i : ℕ) → id_at tree d ≡ Some i → q ≡ Some i → e ≤ d) → (nat_lt d e && same_id (id_at tree d) (id_at tree e)) ≡ false
not_second tree d e q b h = ap (λ p. nat_lt d e && same_id (id_at tree d) p) b ∙ apart d e (id_at tree d) q h

pub second_no_id : (tree : List Element) (es : List ℕ) (e : ℕ) → id_at tree e ≡ None → is_second tree es e ≡ false
second_no_id tree es e none = none_in (λ d. nat_lt d e && same_id (id_at tree d) (id_at tree e)) es (λ d k. not_second tree d e None none (λ i a b. absurd (no_both None i refl b)))

pub second_none : (tree : List Element) (es : List ℕ) (e i : ℕ) → id_at tree e ≡ Some i → FirstIs tree es i None → is_second tree es e ≡ false
second_none tree es e i has f = none_in (λ d. nat_lt d e && same_id (id_at tree d) (id_at tree e)) es (λ d k. not_second tree d e (Some i) has (λ j a b. absurd (f d k (a ∙ sym b))))

pub second_no : (tree : List Element) (es : List ℕ) (e i p : ℕ) → id_at tree e ≡ Some i → IsFirstOf tree es i p → e ≤ p → is_second tree es e ≡ false
second_no tree es e i p has f h = none_in (λ d. nat_lt d e && same_id (id_at tree d) (id_at tree e)) es (λ d k. not_second tree d e (Some i) has (λ j a b. let far = f.least d k (a ∙ sym b) in omega (arith, far)))

second_test : (tree : List Element) (es : List ℕ) (e i p : ℕ) (b : Bool) → nat_lt p e ≡ b → id_at tree e ≡ Some i → IsFirstOf tree es i p → b ≡ is_second tree es e
second_test tree es e i p true t has f = sym (second_yes tree es e i p has f (grind (arith, nat_tests)))
second_test tree es e i p false t has f = sym (second_no tree es e i p has f (grind (arith, nat_tests)))

pub second_is : (tree : List Element) (es : List ℕ) (e i p : ℕ) → id_at tree e ≡ Some i → IsFirstOf tree es i p → nat_lt p e ≡ is_second tree es e
second_is tree es e i p has f = second_test tree es e i p (nat_lt p e) refl has f

-- ---- of each group

pub known_first : (tree : List Element) (k : Known) (group : Group) (i : ℕ) (o : Option ℕ) → IsKnown tree k → o ≡ first_in group k i → FirstIs tree (at_paths tree (group_paths group)) i o
known_first tree k Lanelets i o h e = let P : Option ℕ → Type 0 = λ q. FirstIs tree (at_paths tree (group_paths Lanelets)) i q in subst P (sym e) (h.lanelet_firsts.first i)
known_first tree k Obstacles i o h e = let P : Option ℕ → Type 0 = λ q. FirstIs tree (at_paths tree (group_paths Obstacles)) i q in subst P (sym e) (h.obstacle_firsts.first i)
known_first tree k Problems i o h e = let P : Option ℕ → Type 0 = λ q. FirstIs tree (at_paths tree (group_paths Problems)) i q in subst P (sym e) (h.problem_firsts.first i)

pub no_firsts : (tree : List Element) (m : BTreeMap ℕ ℕ) → m.entries ≡ [] → HasFirsts tree [] (get nat_cmp m)
no_firsts tree m e = record { first = λ i. let P : List (ℕ × ℕ) → Type 0 = λ es. FirstIs tree [] i (lookup (is_at (nat_cmp i)) es) in subst P (sym e) (λ d h g. h) }
