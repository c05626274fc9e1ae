-- The least of the failing checks, one list more at a time.
use Rattle.std.proofs.Common.{◌≡◌, ◌⊎◌, inl, inr, ℕ, zero, suc, ◌+◌, ◌<◌, ◌≤◌, List, [], ◌∷◌, ◌++◌, length, take, get_or, map, Option, Some, None, Bool, true, false, cond, refl, sym, subst, arith, nat_lt, ◌==◌, ◌||◌, ◌&&◌, take_all}
use Rattle.std.proofs.lemmas.Bool.Decides.{nat_tests}
use Rattle.std.proofs.lemmas.List.{take_more}
use Rattle.spot_terms.proofs.Members.{in_map}
use Rattle.spot_terms.proofs.ListLemmas.{includes_front, includes_map}
use Rattle.spot_terms.specs.Lists.{Includes, At}
use Rattle.spot_terms.specs.declared.status.Code.{Code}
use Rattle.spot_claims.specs.Tree.{Element, text_at}
use Rattle.spot_claims.specs.Paths.{Path, walk, at_path}
use Rattle.spot_claims.specs.Profile as profile
use Rattle.spot_claims.specs.Profile.{FailsAt, FailsBy, Fails, IsReadBy, code_of}
use Rattle.scenario.specs.Has.{IsGood}
use Rattle.scenario.specs.Table.{check_of, line_of, path_of}
use Rattle.scenario.specs.Fault.{Least, IsLeastFault, least_of, comes_before, OneOf, ChecksFail, StartsFail, LinesFail}
use Rattle.scenario.specs.declared.table.Check.{Check}
use Rattle.scenario.specs.declared.table.Line.{Line}
use Rattle.scenario.specs.declared.fault.Fault.{Fault}
use Rattle.scenario.proofs.Members.{in_last, in_more, at_map, map_at}
use Rattle.spot_terms.proofs.Orders.{below_or_at_least}

-- ---- the order

abbrev pub NotAfter : ℕ → ℕ → ℕ → ℕ → Type 0
NotAfter p n e j = (p < e) ⊎ ((e ≡ p) × (n ≤ j))

before_true : (gp gn fp fn : ℕ) → (nat_lt gp fp || ((gp == fp) && nat_lt gn fn)) ≡ true → NotAfter gp gn fp fn
before_true gp gn fp fn h = grind (arith, nat_tests)

before_false : (gp gn fp fn : ℕ) → (nat_lt gp fp || ((gp == fp) && nat_lt gn fn)) ≡ false → NotAfter fp fn gp gn
before_false gp gn fp fn h = grind (arith, nat_tests)

through : (fp fn gp gn e j : ℕ) → NotAfter fp fn gp gn → NotAfter gp gn e j → NotAfter fp fn e j
through fp fn gp gn e j (inl a) (inl b) = inl (omega arith)
through fp fn gp gn e j (inl a) (inr b) = inl (omega (arith, b.0))
through fp fn gp gn e j (inr a) (inl b) = inl (omega (arith, a.0))
through fp fn gp gn e j (inr a) (inr b) = inr (omega (arith, a.0, b.0), omega (arith, a.1, b.1))

-- ---- the least of two kinds

record IsUnion (A B C : ℕ → ℕ → Code → Type 0) : Type 0 where
  split : (e j : ℕ) (code : Code) → C e j code → A e j code ⊎ B e j code
  left : (e j : ℕ) (code : Code) → A e j code → C e j code
  right : (e j : ℕ) (code : Code) → B e j code → C e j code

both : (A B C : ℕ → ℕ → Code → Type 0) (f g : Fault) (b : Bool) → comes_before g f ≡ b → IsUnion A B C → IsLeastFault A f → IsLeastFault B g → Least C (cond b (Some g) (Some f))
both A B C f g true e u h k = record {
  holds = u.right g.place g.number g.code k.holds;
  least = λ x j code m. elim (u.split x j code m) [
    | inl a ↦ through g.place g.number f.place f.number x j (before_true g.place g.number f.place f.number e) (h.least x j code a)
    | inr b ↦ k.least x j code b
  ];
}
both A B C f g false e u h k = record {
  holds = u.left f.place f.number f.code h.holds;
  least = λ x j code m. elim (u.split x j code m) [
    | inl a ↦ h.least x j code a
    | inr b ↦ through f.place f.number g.place g.number x j (before_false g.place g.number f.place f.number e) (k.least x j code b)
  ];
}

union : (A B C : ℕ → ℕ → Code → Type 0) (a b : Option Fault) → IsUnion A B C → Least A a → Least B b → Least C (least_of a b)
union A B C None None u h k = λ x j code m. elim (u.split x j code m) [ inl n ↦ h x j code n | inr n ↦ k x j code n ]
union A B C None (Some g) u h k = record {
  holds = u.right g.place g.number g.code k.holds;
  least = λ x j code m. elim (u.split x j code m) [ inl n ↦ absurd (h x j code n) | inr n ↦ k.least x j code n ];
}
union A B C (Some f) None u h k = record {
  holds = u.left f.place f.number f.code h.holds;
  least = λ x j code m. elim (u.split x j code m) [ inl n ↦ h.least x j code n | inr n ↦ absurd (k x j code n) ];
}
union A B C (Some f) (Some g) u h k = both A B C f g (comes_before g f) refl u h k

-- ---- one item more

split_one : {X : Type 0} (P : X → ℕ → ℕ → Code → Type 0) (xs : List X) (x : X) (e j : ℕ) (code : Code) → OneOf P (xs ++ x ∷ []) e j code → OneOf P xs e j code ⊎ P x e j code
split_one P xs x e j code h = elim (in_more xs x h.item h.listed) [
  | inl l ↦ inl (record { item = h.item; listed = l; holds = h.holds })
  | inr s ↦ let Q : _ → Type 0 = λ y. P y e j code in inr (subst Q s h.holds)
]

pub no_one : {X : Type 0} (P : X → ℕ → ℕ → Code → Type 0) → Least (OneOf P []) None
no_one P = λ e j code h. h.listed

pub one_more : {X : Type 0} (P : X → ℕ → ℕ → Code → Type 0) (xs : List X) (i : ℕ) (d : X) (a b : Option Fault) → i < length xs → Least (OneOf P (take i xs)) a → Least (P (get_or xs i d)) b → Least (OneOf P (take (i + 1) xs)) (least_of a b)
one_more P xs i d a b h p q =
    let Q : List _ → Type 0 = λ l. Least (OneOf P l) (least_of a b) in
    let x = get_or xs i d in
    subst Q (sym (take_more xs i d h)) (union (OneOf P (take i xs)) (P x) (OneOf P (take i xs ++ x ∷ [])) a b (record {
      split = split_one P (take i xs) x;
      left = λ e j code m. record { item = m.item; listed = includes_front (take i xs) (x ∷ []) m.item m.listed; holds = m.holds };
      right = λ e j code m. record { item = x; listed = in_last (take i xs) x; holds = m };
    }) p q)

pub one_step : {X : Type 0} (P : X → ℕ → ℕ → Code → Type 0) (xs : List X) (i : ℕ) (d : X) (a b o : Option Fault) → i < length xs → Least (OneOf P (take i xs)) a → Least (P (get_or xs i d)) b → o ≡ least_of a b → Least (OneOf P (take (i + 1) xs)) o
one_step P xs i d a b o h p q e = let Q : Option Fault → Type 0 = λ f. Least (OneOf P (take (i + 1) xs)) f in subst Q (sym e) (one_more P xs i d a b h p q)

pub one_end : {X : Type 0} (P : X → ℕ → ℕ → Code → Type 0) (xs : List X) (i : ℕ) (o : Option Fault) → length xs ≤ i → Least (OneOf P (take i xs)) o → Least (OneOf P xs) o
one_end P xs i o h p = let Q : List _ → Type 0 = λ l. Least (OneOf P l) o in subst Q (take_all i xs h) p

-- ---- the checks of one element

not_before : (tree : List Element) (checks : List Check) (e n j : ℕ) (d : Check) (check : profile.Check) → ((k : ℕ) → k < n → FailsAt tree e (check_of (get_or checks k d)) → ⊥)
    → ((j < length checks) × (check ≡ check_of (get_or checks j d))) → FailsAt tree e check → n ≤ j
not_before tree checks e n j d check none at fails = elim (below_or_at_least j n) [
  | inl l ↦ let P : profile.Check → Type 0 = λ k. FailsAt tree e k in absurd (none j l (subst P at.1 fails))
  | inr l ↦ l
]

pub check_found : (tree : List Element) (checks : List Check) (e n : ℕ) (d : Check) (code : Code) → n < length checks → FailsAt tree e (check_of (get_or checks n d)) → code ≡ code_of (check_of (get_or checks n d))
    → ((k : ℕ) → k < n → FailsAt tree e (check_of (get_or checks k d)) → ⊥) → IsLeastFault (ChecksFail tree checks e) (record { place = e; number = n; code = code })
check_found tree checks e n d code h fails is none = record {
  holds = record { same = refl; check = check_of (get_or checks n d); at = map_at check_of checks n d h; fails = fails; code_is = is };
  least = λ x j other m. inr (m.same, not_before tree checks e n j d m.check none (at_map check_of checks j d m.check m.at) m.fails);
}

pub no_check : (tree : List Element) (checks : List Check) (e : ℕ) (d : Check) → ((k : ℕ) → k < length checks → FailsAt tree e (check_of (get_or checks k d)) → ⊥) → Least (ChecksFail tree checks e) None
no_check tree checks e d none = λ x j code m.
    let at = at_map check_of checks j d m.check m.at in
    let P : profile.Check → Type 0 = λ k. FailsAt tree e k in none j at.0 (subst P at.1 m.fails)

-- ---- all lines

to_profile : (tree : List Element) (lines : List Line) (e j : ℕ) (code : Code) → LinesFail tree lines e j code → FailsBy (map line_of lines) tree e j code
to_profile tree lines e j code h =
    let starts = h.holds in
    let ways = starts.holds in
    let elements = ways.holds in
    let one = elements.holds in
    let P : ℕ → Type 0 = λ x. Includes (walk tree (path_of ways.item) (at_path tree (path_of starts.item))) x in
    let Q : ℕ → Type 0 = λ x. FailsAt tree x one.check in
    record {
      row = line_of h.item;
      listed = includes_map line_of lines h.item h.listed;
      read = record {
        start = path_of starts.item;
        is_start = includes_map path_of h.item.starts.now starts.item starts.listed;
        way = path_of ways.item;
        is_way = includes_map path_of h.item.ways.now ways.item ways.listed;
        leads = subst P (sym one.same) elements.listed;
      };
      check = one.check;
      at = one.at;
      fails = subst Q (sym one.same) one.fails;
      code_is = one.code_is;
    }

of_read : (tree : List Element) (line : Line) (e j : ℕ) (code : Code) (check : profile.Check) → IsReadBy tree (line_of line) e → At (map check_of line.checks.now) j check → FailsAt tree e check → code ≡ code_of check → StartsFail tree line e j code
of_read tree line e j code check r at fails is =
    let start = in_map path_of line.starts.now r.start r.is_start in
    let way = in_map path_of line.ways.now r.way r.is_way in
    let P : Path → Type 0 = λ p. Includes (walk tree p (at_path tree r.start)) e in
    let Q : Path → Type 0 = λ p. Includes (walk tree (path_of way.0) (at_path tree p)) e in
    let leads : Includes (walk tree (path_of way.0) (at_path tree (path_of start.0))) e = subst Q start.2 (subst P way.2 r.leads) in
    record {
      item = start.0;
      listed = start.1;
      holds = record {
        item = way.0;
        listed = way.1;
        holds = record { item = e; listed = leads; holds = record { same = refl; check = check; at = at; fails = fails; code_is = is } };
      };
    }

of_profile : (tree : List Element) (lines : List Line) (e j : ℕ) (code : Code) → FailsBy (map line_of lines) tree e j code → LinesFail tree lines e j code
of_profile tree lines e j code h =
    let line = in_map line_of lines h.row h.listed in
    let P : profile.Line → Type 0 = λ r. IsReadBy tree r e in
    let Q : profile.Line → Type 0 = λ r. At r.checks j h.check in
    record { item = line.0; listed = line.1; holds = of_read tree line.0 e j code h.check (subst P line.2 h.read) (subst Q line.2 h.at) h.fails h.code_is }

same_least : (P Q : ℕ → ℕ → Code → Type 0) (o : Option Fault) → ((e j : ℕ) (code : Code) → P e j code → Q e j code) → ((e j : ℕ) (code : Code) → Q e j code → P e j code) → Least P o → Least Q o
same_least P Q None to of h = λ e j code m. h e j code (of e j code m)
same_least P Q (Some f) to of h = record { holds = to f.place f.number f.code h.holds; least = λ e j code m. h.least e j code (of e j code m) }

pub all_lines : (tree : List Element) (lines : List Line) (o : Option Fault) → map line_of lines ≡ profile.profile → Least (LinesFail tree lines) o → Least (Fails tree) o
all_lines tree lines o e h =
    let P : List profile.Line → Type 0 = λ rows. Least (FailsBy rows tree) o in
    subst P e (same_least (LinesFail tree lines) (FailsBy (map line_of lines) tree) o (to_profile tree lines) (of_profile tree lines) h)

-- the two checks of a good number don't fail
pub no_fault : (tree : List Element) (e : ℕ) (n : profile.Number) → IsGood n (text_at tree e) → (j : ℕ) (check : profile.Check) → At (profile.is_number n) j check → FailsAt tree e check → ⊥
no_fault tree e n good zero check at fails =
    let P : profile.Check → Type 0 = λ k. FailsAt tree e k in
    let bad : profile.is_bad_number (text_at tree e) ≡ true = subst P at fails in
    let g = good.good in cc
no_fault tree e n good (suc zero) check at fails = let P : profile.Check → Type 0 = λ k. FailsAt tree e k in good.fits (subst P at fails)
no_fault tree e n good (suc (suc j)) check at fails = absurd at

pub good_number : (tree : List Element) (checks : List Check) (e : ℕ) (n : profile.Number) → map check_of checks ≡ profile.is_number n → IsGood n (text_at tree e) → Least (ChecksFail tree checks e) None
good_number tree checks e n is good = λ x j code m. let Q : List profile.Check → Type 0 = λ cs. At cs j m.check in no_fault tree e n good j m.check (subst Q is m.at) m.fails
