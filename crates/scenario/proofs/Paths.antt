-- From elements along paths to others, one more at a time.
use Rattle.std.proofs.Common.{◌≡◌, ◌∙◌, ℕ, ◌+◌, ◌<◌, List, [], ◌∷◌, ◌++◌, length, take, get_or, map, Option, Some, None, refl, sym, ap, subst, append_assoc, append-nil}
use Rattle.std.specs.List.{All, flat_map, filter_map}
use Rattle.std.proofs.lemmas.List.{take_more, map_more}
use Rattle.std.proofs.lemmas.List.Elements.{All-push}
use Rattle.std.proofs.lemmas.Grind.{flat_map-append}
use Rattle.spot_claims.specs.Tree.{Element, all_named}
use Rattle.spot_claims.specs.Paths.{Step, each_child, Path, take_step, walk}

-- ---- one more item

pub flat_map_more : {X A : Type 0} (f : X → List A) (xs : List X) (i : ℕ) (d : X) → i < length xs → flat_map f (take (i + 1) xs) ≡ flat_map f (take i xs) ++ f (get_or xs i d)
flat_map_more f xs i d h = ap (flat_map f) (take_more xs i d h) ∙ (flat_map-append f (take i xs) (get_or xs i d ∷ []) ∙ ap (λ t. flat_map f (take i xs) ++ t) (append-nil (f (get_or xs i d))))

-- what an option adds to a list
abbrev pub added : {A : Type 0} → Option A → List A
added None = []
added (Some x) = x ∷ []

filter_map_one : {X A : Type 0} (f : X → Option A) (x : X) (o : Option A) → f x ≡ o → filter_map f (x ∷ []) ≡ added o
filter_map_one f x None e = rw e refl
filter_map_one f x (Some y) e = rw e refl

filter_map_cons : {X A : Type 0} (f : X → Option A) (x : X) (xs : List X) (o : Option A) → f x ≡ o → filter_map f (x ∷ xs) ≡ added o ++ filter_map f xs
filter_map_cons f x xs None e = rw e refl
filter_map_cons f x xs (Some y) e = rw e refl

filter_map_append : {X A : Type 0} (f : X → Option A) (xs ys : List X) → filter_map f (xs ++ ys) ≡ filter_map f xs ++ filter_map f ys
filter_map_append f [] ys = refl
filter_map_append f (x ∷ xs) ys =
    filter_map_cons f x (xs ++ ys) (f x) refl ∙ (ap (λ t. added (f x) ++ t) (filter_map_append f xs ys)
    ∙ (sym (append_assoc (added (f x)) (filter_map f xs) (filter_map f ys)) ∙ ap (λ t. t ++ filter_map f ys) (sym (filter_map_cons f x xs (f x) refl))))

pub filter_map_more : {X A : Type 0} (f : X → Option A) (xs : List X) (i : ℕ) (d : X) (o : Option A) → i < length xs → f (get_or xs i d) ≡ o → filter_map f (take (i + 1) xs) ≡ filter_map f (take i xs) ++ added o
filter_map_more f xs i d o h e = ap (filter_map f) (take_more xs i d h) ∙ (filter_map_append f (take i xs) (get_or xs i d ∷ []) ∙ ap (λ t. filter_map f (take i xs) ++ t) (filter_map_one f (get_or xs i d) o e))

-- ---- paths

pub walk_append : (tree : List Element) (a : Path) (b : Path) (es : List ℕ) → walk tree (a ++ b) es ≡ walk tree b (walk tree a es)
walk_append tree [] b es = refl
walk_append tree (s ∷ a) b es = walk_append tree a b (take_step tree s es)

pub walk_more : {S : Type 0} (tree : List Element) (f : S → Step) (path : List S) (i : ℕ) (d : S) (es : List ℕ) → i < length path → walk tree (map f (take (i + 1) path)) es ≡ take_step tree (f (get_or path i d)) (walk tree (map f (take i path)) es)
walk_more tree f path i d es h = ap (λ p. walk tree p es) (map_more f path i d h) ∙ walk_append tree (map f (take i path)) (f (get_or path i d) ∷ []) es

-- ---- elements below a number

pub all_more : (n : ℕ) (xs ys : List ℕ) (x : ℕ) → ys ≡ xs ++ x ∷ [] → All (λ e. e < n) xs → x < n → All (λ e. e < n) ys
all_more n xs ys x e h k = let P : List ℕ → Type 0 = λ zs. All (λ e. e < n) zs in subst P (sym e) (All-push (λ e. e < n) xs x h k)

pub all_same : (n : ℕ) (xs ys : List ℕ) → ys ≡ xs → All (λ e. e < n) xs → All (λ e. e < n) ys
all_same n xs ys e h = let P : List ℕ → Type 0 = λ zs. All (λ e. e < n) zs in subst P (sym e) h

-- what a push adds, after what an option adds
pub added_some : (o : Option ℕ) (x : ℕ) (xs ys found after : List ℕ) → o ≡ Some x → ys ≡ xs ++ added o → found ≡ xs → after ≡ found ++ x ∷ [] → after ≡ ys
added_some None x xs ys found after e f g h = cc
added_some (Some y) x xs ys found after e f g h = cc

pub added_none : (o : Option ℕ) (xs ys found after : List ℕ) → o ≡ None → ys ≡ xs ++ added o → found ≡ xs → after ≡ found → after ≡ ys
added_none None xs ys found after e f g h = h ∙ (g ∙ (sym (append-nil xs) ∙ sym f))
added_none (Some y) xs ys found after e f g h = cc

pub walk_next : {S : Type 0} (tree : List Element) (f : S → Step) (path : List S) (i : ℕ) (d : S) (start before after : List ℕ) → i < length path
    → before ≡ walk tree (map f (take i path)) start → after ≡ take_step tree (f (get_or path i d)) before → after ≡ walk tree (map f (take (i + 1) path)) start
walk_next tree f path i d start before after h e g = g ∙ (ap (take_step tree (f (get_or path i d))) e ∙ sym (walk_more tree f path i d start h))

-- ---- from one element

pub each_one : (tree : List Element) (called name : List ℕ) (e : ℕ) (found es : List ℕ) → es ≡ found → found ≡ take_step tree (each_child called) (e ∷ []) → called ≡ name → es ≡ all_named tree name e
each_one tree called name e found es a b n = a ∙ (b ∙ (append-nil (all_named tree called e) ∙ ap (λ t. all_named tree t e) n))

-- what a push adds behind a base
pub added_behind : (o : Option ℕ) (x : ℕ) (base xs ys found after : List ℕ) → o ≡ Some x → ys ≡ xs ++ added o → found ≡ base ++ xs → after ≡ found ++ x ∷ [] → after ≡ base ++ ys
added_behind None x base xs ys found after e f g h = cc
added_behind (Some y) x base xs ys found after e f g h =
    let same : x ≡ y = cc in
    h ∙ (ap (λ t. t ++ x ∷ []) g ∙ (append_assoc base xs (x ∷ []) ∙ (ap (λ z. base ++ (xs ++ z ∷ [])) same ∙ ap (λ t. base ++ t) (sym f))))

pub kept_behind : (o : Option ℕ) (base xs ys found after : List ℕ) → o ≡ None → ys ≡ xs ++ added o → found ≡ base ++ xs → after ≡ found → after ≡ base ++ ys
kept_behind None base xs ys found after e f g h = h ∙ (g ∙ ap (λ t. base ++ t) (sym (append-nil xs) ∙ sym f))
kept_behind (Some y) base xs ys found after e f g h = cc
