-- The texts of lines, one by one.
use Rattle.std.proofs.Common.{◌≡◌, ◌∙◌, ℕ, ◌+◌, ◌<◌, ◌≤◌, List, [], ◌∷◌, ◌++◌, map, drop, get_or, length, refl, sym, ap, append-nil}
use Rattle.std.specs.List.{flat_map}
use Rattle.std.proofs.lemmas.List.{drop_more, drop_all}
use Rattle.std.proofs.lemmas.Grind.{flat_map-append}
use Rattle.spot_terms.specs.Report.{Line, line_text, report_text}

pub report_text-cons : (l : Line) (ls : List Line) → report_text (l ∷ ls) ≡ line_text l ++ report_text ls
unfolding report_text
report_text-cons l ls = refl

pub report_text-nil : report_text [] ≡ []
unfolding report_text
report_text-nil = refl

pub report_text-one : (l : Line) → report_text (l ∷ []) ≡ line_text l
report_text-one l = report_text-cons l [] ∙ ap (λ (x : List ℕ). line_text l ++ x) report_text-nil ∙ append-nil (line_text l)

pub report_text-append : (ks ls : List Line) → report_text (ks ++ ls) ≡ report_text ks ++ report_text ls
unfolding report_text
report_text-append ks ls = flat_map-append line_text ks ls

-- the item at a place, and those behind it
pub item : {X : Type 0} (xs : List X) (i : ℕ) (x : X) → i < length xs → x ≡ get_or xs i x → drop i xs ≡ x ∷ drop (i + 1) xs
item xs i x h e = drop_more xs i x h ∙ ap (λ y. y ∷ drop (i + 1) xs) (sym e)

-- of items with a line each: the next line, and the rest
pub next_of_map : {X : Type 0} (f : X → Line) (xs : List X) (i : ℕ) (d : X) → i < length xs
    → report_text (map f (drop i xs)) ≡ line_text (f (get_or xs i d)) ++ report_text (map f (drop (i + 1) xs))
next_of_map f xs i d h = ap (λ (ys : List _). report_text (map f ys)) (drop_more xs i d h) ∙ report_text-cons (f (get_or xs i d)) (map f (drop (i + 1) xs))

pub next_line : {X : Type 0} (f : X → Line) (xs : List X) (i : ℕ) (x : X) → i < length xs → x ≡ get_or xs i x
    → report_text (map f (drop i xs)) ≡ line_text (f x) ++ report_text (map f (drop (i + 1) xs))
next_line f xs i x h e = ap (λ (ys : List _). report_text (map f ys)) (item xs i x h e) ∙ report_text-cons (f x) (map f (drop (i + 1) xs))

pub no_line_left : {X : Type 0} (f : X → Line) (xs : List X) (i : ℕ) → length xs ≤ i → report_text (map f (drop i xs)) ≡ []
no_line_left f xs i h = ap (λ (ys : List _). report_text (map f ys)) (drop_all i xs h) ∙ report_text-nil

-- of items with some lines each: the lines of the next, and the rest
pub next_lines : {X : Type 0} (f : X → List Line) (xs : List X) (i : ℕ) (x : X) → i < length xs → x ≡ get_or xs i x
    → report_text (flat_map f (drop i xs)) ≡ report_text (f x) ++ report_text (flat_map f (drop (i + 1) xs))
next_lines f xs i x h e = ap (λ (ys : List _). report_text (flat_map f ys)) (item xs i x h e) ∙ report_text-append (f x) (flat_map f (drop (i + 1) xs))

pub no_lines_left : {X : Type 0} (f : X → List Line) (xs : List X) (i : ℕ) → length xs ≤ i → report_text (flat_map f (drop i xs)) ≡ []
no_lines_left f xs i h = ap (λ (ys : List _). report_text (flat_map f ys)) (drop_all i xs h) ∙ report_text-nil
