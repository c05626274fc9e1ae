-- Tokens that are written one after another.
use Rattle.std.proofs.Common.{Bool, true, false, cond, ◌≡◌, ◌∙◌, ℕ, zero, suc, ◌+◌, List, [], ◌∷◌, ◌++◌, map, Result, Ok, Err, OnOk, refl, sym, ap, arith, append_assoc, append-nil}
use Rattle.std.proofs.lemmas.Grind.{flat_map-append}
use Rattle.json.specs.Token.{Token, end_array}
use Rattle.json.specs.Tree.{items_tokens}
use Rattle.spot_terms.specs.Lists.{numbers_from}
use Rattle.spot_terms.specs.Samples.{Made, holding}
use Rattle.sample_roads.specs.JsonOf.{items_of}
use Rattle.sample_roads.specs.Written.{tokens_of, all_tokens}

-- some tokens, and others that a call wrote behind them, if it could
pub before : {A E : Type 0} (r : Result A E) (a b d xs ys : List Token) → b ≡ a ++ xs → OnOk r (d ≡ b ++ ys) → OnOk r (d ≡ a ++ (xs ++ ys))
before (Ok x) a b d xs ys e f = f ∙ (ap (λ (ts : List Token). ts ++ ys) e ∙ append_assoc a xs ys)
before (Err x) a b d xs ys e f = tt

pub same : {A E : Type 0} (r : Result A E) (a d xs ys : List Token) → xs ≡ ys → OnOk r (d ≡ a ++ xs) → OnOk r (d ≡ a ++ ys)
same (Ok x) a d xs ys e f = f ∙ ap (λ (ts : List Token). a ++ ts) e
same (Err x) a d xs ys e f = tt

-- what an element holds, with the bracket behind it
pub held : (ms : List Made) → items_tokens (items_of (holding ms)) ≡ all_tokens ms ++ end_array ∷ []
held [] = refl
held (m ∷ ms) = ap (λ (ts : List Token). tokens_of m ++ ts) (held ms) ∙ sym (append_assoc (tokens_of m) (all_tokens ms) (end_array ∷ []))

more_numbers : (n k : ℕ) → numbers_from n (suc k) ≡ numbers_from n k ++ (n + k) ∷ []
more_numbers n zero = ap (λ (i : ℕ). i ∷ []) (omega arith)
more_numbers n (suc k) =
    let last : n + 1 + k ≡ n + suc k = omega arith in
    ap (λ (ns : List ℕ). n ∷ ns) (more_numbers (n + 1) k ∙ ap (λ (i : ℕ). numbers_from (n + 1) k ++ i ∷ []) last)

map_behind : {X Y : Type 0} (f : X → Y) (xs : List X) (x : X) → map f (xs ++ x ∷ []) ≡ map f xs ++ f x ∷ []
map_behind f [] x = refl
map_behind f (y ∷ xs) x = ap (λ (ys : List _). f y ∷ ys) (map_behind f xs x)

-- one more of the elements that numbers make
pub one_more : (f : ℕ → Made) (n k : ℕ) → all_tokens (map f (numbers_from n (k + 1))) ≡ all_tokens (map f (numbers_from n k)) ++ tokens_of (f (n + k))
one_more f n k =
    let next : k + 1 ≡ suc k = omega arith in
    ap (λ (i : ℕ). all_tokens (map f (numbers_from n i))) next
    ∙ (ap (λ (ns : List ℕ). all_tokens (map f ns)) (more_numbers n k)
    ∙ (ap all_tokens (map_behind f (numbers_from n k) (n + k))
    ∙ (flat_map-append tokens_of (map f (numbers_from n k)) (f (n + k) ∷ []) ∙ ap (λ (ts : List Token). all_tokens (map f (numbers_from n k)) ++ ts) (append-nil (tokens_of (f (n + k)))))))

-- the element that a turn wrote, behind those of the turns before
pub next_element : (f : ℕ → Made) (n k i : ℕ) (a b d : List Token) → n + k ≡ i → b ≡ a ++ all_tokens (map f (numbers_from n k)) → d ≡ b ++ tokens_of (f i) → d ≡ a ++ all_tokens (map f (numbers_from n (k + 1)))
next_element f n k i a b d at e g =
    g ∙ (ap (λ (ts : List Token). ts ++ tokens_of (f i)) e
    ∙ (append_assoc a (all_tokens (map f (numbers_from n k))) (tokens_of (f i))
    ∙ ap (λ (ts : List Token). a ++ ts) (ap (λ (j : ℕ). all_tokens (map f (numbers_from n k)) ++ tokens_of (f j)) (sym at) ∙ sym (one_more f n k))))

-- an element with a choice among what it holds
pub chosen : (b : Bool) (m : Made) (a d : List Token) → b ≡ true → d ≡ a ++ tokens_of m → d ≡ a ++ all_tokens (cond b (m ∷ []) [])
chosen true m a d e f = f ∙ ap (λ (ts : List Token). a ++ ts) (sym (append-nil (tokens_of m)))
chosen false m a d e f = cc

pub all_behind : (xs ys : List Made) → all_tokens (xs ++ ys) ≡ all_tokens xs ++ all_tokens ys
all_behind xs ys = flat_map-append tokens_of xs ys
