-- What is added to a list, item by item and list by list.
use Rattle.std.proofs.Common.{◌≡◌, ◌∙◌, subst, ℕ, suc, ◌+◌, add-one, List, [], ◌∷◌, ◌++◌, map, refl, sym, ap, append_assoc}
use Rattle.std.proofs.lemmas.List.{append-nil, map-append}
use Rattle.spot_terms.specs.Cells.{NetCell}
use Rattle.spot_terms.specs.Lists.{Pairwise, numbers_below}
use Rattle.lanelets.specs.declared.cell.Placed.{Placed}
use Rattle.lanelets.specs.Made.{Adds}
use Rattle.spot_terms.proofs.ListLemmas.{pairwise_append}

-- nothing is added
pub adds_none : (R : NetCell → Placed → Type 0) (a : List Placed) → Adds R [] a a
adds_none R a = record { added = []; after_is = sym (append-nil a); each = tt }

-- two lists one after the other
pub adds_more : (R : NetCell → Placed → Type 0) (xs ys : List NetCell) (a b c : List Placed) → Adds R xs a b → Adds R ys b c → Adds R (xs ++ ys) a c
adds_more R xs ys a b c h k = record {
  added = h.added ++ k.added;
  after_is = k.after_is ∙ ap (λ (zs : List Placed). zs ++ k.added) h.after_is ∙ append_assoc a h.added k.added;
  each = pairwise_append R xs ys h.added k.added h.each k.each;
}

-- one more item
pub adds_push : (R : NetCell → Placed → Type 0) (xs : List NetCell) (x : NetCell) (a b : List Placed) (p : Placed) → Adds R xs a b → R x p → Adds R (xs ++ x ∷ []) a (b ++ p ∷ [])
adds_push R xs x a b p h r = adds_more R xs (x ∷ []) a b (b ++ p ∷ []) h (record { added = p ∷ []; after_is = refl; each = (r, tt) })

next_number : (f : ℕ → NetCell) (n : ℕ) → map f (numbers_below (suc n)) ≡ map f (numbers_below n) ++ f n ∷ []
unfolding numbers_below
next_number f n = map-append f (numbers_below n) (n ∷ [])

-- one more of the numbers below
pub adds_next : (R : NetCell → Placed → Type 0) (f : ℕ → NetCell) (n m : ℕ) (a b c : List Placed) (p : Placed) → m ≡ n + 1 → Adds R (map f (numbers_below n)) a b → R (f n) p → c ≡ b ++ p ∷ [] → Adds R (map f (numbers_below m)) a c
adds_next R f n m a b c p e h r is = rw (e, add-one, next_number f n, is) (adds_push R (map f (numbers_below n)) (f n) a b p h r)

-- a part of all was added, and the rest is left
pub record IsAlong (R : NetCell → Placed → Type 0) (all rest : List NetCell) (a b : List Placed) : Type 0 where
  pub done : List NetCell
  pub whole : all ≡ done ++ rest
  pub adds : Adds R done a b

pub along_start : (R : NetCell → Placed → Type 0) (all : List NetCell) (a : List Placed) → IsAlong R all all a a
along_start R all a = record { done = []; whole = refl; adds = adds_none R a }

pub along_step : (R : NetCell → Placed → Type 0) (all left xs rest : List NetCell) (a b c : List Placed) → IsAlong R all left a b → left ≡ xs ++ rest → Adds R xs b c → IsAlong R all rest a c
along_step R all left xs rest a b c h e k = record {
  done = h.done ++ xs;
  whole = h.whole ∙ ap (λ (zs : List NetCell). h.done ++ zs) e ∙ sym (append_assoc h.done xs rest);
  adds = adds_more R h.done xs a b c h.adds k;
}

pub along_end : (R : NetCell → Placed → Type 0) (all rest : List NetCell) (a b : List Placed) → IsAlong R all rest a b → rest ≡ [] → Adds R all a b
along_end R all rest a b h e = let all_is : all ≡ h.done = h.whole ∙ ap (λ (zs : List NetCell). h.done ++ zs) e ∙ append-nil h.done in rw all_is h.adds

-- all of the numbers below, of as many parts as there are
pub adds_below : (R : NetCell → Placed → Type 0) (f : ℕ → ℕ → NetCell) (n k m : ℕ) (a b : List Placed) → n ≡ k → k ≡ m → Adds R (map (f k) (numbers_below n)) a b → Adds R (map (f m) (numbers_below m)) a b
adds_below R f n k m a b e g h = subst (λ (i : ℕ). Adds R (map (f i) (numbers_below i)) a b) g (subst (λ (i : ℕ). Adds R (map (f k) (numbers_below i)) a b) e h)

pub adds_zero : (R : NetCell → Placed → Type 0) (f : ℕ → NetCell) (a : List Placed) → Adds R (map f (numbers_below 0)) a a
unfolding numbers_below
adds_zero R f a = adds_none R a

pub adds_same : (R : NetCell → Placed → Type 0) (xs ys : List NetCell) (a b c : List Placed) → xs ≡ ys → b ≡ c → Adds R ys a c → Adds R xs a b
adds_same R xs ys a b c e f h = subst (λ (zs : List NetCell). Adds R zs a b) (sym e) (subst (Adds R ys a) (sym f) h)

-- what was added to nothing is all
pub adds_all : (R : NetCell → Placed → Type 0) (xs : List NetCell) (a b : List Placed) → a ≡ [] → Adds R xs a b → Pairwise R xs b
adds_all R xs a b e h = let same : b ≡ h.added = h.after_is ∙ ap (λ (zs : List Placed). zs ++ h.added) e in rw same h.each
