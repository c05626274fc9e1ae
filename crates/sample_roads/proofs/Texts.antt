-- What is printed of a made element is its text.
use Rattle.std.proofs.Common.{◌≡◌, ◌∙◌, ℕ, Bool, true, false, List, [], ◌∷◌, ◌++◌, refl, sym, ap, append_assoc, append-nil}
use Rattle.std.specs.Prelude.{⊤, codes}
use Rattle.json.specs.Print as printed
use Rattle.json.specs.Print.{escape, print, print_from, separator}
use Rattle.json.specs.Token.{Token, begin_array, begin_object}
use Rattle.json.specs.Tree.{json_tokens, items_tokens, members_tokens}
use Rattle.spot_terms.specs.Samples.{Made, leaf, branch, Mades, nothing, further, quoted, attribute_text, more_attributes, attributes_text, made_text, behind_text}
use Rattle.sample_roads.specs.JsonOf.{members_of, behind_members, json_of, items_of, text_of}

-- ---- texts that stand in a string as they are

abbrev pub IsClean : List ℕ → Type 0
IsClean text = escape text ≡ text

abbrev pub AreCleanPairs : List (List ℕ × List ℕ) → Type 0
AreCleanPairs [] = ⊤
AreCleanPairs (a ∷ rest) = IsClean a.0 × IsClean a.1 × AreCleanPairs rest

abbrev mutual
  pub IsCleanMade : Made → Type 0
  IsCleanMade (leaf name text) = IsClean name × IsClean text
  IsCleanMade (branch name attributes ms) = IsClean name × AreCleanPairs attributes × AreClean ms

  pub AreClean : Mades → Type 0
  AreClean nothing = ⊤
  AreClean (further m ms) = IsCleanMade m × AreClean ms

quoted_is : (text : List ℕ) → IsClean text → printed.quoted text ≡ quoted text
quoted_is text clean = ap (λ (t : List ℕ). 34 ∷ (t ++ 34 ∷ [])) clean

-- ---- parts one behind the other

three : (a b c t : List ℕ) → ((a ++ b) ++ c) ++ t ≡ a ++ (b ++ (c ++ t))
three a b c t = append_assoc (a ++ b) c t ∙ append_assoc a b (c ++ t)

four : (a b c d t : List ℕ) → (((a ++ b) ++ c) ++ d) ++ t ≡ a ++ (b ++ (c ++ (d ++ t)))
four a b c d t = append_assoc ((a ++ b) ++ c) d t ∙ three a b c (d ++ t)

five : (a b c d e t : List ℕ) → ((((a ++ b) ++ c) ++ d) ++ e) ++ t ≡ a ++ (b ++ (c ++ (d ++ (e ++ t))))
five a b c d e t = append_assoc (((a ++ b) ++ c) ++ d) e t ∙ four a b c d (e ++ t)

-- ---- attributes

-- a key and its value, as they are printed
pair_is : (a : List ℕ × List ℕ) (t : List ℕ) → IsClean a.0 → IsClean a.1 → (printed.quoted a.0 ++ 58 ∷ []) ++ (printed.quoted a.1 ++ t) ≡ attribute_text a ++ t
pair_is a t key value =
    ap (λ (k : List ℕ). (k ++ 58 ∷ []) ++ (printed.quoted a.1 ++ t)) (quoted_is a.0 key)
    ∙ (ap (λ (v : List ℕ). (quoted a.0 ++ 58 ∷ []) ++ (v ++ t)) (quoted_is a.1 value)
    ∙ sym (append_assoc (quoted a.0 ++ 58 ∷ []) (quoted a.1) t))

more_is : (rest : List (List ℕ × List ℕ)) (ts : List Token) → AreCleanPairs rest → print_from true (members_tokens (members_of rest) ++ ts) ≡ more_attributes rest ++ (125 ∷ print_from true ts)
unfolding print_from
more_is [] ts clean = refl
more_is (a ∷ rest) ts clean =
    ap (λ (t : List ℕ). 44 ∷ ((printed.quoted a.0 ++ 58 ∷ []) ++ (printed.quoted a.1 ++ t))) (more_is rest ts clean.2)
    ∙ (ap (λ (t : List ℕ). 44 ∷ t) (pair_is a (more_attributes rest ++ (125 ∷ print_from true ts)) clean.0 clean.1)
    ∙ sym (three (44 ∷ []) (attribute_text a) (more_attributes rest) (125 ∷ print_from true ts)))

-- ---- elements

-- an object, and what is behind it
object_is : (a : List ℕ × List ℕ) (rest : List (List ℕ × List ℕ)) (ms : Mades) (ts : List Token) → AreCleanPairs (a ∷ rest) → print_from true (items_tokens (items_of ms) ++ ts) ≡ behind_text ms ++ (93 ∷ print_from true ts)
    → print_from true (items_tokens (behind_members (a ∷ rest) (items_of ms)) ++ ts) ≡ attributes_text (a ∷ rest) ++ (behind_text ms ++ (93 ∷ print_from true ts))
unfolding print_from
object_is a rest ms ts pairs behind =
    ap (λ (us : List Token). print_from true (begin_object ∷ us)) (append_assoc (members_tokens (members_of (a ∷ rest))) (items_tokens (items_of ms)) ts)
    ∙ (ap (λ (t : List ℕ). 44 ∷ 123 ∷ ((printed.quoted a.0 ++ 58 ∷ []) ++ (printed.quoted a.1 ++ t))) (more_is rest (items_tokens (items_of ms) ++ ts) pairs.2 ∙ ap (λ (t : List ℕ). more_attributes rest ++ (125 ∷ t)) behind)
    ∙ (ap (λ (t : List ℕ). 44 ∷ 123 ∷ t) (pair_is a (more_attributes rest ++ (125 ∷ (behind_text ms ++ (93 ∷ print_from true ts)))) pairs.0 pairs.1)
    ∙ sym (four (codes ",{") (attribute_text a) (more_attributes rest) (codes "}") (behind_text ms ++ (93 ∷ print_from true ts)))))

mutual
  unfolding print_from

  -- behind what ended before it, or nothing, comes its text, and then the rest
  pub element_is : (m : Made) (after : Bool) (ts : List Token) → IsCleanMade m → print_from after (json_tokens (json_of m) ++ ts) ≡ separator after begin_array ++ (made_text m ++ print_from true ts)
  element_is (leaf name text) after ts clean =
      ap (λ (t : List ℕ). separator after begin_array ++ t)
      (ap (λ (n : List ℕ). 91 ∷ (n ++ (44 ∷ (printed.quoted text ++ (93 ∷ print_from true ts))))) (quoted_is name clean.0)
      ∙ (ap (λ (x : List ℕ). 91 ∷ (quoted name ++ (44 ∷ (x ++ (93 ∷ print_from true ts))))) (quoted_is text clean.1)
      ∙ sym (five (codes "[") (quoted name) (codes ",") (quoted text) (codes "]") (print_from true ts))))
  element_is (branch name [] ms) after ts clean =
      ap (λ (t : List ℕ). separator after begin_array ++ t)
      (ap (λ (n : List ℕ). 91 ∷ (n ++ print_from true (items_tokens (items_of ms) ++ ts))) (quoted_is name clean.0)
      ∙ (ap (λ (t : List ℕ). 91 ∷ (quoted name ++ t)) (elements_are ms ts clean.2)
      ∙ sym (five (codes "[") (quoted name) [] (behind_text ms) (codes "]") (print_from true ts))))
  element_is (branch name (a ∷ rest) ms) after ts clean =
      ap (λ (t : List ℕ). separator after begin_array ++ t)
      (ap (λ (n : List ℕ). 91 ∷ (n ++ print_from true (items_tokens (behind_members (a ∷ rest) (items_of ms)) ++ ts))) (quoted_is name clean.0)
      ∙ (ap (λ (t : List ℕ). 91 ∷ (quoted name ++ t)) (object_is a rest ms ts clean.1 (elements_are ms ts clean.2))
      ∙ sym (five (codes "[") (quoted name) (attributes_text (a ∷ rest)) (behind_text ms) (codes "]") (print_from true ts))))

  elements_are : (ms : Mades) (ts : List Token) → AreClean ms → print_from true (items_tokens (items_of ms) ++ ts) ≡ behind_text ms ++ (93 ∷ print_from true ts)
  elements_are nothing ts clean = refl
  elements_are (further m ms) ts clean =
      ap (λ (us : List Token). print_from true us) (append_assoc (json_tokens (json_of m)) (items_tokens (items_of ms)) ts)
      ∙ (element_is m true (items_tokens (items_of ms) ++ ts) clean.0
      ∙ (ap (λ (t : List ℕ). 44 ∷ (made_text m ++ t)) (elements_are ms ts clean.1)
      ∙ sym (three (codes ",") (made_text m) (behind_text ms) (93 ∷ print_from true ts))))

-- the printed text is the element's
pub printed_is : (m : Made) → IsCleanMade m → text_of m ≡ made_text m
unfolding print_from
printed_is m clean =
    ap (λ (us : List Token). print_from false us) (sym (append-nil (json_tokens (json_of m))))
    ∙ (element_is m false [] clean ∙ append-nil (made_text m))
