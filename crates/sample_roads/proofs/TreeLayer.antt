-- What is made, in the tree of its text: each made element stands there, its children one after another behind it.
use Rattle.std.proofs.Common.{◌≡◌, ◌∙◌, ℕ, ◌+◌, Bool, true, false, cond, nat_lt, List, [], ◌∷◌, ◌++◌, length, get_or, Option, Some, None, refl, sym, ap, subst, arith, append_assoc, append-nil, length-append, Less, Equal, Greater}
use Rattle.std.specs.Prelude.{⊤}
use Rattle.std.specs.List.{filter, filter_map, flat_map, find}
use Rattle.std.specs.Str.{bytes_eq}
use Rattle.std.specs.Ordering.{nat_cmp, match_ordering}
use Rattle.std.specs.Cmp.Lexicographic.{slice_cmp}
use Rattle.std.proofs.lemmas.List.{get_or_at}
use Rattle.std.proofs.lemmas.Bool.{and_from, and_parts}
use Rattle.serde_json.specs.Data.{Data, string, array, Items, item, Members, no_members, member, put}
use Rattle.spot_terms.specs.Lists.{Pairwise}
use Rattle.spot_claims.specs.Tree.{Element, no_element, element_in, element_of, numbered, wanted, wanted_in, wanted_behind_name, tree_of, fault_of, fault_from, content, children_from, is_string, has_name, are_strings, joined, trimmed, pairs_of, is_called, all_named, first_named, attribute_at, text_at, value_at}
use Rattle.spot_claims.specs.Paths.{Step, each_child, first_child, Path, take_step, walk}
use Rattle.spot_tree.proofs.Numbering.{behind_name_is, length-numbered, numbered-append, fault_behind, sound_array}
use Rattle.spot_terms.proofs.ListLemmas.{pairwise_append}
use Rattle.spot_terms.specs.Samples.{Made, leaf, branch, Mades, nothing, further}
use Rattle.sample_roads.proofs.JsonLayer.{data_of, datas_of, put_all, behind_object}

-- ---- what a made element is in the tree

abbrev pub list_of : Mades → List Made
list_of nothing = []
list_of (further m ms) = m ∷ list_of ms

abbrev pub label : Made → List ℕ
label (leaf name text) = name
label (branch name attributes ms) = name

abbrev pub kids : Made → List Made
kids (leaf name text) = []
kids (branch name attributes ms) = list_of ms

abbrev pub marks_by : List (List ℕ × List ℕ) → List (List ℕ × List ℕ)
marks_by [] = []
marks_by (a ∷ rest) = pairs_of (put_all (a ∷ rest) no_members)

abbrev pub marks : Made → List (List ℕ × List ℕ)
marks (leaf name text) = []
marks (branch name attributes ms) = marks_by attributes

abbrev pub said : Made → List ℕ
said (leaf name text) = trimmed (text ++ [])
said (branch name attributes ms) = []

content_is : (name : List ℕ) (attributes : List (List ℕ × List ℕ)) (ms : Mades) → content (item (string name) (behind_object attributes (datas_of ms))) ≡ datas_of ms
content_is name [] nothing = refl
content_is name [] (further (leaf n t) ms) = refl
content_is name [] (further (branch n a b) ms) = refl
content_is name (a ∷ rest) ms = refl

nothing_said : (ms : Mades) → joined (datas_of ms) ≡ []
nothing_said nothing = refl
nothing_said (further (leaf n t) ms) = nothing_said ms
nothing_said (further (branch n a b) ms) = nothing_said ms

name_is : (m : Made) (n : ℕ) → (element_of n (data_of m)).name ≡ label m
name_is (leaf name text) n = refl
name_is (branch name attributes ms) n = refl

attributes_are : (m : Made) (n : ℕ) → (element_of n (data_of m)).attributes ≡ marks m
attributes_are (leaf name text) n = refl
attributes_are (branch name [] nothing) n = refl
attributes_are (branch name [] (further (leaf x t) ms)) n = refl
attributes_are (branch name [] (further (branch x a b) ms)) n = refl
attributes_are (branch name (a ∷ rest) ms) n = refl

text_is : (m : Made) (n : ℕ) → (element_of n (data_of m)).text ≡ said m
text_is (leaf name text) n = refl
text_is (branch name attributes ms) n = ap (λ (ds : Items). trimmed (joined ds)) (content_is name attributes ms) ∙ ap trimmed (nothing_said ms)

children_are : (name : List ℕ) (attributes : List (List ℕ × List ℕ)) (ms : Mades) (n : ℕ) → (element_of n (data_of (branch name attributes ms))).children ≡ children_from (n + 1) (datas_of ms)
children_are name attributes ms n = ap (λ (ds : Items). children_from (n + 1) ds) (content_is name attributes ms)

-- ---- each value that must be an element is one

abbrev mutual
  pub IsNamed : Made → Type 0
  IsNamed (leaf name text) = nat_lt 0 (length name) ≡ true
  IsNamed (branch name attributes ms) = (nat_lt 0 (length name) ≡ true) × AreNamed ms

  pub AreNamed : Mades → Type 0
  AreNamed nothing = ⊤
  AreNamed (further m ms) = IsNamed m × AreNamed ms

put_strings : (k s : List ℕ) (ms : Members) → are_strings ms ≡ true → are_strings (put k (string s) ms) ≡ true
put_strings k s no_members h = refl
put_strings k s (member l d ms) h =
    elim (slice_cmp nat_cmp k l) as (λ o. are_strings (match_ordering o (member k (string s) (member l d ms)) (member l (string s) ms) (member l d (put k (string s) ms))) ≡ true) [
      | Less ↦ h
      | Equal ↦ (and_parts (is_string d) (are_strings ms) h).1
      | Greater ↦ and_from (is_string d) (are_strings (put k (string s) ms)) ((and_parts (is_string d) (are_strings ms) h).0) (put_strings k s ms ((and_parts (is_string d) (are_strings ms) h).1))
    ]

all_strings : (attributes : List (List ℕ × List ℕ)) (found : Members) → are_strings found ≡ true → are_strings (put_all attributes found) ≡ true
all_strings [] found h = h
all_strings (a ∷ rest) found h = all_strings rest (put a.0 (string a.1) found) (put_strings a.0 a.1 found h)

is_named_well : (name : List ℕ) (attributes : List (List ℕ × List ℕ)) (ms : Mades) → nat_lt 0 (length name) ≡ true → has_name (item (string name) (behind_object attributes (datas_of ms))) ≡ true
is_named_well name [] nothing h = rw h refl
is_named_well name [] (further (leaf n t) ms) h = rw h refl
is_named_well name [] (further (branch n a b) ms) h = rw h refl
is_named_well name (a ∷ rest) ms h = rw h (all_strings rest (put a.0 (string a.1) no_members) refl)

mutual
  pub sound : (m : Made) (n : ℕ) → IsNamed m → fault_from n (wanted (data_of m)) ≡ None
  sound (leaf name text) n h = rw h refl
  sound (branch name attributes ms) n h =
      let ds : Items = item (string name) (behind_object attributes (datas_of ms)) in
      sound_array n ds (is_named_well name attributes ms h.0) (ap (λ (es : Items). fault_from (n + 1) (wanted_in es)) (content_is name attributes ms) ∙ sound_in ms (n + 1) h.1)

  sound_in : (ms : Mades) (n : ℕ) → AreNamed ms → fault_from n (wanted_in (datas_of ms)) ≡ None
  sound_in nothing n h = refl
  sound_in (further m ms) n h = fault_behind n (wanted (data_of m)) (wanted_in (datas_of ms)) (sound m n h.0) ∙ sound_in ms (n + length (wanted (data_of m))) h.1

pub no_fault : (m : Made) → IsNamed m → fault_of (data_of m) ≡ None
no_fault (leaf name text) h = sound (leaf name text) 0 h
no_fault (branch name attributes ms) h = sound (branch name attributes ms) 0 h

-- ---- where it stands

-- from place n on the tree has the elements of these values
pub record Stretch (tree : List Element) (n : ℕ) (ds : List Data) : Type 0 where
  pub front : List Element
  pub back : List Element
  pub place : length front ≡ n
  pub whole : tree ≡ front ++ (numbered n ds ++ back)

abbrev pub Stands : List Element → ℕ → Made → Type 0
Stands tree n m = Stretch tree n (wanted (data_of m))

abbrev pub StandIn : List Element → ℕ → Mades → Type 0
StandIn tree n ms = Stretch tree n (wanted_in (datas_of ms))

front_part : (tree : List Element) (n : ℕ) (xs ys : List Data) → Stretch tree n (xs ++ ys) → Stretch tree n xs
front_part tree n xs ys h = record {
  front = h.front;
  back = numbered (n + length xs) ys ++ h.back;
  place = h.place;
  whole = h.whole ∙ ap (λ (es : List Element). h.front ++ es) (ap (λ (es : List Element). es ++ h.back) (numbered-append n xs ys) ∙ append_assoc (numbered n xs) (numbered (n + length xs) ys) h.back);
}

back_part : (tree : List Element) (n : ℕ) (xs ys : List Data) → Stretch tree n (xs ++ ys) → Stretch tree (n + length xs) ys
back_part tree n xs ys h = record {
  front = h.front ++ numbered n xs;
  back = h.back;
  place = omega (arith, length-append h.front (numbered n xs), length-numbered n xs, h.place);
  whole = h.whole ∙ (ap (λ (es : List Element). h.front ++ es) (ap (λ (es : List Element). es ++ h.back) (numbered-append n xs ys) ∙ append_assoc (numbered n xs) (numbered (n + length xs) ys) h.back) ∙ sym (append_assoc h.front (numbered n xs) (numbered (n + length xs) ys ++ h.back)));
}

rest_part : (tree : List Element) (n : ℕ) (d : Data) (ds : List Data) → Stretch tree n (d ∷ ds) → Stretch tree (n + 1) ds
rest_part tree n d ds h = back_part tree n (d ∷ []) ds h

here_is : (tree : List Element) (n : ℕ) (d : Data) (ds : List Data) → Stretch tree n (d ∷ ds) → element_in tree n ≡ element_of n d
here_is tree n d ds h = ap (λ (es : List Element). get_or es n no_element) h.whole ∙ get_or_at h.front (element_of n d) (numbered (n + 1) ds ++ h.back) no_element n h.place

element_is : (tree : List Element) (n : ℕ) (m : Made) → Stands tree n m → element_in tree n ≡ element_of n (data_of m)
element_is tree n (leaf name text) h = here_is tree n _ _ h
element_is tree n (branch name attributes ms) h = here_is tree n _ _ h

within : (tree : List Element) (n : ℕ) (name : List ℕ) (attributes : List (List ℕ × List ℕ)) (ms : Mades) → Stands tree n (branch name attributes ms) → StandIn tree (n + 1) ms
within tree n name attributes ms h =
    let ds : Items = item (string name) (behind_object attributes (datas_of ms)) in
    let P : List Data → Type 0 = λ ws. Stretch tree (n + 1) ws in
    subst P (behind_name_is ds ∙ ap wanted_in (content_is name attributes ms)) (rest_part tree n (array ds) (wanted_behind_name ds) h)

kids_stand : (tree : List Element) (ms : Mades) (n : ℕ) → StandIn tree n ms → Pairwise (Stands tree) (children_from n (datas_of ms)) (list_of ms)
kids_stand tree nothing n h = tt
kids_stand tree (further (leaf name text) ms) n h =
    let d : Data = data_of (leaf name text) in
    (front_part tree n (wanted d) (wanted_in (datas_of ms)) h, kids_stand tree ms (n + length (wanted d)) (back_part tree n (wanted d) (wanted_in (datas_of ms)) h))
kids_stand tree (further (branch name attributes kinds) ms) n h =
    let d : Data = data_of (branch name attributes kinds) in
    (front_part tree n (wanted d) (wanted_in (datas_of ms)) h, kids_stand tree ms (n + length (wanted d)) (back_part tree n (wanted d) (wanted_in (datas_of ms)) h))

-- the children that the tree has are those that were made
pub children_stand : (tree : List Element) (n : ℕ) (m : Made) → Stands tree n m → Pairwise (Stands tree) (element_in tree n).children (kids m)
children_stand tree n (leaf name text) h =
    let P : List ℕ → Type 0 = λ cs. Pairwise (Stands tree) cs [] in
    subst P (sym (ap (λ (e : Element). e.children) (element_is tree n (leaf name text) h))) tt
children_stand tree n (branch name attributes ms) h =
    let P : List ℕ → Type 0 = λ cs. Pairwise (Stands tree) cs (list_of ms) in
    subst P (sym (ap (λ (e : Element). e.children) (element_is tree n (branch name attributes ms) h) ∙ children_are name attributes ms n)) (kids_stand tree ms (n + 1) (within tree n name attributes ms h))

-- ---- questions

abbrev pub has_label : List ℕ → Made → Bool
has_label name m = bytes_eq (label m) name

pub called_is : (tree : List Element) (name : List ℕ) (n : ℕ) (m : Made) → Stands tree n m → is_called tree name n ≡ has_label name m
called_is tree name n m h = ap (λ (e : Element). bytes_eq e.name name) (element_is tree n m h) ∙ ap (λ (l : List ℕ). bytes_eq l name) (name_is m n)

pub mark_is : (tree : List Element) (key : List ℕ) (n : ℕ) (m : Made) → Stands tree n m → attribute_at tree n key ≡ value_at key (marks m)
mark_is tree key n m h = ap (λ (e : Element). value_at key e.attributes) (element_is tree n m h) ∙ ap (λ (a : List (List ℕ × List ℕ)). value_at key a) (attributes_are m n)

pub said_is : (tree : List Element) (n : ℕ) (m : Made) → Stands tree n m → text_at tree n ≡ said m
said_is tree n m h = ap (λ (e : Element). e.text) (element_is tree n m h) ∙ text_is m n

-- ---- lists in step

-- both are there, or neither
abbrev pub Alike : {A B : Type 0} → (A → B → Type 0) → Option A → Option B → Type 0
Alike R None None = ⊤
Alike R None (Some b) = ⊥
Alike R (Some a) None = ⊥
Alike R (Some a) (Some b) = R a b

filter_step : {A B : Type 0} (R : A → B → Type 0) (x : A) (y : B) (xs : List A) (ys : List B) (b : Bool) → R x y → Pairwise R xs ys → Pairwise R (cond b (x ∷ xs) xs) (cond b (y ∷ ys) ys)
filter_step R x y xs ys true r p = (r, p)
filter_step R x y xs ys false r p = p

pub filter_pair : {A B : Type 0} (R : A → B → Type 0) (p : A → Bool) (q : B → Bool) (xs : List A) (ys : List B) → ((a : A) (b : B) → R a b → p a ≡ q b) → Pairwise R xs ys → Pairwise R (filter p xs) (filter q ys)
filter_pair R p q [] [] h k = tt
filter_pair R p q [] (y ∷ ys) h k = absurd k
filter_pair R p q (x ∷ xs) [] h k = absurd k
filter_pair R p q (x ∷ xs) (y ∷ ys) h k =
    let P : Bool → Type 0 = λ b. Pairwise R (cond b (x ∷ filter p xs) (filter p xs)) (cond (q y) (y ∷ filter q ys) (filter q ys)) in
    subst P (sym (h x y k.0)) (filter_step R x y (filter p xs) (filter q ys) (q y) k.0 (filter_pair R p q xs ys h k.1))

find_step : {A B : Type 0} (R : A → B → Type 0) (x : A) (y : B) (o : Option A) (u : Option B) (b : Bool) → R x y → Alike R o u → Alike R (cond b (Some x) o) (cond b (Some y) u)
find_step R x y o u true r p = r
find_step R x y o u false r p = p

pub find_pair : {A B : Type 0} (R : A → B → Type 0) (p : A → Bool) (q : B → Bool) (xs : List A) (ys : List B) → ((a : A) (b : B) → R a b → p a ≡ q b) → Pairwise R xs ys → Alike R (find p xs) (find q ys)
find_pair R p q [] [] h k = tt
find_pair R p q [] (y ∷ ys) h k = absurd k
find_pair R p q (x ∷ xs) [] h k = absurd k
find_pair R p q (x ∷ xs) (y ∷ ys) h k =
    let P : Bool → Type 0 = λ b. Alike R (cond b (Some x) (find p xs)) (cond (q y) (Some y) (find q ys)) in
    subst P (sym (h x y k.0)) (find_step R x y (find p xs) (find q ys) (q y) k.0 (find_pair R p q xs ys h k.1))

map_step : {A B C D : Type 0} (R : C → D → Type 0) (f : A → Option C) (g : B → Option D) (x : A) (y : B) (xs : List A) (ys : List B) (o : Option C) (u : Option D) → f x ≡ o → g y ≡ u → Alike R o u → Pairwise R (filter_map f xs) (filter_map g ys) → Pairwise R (filter_map f (x ∷ xs)) (filter_map g (y ∷ ys))
map_step R f g x y xs ys None None e i a p = rw e (rw i p)
map_step R f g x y xs ys None (Some d) e i a p = absurd a
map_step R f g x y xs ys (Some c) None e i a p = absurd a
map_step R f g x y xs ys (Some c) (Some d) e i a p = rw e (rw i (a, p))

filter_map_pair : {A B C D : Type 0} (Q : A → B → Type 0) (R : C → D → Type 0) (f : A → Option C) (g : B → Option D) (xs : List A) (ys : List B) → ((a : A) (b : B) → Q a b → Alike R (f a) (g b)) → Pairwise Q xs ys → Pairwise R (filter_map f xs) (filter_map g ys)
filter_map_pair Q R f g [] [] h k = tt
filter_map_pair Q R f g [] (y ∷ ys) h k = absurd k
filter_map_pair Q R f g (x ∷ xs) [] h k = absurd k
filter_map_pair Q R f g (x ∷ xs) (y ∷ ys) h k = map_step R f g x y xs ys (f x) (g y) refl refl (h x y k.0) (filter_map_pair Q R f g xs ys h k.1)

flat_map_pair : {A B C D : Type 0} (Q : A → B → Type 0) (R : C → D → Type 0) (f : A → List C) (g : B → List D) (xs : List A) (ys : List B) → ((a : A) (b : B) → Q a b → Pairwise R (f a) (g b)) → Pairwise Q xs ys → Pairwise R (flat_map f xs) (flat_map g ys)
flat_map_pair Q R f g [] [] h k = tt
flat_map_pair Q R f g [] (y ∷ ys) h k = absurd k
flat_map_pair Q R f g (x ∷ xs) [] h k = absurd k
flat_map_pair Q R f g (x ∷ xs) (y ∷ ys) h k = pairwise_append R (f x) (flat_map f xs) (g y) (flat_map g ys) (h x y k.0) (flat_map_pair Q R f g xs ys h k.1)

-- ---- paths

pub named_stand : (tree : List Element) (name : List ℕ) (n : ℕ) (m : Made) → Stands tree n m → Pairwise (Stands tree) (all_named tree name n) (filter (has_label name) (kids m))
named_stand tree name n m h = filter_pair (Stands tree) (is_called tree name) (has_label name) (element_in tree n).children (kids m) (called_is tree name) (children_stand tree n m h)

pub first_stands : (tree : List Element) (name : List ℕ) (n : ℕ) (m : Made) → Stands tree n m → Alike (Stands tree) (first_named tree name n) (find (has_label name) (kids m))
first_stands tree name n m h = find_pair (Stands tree) (is_called tree name) (has_label name) (element_in tree n).children (kids m) (called_is tree name) (children_stand tree n m h)

abbrev pub take_made : Step → List Made → List Made
take_made (each_child name) ms = flat_map (λ m. filter (has_label name) (kids m)) ms
take_made (first_child name) ms = filter_map (λ m. find (has_label name) (kids m)) ms

abbrev pub walk_made : Path → List Made → List Made
walk_made [] ms = ms
walk_made (s ∷ path) ms = walk_made path (take_made s ms)

step_stands : (tree : List Element) (s : Step) (es : List ℕ) (ms : List Made) → Pairwise (Stands tree) es ms → Pairwise (Stands tree) (take_step tree s es) (take_made s ms)
step_stands tree (each_child name) es ms h = flat_map_pair (Stands tree) (Stands tree) (all_named tree name) (λ m. filter (has_label name) (kids m)) es ms (named_stand tree name) h
step_stands tree (first_child name) es ms h = filter_map_pair (Stands tree) (Stands tree) (first_named tree name) (λ m. find (has_label name) (kids m)) es ms (first_stands tree name) h

pub walk_stands : (tree : List Element) (path : Path) (es : List ℕ) (ms : List Made) → Pairwise (Stands tree) es ms → Pairwise (Stands tree) (walk tree path es) (walk_made path ms)
walk_stands tree [] es ms h = h
walk_stands tree (s ∷ path) es ms h = walk_stands tree path (take_step tree s es) (take_made s ms) (step_stands tree s es ms h)

-- ---- the whole

pub whole_stands : (name : List ℕ) (attributes : List (List ℕ × List ℕ)) (ms : Mades) → Stands (tree_of (data_of (branch name attributes ms))) 0 (branch name attributes ms)
whole_stands name attributes ms = record { front = []; back = []; place = refl; whole = sym (append-nil _) }
