-- Laws of the order of nodes: a node is equal to itself, and more levels than needed change nothing. Of the items that nodes are compared
-- by: which stands where. Assumes nothing.
use mathlib.Core.Path.{◌≡◌, refl, sym, ap, ap₂, ◌∙◌}
use mathlib.Core.Bool.{Bool}
use Prim.Native.Nat.{ℕ, zero, suc, ◌+◌, ◌*◌, ◌%◌, ◌≤◌, ◌<◌}
use native.Mathlib.Omega.{arith}
use native.Mathlib.Nat.{not-suc-le-zero, add-mod_left}
use mathlib.Core.List.{List, [], ◌∷◌, ◌++◌, append_assoc}
use lib.ListN.{length, get_or, length-append}
use lib.Seq.{get_or-append-add}
use lib.Dec.{eqb}
use borrow.Author.Tests.{lt-ltb, le-ltb, eq-eqb, ne_eqb}
use Rattle.cells.specs.Part.{if}
use Rattle.rules.specs.Table.{Field, Attr, field_types, dyn_ids}
use Rattle.rules.specs.Types.{Node, TyVar, Primitive, ListOf, Lambda, AttrSet, Union, Intersection, Named, Neg, Bottom, Top, field_words, encode, kind_of, children, node_at}
use Rattle.rules.specs.Order.{Item, end, num, child, Order, less, equal, greater, list_items, field_items, dyn_items, attr_items, contents, items, compare_numbers, compare_item, then_by, compare_items, order}
use Rattle.laws.proofs.Rows.{by_kind}
use Rattle.laws.proofs.Storing.{Rooted}
use Rattle.cells.specs.Placed.{Under}
use mathlib.Core.Option.{Option, none, some}

-- two numbers
pub numbers_less : (a b : ℕ) → a < b → compare_numbers a b ≡ less
numbers_less a b h = ap (λ (t : Bool). if t (λ _. less) (λ _. if (eqb a b) (λ _. equal) (λ _. greater))) (lt-ltb a b h)

pub numbers_equal : (a b : ℕ) → a ≡ b → compare_numbers a b ≡ equal
numbers_equal a b h =
    ap₂ (λ (t u : Bool). if t (λ _. less) (λ _. if u (λ _. equal) (λ _. greater))) (le-ltb a b (omega arith)) (eq-eqb a b h)

pub numbers_greater : (a b : ℕ) → b < a → compare_numbers a b ≡ greater
numbers_greater a b h =
    ap₂ (λ (t u : Bool). if t (λ _. less) (λ _. if u (λ _. equal) (λ _. greater))) (le-ltb a b (omega arith)) (ne_eqb a b (λ e. omega arith))

-- what is alike is equal
item_same : (o : ℕ → ℕ → Order) → ((x : ℕ) → o x x ≡ equal) → (x : Item) → compare_item o x x ≡ equal
item_same o h end = refl
item_same o h (num a) = numbers_equal a a refl
item_same o h (child a) = h a

items_same : (o : ℕ → ℕ → Order) → ((x : ℕ) → o x x ≡ equal) → (xs : List Item) → compare_items o xs xs ≡ equal
items_same o h [] = refl
items_same o h (x ∷ xs) = ap (λ (r : Order). then_by r (λ _. compare_items o xs xs)) (item_same o h x) ∙ items_same o h xs

pub order_same : (f : ℕ) (ns : List Node) (a : ℕ) → order f ns a a ≡ equal
unfolding order
order_same zero ns a = refl
order_same (suc f) ns a = items_same (order f ns) (order_same f ns) (items (node_at ns a))

-- the children among items are below k
abbrev pub UnderItem : ℕ → Item → Type 0
UnderItem k end = Unit {0}
UnderItem k (num a) = Unit {0}
UnderItem k (child a) = a < k

abbrev pub UnderItems : ℕ → List Item → Type 0
UnderItems k [] = Unit {0}
UnderItems k (x ∷ xs) = UnderItem k x × UnderItems k xs

module _ (k : ℕ) where
  pub under_item : (xs : List Item) (i : ℕ) → UnderItems k xs → i < length xs → UnderItem k (get_or xs i end)
  under_item [] i u lt = absurd (not-suc-le-zero lt)
  under_item (x ∷ xs) zero u lt = u.0
  under_item (x ∷ xs) (suc i) u lt = under_item xs i u.1 (omega arith)

  under_both : (xs ys : List Item) → UnderItems k xs → UnderItems k ys → UnderItems k (xs ++ ys)
  under_both [] ys u v = v
  under_both (x ∷ xs) ys u v = (u.0, under_both xs ys u.1 v)

  under_children : (ms : List ℕ) → Under k ms → UnderItems k (list_items child ms)
  under_children [] u = (tt, tt)
  under_children (m ∷ ms) u = (u.0, under_children ms u.1)

  under_numbers : (xs : List ℕ) → UnderItems k (list_items num xs)
  under_numbers [] = (tt, tt)
  under_numbers (x ∷ xs) = (tt, under_numbers xs)

  under_dyn : (d : Option ℕ) → Under k (dyn_ids d) → UnderItems k (dyn_items d)
  under_dyn none u = (tt, tt)
  under_dyn (some d) u = (u.0, tt)

  -- of a set: its fields' types, then its dyn
  under_set : (fs : List Field) (d : Option ℕ) → Under k (field_types fs ++ dyn_ids d) → UnderItems k (field_items fs ++ dyn_items d)
  under_set [] d u = (tt, under_dyn d u)
  under_set (f ∷ fs) d u = (tt, (u.0, under_set fs d u.1))

  pub under_contents : (n : Node) → Under k (children n) → UnderItems k (contents n)
  under_contents (TyVar x) u = (tt, tt)
  under_contents (Primitive c) u = (tt, tt)
  under_contents (ListOf a) u = u
  under_contents (Lambda a b) u = u
  under_contents (AttrSet t) u =
      under_both (field_items t.fields ++ dyn_items t.dyn) (num t.is_open ∷ list_items num t.optional) (under_set t.fields t.dyn u) (tt, under_numbers t.optional)
  under_contents (Union ms) u = under_children ms u
  under_contents (Intersection ms) u = under_children ms u
  under_contents (Named m a) u = (tt, u)
  under_contents (Neg a) u = u
  under_contents Bottom u = tt
  under_contents Top u = tt

-- two comparisons of children that say the same of what is below
module _ (o p : ℕ → ℕ → Order) (k l : ℕ) (h : (x y : ℕ) → x < k → y < l → o x y ≡ p x y) where
  item_alike : (x y : Item) → UnderItem k x → UnderItem l y → compare_item o x y ≡ compare_item p x y
  item_alike end end u v = refl
  item_alike end (num b) u v = refl
  item_alike end (child b) u v = refl
  item_alike (num a) end u v = refl
  item_alike (num a) (num b) u v = refl
  item_alike (num a) (child b) u v = refl
  item_alike (child a) end u v = refl
  item_alike (child a) (num b) u v = refl
  item_alike (child a) (child b) u v = h a b u v

  items_alike : (xs ys : List Item) → UnderItems k xs → UnderItems l ys → compare_items o xs ys ≡ compare_items p xs ys
  items_alike [] [] u v = refl
  items_alike [] (y ∷ ys) u v = refl
  items_alike (x ∷ xs) [] u v = refl
  items_alike (x ∷ xs) (y ∷ ys) u v =
      ap₂ (λ (r s : Order). then_by r (λ _. s)) (item_alike x y u.0 v.0) (items_alike xs ys u.1 v.1)

module _ (ns : List Node) (r : Rooted ns) where
  under_items : (a : ℕ) → a < length ns → UnderItems a (items (node_at ns a))
  under_items a lt = (tt, under_contents a (node_at ns a) (r.is a lt))

  -- one level more than needed
  order_more : (f a b : ℕ) → a < f → b < f → a < length ns → b < length ns → order f ns a b ≡ order (suc f) ns a b
  unfolding order
  order_more zero a b la lb ha hb = absurd (not-suc-le-zero la)
  order_more (suc f) a b la lb ha hb =
      items_alike (order f ns) (order (suc f) ns) a b
      (λ x y lx ly. order_more f x y (omega arith) (omega arith) (omega arith) (omega arith))
      (items (node_at ns a)) (items (node_at ns b)) (under_items a ha) (under_items b hb)

  -- nodes are compared by their items, children by this same order
  pub order_items : (a b : ℕ) → a < length ns → b < length ns → order (length ns) ns a b ≡ compare_items (order (length ns) ns) (items (node_at ns a)) (items (node_at ns b))
  unfolding order
  order_items a b la lb = order_more (length ns) a b la lb la lb

-- the items of a list, and its end
pub list_items_lem : (f : ℕ → Item) (xs : List ℕ) → length (list_items f xs) ≡ suc (length xs)
list_items_lem f [] = refl
list_items_lem f (x ∷ xs) = ap suc (list_items_lem f xs)

pub list_item : (f : ℕ → Item) (xs : List ℕ) (i : ℕ) → i < length xs → get_or (list_items f xs) i end ≡ f (get_or xs i 0)
list_item f [] i lt = absurd (not-suc-le-zero lt)
list_item f (x ∷ xs) zero lt = refl
list_item f (x ∷ xs) (suc i) lt = list_item f xs i (omega arith)

pub list_end : (f : ℕ → Item) (xs : List ℕ) (i : ℕ) → i ≡ length xs → get_or (list_items f xs) i end ≡ end
list_end f [] zero e = refl
list_end f [] (suc i) e = refl
list_end f (x ∷ xs) zero e = absurd (omega arith)
list_end f (x ∷ xs) (suc i) e = list_end f xs i (omega arith)

-- the items of a set: those of its fields, in turn key and type, then their end, then the rest
abbrev pub rest_items : Attr → List Item
rest_items t = dyn_items t.dyn ++ (num t.is_open ∷ list_items num t.optional)

pub set_items : (t : Attr) → attr_items t ≡ field_items t.fields ++ rest_items t
set_items t = append_assoc (field_items t.fields) (dyn_items t.dyn) (num t.is_open ∷ list_items num t.optional)

field_items_lem : (fs : List Field) → length (field_items fs) ≡ suc (2 * length fs)
field_items_lem [] = refl
field_items_lem (f ∷ fs) = let e = field_items_lem fs in omega arith

abbrev pub by_turn : ℕ → ℕ → Item
by_turn zero w = num w
by_turn (suc k) w = child w

pub field_item : (fs : List Field) (rest : List Item) (i : ℕ) → i < 2 * length fs → get_or (field_items fs ++ rest) i end ≡ by_turn (i % 2) (get_or (field_words fs) i 0)
field_item [] rest i lt = absurd (omega arith)
field_item (f ∷ fs) rest zero lt = refl
field_item (f ∷ fs) rest (suc zero) lt = refl
field_item (f ∷ fs) rest (suc (suc i)) lt =
    let e : 2 + i ≡ suc (suc i) = omega arith in
    field_item fs rest i (omega arith) ∙ ap (λ (k : ℕ). by_turn k (get_or (field_words fs) i 0)) (sym (add-mod_left 2 i) ∙ ap (λ (k : ℕ). k % 2) e)

pub field_end : (fs : List Field) (rest : List Item) (i : ℕ) → i ≡ 2 * length fs → get_or (field_items fs ++ rest) i end ≡ end
field_end [] rest zero e = refl
field_end [] rest (suc i) e = absurd (omega arith)
field_end (f ∷ fs) rest zero e = absurd (omega arith)
field_end (f ∷ fs) rest (suc zero) e = absurd (omega arith)
field_end (f ∷ fs) rest (suc (suc i)) e = field_end fs rest i (omega arith)

pub field_rest : (fs : List Field) (rest : List Item) (i j : ℕ) → i ≡ suc (2 * length fs) + j → get_or (field_items fs ++ rest) i end ≡ get_or rest j end
field_rest fs rest i j e =
    let z : i ≡ length (field_items fs) + j = omega (arith, field_items_lem fs) in
    ap (λ (k : ℕ). get_or (field_items fs ++ rest) k end) z ∙ get_or-append-add (field_items fs) rest j end

-- the rest: the dyn or an end, the open flag, the optional keys and their end
dyn_items_lem : (d : Option ℕ) → length (dyn_items d) ≡ 1
dyn_items_lem none = refl
dyn_items_lem (some d) = refl

rest_items_lem : (t : Attr) → length (rest_items t) ≡ 3 + length t.optional
rest_items_lem t =
    omega (arith, length-append (dyn_items t.dyn) (num t.is_open ∷ list_items num t.optional), dyn_items_lem t.dyn, list_items_lem num t.optional)

pub rest_none : (d : Option ℕ) (xs : List Item) → length (dyn_ids d) ≡ 0 → get_or (dyn_items d ++ xs) 0 end ≡ end
rest_none none xs e = refl
rest_none (some d) xs e = absurd (omega arith)

pub rest_dyn : (d : Option ℕ) (xs : List Item) → 0 < length (dyn_ids d) → get_or (dyn_items d ++ xs) 0 end ≡ child (get_or (dyn_ids d) 0 0)
rest_dyn none xs h = absurd (not-suc-le-zero h)
rest_dyn (some d) xs h = refl

pub rest_behind : (d : Option ℕ) (xs : List Item) (i j : ℕ) → i ≡ 1 + j → get_or (dyn_items d ++ xs) i end ≡ get_or xs j end
rest_behind d xs i j e =
    let z : i ≡ length (dyn_items d) + j = omega (arith, dyn_items_lem d) in
    ap (λ (k : ℕ). get_or (dyn_items d ++ xs) k end) z ∙ get_or-append-add (dyn_items d) xs j end

pub set_length : (t : Attr) → length (attr_items t) ≡ 4 + 2 * length t.fields + length t.optional
set_length t = omega (arith, ap length (set_items t), length-append (field_items t.fields) (rest_items t), field_items_lem t.fields, rest_items_lem t)

-- nodes of a plain kind, neither a set nor a list of members: their contents are their words
pub plain_length : (n : Node) → (kind_of n ≡ 4 → ⊥) → (kind_of n ≡ 5 → ⊥) → (kind_of n ≡ 6 → ⊥) → length (encode n) ≡ suc (length (contents n))
plain_length (TyVar x) a b c = refl
plain_length (Primitive x) a b c = refl
plain_length (ListOf x) a b c = refl
plain_length (Lambda x y) a b c = refl
plain_length (AttrSet t) a b c = absurd (a refl)
plain_length (Union ms) a b c = absurd (b refl)
plain_length (Intersection ms) a b c = absurd (c refl)
plain_length (Named m x) a b c = refl
plain_length (Neg x) a b c = refl
plain_length Bottom a b c = refl
plain_length Top a b c = refl

-- a sole number or child, and two children
one_item : (f : ℕ → Item) (x i : ℕ) → i < 1 → get_or (f x ∷ []) i end ≡ f (get_or (x ∷ []) i 0)
one_item f x zero lt = refl
one_item f x (suc i) lt = absurd (omega arith)

pub number_item : (n : Node) (i : ℕ) → kind_of n < 2 → i < length (contents n) → get_or (contents n) i end ≡ num (get_or (encode n) (suc i) 0)
number_item (TyVar x) i h lt = one_item num x i lt
number_item (Primitive x) i h lt = one_item num x i lt
number_item (ListOf x) i h lt = absurd (omega arith)
number_item (Lambda x y) i h lt = absurd (omega arith)
number_item (AttrSet t) i h lt = absurd (omega arith)
number_item (Union ms) i h lt = absurd (omega arith)
number_item (Intersection ms) i h lt = absurd (omega arith)
number_item (Named m x) i h lt = absurd (omega arith)
number_item (Neg x) i h lt = absurd (omega arith)
number_item Bottom i h lt = absurd (omega arith)
number_item Top i h lt = absurd (omega arith)

-- a Named's name, and then its type
pub name_item : (n : Node) → kind_of n ≡ 7 → get_or (contents n) 0 end ≡ num (get_or (encode n) 1 0)
name_item n e = by_kind n (λ (m : Node). get_or (contents m) 0 end ≡ num (get_or (encode m) 1 0)) 7 e refl

children_pair : (x y i : ℕ) → i < 2 → get_or (child x ∷ child y ∷ []) i end ≡ child (get_or (x ∷ y ∷ []) i 0)
children_pair x y zero lt = refl
children_pair x y (suc i) lt = one_item child y i (omega arith)

-- any other child
pub child_item : (n : Node) (i : ℕ) → 2 ≤ kind_of n → (kind_of n ≡ 4 → ⊥) → (kind_of n ≡ 5 → ⊥) → (kind_of n ≡ 6 → ⊥) → (kind_of n ≡ 7 → i ≡ 0 → ⊥) → i < length (contents n)
    → get_or (contents n) i end ≡ child (get_or (encode n) (suc i) 0)
child_item (TyVar x) i h a b c d lt = absurd (omega arith)
child_item (Primitive x) i h a b c d lt = absurd (omega arith)
child_item (ListOf x) i h a b c d lt = one_item child x i lt
child_item (Lambda x y) i h a b c d lt = children_pair x y i lt
child_item (AttrSet t) i h a b c d lt = absurd (a refl)
child_item (Union ms) i h a b c d lt = absurd (b refl)
child_item (Intersection ms) i h a b c d lt = absurd (c refl)
child_item (Named m x) zero h a b c d lt = absurd (d refl refl)
child_item (Named m x) (suc i) h a b c d lt = one_item child x i (omega arith)
child_item (Neg x) i h a b c d lt = one_item child x i lt
child_item Bottom i h a b c d lt = absurd (not-suc-le-zero lt)
child_item Top i h a b c d lt = absurd (not-suc-le-zero lt)

-- how many contents a node of a plain kind has, but for a lambda and a Named
pub one_content : (n : Node) → (kind_of n ≡ 3 → ⊥) → (kind_of n ≡ 4 → ⊥) → (kind_of n ≡ 5 → ⊥) → (kind_of n ≡ 6 → ⊥) → (kind_of n ≡ 7 → ⊥) → kind_of n < 9 → length (contents n) ≡ 1
one_content (TyVar x) z a b c d h = refl
one_content (Primitive x) z a b c d h = refl
one_content (ListOf x) z a b c d h = refl
one_content (Lambda x y) z a b c d h = absurd (z refl)
one_content (AttrSet t) z a b c d h = absurd (a refl)
one_content (Union ms) z a b c d h = absurd (b refl)
one_content (Intersection ms) z a b c d h = absurd (c refl)
one_content (Named m x) z a b c d h = absurd (d refl)
one_content (Neg x) z a b c d h = refl
one_content Bottom z a b c d h = absurd (omega arith)
one_content Top z a b c d h = absurd (omega arith)

pub no_content : (n : Node) → 9 ≤ kind_of n → contents n ≡ []
no_content (TyVar x) h = absurd (omega arith)
no_content (Primitive x) h = absurd (omega arith)
no_content (ListOf x) h = absurd (omega arith)
no_content (Lambda x y) h = absurd (omega arith)
no_content (AttrSet t) h = absurd (omega arith)
no_content (Union ms) h = absurd (omega arith)
no_content (Intersection ms) h = absurd (omega arith)
no_content (Named m x) h = absurd (omega arith)
no_content (Neg x) h = absurd (omega arith)
no_content Bottom h = refl
no_content Top h = refl
