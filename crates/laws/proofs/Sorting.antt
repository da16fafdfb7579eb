-- The order of nodes is transitive, so insertion keeps a list in order, and two neighbours tell where a node goes in it. Assumes nothing.
use mathlib.Core.Path.{◌≡◌, refl, sym, ap, ◌∙◌}
use mathlib.Core.Bool.{Bool, true, false}
use Prim.Native.Nat.{ℕ, zero, suc, ◌≤◌, ◌<◌}
use native.Mathlib.Omega.{arith}
use native.Mathlib.Nat.{not-suc-le-zero}
use mathlib.Core.List.{List, [], ◌∷◌, ◌++◌}
use lib.ListN.{length, get_or, take, drop}
use lib.Dec.{eqb, ltb}
use borrow.Author.Tests.{ltb-true, ltb-false, eqb-true, eqb-false}
use Rattle.cells.specs.Part.{if}
use Rattle.cells.proofs.Choices.{by_branch, by_test, true_false}
use Rattle.rules.specs.Types.{Node, node_at}
use Rattle.rules.specs.Order.{Item, end, num, child, Order, less, equal, greater, items, compare_numbers, compare_item, then_by, compare_items, order, is_greater, insert, sort_into, sort}
use Rattle.laws.proofs.Ordering.{numbers_less, numbers_greater, order_same}

-- of three in a row: what the outer two compare as, by the first two and the last two
abbrev Follows : Order → Order → Order → Type 0
Follows less less r = r ≡ less
Follows less equal r = r ≡ less
Follows less greater r = Unit {0}
Follows equal q r = r ≡ q
Follows greater less r = Unit {0}
Follows greater equal r = r ≡ greater
Follows greater greater r = r ≡ greater

-- where one of the two decides alone
less_first : (q : Order) → Follows less q less
less_first less = refl
less_first equal = refl
less_first greater = tt

less_second : (p : Order) → Follows p less less
less_second less = refl
less_second equal = refl
less_second greater = tt

greater_first : (q : Order) → Follows greater q greater
greater_first less = tt
greater_first equal = refl
greater_first greater = refl

greater_second : (p : Order) → Follows p greater greater
greater_second less = tt
greater_second equal = refl
greater_second greater = refl

-- what holds of each outcome by what it says of the numbers
by_numbers : (P : Order → Type 0) (a b : ℕ) → (a < b → P less) → (a ≡ b → P equal) → (b < a → P greater) → P (compare_numbers a b)
by_numbers P a b l e g =
    by_test P (ltb a b) (λ _. less) (λ _. if (eqb a b) (λ _. equal) (λ _. greater)) (λ t. l (ltb-true a b t))
    (λ t. by_test P (eqb a b) (λ _. equal) (λ _. greater) (λ u. e (eqb-true a b u)) (λ u. g (omega (arith, ltb-false a b t, eqb-false a b u))))

numbers_follow : (a b c : ℕ) → Follows (compare_numbers a b) (compare_numbers b c) (compare_numbers a c)
numbers_follow a b c =
    by_numbers (λ (p : Order). Follows p (compare_numbers b c) (compare_numbers a c)) a b
    (λ l. by_numbers (λ (q : Order). Follows less q (compare_numbers a c)) b c (λ m. numbers_less a c (omega arith)) (λ m. numbers_less a c (omega arith)) (λ m. tt))
    (λ e. ap (λ (k : ℕ). compare_numbers k c) e)
    (λ g. by_numbers (λ (q : Order). Follows greater q (compare_numbers a c)) b c (λ m. tt) (λ m. numbers_greater a c (omega arith)) (λ m. numbers_greater a c (omega arith)))

-- the first difference decides
then_follow : (p q r s t u : Order) → Follows p q r → Follows s t u → Follows (then_by p (λ _. s)) (then_by q (λ _. t)) (then_by r (λ _. u))
then_follow less less r s t u h k = rw h
then_follow less equal r s t u h k = rw h (less_first t)
then_follow less greater r s t u h k = tt
then_follow equal less r s t u h k = rw h (less_second s)
then_follow equal equal r s t u h k = rw h k
then_follow equal greater r s t u h k = rw h (greater_second s)
then_follow greater less r s t u h k = tt
then_follow greater equal r s t u h k = rw h (greater_first t)
then_follow greater greater r s t u h k = rw h

module _ (o : ℕ → ℕ → Order) (h : (a b c : ℕ) → Follows (o a b) (o b c) (o a c)) where
  item_follow : (x y z : Item) → Follows (compare_item o x y) (compare_item o y z) (compare_item o x z)
  item_follow end end z = refl
  item_follow end (num b) end = tt
  item_follow end (num b) (num c) = less_first (compare_numbers b c)
  item_follow end (num b) (child c) = refl
  item_follow end (child b) end = tt
  item_follow end (child b) (num c) = tt
  item_follow end (child b) (child c) = less_first (o b c)
  item_follow (num a) end end = refl
  item_follow (num a) end (num c) = tt
  item_follow (num a) end (child c) = tt
  item_follow (num a) (num b) end = greater_second (compare_numbers a b)
  item_follow (num a) (num b) (num c) = numbers_follow a b c
  item_follow (num a) (num b) (child c) = less_second (compare_numbers a b)
  item_follow (num a) (child b) end = tt
  item_follow (num a) (child b) (num c) = tt
  item_follow (num a) (child b) (child c) = less_first (o b c)
  item_follow (child a) end end = refl
  item_follow (child a) end (num c) = tt
  item_follow (child a) end (child c) = tt
  item_follow (child a) (num b) end = refl
  item_follow (child a) (num b) (num c) = greater_first (compare_numbers b c)
  item_follow (child a) (num b) (child c) = tt
  item_follow (child a) (child b) end = greater_second (o a b)
  item_follow (child a) (child b) (num c) = greater_second (o a b)
  item_follow (child a) (child b) (child c) = h a b c

  items_follow : (xs ys zs : List Item) → Follows (compare_items o xs ys) (compare_items o ys zs) (compare_items o xs zs)
  items_follow [] [] zs = refl
  items_follow [] (y ∷ ys) [] = tt
  items_follow [] (y ∷ ys) (z ∷ zs) = less_first (compare_items o (y ∷ ys) (z ∷ zs))
  items_follow (x ∷ xs) [] [] = refl
  items_follow (x ∷ xs) [] (z ∷ zs) = tt
  items_follow (x ∷ xs) (y ∷ ys) [] = greater_second (compare_items o (x ∷ xs) (y ∷ ys))
  items_follow (x ∷ xs) (y ∷ ys) (z ∷ zs) =
      then_follow (compare_item o x y) (compare_item o y z) (compare_item o x z) (compare_items o xs ys) (compare_items o ys zs) (compare_items o xs zs) (item_follow x y z)
      (items_follow xs ys zs)

order_follow : (f : ℕ) (ns : List Node) (a b c : ℕ) → Follows (order f ns a b) (order f ns b c) (order f ns a c)
unfolding order
order_follow zero ns a b c = refl
order_follow (suc f) ns a b c = items_follow (order f ns) (order_follow f ns) (items (node_at ns a)) (items (node_at ns b)) (items (node_at ns c))

-- "not greater" is transitive
not_greater : (p q r : Order) → Follows p q r → is_greater p ≡ false → is_greater q ≡ false → is_greater r ≡ false
not_greater less less r h e f = ap is_greater h
not_greater less equal r h e f = ap is_greater h
not_greater less greater r h e f = true_false f
not_greater equal q r h e f = ap is_greater h ∙ f
not_greater greater q r h e f = true_false e

-- of two that are each equal to itself, only one is greater
not_back : (p q : Order) → Follows p q equal → is_greater p ≡ true → is_greater q ≡ false
not_back less q h e = true_false (sym e)
not_back equal q h e = true_false (sym e)
not_back greater less h e = refl
not_back greater equal h e = refl
not_back greater greater h e = true_false (sym (ap is_greater h))

module _ (ns : List Node) where
  -- node y comes after node x
  abbrev pub After : ℕ → ℕ → Bool
  After y x = is_greater (order (length ns) ns y x)

  after_through : (a b c : ℕ) → After a b ≡ false → After b c ≡ false → After a c ≡ false
  after_through a b c =
      not_greater (order (length ns) ns a b) (order (length ns) ns b c) (order (length ns) ns a c) (order_follow (length ns) ns a b c)

  after_back : (a b : ℕ) → After a b ≡ true → After b a ≡ false
  after_back a b =
      not_back (order (length ns) ns a b) (order (length ns) ns b a) (rw (order_same (length ns) ns a) at (order_follow (length ns) ns a b a))

  -- x is after none of them
  abbrev pub First : ℕ → List ℕ → Type 0
  First x [] = Unit {0}
  First x (y ∷ ys) = (After x y ≡ false) × First x ys

  -- each is after none of the later ones
  abbrev pub Sorted : List ℕ → Type 0
  Sorted [] = Unit {0}
  Sorted (y ∷ ys) = First y ys × Sorted ys

  -- insertion keeps the order
  first_through : (x y : ℕ) (ys : List ℕ) → After x y ≡ false → First y ys → First x ys
  first_through x y [] e f = tt
  first_through x y (z ∷ zs) e f = (after_through x y z e f.0, first_through x y zs e f.1)

  first_insert : (x y : ℕ) (ys : List ℕ) → After y x ≡ false → First y ys → First y (insert ns x ys)
  first_insert x y [] e f = (e, tt)
  first_insert x y (z ∷ zs) e f =
      by_branch (First y) (After z x) (λ _. x ∷ z ∷ zs) (λ _. z ∷ insert ns x zs) (e, f) (f.0, first_insert x y zs e f.1)

  insert_sorted : (x : ℕ) (ys : List ℕ) → Sorted ys → Sorted (insert ns x ys)
  insert_sorted x [] s = (tt, tt)
  insert_sorted x (y ∷ ys) s =
      by_test Sorted (After y x) (λ _. x ∷ y ∷ ys) (λ _. y ∷ insert ns x ys)
      (λ e. let f = after_back y x e in ((f, first_through x y ys f s.0), s))
      (λ e. (first_insert x y ys e s.0, insert_sorted x ys s.1))

  into_sorted : (got xs : List ℕ) → Sorted got → Sorted (sort_into ns got xs)
  into_sorted got [] s = s
  into_sorted got (x ∷ xs) s = into_sorted (insert ns x got) xs (insert_sorted x got s)

  pub sort_sorted : (xs : List ℕ) → Sorted (sort ns xs)
  unfolding sort
  sort_sorted xs = into_sorted [] xs tt

  first_at : (x : ℕ) (ys : List ℕ) (i : ℕ) → First x ys → i < length ys → After x (get_or ys i 0) ≡ false
  first_at x [] i f lt = absurd (not-suc-le-zero lt)
  first_at x (y ∷ ys) zero f lt = f.0
  first_at x (y ∷ ys) (suc i) f lt = first_at x ys i f.1 (omega arith)

  -- x goes to place r where what stands ahead of r is not after it, and what stands at r is
  pub insert_at : (x : ℕ) (ys : List ℕ) (r : ℕ) → Sorted ys → r ≤ length ys → ((i : ℕ) → suc i ≡ r → After (get_or ys i 0) x ≡ false)
      → (r < length ys → After (get_or ys r 0) x ≡ true) → insert ns x ys ≡ take r ys ++ (x ∷ drop r ys)
  insert_at x [] zero s le low high = refl
  insert_at x [] (suc r) s le low high = absurd (not-suc-le-zero le)
  insert_at x (y ∷ ys) zero s le low high = rw (high (omega arith))
  insert_at x (y ∷ ys) (suc r) s le low high =
      rw (ahead r (omega arith) (low r refl), insert_at x ys r s.1 (omega arith) (λ i e. low (suc i) (ap suc e)) (λ lt. high (omega arith))) where
        ahead : (r : ℕ) → r < length (y ∷ ys) → After (get_or (y ∷ ys) r 0) x ≡ false → After y x ≡ false
        ahead zero lt e = e
        ahead (suc r) lt e = after_through y (get_or ys r 0) x (first_at y ys r s.0 (omega arith)) e
