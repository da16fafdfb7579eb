-- The order of two nodes, item by item. Assumes nothing.
use mathlib.Core.Path.{◌≡◌, refl, sym, ap, ap₂, ◌∙◌, subst}
use mathlib.Core.Logic.{◌⊎◌, ⊎_elim}
use Prim.Native.Nat.{ℕ, suc, ◌+◌, ◌-◌, ◌≤◌, ◌<◌}
use native.Mathlib.Omega.{arith}
use native.Mathlib.Nat.{eq-zero-or-pos}
use native.Mathlib.Numerals.{add-one}
use mathlib.Core.List.{List, []}
use lib.ListN.{length, get_or, drop, drop_of_length-le}
use lib.Seq.{drop-cons}
use Rattle.rules.specs.Types.{Node, node_at}
use Rattle.rules.specs.Order.{end, less, equal, greater, contents, compare_numbers, compare_item, compare_items, then_by, order}
use Rattle.rules.specs.Order as rules-order
use Rattle.laws.proofs.Ordering.{numbers_less, numbers_equal, numbers_greater, order_same, order_items, UnderItem, under_item, under_contents}
use Rattle.lang_ty.specs.declared.arena.Pass.{Pass}
use Rattle.lang_ty.specs.declared.arc_ty.Item.{Item}
use Rattle.lang_ty.specs.declared.arc_ty.Item.TheVariants.{End, Num, Child}
use Rattle.std.specs.declared.cmp.Ordering.{Ordering}
use Rattle.std.specs.declared.cmp.Ordering.TheVariants.{Less, Equal, Greater}
use Rattle.lang_ty.specs.Nodes.{Arena, Kind}
use Rattle.lang_ty.specs.Sets.{Least}
use Rattle.lang_ty.specs.Orders.{item_of, order_of, Numbers, Items, ItemAt, Plainly, ComparedAt, Compared}

-- item i of two nodes
module _ {w : List ℕ} {a b i : ℕ} {x y : Item} (first : ItemAt w a i x) (second : ItemAt w b i y) where
  by_items : {p q : Item} {r : Ordering} → x ≡ p → y ≡ q
      → ((o : ℕ → ℕ → rules-order.Order) → order_of r ≡ compare_item o (item_of p) (item_of q)) → ComparedAt w a b i r
  by_items e f g =
      record {
        is = λ {q} {ns} h la lb ia ib.
            g (order (length ns) ns)
            ∙ ap₂ (compare_item (order (length ns) ns)) (sym (ap item_of e) ∙ first.is h la ia) (sym (ap item_of f) ∙ second.is h lb ib);
      }

  pub at_end_lem : {r : Ordering} → x ≡ End → Plainly x y r → ComparedAt w a b i r
  at_end_lem e g = by_items refl refl (λ o. g.is o (λ k f. let z : ◌≡◌ {A = ℕ} 0 1 = cc in omega arith))

  pub at_num : {k : ℕ} {r : Ordering} → x ≡ Num k → Plainly x y r → ComparedAt w a b i r
  at_num e g = by_items refl refl (λ o. g.is o (λ j f. let z : ◌≡◌ {A = ℕ} 0 1 = cc in omega arith))

  pub at_child_end : {k : ℕ} → x ≡ Child k → y ≡ End → ComparedAt w a b i Greater
  at_child_end e f = by_items e f (λ o. refl)

  pub at_child_num : {k l : ℕ} → x ≡ Child k → y ≡ Num l → ComparedAt w a b i Greater
  at_child_num e f = by_items e f (λ o. refl)

  module _ {k l : ℕ} (e : x ≡ Child k) (f : y ≡ Child l) where
    -- a child is below its node
    first_below : {q : Pass} {ns : List Node} → Arena w q ns → a < length ns → i < length (contents (node_at ns a)) → k < a
    first_below {q} {ns} h la ia =
        subst (UnderItem a) (sym (first.is h la ia) ∙ ap item_of e) (under_item a (contents (node_at ns a)) i (under_contents a (node_at ns a) (h.below a la)) ia)

    second_below : {q : Pass} {ns : List Node} → Arena w q ns → b < length ns → i < length (contents (node_at ns b)) → l < b
    second_below {q} {ns} h lb ib =
        subst (UnderItem b) (sym (second.is h lb ib) ∙ ap item_of f) (under_item b (contents (node_at ns b)) i (under_contents b (node_at ns b) (h.below b lb)) ib)

    children_by : {q : Pass} {ns : List Node} (r : Ordering) → Arena w q ns → a < length ns → b < length ns → i < length (contents (node_at ns a)) → i < length (contents (node_at ns b))
        → order_of r ≡ order (length ns) ns k l → order_of r ≡ compare_item (order (length ns) ns) (get_or (contents (node_at ns a)) i end) (get_or (contents (node_at ns b)) i end)
    children_by {q} {ns} r h la lb ia ib g =
        g ∙ ap₂ (compare_item (order (length ns) ns)) (sym (ap item_of e) ∙ first.is h la ia) (sym (ap item_of f) ∙ second.is h lb ib)

    pub at_same : k ≡ l → ComparedAt w a b i Equal
    at_same g =
        record {
          is = λ {q} {ns} h la lb ia ib.
              children_by Equal h la lb ia ib (sym (order_same (length ns) ns k) ∙ ap (order (length ns) ns k) g);
        }

    pub at_never : a ≤ k → ComparedAt w a b i Equal
    at_never g = record { is = λ h la lb ia ib. let z = first_below h la ia in absurd (omega arith) }

    pub at_deeper : {r : Ordering} → Compared w k l r → ComparedAt w a b i r
    at_deeper {r} g =
        record {
          is = λ {q} {ns} h la lb ia ib.
              let y = first_below h la ia in
              let z = second_below h lb ib in
              children_by r h la lb ia ib (g.is h (omega arith) (omega arith));
        }

-- a difference decides
decided : (r : Ordering) (f : Unit {0} → rules-order.Order) → (r ≡ Equal → ⊥) → order_of r ≡ then_by (order_of r) f
decided Less f h = refl
decided Equal f h = absurd (h refl)
decided Greater f h = refl

-- nodes of different kinds, and of one kind
module _ {w : List ℕ} {a b j k : ℕ} (first : Kind w a j) (second : Kind w b k) where
  by_kinds : {q : Pass} {ns : List Node} → Arena w q ns → a < length ns → b < length ns
      → order (length ns) ns a b ≡ then_by (compare_numbers j k) (λ _. compare_items (order (length ns) ns) (contents (node_at ns a)) (contents (node_at ns b)))
  by_kinds {q} {ns} h la lb =
      order_items ns (record { is = h.below }) a b la lb
      ∙ ap₂ (λ (x y : ℕ). then_by (compare_numbers x y) (λ _. compare_items (order (length ns) ns) (contents (node_at ns a)) (contents (node_at ns b)))) (sym (first.is h la)) (sym (second.is h lb))

  unequal : (r : Ordering) → (j ≡ k → ⊥) → Numbers j k r → r ≡ Equal → ⊥
  unequal r h g e =
      ⊎_elim
      (λ (z : k - j ≡ 0). let y = sym (ap order_of e) ∙ g.is ∙ numbers_greater j k (omega arith) in let x : ◌≡◌ {A = ℕ} 0 1 = cc in omega arith)
      (λ (z : 0 < k - j). let y = sym (ap order_of e) ∙ g.is ∙ numbers_less j k (omega arith) in let x : ◌≡◌ {A = ℕ} 0 1 = cc in omega arith)
      (eq-zero-or-pos (k - j))

  pub kinds_decide : {r : Ordering} → (j ≡ k → ⊥) → Numbers j k r → Compared w a b r
  kinds_decide {r} h g =
      record {
        is = λ {q} {ns} arena la lb.
            let rest = compare_items (order (length ns) ns) (contents (node_at ns a)) (contents (node_at ns b)) in
            decided r (λ _. rest) (unequal r h g) ∙ ap (λ (x : rules-order.Order). then_by x (λ _. rest)) g.is ∙ sym (by_kinds arena la lb);
      }

  by_contents : {q : Pass} {ns : List Node} → j ≡ k → Arena w q ns → a < length ns → b < length ns
      → order (length ns) ns a b ≡ compare_items (order (length ns) ns) (contents (node_at ns a)) (contents (node_at ns b))
  by_contents {q} {ns} e h la lb =
      by_kinds h la lb
      ∙ ap (λ (x : rules-order.Order). then_by x (λ _. compare_items (order (length ns) ns) (contents (node_at ns a)) (contents (node_at ns b)))) (numbers_equal j k e)

-- where one list of items is at its end
module _ (o : ℕ → ℕ → rules-order.Order) (xs ys : List rules-order.Item) (i : ℕ) where
  gone : (zs : List rules-order.Item) → length zs ≤ i → drop i zs ≡ []
  gone zs h = drop_of_length-le zs {i = i} h

  ends_equal : length xs ≤ i → length ys ≤ i → compare_items o (drop i xs) (drop i ys) ≡ equal
  ends_equal h k = ap₂ (compare_items o) (gone xs h) (gone ys k)

  ends_less : length xs ≤ i → i < length ys → compare_items o (drop i xs) (drop i ys) ≡ less
  ends_less h k = ap₂ (compare_items o) (gone xs h) (drop-cons ys i end k)

  ends_greater : i < length xs → length ys ≤ i → compare_items o (drop i xs) (drop i ys) ≡ greater
  ends_greater h k = ap₂ (compare_items o) (drop-cons xs i end h) (gone ys k)

  -- i is the length of the shorter
  ends : {n m : ℕ} → n ≡ length xs → m ≡ length ys → i ≤ n → i ≤ m → (i ≡ n) ⊎ (i ≡ m) → compare_items o (drop i xs) (drop i ys) ≡ compare_numbers n m
  ends {n} {m} e f h k =
      ⊎_elim
      (λ (z : i ≡ n). ⊎_elim
      (λ (y : m - n ≡ 0). ends_equal (omega arith) (omega arith) ∙ sym (numbers_equal n m (omega arith)))
      (λ (y : 0 < m - n). ends_less (omega arith) (omega arith) ∙ sym (numbers_less n m (omega arith)))
      (eq-zero-or-pos (m - n)))
      (λ (z : i ≡ m). ⊎_elim
      (λ (y : n - m ≡ 0). ends_equal (omega arith) (omega arith) ∙ sym (numbers_equal n m (omega arith)))
      (λ (y : 0 < n - m). ends_greater (omega arith) (omega arith) ∙ sym (numbers_greater n m (omega arith)))
      (eq-zero-or-pos (n - m)))

-- `compare` at item i: what is left to compare says what the whole says
pub record Ordered (w : List ℕ) (a b l i : ℕ) : Type 0 where
  pub few : i ≤ l
  pub is : {q : Pass} {ns : List Node} → Arena w q ns → a < length ns → b < length ns
      → compare_items (order (length ns) ns) (drop i (contents (node_at ns a))) (drop i (contents (node_at ns b)))
      ≡ compare_items (order (length ns) ns) (contents (node_at ns a)) (contents (node_at ns b))

module _ {w : List ℕ} {a b l : ℕ} where
  pub ordered_start : Ordered w a b l 0
  ordered_start = record { few = omega arith; is = λ h la lb. refl }

  module _ {n m i : ℕ} (first : Items w a n) (second : Items w b m) (least : Least n m l) (c : Ordered w a b l i) where
    turn : {q : Pass} {ns : List Node} (r : Ordering) → i < l → ComparedAt w a b i r → Arena w q ns → a < length ns → b < length ns
        → then_by (order_of r) (λ _. compare_items (order (length ns) ns) (drop (suc i) (contents (node_at ns a))) (drop (suc i) (contents (node_at ns b))))
        ≡ compare_items (order (length ns) ns) (contents (node_at ns a)) (contents (node_at ns b))
    turn {q} {ns} r lt g h la lb =
        let o = order (length ns) ns in
        let xs = contents (node_at ns a) in
        let ys = contents (node_at ns b) in
        let x = first.is h la in
        let y = second.is h lb in
        let ia : i < length xs = omega (arith, least.first) in
        let ib : i < length ys = omega (arith, least.second) in
        ap (λ (z : rules-order.Order). then_by z (λ _. compare_items o (drop (suc i) xs) (drop (suc i) ys))) (g.is h la lb ia ib)
        ∙ sym (ap₂ (compare_items o) (drop-cons xs i end ia) (drop-cons ys i end ib))
        ∙ c.is h la lb

    pub ordered_more : {r : Ordering} → i < l → ComparedAt w a b i r → r ≡ Equal → Ordered w a b l (i + 1)
    ordered_more {r} lt g e =
        record {
          few = omega arith;
          is = λ {q} {ns} h la lb.
              let o = order (length ns) ns in
              let xs = contents (node_at ns a) in
              let ys = contents (node_at ns b) in
              ap (λ (k : ℕ). compare_items o (drop k xs) (drop k ys)) (add-one i)
              ∙ sym (ap (λ (z : Ordering). then_by (order_of z) (λ _. compare_items o (drop (suc i) xs) (drop (suc i) ys))) e)
              ∙ turn r lt g h la lb;
        }

    module _ {j k : ℕ} (one : Kind w a j) (two : Kind w b k) (alike : j ≡ k) where
      pub ordered_decided : {r : Ordering} → i < l → ComparedAt w a b i r → (r ≡ Equal → ⊥) → Compared w a b r
      ordered_decided {r} lt g e =
          record {
            is = λ {q} {ns} h la lb.
                decided r (λ _. compare_items (order (length ns) ns) (drop (suc i) (contents (node_at ns a))) (drop (suc i) (contents (node_at ns b)))) e
                ∙ turn r lt g h la lb
                ∙ sym (by_contents one two alike h la lb);
          }

      pub ordered_done : {r : Ordering} → l ≤ i → Numbers n m r → Compared w a b r
      ordered_done le g =
          let few = c.few in
          let z : l ≡ i = omega arith in
          let f = least.first in
          let f' = least.second in
          record {
            is = λ {q} {ns} h la lb.
                g.is
                ∙ sym (ends (order (length ns) ns) (contents (node_at ns a)) (contents (node_at ns b)) i (first.is h la) (second.is h lb) (omega arith)
                (omega arith) (subst (λ (x : ℕ). (x ≡ n) ⊎ (x ≡ m)) z least.one))
                ∙ c.is h la lb
                ∙ sym (by_contents one two alike h la lb);
          }
