-- The items that nodes are compared by, return by return. Assumes nothing.
use mathlib.Core.Path.{◌≡◌, refl, sym, ap, ap₂, ◌∙◌}
use mathlib.Core.Logic.{◌⊎◌, ⊎_elim}
use Prim.Native.Nat.{ℕ, zero, suc, ◌+◌, ◌-◌, ◌*◌, ◌%◌, ◌≤◌, ◌<◌}
use native.Mathlib.Omega.{arith}
use mathlib.Core.List.{List, ◌∷◌, ◌++◌}
use lib.ListN.{length, get_or}
use Rattle.cells.specs.Part.{cell}
use Rattle.cells.specs.Sum.{Sum}
use Rattle.cells.proofs.Holding.{holds_at}
use Rattle.cells.proofs.Sums.{sum_most}
use Rattle.rules.specs.Table.{Attr, dyn_ids}
use Rattle.rules.specs.Types.{Node, field_words, encode, kind_of, members, node_at}
use Rattle.rules.specs.Order.{end, num, child, list_items, field_items, attr_items, contents}
use Rattle.rules.specs.Order as rules-order
use Rattle.laws.proofs.Rows.{attr_words_length, field_words_length, set_fields, set_optional, node_of, by_kind}
use Rattle.laws.proofs.Ordering.{list_items_lem, list_item, list_end, rest_items, set_items, set_length, by_turn, field_item}
use Rattle.laws.proofs.Ordering.{field_end, field_rest, rest_none, rest_dyn, rest_behind, plain_length}
use Rattle.lang_ty.specs.declared.arena.OutputTy.{OutputTy}
use Rattle.lang_ty.specs.declared.arena.OutputTy.TheVariants as kinds
use Rattle.lang_ty.specs.declared.arena.Pass.{Pass}
use Rattle.lang_ty.specs.declared.arc_ty.Item.{Item}
use Rattle.lang_ty.specs.declared.arc_ty.Item.TheVariants.{End, Num, Child}
use Rattle.lang_ty.specs.Nodes.{code, Arena, Word, Kind}
use Rattle.lang_ty.specs.Sets.{SetAt, open_from, Fields, Dyns, DynType, OpenPlace, Open, Optionals}
use Rattle.lang_ty.specs.Shapes.{SetPlace}
use Rattle.lang_ty.specs.Orders.{SetItems, SetRest, SetItem, PlainKind, PlainItems, PlainItem, Composite, ListItem, Items, ItemAt}
use Rattle.lang_ty.proofs.Codes.{other}
use Rattle.lang_ty.proofs.Words.{row_few, word_of}
use Rattle.lang_ty.proofs.Shapes.{set_of, set_at_lem}

-- among the fields and the rest
in_fields : (t : Attr) (i : ℕ) → get_or (attr_items t) i end ≡ get_or (field_items t.fields ++ rest_items t) i end
in_fields t i = ap (λ (l : List rules-order.Item). get_or l i end) (set_items t)

-- after the fields and their end
behind : (t : Attr) (i : ℕ) → get_or (attr_items t) (suc (2 * length t.fields) + i) end ≡ get_or (rest_items t) i end
behind t i =
    in_fields t (suc (2 * length t.fields) + i) ∙ field_rest t.fields (rest_items t) (suc (2 * length t.fields) + i) i refl

-- the optional keys and their end
optional_at : (t : Attr) (i j : ℕ) → i ≡ 2 + j → get_or (rest_items t) i end ≡ get_or (list_items num t.optional) j end
optional_at t i j e = rest_behind t.dyn (num t.is_open ∷ list_items num t.optional) i (suc j) (omega arith)

module _ {w : List ℕ} {a : ℕ} where
  pub set_items_is : {n m p o r : ℕ} → Fields w a n → Sum n n m → Sum m 4 p → Optionals w a o → Sum p o r → SetItems w a r
  set_items_is f one two g three =
      record {
        is = λ {t} s.
            let l = attr_words_length t in
            let z = s.fits in
            let x = f.is s in
            let y = g.is s in
            let u = one.is (omega arith) in
            let v = two.is (omega arith) in
            three.is (omega arith) ∙ omega (arith, set_length t);
      }

  module _ {i : ℕ} where
    pub rest_none_is : {d : ℕ} → i ≡ 0 → Dyns w a d → d ≡ 0 → SetRest w a i End
    rest_none_is e f g =
        record {
          is = λ {t} s lt.
              sym (behind t i ∙ ap (λ (j : ℕ). get_or (rest_items t) j end) e ∙ rest_none t.dyn (num t.is_open ∷ list_items num t.optional) (sym (f.is s) ∙ g));
        }

    pub rest_dyn_is : {d r : ℕ} → i ≡ 0 → Dyns w a d → (d ≡ 0 → ⊥) → DynType w a r → SetRest w a i (Child r)
    rest_dyn_is {d} e f g h =
        record {
          is = λ {t} s lt.
              let some : 0 < length (dyn_ids t.dyn) = let z = f.is s in let y : 0 < d = omega arith in omega arith in
              ap child (h.is s some)
              ∙ sym (behind t i ∙ ap (λ (j : ℕ). get_or (rest_items t) j end) e ∙ rest_dyn t.dyn (num t.is_open ∷ list_items num t.optional) some);
        }

    pub rest_open_is : {r : ℕ} → i ≡ 1 → Open w a r → SetRest w a i (Num r)
    rest_open_is e f =
        record {
          is = λ {t} s lt.
              ap num (f.is s) ∙ sym (behind t i ∙ rest_behind t.dyn (num t.is_open ∷ list_items num t.optional) i 0 (omega arith));
        }

    module _ {o b : ℕ} (zero' : i ≡ 0 → ⊥) (one' : i ≡ 1 → ⊥) (f : Optionals w a o) (sum : Sum o 2 b) where
      pub rest_optional_is : {p q r : ℕ} → i < b → OpenPlace w a p → q ≡ p + i → r ≡ cell w q → SetRest w a i (Num r)
      rest_optional_is {p} {q} few g e h =
          record {
            is = λ {t} s lt.
                let z = f.is s in
                let m = sum_most sum in
                let k : i ≡ 2 + (i - 2) = omega arith in
                let in_list : i - 2 < length t.optional = omega arith in
                let place : q ≡ open_from a t + 2 + (i - 2) = let y = g.is s in omega arith in
                ap num (h ∙ ap (cell w) place ∙ holds_at (set_optional t s.words) (i - 2) in_list)
                ∙ sym (behind t i ∙ optional_at t i (i - 2) k ∙ list_item num t.optional (i - 2) in_list);
          }

      pub rest_end_is : b ≤ i → SetRest w a i End
      rest_end_is many =
          record {
            is = λ {t} s lt.
                let z = f.is s in
                let l = attr_words_length t in
                let fits = s.fits in
                let m = sum.is (omega arith) in
                let k : i ≡ 2 + (i - 2) = omega arith in
                let last : i - 2 ≡ length t.optional = omega (arith, set_length t) in
                sym (behind t i ∙ optional_at t i (i - 2) k ∙ list_end num t.optional (i - 2) last);
          }

  module _ {n m : ℕ} (f : Fields w a n) (twice : Sum n n m) where
    -- the end of the fields stands at m
    ended : {t : Attr} → SetAt w a t → m ≡ 2 * length t.fields
    ended {t} s = let l = attr_words_length t in let z = f.is s in let fits = s.fits in twice.is (omega arith) ∙ omega arith

    module _ {i : ℕ} where
      pub set_end_is : i ≡ m → SetItem w a i End
      set_end_is e = record { is = λ {t} s lt. sym (in_fields t i ∙ field_end t.fields (rest_items t) i (e ∙ ended s)) }

      pub set_rest_is : {r : Item} → m < i → SetRest w a (i - m - 1) r → SetItem w a i r
      set_rest_is h g =
          record {
            is = λ {t} s lt.
                let z = ended s in
                let e : suc (2 * length t.fields) + (i - m - 1) ≡ i = omega arith in
                g.is s (omega arith) ∙ ap (λ (k : ℕ). get_or (attr_items t) k end) e;
          }

      module _ (other : i ≡ m → ⊥) (low : i ≤ m) {j p r : ℕ} (next : Sum i 1 j) (place : p ≡ a + j) (read : r ≡ cell w p) where
        field_word : {t : Attr} → SetAt w a t → r ≡ get_or (field_words t.fields) i 0
        field_word {t} s =
            let z = ended s in
            let l = attr_words_length t in
            let fits = s.fits in
            let e : p ≡ a + 1 + i = let y = next.is (omega arith) in omega arith in
            read ∙ ap (cell w) e ∙ holds_at (set_fields t s.words) i (omega (arith, field_words_length t.fields))

        field_turn : {t : Attr} → SetAt w a t → by_turn (i % 2) r ≡ get_or (attr_items t) i end
        field_turn {t} s =
            let z = ended s in
            ap (by_turn (i % 2)) (field_word s) ∙ sym (in_fields t i ∙ field_item t.fields (rest_items t) i (omega arith))

        pub set_key_is : i % 2 ≡ 0 → SetItem w a i (Num r)
        set_key_is e = record { is = λ {t} s lt. ap (λ (k : ℕ). by_turn k r) (sym e) ∙ field_turn s }

        pub set_type_is : (i % 2 ≡ 0 → ⊥) → SetItem w a i (Child r)
        set_type_is e = record { is = λ {t} s lt. odd (i % 2) e ∙ field_turn s } where
          odd : (k : ℕ) → (k ≡ 0 → ⊥) → child r ≡ by_turn k r
          odd zero h = absurd (h refl)
          odd (suc k) h = refl

-- unions and intersections
union_composite : (n : Node) → kind_of n ≡ 5 → Composite n
union_composite n e = by_kind n Composite 5 e (record { row = refl; items = refl })

intersection_composite : (n : Node) → kind_of n ≡ 6 → Composite n
intersection_composite n e = by_kind n Composite 6 e (record { row = refl; items = refl })

module _ {w : List ℕ} {x : ℕ} where
  many : {r : ℕ} {q : Pass} {ns : List Node} → Word w x 1 r → Arena w q ns → x < length ns → Composite (node_at ns x) → r ≡ length (members (node_at ns x))
  many a h lt c = word_of h a lt (let z = ap length c.row in omega arith) ∙ ap (λ (l : List ℕ). get_or l 1 0) c.row

  many_items : {n r : ℕ} {q : Pass} {ns : List Node} → Word w x 1 n → Sum n 1 r → Arena w q ns → x < length ns → Composite (node_at ns x) → r ≡ length (contents (node_at ns x))
  many_items {n} {r} {q} {ns} a sum h lt c =
      let m = many a h lt c in
      let z = ap length c.row in
      let y : r ≡ n + 1 = sum.is (omega (arith, row_few h x lt)) in
      omega (arith, ap length c.items, list_items_lem child (members (node_at ns x)))

  module _ {i n : ℕ} (count : Word w x 1 n) where
    pub list_child_is : {j r : ℕ} → i < n → Sum i 2 j → Word w x j r → ListItem w x i (Child r)
    list_child_is {j} few sum b =
        record {
          is = λ {q} {ns} h lt c in_list.
              let m = many count h lt c in
              let z = ap length c.row in
              let f : j ≡ suc (suc i) = sum.is (omega (arith, row_few h x lt)) ∙ omega arith in
              ap child (word_of h b lt (omega arith) ∙ ap₂ (λ (l : List ℕ) (k : ℕ). get_or l k 0) c.row f)
              ∙ sym (ap (λ (l : List rules-order.Item). get_or l i end) c.items ∙ list_item child (members (node_at ns x)) i (omega arith));
        }

    pub list_end_is : n ≤ i → ListItem w x i End
    list_end_is le =
        record {
          is = λ {q} {ns} h lt c in_list.
              let m = many count h lt c in
              let z = ap length c.items in
              sym (ap (λ (l : List rules-order.Item). get_or l i end) c.items ∙ list_end child (members (node_at ns x)) i (omega (arith, list_items_lem child (members (node_at ns x)))));
        }

  -- any node
  module _ {k : OutputTy} (kind : Kind w x (code k)) where
    set_contents : {q : Pass} {ns : List Node} → k ≡ kinds.AttrSet → Arena w q ns → x < length ns → attr_items (set_of ns x) ≡ contents (node_at ns x)
    set_contents {q} {ns} e h lt = ap contents (node_of (node_at ns x) 4 (sym (kind.is h lt) ∙ ap code e))

    pub items_set : {p r : ℕ} → k ≡ kinds.AttrSet → SetPlace w x p → SetItems w p r → Items w x r
    items_set e place f = record { is = λ {q} {ns} h lt. f.is (set_at_lem h lt (sym (kind.is h lt) ∙ ap code e) place) ∙ ap length (set_contents e h lt) }

    pub item_set : {i p : ℕ} {r : Item} → k ≡ kinds.AttrSet → SetPlace w x p → SetItem w p i r → ItemAt w x i r
    item_set {i} e place f =
        record {
          is = λ {q} {ns} h lt few.
              let z = ap length (set_contents e h lt) in
              f.is (set_at_lem h lt (sym (kind.is h lt) ∙ ap code e) place) (omega arith) ∙ ap (λ (l : List rules-order.Item). get_or l i end) (set_contents e h lt);
        }

    composite : {q : Pass} {ns : List Node} → (k ≡ kinds.Union) ⊎ (k ≡ kinds.Intersection) → Arena w q ns → x < length ns → Composite (node_at ns x)
    composite {q} {ns} e h lt =
        let z = sym (kind.is h lt) in
        ⊎_elim (λ u. union_composite (node_at ns x) (z ∙ ap code u)) (λ u. intersection_composite (node_at ns x) (z ∙ ap code u)) e

    pub items_list : {n r : ℕ} → (k ≡ kinds.Union) ⊎ (k ≡ kinds.Intersection) → Word w x 1 n → Sum n 1 r → Items w x r
    items_list e a sum = record { is = λ {q} {ns} h lt. many_items a sum h lt (composite e h lt) }

    pub item_list : {i : ℕ} {r : Item} → (k ≡ kinds.Union) ⊎ (k ≡ kinds.Intersection) → ListItem w x i r → ItemAt w x i r
    item_list e f = record { is = λ {q} {ns} h lt few. f.is h lt (composite e h lt) few }

    module _ (a : k ≡ kinds.AttrSet → ⊥) (b : k ≡ kinds.Union → ⊥) (c : k ≡ kinds.Intersection → ⊥) where
      plain : PlainKind (code k)
      plain = record { set = other kinds.AttrSet a; union = other kinds.Union b; intersection = other kinds.Intersection c }

      pub items_plain : {r : ℕ} → PlainItems (code k) r → Items w x r
      items_plain f = record { is = λ {q} {ns} h lt. f.is (node_at ns x) (sym (kind.is h lt)) plain }

      pub item_plain : {i j v : ℕ} {r : Item} → Sum i 1 j → Word w x j v → PlainItem (code k) i v r → ItemAt w x i r
      item_plain {i} {j} sum d f =
          record {
            is = λ {q} {ns} h lt few.
                let n = node_at ns x in
                let g = kind.is h lt in
                let l = plain_length n (λ z. plain.set (g ∙ z)) (λ z. plain.union (g ∙ z)) (λ z. plain.intersection (g ∙ z)) in
                let z : j ≡ suc i = sum.is (omega (arith, row_few h x lt)) ∙ omega arith in
                f.is n (sym g) plain few (word_of h d lt (omega arith) ∙ ap (λ (p : ℕ). get_or (encode n) p 0) z);
          }
