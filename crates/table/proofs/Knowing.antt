-- Ids and name numbers in range: rows, entries, roots. Assumes nothing.
use mathlib.Core.Path.{◌≡◌, refl, sym, ap, ap₂, ◌∙◌, subst}
use mathlib.Core.Bool.{Bool, true, false}
use Prim.Native.Nat.{ℕ, suc, ◌+◌, ◌-◌, ◌≤◌, ◌<◌}
use native.Mathlib.Omega.{arith}
use native.Mathlib.Numerals.{add-one}
use mathlib.Core.List.{List, [], ◌∷◌, ◌++◌, append-nil}
use lib.ListN.{drop}
use lib.Dec.{ltb}
use Rattle.cells.specs.Part.{run, cell, part, if}
use Rattle.cells.proofs.Choices.{if_self}
use Rattle.rules.specs.Plain.{both}
use Rattle.rules.specs.Table.{Entry, var, attr_at, attr_kids, field_types, field_keys, dyn_ids, entry_of, kids, all_below, in_range, Result, accepted, refused, known}
use Rattle.text.specs.Reads.{span}
use mathlib.Core.Logic.{◌⊎◌, inl, inr}
use Rattle.table.specs.declared.Table.{Table}
use Rattle.table.specs.declared.kinds.Kind.{Kind}
use Rattle.table.specs.declared.kinds.Kind.TheVariants.{List as ListOf, Fn, Neg, Inter, Union, Frozen, Other}
use Rattle.table.specs.declared.rows.Places.{Places}
use Rattle.std.specs.Prelude.{Ok, Err}
use Rattle.rules.specs.declared.Refusal.TheVariants.{Range}
use Rattle.table.specs.Rows.{begin_at, Begin, At, every, Below, PlacedIn, Placed, VarKnown, SetKnown, KeysKnown, NamedKnown, Unnamed, KindOf, EntryKnown, row_at, bare}
use Rattle.table.specs.Rows.{EntriesKnown, RootsKnown}
use Rattle.table.proofs.Entries.{part_every, entry_by, by_kind, poor, set_keys, set_types, set_optional, set_dyn}

both_if : (b x : Bool) (a c : Bool) → a ≡ both c (λ _. x) → if b (λ _. a) (λ _. false) ≡ both (if b (λ _. c) (λ _. false)) (λ _. x)
both_if true x a c h = h
both_if false x a c h = refl

below_append : (n : ℕ) (xs ys : List ℕ) → all_below n (xs ++ ys) ≡ both (all_below n xs) (λ _. all_below n ys)
below_append n [] ys = refl
below_append n (x ∷ xs) ys = both_if (ltb x n) (all_below n ys) (all_below n (xs ++ ys)) (all_below n xs) (below_append n xs ys)

-- a variable's bounds
var_split : (row : List ℕ) (n a b : ℕ) → a ≡ cell row 1 → b ≡ cell row (2 + a)
    → all_below n (kids (var (part row 2 (cell row 1)) (part row (3 + cell row 1) (cell row (2 + cell row 1)))))
    ≡ both (all_below n (every row 1 2 a)) (λ _. all_below n (every row 1 (3 + a) b))
var_split row n a b e f =
    below_append n (part row 2 (cell row 1)) (part row (3 + cell row 1) (cell row (2 + cell row 1)))
    ∙ ap₂ {C = Bool} (λ (l m : List ℕ). both (all_below n l) (λ _. all_below n m))
    (ap (part row 2) (sym e) ∙ part_every row 2 a)
    (ap₂ {C = List ℕ} (λ (x y : ℕ). part row (3 + x) y) (sym e) (ap (λ (x : ℕ). cell row (2 + x)) (sym e) ∙ sym f) ∙ part_every row (3 + a) b)

module _ {w : List ℕ} {from to n a : ℕ} {b : Bool} (x : At w from to 1 a) (y : Below w from to 2 1 a n b) where
  pub var_no : b ≡ false → VarKnown w from to n false
  var_no h = record {
    is = sym
        (var_split (span w from to) n a (cell (span w from to) (2 + a)) x.is refl
        ∙ ap (λ (z : Bool). both z (λ _. all_below n (every (span w from to) 1 (3 + a) (cell (span w from to) (2 + a))))) (sym y.is ∙ h));
  }

  pub var_yes : {c : ℕ} {d : Bool} → b ≡ true → At w from to (2 + a) c → Below w from to (3 + a) 1 c n d → VarKnown w from to n d
  var_yes {c} h u v = record {
    is = v.is ∙ sym (var_split (span w from to) n a c x.is u.is
        ∙ ap (λ (z : Bool). both z (λ _. all_below n (every (span w from to) 1 (3 + a) c))) (sym y.is ∙ h));
  }

-- a set's children, and its keys
module _ (row : List ℕ) (p : Places) (q : PlacedIn row p) (n : ℕ) where
  kids_split : all_below n (attr_kids (attr_at row 1)) ≡ both (all_below n (every row 2 3 p.fields)) (λ _. all_below n (every row 1 (p.dynamic + 1) p.held))
  kids_split =
      below_append n (field_types (attr_at row 1).fields) (dyn_ids (attr_at row 1).dyn)
      ∙ ap₂ {C = Bool} (λ (l m : List ℕ). both (all_below n l) (λ _. all_below n m)) (set_types row p q) (set_dyn row p q)

  keys_split : all_below n (field_keys (attr_at row 1).fields ++ (attr_at row 1).optional) ≡ both (all_below n (every row 2 2 p.fields)) (λ _. all_below n (every row 1 (p.opens + 2) p.optional))
  keys_split =
      below_append n (field_keys (attr_at row 1).fields) (attr_at row 1).optional
      ∙ ap₂ {C = Bool} (λ (l m : List ℕ). both (all_below n l) (λ _. all_below n m)) (set_keys row p q) (set_optional row p q)

module _ {w : List ℕ} {from to n : ℕ} {p : Places} {b : Bool} (q : Placed w from to p) where
  module _ (y : Below w from to 3 2 p.fields n b) where
    pub set_no : b ≡ false → SetKnown w from to n b
    set_no h = record { is = h ∙ sym (kids_split (span w from to) p q.is n ∙ ap (λ (z : Bool). both z (λ _. all_below n (every (span w from to) 1 (p.dynamic + 1) p.held))) (sym y.is ∙ h)) }

    pub set_yes : {d : Bool} → b ≡ true → Below w from to (p.dynamic + 1) 1 p.held n d → SetKnown w from to n d
    set_yes h v = record {
      is = v.is
          ∙ sym (kids_split (span w from to) p q.is n
          ∙ ap (λ (z : Bool). both z (λ _. all_below n (every (span w from to) 1 (p.dynamic + 1) p.held))) (sym y.is ∙ h));
    }

  module _ (y : Below w from to 2 2 p.fields n b) where
    pub keyset_no : b ≡ false → KeysKnown w from to n b
    keyset_no h = record { is = h ∙ sym (keys_split (span w from to) p q.is n ∙ ap (λ (z : Bool). both z (λ _. all_below n (every (span w from to) 1 (p.opens + 2) p.optional))) (sym y.is ∙ h)) }

    pub keyset_yes : {d : Bool} → b ≡ true → Below w from to (p.opens + 2) 1 p.optional n d → KeysKnown w from to n d
    keyset_yes h v = record {
      is = v.is ∙ sym (keys_split (span w from to) p q.is n
          ∙ ap (λ (z : Bool). both z (λ _. all_below n (every (span w from to) 1 (p.opens + 2) p.optional))) (sym y.is ∙ h));
    }

module _ {w : List ℕ} {from to n names : ℕ} {b : Bool} (y : Below w from to 2 1 1 n b) where
  pub named_no : b ≡ false → NamedKnown w from to n names b
  named_no h = record { is = h ∙ ap (λ (z : Bool). both z (λ _. all_below names (cell (span w from to) 1 ∷ []))) (sym h ∙ y.is) }

  pub named_yes : {d : Bool} → b ≡ true → Below w from to 1 1 1 names d → NamedKnown w from to n names d
  named_yes h v = record { is = v.is ∙ ap (λ (z : Bool). both z (λ _. all_below names (cell (span w from to) 1 ∷ []))) (sym h ∙ y.is) }

-- an entry
set_range : (w : List ℕ) (from to n names kind : ℕ) (b : Bool) → At w from to 0 kind → kind ≡ 7 → SetKnown w from to n b → (c : Bool) → b ≡ c
    → in_range n names (entry_of (span w from to))
    ≡ both c (λ _. all_below names (field_keys (attr_at (span w from to) 1).fields ++ (attr_at (span w from to) 1).optional))
set_range w from to n names kind b k e x c h =
    ap (in_range n names) (by_kind (span w from to) 7 (sym e ∙ k.is))
    ∙ ap₂ {C = Bool} (λ (u : Bool) (l : List ℕ). both u (λ _. all_below names l)) (sym x.is ∙ h) (append-nil (field_keys (attr_at (span w from to) 1).fields ++ (attr_at (span w from to) 1).optional))

module _ {w : List ℕ} {from to n names kind : ℕ} {b : Bool} (k : At w from to 0 kind) where
  pub entry_var : kind ≡ 2 → VarKnown w from to n b → EntryKnown w from to n names b
  entry_var e h = record {
    is =
        h.is
        ∙ sym (if_self (all_below n (kids (entry_by 2 (span w from to)))))
        ∙ ap (in_range n names) (sym (by_kind (span w from to) 2 (sym e ∙ k.is)));
  }

  at_kind : (j : ℕ) → kind ≡ j → b ≡ in_range n names (entry_by j (span w from to)) → EntryKnown w from to n names b
  at_kind j e h = record { is = h ∙ ap (in_range n names) (sym (by_kind (span w from to) j (sym e ∙ k.is))) }

  pub entry_named : kind ≡ 9 → NamedKnown w from to n names b → EntryKnown w from to n names b
  entry_named e h = at_kind 9 e h.is

  module _ {x : Kind} (o : KindOf kind x) where
    pub entry_one : (x ≡ ListOf) ⊎ (x ≡ Neg) → Below w from to 1 1 1 n b → EntryKnown w from to n names b
    entry_one (inl e) h = let j : KindOf kind ListOf = subst (KindOf kind) e o in at_kind 5 j.is (h.is ∙ sym (if_self (all_below n (cell (span w from to) 1 ∷ []))))
    entry_one (inr e) h = let j : KindOf kind Neg = subst (KindOf kind) e o in at_kind 8 j.is (h.is ∙ sym (if_self (all_below n (cell (span w from to) 1 ∷ []))))

    pub entry_two : (x ≡ Fn) ⊎ ((x ≡ Inter) ⊎ (x ≡ Union)) → Below w from to 1 1 2 n b → EntryKnown w from to n names b
    entry_two (inl e) h =
        let j : KindOf kind Fn = subst (KindOf kind) e o in at_kind 6 j.is (h.is ∙ sym (if_self (all_below n (cell (span w from to) 1 ∷ cell (span w from to) 2 ∷ []))))
    entry_two (inr (inl e)) h =
        let j : KindOf kind Inter = subst (KindOf kind) e o in at_kind 10 j.is (h.is ∙ sym (if_self (all_below n (cell (span w from to) 1 ∷ cell (span w from to) 2 ∷ []))))
    entry_two (inr (inr e)) h =
        let j : KindOf kind Union = subst (KindOf kind) e o in at_kind 11 j.is (h.is ∙ sym (if_self (all_below n (cell (span w from to) 1 ∷ cell (span w from to) 2 ∷ []))))

  module _ (e : kind ≡ 7) (x : SetKnown w from to n b) where
    pub entry_set : {d : Bool} → b ≡ true → KeysKnown w from to names d → EntryKnown w from to n names d
    entry_set h y = record { is = y.is ∙ sym (set_range w from to n names kind b k e x true h) }

    pub entry_set_no : b ≡ false → EntryKnown w from to n names b
    entry_set_no h = record { is = h ∙ sym (set_range w from to n names kind b k e x false h) }

module _ {w : List ℕ} {from to n names kind : ℕ} (k : At w from to 0 kind) {x : Kind} (o : KindOf kind x) where
  pub entry_none : (x ≡ Frozen) ⊎ (x ≡ Other) → EntryKnown w from to n names true
  entry_none (inl e) = let j : KindOf kind Frozen = subst (KindOf kind) e o in at_kind {n = n} {names = names} k 12 j.is refl
  entry_none (inr e) =
      let j : KindOf kind Other = subst (KindOf kind) e o in
      let h : Unnamed kind = j.is in
      record {
        is =
            poor (λ (z : Entry). true ≡ in_range n names z) kind (span w from to) refl refl refl h.no_var h.no_list h.no_fn h.no_set h.no_neg h.no_named h.no_inter h.no_union
            ∙ ap (in_range n names) (sym (by_kind (span w from to) kind k.is));
      }

-- rows tested one by one
known_none : (P : List ℕ → Bool) (w : List ℕ) (k a m : ℕ) → m ≡ 0 → known P k (run (row_at w) a m) ≡ accepted tt
known_none P w k a m e = ap (λ (n : ℕ). known P k (run (row_at w) a n)) e

known_next : (P : List ℕ → Bool) (w : List ℕ) (k a m n : ℕ) (b : Bool) → m ≡ suc n → b ≡ P (row_at w a) → known P k (run (row_at w) a m)
    ≡ if b (λ _. known P (k + 1) (run (row_at w) (a + 1) n)) (λ _. refused 3 k)
known_next P w k a m n b e h =
    ap (λ (n : ℕ). known P k (run (row_at w) a n)) e
    ∙ ap₂ {C = Result (Unit {0})} (λ (i j : ℕ). if (P (row_at w a)) (λ _. known P i (run (row_at w) j n)) (λ _. refused 3 k)) (sym (add-one k)) (sym (add-one a))
    ∙ ap (λ (c : Bool). if c (λ _. known P (k + 1) (run (row_at w) (a + 1) n)) (λ _. refused 3 k)) (sym h)

-- the entries from i on
abbrev pub entry_test : Table → List ℕ → Bool
entry_test t row = in_range t.entries t.names (entry_of row)

pub record Entries (w : List ℕ) (t : Table) (i : ℕ) : Type 0 where
  pub is : known (entry_test t) (2 + t.names + i) (run (row_at w) (1 + t.names + i) (t.entries - i)) ≡ known (entry_test t) (2 + t.names) (run (row_at w) (1 + t.names) t.entries)

pub entries_start : {w : List ℕ} {t : Table} → Entries w t 0
entries_start {w} {t} =
    let a : 2 + t.names + 0 ≡ 2 + t.names = omega arith in
    let b : 1 + t.names + 0 ≡ 1 + t.names = omega arith in
    let c : t.entries - 0 ≡ t.entries = omega arith in
    record {
      is = ap (λ (k : ℕ). known (entry_test t) k (run (row_at w) (1 + t.names + 0) (t.entries - 0))) a
          ∙ ap₂ {C = Result (Unit {0})} (λ (x y : ℕ). known (entry_test t) (2 + t.names) (run (row_at w) x y)) b c;
    }

module _ {w : List ℕ} {t : Table} {i : ℕ} (inv : Entries w t i) where
  pub entries_done : t.entries ≤ i → EntriesKnown w t (Ok tt)
  entries_done h = record { is = sym (known_none (entry_test t) w (2 + t.names + i) (1 + t.names + i) (t.entries - i) (omega arith)) ∙ inv.is }

  module _ {a e : ℕ} {b : Bool} (lt : i < t.entries) (f : Begin w (1 + t.names + i) a) (g : Begin w (2 + t.names + i) e) (h : EntryKnown w a e t.entries t.names b) where
    turn : (c : Bool) → b ≡ c
        → if c (λ _. known (entry_test t) (2 + t.names + i + 1) (run (row_at w) (1 + t.names + i + 1) (t.entries - (i + 1))))
        (λ _. refused 3 (2 + t.names + i)) ≡ known (entry_test t) (2 + t.names) (run (row_at w) (1 + t.names) t.entries)
    turn c q =
        let z : 2 + t.names + i ≡ 1 + t.names + i + 1 = omega arith in
        sym (known_next (entry_test t) w (2 + t.names + i) (1 + t.names + i) (t.entries - i) (t.entries - (i + 1)) c (omega arith)
        (sym q ∙ h.is ∙ ap₂ {C = Bool} (λ (x y : ℕ). entry_test t (span w x y)) f.is (g.is ∙ ap (begin_at w) z)))
        ∙ inv.is

    pub entries_no : b ≡ false → EntriesKnown w t (Err (record { refusal = Range; line = 2 + t.names + i }))
    entries_no q = record { is = turn false q }

    pub entries_more : b ≡ true → Entries w t (i + 1)
    entries_more q =
        let x : 2 + t.names + (i + 1) ≡ 2 + t.names + i + 1 = omega arith in
        let y : 1 + t.names + (i + 1) ≡ 1 + t.names + i + 1 = omega arith in
        record { is = ap₂ {C = Result (Unit {0})} (λ (k j : ℕ). known (entry_test t) k (run (row_at w) j (t.entries - (i + 1)))) x y ∙ turn true q }

-- the roots from i on
abbrev pub root_test : Table → List ℕ → Bool
root_test t row = ltb (cell row 0) t.entries

abbrev pub root_row : Table → ℕ
root_row t = 1 + t.names + t.entries + t.pairs + t.marks

known_if : (b : Bool) (x y z : Result (Unit {0})) → x ≡ y → if b (λ _. x) (λ _. z) ≡ if b (λ _. y) (λ _. z)
known_if true x y z h = h
known_if false x y z h = refl

known_bare : (P : List ℕ → Bool) (k : ℕ) (rs : List (List ℕ)) → known P k (bare rs) ≡ known (λ (row : List ℕ). P (drop 1 row)) k rs
known_bare P k [] = refl
known_bare P k (r ∷ rs) = known_if (P (drop 1 r)) (known P (suc k) (bare rs)) (known (λ (row : List ℕ). P (drop 1 row)) (suc k) rs) (refused 3 k) (known_bare P (suc k) rs)

abbrev whole_test : Table → List ℕ → Bool
whole_test t row = root_test t (drop 1 row)

pub second : (row : List ℕ) → cell (drop 1 row) 0 ≡ cell row 1
second [] = refl
second (x ∷ row) = refl

root_tested : (t : Table) (row : List ℕ) → all_below t.entries (cell row 1 ∷ []) ≡ whole_test t row
root_tested t row = if_self (ltb (cell row 1) t.entries) ∙ ap (λ (x : ℕ). ltb x t.entries) (sym (second row))

pub record Roots (w : List ℕ) (t : Table) (i : ℕ) : Type 0 where
  pub is : known (whole_test t) (root_row t + i + 1) (run (row_at w) (root_row t + i) (t.roots - i))
      ≡ known (root_test t) (2 + t.names + t.entries + t.pairs + t.marks) (bare (run (row_at w) (root_row t) t.roots))

pub roots_start : {w : List ℕ} {t : Table} → Roots w t 0
roots_start {w} {t} =
    let a : root_row t + 0 + 1 ≡ 2 + t.names + t.entries + t.pairs + t.marks = omega arith in
    let b : root_row t + 0 ≡ root_row t = omega arith in
    let c : t.roots - 0 ≡ t.roots = omega arith in
    record {
      is =
          ap (λ (k : ℕ). known (whole_test t) k (run (row_at w) (root_row t + 0) (t.roots - 0))) a
          ∙ ap₂ {C = Result (Unit {0})} (λ (x y : ℕ). known (whole_test t) (2 + t.names + t.entries + t.pairs + t.marks) (run (row_at w) x y)) b c
          ∙ sym (known_bare (root_test t) (2 + t.names + t.entries + t.pairs + t.marks) (run (row_at w) (root_row t) t.roots));
    }

module _ {w : List ℕ} {t : Table} {i : ℕ} (inv : Roots w t i) where
  pub roots_done : t.roots ≤ i → RootsKnown w t (Ok tt)
  roots_done h = record { is = sym (known_none (whole_test t) w (root_row t + i + 1) (root_row t + i) (t.roots - i) (omega arith)) ∙ inv.is }

  module _ {a e : ℕ} {b : Bool} (lt : i < t.roots) (f : Begin w (root_row t + i) a) (g : Begin w (root_row t + i + 1) e) (h : Below w a e 1 1 1 t.entries b) where
    turn2 : (c : Bool) → b ≡ c
        → if c (λ _. known (whole_test t) (root_row t + i + 1 + 1) (run (row_at w) (root_row t + i + 1) (t.roots - (i + 1)))) (λ _. refused 3 (root_row t + i + 1))
        ≡ known (root_test t) (2 + t.names + t.entries + t.pairs + t.marks) (bare (run (row_at w) (root_row t) t.roots))
    turn2 c q =
        sym (known_next (whole_test t) w (root_row t + i + 1) (root_row t + i) (t.roots - i) (t.roots - (i + 1)) c (omega arith)
        (sym q ∙ h.is ∙ root_tested t (span w a e) ∙ ap₂ {C = Bool} (λ (x y : ℕ). whole_test t (span w x y)) f.is g.is))
        ∙ inv.is

    pub roots_no : b ≡ false → RootsKnown w t (Err (record { refusal = Range; line = root_row t + i + 1 }))
    roots_no q = record { is = turn2 false q }

    pub roots_more : b ≡ true → Roots w t (i + 1)
    roots_more q =
        let x : root_row t + (i + 1) + 1 ≡ root_row t + i + 1 + 1 = omega arith in
        let y : root_row t + (i + 1) ≡ root_row t + i + 1 = omega arith in
        record { is = ap₂ {C = Result (Unit {0})} (λ (k j : ℕ). known (whole_test t) k (run (row_at w) j (t.roots - (i + 1)))) x y ∙ turn2 true q }
