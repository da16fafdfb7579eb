-- Entries by their rows: how many ids and keys they have, and whether their keys ascend. Assumes nothing.
use mathlib.Core.Path.{◌≡◌, refl, sym, ap, ap₂, ◌∙◌, subst}
use mathlib.Core.Bool.{Bool, true, false, not}
use Prim.Native.Nat.{ℕ, zero, suc, ◌+◌, ◌*◌, ◌≤◌, ◌<◌, min}
use native.Mathlib.Omega.{arith}
use native.Mathlib.Numerals.{add-one}
use mathlib.Core.List.{List, ◌∷◌}
use lib.ListN.{length, length-append}
use lib.Dec.{eqb}
use borrow.Author.Tests.{eq-eqb, ne_eqb, eqb-true, eqb-false}
use denote.Enum.Bare.{sameb}
use Rattle.table.specs.contracts.kinds.Kind.{the_type}
use Rattle.table.specs.declared.kinds.Kind.{Kind}
use Rattle.table.specs.declared.kinds.Kind.TheVariants.{Var, List as ListOf, Fn, Set, Neg, Named, Inter, Union, Frozen, Other}
use Rattle.cells.specs.Part.{cell, part, if}
use Rattle.cells.proofs.Parts.{run_length}
use Rattle.rules.specs.Plain.{both, ascending}
use Rattle.rules.specs.Table.{Entry, var, prim, tyvar, list, fn, set, neg, named, inter, union, frozen, attr_at, entry_of, fields_at, dyn_ids, dyn_place, open_place}
use Rattle.rules.specs.Table.{field_types, field_keys, as_set, keys_ascend, weight}
use Rattle.text.specs.Reads.{span}
use Rattle.table.specs.declared.rows.Places.{Places}
use Rattle.table.specs.Rows.{At, every, Ascend, Present, PlacedIn, Placed, Unnamed, KindOf, Weight, KeysAscend}
use mathlib.Core.Option.{none, some}
use mathlib.Core.Logic.{◌⊎◌, inl, inr}

-- the lists of a row, cell by cell
keys_every : (row : List ℕ) (a n : ℕ) → field_keys (fields_at row a n) ≡ every row 2 a n
keys_every row a zero = refl
keys_every row a (suc n) = ap (λ (l : List ℕ). cell row a ∷ l) (keys_every row (a + 2) n)

types_every : (row : List ℕ) (a b n : ℕ) → b ≡ a + 1 → field_types (fields_at row a n) ≡ every row 2 b n
types_every row a b zero e = refl
types_every row a b (suc n) e = ap₂ {C = List ℕ} (λ (x : ℕ) (l : List ℕ). x ∷ l) (ap (cell row) (sym e)) (types_every row (a + 2) (b + 2) n (omega arith))

pub part_every : (row : List ℕ) (a n : ℕ) → part row a n ≡ every row 1 a n
part_every row a zero = refl
part_every row a (suc n) = ap (λ (l : List ℕ). cell row a ∷ l) (ap (λ (k : ℕ). part row k n) (sym (add-one a)) ∙ part_every row (a + 1) n)

every_length : (row : List ℕ) (step a n : ℕ) → length (every row step a n) ≡ n
every_length row step a zero = refl
every_length row step a (suc n) = ap suc (every_length row step (a + step) n)

-- the entry of a row of kind k
abbrev pub entry_by : ℕ → List ℕ → Entry
entry_by k row =
    if (eqb k 2) (λ _. var (part row 2 (cell row 1)) (part row (3 + cell row 1) (cell row (2 + cell row 1))))
    (λ _. if (eqb k 3) (λ _. prim (cell row 1))
    (λ _. if (eqb k 4) (λ _. tyvar (cell row 1))
    (λ _. if (eqb k 5) (λ _. list (cell row 1))
    (λ _. if (eqb k 6) (λ _. fn (cell row 1) (cell row 2))
    (λ _. if (eqb k 7) (λ _. set (attr_at row 1))
    (λ _. if (eqb k 8) (λ _. neg (cell row 1))
    (λ _. if (eqb k 9) (λ _. named (cell row 1) (cell row 2))
    (λ _. if (eqb k 10) (λ _. inter (cell row 1) (cell row 2))
    (λ _. if (eqb k 11) (λ _. union (cell row 1) (cell row 2))
    (λ _. frozen))))))))))

pub by_kind : (row : List ℕ) (k : ℕ) → k ≡ cell row 0 → entry_of row ≡ entry_by k row
unfolding entry_of
by_kind row k e = ap (λ (j : ℕ). entry_by j row) (sym e)

-- one of the kinds without ids and keys
pub poor : (P : Entry → Type 0) (k : ℕ) (row : List ℕ) → P (prim (cell row 1)) → P (tyvar (cell row 1)) → P frozen → (k ≡ 2 → ⊥) → (k ≡ 5 → ⊥) → (k ≡ 6 → ⊥)
    → (k ≡ 7 → ⊥) → (k ≡ 8 → ⊥) → (k ≡ 9 → ⊥) → (k ≡ 10 → ⊥) → (k ≡ 11 → ⊥) → P (entry_by k row)
poor P k row p t f a b c d e g h i =
    simp (ne_eqb k 2 a, ne_eqb k 5 b, ne_eqb k 6 c, ne_eqb k 7 d, ne_eqb k 8 e, ne_eqb k 9 g, ne_eqb k 10 h, ne_eqb k 11 i) (pick (eqb k 3) (eqb k 4))
  where
    pick : (x y : Bool) → P (if x (λ _. prim (cell row 1)) (λ _. if y (λ _. tyvar (cell row 1)) (λ _. frozen)))
    pick true y = p
    pick false true = t
    pick false false = f

-- the code's tests of a kind
pub is_set : (k : Kind) {n : ℕ} → KindOf n k → sameb the_type k Set ≡ eqb n 7
is_set Var {n} h = let e = h.is in sym (ne_eqb n 7 (λ q. omega arith))
is_set ListOf {n} h = let e = h.is in sym (ne_eqb n 7 (λ q. omega arith))
is_set Fn {n} h = let e = h.is in sym (ne_eqb n 7 (λ q. omega arith))
is_set Set {n} h = sym (eq-eqb n 7 h.is)
is_set Neg {n} h = let e = h.is in sym (ne_eqb n 7 (λ q. omega arith))
is_set Named {n} h = let e = h.is in sym (ne_eqb n 7 (λ q. omega arith))
is_set Inter {n} h = let e = h.is in sym (ne_eqb n 7 (λ q. omega arith))
is_set Union {n} h = let e = h.is in sym (ne_eqb n 7 (λ q. omega arith))
is_set Frozen {n} h = let e = h.is in sym (ne_eqb n 7 (λ q. omega arith))
is_set Other {n} h = sym (ne_eqb n 7 h.is.no_set)

pub set_of : {b : Bool} {n : ℕ} → b ≡ eqb n 7 → not b ≡ false → n ≡ 7
set_of {b = true} {n} e h = eqb-true n 7 (sym e)
set_of {b = false} e h = cc

pub no_set_of : {b : Bool} {n : ℕ} → b ≡ eqb n 7 → not b ≡ true → n ≡ 7 → ⊥
no_set_of {b = false} {n} e h = eqb-false n 7 (sym e)
no_set_of {b = true} e h = cc

pub is_frozen : (k : Kind) {n : ℕ} → KindOf n k → sameb the_type k Frozen ≡ eqb n 12
is_frozen Var {n} h = let e = h.is in sym (ne_eqb n 12 (λ q. omega arith))
is_frozen ListOf {n} h = let e = h.is in sym (ne_eqb n 12 (λ q. omega arith))
is_frozen Fn {n} h = let e = h.is in sym (ne_eqb n 12 (λ q. omega arith))
is_frozen Set {n} h = let e = h.is in sym (ne_eqb n 12 (λ q. omega arith))
is_frozen Neg {n} h = let e = h.is in sym (ne_eqb n 12 (λ q. omega arith))
is_frozen Named {n} h = let e = h.is in sym (ne_eqb n 12 (λ q. omega arith))
is_frozen Inter {n} h = let e = h.is in sym (ne_eqb n 12 (λ q. omega arith))
is_frozen Union {n} h = let e = h.is in sym (ne_eqb n 12 (λ q. omega arith))
is_frozen Frozen {n} h = sym (eq-eqb n 12 h.is)
is_frozen Other {n} h = sym (ne_eqb n 12 h.is.no_frozen)

-- the places of a set
pub present_is : {r : ℕ} (x : ℕ) → r ≡ min x 1 → Present x r
present_is zero e = record { is = e; small = omega arith }
present_is (suc x) e = record { is = let z : min (suc x) 1 ≡ 1 = omega arith in simp (ne_eqb (suc x) 0 (λ (q : suc x ≡ 0). omega arith)) (e ∙ z); small = omega arith }

module _ {w : List ℕ} {from to f d o h : ℕ} (a : At w from to 1 f) (b : At w from to (2 + 2 * f) d) (c : At w from to (2 + 2 * f + 1 + d + 1) o)
    (g : Present d h) (sf : f < 4294967296) (sd : d < 4294967296) (so : o < 4294967296) where
  pub places_are : Placed w from to (record { fields = f; dynamic = 2 + 2 * f; held = h; opens = 2 + 2 * f + 1 + d; optional = o })
  places_are =
      let x = a.is in
      let dp : 2 + 2 * f ≡ dyn_place (span w from to) 1 = omega arith in
      let dv : d ≡ cell (span w from to) (dyn_place (span w from to) 1) = b.is ∙ ap (cell (span w from to)) dp in
      let op : 2 + 2 * f + 1 + d ≡ open_place (span w from to) (dyn_place (span w from to) 1) = omega arith in
      record {
        is = record {
          fields = x;
          dynamic = dp;
          held = g.is ∙ ap (λ (y : ℕ). if (eqb y 0) (λ _. 0) (λ _. 1)) dv;
          opens = op;
          optional = c.is ∙ ap (λ (y : ℕ). cell (span w from to) (y + 1)) op;
          few_fields = sf;
          low_dynamic = omega arith;
          few_held = g.small;
          low_opens = omega arith;
          few_optional = so;
        };
      }

-- the parts of a set, cell by cell
module _ (row : List ℕ) (p : Places) (q : PlacedIn row p) where
  pub set_keys : field_keys (attr_at row 1).fields ≡ every row 2 2 p.fields
  unfolding attr_at
  set_keys = keys_every row 2 (cell row 1) ∙ ap (every row 2 2) (sym q.fields)

  pub set_types : field_types (attr_at row 1).fields ≡ every row 2 3 p.fields
  unfolding attr_at
  set_types = types_every row 2 3 (cell row 1) refl ∙ ap (every row 2 3) (sym q.fields)

  pub set_optional : (attr_at row 1).optional ≡ every row 1 (p.opens + 2) p.optional
  unfolding attr_at
  set_optional =
      part_every row (open_place row (dyn_place row 1) + 2) (cell row (open_place row (dyn_place row 1) + 1))
      ∙ ap₂ {C = List ℕ} (λ (a n : ℕ). every row 1 (a + 2) n) (sym q.opens) (sym q.optional)

  held_if : (b : Bool) (x : ℕ) → dyn_ids (if b (λ _. none) (λ _. some (cell row x))) ≡ every row 1 x (if b (λ _. 0) (λ _. 1))
  held_if true x = refl
  held_if false x = refl

  pub set_dyn : dyn_ids (attr_at row 1).dyn ≡ every row 1 (p.dynamic + 1) p.held
  unfolding attr_at
  set_dyn =
      held_if (eqb (cell row (dyn_place row 1)) 0) (dyn_place row 1 + 1)
      ∙ ap₂ {C = List ℕ} (λ (a n : ℕ). every row 1 (a + 1) n) (sym q.dynamic) (sym q.held)

  set_weighs : p.fields + p.held + (p.fields + p.optional) ≡ weight (set (attr_at row 1))
  set_weighs =
      let a = length-append (field_types (attr_at row 1).fields) (dyn_ids (attr_at row 1).dyn) in
      let b = length-append (field_keys (attr_at row 1).fields) (attr_at row 1).optional in
      let c = ap length set_keys ∙ every_length row 2 2 p.fields in
      let d = ap length set_types ∙ every_length row 2 3 p.fields in
      let e = ap length set_optional ∙ every_length row 1 (p.opens + 2) p.optional in
      let f = ap length set_dyn ∙ every_length row 1 (p.dynamic + 1) p.held in
      omega arith

-- the weight of a row
module _ {w : List ℕ} {from to kind : ℕ} (k : At w from to 0 kind) where
  pub weight_var : {a b : ℕ} → kind ≡ 2 → At w from to 1 a → At w from to (2 + a) b → a < 4294967296 → b < 4294967296 → Weight w from to (a + b)
  weight_var {a} {b} e x y sa sb =
      let row : List ℕ = span w from to in
      let c = x.is in
      let d : b ≡ cell (span w from to) (2 + cell (span w from to) 1) = y.is ∙ ap (λ (n : ℕ). cell (span w from to) (2 + n)) c in
      let l = length-append (part (span w from to) 2 (cell (span w from to) 1)) (part (span w from to) (3 + cell (span w from to) 1) (cell (span w from to) (2 + cell (span w from to) 1))) in
      let m = run_length (cell (span w from to)) 2 (cell (span w from to) 1) in
      let n = run_length (cell (span w from to)) (3 + cell (span w from to) 1) (cell (span w from to) (2 + cell (span w from to) 1)) in
      let z : a + b ≡ weight (entry_by 2 (span w from to)) = omega arith in
      record { is = z ∙ ap weight (sym (by_kind (span w from to) 2 (sym e ∙ k.is))); small = omega arith }

  pub weight_set : {p : Places} → kind ≡ 7 → Placed w from to p → Weight w from to (p.fields + p.held + (p.fields + p.optional))
  weight_set {p} e q = record {
    is = set_weighs (span w from to) p q.is ∙ ap weight (sym (by_kind (span w from to) 7 (sym e ∙ k.is)));
    small = omega (arith, q.is.few_fields, q.is.few_held, q.is.few_optional);
  }

  weight_at : {r : ℕ} (j : ℕ) → kind ≡ j → r ≡ weight (entry_by j (span w from to)) → r ≤ 2 → Weight w from to r
  weight_at {r} j e h s = record { is = h ∙ ap weight (sym (by_kind (span w from to) j (sym e ∙ k.is))); small = omega arith }

  weight_other : Unnamed kind → Weight w from to 0
  weight_other h = record {
    is =
        poor (λ (z : Entry). 0 ≡ weight z) kind (span w from to) refl refl refl h.no_var h.no_list h.no_fn h.no_set h.no_neg h.no_named h.no_inter h.no_union
        ∙ ap weight (sym (by_kind (span w from to) kind k.is));
    small = omega arith;
  }

  module _ {x : Kind} (h : KindOf kind x) where
    pub weight_one : (x ≡ ListOf) ⊎ ((x ≡ Neg) ⊎ (x ≡ Named)) → Weight w from to 1
    weight_one (inl e) = let j : KindOf kind ListOf = subst (KindOf kind) e h in weight_at 5 j.is refl (omega arith)
    weight_one (inr (inl e)) = let j : KindOf kind Neg = subst (KindOf kind) e h in weight_at 8 j.is refl (omega arith)
    weight_one (inr (inr e)) = let j : KindOf kind Named = subst (KindOf kind) e h in weight_at 9 j.is refl (omega arith)

    pub weight_two : (x ≡ Fn) ⊎ ((x ≡ Inter) ⊎ (x ≡ Union)) → Weight w from to 2
    weight_two (inl e) = let j : KindOf kind Fn = subst (KindOf kind) e h in weight_at 6 j.is refl (omega arith)
    weight_two (inr (inl e)) = let j : KindOf kind Inter = subst (KindOf kind) e h in weight_at 10 j.is refl (omega arith)
    weight_two (inr (inr e)) = let j : KindOf kind Union = subst (KindOf kind) e h in weight_at 11 j.is refl (omega arith)

    pub weight_none : (x ≡ Frozen) ⊎ (x ≡ Other) → Weight w from to 0
    weight_none (inl e) = let j : KindOf kind Frozen = subst (KindOf kind) e h in weight_at 12 j.is refl (omega arith)
    weight_none (inr e) = let j : KindOf kind Other = subst (KindOf kind) e h in weight_other j.is

-- the keys of a row
no_set_if : (b : Bool) (x y : Unit {0} → Entry) → as_set (x tt) ≡ none → as_set (y tt) ≡ none → as_set (if b x y) ≡ none
no_set_if true x y p q = p
no_set_if false x y p q = q

module _ {w : List ℕ} {from to kind : ℕ} (k : At w from to 0 kind) where
  no_set : (row : List ℕ) → (kind ≡ 7 → ⊥) → as_set (entry_by kind row) ≡ none
  no_set row h =
      simp (ne_eqb kind 7 h)
      (no_set_if (eqb kind 2) _ _ refl (no_set_if (eqb kind 3) _ _ refl (no_set_if (eqb kind 4) _ _ refl (no_set_if (eqb kind 5) _ _ refl (no_set_if (eqb kind 6) _ _ refl
      (no_set_if (eqb kind 8) _ _ refl (no_set_if (eqb kind 9) _ _ refl (no_set_if (eqb kind 10) _ _ refl (no_set_if (eqb kind 11) _ _ refl refl)))))))))

  pub keys_none : (kind ≡ 7 → ⊥) → KeysAscend w from to true
  keys_none h = record { is = sym (ap keys_ascend (ap as_set (by_kind (span w from to) kind k.is) ∙ no_set (span w from to) h)) }

  module _ {p : Places} {b : Bool} (e : kind ≡ 7) (q : Placed w from to p) (x : Ascend w from to 2 2 p.fields b) where
    keys_are : (c : Bool) → b ≡ c → keys_ascend (as_set (entry_of (span w from to))) ≡ both c (λ _. ascending (every (span w from to) 1 (p.opens + 2) p.optional))
    keys_are c h =
        ap (λ (z : Entry). keys_ascend (as_set z)) (by_kind (span w from to) 7 (sym e ∙ k.is))
        ∙ ap₂ {C = Bool} (λ (l m : List ℕ). both (ascending l) (λ _. ascending m)) (set_keys (span w from to) p q.is) (set_optional (span w from to) p q.is)
        ∙ ap (λ (z : Bool). both z (λ _. ascending (every (span w from to) 1 (p.opens + 2) p.optional))) (sym x.is ∙ h)

    pub keys_yes : {c : Bool} → b ≡ true → Ascend w from to (p.opens + 2) 1 p.optional c → KeysAscend w from to c
    keys_yes h y = record { is = y.is ∙ sym (keys_are true h) }

    pub keys_no : b ≡ false → KeysAscend w from to b
    keys_no h = record { is = h ∙ sym (keys_are false h) }
