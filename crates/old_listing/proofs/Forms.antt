-- Rows of an old listing's lines: what fits a node, and what a root's line says. Assumes nothing.
use mathlib.Core.Path.{◌≡◌, refl, sym, ap, ◌∙◌}
use mathlib.Core.Bool.{Bool, true, false}
use Prim.Native.Nat.{ℕ, ◌+◌}
use mathlib.Core.List.{List, [], ◌∷◌}
use lib.ListN.{length}
use lib.Dec.{eqb, leb}
use borrow.Author.Tests.{ne_eqb}
use Rattle.cells.specs.Part.{if, cell, part}
use Rattle.cells.proofs.Parts.{run_length}
use Rattle.cells.proofs.Choices.{if_self}
use Rattle.rules.specs.Ceilings.{most_members}
use Rattle.rules.specs.Plain.{both, ascending}
use Rattle.rules.specs.Table.{attr_at, all_below, keys_in, keys_ascend}
use Rattle.rules.specs.Types.{Node, TyVar, Primitive, ListOf, Lambda, AttrSet, Union, Intersection, Named, Neg, Bottom, Top}
use Rattle.rules.specs.Listing.{node_of, node_fits}
use Rattle.table.specs.declared.rows.Places.{Places}
use Rattle.table.specs.Rows.{At, Ascend, Below, Placed, SetKnown, KeysKnown}
use Rattle.table.proofs.Entries.{part_every, set_keys, set_optional}
use Rattle.old_listing.specs.Olds.{row, SetFits, MembersFit, NodeFits}
use mathlib.Core.Option.{some}

-- sets
abbrev keys_rest : List ℕ → ℕ → Bool → Bool
keys_rest r names b = both b (λ _. all_below names (keys_in (some (attr_at r 1))))

abbrev set_fits : List ℕ → ℕ → ℕ → Bool
set_fits r names i = node_fits names i (AttrSet (attr_at r 1))

module _ (w : List ℕ) (to names i : ℕ) (p : Places) (x y z : Bool) where
  kids_so : (b : Bool) → SetKnown w 0 to i x → x ≡ b → set_fits (row w to) names i ≡ both b (λ _. keys_rest (row w to) names (keys_ascend (some (attr_at (row w to) 1))))
  kids_so b k e = ap (λ (t : Bool). both t (λ _. keys_rest (row w to) names (keys_ascend (some (attr_at (row w to) 1))))) (sym k.is ∙ e)

  keys_so : (b : Bool) → SetKnown w 0 to i x → x ≡ true → Placed w 0 to p → Ascend w 0 to 2 2 p.fields y → y ≡ b → set_fits (row w to) names i
      ≡ keys_rest (row w to) names (both b (λ _. ascending (attr_at (row w to) 1).optional))
  keys_so b k ex q f e =
      kids_so true k ex
      ∙ ap (λ (t : Bool). keys_rest (row w to) names (both t (λ _. ascending (attr_at (row w to) 1).optional))) (ap ascending (set_keys (row w to) p q.is) ∙ sym f.is ∙ e)

  optional_so : (b : Bool) → SetKnown w 0 to i x → x ≡ true → Placed w 0 to p → Ascend w 0 to 2 2 p.fields y → y ≡ true
      → Ascend w 0 to (p.opens + 2) 1 p.optional z → z ≡ b → set_fits (row w to) names i ≡ keys_rest (row w to) names b
  optional_so b k ex q f ey o e = keys_so true k ex q f ey ∙ ap (keys_rest (row w to) names) (ap ascending (set_optional (row w to) p q.is) ∙ sym o.is ∙ e)

module _ {w : List ℕ} {to names i : ℕ} {x : Bool} (k : SetKnown w 0 to i x) where
  pub set_kids_no : {r : Bool} → x ≡ false → r ≡ false → SetFits w to names i r
  set_kids_no e z = record { is = z ∙ sym (kids_so w to names i (record { fields = 0; dynamic = 0; held = 0; opens = 0; optional = 0 }) x x x false k e) }

  module _ {p : Places} {y : Bool} (ex : x ≡ true) (q : Placed w 0 to p) (f : Ascend w 0 to 2 2 p.fields y) where
    pub set_keys_no : {r : Bool} → y ≡ false → r ≡ false → SetFits w to names i r
    set_keys_no e z = record { is = z ∙ sym (keys_so w to names i p x y y false k ex q f e) }

    module _ {z : Bool} (ey : y ≡ true) (o : Ascend w 0 to (p.opens + 2) 1 p.optional z) where
      pub set_optional_no : {r : Bool} → z ≡ false → r ≡ false → SetFits w to names i r
      set_optional_no e d = record { is = d ∙ sym (optional_so w to names i p x y z false k ex q f ey o e) }

      pub set_last : {v : Bool} → z ≡ true → KeysKnown w 0 to names v → SetFits w to names i v
      set_last e h = record { is = h.is ∙ sym (optional_so w to names i p x y z true k ex q f ey o e) }

-- members
module _ {w : List ℕ} {to i n : ℕ} {b : Bool} (a : At w 0 to 1 n) (h : Below w 0 to 2 1 n i b) where
  members_so : (c : Bool) → b ≡ c → both (all_below i (part (row w to) 2 (cell (row w to) 1))) (λ _. leb (cell (row w to) 1) most_members) ≡ both c (λ _. leb n most_members)
  members_so c e =
      ap (λ (m : ℕ). both (all_below i (part (row w to) 2 m)) (λ _. leb m most_members)) (sym a.is)
      ∙ ap (λ (t : Bool). both t (λ _. leb n most_members)) (ap (all_below i) (part_every (row w to) 2 n) ∙ sym h.is ∙ e)

  pub members_yes : b ≡ true → MembersFit w to i (leb n most_members)
  members_yes e = record { is = sym (members_so true e) }

  pub members_no : b ≡ false → MembersFit w to i b
  members_no e = record { is = e ∙ sym (members_so false e) }

-- the node of a row of kind k
abbrev node_by : ℕ → List ℕ → Node
node_by k r =
    if (eqb k 0) (λ _. TyVar (cell r 1))
    (λ _. if (eqb k 1) (λ _. Primitive (cell r 1))
    (λ _. if (eqb k 2) (λ _. ListOf (cell r 1))
    (λ _. if (eqb k 3) (λ _. Lambda (cell r 1) (cell r 2))
    (λ _. if (eqb k 4) (λ _. AttrSet (attr_at r 1))
    (λ _. if (eqb k 5) (λ _. Union (part r 2 (cell r 1)))
    (λ _. if (eqb k 6) (λ _. Intersection (part r 2 (cell r 1)))
    (λ _. if (eqb k 7) (λ _. Named (cell r 1) (cell r 2))
    (λ _. if (eqb k 8) (λ _. Neg (cell r 1))
    (λ _. if (eqb k 9) (λ _. Bottom)
    (λ _. Top))))))))))

by_kind : (r : List ℕ) (k : ℕ) → k ≡ cell r 0 → node_of r ≡ node_by k r
unfolding node_of
by_kind r k e = ap (λ (j : ℕ). node_by j r) (sym e)

-- a kind with no children and no keys
plain : (names i k : ℕ) (r : List ℕ) → (k ≡ 2 → ⊥) → (k ≡ 3 → ⊥) → (k ≡ 4 → ⊥) → (k ≡ 5 → ⊥) → (k ≡ 6 → ⊥) → (k ≡ 7 → ⊥) → (k ≡ 8 → ⊥) → node_fits names i (node_by k r) ≡ true
plain names i k r a b c d e f g =
    simp (ne_eqb k 2 a, ne_eqb k 3 b, ne_eqb k 4 c, ne_eqb k 5 d, ne_eqb k 6 e, ne_eqb k 7 f, ne_eqb k 8 g) (pick (eqb k 0) (eqb k 1) (eqb k 9))
  where
    pick : (x y z : Bool) → node_fits names i (if x (λ _. TyVar (cell r 1)) (λ _. if y (λ _. Primitive (cell r 1)) (λ _. if z (λ _. Bottom) (λ _. Top)))) ≡ true
    pick true y z = refl
    pick false true z = refl
    pick false false true = refl
    pick false false false = refl

some_members : (w : List ℕ) (to i : ℕ) (b : Bool) → MembersFit w to i b → b
    ≡ both (all_below i (part (row w to) 2 (cell (row w to) 1))) (λ _. both (leb (length (part (row w to) 2 (cell (row w to) 1))) most_members) (λ _. true))
some_members w to i b h =
    h.is
    ∙ ap (λ (n : ℕ). both (all_below i (part (row w to) 2 (cell (row w to) 1))) (λ _. leb n most_members)) (sym (run_length (cell (row w to)) 2 (cell (row w to) 1)))
    ∙ ap (λ (t : Bool). both (all_below i (part (row w to) 2 (cell (row w to) 1))) (λ _. t)) (sym (if_self (leb (length (part (row w to) 2 (cell (row w to) 1))) most_members)))

module _ {w : List ℕ} {to names i kind : ℕ} (a : At w 0 to 0 kind) where
  of_kind_lem : {b : Bool} (k : ℕ) → kind ≡ k → b ≡ node_fits names i (node_by k (row w to)) → NodeFits w to names i b
  of_kind_lem k e h = record { is = h ∙ ap (node_fits names i) (sym (by_kind (row w to) k (sym e ∙ a.is))) }

  pub node_set : {b : Bool} → kind ≡ 4 → SetFits w to names i b → NodeFits w to names i b
  node_set e h = of_kind_lem 4 e h.is

  pub node_union : {b : Bool} → kind ≡ 5 → MembersFit w to i b → NodeFits w to names i b
  node_union {b} e h = of_kind_lem 5 e (some_members w to i b h)

  pub node_inter : {b : Bool} → kind ≡ 6 → MembersFit w to i b → NodeFits w to names i b
  node_inter {b} e h = of_kind_lem 6 e (some_members w to i b h)

  pub node_fn : {b : Bool} → kind ≡ 3 → Below w 0 to 1 1 2 i b → NodeFits w to names i b
  node_fn e h = of_kind_lem 3 e (h.is ∙ sym (if_self (all_below i (cell (row w to) 1 ∷ cell (row w to) 2 ∷ []))))

  pub node_named : {b : Bool} → kind ≡ 7 → Below w 0 to 2 1 1 i b → NodeFits w to names i b
  node_named e h = of_kind_lem 7 e (h.is ∙ sym (if_self (all_below i (cell (row w to) 2 ∷ []))))

  pub node_list : {b : Bool} → kind ≡ 2 → Below w 0 to 1 1 1 i b → NodeFits w to names i b
  node_list e h = of_kind_lem 2 e (h.is ∙ sym (if_self (all_below i (cell (row w to) 1 ∷ []))))

  pub node_neg : {b : Bool} → kind ≡ 8 → Below w 0 to 1 1 1 i b → NodeFits w to names i b
  node_neg e h = of_kind_lem 8 e (h.is ∙ sym (if_self (all_below i (cell (row w to) 1 ∷ []))))

  pub node_else : (kind ≡ 4 → ⊥) → (kind ≡ 5 → ⊥) → (kind ≡ 6 → ⊥) → (kind ≡ 3 → ⊥) → (kind ≡ 7 → ⊥) → (kind ≡ 2 → ⊥) → (kind ≡ 8 → ⊥) → NodeFits w to names i true
  node_else c d e b f g h = of_kind_lem kind refl (sym (plain names i kind (row w to) g b c d e f h))
