-- Reading entries: rows, kinds, bounds. Assumes nothing.
use Rattle.std.specs.Prelude.{Option, Some, None}
use Rattle.std.specs.Option.{MatchOption}
use mathlib.Core.Path.{◌≡◌, refl, sym, ap, ap₂, ◌∙◌, subst}
use mathlib.Core.Bool.{Bool, true}
use Prim.Native.Nat.{ℕ, suc, ◌+◌, ◌≤◌, ◌<◌}
use native.Mathlib.Omega.{arith}
use native.Mathlib.Numerals.{add-one}
use mathlib.Core.List.{List, [], ◌∷◌, ◌++◌}
use lib.ListN.{length, get_or, drop}
use lib.Seq.{drop-cons}
use lib.Dec.{eqb}
use borrow.Author.Tests.{eq-eqb, ne_eqb, eqb-true}
use Rattle.cells.specs.Part.{cell, if}
use Rattle.cells.specs.Sum.{Sum}
use Rattle.cells.proofs.Holding.{holds_at}
use Rattle.rules.specs.Table.{var, prim, tyvar, list, fn, set, neg, named, inter, union, frozen, entry_kind, kids}
use Rattle.rules.specs.Table as rules
use Rattle.rules.specs.Types.{Run}
use Rattle.rules.specs.Canonicalizer.{Reader, is_variable, is_named, named_bound}
use Rattle.storage.specs.declared.given.Canon.{Canon}
use Rattle.storage.specs.declared.entries.Entry.{Entry}
use Rattle.storage.specs.declared.entries.Entry.TheVariants.{Variable, Primitive, TyVar, List as ListOf, Lambda, AttrSet, Neg, Named, Inter, Union, Frozen}
use Rattle.storage.specs.Passes.{ListAt, EntryAt, Reads}
use Rattle.storage.specs.Entries.{Row, KindAt, VariableIs, ReadAs, entry_of_two, EntryOfTwo, EntryRead, Uppers, NamedIs, FindsNamed, NamedBound}
use Rattle.laws.proofs.Filtering.{under_at}
use Rattle.cells.specs.Placed.{Under}

pub row_is : {table : List ℕ} {c : Canon} {id p r : ℕ} → p ≡ c.base + id → r ≡ cell table p → Row table c id r
row_is {table} e f = record { is = f ∙ ap (cell table) e }

module _ {table : List ℕ} {c : Canon} {id : ℕ} where
  -- the kind of an entry that is read
  kind_of : {t : Reader} {k : ℕ} → KindAt table c id k → Reads table c t → id < c.count → k ≡ entry_kind (t id)
  kind_of a h lt = a.is ∙ (h.entry id lt).kind

-- an entry of two, return by return
abbrev two_by : Bool → Bool → Bool → Bool → ℕ → ℕ → Entry
two_by a b c d x y =
    if a (λ _. Lambda x y) (λ _. if b (λ _. Named x y) (λ _. if c (λ _. Inter x y) (λ _. if d (λ _. Union x y) (λ _. Frozen))))

module _ {k x y : ℕ} where
  two_by_lem : {r : Entry} (j : ℕ) → k ≡ j → r ≡ entry_of_two j x y → EntryOfTwo k x y r
  two_by_lem j e f = record { is = f ∙ sym (ap (λ (i : ℕ). entry_of_two i x y) e) }

-- what a row of kind k with the words x and y is read as; the lists of a variable and of a set stand from v on
abbrev entry_if : Bool → Bool → Bool → Bool → Bool → Bool → ℕ → ℕ → ℕ → ℕ → Entry
entry_if a b c d e f k x y v =
    if a (λ _. Variable v)
    (λ _. if b (λ _. Primitive x)
    (λ _. if c (λ _. TyVar x)
    (λ _. if d (λ _. ListOf x)
    (λ _. if e (λ _. AttrSet v)
    (λ _. if f (λ _. Neg x)
    (λ _. entry_of_two k x y))))))

abbrev entry_by : ℕ → ℕ → ℕ → ℕ → Entry
entry_by k x y v = entry_if (eqb k 2) (eqb k 3) (eqb k 4) (eqb k 5) (eqb k 7) (eqb k 8) k x y v

read_by : {w : List ℕ} {a x y : ℕ} (en : rules.Entry) → EntryAt w a en → x ≡ cell w (a + 1) → y ≡ cell w (a + 2) → ReadAs w (entry_by (entry_kind en) x y (suc a)) en
read_by (var l u) h e f = record { is = record { lower = l; upper = u; is = refl; bounds = h.rest } }
read_by (prim c) h e f = record { is = ap prim (sym (e ∙ h.rest)) }
read_by (tyvar z) h e f = record { is = ap tyvar (sym (e ∙ h.rest)) }
read_by (list z) h e f = record { is = ap list (sym (e ∙ h.rest)) }
read_by (fn z u) h e f = record { is = ap₂ {C = rules.Entry} fn (sym (e ∙ h.rest.0)) (sym (f ∙ h.rest.1)) }
read_by (set t) h e f = record { is = record { set = t; is = refl; at = h.rest } }
read_by (neg z) h e f = record { is = ap neg (sym (e ∙ h.rest)) }
read_by (named n z) h e f = record { is = ap₂ {C = rules.Entry} named (sym (e ∙ h.rest.0)) (sym (f ∙ h.rest.1)) }
read_by (inter z u) h e f = record { is = ap₂ {C = rules.Entry} inter (sym (e ∙ h.rest.0)) (sym (f ∙ h.rest.1)) }
read_by (union z u) h e f = record { is = ap₂ {C = rules.Entry} union (sym (e ∙ h.rest.0)) (sym (f ∙ h.rest.1)) }
read_by frozen h e f = record { is = refl }

-- where the lists of a variable stand
pub variable_at : {w : List ℕ} {a : ℕ} (en : rules.Entry) → EntryAt w a en → is_variable en ≡ true → VariableIs w (suc a) en
variable_at {w} {a} en h e =
    (subst (λ (k : ℕ). ReadAs w (entry_by k (cell w (a + 1)) (cell w (a + 2)) (suc a)) en) (eqb-true (entry_kind en) 2 e) (read_by en h refl refl)).is

pub entry_at_row : {table : List ℕ} {c : Canon} {id a : ℕ} {t : Reader} → Row table c id a → Reads table c t → id < c.count → EntryAt table a (t id)
entry_at_row {table = table} {id = id} {t = t} row h lt = subst (λ (j : ℕ). EntryAt table j (t id)) (sym row.is) (h.entry id lt)

pub behind : {a v : ℕ} → Sum a 1 v → a + 2 ≤ 4294967295 → v ≡ suc a
behind {a} s f = s.is (omega arith) ∙ add-one a

module _ {table : List ℕ} {c : Canon} {id a k p x : ℕ} (row : Row table c id a) (kind : k ≡ cell table a) (at : p ≡ a + 1) (one : x ≡ cell table p) where
  entry_read : {r : Entry} {y : ℕ} → y ≡ cell table (a + 2) → (a + 2 ≤ 4294967295 → r ≡ entry_by k x y (suc a)) → EntryRead table c id r
  entry_read {r} {y} f g =
      record {
        is = λ {t} h lt.
            let w = entry_at_row row h lt in
            subst (λ (e : Entry). ReadAs table e (t id)) (sym (g w.fits ∙ ap (λ (j : ℕ). entry_by j x y (suc a)) (kind ∙ w.kind)))
            (read_by (t id) w (one ∙ ap (cell table) at) f);
      }

  by_kind : {r : Entry} (j : ℕ) → k ≡ j → (a + 2 ≤ 4294967295 → r ≡ entry_by j x (cell table (a + 2)) (suc a)) → EntryRead table c id r
  by_kind j e g = entry_read refl (λ f. g f ∙ sym (ap (λ (i : ℕ). entry_by i x (cell table (a + 2)) (suc a)) e))

-- number i of a list in a row
pub list_item : {w xs : List ℕ} {l i s p x : ℕ} → ListAt w l xs → i < length xs → Sum l 1 s → p ≡ s + i → x ≡ cell w p → x ≡ get_or xs i 0
list_item {w} {xs} {l} {i} {s} {p} h lt one e f =
    let z = h.fits in
    let y : s ≡ l + 1 = one.is (omega arith) in
    let q : p ≡ suc l + i = omega arith in
    f ∙ ap (cell w) q ∙ holds_at h.holds i lt

-- a Named bound searched for: what is left after i bounds says what the whole says
pub record Naming (table : List ℕ) (c : Canon) (l n i : ℕ) : Type 0 where
  pub few : i ≤ n
  pub size : n ≡ cell table l
  pub is : {t : Reader} {bs : List ℕ} → Reads table c t → ListAt table l bs → Under c.count bs
      → (hit : ℕ → Run ℕ) (miss : Run ℕ) → named_bound t hit miss (drop i bs) ≡ named_bound t hit miss bs

module _ {table : List ℕ} {c : Canon} {l n : ℕ} where
  module _ {i s p b k : ℕ} (g : Naming table c l n i) (lt : i < n) (one : Sum l 1 s) (e : p ≡ s + i) (f : b ≡ cell table p) (kind : KindAt table c b k) where
    within : {bs : List ℕ} → ListAt table l bs → i < length bs
    within at = let z = g.size in let y = at.count in omega arith

    item : {bs : List ℕ} → ListAt table l bs → b ≡ get_or bs i 0
    item at = list_item at (within at) one e f

    below : {bs : List ℕ} → ListAt table l bs → Under c.count bs → b < c.count
    below {bs} at under = let z = under_at c.count bs i under (within at) in let y = item at in omega arith

    -- the bound decides, or the rest does
    step : {t : Reader} {bs : List ℕ} {r : Bool} → Reads table c t → ListAt table l bs → Under c.count bs → eqb k 9 ≡ r → (hit : ℕ → Run ℕ) (miss : Run ℕ)
        → if r (λ _. hit b) (λ _. named_bound t hit miss (drop (suc i) bs)) ≡ named_bound t hit miss bs
    step {t} {bs} {r} h at under z hit miss =
        ap (λ (x : Bool). if x (λ _. hit b) (λ _. named_bound t hit miss (drop (suc i) bs))) (sym z ∙ ap (λ (j : ℕ). eqb j 9) (kind_of kind h (below at under)))
        ∙ ap (λ (x : ℕ). if (is_named (t x)) (λ _. hit x) (λ _. named_bound t hit miss (drop (suc i) bs))) (item at)
        ∙ sym (ap (named_bound t hit miss) (drop-cons bs i 0 (within at)))
        ∙ g.is h at under hit miss

    pub naming_here : k ≡ 9 → FindsNamed table c l (Some b)
    naming_here z = record { is = λ h at under. (λ hit miss. sym (step h at under (eq-eqb k 9 z) hit miss), below at under) }

    pub naming_more : (k ≡ 9 → ⊥) → Naming table c l n (i + 1)
    naming_more z =
        record {
          few = omega arith;
          size = g.size;
          is = λ {t} {bs} h at under hit miss.
              ap (λ (j : ℕ). named_bound t hit miss (drop j bs)) (add-one i) ∙ step h at under (ne_eqb k 9 z) hit miss;
        }

named_append : (t : Reader) (hit : ℕ → Run ℕ) (miss : Run ℕ) (xs ys : List ℕ) → named_bound t hit miss (xs ++ ys) ≡ named_bound t hit (named_bound t hit miss ys) xs
named_append t hit miss [] ys = refl
named_append t hit miss (x ∷ xs) ys = ap (λ (r : Run ℕ). if (is_named (t x)) (λ _. hit x) (λ _. r)) (named_append t hit miss xs ys)

module _ (count : ℕ) (t : Reader) (l u : List ℕ) where
  named_first : (f : Option ℕ) (b : ℕ) → f ≡ Some b → NamedIs count t l f → NamedIs count t (l ++ u) f
  named_first (Some x) b e h = (λ hit miss. named_append t hit miss l u ∙ h.0 hit (named_bound t hit miss u), h.1)
  named_first None b e h = let z : ◌≡◌ {A = ℕ} 0 1 = cc in absurd (omega arith)

  named_rest : (f : Option ℕ) → NamedIs count t l None → NamedIs count t u f → NamedIs count t (l ++ u) f
  named_rest (Some x) g h = (λ hit miss. named_append t hit miss l u ∙ g hit (named_bound t hit miss u) ∙ h.0 hit miss, h.1)
  named_rest None g h = λ hit miss. named_append t hit miss l u ∙ g hit (named_bound t hit miss u) ∙ h hit miss

module _ {table : List ℕ} {c : Canon} {v : ℕ} {f : Option ℕ} (a : FindsNamed table c v f) where
  pub named_lower : {b : ℕ} → f ≡ Some b → NamedBound table c v f
  named_lower {b} e = record { is = λ {t} {l} {u} h at ul uu. named_first c.count t l u f b e (a.is h at.lowers ul) }

  pub named_upper : {s : ℕ} {r : Option ℕ} → f ≡ None → Uppers table v s → FindsNamed table c s r → NamedBound table c v r
  named_upper {s} {r} e up g =
      record {
        is = λ {t} {l} {u} h at ul uu.
            named_rest c.count t l u r (subst (λ (x : Option ℕ). NamedIs c.count t l x) e (a.is h at.lowers ul))
            (g.is h (subst (λ (j : ℕ). ListAt table j u) (sym (up.is at.lowers)) at.uppers) uu);
      }

-- by what `or_else` answers, whose closure comes to P
pub named_found : {table : List ℕ} {c : Canon} {v : ℕ} {r : Option ℕ} {P : Type 0} (f : Option ℕ) → FindsNamed table c v f → MatchOption f P (λ x. r ≡ Some x)
    → (P → (s : ℕ) × Uppers table v s × FindsNamed table c s r) → NamedBound table c v r
named_found {table} {c} {v} (Some b) a m g = subst (λ (o : Option ℕ). NamedBound table c v o) (sym m) (named_lower a refl)
named_found None a m g = let (s, up, h) = g m in named_upper a refl up h
