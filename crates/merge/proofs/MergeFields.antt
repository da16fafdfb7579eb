-- Merging the fields of two sets: what is read and put, and the sweep through both lists. Assumes nothing.
use mathlib.Core.Path.{◌≡◌, refl, sym, ap, ap₂, ◌∙◌, subst}
use mathlib.Core.Bool.{Bool, true, false, ◌||◌}
use mathlib.Core.Logic.{◌⊎◌, inl, inr, ⊎_elim}
use Prim.Native.Nat.{ℕ, suc, ◌+◌, ◌-◌, ◌*◌, ◌≤◌, ◌<◌}
use native.Mathlib.Nat.{eq-zero-or-pos}
use mir.Syntax.{w32}
use mir.Val.{Fits}
use native.Mathlib.Omega.{arith}
use mathlib.Core.List.{List, [], ◌∷◌, ◌++◌, append-nil, append_assoc}
use lib.ListN.{length, set, drop, length-map, length-set, length-append, drop_of_length-le, get_or-map, get_or-append}
use lib.Seq.{get_or-set_same, get_or-set_other}
use lib.Dec.{eqb}
use borrow.Author.Tests.{eq-eqb, ne_eqb}
use Rattle.cells.specs.Part.{cell, if}
use Rattle.cells.specs.Sum.{Sum}
use Rattle.cells.proofs.Parts.{run_ext}
use Rattle.cells.proofs.Holding.{holds_none, holds_place, holds_list, holds_cons, holds_both}
use Rattle.rules.specs.Ceilings.{most_names}
use Rattle.rules.specs.Table.{Field, Attr, field_types, dyn_ids}
use Rattle.rules.specs.Types.{State, Out, ok, no, Run, bind, give, Intersection, AttrSet, Bottom, field_words, children, node_at, store, is}
use Rattle.rules.specs.Types as rules
use Rattle.rules.specs.Members.{meet_types, merge_fields}
use Rattle.laws.proofs.Rows.{field_words_length, key_read, type_read}
use Rattle.laws.proofs.Keeping.{Keeps, keeps_if, keeps_give, keeps_store}
use Rattle.lang_ty.specs.declared.arena.Pass.{Pass}
use Rattle.lang_ty.specs.Given.{Given}
use Rattle.lang_ty.specs.Given.{Node as NodeG, Refused as RefusedN}
use Rattle.lang_ty.specs.Nodes.{Stands, Answers as Stores, Is, Stored}
use Rattle.lang_ty.specs.Sets.{SetAt, Fields, Key, FieldType}
use Rattle.lang_ty.specs.Shapes.{SetPlace}
use Rattle.lang_ty.proofs.Stores.{gives, refuses, answers_of, stored_intersection}
use Rattle.members.specs.Flow.{Flow}
use Rattle.members.specs.Flow.{On as OnF, Refused as RefusedF}
use Rattle.merge.specs.declared.Merging.{Merging}
use Rattle.merge.specs.Merged.{On, Refused}
use Rattle.merge.specs.declared.Next.{Next}
use Rattle.merge.specs.declared.Next.TheVariants.{Old, New, Both}
use Rattle.merge.specs.Merges.{Rise, field_at, Meets, put_at, PutsField, HeldKey, HeldType, Comes, ComesNext, old_taken, new_taken, next_field, next_key, FieldPut}
use Rattle.merge.specs.Merges.{AnswersField, MergesField, Got, SetNode, Free, MergesFields}
use Rattle.laws.proofs.Filtering.{under_at, under_most, under_front}
use Rattle.merge.proofs.Fields.{false_true, rise_length, rise_snoc, rise_most, sweep, sweep_from, sweep_left, sweep_right, sweep_few}
use Rattle.cells.specs.Placed.{Holds, Under}
use mathlib.Core.Option.{Option}

types_more : (k : ℕ) (fs : List Field) (f : Field) → Under k (field_types fs) → f.type < k → Under k (field_types (fs ++ (f ∷ [])))
types_more k [] f h lt = (lt, tt)
types_more k (g ∷ gs) f h lt = (h.0, types_more k gs f h.1 lt)

type_below : (k : ℕ) (fs : List Field) (i : ℕ) → Under k (field_types fs) → i < length fs → (field_at fs i).type < k
type_below k fs i h lt =
    subst (λ (v : ℕ). v < k) (get_or-map (λ (f : Field). f.type) fs i (record { key = 0; type = 0 }))
    (under_at k (field_types fs) i h (omega (arith, length-map fs (λ (f : Field). f.type))))

words_snoc : (fs : List Field) (f : Field) → field_words (fs ++ (f ∷ [])) ≡ field_words fs ++ (f.key ∷ f.type ∷ [])
words_snoc [] f = refl
words_snoc (g ∷ gs) f = ap (λ (l : List ℕ). g.key ∷ g.type ∷ l) (words_snoc gs f)

-- `meet_types`
or_right : (a b : Bool) {A : Type 0} (x y : A) → b ≡ true → if (a || b) (λ _. x) (λ _. y) ≡ x
or_right true b x y e = refl
or_right false true x y e = refl
or_right false false x y e = false_true e

or_left : (a b : Bool) {A : Type 0} (x y : A) → a ≡ true → if (a || b) (λ _. x) (λ _. y) ≡ x
or_left true b x y e = refl
or_left false b x y e = false_true e

or_none : (a b : Bool) {A : Type 0} (x y : A) → a ≡ false → b ≡ false → if (a || b) (λ _. x) (λ _. y) ≡ y
or_none true b x y e f = false_true (sym e)
or_none false true x y e f = false_true (sym f)
or_none false false x y e f = refl

module _ {w : List ℕ} {q : Pass} {new : ℕ} where
  given : {o : Out ℕ} {st : State} → Stands st w q → new < q.nodes → o ≡ ok new st → Stores o w (NodeG new q)
  given {st = st} on lt e = record { is = record { after = st; is = e; stands = on; below = omega (arith, on.arena.count) } }

module _ {w : List ℕ} {q : Pass} {old new : ℕ} where
  pub meets_same : old ≡ new → Meets w q old new w (NodeG new q)
  meets_same e =
      record {
        is = λ {st} on lo ln.
            given on ln (ap (λ (m : Run ℕ). m st) (or_right (is st.nodes 0 old) (eqb old new) (give new) (store (Intersection (old ∷ new ∷ []))) (eq-eqb old new e)));
      }

  module _ {c : Bool} (var : Is w 0 old c) where
    pub meets_var : c ≡ true → Meets w q old new w (NodeG new q)
    meets_var e =
        record {
          is = λ {st} on lo ln.
              given on ln
              (ap (λ (m : Run ℕ). m st) (or_left (is st.nodes 0 old) (eqb old new) (give new) (store (Intersection (old ∷ new ∷ [])))
              (sym (var.is on.arena (omega (arith, on.arena.count))) ∙ e)));
        }

    pub meets_both : {w' : List ℕ} {r : Given} → c ≡ false → (old ≡ new → ⊥) → Stored (6 ∷ 2 ∷ old ∷ new ∷ []) 2 w q w' r → Meets w q old new w' r
    meets_both e f h =
        record {
          is = λ {st} on lo ln.
              answers_of
              (ap (λ (m : Run ℕ). m st) (or_none (is st.nodes 0 old) (eqb old new) (give new) (store (Intersection (old ∷ new ∷ [])))
              (sym (var.is on.arena (omega (arith, on.arena.count))) ∙ e) (ne_eqb old new f)))
              (stored_intersection on h lo ln);
        }

-- what meeting leaves: nodes only added at the end
met_later : (old new : ℕ) → Keeps (meet_types old new)
met_later old new st = keeps_if (is st.nodes 0 old || eqb old new) _ _ (keeps_give new) (keeps_store (Intersection (old ∷ new ∷ [])) tt) st

-- `put_field`, `held_key` and `held_type`
pub puts_field : {held held1 held2 : List ℕ} {a i j p l m o key ty : ℕ} → Sum i i j → p ≡ a + j → held1 ≡ set held p key → Sum i i l → Sum l 1 m → o ≡ a + m → held2 ≡ set held1 o ty
    → PutsField held a i key ty held2
puts_field {held} {held1} {held2} {a} {i} {j} {p} {l} {m} {o} {key} {ty} one e f two three g h =
    record {
      kept = λ k lt.
          ap (λ (v : List ℕ). cell v k) h ∙ get_or-set_other held1 o k ty 0 (omega arith) ∙ ap (λ (v : List ℕ). cell v k) f ∙ get_or-set_other held p k key 0 (omega arith);
      is = λ lt.
          let x = one.is (omega arith) in
          let y = two.is (omega arith) in
          let z = three.is (omega arith) in
          let u : p ≡ a + 2 * i = omega arith in
          let v : o ≡ a + 2 * i + 1 = omega arith in
          h ∙ ap₂ (λ (l : List ℕ) (n : ℕ). set l n ty) (f ∙ ap (λ (n : ℕ). set held n key) u) v;
    }

module _ {held : List ℕ} {a i j p r : ℕ} (one : Sum i i j) where
  pub held_key_is : p ≡ a + j → r ≡ cell held p → HeldKey held a i r
  held_key_is e f =
      record {
        is = λ fs h few lt.
            let x = one.is (omega arith) in
            let u : p ≡ a + 2 * i = omega arith in
            f ∙ ap (cell held) u ∙ key_read fs i h lt ∙ get_or-map (λ (g : Field). g.key) fs i (record { key = 0; type = 0 });
      }

  pub held_type_is : {m : ℕ} → Sum j 1 m → p ≡ a + m → r ≡ cell held p → HeldType held a i r
  held_type_is two e f =
      record {
        is = λ fs h few lt.
            let x = one.is (omega arith) in
            let y = two.is (omega arith) in
            let u : p ≡ a + 2 * i + 1 = omega arith in
            f ∙ ap (cell held) u ∙ type_read fs i h lt ∙ get_or-map (λ (g : Field). g.type) fs i (record { key = 0; type = 0 });
      }

key_at_lem : {w : List ℕ} {p j r : ℕ} {t : Attr} → Key w p j r → SetAt w p t → j < length t.fields → r ≡ (field_at t.fields j).key
key_at_lem {j = j} {t = t} k h lt = k.is h lt ∙ get_or-map (λ (g : Field). g.key) t.fields j (record { key = 0; type = 0 })

type_at : {w : List ℕ} {p j r : ℕ} {t : Attr} → FieldType w p j r → SetAt w p t → j < length t.fields → r ≡ (field_at t.fields j).type
type_at {j = j} {t = t} k h lt = k.is h lt ∙ get_or-map (λ (g : Field). g.type) t.fields j (record { key = 0; type = 0 })

-- `next_field`
module _ {w held : List ℕ} {a i n s j m : ℕ} where
  pub next_rest : m ≤ j → ComesNext w held a i n s j m Old
  next_rest le = record { is = λ fs {t} at h few e f left. (⊎_elim (λ l. omega arith) (λ l. omega arith) left, λ lt. absurd (omega arith)) }

  pub next_last : j < m → n ≤ i → ComesNext w held a i n s j m New
  next_last lt le = record { is = λ fs {t} at h few e f left. (omega arith, λ l. absurd (omega arith)) }

  module _ {old new : ℕ} (lj : j < m) (li : i < n) (ko : HeldKey held a i old) (kn : Key w s j new) where
    pub next_new : new < old → ComesNext w held a i n s j m New
    next_new lt =
        record {
          is = λ fs {t} at h few e f left.
              let x = ko.is fs h few (omega arith) in
              let y = key_at_lem kn at (omega arith) in
              (omega arith, λ l. omega arith);
        }

    pub next_old : old < new → ComesNext w held a i n s j m Old
    next_old lt =
        record {
          is = λ fs {t} at h few e f left.
              let x = ko.is fs h few (omega arith) in
              let y = key_at_lem kn at (omega arith) in
              (omega arith, λ l. omega arith);
        }

    pub next_both : old ≡ new → ComesNext w held a i n s j m Both
    next_both same =
        record {
          is = λ fs {t} at h few e f left.
              let x = ko.is fs h few (omega arith) in
              let y = key_at_lem kn at (omega arith) in
              (omega arith, omega arith, omega arith);
        }

-- `merge_field`
module _ {w held : List ℕ} {q : Pass} {next : Next} {a i p j b k : ℕ} where
  pub merges_old : {held' : List ℕ} {old key : ℕ} → next ≡ Old → HeldType held a i old → HeldKey held a i key → PutsField held b k key old held'
      → MergesField w held q next a i p j b k w held' (OnF q)
  merges_old {held'} {old} {key} e t n put =
      subst (λ (v : Next). MergesField w held q v a i p j b k w held' (OnF q)) (sym e)
      (record {
        kept = put.kept;
        is = λ {st} fs on at h few lo ln c lt.
            record {
              after = st;
              more = [];
              field = field_at fs i;
              is = refl;
              named = refl;
              nodes = sym (append-nil st.nodes);
              stands = on;
              below = omega (arith, type_below q.nodes fs i lo c.0, on.arena.count);
              put = put.is lt ∙ ap₂ (put_at held b k) (n.is fs h few c.0) (t.is fs h few c.0);
            };
      })

  pub merges_new : {held' : List ℕ} {new key : ℕ} → next ≡ New → FieldType w p j new → Key w p j key → PutsField held b k key new held'
      → MergesField w held q next a i p j b k w held' (OnF q)
  merges_new {held'} {new} {key} e t n put =
      subst (λ (v : Next). MergesField w held q v a i p j b k w held' (OnF q)) (sym e)
      (record {
        kept = put.kept;
        is = λ {st} fs {t = u} on at h few lo ln c lt.
            record {
              after = st;
              more = [];
              field = field_at u.fields j;
              is = refl;
              named = refl;
              nodes = sym (append-nil st.nodes);
              stands = on;
              below = omega (arith, type_below q.nodes u.fields j ln c.0, on.arena.count);
              put = put.is lt ∙ ap₂ (put_at held b k) (key_at_lem n at c.0) (type_at t at c.0);
            };
      })

module _ {w held w' : List ℕ} {q : Pass} {next : Next} {a i p j old new : ℕ} {g : Given}
    (e : next ≡ Both) (t : HeldType held a i old) (u : FieldType w p j new) (meet : Meets w q old new w' g) where
  meeting_of : {st : State} (fs : List Field) {v : Attr} → Stands st w q → SetAt w p v → Holds held a (field_words fs) → length fs ≤ most_names
      → Under q.nodes (field_types fs) → Under q.nodes (field_types v.fields) → Comes Both fs i v.fields j
      → Stores (meet_types (field_at fs i).type (field_at v.fields j).type st) w' g
  meeting_of {st} fs {v} on at h few lo ln c =
      let x = t.is fs h few c.0 in
      let y = type_at u at c.1 in
      subst (λ (z : ℕ). Stores (meet_types (field_at fs i).type z st) w' g) y
      (subst (λ (z : ℕ). Stores (meet_types z new st) w' g) x
      (meet.is on (omega (arith, type_below q.nodes fs i lo c.0)) (omega (arith, type_below q.nodes v.fields j ln c.1))))

  pub merges_both : {held' : List ℕ} {b k key x : ℕ} {r : Pass} → g ≡ NodeG x r → HeldKey held a i key → PutsField held b k key x held'
      → MergesField w held q next a i p j b k w' held' (OnF r)
  merges_both {held'} {b} {k} {key} {x} {r} f n put =
      subst (λ (v : Next). MergesField w held q v a i p j b k w' held' (OnF r)) (sym e)
      (record {
        kept = put.kept;
        is = λ {st} fs {t = v} on at h few lo ln c lt.
            let a = gives (meeting_of fs on at h few lo ln c) f in
            let l = met_later (field_at fs i).type (field_at v.fields j).type st x a.after a.is in
            record {
              after = a.after;
              more = l.more;
              field = record { key = (field_at fs i).key; type = x };
              is = ap (λ (o : Out ℕ). bind o (λ y. give (record { key = (field_at fs i).key; type = y }))) a.is;
              named = refl;
              nodes = l.nodes;
              stands = a.stands;
              below = a.below;
              put = put.is lt ∙ ap (λ (z : ℕ). put_at held b k z x) (n.is fs h few c.0);
            };
      })

  pub merges_refused : {b k why : ℕ} → g ≡ RefusedN why → MergesField w held q next a i p j b k w' held (RefusedF why)
  merges_refused {b} {k} {why} f =
      subst (λ (v : Next). MergesField w held q v a i p j b k w' held (RefusedF why)) (sym e)
      (record {
        kept = λ c lt. refl;
        is = λ {st} fs {t = v} on at h few lo ln c lt.
            ap (λ (o : Out ℕ). bind o (λ y. give (record { key = (field_at fs i).key; type = y }))) (refuses (meeting_of fs on at h few lo ln c) f);
      })

-- a part of a slice that is alike there
pub holds_alike : {w w' : List ℕ} {a : ℕ} {xs : List ℕ} → Holds w a xs → ((k : ℕ) → a ≤ k → k < a + length xs → cell w' k ≡ cell w k) → Holds w' a xs
holds_alike {w} {w'} {a} {xs} h e = record { is = run_ext (cell w') (cell w) a (length xs) e ∙ h.is }

module _ (held : List ℕ) (b k key ty : ℕ) where
  put_other : (c : ℕ) → (c < b + 2 * k) ⊎ (b + 2 * k + 2 ≤ c) → cell (put_at held b k key ty) c ≡ cell held c
  put_other c o =
      get_or-set_other (set held (b + 2 * k) key) (b + 2 * k + 1) c ty 0 (λ e. ⊎_elim (λ l. omega arith) (λ l. omega arith) o)
      ∙ get_or-set_other held (b + 2 * k) c key 0 (λ e. ⊎_elim (λ l. omega arith) (λ l. omega arith) o)

  -- one more field after those that are held
  put_more : (fs : List Field) → k ≡ length fs → Holds held b (field_words fs) → b + 2 * k + 2 ≤ length held
      → Holds (put_at held b k key ty) b (field_words (fs ++ (record { key = key; type = ty } ∷ [])))
  put_more fs e h room =
      let l = field_words_length fs in
      holds_list (sym (words_snoc fs (record { key = key; type = ty })))
      (holds_both (field_words fs) (key ∷ ty ∷ [])
      (holds_alike h (λ c x y. put_other c (inl (omega arith))))
      (holds_place (omega arith)
      (holds_cons
      (get_or-set_other (set held (b + 2 * k) key) (b + 2 * k + 1) (b + 2 * k) ty 0 (λ z. omega arith) ∙ get_or-set_same held (b + 2 * k) key 0 (omega arith))
      (holds_cons
      (ap (cell (put_at held b k key ty)) (omega arith) ∙ get_or-set_same (set held (b + 2 * k) key) (b + 2 * k + 1) ty 0 (omega (arith, length-set held (b + 2 * k) key)))
      (holds_none (put_at held b k key ty) (suc (suc (b + 2 * k))))))))

-- a sum fits its number
sum_small : {a b r : ℕ} → Sum a b r → r ≤ 4294967295
sum_small {a} {b} sum =
    ⊎_elim (λ z. let f = sum.is (omega arith) in omega arith) (λ z. let f = sum.full (omega arith) in omega arith) (eq-zero-or-pos (a + b - 4294967295))

-- the sweep: i of the held fields and j of the set's are taken, what they come to is held at b, and the rules are as far
pub record Swept (st : State) (fs : List Field) (t : Attr) (w held : List ℕ) (q : Pass) (a b i j k : ℕ) : Type 0 where
  pub now : State
  pub more : List rules.Node
  pub done : List Field
  pub bound : ℕ
  pub stands : Stands now w q
  pub nodes : now.nodes ≡ st.nodes ++ more
  pub count : k ≡ length done
  pub holds : Holds held b (field_words done)
  pub olds : Holds held a (field_words fs)
  pub low : Rise 0 bound done
  pub types : Under (length now.nodes) (field_types done)
  pub left : Rise bound most_names (drop i fs)
  pub right : Rise bound most_names (drop j t.fields)
  pub few_old : i ≤ length fs
  pub few_new : j ≤ length t.fields
  pub few : k ≤ i + j
  pub is : merge_fields fs t.fields st ≡ merge_fields (done ++ drop i fs) (drop j t.fields) now

pub record Sweeping (w₀ held₀ : List ℕ) (p : Pass) (g : Merging) (x b m most : ℕ) (w held : List ℕ) (q : Pass) (i j k : ℕ) : Type 0 where
  pub words : length w ≡ length w₀
  pub cells : length held ≡ length held₀
  pub all : Sum g.fields m most
  pub fields : {st : State} {t : Attr} → Stands st w₀ p → SetNode st p x t → m ≡ length t.fields
  pub kept : (c : ℕ) → c < b → cell held c ≡ cell held₀ c
  pub is : {st : State} {fs : List Field} {d : Option ℕ} {t : Attr} → Stands st w₀ p → Got held₀ g fs d p.nodes → SetNode st p x t → Free held₀ g.area b
      → Swept st fs t w held q g.area b i j k

pub sweeping_start : {w held : List ℕ} {p : Pass} {g : Merging} {x b p₀ m most : ℕ} → SetPlace w x p₀ → Fields w p₀ m → Sum g.fields m most
    → Sweeping w held p g x b m most w held p 0 0 0
sweeping_start {held = held} {b = b} place fields all =
    record {
      words = refl;
      cells = refl;
      all = all;
      fields = λ on node. fields.is (place.is on.arena (omega (arith, node.known, on.arena.count)) node.node);
      kept = λ c lt. refl;
      is = λ {st} on got node free.
          record {
            now = st;
            more = [];
            done = [];
            bound = 0;
            stands = on;
            nodes = sym (append-nil st.nodes);
            count = refl;
            holds = holds_none held b;
            olds = got.holds;
            low = omega arith;
            types = tt;
            left = got.keys;
            right = node.keys;
            few_old = omega arith;
            few_new = omega arith;
            few = omega arith;
            is = refl;
          };
    }

-- the turn of the loop
module _ {w₀ held₀ : List ℕ} {p : Pass} {g : Merging} {x b m most : ℕ} {w held : List ℕ} {q : Pass} {i j k : ℕ}
    (inv : Sweeping w₀ held₀ p g x b m most w held q i j k) where
  module _ {st : State} {fs : List Field} {d : Option ℕ} {t : Attr} (on : Stands st w₀ p) (got : Got held₀ g fs d p.nodes) (node : SetNode st p x t)
      (free : Free held₀ g.area b) where
    abbrev mid : Swept st fs t w held q g.area b i j k
    mid = inv.is on got node free

    fields_are : m ≡ length t.fields
    fields_are = inv.fields on node

    longer : length st.nodes ≤ length mid.now.nodes
    longer = omega (arith, ap length mid.nodes, length-append st.nodes mid.more)

    fs_few : length fs ≤ most_names
    fs_few = omega (arith, rise_length 0 most_names fs got.keys)

    t_few : length t.fields ≤ most_names
    t_few = omega (arith, rise_length 0 most_names t.fields node.keys)

    nodes_most : p.nodes ≤ q.nodes
    nodes_most = omega (arith, longer, on.arena.count, mid.stands.arena.count)

    node_now : node_at mid.now.nodes x ≡ AttrSet t
    node_now =
        ap (λ (l : List rules.Node). node_at l x) mid.nodes
        ∙ get_or-append st.nodes mid.more Bottom x (omega (arith, node.known, on.arena.count))
        ∙ node.node

    known : x < length mid.now.nodes
    known = omega (arith, node.known, on.arena.count, longer)

    set_now : {r : ℕ} → SetPlace w x r → SetAt w r t
    set_now place = place.is mid.stands.arena known node_now

    t_types : Under q.nodes (field_types t.fields)
    t_types =
        under_most x q.nodes (field_types t.fields) (omega (arith, known, mid.stands.arena.count))
        (under_front x (field_types t.fields) (dyn_ids t.dyn)
        (subst (λ (n : rules.Node). Under x (children n)) node_now (mid.stands.arena.below x known)))

    comes : {r : ℕ} {next : Next} → SetPlace w x r → ComesNext w held g.area i g.fields r j m next → (i < g.fields) ⊎ ((g.fields ≤ i) × (j < m)) → Comes next fs i t.fields j
    comes place c l = c.is fs (set_now place) mid.olds fs_few got.count fields_are (⊎_elim (λ z. inl z) (λ z. inr z.1) l)

    module _ (next : Next) (c : Comes next fs i t.fields j) where
      abbrev key : ℕ
      key = next_key next (field_at fs i) (field_at t.fields j)

      from : mid.bound ≤ key
      from = sweep_from mid.done fs t.fields i j mid.bound st mid.low mid.left mid.right next c

      left_over : Rise (suc key) most_names (drop (i + old_taken next) fs)
      left_over = sweep_left mid.done fs t.fields i j mid.bound st mid.low mid.left mid.right next c

      fits : k < most_names
      fits =
          omega (arith, from, mid.count, rise_length 0 mid.bound mid.done mid.low, rise_length (suc key) most_names (drop (i + old_taken next) fs) left_over)

      swept : {w' held' : List ℕ} {q' : Pass} → FieldPut (next_field next (field_at fs i) (field_at t.fields j) mid.now) key mid.now w' held held' b k q'
          → Swept st fs t w' held' q' g.area b (i + old_taken next) (j + new_taken next) (k + 1)
      swept {w'} {held'} {q'} put =
          let y = put.field in
          let n = put.named in
          let l = field_words_length fs in
          let some = sweep_few mid.done fs t.fields i j mid.bound st mid.low mid.left mid.right next c mid.few_old mid.few_new in
          let grown : length mid.now.nodes ≤ length put.after.nodes = omega (arith, ap length put.nodes, length-append mid.now.nodes put.more) in
          record {
            now = put.after;
            more = mid.more ++ put.more;
            done = mid.done ++ (y ∷ []);
            bound = suc y.key;
            stands = put.stands;
            nodes = put.nodes ∙ ap (λ (l : List rules.Node). l ++ put.more) mid.nodes ∙ append_assoc st.nodes mid.more put.more;
            count = omega (arith, mid.count, length-append mid.done (y ∷ []));
            holds =
                subst (λ (v : List ℕ). Holds v b (field_words (mid.done ++ (y ∷ [])))) (sym put.put)
                (put_more held b k y.key y.type mid.done mid.count mid.holds (omega (arith, fits, free.room, inv.cells)));
            olds =
                subst (λ (v : List ℕ). Holds v g.area (field_words fs)) (sym put.put)
                (holds_alike mid.olds
                (λ z lo hi. put_other held b k y.key y.type z
                (⊎_elim (λ o. inl (omega (arith, fs_few))) (λ o. inr (omega (arith, fits))) free.apart)));
            low = rise_snoc 0 mid.bound mid.done y mid.low (omega (arith, from));
            types =
                types_more (length put.after.nodes) mid.done y
                (under_most (length mid.now.nodes) (length put.after.nodes) (field_types mid.done) grown mid.types) put.below;
            left = subst (λ (v : ℕ). Rise (suc v) most_names (drop (i + old_taken next) fs)) (sym n) left_over;
            right =
                subst (λ (v : ℕ). Rise (suc v) most_names (drop (j + new_taken next) t.fields)) (sym n)
                (sweep_right mid.done fs t.fields i j mid.bound st mid.low mid.left mid.right next c);
            few_old = some.0;
            few_new = some.1;
            few = omega (arith, mid.few, some.2);
            is =
                mid.is
                ∙ sweep mid.done fs t.fields i j mid.bound mid.now mid.low mid.left mid.right next c
                ∙ ap (λ (o : Out Field). bind o (λ y. merge_fields ((mid.done ++ (y ∷ [])) ++ drop (i + old_taken next) fs) (drop (j + new_taken next) t.fields))) put.is;
          }

      swept_refused : {why : ℕ} → next_field next (field_at fs i) (field_at t.fields j) mid.now ≡ no why → merge_fields fs t.fields st ≡ no why
      swept_refused e =
          mid.is
          ∙ sweep mid.done fs t.fields i j mid.bound mid.now mid.low mid.left mid.right next c
          ∙ ap (λ (o : Out Field). bind o (λ y. merge_fields ((mid.done ++ (y ∷ [])) ++ drop (i + old_taken next) fs) (drop (j + new_taken next) t.fields))) e

  pub sweeping_fits : k < most → Fits w32 (k + 1)
  sweeping_fits lt = omega (arith, sum_small inv.all)

  module _ {r : ℕ} {next : Next} {flow : Flow} {w' held' : List ℕ}
      (more : (i < g.fields) ⊎ ((g.fields ≤ i) × (j < m))) (place : SetPlace w x r) (c : ComesNext w held g.area i g.fields r j m next)
      (call : MergesField w held q next g.area i r j b k w' held' flow) where
    answered : {st : State} {fs : List Field} {d : Option ℕ} {t : Attr} (up : Stands st w₀ p) (got : Got held₀ g fs d p.nodes) (node : SetNode st p x t)
        (free : Free held₀ g.area b)
        → AnswersField (next_field next (field_at fs i) (field_at t.fields j) (mid up got node free).now) (next_key next (field_at fs i) (field_at t.fields j))
        (mid up got node free).now w' held held' b k flow
    answered {fs = fs} {t = t} up got node free =
        let z = comes up got node free place c more in
        call.is fs (mid up got node free).stands (set_now up got node free place) (mid up got node free).olds (fs_few up got node free)
        (under_most p.nodes q.nodes (field_types fs) (nodes_most up got node free) got.types) (t_types up got node free) z
        (fits up got node free next z)

    pub sweeping_more : {q' : Pass} {u v i' j' : ℕ} → flow ≡ OnF q' → u ≡ old_taken next → Sum i u i' → v ≡ new_taken next → Sum j v j' → length w' ≡ length w → length held' ≡ length held
        → Sweeping w₀ held₀ p g x b m most w' held' q' i' j' (k + 1)
    sweeping_more {q'} {u} {v} {i'} {j'} f eu su ev sv wide long =
        record {
          words = wide ∙ inv.words;
          all = inv.all;
          fields = inv.fields;
          cells = long ∙ inv.cells;
          kept = λ c lt. call.kept c lt ∙ inv.kept c lt;
          is = λ {st} {fs} {d} {t} up got node free.
              let z = comes up got node free place c more in
              let put : FieldPut (next_field next (field_at fs i) (field_at t.fields j) (mid up got node free).now) (next_key next (field_at fs i) (field_at t.fields j))
              (mid up got node free).now w' held held' b k q' =
              subst (λ (o : Flow). AnswersField (next_field next (field_at fs i) (field_at t.fields j) (mid up got node free).now) (next_key next (field_at fs i) (field_at t.fields j))
              (mid up got node free).now w' held held' b k o) f (answered up got node free) in
              let new = swept up got node free next z put in
              let a : i' ≡ i + old_taken next = su.is (omega (arith, new.few_old, fs_few up got node free)) ∙ ap (λ (n : ℕ). i + n) eu in
              let b' : j' ≡ j + new_taken next = sv.is (omega (arith, new.few_new, t_few up got node free)) ∙ ap (λ (n : ℕ). j + n) ev in
              subst (λ (n : ℕ). Swept st fs t w' held' q' g.area b n j' (k + 1)) (sym a)
              (subst (λ (n : ℕ). Swept st fs t w' held' q' g.area b (i + old_taken next) n (k + 1)) (sym b') new);
        }

    pub sweeping_refused : {why : ℕ} → flow ≡ RefusedF why → MergesFields w₀ held₀ p g x b w' held' (Refused why)
    sweeping_refused {why} f =
        record {
          kept = λ c lt. call.kept c lt ∙ inv.kept c lt;
          is = λ {st} {fs} {d} {t} up got node free.
              swept_refused up got node free next (comes up got node free place c more)
              (subst (λ (o : Flow). AnswersField (next_field next (field_at fs i) (field_at t.fields j) (mid up got node free).now) (next_key next (field_at fs i) (field_at t.fields j))
              (mid up got node free).now w' held held' b k o) f (answered up got node free));
        }

  pub sweeping_done : (most ≤ k) ⊎ ((g.fields ≤ i) × (m ≤ j))
      → MergesFields w₀ held₀ p g x b w held (On (record { fields = k; area = b; dyn_type = g.dyn_type }) q)
  sweeping_done none_left =
      record {
        kept = inv.kept;
        is = λ {st} {fs} {d} {t} on got node free.
            let z = mid on got node free in
            let a = fields_are on got node free in
            let few = fs_few on got node free in
            let few' = t_few on got node free in
            let most-is : most ≡ g.fields + m = inv.all.is (omega (arith, got.count)) in
            let ends : (length fs ≤ i) × (length t.fields ≤ j) =
            ⊎_elim (λ l. (omega (arith, z.few, z.few_old, z.few_new, got.count), omega (arith, z.few, z.few_old, z.few_new, got.count)))
            (λ l. (omega (arith, l.0, got.count), omega (arith, l.1))) none_left in
            record {
              after = z.now;
              more = z.more;
              fields = z.done;
              is =
                  z.is
                  ∙ ap₂ (λ (l r : List Field). merge_fields (z.done ++ l) r z.now) (drop_of_length-le fs {i = i} ends.0) (drop_of_length-le t.fields {i = j} ends.1)
                  ∙ ap (λ (l : List Field). ok l z.now) (append-nil z.done);
              nodes = z.nodes;
              stands = z.stands;
              got = record {
                count = z.count;
                holds = z.holds;
                keys = rise_most 0 z.bound most_names z.done (omega (arith, rise_length z.bound most_names (drop i fs) z.left)) z.low;
                types = subst (λ (n : ℕ). Under n (field_types z.done)) z.stands.arena.count z.types;
                dyns = got.dyns;
                dyn = got.dyn;
                dyn_below = under_most p.nodes q.nodes (dyn_ids d) (nodes_most on got node free) got.dyn_below;
              };
              area = refl;
            };
      }
