-- Sets merged one after another: the dyn, one set, and the loop over them. Assumes nothing.
use mathlib.Core.Path.{◌≡◌, refl, sym, ap, ap₂, ◌∙◌, subst}
use mathlib.Core.Bool.{Bool}
use mathlib.Core.Logic.{◌⊎◌, inl, inr, ⊎_elim}
use Prim.Native.Nat.{ℕ, suc, ◌+◌, ◌-◌, ◌≤◌, ◌<◌}
use native.Mathlib.Omega.{arith}
use native.Mathlib.Nat.{eq-zero-or-pos}
use mir.Syntax.{w32}
use mir.Val.{Fits}
use native.Mathlib.Numerals.{add-one}
use mathlib.Core.List.{List, [], ◌∷◌, ◌++◌, append-nil, append_assoc}
use lib.ListN.{length, get_or, drop, length-append, drop_of_length-le, get_or-append}
use lib.Seq.{drop-cons}
use borrow.Author.Tests.{eq-eqb, ne_eqb}
use Rattle.cells.specs.Part.{cell, if}
use Rattle.cells.specs.Sum.{Sum}
use Rattle.cells.proofs.Holding.{holds_none}
use Rattle.layout.specs.Layout.{area_length}
use Rattle.rules.specs.Ceilings.{most_names}
use Rattle.rules.specs.Table.{Field, Attr, attr_at, field_types, dyn_ids}
use Rattle.rules.specs.Types.{State, Out, ok, bind, give, Intersection, AttrSet, Bottom, encode, kind_of, children, node_at, as_attr, store}
use Rattle.rules.specs.Types as rules
use Rattle.rules.specs.Members.{merge_fields, merge_dyn, merge_attrs, attr_of, attrs_of}
use Rattle.laws.specs.Sound.{Orderly, OrderlySet, Ordered}
use Rattle.laws.proofs.Rows.{node_of}
use Rattle.laws.proofs.Storing.{store_keeps}
use Rattle.lang_ty.specs.declared.arena.Pass.{Pass}
use Rattle.lang_ty.specs.Given.{Given}
use Rattle.lang_ty.specs.Given.{Node as NodeG, Refused as RefusedN}
use Rattle.lang_ty.specs.Nodes.{Stands, Stored, Answers as Stores}
use Rattle.lang_ty.specs.Sets.{SetAt, Dyns, DynType}
use Rattle.lang_ty.specs.Shapes.{SetPlace}
use Rattle.lang_ty.proofs.Stores.{gives, refuses, stored_intersection}
use Rattle.merge.specs.declared.Merging.{Merging}
use Rattle.merge.specs.Merged.{Merged}
use Rattle.merge.specs.Merged.{On, Refused}
use Rattle.members.specs.declared.lists.Members.{Members}
use Rattle.members.specs.Lists.{Taken}
use Rattle.merge.specs.Merges.{Roomy, Got, dyns_in, dyn_in, SetNode, Free, AnswersFields, MergesFields, DynGot, AnswersDyn, MergesDyn, OtherArea, Then, Arrived}
use Rattle.merge.specs.Merges.{AnswersMerged, MergesOne, AllSets, MergesAll}
use Rattle.laws.proofs.Filtering.{under_at, under_most, under_back}
use Rattle.members.proofs.Gathered.{few_at, few_below}
use Rattle.merge.proofs.Fields.{rise_of}
use Rattle.cells.specs.Placed.{Under}
use mathlib.Core.Option.{Option, none, some}
use Rattle.std.specs.Prelude.{Some, None}
use Rattle.std.specs.Prelude as std

-- two dyns, by how many there are
module _ (st : State) where
  merge_none : (d e : Option ℕ) → length (dyn_ids e) ≡ 0 → merge_dyn d e st ≡ ok d st
  merge_none none none h = refl
  merge_none none (some x) h = absurd (omega arith)
  merge_none (some o) none h = refl
  merge_none (some o) (some x) h = absurd (omega arith)

  merge_first : (d e : Option ℕ) → length (dyn_ids d) ≡ 0 → 0 < length (dyn_ids e) → merge_dyn d e st ≡ ok (some (get_or (dyn_ids e) 0 0)) st
  merge_first none none h l = absurd (omega arith)
  merge_first none (some x) h l = refl
  merge_first (some o) e h l = absurd (omega arith)

  abbrev dyn_by : Bool → ℕ → ℕ → Out (Option ℕ)
  dyn_by b o x = (if b (λ _. give (some o)) (λ _ s. bind (store (Intersection (o ∷ x ∷ [])) s) (λ y. give (some y)))) st

  merge_same : (d e : Option ℕ) → 0 < length (dyn_ids d) → 0 < length (dyn_ids e) → get_or (dyn_ids d) 0 0 ≡ get_or (dyn_ids e) 0 0
      → merge_dyn d e st ≡ ok (some (get_or (dyn_ids e) 0 0)) st
  merge_same none e h l z = absurd (omega arith)
  merge_same (some o) none h l z = absurd (omega arith)
  merge_same (some o) (some x) h l z = ap (λ (b : Bool). dyn_by b o x) (eq-eqb o x z) ∙ ap (λ (v : ℕ). ok (some v) st) z

  merge_both : (d e : Option ℕ) → 0 < length (dyn_ids d) → 0 < length (dyn_ids e) → (get_or (dyn_ids d) 0 0 ≡ get_or (dyn_ids e) 0 0 → ⊥)
      → merge_dyn d e st ≡ bind (store (Intersection (get_or (dyn_ids d) 0 0 ∷ get_or (dyn_ids e) 0 0 ∷ [])) st) (λ x. give (some x))
  merge_both none e h l z = absurd (omega arith)
  merge_both (some o) none h l z = absurd (omega arith)
  merge_both (some o) (some x) h l z = ap (λ (b : Bool). dyn_by b o x) (ne_eqb o x z)

-- g with the dyn x
abbrev with_dyn : Merging → ℕ → Merging
with_dyn g x = record { fields = g.fields; area = g.area; dyn_type = Some x }

got_dyn : {held : List ℕ} {g : Merging} {fs : List Field} {d : Option ℕ} {k k' x : ℕ} → Got held g fs d k → k ≤ k' → x < k' → Got held (with_dyn g x) fs (some x) k'
got_dyn {fs = fs} {k = k} {k' = k'} h le lt =
    record {
      count = h.count;
      holds = h.holds;
      keys = h.keys;
      types = under_most k k' (field_types fs) le h.types;
      dyns = refl;
      dyn = λ z. refl;
      dyn_below = (lt, tt);
    }

dyn_there : {w : List ℕ} {p n : ℕ} {t : Attr} → Dyns w p n → (n ≡ 0 → ⊥) → SetAt w p t → 0 < length (dyn_ids t.dyn)
dyn_there has filled at = omega (arith, has.is at, filled)

-- the dyn so far
module _ {g : Merging} {old : ℕ} (has_old : g.dyn_type ≡ Some old) {held : List ℕ} {fs : List Field} {d : Option ℕ} {k : ℕ} (got : Got held g fs d k) where
  old_there : 0 < length (dyn_ids d)
  old_there = omega (arith, sym got.dyns ∙ ap dyns_in has_old)

  old_is : old ≡ get_or (dyn_ids d) 0 0
  old_is = sym (ap dyn_in has_old) ∙ got.dyn old_there

-- `merge_dyn`
module _ {w : List ℕ} {q : Pass} {g : Merging} {p n : ℕ} (has : Dyns w p n) where
  pub dyn_none : n ≡ 0 → MergesDyn w q g p w (On g q)
  dyn_none e =
      record {
        is = λ held {st} {fs} {d} {t} on got at low.
            record {
              after = st;
              more = [];
              dyn = d;
              is = merge_none st d t.dyn (sym (has.is at) ∙ e);
              nodes = sym (append-nil st.nodes);
              stands = on;
              got = got;
              area = refl;
            };
      }

  module _ {new : ℕ} (filled : n ≡ 0 → ⊥) (ty : DynType w p new) where
    dyn_taken : {g' : Merging} {held : List ℕ} {st : State} {fs : List Field} {d : Option ℕ} {t : Attr} → g' ≡ with_dyn g new → Stands st w q → Got held g fs d q.nodes
        → SetAt w p t → Under q.nodes (dyn_ids t.dyn) → merge_dyn d t.dyn st ≡ ok (some (get_or (dyn_ids t.dyn) 0 0)) st
        → DynGot (merge_dyn d t.dyn st) fs st w held g g' q
    dyn_taken {g'} {held} {st} {fs} {d} {t} e on got at low z =
        let v = ty.is at (dyn_there has filled at) in
        subst (λ (m : Merging). DynGot (merge_dyn d t.dyn st) fs st w held g m q) (sym e)
        (record {
          after = st;
          more = [];
          dyn = some new;
          is = z ∙ ap (λ (x : ℕ). ok (some x) st) (sym v);
          nodes = sym (append-nil st.nodes);
          stands = on;
          got = got_dyn got (omega arith) (omega (arith, under_at q.nodes (dyn_ids t.dyn) 0 low (dyn_there has filled at)));
          area = refl;
        })

    pub dyn_first : g.dyn_type ≡ None → MergesDyn w q g p w (On (with_dyn g new) q)
    dyn_first e =
        record {
          is = λ held {st} {fs} {d} {t} on got at low.
              dyn_taken refl on got at low (merge_first st d t.dyn (sym got.dyns ∙ ap dyns_in e) (dyn_there has filled at));
        }

    module _ {old : ℕ} (has_old : g.dyn_type ≡ Some old) where
      pub dyn_same : old ≡ new → MergesDyn w q g p w (On g q)
      dyn_same e =
          record {
            is = λ held {st} {fs} {d} {t} on got at low.
                dyn_taken (ap (λ (o : std.Option ℕ). record { fields = g.fields; area = g.area; dyn_type = o }) (has_old ∙ ap Some e))
                on got at low (merge_same st d t.dyn (old_there has_old got) (dyn_there has filled at) (sym (old_is has_old got) ∙ e ∙ ty.is at (dyn_there has filled at)));
          }

      module _ {w' : List ℕ} {r : Given} (e : old ≡ new → ⊥) (h : Stored (6 ∷ 2 ∷ old ∷ new ∷ []) 2 w q w' r) where
        both_is : (st : State) {held : List ℕ} {fs : List Field} {d : Option ℕ} {t : Attr} → Got held g fs d q.nodes → SetAt w p t
            → merge_dyn d t.dyn st ≡ bind (store (Intersection (old ∷ new ∷ [])) st) (λ x. give (some x))
        both_is st {d = d} {t = t} got at =
            let l = old_there has_old got in
            let x = old_is has_old got in
            let y = ty.is at (dyn_there has filled at) in
            merge_both st d t.dyn l (dyn_there has filled at) (λ z. e (x ∙ z ∙ sym y))
            ∙ ap₂ (λ (a b : ℕ). bind (store (Intersection (a ∷ b ∷ [])) st) (λ v. give (some v))) (sym x) (sym y)

        both_stored : {held : List ℕ} {st : State} {fs : List Field} {d : Option ℕ} {t : Attr} → Stands st w q → Got held g fs d q.nodes → SetAt w p t
            → Under q.nodes (dyn_ids t.dyn) → Stores (store (Intersection (old ∷ new ∷ [])) st) w' r
        both_stored {d = d} {t = t} on got at low =
            let l = old_there has_old got in
            stored_intersection on h (omega (arith, old_is has_old got, under_at q.nodes (dyn_ids d) 0 got.dyn_below l))
            (omega (arith, ty.is at (dyn_there has filled at), under_at q.nodes (dyn_ids t.dyn) 0 low (dyn_there has filled at)))

        pub dyn_both : {x : ℕ} {q' : Pass} → r ≡ NodeG x q' → MergesDyn w q g p w' (On (with_dyn g x) q')
        dyn_both {x} {q'} f =
            record {
              is = λ held {st} {fs} {d} {t} on got at low.
                  let a = gives (both_stored on got at low) f in
                  let kept = store_keeps (Intersection (old ∷ new ∷ [])) st x a.after a.is in
                  let up = length-append st.nodes kept.grows.more in
                  record {
                    after = a.after;
                    more = kept.grows.more;
                    dyn = some x;
                    is = both_is st got at ∙ ap (λ (o : Out ℕ). bind o (λ v. give (some v))) a.is;
                    nodes = kept.grows.nodes;
                    stands = a.stands;
                    got =
                        got_dyn got (omega (arith, on.arena.count, a.stands.arena.count, ap length kept.grows.nodes))
                        (omega (arith, a.below, a.stands.arena.count));
                    area = refl;
                  };
            }

        pub dyn_refused : {k : ℕ} → r ≡ RefusedN k → MergesDyn w q g p w' (Refused k)
        dyn_refused f =
            record {
              is = λ held {st} {fs} {d} {t} on got at low.
                  both_is st got at ∙ ap (λ (o : Out ℕ). bind o (λ v. give (some v))) (refuses (both_stored on got at low) f);
            }

-- `other_area`
pub area_behind : {h a r : ℕ} → a ≡ h → Sum h area_length r → Fits w32 h → OtherArea h a r
area_behind {h} e sum le =
    record {
      low = ⊎_elim (λ z. let f = sum.is (omega arith) in omega arith) (λ z. let f = sum.full (omega arith) in omega arith) (eq-zero-or-pos (h + area_length - 4294967295));
      is = λ small o. inr (sum.is (omega arith));
      apart = λ small o. inl (let f = sum.is (omega arith) in omega arith);
    }

pub area_first : {h a : ℕ} → (a ≡ h → ⊥) → OtherArea h a h
area_first ne = record { low = omega arith; is = λ small o. inl refl; apart = λ small o. inr (⊎_elim (λ e. absurd (ne e)) (λ e. omega arith) o) }

-- a node stays a set as nodes are added
set_stays : {st st' : State} {q q' : Pass} {x : ℕ} {t : Attr} {w w' : List ℕ} (more : List rules.Node) → Stands st w q → Stands st' w' q'
    → st'.nodes ≡ st.nodes ++ more → SetNode st q x t → SetNode st' q' x t
set_stays {st} {st'} {x = x} more on on' e h =
    record {
      known = omega (arith, h.known, on.arena.count, on'.arena.count, ap length e, length-append st.nodes more);
      node = ap (λ (l : List rules.Node). node_at l x) e ∙ get_or-append st.nodes more Bottom x (omega (arith, h.known, on.arena.count)) ∙ h.node;
      keys = h.keys;
    }

-- the area that is not that of the fields is free
pub other_free : {held : List ℕ} {h a b : ℕ} → OtherArea h a b → Roomy held h → (a ≡ h) ⊎ (a ≡ h + area_length) → Free held a b
other_free other roomy which =
    record {
      room = ⊎_elim (λ z. omega (arith, roomy.room)) (λ z. omega (arith, roomy.room)) (other.is roomy.small which);
      apart = other.apart roomy.small which;
    }

-- `merge_one`
module _ {w : List ℕ} {q : Pass} {g : Merging} {x p : ℕ} {w1 : List ℕ} {first : Merged} (place : SetPlace w x p) (call1 : MergesDyn w q g p w1 first) where
  dyn_of_lem : {held : List ℕ} {st : State} {fs : List Field} {d : Option ℕ} {t : Attr} → Stands st w q → Got held g fs d q.nodes → SetNode st q x t
      → AnswersDyn (merge_dyn d t.dyn st) fs st w1 held g first
  dyn_of_lem {held} {t = t} on got node =
      let known = on.arena.count in
      let lt = node.known in
      call1.is held on got (place.is on.arena (omega arith) node.node)
      (under_most x q.nodes (dyn_ids t.dyn) (omega arith)
      (under_back x (field_types t.fields) (dyn_ids t.dyn)
      (subst (λ (n : rules.Node). Under x (children n)) node.node (on.arena.below x (omega arith)))))

  pub one_refused : {held : List ℕ} {h k : ℕ} → first ≡ Refused k → MergesOne w held h q g x w1 held (Refused k)
  one_refused {held} e =
      record {
        kept = λ c lt. refl;
        is = λ {st} {fs} {d} {t} left on got node roomy area then.
            ap (λ (o : Out (Option ℕ)). bind o (λ d' z. bind (merge_fields fs t.fields z) (λ fs'. merge_attrs fs' d' left then)))
            (subst (λ (m : Merged). AnswersDyn (merge_dyn d t.dyn st) fs st w1 held g m) e (dyn_of_lem on got node));
      }

  module _ {held : List ℕ} {h : ℕ} {g1 : Merging} {q1 : Pass} {b : ℕ} {w' held' : List ℕ} {m : Merged} (e : first ≡ On g1 q1) (other : OtherArea h g1.area b)
      (call2 : MergesFields w1 held q1 g1 x b w' held' m) where
    module _ {st : State} {fs : List Field} {d : Option ℕ} {t : Attr} (left : List Attr) (on : Stands st w q) (got : Got held g fs d q.nodes) (node : SetNode st q x t)
        (roomy : Roomy held h) (area : (g.area ≡ h) ⊎ (g.area ≡ h + area_length)) where
      abbrev mid : DynGot (merge_dyn d t.dyn st) fs st w1 held g g1 q1
      mid = subst (λ (m : Merged). AnswersDyn (merge_dyn d t.dyn st) fs st w1 held g m) e (dyn_of_lem on got node)

      which : (g1.area ≡ h) ⊎ (g1.area ≡ h + area_length)
      which = ⊎_elim (λ z. inl (mid.area ∙ z)) (λ z. inr (mid.area ∙ z)) area

      abbrev rest : Then → Option ℕ → State → Out ℕ
      rest then d' z = bind (merge_fields fs t.fields z) (λ fs'. merge_attrs fs' d' left then)

      one_by : (r : Merged) → AnswersFields (merge_fields fs t.fields mid.after) mid.dyn mid.after w' held' b r
          → AnswersMerged (λ then. merge_attrs fs d (t ∷ left) then st) left st w' held' h r
      one_by (On g' q') a =
          record {
            after = a.after;
            more = mid.more ++ a.more;
            fields = a.fields;
            dyn = mid.dyn;
            is = λ then.
                ap (λ (o : Out (Option ℕ)). bind o (rest then)) mid.is
                ∙ ap (λ (o : Out (List Field)). bind o (λ fs'. merge_attrs fs' mid.dyn left then)) a.is;
            nodes = a.nodes ∙ ap (λ (l : List rules.Node). l ++ a.more) mid.nodes ∙ append_assoc st.nodes mid.more a.more;
            stands = a.stands;
            got = a.got;
            area = ⊎_elim (λ z. inl (a.area ∙ z)) (λ z. inr (a.area ∙ z)) (other.is roomy.small which);
          }
      one_by (Refused k) a = λ then.
          ap (λ (o : Out (Option ℕ)). bind o (rest then)) mid.is ∙ ap (λ (o : Out (List Field)). bind o (λ fs'. merge_attrs fs' mid.dyn left then)) a

      one_answers : AnswersMerged (λ then. merge_attrs fs d (t ∷ left) then st) left st w' held' h m
      one_answers = one_by m (call2.is mid.stands mid.got (set_stays mid.more on mid.stands mid.nodes node) (other_free other roomy which))

    pub one_merged : MergesOne w held h q g x w' held' m
    one_merged =
        record {
          kept = λ c lt. call2.kept c (omega (arith, other.low));
          is = λ left on got node roomy area. one_answers left on got node roomy area;
        }

-- the sets of members, the first of them first
pub set_of_lem : (n : rules.Node) → kind_of n ≡ 4 → n ≡ AttrSet (attr_at (encode n) 1)
set_of_lem n e = sym (node_of n 4 e)

abbrev pub set_at : List rules.Node → List ℕ → ℕ → Attr
set_at ns xs i = attr_at (encode (node_at ns (get_or xs i 0))) 1

pub attrs_drop : (ns : List rules.Node) (xs : List ℕ) (i : ℕ) → AllSets ns xs → i < length xs → attrs_of ns (drop i xs) ≡ set_at ns xs i ∷ attrs_of ns (drop (i + 1) xs)
attrs_drop ns xs i all lt =
    ap (attrs_of ns) (drop-cons xs i 0 lt)
    ∙ ap (λ (n : rules.Node). attr_of (as_attr n) ++ attrs_of ns (drop (suc i) xs)) (set_of_lem (node_at ns (get_or xs i 0)) (all.is i lt))
    ∙ ap (λ (j : ℕ). set_at ns xs i ∷ attrs_of ns (drop j xs)) (sym (add-one i))

-- `merge_sets` at member i
pub record Passing (w₀ held₀ : List ℕ) (h : ℕ) (p : Pass) (s : Members) (w held : List ℕ) (g : Merging) (q : Pass) (i : ℕ) : Type 0 where
  pub few : i ≤ s.count
  pub small : s.count ≤ 4294967295
  pub words : length w ≡ length w₀
  pub cells : length held ≡ length held₀
  pub kept : (c : ℕ) → c < h → cell held c ≡ cell held₀ c
  pub is : {st : State} {xs : List ℕ} → Stands st w₀ p → Ordered st.nodes → Taken s xs p.nodes → AllSets st.nodes xs → Roomy held₀ h
      → Arrived (λ then. merge_attrs [] none (attrs_of st.nodes xs) then st) (attrs_of st.nodes (drop i xs)) st w held h g q

pub passing_start : {w held : List ℕ} {h : ℕ} {p : Pass} {s : Members} → s.count ≤ 4294967295 → Passing w held h p s w held (record { fields = 0; area = h; dyn_type = None }) p 0
passing_start {held = held} {h = h} small =
    record {
      few = omega arith;
      small = small;
      words = refl;
      cells = refl;
      kept = λ c lt. refl;
      is = λ {st} on ordered m all roomy.
          record {
            after = st;
            more = [];
            fields = [];
            dyn = none;
            is = λ then. refl;
            nodes = sym (append-nil st.nodes);
            stands = on;
            got = record {
              count = refl;
              holds = holds_none held h;
              keys = omega arith;
              types = tt;
              dyns = refl;
              dyn = λ l. absurd (omega arith);
              dyn_below = tt;
            };
            area = inl refl;
          };
    }

module _ {w₀ held₀ : List ℕ} {h : ℕ} {p : Pass} {s : Members} {w held : List ℕ} {g : Merging} {q : Pass} {i : ℕ} (inv : Passing w₀ held₀ h p s w held g q i) where
  module _ {y : ℕ} {w' held' : List ℕ} {r : Merged} (call : MergesOne w held h q g y w' held' r) (lt : i < s.count) (e : y ≡ cell s.at i) where
    module _ {st : State} {xs : List ℕ} (on : Stands st w₀ p) (ordered : Ordered st.nodes) (m : Taken s xs p.nodes) (all : AllSets st.nodes xs)
        (roomy : Roomy held₀ h) where
      abbrev sofar : Arrived (λ then. merge_attrs [] none (attrs_of st.nodes xs) then st) (attrs_of st.nodes (drop i xs)) st w held h g q
      sofar = inv.is on ordered m all roomy

      abbrev left : List Attr
      left = attrs_of st.nodes (drop (i + 1) xs)

      inside : i < length xs
      inside = omega (arith, m.list.count)

      node_is : node_at st.nodes y ≡ AttrSet (set_at st.nodes xs i)
      node_is =
          ap (node_at st.nodes) (few_at m.list e lt) ∙ set_of_lem (node_at st.nodes (get_or xs i 0)) (all.is i inside)

      set_node : SetNode st p y (set_at st.nodes xs i)
      set_node =
          let known = few_below m e lt in
          let o : Orderly (set_at st.nodes xs i) = subst (λ (v : rules.Node). OrderlySet (as_attr v)) node_is (ordered.is y (omega (arith, on.arena.count))) in
          record {
            known = known;
            node = node_is;
            keys = rise_of 0 most_names (set_at st.nodes xs i).fields (omega arith) o.ascend o.named (λ z. omega arith);
          }

      went : AnswersMerged (λ then. merge_attrs sofar.fields sofar.dyn (set_at st.nodes xs i ∷ left) then sofar.after) left sofar.after w' held' h r
      went =
          call.is left sofar.stands sofar.got (set_stays sofar.more on sofar.stands sofar.nodes set_node)
          (record { room = omega (arith, roomy.room, inv.cells); small = roomy.small }) sofar.area

      before : (then : Then) → merge_attrs [] none (attrs_of st.nodes xs) then st ≡ merge_attrs sofar.fields sofar.dyn (set_at st.nodes xs i ∷ left) then sofar.after
      before then = sofar.is then ∙ ap (λ (l : List Attr). merge_attrs sofar.fields sofar.dyn l then sofar.after) (attrs_drop st.nodes xs i all inside)

      passed_by : (o : Merged) → AnswersMerged (λ then. merge_attrs sofar.fields sofar.dyn (set_at st.nodes xs i ∷ left) then sofar.after) left sofar.after w' held' h o
          → AnswersMerged (λ then. merge_attrs [] none (attrs_of st.nodes xs) then st) left st w' held' h o
      passed_by (On g' q') a =
          record {
            after = a.after;
            more = sofar.more ++ a.more;
            fields = a.fields;
            dyn = a.dyn;
            is = λ then. before then ∙ a.is then;
            nodes = a.nodes ∙ ap (λ (l : List rules.Node). l ++ a.more) sofar.nodes ∙ append_assoc st.nodes sofar.more a.more;
            stands = a.stands;
            got = a.got;
            area = a.area;
          }
      passed_by (Refused k) a = λ then. before then ∙ a then

      passed : AnswersMerged (λ then. merge_attrs [] none (attrs_of st.nodes xs) then st) left st w' held' h r
      passed = passed_by r went

    pub passing_more : {g' : Merging} {q' : Pass} → r ≡ On g' q' → length w' ≡ length w → length held' ≡ length held → Passing w₀ held₀ h p s w' held' g' q' (i + 1)
    passing_more f wide long =
        record {
          few = omega arith;
          small = inv.small;
          words = wide ∙ inv.words;
          cells = long ∙ inv.cells;
          kept = λ c l. call.kept c l ∙ inv.kept c l;
          is = λ {st} {xs} on ordered m all roomy.
              subst (λ (o : Merged). AnswersMerged (λ then. merge_attrs [] none (attrs_of st.nodes xs) then st) (attrs_of st.nodes (drop (i + 1) xs)) st w' held' h o) f
              (passed on ordered m all roomy);
        }

    pub passing_refused : {k : ℕ} → r ≡ Refused k → MergesAll w₀ held₀ h p s w' held' (Refused k)
    passing_refused f =
        record {
          kept = λ c l. call.kept c l ∙ inv.kept c l;
          is = λ {st} {xs} on ordered m all roomy.
              subst (λ (o : Merged). AnswersMerged (λ then. merge_attrs [] none (attrs_of st.nodes xs) then st) (attrs_of st.nodes (drop (i + 1) xs)) st w' held' h o) f
              (passed on ordered m all roomy);
        }

  pub passing_done : s.count ≤ i → MergesAll w₀ held₀ h p s w held (On g q)
  passing_done le =
      record {
        kept = inv.kept;
        is = λ {st} {xs} on ordered m all roomy.
            subst (λ (l : List ℕ). Arrived (λ then. merge_attrs [] none (attrs_of st.nodes xs) then st) (attrs_of st.nodes l) st w held h g q)
            (drop_of_length-le xs {i = i} (omega (arith, m.list.count))) (inv.is on ordered m all roomy);
      }
