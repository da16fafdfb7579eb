-- The merged set: what holds of all sets, its row, and the node that stands for them. Assumes nothing.
use mathlib.Core.Path.{◌≡◌, refl, sym, ap, ap₂, ◌∙◌, subst}
use mathlib.Core.Bool.{Bool, true, false, not}
use Prim.Native.Nat.{ℕ, zero, suc, ◌+◌, ◌*◌, ◌≤◌, ◌<◌}
use native.Mathlib.Omega.{arith}
use native.Mathlib.Nat.{not-suc-le-zero}
use mathlib.Core.List.{List, [], ◌∷◌, ◌++◌}
use lib.ListN.{length, get_or, take, drop, set, length-set, length-append, length-map, drop_of_length-le, get_or-append}
use lib.Seq.{get_or-set_same, get_or-set_other, append_snoc}
use lib.Dec.{eqb}
use borrow.Author.Tests.{eqb-true, eqb-false}
use Rattle.cells.specs.Part.{cell, part, if}
use Rattle.cells.specs.Sum.{Sum}
use Rattle.cells.proofs.Holding.{holds_none, holds_place, holds_cons}
use Rattle.rules.specs.Ceilings.{most_members, most_names}
use Rattle.rules.specs.Plain.{all, filter, empty}
use Rattle.rules.specs.Table.{Field, Attr, field_keys, field_types, dyn_ids}
use Rattle.rules.specs.Types.{State, Out, bind, give, TyVar, Primitive, ListOf, Lambda, AttrSet, Union, Intersection, Named, Neg, Bottom, Top, field_words, dyn_words, kind_of, node_at, as_attr, store}
use Rattle.rules.specs.Types as rules
use Rattle.rules.specs.Members.{merge_attrs, optional_in_all, open_if_all, attr_of, attrs_of, merge_attrset_intersection}
use Rattle.laws.specs.Sound.{OrderlySet}
use Rattle.laws.proofs.Ascending.{ascending_of, ascending_filter}
use Rattle.laws.proofs.Rows.{field_words_length, dyn_words_length, few_dyns}
use Rattle.laws.proofs.Storing.{store_keeps}
use Rattle.lang_ty.specs.declared.arena.Pass.{Pass}
use Rattle.lang_ty.specs.Given.{Given}
use Rattle.lang_ty.specs.Nodes.{highest, Arena, Stands, Interned, Written, Answers as Stores}
use Rattle.lang_ty.specs.Nodes as nodes
use Rattle.lang_ty.specs.Sets.{Open}
use Rattle.lang_ty.specs.Shapes.{SetPlace}
use Rattle.lang_ty.proofs.Words.{high}
use Rattle.lang_ty.proofs.Rows.{stored_row, written_more, written_list, written_both, written_two, stands_below}
use Rattle.members.specs.declared.lists.Members.{Members}
use Rattle.members.specs.Flow.{On as OnF, Refused as RefusedF}
use Rattle.members.specs.Listed.{Listed}
use Rattle.merge.specs.declared.Merging.{Merging}
use Rattle.merge.specs.Merged.{Merged}
use Rattle.merge.specs.Merged.{On, Refused}
use Rattle.members.specs.Lists.{Few, Taken, Makes, of_kind, sift, WithLast, Answers, first_of}
use Rattle.merge.specs.Merges.{Roomy, MergesSets, Rise, Got, dyns_in, dyn_in, Free, OtherArea, Then, Arrived, AllSets, MergesAll, OpenIfAll, ListsKeys, KeyList, SievesAll}
use Rattle.merge.specs.Merges.{front_words, back_words, WritesDyn, WritesFields, WritesFlags, optional_keys, WritesOptional, merged_node, StoresMerged}
use Rattle.merge.specs.Merges.{MergedLast}
use Rattle.laws.proofs.Filtering.{filter_length, under_at, under_both, under_most}
use Rattle.merge.proofs.Fields.{rise_length, rise_rising, rise_under}
use Rattle.merge.proofs.MergeFields.{holds_alike}
use Rattle.merge.proofs.MergeSets.{other_free, attrs_drop, set_at}
use Rattle.merge.proofs.Sieving.{set_at_lem}
use Rattle.cells.specs.Placed.{Under}
use Rattle.std.specs.Bool.{MatchBool}
use Rattle.std.proofs.lemmas.List.{get_or-take, length-take}
use Rattle.std.specs.List.{AllWithin, HoldsAt}
use mir.Val.{bool_byte}
use mathlib.Core.Option.{Option, none, some}
use Rattle.std.specs.Prelude.{Some, None}

-- what is told of a set: whether it is open
pub record Told (w : List ℕ) (x : ℕ) (b : Bool) : Type 0 where
  pub p : ℕ
  pub o : ℕ
  pub place : SetPlace w x p
  pub flag : Open w p o
  pub is : b ≡ eqb o 1

-- the answer where the first set is open or not
abbrev open_by : Bool → List Attr → ℕ
open_by b ts = if (if b (λ _. all (λ (a : Attr). eqb a.is_open 1) ts) (λ _. false)) (λ _. 1) (λ _. 0)

closed_by : (b : Bool) (ts : List Attr) → open_if_all ts ≡ 0 → open_by b ts ≡ 0
closed_by true ts e = e
closed_by false ts e = refl

-- `open_if_all`
module _ {w ms xs : List ℕ} {n : ℕ} {q : Pass} {ns : List rules.Node} (h : Arena w q ns) (m : Taken (first_of n ms) xs (length ns)) (sets : AllSets ns xs) where
  first_told : {b : Bool} (i : ℕ) → i < length xs → Told w (cell ms i) b → open_if_all (attrs_of ns (drop i xs)) ≡ open_by b (attrs_of ns (drop (i + 1) xs))
  first_told {b} i lt t =
      ap open_if_all (attrs_drop ns xs i sets lt)
      ∙ ap (λ (v : Bool). open_by v (attrs_of ns (drop (i + 1) xs)))
      (ap (λ (v : ℕ). eqb v 1) (sym (t.flag.is (set_at_lem h sets t.place m refl (omega (arith, m.list.count))))) ∙ sym t.is)

  -- one that is not open, whatever is before it
  closed_from : (i : ℕ) → i < length xs → Told w (cell ms i) false → (j k : ℕ) → j + k ≡ i → open_if_all (attrs_of ns (drop j xs)) ≡ 0
  closed_from i lt t j zero e = subst (λ (v : ℕ). open_if_all (attrs_of ns (drop v xs)) ≡ 0) (sym e ∙ omega arith) (first_told i lt t)
  closed_from i lt t j (suc k) e =
      ap open_if_all (attrs_drop ns xs j sets (omega arith))
      ∙ closed_by (eqb (set_at ns xs j).is_open 1) (attrs_of ns (drop (j + 1) xs)) (closed_from i lt t (j + 1) k (omega arith))

  open_from : ((i : ℕ) → i < length xs → Told w (cell ms i) true) → (j k : ℕ) → j + k ≡ length xs → open_if_all (attrs_of ns (drop j xs)) ≡ 1
  open_from t j zero e = ap (λ (l : List ℕ). open_if_all (attrs_of ns l)) (drop_of_length-le xs {i = j} (omega arith))
  open_from t j (suc k) e = first_told j (omega arith) (t j (omega arith)) ∙ open_from t (j + 1) k (omega arith)

  -- a place of the first n members
  place_told : (P : ℕ → Type 0) {i : ℕ} → length ms ≡ most_members → i < length xs → P (get_or (take n ms) i 0) → P (cell ms i)
  place_told P {i} room lt p = subst P (get_or-take n ms i 0 (omega (arith, m.list.count))) p

module _ {w ms : List ℕ} {n o : ℕ} where
  pub told_by : (r : Bool) → length ms ≡ most_members → MatchBool r (AllWithin (λ x. Told w x true) (take n ms) 0 (length (take n ms)))
      ((k : ℕ) × (k < length (take n ms)) × HoldsAt (λ x. Told w x false) (take n ms) k) → o ≡ bool_byte r → OpenIfAll w ms n o
  told_by true room t e =
      record {
        is = λ {q} {ns} {xs} h m sets.
            e ∙ sym (open_from h m sets (λ i lt. place_told h m sets (λ x. Told w x true) room lt (t i 0 (omega arith) (omega (arith, m.list.count, m.list.few, length-take n ms)))) 0 (length xs) (omega arith));
      }
  told_by false room t e =
      record {
        is = λ {q} {ns} {xs} h m sets.
            e ∙ sym (closed_from h m sets t.0 (omega (arith, t.1, m.list.count, length-take n ms)) (place_told h m sets (λ x. Told w x false) room (omega (arith, t.1, m.list.count, length-take n ms)) (t.2 0)) 0 t.0 (omega arith));
      }

-- the words of a dyn
words_none : (d : Option ℕ) → length (dyn_ids d) ≡ 0 → dyn_words d ≡ 0 ∷ []
words_none none e = refl
words_none (some x) e = absurd (omega arith)

words_some : (d : Option ℕ) → (length (dyn_ids d) ≡ 0 → ⊥) → dyn_words d ≡ 1 ∷ get_or (dyn_ids d) 0 0 ∷ []
words_some none e = absurd (e refl)
words_some (some x) e = refl

front_length : (fs : List Field) (d : Option ℕ) → length (front_words fs d) ≡ 3 + 2 * length fs + length (dyn_ids d)
front_length fs d = omega (arith, length-append (field_words fs) (dyn_words d), field_words_length fs, dyn_words_length d)

got_few : {held : List ℕ} {g : Merging} {fs : List Field} {d : Option ℕ} {k : ℕ} → Got held g fs d k → length fs ≤ most_names
got_few {fs = fs} got = omega (arith, rise_length 0 most_names fs got.keys)

-- how many words there are before the dyn
before_dyn : {held : List ℕ} {g : Merging} {fs : List Field} {dyn : Option ℕ} {k n d : ℕ} → Got held g fs dyn k → Sum g.fields g.fields n → Sum n 2 d → d ≡ 2 + 2 * length fs
before_dyn got two more =
    let few = got_few got in
    let c = got.count in
    let x = two.is (omega arith) in
    more.is (omega arith) ∙ omega arith

-- `write_dyn`
module _ {w : List ℕ} {t d p : ℕ} {g : Merging} (e1 : p ≡ t + d) where
  pub dyn_lacks : {w1 : List ℕ} {r : ℕ} → g.dyn_type ≡ None → w1 ≡ set w p 0 → Sum d 1 r → WritesDyn w t d g w1 r
  dyn_lacks e first last =
      let none_there = ap dyns_in e in
      record {
        is = λ {dyn = dyn} {xs = xs} got h size le.
            written_list (ap (λ (l : List ℕ). xs ++ l) (sym (words_none dyn (sym got.dyns ∙ none_there))))
            (written_more 0 h (omega arith) first);
        size = λ {dyn = dyn} got le. last.is (omega arith) ∙ omega (arith, dyn_words_length dyn, sym got.dyns ∙ none_there);
      }

  pub dyn_has : {w1 w2 : List ℕ} {x o p2 r : ℕ} → g.dyn_type ≡ Some x → w1 ≡ set w p 1 → w2 ≡ set w1 p2 x → p2 ≡ t + o → Sum d 1 o → Sum d 2 r → WritesDyn w t d g w2 r
  dyn_has {x = x} e first second e2 next last =
      let one = ap dyns_in e in
      record {
        is = λ {dyn = dyn} {xs = xs} got h size le.
            let there : length (dyn_ids dyn) ≡ 1 = sym got.dyns ∙ one in
            let y = sym (ap dyn_in e) ∙ got.dyn (omega arith) in
            let z = next.is (omega arith) in
            written_list
            (append_snoc xs 1 (x ∷ [])
            ∙ ap (λ (l : List ℕ). xs ++ l) (ap (λ (v : ℕ). 1 ∷ v ∷ []) y ∙ sym (words_some dyn (λ v. omega arith))))
            (written_more x (written_more 1 h (omega arith) first) (omega (arith, length-append xs (1 ∷ []))) second);
        size = λ {dyn = dyn} got le. last.is (omega arith) ∙ omega (arith, dyn_words_length dyn, sym got.dyns ∙ one);
      }

-- `write_fields`
module _ {w w1 w2 w3 w' held : List ℕ} {t p f n d r : ℕ} {g : Merging} (two : Sum g.fields g.fields n) (first : w1 ≡ set w t 4) (e : p ≡ t + 1)
    (second : w2 ≡ set w1 p g.fields) (sum : Sum t 2 f) (rest : Written f w2 w3 (part held g.area n)) (more : Sum n 2 d) (last : WritesDyn w3 t d g w' r) where
  front : {fs : List Field} {dyn : Option ℕ} {k : ℕ} → Got held g fs dyn k → t ≤ highest → Written t w w3 (4 ∷ length fs ∷ field_words fs)
  front {fs} got le =
      let few = got_few got in
      let c = got.count in
      let n-is : n ≡ length (field_words fs) = two.is (omega arith) ∙ omega (arith, field_words_length fs) in
      written_list (ap₂ (λ (a : ℕ) (l : List ℕ). 4 ∷ a ∷ l) c (ap (part held g.area) n-is ∙ got.holds.is))
      (written_both (written_two first e second) (sum.is (omega arith)) rest)

  pub writes_fields : WritesFields w t held g w' r
  writes_fields =
      record {
        is = λ {fs} got le.
            let few = got_few got in
            let x = before_dyn got two more in
            last.is got (front got le) (omega (arith, field_words_length fs)) (omega arith);
        size = λ {fs} {d = dyn} got.
            let few = got_few got in
            let x = before_dyn got two more in
            last.size got (omega arith) ∙ omega (arith, front_length fs dyn, dyn_words_length dyn);
      }

-- the nodes stand in a slice that is alike below the top
arena_alike : {w w' : List ℕ} {q : Pass} {ns : List rules.Node} → Arena w q ns → length w' ≡ length w → ((k : ℕ) → k < cell w q.nodes → cell w' k ≡ cell w k) → Arena w' q ns
arena_alike {w} {w'} {q} {ns} h e f =
    (stands_below
    {st = record { nodes = ns; cells = q.cells; keys = []; bits = []; ops = q.ops; sorted = q.sorted; bailed = q.bailed }}
    (record { arena = h; cells = refl; ops = refl; sorted = refl; bailed = refl })
    (record { same_length = e; below = f; row = λ z. holds_none w' (cell w q.nodes) })).arena

-- `write_optional`
module _ {w w' held held1 held2 : List ℕ} {o b k : ℕ} {g : Merging} {m : Members} (lists : ListsKeys held g.area g.fields b held1)
    (all : SievesAll w held1 b g.fields m.at m.count held2 k) (copied : Written o w w' (part held2 b k)) where
  left : {q : Pass} {ns : List rules.Node} {xs : List ℕ} {fs : List Field} {d : Option ℕ} {n : ℕ} → Arena w q ns → Taken m xs (length ns) → AllSets ns xs
      → Got held g fs d n → Free held g.area b → KeyList held2 b k (optional_keys (attrs_of ns xs) fs)
  left {fs = fs} h taken sets got free =
      let wrote = lists.is fs got.count got.holds (got_few got) free in
      let few = got_few got in
      let long = length-map fs (λ (f : Field). f.key) in
      all.is h taken sets
      (record {
        count = got.count ∙ sym long;
        holds = wrote.row (omega (arith, free.room));
        ascend = ascending_of (field_keys fs) (rise_rising 0 most_names fs got.keys).1;
        few = omega arith;
        room = omega (arith, free.room, wrote.same_length);
      })

  pub writes_optional : WritesOptional w o held b g m w' held2 k
  writes_optional =
      record {
        kept = λ c lt. all.kept c lt ∙ lists.kept c lt;
        is = λ h taken sets got free. let l = left h taken sets got free in written_list (ap (part held2 b) l.count ∙ l.holds.is) copied;
        size = λ h taken sets got free. (left h taken sets got free).count;
      }

-- `write_flags`
module _ (opens : ℕ) {w w2 w3 w4 held held' : List ℕ} {o o2 b k p : ℕ} {g : Merging} {m : Members} (e2 : w2 ≡ set w o opens) (so2 : Sum o 2 o2)
    (opt : WritesOptional w2 o2 held b g m w3 held' k) (ep : p ≡ o + 1) (e4 : w4 ≡ set w3 p k) where
  module _ {q : Pass} {ns : List rules.Node} {xs : List ℕ} {fs : List Field} {d : Option ℕ} {n : ℕ} (h : Arena w q ns) (taken : Taken m xs (length ns))
      (sets : AllSets ns xs) (got : Got held g fs d n) (free : Free held g.area b) (low : cell w q.nodes ≤ o) (le : o + 2 ≤ 4294967295) where
    abbrev opts : List ℕ
    opts = optional_keys (attrs_of ns xs) fs

    o2_is : o2 ≡ suc (suc o)
    o2_is = so2.is le ∙ omega arith

    long2 : length w2 ≡ length w
    long2 = ap length e2 ∙ length-set w o opens

    below2 : (c : ℕ) → c < o → cell w2 c ≡ cell w c
    below2 c lt = ap (λ (v : List ℕ). cell v c) e2 ∙ get_or-set_other w o c opens 0 (omega arith)

    then : Arena w2 q ns
    then = arena_alike h long2 (λ c lt. below2 c (omega arith))

    chose : Written o2 w2 w3 opts
    chose = opt.is then taken sets got free

    k_is : k ≡ length opts
    k_is = opt.size then taken sets got free

    -- below the optional keys only their number comes last
    below4 : (c : ℕ) → c < o2 → (c ≡ p → ⊥) → cell w4 c ≡ cell w2 c
    below4 c lt ne = ap (λ (v : List ℕ). cell v c) e4 ∙ get_or-set_other w3 p c k 0 ne ∙ chose.below c lt

    flagged : Written o w w4 (back_words opens opts)
    flagged =
        let two = o2_is in
        let l = long2 in
        record {
          same_length = ap length e4 ∙ length-set w3 p k ∙ chose.same_length ∙ long2;
          below = λ c lt. below4 c (omega arith) (λ z. omega arith) ∙ below2 c lt;
          row = λ room.
              holds_cons (below4 o (omega arith) (λ z. omega arith) ∙ ap (λ (v : List ℕ). cell v o) e2 ∙ get_or-set_same w o opens 0 (omega arith))
              (holds_cons
              (ap₂ (λ (v : List ℕ) (i : ℕ). cell v i) e4 (sym (ep ∙ omega arith)) ∙ get_or-set_same w3 p k 0 (omega (arith, chose.same_length)) ∙ k_is)
              (holds_place two
              (holds_alike (chose.row (omega arith)) (λ i lo hi. ap (λ (v : List ℕ). cell v i) e4 ∙ get_or-set_other w3 p i k 0 (λ z. omega arith)))));
        }

  pub writes_flags : WritesFlags w o opens held b g m w4 held' k
  writes_flags =
      record {
        kept = opt.kept;
        is = λ h taken sets got free low le. flagged h taken sets got free low le;
        size = λ h taken sets got free low le. k_is h taken sets got free low le;
      }

-- the keys of the merged set are in order
orderly_merged : (ts : List Attr) {fs : List Field} (d : Option ℕ) → Rise 0 most_names fs → OrderlySet (as_attr (merged_node ts fs d))
orderly_merged ts {fs} d h =
    let up = ascending_of (field_keys fs) (rise_rising 0 most_names fs h).1 in
    record {
      ascend = up;
      named = rise_under 0 most_names fs h;
      few = omega (arith, filter_length (optional_in_all ts) (field_keys fs), length-map fs (λ (f : Field). f.key), rise_length 0 most_names fs h);
      optional = ascending_filter (optional_in_all ts) (field_keys fs) up;
    }

-- `store_merged`
module _ {w w1 w2 held held' w' : List ℕ} {q : Pass} {g : Merging} {m : Members} {t opens len o b k l2 l3 f2 cells : ℕ} {r : Given}
    (top : nodes.Top w q t) (op : OpenIfAll w m.at m.count opens) (front : WritesFields w t held g w1 len) (so : Sum t len o)
    (flags : WritesFlags w1 o opens held b g m w2 held' k) (sl2 : Sum len 2 l2) (sl3 : Sum l2 k l3) (sf2 : Sum g.fields g.fields f2) (sc : Sum f2 k cells)
    (int : Interned w2 q l3 cells w' r) where
  module _ {st : State} {xs : List ℕ} {fs : List Field} {d : Option ℕ} (on : Stands st w q) (taken : Taken m xs q.nodes) (sets : AllSets st.nodes xs)
      (got : Got held g fs d q.nodes) (free : Free held g.area b) where
    abbrev ts : List Attr
    ts = attrs_of st.nodes xs

    abbrev keys : List ℕ
    keys = optional_keys ts fs

    low : t ≤ highest
    low = omega (arith, top.is, on.arena.top, on.arena.few, on.arena.cells)

    wrote : Written t w w1 (front_words fs d)
    wrote = front.is got low

    len_few : length (front_words fs d) ≤ 2052
    len_few = omega (arith, front_length fs d, few_dyns d, got_few got)

    o_is : o ≡ t + length (front_words fs d)
    o_is =
        let a = front.size got in
        let b = len_few in
        let c = low in
        so.is (omega arith) ∙ omega arith

    o_few : o + 2 ≤ 4294967295
    o_few = omega (arith, o_is, len_few, low)

    known : Taken m xs (length st.nodes)
    known = subst (λ (n : ℕ). Taken m xs n) (sym on.arena.count) taken

    now : Arena w1 q st.nodes
    now = arena_alike on.arena wrote.same_length (λ c lt. wrote.below c (omega (arith, top.is)))

    top_under : cell w1 q.nodes ≤ o
    top_under = omega (arith, top.is, o_is, wrote.below q.nodes (omega (arith, top.is, high on.arena, on.arena.few)))

    keys_few : length keys ≤ most_names
    keys_few = omega (arith, filter_length (optional_in_all ts) (field_keys fs), length-map fs (λ (f : Field). f.key), got_few got)

    row : Written t w w2 (front_words fs d ++ back_words (open_if_all ts) keys)
    row =
        written_both wrote o_is
        (written_list (ap (λ (v : ℕ). back_words v keys) (op.is on.arena known sets)) (flags.is now known sets got free top_under o_few))

    stored_merged : Stores (store (merged_node ts fs d) st) w' r
    stored_merged =
        let few = len_few in
        let few' = keys_few in
        let c = flags.size now known sets got free top_under o_few in
        let n = front.size got in
        let x = sl2.is (omega arith) in
        let y = sl3.is (omega arith) in
        let long = length-append (front_words fs d) (back_words (open_if_all ts) keys) in
        let u = got_few got in
        let v = got.count in
        let f = sf2.is (omega arith) in
        (stored_row top row (omega arith) int).is {n = merged_node ts fs d} on
        (record {
          cells = sym (sc.is (omega arith) ∙ omega arith);
          few = omega arith;
          ordered = orderly_merged ts d got.keys;
          below = under_both q.nodes (field_types fs) (dyn_ids d) got.types got.dyn_below;
          short = omega arith;
        })
        refl

  pub stores_merged : StoresMerged w held b q g m w' held' r
  stores_merged = record { kept = flags.kept; is = λ on taken sets got free. stored_merged on taken sets got free }

-- sets stay as nodes are added
attrs_stay : (ns more : List rules.Node) (xs : List ℕ) → Under (length ns) xs → attrs_of (ns ++ more) xs ≡ attrs_of ns xs
attrs_stay ns more [] u = refl
attrs_stay ns more (x ∷ xs) u =
    ap₂ (λ (n : rules.Node) (l : List Attr). attr_of (as_attr n) ++ l) (get_or-append ns more Bottom x u.0) (attrs_stay ns more xs u.1)

-- `merged_last`
module _ {w held : List ℕ} {h : ℕ} {m n : Members} where
  module _ {w' held' : List ℕ} {g : Merging} {q : Pass} {b : ℕ} {v : Given} {r : Listed} (other : OtherArea h g.area b)
      (call : StoresMerged w held b q g m w' held' v) (last : WithLast n v r) where
    module _ (before : Then → Out ℕ) (st : State) {xs ys : List ℕ} (here : Arrived before [] st w held h g q) (taken : Taken m xs (length st.nodes))
        (sets : AllSets st.nodes xs) (roomy : Roomy held h) (few : Few n ys) (lt : length ys < most_members) (u : Under (length st.nodes) ys) where
      longer : length st.nodes ≤ length here.after.nodes
      longer = omega (arith, ap length here.nodes, length-append st.nodes here.more)

      same_sets : attrs_of here.after.nodes xs ≡ attrs_of st.nodes xs
      same_sets = ap (λ (l : List rules.Node). attrs_of l xs) here.nodes ∙ attrs_stay st.nodes here.more xs taken.below

      still_sets : AllSets here.after.nodes xs
      still_sets =
          record {
            is = λ i l.
                ap kind_of
                (ap (λ (v : List rules.Node). node_at v (get_or xs i 0)) here.nodes
                ∙ get_or-append st.nodes here.more Bottom (get_or xs i 0) (under_at (length st.nodes) xs i taken.below l))
                ∙ sets.is i l;
          }

      abbrev o : Out ℕ
      o = store (merged_node (attrs_of st.nodes xs) here.fields here.dyn) here.after

      stored : Stores o w' v
      stored =
          subst (λ (l : List Attr). Stores (store (merged_node l here.fields here.dyn) here.after) w' v) same_sets
          (call.is here.stands
          (record { list = taken.list; below = under_most (length st.nodes) q.nodes xs (omega (arith, longer, here.stands.arena.count)) taken.below })
          still_sets here.got (other_free other roomy here.area))

      last_answers : Answers (bind (before (λ fs d. store (merged_node (attrs_of st.nodes xs) fs d))) (λ x. give (ys ++ (x ∷ [])))) w' r
      last_answers =
          subst (λ (v : Out ℕ). Answers (bind v (λ x. give (ys ++ (x ∷ [])))) w' r) (sym (here.is (λ fs d. store (merged_node (attrs_of st.nodes xs) fs d))))
          (last.is o w' stored few lt
          (λ x st' z.
          let kept = store_keeps (merged_node (attrs_of st.nodes xs) here.fields here.dyn) here.after x st' z in
          under_most (length st.nodes) (length st'.nodes) ys
          (omega (arith, longer, ap length kept.grows.nodes, length-append here.after.nodes kept.grows.more)) u))

    pub last_merged : MergedLast w held h (On g q) m n w' held' r
    last_merged =
        record {
          kept = λ c lt. call.kept c (omega (arith, other.low));
          is = λ before st a taken sets roomy few lt u. last_answers before st a taken sets roomy few lt u;
        }

-- the sets among the members
attr_none : (n : rules.Node) → (kind_of n ≡ 4 → ⊥) → attr_of (as_attr n) ≡ []
attr_none (TyVar x) h = refl
attr_none (Primitive c) h = refl
attr_none (ListOf a) h = refl
attr_none (Lambda a b) h = refl
attr_none (AttrSet t) h = absurd (h refl)
attr_none (Union ms) h = refl
attr_none (Intersection ms) h = refl
attr_none (Named n a) h = refl
attr_none (Neg a) h = refl
attr_none Bottom h = refl
attr_none Top h = refl

module _ (ns : List rules.Node) where
  abbrev sets_in : List ℕ → List ℕ
  sets_in xs = filter (of_kind 4 true ns) xs

  abbrev others_in : List ℕ → List ℕ
  others_in xs = filter (of_kind 4 false ns) xs

  attrs_turn : (b : Bool) (x : ℕ) (xs : List ℕ) → rules.is ns 4 x ≡ b → attrs_of ns (sets_in xs) ≡ attrs_of ns xs
      → attrs_of ns (if b (λ _. x ∷ sets_in xs) (λ _. sets_in xs)) ≡ attr_of (as_attr (node_at ns x)) ++ attrs_of ns xs
  attrs_turn true x xs e h = ap (λ (l : List Attr). attr_of (as_attr (node_at ns x)) ++ l) h
  attrs_turn false x xs e h = h ∙ sym (ap (λ (l : List Attr). l ++ attrs_of ns xs) (attr_none (node_at ns x) (eqb-false (kind_of (node_at ns x)) 4 e)))

  attrs_in : (xs : List ℕ) → attrs_of ns (sets_in xs) ≡ attrs_of ns xs
  attrs_in [] = refl
  attrs_in (x ∷ xs) = attrs_turn (rules.is ns 4 x) x xs refl (attrs_in xs)

  abbrev KindAt : List ℕ → ℕ → Type 0
  KindAt xs i = i < length xs → kind_of (node_at ns (get_or xs i 0)) ≡ 4

  sets_cons : (x : ℕ) (xs : List ℕ) → kind_of (node_at ns x) ≡ 4 → ((i : ℕ) → KindAt xs i) → (i : ℕ) → KindAt (x ∷ xs) i
  sets_cons x xs e h zero lt = e
  sets_cons x xs e h (suc i) lt = h i (omega arith)

  sets_turn : (b : Bool) (x : ℕ) (xs : List ℕ) → rules.is ns 4 x ≡ b → ((i : ℕ) → KindAt (sets_in xs) i) → (i : ℕ) → KindAt (if b (λ _. x ∷ sets_in xs) (λ _. sets_in xs)) i
  sets_turn true x xs e h i = sets_cons x (sets_in xs) (eqb-true (kind_of (node_at ns x)) 4 e) h i
  sets_turn false x xs e h i = h i

  sets_at : (xs : List ℕ) (i : ℕ) → KindAt (sets_in xs) i
  sets_at [] i = λ lt. absurd (not-suc-le-zero lt)
  sets_at (x ∷ xs) i = sets_turn (rules.is ns 4 x) x xs refl (sets_at xs) i

  sets_all : (xs : List ℕ) → AllSets ns (sets_in xs)
  sets_all xs = record { is = sets_at xs }

  count_turn : (b : Bool) (x : ℕ) (xs : List ℕ) → length (sets_in xs) + length (others_in xs) ≡ length xs
      → length (if b (λ _. x ∷ sets_in xs) (λ _. sets_in xs)) + length (if (not b) (λ _. x ∷ others_in xs) (λ _. others_in xs)) ≡ suc (length xs)
  count_turn true x xs h = omega arith
  count_turn false x xs h = omega arith

  count_in : (xs : List ℕ) → length (sets_in xs) + length (others_in xs) ≡ length xs
  count_in [] = refl
  count_in (x ∷ xs) = count_turn (rules.is ns 4 x) x xs (count_in xs)

  empty_not : (xs : List ℕ) → AllSets ns xs → 0 < length xs → empty (attrs_of ns xs) ≡ false
  empty_not xs a lt = ap empty (attrs_drop ns xs 0 a lt)

  none_in : (xs : List ℕ) → length xs ≡ 0 → attrs_of ns xs ≡ []
  none_in [] e = refl
  none_in (x ∷ xs) e = absurd (omega arith)

-- `merge_attrset_intersection`
abbrev whole_of : List Attr → List ℕ → List ℕ → Bool → State → Out (List ℕ)
whole_of ts xs ys b st =
    (if b (λ _. give xs) (λ _ z. bind (merge_attrs [] none ts (λ fs d. store (merged_node ts fs d)) z) (λ x. give (ys ++ (x ∷ []))))) st

module _ {w : List ℕ} {q : Pass} {m sets : Members} (made : Makes (sift (of_kind 4 true)) w m sets) where
  sets_of : {st : State} {xs : List ℕ} → Stands st w q → Taken m xs q.nodes → Taken sets (sets_in st.nodes xs) (length st.nodes)
  sets_of {st} {xs} on t = made.is on.arena (subst (λ (n : ℕ). Taken m xs n) (sym on.arena.count) t)

  pub top_none : {held : List ℕ} {h : ℕ} → sets.count ≡ 0 → MergesSets w held h q m w held (record { flow = OnF q; members = m })
  unfolding merge_attrset_intersection
  top_none e =
      record {
        kept = λ k lt. refl;
        is = λ {st} {xs} sound on t roomy.
            let z = sets_of on t in
            record {
              after = st;
              list = xs;
              is =
                  ap (λ (b : Bool). whole_of (attrs_of st.nodes xs) xs (others_in st.nodes xs) b st)
                  (ap empty (sym (attrs_in st.nodes xs) ∙ none_in st.nodes (sets_in st.nodes xs) (sym z.list.count ∙ e)));
              stands = on;
              taken = subst (λ (n : ℕ). Taken m xs n) (sym on.arena.count) t;
            };
      }

  pub top_merged : {others : Members} {held w1 held1 w' held' : List ℕ} {h : ℕ} {d : Merged} {r : Listed} → (sets.count ≡ 0 → ⊥) → Makes (sift (of_kind 4 false)) w m others
      → MergesAll w held h q sets w1 held1 d → length held1 ≡ length held → MergedLast w1 held1 h d sets others w' held' r → MergesSets w held h q m w' held' r
  unfolding merge_attrset_intersection
  top_merged {others} {w' = w'} {h = h} {r = r} e rest call long last =
      record {
        kept = λ c lt. last.kept c lt ∙ call.kept c lt;
        is = λ {st} {xs} sound on t roomy.
            let ns = st.nodes in
            let z = sets_of on t in
            let y = rest.is on.arena (subst (λ (n : ℕ). Taken m xs n) (sym on.arena.count) t) in
            let a = sets_all ns xs in
            let some : 0 < length (sets_in ns xs) = omega (arith, z.list.count, e) in
            let few : length (others_in ns xs) < most_members = omega (arith, count_in ns xs, t.list.few) in
            subst (λ (o : Out (List ℕ)). Answers o w' r)
            (ap (λ (ts : List Attr). bind (merge_attrs [] none ts (λ fs d. store (merged_node ts fs d)) st) (λ x. give (others_in ns xs ++ (x ∷ [])))) (attrs_in ns xs)
            ∙ sym (ap (λ (b : Bool). whole_of (attrs_of ns xs) xs (others_in ns xs) b st) (ap empty (sym (attrs_in ns xs)) ∙ empty_not ns (sets_in ns xs) a some)))
            (last.is (λ then. merge_attrs [] none (attrs_of ns (sets_in ns xs)) then st) st
            (call.is on sound.ordered (subst (λ (n : ℕ). Taken sets (sets_in ns xs) n) on.arena.count z) a roomy)
            z a (record { room = omega (arith, roomy.room); small = roomy.small }) y.list few y.below);
      }

  pub top_refused : {others : Members} {held w1 held1 : List ℕ} {h k : ℕ} {l : Members} → (sets.count ≡ 0 → ⊥) → Makes (sift (of_kind 4 false)) w m others
      → MergesAll w held h q sets w1 held1 (Refused k) → length held1 ≡ length held → MergesSets w held h q m w1 held1 (record { flow = RefusedF k; members = l })
  top_refused e rest call long =
      top_merged e rest call long
      (record {
        kept = λ c lt. refl;
        is = λ before st {xs} {ys} a taken sets roomy few lt u.
            ap (λ (v : Out ℕ). bind v (λ x. give (ys ++ (x ∷ [])))) (a (λ fs d. store (merged_node (attrs_of st.nodes xs) fs d)));
      })
