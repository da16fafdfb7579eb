-- Merging the sets of an intersection: what the functions of merge.rt ensure. Each contract's premises are arguments of its field.
use Rattle.std.specs.Prelude.{◌≡◌, Bool, true, false, not, ◌||◌, ◌⊎◌, ℕ, suc, ◌+◌, ◌*◌, ◌≤◌, ◌<◌, List, [], ◌∷◌, ◌++◌, length, get_or, set}
use Rattle.cells.specs.Part.{cell, if}
use Rattle.layout.specs.Layout.{area_length}
use Rattle.rules.specs.Ceilings.{most_members, most_names}
use Rattle.rules.specs.Plain.{filter, contains, ascending}
use Rattle.rules.specs.Table.{Field, Attr, field_keys, field_types, dyn_ids}
use Rattle.rules.specs.Types.{State, Out, ok, no, Run, bind, give, AttrSet, field_words, dyn_words, kind_of, node_at, store}
use Rattle.rules.specs.Types as rules
use Rattle.rules.specs.Members.{meet_types, merge_fields, merge_dyn, merge_attrs, optional_in_all, open_if_all, attrs_of, merge_attrset_intersection}
use Rattle.laws.specs.Sound.{Sound, Orderly, Ordered}
use Rattle.lang_ty.specs.declared.arena.Pass.{Pass}
use Rattle.lang_ty.specs.Given.{Given}
use Rattle.lang_ty.specs.Nodes.{highest, Arena, Stands, Written, Answers as Stores}
use Rattle.lang_ty.specs.Sets.{SetAt, Ahead}
use Rattle.members.specs.declared.lists.Members.{Members}
use Rattle.members.specs.Flow.{Flow}
use Rattle.members.specs.Flow.{On as OnF, Refused as RefusedF}
use Rattle.members.specs.Listed.{Listed}
use Rattle.merge.specs.declared.Merging.{Merging}
use Rattle.merge.specs.Merged.{Merged}
use Rattle.merge.specs.Merged.{On, Refused}
use Rattle.merge.specs.declared.Sieve.{Sieve}
use Rattle.merge.specs.declared.Next.{Next}
use Rattle.merge.specs.declared.Next.TheVariants.{Old, New, Both}
use Rattle.members.specs.Lists.{Few, Taken, Answers, first_of}
use Rattle.cells.specs.Placed.{Holds, Under}
use Rattle.std.specs.Prelude.{Some, None}
use Rattle.std.specs.Prelude as std
use Rattle.std.proofs.Math.Option.{Option, none}

-- from h on there is room for two areas of 1,024 fields
pub record Roomy (held : List ℕ) (h : ℕ) : Type 0 where
  pub room : h + 2 * area_length ≤ length held
  pub small : h + 2 * area_length ≤ 4294967295

-- the sets among the members become one, last; of the cells below h none changes
pub record MergesSets (w held : List ℕ) (h : ℕ) (q : Pass) (m : Members) (w' held' : List ℕ) (r : Listed) : Type 0 where
  pub kept : (k : ℕ) → k < h → cell held' k ≡ cell held k
  pub is : {st : State} {xs : List ℕ} → Sound st → Stands st w q → Taken m xs q.nodes → Roomy held h → Answers (merge_attrset_intersection xs st) w' r

-- the keys of the fields ascend from a on, below b
abbrev pub Rise : ℕ → ℕ → List Field → Type 0
Rise a b [] = a ≤ b
Rise a b (f ∷ fs) = (a ≤ f.key) × Rise (suc f.key) b fs

abbrev pub field_at : List Field → ℕ → Field
field_at fs i = get_or fs i (record { key = 0; type = 0 })

-- of two types of one key, both nodes
pub record Meets (w : List ℕ) (q : Pass) (old new : ℕ) (w' : List ℕ) (r : Given) : Type 0 where
  pub is : {st : State} → Stands st w q → old < q.nodes → new < q.nodes → Stores (meet_types old new st) w' r

-- key and type as field i of the area at a
abbrev pub put_at : List ℕ → ℕ → ℕ → ℕ → ℕ → List ℕ
put_at held a i key ty = set (set held (a + 2 * i) key) (a + 2 * i + 1) ty

pub record PutsField (held : List ℕ) (a i key ty : ℕ) (held' : List ℕ) : Type 0 where
  pub kept : (k : ℕ) → k < a → cell held' k ≡ cell held k
  pub is : i < most_names → held' ≡ put_at held a i key ty

pub record HeldKey (held : List ℕ) (a i r : ℕ) : Type 0 where
  pub is : (fs : List Field) → Holds held a (field_words fs) → length fs ≤ most_names → i < length fs → r ≡ (field_at fs i).key

pub record HeldType (held : List ℕ) (a i r : ℕ) : Type 0 where
  pub is : (fs : List Field) → Holds held a (field_words fs) → length fs ≤ most_names → i < length fs → r ≡ (field_at fs i).type

-- which of field i of fs and field j of gs has the smaller key, or is left alone
abbrev pub Comes : Next → List Field → ℕ → List Field → ℕ → Type 0
Comes Old fs i gs j = (i < length fs) × (j < length gs → (field_at fs i).key < (field_at gs j).key)
Comes New fs i gs j = (j < length gs) × (i < length fs → (field_at gs j).key < (field_at fs i).key)
Comes Both fs i gs j = (i < length fs) × (j < length gs) × ((field_at fs i).key ≡ (field_at gs j).key)

pub record ComesNext (w held : List ℕ) (a i n s j m : ℕ) (r : Next) : Type 0 where
  pub is : (fs : List Field) {t : Attr} → SetAt w s t → Holds held a (field_words fs) → length fs ≤ most_names → n ≡ length fs → m ≡ length t.fields
      → (i < n) ⊎ (j < m) → Comes r fs i t.fields j

abbrev pub old_taken : Next → ℕ
old_taken Old = 1
old_taken New = 0
old_taken Both = 1

abbrev pub new_taken : Next → ℕ
new_taken Old = 0
new_taken New = 1
new_taken Both = 1

-- the field that comes next: the old one, the new one, or one of both types met
abbrev pub next_field : Next → Field → Field → Run Field
next_field Old f g st = ok f st
next_field New f g st = ok g st
next_field Both f g st = bind (meet_types f.type g.type st) (λ x. give (record { key = f.key; type = x }))

abbrev pub next_key : Next → Field → Field → ℕ
next_key Old f g = f.key
next_key New f g = g.key
next_key Both f g = f.key

-- the rules give this field too, and it is put as field k of the area at b
pub record FieldPut (o : Out Field) (key : ℕ) (st : State) (w held held' : List ℕ) (b k : ℕ) (q : Pass) : Type 0 where
  pub after : State
  pub more : List rules.Node
  pub field : Field
  pub is : o ≡ ok field after
  pub named : field.key ≡ key
  pub nodes : after.nodes ≡ st.nodes ++ more
  pub stands : Stands after w q
  pub below : field.type < length after.nodes
  pub put : held' ≡ put_at held b k field.key field.type

abbrev pub AnswersField : Out Field → ℕ → State → List ℕ → List ℕ → List ℕ → ℕ → ℕ → Flow → Type 0
AnswersField o key st w held held' b k (OnF q) = FieldPut o key st w held held' b k q
AnswersField o key st w held held' b k (RefusedF why) = o ≡ no why

pub record MergesField (w held : List ℕ) (q : Pass) (next : Next) (a i p j b k : ℕ) (w' held' : List ℕ) (r : Flow) : Type 0 where
  pub kept : (c : ℕ) → c < b → cell held' c ≡ cell held c
  pub is : {st : State} (fs : List Field) {t : Attr} → Stands st w q → SetAt w p t → Holds held a (field_words fs) → length fs ≤ most_names
      → Under q.nodes (field_types fs) → Under q.nodes (field_types t.fields) → Comes next fs i t.fields j → k < most_names
      → AnswersField (next_field next (field_at fs i) (field_at t.fields j) st) (next_key next (field_at fs i) (field_at t.fields j)) st w' held held' b k r

-- a dyn or none: how many there are, and which it is
abbrev pub dyns_in : std.Option ℕ → ℕ
dyns_in None = 0
dyns_in (Some x) = 1

abbrev pub dyn_in : std.Option ℕ → ℕ
dyn_in None = 0
dyn_in (Some x) = x

-- g has the fields fs, held in its area, and the dyn d; their types are below k
pub record Got (held : List ℕ) (g : Merging) (fs : List Field) (d : Option ℕ) (k : ℕ) : Type 0 where
  pub count : g.fields ≡ length fs
  pub holds : Holds held g.area (field_words fs)
  pub keys : Rise 0 most_names fs
  pub types : Under k (field_types fs)
  pub dyns : dyns_in g.dyn_type ≡ length (dyn_ids d)
  pub dyn : 0 < length (dyn_ids d) → dyn_in g.dyn_type ≡ get_or (dyn_ids d) 0 0
  pub dyn_below : Under k (dyn_ids d)

-- node x is the set t, with keys in order
pub record SetNode (st : State) (q : Pass) (x : ℕ) (t : Attr) : Type 0 where
  pub known : x < q.nodes
  pub node : node_at st.nodes x ≡ AttrSet t
  pub keys : Rise 0 most_names t.fields

-- the area at b has room and is not that of g
pub record Free (held : List ℕ) (a b : ℕ) : Type 0 where
  pub room : b + area_length ≤ length held
  pub apart : (a + area_length ≤ b) ⊎ (b + area_length ≤ a)

-- the rules give these fields too, and they are held at b
pub record FieldsGot (o : Out (List Field)) (d : Option ℕ) (st : State) (w held : List ℕ) (b : ℕ) (g : Merging) (q : Pass) : Type 0 where
  pub after : State
  pub more : List rules.Node
  pub fields : List Field
  pub is : o ≡ ok fields after
  pub nodes : after.nodes ≡ st.nodes ++ more
  pub stands : Stands after w q
  pub got : Got held g fields d q.nodes
  pub area : g.area ≡ b

abbrev pub AnswersFields : Out (List Field) → Option ℕ → State → List ℕ → List ℕ → ℕ → Merged → Type 0
AnswersFields o d st w held b (On g q) = FieldsGot o d st w held b g q
AnswersFields o d st w held b (Refused k) = o ≡ no k

pub record MergesFields (w held : List ℕ) (p : Pass) (g : Merging) (x b : ℕ) (w' held' : List ℕ) (r : Merged) : Type 0 where
  pub kept : (c : ℕ) → c < b → cell held' c ≡ cell held c
  pub is : {st : State} {fs : List Field} {d : Option ℕ} {t : Attr} → Stands st w p → Got held g fs d p.nodes → SetNode st p x t → Free held g.area b
      → AnswersFields (merge_fields fs t.fields st) d st w' held' b r

-- the rules give this dyn too
pub record DynGot (o : Out (Option ℕ)) (fs : List Field) (st : State) (w held : List ℕ) (g g' : Merging) (q : Pass) : Type 0 where
  pub after : State
  pub more : List rules.Node
  pub dyn : Option ℕ
  pub is : o ≡ ok dyn after
  pub nodes : after.nodes ≡ st.nodes ++ more
  pub stands : Stands after w q
  pub got : Got held g' fs dyn q.nodes
  pub area : g'.area ≡ g.area

abbrev pub AnswersDyn : Out (Option ℕ) → List Field → State → List ℕ → List ℕ → Merging → Merged → Type 0
AnswersDyn o fs st w held g (On g' q) = DynGot o fs st w held g g' q
AnswersDyn o fs st w held g (Refused k) = o ≡ no k

pub record MergesDyn (w : List ℕ) (q : Pass) (g : Merging) (p : ℕ) (w' : List ℕ) (r : Merged) : Type 0 where
  pub is : (held : List ℕ) {st : State} {fs : List Field} {d : Option ℕ} {t : Attr} → Stands st w q → Got held g fs d q.nodes → SetAt w p t
      → Under q.nodes (dyn_ids t.dyn) → AnswersDyn (merge_dyn d t.dyn st) fs st w' held g r

-- the one of the two areas from h on that is not at a
pub record OtherArea (h a r : ℕ) : Type 0 where
  pub low : h ≤ r
  pub is : h + 2 * area_length ≤ 4294967295 → (a ≡ h) ⊎ (a ≡ h + area_length) → (r ≡ h) ⊎ (r ≡ h + area_length)
  pub apart : h + 2 * area_length ≤ 4294967295 → (a ≡ h) ⊎ (a ≡ h + area_length) → (a + area_length ≤ r) ⊎ (r + area_length ≤ a)

-- what is done with the merged fields and dyn
abbrev pub Then : Type 0
Then = List Field → Option ℕ → Run ℕ

-- the rules come as far: these fields and this dyn, in one of the two areas from h on, and sets that are left
pub record Arrived (before : Then → Out ℕ) (left : List Attr) (st : State) (w held : List ℕ) (h : ℕ) (g : Merging) (q : Pass) : Type 0 where
  pub after : State
  pub more : List rules.Node
  pub fields : List Field
  pub dyn : Option ℕ
  pub is : (then : Then) → before then ≡ merge_attrs fields dyn left then after
  pub nodes : after.nodes ≡ st.nodes ++ more
  pub stands : Stands after w q
  pub got : Got held g fields dyn q.nodes
  pub area : (g.area ≡ h) ⊎ (g.area ≡ h + area_length)

abbrev pub AnswersMerged : (Then → Out ℕ) → List Attr → State → List ℕ → List ℕ → ℕ → Merged → Type 0
AnswersMerged before left st w held h (On g q) = Arrived before left st w held h g q
AnswersMerged before left st w held h (Refused k) = (then : Then) → before then ≡ no k

pub record MergesOne (w held : List ℕ) (h : ℕ) (q : Pass) (g : Merging) (x : ℕ) (w' held' : List ℕ) (r : Merged) : Type 0 where
  pub kept : (c : ℕ) → c < h → cell held' c ≡ cell held c
  pub is : {st : State} {fs : List Field} {d : Option ℕ} {t : Attr} (left : List Attr) → Stands st w q → Got held g fs d q.nodes → SetNode st q x t
      → Roomy held h → (g.area ≡ h) ⊎ (g.area ≡ h + area_length) → AnswersMerged (λ then. merge_attrs fs d (t ∷ left) then st) left st w' held' h r

-- each of xs is a set
pub record AllSets (ns : List rules.Node) (xs : List ℕ) : Type 0 where
  pub is : (i : ℕ) → i < length xs → kind_of (node_at ns (get_or xs i 0)) ≡ 4

pub record MergesAll (w held : List ℕ) (h : ℕ) (q : Pass) (m : Members) (w' held' : List ℕ) (r : Merged) : Type 0 where
  pub kept : (c : ℕ) → c < h → cell held' c ≡ cell held c
  pub is : {st : State} {xs : List ℕ} → Stands st w q → Ordered st.nodes → Taken m xs q.nodes → AllSets st.nodes xs → Roomy held h
      → AnswersMerged (λ then. merge_attrs [] none (attrs_of st.nodes xs) then st) [] st w' held' h r

pub record OpenIfAll (w ms : List ℕ) (n r : ℕ) : Type 0 where
  pub is : {q : Pass} {ns : List rules.Node} {xs : List ℕ} → Arena w q ns → Taken (first_of n ms) xs (length ns) → AllSets ns xs → r ≡ open_if_all (attrs_of ns xs)

-- the words of a set before its open flag
abbrev pub front_words : List Field → Option ℕ → List ℕ
front_words fs d = 4 ∷ length fs ∷ (field_words fs ++ dyn_words d)

-- the dyn after the d words that stand from t on; r is how many there are then
pub record WritesDyn (w : List ℕ) (t d : ℕ) (g : Merging) (w' : List ℕ) (r : ℕ) : Type 0 where
  pub is : {held : List ℕ} {fs : List Field} {dyn : Option ℕ} {k : ℕ} {w₀ xs : List ℕ} → Got held g fs dyn k → Written t w₀ w xs → d ≡ length xs → d + 2 ≤ 4294967295
      → Written t w₀ w' (xs ++ dyn_words dyn)
  pub size : {held : List ℕ} {fs : List Field} {dyn : Option ℕ} {k : ℕ} → Got held g fs dyn k → d + 2 ≤ 4294967295 → r ≡ d + length (dyn_words dyn)

pub record WritesFields (w : List ℕ) (t : ℕ) (held : List ℕ) (g : Merging) (w' : List ℕ) (r : ℕ) : Type 0 where
  pub is : {fs : List Field} {d : Option ℕ} {k : ℕ} → Got held g fs d k → t ≤ highest → Written t w w' (front_words fs d)
  pub size : {fs : List Field} {d : Option ℕ} {k : ℕ} → Got held g fs d k → r ≡ length (front_words fs d)

pub record PutsIf (w : List ℕ) (o k x : ℕ) (b : Bool) (w' : List ℕ) (r : ℕ) : Type 0 where
  pub is : {w₀ xs : List ℕ} → Written o w₀ w xs → k ≡ length xs → Written o w₀ w' (xs ++ if b (λ _. x ∷ []) (λ _. []))
  pub size : (xs : List ℕ) → k ≡ length xs → length xs < most_names → r ≡ length (xs ++ if b (λ _. x ∷ []) (λ _. []))
  pub below : (c : ℕ) → c < o → cell w' c ≡ cell w c
  pub behind : (c : ℕ) → o + k < c → cell w' c ≡ cell w c

-- the keys of the n fields held at a stand from b on
pub record ListsKeys (held : List ℕ) (a n b : ℕ) (held' : List ℕ) : Type 0 where
  pub kept : (c : ℕ) → c < b → cell held' c ≡ cell held c
  pub is : (fs : List Field) → n ≡ length fs → Holds held a (field_words fs) → length fs ≤ most_names → Free held a b → Written b held held' (field_keys fs)

-- the set t does not require the key
abbrev pub allowed : Attr → ℕ → Bool
allowed t key = not (contains (field_keys t.fields) key) || contains t.optional key

-- one key further along a set's fields ks and its optional keys os
pub record Sieved (w : List ℕ) (s : Sieve) (key : ℕ) (r : Sieve) : Type 0 where
  pub fields : {ks os : List ℕ} {b : ℕ} → Ahead w 2 s.fields ks b → Ahead w 1 s.optional os b → b ≤ key → Ahead w 2 r.fields ks key
  pub optional : {ks os : List ℕ} {b : ℕ} → Ahead w 2 s.fields ks b → Ahead w 1 s.optional os b → b ≤ key → Ahead w 1 r.optional os key
  pub is : {ks os : List ℕ} {b : ℕ} → Ahead w 2 s.fields ks b → Ahead w 1 s.optional os b → b ≤ key
      → r.stays ≡ (not (contains ks key) || contains os key)

-- n keys stand from b on: ks, which ascend
pub record KeyList (held : List ℕ) (b n : ℕ) (ks : List ℕ) : Type 0 where
  pub count : n ≡ length ks
  pub holds : Holds held b ks
  pub ascend : ascending ks ≡ true
  pub few : length ks ≤ most_names
  pub room : b + most_names ≤ length held

-- of the keys from b on those are left that the set at a allows, and that all sets among the members allow
pub record SievesKeys (w held : List ℕ) (b n a : ℕ) (held' : List ℕ) (r : ℕ) : Type 0 where
  pub kept : (c : ℕ) → c < b → cell held' c ≡ cell held c
  pub is : {t : Attr} {ks : List ℕ} → SetAt w a t → Orderly t → KeyList held b n ks → KeyList held' b r (filter (allowed t) ks)

pub record SievesAll (w held : List ℕ) (b n : ℕ) (ms : List ℕ) (c : ℕ) (held' : List ℕ) (r : ℕ) : Type 0 where
  pub kept : (j : ℕ) → j < b → cell held' j ≡ cell held j
  pub is : {q : Pass} {ns : List rules.Node} {xs ks : List ℕ} → Arena w q ns → Taken (first_of c ms) xs (length ns) → AllSets ns xs → KeyList held b n ks
      → KeyList held' b r (filter (optional_in_all (attrs_of ns xs)) ks)

-- the keys that are optional in all of the sets
abbrev pub optional_keys : List Attr → List Field → List ℕ
optional_keys ts fs = filter (optional_in_all ts) (field_keys fs)

-- found in held, where from b on there is room
pub record WritesOptional (w : List ℕ) (o : ℕ) (held : List ℕ) (b : ℕ) (g : Merging) (m : Members) (w' held' : List ℕ) (r : ℕ) : Type 0 where
  pub kept : (c : ℕ) → c < b → cell held' c ≡ cell held c
  pub is : {q : Pass} {ns : List rules.Node} {xs : List ℕ} {fs : List Field} {d : Option ℕ} {k : ℕ} → Arena w q ns → Taken m xs (length ns) → AllSets ns xs
      → Got held g fs d k → Free held g.area b → Written o w w' (optional_keys (attrs_of ns xs) fs)
  pub size : {q : Pass} {ns : List rules.Node} {xs : List ℕ} {fs : List Field} {d : Option ℕ} {k : ℕ} → Arena w q ns → Taken m xs (length ns) → AllSets ns xs
      → Got held g fs d k → Free held g.area b → r ≡ length (optional_keys (attrs_of ns xs) fs)

-- the words of a set after its dyn
abbrev pub back_words : ℕ → List ℕ → List ℕ
back_words flag keys = flag ∷ length keys ∷ keys

-- the flag, and the optional keys with their number; r is that number
pub record WritesFlags (w : List ℕ) (o flag : ℕ) (held : List ℕ) (b : ℕ) (g : Merging) (m : Members) (w' held' : List ℕ) (r : ℕ) : Type 0 where
  pub kept : (c : ℕ) → c < b → cell held' c ≡ cell held c
  pub is : {q : Pass} {ns : List rules.Node} {xs : List ℕ} {fs : List Field} {d : Option ℕ} {k : ℕ} → Arena w q ns → Taken m xs (length ns) → AllSets ns xs
      → Got held g fs d k → Free held g.area b → cell w q.nodes ≤ o → o + 2 ≤ 4294967295 → Written o w w' (back_words flag (optional_keys (attrs_of ns xs) fs))
  pub size : {q : Pass} {ns : List rules.Node} {xs : List ℕ} {fs : List Field} {d : Option ℕ} {k : ℕ} → Arena w q ns → Taken m xs (length ns) → AllSets ns xs
      → Got held g fs d k → Free held g.area b → cell w q.nodes ≤ o → o + 2 ≤ 4294967295 → r ≡ length (optional_keys (attrs_of ns xs) fs)

-- what the sets ts come to, with these fields and this dyn
abbrev pub merged_node : List Attr → List Field → Option ℕ → rules.Node
merged_node ts fs d = AttrSet (record { fields = fs; dyn = d; is_open = open_if_all ts; optional = optional_keys ts fs })

pub record StoresMerged (w held : List ℕ) (b : ℕ) (q : Pass) (g : Merging) (m : Members) (w' held' : List ℕ) (r : Given) : Type 0 where
  pub kept : (c : ℕ) → c < b → cell held' c ≡ cell held c
  pub is : {st : State} {xs : List ℕ} {fs : List Field} {d : Option ℕ} → Stands st w q → Taken m xs q.nodes → AllSets st.nodes xs
      → Got held g fs d q.nodes → Free held g.area b → Stores (store (merged_node (attrs_of st.nodes xs) fs d) st) w' r

-- the others, and after them the node that the sets ts come to
pub record MergedLast (w held : List ℕ) (h : ℕ) (d : Merged) (m n : Members) (w' held' : List ℕ) (r : Listed) : Type 0 where
  pub kept : (c : ℕ) → c < h → cell held' c ≡ cell held c
  pub is : (before : Then → Out ℕ) (st : State) {xs ys : List ℕ} → AnswersMerged before [] st w held h d → Taken m xs (length st.nodes)
      → AllSets st.nodes xs → Roomy held h
      → Few n ys → length ys < most_members → Under (length st.nodes) ys
      → Answers (bind (before (λ fs d. store (merged_node (attrs_of st.nodes xs) fs d))) (λ x. give (ys ++ (x ∷ [])))) w' r
