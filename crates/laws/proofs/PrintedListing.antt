-- The printed listing of a table that is accepted is in form, and falls into its roots' lines. Assumes nothing.
use mathlib.Core.Path.{◌≡◌, refl, sym, ap, ◌∙◌, subst}
use mathlib.Core.Bool.{Bool, true}
use Prim.Native.Nat.{ℕ, suc, ◌+◌, ◌≤◌, ◌<◌}
use native.Mathlib.Omega.{arith}
use native.Mathlib.Nat.{not-suc-le-zero}
use mathlib.Core.List.{List, [], ◌∷◌, ◌++◌, map, append-nil, append_assoc}
use lib.ListN.{length, get_or, length-append, length-map}
use lib.Dec.{eqb, ltb, leb}
use borrow.Author.Tests.{lt-ltb, le-ltb, leb-true, le-leb, eq-eqb}
use Rattle.cells.specs.Part.{if, eq_list}
use Rattle.rules.specs.Plain.{ascii, all, contains, both, flag, joined, ascending, position}
use Rattle.rules.specs.Ceilings.{most_text, most_names, most_members, most_nodes}
use Rattle.rules.specs.Text.{tab, line_feed, cut, pieces, parted, greatest, number, decimal, a_flag, a_list, a_dyn, some_fields, by_shape, Kind, no_kind, tagged, by_word, row_of, row_texts, line_text}
use Rattle.rules.specs.Table.{Root, Field, Attr, field_types, field_keys, dyn_ids, keys_in, keys_ascend, all_below, Table, Result, accepted, refused, then, table_of}
use Rattle.rules.specs.Types.{Node, TyVar, Primitive, ListOf, Lambda, AttrSet, Union, Intersection, Named, Neg, Bottom, Top, node_kinds, field_words, dyn_words, encode}
use Rattle.rules.specs.Types.{members, as_attr, children, node_at, polarity_of}
use Rattle.rules.specs.Canonicalizer.{Answer, shown, refused_with, first_pass, reader_of, answer_of}
use Rattle.rules.specs.Variables.{answer_in}
use Rattle.rules.specs.declared.Form.{Form}
use Rattle.rules.specs.declared.Form.TheVariants.{Plain, Numbered}
use Rattle.rules.specs.Listing.{numbered_text, take_numbered}
use Rattle.rules.specs.Listing.{head_kinds, head_text, walk, renumber_field, renumber_dyn, renumber, node_text, node_texts, answer_text, root_text, root_text_of, answers_text}
use Rattle.rules.specs.Listing.{listing_text, node_of, node_fits, row_fits, is_number, node_line_fits, node_in_form, Taking, next_line, take_line, take_node, take_nodes, within}
use Rattle.rules.specs.Listing.{for_root, nodes_after, take_after, take_root, blank, at_end, take_roots, is_answers, old_listing}
use Rattle.laws.proofs.Admitting.{both_parts, Every}
use Rattle.laws.proofs.Rows.{node_read}
use Rattle.laws.proofs.Rooting.{All}
use Rattle.laws.proofs.Printed.{all_more, every_more, Over, Free, over_free, pieces_at, pieces_parted, free_parted, number_decimal, digits_over, Numbers, Says}
use Rattle.laws.proofs.Printed.{says_number, says_code, says_flag, says_list, says_fields, says_dyn, says_sign, Shaped, end, then as next, shaped_reads}
use Rattle.laws.proofs.Walking.{Steps, walk_steps, walk_some, walk_few, position_within}
use Rattle.laws.proofs.NumberedAnswers.{formed_in}
use Rattle.laws.proofs.Forming.{FormedSet, Formed, RunNumber, ShowsFormed, Answers, shows, stops, answer_formed}
use Rattle.laws.proofs.ReadRows.{few_names, accepted_formed, KnownRoots, roots_known}
use Rattle.laws.proofs.Filtering.{under_both}
use Rattle.laws.proofs.Containing.{flag_few}
use Rattle.cells.specs.Placed.{Under}
use Rattle.cells.proofs.Choices.{by_branch}
use mathlib.Core.Option.{Option, none, some}

-- a row whose texts are read as it, by bytes that part no fields and no lines
record RowReads (ks : List Kind) (row : List ℕ) : Type 0 where
  is : by_word ks (row_texts ks row) ≡ some row
  over : Every (Over 43) (row_texts ks row)

pub over_by : (k : ℕ) (l : List ℕ) → all (leb k) l ≡ true → Over k l
over_by k [] h = tt
over_by k (b ∷ l) h = let p = both_parts (leb k b) (λ _. all (leb k) l) h in (leb-true k b p.0, over_by k l p.1)

row_reads : (ks : List Kind) (k : ℕ) (ws : List ℕ)
    → ((fs : List (List ℕ)) → by_word ks ((get_or ks k no_kind).word ∷ fs) ≡ tagged k (by_shape (get_or ks k no_kind).shape fs))
    → all (leb 43) (get_or ks k no_kind).word ≡ true → Shaped (get_or ks k no_kind).shape ws → RowReads ks (k ∷ ws)
unfolding row_texts
row_reads ks k ws f w s =
    let r = shaped_reads s in
    record { is = f _ ∙ ap (tagged k) r.is; over = (over_by 43 (get_or ks k no_kind).word w, r.over) }

last : {k : ℕ} {x : List ℕ} → Says k x → Shaped (k ∷ []) x
last {k} {x} s = subst (Shaped (k ∷ [])) (append-nil x) (next s end)

-- numbers below i are numbers of the text
module _ (i : ℕ) (few : i ≤ greatest) where
  under_numbers : (xs : List ℕ) → Under i xs → Numbers xs
  under_numbers [] u = tt
  under_numbers (x ∷ xs) u = let l = u.0 in (omega arith, under_numbers xs u.1)

  dyn_numbers : (d : Option ℕ) → Under i (dyn_ids d) → Numbers (dyn_words d)
  dyn_numbers none u = (omega arith, tt)
  dyn_numbers (some d) u = let l = u.0 in (omega arith, (omega arith, tt))

  field_numbers : (names : ℕ) → names ≤ most_names → (fs : List Field) → Under names (field_keys fs) → Under i (field_types fs) → Numbers (field_words fs)
  field_numbers names h [] k u = tt
  field_numbers names h (f ∷ fs) k u = let a = k.0 in let b = u.0 in (omega arith, (omega arith, field_numbers names h fs k.1 u.1))

under_split : (i : ℕ) (xs ys : List ℕ) → Under i (xs ++ ys) → Under i xs × Under i ys
under_split i [] ys u = (tt, u)
under_split i (x ∷ xs) ys u = let r = under_split i xs ys u.1 in ((u.0, r.0), r.1)

-- the row of a node in form, whose children are below i
module _ (names i : ℕ) (h : names ≤ most_names) (few : i ≤ greatest) where
  set_shaped : (a : Attr) → FormedSet names a → Under i (field_types a.fields ++ dyn_ids a.dyn)
      → Shaped (some_fields ∷ a_dyn ∷ a_flag ∷ a_list ∷ []) (length a.fields ∷ (field_words a.fields ++ dyn_words a.dyn ++ (a.is_open ∷ length a.optional ∷ a.optional)))
  set_shaped a f u =
      let s = under_split i (field_types a.fields) (dyn_ids a.dyn) u in
      subst (λ (l : List ℕ). Shaped (some_fields ∷ a_dyn ∷ a_flag ∷ a_list ∷ []) (length a.fields ∷ l))
      (sym (append_assoc (field_words a.fields) (dyn_words a.dyn) (a.is_open ∷ length a.optional ∷ a.optional)))
      (next (says_fields a.fields (field_numbers i few names h a.fields f.named s.0))
      (next (says_dyn a.dyn (dyn_numbers i few a.dyn s.1))
      (next (says_flag a.is_open f.opens)
      (last (says_list a.optional (under_numbers names (omega arith) a.optional f.others))))))

  node_reads : (n : Node) → Formed names n → Under i (children n) → RowReads node_kinds (encode n)
  node_reads (TyVar x) f u = row_reads node_kinds 0 (x ∷ []) (λ fs. refl) refl (last (says_number x f))
  node_reads (Primitive c) f u = row_reads node_kinds 1 (c ∷ []) (λ fs. refl) refl (last (says_code c f))
  node_reads (ListOf a) f u = row_reads node_kinds 2 (a ∷ []) (λ fs. refl) refl (last (says_number a (omega (arith, u.0))))
  node_reads (Lambda a b) f u =
      row_reads node_kinds 3 (a ∷ b ∷ []) (λ fs. refl) refl (next (says_number a (omega (arith, u.0))) (last (says_number b (omega (arith, u.1.0)))))
  node_reads (AttrSet a) f u = row_reads node_kinds 4 _ (λ fs. refl) refl (set_shaped a f u)
  node_reads (Union ms) f u = row_reads node_kinds 5 (length ms ∷ ms) (λ fs. refl) refl (last (says_list ms (under_numbers i few ms u)))
  node_reads (Intersection ms) f u = row_reads node_kinds 6 (length ms ∷ ms) (λ fs. refl) refl (last (says_list ms (under_numbers i few ms u)))
  node_reads (Named n a) f u = row_reads node_kinds 7 (n ∷ a ∷ []) (λ fs. refl) refl (next (says_number n f) (last (says_number a (omega (arith, u.0)))))
  node_reads (Neg a) f u = row_reads node_kinds 8 (a ∷ []) (λ fs. refl) refl (last (says_number a (omega (arith, u.0))))
  node_reads Bottom f u = row_reads node_kinds 9 [] (λ fs. refl) refl end
  node_reads Top f u = row_reads node_kinds 10 [] (λ fs. refl) refl end

-- a node's row says the node
node_said : (n : Node) → node_of (encode n) ≡ n
unfolding node_of
node_said (TyVar x) = refl
node_said (Primitive c) = refl
node_said (ListOf a) = refl
node_said (Lambda a b) = refl
node_said (AttrSet a) = node_read (AttrSet a)
node_said (Union ms) = node_read (Union ms)
node_said (Intersection ms) = node_read (Intersection ms)
node_said (Named n a) = refl
node_said (Neg a) = refl
node_said Bottom = refl
node_said Top = refl

-- and fits
both_true : (b : Bool) (y : Unit {0} → Bool) → b ≡ true → y tt ≡ true → both b y ≡ true
both_true b y h k = rw h k

under_all : (i : ℕ) (xs : List ℕ) → Under i xs → all_below i xs ≡ true
under_all i [] u = refl
under_all i (x ∷ xs) u = both_true (ltb x i) (λ _. all_below i xs) (lt-ltb x i u.0) (under_all i xs u.1)

few_members : (names : ℕ) (n : Node) → Formed names n → length (members n) ≤ most_members
few_members names (TyVar x) f = omega arith
few_members names (Primitive c) f = omega arith
few_members names (ListOf a) f = omega arith
few_members names (Lambda a b) f = omega arith
few_members names (AttrSet a) f = omega arith
few_members names (Union ms) f = f
few_members names (Intersection ms) f = f
few_members names (Named n a) f = omega arith
few_members names (Neg a) f = omega arith
few_members names Bottom f = omega arith
few_members names Top f = omega arith

keys_fit : (names : ℕ) (n : Node) → Formed names n → both (keys_ascend (as_attr n)) (λ _. all_below names (keys_in (as_attr n))) ≡ true
keys_fit names (TyVar x) f = refl
keys_fit names (Primitive c) f = refl
keys_fit names (ListOf a) f = refl
keys_fit names (Lambda a b) f = refl
keys_fit names (AttrSet a) f =
    both_true (keys_ascend (some a)) (λ _. all_below names (keys_in (some a)))
    (both_true (ascending (field_keys a.fields)) (λ _. ascending a.optional) f.ascend f.optionals)
    (under_all names (field_keys a.fields ++ a.optional) (under_both names (field_keys a.fields) a.optional f.named f.others))
keys_fit names (Union ms) f = refl
keys_fit names (Intersection ms) f = refl
keys_fit names (Named n a) f = refl
keys_fit names (Neg a) f = refl
keys_fit names Bottom f = refl
keys_fit names Top f = refl

node_fits_lem : (names i : ℕ) (n : Node) → Formed names n → Under i (children n) → node_fits names i n ≡ true
node_fits_lem names i n f u =
    both_true (all_below i (children n)) _ (under_all i (children n) u)
    (both_true (leb (length (members n)) most_members) _ (le-leb (length (members n)) most_members (few_members names n f)) (keys_fit names n f))

-- children by number: keys, names and flags stay
keys_renumber : (f : ℕ → ℕ) (fs : List Field) → field_keys (map (renumber_field f) fs) ≡ field_keys fs
keys_renumber f [] = refl
keys_renumber f (g ∷ fs) = ap (λ (l : List ℕ). g.key ∷ l) (keys_renumber f fs)

formed_renumber : (names : ℕ) (f : ℕ → ℕ) (n : Node) → Formed names n → Formed names (renumber f n)
formed_renumber names f (TyVar x) h = h
formed_renumber names f (Primitive c) h = h
formed_renumber names f (ListOf a) h = tt
formed_renumber names f (Lambda a b) h = tt
formed_renumber names f (AttrSet a) h =
    let e = keys_renumber f a.fields in
    record { ascend = ap ascending e ∙ h.ascend; named = subst (Under names) (sym e) h.named; optionals = h.optionals; others = h.others; opens = h.opens }
formed_renumber names f (Union ms) h = omega (arith, length-map ms f)
formed_renumber names f (Intersection ms) h = omega (arith, length-map ms f)
formed_renumber names f (Named n a) h = h
formed_renumber names f (Neg a) h = tt
formed_renumber names f Bottom h = tt
formed_renumber names f Top h = tt

-- what f makes of these is below i
abbrev Lands : (ℕ → ℕ) → ℕ → List ℕ → Type 0
Lands f i xs = All (λ (y : ℕ). f y < i) xs

lands_under : (f : ℕ → ℕ) (i : ℕ) (xs : List ℕ) → Lands f i xs → Under i (map f xs)
lands_under f i [] h = tt
lands_under f i (x ∷ xs) h = (h.0, lands_under f i xs h.1)

lands_set : (f : ℕ → ℕ) (i : ℕ) (fs : List Field) (d : Option ℕ) → Lands f i (field_types fs ++ dyn_ids d)
    → Under i (field_types (map (renumber_field f) fs) ++ dyn_ids (renumber_dyn f d))
lands_set f i [] none h = tt
lands_set f i [] (some d) h = (h.0, tt)
lands_set f i (g ∷ fs) d h = (h.0, lands_set f i fs d h.1)

lands_children : (f : ℕ → ℕ) (i : ℕ) (n : Node) → Lands f i (children n) → Under i (children (renumber f n))
lands_children f i (TyVar x) h = tt
lands_children f i (Primitive c) h = tt
lands_children f i (ListOf a) h = h
lands_children f i (Lambda a b) h = h
lands_children f i (AttrSet a) h = lands_set f i a.fields a.dyn h
lands_children f i (Union ms) h = lands_under f i ms h
lands_children f i (Intersection ms) h = lands_under f i ms h
lands_children f i (Named n a) h = h
lands_children f i (Neg a) h = h
lands_children f i Bottom h = tt
lands_children f i Top h = tt

-- lines
over_line : (l : List ℕ) → Over 43 l → Free line_feed l
over_line = over_free line_feed 43 (omega arith)

over_tab : (l : List ℕ) → Over 43 l → Free tab l
over_tab = over_free tab 43 (omega arith)

pub line_free : (ps : List (List ℕ)) → Every (Over 43) ps → Free line_feed (parted tab ps)
line_free ps h = free_parted line_feed tab (λ e. omega arith) ps (every_more (Over 43) (Free line_feed) over_line ps h)

pub line_pieces : (p : List ℕ) (ps : List (List ℕ)) → Every (Over 43) (p ∷ ps) → pieces tab (parted tab (p ∷ ps)) ≡ p ∷ ps
line_pieces p ps h = pieces_parted tab p ps (every_more (Over 43) (Free tab) over_tab (p ∷ ps) h)

row_line : (ks : List Kind) (row : List ℕ) → RowReads ks row → row_of ks (parted tab (row_texts ks row)) ≡ some row
unfolding row_of row_texts
row_line ks row r = ap (by_word ks) (line_pieces _ _ r.over) ∙ r.is

pieces_some : (sep : ℕ) (l got : List ℕ) → 0 < length (cut sep got l)
pieces_some sep [] got = omega arith
pieces_some sep (b ∷ l) got = by_branch (λ (ps : List (List ℕ)). 0 < length ps) (eqb b sep) _ _ (omega arith) (pieces_some sep l (got ++ (b ∷ [])))

lines_some : (l : List ℕ) → 0 < length (pieces line_feed l)
unfolding pieces
lines_some l = pieces_some line_feed l []

next_some : {A : Type 0} (k : ℕ) (l : List ℕ) (ps : List (List ℕ)) (f : List ℕ → List (List ℕ) → Result A) → 0 < length ps → next_line k (l ∷ ps) f ≡ f l ps
next_some k l [] f h = absurd (not-suc-le-zero h)
next_some k l (m ∷ ps) f h = refl

-- the next line of a text that begins with one
next_line_lem : {A : Type 0} (k : ℕ) (l rest : List ℕ) (f : List ℕ → List (List ℕ) → Result A) → Free line_feed l
    → next_line k (pieces line_feed (l ++ (line_feed ∷ rest))) f ≡ f l (pieces line_feed rest)
next_line_lem k l rest f h =
    ap (λ (ps : List (List ℕ)). next_line k ps f) (pieces_at line_feed l rest h) ∙ next_some k l (pieces line_feed rest) f (lines_some rest)

-- a node's line
record NodeLine (names k : ℕ) (l : List ℕ) : Type 0 where
  fits : node_in_form names k l ≡ true
  free : Free line_feed l

node_line : (names k : ℕ) (n : Node) → names ≤ most_names → k ≤ greatest → Formed names n → Under k (children n)
    → NodeLine names k (parted tab (decimal k ∷ row_texts node_kinds (encode n)))
unfolding node_in_form
node_line names k n h few f u =
    let r = node_reads names k h few n f u in
    let texts = row_texts node_kinds (encode n) in
    let over : Every (Over 43) (decimal k ∷ texts) = (digits_over 43 k (omega arith), r.over) in
    record {
      fits = ap (node_line_fits names k) (line_pieces (decimal k) texts over)
          ∙ both_true (is_number k (number (decimal k))) _ (ap (is_number k) (number_decimal k few) ∙ eq-eqb k k refl)
          (ap (row_fits names k) r.is ∙ ap (node_fits names k) (node_said n) ∙ node_fits_lem names k n f u);
      free = line_free (decimal k ∷ texts) over;
    }

-- what is taken of lines that begin with a text's: the text, and what stands after it is left
record Takes (text rest : List ℕ) (c : Taking) (o : Result Taking) : Type 0 where
  line : ℕ
  is : o ≡ accepted (record { text = c.text ++ text; line = line; rest = pieces line_feed rest })

-- texts in other groups
line_first : (l more rest : List ℕ) → ((l ++ (line_feed ∷ [])) ++ more) ++ rest ≡ l ++ (line_feed ∷ (more ++ rest))
line_first l more rest = simp append_assoc

line_last : (got l more : List ℕ) → (got ++ l ++ (line_feed ∷ [])) ++ more ≡ got ++ ((l ++ (line_feed ∷ [])) ++ more)
line_last got l more = simp append_assoc

module _ (names : ℕ) (h : names ≤ most_names) where
  take_node_lem : (k : ℕ) (l rest : List ℕ) (c : Taking) → NodeLine names k l → c.rest ≡ pieces line_feed (l ++ (line_feed ∷ rest))
      → take_node names k c ≡ accepted (take_line c l (pieces line_feed rest))
  take_node_lem k l rest c n e =
      let f : List ℕ → List (List ℕ) → Result Taking = λ l ls. if (node_in_form names k l) (λ _. accepted (take_line c l ls)) (λ _. refused 11 c.line) in
      ap (λ (ps : List (List ℕ)). next_line c.line ps f) e ∙ next_line_lem c.line l rest f n.free
      ∙ ap (λ (b : Bool). if b (λ _. accepted (take_line c l (pieces line_feed rest))) (λ _. refused 11 c.line)) n.fits

  module _ (ns : List Node) (formed : (x : ℕ) → Formed names (node_at ns x)) (seen : List ℕ) where
    child_lands : (pre post kids : List ℕ) → seen ≡ pre ++ post → All (λ (y : ℕ). contains pre y ≡ true) kids → Lands (λ (y : ℕ). position (eqb y) seen) (length pre) kids
    child_lands pre post kids e a =
        all_more (λ (y : ℕ). contains pre y ≡ true) (λ (y : ℕ). position (eqb y) seen < length pre)
        (λ y c. let p = position_within y pre post c in let q = ap (position (eqb y)) e in omega arith) kids a

    abbrev here : ℕ → Node
    here x = renumber (λ (y : ℕ). position (eqb y) seen) (node_at ns x)

    take_nodes_lem : (pre xs : List ℕ) (k : ℕ) (rest : List ℕ) (c : Taking) → seen ≡ pre ++ xs → k ≡ length pre → k + length xs ≤ most_nodes → Steps ns pre xs
        → c.rest ≡ pieces line_feed (node_texts ns seen k xs ++ rest) → Takes (node_texts ns seen k xs) rest c (take_nodes names k (length xs) c)
    unfolding node_text
    take_nodes_lem pre [] k rest c s i m w e =
        record { line = c.line; is = λ j. accepted (record { text = sym (append-nil c.text) j; line = c.line; rest = e j }) }
    take_nodes_lem pre (x ∷ xs) k rest c s i m w e =
        let l = parted tab (decimal k ∷ row_texts node_kinds (encode (here x))) in
        let more = node_texts ns seen (suc k) xs in
        let lands = child_lands pre (x ∷ xs) (children (node_at ns x)) s w.0.kids in
        let u : Under k (children (here x)) = subst (λ (j : ℕ). Under j (children (here x))) (sym i) (lands_children (λ (y : ℕ). position (eqb y) seen) (length pre) (node_at ns x) lands) in
        let n = node_line names k (here x) h (omega arith) (formed_renumber names (λ (y : ℕ). position (eqb y) seen) (node_at ns x) (formed x)) u in
        let d = take_line c l (pieces line_feed (more ++ rest)) in
        let t = take_node_lem k l (more ++ rest) c n (e ∙ ap (pieces line_feed) (line_first l more rest)) in
        let r = take_nodes_lem (pre ++ (x ∷ [])) xs (suc k) rest d (s ∙ sym (append_assoc pre (x ∷ []) xs)) (omega (arith, length-append pre (x ∷ []))) (omega arith) w.1 refl in
        record {
          line = r.line;
          is = ap (λ (o : Result Taking). then o (λ (q : Taking). take_nodes names (suc k) (length xs) q)) t ∙ r.is
              ∙ ap (λ (got : List ℕ). accepted (record { text = got; line = r.line; rest = pieces line_feed rest })) (line_last c.text l more);
        }

  within_true : (a b x : ℕ) → a ≤ x → x ≤ b → within a b x ≡ true
  within_true a b x l m = both_true (leb a x) (λ _. leb x b) (le-leb a x l) (le-leb x b m)

  -- a root's lines
  module _ (root : Root) (known : root.id ≤ greatest) (sign : root.sign ≤ 1) where
    for_root_lem : (k : ℕ) (ws : List ℕ) → for_root root (k ∷ root.id ∷ root.sign ∷ ws) ≡ true
    for_root_lem k ws = both_true (eqb root.id root.id) _ (eq-eqb root.id root.id refl) (eq-eqb root.sign root.sign refl)

    take_head : (row : List ℕ) (n : ℕ) (rest : List ℕ) (c : Taking) → RowReads head_kinds row → nodes_after root (some row) ≡ some n
        → c.rest ≡ pieces line_feed (head_text row ++ rest)
        → take_root names root c ≡ take_nodes names 0 n (take_line c (parted tab (row_texts head_kinds row)) (pieces line_feed rest))
    take_head row n rest c r a e =
        let l = parted tab (row_texts head_kinds row) in
        let f : List ℕ → List (List ℕ) → Result Taking = λ l ls. take_after names (take_line c l ls) (nodes_after root (row_of head_kinds l)) c.line in
        ap (λ (ps : List (List ℕ)). next_line c.line ps f) (e ∙ ap (pieces line_feed) (append_assoc l (line_feed ∷ []) rest))
        ∙ next_line_lem c.line l rest f (line_free (row_texts head_kinds row) r.over)
        ∙ ap (λ (m : Option (List ℕ)). take_after names (take_line c l (pieces line_feed rest)) (nodes_after root m) c.line) (row_line head_kinds row r)
        ∙ ap (λ (m : Option ℕ). take_after names (take_line c l (pieces line_feed rest)) m c.line) a

    refused_row : (k : ℕ) → k ≤ 9 → RowReads head_kinds (2 ∷ root.id ∷ root.sign ∷ k ∷ [])
    refused_row k m =
        row_reads head_kinds 2 _ (λ fs. refl) refl (next (says_number root.id known) (next (says_sign root.sign sign) (last (says_number k (omega arith)))))

    refused_after : (k : ℕ) → RunNumber k → nodes_after root (some (2 ∷ root.id ∷ root.sign ∷ k ∷ [])) ≡ some 0
    refused_after k r = rw (for_root_lem 2 (k ∷ [])) (rw (within_true 6 9 k r.0 r.1))

    abbrev shown_row : ℕ → ℕ → Bool → Bool → ℕ → List ℕ
    shown_row passes ops sorted bailed n = 1 ∷ root.id ∷ root.sign ∷ passes ∷ ops ∷ flag sorted ∷ flag bailed ∷ n ∷ []

    shown_row_lem : (passes ops : ℕ) (sorted bailed : Bool) (n : ℕ) → passes ≤ 2 → ops ≤ greatest → n ≤ most_nodes → RowReads head_kinds (shown_row passes ops sorted bailed n)
    shown_row_lem passes ops sorted bailed n p o m =
        row_reads head_kinds 1 _ (λ fs. refl) refl
        (next (says_number root.id known)
        (next (says_sign root.sign sign)
        (next (says_number passes (omega arith))
        (next (says_number ops o)
        (next (says_flag (flag sorted) (flag_few sorted))
        (next (says_flag (flag bailed) (flag_few bailed))
        (last (says_number n (omega arith)))))))))

    shown_after : (passes ops : ℕ) (sorted bailed : Bool) (n : ℕ) → 1 ≤ passes → passes ≤ 2 → 1 ≤ n → n ≤ most_nodes → nodes_after root (some (shown_row passes ops sorted bailed n)) ≡ some n
    shown_after passes ops sorted bailed n a b c d =
        rw (for_root_lem 1 (passes ∷ ops ∷ flag sorted ∷ flag bailed ∷ n ∷ []), within_true 1 2 passes a b, within_true 1 most_nodes n c d)

    take_answer : (a : Answer) → Answers (ShowsFormed names) a → (rest : List ℕ) (c : Taking) → c.rest ≡ pieces line_feed (answer_text root.id root.sign a ++ rest)
        → Takes (answer_text root.id root.sign a) rest c (take_root names root c)
    take_answer (refused_with k) (stops r) rest c e =
        let row : List ℕ = 2 ∷ root.id ∷ root.sign ∷ k ∷ [] in
        record {
          line = suc c.line;
          is = take_head row 0 rest c (refused_row k r.1) (refused_after k r) e
              ∙ ap (λ (got : List ℕ). accepted (record { text = got; line = suc c.line; rest = pieces line_feed rest }))
              (append_assoc c.text (parted tab (row_texts head_kinds row)) (line_feed ∷ []));
        }
    take_answer (shown a) (shows s) rest c e =
        let passes = a.passes in let ops = a.operations in let sorted = a.sorted in let bailed = a.bailed in let ns = a.nodes in let x = a.root in
        let w = walk ns x in
        let few : length w ≤ most_nodes = omega (arith, walk_few ns s.rooted x s.below, s.few) in
        let row = shown_row passes ops sorted bailed (length w) in
        let l = parted tab (row_texts head_kinds row) in
        let more = node_texts ns w 0 w in
        let d = take_line c l (pieces line_feed (more ++ rest)) in
        let t = take_head row (length w) (more ++ rest) c (shown_row_lem passes ops sorted bailed (length w) s.twice s.counted few)
        (shown_after passes ops sorted bailed (length w) s.once s.twice (walk_some ns s.rooted x s.below) few)
        (e ∙ ap (pieces line_feed) (append_assoc (head_text row) more rest)) in
        let r = take_nodes_lem ns s.formed w [] w 0 rest d refl refl (omega arith) (walk_steps ns s.rooted x s.below) refl in
        record {
          line = r.line;
          is = t ∙ r.is ∙ ap (λ (got : List ℕ). accepted (record { text = got; line = r.line; rest = pieces line_feed rest })) (line_last c.text l more);
        }

-- each root has a line
line_some : (fs : List (List ℕ)) (more : List ℕ) → 1 ≤ length (line_text fs ++ more)
line_some fs more = omega (arith, length-append (line_text fs) more, length-append (parted tab fs) (line_feed ∷ []))

answer_some : (id s : ℕ) (a : Answer) → 1 ≤ length (answer_text id s a)
answer_some id s (refused_with k) = omega (arith, length-append (parted tab (row_texts head_kinds (2 ∷ id ∷ s ∷ k ∷ []))) (line_feed ∷ []))
answer_some id s (shown a) =
    line_some (row_texts head_kinds (1 ∷ id ∷ s ∷ a.passes ∷ a.operations ∷ flag a.sorted ∷ flag a.bailed ∷ length (walk a.nodes a.root) ∷ []))
    (node_texts a.nodes (walk a.nodes a.root) 0 (walk a.nodes a.root))

roots_few : (form : Form) (t : Table) (roots : List Root) → length roots ≤ length (joined (map (root_text_of form t) roots))
unfolding root_text
roots_few form t [] = omega arith
roots_few form t (root ∷ roots) =
    let r = roots_few form t roots in
    let s = answer_some root.id root.sign (answer_in form (answer_of t root.id (polarity_of root.sign))) in
    omega (arith, length-append (root_text_of form t root) (joined (map (root_text_of form t) roots)))

-- the line `numbered`, if there is one, is taken
take_numbered_lem : (form : Form) (rest : List ℕ) (c : Taking) → c.rest ≡ pieces line_feed (numbered_text form ++ rest) → Takes (numbered_text form) rest c (take_numbered form c)
take_numbered_lem Plain rest c e =
    record { line = c.line; is = λ j. accepted (record { text = sym (append-nil c.text) j; line = c.line; rest = e j }) }
take_numbered_lem Numbered rest c e =
    let l = ascii "numbered" in
    let f : List ℕ → List (List ℕ) → Result Taking = λ l ls. if (eq_list l (ascii "numbered")) (λ _. accepted (take_line c l ls)) (λ _. refused 11 c.line) in
    record {
      line = suc c.line;
      is = ap (λ (ps : List (List ℕ)). next_line c.line ps f) e ∙ next_line_lem c.line l rest f (over_line l (over_by 43 l refl))
          ∙ ap (λ (got : List ℕ). accepted (record { text = got; line = suc c.line; rest = pieces line_feed rest })) (append_assoc c.text l (line_feed ∷ []));
    }

module _ (form : Form) (text : List ℕ) (t : Table) (e : table_of text ≡ accepted t) where
  abbrev names : ℕ
  names = length t.names

  take_root_lem : (root : Root) → root.id < length t.entries → root.sign ≤ 1 → (rest : List ℕ) (c : Taking) → c.rest ≡ pieces line_feed (root_text_of form t root ++ rest)
      → Takes (root_text_of form t root) rest c (take_root names root c)
  unfolding root_text answer_of first_pass
  take_root_lem root lt s rest c q =
      let p = accepted_formed text t e in
      let few = p.tabled.few in
      take_answer names (few_names text t e) root (omega arith) s (answer_in form (answer_of t root.id (polarity_of root.sign)))
      (formed_in names form (answer_of t root.id (polarity_of root.sign))
      (answer_formed names (reader_of t) root.id (polarity_of root.sign) (first_pass t) p lt)) rest c q

  take_roots_lem : (roots : List Root) → KnownRoots (length t.entries) roots → (c : Taking)
      → c.rest ≡ pieces line_feed (joined (map (root_text_of form t) roots)) → take_roots names roots c ≡ accepted (map (root_text_of form t) roots)
  unfolding pieces
  take_roots_lem [] k c q = ap (at_end c.line) q
  take_roots_lem (root ∷ roots) k c q =
      let r = take_root_lem root k.0.0 k.0.1 (joined (map (root_text_of form t) roots)) (blank c) q in
      let d : Taking = record { text = root_text_of form t root; line = r.line; rest = pieces line_feed (joined (map (root_text_of form t) roots)) } in
      ap (λ (o : Result Taking). then o (λ (d : Taking). then (take_roots names roots d) (λ (ts : List (List ℕ)). accepted (d.text ∷ ts)))) r.is
      ∙ ap (λ (o : Result (List (List ℕ))). then o (λ (ts : List (List ℕ)). accepted (root_text_of form t root ∷ ts))) (take_roots_lem roots k.1 d refl)

  -- the printed listing, where it fits, is in form and falls into exactly its roots' lines
  pub printed_listing : length (listing_text form t) ≤ most_text → old_listing form names t.roots (listing_text form t) ≡ accepted (map (root_text_of form t) t.roots)
  unfolding old_listing listing_text
  printed_listing fits =
      let n = length t.roots in
      let row : List ℕ = 0 ∷ n ∷ [] in
      let l = parted tab (row_texts head_kinds row) in
      let lines = joined (map (root_text_of form t) t.roots) in
      let rest = numbered_text form ++ lines in
      let few : n ≤ greatest = omega (arith, roots_few form t t.roots, length-append (answers_text form n) lines) in
      let r : RowReads head_kinds row = row_reads head_kinds 0 (n ∷ []) (λ fs. refl) refl (last (says_number n few)) in
      let c : Taking = record { text = []; line = 2; rest = pieces line_feed rest } in
      let h = take_numbered_lem form lines c refl in
      let d : Taking = record { text = numbered_text form; line = h.line; rest = pieces line_feed lines } in
      let f : List ℕ → List (List ℕ) → Result (List (List ℕ)) =
      λ l ls. if (is_answers n (row_of head_kinds l))
      (λ _. then (take_numbered form (record { text = []; line = 2; rest = ls })) (λ (c : Taking). take_roots names t.roots c)) (λ _. refused 11 1) in
      rw (le-ltb most_text (length (answers_text form n ++ lines)) fits)
      (ap (λ (whole : List ℕ). next_line 1 (pieces line_feed whole) f)
      (append_assoc (head_text row) (numbered_text form) lines ∙ append_assoc l (line_feed ∷ []) rest)
      ∙ next_line_lem 1 l rest f (line_free (row_texts head_kinds row) r.over)
      ∙ ap (λ (b : Bool). if b (λ _. then (take_numbered form c) (λ (c : Taking). take_roots names t.roots c)) (λ _. refused 11 1))
      (ap (is_answers n) (row_line head_kinds row r) ∙ eq-eqb n n refl)
      ∙ ap (λ (o : Result Taking). then o (λ (c : Taking). take_roots names t.roots c)) h.is
      ∙ take_roots_lem t.roots (roots_known text t e) d refl)
