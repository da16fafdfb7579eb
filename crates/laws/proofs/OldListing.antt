-- An old listing in form is the line `answers` and its roots' lines, one after another, byte by byte; and it is in one form only (`other_refused`).
-- Assumes nothing.
use mathlib.Core.Path.{◌≡◌, refl, sym, ap, ap₂, ◌∙◌}
use mathlib.Core.Bool.{Bool, true, false}
use Prim.Native.Nat.{ℕ, zero, suc, ◌+◌, ◌-◌, ◌*◌, ◌/◌, ◌%◌, ◌≤◌, ◌<◌}
use native.Mathlib.Omega.{arith}
use mathlib.Core.List.{List, [], ◌∷◌, ◌++◌, append-nil, append_assoc}
use mathlib.Core.Option.{Option, none, some}
use lib.ListN.{length, get_or}
use lib.Dec.{eqb, ltb}
use borrow.Author.Tests.{ltb-false, lt-ltb, le-ltb, eqb-true, eq-eqb}
use Rattle.cells.specs.Part.{if, eq_list}
use Rattle.cells.proofs.Choices.{by_test, true_false}
use Rattle.rules.specs.Plain.{ascii, joined, ◌>>=◌}
use Rattle.rules.specs.Ceilings.{most_text}
use Rattle.rules.specs.Text.{tab, line_feed, cut, pieces, parted, greatest, digit, digits, number, decimal_by, decimal, a_number, field_of, by_shape, tagged}
use Rattle.rules.specs.Text.{no_kind, by_word, row_of, field_text, row_texts}
use Rattle.rules.specs.Table.{Root, Result, accepted, refused, then}
use Rattle.rules.specs.declared.Form.{Form}
use Rattle.rules.specs.declared.Form.TheVariants.{Plain, Numbered}
use Rattle.rules.specs.Listing.{answers_head, head_text, numbered_text, take_numbered, root_head, refused_head, head_kinds, answers_text, node_in_form, Taking, next_line, take_line, take_node, take_nodes}
use Rattle.rules.specs.Listing.{nodes_after, take_after, take_root, blank, at_end, take_roots, is_answers, old_listing}
use Rattle.laws.proofs.Storing.{eq_list_true}
use Rattle.laws.proofs.Admitting.{both_parts}

-- a refusal is not accepted, nothing is not something
refused_accepted : {A B : Type 0} {k l : ℕ} {a : A} → ◌≡◌ {A = Result A} (refused k l) (accepted a) → B
refused_accepted e = let z : ◌≡◌ {A = ℕ} 0 1 = cc in absurd (omega arith)

none_some : {A B : Type 0} {a : A} → ◌≡◌ {A = Option A} none (some a) → B
none_some e = let z : ◌≡◌ {A = ℕ} 0 1 = cc in absurd (omega arith)

cons_nil : {A B : Type 0} {x : A} {xs : List A} → ◌≡◌ {A = List A} (x ∷ xs) [] → B
cons_nil e = let z : ◌≡◌ {A = ℕ} 0 1 = cc in absurd (omega arith)

-- what is accepted went on after each step and each test
pub record Comes {A B : Type 0} (r : Result A) (f : A → Result B) (b : B) : Type 0 where
  pub value : A
  pub is : r ≡ accepted value
  pub next : f value ≡ accepted b

pub comes : {A B : Type 0} (r : Result A) (f : A → Result B) (b : B) → then r f ≡ accepted b → Comes r f b
comes (accepted a) f b e = record { value = a; is = refl; next = e }
comes (refused k l) f b e = refused_accepted e

module _ {A : Type 0} {a : A} (k l : ℕ) where
  pub passed : (b : Bool) (x : Unit {0} → Result A) → if b x (λ _. refused k l) ≡ accepted a → (b ≡ true) × (x tt ≡ accepted a)
  passed true x e = (refl, e)
  passed false x e = refused_accepted e

  pub not_stopped : (b : Bool) (x : Unit {0} → Result A) → if b (λ _. refused k l) x ≡ accepted a → (b ≡ false) × (x tt ≡ accepted a)
  not_stopped true x e = refused_accepted e
  not_stopped false x e = (refl, e)

-- the pieces of a text put together again are the text
module _ (sep : ℕ) where
  parted_turn : (p g : List ℕ) (gs ps : List (List ℕ)) (b : Bool) → parted sep (p ∷ ps) ≡ p ++ (sep ∷ parted sep ps)
      → parted sep (p ∷ if b (λ _. g ∷ gs) (λ _. ps)) ≡ p ++ (sep ∷ parted sep (if b (λ _. g ∷ gs) (λ _. ps)))
  parted_turn p g gs ps true h = refl
  parted_turn p g gs ps false h = h

  parted_cons : (p got l : List ℕ) → parted sep (p ∷ cut sep got l) ≡ p ++ (sep ∷ parted sep (cut sep got l))
  parted_cons p got [] = refl
  parted_cons p got (b ∷ l) = parted_turn p got (cut sep [] l) (cut sep (got ++ (b ∷ [])) l) (eqb b sep) (parted_cons p (got ++ (b ∷ [])) l)

  parted_cut : (got l : List ℕ) → parted sep (cut sep got l) ≡ got ++ l
  parted_cut got [] = sym (append-nil got)
  parted_cut got (b ∷ l) =
      by_test (λ (ps : List (List ℕ)). parted sep ps ≡ got ++ (b ∷ l)) (eqb b sep) _ _
      (λ e. parted_cons got [] l ∙ ap₂ {C = List ℕ} (λ (x : ℕ) (m : List ℕ). got ++ (x ∷ m)) (sym (eqb-true b sep e)) (parted_cut [] l))
      (λ e. parted_cut (got ++ (b ∷ [])) l ∙ append_assoc got (b ∷ []) l)

  pub parted_pieces : (l : List ℕ) → parted sep (pieces sep l) ≡ l
  unfolding pieces
  parted_pieces l = parted_cut [] l

-- no other text than a number's decimal is read as the number. How many steps there are for its digits makes no difference
pub decimal_steps : (f g n : ℕ) → n ≤ f → n ≤ g → decimal_by f n ≡ decimal_by g n
decimal_steps zero zero n h k = refl
decimal_steps zero (suc g) n h k = rw (lt-ltb n 10 (omega arith))
decimal_steps (suc f) zero n h k = rw (lt-ltb n 10 (omega arith))
decimal_steps (suc f) (suc g) n h k =
    by_test (λ (l : List ℕ). l ≡ decimal_by (suc g) n) (ltb n 10) _ _
    (λ e. rw e)
    (λ e. let m = ltb-false n 10 e in
    rw e (ap (λ (l : List ℕ). l ++ ((48 + n % 10) ∷ [])) (decimal_steps f g (n / 10) (omega arith) (omega arith))))

-- the digit that was read
record DigitRead (v b n : ℕ) : Type 0 where
  low : 48 ≤ b
  high : b < 58
  is : v * 10 + (b - 48) ≡ n

digit_read : (v b n : ℕ) → digit v b ≡ some n → DigitRead v b n
unfolding digit
digit_read v b n =
    by_test (λ (m : Option ℕ). m ≡ some n → DigitRead v b n) (ltb b 48) _ _ (λ e h. none_some h)
    (λ e. by_test (λ (m : Option ℕ). m ≡ some n → DigitRead v b n) (ltb 57 b) _ _ (λ f h. none_some h)
    (λ f. by_test (λ (m : Option ℕ). m ≡ some n → DigitRead v b n) (ltb greatest (v * 10 + (b - 48))) _ _ (λ g h. none_some h)
    (λ g h. let l = ltb-false b 48 e in let m = ltb-false 57 b f in record { low = omega arith; high = omega arith; is = cc })))

-- the number of one digit, and of one digit more
decimal_first : (b n : ℕ) → DigitRead 0 b n → decimal n ≡ b ∷ []
unfolding decimal
decimal_first b n d =
    let l = d.low in let h = d.high in let i = d.is in
    let e : 48 + n ≡ b = omega arith in
    decimal_steps n (suc n) n (omega arith) (omega arith) ∙ rw (lt-ltb n 10 (omega arith), e)

decimal_next : (v b n : ℕ) → 1 ≤ v → DigitRead v b n → decimal n ≡ decimal v ++ (b ∷ [])
unfolding decimal
decimal_next v b n h d =
    let l = d.low in let k = d.high in let i = d.is in
    let q : n / 10 ≡ v = omega arith in
    let r : 48 + n % 10 ≡ b = omega arith in
    decimal_steps n (suc n) n (omega arith) (omega arith)
    ∙ rw (le-ltb n 10 (omega arith), q, r) (ap (λ (x : List ℕ). x ++ (b ∷ [])) (decimal_steps n v v (omega arith) (omega arith)))

digits_turn : (v n b : ℕ) (l : List ℕ) (m : Option ℕ) → 1 ≤ v → digit v b ≡ m → ((x : ℕ) → 1 ≤ x → digits x l ≡ some n → decimal n ≡ decimal x ++ l)
    → (m >>= (λ (x : ℕ). digits x l)) ≡ some n → decimal n ≡ decimal v ++ (b ∷ l)
digits_turn v n b l none h e ih f = none_some f
digits_turn v n b l (some x) h e ih f =
    let d = digit_read v b x e in
    let i = d.is in
    ih x (omega arith) f ∙ ap (λ (y : List ℕ). y ++ l) (decimal_next v b x h d) ∙ append_assoc (decimal v) (b ∷ []) l

digits_exact : (n : ℕ) (l : List ℕ) (v : ℕ) → 1 ≤ v → digits v l ≡ some n → decimal n ≡ decimal v ++ l
digits_exact n [] v h e = ap decimal (let z : n ≡ v = cc in z) ∙ sym (append-nil (decimal v))
digits_exact n (b ∷ l) v h e = digits_turn v n b l (digit v b) h refl (digits_exact n l) e

first_turn : (n b : ℕ) (l : List ℕ) (m : Option ℕ) → (b ≡ 48 → l ≡ []) → digit 0 b ≡ m → (m >>= (λ (x : ℕ). digits x l)) ≡ some n → decimal n ≡ b ∷ l
first_turn n b l none z e f = none_some f
first_turn n b [] (some x) z e f = ap decimal (let y : n ≡ x = cc in y) ∙ decimal_first b x (digit_read 0 b x e)
first_turn n b (c ∷ l) (some x) z e f =
    let d = digit_read 0 b x e in
    let i = d.is in let low = d.low in
    let other : b ≡ 48 → ⊥ = λ (q : b ≡ 48). cons_nil (z q) in
    digits_exact n (c ∷ l) x (omega arith) f ∙ ap (λ (y : List ℕ). y ++ (c ∷ l)) (decimal_first b x d)

number_exact : (l : List ℕ) (n : ℕ) → number l ≡ some n → l ≡ decimal n
unfolding number
number_exact [] n e = none_some e
number_exact (b ∷ []) n e = sym (first_turn n b [] (digit 0 b) (λ q. refl) refl e)
number_exact (b ∷ c ∷ l) n e =
    by_test (λ (m : Option ℕ). m ≡ some n → b ∷ c ∷ l ≡ decimal n) (eqb b 48) _ _ (λ q f. none_some f)
    (λ q f. sym (first_turn n b (c ∷ l) (digit 0 b) (λ z. true_false (sym (eq-eqb b 48 z) ∙ q)) refl f)) e

-- a line that is taken is ended by a line feed
record NextLine {A : Type 0} (ps : List (List ℕ)) (f : List ℕ → List (List ℕ) → Result A) (a : A) : Type 0 where
  line : List ℕ
  rest : List (List ℕ)
  whole : parted line_feed ps ≡ line ++ (line_feed ∷ parted line_feed rest)
  next : f line rest ≡ accepted a

next_accepted : {A : Type 0} (k : ℕ) (ps : List (List ℕ)) (f : List ℕ → List (List ℕ) → Result A) (a : A) → next_line k ps f ≡ accepted a → NextLine ps f a
next_accepted k [] f a e = refused_accepted e
next_accepted k (l ∷ []) f a e = refused_accepted e
next_accepted k (l ∷ m ∷ ls) f a e = record { line = l; rest = m ∷ ls; whole = refl; next = e }

-- what was taken, and what is left to take
abbrev whole : Taking → List ℕ
whole c = c.text ++ parted line_feed c.rest

line_whole : (c : Taking) (l : List ℕ) (ls : List (List ℕ)) → parted line_feed c.rest ≡ l ++ (line_feed ∷ parted line_feed ls)
    → whole (take_line c l ls) ≡ whole c
line_whole c l ls e =
    let z : (c.text ++ l ++ (line_feed ∷ [])) ++ parted line_feed ls ≡ c.text ++ (l ++ (line_feed ∷ parted line_feed ls)) = simp append_assoc in
    z ∙ ap (λ (m : List ℕ). c.text ++ m) (sym e)

module _ (names : ℕ) where
  node_whole : (i : ℕ) (c d : Taking) → take_node names i c ≡ accepted d → whole d ≡ whole c
  node_whole i c d e =
      let n = next_accepted c.line c.rest _ d e in
      let p = (passed 11 c.line (node_in_form names i n.line) _ n.next).1 in
      let q : d ≡ take_line c n.line n.rest = cc in
      ap whole q ∙ line_whole c n.line n.rest n.whole

  nodes_whole : (i n : ℕ) (c d : Taking) → take_nodes names i n c ≡ accepted d → whole d ≡ whole c
  nodes_whole i zero c d e = ap whole (let q : d ≡ c = cc in q)
  nodes_whole i (suc n) c d e =
      let s = comes (take_node names i c) (λ (x : Taking). take_nodes names (suc i) n x) d e in
      nodes_whole (suc i) n s.value d s.next ∙ node_whole i c s.value s.is

  after_whole : (c d : Taking) (m : Option ℕ) (k : ℕ) → take_after names c m k ≡ accepted d → whole d ≡ whole c
  after_whole c d none k e = refused_accepted e
  after_whole c d (some n) k e = nodes_whole 0 n c d e

  root_whole : (root : Root) (c d : Taking) → take_root names root c ≡ accepted d → whole d ≡ whole c
  root_whole root c d e =
      let n = next_accepted c.line c.rest _ d e in
      after_whole (take_line c n.line n.rest) d (nodes_after root (row_of head_kinds n.line)) c.line n.next
      ∙ line_whole c n.line n.rest n.whole

  -- each root's lines
  record Taken (roots : List Root) (ps texts : List (List ℕ)) : Type 0 where
    all : joined texts ≡ parted line_feed ps
    many : length texts ≡ length roots

  end_taken : (k : ℕ) (ps texts : List (List ℕ)) → at_end k ps ≡ accepted texts → Taken [] ps texts
  end_taken k [] texts e = let q : texts ≡ [] = cc in record { all = ap joined q; many = ap length q }
  end_taken k ([] ∷ []) texts e = let q : texts ≡ [] = cc in record { all = ap joined q; many = ap length q }
  end_taken k ((b ∷ l) ∷ []) texts e = refused_accepted e
  end_taken k (l ∷ m ∷ ls) texts e = refused_accepted e

  roots_taken : (roots : List Root) (c : Taking) (texts : List (List ℕ)) → take_roots names roots c ≡ accepted texts → Taken roots c.rest texts
  roots_taken [] c texts e = end_taken c.line c.rest texts e
  roots_taken (r ∷ rs) c texts e =
      let s = comes (take_root names r (blank c)) _ texts e in
      let d = s.value in
      let u = comes (take_roots names rs d) (λ (ts : List (List ℕ)). accepted (d.text ∷ ts)) texts s.next in
      let more = u.value in
      let z = u.next in
      let q : texts ≡ d.text ∷ more = cc in
      let t = roots_taken rs d more u.is in
      record {
        all = ap joined q ∙ ap (λ (m : List ℕ). d.text ++ m) t.all ∙ root_whole r (blank c) d s.is;
        many = ap length q ∙ ap suc t.many;
      }

-- the line `answers` has one form
shape_turn : (n : ℕ) (fs : List (List ℕ)) → is_answers n (tagged 0 (by_shape (a_number ∷ []) fs)) ≡ true → fs ≡ decimal n ∷ []
unfolding field_of
shape_turn n [] e = true_false (sym e)
shape_turn n (p ∷ []) e = number_turn (number p) refl e
  where
    number_turn : (m : Option ℕ) → number p ≡ m → is_answers n (tagged 0 ((m >>= (λ (x : ℕ). some (x ∷ []))) >>= (λ (xs : List ℕ). some (xs ++ [])))) ≡ true
        → p ∷ [] ≡ decimal n ∷ []
    number_turn none f e = true_false (sym e)
    number_turn (some x) f e = ap (λ (q : List ℕ). q ∷ []) (number_exact p x f ∙ ap decimal (eqb-true x n e))
shape_turn n (p ∷ q ∷ ps) e = many_turn (field_of a_number p) e
  where
    many_turn : (m : Option (List ℕ)) → is_answers n (tagged 0 (m >>= (λ (x : List ℕ). none))) ≡ true → p ∷ q ∷ ps ≡ decimal n ∷ []
    many_turn none e = true_false (sym e)
    many_turn (some x) e = true_false (sym e)

answers_line : (n : ℕ) (l : List ℕ) → is_answers n (row_of head_kinds l) ≡ true → l ++ (line_feed ∷ []) ≡ head_text (answers_head ∷ n ∷ [])
unfolding row_of row_texts field_text
answers_line n l e =
    ap (λ (m : List ℕ). m ++ (line_feed ∷ [])) (sym (parted_pieces tab l) ∙ ap (parted tab) (by_words (pieces tab l) e))
  where
    other : (k : ℕ) (m : Option (List ℕ)) → is_answers n (tagged (suc k) m) ≡ true → {A : Type 0} → A
    other k none e = true_false (sym e)
    other k (some xs) e = let z = eqb-true (suc k) 0 (both_parts (eqb (suc k) 0) _ e).0 in absurd (omega arith)

    by_words : (ps : List (List ℕ)) → is_answers n (by_word head_kinds ps) ≡ true → ps ≡ ascii "answers" ∷ decimal n ∷ []
    by_words [] e = true_false (sym e)
    by_words (w ∷ fs) e =
        by_test (λ (m : Option (List ℕ)). is_answers n m ≡ true → w ∷ fs ≡ ascii "answers" ∷ decimal n ∷ []) (eq_list w (ascii "answers")) _ _
        (λ q f. ap₂ {C = List (List ℕ)} ◌∷◌ (eq_list_true w (ascii "answers") q) (shape_turn n fs f))
        (λ q. by_test (λ (m : Option (List ℕ)). is_answers n m ≡ true → w ∷ fs ≡ ascii "answers" ∷ decimal n ∷ []) (eq_list w (ascii "root")) _ _
        (λ q f. other 0 (by_shape (get_or head_kinds root_head no_kind).shape fs) f)
        (λ q. by_test (λ (m : Option (List ℕ)). is_answers n m ≡ true → w ∷ fs ≡ ascii "answers" ∷ decimal n ∷ []) (eq_list w (ascii "refused")) _ _
        (λ q f. other 1 (by_shape (get_or head_kinds refused_head no_kind).shape fs) f) (λ q f. true_false (sym f)))) e

-- the line `numbered` has one form
numbered_whole : (form : Form) (c d : Taking) → take_numbered form c ≡ accepted d → parted line_feed c.rest ≡ numbered_text form ++ parted line_feed d.rest
numbered_whole Plain c d e = let q : d ≡ c = cc in ap (λ (x : Taking). parted line_feed x.rest) (sym q)
numbered_whole Numbered c d e =
    let n = next_accepted c.line c.rest _ d e in
    let p = passed 11 c.line (eq_list n.line (ascii "numbered")) _ n.next in
    let z = p.1 in
    let q : take_line c n.line n.rest ≡ d = cc in
    n.whole ∙ ap₂ {C = List ℕ} (λ (l m : List ℕ). l ++ (line_feed ∷ m)) (eq_list_true n.line (ascii "numbered") p.0)
    (ap (λ (x : Taking). parted line_feed x.rest) q)

-- a listing from its second line on
abbrev from_second : List (List ℕ) → Taking
from_second ps = record { text = []; line = 2; rest = ps }

-- an old listing in form, by the lines of each root that are read from it
pub record InForm (form : Form) (roots : List Root) (l : List ℕ) (texts : List (List ℕ)) : Type 0 where
  pub short : length l ≤ most_text
  pub is : l ≡ answers_text form (length roots) ++ joined texts
  pub many : length texts ≡ length roots

pub in_form_lem : (form : Form) (names : ℕ) (roots : List Root) (l : List ℕ) (texts : List (List ℕ)) → old_listing form names roots l ≡ accepted texts
    → InForm form roots l texts
unfolding old_listing
in_form_lem form names roots l texts e =
    let s = not_stopped 11 0 (ltb most_text (length l)) _ e in
    let n = next_accepted 1 (pieces line_feed l) _ texts s.1 in
    let p = passed 11 1 (is_answers (length roots) (row_of head_kinds n.line)) _ n.next in
    let c = from_second n.rest in
    let h = comes (take_numbered form c) (λ (d : Taking). take_roots names roots d) texts p.1 in
    let t = roots_taken names roots h.value texts h.next in
    record {
      short = ltb-false most_text (length l) s.0;
      is = sym (parted_pieces line_feed l) ∙ n.whole ∙ sym (append_assoc n.line (line_feed ∷ []) (parted line_feed n.rest))
          ∙ ap₂ {C = List ℕ} (λ (x y : List ℕ). x ++ y) (answers_line (length roots) n.line p.0)
          (numbered_whole form c h.value h.is ∙ ap (λ (m : List ℕ). numbered_text form ++ m) (sym t.all))
          ∙ sym (append_assoc (head_text (answers_head ∷ length roots ∷ [])) (numbered_text form) (joined texts));
      many = t.many;
    }

-- the form that a listing does not have
abbrev pub other_form : Form → Form
other_form Plain = Numbered
other_form Numbered = Plain

-- where there was a line, there is one
next_again : {A : Type 0} {a : A} {r : Result A} (k : ℕ) (ps : List (List ℕ)) (f g : List ℕ → List (List ℕ) → Result A)
    → ((p : List ℕ) (qs : List (List ℕ)) → f p qs ≡ accepted a → g p qs ≡ r) → next_line k ps f ≡ accepted a → next_line k ps g ≡ r
next_again k [] f g h e = refused_accepted e
next_again k (p ∷ []) f g h e = refused_accepted e
next_again k (p ∷ q ∷ qs) f g h e = h p (q ∷ qs) e

module _ (names : ℕ) where
  -- the line `numbered` is no root's
  numbered_refused : (roots : List Root) (q : List ℕ) (qs : List (List ℕ)) → take_roots names roots (from_second (ascii "numbered" ∷ q ∷ qs)) ≡ refused 11 2
  unfolding pieces row_of
  numbered_refused [] q qs = refl
  numbered_refused (r ∷ rs) q qs = refl

  no_root : (roots : List Root) (p q : List ℕ) (qs : List (List ℕ)) → eq_list p (ascii "numbered") ≡ true
      → take_roots names roots (from_second (p ∷ q ∷ qs)) ≡ refused 11 2
  no_root roots p q qs t =
      ap (λ (l : List ℕ). take_roots names roots (from_second (l ∷ q ∷ qs))) (eq_list_true p (ascii "numbered") t) ∙ numbered_refused roots q qs

  -- what stands after the line `answers`
  abbrev behind_answers : Form → List Root → List (List ℕ) → Result (List (List ℕ))
  behind_answers form roots ps = then (take_numbered form (from_second ps)) (λ (c : Taking). take_roots names roots c)

  other_behind : (form : Form) (roots : List Root) (ps texts : List (List ℕ)) → behind_answers form roots ps ≡ accepted texts
      → behind_answers (other_form form) roots ps ≡ refused 11 2
  other_behind Plain roots [] texts e = refl
  other_behind Plain roots (p ∷ []) texts e = refl
  other_behind Plain roots (p ∷ q ∷ qs) texts e =
      by_test (λ (x : Result Taking). then x (λ (c : Taking). take_roots names roots c) ≡ refused 11 2) (eq_list p (ascii "numbered")) _ _
      (λ t. refused_accepted (sym (no_root roots p q qs t) ∙ e)) (λ t. refl)
  other_behind Numbered roots [] texts e = refused_accepted e
  other_behind Numbered roots (p ∷ []) texts e = refused_accepted e
  other_behind Numbered roots (p ∷ q ∷ qs) texts e =
      by_test (λ (x : Result Taking). then x (λ (c : Taking). take_roots names roots c) ≡ accepted texts → take_roots names roots (from_second (p ∷ q ∷ qs)) ≡ refused 11 2)
      (eq_list p (ascii "numbered")) _ _ (λ t f. no_root roots p q qs t) (λ t f. refused_accepted f) e

  -- "recheck refuses a mixture of numbered and plain listings. Refusals: 11 for that mixture, at the header's line"
  pub other_refused : (form : Form) (roots : List Root) (l : List ℕ) (texts : List (List ℕ)) → old_listing form names roots l ≡ accepted texts
      → old_listing (other_form form) names roots l ≡ refused 11 2
  unfolding old_listing
  other_refused form roots l texts e =
      let s = not_stopped 11 0 (ltb most_text (length l)) _ e in
      rw s.0 (next_again 1 (pieces line_feed l) _ _ (λ p ps f.
      let t = passed 11 1 (is_answers (length roots) (row_of head_kinds p)) _ f in
      rw t.0 (other_behind form roots ps texts t.1)) s.1)
