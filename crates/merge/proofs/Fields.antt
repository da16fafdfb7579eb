-- Laws of merging: fields whose keys ascend, and the rules' merge of two such lists as a sweep through both. Assumes nothing.
use mathlib.Core.Path.{◌≡◌, refl, sym, ap, ap₂, ◌∙◌, subst}
use mathlib.Core.Bool.{Bool, true, false}
use Prim.Native.Nat.{ℕ, zero, suc, ◌+◌, ◌≤◌, ◌<◌}
use native.Mathlib.Omega.{arith}
use native.Mathlib.Numerals.{add-one}
use mathlib.Core.List.{List, [], ◌∷◌, ◌++◌}
use lib.ListN.{length, drop}
use lib.Seq.{drop-cons, append_snoc}
use lib.Dec.{eqb, ltb}
use borrow.Author.Tests.{ltb-true, lt-ltb, le-ltb, eq-eqb, ne_eqb}
use Rattle.cells.specs.Part.{if}
use Rattle.rules.specs.Ceilings.{most_names}
use Rattle.rules.specs.Plain.{ascending}
use Rattle.rules.specs.Table.{Field, field_keys}
use Rattle.rules.specs.Types.{State, Out, ok, no, bind, give}
use Rattle.rules.specs.Members.{meet_types, merge_field, merge_fields}
use Rattle.laws.proofs.Ascending.{From, Rising}
use Rattle.merge.specs.declared.Next.{Next}
use Rattle.merge.specs.declared.Next.TheVariants.{Old, New, Both}
use Rattle.merge.specs.Merges.{Rise, field_at, Comes, old_taken, new_taken, next_field, next_key}
use Rattle.cells.specs.Placed.{Under}

pub false_true : {A : Type 0} → false ≡ true → A
false_true e = let z : ◌≡◌ {A = ℕ} 0 1 = cc in absurd (omega arith)

-- how far the keys go, and how many there are
pub rise_length : (a b : ℕ) (fs : List Field) → Rise a b fs → a + length fs ≤ b
rise_length a b [] h = omega arith
rise_length a b (f ∷ fs) h = let l = h.0 in omega (arith, rise_length (suc f.key) b fs h.1)

-- the keys as the laws have them
pub rise_rising : (a b : ℕ) (fs : List Field) → Rise a b fs → From a (field_keys fs) × Rising (field_keys fs)
rise_rising a b [] h = (tt, tt)
rise_rising a b (f ∷ fs) h = (h.0, rise_rising (suc f.key) b fs h.1)

pub rise_under : (a b : ℕ) (fs : List Field) → Rise a b fs → Under b (field_keys fs)
rise_under a b [] h = tt
rise_under a b (f ∷ fs) h = (omega (arith, rise_length (suc f.key) b fs h.1), rise_under (suc f.key) b fs h.1)

pub rise_snoc : (a b : ℕ) (fs : List Field) (f : Field) → Rise a b fs → b ≤ f.key → Rise a (suc f.key) (fs ++ (f ∷ []))
rise_snoc a b [] f h le = (omega arith, omega arith)
rise_snoc a b (g ∷ gs) f h le = (h.0, rise_snoc (suc g.key) b gs f h.1 le)

pub rise_most : (a b c : ℕ) (fs : List Field) → b ≤ c → Rise a b fs → Rise a c fs
rise_most a b c [] le h = omega arith
rise_most a b c (f ∷ fs) le h = (h.0, rise_most (suc f.key) b c fs le h.1)

-- what is left from field i on, where k is smaller than its key
rise_skip : (b c : ℕ) {k : ℕ} (fs : List Field) (i : ℕ) → Rise b c (drop i fs) → k < c → (i < length fs → k < (field_at fs i).key) → Rise (suc k) c (drop i fs)
rise_skip b c [] zero h lt e = lt
rise_skip b c [] (suc i) h lt e = lt
rise_skip b c (f ∷ fs) zero h lt e = (e (omega arith), h.1)
rise_skip b c (f ∷ fs) (suc i) h lt e = rise_skip b c fs i h lt (λ l. e (omega arith))

rise_next : (b c : ℕ) (fs : List Field) (i : ℕ) → Rise b c (drop i fs) → i < length fs → Rise (suc (field_at fs i).key) c (drop (suc i) fs)
rise_next b c fs i h lt = (subst (Rise b c) (drop-cons fs i (record { key = 0; type = 0 }) lt) h).1

rise_from : (b c : ℕ) (fs : List Field) (i : ℕ) → Rise b c (drop i fs) → i < length fs → b ≤ (field_at fs i).key
rise_from b c fs i h lt = (subst (Rise b c) (drop-cons fs i (record { key = 0; type = 0 }) lt) h).0

rise_below : (b c : ℕ) (fs : List Field) (i : ℕ) → Rise b c (drop i fs) → i < length fs → (field_at fs i).key < c
rise_below b c fs i h lt = omega (arith, rise_length (suc (field_at fs i).key) c (drop (suc i) fs) (rise_next b c fs i h lt))

-- a set's fields are such a list
ascend_head : (b : Bool) (x y : ℕ) (ys : List ℕ) → ltb x y ≡ b → if b (λ _. ascending (y ∷ ys)) (λ _. false) ≡ true → (x < y) × (ascending (y ∷ ys) ≡ true)
ascend_head true x y ys e h = (ltb-true x y e, h)
ascend_head false x y ys e h = false_true h

pub rise_of : (a c : ℕ) (fs : List Field) → a ≤ c → ascending (field_keys fs) ≡ true → Under c (field_keys fs) → ((0 < length fs) → a ≤ (field_at fs 0).key) → Rise a c fs
rise_of a c [] le h u e = le
rise_of a c (f ∷ []) le h u e = (e (omega arith), u.0)
rise_of a c (f ∷ g ∷ gs) le h u e =
    let z = ascend_head (ltb f.key g.key) f.key g.key (field_keys gs) refl h in
    let l = z.0 in
    let m = u.0 in
    (e (omega arith), rise_of (suc f.key) c (g ∷ gs) (omega arith) z.1 u.1 (λ k. omega arith))

-- a field after all of these goes into what follows them
module _ (f : Field) (gs : List Field) (st : State) where
  past_bind : (g : Field) (ds : List Field) (o : Out (List Field)) → bind (bind o (λ hs. give (ds ++ hs))) (λ hs. give (g ∷ hs)) ≡ bind o (λ hs. give (g ∷ (ds ++ hs)))
  past_bind g ds (ok hs s) = refl
  past_bind g ds (no k) = refl

  bind_same : (o : Out (List Field)) → o ≡ bind o (λ hs. give hs)
  bind_same (ok hs s) = refl
  bind_same (no k) = refl

  pub past : (a b : ℕ) (ds : List Field) → Rise a b ds → b ≤ f.key → merge_field f (ds ++ gs) st ≡ bind (merge_field f gs st) (λ hs. give (ds ++ hs))
  past a b [] h le = bind_same (merge_field f gs st)
  past a b (g ∷ ds) h le =
      let l = rise_length (suc g.key) b ds h.1 in
      ap₂ (λ (x y : Bool). (if x (λ _. give (f ∷ g ∷ (ds ++ gs)))
      (λ _. if y (λ _ s. bind (meet_types g.type f.type s) (λ x. give (record { key = g.key; type = x } ∷ (ds ++ gs))))
      (λ _ s. bind (merge_field f (ds ++ gs) s) (λ hs. give (g ∷ hs))))) st)
      (le-ltb f.key g.key (omega arith)) (ne_eqb f.key g.key (λ e. omega arith))
      ∙ ap (λ (o : Out (List Field)). bind o (λ hs. give (g ∷ hs))) (past (suc g.key) b ds h.1 le)
      ∙ past_bind g ds (merge_field f gs st)

-- before all of these it is the first
pub first : (f : Field) (c : ℕ) (gs : List Field) (st : State) → Rise (suc f.key) c gs → merge_field f gs st ≡ ok (f ∷ gs) st
first f c [] st h = refl
first f c (g ∷ gs) st h =
    ap (λ (x : Bool). (if x (λ _. give (f ∷ g ∷ gs))
    (λ _. if (eqb f.key g.key) (λ _ s. bind (meet_types g.type f.type s) (λ x. give (record { key = g.key; type = x } ∷ gs)))
    (λ _ s. bind (merge_field f gs s) (λ hs. give (g ∷ hs))))) st)
    (lt-ltb f.key g.key h.0)

-- of one key with the first of these, it is met
pub met : (f g : Field) (gs : List Field) (st : State) → g.key ≡ f.key
    → merge_field f (g ∷ gs) st ≡ bind (meet_types g.type f.type st) (λ x. give (record { key = g.key; type = x } ∷ gs))
met f g gs st e =
    ap₂ (λ (x y : Bool). (if x (λ _. give (f ∷ g ∷ gs))
    (λ _. if y (λ _ s. bind (meet_types g.type f.type s) (λ x. give (record { key = g.key; type = x } ∷ gs)))
    (λ _ s. bind (merge_field f gs s) (λ hs. give (g ∷ hs))))) st)
    (le-ltb f.key g.key (omega arith)) (eq-eqb f.key g.key (sym e))

-- one step of the sweep: ds are merged, i of fs and j of gs are taken
module _ (ds fs gs : List Field) (i j b : ℕ) (st : State) (low : Rise 0 b ds) (left : Rise b most_names (drop i fs)) (right : Rise b most_names (drop j gs)) where
  abbrev f : Field
  f = field_at fs i

  abbrev g : Field
  g = field_at gs j

  abbrev no_field : Field
  no_field = record { key = 0; type = 0 }

  met_bind : (k : ℕ) (F G : List Field) (o : Out ℕ)
      → bind (bind (bind o (λ x. give (record { key = k; type = x } ∷ F))) (λ hs. give (ds ++ hs))) (λ more. merge_fields more G)
      ≡ bind (bind o (λ x. give (record { key = k; type = x }))) (λ y. merge_fields ((ds ++ (y ∷ [])) ++ F) G)
  met_bind k F G (ok x s) = ap (λ (l : List Field). merge_fields l G s) (sym (append_snoc ds (record { key = k; type = x }) F))
  met_bind k F G (no e) = refl

  pub sweep : (next : Next) → Comes next fs i gs j → merge_fields (ds ++ drop i fs) (drop j gs) st
      ≡ bind (next_field next f g st) (λ y. merge_fields ((ds ++ (y ∷ [])) ++ drop (i + old_taken next) fs) (drop (j + new_taken next) gs))
  sweep Old c =
      let z : j ≡ j + 0 = omega arith in
      ap₂ (λ (l r : List Field). merge_fields l r st)
      (ap (λ (l : List Field). ds ++ l) (drop-cons fs i no_field c.0) ∙ sym (append_snoc ds f (drop (suc i) fs)) ∙ ap (λ (k : ℕ). (ds ++ (f ∷ [])) ++ drop k fs) (sym (add-one i)))
      (ap (λ (k : ℕ). drop k gs) z)
  sweep New c =
      let z : i ≡ i + 0 = omega arith in
      ap (λ (r : List Field). merge_fields (ds ++ drop i fs) r st) (drop-cons gs j no_field c.0)
      ∙ ap (λ (o : Out (List Field)). bind o (λ more. merge_fields more (drop (suc j) gs)))
      (past g (drop i fs) st 0 b ds low (rise_from b most_names gs j right c.0)
      ∙ ap (λ (o : Out (List Field)). bind o (λ hs. give (ds ++ hs)))
      (first g most_names (drop i fs) st (rise_skip b most_names fs i left (rise_below b most_names gs j right c.0) c.1)))
      ∙ ap₂ (λ (l r : List Field). merge_fields l r st)
      (sym (append_snoc ds g (drop i fs)) ∙ ap (λ (k : ℕ). (ds ++ (g ∷ [])) ++ drop k fs) z)
      (ap (λ (k : ℕ). drop k gs) (sym (add-one j)))
  sweep Both c =
      ap₂ (λ (l r : List Field). merge_fields (ds ++ l) r st) (drop-cons fs i no_field c.0) (drop-cons gs j no_field c.1)
      ∙ ap (λ (o : Out (List Field)). bind o (λ more. merge_fields more (drop (suc j) gs)))
      (past g (f ∷ drop (suc i) fs) st 0 b ds low (rise_from b most_names gs j right c.1)
      ∙ ap (λ (o : Out (List Field)). bind o (λ hs. give (ds ++ hs))) (met g f (drop (suc i) fs) st c.2))
      ∙ met_bind f.key (drop (suc i) fs) (drop (suc j) gs) (meet_types f.type g.type st)
      ∙ ap₂ (λ (k m : ℕ). bind (next_field Both f g st) (λ y. merge_fields ((ds ++ (y ∷ [])) ++ drop k fs) (drop m gs))) (sym (add-one i)) (sym (add-one j))

  -- what is left after it
  pub sweep_from : (next : Next) → Comes next fs i gs j → b ≤ next_key next f g
  sweep_from Old c = rise_from b most_names fs i left c.0
  sweep_from New c = rise_from b most_names gs j right c.0
  sweep_from Both c = rise_from b most_names fs i left c.0

  pub sweep_left : (next : Next) → Comes next fs i gs j → Rise (suc (next_key next f g)) most_names (drop (i + old_taken next) fs)
  sweep_left Old c = subst (λ (k : ℕ). Rise (suc f.key) most_names (drop k fs)) (sym (add-one i)) (rise_next b most_names fs i left c.0)
  sweep_left New c =
      let z : i ≡ i + 0 = omega arith in
      subst (λ (k : ℕ). Rise (suc g.key) most_names (drop k fs)) z (rise_skip b most_names fs i left (rise_below b most_names gs j right c.0) c.1)
  sweep_left Both c = subst (λ (k : ℕ). Rise (suc f.key) most_names (drop k fs)) (sym (add-one i)) (rise_next b most_names fs i left c.0)

  pub sweep_right : (next : Next) → Comes next fs i gs j → Rise (suc (next_key next f g)) most_names (drop (j + new_taken next) gs)
  sweep_right Old c =
      let z : j ≡ j + 0 = omega arith in
      subst (λ (k : ℕ). Rise (suc f.key) most_names (drop k gs)) z (rise_skip b most_names gs j right (rise_below b most_names fs i left c.0) c.1)
  sweep_right New c = subst (λ (k : ℕ). Rise (suc g.key) most_names (drop k gs)) (sym (add-one j)) (rise_next b most_names gs j right c.0)
  sweep_right Both c =
      subst (λ (k : ℕ). Rise (suc k) most_names (drop (j + 1) gs)) (sym c.2)
      (subst (λ (k : ℕ). Rise (suc g.key) most_names (drop k gs)) (sym (add-one j)) (rise_next b most_names gs j right c.1))

  -- a step takes one field at least, and none that is not there
  pub sweep_few : (next : Next) → Comes next fs i gs j → i ≤ length fs → j ≤ length gs
      → (i + old_taken next ≤ length fs) × (j + new_taken next ≤ length gs) × (i + j < i + old_taken next + (j + new_taken next))
  sweep_few Old c l r = (omega (arith, c.0), omega arith, omega arith)
  sweep_few New c l r = (omega arith, omega (arith, c.0), omega arith)
  sweep_few Both c l r = (omega (arith, c.0), omega (arith, c.1), omega arith)
