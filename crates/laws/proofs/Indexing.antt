-- Laws of the store with an index: it answers as the store of the rules on any series of nodes, by whatever hash. Assumes nothing.
use mathlib.Core.Path.{◌≡◌, refl, sym, ap, ◌∙◌}
use mathlib.Core.Bool.{Bool, true, false}
use mathlib.Core.Logic.{◌⊎◌, ⊎_elim}
use Prim.Native.Nat.{ℕ, zero, suc, ◌≤◌, ◌<◌}
use native.Mathlib.Omega.{arith}
use native.Mathlib.Nat.{not-suc-le-zero, eq-or-lt_of_le}
use mathlib.Core.List.{List, [], ◌∷◌, map}
use mathlib.Core.Option.{Option, some, none}
use lib.ListN.{length}
use lib.Dec.{eqb, ltb}
use borrow.Author.Tests.{eqb-true, eq-eqb}
use Rattle.cells.specs.Part.{if, eq_list}
use Rattle.cells.proofs.Choices.{true_false}
use Rattle.rules.specs.Ceilings.{most_members}
use Rattle.rules.specs.Types.{Node, State, Out, ok, no, bind, encode, members, node_at, keep, store}
use Rattle.rules.specs.Plain.{find}
use Rattle.laws.specs.Sound.{Distinct}
use Rattle.laws.specs.Indexed.{bucket_at, row_at, newest, seek, seek_node, store_indexed, series}
use Rattle.laws.proofs.Rows.{encode_injective}
use Rattle.laws.proofs.Storing.{eq_list_true, eq_list_refl, hit, miss, hit_node, absent, store_keeps}

module _ (bucket : ℕ → ℕ) (b : ℕ) where
  low_turn : (t : Bool) (k m : ℕ) → m ≤ k → if t (λ _. suc k) (λ _. m) ≤ suc k
  low_turn true k m le = omega arith
  low_turn false k m le = omega arith

  pub newest_low : (k : ℕ) → newest bucket b k ≤ k
  newest_low zero = omega arith
  newest_low (suc k) = low_turn (eqb (bucket k) b) k (newest bucket b k) (newest_low k)

  -- what it tells is of the bucket
  is_turn : (t : Bool) (k m j : ℕ) → eqb (bucket k) b ≡ t → (m ≡ suc j → bucket j ≡ b) → if t (λ _. suc k) (λ _. m) ≡ suc j → bucket j ≡ b
  is_turn true k m j e f h = let i : j ≡ k = omega arith in ap bucket i ∙ eqb-true (bucket k) b e
  is_turn false k m j e f h = f h

  pub newest_is : (k j : ℕ) → newest bucket b k ≡ suc j → bucket j ≡ b
  newest_is zero j h = absurd (omega arith)
  newest_is (suc k) j h = is_turn (eqb (bucket k) b) k (newest bucket b k) j refl (newest_is k j) h

  -- it depends on the buckets of the first k nodes alone
  pub newest_alike : (other : ℕ → ℕ) (k : ℕ) → ((i : ℕ) → i < k → bucket i ≡ other i) → newest bucket b k ≡ newest other b k
  newest_alike other zero h = refl
  newest_alike other (suc k) h =
      ap (λ (x : ℕ). if (eqb x b) (λ _. suc k) (λ _. newest bucket b k)) (h k (omega arith))
      ∙ ap (λ (m : ℕ). if (eqb (other k) b) (λ _. suc k) (λ _. m)) (newest_alike other k (λ i lt. h i (omega arith)))

  module _ (is : ℕ → Bool) where
    -- nodes of other buckets are skipped
    skip_turn : (t : Bool) (k m : ℕ) → eqb (bucket k) b ≡ t → seek bucket is b k ≡ seek bucket is b m
        → if t (λ _. if (is k) (λ _. some k) (λ _. seek bucket is b k)) (λ _. seek bucket is b k) ≡ seek bucket is b (if t (λ _. suc k) (λ _. m))
    skip_turn true k m e h =
        sym (ap (λ (t : Bool). if t (λ _. if (is k) (λ _. some k) (λ _. seek bucket is b k)) (λ _. seek bucket is b k)) e)
    skip_turn false k m e h = h

    pub seek_newest : (k : ℕ) → seek bucket is b k ≡ seek bucket is b (newest bucket b k)
    seek_newest zero = refl
    seek_newest (suc k) = skip_turn (eqb (bucket k) b) k (newest bucket b k) refl (seek_newest k)

    -- one of the bucket is looked at
    pub seek_turn : (k : ℕ) → bucket k ≡ b → seek bucket is b (suc k) ≡ if (is k) (λ _. some k) (λ _. seek bucket is b k)
    seek_turn k e =
        ap (λ (t : Bool). if t (λ _. if (is k) (λ _. some k) (λ _. seek bucket is b k)) (λ _. seek bucket is b k)) (eq-eqb (bucket k) b e)

    -- what is found passes, and what passes in the bucket is found
    record Sighted (k j : ℕ) : Type 0 where
      pub below : j < k
      pub passes : is j ≡ true

    sighted_more : {k j : ℕ} → Sighted k j → Sighted (suc k) j
    sighted_more s = record { below = omega (arith, s.below); passes = s.passes }

    sighted_here : (t : Bool) (k j : ℕ) → is k ≡ t → (seek bucket is b k ≡ some j → Sighted k j)
        → if t (λ _. some k) (λ _. seek bucket is b k) ≡ some j → Sighted (suc k) j
    sighted_here true k j e f h = let i : k ≡ j = cc in record { below = omega arith; passes = ap is (sym i) ∙ e }
    sighted_here false k j e f h = sighted_more (f h)

    sighted_turn : (t : Bool) (k j : ℕ) → (seek bucket is b k ≡ some j → Sighted k j)
        → if t (λ _. if (is k) (λ _. some k) (λ _. seek bucket is b k)) (λ _. seek bucket is b k) ≡ some j → Sighted (suc k) j
    sighted_turn true k j f h = sighted_here (is k) k j refl f h
    sighted_turn false k j f h = sighted_more (f h)

    sighted : (k j : ℕ) → seek bucket is b k ≡ some j → Sighted k j
    sighted zero j h = let z : ◌≡◌ {A = ℕ} 0 1 = cc in absurd (omega arith)
    sighted (suc k) j h = sighted_turn (eqb (bucket k) b) k j (sighted k j) h

    missed_turn : (t u : Bool) (k i : ℕ) → eqb (bucket k) b ≡ t → is k ≡ u → (seek bucket is b k ≡ none → i < k → ⊥)
        → if t (λ _. if u (λ _. some k) (λ _. seek bucket is b k)) (λ _. seek bucket is b k) ≡ none → bucket i ≡ b → is i ≡ true → (i ≡ k) ⊎ (i < k) → ⊥
    missed_turn true true k i e g f h of-b passes at = let z : ◌≡◌ {A = ℕ} 0 1 = cc in absurd (omega arith)
    missed_turn true false k i e g f h of-b passes at = ⊎_elim (λ (z : i ≡ k). true_false (sym passes ∙ ap is z ∙ g)) (λ (lt : i < k). f h lt) at
    missed_turn false u k i e g f h of-b passes at =
        ⊎_elim (λ (z : i ≡ k). true_false (sym (eq-eqb (bucket k) b (ap bucket (sym z) ∙ of-b)) ∙ e)) (λ (lt : i < k). f h lt) at

    missed : (k i : ℕ) → seek bucket is b k ≡ none → bucket i ≡ b → is i ≡ true → i < k → ⊥
    missed zero i h of-b passes lt = not-suc-le-zero lt
    missed (suc k) i h of-b passes lt =
        missed_turn (eqb (bucket k) b) (is k) k i refl refl (λ z l. missed k i z of-b passes l) h of-b passes (eq-or-lt_of_le (omega arith))

module _ (n : Node) (ns : List Node) (d : Distinct ns) where
  abbrev sought : Option ℕ
  sought = find (eq_list (encode n)) 0 (map encode ns)

  -- the rules' search finds n where it is
  found_by : (j : ℕ) (f : Option ℕ) → sought ≡ f → j < length ns → node_at ns j ≡ n → sought ≡ some j
  found_by j (some i) e lt is = let h = hit_node n ns i (hit (encode n) (map encode ns) 0 i e) in e ∙ ap some (d.is i j h.0 lt (h.1 ∙ sym is))
  found_by j none e lt is = absurd (absent ns n (miss (encode n) (map encode ns) 0 e) j lt is)

  module _ (hash : List ℕ → ℕ) where
    abbrev row_buckets : ℕ → ℕ
    row_buckets = bucket_at hash ns

    unfound : (f : Option ℕ) → seek_node hash n ns ≡ none → sought ≡ f → none ≡ f
    unfound (some i) h e =
        let m = hit_node n ns i (hit (encode n) (map encode ns) 0 i e) in
        absurd (missed row_buckets (hash (encode n)) (row_at (encode n) ns) (length ns) i h (ap (λ (x : Node). hash (encode x)) m.1)
        (ap (λ (x : Node). eq_list (encode n) (encode x)) m.1 ∙ eq_list_refl (encode n)) m.0)
    unfound none h e = refl

    found : (f : Option ℕ) → seek_node hash n ns ≡ f → f ≡ sought
    found (some j) h =
        let s = sighted row_buckets (hash (encode n)) (row_at (encode n) ns) (length ns) j h in
        sym (found_by j sought refl s.below (sym (encode_injective n (node_at ns j) (eq_list_true (encode n) (encode (node_at ns j)) s.passes))))
    found none h = unfound sought h refl

    pub seek_finds : seek_node hash n ns ≡ sought
    seek_finds = found (seek_node hash n ns) refl

module _ (hash : List ℕ → ℕ) where
  store_alike : (n : Node) (st : State) → Distinct st.nodes → store_indexed hash n st ≡ store n st
  unfolding store
  store_alike n st d = ap (λ (f : Option ℕ). if (ltb most_members (length (members n))) (λ _. no 7) (λ _. keep n st f)) (seek_finds n st.nodes d hash)

  series_turn : (n : Node) (ns : List Node) (st : State) (o : Out ℕ) → store n st ≡ o → Distinct st.nodes
      → ((s : State) → Distinct s.nodes → series (store_indexed hash) ns s ≡ series store ns s)
      → bind o (λ x s. bind (series (store_indexed hash) ns s) (λ xs t. ok (x ∷ xs) t)) ≡ bind o (λ x s. bind (series store ns s) (λ xs t. ok (x ∷ xs) t))
  series_turn n ns st (ok x s) e d rest = ap (λ (o : Out (List ℕ)). bind o (λ xs t. ok (x ∷ xs) t)) (rest s ((store_keeps n st x s e).distinct d))
  series_turn n ns st (no k) e d rest = refl

  -- "the new store is proved to answer as the old one on any series of nodes"
  pub series_alike : (ns : List Node) (st : State) → Distinct st.nodes → series (store_indexed hash) ns st ≡ series store ns st
  series_alike [] st d = refl
  series_alike (n ∷ ns) st d =
      ap (λ (o : Out ℕ). bind o (λ x s. bind (series (store_indexed hash) ns s) (λ xs t. ok (x ∷ xs) t))) (store_alike n st d)
      ∙ series_turn n ns st (store n st) refl d (series_alike ns)
