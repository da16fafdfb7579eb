-- The search backwards from the entries that differ marks just those that have a chain to one. Assumes nothing.
use mathlib.Core.Path.{◌≡◌, refl, sym, ap, ◌∙◌, subst}
use mathlib.Core.Logic.{◌⊎◌, inl, inr, ⊎_elim}
use mathlib.Core.Bool.{Bool, true, false}
use Prim.Native.Nat.{ℕ, zero, suc, ◌+◌, ◌≤◌, ◌<◌}
use native.Mathlib.Omega.{arith}
use native.Mathlib.Nat.{eq-or-lt_of_le}
use mathlib.Core.List.Memᴰ
use mathlib.Core.List.{List, [], ◌∷◌, ◌++◌, Memᴰ}
use mathlib.Core.List.{append_assoc, append-nil}
use lib.ListN.{length, get_or, set, length-append, get_or-append}
use lib.Seq.{get_or-set_same, get_or-set_other}
use lib.Dec.{eqb}
use borrow.Author.Tests.{eqb-true, eqb-false, eq-eqb}
use Rattle.cells.specs.Part.{run, cell, if}
use Rattle.cells.specs.Clears.{Clears}
use Rattle.cells.specs.Placed.{Under}
use Rattle.cells.proofs.Holding.{holds_at}
use Rattle.cells.proofs.Choices.{true_false}
use Rattle.layout.specs.Layout.{heads_at, reached_at, queue_at, work_length, redone_at}
use Rattle.rules.specs.Plain.{filter, contains, flag, add_new}
use Rattle.rules.specs.Ceilings.{most_entries}
use Rattle.rules.specs.Members.{add_all}
use Rattle.rules.specs.Table.{Root, Table, root_of, kids}
use Rattle.rules.specs.Canonicalizer.{Reader, reader_of}
use Rattle.rules.specs.Calls.{differs, redone}
use Rattle.rules.specs.Chains.{Chain, here, onward, MeetsDifference}
use Rattle.laws.proofs.Chains.{redone_flag}
use Rattle.storage.specs.declared.given.Canon.{Canon}
use Rattle.storage.proofs.HeldIds.{held_none}
use Rattle.laws.proofs.Filtering.{under_at, filter_under, under_added}
use Rattle.laws.proofs.Containing.{new_itself, new_other, contains_at}
use Rattle.links.specs.Links.{Link, linked, links_of, sources, Linked, LinksAll}
use Rattle.affected.specs.Reaches.{Queued, differing, MarksDiffering, MarksBefore, Leads, there, along, Tells, Spreads, MarksReaching}
use Rattle.affected.specs.Reaches.{FlagsRoots, FlagsRedone}
use Rattle.links.proofs.Linking.{linked_ext}
use Rattle.affected.proofs.Queueing.{added_few, adds_both}

-- the place of v in xs
record Place (v : ℕ) (xs : List ℕ) : Type 0 where
  place : ℕ
  within : place < length xs
  is : get_or xs place 0 ≡ v

contains_place : (v : ℕ) (xs : List ℕ) → contains xs v ≡ true → Place v xs
contains_place v [] e = true_false (sym e)
contains_place v (x ∷ xs) e = turn (eqb v x) refl e (contains_place v xs)
  where
    turn : (b : Bool) → eqb v x ≡ b → if b (λ _. true) (λ _. contains xs v) ≡ true → (contains xs v ≡ true → Place v xs) → Place v (x ∷ xs)
    turn true f h below = record { place = 0; within = omega arith; is = sym (eqb-true v x f) }
    turn false f h below = let p = below h in let lt = p.within in record { place = suc p.place; within = omega arith; is = p.is }

-- what is added is contained, with what there was
module _ (v : ℕ) where
  new_keeps_turn : (got : List ℕ) (x : ℕ) (b : Bool) → eqb v x ≡ b → contains got v ≡ true → contains (add_new got x) v ≡ true
  new_keeps_turn got x true e h = ap (contains (add_new got x)) (eqb-true v x e) ∙ new_itself got x
  new_keeps_turn got x false e h = new_other got x v (eqb-false v x e) ∙ h

  adds_keep : (got xs : List ℕ) → contains got v ≡ true → contains (add_all got xs) v ≡ true
  adds_keep got [] h = h
  adds_keep got (x ∷ xs) h = adds_keep (add_new got x) xs (new_keeps_turn got x (eqb v x) refl h)

  adds_mem : (got : List ℕ) {xs : List ℕ} → Memᴰ v xs → contains (add_all got xs) v ≡ true
  adds_mem got (Memᴰ.head {x} {xs} e) = adds_keep (add_new got x) xs (ap (contains (add_new got x)) e ∙ new_itself got x)
  adds_mem got (Memᴰ.tail {x} {xs} m) = adds_mem (add_new got x) m

  mem_turn : (got : List ℕ) (x : ℕ) (xs : List ℕ) (b : Bool) → eqb v x ≡ b → (contains (add_new got x) v ≡ true) ⊎ Memᴰ v xs
      → (contains got v ≡ true) ⊎ Memᴰ v (x ∷ xs)
  mem_turn got x xs b e (inr m) = inr (Memᴰ.tail m)
  mem_turn got x xs true e (inl h) = inr (Memᴰ.head (eqb-true v x e))
  mem_turn got x xs false e (inl h) = inl (sym (new_other got x v (eqb-false v x e)) ∙ h)

  mem_adds : (got xs : List ℕ) → contains (add_all got xs) v ≡ true → (contains got v ≡ true) ⊎ Memᴰ v xs
  mem_adds got [] h = inl h
  mem_adds got (x ∷ xs) h = mem_turn got x xs (eqb v x) refl (mem_adds (add_new got x) xs h)

  mem_added : (xs : List ℕ) → contains (add_all [] xs) v ≡ true → Memᴰ v xs
  mem_added xs h = ⊎_elim (λ (e : false ≡ true). true_false (sym e)) (λ (m : Memᴰ v xs). m) (mem_adds [] xs h)

-- what is added stands after what there was
record Longer (got all : List ℕ) : Type 0 where
  more : List ℕ
  is : all ≡ got ++ more

longer_turn : (got : List ℕ) (x : ℕ) (all : List ℕ) (b : Bool) → contains got x ≡ b → Longer (add_new got x) all → Longer got all
longer_turn got x all true e l = record { more = l.more; is = l.is ∙ ap (λ (b : Bool). if b (λ _. got) (λ _. got ++ (x ∷ [])) ++ l.more) e }
longer_turn got x all false e l =
    record { more = x ∷ l.more; is = l.is ∙ ap (λ (b : Bool). if b (λ _. got) (λ _. got ++ (x ∷ [])) ++ l.more) e ∙ append_assoc got (x ∷ []) l.more }

adds_longer : (got xs : List ℕ) → Longer got (add_all got xs)
adds_longer got [] = record { more = []; is = sym (append-nil got) }
adds_longer got (x ∷ xs) = longer_turn got x (add_all (add_new got x) xs) (contains got x) refl (adds_longer (add_new got x) xs)

module _ (got xs : List ℕ) where
  adds_more : length got ≤ length (add_all got xs)
  adds_more = let l = adds_longer got xs in omega (arith, ap length l.is, length-append got l.more)

  adds_at : (i : ℕ) → i < length got → get_or (add_all got xs) i 0 ≡ get_or got i 0
  adds_at i lt = let l = adds_longer got xs in ap (λ (k : List ℕ). get_or k i 0) l.is ∙ get_or-append got l.more 0 i lt

-- `spread` at the i-th of the queue: those before it have all entries with a link to them in the queue
pub record SpreadAt (count : ℕ) (es : List Link) (xs work : List ℕ) (q i : ℕ) : Type 0 where
  pub got : List ℕ
  pub queued : Queued count work q got
  upto : i ≤ q
  pub since : (x : ℕ) → Memᴰ x xs → Memᴰ x got
  pub lead : (x : ℕ) → Memᴰ x got → Leads es xs x
  pub done : (j : ℕ) → j < i → (x : ℕ) → Memᴰ x (sources es (get_or (add_all [] got) j 0)) → Memᴰ x got

pub record Spreading (work₀ : List ℕ) (n count q₀ : ℕ) (work : List ℕ) (q i : ℕ) : Type 0 where
  pub few : i ≤ count
  pub kept : (k : ℕ) → k < reached_at → cell work k ≡ cell work₀ k
  pub is : {es : List Link} {xs : List ℕ} → Linked count work₀ n es → Queued count work₀ q₀ xs → SpreadAt count es xs work q i

-- at the end of the queue all that links lead from are in it
module _ {work : List ℕ} {count q i : ℕ} {es : List Link} {xs : List ℕ} (s : SpreadAt count es xs work q i) (end : q ≤ i) where
  closed : (x y : ℕ) → Memᴰ y s.got → Memᴰ x (sources es y) → Memᴰ x s.got
  closed x y m a =
      let p = contains_place y (add_all [] s.got) (adds_mem y [] m) in
      let lt = p.within in
      let size = s.queued.held.count in
      s.done p.place (omega arith) x (subst (λ (k : ℕ). Memᴰ x (sources es k)) (sym p.is) a)

  complete : {x : ℕ} → Leads es xs x → Memᴰ x s.got
  complete (there {x} m) = s.since x m
  complete (along {x} {y} m l) = closed x y (complete l) m

  tells_turn : (id : ℕ) → id < count → (b : Bool) → contains (add_all [] s.got) id ≡ b → Tells (Leads es xs id) (cell work (reached_at + id))
  tells_turn id lt true e = inl (s.lead id (mem_added id s.got e), s.queued.marks id lt ∙ ap flag e)
  tells_turn id lt false e = inr (λ l. true_false (sym (adds_mem id [] (complete l)) ∙ e), s.queued.marks id lt ∙ ap flag e)

  spread_tells : (id : ℕ) → id < count → Tells (Leads es xs id) (cell work (reached_at + id))
  spread_tells id lt = tells_turn id lt (contains (add_all [] s.got) id) refl

module _ {work₀ : List ℕ} {n count q₀ : ℕ} where
  pub spreading_start : Spreading work₀ n count q₀ work₀ q₀ 0
  spreading_start =
      record {
        few = omega arith;
        kept = λ k lt. refl;
        is = λ {es} {xs} h g.
            record { got = xs; queued = g; upto = omega arith; since = λ x m. m; lead = λ x m. there m; done = λ j lt x m. absurd (omega arith) };
      }

  module _ (work w : List ℕ) (q m i y : ℕ) (s : Spreading work₀ n count q₀ work q i) (inside : i < q)
      (get : y ≡ cell work (queue_at + i)) (mark : MarksBefore work n q y w m) where
    module _ {es : List Link} {xs : List ℕ} (h : Linked count work₀ n es) (g : Queued count work₀ q₀ xs) where
      abbrev was : SpreadAt count es xs work q i
      was = s.is h g

      abbrev old : List ℕ
      old = was.got

      size : q ≡ length (add_all [] old)
      size = was.queued.held.count

      item : y ≡ get_or (add_all [] old) i 0
      item = let z = size in get ∙ holds_at was.queued.held.holds i (omega arith)

      known : y < count
      known =
          let z = size in
          let e = item in
          let u = under_at count (add_all [] old) i (under_added count [] old tt was.queued.known) (omega arith) in
          omega arith

      queue : Queued count w m (old ++ sources es y)
      queue = (mark.is (linked_ext h was.queued.room s.kept) known).is was.queued (h.known y)

      at : (j : ℕ) → j < q → get_or (add_all [] (old ++ sources es y)) j 0 ≡ get_or (add_all [] old) j 0
      at j lt =
          let z = size in
          ap (λ (l : List ℕ). get_or l j 0) (adds_both [] old (sources es y)) ∙ adds_at (add_all [] old) (sources es y) j (omega arith)

      among : (x : ℕ) → Memᴰ x old ⊎ Memᴰ x (sources es y) → Leads es xs x
      among x (inl a) = was.lead x a
      among x (inr a) =
          let z = size in
          along a (was.lead y (mem_added y old (ap (contains (add_all [] old)) item ∙ contains_at (add_all [] old) i (omega arith))))

      all_done : (j : ℕ) → (j ≡ i) ⊎ (j < i) → (x : ℕ) → Memᴰ x (sources es (get_or (add_all [] (old ++ sources es y)) j 0))
          → Memᴰ x (old ++ sources es y)
      all_done j (inl e) x a =
          Memᴰ.append_right old
          (subst (λ (k : ℕ). Memᴰ x (sources es k)) (at j (omega arith) ∙ ap (λ (k : ℕ). get_or (add_all [] old) k 0) e ∙ sym item) a)
      all_done j (inr lt) x a =
          Memᴰ.append_left (sources es y) (was.done j lt x (subst (λ (k : ℕ). Memᴰ x (sources es k)) (at j (omega arith)) a))

      longer : q ≤ m
      longer =
          let z = size in
          let c = queue.held.count in
          omega (arith, ap length (adds_both [] old (sources es y)), adds_more (add_all [] old) (sources es y))

      now : SpreadAt count es xs w m (i + 1)
      now =
          let l = longer in
          record {
            got = old ++ sources es y;
            queued = queue;
            upto = omega arith;
            since = λ x a. Memᴰ.append_left (sources es y) (was.since x a);
            lead = λ x a. among x (Memᴰ.append_cases old a);
            done = λ j lt x a. all_done j (eq-or-lt_of_le (omega arith)) x a;
          }

  pub spreading_more : {work w : List ℕ} {q m i p y : ℕ} → Spreading work₀ n count q₀ work q i → i < count → i < q
      → p ≡ queue_at + i
      → y ≡ cell work p → MarksBefore work n q y w m → Spreading work₀ n count q₀ w m (i + 1)
  spreading_more {work} {w} {q} {m} {i} {p} {y} s lt inside at get mark =
      record {
        few = omega arith;
        kept = λ k less. mark.kept k less ∙ s.kept k less;
        is = λ h g. now work w q m i y s inside (get ∙ ap (cell work) at) mark h g;
      }

  pub spreading_done : {work : List ℕ} {q i : ℕ} → Spreading work₀ n count q₀ work q i → q ≤ i → Spreads work₀ n count q₀ work
  spreading_done {work} {q} {i} s end = record { is = λ h g. spread_tells (s.is h g) end }

  -- no more than count ids are in the queue
  pub spreading_end : {work : List ℕ} {q i : ℕ} → Spreading work₀ n count q₀ work q i → count ≤ i → Spreads work₀ n count q₀ work
  spreading_end {work} {q} {i} s end =
      record {
        is = λ h g.
            let w = s.is h g in
            let size = w.queued.held.count in
            spread_tells w (omega (arith, added_few count w.got w.queued.known));
      }

-- a link goes from an entry to one of its ids
record And (x z y : ℕ) (ys : List ℕ) : Type 0 where
  same : x ≡ z
  among : Memᴰ y ys

sources_turn : (x z w y : ℕ) (xs : List ℕ) (b : Bool) → eqb w y ≡ b → Memᴰ x (if b (λ _. z ∷ xs) (λ _. xs)) → ((x ≡ z) × (y ≡ w)) ⊎ Memᴰ x xs
sources_turn x z w y xs true e (Memᴰ.head f) = inl (f, sym (eqb-true w y e))
sources_turn x z w y xs true e (Memᴰ.tail m) = inr m
sources_turn x z w y xs false e m = inr m

linked_from : (x z y : ℕ) (ys : List ℕ) (es : List Link) → Memᴰ x (sources (linked z ys es) y) → And x z y ys ⊎ Memᴰ x (sources es y)
linked_from x z y [] es m = inr m
linked_from x z y (w ∷ ys) es m = by (linked_from x z y ys (record { from = z; to = w } ∷ es) m)
  where
    last : ((x ≡ z) × (y ≡ w)) ⊎ Memᴰ x (sources es y) → And x z y (w ∷ ys) ⊎ Memᴰ x (sources es y)
    last (inl p) = inl (record { same = p.0; among = Memᴰ.head p.1 })
    last (inr n) = inr n

    by : And x z y ys ⊎ Memᴰ x (sources (record { from = z; to = w } ∷ es) y) → And x z y (w ∷ ys) ⊎ Memᴰ x (sources es y)
    by (inl a) = inl (record { same = a.same; among = Memᴰ.tail a.among })
    by (inr n) = last (sources_turn x z w y (sources es y) (eqb w y) refl n)

linked_keeps : (x z y : ℕ) (ys : List ℕ) (es : List Link) → Memᴰ x (sources es y) → Memᴰ x (sources (linked z ys es) y)
linked_keeps x z y [] es m = m
linked_keeps x z y (w ∷ ys) es m = linked_keeps x z y ys (record { from = z; to = w } ∷ es) (turn (eqb w y))
  where
    turn : (b : Bool) → Memᴰ x (if b (λ _. z ∷ sources es y) (λ _. sources es y))
    turn true = Memᴰ.tail m
    turn false = m

linked_to : (z y : ℕ) (es : List Link) {ys : List ℕ} → Memᴰ y ys → Memᴰ z (sources (linked z ys es) y)
linked_to z y es (Memᴰ.head {x = w} {xs = ys} e) =
    linked_keeps z z y ys (record { from = z; to = w } ∷ es)
    (subst (λ (b : Bool). Memᴰ z (if b (λ _. z ∷ sources es y) (λ _. sources es y))) (sym (eq-eqb w y (sym e))) (Memᴰ.head refl))
linked_to z y es (Memᴰ.tail {x = w} {xs = ys} m) = linked_to z y (record { from = z; to = w } ∷ es) m

links_step : (t : Reader) (n x y : ℕ) → Memᴰ x (sources (links_of t n) y) → Memᴰ y (kids (t x))
links_step t zero x y m = absurd (Memᴰ.not-nil m)
links_step t (suc n) x y m = by (linked_from x n y (kids (t n)) (links_of t n) m) (links_step t n x y)
  where
    by : And x n y (kids (t n)) ⊎ Memᴰ x (sources (links_of t n) y) → (Memᴰ x (sources (links_of t n) y) → Memᴰ y (kids (t x)))
        → Memᴰ y (kids (t x))
    by (inl a) below = subst (λ (k : ℕ). Memᴰ y (kids (t k))) (sym a.same) a.among
    by (inr n) below = below n

step_links : (t : Reader) (n x y : ℕ) → x < n → Memᴰ y (kids (t x)) → Memᴰ x (sources (links_of t n) y)
step_links t zero x y lt m = absurd (omega arith)
step_links t (suc n) x y lt m = by (eq-or-lt_of_le (omega arith)) (λ less. step_links t n x y less m)
  where
    by : (x ≡ n) ⊎ (x < n) → (x < n → Memᴰ x (sources (links_of t n) y)) → Memᴰ x (sources (links_of t (suc n)) y)
    by (inl e) below =
        subst (λ (k : ℕ). Memᴰ k (sources (links_of t (suc n)) y)) (sym e)
        (linked_to n y (links_of t n) (subst (λ (k : ℕ). Memᴰ y (kids (t k))) e m))
    by (inr less) below = linked_keeps x n y (kids (t n)) (links_of t n) (below less)

-- the entries that differ
module _ (p : ℕ → Bool) where
  passes : (x : ℕ) (xs : List ℕ) → Memᴰ x (filter p xs) → p x ≡ true
  passes x [] m = absurd (Memᴰ.not-nil m)
  passes x (y ∷ xs) m = turn (p y) refl m (passes x xs)
    where
      turn : (b : Bool) → p y ≡ b → Memᴰ x (if b (λ _. y ∷ filter p xs) (λ _. filter p xs)) → (Memᴰ x (filter p xs) → p x ≡ true) → p x ≡ true
      turn true e (Memᴰ.head f) below = ap p f ∙ e
      turn true e (Memᴰ.tail n) below = below n
      turn false e n below = below n

  passing : (x : ℕ) {xs : List ℕ} → p x ≡ true → Memᴰ x xs → Memᴰ x (filter p xs)
  passing x h (Memᴰ.head {x = y} {xs} e) =
      subst (λ (b : Bool). Memᴰ x (if b (λ _. y ∷ filter p xs) (λ _. filter p xs))) (sym h ∙ ap p e) (Memᴰ.head e)
  passing x h (Memᴰ.tail {x = y} {xs} m) = turn (p y) (passing x h m)
    where
      turn : (b : Bool) → Memᴰ x (filter p xs) → Memᴰ x (if b (λ _. y ∷ filter p xs) (λ _. filter p xs))
      turn true n = Memᴰ.tail n
      turn false n = n

run_has : (x a n : ℕ) → a ≤ x → x < a + n → Memᴰ x (run (λ (id : ℕ). id) a n)
run_has x a zero le lt = absurd (omega arith)
run_has x a (suc n) le lt = by (eq-or-lt_of_le le) (λ less. run_has x (suc a) n less (omega arith))
  where
    by : (a ≡ x) ⊎ (a < x) → (a < x → Memᴰ x (run (λ (id : ℕ). id) (suc a) n)) → Memᴰ x (a ∷ run (λ (id : ℕ). id) (suc a) n)
    by (inl e) below = Memᴰ.head (sym e)
    by (inr less) below = Memᴰ.tail (below less)

run_under : (k a n : ℕ) → a + n ≤ k → Under k (run (λ (id : ℕ). id) a n)
run_under k a zero le = tt
run_under k a (suc n) le = (omega arith, run_under k (suc a) n (omega arith))

under_mem : {k x : ℕ} {xs : List ℕ} → Under k xs → Memᴰ x xs → x < k
under_mem h (Memᴰ.head e) = let lt = h.0 in omega arith
under_mem h (Memᴰ.tail m) = under_mem h.1 m

-- links lead to an entry that differs exactly where a chain meets one
module _ (u t : Table) (count : ℕ) where
  leads_meets : {x : ℕ} → Leads (links_of (reader_of u) count) (differing u t count) x → MeetsDifference u t x
  leads_meets (there {x} m) = record { met = x; chain = here; different = passes (differs u t) x (run (λ (id : ℕ). id) 0 count) m }
  leads_meets (along {x} {y} m l) =
      let d = leads_meets l in
      record { met = d.met; chain = onward (links_step (reader_of u) count x y m) d.chain; different = d.different }

  meets_leads : ((id : ℕ) → id < count → Under count (kids (reader_of u id))) → {x j : ℕ} → x < count → Chain u x j → differs u t j ≡ true
      → Leads (links_of (reader_of u) count) (differing u t count) x
  meets_leads known lt (here {id = x}) e = there (passing (differs u t) x e (run_has x 0 count (omega arith) (omega arith)))
  meets_leads known lt (onward {id = x} {k} m c) e = along (step_links (reader_of u) count x k lt m) (meets_leads known (under_mem (known x lt) m) c e)

  tells_redone : ((id : ℕ) → id < count → Under count (kids (reader_of u id))) → (root : Root) → root.id < count → (b : Bool) → redone u t root ≡ b → (k : ℕ)
      → Tells (Leads (links_of (reader_of u) count) (differing u t count) root.id) k → k ≡ flag b
  tells_redone known root lt true e k (inl h) = h.1
  tells_redone known root lt true e k (inr h) =
      let d = (redone_flag u t root).0 e in
      absurd (h.0 (meets_leads known lt d.chain d.different))
  tells_redone known root lt false e k (inl h) = true_false (sym ((redone_flag u t root).1 (leads_meets h.0)) ∙ e)
  tells_redone known root lt false e k (inr h) = h.1

-- `mark_reaching`
cleared_links : {count : ℕ} {work w : List ℕ} → count ≤ most_entries → work_length ≤ length w → Clears work heads_at count w → Linked count w 0 []
cleared_links many room z =
    record {
      entries = many;
      room = room;
      size = refl;
      few = omega arith;
      known = λ y. tt;
      to = λ y lt. let e = z.zero (heads_at + y) (omega arith) (omega arith) in record { last = omega arith; chain = e };
    }

cleared_queue : {count : ℕ} {work w : List ℕ} → count ≤ most_entries → work_length ≤ length w → Clears work reached_at count w → Queued count w 0 []
cleared_queue {w = w} many room z =
    record {
      entries = many;
      room = room;
      held = held_none w queue_at;
      known = tt;
      marks = λ v lt. z.zero (reached_at + v) (omega arith) (omega arith);
    }

pub reaching_is : {old table work w₁ w₂ w₃ w₄ work' : List ℕ} {c : Canon} {n q : ℕ} → Clears work heads_at c.count w₁ → length w₁ ≡ length work
    → LinksAll old w₁ c w₂ n
    → length w₂ ≡ length w₁ → Clears w₂ reached_at c.count w₃ → length w₃ ≡ length w₂ → MarksDiffering old table w₃ c w₄ q
    → Spreads w₄ n c.count q work' → MarksReaching old table work c work'
reaching_is {w₃ = w₃} {work' = work'} {c} {n} z₁ l₁ link l₂ z₃ l₃ mark spread =
    record {
      is = λ {u} {t} s root lt.
          let room = s.room in
          let many = s.entries in
          let linked = link.is s.reads s.ids (cleared_links many (omega arith) z₁) in
          let queue = cleared_queue many (omega arith) z₃ in
          let later : Linked c.count w₃ n (links_of (reader_of u) c.count) = linked_ext linked queue.room (λ k less. z₃.before k less) in
          let ids : List ℕ = run (λ (id : ℕ). id) 0 c.count in
          let under = filter_under (differs u t) c.count ids (run_under c.count 0 c.count (omega arith)) in
          let differ = (mark.is s.compared).is queue under in
          tells_redone u t c.count s.reads.known root lt (redone u t root) refl (cell work' (reached_at + root.id))
          (spread.is (linked_ext later differ.room mark.kept) differ root.id lt);
    }

-- `flag_roots` at root i
pub record Flagging (table work spans₀ : List ℕ) (first n : ℕ) (spans : List ℕ) (i : ℕ) : Type 0 where
  pub few : i ≤ n
  pub before : (k : ℕ) → k < redone_at → cell spans k ≡ cell spans₀ k
  pub behind : (k : ℕ) → redone_at + i ≤ k → cell spans k ≡ cell spans₀ k
  pub is : redone_at + n ≤ length spans₀ → (j : ℕ) → j < i → cell spans (redone_at + j) ≡ cell work (reached_at + cell table (cell table (first + j) + 1))

module _ {table work spans₀ : List ℕ} {first n : ℕ} where
  pub flagging_start : Flagging table work spans₀ first n spans₀ 0
  flagging_start = record { few = omega arith; before = λ k lt. refl; behind = λ k le. refl; is = λ room j lt. absurd (omega arith) }

  flag_turn : (spans : List ℕ) (i k : ℕ) → Flagging table work spans₀ first n spans i → length spans ≡ length spans₀ → i < n
      → k ≡ cell work (reached_at + cell table (cell table (first + i) + 1)) → redone_at + n ≤ length spans₀ → (j : ℕ) → (j ≡ i) ⊎ (j < i)
      → cell (set spans (redone_at + i) k) (redone_at + j) ≡ cell work (reached_at + cell table (cell table (first + j) + 1))
  flag_turn spans i k f same lt e room j (inl z) =
      ap (λ (m : ℕ). cell (set spans (redone_at + i) k) (redone_at + m)) z
      ∙ get_or-set_same spans (redone_at + i) k 0 (omega arith)
      ∙ e
      ∙ sym (ap (λ (m : ℕ). cell work (reached_at + cell table (cell table (first + m) + 1))) z)
  flag_turn spans i k f same lt e room j (inr less) = get_or-set_other spans (redone_at + i) (redone_at + j) k 0 (omega arith) ∙ f.is room j less

  pub flagging_more : {spans spans' : List ℕ} {i p row q id s m k : ℕ} → Flagging table work spans₀ first n spans i → length spans ≡ length spans₀ → i < n
      → p ≡ first + i
      → row ≡ cell table p → q ≡ row + 1 → id ≡ cell table q → s ≡ redone_at + i → m ≡ reached_at + id → k ≡ cell work m → spans' ≡ set spans s k
      → Flagging table work spans₀ first n spans' (i + 1)
  flagging_more {spans} {spans'} {i} {k = k} f same lt at₁ get₁ at₂ get₂ at₃ at₄ get₄ put =
      let e = put ∙ ap (λ (j : ℕ). set spans j k) at₃ in
      let here = get₂ ∙ ap (cell table) (at₂ ∙ ap (λ (j : ℕ). j + 1) (get₁ ∙ ap (cell table) at₁)) in
      let z = get₄ ∙ ap (cell work) (at₄ ∙ ap (λ (j : ℕ). reached_at + j) here) in
      record {
        few = omega arith;
        before = λ j less. ap (λ (l : List ℕ). cell l j) e ∙ get_or-set_other spans (redone_at + i) j k 0 (omega arith) ∙ f.before j less;
        behind = λ j le. ap (λ (l : List ℕ). cell l j) e ∙ get_or-set_other spans (redone_at + i) j k 0 (omega arith) ∙ f.behind j (omega arith);
        is = λ room j less. ap (λ (l : List ℕ). cell l (redone_at + j)) e ∙ flag_turn spans i k f same lt z room j (eq-or-lt_of_le (omega arith));
      }

  pub flagging_done : {spans : List ℕ} {i : ℕ} → Flagging table work spans₀ first n spans i → n ≤ i → FlagsRoots table work spans₀ first n spans
  flagging_done {i = i} f le =
      let few = f.few in
      record { before = f.before; behind = λ k less. f.behind k (omega arith); is = λ room j less. f.is room j (omega arith) }

pub redone_is : {old table work w old' : List ℕ} {c : Canon} {first n : ℕ} → MarksReaching old table work c w → FlagsRoots table w old first n old'
    → FlagsRedone old table work c first n old'
redone_is {w = w} mark flags =
    record {
      before = flags.before;
      behind = flags.behind;
      is = λ {u} {t} s ids room i lt.
          flags.is room i lt
          ∙ ap (λ (k : ℕ). cell w (reached_at + k)) (ids.is i lt)
          ∙ mark.is s (get_or t.roots i (root_of [])) (ids.known i lt);
    }
