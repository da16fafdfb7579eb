-- A root is redone exactly if a chain from it meets an entry that differs, and it does not matter which table's chain that is.
-- Assumes nothing.
use mathlib.Core.Path.{◌≡◌, refl, sym, ap, ◌∙◌, subst}
use mathlib.Core.Logic.{◌⊎◌, inl, inr, ◌↔◌}
use mathlib.Core.Bool.{Bool, true, false, not}
use Prim.Native.Nat.{ℕ, zero, suc, ◌+◌, ◌≤◌, ◌<◌}
use native.Mathlib.Omega.{arith}
use mathlib.Core.List.Memᴰ
use mathlib.Core.List.{List, [], ◌∷◌, Memᴰ}
use lib.ListN.{length, get_or, set as set_at}
use borrow.Author.Tests.{not-false}
use Rattle.cells.specs.Part.{if, eq_list}
use Rattle.cells.proofs.Choices.{true_false}
use Rattle.rules.specs.Plain.{any}
use Rattle.rules.specs.Table.{Root, Table, entry_of, kids}
use Rattle.rules.specs.Calls.{row_at, differs, meets, redone}
use Rattle.rules.specs.Chains.{StepsTo, Chain, here, onward, MeetsDifference}
use Rattle.laws.proofs.Storing.{eq_list_true, eq_list_refl}

-- an entry differs exactly if its rows do
pub differs_false : (old new : Table) (id : ℕ) → differs old new id ≡ false → row_at old id ≡ row_at new id
differs_false old new id h = eq_list_true (row_at old id) (row_at new id) (not-false _ h)

pub same_differs : (old new : Table) (id : ℕ) → row_at old id ≡ row_at new id → differs old new id ≡ false
same_differs old new id e = ap (λ (row : List ℕ). not (eq_list (row_at old id) row)) (sym e) ∙ ap not (eq_list_refl (row_at old id))

differs_turn : (old new : Table) (id : ℕ) (b : Bool) → differs new old id ≡ b → differs old new id ≡ true → b ≡ true
differs_turn old new id true e h = refl
differs_turn old new id false e h = true_false (sym h ∙ same_differs old new id (sym (differs_false new old id e)))

differs_either : (old new : Table) (id : ℕ) → differs old new id ≡ true → differs new old id ≡ true
differs_either old new id h = differs_turn old new id (differs new old id) refl h

-- one of two tests
or_true : (a : Bool) (b : Unit {0} → Bool) → if a (λ _. true) b ≡ true → (a ≡ true) ⊎ (b tt ≡ true)
or_true true b e = inl refl
or_true false b e = inr e

or_right : (a : Bool) (b : Unit {0} → Bool) → b tt ≡ true → if a (λ _. true) b ≡ true
or_right true b e = refl
or_right false b e = e

-- one that passes the test
record Passing (p : ℕ → Bool) (xs : List ℕ) : Type 0 where
  one : ℕ
  among : Memᴰ one xs
  passes : p one ≡ true

any_true : (p : ℕ → Bool) (xs : List ℕ) → any p xs ≡ true → Passing p xs
any_true p [] e = true_false (sym e)
any_true p (x ∷ xs) e = by (or_true (p x) (λ _. any p xs) e) (any_true p xs)
  where
    by : (p x ≡ true) ⊎ (any p xs ≡ true) → (any p xs ≡ true → Passing p xs) → Passing p (x ∷ xs)
    by (inl h) ih = record { one = x; among = Memᴰ.head refl; passes = h }
    by (inr h) ih = let q = ih h in record { one = q.one; among = Memᴰ.tail q.among; passes = q.passes }

true_any : (p : ℕ → Bool) {j : ℕ} {xs : List ℕ} → Memᴰ j xs → p j ≡ true → any p xs ≡ true
true_any p (Memᴰ.head {x} {xs} e) h = ap (λ (b : Bool). if b (λ _. true) (λ _. any p xs)) (ap p (sym e) ∙ h)
true_any p (Memᴰ.tail {x} {xs} m) h = or_right (p x) (λ _. any p xs) (true_any p m h)

-- a chain of at most n steps
data Short (t : Table) : ℕ → ℕ → ℕ → Type 0 where
  stay : {n id : ℕ} → Short t n id id
  go : {n id k j : ℕ} → StepsTo t id k → Short t n k j → Short t (suc n) id j

-- what the search finds
meets_chain : (n : ℕ) (old new : Table) (id : ℕ) → meets n old new id ≡ true → MeetsDifference old new id
unfolding meets
meets_chain zero old new id e = record { met = id; chain = here; different = e }
meets_chain (suc n) old new id e =
    by (or_true (differs old new id) (λ _. any (meets n old new) (kids (entry_of (row_at old id)))) e) (λ k. meets_chain n old new k)
  where
    by : (differs old new id ≡ true) ⊎ (any (meets n old new) (kids (entry_of (row_at old id))) ≡ true)
        → ((k : ℕ) → meets n old new k ≡ true → MeetsDifference old new k) → MeetsDifference old new id
    by (inl h) ih = record { met = id; chain = here; different = h }
    by (inr h) ih =
        let q = any_true (meets n old new) (kids (entry_of (row_at old id))) h in
        let d = ih q.one q.passes in
        record { met = d.met; chain = onward q.among d.chain; different = d.different }

meets_here : (n : ℕ) (old new : Table) (id : ℕ) → differs old new id ≡ true → meets n old new id ≡ true
unfolding meets
meets_here zero old new id h = h
meets_here (suc n) old new id h = ap (λ (b : Bool). if b (λ _. true) (λ _. any (meets n old new) (kids (entry_of (row_at old id))))) h

short_meets : {old : Table} {n id j : ℕ} (new : Table) → Short old n id j → differs old new j ≡ true → meets n old new id ≡ true
unfolding meets
short_meets {old} new (stay {n} {id}) h = meets_here n old new id h
short_meets {old} new (go {n} {id} m c) h =
    or_right (differs old new id) (λ _. any (meets n old new) (kids (entry_of (row_at old id)))) (true_any (meets n old new) m (short_meets new c h))

-- A chain need not come twice to the id that it starts at: the rest of it can do without that id's entry
abbrev cut : Table → ℕ → Table
cut t i = record { budget = t.budget; names = t.names; entries = set_at t.entries i []; pairs = t.pairs; marks = t.marks; roots = t.roots }

abbrev Names : List (List ℕ) → ℕ → ℕ → Type 0
Names rows id k = Memᴰ k (kids (entry_of (get_or rows id [])))

uncut : (rows : List (List ℕ)) (i j k : ℕ) → Names (set_at rows i []) j k → Names rows j k
unfolding entry_of
uncut [] i j k m = m
uncut (r ∷ rows) zero zero k m = absurd (Memᴰ.not-nil m)
uncut (r ∷ rows) zero (suc j) k m = m
uncut (r ∷ rows) (suc i) zero k m = m
uncut (r ∷ rows) (suc i) (suc j) k m = uncut rows i j k m

recut : (rows : List (List ℕ)) (i j k : ℕ) → Names rows j k → (j ≡ i) ⊎ Names (set_at rows i []) j k
recut [] i j k m = inr m
recut (r ∷ rows) zero zero k m = inl refl
recut (r ∷ rows) zero (suc j) k m = inr m
recut (r ∷ rows) (suc i) zero k m = inr m
recut (r ∷ rows) (suc i) (suc j) k m = up (recut rows i j k m)
  where
    up : (j ≡ i) ⊎ Names (set_at rows i []) j k → (suc j ≡ suc i) ⊎ Names (set_at rows i []) j k
    up (inl e) = inl (ap suc e)
    up (inr m) = inr m

-- how many entries have bounds or children
abbrev one : List ℕ → ℕ
one [] = 0
one (x ∷ xs) = 1

abbrev parents : List (List ℕ) → ℕ
parents [] = 0
parents (r ∷ rows) = one (kids (entry_of r)) + parents rows

one_among : {k : ℕ} {xs : List ℕ} → Memᴰ k xs → one xs ≡ 1
one_among (Memᴰ.head e) = refl
one_among (Memᴰ.tail m) = refl

one_most : (xs : List ℕ) → one xs ≤ 1
one_most [] = omega arith
one_most (x ∷ xs) = omega arith

parents_most : (rows : List (List ℕ)) → parents rows ≤ length rows
parents_most [] = omega arith
parents_most (r ∷ rows) = omega (arith, one_most (kids (entry_of r)), parents_most rows)

cut_fewer : (rows : List (List ℕ)) (i k : ℕ) → Names rows i k → parents (set_at rows i []) < parents rows
unfolding entry_of
cut_fewer [] i k m = absurd (Memᴰ.not-nil m)
cut_fewer (r ∷ rows) zero k m = omega (arith, one_among m)
cut_fewer (r ∷ rows) (suc i) k m = omega (arith, cut_fewer rows i k m)

-- a step from i, and a chain without i's entry
record Leaves (t : Table) (i j : ℕ) : Type 0 where
  next : ℕ
  first : StepsTo t i next
  rest : Chain (cut t i) next j

avoid : (t : Table) (i : ℕ) {id j : ℕ} → Chain t id j → Chain (cut t i) id j ⊎ Leaves t i j
avoid t i here = inl here
avoid t i (onward {id} {k} {j} m c) = by (recut t.entries i id k m) (avoid t i c)
  where
    by : (id ≡ i) ⊎ StepsTo (cut t i) id k → Chain (cut t i) k j ⊎ Leaves t i j → Chain (cut t i) id j ⊎ Leaves t i j
    by (inl e) (inl d) = inr (record { next = k; first = subst (λ (x : ℕ). StepsTo t x k) e m; rest = d })
    by (inl e) (inr l) = inr l
    by (inr n) (inl d) = inl (onward n d)
    by (inr n) (inr l) = inr l

leaves : (t : Table) (i : ℕ) {k j : ℕ} → StepsTo t i k → Chain t k j → Leaves t i j
leaves t i {k} {j} m c = by (avoid t i c)
  where
    by : Chain (cut t i) k j ⊎ Leaves t i j → Leaves t i j
    by (inl d) = record { next = k; first = m; rest = d }
    by (inr l) = l

short_uncut : (t : Table) (i : ℕ) {n id j : ℕ} → Short (cut t i) n id j → Short t n id j
short_uncut t i stay = stay
short_uncut t i (go {n} {id} {k} m c) = go (uncut t.entries i id k m) (short_uncut t i c)

shorten : (n : ℕ) (t : Table) {id j : ℕ} → parents t.entries ≤ n → Chain t id j → Short t n id j
shorten zero t h here = stay
shorten zero t h (onward {id} {k} m c) = absurd (let z : ⊥ = omega (arith, cut_fewer t.entries id k m) in z)
shorten (suc n) t h here = stay
shorten (suc n) t h (onward {id} {k} m c) =
    let l = leaves t id m c in
    go l.first (short_uncut t id (shorten n (cut t id) (omega (arith, cut_fewer t.entries id l.next l.first)) l.rest))

-- n steps reach whatever can be reached
pub redone_flag : (old new : Table) (root : Root) → (redone old new root ≡ true) ↔ MeetsDifference old new root.id
redone_flag old new root = (
  λ e. meets_chain (length old.entries) old new root.id e,
  λ d. short_meets new (shorten (length old.entries) old (parents_most old.entries) d.chain) d.different,
)

-- up to the first entry that differs a chain of one table is one of the other
module _ (old new : Table) where
  meets_turn : {id k : ℕ} (b : Bool) → differs old new id ≡ b → StepsTo old id k → MeetsDifference new old k → MeetsDifference new old id
  meets_turn {id} true e m d = record { met = id; chain = here; different = differs_either old new id e }
  meets_turn {id} {k} false e m d =
      record {
        met = d.met;
        chain = onward (subst (λ (row : List ℕ). Memᴰ k (kids (entry_of row))) (differs_false old new id e) m) d.chain;
        different = d.different;
      }

  meets_along : {id j : ℕ} → Chain old id j → differs old new j ≡ true → MeetsDifference new old id
  meets_along {id} here h = record { met = id; chain = here; different = differs_either old new id h }
  meets_along (onward {id} m c) h = meets_turn (differs old new id) refl m (meets_along c h)

meets_either : (old new : Table) (id : ℕ) → MeetsDifference old new id → MeetsDifference new old id
meets_either old new id d = meets_along old new d.chain d.different

-- so that the chains of either table tell
pub redone_either : (old new : Table) (root : Root) → (redone old new root ≡ true) ↔ MeetsDifference new old root.id
redone_either old new root = (
  λ e. meets_either old new root.id ((redone_flag old new root).0 e),
  λ d. (redone_flag old new root).1 (meets_either new old root.id d),
)
