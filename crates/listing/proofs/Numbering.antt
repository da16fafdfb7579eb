-- The working slice while the nodes are numbered. Assumes nothing.
use mathlib.Core.Path.{◌≡◌, refl, sym, ap, subst, ◌∙◌}
use mathlib.Core.Bool.{Bool, true, false}
use mathlib.Core.Logic.{⊎_elim}
use Prim.Native.Nat.{ℕ, suc, ◌+◌, ◌≤◌, ◌<◌}
use native.Mathlib.Omega.{arith}
use native.Mathlib.Nat.{not-suc-le-zero, eq-or-lt_of_le}
use native.Mathlib.Numerals.{add-one}
use mathlib.Core.List.{List, [], ◌∷◌, ◌++◌, append-nil, append_assoc, foldl, foldl-append}
use lib.Dec.{eqb}
use lib.ListN.{length, get_or, set, take, drop, take-append-drop, length-append, length-set, get_or-append}
use lib.Seq.{get_or-set_same, get_or-set_other, get_or_at, take-suc, take_all}
use Rattle.cells.specs.Part.{cell}
use Rattle.cells.specs.Sum.{Sum}
use Rattle.cells.specs.Clears.{Clears}
use Rattle.cells.proofs.Holding.{holds_none, holds_at, holds_from}
use Rattle.layout.specs.Layout.{work_length}
use Rattle.rules.specs.Ceilings.{most_nodes}
use Rattle.rules.specs.Plain.{contains, position}
use Rattle.rules.specs.Types.{Node, children, node_at}
use Rattle.rules.specs.Listing.{walk_by, walk}
use Rattle.laws.proofs.Storing.{Rooted}
use Rattle.laws.proofs.Walking.{steps_few}
use Rattle.laws.proofs.Filtering.{under_at, under_both, under_most, under_front}
use Rattle.laws.proofs.Containing.{last_itself, last_other, contains_at}
use Rattle.lang_ty.specs.declared.arena.Pass.{Pass}
use Rattle.lang_ty.specs.Nodes.{Arena}
use Rattle.lang_ty.specs.Orders.{Children, ChildAt}
use Rattle.listing.specs.Walks.{order_at, number_of, Numbered, reached, Visits, Walks}
use Rattle.laws.proofs.Positions.{position_below, position_is}
use Rattle.listing.proofs.Walking.{Known, reached_known, kids_news, visit_seen, visit_new}
use Rattle.cells.specs.Placed.{Under}
use Rattle.cells.proofs.Choices.{true_false}

pub rooted : {w : List ℕ} {q : Pass} {ns : List Node} → Arena w q ns → Rooted ns
rooted a = record { is = a.below }

-- one node more
module _ {ns : List Node} {work work₁ work₂ seen : List ℕ} {top n n' p x : ℕ} (a : Numbered work top seen n) (kn : Known ns top seen) (lt : x < top)
    (few : top ≤ most_nodes) (many : length ns ≤ most_nodes) (room : work_length ≤ length work) (new : contains seen x ≡ false) (at : p ≡ order_at + n) (s : Sum n 1 n')
    (e₁ : work₁ ≡ set work p x) (e₂ : work₂ ≡ set work₁ x n') where
  next : n' ≡ suc (length seen)
  next = let f = steps_few ns seen kn.steps in let c = a.count in let e : n' ≡ n + 1 = s.is (omega arith) in omega arith

  place : p ≡ order_at + length seen
  place = let c = a.count in omega arith

  cell_other : (k : ℕ) → (k ≡ x → ⊥) → (k ≡ p → ⊥) → cell work₂ k ≡ cell work k
  cell_other k f g =
      ap (λ (w : List ℕ). cell w k) e₂ ∙ get_or-set_other work₁ x k n' 0 f ∙ ap (λ (w : List ℕ). cell w k) e₁ ∙ get_or-set_other work p k x 0 g

  cell_x : cell work₂ x ≡ n'
  cell_x =
      let e : length work₁ ≡ length work = ap length e₁ ∙ length-set work p x in
      ap (λ (w : List ℕ). cell w x) e₂ ∙ get_or-set_same work₁ x n' 0 (omega arith)

  cell_p : cell work₂ p ≡ x
  cell_p =
      let f = steps_few ns seen kn.steps in
      let h = place in
      ap (λ (w : List ℕ). cell w p) e₂
      ∙ get_or-set_other work₁ x p n' 0 (λ e. omega arith)
      ∙ ap (λ (w : List ℕ). cell w p) e₁
      ∙ get_or-set_same work p x 0 (omega arith)

  -- the first ones are as before, and the last is x
  by_place : (P : ℕ → ℕ → Type 0) → ((k : ℕ) → k < length seen → P k (get_or seen k 0)) → P (length seen) x
      → (k : ℕ) → k < length (seen ++ (x ∷ [])) → P k (get_or (seen ++ (x ∷ [])) k 0)
  by_place P f g k l =
      ⊎_elim
      (λ (e : k ≡ length seen).
      subst (λ (j : ℕ). P j (get_or (seen ++ (x ∷ [])) j 0)) (sym e) (subst (P (length seen)) (sym (get_or_at seen x [] 0 (length seen) refl)) g))
      (λ (h : k < length seen). subst (P k) (sym (get_or-append seen (x ∷ []) 0 k h)) (f k h))
      (eq-or-lt_of_le {n = k} {m = length seen} (omega (arith, length-append seen (x ∷ []))))

  node_cell : (k : ℕ) → k < length seen → cell work₂ (order_at + k) ≡ get_or seen k 0
  node_cell k l = let h = place in cell_other (order_at + k) (λ e. omega arith) (λ e. omega arith) ∙ holds_at a.nodes k l

  number_cell : (k : ℕ) → k < length seen → cell work₂ (get_or seen k 0) ≡ suc k
  number_cell k l =
      let c : contains seen (get_or seen k 0) ≡ true = contains_at seen k l in
      let w = kn.within (get_or seen k 0) c in
      let h = place in
      cell_other (get_or seen k 0) (λ e. true_false (sym c ∙ ap (contains seen) e ∙ new)) (λ e. omega arith) ∙ a.numbers k l

  other_cell : (y : ℕ) → y < top → contains (seen ++ (x ∷ [])) y ≡ false → cell work₂ y ≡ 0
  other_cell y l c =
      let h = place in
      let n : y ≡ x → ⊥ = λ e. true_false (sym (ap (contains (seen ++ (x ∷ []))) e ∙ last_itself x seen) ∙ c) in
      cell_other y n (λ f. omega arith) ∙ a.others y l (sym (last_other x y n seen) ∙ c)

  numbered_more : Numbered work₂ top (seen ++ (x ∷ [])) n'
  numbered_more = record {
    count = let h = next in omega (arith, length-append seen (x ∷ []));
    nodes = holds_from work₂ order_at (seen ++ (x ∷ [])) (by_place (λ k y. cell work₂ (order_at + k) ≡ y) node_cell (ap (cell work₂) (sym place) ∙ cell_p));
    numbers = by_place (λ k y. cell work₂ y ≡ suc k) number_cell (cell_x ∙ next);
    others = other_cell;
  }

-- a node is seen where its cell is not 0
module _ {work seen : List ℕ} {top n : ℕ} (a : Numbered work top seen n) where
  seen_cell : (y : ℕ) → contains seen y ≡ true → cell work y ≡ suc (position (eqb y) seen)
  seen_cell y h = ap (cell work) (sym (position_is y seen h)) ∙ a.numbers (position (eqb y) seen) (position_below y seen h)

  pub number_is : (y : ℕ) → contains seen y ≡ true → number_of work y ≡ position (eqb y) seen
  number_is y h = let e = seen_cell y h in omega arith

  cell_seen : (x : ℕ) → x < top → (cell work x ≡ 0 → ⊥) → contains seen x ≡ true
  cell_seen x lt h = turn (contains seen x) refl
    where
      turn : (b : Bool) → contains seen x ≡ b → b ≡ true
      turn true e = refl
      turn false e = absurd (h (a.others x lt e))

  cell_new : (x : ℕ) → cell work x ≡ 0 → contains seen x ≡ false
  cell_new x h = turn (contains seen x) refl
    where
      turn : (b : Bool) → contains seen x ≡ b → b ≡ false
      turn true e = let c = seen_cell x e in absurd (omega arith)
      turn false e = refl

pub visits_seen : {arena work : List ℕ} {x k v : ℕ} → v ≡ cell work x → (v ≡ 0 → ⊥) → Visits arena work x k work k
visits_seen {arena} {work} {x} {k} {v} e h = record {
  is = λ {q} {ns} {top} xs ar room le u lt a.
      subst (λ (l : List ℕ). Numbered work top l k)
      (sym (foldl-append (walk_by top ns) [] xs (x ∷ []) ∙ visit_seen ns top (reached ns top xs) x (cell_seen a x lt (λ z. h (e ∙ z)))))
      a;
}

-- the first i children of x are visited
pub record Visiting (arena work₀ : List ℕ) (x k n : ℕ) (work : List ℕ) (next i : ℕ) : Type 0 where
  pub few : i ≤ n
  pub same : length work ≡ length work₀
  pub is : {q : Pass} {ns : List Node} {top : ℕ} (xs : List ℕ) → Arena arena q ns → work_length ≤ length work₀ → top ≤ length ns → Under top xs → x < top
      → Numbered work₀ top (reached ns top xs) k → Numbered work top (reached ns top (xs ++ take i (children (node_at ns x)))) next

pub visiting_start : {arena work : List ℕ} {x k n : ℕ} → Visiting arena work x k n work k 0
visiting_start {arena} {work} {x} {k} {n} = record {
  few = omega arith;
  same = refl;
  is = λ {q} {ns} {top} xs ar room le u lt a. subst (λ (l : List ℕ). Numbered work top (reached ns top l) k) (sym (append-nil xs)) a;
}

under_take : (k i : ℕ) (xs : List ℕ) → Under k xs → Under k (take i xs)
under_take k i xs u = under_front k (take i xs) (drop i xs) (subst (Under k) (sym (take-append-drop i xs)) u)

module _ {arena work₀ work : List ℕ} {x k n next i c : ℕ} (v : Visiting arena work₀ x k n work next i) (lt : i < n)
    (kids : Children arena x n) (kid : ChildAt arena x i c) where
  module _ {q : Pass} {ns : List Node} {top : ℕ} (ar : Arena arena q ns) (le : top ≤ length ns) (below : x < top) where
    kid_few : i < length (children (node_at ns x))
    kid_few = let e = kids.is ar (omega arith) in omega arith

    kid_is : c ≡ get_or (children (node_at ns x)) i 0
    kid_is = kid.is ar (omega arith) kid_few

    kid_below : c < x
    kid_below = let e = kid_is in let l = under_at x (children (node_at ns x)) i (ar.below x (omega arith)) kid_few in omega arith

    kids_more : (xs : List ℕ) → xs ++ take i (children (node_at ns x)) ++ (c ∷ []) ≡ xs ++ take (i + 1) (children (node_at ns x))
    kids_more xs =
        append_assoc xs (take i (children (node_at ns x))) (c ∷ [])
        ∙ ap (λ (l : List ℕ). xs ++ l)
        (ap (λ (y : ℕ). take i (children (node_at ns x)) ++ (y ∷ [])) kid_is
        ∙ sym (take-suc (children (node_at ns x)) i 0 kid_few)
        ∙ ap (λ (j : ℕ). take j (children (node_at ns x))) (sym (add-one i)))

    kids_under : (xs : List ℕ) → Under top xs → Under top (xs ++ take i (children (node_at ns x)))
    kids_under xs u =
        under_both top xs (take i (children (node_at ns x))) u
        (under_take top i (children (node_at ns x)) (under_most x top (children (node_at ns x)) (omega arith) (ar.below x (omega arith))))

  into : {work' : List ℕ} {next' : ℕ} → c < x → length work' ≡ length work → Visits arena work c next work' next'
      → Visiting arena work₀ x k n work' next' (i + 1)
  into {work'} {next'} l len w = record {
    few = omega arith;
    same = len ∙ v.same;
    is = λ {q} {ns} {top} xs ar room le u below a.
        let s = v.same in
        subst (λ (ys : List ℕ). Numbered work' top (reached ns top ys) next') (kids_more ar le below xs)
        (w.is (xs ++ take i (children (node_at ns x))) ar (omega arith) le (kids_under ar le below xs u) (omega arith) (v.is xs ar room le u below a));
  }

  past : x ≤ c → Visiting arena work₀ x k n work next (i + 1)
  past l = record {
    few = omega arith;
    same = v.same;
    is = λ xs ar room le u below a. absurd (let h = kid_below ar le below in omega arith);
  }

  -- the slice and the count as they are after the test
  module _ {work₁ : List ℕ} {next₁ : ℕ} where
    pub visiting_more : {work' : List ℕ} {next' : ℕ} → c < x → length work' ≡ length work → Visits arena work c next work' next' → work₁ ≡ work' → next₁ ≡ next'
        → Visiting arena work₀ x k n work₁ next₁ (i + 1)
    visiting_more l len w e f = rw (e, f) (into l len w)

    pub visiting_past : x ≤ c → work₁ ≡ work → next₁ ≡ next → Visiting arena work₀ x k n work₁ next₁ (i + 1)
    visiting_past l e f = rw (e, f) (past l)

module _ {arena work₀ work work₁ work₂ : List ℕ} {x k n next next' i p z : ℕ} (v : Visiting arena work₀ x k n work next i) (le : n ≤ i)
    (e : z ≡ cell work₀ x) (new : z ≡ 0) (kids : Children arena x n)
    (at : p ≡ order_at + next) (e₁ : work₁ ≡ set work p x) (s : Sum next 1 next') (e₂ : work₂ ≡ set work₁ x next') where
  module _ {q : Pass} {ns : List Node} {top : ℕ} (xs : List ℕ) (ar : Arena arena q ns) (room : work_length ≤ length work₀) (few : top ≤ length ns)
      (u : Under top xs) (below : x < top) (a : Numbered work₀ top (reached ns top xs) k) where
    fresh : contains (reached ns top xs) x ≡ false
    fresh = cell_new a x (sym e ∙ new)

    all_kids : take i (children (node_at ns x)) ≡ children (node_at ns x)
    all_kids = take_all i (children (node_at ns x)) (let h = kids.is ar (omega arith) in omega arith)

    as_kids : Numbered work top (foldl (walk_by top ns) (reached ns top xs) (children (node_at ns x))) next
    as_kids =
        subst (λ (l : List ℕ). Numbered work top l next)
        (ap (λ (l : List ℕ). reached ns top (xs ++ l)) all_kids ∙ foldl-append (walk_by top ns) [] xs (children (node_at ns x)))
        (v.is xs ar room few u below a)

    known : Known ns top (foldl (walk_by top ns) (reached ns top xs) (children (node_at ns x)))
    known =
        subst (Known ns top) (foldl-append (walk_by top ns) [] xs (children (node_at ns x)))
        (reached_known ns (rooted ar) top few (xs ++ children (node_at ns x))
        (under_both top xs (children (node_at ns x)) u (under_most x top (children (node_at ns x)) (omega arith) (ar.below x (omega arith)))))

    whole : Numbered work₂ top (reached ns top (xs ++ (x ∷ []))) next'
    whole =
        let f = ar.few in
        let c = ar.count in
        let m = v.same in
        subst (λ (l : List ℕ). Numbered work₂ top l next')
        (sym (foldl-append (walk_by top ns) [] xs (x ∷ []) ∙ visit_new ns (rooted ar) top few (reached ns top xs) x below fresh))
        (numbered_more as_kids known below (omega arith) (omega arith) (omega arith)
        (kids_news ns (rooted ar) top few (reached ns top xs) x below (reached_known ns (rooted ar) top few xs u) fresh) at s e₁ e₂)

  pub visiting_done : Visits arena work₀ x k work₂ next'
  visiting_done = record { is = λ xs ar room few u below a. whole xs ar room few u below a }

pub walks_is : {arena work work₁ work₂ : List ℕ} {x n r : ℕ} → Sum x 1 n → Clears work 0 n work₁ → length work₁ ≡ length work
    → Visits arena work₁ x 0 work₂ r → Walks arena work x work₂ r
unfolding walk
walks_is {arena} {work} {work₁} {work₂} {x} {n} {r} s c len v = record {
  is = λ {q} {ns} ar room lt.
      let f = ar.few in
      let k = ar.count in
      let e : n ≡ x + 1 = s.is (omega arith) in
      v.is [] ar (omega arith) (omega arith) tt (omega arith)
      (record {
        count = refl;
        nodes = holds_none work₁ order_at;
        numbers = λ k l. absurd (not-suc-le-zero l);
        others = λ y l h. c.zero y (omega arith) (omega arith);
      });
}
