-- Laws of the store: what it comes to, that it only adds at the end, and that equal nodes have one number. Assumes nothing.
use mathlib.Core.Path.{◌≡◌, refl, sym, ap, ap₂, ◌∙◌, subst}
use mathlib.Core.Bool.{Bool, true, false}
use mathlib.Core.Logic.{⊎_elim}
use Prim.Native.Nat.{ℕ, zero, suc, ◌+◌, ◌-◌, ◌≤◌, ◌<◌}
use native.Mathlib.Omega.{arith}
use native.Mathlib.Nat.{eq-or-lt_of_le, not-suc-le-zero}
use mathlib.Core.List.{List, [], ◌∷◌, ◌++◌, map, append-nil, append_assoc}
use lib.ListN.{length, get_or, length-append, length-map, get_or-map, get_or-append}
use lib.Seq.{get_or-append_seam}
use lib.Dec.{eqb, ltb}
use borrow.Author.Tests.{lt-ltb, le-ltb, eqb-true, eq-eqb}
use Rattle.cells.specs.Part.{if, eq_list}
use Rattle.rules.specs.Ceilings.{most_members, most_nodes, most_cells}
use Rattle.rules.specs.Types.{Node, Bottom, State, Out, ok, no, encode, members, children, cells_of, node_at, grown, keep, store}
use Rattle.laws.specs.Sound.{Distinct}
use Rattle.laws.proofs.Rows.{encode_injective}
use Rattle.cells.specs.Placed.{Under}
use Rattle.cells.proofs.Choices.{true_false}
use mathlib.Core.Option.{Option, some, none}
use Rattle.rules.specs.Plain.{find}

-- what the store comes to, case by case
pub store_many : (n : Node) (st : State) → most_members < length (members n) → store n st ≡ no 7
unfolding store
store_many n st h = ap (λ (b : Bool). if b (λ _. no 7) (λ _. keep n st (find (eq_list (encode n)) 0 (map encode st.nodes)))) (lt-ltb most_members (length (members n)) h)

pub store_few : (n : Node) (st : State) → length (members n) ≤ most_members → store n st ≡ keep n st (find (eq_list (encode n)) 0 (map encode st.nodes))
unfolding store
store_few n st h = ap (λ (b : Bool). if b (λ _. no 7) (λ _. keep n st (find (eq_list (encode n)) 0 (map encode st.nodes)))) (le-ltb most_members (length (members n)) h)

abbrev behind : Bool → Bool → Node → State → Out ℕ
behind room over n st = if room (λ _. if over (λ _. no 9) (λ _. ok (length st.nodes) (grown n st))) (λ _. no 8)

pub keep_full : (n : Node) (st : State) → most_nodes ≤ length st.nodes → keep n st none ≡ no 8
keep_full n st h =
    ap (λ (b : Bool). behind b (ltb most_cells (st.cells + cells_of n)) n st) (le-ltb (length st.nodes) most_nodes h)

pub keep_over : (n : Node) (st : State) → length st.nodes < most_nodes → most_cells < st.cells + cells_of n → keep n st none ≡ no 9
keep_over n st h k = ap₂ (λ (b c : Bool). behind b c n st) (lt-ltb (length st.nodes) most_nodes h) (lt-ltb most_cells (st.cells + cells_of n) k)

pub keep_new : (n : Node) (st : State) → length st.nodes < most_nodes → st.cells + cells_of n ≤ most_cells → keep n st none ≡ ok (length st.nodes) (grown n st)
keep_new n st h k = ap₂ (λ (b c : Bool). behind b c n st) (lt-ltb (length st.nodes) most_nodes h) (le-ltb most_cells (st.cells + cells_of n) k)

-- lists that the test calls equal, are equal
eq_list_turn : (b : Bool) (x y : ℕ) (xs ys : List ℕ) → eqb x y ≡ b → (eq_list xs ys ≡ true → xs ≡ ys) → if b (λ _. eq_list xs ys) (λ _. false) ≡ true → x ∷ xs ≡ y ∷ ys
eq_list_turn true x y xs ys e f h = ap₂ {C = List ℕ} ◌∷◌ (eqb-true x y e) (f h)
eq_list_turn false x y xs ys e f h = true_false (sym h)

pub eq_list_true : (xs ys : List ℕ) → eq_list xs ys ≡ true → xs ≡ ys
eq_list_true [] [] h = refl
eq_list_true [] (y ∷ ys) h = true_false (sym h)
eq_list_true (x ∷ xs) [] h = true_false (sym h)
eq_list_true (x ∷ xs) (y ∷ ys) h = eq_list_turn (eqb x y) x y xs ys refl (eq_list_true xs ys) h

pub eq_list_refl : (xs : List ℕ) → eq_list xs xs ≡ true
eq_list_refl [] = refl
eq_list_refl (x ∷ xs) = ap (λ (b : Bool). if b (λ _. eq_list xs xs) (λ _. false)) (eq-eqb x x refl) ∙ eq_list_refl xs

-- a test that tells whether two lists are equal
pub eq_list_told : (b c : Bool) (xs ys : List ℕ) → (b ≡ true → xs ≡ ys) × (xs ≡ ys → b ≡ true) → eq_list xs ys ≡ c → c ≡ b
eq_list_told true c xs ys f e = sym e ∙ ap (λ (l : List ℕ). eq_list l ys) (f.0 refl) ∙ eq_list_refl ys
eq_list_told false true xs ys f e = sym (f.1 (eq_list_true xs ys e))
eq_list_told false false xs ys f e = refl

-- the search found e at place j, counted from i; or nowhere
pub record Hit (e : List ℕ) (rs : List (List ℕ)) (i j : ℕ) : Type 0 where
  pub from : i ≤ j
  pub to : j < i + length rs
  pub is : get_or rs (j - i) [] ≡ e

pub record Miss (e : List ℕ) (rs : List (List ℕ)) : Type 0 where
  pub is : (k : ℕ) → k < length rs → get_or rs k [] ≡ e → ⊥

hit_later : {e r : List ℕ} {rs : List (List ℕ)} {i j : ℕ} → Hit e rs (suc i) j → Hit e (r ∷ rs) i j
hit_later {r = r} {rs = rs} {i = i} {j = j} h =
    let f = h.from in
    let k : j - i ≡ suc (j - suc i) = omega arith in
    record { from = omega arith; to = omega (arith, h.to); is = ap (λ (m : ℕ). get_or (r ∷ rs) m []) k ∙ h.is }

module _ (e r : List ℕ) (rs : List (List ℕ)) (i : ℕ) where
  hit_turn : (b : Bool) (j : ℕ) → eq_list e r ≡ b → (find (eq_list e) (suc i) rs ≡ some j → Hit e rs (suc i) j) → if b (λ _. some i) (λ _. find (eq_list e) (suc i) rs) ≡ some j → Hit e (r ∷ rs) i j
  hit_turn true j t f h =
      let k : i ≡ j = cc in
      let z : j - i ≡ 0 = omega arith in
      record { from = omega arith; to = omega arith; is = ap (λ (m : ℕ). get_or (r ∷ rs) m []) z ∙ sym (eq_list_true e r t) }
  hit_turn false j t f h = hit_later (f h)

  miss_turn : (b : Bool) → eq_list e r ≡ b → (find (eq_list e) (suc i) rs ≡ none → Miss e rs) → if b (λ _. some i) (λ _. find (eq_list e) (suc i) rs) ≡ none → Miss e (r ∷ rs)
  miss_turn true t f h = let z : ◌≡◌ {A = ℕ} 0 1 = cc in absurd (omega arith)
  miss_turn false t f h = record { is = other } where
    other : (k : ℕ) → k < length (r ∷ rs) → get_or (r ∷ rs) k [] ≡ e → ⊥
    other zero lt q = true_false (sym (eq_list_refl e) ∙ ap (eq_list e) (sym q) ∙ t)
    other (suc k) lt q = (f h).is k (omega arith) q

pub hit : (e : List ℕ) (rs : List (List ℕ)) (i j : ℕ) → find (eq_list e) i rs ≡ some j → Hit e rs i j
hit e [] i j h = let z : ◌≡◌ {A = ℕ} 0 1 = cc in absurd (omega arith)
hit e (r ∷ rs) i j h = hit_turn e r rs i (eq_list e r) j refl (hit e rs (suc i) j) h

pub miss : (e : List ℕ) (rs : List (List ℕ)) (i : ℕ) → find (eq_list e) i rs ≡ none → Miss e rs
miss e [] i h = record { is = λ k lt q. not-suc-le-zero lt }
miss e (r ∷ rs) i h = miss_turn e r rs i (eq_list e r) refl (miss e rs (suc i)) h

-- the ways a store goes: a refusal, the number of an equal node, or a new node at the end
pub data Way (n : Node) (st : State) : Out ℕ → Type 0 where
  refused : {k : ℕ} → Way n st (no k)
  old : {i : ℕ} → Hit (encode n) (map encode st.nodes) 0 i → Way n st (ok i st)
  new : Miss (encode n) (map encode st.nodes) → Way n st (ok (length st.nodes) (grown n st))

way_behind : (b c : Bool) (n : Node) (st : State) → Miss (encode n) (map encode st.nodes) → Way n st (behind b c n st)
way_behind true true n st m = refused
way_behind true false n st m = new m
way_behind false c n st m = refused

way_found : (n : Node) (st : State) (f : Option ℕ) → find (eq_list (encode n)) 0 (map encode st.nodes) ≡ f → Way n st (keep n st f)
way_found n st (some i) e = old (hit (encode n) (map encode st.nodes) 0 i e)
way_found n st none e = way_behind (ltb (length st.nodes) most_nodes) (ltb most_cells (st.cells + cells_of n)) n st (miss (encode n) (map encode st.nodes) 0 e)

way_few : (b : Bool) (n : Node) (st : State) → Way n st (if b (λ _. no 7) (λ _. keep n st (find (eq_list (encode n)) 0 (map encode st.nodes))))
way_few true n st = refused
way_few false n st = way_found n st (find (eq_list (encode n)) 0 (map encode st.nodes)) refl

pub way : (n : Node) (st : State) → Way n st (store n st)
unfolding store
way n st = way_few (ltb most_members (length (members n))) n st

-- st' is st with more nodes at the end; the rest but the cells is the same
pub record Grown (st st' : State) : Type 0 where
  pub more : List Node
  pub nodes : st'.nodes ≡ st.nodes ++ more
  pub keys : st'.keys ≡ st.keys
  pub bits : st'.bits ≡ st.bits
  pub ops : st'.ops ≡ st.ops
  pub sorted : st'.sorted ≡ st.sorted
  pub bailed : st'.bailed ≡ st.bailed

pub grown_none : (st : State) → Grown st st
grown_none st = record { more = []; nodes = sym (append-nil st.nodes); keys = refl; bits = refl; ops = refl; sorted = refl; bailed = refl }

pub grown_both : {a b c : State} → Grown a b → Grown b c → Grown a c
grown_both {a} g h =
    record {
      more = g.more ++ h.more;
      nodes = h.nodes ∙ ap (λ (l : List Node). l ++ h.more) g.nodes ∙ append_assoc a.nodes g.more h.more;
      keys = h.keys ∙ g.keys;
      bits = h.bits ∙ g.bits;
      ops = h.ops ∙ g.ops;
      sorted = h.sorted ∙ g.sorted;
      bailed = h.bailed ∙ g.bailed;
    }

-- a number below stays below, and its node stays the same
pub below_stays : {st st' : State} {x : ℕ} → Grown st st' → x < length st.nodes → x < length st'.nodes
below_stays {st} {st'} g lt = omega (arith, ap length g.nodes, length-append st.nodes g.more)

pub node_stays : {st st' : State} {x : ℕ} → Grown st st' → x < length st.nodes → node_at st'.nodes x ≡ node_at st.nodes x
node_stays {st} {st'} {x} g lt = ap (λ (l : List Node). node_at l x) g.nodes ∙ get_or-append st.nodes g.more Bottom x lt

-- each node's children are below it
pub record Rooted (ns : List Node) : Type 0 where
  pub is : (i : ℕ) → i < length ns → Under i (children (node_at ns i))

pub distinct_none : Distinct []
distinct_none = record { is = λ i j a b e. absurd (not-suc-le-zero a) }

pub rooted_none : Rooted []
rooted_none = record { is = λ i a. absurd (not-suc-le-zero a) }

-- within the list the default says nothing
get_d_any : {A : Type 0} (l : List A) (i : ℕ) (a b : A) → i < length l → get_or l i a ≡ get_or l i b
get_d_any [] i a b lt = absurd (not-suc-le-zero lt)
get_d_any (x ∷ l) zero a b lt = refl
get_d_any (x ∷ l) (suc i) a b lt = get_d_any l i a b (omega arith)

-- one more node at the end
module _ (ns : List Node) (n : Node) where
  abbrev longer : List Node
  longer = ns ++ (n ∷ [])

  -- a number below the longer list's length is below the shorter's, or the last
  pub by_place : (P : ℕ → Type 0) → ((i : ℕ) → i < length ns → P i) → P (length ns) → (i : ℕ) → i < length longer → P i
  by_place P f l i lt =
      ⊎_elim (λ (e : i ≡ length ns). subst P (sym e) l) (λ (h : i < length ns). f i h)
      (eq-or-lt_of_le (omega (arith, length-append ns (n ∷ []))))

  pub node_before : (i : ℕ) → i < length ns → node_at longer i ≡ node_at ns i
  node_before i lt = get_or-append ns (n ∷ []) Bottom i lt

  pub node_last : node_at longer (length ns) ≡ n
  node_last = get_or-append_seam ns n [] Bottom

  pub rooted_more : Rooted ns → Under (length ns) (children n) → Rooted longer
  rooted_more r u =
      record {
        is = by_place (λ (i : ℕ). Under i (children (node_at longer i)))
            (λ i lt. subst (λ (m : Node). Under i (children m)) (sym (node_before i lt)) (r.is i lt))
            (subst (λ (m : Node). Under (length ns) (children m)) (sym node_last) u);
      }

  pub absent : Miss (encode n) (map encode ns) → (i : ℕ) → i < length ns → node_at ns i ≡ n → ⊥
  absent m i lt e = m.is i (omega (arith, length-map ns encode)) (get_d_any (map encode ns) i [] (encode Bottom) (omega (arith, length-map ns encode)) ∙ get_or-map encode ns i Bottom ∙ ap encode e)

  pub distinct_more : Distinct ns → Miss (encode n) (map encode ns) → Distinct longer
  distinct_more d m =
      record {
        is = λ i j a b.
            by_place (λ (i : ℕ). node_at longer i ≡ node_at longer j → i ≡ j)
            (λ i a'. by_place (λ (j : ℕ). node_at longer i ≡ node_at longer j → i ≡ j)
            (λ j b' e. d.is i j a' b' (sym (node_before i a') ∙ e ∙ node_before j b'))
            (λ e. absurd (absent m i a' (sym (node_before i a') ∙ e ∙ node_last))) j b)
            (by_place (λ (j : ℕ). node_at longer (length ns) ≡ node_at longer j → length ns ≡ j)
            (λ j b' e. absurd (absent m j b' (sym (node_before j b') ∙ sym e ∙ node_last)))
            (λ e. refl) j b) i a;
      }

-- what a store gives
pub record Kept (n : Node) (st : State) (x : ℕ) (st' : State) : Type 0 where
  pub grows : Grown st st'
  pub below : x < length st'.nodes
  pub node : node_at st'.nodes x ≡ n
  pub distinct : Distinct st.nodes → Distinct st'.nodes
  pub rooted : Under (length st.nodes) (children n) → Rooted st.nodes → Rooted st'.nodes

-- what was found is n
pub hit_node : (n : Node) (ns : List Node) (i : ℕ) → Hit (encode n) (map encode ns) 0 i → (i < length ns) × (node_at ns i ≡ n)
hit_node n ns i h =
    let z : i ≡ i - 0 = omega arith in (
      omega (arith, h.to, length-map ns encode),
      encode_injective (node_at ns i) n
          (sym (get_or-map encode ns i Bottom)
          ∙ get_d_any (map encode ns) i (encode Bottom) [] (omega (arith, h.to))
          ∙ ap (λ (k : ℕ). get_or (map encode ns) k []) z ∙ h.is),
    )

kept_old : (n : Node) (st : State) (i : ℕ) → Hit (encode n) (map encode st.nodes) 0 i → Kept n st i st
kept_old n st i h =
    let m = hit_node n st.nodes i h in
    record { grows = grown_none st; below = m.0; node = m.1; distinct = λ d. d; rooted = λ u r. r }

kept_new : (n : Node) (st : State) → Miss (encode n) (map encode st.nodes) → Kept n st (length st.nodes) (grown n st)
kept_new n st m =
    record {
      grows = record { more = n ∷ []; nodes = refl; keys = refl; bits = refl; ops = refl; sorted = refl; bailed = refl };
      below = omega (arith, length-append st.nodes (n ∷ []));
      node = node_last st.nodes n;
      distinct = λ d. distinct_more st.nodes n d m;
      rooted = λ u r. rooted_more st.nodes n r u;
    }

kept_by : (n : Node) (st : State) (x : ℕ) (st' : State) (o : Out ℕ) → Way n st o → o ≡ ok x st' → Kept n st x st'
kept_by n st x st' o refused e = let z : ◌≡◌ {A = ℕ} 0 1 = cc in absurd (omega arith)
kept_by n st x st' o (old {i} h) e = let a : i ≡ x = cc in let b : st ≡ st' = cc in subst (λ (s : State). Kept n st x s) b (subst (λ (k : ℕ). Kept n st k st) a (kept_old n st i h))
kept_by n st x st' o (new m) e =
    let a : length st.nodes ≡ x = cc in let b : grown n st ≡ st' = cc in
    subst (λ (s : State). Kept n st x s) b (subst (λ (k : ℕ). Kept n st k (grown n st)) a (kept_new n st m))

-- a store that is not refused only adds at the end and gives a number of n; equal nodes keep one number, and children are below
pub store_keeps : (n : Node) (st : State) (x : ℕ) (st' : State) → store n st ≡ ok x st' → Kept n st x st'
store_keeps n st x st' e = kept_by n st x st' (store n st) (way n st) e
