-- Negating again: what was negated once is, in any later state, negated to the same node, and nothing is stored. Assumes nothing.
use mathlib.Core.Path.{◌≡◌, refl, sym, ap, ◌∙◌, subst}
use mathlib.Core.Bool.{Bool, true, false}
use Prim.Native.Nat.{ℕ, zero, suc, ◌+◌, ◌≤◌, ◌<◌}
use native.Mathlib.Omega.{arith}
use native.Mathlib.Nat.{not-suc-le-zero}
use mathlib.Core.List.{List, [], ◌∷◌, ◌++◌, map, map-append, append_assoc}
use lib.ListN.{length, length-map, get_or-append}
use lib.Dec.{ltb}
use Rattle.cells.specs.Part.{if, eq_list}
use Rattle.cells.specs.Placed.{Under}
use Rattle.rules.specs.Ceilings.{most_members, most_nodes, most_cells}
use Rattle.rules.specs.Types.{Node, TyVar, Primitive, ListOf, Lambda, AttrSet, Union, Intersection, Named, Neg, Bottom, Top, State, Out, ok, no, bind, ◌>>=◌, give}
use Rattle.rules.specs.Types.{encode, members, cells_of, node_at, grown, keep, store}
use Rattle.rules.specs.Members.{each, negate_node, negate_by, negate_output_ty}
use Rattle.rules.specs.Plain.{find}
use Rattle.laws.proofs.Storing.{Rooted, eq_list_refl, store_keeps}
use Rattle.laws.proofs.Rooting.{members_children}
use Rattle.laws.proofs.Keeping.{Later, later_length, later_node, later_both, parted, gave, refused_not, keeps_each, keeps_negate_by}
use mathlib.Core.Option.{Option, some, none}

-- what was found is found in a longer list too; what was not, is found where it was added
module _ {A : Type 0} (p : A → Bool) where
  found_turn : (b : Bool) (i j : ℕ) (f g : Option ℕ) → (f ≡ some j → g ≡ some j) → if b (λ _. some i) (λ _. f) ≡ some j → if b (λ _. some i) (λ _. g) ≡ some j
  found_turn true i j f g k h = h
  found_turn false i j f g k h = k h

  found_still : (i j : ℕ) (xs ys : List A) → find p i xs ≡ some j → find p i (xs ++ ys) ≡ some j
  found_still i j [] ys h = let z : ◌≡◌ {A = ℕ} 0 1 = cc in absurd (omega arith)
  found_still i j (x ∷ xs) ys h = found_turn (p x) i j (find p (suc i) xs) (find p (suc i) (xs ++ ys)) (found_still (suc i) j xs ys) h

  added_turn : (b : Bool) (i n : ℕ) (f g : Option ℕ) → (f ≡ none → g ≡ some (suc i + n)) → if b (λ _. some i) (λ _. f) ≡ none → if b (λ _. some i) (λ _. g) ≡ some (i + suc n)
  added_turn true i n f g k h = let z : ◌≡◌ {A = ℕ} 0 1 = cc in absurd (omega arith)
  added_turn false i n f g k h = let e : suc i + n ≡ i + suc n = omega arith in k h ∙ ap some e

  found_added : (i : ℕ) (y : A) (xs ys : List A) → p y ≡ true → find p i xs ≡ none → find p i (xs ++ (y ∷ ys)) ≡ some (i + length xs)
  found_added i y [] ys t h = let e : i ≡ i + 0 = omega arith in ap (λ (b : Bool). if b (λ _. some i) (λ _. find p (suc i) ys)) t ∙ ap some e
  found_added i y (x ∷ xs) ys t h = added_turn (p x) i (length xs) (find p (suc i) xs) (find p (suc i) (xs ++ (y ∷ ys))) (found_added (suc i) y xs ys t) h

-- the nodes of st, and perhaps more after them
pub record Begins (st st' : State) : Type 0 where
  pub more : List Node
  pub nodes : st'.nodes ≡ st.nodes ++ more

begins_both : {a b c : State} → Begins a b → Begins b c → Begins a c
begins_both {a} l m =
    record { more = l.more ++ m.more; nodes = m.nodes ∙ ap (λ (ns : List Node). ns ++ m.more) l.nodes ∙ append_assoc a.nodes l.more m.more }

begins_later : {a b c : State} → Later a b → Begins b c → Begins a c
begins_later l m = begins_both (record { more = l.more; nodes = l.nodes }) m

-- a node that was stored is found again wherever the nodes begin as after that
module _ (n : Node) (st st' st'' : State) (y : ℕ) (b : Begins st' st'') where
  abbrev sought : State → Option ℕ
  sought s = find (eq_list (encode n)) 0 (map encode s.nodes)

  rows_begin : map encode st''.nodes ≡ map encode st'.nodes ++ map encode b.more
  rows_begin = ap (map encode) b.nodes ∙ map-append encode st'.nodes b.more

  old_again : sought st' ≡ some y → sought st'' ≡ some y
  old_again f = ap (find (eq_list (encode n)) 0) rows_begin ∙ found_still (eq_list (encode n)) 0 y (map encode st'.nodes) (map encode b.more) f

  new_again : sought st ≡ none → length st.nodes ≡ y → grown n st ≡ st' → sought st'' ≡ some y
  new_again f k g =
      let rows = map encode st.nodes in
      let here : map encode st'.nodes ≡ rows ++ (encode n ∷ []) = ap (λ (s : State). map encode s.nodes) (sym g) ∙ map-append encode st.nodes (n ∷ []) in
      old_again
      (ap (find (eq_list (encode n)) 0) here ∙ found_added (eq_list (encode n)) 0 (encode n) rows [] (eq_list_refl (encode n)) f
      ∙ ap some (let e : 0 + length rows ≡ length rows = omega arith in e ∙ length-map st.nodes encode ∙ k))

  kept_again : (a c : Bool) → sought st ≡ none → if a (λ _. if c (λ _. no 9) (λ _. ok (length st.nodes) (grown n st))) (λ _. no 8) ≡ ok y st' → sought st'' ≡ some y
  kept_again true true f e = refused_not e
  kept_again true false f e = let k : length st.nodes ≡ y = cc in let g : grown n st ≡ st' = cc in new_again f k g
  kept_again false c f e = refused_not e

  sought_again : (f : Option ℕ) → sought st ≡ f → keep n st f ≡ ok y st' → sought st'' ≡ some y
  sought_again (some i) f e = let k : i ≡ y = cc in let g : st ≡ st' = cc in old_again (ap sought (sym g) ∙ f ∙ ap some k)
  sought_again none f e = kept_again (ltb (length st.nodes) most_nodes) (ltb most_cells (st.cells + cells_of n)) f e

  store_by : (b : Bool) → if b (λ _. no 7) (λ _. keep n st (sought st)) ≡ ok y st' → if b (λ _. no 7) (λ _. keep n st'' (sought st'')) ≡ ok y st''
  store_by true e = refused_not e
  store_by false e = ap (keep n st'') (sought_again (sought st) refl e)

  store_again : store n st ≡ ok y st' → store n st'' ≡ ok y st''
  unfolding store
  store_again e = store_by (ltb most_members (length (members n))) e

-- st is the later state; its first k nodes were there in the earlier ones too, and their members are below them
module _ (st : State) (k : ℕ) (low : (i : ℕ) → i < k → Under i (members (node_at st.nodes i))) where
  node_began : {s : State} {x : ℕ} → Begins s st → k ≤ length s.nodes → x < k → node_at st.nodes x ≡ node_at s.nodes x
  node_began {s} {x} b le lt = ap (λ (ns : List Node). node_at ns x) b.nodes ∙ get_or-append s.nodes b.more Bottom x (omega arith)

  module _ (f g : ℕ) (again : (x y : ℕ) (s s' : State) → x < k → x < f → x < g → k ≤ length s.nodes → negate_by f x s ≡ ok y s' → Begins s' st → negate_by g x st ≡ ok y st) where
    each_again : (ms ys : List ℕ) (x : ℕ) (s s' : State) → Under x ms → x < k → x ≤ f → x ≤ g → k ≤ length s.nodes
        → each (negate_by f) ms s ≡ ok ys s' → Begins s' st → each (negate_by g) ms st ≡ ok ys st
    each_again [] ys x s s' u lt a c le e b = gave (λ zs _. ◌≡◌ {A = Out (List ℕ)} (ok [] st) (ok zs st)) e refl
    each_again (m ∷ ms) ys x s s' u lt a c le e b =
        let p = parted (negate_by f m) (λ z. each (negate_by f) ms >>= (λ (zs : List ℕ). give (z ∷ zs))) s ys s' e in
        let q = parted (each (negate_by f) ms) (λ zs. give (p.value ∷ zs)) p.between ys s' p.second in
        let all : p.value ∷ q.value ≡ ys = gave (λ zs _. p.value ∷ q.value ≡ zs) q.second refl in
        let end : Begins q.between st = let z : q.between ≡ s' = gave (λ _ z. q.between ≡ z) q.second refl in subst (λ (z : State). Begins z st) (sym z) b in
        let l = keeps_negate_by f m s p.value p.between p.first in
        let r = keeps_each (negate_by f) (keeps_negate_by f) ms p.between q.value q.between q.first in
        let head = again m p.value s p.between (omega arith) (omega arith) (omega arith) le p.first (begins_later r end) in
        let tail = each_again ms q.value x p.between q.between u.1 lt a c (omega (arith, later_length l)) q.first end in
        ap (λ (o : Out ℕ). bind o (λ z. each (negate_by g) ms >>= (λ (zs : List ℕ). give (z ∷ zs)))) head
        ∙ ap (λ (o : Out (List ℕ)). bind o (λ zs. give (p.value ∷ zs))) tail
        ∙ ap (λ (zs : List ℕ). ok zs st) all

    -- a list of members that turns over
    list_again : (to : List ℕ → Node) (ms : List ℕ) (x y : ℕ) (s s' : State) → Under x ms → x < k → x ≤ f → x ≤ g → k ≤ length s.nodes
        → bind (each (negate_by f) ms s) (λ xs. store (to xs)) ≡ ok y s' → Begins s' st → bind (each (negate_by g) ms st) (λ xs. store (to xs)) ≡ ok y st
    list_again to ms x y s s' u lt a c le e b =
        let p = parted (each (negate_by f) ms) (λ xs. store (to xs)) s y s' e in
        let l = (store_keeps (to p.value) p.between y s' p.second).grows in
        let mid : Begins p.between st = begins_both (record { more = l.more; nodes = l.nodes }) b in
        ap (λ (o : Out (List ℕ)). bind o (λ xs. store (to xs))) (each_again ms p.value x s p.between u lt a c le p.first mid)
        ∙ store_again (to p.value) p.between s' st y b p.second

    node_again : (n : Node) (x y : ℕ) (s s' : State) → Under x (members n) → x < k → x ≤ f → x ≤ g → k ≤ length s.nodes
        → negate_node (negate_by f) x n s ≡ ok y s' → Begins s' st → negate_node (negate_by g) x n st ≡ ok y st
    node_again (TyVar i) x y s s' u lt a c le e b = store_again (Neg x) s s' st y b e
    node_again (Primitive i) x y s s' u lt a c le e b = store_again (Neg x) s s' st y b e
    node_again (ListOf i) x y s s' u lt a c le e b = store_again (Neg x) s s' st y b e
    node_again (Lambda i j) x y s s' u lt a c le e b = store_again (Neg x) s s' st y b e
    node_again (AttrSet i) x y s s' u lt a c le e b = store_again (Neg x) s s' st y b e
    node_again (Union ms) x y s s' u lt a c le e b = list_again Intersection ms x y s s' u lt a c le e b
    node_again (Intersection ms) x y s s' u lt a c le e b = list_again Union ms x y s s' u lt a c le e b
    node_again (Named i j) x y s s' u lt a c le e b = store_again (Neg x) s s' st y b e
    node_again (Neg i) x y s s' u lt a c le e b = gave (λ z _. ◌≡◌ {A = Out ℕ} (ok i st) (ok z st)) e refl
    node_again Bottom x y s s' u lt a c le e b = store_again (Neg x) s s' st y b e
    node_again Top x y s s' u lt a c le e b = store_again (Neg x) s s' st y b e

  pub negate_by_again : (f g x y : ℕ) (s s' : State) → x < k → x < f → x < g → k ≤ length s.nodes → negate_by f x s ≡ ok y s' → Begins s' st → negate_by g x st ≡ ok y st
  negate_by_again zero g x y s s' lt a c le e b = absurd (not-suc-le-zero a)
  negate_by_again (suc f) zero x y s s' lt a c le e b = absurd (not-suc-le-zero c)
  negate_by_again (suc f) (suc g) x y s s' lt a c le e b =
      let same = node_began (begins_later (keeps_negate_by (suc f) x s y s' e) b) le lt in
      ap (λ (n : Node). negate_node (negate_by g) x n st) same
      ∙ node_again f g (negate_by_again f g) (node_at s.nodes x) x y s s' (subst (λ (n : Node). Under x (members n)) same (low x lt)) lt (omega arith) (omega arith) le e b

-- the law of a memory: nodes of which the children are below them are negated again to what they came to, in every later state, and it stays as it is
pub negate_again : (x y : ℕ) (st st' st'' : State) → Rooted st.nodes → x < length st.nodes → negate_output_ty x st ≡ ok y st' → Later st' st''
    → negate_output_ty x st'' ≡ ok y st''
unfolding negate_output_ty
negate_again x y st st' st'' r lt e l =
    let all = later_both (keeps_negate_by (suc x) x st y st' e) l in
    negate_by_again st'' (length st.nodes)
    (λ i h. subst (λ (n : Node). Under i (members n)) (sym (later_node all h)) (members_children i (node_at st.nodes i) (r.is i h)))
    (suc x) (suc x) x y st st' lt (omega arith) (omega arith) (omega arith) e (record { more = l.more; nodes = l.nodes })
