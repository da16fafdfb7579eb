-- Negation: what is stored, what is remembered, and the loop over the members. Assumes nothing.
use mathlib.Core.Path.{◌≡◌, refl, sym, ap, ap₂, ◌∙◌, subst}
use mathlib.Core.Bool.{Bool, true, false}
use mathlib.Core.Logic.{⊎_elim}
use Prim.Native.Nat.{ℕ, zero, suc, ◌+◌, ◌-◌, ◌≤◌, ◌<◌}
use native.Mathlib.Omega.{arith}
use native.Mathlib.Nat.{not-suc-le-zero, eq-zero-or-pos}
use native.Mathlib.Numerals.{add-one}
use mathlib.Core.List.{List, [], ◌∷◌, ◌++◌, append-nil, append_assoc}
use lib.ListN.{length, get_or, set, drop, length-append, length-set, drop_of_length-le, get_or-append}
use lib.Seq.{drop-cons, get_or-set_same, get_or-set_other}
use lib.Dec.{eqb}
use borrow.Author.Tests.{eqb-true, eqb-false, ne_eqb}
use Rattle.cells.specs.Part.{cell, part, if}
use Rattle.cells.specs.Sum.{Sum}
use Rattle.cells.specs.Clears.{Clears}
use Rattle.cells.proofs.Parts.{run_ext, part_set_snoc}
use Rattle.layout.specs.Layout.{held_at, negated_at}
use Rattle.rules.specs.Ceilings.{most_nodes}
use Rattle.rules.specs.Types.{State, Out, ok, no, Run, bind, give, grown, keep, encode, kind_of, members, children, cells_of, node_at, store, TyVar, Primitive, ListOf}
use Rattle.rules.specs.Types.{Lambda, AttrSet, Union, Intersection, Named, Neg, Bottom, Top}
use Rattle.rules.specs.Types as rules
use Rattle.rules.specs.Members.{each, negate_node, negate_by, negate_output_ty}
use Rattle.laws.proofs.Rows.{by_kind}
use Rattle.laws.proofs.Rooting.{members_children}
use Rattle.laws.proofs.Storing.{store_keeps}
use Rattle.laws.proofs.Keeping.{bind_none, bind_more, keeps_negate_by}
use Rattle.laws.proofs.Negating.{Begins, negate_by_again}
use Rattle.lang_ty.specs.declared.arena.Pass.{Pass}
use Rattle.lang_ty.specs.Given.{Given, Node, Refused}
use Rattle.lang_ty.specs.Nodes.{Stands, Gives, Answers, Word, Kind, Is, Count, Member, Lists, Stored, Listed}
use Rattle.lang_ty.proofs.Words.{neg_at}
use Rattle.negation.specs.Negations.{Turns, members_up_to, Negatable, KeptBut, ComesAgain, Remembers, NegationNoted}
use Rattle.negation.specs.Negations.{AnswersNoted, AnswersGiven, turned_node, negations, StoresNegation, NegatesSingle, Recalls, Recalled, Noted, Notes, Completes, Forgotten, Forgets, Negates, NegatesOutput}
use Rattle.laws.proofs.Filtering.{under_at, under_both, under_most}
use Rattle.cells.specs.Placed.{Under}
use Rattle.std.proofs.Common.{Option, Some, None}
use Rattle.std.specs.Option.{SomeIff}

-- a node that turned over lists the negations of its members; any other is wrapped
module _ {k kind : ℕ} (x : ℕ) (xs : List ℕ) (t : Turns k kind) where
  lists_by : {j : ℕ} (b c : Bool) → eqb k 5 ≡ b → eqb k 6 ≡ c → (kind ≡ 8 → ⊥) → Under j xs
      → Lists (if b (λ _. Intersection xs) (λ _. if c (λ _. Union xs) (λ _. Neg x))) kind xs j
  lists_by true c e f n u =
      record { row = ap (λ (v : ℕ). v ∷ length xs ∷ xs) (sym (t.union (eqb-true k 5 e))); cells = omega arith; members = refl; plain = refl; below = u }
  lists_by false true e f n u =
      record { row = ap (λ (v : ℕ). v ∷ length xs ∷ xs) (sym (t.intersection (eqb-true k 6 f))); cells = omega arith; members = refl; plain = refl; below = u }
  lists_by false false e f n u = absurd (n (t.other (eqb-false k 5 e) (eqb-false k 6 f)))

  turned_lists : {j : ℕ} → (kind ≡ 8 → ⊥) → Under j xs → Lists (turned_node xs x k) kind xs j
  turned_lists n u = lists_by (eqb k 5) (eqb k 6) refl refl n u

  turned_wraps : kind ≡ 8 → turned_node xs x k ≡ Neg x
  turned_wraps e =
      ap₂ (λ (b c : Bool). if b (λ _. Intersection xs) (λ _. if c (λ _. Union xs) (λ _. Neg x)))
      (ne_eqb k 5 (λ z. omega (arith, t.union z))) (ne_eqb k 6 (λ z. omega (arith, t.intersection z)))

-- each node's members are below it
below_top : {st : State} {w : List ℕ} {q : Pass} {top : ℕ} → Stands st w q → top ≤ length st.nodes → (i : ℕ) → i < top → Under i (members (node_at st.nodes i))
below_top {st} on le i lt = members_children i (node_at st.nodes i) (on.arena.below i (omega arith))

-- what is remembered stays so in cells that stay
remembers_same : {st : State} {held held' : List ℕ} {top : ℕ} → Remembers st held top → ((k : ℕ) → k < top → cell held' (negated_at + k) ≡ cell held (negated_at + k))
    → Remembers st held' top
remembers_same m same = record { known = m.known; is = λ k y lt c. m.is k y lt (sym (same k lt) ∙ c) }

-- and while nodes are added
remembers_more : {st st' : State} {w held : List ℕ} {q : Pass} {top : ℕ} → Remembers st held top → Stands st' w q → Begins st st' → Remembers st' held top
remembers_more {st} {st'} {top = top} m on begins =
    let longer : length st.nodes ≤ length st'.nodes = omega (arith, ap length begins.nodes, length-append st.nodes begins.more) in
    record {
      known = omega (arith, m.known);
      is = λ k y lt c.
          let a = m.is k y lt c in
          record {
            below = omega (arith, a.below);
            is = λ f l. negate_by_again st' top (below_top on (omega (arith, m.known))) f f k y st st lt l l m.known (a.is f l) begins;
          };
    }

-- a step that only stores leaves what is remembered
noted_by : {o : Out ℕ} {st : State} {w' held : List ℕ} {top : ℕ} (h : ℕ) → Remembers st held top → ((y : ℕ) (st' : State) → o ≡ ok y st' → Begins st st') → (r : Given) → Answers o w' r
    → AnswersNoted o st w' h top held held r
noted_by h mem begins (Node y q) a =
    let g = a.is in
    let l = begins y g.after g.is in
    record {
      negation = record { after = g.after; more = l.more; is = g.is; stands = g.stands; nodes = l.nodes; below = g.below; kept = λ k lt b. refl };
      remembers = remembers_more mem g.stands l;
    }
noted_by h mem begins (Refused k) a = a.is

-- `store_negation`
module _ {w held w' : List ℕ} {h x k kind : ℕ} {q : Pass} {r : Given} (is : Kind w x k) (t : Turns k kind) where
  pub negation_wraps : kind ≡ 8 → Stored (8 ∷ x ∷ []) 0 w q w' r → StoresNegation w held h q x w' r
  negation_wraps e a =
      record {
        is = λ {st} on known u.
            let all = negations st.nodes held h x in
            let turned = ap (turned_node all x) (sym (is.is on.arena known)) ∙ turned_wraps x all t e in
            let lt : x < q.nodes = omega (arith, known, on.arena.count) in
            subst (λ (m : rules.Node). Answers (store m st) w' r) (sym turned)
            (a.is {n = Neg x} on (record { cells = refl; few = omega arith; below = (lt, tt); ordered = tt; short = omega arith }) refl);
      }

  pub negation_turns : {n : ℕ} → (kind ≡ 8 → ⊥) → Count w x n → Listed kind held h n w q w' r → StoresNegation w held h q x w' r
  negation_turns e count a =
      record {
        is = λ {st} on known u.
            let all = negations st.nodes held h x in
            let made = turned_node all x (kind_of (node_at st.nodes x)) in
            let u' = subst (λ (j : ℕ). Under j all) on.arena.count u in
            a.is on (subst (λ (j : ℕ). Lists made kind (part held h j) q.nodes) (sym (count.is on.arena known))
            (subst (λ (j : ℕ). Lists (turned_node all x j) kind all q.nodes) (is.is on.arena known) (turned_lists x all t e u')));
      }

-- the members of the nodes below, and of nodes that are followed by more
up_to : (ns : List rules.Node) (d m x : ℕ) → m + d ≡ x → members_up_to ns m ≤ members_up_to ns x
up_to ns zero m x e = let f : m ≡ x = omega arith in let g = ap (members_up_to ns) f in omega arith
up_to ns (suc d) m x e = omega (arith, up_to ns d (suc m) x (omega arith))

up_to_more : (ns more : List rules.Node) (k : ℕ) → k ≤ length ns → members_up_to (ns ++ more) k ≡ members_up_to ns k
up_to_more ns more zero h = refl
up_to_more ns more (suc k) h =
    ap₂ (λ (a b : ℕ). a + b) (up_to_more ns more k (omega arith)) (ap (λ (n : rules.Node). length (members n)) (get_or-append ns more Bottom k (omega arith)))

-- a node that is no Neg is turned over once its members are negated
turned_over : (f : ℕ → Run ℕ) (x : ℕ) (n : rules.Node) (st : State) → (kind_of n ≡ 8 → ⊥)
    → negate_node f x n st ≡ bind (each f (members n) st) (λ xs. store (turned_node xs x (kind_of n)))
turned_over f x (TyVar a) st h = refl
turned_over f x (Primitive c) st h = refl
turned_over f x (ListOf a) st h = refl
turned_over f x (Lambda a b) st h = refl
turned_over f x (AttrSet a) st h = refl
turned_over f x (Union ms) st h = refl
turned_over f x (Intersection ms) st h = refl
turned_over f x (Named m a) st h = refl
turned_over f x (Neg a) st h = absurd (h refl)
turned_over f x Bottom st h = refl
turned_over f x Top st h = refl

-- `negate_single`: a Neg comes off, what is no Neg is wrapped
module _ {w : List ℕ} {x r : ℕ} {q : Pass} {b : Bool} (is : Is w 8 x b) (t : b ≡ true) (inner : Word w x 1 r) where
  comes_off : {st : State} (f : ℕ) → x < f → Stands st w q → x < length st.nodes → Gives (negate_by f x st) w r q
  comes_off zero lt on known = absurd (not-suc-le-zero lt)
  comes_off {st} (suc f) lt on known =
      let node = node_at st.nodes x in
      let kind : kind_of node ≡ 8 = eqb-true (kind_of node) 8 (sym (is.is on.arena known) ∙ t) in
      let neg : Neg r ≡ node = neg_at on.arena known kind inner in
      record {
        after = st;
        is = ap (λ (m : rules.Node). negate_node (negate_by f) x m st) (sym neg);
        stands = on;
        below = omega (arith, known, (subst (λ (m : rules.Node). Under x (children m)) (sym neg) (on.arena.below x known)).0);
      }

  pub single_neg : NegatesSingle w q x w (Node r q)
  single_neg = record { is = λ f lt e on known. record { is = comes_off f lt on known } }

module _ {w held w' : List ℕ} {h x : ℕ} {q : Pass} {b : Bool} {r : Given} (is : Is w 8 x b) (t : b ≡ false) (stored : StoresNegation w held h q x w' r) where
  wrapped : {st : State} (f : ℕ) → x < f → length (members (node_at st.nodes x)) ≡ 0 → Stands st w q → x < length st.nodes → Answers (negate_by f x st) w' r
  wrapped zero lt e on known = absurd (not-suc-le-zero lt)
  wrapped {st} (suc f) lt e on known =
      let node = node_at st.nodes x in
      let none : members node ≡ [] = drop_of_length-le (members node) {i = 0} (omega arith) in
      subst (λ (o : Out ℕ). Answers o w' r)
      (sym (turned_over (negate_by f) x node st (eqb-false (kind_of node) 8 (sym (is.is on.arena known) ∙ t))
      ∙ ap (λ (ms : List ℕ). bind (each (negate_by f) ms st) (λ xs. store (turned_node xs x (kind_of node)))) none))
      (subst (λ (j : ℕ). Answers (store (turned_node (part held h j) x (kind_of node)) st) w' r) e
      (stored.is on known (subst (λ (j : ℕ). Under (length st.nodes) (part held h j)) (sym e) tt)))

  pub single_wrapped : NegatesSingle w q x w' r
  single_wrapped = record { is = wrapped }

-- `forget`
module _ {w held : List ℕ} {x n : ℕ} (count : Count w x n) where
  pub forgets_none : n ≡ 0 → Forgets w held x held
  forgets_none e =
      record {
        is = λ a lt. record { none = λ l k le. absurd (omega (arith, count.is a lt)); kept = λ k l. refl };
      }

  pub forgets_all : {m : ℕ} {held' : List ℕ} → Sum x 1 m → Clears held negated_at m held' → Forgets w held x held'
  forgets_all {m} {held'} sum c =
      record {
        is = λ a lt.
            let few : x < most_nodes = omega (arith, a.few, a.count) in
            let e = sum.is (omega arith) in
            record {
              none = λ l k le. c.zero (negated_at + k) (omega arith) (omega arith);
              kept = λ k l. ⊎_elim (λ z. c.before k (omega arith)) (λ z. c.behind k (omega (arith, l (omega arith)))) (eq-zero-or-pos (suc k - negated_at));
            };
      }

-- `recalled`
recalls_by : (c : ℕ) (r : Option ℕ) → SomeIff r (1 ≤ c) (c - 1) → Recalls c r
recalls_by c (Some y) s = omega (arith, s.0, s.1)
recalls_by c None s = omega arith

pub recalls : {held : List ℕ} {x p c : ℕ} {r : Option ℕ} → p ≡ negated_at + x → c ≡ cell held p → SomeIff r (1 ≤ c) (c - 1) → Recalled held x r
recalls {held} {c = c} {r} e f s = record { is = subst (λ (v : ℕ). Recalls v r) (f ∙ ap (cell held) e) (recalls_by c r s) }

-- `remember`
pub notes : {held held' : List ℕ} {x y p m : ℕ} → p ≡ negated_at + x → Sum y 1 m → held' ≡ set held p m → Noted held x y held'
notes {held} {y = y} e sum put = record { is = λ le. put ∙ ap₂ (λ (a b : ℕ). set held a b) e (sum.is (omega arith) ∙ add-one y) }

-- a node with members is no Neg
no_neg : (n : rules.Node) → 0 < length (members n) → kind_of n ≡ 8 → ⊥
no_neg n lt e = let z = by_kind n (λ (m : rules.Node). length (members m) ≡ 0) 8 e refl in omega arith

has_members : {st : State} {w held : List ℕ} {p : Pass} {h x n : ℕ} → Count w x n → (n ≡ 0 → ⊥) → Negatable st w p held h x → 0 < length (members (node_at st.nodes x))
has_members {st} {x = x} c many b = let e = c.is b.stands.arena b.known in ⊎_elim (λ z. absurd (many (e ∙ z))) (λ z. z) (eq-zero-or-pos (length (members (node_at st.nodes x))))

-- `remember`: what x came to is remembered of it, and of the others what was
module _ {st : State} {w₀ w' held₀ held' held'' : List ℕ} {q₀ q : Pass} {h x top y : ℕ} (n : Negatable st w₀ q₀ held₀ h x) (mem : Remembers st held₀ top)
    (long : held_at ≤ length held') (f : ℕ) (l : x < f) (t : x < top) (a : NegationNoted (negate_by f x st) st w' q h top held₀ held' y) (note : Noted held' x y held'') where
  abbrev end : State
  end = a.negation.after

  low : top ≤ most_nodes
  low = omega (arith, n.stands.arena.few, n.stands.arena.count, mem.known)

  put : held'' ≡ set held' (negated_at + x) (suc y)
  put =
      let on = a.negation.stands.arena in
      let few : y < most_nodes = omega (arith, a.negation.below, on.few, on.count) in
      note.is (omega arith)

  other : (k : ℕ) → (k ≡ negated_at + x → ⊥) → cell held'' k ≡ cell held' k
  other k ne = ap (λ (v : List ℕ). cell v k) put ∙ get_or-set_other held' (negated_at + x) k (suc y) 0 ne

  here : cell held'' (negated_at + x) ≡ suc y
  here = ap (λ (v : List ℕ). cell v (negated_at + x)) put ∙ get_or-set_same held' (negated_at + x) (suc y) 0 (omega (arith, low))

  comes_here : ComesAgain end x y
  comes_here =
      let z = a.negation in
      record {
        below = z.below;
        is = λ g lt. negate_by_again end top (below_top z.stands a.remembers.known) f g x y st end t l lt mem.known z.is
            (record { more = []; nodes = sym (append-nil end.nodes) });
      }

  comes_at : (b : Bool) (k z : ℕ) → eqb k x ≡ b → k < top → cell held'' (negated_at + k) ≡ suc z → ComesAgain end k z
  comes_at true k z e lt c =
      let same : k ≡ x = eqb-true k x e in
      let to : suc y ≡ suc z = sym here ∙ ap (λ (v : ℕ). cell held'' (negated_at + v)) (sym same) ∙ c in
      let to' : y ≡ z = omega arith in
      subst (λ (v : ℕ). ComesAgain end v z) (sym same) (subst (ComesAgain end x) to' comes_here)
  comes_at false k z e lt c =
      let differ = eqb-false k x e in
      a.remembers.is k z lt (sym (other (negated_at + k) (λ p. differ (omega arith))) ∙ c)

  noted_more : NegationNoted (negate_by f x st) st w' q h top held₀ held'' y
  noted_more =
      let z = a.negation in
      let few = low in
      record {
        negation = record {
          after = z.after;
          more = z.more;
          is = z.is;
          stands = z.stands;
          nodes = z.nodes;
          below = z.below;
          kept = λ k lt b. other k (λ p. omega (arith, b (omega arith))) ∙ z.kept k lt b;
        };
        remembers = record { known = a.remembers.known; is = λ k z lt c. comes_at (eqb k x) k z refl lt c };
      }

-- `negate` of a node without members, and of one that is remembered
module _ {w held : List ℕ} {h x n : ℕ} {q : Pass} (count : Count w x n) where
  pub negates_single : {w' : List ℕ} {r : Given} → n ≡ 0 → NegatesSingle w q x w' r → Negates w held h q x w' held r
  negates_single {r = r} e s =
      record {
        is = λ {st} f top l t b mem.
            noted_by h mem (λ y st' o. let k = keeps_negate_by f x st y st' o in record { more = k.more; nodes = k.nodes }) r
            (s.is f l (sym (count.is b.stands.arena b.known) ∙ e) b.stands b.known);
      }

  pub negates_recalled : {y : ℕ} {r : Option ℕ} → (n ≡ 0 → ⊥) → Recalled held x r → r ≡ Some y → Negates w held h q x w held (Node y q)
  negates_recalled {y} many c e =
      record {
        is = λ {st} f top l t b mem.
            let cell : Recalls (cell held (negated_at + x)) (Some y) = subst (Recalls (cell held (negated_at + x))) e c.is in
            let a = mem.is x y (t (has_members count many b)) cell in
            record {
              negation = record { after = st; more = []; is = a.is f l; stands = b.stands; nodes = sym (append-nil st.nodes); below = a.below; kept = λ k lt b. refl };
              remembers = mem;
            };
      }

-- `complete`
module _ {w held w' : List ℕ} {h x : ℕ} {q : Pass} {r : Given} (stored : StoresNegation w held h q x w' r) where
  pub completes_node : {y : ℕ} {q' : Pass} {held' : List ℕ} → r ≡ Node y q' → Noted held x y held' → Completes w held h q x w' held' (Node y q')
  completes_node e note = record { stored = subst (StoresNegation w held h q x w') e stored; noted = note }

  pub completes_refused : {k : ℕ} → r ≡ Refused k → Completes w held h q x w' held (Refused k)
  completes_refused e = record { stored = subst (StoresNegation w held h q x w') e stored; noted = refl }

-- the loop over the members of x at member i: the negations so far are held from h on, and the rules are as far
pub record Midway (f top : ℕ) (st : State) (w : List ℕ) (q : Pass) (held₀ held : List ℕ) (h x i : ℕ) : Type 0 where
  pub now : State
  pub more : List rules.Node
  pub stands : Stands now w q
  pub nodes : now.nodes ≡ st.nodes ++ more
  pub kept : KeptBut h held₀ held
  pub few : i ≤ length (members (node_at st.nodes x))
  pub gathered : Under (length now.nodes) (part held h i)
  pub remembers : Remembers now held top
  pub is : each (negate_by f) (members (node_at st.nodes x)) st
      ≡ bind (each (negate_by f) (drop i (members (node_at st.nodes x))) now) (λ zs. give (part held h i ++ zs))

pub record Negating (w₀ held₀ : List ℕ) (h : ℕ) (q₀ : Pass) (x : ℕ) (w held : List ℕ) (q : Pass) (i : ℕ) : Type 0 where
  pub cells : length held ≡ length held₀
  pub is : {st : State} (f top : ℕ) → x ≤ f → x < top → Negatable st w₀ q₀ held₀ h x → Remembers st held₀ top → Midway f top st w q held₀ held h x i

pub negating_start : {w held : List ℕ} {h x : ℕ} {q : Pass} → Negating w held h q x w held q 0
negating_start {x = x} =
    record {
      cells = refl;
      is = λ {st} f top le lt n mem.
          record {
            now = st;
            more = [];
            stands = n.stands;
            nodes = sym (append-nil st.nodes);
            kept = λ k lt b. refl;
            few = omega arith;
            gathered = tt;
            remembers = mem;
            is = bind_none (each (negate_by f) (members (node_at st.nodes x)) st);
          };
    }

-- what holds midway
module _ {f top : ℕ} {st : State} {w₀ w held₀ held : List ℕ} {q₀ q : Pass} {h x i : ℕ}
    (n : Negatable st w₀ q₀ held₀ h x) (mid : Midway f top st w q held₀ held h x i) (long : length held ≡ length held₀) where
  abbrev mine : List ℕ
  mine = members (node_at st.nodes x)

  node_same : node_at mid.now.nodes x ≡ node_at st.nodes x
  node_same = ap (λ (l : List rules.Node). node_at l x) mid.nodes ∙ get_or-append st.nodes mid.more Bottom x n.known

  longer : length st.nodes ≤ length mid.now.nodes
  longer = omega (arith, ap length mid.nodes, length-append st.nodes mid.more)

  known : x < length mid.now.nodes
  known = omega (arith, n.known, longer)

  member_is : {m : ℕ} → Member w x i m → i < length mine → m ≡ get_or mine i 0
  member_is c lt =
      c.is mid.stands.arena known (omega (arith, ap (λ (m : rules.Node). length (members m)) node_same))
      ∙ ap (λ (m : rules.Node). get_or (members m) i 0) node_same

  member_below : {m : ℕ} → Member w x i m → i < length mine → m < x
  member_below {m} c lt =
      omega (arith, member_is c lt, under_at x mine i (members_children x (node_at st.nodes x) (n.stands.arena.below x n.known)) lt)

  up_same : (k : ℕ) → k ≤ length st.nodes → members_up_to mid.now.nodes k ≡ members_up_to st.nodes k
  up_same k le = ap (λ (l : List rules.Node). members_up_to l k) mid.nodes ∙ up_to_more st.nodes mid.more k le

  negatable_member : {m deep : ℕ} → m < x → Sum h (length mine) deep → Negatable mid.now w q held deep m
  negatable_member {m} {deep} lt sum =
      let a : deep ≡ h + length mine = sum.is (omega (arith, n.small)) in
      let b = up_same (suc m) (omega (arith, n.known)) in
      let c = up_to st.nodes (x - suc m) (suc m) x (omega arith) in
      record {
        stands = mid.stands;
        known = omega (arith, known);
        behind = omega (arith, n.behind);
        room = omega (arith, n.room);
        small = omega (arith, n.small);
      }

  negatable_still : Negatable mid.now w q held h x
  negatable_still =
      let b = up_same (suc x) n.known in
      record { stands = mid.stands; known = known; behind = n.behind; room = omega (arith, n.room); small = omega (arith, n.small) }

  -- what comes of the rest comes of the whole
  from_here : {o o' : Out ℕ} (w' held' : List ℕ) (r : Given) → o' ≡ o → AnswersNoted o mid.now w' h top held held' r → AnswersNoted o' st w' h top held₀ held' r
  from_here w' held' (Node y q') e noted =
      let a = noted.negation in
      record {
        negation = record {
          after = a.after;
          more = mid.more ++ a.more;
          is = e ∙ a.is;
          stands = a.stands;
          nodes = a.nodes ∙ ap (λ (l : List rules.Node). l ++ a.more) mid.nodes ∙ append_assoc st.nodes mid.more a.more;
          below = a.below;
          kept = λ k lt l. a.kept k lt l ∙ mid.kept k lt l;
        };
        remembers = noted.remembers;
      }
  from_here w' held' (Refused k) e a = e ∙ a

  -- the turn at member m
  turn : {m : ℕ} → m ≡ get_or mine i 0 → i < length mine → each (negate_by f) mine st
      ≡ bind (bind (negate_by f m mid.now) (λ y z. bind (each (negate_by f) (drop (suc i) mine) z) (λ xs. give (y ∷ xs)))) (λ zs. give (part held h i ++ zs))
  turn e lt =
      mid.is
      ∙ ap (λ (l : List ℕ). bind (each (negate_by f) l mid.now) (λ zs. give (part held h i ++ zs)))
      (drop-cons mine i 0 lt ∙ ap (λ (v : ℕ). v ∷ drop (suc i) mine) (sym e))

  turn_refused : {m k : ℕ} → m ≡ get_or mine i 0 → i < length mine → negate_by f m mid.now ≡ no k → each (negate_by f) mine st ≡ no k
  turn_refused e lt g =
      turn e lt
      ∙ ap (λ (o : Out ℕ). bind (bind o (λ y z. bind (each (negate_by f) (drop (suc i) mine) z) (λ xs. give (y ∷ xs)))) (λ zs. give (part held h i ++ zs))) g

  midway_more : {m deep y p : ℕ} {w' held' held'' : List ℕ} {q' : Pass} → m ≡ get_or mine i 0 → i < length mine → deep ≡ h + length mine
      → NegationNoted (negate_by f m mid.now) mid.now w' q' deep top held held' y → length held' ≡ length held → p ≡ h + i → held'' ≡ set held' p y
      → Midway f top st w' q' held₀ held'' h x (i + 1)
  midway_more {m} {deep} {y} {p} {w'} {held'} {held''} {q'} e lt d noted long' place put =
      let a = noted.negation in
      let low = n.behind in
      let fit : h + i < length held' = omega (arith, n.room) in
      let put' : held'' ≡ set held' (h + i) y = put ∙ ap (λ (v : ℕ). set held' v y) place in
      let other : (k : ℕ) → k < h → cell held'' k ≡ cell held' k =
      λ k l. ap (λ (v : List ℕ). cell v k) put' ∙ get_or-set_other held' (h + i) k y 0 (λ z. omega arith) in
      let parts : part held'' h (i + 1) ≡ part held h i ++ (y ∷ []) =
      ap (part held'' h) (add-one i) ∙ ap (λ (v : List ℕ). part v h (suc i)) put' ∙ part_set_snoc held' h i y fit
      ∙ ap (λ (l : List ℕ). l ++ (y ∷ []))
      (run_ext (cell held') (cell held) h i (λ k b c. a.kept k (omega arith) (λ z. omega arith))) in
      record {
        now = a.after;
        more = mid.more ++ a.more;
        stands = a.stands;
        nodes = a.nodes ∙ ap (λ (l : List rules.Node). l ++ a.more) mid.nodes ∙ append_assoc st.nodes mid.more a.more;
        kept = λ k l b. other k l ∙ a.kept k (omega arith) b ∙ mid.kept k l b;
        few = omega arith;
        gathered =
            subst (Under (length a.after.nodes)) (sym parts)
            (under_both (length a.after.nodes) (part held h i) (y ∷ [])
            (under_most (length mid.now.nodes) (length a.after.nodes) (part held h i) (omega (arith, ap length a.nodes, length-append mid.now.nodes a.more)) mid.gathered)
            (a.below, tt));
        remembers = remembers_same noted.remembers (λ k l. other (negated_at + k) (omega (arith, noted.remembers.known)));
        is =
            turn e lt
            ∙ ap (λ (o : Out ℕ). bind (bind o (λ y z. bind (each (negate_by f) (drop (suc i) mine) z) (λ xs. give (y ∷ xs)))) (λ zs. give (part held h i ++ zs))) a.is
            ∙ bind_more (part held h i) (y ∷ []) (each (negate_by f) (drop (suc i) mine) a.after)
            ∙ ap₂ (λ (l : List ℕ) (j : ℕ). bind (each (negate_by f) (drop j mine) a.after) (λ zs. give (l ++ zs))) (sym parts) (sym (add-one i));
      }

-- the loop, turn by turn
module _ {w₀ held₀ w held : List ℕ} {h x n i : ℕ} {q₀ q : Pass} (count : Count w₀ x n) (many : n ≡ 0 → ⊥) (inv : Negating w₀ held₀ h q₀ x w held q i) where
  counted : {st : State} → Negatable st w₀ q₀ held₀ h x → n ≡ length (members (node_at st.nodes x))
  counted b = count.is b.stands.arena b.known

  module _ {m : ℕ} (lt : i < n) (member : Member w x i m) where
    -- a member has a smaller number
    never : {st : State} {A : Type 0} (f top : ℕ) → x ≤ m → x < f → x < top → Negatable st w₀ q₀ held₀ h x → Remembers st held₀ top → A
    never zero top le l t b mem = absurd (not-suc-le-zero l)
    never (suc f) top le l t b mem = let z = counted b in absurd (omega (arith, member_below b (inv.is f top (omega arith) t b mem) inv.cells member (omega arith)))

    pub negates_never : {w' held' : List ℕ} {r : Given} → x ≤ m → Negates w₀ held₀ h q₀ x w' held' r
    negates_never le = record { is = λ f top l t b mem. never f top le l (t (has_members count many b)) b mem }

    module _ {deep : ℕ} {w' held' : List ℕ} {r : Given} (less : m < x) (sum : Sum h n deep) (call : Negates w held deep q m w' held' r) where
      -- what the call gives for the member
      called : {st : State} (f top : ℕ) → x ≤ f → x < top → (b : Negatable st w₀ q₀ held₀ h x) (mid : Midway f top st w q held₀ held h x i)
          → AnswersNoted (negate_by f m mid.now) mid.now w' deep top held held' r
      called f top le t b mid =
          call.is f top (omega arith) (λ z. omega arith) (negatable_member b mid inv.cells less (subst (λ (j : ℕ). Sum h j deep) (counted b) sum)) mid.remembers

      pub negating_more : {y p : ℕ} {held'' : List ℕ} {q' : Pass} → r ≡ Node y q' → length held' ≡ length held → p ≡ h + i → held'' ≡ set held' p y
          → Negating w₀ held₀ h q₀ x w' held'' q' (i + 1)
      negating_more {y} {p} {held''} e lh place put =
          record {
            cells = ap length put ∙ length-set held' p y ∙ lh ∙ inv.cells;
            is = λ {st} f top le t b mem.
                let mid = inv.is f top le t b mem in
                let z = counted b in
                midway_more b mid inv.cells (member_is b mid inv.cells member (omega arith)) (omega arith) (sum.is (omega (arith, b.small)) ∙ ap (λ (j : ℕ). h + j) z)
                (subst (λ (o : Given). AnswersNoted (negate_by f m mid.now) mid.now w' deep top held held' o) e (called f top le t b mid))
                lh place put;
          }

      refused_at : {st : State} {j : ℕ} → r ≡ Refused j → (f top : ℕ) → x < f → x < top → Negatable st w₀ q₀ held₀ h x → Remembers st held₀ top → negate_by f x st ≡ no j
      refused_at e zero top l t b mem = absurd (not-suc-le-zero l)
      refused_at {st} {j} e (suc f) top l t b mem =
          let le : x ≤ f = omega arith in
          let mid = inv.is f top le t b mem in
          let z = counted b in
          let node = node_at st.nodes x in
          let g = subst (λ (o : Given). AnswersNoted (negate_by f m mid.now) mid.now w' deep top held held' o) e (called f top le t b mid) in
          turned_over (negate_by f) x node st (no_neg node (has_members count many b))
          ∙ ap (λ (o : Out (List ℕ)). bind o (λ xs. store (turned_node xs x (kind_of node))))
          (turn_refused b mid inv.cells (member_is b mid inv.cells member (omega arith)) (omega arith) g)

      pub negates_refused : {j : ℕ} → r ≡ Refused j → Negates w₀ held₀ h q₀ x w' held' (Refused j)
      negates_refused e = record { is = λ f top l t b mem. refused_at e f top l (t (has_members count many b)) b mem }

-- all members are negated, and the node that they make is stored
module _ {w₀ held₀ w held w' : List ℕ} {h x n i : ℕ} {q₀ q : Pass} {r : Given} (count : Count w₀ x n) (many : n ≡ 0 → ⊥) (before : Negating w₀ held₀ h q₀ x w held q i)
    (all : n ≤ i) (most : i ≤ n) {held' : List ℕ} (done : Completes w held h q x w' held' r) where
  inv : Negating w₀ held₀ h q₀ x w held q n
  inv = let e : i ≡ n = omega arith in subst (Negating w₀ held₀ h q₀ x w held q) e before

  done_at : {st : State} (f top : ℕ) → x < f → x < top → Negatable st w₀ q₀ held₀ h x → Remembers st held₀ top → AnswersNoted (negate_by f x st) st w' h top held₀ held r
  done_at zero top l t b mem = absurd (not-suc-le-zero l)
  done_at {st} (suc f) top l t b mem =
      let mid = inv.is f top (omega arith) t b mem in
      let z = count.is b.stands.arena b.known in
      let node = node_at st.nodes x in
      let xs = part held h n in
      let e = z ∙ ap (λ (m : rules.Node). length (members m)) (sym (node_same b mid inv.cells)) in
      let made = turned_node xs x (kind_of (node_at mid.now.nodes x)) in
      let gone : drop n (members node) ≡ [] = drop_of_length-le (members node) {i = n} (omega arith) in
      from_here b mid inv.cells w' held r
      (turned_over (negate_by f) x node st (no_neg node (has_members count many b))
      ∙ ap (λ (o : Out (List ℕ)). bind o (λ xs. store (turned_node xs x (kind_of node))))
      (mid.is ∙ ap (λ (v : List ℕ). bind (each (negate_by f) v mid.now) (λ zs. give (xs ++ zs))) gone ∙ ap (λ (v : List ℕ). ok v mid.now) (append-nil xs))
      ∙ ap (λ (v : rules.Node). store (turned_node xs x (kind_of v)) mid.now) (sym (node_same b mid inv.cells)))
      (noted_by h mid.remembers (λ y st' o. let k = store_keeps made mid.now y st' o in record { more = k.grows.more; nodes = k.grows.nodes }) r
      (subst (λ (j : ℕ). Answers (store (turned_node (part held h j) x (kind_of (node_at mid.now.nodes x))) mid.now) w' r) (sym e)
      (done.stored.is mid.stands (known b mid inv.cells) (subst (λ (j : ℕ). Under (length mid.now.nodes) (part held h j)) e mid.gathered))))

  noting : {st : State} (v : Given) → Notes held x v held' → (f top : ℕ) → x < f → x < top → Negatable st w₀ q₀ held₀ h x → Remembers st held₀ top
      → AnswersNoted (negate_by f x st) st w' h top held₀ held v → AnswersNoted (negate_by f x st) st w' h top held₀ held' v
  noting (Node y q') note f top l t b mem a = noted_more b mem (omega (arith, b.behind, b.room, before.cells)) f l t a note
  noting (Refused k) note f top l t b mem a = a

  pub negates_done : Negates w₀ held₀ h q₀ x w' held' r
  negates_done =
      record {
        is = λ f top l t b mem.
            let t' = t (has_members count many b) in
            noting r done.noted f top l t' b mem (done_at f top l t' b mem);
      }

-- the answer, whatever is remembered
alone : (o : Out ℕ) (st : State) (w : List ℕ) (h top : ℕ) (held held1 held' : List ℕ) (r : Given) → ((k : ℕ) → (negated_at ≤ k → held_at ≤ k) → cell held1 k ≡ cell held k)
    → AnswersNoted o st w h top held1 held' r → AnswersGiven o st w h held held' r
alone o st w h top held held1 held' (Node y q) same a =
    let z = a.negation in
    record {
      after = z.after;
      more = z.more;
      is = z.is;
      stands = z.stands;
      nodes = z.nodes;
      below = z.below;
      kept = λ k lt l. z.kept k lt l ∙ same k (λ c. l (omega arith));
    }
alone o st w h top held held1 held' (Refused k) same a = a

-- `negate_output_ty`: nothing is remembered at first
module _ {w held held1 w' held' : List ℕ} {h x : ℕ} {q : Pass} {r : Given} (forgot : Forgets w held x held1) (long : length held1 ≡ length held)
    (call : Negates w held1 h q x w' held' r) where
  module _ {st : State} (n : Negatable st w q held h x) where
    forgotten : Forgotten st.nodes held x held1
    forgotten = forgot.is n.stands.arena n.known

    given_by : (top : ℕ) → (0 < length (members (node_at st.nodes x)) → x < top) → Remembers st held1 top → AnswersGiven (negate_by (suc x) x st) st w' h held held' r
    given_by top t mem =
        alone (negate_by (suc x) x st) st w' h top held held1 held' r forgotten.kept
        (call.is (suc x) top (omega arith) t (record { stands = n.stands; known = n.known; behind = n.behind; room = omega (arith, n.room); small = n.small }) mem)

    -- a node without members looks at nothing that is remembered, and another finds nothing
    given : AnswersGiven (negate_by (suc x) x st) st w' h held held' r
    given =
        ⊎_elim
        (λ z. given_by 0 (λ l. absurd (omega arith)) (record { known = omega arith; is = λ k y lt c. absurd (not-suc-le-zero lt) }))
        (λ z. given_by (suc x) (λ l. omega arith)
        (record { known = omega (arith, n.known); is = λ k y lt c. absurd (omega (arith, forgotten.none z k (omega arith))) }))
        (eq-zero-or-pos (length (members (node_at st.nodes x))))

  pub output_given : NegatesOutput w held h q x w' held' r
  unfolding negate_output_ty
  output_given = record { is = given }
