-- Answers flattened, without fillers, and settled as a node. Assumes nothing.
use Rattle.std.specs.Prelude.{Option, Some, None}
use mathlib.Core.Path.{◌≡◌, refl, sym, ap, ◌∙◌, subst}
use mathlib.Core.Bool.{Bool, true, false, not}
use mathlib.Core.Logic.{⊎_elim}
use Prim.Native.Nat.{ℕ, suc, ◌-◌, ◌≤◌, ◌<◌}
use native.Mathlib.Nat.{eq-zero-or-pos}
use native.Mathlib.Omega.{arith}
use mathlib.Core.List.{List, [], ◌∷◌}
use lib.ListN.{length}
use lib.Dec.{ltb}
use borrow.Author.Tests.{lt-ltb, le-ltb}
use Rattle.cells.specs.Part.{if, cell, part}
use Rattle.cells.proofs.Holding.{holds_head}
use Rattle.layout.specs.Layout.{preserved_at}
use Rattle.rules.specs.Plain.{empty}
use Rattle.rules.specs.Ceilings.{most_members}
use Rattle.rules.specs.Types.{Node, Union, Intersection, Bottom, Top, State, Out, ok, no, Run, bind, ◌>>=◌, give, refuse, store, limit}
use Rattle.rules.specs.Members.{flatten_composite, remove_tautological_pairs, absorb_subsumed_union_members}
use Rattle.rules.specs.Canonicalizer.{flattened, concrete_of, settle, top_if_emptied, union_normalized, first_member}
use Rattle.rules.specs.Canonicalizer as runs
use Rattle.rules.specs.declared.Polarity.{Polarity}
use Rattle.rules.specs.declared.Polarity.TheVariants.{Positive, Negative}
use Rattle.lang_ty.specs.declared.arena.Pass.{Pass}
use Rattle.lang_ty.specs.Given.{Given}
use Rattle.lang_ty.specs.Given.{Node as NodeG, Refused as RefusedG}
use Rattle.lang_ty.specs.Nodes.{Stands, Stored, Lists as ListNode, Listed as ListedNode, Answers as Stores}
use Rattle.storage.specs.declared.given.Canon.{Canon}
use Rattle.members.specs.declared.lists.Members.{Members}
use Rattle.members.specs.Flow.{Flow}
use Rattle.members.specs.Flow.{On, Refused}
use Rattle.members.specs.Listed.{Listed}
use Rattle.members.specs.Lists.{Few, Lists, Taken, Makes, Gives, AnswersFlow, Answers, stays, sift, DropsFillers}
use Rattle.members.specs.Flattens.{Spreads}
use Rattle.members.proofs.Gathered.{wraps_union, wraps_intersection, taken_list}
use Rattle.composites.specs.Settled.{Settled}
use Rattle.composites.specs.Settled.{Node as NodeS, Empty as EmptyS, Refused as RefusedS}
use Rattle.composites.specs.Places.{GivenTo, Held, HeldFlow, FirstIs, Settles, union_end, UnionOf}
use Rattle.composites.specs.Lists.{Flattens, WithoutFillers, union_members, TopIfEmptied, SettlesList, AsSettled, SettlesListed, FirstOrBottom, OrFirst, FirstMember, SettlesUnion}
use Rattle.cells.specs.Placed.{Under}

-- two steps after another
pub bind_both : {A B C : Type 0} (o : Out A) (f : A → Run B) (g : B → Run C) → bind o (λ a. f a >>= g) ≡ bind (bind o f) g
bind_both (ok a s) f g = refl
bind_both (no k) f g = refl

pub bind_of : {A B : Type 0} {o p : Out A} (f : A → Run B) → o ≡ p → bind o f ≡ bind p f
bind_of f e = ap (λ o. bind o f) e

-- equal outcomes have the same answers
abbrev pub Way : Type 0
Way = (List ℕ → Run ℕ) → Out ℕ

pub settles_of : {f g : Way} {w : List ℕ} {r : Settled} → ((rest : List ℕ → Run ℕ) → f rest ≡ g rest) → Settles g w r → Settles f w r
settles_of {w = w} {r} e a = subst (λ (f : Way). Settles f w r) (sym (λ i rest. e rest i)) a

pub stores_of : {o p : Out ℕ} {w : List ℕ} {r : Given} → o ≡ p → Stores p w r → Stores o w r
stores_of {w = w} {r} e a = subst (λ (o : Out ℕ). Stores o w r) (sym e) a

pub answers_of : {o p : Out (List ℕ)} (w : List ℕ) (l : Listed) → o ≡ p → Answers p w l → Answers o w l
answers_of w l e a = subst (λ (o : Out (List ℕ)). Answers o w l) (sym e) a

-- a list by its flow
module _ (o : Out (List ℕ)) (w : List ℕ) (l : Listed) where
  pub goes_on : {q : Pass} → l.flow ≡ On q → Answers o w l → Gives o w l.members q
  goes_on e a = subst (λ (x : Flow). AnswersFlow o w l.members x) e a

  pub stops : {k : ℕ} → l.flow ≡ Refused k → Answers o w l → o ≡ no k
  stops e a = subst (λ (x : Flow). AnswersFlow o w l.members x) e a

  stopped : {k : ℕ} → l.flow ≡ Refused k → o ≡ no k → Answers o w l
  stopped f e = subst (λ (x : Flow). AnswersFlow o w l.members x) (sym f) e

pub taken_nodes : {st : State} {w : List ℕ} {q : Pass} {m : Members} {xs : List ℕ} → Stands st w q → Taken m xs (length st.nodes) → Taken m xs q.nodes
taken_nodes {m = m} {xs} on t = subst (λ (k : ℕ). Taken m xs k) on.arena.count t

-- the ways of `flattened`
limit_many : (xs : List ℕ) (st : State) → most_members < length xs → limit xs st ≡ no 7
unfolding limit
limit_many xs st h = ap (λ (b : Bool). if b (λ _. refuse 7) (λ _. give xs) st) (lt-ltb most_members (length xs) h)

limit_few : (xs : List ℕ) (st : State) → length xs ≤ most_members → limit xs st ≡ ok xs st
unfolding limit
limit_few xs st h = ap (λ (b : Bool). if b (λ _. refuse 7) (λ _. give xs) st) (le-ltb most_members (length xs) h)

flattened_few : (kind : ℕ) (xs : List ℕ) (st : State) → length xs ≤ most_members → flattened kind xs st ≡ limit (flatten_composite kind st.nodes xs) st
flattened_few kind xs st h = bind_of (λ ms s. limit (flatten_composite kind s.nodes ms) s) (limit_few xs st h)

lists_many : {m : Members} {xs : List ℕ} → Lists m xs → most_members < m.count → most_members < length xs
lists_many {xs = xs} l h = ⊎_elim (λ e. let c = (l.fit (omega arith)).count in absurd (omega arith)) (λ e. omega arith) (eq-zero-or-pos (length xs - most_members))

lists_few : {m : Members} {xs : List ℕ} → Lists m xs → m.count ≤ most_members → length xs ≤ most_members
lists_few {xs = xs} l h = ⊎_elim (λ e. omega arith) (λ e. let c = l.many (omega arith) in absurd (omega arith)) (eq-zero-or-pos (length xs - most_members))

module _ (kind : ℕ) {w work : List ℕ} {h n : ℕ} where
  flat_by : (f : Flow) {q : Pass} {r : Listed} → f ≡ On q → ((o : Out (List ℕ)) → Held o w work h n q → Answers (bind o (flattened kind)) w r) → Flattens kind w work h n f r
  flat_by f e g = record { is = λ o v. g o (subst (λ (x : Flow). HeldFlow o w work h n x) e v.is) }

  module _ {q : Pass} {a m : Members} (le : n ≤ most_members) (l : Lists a (part work h n)) (p : Spreads (flatten_composite kind) w a m) {o : Out (List ℕ)} (d : Held o w work h n q) where
    goes_in : Taken a d.list (length d.after.nodes)
    goes_in =
        let size = d.count in
        record { list = (subst (Lists a) (ap (part work h) size ∙ d.holds.is) l).fit (omega arith); below = d.below }

    comes_out : bind o (flattened kind) ≡ limit (flatten_composite kind d.after.nodes d.list) d.after
    comes_out = bind_of (flattened kind) d.is ∙ flattened_few kind d.list d.after (omega (arith, d.count))

    out_over : most_members < m.count → bind o (flattened kind) ≡ no 7
    out_over lt =
        comes_out ∙ limit_many (flatten_composite kind d.after.nodes d.list) d.after (lists_many (p.is d.stands.arena goes_in).list lt)

    out_on : m.count ≤ most_members → Gives (bind o (flattened kind)) w m q
    out_on few =
        let x = p.is d.stands.arena goes_in in
        let ys = flatten_composite kind d.after.nodes d.list in
        let short = lists_few x.list few in
        record {
          after = d.after;
          list = ys;
          is = comes_out ∙ limit_few ys d.after short;
          stands = d.stands;
          taken = record { list = x.list.fit short; below = x.below };
        }

module _ {kind : ℕ} {w work : List ℕ} {h n : ℕ} {f : Flow} where
  pub flat_refused : {k : ℕ} {r : Listed} → f ≡ Refused k → r.flow ≡ Refused k → Flattens kind w work h n f r
  flat_refused {k} {r} e z =
      record { is = λ o v. stopped (bind o (flattened kind)) w r z (bind_of (flattened kind) (subst (λ (x : Flow). HeldFlow o w work h n x) e v.is)) }

  pub flat_many : {q : Pass} {r : Listed} → f ≡ On q → most_members < n → r.flow ≡ Refused 7 → Flattens kind w work h n f r
  flat_many {r = r} e lt z =
      flat_by kind f e
      (λ o d.
      stopped (bind o (flattened kind)) w r z
      (bind_of (flattened kind) d.is
      ∙ bind_of (λ ms st. limit (flatten_composite kind st.nodes ms) st) (limit_many d.list d.after (omega (arith, d.count)))))

  pub flat_over : {q : Pass} {a m : Members} {r : Listed} → f ≡ On q → n ≤ most_members → Lists a (part work h n) → Spreads (flatten_composite kind) w a m → most_members < m.count
      → r.flow ≡ Refused 7 → Flattens kind w work h n f r
  flat_over {r = r} e le l p lt z = flat_by kind f e (λ o d. stopped (bind o (flattened kind)) w r z (out_over kind le l p d lt))

  pub flat_on : {q : Pass} {a m : Members} → f ≡ On q → n ≤ most_members → Lists a (part work h n) → Spreads (flatten_composite kind) w a m → m.count ≤ most_members
      → Flattens kind w work h n f (record { flow = On q; members = m })
  flat_on e le l p few = flat_by kind f e (λ o d. out_on kind le l p d few)

  -- a kind by its number
  pub flat_kind : {k : ℕ} {r : Listed} → kind ≡ k → Flattens kind w work h n f r → Flattens k w work h n f r
  flat_kind {r = r} e a = subst (λ (k : ℕ). Flattens k w work h n f r) e a

-- the ways of the steps
pub fillers_out : {table w : List ℕ} {c : Canon} {l : Listed} {m : Members} → DropsFillers table preserved_at c.count w l.members m
    → WithoutFillers table c w l (record { flow = l.flow; members = m })
fillers_out {table} {w} {c} {l} {m} z =
    record { is = λ {p} given. record { is = λ o a. by p given o l.flow a } } where
      by : (p : runs.Pass) → GivenTo p table c → (o : Out (List ℕ)) (f : Flow) → AnswersFlow o w l.members f → AnswersFlow (bind o (concrete_of p)) w m f
      by p given o (On q) a =
          record {
            after = a.after;
            list = sift (stays p) a.after.nodes a.list;
            is = bind_of (concrete_of p) a.is;
            stands = a.stands;
            taken = (z.is given.preserves).is a.stands.arena a.taken;
          }
      by p given o (Refused k) a = bind_of (concrete_of p) a

-- the ways of `union_normalized`
pub union_positive : {w : List ℕ} {pol : Polarity} {m a b : Members} → pol ≡ Positive → Makes remove_tautological_pairs w m a → Makes absorb_subsumed_union_members w a b
    → Makes (union_members pol) w m b
union_positive {w} {m = m} {b = b} e f g =
    subst (λ (x : Polarity). Makes (union_members x) w m b) (sym e) (record { is = λ h t. g.is h (f.is h t) })

pub union_negative : {w : List ℕ} {pol : Polarity} {m a : Members} → pol ≡ Negative → Makes absorb_subsumed_union_members w m a → Makes (union_members pol) w m a
union_negative {w} {m = m} {a} e f = subst (λ (x : Polarity). Makes (union_members x) w m a) (sym e) (record { is = λ h t. f.is h t })

-- the ways of `top_if_emptied`
some_there : (xs : List ℕ) → ltb 0 (length xs) ≡ not (empty xs)
some_there [] = refl
some_there (x ∷ xs) = lt-ltb 0 (suc (length xs)) (omega arith)

pub emptied_positive : {pol : Polarity} {m : Members} {r : Bool} → pol ≡ Positive → r ≡ ltb 0 m.count → TopIfEmptied pol m r
emptied_positive {m = m} {r} e f =
    subst (λ (x : Polarity). TopIfEmptied x m r) (sym e) (record { is = λ {xs} few. f ∙ ap (ltb 0) few.count ∙ some_there xs })

pub emptied_negative : {pol : Polarity} {m : Members} → pol ≡ Negative → TopIfEmptied pol m false
emptied_negative {m = m} e = subst (λ (x : Polarity). TopIfEmptied x m false) (sym e) (record { is = λ few. refl })

-- the ways of `as_settled`
pub settled_node : {g : Given} {x : ℕ} {q : Pass} → g ≡ NodeG x q → AsSettled g (NodeS x q)
settled_node e =
    record {
      is = λ o w a.
          let b = (subst (λ (y : Given). Stores o w y) e a).is in
          record { is = record { after = b.after; is = λ rest. b.is; stands = b.stands; below = b.below } };
    }

pub settled_refused : {g : Given} {k : ℕ} → g ≡ RefusedG k → AsSettled g (RefusedS k)
settled_refused e = record { is = λ o w a. record { is = λ rest. (subst (λ (y : Given). Stores o w y) e a).is } }

-- the ways of `settle`
pub stores_bottom : {st : State} {w w' : List ℕ} {q : Pass} {g : Given} → Stored (9 ∷ []) 0 w q w' g → Stands st w q → Stores (store Bottom st) w' g
stores_bottom h on = h.is on (record { cells = refl; few = omega arith; below = tt; ordered = tt; short = omega arith }) refl

stores_top : {st : State} {w w' : List ℕ} {q : Pass} {g : Given} → Stored (10 ∷ []) 0 w q w' g → Stands st w q → Stores (store Top st) w' g
stores_top h on = h.is on (record { cells = refl; few = omega arith; below = tt; ordered = tt; short = omega arith }) refl

settle_none : {m : Members} {k : ℕ} (b : Bool) (rest : Run ℕ) (wrap : List ℕ → Node) (xs : List ℕ) (st : State) → Taken m xs k → m.count ≡ 0
    → settle b rest wrap xs st ≡ if b (λ _. store Top) (λ _. rest) st
settle_none b rest wrap [] st t e = refl
settle_none b rest wrap (x ∷ xs) st t e = absurd (omega (arith, t.list.count))

settle_one : {m : Members} {k : ℕ} (b : Bool) (rest : Run ℕ) (wrap : List ℕ → Node) (xs : List ℕ) (st : State) → Taken m xs k → m.count ≡ 1
    → settle b rest wrap xs st ≡ ok (cell m.at 0) st
settle_one b rest wrap [] st t e = absurd (omega (arith, t.list.count))
settle_one b rest wrap (x ∷ []) st t e = ap (λ (y : ℕ). ok y st) (sym (holds_head t.list.holds))
settle_one b rest wrap (x ∷ y ∷ xs) st t e = absurd (omega (arith, t.list.count))

settle_more : {m : Members} {k : ℕ} (b : Bool) (rest : Run ℕ) (wrap : List ℕ → Node) (xs : List ℕ) (st : State) → Taken m xs k → (m.count ≡ 1 → ⊥) → (m.count ≡ 0 → ⊥)
    → settle b rest wrap xs st ≡ store (wrap xs) st
settle_more b rest wrap [] st t one none = absurd (none t.list.count)
settle_more b rest wrap (x ∷ []) st t one none = absurd (one t.list.count)
settle_more b rest wrap (x ∷ y ∷ xs) st t one none = refl

head_below : {m : Members} {k : ℕ} (xs : List ℕ) → Taken m xs k → m.count ≡ 1 → cell m.at 0 < k
head_below [] t e = absurd (omega (arith, t.list.count))
head_below (x ∷ xs) t e = let b = t.below.0 in omega (arith, holds_head t.list.holds)

module _ {kind : ℕ} {w : List ℕ} {q : Pass} {m : Members} {cancelled : Bool} {y : Option ℕ} where
  pub settle_sole : {x : ℕ} → m.count ≡ 1 → x ≡ cell m.at 0 → SettlesList kind w q m cancelled y w (NodeS x q)
  settle_sole {x} e f =
      record {
        is = λ {st} {xs} {wrap} ys wraps on t under first.
            record {
              is = record {
                after = st;
                is = λ rest. settle_one cancelled (rest ys) wrap xs st t e ∙ ap (λ (y : ℕ). ok y st) (sym f);
                stands = on;
                below = let b = head_below xs t e in omega (arith, on.arena.count);
              };
            };
      }

  pub settle_stored : {w' : List ℕ} {g : Given} {r : Settled} → (m.count ≡ 1 → ⊥) → (m.count ≡ 0 → ⊥) → ListedNode kind m.at 0 m.count w q w' g → AsSettled g r
      → SettlesList kind w q m cancelled y w' r
  settle_stored {w'} one none h z =
      record {
        is = λ {st} {xs} {wrap} ys wraps on t under first.
            settles_of (λ rest. settle_more cancelled (rest ys) wrap xs st t one none)
            (z.is (store (wrap xs) st) w' (h.is on (subst (λ (l : List ℕ). ListNode (wrap xs) kind l q.nodes) (sym (taken_list t)) (wraps.is xs t.below))));
      }

  pub settle_top : {w' : List ℕ} {g : Given} {r : Settled} → m.count ≡ 0 → cancelled ≡ true → Stored (10 ∷ []) 0 w q w' g → AsSettled g r
      → SettlesList kind w q m cancelled y w' r
  settle_top {w'} e f h z =
      record {
        is = λ {st} {xs} {wrap} ys wraps on t under first.
            settles_of (λ rest. settle_none cancelled (rest ys) wrap xs st t e ∙ ap (λ (b : Bool). if b (λ _. store Top) (λ _. rest ys) st) f)
            (z.is (store Top st) w' (stores_top h on));
      }

  pub settle_empty : m.count ≡ 0 → cancelled ≡ false → SettlesList kind w q m cancelled y w (EmptyS y q)
  settle_empty e f =
      record {
        is = λ {st} {xs} {wrap} ys wraps on t under first.
            record {
              is = record {
                after = st;
                list = ys;
                is = λ rest. settle_none cancelled (rest ys) wrap xs st t e ∙ ap (λ (b : Bool). if b (λ _. store Top) (λ _. rest ys) st) f;
                stands = on;
                below = under;
                first = first;
              };
            };
      }

-- the ways of `settle_listed`
module _ {w : List ℕ} {l : Listed} {cancelled : Bool} {y : Option ℕ} where
  pub listed_on : {q : Pass} {w' : List ℕ} {r : Settled} → l.flow ≡ On q → SettlesList 6 w q l.members cancelled y w' r → SettlesListed w l cancelled y w' r
  listed_on e z =
      record {
        is = λ o ys a leads.
            let g = goes_on o w l e a in
            settles_of (λ rest. bind_of (settle cancelled (rest ys) Intersection) g.is)
            (z.is ys wraps_intersection g.stands (taken_nodes g.stands g.taken) (leads.below g.list g.after g.is) (leads.first g.list g.after g.is));
      }

  pub listed_off : {k : ℕ} → l.flow ≡ Refused k → SettlesListed w l cancelled y w (RefusedS k)
  listed_off e = record { is = λ o ys a leads. record { is = λ rest. bind_of (settle cancelled (rest ys) Intersection) (stops o w l e a) } }

-- the ways of `first_or_bottom`
first_node : {st : State} {w : List ℕ} {q : Pass} {y : Option ℕ} {x : ℕ} (ys : List ℕ) → y ≡ Some x → Stands st w q → Under (length st.nodes) ys → FirstIs ys y
    → Stores (first_member ys st) w (NodeG x q)
first_node [] e on under first = let z : ◌≡◌ {A = ℕ} 0 1 = cc in absurd (omega arith)
first_node {st} {x = x} (z ∷ ys) e on under first =
    let same : z ≡ x = cc in
    record { is = record { after = st; is = ap (λ (y : ℕ). ok y st) same; stands = on; below = subst (λ (y : ℕ). y < length st.nodes) same under.0 } }

first_bottom : {st : State} {w w' : List ℕ} {q : Pass} {y : Option ℕ} {g : Given} (ys : List ℕ) → y ≡ None → Stored (9 ∷ []) 0 w q w' g → Stands st w q → FirstIs ys y
    → Stores (first_member ys st) w' g
first_bottom [] e h on first = stores_bottom h on
first_bottom (z ∷ ys) e h on first = let z : ◌≡◌ {A = ℕ} 0 1 = cc in absurd (omega arith)

pub first_there : {w : List ℕ} {y : Option ℕ} {q : Pass} {x : ℕ} → y ≡ Some x → FirstOrBottom w y q w (NodeG x q)
first_there e = record { is = λ ys on under first. first_node ys e on under first }

pub first_none : {w w' : List ℕ} {y : Option ℕ} {q : Pass} {g : Given} → y ≡ None → Stored (9 ∷ []) 0 w q w' g → FirstOrBottom w y q w' g
first_none e h = record { is = λ ys on under first. first_bottom ys e h on first }

-- the ways of `or_first`
pub or_node : {w : List ℕ} {z : Settled} {x : ℕ} {q : Pass} → z ≡ NodeS x q → OrFirst w z w (NodeG x q)
or_node {w} e =
    record {
      is = λ f a.
          let b = (subst (λ (r : Settled). Settles f w r) e a).is in
          record { is = record { after = b.after; is = b.is first_member; stands = b.stands; below = b.below } };
    }

pub or_empty : {w w' : List ℕ} {z : Settled} {y : Option ℕ} {q : Pass} {g : Given} → z ≡ EmptyS y q → FirstOrBottom w y q w' g → OrFirst w z w' g
or_empty {w} e h =
    record {
      is = λ f a.
          let b = (subst (λ (r : Settled). Settles f w r) e a).is in
          stores_of (b.is first_member) (h.is b.list b.stands b.below b.first);
    }

pub or_refused : {w : List ℕ} {z : Settled} {k : ℕ} → z ≡ RefusedS k → OrFirst w z w (RefusedG k)
or_refused {w} e = record { is = λ f a. record { is = (subst (λ (r : Settled). Settles f w r) e a).is first_member } }

-- the ways of `first_of`
first_is_none : {m : Members} (xs : List ℕ) → Few m xs → m.count ≡ 0 → FirstIs xs None
first_is_none [] few e = refl
first_is_none (x ∷ xs) few e = absurd (omega (arith, few.count))

first_is_head : {m : Members} {x : ℕ} (xs : List ℕ) → Few m xs → (m.count ≡ 0 → ⊥) → x ≡ cell m.at 0 → FirstIs xs (Some x)
first_is_head [] few e f = absurd (e few.count)
first_is_head (x ∷ xs) few e f = ap Some (f ∙ holds_head few.holds)

pub first_nowhere : {m : Members} → m.count ≡ 0 → FirstMember m None
first_nowhere e = record { is = λ {xs} few. first_is_none xs few e }

pub first_at : {m : Members} {x : ℕ} → (m.count ≡ 0 → ⊥) → x ≡ cell m.at 0 → FirstMember m (Some x)
first_at e f = record { is = λ {xs} few. first_is_head xs few e f }

-- the ways of `settle_union`
union_step : (pol : Polarity) (ms : List ℕ) (st : State) (k : List ℕ → Run ℕ) → bind (union_normalized pol ms st) k ≡ k (union_members pol st.nodes ms) st
union_step Positive ms st k = refl
union_step Negative ms st k = refl

abbrev union_rest : runs.Pass → Polarity → (List ℕ → Run ℕ) → List ℕ → Run ℕ
union_rest p pol rest ys = do
  ms ← concrete_of p ys
  zs ← union_normalized pol ms
  settle (top_if_emptied pol ms) (rest ys) Union zs

module _ {table w work : List ℕ} {c : Canon} {h n : ℕ} {f : Flow} {pol : Polarity} {all : Listed} where
  pub union_on : {q : Pass} {m a : Members} {b : Bool} {y : Option ℕ} {w' : List ℕ} {r : Settled} → Flattens 5 w work h n f all → all.flow ≡ On q
      → DropsFillers table preserved_at c.count w all.members m → Makes (union_members pol) w m a → TopIfEmptied pol m b → FirstMember all.members y
      → SettlesList 5 w q a b y w' r → SettlesUnion table c w work h n f pol w' r
  union_on flat e conc makes top first z =
      record {
        is = λ {p} o given v.
            let g = goes_on (bind o (flattened 5)) w all e (flat.is o v) in
            let st = g.after in
            let ys = g.list in
            let tm = (conc.is given.preserves).is g.stands.arena g.taken in
            let ms = sift (stays p) st.nodes ys in
            let zs = union_members pol st.nodes ms in
            settles_of
            (λ rest.
            bind_both o (flattened 5) (union_rest p pol rest)
            ∙ bind_of (union_rest p pol rest) g.is
            ∙ union_step pol ms st (settle (top_if_emptied pol ms) (rest ys) Union)
            ∙ ap (λ (b : Bool). settle b (rest ys) Union zs st) (sym (top.is tm.list)))
            (z.is ys wraps_union g.stands (taken_nodes g.stands (makes.is g.stands.arena tm)) g.taken.below (first.is g.taken.list));
      }

  pub union_off : {k : ℕ} → Flattens 5 w work h n f all → all.flow ≡ Refused k → SettlesUnion table c w work h n f pol w (RefusedS k)
  union_off flat e =
      record {
        is = λ {p} o given v.
            record {
              is = λ rest.
                  bind_both o (flattened 5) (union_rest p pol rest)
                  ∙ bind_of (union_rest p pol rest) (stops (bind o (flattened 5)) w all e (flat.is o v));
            };
      }

-- `union_of`
pub union_of_is : {table w work w' w'' : List ℕ} {c : Canon} {h : ℕ} {q : Pass} {pol : Polarity} {z : Settled} {g : Given}
    → SettlesUnion table c w work h 2 (On q) pol w' z → OrFirst w' z w'' g → UnionOf table c w work h q pol w'' g
union_of_is {pol = pol} u f = record { is = λ {p} o given v. f.is (λ rest. bind o (λ xs. union_end p pol xs rest)) (u.is o given v) }
