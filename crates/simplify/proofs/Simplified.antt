-- What the negations among the members spare of unions: the members spared, each member simplified, and the whole. Assumes nothing.
use mathlib.Core.Path.{◌≡◌, refl, sym, ap, ap₂, ◌∙◌, subst}
use mathlib.Core.Bool.{Bool, true, false, not}
use Prim.Native.Nat.{ℕ, ◌+◌, ◌≤◌, ◌<◌}
use native.Mathlib.Omega.{arith}
use mathlib.Core.List.{List, [], ◌∷◌, ◌++◌}
use lib.ListN.{length, get_or}
use lib.Dec.{eqb}
use borrow.Author.Tests.{not-true, not-false}
use Rattle.cells.specs.Part.{cell, if}
use Rattle.rules.specs.Plain.{any, filter, empty}
use Rattle.rules.specs.Types.{Node, TyVar, Primitive, ListOf, Lambda, AttrSet, Union, Intersection, Named, Neg, Bottom, Top, State, Out, Run, bind, ◌>>=◌, give, ask, kind_of, node_at, is}
use Rattle.rules.specs.Members.{inner_of, negated_inners, spared, sole, simplify_one, simplify_each, takes_some, remove_redundant_negations}
use Rattle.rules.specs.Members.{simplify_union_neg_intersection}
use Rattle.laws.proofs.Keeping.{bind_none, Later, later_node, later_under, keeps_if, keeps_give, keeps_union}
use Rattle.lang_ty.specs.declared.arena.Pass.{Pass}
use Rattle.lang_ty.specs.Nodes.{Stands, Is}
use Rattle.members.specs.declared.lists.Members.{Members}
use Rattle.members.specs.Flow.{Flow}
use Rattle.members.specs.Flow.{On, Refused}
use Rattle.members.specs.Listed.{Listed}
use Rattle.members.specs.AtMostOne.{AtMostOne}
use Rattle.members.specs.Grown.{Grown as GrownBy}
use Rattle.members.specs.Grown.{On as OnG, Refused as RefusedG}
use Rattle.members.specs.Lists.{Taken, Makes, Tests, Runs, Soles, Grows, MembersOf, Sifts, AnswersFlow, AnswersPart, AnswersGrown, any_of_kind, of_kind, sift, first_of}
use Rattle.simplify.specs.Asked.{Spares, negated, takes}
use Rattle.simplify.proofs.Asking.{AnyBeside, denied}
use Rattle.simplify.specs.Intersections.{Simplifies, SimplifiesInto, SimplifiesAll}
use Rattle.members.proofs.Gathered.{few_at, few_below, gathered_few, wraps_union}
use Rattle.members.proofs.Partway.{Loops, Partway, partway_more, partway_no, partway_done}
use Rattle.simplify.proofs.Cancelled.{inners_kept}
use Rattle.cells.specs.Placed.{Under}

-- `spared`
pub spares_is : {w ms : List ℕ} {n x : ℕ} {m r : Members} → MembersOf w x m → Sifts (denied negated) w ms n m r → Spares w ms n x r
spares_is a g = record { is = λ h t lt. g.is h t (a.is h lt) }

-- `simplified`
abbrev simple : List ℕ → State → ℕ → Bool → Out (List ℕ)
simple negs st x b = (if b (λ _. sole Union (spared st.nodes negs x)) (λ _. give (x ∷ []))) st

module _ {w : List ℕ} {g : Members} {q : Pass} {x : ℕ} {b : Bool} (union : Is w 5 x b) where
  pub simplified_sole : {m : Members} {w' : List ℕ} {r : AtMostOne} → not b ≡ false → Spares w g.at g.count x m → Soles 5 w q m w' r → Simplifies w q g x w' r
  simplified_sole {m} {w'} {r} e some sole =
      record {
        is = λ {st} {xs} on t lt.
            let rest = spared st.nodes (negated_inners st.nodes xs) x in
            subst (λ (o : Out (List ℕ)). AnswersPart o w' r)
            (sym (ap (simple (negated_inners st.nodes xs) st x) (sym (union.is on.arena lt) ∙ not-false b e)))
            (sole.is wraps_union on (subst (λ (k : ℕ). Taken m rest k) on.arena.count (some.is on.arena t lt)));
      }

-- the same, put after what was gathered
pub simplified_into : {w w' out out' : List ℕ} {g : Members} {q : Pass} {x k : ℕ} {p : AtMostOne} {r : GrownBy} → Simplifies w q g x w' p → Grows out k p out' r
    → SimplifiesInto w q g x out k w' out' r
simplified_into {w' = w'} {x = x} c g =
    record { is = λ {st} {xs} {got} on t lt a le. g.is (simplify_one (negated_inners st.nodes xs) x st) w' (c.is on t lt) a le }

-- what the negations hold stays the same
inners_stay : {st st' : State} → Later st st' → (xs : List ℕ) → Under (length st.nodes) xs → negated_inners st'.nodes xs ≡ negated_inners st.nodes xs
inners_stay g [] u = refl
inners_stay g (x ∷ xs) u = ap₂ (λ (n : Node) (l : List ℕ). inner_of n ++ l) (later_node g u.0) (inners_stay g xs u.1)

-- `simplify_each` at member i
simple_loops : (negs : List ℕ) → Loops (simplify_one negs) (simplify_each negs)
simple_loops negs =
    record {
      none = λ st. refl;
      more = λ x xs st. refl;
      keeps = λ x st. keeps_if (is st.nodes 5 x) _ _ (keeps_union (spared st.nodes negs x)) (keeps_give (x ∷ [])) st;
    }

pub record Simplifying (w₀ : List ℕ) (q₀ : Pass) (g m : Members) (w : List ℕ) (q : Pass) (out : List ℕ) (k i : ℕ) : Type 0 where
  pub few : i ≤ m.count
  pub is : {st : State} {xs ys : List ℕ} → Stands st w₀ q₀ → Taken g ys (length st.nodes) → Taken m xs q₀.nodes
      → Partway (simplify_each (negated_inners st.nodes ys)) xs st w q out k i

module _ {w₀ : List ℕ} {g m : Members} {q₀ : Pass} where
  module _ {w out : List ℕ} {q : Pass} {k i : ℕ} (inv : Simplifying w₀ q₀ g m w q out k i) where
    module _ {w' out' : List ℕ} {x : ℕ} (lt : i < m.count) (here : x ≡ cell m.at i) where
      -- what the call gives for the member
      called : {r : GrownBy} → SimplifiesInto w q g x out k w' out' r
          → {st : State} {xs ys : List ℕ} (on : Stands st w₀ q₀) (s : Taken g ys (length st.nodes)) (t : Taken m xs q₀.nodes)
          → AnswersGrown (simplify_one (negated_inners st.nodes ys) (get_or xs i 0) (inv.is on s t).now) w' (inv.is on s t).got out' r
      called {r} one {st} {xs} {ys} on s t =
          let p = inv.is on s t in
          let u : Under (length st.nodes) xs = subst (λ (j : ℕ). Under j xs) (sym on.arena.count) t.below in
          let low = few_below (record { list = t.list; below = later_under xs p.later u }) here lt in
          subst (λ (y : ℕ). AnswersGrown (simplify_one (negated_inners st.nodes ys) y p.now) w' p.got out' r) (few_at t.list here lt)
          (subst (λ (l : List ℕ). AnswersGrown (simplify_one l x p.now) w' p.got out' r) (inners_stay p.later ys s.below)
          (one.is p.stands (record { list = s.list; below = later_under ys p.later s.below }) low p.gathered
          (omega (arith, p.few, t.list.count, t.list.few))))

      pub simplifying_more : {k' : ℕ} {q' : Pass} → SimplifiesInto w q g x out k w' out' (OnG k' q') → Simplifying w₀ q₀ g m w' q' out' k' (i + 1)
      simplifying_more one =
          record {
            few = omega arith;
            is = λ {st} {xs} {ys} on s t.
                partway_more (simple_loops (negated_inners st.nodes ys)) (inv.is on s t) (omega (arith, t.list.count)) (called one on s t);
          }

      pub simplifying_refused : {why : ℕ} {l : Members} → SimplifiesInto w q g x out k w' out' (RefusedG why) → SimplifiesAll w₀ q₀ g m w' (record { flow = Refused why; members = l })
      simplifying_refused one =
          record { is = λ {st} {xs} {ys} on s t. partway_no (simple_loops (negated_inners st.nodes ys)) (inv.is on s t) (omega (arith, t.list.count)) (called one on s t) }

    pub simplifying_done : m.count ≤ i → SimplifiesAll w₀ q₀ g m w (record { flow = On q; members = first_of k out })
    simplifying_done le =
        record {
          is = λ {st} {xs} {ys} on s t.
              let p = inv.is on s t in
              record {
                after = p.now;
                list = p.got;
                is = partway_done (simple_loops (negated_inners st.nodes ys)) p (omega (arith, t.list.count));
                stands = p.stands;
                taken = record { list = gathered_few p.gathered (omega (arith, p.few, inv.few, t.list.count, t.list.few)); below = p.below };
              };
        }

-- there are negations where some member is one
inner_turn : (n : Node) (l : List ℕ) (b : Bool) → empty l ≡ not b → empty (inner_of n ++ l) ≡ not (if (eqb (kind_of n) 8) (λ _. true) (λ _. b))
inner_turn (TyVar a) l b h = h
inner_turn (Primitive c) l b h = h
inner_turn (ListOf a) l b h = h
inner_turn (Lambda a c) l b h = h
inner_turn (AttrSet t) l b h = h
inner_turn (Union ms) l b h = h
inner_turn (Intersection ms) l b h = h
inner_turn (Named m a) l b h = h
inner_turn (Neg a) l b h = refl
inner_turn Bottom l b h = h
inner_turn Top l b h = h

inners_none : (ns : List Node) (xs : List ℕ) → empty (negated_inners ns xs) ≡ not (any (is ns 8) xs)
inners_none ns [] = refl
inners_none ns (x ∷ xs) = inner_turn (node_at ns x) (negated_inners ns xs) (any (is ns 8) xs) (inners_none ns xs)

-- the ways of `simplify_union_neg_intersection`
abbrev changes : List Node → List ℕ → Bool
changes ns xs = any (takes ns xs) xs

abbrev simplify_all : List ℕ → Run (List ℕ)
simplify_all xs = λ st. simplify_each (negated_inners st.nodes xs) xs st

abbrev tidied : ℕ → List ℕ → Run (List ℕ)
tidied functor ys = ask (λ (ns : List Node). remove_redundant_negations functor ns (filter (λ (m : ℕ). not (is ns 9 m)) ys))

abbrev route : ℕ → List ℕ → State → Bool → Bool → Bool → Out (List ℕ)
route functor xs st a b c =
    (if a (λ _. give xs)
    (λ _. if (not b) (λ _. ask (λ (ns : List Node). remove_redundant_negations functor ns xs))
    (λ _. simplify_each (negated_inners st.nodes xs) xs >>= (λ ys. if c (λ _. tidied functor ys) (λ _. give ys))))) st

module _ (functor : ℕ) {w : List ℕ} {q : Pass} {m : Members} {a : Bool} (negs : Tests (any_of_kind 8) w m a) where
  here : {st : State} {xs : List ℕ} → Stands st w q → Taken m xs q.nodes → Taken m xs (length st.nodes)
  here {st} {xs} on t = subst (λ (k : ℕ). Taken m xs k) (sym on.arena.count) t

  way : {st : State} {xs : List ℕ} {b c : Bool} → Stands st w q → Taken m xs q.nodes → any (is st.nodes 5) xs ≡ b → changes st.nodes xs ≡ c
      → simplify_union_neg_intersection functor xs st ≡ route functor xs st (not a) b c
  unfolding simplify_union_neg_intersection
  way {st} {xs} on t e f =
      ap (λ (v : Bool). route functor xs st v (any (is st.nodes 5) xs) (changes st.nodes xs)) (inners_none st.nodes xs ∙ ap not (sym (negs.is on.arena (here on t))))
      ∙ ap₂ (route functor xs st (not a)) e f

  pub simplify_plain : not a ≡ true → Runs (simplify_union_neg_intersection functor) w q m w (record { flow = On q; members = m })
  simplify_plain e =
      record {
        is = λ {st} {xs} on t.
            record {
              after = st;
              list = xs;
              is = way on t refl refl ∙ ap (λ (v : Bool). route functor xs st v (any (is st.nodes 5) xs) (changes st.nodes xs)) e;
              stands = on;
              taken = here on t;
            };
      }

  module _ {b : Bool} (e : not a ≡ false) (unions : Tests (any_of_kind 5) w m b) where
    pub simplify_tidies : {r : Members} → not b ≡ true → Makes (remove_redundant_negations functor) w m r
        → Runs (simplify_union_neg_intersection functor) w q m w (record { flow = On q; members = r })
    simplify_tidies {r} f g =
        record {
          is = λ {st} {xs} on t.
              record {
                after = st;
                list = remove_redundant_negations functor st.nodes xs;
                is =
                    way on t (sym (unions.is on.arena (here on t)) ∙ not-true b f) refl
                    ∙ ap (λ (v : Bool). route functor xs st v false (changes st.nodes xs)) e;
                stands = on;
                taken = g.is on.arena (here on t);
              };
        }

    module _ {gs : Members} {c : Bool} {w' : List ℕ} {l : Listed} (f : not b ≡ false) (gathered : Makes (sift (of_kind 8 true)) w m gs)
        (taken : AnyBeside takes w m gs c) (all : SimplifiesAll w q gs m w' l) where
      -- by the Negs alone, and so by all members
      changed : Tests changes w m c
      changed = record { is = λ {q} {ns} {xs} h t. taken.is h t (gathered.is h t) ∙ ap (λ (l : List ℕ). any (takes_some ns l) xs) (inners_kept ns xs) }

      each : Runs simplify_all w q m w' l
      each =
          record {
            is = λ {st} {xs} on t.
                subst (λ (negs : List ℕ). AnswersFlow (simplify_each negs xs st) w' l.members l.flow) (inners_kept st.nodes xs)
                (all.is on (gathered.is on.arena (here on t)) t);
          }

      each_way : {st : State} {xs : List ℕ} {d : Bool} → Stands st w q → Taken m xs q.nodes → c ≡ d
          → simplify_union_neg_intersection functor xs st ≡ bind (simplify_all xs st) (λ ys. if d (λ _. tidied functor ys) (λ _. give ys))
      each_way {st} {xs} {d} on t z =
          way on t (sym (unions.is on.arena (here on t)) ∙ not-false b f) (sym (changed.is on.arena (here on t)) ∙ z)
          ∙ ap (λ (v : Bool). route functor xs st v true d) e

      pub simplify_same : not c ≡ true → Runs (simplify_union_neg_intersection functor) w q m w' l
      simplify_same g =
          record {
            is = λ {st} {xs} on t.
                subst (λ (o : Out (List ℕ)). AnswersFlow o w' l.members l.flow) (bind_none (simplify_all xs st) ∙ sym (each_way on t (not-true c g))) (each.is on t);
          }

      pub simplify_refused : {why : ℕ} {r : Members} → l.flow ≡ Refused why → Runs (simplify_union_neg_intersection functor) w q m w' (record { flow = Refused why; members = r })
      simplify_refused z =
          record {
            is = λ {st} {xs} on t.
                each_way on t refl
                ∙ ap (λ (o : Out (List ℕ)). bind o (λ ys. if c (λ _. tidied functor ys) (λ _. give ys)))
                (subst (λ (v : Flow). AnswersFlow (simplify_all xs st) w' l.members v) z (each.is on t));
          }

      module _ {some r : Members} (g : not c ≡ false) (left : Makes (sift (of_kind 9 false)) w' l.members some)
          (tidy : Makes (remove_redundant_negations functor) w' some r) where
        tidied_by : (o : Out (List ℕ)) (v : Flow) → AnswersFlow o w' l.members v → AnswersFlow (bind o (λ ys. tidied functor ys)) w' r v
        tidied_by o (On p) h =
            record {
              after = h.after;
              list = remove_redundant_negations functor h.after.nodes (filter (λ (m : ℕ). not (is h.after.nodes 9 m)) h.list);
              is = ap (λ (o : Out (List ℕ)). bind o (λ ys. tidied functor ys)) h.is;
              stands = h.stands;
              taken = tidy.is h.stands.arena (left.is h.stands.arena h.taken);
            }
        tidied_by o (Refused k) h = ap (λ (o : Out (List ℕ)). bind o (λ ys. tidied functor ys)) h

        pub simplify_changed : Runs (simplify_union_neg_intersection functor) w q m w' (record { flow = l.flow; members = r })
        simplify_changed =
            record {
              is = λ {st} {xs} on t.
                  subst (λ (o : Out (List ℕ)). AnswersFlow o w' r l.flow) (sym (each_way on t (not-false c g))) (tidied_by (simplify_all xs st) l.flow (each.is on t));
            }
