-- An intersection tried, after its visits. Assumes nothing.
use Rattle.std.specs.Prelude.{Option, None}
use mathlib.Core.Path.{◌≡◌, refl, sym, ap, ap₂, ◌∙◌, subst}
use mathlib.Core.Bool.{Bool, true, false}
use Prim.Native.Nat.{ℕ}
use native.Mathlib.Omega.{arith}
use mathlib.Core.List.{List, []}
use lib.ListN.{length}
use Rattle.cells.specs.Part.{if}
use Rattle.rules.specs.Types.{Intersection, State, Out, ok, no, Run, bind, ◌>>=◌}
use Rattle.rules.specs.Members.{merge_attrset_intersection, remove_tautological_pairs, remove_redundant_negations, has_type_contradiction, simplify_union_neg_intersection, factor_shared_from_intersection}
use Rattle.rules.specs.Canonicalizer.{flattened, concrete_of, settle, top_if_emptied, inter_normalized, inter_rest, first_member}
use Rattle.rules.specs.Canonicalizer as runs
use Rattle.rules.specs.declared.Polarity.{Polarity}
use Rattle.rules.specs.declared.Polarity.TheVariants.{Positive, Negative}
use Rattle.laws.proofs.Keeping.{refused_not, gave, keeps_flattened, keeps_concrete, keeps_simplify, keeps_factor, keeps_inter_normalized}
use Rattle.lang_ty.specs.declared.arena.Pass.{Pass}
use Rattle.lang_ty.specs.Given.{Given}
use Rattle.lang_ty.specs.Given.{Node as NodeG, Refused as RefusedG}
use Rattle.lang_ty.specs.Nodes.{Answers as Stores}
use Rattle.storage.specs.declared.given.Canon.{Canon}
use Rattle.members.specs.declared.lists.Members.{Members}
use Rattle.members.specs.Flow.{Flow}
use Rattle.members.specs.Flow.{On, Refused}
use Rattle.members.specs.Listed.{Listed}
use Rattle.members.specs.Lists.{Taken, Makes, Tests, Gives, Runs, AnswersFlow, Answers, stays, sift}
use Rattle.merge.specs.Merges.{MergesSets, Roomy}
use Rattle.composites.specs.Settled.{Settled}
use Rattle.composites.specs.declared.binary.Try.{Try}
use Rattle.composites.specs.declared.binary.Try.TheVariants.{First, Again}
use Rattle.composites.specs.Tried.{Tried}
use Rattle.composites.specs.Tried.{Node as NodeT, Contradiction as ContradictionT, Refused as RefusedT}
use Rattle.composites.specs.Places.{Visited, FirstIs, Tries, TriesInter}
use Rattle.composites.specs.Lists.{Soundly, Leads, Steps, Flattens, WithoutFillers, TopIfEmptied, AsTried, SettlesListed, OrFirst, FirstMember, NormalizesInter}
use Rattle.composites.specs.Lists.{inter_end, SettlesInter, RestsInter, TriesMembers, FirstTried, inter_tested, ChecksInter}
use Rattle.composites.proofs.Settled.{bind_both, bind_of, Way, stores_of, answers_of, goes_on, stops, taken_nodes, listed_off, or_refused, first_nowhere}
use Rattle.composites.proofs.NormalBounds.{soundly_step, leads_step, leads_now, visited_soundly}

tries_of : {f g : Way} {w : List ℕ} {r : Tried} → ((rest : List ℕ → Run ℕ) → f rest ≡ g rest) → Tries g w r → Tries f w r
tries_of {w = w} {r} e a = subst (λ (f : Way). Tries f w r) (sym (λ i rest. e rest i)) a

-- the ways of `inter_normalized`
module _ {c : Canon} {w work : List ℕ} {h : ℕ} {q : Pass} {m : Members} {pol : Polarity} where
  pub normalized_up : {a b : Members} → pol ≡ Positive → Makes (remove_redundant_negations c.functor) w m a → Makes remove_tautological_pairs w a b
      → NormalizesInter c w work h q m pol w work (record { flow = On q; members = b })
  normalized_up {a} {b} e f g =
      subst (λ (x : Polarity). NormalizesInter c w work h q m x w work (record { flow = On q; members = b })) (sym e)
      (record {
        kept = λ k lt. refl;
        is = λ p {st} {xs} same sound on t roomy.
            record {
              after = st;
              list = remove_tautological_pairs st.nodes (remove_redundant_negations c.functor st.nodes xs);
              is = ap (λ (k : ℕ). ok (remove_tautological_pairs st.nodes (remove_redundant_negations k st.nodes xs)) st) same;
              stands = on;
              taken = g.is on.arena (f.is on.arena (subst (λ (k : ℕ). Taken m xs k) (sym on.arena.count) t));
            };
      })

  pub normalized_down : {w' work' : List ℕ} {l : Listed} {a : Members} → pol ≡ Negative → MergesSets w work h q m w' work' l
      → Makes (remove_redundant_negations c.functor) w' l.members a → NormalizesInter c w work h q m pol w' work' (record { flow = l.flow; members = a })
  normalized_down {w'} {work'} {l} {a} e z f =
      subst (λ (x : Polarity). NormalizesInter c w work h q m x w' work' (record { flow = l.flow; members = a })) (sym e)
      (record { kept = z.kept; is = λ p same sound on t roomy. by p same _ l.flow (z.is sound on t roomy) }) where
        redundant : ℕ → List ℕ → Run (List ℕ)
        redundant k one = λ st. ok (remove_redundant_negations k st.nodes one) st

        by : (p : runs.Pass) → p.functor ≡ c.functor → (o : Out (List ℕ)) (x : Flow) → AnswersFlow o w' l.members x → AnswersFlow (bind o (redundant p.functor)) w' a x
        by p same o (On q) g =
            record {
              after = g.after;
              list = remove_redundant_negations c.functor g.after.nodes g.list;
              is = bind_of (redundant p.functor) g.is ∙ ap (λ (k : ℕ). ok (remove_redundant_negations k g.after.nodes g.list) g.after) same;
              stands = g.stands;
              taken = f.is g.stands.arena g.taken;
            }
        by p same o (Refused k) g = bind_of (redundant p.functor) g

pub normalized_refused : {c : Canon} {w work w' work' : List ℕ} {h k : ℕ} {q : Pass} {m : Members} {pol : Polarity} {l : Listed} → pol ≡ Negative
    → MergesSets w work h q m w' work' l → l.flow ≡ Refused k → NormalizesInter c w work h q m pol w' work' l
normalized_refused {c} {w} {work} {w'} {work'} {h} {k} {q} {m} {l = l} e z g =
    subst (λ (x : Polarity). NormalizesInter c w work h q m x w' work' l) (sym e)
    (record {
      kept = z.kept;
      is = λ p {st} {xs} same sound on t roomy.
          let o = merge_attrset_intersection xs st in
          let redundant : List ℕ → Run (List ℕ) = λ one st. ok (remove_redundant_negations p.functor st.nodes one) st in
          subst (λ (x : Flow). AnswersFlow (bind o redundant) w' l.members x) (sym g) (bind_of redundant (stops o w' l g (z.is sound on t roomy)));
    })

-- a step where those before it go on, and where they were refused
module _ {f : List ℕ → Run (List ℕ)} {w : List ℕ} {l : Listed} where
  pub steps_on : {q : Pass} {w' : List ℕ} {r : Listed} → l.flow ≡ On q → Runs f w q l.members w' r → Steps f w l w' r
  steps_on {w' = w'} {r} e z =
      record {
        is = λ o a.
            let g = goes_on o w l e a in
            answers_of w' r (bind_of f g.is) (z.is g.stands (taken_nodes g.stands g.taken));
      }

  pub steps_off : {k : ℕ} → l.flow ≡ Refused k → Steps f w l w l
  steps_off e =
      record { is = λ o a. subst (λ (x : Flow). AnswersFlow (bind o f) w l.members x) (sym e) (bind_of f (stops o w l e a)) }

-- `inter_settled`
pub inter_settled : {c : Canon} {w w1 w2 w3 w4 : List ℕ} {l a b : Listed} {cancelled : Bool} {y : Option ℕ} {z : Settled} {g : Given}
    → Steps (simplify_union_neg_intersection c.functor) w l w1 a → Steps factor_shared_from_intersection w1 a w2 b → SettlesListed w2 b cancelled y w3 z
    → OrFirst w3 z w4 g → SettlesInter c w l cancelled y w4 g
inter_settled {c} {cancelled = cancelled} i f d e =
    record {
      is = λ o ys a leads.
          let simple = simplify_union_neg_intersection c.functor in
          let o2 = bind o simple in
          let o3 = bind o2 factor_shared_from_intersection in
          let known = leads_step o2 factor_shared_from_intersection keeps_factor (leads_step o simple (keeps_simplify c.functor) leads) in
          stores_of
          (bind_both o simple (λ xs. factor_shared_from_intersection xs >>= settle cancelled (first_member ys) Intersection)
          ∙ bind_both o2 factor_shared_from_intersection (settle cancelled (first_member ys) Intersection))
          (e.is (λ rest. bind o3 (settle cancelled (rest ys) Intersection)) (d.is o3 ys (f.is o2 (i.is o a)) known));
    }

pub settles_off : {c : Canon} {w : List ℕ} {l : Listed} {cancelled : Bool} {y : Option ℕ} {k : ℕ} → l.flow ≡ Refused k → SettlesInter c w l cancelled y w (RefusedG k)
settles_off e = inter_settled (steps_off e) (steps_off e) (listed_off e) (or_refused refl)

-- `inter_rest`
rest_is : (p : runs.Pass) (c : Canon) (pol : Polarity) (b : Bool) (ys xs : List ℕ) (st : State) → p.functor ≡ c.functor → b ≡ top_if_emptied pol xs
    → inter_rest p pol ys xs st ≡ bind (inter_normalized p pol xs st) (inter_end c.functor b ys)
unfolding inter_rest
rest_is p c pol b ys xs st same e = ap₂ (λ (k : ℕ) (t : Bool). bind (inter_normalized p pol xs st) (inter_end k t ys)) same (sym e)

pub inter_rest_lem : {c : Canon} {w work w1 work1 w2 : List ℕ} {h : ℕ} {q : Pass} {m : Members} {y : Option ℕ} {pol : Polarity} {l : Listed} {b : Bool} {g : Given}
    → NormalizesInter c w work h q m pol w1 work1 l → TopIfEmptied pol m b → SettlesInter c w1 l b y w2 g → RestsInter c w work h q m y pol w2 work1 g
inter_rest_lem {c} {pol = pol} {b = b} n top z =
    record {
      kept = n.kept;
      is = λ p {st} {xs} ys same sound on t roomy under first.
          stores_of (rest_is p c pol b ys xs st same (top.is t.list))
          (z.is (inter_normalized p pol xs st) ys (n.is p same sound on t roomy)
          (leads_step (ok xs st) (inter_normalized p pol) (keeps_inter_normalized p pol) (leads_now xs st under first)));
    }

-- the ways of `as_tried`
pub tried_node : {g : Given} {x : ℕ} {q : Pass} → g ≡ NodeG x q → AsTried g (NodeT x q)
tried_node e =
    record {
      is = λ o w a.
          let b = (subst (λ (y : Given). Stores o w y) e a).is in
          record { is = record { after = b.after; is = λ rest. b.is; stands = b.stands; below = b.below } };
    }

pub tried_refused : {g : Given} {k : ℕ} → g ≡ RefusedG k → AsTried g (RefusedT k)
tried_refused e = record { is = λ o w a. record { is = λ rest. (subst (λ (y : Given). Stores o w y) e a).is } }

-- the ways of `tried_members` and `first_tried`
first_again : {A : Type 0} {t : Try} {y : Option ℕ} → t ≡ First → t ≡ Again y → A
first_again e f = let z : ◌≡◌ {A = ℕ} 0 1 = cc in absurd (omega arith)

pub members_once : {c : Canon} {w : List ℕ} {l : Listed} {t : Try} → t ≡ First → TriesMembers c w l t w l
members_once e = record { once = λ o f a. a; twice = λ y f. first_again e f }

pub members_twice : {c : Canon} {w w' : List ℕ} {l r : Listed} {t : Try} {y : Option ℕ} → t ≡ Again y → Steps (simplify_union_neg_intersection c.functor) w l w' r
    → TriesMembers c w l t w' r
members_twice e z = record { once = λ o f a. first_again f e; twice = λ y f. z }

pub members_off : {c : Canon} {w : List ℕ} {l : Listed} {t : Try} {k : ℕ} → l.flow ≡ Refused k → TriesMembers c w l t w l
members_off z = record { once = λ o f a. a; twice = λ y f. steps_off z }

pub fillers_off : {table w : List ℕ} {c : Canon} {l : Listed} {k : ℕ} → l.flow ≡ Refused k → WithoutFillers table c w l l
fillers_off z = record { is = λ given. steps_off z }

pub first_once : {t : Try} {m : Members} {r : Option ℕ} → t ≡ First → FirstMember m r → FirstTried t m r
first_once e f = record { once = λ g. f; twice = λ y g. first_again e g }

pub first_twice : {t : Try} {m : Members} {y : Option ℕ} → t ≡ Again y → FirstTried t m y
first_twice {y = y} e = record { once = λ f. first_again f e; twice = λ x f. cc }

-- the first member of the first try where the visits were refused
abbrev pub held_first : Try → Option ℕ
held_first First = None
held_first (Again y) = y

pub first_held : (t : Try) → FirstTried t (record { count = 0; at = [] }) (held_first t)
first_held First = first_once refl (first_nowhere refl)
first_held (Again y) = first_twice refl

-- the ways of `inter_checked`
abbrev tested : runs.Pass → Polarity → List ℕ → (List ℕ → Run ℕ) → List ℕ → Bool → Run ℕ
tested p pol ys rest ms b = if b (λ _. rest ys) (λ _. inter_rest p pol ys ms)

tested_is : {o : Out (List ℕ)} {w : List ℕ} {m : Members} {q : Pass} {b d : Bool} (functor : ℕ) (p : runs.Pass) (pol : Polarity) (ys : List ℕ)
    → Tests (has_type_contradiction functor) w m b → b ≡ d → p.functor ≡ functor → (g : Gives o w m q) (rest : List ℕ → Run ℕ)
    → bind o (inter_tested p pol ys rest) ≡ tested p pol ys rest g.list d g.after
tested_is functor p pol ys t z same g rest =
    bind_of (inter_tested p pol ys rest) g.is
    ∙ ap (λ (b : Bool). tested p pol ys rest g.list b g.after)
    (ap (λ (k : ℕ). has_type_contradiction k g.after.nodes g.list) same ∙ sym (t.is g.stands.arena g.taken) ∙ z)

module _ {c : Canon} {w work : List ℕ} {h : ℕ} {l : Listed} {y : Option ℕ} {pol : Polarity} where
  pub checked_contradicts : {q : Pass} {b : Bool} → l.flow ≡ On q → Tests (has_type_contradiction c.functor) w l.members b → b ≡ true
      → ChecksInter c w work h l y pol w work (ContradictionT y q)
  checked_contradicts e t z =
      record {
        kept = λ k lt. refl;
        is = λ p o ys same a sound roomy leads.
            let g = goes_on o w l e a in
            record {
              is = record {
                after = g.after;
                list = ys;
                is = tested_is c.functor p pol ys t z same g;
                stands = g.stands;
                below = leads.below g.list g.after g.is;
                first = leads.first g.list g.after g.is;
              };
            };
      }

  pub checked_rest : {q : Pass} {b : Bool} {w' work' : List ℕ} {g : Given} {r : Tried} → l.flow ≡ On q → Tests (has_type_contradiction c.functor) w l.members b → b ≡ false
      → RestsInter c w work h q l.members y pol w' work' g → AsTried g r → ChecksInter c w work h l y pol w' work' r
  checked_rest {w' = w'} e t z i f =
      record {
        kept = i.kept;
        is = λ p o ys same a sound roomy leads.
            let g = goes_on o w l e a in
            let st = g.after in
            tries_of (tested_is c.functor p pol ys t z same g)
            (f.is (inter_rest p pol ys g.list st) w'
            (i.is p ys same (sound g.list st g.is) g.stands (taken_nodes g.stands g.taken) roomy (leads.below g.list st g.is) (leads.first g.list st g.is)));
      }

  pub checked_off : {k : ℕ} → l.flow ≡ Refused k → ChecksInter c w work h l y pol w work (RefusedT k)
  checked_off e =
      record { kept = λ k lt. refl; is = λ p o ys same a sound roomy leads. record { is = λ rest. bind_of (inter_tested p pol ys rest) (stops o w l e a) } }

-- `inter_tried`
given_by : (w : List ℕ) {m : Members} (ys : List ℕ) (st : State) (x : Flow) → AnswersFlow (ok ys st) w m x → Taken m ys (length st.nodes)
given_by w {m} ys st (On q) g = gave (λ zs st. Taken m zs (length st.nodes)) (sym g.is) g.taken
given_by w ys st (Refused k) g = refused_not (sym g)

abbrev first_rest : runs.Pass → Polarity → (List ℕ → Run ℕ) → List ℕ → Run ℕ
first_rest p pol rest ys = do
  ms ← concrete_of p ys
  inter_tested p pol ys rest ms

abbrev second_rest : runs.Pass → Polarity → List ℕ → (List ℕ → Run ℕ) → List ℕ → Run ℕ
second_rest p pol ys rest ms = do
  simple ← simplify_union_neg_intersection p.functor ms
  inter_tested p pol ys rest simple

module _ {table w work w1 w2 work2 : List ℕ} {c : Canon} {h : ℕ} {f : Flow} {t : Try} {pol : Polarity} {all found l : Listed} {y : Option ℕ} {r : Tried}
    (flat : Flattens 6 w work h 2 f all) (first : FirstTried t all.members y) (fillers : WithoutFillers table c w all found)
    (members : TriesMembers c w found t w1 l) (checks : ChecksInter c w1 work h l y pol w2 work2 r) where
  once_by : (p : runs.Pass) → p.functor ≡ c.functor → t ≡ First → Roomy work h → (o : Out (List ℕ)) → Answers o w all → Answers (bind o (concrete_of p)) w1 l
      → Soundly (bind o (concrete_of p)) → Tries (λ rest. bind o (first_rest p pol rest)) w2 r
  once_by p same e roomy (ok ys st) a b sound =
      let g = given_by w ys st all.flow a in
      let ms = sift (stays p) st.nodes ys in
      checks.is p (ok ms st) ys same b sound roomy (leads_now ms st g.below ((first.once e).is g.list))
  once_by p same e roomy (no k) a b sound =
      checks.is p (no k) [] same b sound roomy (record { below = λ xs st i. refused_not i; first = λ xs st i. refused_not i })

  known : (p : runs.Pass) (o : Out (List ℕ)) → Visited o w work h 2 f → Soundly (bind (bind o (flattened 6)) (concrete_of p))
  known p o v = soundly_step (bind o (flattened 6)) (concrete_of p) (keeps_concrete p) (soundly_step o (flattened 6) (keeps_flattened 6) (visited_soundly v))

  pub inter_tried : TriesInter table c w work h f t pol w2 work2 r
  inter_tried =
      record {
        kept = checks.kept;
        once = λ {p} o given v roomy e.
            let o2 = bind o (flattened 6) in
            let a = flat.is o v in
            tries_of (λ rest. bind_both o (flattened 6) (first_rest p pol rest))
            (once_by p given.functor e roomy o2 a (members.once (bind o2 (concrete_of p)) e ((fillers.is given).is o2 a)) (known p o v));
        twice = λ {p} o ys x given v roomy e lead under.
            let simple = simplify_union_neg_intersection c.functor in
            let o2 = bind o (flattened 6) in
            let o3 = bind o2 (concrete_of p) in
            let leads : Leads o ys y = record { below = under; first = λ xs st i. subst (FirstIs ys) (sym (first.twice x e)) lead } in
            tries_of
            (λ rest.
            bind_both o (flattened 6) (λ zs. concrete_of p zs >>= second_rest p pol ys rest)
            ∙ bind_both o2 (concrete_of p) (second_rest p pol ys rest)
            ∙ bind_both o3 (simplify_union_neg_intersection p.functor) (inter_tested p pol ys rest)
            ∙ ap (λ (k : ℕ). bind (bind o3 (simplify_union_neg_intersection k)) (inter_tested p pol ys rest)) given.functor)
            (checks.is p (bind o3 simple) ys given.functor ((members.twice x e).is o3 ((fillers.is given).is o2 (flat.is o v)))
            (soundly_step o3 simple (keeps_simplify c.functor) (known p o v)) roomy
            (leads_step o3 simple (keeps_simplify c.functor)
            (leads_step o2 (concrete_of p) (keeps_concrete p) (leads_step o (flattened 6) (keeps_flattened 6) leads))));
      }
