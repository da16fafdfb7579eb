-- Ty::Inter: two members visited, tried, and tried again. Assumes nothing.
use Rattle.std.specs.Prelude.{Option}
use mathlib.Core.Path.{◌≡◌, refl, sym, ap, ◌∙◌, subst}
use mathlib.Core.Bool.{Bool, true, false, ◌||◌}
use Prim.Native.Nat.{ℕ, ◌<◌}
use native.Mathlib.Omega.{arith}
use mathlib.Core.List.{List, [], ◌∷◌}
use lib.ListN.{length}
use Rattle.cells.specs.Part.{if}
use Rattle.rules.specs.Types.{Node, State, Out, ok, no, Run, bind, ◌>>=◌, give, ask, store, Bottom, intersection_kind}
use Rattle.rules.specs.Members.{each, has_type_contradiction, simplify_union_neg_intersection}
use Rattle.rules.specs.Canonicalizer.{Reader, Visit, is_variable, flattened, concrete_of, inter_rest, inter_rule, inter_retry, turned, visit}
use Rattle.rules.specs.Canonicalizer as runs
use Rattle.rules.specs.declared.Polarity.{Polarity}
use Rattle.laws.proofs.Keeping.{Keeps, parted, keeps_give, keeps_ask, keeps_bind, keeps_if, keeps_store, keeps_simplify, keeps_concrete, keeps_flattened, keeps_inter_rest}
use Rattle.laws.proofs.Moving.{moved_under}
use Rattle.lang_ty.specs.declared.arena.Pass.{Pass}
use Rattle.lang_ty.specs.Given.{Given}
use Rattle.lang_ty.specs.Given.{Node as NodeG, Refused}
use Rattle.lang_ty.specs.Nodes.{Stands, Stored as StoredRow}
use Rattle.lang_ty.proofs.Stores.{stored_bottom}
use Rattle.storage.specs.declared.given.Canon.{Canon}
use Rattle.storage.specs.Entries.{Turned}
use Rattle.storage.specs.Helds.{HoldsTwo}
use Rattle.members.specs.Flow.{Flow}
use Rattle.composites.specs.declared.binary.Try.TheVariants.{First, Again as AgainT}
use Rattle.composites.specs.Tried.{Tried}
use Rattle.composites.specs.Tried.{Node as NodeT, Contradiction as ContradictionT, Refused as RefusedT}
use Rattle.composites.specs.Places.{Tries, inter_first, inter_second, TriesInter}
use Rattle.lang_check.specs.Cycle.{Poised, visited, Each, Inters, after_first_try, Either, Again, Retried, Retries}
use Rattle.lang_check.proofs.Answered.{goes_visited, knows_given, poised_roomy, Ready, visited_held, held_base, answers_base, answers_after}
use Rattle.lang_check.proofs.Poised.{poised_firm, poised_mover, poised_under, poised_later, poised_slice, kept_both, kept_none, answers_out, answers_stored}

-- two visits one after the other, and what is done with their answers
pair_second : (x : ℕ) (o : Out ℕ) (k : List ℕ → Run ℕ) → bind o (λ (y : ℕ). k (x ∷ y ∷ [])) ≡ bind (bind (bind o (λ (y : ℕ) (s : State). ok (y ∷ []) s)) (λ (xs : List ℕ) (s : State). ok (x ∷ xs) s)) k
pair_second x (ok y s) k = refl
pair_second x (no j) k = refl

pair_first : (v : Visit) (b : ℕ) (fb : Polarity) (o : Out ℕ) (k : List ℕ → Run ℕ) → bind o (λ (x : ℕ). v b fb >>= (λ (y : ℕ). k (x ∷ y ∷ [])))
    ≡ bind (bind o (λ (x : ℕ). each (λ (d : ℕ). v d fb) (b ∷ []) >>= (λ (xs : List ℕ). give (x ∷ xs)))) k
pair_first v b fb (ok x s) k = pair_second x (v b fb s) k
pair_first v b fb (no j) k = refl

pub pair_visited : (v : Visit) (a b : ℕ) (fa fb : Polarity) (k : List ℕ → Run ℕ) (st : State)
    → (v a fa >>= (λ (x : ℕ). v b fb >>= (λ (y : ℕ). k (x ∷ y ∷ [])))) st ≡ bind (visited v fa fb (a ∷ b ∷ []) st) k
pair_visited v a b fa fb k st = pair_first v b fb (v a fa st) k

inter_rule_lem : (p : runs.Pass) (t : Reader) (v : Visit) (a b : ℕ) (pol : Polarity) (st : State)
    → inter_rule p t v a b pol st ≡ bind (visited v pol pol (a ∷ b ∷ []) st) (λ (xs : List ℕ). inter_first p pol xs (after_first_try p t v a b pol))
unfolding inter_rule
inter_rule_lem p t v a b pol st = pair_visited v a b pol pol (λ (xs : List ℕ). inter_first p pol xs (after_first_try p t v a b pol)) st

inter_retry_lem : (p : runs.Pass) (t : Reader) (v : Visit) (a b : ℕ) (pol : Polarity) (ys : List ℕ) (st : State)
    → inter_retry p t v a b pol ys st ≡ bind (visited v (turned (t a) pol) (turned (t b) pol) (a ∷ b ∷ []) st) (λ (xs : List ℕ). inter_second p pol ys xs (λ _. store Bottom))
unfolding inter_retry
inter_retry_lem p t v a b pol ys st = pair_visited v a b (turned (t a) pol) (turned (t b) pol) (λ (xs : List ℕ). inter_second p pol ys xs (λ _. store Bottom)) st

-- a try only stores
keeps_first : (p : runs.Pass) (pol : Polarity) (xs : List ℕ) (rest : List ℕ → Run ℕ) → ((ys : List ℕ) → Keeps (rest ys)) → Keeps (inter_first p pol xs rest)
keeps_first p pol xs rest k =
    keeps_bind (flattened intersection_kind xs) _ (keeps_flattened intersection_kind xs)
    (λ ys. keeps_bind (concrete_of p ys) _ (keeps_concrete p ys)
    (λ ms. keeps_bind (ask (λ (ns : List Node). has_type_contradiction p.functor ns ms)) _ (keeps_ask (λ (ns : List Node). has_type_contradiction p.functor ns ms))
    (λ z. keeps_if z (λ _. rest ys) (λ _. inter_rest p pol ys ms) (k ys) (keeps_inter_rest p pol ys ms))))

keeps_second : (p : runs.Pass) (pol : Polarity) (ys xs : List ℕ) (rest : List ℕ → Run ℕ) → ((zs : List ℕ) → Keeps (rest zs)) → Keeps (inter_second p pol ys xs rest)
keeps_second p pol ys xs rest k =
    keeps_bind (flattened intersection_kind xs) _ (keeps_flattened intersection_kind xs)
    (λ zs. keeps_bind (concrete_of p zs) _ (keeps_concrete p zs)
    (λ ms. keeps_bind (simplify_union_neg_intersection p.functor ms) _ (keeps_simplify p.functor ms)
    (λ simple. keeps_bind (ask (λ (ns : List Node). has_type_contradiction p.functor ns simple)) _ (keeps_ask (λ (ns : List Node). has_type_contradiction p.functor ns simple))
    (λ z. keeps_if z (λ _. rest ys) (λ _. inter_rest p pol ys simple) (k ys) (keeps_inter_rest p pol ys simple)))))

module _ {table : List ℕ} {c : Canon} {w work : List ℕ} {free h : ℕ} {q : Pass} {a b n : ℕ} {fa fb : Polarity} {w2 work1 work2 : List ℕ} {f : Flow}
    (two : HoldsTwo work h a b work1 n) (ea : Each table c w work1 free h q n fa fb w2 work2 f) (len1 : length work1 ≡ length work) (len2 : length work2 ≡ length work1)
    {p : runs.Pass} {t : Reader} {st : State} (po : Poised table c work h 2 p t st) (on : Stands st w q) (la : a < c.count) (lb : b < c.count) where
  -- both visited: their answers, and what is ready after them
  paired : Ready table c (visited (visit free p t) fa fb (a ∷ b ∷ []) st) w2 work work2 h 2 2 f p t st
  paired =
      let fits = po.roomed.fits in
      let long = po.roomed.long in
      let behind = po.roomed.behind in
      let held = two.is (omega arith) in
      let po1 = poised_slice po len1 (λ k lt. two.kept k (omega arith)) in
      visited_held (visited (visit free p t) fa fb (a ∷ b ∷ []) st) f po (len2 ∙ len1)
      (goes_visited p t po.tabled (visit free p t) (poised_mover free po) fa fb (a ∷ b ∷ []) st (poised_under (a ∷ b ∷ []) po (la, (lb, tt))) (poised_firm po on))
      (held_base (record { is = λ k lo hi. two.kept k hi }) held.count
      (ea.is (subst (λ (m : ℕ). Poised table c work1 h m p t st) (sym held.count) po1) on held (la, (lb, tt))))

module _ {table : List ℕ} {c : Canon} {w work : List ℕ} {free h : ℕ} {q : Pass} {a b n : ℕ} {w2 work1 work2 : List ℕ} {f : Flow} {pol : Polarity} {w3 work3 : List ℕ} {tr : Tried}
    {w4 work4 : List ℕ} {r : Given} where
  pub inters : HoldsTwo work h a b work1 n → Each table c w work1 free h q n pol pol w2 work2 f → TriesInter table c w2 work2 h f First pol w3 work3 tr
      → Again table c w3 work3 free h tr a b pol w4 work4 r → length work1 ≡ length work → length work2 ≡ length work1 → length work3 ≡ length work2
      → Inters table c w work free h q a b pol w4 work4 r
  inters two ea try ag len1 len2 len3 =
      record {
        is = λ {p} {t} {st} po on la lb.
            let v : Visit = visit free p t in
            let seen : Run (List ℕ) = visited v pol pol (a ∷ b ∷ []) in
            let pr = paired two ea len1 len2 po on la lb in
            let behind = po.roomed.behind in
            let F : (List ℕ → Run ℕ) → Out ℕ = λ rest. bind (seen st) (λ (xs : List ℕ). inter_first p pol xs rest) in
            answers_out (sym (inter_rule_lem p t v a b pol st))
            (answers_base
            (λ x after e. let pt = parted seen (λ (xs : List ℕ). inter_first p pol xs (after_first_try p t v a b pol)) st x after e in
            kept_both (pr.kept pt.value pt.between pt.first) (record { is = λ k lo hi. try.kept k hi }))
            (ag.is F (try.once (seen st) (knows_given po.knows) pr.visits (poised_roomy po (len2 ∙ len1)) refl)
            (λ x after e. let pt = parted seen (λ (xs : List ℕ). inter_first p pol xs (λ ys. give 0)) st x after e in
            poised_later (poised_slice (pr.ready pt.value pt.between pt.first) len3 (λ k lt. try.kept k (omega arith)))
            (keeps_first p pol pt.value (λ ys. give 0) (λ ys. keeps_give 0) pt.between x after pt.second))
            la lb));
      }

module _ {table : List ℕ} {c : Canon} {w work : List ℕ} {free h : ℕ} {q : Pass} {y : Option ℕ} {a b n : ℕ} {pa pb : Polarity} {w2 work1 work2 : List ℕ} {f : Flow} {pol : Polarity}
    {w3 work3 : List ℕ} {tr : Tried} {w4 : List ℕ} {r : Given} where
  pub retries : HoldsTwo work h a b work1 n → Turned table c a pol pa → Turned table c b pol pb → Each table c w work1 free h q n pa pb w2 work2 f
      → TriesInter table c w2 work2 h f (AgainT y) pol w3 work3 tr → Retried w3 tr w4 r → length work1 ≡ length work → length work2 ≡ length work1 → length work3 ≡ length work2
      → Retries table c w work free h q y a b pol w4 work3 r
  retries two ta tb ea try re len1 len2 len3 =
      record {
        is = λ {p} {t} {st} ys first below po on la lb.
            let v : Visit = visit free p t in
            let seen : Run (List ℕ) = visited v pa pb (a ∷ b ∷ []) in
            let pr = paired two ea len1 len2 po on la lb in
            let behind = po.roomed.behind in
            let F : (List ℕ → Run ℕ) → Out ℕ = λ rest. bind (seen st) (λ (xs : List ℕ). inter_second p pol ys xs rest) in
            let turn : (fa fb : Polarity) → Out ℕ = λ fa fb. bind (visited v fa fb (a ∷ b ∷ []) st) (λ (xs : List ℕ). inter_second p pol ys xs (λ _. store Bottom)) in
            answers_out
            (sym (inter_retry_lem p t v a b pol ys st ∙ ap (λ (z : Polarity). turn z (turned (t b) pol)) (sym (ta.is po.knows.reads la)) ∙ ap (turn pa) (sym (tb.is po.knows.reads lb))))
            (answers_after
            (λ x after e. let pt = parted seen (λ (xs : List ℕ). inter_second p pol ys xs (λ _. store Bottom)) st x after e in (
              (poised_later (poised_slice (pr.ready pt.value pt.between pt.first) len3 (λ k lt. try.kept k (omega arith)))
                  (keeps_second p pol ys pt.value (λ _. store Bottom) (λ _. keeps_store Bottom tt) pt.between x after pt.second)).keyed,
              kept_both (pr.kept pt.value pt.between pt.first) (record { is = λ k lo hi. try.kept k hi }),
            ))
            (re.is F (try.twice (seen st) ys y (knows_given po.knows) pr.visits (poised_roomy po (len2 ∙ len1)) refl first
            (λ xs st' e. moved_under ys (pr.moved xs st' e) below))));
      }

module _ {table : List ℕ} {c : Canon} {w work : List ℕ} {free h : ℕ} {tr : Tried} {a b : ℕ} {pol : Polarity} where
  -- a node
  pub again_node : {x : ℕ} {q : Pass} → tr ≡ NodeT x q → Again table c w work free h tr a b pol w work (NodeG x q)
  again_node {x} {q} e =
      record {
        is = λ {p} {t} f tries po la lb.
            let g = (subst (λ (z : Tried). Tries f w z) e tries).is in
            record {
              is = record {
                after = g.after;
                is = g.is (after_first_try p t (visit free p t) a b pol);
                stands = g.stands;
                keyed = (po x g.after (g.is (λ ys. give 0))).keyed;
                kept = kept_none h work;
              };
            };
      }

  -- a refusal
  pub again_refused : {k : ℕ} → tr ≡ RefusedT k → Again table c w work free h tr a b pol w work (Refused k)
  again_refused e =
      record { is = λ {p} {t} f tries po la lb. record { is = (subst (λ (z : Tried). Tries f w z) e tries).is (after_first_try p t (visit free p t) a b pol) } }

  module _ {y : Option ℕ} {q : Pass} {either : Bool} (e : tr ≡ ContradictionT y q) (ei : Either table c a b either) where
    -- a contradiction without a variable
    pub again_bottom : {w' : List ℕ} {r : Given} → either ≡ false → StoredRow (9 ∷ []) 0 w q w' r → Again table c w work free h tr a b pol w' work r
    again_bottom d leaf =
        record {
          is = λ {p} {t} f tries po la lb.
              let g = (subst (λ (z : Tried). Tries f w z) e tries).is in
              let poised = po 0 g.after (g.is (λ ys. give 0)) in
              let no_variable : is_variable (t a) || is_variable (t b) ≡ false = sym (ei.is poised.knows.reads la lb) ∙ d in
              answers_out
              (sym (g.is (after_first_try p t (visit free p t) a b pol)
              ∙ ap (λ (z : Bool). if z (λ _. inter_retry p t (visit free p t) a b pol g.list) (λ _. store Bottom) g.after) no_variable))
              (answers_stored h (keeps_store Bottom tt g.after) poised.keyed (stored_bottom g.stands leaf));
        }

    -- a contradiction with one
    pub again_retry : {w' work' : List ℕ} {r : Given} → either ≡ true → Retries table c w work free h q y a b pol w' work' r
        → Again table c w work free h tr a b pol w' work' r
    again_retry d re =
        record {
          is = λ {p} {t} f tries po la lb.
              let g = (subst (λ (z : Tried). Tries f w z) e tries).is in
              let poised = po 0 g.after (g.is (λ ys. give 0)) in
              let variable : is_variable (t a) || is_variable (t b) ≡ true = sym (ei.is poised.knows.reads la lb) ∙ d in
              answers_out
              (sym (g.is (after_first_try p t (visit free p t) a b pol)
              ∙ ap (λ (z : Bool). if z (λ _. inter_retry p t (visit free p t) a b pol g.list) (λ _. store Bottom) g.after) variable))
              (re.is g.list g.first g.below poised g.stands la lb);
        }
