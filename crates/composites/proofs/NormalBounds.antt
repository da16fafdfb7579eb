-- Bounds expanded, after their visits. Assumes nothing.
use Rattle.std.specs.Prelude.{Option}
use mathlib.Core.Path.{◌≡◌, refl, sym, ap, ◌∙◌, subst}
use mathlib.Core.Bool.{Bool, true, false}
use Prim.Native.Nat.{ℕ}
use mathlib.Core.List.{List, [], ◌∷◌}
use lib.ListN.{length}
use Rattle.cells.specs.Part.{if}
use Rattle.layout.specs.Layout.{preserved_at}
use Rattle.rules.specs.Types.{Intersection, Bottom, State, Out, ok, no, Run, bind, ◌>>=◌, store}
use Rattle.rules.specs.Members.{merge_attrset_intersection, remove_redundant_negations, has_type_contradiction, factor_shared_from_intersection}
use Rattle.rules.specs.Canonicalizer.{flattened, concrete_of, settle, normalized}
use Rattle.rules.specs.Canonicalizer as runs
use Rattle.laws.specs.Sound.{Sound}
use Rattle.rules.specs.declared.Polarity.{Polarity}
use Rattle.rules.specs.declared.Polarity.TheVariants.{Positive, Negative}
use Rattle.laws.proofs.Keeping.{Keeps, refused_not, gave, later_under, keeps_flattened, keeps_merge, keeps_factor}
use Rattle.lang_ty.specs.declared.arena.Pass.{Pass}
use Rattle.lang_ty.specs.Given.{Given}
use Rattle.lang_ty.specs.Nodes.{Stored}
use Rattle.storage.specs.declared.given.Canon.{Canon}
use Rattle.members.specs.declared.lists.Members.{Members}
use Rattle.members.specs.Flow.{Flow}
use Rattle.members.specs.Flow.{On, Refused}
use Rattle.members.specs.Listed.{Listed}
use Rattle.members.specs.Lists.{Makes, Tests, Runs, stays, sift, DropsFillers}
use Rattle.merge.specs.Merges.{MergesSets}
use Rattle.composites.specs.Settled.{Settled}
use Rattle.composites.specs.Settled.{Refused as RefusedS}
use Rattle.composites.specs.Places.{HeldFlow, Visited, FirstIs, Normalizes}
use Rattle.composites.specs.Lists.{Soundly, Leads, Flattens, AsSettled, SettlesListed, FirstMember, SettlesUnion, merged_end, SettlesMerged}
use Rattle.composites.proofs.Settled.{bind_both, bind_of, settles_of, goes_on, stops, taken_nodes, stores_bottom}
use Rattle.cells.specs.Placed.{Under}

-- steps that keep the nodes stored before them keep what holds of all outcomes
module _ (o : Out (List ℕ)) (f : List ℕ → Run (List ℕ)) (k : (xs : List ℕ) → Keeps (f xs)) where
  step_by : (P : State → Type 0) → ((xs : List ℕ) (st : State) → o ≡ ok xs st → (ys : List ℕ) (st' : State) → f xs st ≡ ok ys st' → P st')
      → (p : Out (List ℕ)) → o ≡ p → (ys : List ℕ) (st' : State) → bind p f ≡ ok ys st' → P st'
  step_by P g (ok xs st) e ys st' h = g xs st e ys st' h
  step_by P g (no j) e ys st' h = refused_not h

  pub soundly_step : Soundly o → Soundly (bind o f)
  soundly_step s = step_by Sound (λ xs st e ys st' h. (k xs st ys st' h).sound (s xs st e)) o refl

  pub leads_step : {ys : List ℕ} {y : Option ℕ} → Leads o ys y → Leads (bind o f) ys y
  leads_step {ys} {y} l =
      record {
        below = step_by (λ st. Under (length st.nodes) ys) (λ xs st e zs st' h. later_under ys (k xs st zs st' h) (l.below xs st e)) o refl;
        first = step_by (λ st. FirstIs ys y) (λ xs st e zs st' h. l.first xs st e) o refl;
      }

pub leads_now : {ys : List ℕ} {y : Option ℕ} (xs : List ℕ) (st : State) → Under (length st.nodes) ys → FirstIs ys y → Leads (ok xs st) ys y
leads_now {ys} xs st under first = record { below = λ zs st' e. gave (λ _ st. Under (length st.nodes) ys) e under; first = λ zs st' e. first }

-- answers that were visited leave a sound state
module _ (o : Out (List ℕ)) (w work : List ℕ) (h n : ℕ) where
  visited_by : (f : Flow) → HeldFlow o w work h n f → Soundly o
  visited_by (On q) d xs st e = gave (λ (ys : List ℕ) st. Sound st) (sym d.is ∙ e) d.sound
  visited_by (Refused k) d xs st e = refused_not (sym d ∙ e)

pub visited_soundly : {o : Out (List ℕ)} {w work : List ℕ} {h n : ℕ} {f : Flow} → Visited o w work h n f → Soundly o
visited_soundly {o} {w} {work} {h} {n} {f} v = visited_by o w work h n f v.is

-- the ways of `settle_merged`
abbrev merged_rest : ℕ → Run ℕ → Bool → List ℕ → Run ℕ
merged_rest functor rest b xs =
    if b (λ _. store Bottom)
    (λ _. do
      ys ← factor_shared_from_intersection xs
      settle false rest Intersection ys)

module _ {c : Canon} {w : List ℕ} {l : Listed} {y : Option ℕ} {q : Pass} {m : Members} {b : Bool} where
  pub merged_contradicts : {w' : List ℕ} {g : Given} {r : Settled} → l.flow ≡ On q → Makes (remove_redundant_negations c.functor) w l.members m
      → Tests (has_type_contradiction c.functor) w m b → b ≡ true → Stored (9 ∷ []) 0 w q w' g → AsSettled g r → SettlesMerged c w l y w' r
  merged_contradicts {w'} e f t z h a =
      record {
        is = λ o ys x leads.
            let g = goes_on o w l e x in
            let st = g.after in
            let xs = remove_redundant_negations c.functor st.nodes g.list in
            settles_of
            (λ rest.
            bind_of (merged_end c.functor (rest ys)) g.is
            ∙ ap (λ (d : Bool). merged_rest c.functor (rest ys) d xs st) (sym (t.is g.stands.arena (f.is g.stands.arena g.taken)) ∙ z))
            (a.is (store Bottom st) w' (stores_bottom h g.stands));
      }

  pub merged_settles : {w' w'' : List ℕ} {d : Listed} {r : Settled} → l.flow ≡ On q → Makes (remove_redundant_negations c.functor) w l.members m
      → Tests (has_type_contradiction c.functor) w m b → b ≡ false → Runs factor_shared_from_intersection w q m w' d → SettlesListed w' d false y w'' r
      → SettlesMerged c w l y w'' r
  merged_settles e f t z h a =
      record {
        is = λ o ys x leads.
            let g = goes_on o w l e x in
            let st = g.after in
            let xs = remove_redundant_negations c.functor st.nodes g.list in
            let tm = f.is g.stands.arena g.taken in
            settles_of
            (λ rest.
            bind_of (merged_end c.functor (rest ys)) g.is
            ∙ ap (λ (d : Bool). merged_rest c.functor (rest ys) d xs st) (sym (t.is g.stands.arena tm) ∙ z))
            (a.is (factor_shared_from_intersection xs st) ys (h.is g.stands (taken_nodes g.stands tm))
            (leads_step (ok xs st) factor_shared_from_intersection keeps_factor
            (leads_now xs st (leads.below g.list st g.is) (leads.first g.list st g.is))));
      }

pub merged_off : {c : Canon} {w : List ℕ} {l : Listed} {y : Option ℕ} {k : ℕ} → l.flow ≡ Refused k → SettlesMerged c w l y w (RefusedS k)
merged_off {c} {w} {l} e = record { is = λ o ys x leads. record { is = λ rest. bind_of (merged_end c.functor (rest ys)) (stops o w l e x) } }

-- the ways of `settle_intersection`
abbrev bounds_rest : runs.Pass → Polarity → (List ℕ → Run ℕ) → List ℕ → Run ℕ
bounds_rest p pol rest ys = do
  ms ← concrete_of p ys
  normalized p (rest ys) pol ms

module _ {table w work : List ℕ} {c : Canon} {h n : ℕ} {f : Flow} {all : Listed} where
  pub intersection_on : {q : Pass} {m : Members} {y : Option ℕ} {w' work' w'' : List ℕ} {one : Listed} {r : Settled} → Flattens 6 w work h n f all → all.flow ≡ On q
      → DropsFillers table preserved_at c.count w all.members m → MergesSets w work h q m w' work' one → FirstMember all.members y → SettlesMerged c w' one y w'' r
      → Normalizes table c w work h n f Negative w'' work' r
  intersection_on flat e conc merges first z =
      record {
        kept = merges.kept;
        is = λ {p} o given v roomy.
            let o2 = bind o (flattened 6) in
            let g = goes_on o2 w all e (flat.is o v) in
            let st = g.after in
            let ys = g.list in
            let tm = (conc.is given.preserves).is g.stands.arena g.taken in
            let ms = sift (stays p) st.nodes ys in
            let sound = soundly_step o (flattened 6) (keeps_flattened 6) (visited_soundly v) ys st g.is in
            settles_of
            (λ rest.
            bind_both o (flattened 6) (bounds_rest p Negative rest)
            ∙ bind_of (bounds_rest p Negative rest) g.is
            ∙ ap (λ (k : ℕ). bind (merge_attrset_intersection ms st) (merged_end k (rest ys))) given.functor)
            (z.is (merge_attrset_intersection ms st) ys (merges.is sound g.stands (taken_nodes g.stands tm) roomy)
            (leads_step (ok ms st) merge_attrset_intersection keeps_merge
            (leads_now ms st g.taken.below (first.is g.taken.list))));
      }

  pub intersection_off : {k : ℕ} → Flattens 6 w work h n f all → all.flow ≡ Refused k → Normalizes table c w work h n f Negative w work (RefusedS k)
  intersection_off flat e =
      record {
        kept = λ k lt. refl;
        is = λ {p} o given v roomy.
            record {
              is = λ rest.
                  bind_both o (flattened 6) (bounds_rest p Negative rest)
                  ∙ bind_of (bounds_rest p Negative rest) (stops (bind o (flattened 6)) w all e (flat.is o v));
            };
      }

-- the ways of `normalize`
module _ {table w work w' : List ℕ} {c : Canon} {h n : ℕ} {f : Flow} {pol : Polarity} {r : Settled} where
  pub normalized_positive : pol ≡ Positive → SettlesUnion table c w work h n f pol w' r → Normalizes table c w work h n f pol w' work r
  normalized_positive e u =
      subst (λ (x : Polarity). SettlesUnion table c w work h n f x w' r → Normalizes table c w work h n f x w' work r) (sym e)
      (λ u. record { kept = λ k lt. refl; is = λ o given v roomy. u.is o given v }) u

  pub normalized_negative : {work' : List ℕ} → pol ≡ Negative → Normalizes table c w work h n f Negative w' work' r → Normalizes table c w work h n f pol w' work' r
  normalized_negative {work'} e a = subst (λ (x : Polarity). Normalizes table c w work h n f x w' work' r) (sym e) a
