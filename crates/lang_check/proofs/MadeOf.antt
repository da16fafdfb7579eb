-- What is made of an entry once its children have answers. Assumes nothing.
use Rattle.std.specs.Prelude.{Option}
use mathlib.Core.Path.{◌≡◌, refl, sym, ap, ap₂, ◌∙◌, subst}
use Prim.Native.Nat.{ℕ, suc, ◌+◌, ◌<◌}
use native.Mathlib.Omega.{arith}
use mathlib.Core.List.{List, [], ◌∷◌}
use lib.ListN.{length}
use Rattle.cells.specs.Part.{cell}
use Rattle.cells.proofs.Holding.{holds_at}
use Rattle.rules.specs.Table.{Entry, prim, tyvar, list, fn, set, neg, named, union, as_set}
use Rattle.rules.specs.Types.{State, Out, no, Run, bind, store, ListOf, Lambda, Named, Bottom}
use Rattle.rules.specs.Members.{negate_output_ty}
use Rattle.rules.specs.Canonicalizer as runs
use Rattle.laws.specs.Sound.{OrderlySet}
use Rattle.rules.specs.declared.Polarity.{Polarity}
use Rattle.laws.proofs.Loading.{members_alike, sound_members}
use Rattle.lang_ty.specs.declared.arena.Pass.{Pass}
use Rattle.lang_ty.specs.Given.{Given}
use Rattle.lang_ty.specs.Given.{Node, Refused}
use Rattle.lang_ty.specs.Nodes.{Answers as Stores, Stored as StoredRow}
use Rattle.lang_ty.proofs.Stores.{answers_of, stored_bottom, stored_primitive, stored_list, stored_lambda, stored_named}
use Rattle.storage.specs.declared.given.Canon.{Canon}
use Rattle.storage.specs.declared.entries.Entry.{Entry as Read}
use Rattle.storage.specs.declared.entries.Entry.TheVariants.{Variable, Primitive as PrimitiveE, TyVar as TyVarE, List as ListE, Lambda as LambdaE}
use Rattle.storage.specs.declared.entries.Entry.TheVariants.{AttrSet as AttrSetE, Neg as NegE, Named as NamedE, Inter as InterE, Union as UnionE, Frozen as FrozenE}
use Rattle.storage.specs.Sets.{StoresSet}
use Rattle.storage.specs.Entries.{ReadAs}
use Rattle.storage.specs.Helds.{held_kids}
use Rattle.storage.specs.Vars.{IsVariable}
use Rattle.members.specs.Flow.{Flow}
use Rattle.members.specs.Flow.{On, Refused as RefusedF}
use Rattle.negation.specs.Negations.{members_up_to, Negatable, AnswersGiven, NegatesOutput}
use Rattle.laws.proofs.Filtering.{under_at}
use Rattle.composites.specs.Tried.{Tried}
use Rattle.composites.specs.Tried.{Node as NodeT, Contradiction as ContradictionT, Refused as RefusedT}
use Rattle.composites.specs.Places.{Held, Visited, UnionOf, Tries}
use Rattle.lang_check.specs.Cycle.{made, Broad, StoredBy, Made, Retried}
use Rattle.lang_check.specs.Making.{Single, MadeOfOne}
use Rattle.storage.proofs.HeldIds.{read_as}
use Rattle.cells.specs.Placed.{Under}

-- a step that stores and leaves the working slice
stored_by : {o : Out ℕ} {w : List ℕ} (work : List ℕ) (h : ℕ) {r : Given} → Stores o w r → StoredBy o w work work h r
stored_by work h {r = Node x q} a = let g = a.is in record { after = g.after; is = g.is; stands = g.stands; kept = λ k lt b. refl }
stored_by work h {r = Refused j} a = a.is

-- a negation
stored_negation : (o : Out ℕ) (st : State) (w : List ℕ) (h : ℕ) (work work' : List ℕ) (r : Given) → AnswersGiven o st w h work work' r → StoredBy o w work work' h r
stored_negation o st w h work work' (Node x q) g = record { after = g.after; is = g.is; stands = g.stands; kept = g.kept }
stored_negation o st w h work work' (Refused j) g = g

-- answers held, by their places
module _ {o : Out (List ℕ)} {w work : List ℕ} {h n : ℕ} {q : Pass} (g : Held o w work h n q) where
  answer_at : (i : ℕ) → i < n → {j x : ℕ} → j ≡ h + i → x ≡ cell work j → x ≡ cell g.list i
  answer_at i lt e f = let z = g.count in f ∙ ap (cell work) e ∙ holds_at g.holds i (omega arith)

  answer_below : (i : ℕ) → i < n → {x : ℕ} → x ≡ cell g.list i → x < q.nodes
  answer_below i lt e = let z = g.count in omega (arith, under_at (length g.after.nodes) g.list i g.below (omega arith), g.stands.arena.count)

  -- room for its negation
  negatable : {x : ℕ} → x < q.nodes → Broad work h → Negatable g.after w q work h x
  negatable {x} lt b =
      let ns = g.after.nodes in
      let count = g.stands.arena.count in
      let same : members_up_to ns (suc x) ≡ _ = members_alike ns (members_up_to ns) refl (λ k. refl) (suc x) in
      let most = sound_members g.after (suc x) g.sound (omega arith) in
      let cells = g.stands.cells in
      let few = g.stands.arena.cells in
      let room = b.room in
      let small = b.small in
      record { stands = g.stands; known = omega arith; behind = b.behind; room = omega arith; small = omega arith }

-- what is made once the entry is known
module _ (w work : List ℕ) (h : ℕ) (q : Pass) (w' work' : List ℕ) (r : Given) (o : Out (List ℕ)) (p : runs.Pass) (pol : Polarity) where
  made_as : (y : Entry) {en : Entry} → en ≡ y → ((g : Held o w work h (length (held_kids y)) q) → StoredBy (made p pol y g.list g.after) w' work work' h r)
      → Visited o w work h (length (held_kids en)) (On q) → StoredBy (bind o (made p pol en)) w' work work' h r
  made_as y e f vis =
      let g = (subst (λ (x : Entry). Visited o w work h (length (held_kids x)) (On q)) e vis).is in
      subst (λ (z : Out ℕ). StoredBy z w' work work' h r) (sym (ap (λ (x : Entry). bind o (made p pol x)) e ∙ ap (λ (z : Out (List ℕ)). bind z (made p pol y)) g.is)) (f g)

-- `made_of_one`
-- of the others a single entry is a variable, an intersection or frozen, of which nothing is made
refused_one : {w₀ : List ℕ} {en : Entry} (x : Read) → ((a : ℕ) → x ≡ PrimitiveE a → ⊥) → ((a : ℕ) → x ≡ TyVarE a → ⊥) → ((a : ℕ) → x ≡ ListE a → ⊥) → ((a : ℕ) → x ≡ NegE a → ⊥) → ((n a : ℕ) → x ≡ NamedE n a → ⊥)
    → ReadAs w₀ x en → Single en
    → (p : runs.Pass) (pol : Polarity) (xs : List ℕ) (st : State) → made p pol en xs st ≡ no 5
refused_one (Variable v) np nt nl nn nm read one p pol xs st = ap (λ (y : Entry). made p pol y xs st) read.is.is
refused_one (PrimitiveE a) np nt nl nn nm read one p pol xs st = absurd (np a refl)
refused_one (TyVarE a) np nt nl nn nm read one p pol xs st = absurd (nt a refl)
refused_one (ListE a) np nt nl nn nm read one p pol xs st = absurd (nl a refl)
refused_one (LambdaE a b) np nt nl nn nm read one p pol xs st = absurd (subst Single read.is one)
refused_one (AttrSetE a) np nt nl nn nm read one p pol xs st = absurd (subst Single read.is.is one)
refused_one (NegE a) np nt nl nn nm read one p pol xs st = absurd (nn a refl)
refused_one (NamedE n a) np nt nl nn nm read one p pol xs st = absurd (nm n a refl)
refused_one (InterE a b) np nt nl nn nm read one p pol xs st = ap (λ (y : Entry). made p pol y xs st) read.is
refused_one (UnionE a b) np nt nl nn nm read one p pol xs st = absurd (subst Single read.is one)
refused_one FrozenE np nt nl nn nm read one p pol xs st = ap (λ (y : Entry). made p pol y xs st) read.is

module _ {table : List ℕ} {c : Canon} {w work : List ℕ} {h : ℕ} {q : Pass} {e : Read} where
  module _ {w' : List ℕ} {r : Given} where
    pub one_primitive : {a : ℕ} → e ≡ PrimitiveE a → StoredRow (1 ∷ a ∷ []) 0 w q w' r → MadeOfOne table c w work h q e w' work r
    one_primitive {a} d st =
        record {
          is = λ {p = p} o pol kn read one vis b.
              made_as w work h q w' work r o p pol (prim a) (read_as (PrimitiveE a) d read).is (λ g. stored_by work h (stored_primitive g.stands st)) vis;
        }

    pub one_tyvar : {v : ℕ} → e ≡ TyVarE v → IsVariable table c w q v w' r → MadeOfOne table c w work h q e w' work r
    one_tyvar {v} d var =
        record {
          is = λ {p = p} o pol kn read one vis b.
              made_as w work h q w' work r o p pol (tyvar v) (read_as (TyVarE v) d read).is (λ g. stored_by work h (var.is kn.reps g.stands)) vis;
        }

    pub one_list : {x a : ℕ} → x ≡ cell work h → e ≡ ListE a → StoredRow (2 ∷ x ∷ []) 0 w q w' r → MadeOfOne table c w work h q e w' work r
    one_list {x} {a} at d st =
        record {
          is = λ {p = p} o pol kn read one vis b.
              made_as w work h q w' work r o p pol (list a) (read_as (ListE a) d read).is
              (λ g. let y = answer_at g 0 (omega arith) (omega arith) at in
              stored_by work h (answers_of (ap (λ (z : ℕ). store (ListOf z) g.after) (sym y)) (stored_list g.stands st (answer_below g 0 (omega arith) y)))) vis;
        }

    pub one_named : {x n a : ℕ} → x ≡ cell work h → e ≡ NamedE n a → StoredRow (7 ∷ n ∷ x ∷ []) 0 w q w' r → MadeOfOne table c w work h q e w' work r
    one_named {x} {n} {a} at d st =
        record {
          is = λ {p = p} o pol kn read one vis b.
              made_as w work h q w' work r o p pol (named n a) (read_as (NamedE n a) d read).is
              (λ g. let y = answer_at g 0 (omega arith) (omega arith) at in
              stored_by work h (answers_of (ap (λ (z : ℕ). store (Named n z) g.after) (sym y)) (stored_named g.stands st (answer_below g 0 (omega arith) y)))) vis;
        }

  pub one_neg : {x a : ℕ} {w' work' : List ℕ} {r : Given} → x ≡ cell work h → e ≡ NegE a → NegatesOutput w work h q x w' work' r → MadeOfOne table c w work h q e w' work' r
  one_neg {x} {a} {w'} {work'} {r} at d ne =
      record {
        is = λ {p = p} o pol kn read one vis b.
            made_as w work h q w' work' r o p pol (neg a) (read_as (NegE a) d read).is
            (λ g. let y = answer_at g 0 (omega arith) (omega arith) at in
            subst (λ (z : ℕ). StoredBy (negate_output_ty z g.after) w' work work' h r) y
            (stored_negation (negate_output_ty x g.after) g.after w' h work work' r (ne.is (negatable g (answer_below g 0 (omega arith) y) b)))) vis;
      }

  pub one_refused : ((a : ℕ) → e ≡ PrimitiveE a → ⊥) → ((a : ℕ) → e ≡ TyVarE a → ⊥) → ((a : ℕ) → e ≡ ListE a → ⊥) → ((a : ℕ) → e ≡ NegE a → ⊥) → ((n a : ℕ) → e ≡ NamedE n a → ⊥)
      → MadeOfOne table c w work h q e w work (Refused 5)
  one_refused np nt nl nn nm =
      record {
        is = λ {p = p} {en = en} o pol kn read one vis b.
            let g = vis.is in ap (λ (z : Out (List ℕ)). bind z (made p pol en)) g.is ∙ refused_one e np nt nl nn nm read one p pol g.list g.after;
      }

-- `made`
single_read : {w : List ℕ} {en : Entry} (e : Read) → ((a b : ℕ) → e ≡ LambdaE a b → ⊥) → ((a : ℕ) → e ≡ AttrSetE a → ⊥) → ((a b : ℕ) → e ≡ UnionE a b → ⊥) → ReadAs w e en → Single en
single_read (Variable v) nl na nu read = subst Single (sym read.is.is) tt
single_read (PrimitiveE x) nl na nu read = subst Single (sym read.is) tt
single_read (TyVarE x) nl na nu read = subst Single (sym read.is) tt
single_read (ListE a) nl na nu read = subst Single (sym read.is) tt
single_read (LambdaE a b) nl na nu read = absurd (nl a b refl)
single_read (AttrSetE a) nl na nu read = absurd (na a refl)
single_read (NegE a) nl na nu read = subst Single (sym read.is) tt
single_read (NamedE n a) nl na nu read = subst Single (sym read.is) tt
single_read (InterE a b) nl na nu read = subst Single (sym read.is) tt
single_read (UnionE a b) nl na nu read = absurd (nu a b refl)
single_read FrozenE nl na nu read = subst Single (sym read.is) tt

flow_as : {o : Out (List ℕ)} {w work : List ℕ} {h n : ℕ} {f : Flow} (x : Flow) → f ≡ x → Visited o w work h n f → Visited o w work h n x
flow_as {o} {w} {work} {h} {n} x e v = subst (λ (y : Flow). Visited o w work h n y) e v

module _ {table : List ℕ} {c : Canon} {w work : List ℕ} {h : ℕ} {f : Flow} {e : Read} {pol : Polarity} where
  pub made_refused : {k : ℕ} → f ≡ RefusedF k → Made table c w work h f e pol w work (Refused k)
  made_refused {k} fl =
      record { is = λ {p = p} {en = en} o kn read orderly vis b. ap (λ (z : Out (List ℕ)). bind z (made p pol en)) (flow_as (RefusedF k) fl vis).is }

  module _ {q : Pass} (fl : f ≡ On q) {w' : List ℕ} {r : Given} where
    pub made_lambda : {a b x j y : ℕ} → e ≡ LambdaE a b → x ≡ cell work h → j ≡ h + 1 → y ≡ cell work j → StoredRow (3 ∷ x ∷ y ∷ []) 0 w q w' r
        → Made table c w work h f e pol w' work r
    made_lambda {a} {b} d at place get st =
        record {
          is = λ {p = p} o kn read orderly vis br.
              made_as w work h q w' work r o p pol (fn a b) (read_as (LambdaE a b) d read).is
              (λ g. let u = answer_at g 0 (omega arith) (omega arith) at in
              let v = answer_at g 1 (omega arith) place get in
              stored_by work h (answers_of (ap₂ (λ (y z : ℕ). store (Lambda y z) g.after) (sym u) (sym v))
              (stored_lambda g.stands st (answer_below g 0 (omega arith) u) (answer_below g 1 (omega arith) v)))) (flow_as (On q) fl vis);
        }

    pub made_set : {a : ℕ} → e ≡ AttrSetE a → StoresSet table a w work h q w' r → Made table c w work h f e pol w' work r
    made_set {a} d st =
        record {
          is = λ {p = p} o kn read orderly vis br.
              let z = (read_as (AttrSetE a) d read).is in
              made_as w work h q w' work r o p pol (set z.set) z.is
              (λ g. stored_by work h (st.is g.stands z.at (subst (λ (en : Entry). OrderlySet (as_set en)) z.is orderly) g.holds (sym g.count)
              (subst (λ (k : ℕ). Under k g.list) g.stands.arena.count g.below))) (flow_as (On q) fl vis);
        }

    pub made_union : {a b : ℕ} → e ≡ UnionE a b → UnionOf table c w work h q pol w' r → Made table c w work h f e pol w' work r
    made_union {a} {b} d un =
        record {
          is = λ {p = p} o kn read orderly vis br.
              let z : _ ≡ union a b = (read_as (UnionE a b) d read).is in
              subst (λ (en : Entry). StoredBy (bind o (made p pol en)) w' work work h r) (sym z)
              (stored_by work h (un.is {p = p} o (record { preserves = record { size = kn.count; is = kn.preserved }; functor = kn.functor })
              (subst (λ (en : Entry). Visited o w work h (length (held_kids en)) (On q)) z (flow_as (On q) fl vis))));
        }

  pub made_one : {q : Pass} {w' work' : List ℕ} {r : Given} → f ≡ On q → ((a b : ℕ) → e ≡ LambdaE a b → ⊥) → ((a : ℕ) → e ≡ AttrSetE a → ⊥) → ((a b : ℕ) → e ≡ UnionE a b → ⊥) → MadeOfOne table c w work h q e w' work' r
      → Made table c w work h f e pol w' work' r
  made_one {q} fl nl na nu one = record { is = λ o kn read orderly vis b. one.is o pol kn read (single_read e nl na nu read) (flow_as (On q) fl vis) b }

-- `retried`
module _ {w : List ℕ} {t : Tried} where
  tries_as : {f : (List ℕ → Run ℕ) → Out ℕ} (x : Tried) → t ≡ x → Tries f w t → Tries f w x
  tries_as {f} x e z = subst (λ (y : Tried). Tries f w y) e z

  pub retried_node : {x : ℕ} {q : Pass} → t ≡ NodeT x q → Retried w t w (Node x q)
  retried_node {x} {q} e =
      record {
        is = λ f tries.
            let g = (tries_as (NodeT x q) e tries).is in
            record { is = record { after = g.after; is = g.is (λ ys. store Bottom); stands = g.stands; below = g.below } };
      }

  pub retried_bottom : {y : Option ℕ} {q : Pass} {w' : List ℕ} {r : Given} → t ≡ ContradictionT y q → StoredRow (9 ∷ []) 0 w q w' r → Retried w t w' r
  retried_bottom {y} {q} e st =
      record { is = λ f tries. let g = (tries_as (ContradictionT y q) e tries).is in answers_of (g.is (λ ys. store Bottom)) (stored_bottom g.stands st) }

  pub retried_refused : {k : ℕ} → t ≡ RefusedT k → Retried w t w (Refused k)
  retried_refused {k} e = record { is = λ f tries. record { is = (tries_as (RefusedT k) e tries).is (λ ys. store Bottom) } }
