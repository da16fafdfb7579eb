-- `rule` and `children`: an entry is what is made of its children's answers, but for variables and intersections. Assumes nothing.
use mathlib.Core.Path.{◌≡◌, refl, sym, ap, ◌∙◌, subst}
use Prim.Native.Nat.{ℕ, suc, ◌≤◌}
use native.Mathlib.Omega.{arith}
use mathlib.Core.List.{List, [], ◌∷◌, ◌++◌}
use lib.ListN.{length}
use Rattle.cells.specs.Part.{cell}
use Rattle.layout.specs.Layout.{held_at}
use Rattle.rules.specs.Table.{Field, Entry, var, prim, tyvar, list, fn, set, neg, named, inter, union, frozen, field_types, dyn_ids, kids, as_set}
use Rattle.rules.specs.Types.{State, Out, ok, no, Run, bind, ◌>>=◌, give, flip, store, union_kind, Primitive, ListOf, Lambda, AttrSet, Union, Named}
use Rattle.rules.specs.Members.{each}
use Rattle.rules.specs.Canonicalizer.{Reader, Visit, flattened, concrete_of, union_normalized, top_if_emptied, first_member, fields_rule, dyn_rule, union_rule, canonicalize_inner, inter_rule, rule, visit}
use Rattle.rules.specs.Canonicalizer as runs
use Rattle.laws.specs.Sound.{OrderlySet}
use Rattle.rules.specs.declared.Polarity.{Polarity}
use Rattle.laws.proofs.Keeping.{Keeps, parted, keeps_refuse, keeps_bind, keeps_store, keeps_variable, keeps_negate, keeps_flattened, keeps_concrete, keeps_union_normalized, keeps_settle, keeps_first_of}
use Rattle.lang_ty.specs.declared.arena.Pass.{Pass}
use Rattle.lang_ty.specs.Given.{Given}
use Rattle.lang_ty.specs.Given.{Node as NodeG, Refused}
use Rattle.storage.specs.declared.given.Canon.{Canon}
use Rattle.storage.specs.declared.entries.Entry.{Entry as Read}
use Rattle.storage.specs.declared.entries.Entry.TheVariants.{Variable, Primitive as PrimitiveE, TyVar as TyVarE, List as ListE, Lambda as LambdaE}
use Rattle.storage.specs.declared.entries.Entry.TheVariants.{AttrSet as AttrSetE, Neg as NegE, Named as NamedE, Inter as InterE, Union as UnionE, Frozen as FrozenE}
use Rattle.storage.specs.Sets.{retype_fields, retype_dyn, retyped}
use Rattle.storage.specs.Entries.{ReadAs, EntryRead}
use Rattle.storage.specs.Helds.{held_kids, first_polarity, HoldsChildren, FirstPolarity}
use Rattle.storage.proofs.HeldIds.{read_as}
use Rattle.storage.proofs.SetNodes.{orderly_retyped}
use Rattle.members.specs.Flow.{Flow}
use Rattle.composites.specs.Places.{union_end}
use Rattle.lang_check.specs.Cycle.{Poised, Answers, AnswersHeld, visited, made, StoredBy, Made, Rules, Children, Each, Inner, Inters}
use Rattle.lang_check.proofs.Poised.{poised_firm, poised_mover, poised_entry, poised_under, poised_slice, keyed_later, keyed_cells, kept_both, answers_out}
use Rattle.lang_check.proofs.Answered.{goes_visited, Ready, visited_held, held_base}
use Rattle.lang_check.proofs.Inter.{pair_visited}
use Rattle.lang_check.proofs.Each.{each_visited}
use Rattle.cells.specs.Placed.{Under}
use mathlib.Core.Option.{Option, none, some}

-- an entry of which something is made once its children have answers
abbrev pub Concrete : Entry → Type 0
Concrete (var l u) = ⊥
Concrete (prim c) = Unit {0}
Concrete (tyvar x) = Unit {0}
Concrete (list a) = Unit {0}
Concrete (fn a b) = Unit {0}
Concrete (set a) = Unit {0}
Concrete (neg a) = Unit {0}
Concrete (named n a) = Unit {0}
Concrete (inter a b) = ⊥
Concrete (union a b) = Unit {0}
Concrete frozen = Unit {0}

-- it holds all its ids
kids_held : (en : Entry) → Concrete en → kids en ≡ held_kids en
kids_held (var l u) k = absurd k
kids_held (prim c) k = refl
kids_held (tyvar x) k = refl
kids_held (list a) k = refl
kids_held (fn a b) k = refl
kids_held (set a) k = refl
kids_held (neg a) k = refl
kids_held (named n a) k = refl
kids_held (inter a b) k = absurd k
kids_held (union a b) k = refl
kids_held frozen k = refl

-- what is given on, done at once
bind_give : {A B C : Type 0} (o : Out A) (f : A → B) (k : B → Run C) → bind (bind o (λ (a : A) (s : State). ok (f a) s)) k ≡ bind o (λ (a : A). k (f a))
bind_give (ok a s) f k = refl
bind_give (no j) f k = refl

one_visited : (o : Out ℕ) (k : List ℕ → Run ℕ) → bind o (λ (x : ℕ). k (x ∷ [])) ≡ bind (bind o (λ (x : ℕ) (s : State). ok (x ∷ []) s)) k
one_visited o k = sym (bind_give o (λ (x : ℕ). x ∷ []) k)

-- the fields of a set one after another, then its dyn
module _ (v : Visit) (pol : Polarity) where
  dyn_visited : (d : Option ℕ) (k : Option ℕ → Run ℕ) (st : State) → bind (dyn_rule v pol d st) k ≡ bind (each (λ (b : ℕ). v b pol) (dyn_ids d) st) (λ (xs : List ℕ). k (retype_dyn d (cell xs 0)))
  dyn_visited none k st = refl
  dyn_visited (some c) k st =
      bind_give (v c pol st) (λ (x : ℕ). some x) k ∙ sym (bind_give (v c pol st) (λ (x : ℕ). x ∷ []) (λ (xs : List ℕ). k (retype_dyn (some c) (cell xs 0))))

  abbrev SetVisited : List Field → Option ℕ → Type 0
  SetVisited fs d = (k : List Field → Option ℕ → Run ℕ) (st : State) → bind (fields_rule v pol fs st) (λ (gs : List Field). dyn_rule v pol d >>= k gs)
      ≡ bind (each (λ (b : ℕ). v b pol) (field_types fs ++ dyn_ids d) st) (λ (xs : List ℕ). k (retype_fields fs xs) (retype_dyn d (cell xs (length fs))))

  field_visited : (f : Field) (fs : List Field) (d : Option ℕ) (o : Out ℕ) (k : List Field → Option ℕ → Run ℕ) → SetVisited fs d
      → bind (bind o (λ (x : ℕ). fields_rule v pol fs >>= (λ (gs : List Field). give (record { key = f.key; type = x } ∷ gs)))) (λ (gs : List Field). dyn_rule v pol d >>= k gs)
      ≡ bind (bind o (λ (x : ℕ). each (λ (b : ℕ). v b pol) (field_types fs ++ dyn_ids d) >>= (λ (xs : List ℕ). give (x ∷ xs))))
      (λ (xs : List ℕ). k (retype_fields (f ∷ fs) xs) (retype_dyn d (cell xs (suc (length fs)))))
  field_visited f fs d (no j) k rest = refl
  field_visited f fs d (ok x s) k rest =
      let g : Field = record { key = f.key; type = x } in
      bind_give (fields_rule v pol fs s) (λ (gs : List Field). g ∷ gs) (λ (gs : List Field). dyn_rule v pol d >>= k gs)
      ∙ rest (λ (gs : List Field). k (g ∷ gs)) s
      ∙ sym (bind_give (each (λ (b : ℕ). v b pol) (field_types fs ++ dyn_ids d) s) (λ (xs : List ℕ). x ∷ xs)
      (λ (xs : List ℕ). k (retype_fields (f ∷ fs) xs) (retype_dyn d (cell xs (suc (length fs))))))

  set_visited : (fs : List Field) (d : Option ℕ) → SetVisited fs d
  set_visited [] d k st = dyn_visited d (k []) st
  set_visited (f ∷ fs) d k st = field_visited f fs d (v f.type pol st) k (set_visited fs d)

-- unions
union_rule_lem : (p : runs.Pass) (v : Visit) (a b : ℕ) (pol : Polarity) (st : State) → union_rule p v a b pol st ≡ bind (visited v pol pol (a ∷ b ∷ []) st) (λ (xs : List ℕ). union_end p pol xs first_member)
unfolding union_rule
union_rule_lem p v a b pol st = pair_visited v a b pol pol (λ (xs : List ℕ). union_end p pol xs first_member) st

-- the rule of an entry, by its kind
module _ (p : runs.Pass) (t : Reader) (v : Visit) (id : ℕ) where
  rule_variable : (l u : List ℕ) (pol : Polarity) (st : State) → rule p t v id (var l u) pol st ≡ canonicalize_inner p t v id l u pol st
  unfolding rule
  rule_variable l u pol st = refl

  rule_inter : (a b : ℕ) (pol : Polarity) (st : State) → rule p t v id (inter a b) pol st ≡ inter_rule p t v a b pol st
  unfolding rule
  rule_inter a b pol st = refl

  rule_made : (en : Entry) (pol : Polarity) (st : State) → Concrete en → rule p t v id en pol st ≡ bind (visited v (first_polarity en pol) pol (held_kids en) st) (made p pol en)
  unfolding rule
  rule_made (var l u) pol st k = absurd k
  rule_made (prim c) pol st k = refl
  rule_made (tyvar x) pol st k = refl
  rule_made (list a) pol st k = one_visited (v a pol st) (made p pol (list a))
  rule_made (fn a b) pol st k = pair_visited v a b (flip pol) pol (made p pol (fn a b)) st
  rule_made (set a) pol st k =
      set_visited v pol a.fields a.dyn (λ (fs : List Field) (d : Option ℕ). store (AttrSet (record { fields = fs; dyn = d; is_open = a.is_open; optional = a.optional }))) st
      ∙ ap (λ (o : Out (List ℕ)). bind o (made p pol (set a))) (each_visited v pol (field_types a.fields ++ dyn_ids a.dyn) st)
  rule_made (neg a) pol st k = one_visited (v a (flip pol) st) (made p pol (neg a))
  rule_made (named n a) pol st k = one_visited (v a pol st) (made p pol (named n a))
  rule_made (inter a b) pol st k = absurd k
  rule_made (union a b) pol st k = union_rule_lem p v a b pol st
  rule_made frozen pol st k = refl

-- what is made of answers is only stored
keeps_made : (p : runs.Pass) (pol : Polarity) (en : Entry) (xs : List ℕ) → OrderlySet (as_set en) → Keeps (made p pol en xs)
keeps_made p pol (var l u) xs o = keeps_refuse 5
keeps_made p pol (prim c) xs o = keeps_store (Primitive c) tt
keeps_made p pol (tyvar x) xs o = keeps_variable p x
keeps_made p pol (list a) xs o = keeps_store (ListOf (cell xs 0)) tt
keeps_made p pol (fn a b) xs o = keeps_store (Lambda (cell xs 0) (cell xs 1)) tt
keeps_made p pol (set a) xs o = keeps_store (AttrSet (retyped a xs)) (orderly_retyped a xs o)
keeps_made p pol (neg a) xs o = keeps_negate (cell xs 0)
keeps_made p pol (named n a) xs o = keeps_store (Named n (cell xs 0)) tt
keeps_made p pol (inter a b) xs o = keeps_refuse 5
keeps_made p pol (union a b) xs o =
    keeps_bind (flattened union_kind xs) _ (keeps_flattened union_kind xs)
    (λ ys. keeps_bind (concrete_of p ys) _ (keeps_concrete p ys)
    (λ ms. keeps_bind (union_normalized pol ms) _ (keeps_union_normalized pol ms)
    (λ zs. keeps_settle (top_if_emptied pol ms) (first_member ys) Union zs (λ ws. tt) (keeps_first_of ys))))
keeps_made p pol frozen xs o = keeps_refuse 5

-- what is made of them is the answer
answers_made : {table : List ℕ} {c : Canon} (seen : Run (List ℕ)) (k : List ℕ → Run ℕ) {w w' work work1 work2 : List ℕ} {h own n : ℕ} {f : Flow} {p : runs.Pass} {t : Reader} (st : State) (r : Given)
    → held_at ≤ h → Ready table c (seen st) w work work1 h own n f p t st → ((xs : List ℕ) → Keeps (k xs)) → StoredBy (bind (seen st) k) w' work1 work2 h r
    → Answers (bind (seen st) k) p.count w' work work2 h r
answers_made seen k st (NodeG x q) behind rd keeps g =
    let pt = parted seen k st x g.after g.is in
    let po = rd.ready pt.value pt.between pt.first in
    record {
      is = record {
        after = g.after;
        is = g.is;
        stands = g.stands;
        keyed = keyed_cells (keyed_later (keeps pt.value pt.between x g.after pt.second) po.keyed) (λ j lt. g.kept j (omega arith) (λ z. omega arith));
        kept = kept_both (rd.kept pt.value pt.between pt.first) (record { is = λ j lo hi. g.kept j hi (λ z. lo) });
      };
    }
answers_made seen k st (Refused j) behind rd keeps g = record { is = g }

-- `children`
module _ {table : List ℕ} {c : Canon} {w work : List ℕ} {free h : ℕ} {q : Pass} {e : Read} {n : ℕ} {first pol : Polarity} {work1 w2 work2 : List ℕ} {f : Flow} where
  pub children : HoldsChildren table work h e work1 n → FirstPolarity e pol first → Each table c w work1 free h q n first pol w2 work2 f → length work1 ≡ length work
      → Children table c w work free h q e pol w2 work2 f
  children hold turn ea len1 =
      record {
        is = λ {p} {t} {st} {en} read u po on.
            let fits = po.roomed.fits in
            let long = po.roomed.long in
            let behind = po.roomed.behind in
            let held = hold.is read (omega arith) in
            let po1 = poised_slice po len1 (λ k lt. hold.kept k (omega arith)) in
            subst (λ (z : Polarity). AnswersHeld (visited (visit free p t) z pol (held_kids en) st) p.count w2 work work2 h (length (held_kids en)) f) (turn.is read)
            (held_base (record { is = λ k lo hi. hold.kept k hi }) held.count
            (ea.is (subst (λ (m : ℕ). Poised table c work1 h m p t st) (sym held.count) po1) on held u));
      }

concrete_read : {w : List ℕ} {en : Entry} (e : Read) → ((v : ℕ) → e ≡ Variable v → ⊥) → ((a b : ℕ) → e ≡ InterE a b → ⊥) → ReadAs w e en → Concrete en
concrete_read (Variable v) nv ni read = absurd (nv v refl)
concrete_read (PrimitiveE x) nv ni read = subst Concrete (sym read.is) tt
concrete_read (TyVarE x) nv ni read = subst Concrete (sym read.is) tt
concrete_read (ListE a) nv ni read = subst Concrete (sym read.is) tt
concrete_read (LambdaE a b) nv ni read = subst Concrete (sym read.is) tt
concrete_read (AttrSetE a) nv ni read = subst Concrete (sym read.is.is) tt
concrete_read (NegE a) nv ni read = subst Concrete (sym read.is) tt
concrete_read (NamedE n a) nv ni read = subst Concrete (sym read.is) tt
concrete_read (InterE a b) nv ni read = absurd (ni a b refl)
concrete_read (UnionE a b) nv ni read = subst Concrete (sym read.is) tt
concrete_read FrozenE nv ni read = subst Concrete (sym read.is) tt

module _ {table : List ℕ} {c : Canon} {w work : List ℕ} {free h : ℕ} {q : Pass} {id : ℕ} {pol : Polarity} {e : Read} (er : EntryRead table c id e) where
  module _ {w' work' : List ℕ} {r : Given} where
    -- a variable
    pub rules_variable : {v : ℕ} → e ≡ Variable v → Inner table c w work free h q id v pol w' work' r → Rules table c w work free h q id pol w' work' r
    rules_variable {v} d inn =
        record {
          is = λ {p} {t} {st} po on lt.
              let z = (read_as (Variable v) d (er.is po.knows.reads lt)).is in
              answers_out (sym (ap (λ (en : Entry). rule p t (visit free p t) id en pol st) z.is ∙ rule_variable p t (visit free p t) id z.lower z.upper pol st))
              (inn.is z.is z.bounds po on lt);
        }

    -- an intersection
    pub rules_inter : {a b : ℕ} → e ≡ InterE a b → Inters table c w work free h q a b pol w' work' r → Rules table c w work free h q id pol w' work' r
    rules_inter {a} {b} d int =
        record {
          is = λ {p} {t} {st} po on lt.
              let z : t id ≡ inter a b = (read_as (InterE a b) d (er.is po.knows.reads lt)).is in
              let u : Under c.count (a ∷ b ∷ []) = subst (λ (en : Entry). Under c.count (kids en)) z (po.knows.reads.known id lt) in
              answers_out (sym (ap (λ (en : Entry). rule p t (visit free p t) id en pol st) z ∙ rule_inter p t (visit free p t) id a b pol st))
              (int.is (subst (λ (en : Entry). Poised table c work h (length (kids en)) p t st) z po) on u.0 u.1.0);
        }

  -- any other entry
  pub rules_made : {w2 work2 w3 work3 : List ℕ} {f : Flow} {r : Given} → ((v : ℕ) → e ≡ Variable v → ⊥) → ((a b : ℕ) → e ≡ InterE a b → ⊥) → Children table c w work free h q e pol w2 work2 f
      → Made table c w2 work2 h f e pol w3 work3 r → length work2 ≡ length work → Rules table c w work free h q id pol w3 work3 r
  rules_made {f = f} {r = r} nv ni ch ma len =
      record {
        is = λ {p} {t} {st} po on lt.
            let v : Visit = visit free p t in
            let en : Entry = t id in
            let read = er.is po.knows.reads lt in
            let k = concrete_read e nv ni read in
            let same = kids_held en k in
            let fits = po.roomed.fits in
            let long = po.roomed.long in
            let behind = po.roomed.behind in
            let orderly = po.tabled.orderly id (poised_entry po lt) in
            let po1 = subst (λ (ks : List ℕ). Poised table c work h (length ks) p t st) same po in
            let u : Under c.count (held_kids en) = subst (Under c.count) same (po.knows.reads.known id lt) in
            let seen : Run (List ℕ) = visited v (first_polarity en pol) pol (held_kids en) in
            let rd = visited_held (seen st) f po1 len
            (goes_visited p t po.tabled v (poised_mover free po) (first_polarity en pol) pol (held_kids en) st (poised_under (held_kids en) po u)
            (poised_firm po on)) (ch.is read u po1 on) in
            answers_out (sym (rule_made p t v id en pol st k))
            (answers_made seen (made p pol en) st r behind rd (λ xs. keeps_made p pol en xs orderly)
            (ma.is (seen st) po.knows read orderly rd.visits (record { behind = behind; room = omega arith; small = omega arith })));
      }
