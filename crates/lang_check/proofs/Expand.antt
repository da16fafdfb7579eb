-- expand_bounds, its fallback and canonicalize_inner: what each way through `gathered`, `expand`, `fallback` and `inner` comes to. Assumes nothing.
use Rattle.std.specs.Prelude.{Option, Some, None}
use mathlib.Core.Path.{◌≡◌, refl, sym, ap, ◌∙◌, subst}
use mathlib.Core.Bool.{Bool, true, false, ◌||◌}
use Prim.Native.Nat.{ℕ, suc, ◌+◌, ◌-◌, ◌≤◌, ◌<◌}
use native.Mathlib.Omega.{arith}
use mathlib.Core.List.{List, [], ◌∷◌, ◌++◌}
use lib.ListN.{length, set, length-append, length-set}
use lib.Seq.{get_or-set_same, get_or-set_other}
use lib.Dec.{eqb, ltb}
use borrow.Author.Tests.{eqb-true, eq-eqb, ne_eqb}
use Rattle.cells.specs.Part.{if, cell}
use Rattle.layout.specs.Layout.{bits_at, counted_nodes, held_at, seen_at}
use Rattle.rules.specs.Plain.{empty, contains, add_new, both}
use Rattle.rules.specs.Table.{Entry, var, prim, tyvar, list, fn, set as set_entry, neg, named, inter, union, frozen, kids}
use Rattle.rules.specs.Types.{State, Out, ok, no, Run, bind, ◌>>=◌, give, flip}
use Rattle.rules.specs.Members.{add_all, each}
use Rattle.rules.specs.Canonicalizer.{Reader, Visit, variable, add_bit, note, concrete_of, flattened, composite_kind, deduplicated, expand_bounds, is_variable, is_atom}
use Rattle.rules.specs.Canonicalizer.{lowers, uppers, begin_list, began, begin, expand_bounds_empty_fallback, expansion, bounds_of, variable_rule, named_bound}
use Rattle.rules.specs.Canonicalizer.{canonicalize_inner, visit}
use Rattle.rules.specs.Canonicalizer as runs
use Rattle.laws.specs.Sound.{Tabled}
use Rattle.rules.specs.declared.Polarity.{Polarity}
use Rattle.rules.specs.declared.Polarity.TheVariants.{Positive, Negative}
use Rattle.laws.proofs.Keeping.{Later, later_none, parted, gave, refused_not, Keeps, keeps_give, keeps_bind, keeps_variable, keeps_concrete, keeps_flattened, keeps_normalized, keeps_preserving}
use Rattle.laws.proofs.Moving.{Moved, moved_later, moved_both, Firm, Goer, Any, any_stays, begin_known, distinct_known, goes_note, goes_each, goes_expansion}
use Rattle.laws.proofs.Filtering.{under_front, under_back, filter_length}
use Rattle.lang_ty.specs.declared.arena.Pass.{Pass}
use Rattle.lang_ty.specs.Given.{Given}
use Rattle.lang_ty.specs.Given.{Node as NodeG, Refused}
use Rattle.lang_ty.specs.Nodes.{Stands, Answers as Stores}
use Rattle.members.specs.Flow.{Flow}
use Rattle.members.specs.Flow.{On, Refused as RefusedF}
use Rattle.storage.specs.declared.given.Canon.{Canon}
use Rattle.storage.specs.declared.notes.Begun.{Begun}
use Rattle.storage.specs.Helds.{Variable, Bounds}
use Rattle.storage.specs.Passes.{BoundsAt}
use Rattle.storage.specs.Notes.{Notes, begun_of, NoneBegun, Begins}
use Rattle.storage.specs.Entries.{NamedIs, NamedBound}
use Rattle.storage.specs.Vars.{IsVariable, own_end, Expanded}
use Rattle.storage.specs.Helds.{Own}
use Rattle.storage.specs.Helds.{HeldList, Deduplicates, BeginsList, OwnBounds, concretes, own_rule}
use Rattle.storage.proofs.HeldBounds.{bounds_short}
use Rattle.composites.specs.Settled.{Settled}
use Rattle.composites.specs.Settled.{Node as NodeS, Empty as EmptyS, Refused as RefusedS}
use Rattle.composites.specs.Places.{Settles, bounds_end, Normalizes}
use Rattle.lang_check.specs.Cycle.{Keyed, Poised, KeptBelow, Answers, AnswersHeld, AnswersGathered, visited, Visits, Each, Inner, Gathered, Expands, FallsBackTo, IsCut}
use Rattle.lang_check.proofs.Answered.{goes_visited, knows_given, poised_roomy, visited_held}
use Rattle.lang_check.proofs.Poised.{poised_firm, poised_mover, poised_entry, poised_under, poised_moved, poised_place, poised_slice, keyed_cells, keyed_later}
use Rattle.lang_check.proofs.Poised.{kept_both, answers_out, answers_stored}
use Rattle.cells.specs.Placed.{Under}

-- a visit of all in one polarity
visited_each : (v : Visit) (pol : Polarity) (bs : List ℕ) (st : State) → visited v pol pol bs st ≡ each (λ (b : ℕ). v b pol) bs st
visited_each v pol [] st = refl
visited_each v pol (b ∷ bs) st = refl

-- steps 2 to 5 only store, if what follows them does
keeps_bounds_end : (p : runs.Pass) (pol : Polarity) (xs : List ℕ) (rest : List ℕ → Run ℕ) → ((ys : List ℕ) → Keeps (rest ys)) → Keeps (bounds_end p pol xs rest)
keeps_bounds_end p pol xs rest k =
    keeps_bind (flattened (composite_kind pol) xs) _ (keeps_flattened (composite_kind pol) xs)
    (λ ys. keeps_bind (concrete_of p ys) _ (keeps_concrete p ys) (λ ms. keeps_normalized p (rest ys) pol ms (k ys)))

-- no longer than the list that is added
new_short : (b : Bool) (got : List ℕ) (x : ℕ) → length (if b (λ _. got) (λ _. got ++ (x ∷ []))) ≤ suc (length got)
new_short true got x = omega arith
new_short false got x = omega (arith, length-append got (x ∷ []))

added_short : (got xs : List ℕ) → length (add_all got xs) ≤ length got + length xs
added_short got [] = omega arith
added_short got (x ∷ xs) = omega (arith, added_short (add_new got x) xs, new_short (contains got x) got x)

distinct_short : (b : Bool) (bs : List ℕ) → length (if b (λ _. add_all [] bs) (λ _. bs)) ≤ length bs
distinct_short true bs = omega (arith, added_short [] bs)
distinct_short false bs = omega arith

module _ (p : runs.Pass) (v : Visit) (bs : List ℕ) (pol : Polarity) (st : State) where
  -- expand_bounds is its visits and then the steps 2 to 5
  expand_is : (rest : Run ℕ) → expand_bounds p v rest bs pol st ≡ bind (each (λ (b : ℕ). v b pol) (deduplicated bs) st) (λ (xs : List ℕ). bounds_end p pol xs (λ _. rest))
  unfolding expand_bounds
  expand_is rest = refl

  expand_visited : (rest : Run ℕ)
      → expand_bounds p v rest bs pol st ≡ bind (visited v pol pol (deduplicated bs) st) (λ (xs : List ℕ). bounds_end p pol xs (λ _. rest))
  expand_visited rest =
      expand_is rest ∙ ap (λ (o : Out (List ℕ)). bind o (λ (xs : List ℕ). bounds_end p pol xs (λ _. rest))) (sym (visited_each v pol (deduplicated bs) st))

-- the cells below h did not change, so the lists held below it did not either
kept_below : {h : ℕ} (work work' : List ℕ) → ((k : ℕ) → k < h → cell work' k ≡ cell work k) → KeptBelow h work work'
kept_below work work' same = record { is = λ k lo hi. same k hi }

-- steps 2 to 5 of answers
abbrev ended : runs.Pass → Polarity → Out (List ℕ) → (List ℕ → Run ℕ) → Out ℕ
ended p pol o rest = bind o (λ (xs : List ℕ). bounds_end p pol xs rest)

-- where the answers are held
module _ (p : runs.Pass) (pol : Polarity) (o : Out (List ℕ)) (h : ℕ) (work work1 work2 work3 : List ℕ) (behind : held_at ≤ h)
    (same : (k : ℕ) → k < h → cell work1 k ≡ cell work k) (kept : (k : ℕ) → k < h → cell work3 k ≡ cell work2 k) where
  gathered_keyed : {n m : ℕ} {w : List ℕ} (f : Flow) → AnswersHeld o n w work1 work2 h m f → (x : ℕ) (st : State) → ended p pol o (λ _. give 0) ≡ ok x st
      → Keyed n st work3 × KeptBelow h work work3
  gathered_keyed (On q) a x st e =
      let g = a.is in
      let l = keeps_bounds_end p pol g.list (λ _. give 0) (λ _. keeps_give 0) g.after x st
      (ap (λ (z : Out (List ℕ)). ended p pol z (λ _. give 0)) (sym g.is) ∙ e) in (
        keyed_cells (keyed_later l g.keyed) (λ k lt. kept k (omega arith)),
        kept_both (kept_below work work1 same) (kept_both g.kept (kept_below work2 work3 kept)),
      )
  gathered_keyed (RefusedF k) a x st e = refused_not (ap (λ (z : Out (List ℕ)). ended p pol z (λ _. give 0)) (sym a.is) ∙ e)

  gathers_by : {n m : ℕ} {w w1 : List ℕ} (F : Run ℕ → Out ℕ) → ((rest : Run ℕ) → F rest ≡ ended p pol o (λ _. rest)) → (f : Flow) (r : Settled)
      → AnswersHeld o n w work1 work2 h m f → Settles (ended p pol o) w1 r → AnswersGathered F n w1 work work3 h r
  gathers_by F e f (NodeS x q) a d =
      let g = d.is in
      let k = gathered_keyed f a x g.after (g.is (λ _. give 0)) in
      record { is = record { after = g.after; is = λ rest. e rest ∙ g.is (λ _. rest); stands = g.stands; keyed = k.0; kept = k.1 } }
  gathers_by F e f (EmptyS y q) a d =
      let g = d.is in
      let k = gathered_keyed f a 0 g.after (g.is (λ _. give 0)) in
      record { is = record { after = g.after; is = λ rest. e rest ∙ g.is (λ _. rest); stands = g.stands; keyed = k.0; kept = k.1 } }
  gathers_by F e f (RefusedS j) a d = record { is = λ rest. e rest ∙ d.is (λ _. rest) }

module _ {table : List ℕ} {c : Canon} {w work : List ℕ} {free h : ℕ} {q : Pass} {n : ℕ} {pol : Polarity} {work1 work2 work3 w1 w2 : List ℕ}
    {m : ℕ} {f : Flow} {r : Settled} where
  pub gathers : Deduplicates work h n work1 m → length work1 ≡ length work → Each table c w work1 free h q m pol pol w1 work2 f → length work2 ≡ length work1
      → Normalizes table c w1 work2 h m f pol w2 work3 r → Gathered table c w work free h q n pol w2 work3 r
  gathers de size1 ea size2 nz =
      record {
        is = λ {p} {t} {st} {bs} po on hl u.
            let behind = po.roomed.behind in
            let fits = po.roomed.fits in
            let long = po.roomed.long in
            let many = hl.count in
            let d = de.is hl (poised_under bs po u) po.keyed.unseen behind (omega arith) in
            let few : m ≤ n = omega (arith, d.list.count, distinct_short (ltb 16 (length bs)) bs) in
            let po1 = poised_place (poised_slice po size1 (λ k lt. d.kept k (omega arith))) {h' = h} {own' = m} behind (omega arith) in
            let u1 : Under c.count (deduplicated bs) = distinct_known c.count bs u in
            let v = visit free p t in
            let o = visited v pol pol (deduplicated bs) st in
            let a = ea.is po1 on d.list u1 in
            let e = nz.is o (knows_given po.knows) (visited_held (visited (visit free p t) pol pol (deduplicated bs) st) f po1 size2
            (goes_visited p t po.tabled (visit free p t) (poised_mover free po) pol pol (deduplicated bs) st (poised_under (deduplicated bs) po u1)
            (poised_firm po on)) a).visits (poised_roomy po1 size2) in
            gathers_by p pol o h work work1 work2 work3 behind d.kept nz.kept (λ (rest : Run ℕ). expand_bounds p v rest bs pol st) (expand_visited p v bs pol st) f r a e;
      }

-- an expansion whose fallback does nothing, only moves
expand_moves : (p : runs.Pass) (t : Reader) → Tabled p t → (v : Visit) → Goer p t Any v → (bs : List ℕ) (pol : Polarity) (st : State) → Under p.count bs → Firm p.count Any st
    → (x : ℕ) (st' : State) → expand_bounds p v (give 0) bs pol st ≡ ok x st' → Moved p.count t st st'
expand_moves p t b v mv bs pol st u f x st' e =
    let c = parted (each (λ (d : ℕ). v d pol) (deduplicated bs)) (λ (xs : List ℕ). bounds_end p pol xs (λ _. give 0)) st x st' (sym (expand_is p v bs pol st (give 0)) ∙ e) in
    let g = goes_each p t b Any any_stays v mv pol (deduplicated bs) st (distinct_known p.count bs u) f c.value c.between c.first in
    let l = keeps_bounds_end p pol c.value (λ _. give 0) (λ _. keeps_give 0) c.between x st' c.second in
    moved_both g.moved (moved_later l)

-- the answer of a step from a slice on with the same lists held
answers_kept : {o : Out ℕ} {n : ℕ} {w work work1 work2 : List ℕ} {h : ℕ} {r : Given} → KeptBelow h work work1 → Answers o n w work1 work2 h r → Answers o n w work work2 h r
answers_kept {r = NodeG x q} k a =
    let g = a.is in
    record { is = record { after = g.after; is = g.is; stands = g.stands; keyed = g.keyed; kept = kept_both k g.kept } }
answers_kept {r = Refused j} k a = record { is = a.is }

-- bounds that are no more than the ids of their variable
poised_bounds : {table : List ℕ} {c : Canon} {work : List ℕ} {h own n : ℕ} {p : runs.Pass} {t : Reader} {st : State} {bs : List ℕ} → Poised table c work h own p t st
    → HeldList work h n bs → length bs ≤ own → Poised table c work h n p t st
poised_bounds {h = h} {n = n} po hl le = let e = hl.count in poised_place po {h' = h} {own' = n} po.roomed.behind (omega arith)

-- a result by another name
gathered_as : {table : List ℕ} {c : Canon} {w work : List ℕ} {free h : ℕ} {q : Pass} {n : ℕ} {pol : Polarity} {w' work' : List ℕ} {g r : Settled} → g ≡ r
    → Gathered table c w work free h q n pol w' work' g → Gathered table c w work free h q n pol w' work' r
gathered_as {table} {c} {w} {work} {free} {h} {q} {n} {pol} {w'} {work'} e a =
    subst (λ (z : Settled). Gathered table c w work free h q n pol w' work' z) e a

module _ {table : List ℕ} {c : Canon} {w work : List ℕ} {free h : ℕ} {q : Pass} {ch : ℕ} {begun : Begun} {n id : ℕ} {pol : Polarity} {w1 work1 : List ℕ} where
  -- a node
  pub expands_node : {g : Settled} {x : ℕ} {q1 : Pass} → Gathered table c w work free h q n pol w1 work1 g → g ≡ NodeS x q1
      → Expands table c w work free h q ch begun n id pol w1 work1 (NodeG x q1)
  expands_node ga0 e =
      let ga = gathered_as e ga0 in
      record {
        is = λ {p} {t} {st} {bs} va po on lt hl u le.
            let g = (ga.is (poised_bounds po hl le) on hl u).is in
            record { is = record { after = g.after; is = g.is _; stands = g.stands; keyed = g.keyed; kept = g.kept } };
      }

  -- nothing is left
  pub expands_empty : {g : Settled} {y : Option ℕ} {q1 : Pass} {w2 work2 : List ℕ} {r : Given} → Gathered table c w work free h q n pol w1 work1 g → g ≡ EmptyS y q1 → length work1 ≡ length work
      → FallsBackTo table c w1 work1 free h q1 ch begun id pol w2 work2 r → Expands table c w work free h q ch begun n id pol w2 work2 r
  expands_empty ga0 e size fa =
      let ga = gathered_as e ga0 in
      record {
        is = λ {p} {t} {st} {bs} va po on lt hl u le.
            let g = (ga.is (poised_bounds po hl le) on hl u).is in
            let v = visit free p t in
            let m = expand_moves p t po.tabled v (poised_mover free po) bs pol st (poised_under bs po u) (poised_firm po on) 0 g.after (g.is (give 0)) in
            answers_out (sym (g.is (expand_bounds_empty_fallback ch p t v (begun_of begun) id pol)))
            (answers_kept g.kept (fa.is va (poised_moved po m g.keyed size) g.stands lt));
      }

  pub expands_refused : {g : Settled} {k : ℕ} → Gathered table c w work free h q n pol w1 work1 g → g ≡ RefusedS k
      → Expands table c w work free h q ch begun n id pol w1 work1 (Refused k)
  expands_refused ga0 e =
      let ga = gathered_as e ga0 in
      record { is = λ {p} {t} {st} {bs} va po on lt hl u le. record { is = (ga.is (poised_bounds po hl le) on hl u).is _ } }

-- the list that a fallback begins is no longer than the ids of its variable
lowers_short : (e : Entry) → length (lowers e) ≤ length (kids e)
lowers_short (var l u) = omega (arith, length-append l u)
lowers_short (prim c) = omega arith
lowers_short (tyvar x) = omega arith
lowers_short (list a) = omega arith
lowers_short (fn a b) = omega arith
lowers_short (set_entry a) = omega arith
lowers_short (neg a) = omega arith
lowers_short (named n a) = omega arith
lowers_short (inter a b) = omega arith
lowers_short (union a b) = omega arith
lowers_short frozen = omega arith

uppers_short : (e : Entry) → length (uppers e) ≤ length (kids e)
uppers_short (var l u) = omega (arith, length-append l u)
uppers_short (prim c) = omega arith
uppers_short (tyvar x) = omega arith
uppers_short (list a) = omega arith
uppers_short (fn a b) = omega arith
uppers_short (set_entry a) = omega arith
uppers_short (neg a) = omega arith
uppers_short (named n a) = omega arith
uppers_short (inter a b) = omega arith
uppers_short (union a b) = omega arith
uppers_short frozen = omega arith

unmarked_short : (b : Bool) (xs : List ℕ) → length (if b (λ _. []) (λ _. xs)) ≤ length xs
unmarked_short true xs = omega arith
unmarked_short false xs = omega arith

begin_short : (p : runs.Pass) (t : Reader) (id : ℕ) (pol : Polarity) → length (begin_list p t id pol) ≤ length (kids (t id))
begin_short p t id Negative = omega (arith, unmarked_short (p.marked id || p.marked (p.rep id)) (lowers (t id)), lowers_short (t id))
begin_short p t id Positive = omega (arith, filter_length (λ (b : ℕ). is_atom t (t b)) (uppers (t id)), uppers_short (t id))

-- a list is empty if its length is 0
empty_length : {A : Type 0} (xs : List A) → empty xs ≡ eqb (length xs) 0
empty_length [] = sym (eq-eqb 0 0 refl)
empty_length (x ∷ xs) = sym (ne_eqb (suc (length xs)) 0 (λ z. omega arith))

module _ (p : runs.Pass) (t : Reader) (v : Visit) (g : runs.Begun) (id : ℕ) (pol : Polarity) (st : State) where
  fallback_spent : (ch : ℕ) → ch ≡ 0 → expand_bounds_empty_fallback ch p t v g id pol st ≡ variable p id st
  unfolding expand_bounds_empty_fallback
  fallback_spent ch e = ap (λ (c : ℕ). expand_bounds_empty_fallback c p t v g id pol st) e

  -- what a fallback goes on to
  abbrev begins : ℕ → Run ℕ
  begins c = expand_bounds p v (expand_bounds_empty_fallback c p t v (begin st.bailed g pol) id (flip pol)) (begin_list p t id pol) (flip pol)

  fallback_is : (c : ℕ) → expand_bounds_empty_fallback (suc c) p t v g id pol st
      ≡ if (empty (begin_list p t id pol) || both st.bailed (λ _. began g pol)) (λ _. variable p id) (λ _. begins c) st
  unfolding expand_bounds_empty_fallback
  fallback_is c = refl

  fallback_by : (ch : ℕ) (b : Bool) → (ch ≡ 0 → ⊥) → (empty (begin_list p t id pol) || both st.bailed (λ _. began g pol)) ≡ b
      → expand_bounds_empty_fallback ch p t v g id pol st ≡ if b (λ _. variable p id) (λ _. begins (ch - 1)) st
  fallback_by ch b some e =
      let z : ch ≡ suc (ch - 1) = omega arith in
      ap (λ (c : ℕ). expand_bounds_empty_fallback c p t v g id pol st) z ∙ fallback_is (ch - 1)
      ∙ ap (λ (y : Bool). if y (λ _. variable p id) (λ _. begins (ch - 1)) st) e

-- a variable's own node, from a slice on in which only cells from h on changed
answers_variable : {table : List ℕ} {c : Canon} {work : List ℕ} {h own : ℕ} {p : runs.Pass} {t : Reader} {st : State} {w : List ℕ} {q : Pass}
    {id : ℕ} {w' : List ℕ} {r : Given} (work' : List ℕ) → ((k : ℕ) → k < h → cell work' k ≡ cell work k) → Poised table c work h own p t st → Stands st w q
    → IsVariable table c w q id w' r → Answers (variable p id st) p.count w' work work' h r
answers_variable {work = work} {h = h} {p = p} {st = st} {id = id} work' same po on v =
    let behind = po.roomed.behind in
    answers_kept (kept_below work work' same)
    (answers_stored h (keeps_variable p id st) (keyed_cells po.keyed (λ k lt. same k (omega arith))) (v.is po.knows.reps on))

-- the ids that a fallback begins
begins_held : {table : List ℕ} {c : Canon} {work : List ℕ} {h id : ℕ} {pol : Polarity} {work1 : List ℕ} {n : ℕ} {p : runs.Pass} {t : Reader} {st : State}
    → BeginsList table c work h id pol work1 n → Poised table c work h (length (kids (t id))) p t st → id < c.count → is_variable (t id) ≡ true
    → HeldList work1 h n (begin_list p t id pol)
begins_held be po lt va =
    let fits = po.roomed.fits in
    let long = po.roomed.long in
    be.is po.knows lt va (omega arith)

-- whether no list is begun
cut_is : (st : State) {q : Pass} {begun : Begun} {pol : Polarity} {b : Bool} {work : List ℕ} {h n : ℕ} {bs : List ℕ} → st.bailed ≡ q.bailed → HeldList work h n bs → IsCut n q begun pol b
    → (empty bs || both st.bailed (λ _. began (begun_of begun) pol)) ≡ b
cut_is st {q = q} {begun = begun} {pol = pol} {bs = bs} e l cut =
    let rest : Bool → Bool = λ y. y || both q.bailed (λ _. began (begun_of begun) pol) in
    ap (λ (y : Bool). empty bs || both y (λ _. began (begun_of begun) pol)) e
    ∙ ap rest (empty_length bs ∙ ap (λ (m : ℕ). eqb m 0) (sym l.count)) ∙ sym cut.is

module _ {table : List ℕ} {c : Canon} {w work : List ℕ} {free h : ℕ} {q : Pass} {ch : ℕ} {begun : Begun} {id : ℕ} {pol : Polarity} {w' : List ℕ} {r : Given} where
  -- the chain is spent
  pub falls_spent : ch ≡ 0 → IsVariable table c w q id w' r → FallsBackTo table c w work free h q ch begun id pol w' work r
  falls_spent e v =
      record {
        is = λ {p} {t} {st} va po on lt.
            answers_out (sym (fallback_spent p t (visit free p t) (begun_of begun) id pol st ch e)) (answers_variable work (λ k hi. refl) po on v);
      }

  module _ {work1 : List ℕ} {n : ℕ} {b : Bool} where
    -- no list is begun
    pub falls_cut : (ch ≡ 0 → ⊥) → BeginsList table c work h id pol work1 n → IsCut n q begun pol b → b ≡ true → IsVariable table c w q id w' r
        → FallsBackTo table c w work free h q ch begun id pol w' work1 r
    falls_cut some be cut e v =
        record {
          is = λ {p} {t} {st} va po on lt.
              answers_out (sym (fallback_by p t (visit free p t) (begun_of begun) id pol st ch true some (cut_is st on.bailed (begins_held be po lt va) cut ∙ e)))
              (answers_variable work1 be.kept po on v);
        }

    -- a list is begun
    pub falls_on : {next : Begun} {pol' : Polarity} {work2 : List ℕ} → (ch ≡ 0 → ⊥) → BeginsList table c work h id pol work1 n → length work1 ≡ length work
        → IsCut n q begun pol b → b ≡ false → Begins begun pol q.bailed next → pol' ≡ flip pol → Expands table c w work1 free h q (ch - 1) next n id pol' w' work2 r
        → FallsBackTo table c w work free h q ch begun id pol w' work2 r
    falls_on {next} some be size cut e bg turn ex =
        record {
          is = λ {p} {t} {st} va po on lt.
              let hl = begins_held be po lt va in
              let bs = begin_list p t id pol in
              let g = begun_of begun in
              let v = visit free p t in
              let behind = po.roomed.behind in
              let u : Under c.count bs = subst (λ (m : ℕ). Under m bs) po.knows.count (begin_known p t po.tabled id pol (poised_entry po lt)) in
              let a = ex.is va (poised_slice po size (λ k low. be.kept k (omega arith))) on lt hl u (begin_short p t id pol) in
              let next-is : begun_of next ≡ begin st.bailed g pol = bg.is ∙ ap (λ (y : Bool). begin y g pol) (sym on.bailed) in
              answers_out
              (ap (λ (y : Polarity). expand_bounds p v (expand_bounds_empty_fallback (ch - 1) p t v (begun_of next) id y) bs y st) turn
              ∙ ap (λ (y : runs.Begun). expand_bounds p v (expand_bounds_empty_fallback (ch - 1) p t v y id (flip pol)) bs (flip pol) st) next-is
              ∙ sym (fallback_by p t v g id pol st ch false some (cut_is st on.bailed hl cut ∙ e)))
              (answers_kept (kept_below work work1 be.kept) a);
        }

-- a node that a step of the cycle gives is one, so that what follows it may rely on that
pub stores_of : {o : Out ℕ} {n : ℕ} {w work work' : List ℕ} {h : ℕ} (g : Given) → ((x : ℕ) (st : State) → o ≡ ok x st → x < length st.nodes)
    → Answers o n w work work' h g → Stores o w g
stores_of (NodeG x q) below a =
    let v = a.is in record { is = record { after = v.after; is = v.is; stands = v.stands; below = below x v.after v.is } }
stores_of (Refused k) below a = record { is = a.is }

-- what follows a step of the cycle and only stores
answers_end : {o o' : Out ℕ} {n : ℕ} {w w' work work' : List ℕ} {h : ℕ} (g r : Given) → ((y : ℕ) (st1 : State) (x : ℕ) (st2 : State) → o ≡ ok y st1 → o' ≡ ok x st2 → Later st1 st2)
    → ((k x : ℕ) (st2 : State) → o ≡ no k → o' ≡ ok x st2 → ⊥) → Answers o n w work work' h g → Stores o' w' r → Answers o' n w' work work' h r
answers_end (NodeG y q) (NodeG x q1) later never a d =
    let v = a.is in
    let e = d.is in
    record { is = record { after = e.after; is = e.is; stands = e.stands; keyed = keyed_later (later y v.after x e.after v.is e.is) v.keyed; kept = v.kept } }
answers_end (Refused k) (NodeG x q1) later never a d = absurd (never k x d.is.after a.is d.is.is)
answers_end g (Refused j) later never a d = record { is = d.is }

module _ (p : runs.Pass) (id : ℕ) (pol : Polarity) where
  own_later : (kept : Bool) (y : ℕ) (st1 : State) (x : ℕ) (st2 : State) → own_end p id pol kept (ok y st1) ≡ ok x st2 → Later st1 st2
  own_later true y st1 x st2 e = keeps_preserving p id pol y st1 x st2 e
  own_later false y st1 x st2 e = gave (λ _ s. Later st1 s) e (later_none st1)

  own_refused : (kept : Bool) (k x : ℕ) (st2 : State) → own_end p id pol kept (no k) ≡ ok x st2 → ⊥
  own_refused true k x st2 e = refused_not e
  own_refused false k x st2 e = refused_not e

  own_is : (t : Reader) (v : Visit) (xs : List ℕ) (kept : Bool) (st : State) → own_rule p t v id pol xs kept st ≡ own_end p id pol kept (expansion p t v id xs pol st)
  own_is t v xs true st = refl
  own_is t v xs false st = refl

-- the state once a polarity is noted
abbrev noted : ℕ → Polarity → State → State
noted r pol st =
    record { nodes = st.nodes; cells = st.cells; keys = st.keys; bits = set st.bits r (add_bit (cell st.bits r) pol); ops = st.ops; sorted = st.sorted; bailed = st.bailed }

-- cells that agree with those of a list at i, once both have x at k of the list
set_shifted : (b : Bool) (a i k x : ℕ) (xs ys : List ℕ) → eqb i k ≡ b → a + k < length xs → k < length ys
    → cell xs (a + i) ≡ cell ys i → cell (set xs (a + k) x) (a + i) ≡ cell (set ys k x) i
set_shifted true a i k x xs ys e l m f =
    let z : i ≡ k = eqb-true i k e in
    ap (λ (j : ℕ). cell (set xs (a + k) x) (a + j)) z ∙ get_or-set_same xs (a + k) x 0 l ∙ sym (get_or-set_same ys k x 0 m) ∙ ap (cell (set ys k x)) (sym z)
set_shifted false a i k x xs ys e l m f =
    let ne : i ≡ k → ⊥ = λ z. (let y = sym (eq-eqb i k z) ∙ e in let o : ◌≡◌ {A = ℕ} 0 1 = cc in absurd (omega arith)) in
    get_or-set_other xs (a + k) (a + i) x 0 (λ z. ne (omega arith)) ∙ f ∙ sym (get_or-set_other ys k i x 0 ne)

keyed_noted : {n : ℕ} {st : State} {work : List ℕ} (r : ℕ) (pol : Polarity) → Keyed n st work → r < n → counted_nodes ≤ length work → length st.bits ≡ n
    → Keyed n (noted r pol st) (set work (bits_at + r) (add_bit (cell work (bits_at + r)) pol))
keyed_noted {n} {st} {work} r pol kd lt long size =
    let few = kd.unseen.few in
    let y = add_bit (cell work (bits_at + r)) pol in
    let same : add_bit (cell st.bits r) pol ≡ y = ap (λ (b : ℕ). add_bit b pol) (sym (kd.bits r lt)) in
    record {
      keys = λ i l. get_or-set_other work (bits_at + r) i y 0 (λ z. omega arith) ∙ kd.keys i l;
      bits = λ v l.
          set_shifted (eqb v r) bits_at v r y work st.bits refl (omega arith) (omega arith) (kd.bits v l)
          ∙ ap (λ (b : ℕ). cell (set st.bits r b) v) (sym same);
      unseen = record { few = few; is = λ v l. get_or-set_other work (bits_at + r) (seen_at + v) y 0 (λ z. omega arith) ∙ kd.unseen.is v l };
    }

module _ {table : List ℕ} {c : Canon} {w work : List ℕ} {h own : ℕ} {q : Pass} {p : runs.Pass} {t : Reader} {st : State}
    (po : Poised table c work h own p t st) (on : Stands st w q) {id : ℕ} (lt : id < c.count) (pol : Polarity) {work1 : List ℕ} (nt : Notes table c work id pol work1) where
  note_is : work1 ≡ set work (bits_at + p.rep id) (add_bit (cell work (bits_at + p.rep id)) pol)
  note_is = nt.is ∙ ap (λ (j : ℕ). set work (bits_at + j) (add_bit (cell work (bits_at + j)) pol)) (sym (po.knows.reps.is id))

  stands_noted : Stands (noted (p.rep id) pol st) w q
  stands_noted = record { arena = on.arena; cells = on.cells; ops = on.ops; sorted = on.sorted; bailed = on.bailed }

  -- once its polarity is noted
  poised_noted : Poised table c work1 h own p t (noted (p.rep id) pol st)
  poised_noted =
      let r = p.rep id in
      let long = po.roomed.long in
      let went = goes_note p.count t Any any_stays r pol st (poised_firm po on) tt (noted r pol st) refl in
      let kd = keyed_noted r pol po.keyed (po.tabled.reps id (poised_entry po lt)) (omega arith) po.steady.bits in
      subst (λ (l : List ℕ). Poised table c l h own p t (noted r pol st)) (sym note_is)
      (poised_moved po went.moved kd (length-set work (bits_at + r) (add_bit (cell work (bits_at + r)) pol)))

  kept_noted : KeptBelow h work work1
  kept_noted =
      let r = p.rep id in
      let low = po.tabled.reps id (poised_entry po lt) in
      let few = po.keyed.unseen.few in
      record { is = λ k lo hi. ap (λ (l : List ℕ). cell l k) note_is ∙ get_or-set_other work (bits_at + r) k (add_bit (cell work (bits_at + r)) pol) 0 (λ z. omega arith) }

module _ (p : runs.Pass) (t : Reader) (v : Visit) (id : ℕ) (l u : List ℕ) (pol : Polarity) (st : State) where
  -- what a variable without a Named bound comes to
  abbrev missed : Run ℕ
  missed = note (p.rep id) pol >>= (λ _. variable_rule p t v id pol (bounds_of pol l u) (concretes t (bounds_of pol l u)))

  inner_is : canonicalize_inner p t v id l u pol st ≡ named_bound t (λ (b : ℕ). v b pol) missed (l ++ u) st
  unfolding canonicalize_inner
  inner_is = refl

  inner_missed : named_bound t (λ (b : ℕ). v b pol) missed (l ++ u) ≡ missed
      → canonicalize_inner p t v id l u pol st ≡ variable_rule p t v id pol (bounds_of pol l u) (concretes t (bounds_of pol l u)) (noted (p.rep id) pol st)
  inner_missed e = inner_is ∙ ap (λ (m : Run ℕ). m st) e

-- the bounds of a variable are entries, and its ids
module _ {table : List ℕ} {c : Canon} {work : List ℕ} {h : ℕ} {p : runs.Pass} {t : Reader} {st : State} {id : ℕ} {l u : List ℕ} (e : t id ≡ var l u)
    (po : Poised table c work h (length (kids (t id))) p t st) (lt : id < c.count) where
  bounds_under : Under c.count (l ++ u)
  bounds_under = subst (λ (en : Entry). Under c.count (kids en)) e (po.knows.reads.known id lt)

  bounds_many : length (kids (t id)) ≡ length l + length u
  bounds_many = ap (λ (en : Entry). length (kids en)) e ∙ length-append l u

  bounds_room : h + length l + length u ≤ length work
  bounds_room = let fits = po.roomed.fits in let long = po.roomed.long in omega (arith, bounds_many)

  named_found : {v : ℕ} {r : Option ℕ} → NamedBound table c v r → BoundsAt table v l u → NamedIs c.count t (l ++ u) r
  named_found nb ba = nb.is po.knows.reads ba (under_front c.count l u bounds_under) (under_back c.count l u bounds_under)

-- what stands nowhere else
pub nowhere : (f : Option ℕ) → ((b : ℕ) → f ≡ Some b → ⊥) → f ≡ None
nowhere (Some b) h = absurd (h b refl)
nowhere None h = refl

module _ {table : List ℕ} {c : Canon} {w work : List ℕ} {free h : ℕ} {q : Pass} {id v : ℕ} {pol : Polarity} {r : Given} where
  -- a Named bound
  pub inner_named : {f : Option ℕ} {b : ℕ} {w' work' : List ℕ} → NamedBound table c v f → f ≡ Some b → Visits table c w work free h q b pol w' work' r
      → Inner table c w work free h q id v pol w' work' r
  inner_named nb0 d vi =
      let nb = subst (λ (z : Option ℕ). NamedBound table c v z) d nb0 in
      record {
        is = λ {p} {t} {st} {l} {u} e ba po on lt.
            let f = named_found e po lt nb ba in
            let z = visit free p t in
            answers_out (sym (inner_is p t z id l u pol st ∙ ap (λ (m : Run ℕ). m st) (f.0 (λ (b : ℕ). z b pol) (missed p t z id l u pol st))))
            (vi.is (poised_place po {h' = h} {own' = 0} po.roomed.behind (omega arith)) on f.1);
      }

  module _ {work1 work2 : List ℕ} where
    -- the variable itself
    pub inner_variable : {f : Option ℕ} {o : Own} {w' : List ℕ} → NamedBound table c v f → f ≡ None → Notes table c work id pol work1 → OwnBounds table c work1 h id v pol work2 o → o ≡ Variable
        → IsVariable table c w q id w' r → Inner table c w work free h q id v pol w' work2 r
    inner_variable nb0 d nt ow0 d' va =
        let nb = subst (λ (z : Option ℕ). NamedBound table c v z) d nb0 in
        let ow = subst (λ (z : Own). OwnBounds table c work1 h id v pol work2 z) d' ow0 in
        record {
          is = λ {p} {t} {st} {l} {u} e ba po on lt.
              let z = visit free p t in
              let st1 = noted (p.rep id) pol st in
              let po1 = poised_noted po on lt pol nt in
              let b = bounds_under e po lt in
              let f = ow.is po.knows lt ba (under_front c.count l u b) (under_back c.count l u b) (bounds_room e po1 lt) in
              answers_out (sym (inner_missed p t z id l u pol st (named_found e po lt nb ba (λ (b : ℕ). z b pol) (missed p t z id l u pol st)) ∙ ap (λ (m : Run ℕ). m st1) (f z)))
              (answers_kept (kept_noted po on lt pol nt) (answers_variable work2 ow.kept po1 (stands_noted po on lt pol nt) va));
        }

    -- its own bounds, expanded
    pub inner_bounds : {f : Option ℕ} {o : Own} {n : ℕ} {kept : Bool} {none : Begun} {w1 work3 w2 : List ℕ} {g : Given} → NamedBound table c v f → f ≡ None
        → Notes table c work id pol work1 → OwnBounds table c work1 h id v pol work2 o → o ≡ Bounds n kept → length work2 ≡ length work1 → NoneBegun none
        → Expands table c w work2 free h q 4 none n id pol w1 work3 g → Expanded table c w1 g id pol kept w2 r
        → Inner table c w work free h q id v pol w2 work3 r
    inner_bounds {n = n} {kept = kept} {none = none} {g = g} nb0 d nt ow0 d' size nn ex vars =
        let nb = subst (λ (z : Option ℕ). NamedBound table c v z) d nb0 in
        let ow = subst (λ (z : Own). OwnBounds table c work1 h id v pol work2 z) d' ow0 in
        record {
          is = λ {p} {t} {st} {l} {u} e ba po on lt.
              let z = visit free p t in
              let st1 = noted (p.rep id) pol st in
              let on1 = stands_noted po on lt pol nt in
              let po1 = poised_noted po on lt pol nt in
              let behind = po.roomed.behind in
              let b = bounds_under e po lt in
              let f = ow.is po.knows lt ba (under_front c.count l u b) (under_back c.count l u b) (bounds_room e po1 lt) in
              let xs = f.list in
              let below = f.below in
              let o = expansion p t z id xs pol st1 in
              let few : length xs ≤ length (kids (t id)) = omega (arith, f.few, bounds_short pol l u, bounds_many e po lt) in
              let po2 = poised_slice po1 size (λ k low. ow.kept k (omega arith)) in
              let a0 = ex.is (ap is_variable e) po2 on1 lt f.held (subst (λ (m : ℕ). Under m xs) po.knows.count below) few in
              let a = answers_kept (kept_both (kept_noted po on lt pol nt) (kept_below work1 work2 ow.kept))
              (answers_out (ap (λ (y : runs.Begun). expand_bounds p z (expand_bounds_empty_fallback 4 p t z y id pol) xs pol st1) nn.is) a0) in
              let went = goes_expansion p t po.tabled Any any_stays z (poised_mover free po) id xs pol st1 (poised_entry po lt) below (poised_firm po1 on1) in
              answers_out (sym (inner_missed p t z id l u pol st (named_found e po lt nb ba (λ (b : ℕ). z b pol) (missed p t z id l u pol st)) ∙ ap (λ (m : Run ℕ). m st1) (f.is z)
              ∙ own_is p id pol t z xs kept st1))
              (answers_end g r
              (λ y s3 x s4 i j. own_later p id pol kept y s3 x s4 (ap (own_end p id pol kept) (sym i) ∙ j))
              (λ k x s4 i j. own_refused p id pol kept k x s4 (ap (own_end p id pol kept) (sym i) ∙ j)) a
              (vars.is o po.knows.reps (stores_of g (λ x s3 i. (went x s3 i).fact) a)));
        }
