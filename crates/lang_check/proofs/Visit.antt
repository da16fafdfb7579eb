-- canonicalize_child: what each way through `visit` comes to. Assumes nothing.
use mathlib.Core.Path.{◌≡◌, refl, sym, ap, ◌∙◌, subst}
use mathlib.Core.Bool.{Bool, true, false}
use Prim.Native.Nat.{ℕ, zero, suc, ◌+◌, ◌*◌, ◌-◌, ◌%◌, ◌≤◌, ◌<◌}
use native.Mathlib.Omega.{arith}
use mathlib.Core.List.{List}
use lib.ListN.{length, set, length-set}
use lib.Seq.{get_or-set_same, get_or-set_other}
use lib.Dec.{eqb, ltb}
use borrow.Author.Tests.{eqb-true, eq-eqb}
use Rattle.cells.specs.Part.{if, cell}
use Rattle.cells.proofs.Choices.{true_false}
use Rattle.layout.specs.Layout.{held_at, seen_at, work_length, bits_at}
use Rattle.rules.specs.Plain.{both}
use Rattle.rules.specs.Table.{kids}
use Rattle.rules.specs.Types.{State, Out, ok, Run, bind, ◌>>=◌, refuse, sign}
use Rattle.rules.specs.Canonicalizer.{Reader, variable, count_one, check_budget, exceeds, tick, slot, key_at, look, work, entered, visit, rule}
use Rattle.rules.specs.Canonicalizer as runs
use Rattle.rules.specs.declared.Polarity.{Polarity}
use Rattle.rules.specs.declared.Polarity.TheVariants.{Positive, Negative}
use Rattle.laws.proofs.Keeping.{keeps_variable}
use Rattle.laws.proofs.Loading.{load_take}
use Rattle.laws.proofs.Moving.{Firm, Any, any_stays, firm_any, goes_rule, named_keys}
use Rattle.lang_ty.specs.declared.arena.Pass.{Pass}
use Rattle.lang_ty.specs.Given.{Given}
use Rattle.lang_ty.specs.Given.{Node as NodeG, Refused}
use Rattle.lang_ty.specs.Nodes.{Stands}
use Rattle.lang_ty.proofs.Words.{arena_pass}
use Rattle.storage.specs.declared.given.Canon.{Canon}
use Rattle.storage.specs.Passes.{Knows}
use Rattle.storage.specs.Notes.{Slot, PassWith, Exceeds}
use Rattle.storage.specs.Vars.{IsVariable}
use Rattle.lang_check.specs.Cycle.{Keyed, Poised, Answers, Visits, Rules, Caches}
use Rattle.lang_check.proofs.Poised.{stands_rooted, poised_mover, poised_entry, keyed_state, kept_none, answers_out, answers_stored}

-- what a visit goes on to where its key is free
abbrev ahead : ℕ → runs.Pass → Reader → ℕ → Polarity → Run ℕ
ahead zero p t id pol = refuse 6
ahead (suc f) p t id pol = work p t (visit f p t) id pol

visit_is : (f : ℕ) (p : runs.Pass) (t : Reader) (id : ℕ) (pol : Polarity) (st : State) → visit f p t id pol st ≡ entered p id pol (ahead f p t id pol) st
unfolding visit
visit_is zero p t id pol st = refl
visit_is (suc f) p t id pol st = refl

-- the state once the visit is counted and the budget checked
abbrev counted : runs.Pass → State → State
counted p st =
    record { nodes = st.nodes; cells = st.cells; keys = st.keys; bits = st.bits; ops = tick st.ops; sorted = st.sorted; bailed = exceeds p (tick st.ops) }

module _ (p : runs.Pass) (id : ℕ) (pol : Polarity) (w : Run ℕ) (st : State) where
  abbrev looked : Run ℕ
  looked = key_at (slot id pol) >>= look p id w

  abbrev onward : Run ℕ
  onward = count_one >>= (λ _. check_budget p >>= (λ (over : Bool). if over (λ _. variable p id) (λ _. looked)))

  entered_bailed : st.bailed ≡ true → entered p id pol w st ≡ variable p id st
  unfolding entered
  entered_bailed e = ap (λ (b : Bool). if b (λ _. variable p id) (λ _. onward) st) e

  entered_over : st.bailed ≡ false → exceeds p (tick st.ops) ≡ true → entered p id pol w st ≡ variable p id (counted p st)
  unfolding entered
  entered_over e f =
      ap (λ (b : Bool). if b (λ _. variable p id) (λ _. onward) st) e
      ∙ ap (λ (b : Bool). if b (λ _. variable p id) (λ _. looked) (counted p st)) f

  entered_look : st.bailed ≡ false → exceeds p (tick st.ops) ≡ false → (k : ℕ) → cell st.keys (slot id pol) ≡ k → entered p id pol w st ≡ look p id w k (counted p st)
  unfolding entered
  entered_look e f k z =
      ap (λ (b : Bool). if b (λ _. variable p id) (λ _. onward) st) e
      ∙ ap (λ (b : Bool). if b (λ _. variable p id) (λ _. looked) (counted p st)) f
      ∙ ap (λ (j : ℕ). look p id w j (counted p st)) z

-- a state of the same nodes, with the operations and the bail of another pass
stands_with : {st : State} {w : List ℕ} {q r : Pass} {o : ℕ} {b : Bool} (ks bs : List ℕ) → Stands st w q → PassWith q o b r
    → Stands (record { nodes = st.nodes; cells = st.cells; keys = ks; bits = bs; ops = o; sorted = st.sorted; bailed = b }) w r
stands_with ks bs on e =
    record {
      arena = arena_pass (sym e.nodes) (sym e.cells) on.arena;
      cells = on.cells ∙ sym e.cells;
      ops = sym e.ops;
      sorted = on.sorted ∙ sym e.sorted;
      bailed = sym e.bailed;
    }

sign_small : (pol : Polarity) → sign pol ≤ 1
sign_small Positive = omega arith
sign_small Negative = omega arith

module _ {table : List ℕ} {c : Canon} {work : List ℕ} {h own : ℕ} {p : runs.Pass} {t : Reader} {st : State} (po : Poised table c work h own p t st)
    {id : ℕ} (lt : id < c.count) (pol : Polarity) where
  -- the key's place
  slot_below : slot id pol < 2 * p.count
  slot_below = let a = sign_small pol in let b = poised_entry po lt in omega arith

  slot_is : {r : ℕ} → Slot id pol r → r ≡ slot id pol
  slot_is a = let b = po.knows.few in a.is (omega arith)

  slot_low : slot id pol < bits_at
  slot_low = let a = slot_below in let b = po.keyed.unseen.few in omega arith

  key_is : {r k : ℕ} → Slot id pol r → k ≡ cell work r → cell st.keys (slot id pol) ≡ k
  key_is {r} {k} a e = sym (e ∙ ap (cell work) (slot_is a) ∙ po.keyed.keys (slot id pol) slot_below)

-- whether the budget is exceeded, by the rules
exceeds_is : {table : List ℕ} {c : Canon} {p : runs.Pass} {t : Reader} {st : State} {w : List ℕ} {q r : Pass} {b : Bool} → Knows table c p t → Stands st w q
    → PassWith q (tick q.ops) q.bailed r → Exceeds c r b → exceeds p (tick st.ops) ≡ b
exceeds_is {c = c} {p = p} {st = st} {r = r} k on e x =
    let F : ℕ → ℕ → ℕ → Bool = λ o b z. both (eqb (o % 512) 0) (λ _. ltb b (z + o)) in
    ap (λ (b : ℕ). F (tick st.ops) b p.spent) k.budget ∙ ap (λ (z : ℕ). F (tick st.ops) c.budget z) k.spent
    ∙ ap (λ (o : ℕ). F o c.budget c.spent) (ap tick on.ops ∙ sym e.ops) ∙ sym x.is

-- a visit that is counted and within the budget, and what it finds at its key
module _ {table : List ℕ} {c : Canon} {w work : List ℕ} {h : ℕ} {q q1 : Pass} {b : Bool} (e : q.bailed ≡ false) (one : PassWith q (tick q.ops) q.bailed q1) (x : Exceeds c q1 b)
    (z : b ≡ false) {p : runs.Pass} {t : Reader} {st : State} (po : Poised table c work h 0 p t st) (on : Stands st w q) where
  within : exceeds p (tick st.ops) ≡ false
  within = exceeds_is po.knows on one x ∙ z

  counted_with : PassWith q (tick st.ops) (exceeds p (tick st.ops)) q1
  counted_with =
      record { nodes = one.nodes; cells = one.cells; ops = one.ops ∙ ap tick (sym on.ops); sorted = one.sorted; bailed = one.bailed ∙ e ∙ sym within }

  stands_counted : Stands (counted p st) w q1
  stands_counted = stands_with st.keys st.bits on counted_with

  visit_looks : (free id : ℕ) (pol : Polarity) (k : ℕ) → cell st.keys (slot id pol) ≡ k → visit free p t id pol st ≡ look p id (ahead free p t id pol) k (counted p st)
  visit_looks free id pol k f = visit_is free p t id pol st ∙ entered_look p id pol (ahead free p t id pol) st (on.bailed ∙ e) within k f

module _ {table : List ℕ} {c : Canon} {w work : List ℕ} {free h : ℕ} {q : Pass} {id : ℕ} {pol : Polarity} {w' : List ℕ} {r : Given} where
  -- bailed
  pub visits_bailed : q.bailed ≡ true → IsVariable table c w q id w' r → Visits table c w work free h q id pol w' work r
  visits_bailed e v =
      record {
        is = λ {p} {t} {st} po on lt.
            answers_out (sym (visit_is free p t id pol st ∙ entered_bailed p id pol (ahead free p t id pol) st (on.bailed ∙ e)))
            (answers_stored h (keeps_variable p id st) po.keyed (v.is po.knows.reps on));
      }

  -- over the budget
  pub visits_over : {q1 q2 : Pass} {b : Bool} → q.bailed ≡ false → PassWith q (tick q.ops) q.bailed q1 → Exceeds c q1 b → b ≡ true → PassWith q1 q1.ops true q2
      → IsVariable table c w q2 id w' r → Visits table c w work free h q id pol w' work r
  visits_over {q1} {q2} e one x b two v =
      record {
        is = λ {p} {t} {st} po on lt.
            let f : exceeds p (tick st.ops) ≡ true = exceeds_is po.knows on one x ∙ b in
            let with : PassWith q (tick st.ops) (exceeds p (tick st.ops)) q2 =
            record {
              nodes = two.nodes ∙ one.nodes;
              cells = two.cells ∙ one.cells;
              ops = two.ops ∙ one.ops ∙ ap tick (sym on.ops);
              sorted = two.sorted ∙ one.sorted;
              bailed = two.bailed ∙ sym f;
            } in
            answers_out (sym (visit_is free p t id pol st ∙ entered_over p id pol (ahead free p t id pol) st (on.bailed ∙ e) f))
            (answers_stored h (keeps_variable p id (counted p st)) (keyed_state refl refl po.keyed) (v.is po.knows.reps (stands_with st.keys st.bits on with)));
      }

  -- in progress
  pub visits_busy : {q1 : Pass} {b : Bool} {sl k : ℕ} → q.bailed ≡ false → PassWith q (tick q.ops) q.bailed q1 → Exceeds c q1 b → b ≡ false → Slot id pol sl → k ≡ cell work sl → k ≡ 1
      → IsVariable table c w q1 id w' r → Visits table c w work free h q id pol w' work r
  visits_busy e one x z a f g v =
      record {
        is = λ {p} {t} {st} po on lt.
            answers_out (sym (visit_looks e one x z po on free id pol 1 (key_is po lt pol a f ∙ g)))
            (answers_stored h (keeps_variable p id (counted p st)) (keyed_state refl refl po.keyed) (v.is po.knows.reps (stands_counted e one x z po on)));
      }

module _ {table : List ℕ} {c : Canon} {w work : List ℕ} {free h : ℕ} {q : Pass} {id : ℕ} {pol : Polarity} {q1 : Pass} {b : Bool} {sl k : ℕ} where
  -- cached
  pub visits_cached : q.bailed ≡ false → PassWith q (tick q.ops) q.bailed q1 → Exceeds c q1 b → b ≡ false → Slot id pol sl → k ≡ cell work sl → 1 < k
      → Visits table c w work free h q id pol w work (NodeG (k - 2) q1)
  visits_cached e one x z a f g =
      record {
        is = λ {p} {t} {st} po on lt.
            let n : k ≡ suc (suc (k - 2)) = omega arith in
            record {
              is = record {
                after = counted p st;
                is = visit_looks e one x z po on free id pol (suc (suc (k - 2))) (key_is po lt pol a f ∙ n);
                stands = stands_counted e one x z po on;
                keyed = keyed_state refl refl po.keyed;
                kept = kept_none h work;
              };
            };
      }

  -- "6 .. a 97th key would be in progress"
  pub visits_full : q.bailed ≡ false → PassWith q (tick q.ops) q.bailed q1 → Exceeds c q1 b → b ≡ false → Slot id pol sl → k ≡ cell work sl → (k ≡ 1 → ⊥) → k ≤ 1 → free ≡ 0
      → Visits table c w work free h q id pol w work (Refused 6)
  visits_full e one x z a f busy cached n =
      record {
        is = λ {p} {t} {st} po on lt.
            let g : k ≡ 0 = omega arith in
            record { is = visit_looks e one x z po on free id pol 0 (key_is po lt pol a f ∙ g) ∙ ap (λ (j : ℕ). ahead j p t id pol (counted p st)) n };
      }

-- a state with another key
abbrev with_key : State → ℕ → ℕ → State
with_key st k x =
    record { nodes = st.nodes; cells = st.cells; keys = set st.keys k x; bits = st.bits; ops = st.ops; sorted = st.sorted; bailed = st.bailed }

-- two lists that agree at i agree there once both have x at k
set_both : (b : Bool) (i k x : ℕ) (xs ys : List ℕ) → eqb i k ≡ b → k < length xs → k < length ys → cell xs i ≡ cell ys i → cell (set xs k x) i ≡ cell (set ys k x) i
set_both true i k x xs ys e l m f =
    let z : i ≡ k = eqb-true i k e in
    ap (cell (set xs k x)) z ∙ get_or-set_same xs k x 0 l ∙ sym (get_or-set_same ys k x 0 m) ∙ ap (cell (set ys k x)) (sym z)
set_both false i k x xs ys e l m f =
    let ne : i ≡ k → ⊥ = λ z. true_false (sym (eq-eqb i k z) ∙ e) in
    get_or-set_other xs k i x 0 ne ∙ f ∙ sym (get_or-set_other ys k i x 0 ne)

keyed_set : {n : ℕ} {st : State} {work : List ℕ} (k x : ℕ) → Keyed n st work → k < 2 * n → 2 * n ≤ length work → length st.keys ≡ 2 * n → Keyed n (with_key st k x) (set work k x)
keyed_set {n} {st} {work} k x kd lt long size =
    let few = kd.unseen.few in
    record {
      keys = λ i l. set_both (eqb i k) i k x work st.keys refl (omega arith) (omega arith) (kd.keys i l);
      bits = λ v l. get_or-set_other work k (bits_at + v) x 0 (λ z. omega arith) ∙ kd.bits v l;
      unseen = record { few = few; is = λ v l. get_or-set_other work k (seen_at + v) x 0 (λ z. omega arith) ∙ kd.unseen.is v l };
    }

-- while an entry is worked out its key is in progress, and there is room for its ids
poised_work : {table : List ℕ} {c : Canon} {work : List ℕ} {h : ℕ} {p : runs.Pass} {t : Reader} {st : State} → Poised table c work h 0 p t st → {id : ℕ} → id < c.count
    → (pol : Polarity) → cell st.keys (slot id pol) ≡ 0 → Poised table c (set work (slot id pol) 1) h (length (kids (t id))) p t (with_key (counted p st) (slot id pol) 1)
poised_work {work = work} {p = p} {t = t} {st = st} po {id} lt pol z =
    let sl = slot id pol in
    let b = slot_below po lt pol in
    let low = slot_low po lt pol in
    let long = po.roomed.long in
    let fits = po.roomed.fits in
    let few = po.keyed.unseen.few in
    let size = length-set work sl 1 in
    let take = load_take t st.keys id pol (poised_entry po lt) po.steady.keys z in
    record {
      knows = po.knows;
      tabled = po.tabled;
      keyed = keyed_set sl 1 (keyed_state refl refl po.keyed) b (omega arith) po.steady.keys;
      steady = record {
        sound = record { ordered = po.steady.sound.ordered; counted = po.steady.sound.counted };
        keys = length-set st.keys sl 1 ∙ po.steady.keys;
        bits = po.steady.bits;
        stored = named_keys p.count t Any any_stays (length st.nodes + 2) 1 st.keys sl (omega arith) po.steady.stored;
      };
      roomed = record { behind = po.roomed.behind; fits = omega arith; long = omega arith };
    }

-- the key's answer, cached
abbrev cached_out : ℕ → Out ℕ → Out ℕ
cached_out sl o = bind o (λ (x : ℕ) (s : State). ok x (with_key s sl (x + 2)))

works_by : (o : Out ℕ) (n sl : ℕ) {w work work1 work2 work3 : List ℕ} {h : ℕ} (g : Given) {r : Given} → Answers o n w work1 work2 h g → Caches work2 sl g work3 r
    → ((x : ℕ) (st : State) → o ≡ ok x st → (x < length st.nodes) × (length st.keys ≡ 2 * n)) → work1 ≡ set work sl 1 → sl < 2 * n → work_length ≤ length work2 → held_at ≤ h
    → Answers (cached_out sl o) n w work work3 h g
works_by o n sl {work = work} {work2 = work2} {work3 = work3} (NodeG x q) a ca below e lt long behind =
    let v = a.is in
    let b = below x v.after v.is in
    let few = v.keyed.unseen.few in
    let nodes = v.stands.arena.count in
    let most = v.stands.arena.few in
    let is3 : work3 ≡ set work2 sl (x + 2) = ca.node x q refl (omega arith) in
    record {
      is = record {
        after = with_key v.after sl (x + 2);
        is = ap (cached_out sl) v.is;
        stands = record { arena = v.stands.arena; cells = v.stands.cells; ops = v.stands.ops; sorted = v.stands.sorted; bailed = v.stands.bailed };
        keyed = subst (λ (l : List ℕ). Keyed n (with_key v.after sl (x + 2)) l) (sym is3) (keyed_set sl (x + 2) v.keyed lt (omega arith) b.1);
        kept = record {
          is = λ k lo hi.
              ap (λ (l : List ℕ). cell l k) is3 ∙ get_or-set_other work2 sl k (x + 2) 0 (λ z. omega arith) ∙ v.kept.is k lo hi
              ∙ ap (λ (l : List ℕ). cell l k) e ∙ get_or-set_other work sl k 1 0 (λ z. omega arith);
        };
      };
    }
works_by o n sl (Refused k) a ca below e lt long behind = record { is = ap (cached_out sl) a.is }

module _ {table : List ℕ} {c : Canon} {w work : List ℕ} {free h : ℕ} {q : Pass} {id : ℕ} {pol : Polarity} {w' : List ℕ} {q1 : Pass} {b : Bool} {sl k : ℕ}
    {g r : Given} {work1 work2 work3 : List ℕ} where
  -- worked out
  pub visits_works : q.bailed ≡ false → PassWith q (tick q.ops) q.bailed q1 → Exceeds c q1 b → b ≡ false → Slot id pol sl → k ≡ cell work sl → (k ≡ 1 → ⊥) → k ≤ 1 → (free ≡ 0 → ⊥)
      → work1 ≡ set work sl 1 → Rules table c w work1 (free - 1) h q1 id pol w' work2 g → length work2 ≡ length work1 → Caches work2 sl g work3 r
      → Visits table c w work free h q id pol w' work3 r
  visits_works e one x z a f busy cached full set1 ru size ca =
      record {
        is = λ {p} {t} {st} po on lt.
            let here = slot_is po lt pol a in
            let key : cell st.keys (slot id pol) ≡ 0 = key_is po lt pol a f ∙ omega arith in
            let suc-free : free ≡ suc (free - 1) = omega arith in
            let st1 = with_key (counted p st) (slot id pol) 1 in
            let first : work1 ≡ set work (slot id pol) 1 = set1 ∙ ap (λ (j : ℕ). set work j 1) here in
            let pw = poised_work po lt pol key in
            let long1 = pw.roomed.long in
            let on1 = stands_with (set st.keys (slot id pol) 1) st.bits on (counted_with e one x z po on) in
            let firm : Firm p.count Any st1 = firm_any pw.steady (stands_rooted on) in
            let ans = ru.is {st = st1} (subst (λ (l : List ℕ). Poised table c l h (length (kids (t id))) p t st1) (sym first) pw) on1 lt in
            let went = goes_rule p t po.tabled Any any_stays (visit (free - 1) p t) (poised_mover (free - 1) po) id (t id) pol st1 (poised_entry po lt)
            (po.tabled.known id (poised_entry po lt)) (po.tabled.orderly id (poised_entry po lt)) firm in
            answers_out (sym (visit_looks e one x z po on free id pol 0 key ∙ ap (λ (j : ℕ). ahead j p t id pol (counted p st)) suc-free))
            (subst (λ (y : Given). Answers (cached_out (slot id pol) (rule p t (visit (free - 1) p t) id (t id) pol st1)) p.count w' work work3 h y) (sym ca.same)
            (works_by (rule p t (visit (free - 1) p t) id (t id) pol st1) p.count (slot id pol) g ans (subst (λ (j : ℕ). Caches work2 j g work3 r) here ca)
            (λ y st2 d. let v = went y st2 d in (v.fact, v.firm.steady.keys)) first (slot_below po lt pol) (let z1 = ap length first in omega arith) po.roomed.behind));
      }
