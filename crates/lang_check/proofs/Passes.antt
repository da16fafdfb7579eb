-- A pass from nothing, the set that the second pass preserves, and a root's answer. Assumes nothing.
use mathlib.Core.Path.{◌≡◌, refl, sym, ap, ap₂, ◌∙◌, subst}
use mathlib.Core.Bool.{Bool, true, false, not, ◌||◌}
use mathlib.Core.Logic.{inl, inr, ⊎_elim}
use Prim.Native.Nat.{ℕ, zero, suc, ◌+◌, ◌-◌, ◌*◌, ◌≤◌, ◌<◌}
use native.Mathlib.Omega.{arith}
use native.Mathlib.Nat.{eq-or-lt_of_le}
use mathlib.Core.List.{List, [], ◌∷◌, ◌++◌}
use lib.ListN.{length, get_or-eq_default}
use lib.Seq.{get_or-set_same, get_or-set_other}
use lib.Dec.{eqb, ltb}
use borrow.Author.Tests.{ltb-true, ltb-false, eq-eqb, ne_eqb, not-true, not-false}
use Rattle.cells.specs.Part.{if, run, cell, part}
use Rattle.cells.specs.Sum.{Sum}
use Rattle.cells.specs.Clears.{Clears}
use Rattle.cells.proofs.Parts.{run_snoc, cell_zero}
use Rattle.cells.proofs.Holding.{holds_from}
use Rattle.cells.proofs.Choices.{true_false, if_same}
use Rattle.layout.specs.Layout.{bits_at, held_at, preserved_at, seen_at, marks_at}
use Rattle.rules.specs.Plain.{any}
use Rattle.rules.specs.Ceilings.{most_operations, most_entries}
use Rattle.rules.specs.Types.{State, ok}
use Rattle.rules.specs.Canonicalizer.{Reader, is_both, fresh, pass, shown, after_first, after_second, with_set, canonicalize, visit}
use Rattle.rules.specs.Canonicalizer as runs
use Rattle.laws.specs.Sound.{Tabled}
use Rattle.rules.specs.declared.Polarity.{Polarity}
use Rattle.laws.proofs.Storing.{Rooted, rooted_none}
use Rattle.laws.proofs.Loading.{load_fresh}
use Rattle.laws.proofs.Moving.{Moved, visit_moves, steady_fresh}
use Rattle.lang_ty.specs.declared.arena.Pass.{Pass}
use Rattle.lang_ty.specs.Given.{Given}
use Rattle.lang_ty.specs.declared.arena.Shown.{Shown}
use Rattle.lang_ty.specs.Given.{Node as NodeG, Refused}
use Rattle.lang_ty.specs.Nodes.{Stands, Fresh, shown_of, Answers as Stores}
use Rattle.lang_ty.proofs.Stores.{stands_none}
use Rattle.storage.proofs.Alike.{reads_alike}
use Rattle.storage.specs.declared.given.Canon.{Canon}
use Rattle.storage.specs.Passes.{rep_of, Reps, Knows}
use Rattle.storage.specs.declared.notes.PolarityBits.{PolarityBits}
use Rattle.storage.specs.Notes.{IsBoth}
use Rattle.lang_check.specs.RootAnswer.{RootAnswer}
use Rattle.lang_check.specs.RootAnswer.{Shown as ShownR, Refused as RefusedR}
use Rattle.lang_check.specs.Cycle.{Keyed, Poised, Answers, Visits}
use Rattle.lang_check.specs.Roots.{NoneCounted, LentTo, OnePass, BitsEnd, AnyBoth, PreservesIf, Detects, Or, RootIs, first_of, FirstShown, SecondShown, NonePreserved, Canonicalizes}
use Rattle.lang_check.proofs.Poised.{answers_out}
use Rattle.lang_check.proofs.Expand.{stores_of}
use Rattle.lang_check.proofs.Answered.{answers_base}

pass_is : (p : runs.Pass) (t : Reader) (id : ℕ) (pol : Polarity) → pass p t id pol ≡ visit 96 p t id pol (fresh p.count)
unfolding pass
pass_is p t id pol = refl

module _ {table : List ℕ} {c : Canon} {w w1 work work1 work2 work3 : List ℕ} {two : ℕ} {q : Pass} {id : ℕ} {pol : Polarity} {w' work' : List ℕ} {r : Given} where
  pub one_pass : Sum c.count c.count two → Clears work 0 two work1 → Clears work1 bits_at c.count work2 → Clears work2 seen_at c.count work3 → Fresh w w1 → NoneCounted q
      → Visits table c w1 work3 96 held_at q id pol w' work' r → length work1 ≡ length work → length work2 ≡ length work1 → length work3 ≡ length work2
      → OnePass table c w work id pol w' work' r
  one_pass sum a b d e none v len1 len2 len3 =
      record {
        is = λ {p} {t} k tb lent lt.
            let few = k.few in
            let n = k.count in
            let twice : two ≡ c.count + c.count = sum.is (omega arith) in
            let fr = load_fresh t p.count in
            let ids = tb.ids in
            let long = lent.work in
            let keyed : Keyed p.count (fresh p.count) work3 =
            record {
              keys = λ i l. d.before i (omega arith) ∙ b.before i (omega arith) ∙ a.zero i (omega arith) (omega arith) ∙ sym (cell_zero (2 * p.count) i);
              bits = λ i l. d.before (bits_at + i) (omega arith) ∙ b.zero (bits_at + i) (omega arith) (omega arith) ∙ sym (cell_zero p.count i);
              unseen = record { few = omega arith; is = λ i l. d.zero (seen_at + i) (omega arith) (omega arith) };
            } in
            let poised : Poised table c work3 held_at 0 p t (fresh p.count) =
            record {
              knows = k;
              tabled = tb;
              keyed = keyed;
              steady = steady_fresh p.count;
              roomed = record { behind = omega arith; fits = omega arith; long = omega arith };
            } in
            let on : Stands (fresh p.count) w1 q = stands_none e refl refl (sym none.ops) (sym none.sorted) (sym none.bailed) none.nodes none.cells lent.arena in
            let ans = v.is poised on lt in
            answers_out (sym (pass_is p t id pol)) (answers_base (λ x st z. record { is = λ j lo hi. absurd (omega arith) }) ans);
      }

-- a pass's operations stay within their ceiling, and its result is a node
module _ {table : List ℕ} {c : Canon} {p : runs.Pass} {t : Reader} (k : Knows table c p t) (tb : Tabled p t) {id : ℕ} (lt : id < c.count) (pol : Polarity) where
  pass_moves : (x : ℕ) (st : State) → pass p t id pol ≡ ok x st → Moved p.count t (fresh p.count) st × (x < length st.nodes) × Rooted st.nodes
  pass_moves x st e =
      visit_moves p t tb 96 id pol (fresh p.count) x st (subst (λ (n : ℕ). id < n) (sym k.count) lt) (steady_fresh p.count) rooted_none (sym (pass_is p t id pol) ∙ e)

  pass_most : (x : ℕ) (st : State) → pass p t id pol ≡ ok x st → st.ops ≤ most_operations
  pass_most x st e = (pass_moves x st e).0.counted (omega arith)

  pass_stores : {n : ℕ} {w work work' : List ℕ} {h : ℕ} (g : Given) → Answers (pass p t id pol) n w work work' h g → Stores (pass p t id pol) w g
  pass_stores g a = stores_of g (λ x st e. (pass_moves x st e).1) a

module _ {work : List ℕ} {count : ℕ} where
  pub bits_end_few : {e : ℕ} → e ≡ bits_at + count → e < length work → BitsEnd work count e
  bits_end_few e lt = record { within = omega arith; few = omega arith; is = inl e }

  pub bits_end_all : {e : ℕ} → e ≡ bits_at + count → length work ≤ e → BitsEnd work count (length work)
  bits_end_all e le = record { within = omega arith; few = omega arith; is = inr refl }

  pub bits_in : {e i : ℕ} → BitsEnd work count e → i < e → i < length work
  bits_in h lt = omega (arith, h.within)

-- one more number at the end
any_last : (xs : List ℕ) (y : ℕ) → any is_both (xs ++ (y ∷ [])) ≡ any is_both xs || is_both y
any_last [] y = turn (is_both y) where
  turn : (b : Bool) → if b (λ _. true) (λ _. false) ≡ b
  turn true = refl
  turn false = refl
any_last (x ∷ xs) y = turn (is_both x) (any is_both xs) (is_both y) (any_last xs y) where
  turn : (b d e : Bool) {c : Bool} → c ≡ d || e → if b (λ _. true) (λ _. c) ≡ if b (λ _. true) (λ _. d) || e
  turn true d e h = refl
  turn false d e h = h

any_more_run : (f : ℕ → ℕ) (a n : ℕ) → any is_both (run f a (suc n)) ≡ any is_both (run f a n) || is_both (f (a + n))
any_more_run f a n = ap (any is_both) (run_snoc f a n) ∙ any_last (run f a n) (f (a + n))

-- zeros behind them say nothing
any_zeros : (f : ℕ → ℕ) (a n m : ℕ) → ((k : ℕ) → a + n ≤ k → k < a + n + m → f k ≡ 0) → any is_both (run f a (n + m)) ≡ any is_both (run f a n)
any_zeros f a n zero h = let z : n + 0 ≡ n = omega arith in ap (λ (c : ℕ). any is_both (run f a c)) z
any_zeros f a n (suc m) h =
    let z : n + suc m ≡ suc (n + m) = omega arith in
    ap (λ (c : ℕ). any is_both (run f a c)) z ∙ any_more_run f a (n + m)
    ∙ ap (λ (v : ℕ). any is_both (run f a (n + m)) || is_both v) (h (a + (n + m)) (omega arith) (omega arith))
    ∙ or_none (any is_both (run f a (n + m)))
    ∙ any_zeros f a n m (λ k l u. h k l (omega arith)) where
      or_none : (b : Bool) → (b || false) ≡ b
      or_none true = refl
      or_none false = refl

-- `any_both` at cell i
pub record Seeking (work : List ℕ) (count : ℕ) (found : Bool) (i : ℕ) : Type 0 where
  pub low : bits_at ≤ i
  pub few : i ≤ bits_at + count
  pub is : found ≡ any is_both (part work bits_at (i - bits_at))

module _ {work : List ℕ} {count : ℕ} where
  pub seeking_start : Seeking work count false bits_at
  seeking_start = record { low = omega arith; few = omega arith; is = refl }

  pub seeking_more : {e i : ℕ} {found b r : Bool} {bits : PolarityBits} → BitsEnd work count e → Seeking work count found i → i < e → bits.bits ≡ cell work i → IsBoth bits b
      → Or found b r → Seeking work count r (i + 1)
  seeking_more {i = i} end s lt e at or =
      let l = s.low in
      let z : i + 1 - bits_at ≡ suc (i - bits_at) = omega arith in
      let y : i ≡ bits_at + (i - bits_at) = omega arith in
      record {
        low = omega arith;
        few = omega (arith, end.few);
        is = or.is ∙ ap₂ ◌||◌ s.is (at.is ∙ ap is_both (e ∙ ap (cell work) y))
            ∙ sym (ap (λ (n : ℕ). any is_both (part work bits_at n)) z ∙ any_more_run (cell work) bits_at (i - bits_at));
      }

  pub seeking_done : {e i : ℕ} {found : Bool} → BitsEnd work count e → Seeking work count found i → e ≤ i → AnyBoth work count found
  seeking_done {e} {i} end s le =
      let l = s.low in
      let u = s.few in
      let z : i - bits_at + (bits_at + count - i) ≡ count = omega arith in
      record {
        is = s.is ∙ sym (any_zeros (cell work) bits_at (i - bits_at) (bits_at + count - i)
            (λ k low high. get_or-eq_default work 0 (⊎_elim (λ (f : e ≡ bits_at + count). absurd (omega arith)) (λ (f : e ≡ length work). omega arith) end.is)))
            ∙ ap (λ (n : ℕ). any is_both (part work bits_at n)) z;
      }

-- one of a run passes the test
any_at : (f : ℕ → ℕ) (a n v : ℕ) → v < n → is_both (f (a + v)) ≡ true → any is_both (run f a n) ≡ true
any_at f a zero v lt e = absurd (omega arith)
any_at f a (suc n) zero lt e =
    ap (λ (b : Bool). if b (λ _. true) (λ _. any is_both (run f (suc a) n))) (ap (λ (k : ℕ). is_both (f k)) (omega arith) ∙ e)
any_at f a (suc n) (suc v) lt e =
    ap (λ (b : Bool). if (is_both (f a)) (λ _. true) (λ _. b)) (any_at f (suc a) n v (omega arith) (ap (λ (k : ℕ). is_both (f k)) (omega arith) ∙ e))
    ∙ if_same (is_both (f a)) true

-- the set that a pass preserves, of the ids before i
pub record Detecting (table₀ work : List ℕ) (count : ℕ) (table : List ℕ) (i : ℕ) : Type 0 where
  pub same : length table ≡ length table₀
  pub seen : (v : ℕ) → v < i → preserved_at + v < length table₀ → is_both (cell work (bits_at + v)) ≡ true → cell table (preserved_at + v) ≡ 1
  pub unseen : (v : ℕ) → is_both (cell work (bits_at + v)) ≡ false → cell table (preserved_at + v) ≡ cell table₀ (preserved_at + v)
  pub before : (k : ℕ) → k < preserved_at → cell table k ≡ cell table₀ k
  pub behind : (k : ℕ) → preserved_at + count ≤ k → cell table k ≡ cell table₀ k

module _ {table₀ work : List ℕ} {count : ℕ} where
  pub detecting_start : Detecting table₀ work count table₀ 0
  detecting_start = record { same = refl; seen = λ v l. absurd (omega arith); unseen = λ v e. refl; before = λ k l. refl; behind = λ k l. refl }

  module _ {table table' : List ℕ} {i : ℕ} (d : Detecting table₀ work count table i) (pr : PreservesIf table work i table') where
    -- a cell keeps what stands there, unless it is that of an id seen in both polarities
    still : (b : Bool) → is_both (cell work (bits_at + i)) ≡ b → (k : ℕ) → (k ≡ preserved_at + i → is_both (cell work (bits_at + i)) ≡ false) → cell table' k ≡ cell table k
    still true e k h = ap (λ (l : List ℕ). cell l k) (pr.some e) ∙ get_or-set_other table (preserved_at + i) k 1 0 (λ y. true_false (sym e ∙ h y))
    still false e k h = ap (λ (l : List ℕ). cell l k) (pr.none e)

    pub detecting_more : i < count → length table' ≡ length table → Detecting table₀ work count table' (i + 1)
    detecting_more lt size =
        let other = still (is_both (cell work (bits_at + i))) refl in
        let was : (v : ℕ) → v ≡ i → is_both (cell work (bits_at + i)) ≡ is_both (cell work (bits_at + v)) = λ v q. ap (λ (m : ℕ). is_both (cell work (bits_at + m))) (sym q) in
        record {
          same = size ∙ d.same;
          seen = λ v l r z.
              ⊎_elim (λ (q : v ≡ i). ap (λ (j : ℕ). cell table' (preserved_at + j)) q ∙ ap (λ (l : List ℕ). cell l (preserved_at + i)) (pr.some (was v q ∙ z))
              ∙ get_or-set_same table (preserved_at + i) 1 0 (omega (arith, d.same)))
              (λ (q : v < i). other (preserved_at + v) (λ y. absurd (omega arith)) ∙ d.seen v q r z) (eq-or-lt_of_le (omega arith));
          unseen = λ v z. other (preserved_at + v) (λ y. was v (omega arith) ∙ z) ∙ d.unseen v z;
          before = λ k l. other k (λ y. absurd (omega arith)) ∙ d.before k l;
          behind = λ k l. other k (λ y. absurd (omega arith)) ∙ d.behind k l;
        }

  -- each way out of `detected_cooccurring`
  module _ {b : Bool} (a : AnyBoth work count b) where
    pub detects_none : not b ≡ true → Detects table₀ work count table₀ false
    detects_none n =
        let z = not-true b n in
        record {
          is = sym z ∙ a.is;
          seen = λ v l r e. true_false (sym (any_at (cell work) bits_at count v l e) ∙ sym a.is ∙ z);
          unseen = λ v e. refl;
          before = λ k l. refl;
          behind = λ k l. refl;
          none = λ e. refl;
        }

    pub detects_some : {table : List ℕ} {i : ℕ} → not b ≡ false → Detecting table₀ work count table i → count ≤ i → Detects table₀ work count table true
    detects_some n d le =
        record {
          is = sym (not-false b n) ∙ a.is;
          seen = λ v l r e. d.seen v (omega arith) r e;
          unseen = d.unseen;
          before = d.before;
          behind = d.behind;
          none = λ e. true_false e;
        }

-- the numbers shown
abbrev shown_in : ℕ → ℕ → Bool → Bool → ℕ → Shown
shown_in passes ops sorted bailed x = record { passes = passes; ops = ops; sorted = sorted; bailed = bailed; node = x }

-- each way out of `first_shown`
pub first_node : {y : Given} {x : ℕ} {q : Pass} → y ≡ NodeG x q → FirstShown y (ShownR (shown_in 1 q.ops q.sorted q.bailed x))
first_node d = record { is = sym (ap first_of d) }

pub first_refused : {y : Given} {k : ℕ} → y ≡ Refused k → FirstShown y (RefusedR k)
first_refused d = record { is = sym (ap first_of d) }

-- the first pass's answer opened: a node and what was counted, or the refusal
record Opened (g : Given) (s : Shown) : Type 0 where
  pub pass : Pass
  pub is : g ≡ NodeG s.node pass
  pub shows : s ≡ shown_in 1 pass.ops pass.sorted pass.bailed s.node

opened : (g : Given) {s : Shown} → first_of g ≡ ShownR s → Opened g s
opened (NodeG x q) {s} e =
    let z : shown_in 1 q.ops q.sorted q.bailed x ≡ s = cc in
    subst (Opened (NodeG x q)) z (record { pass = q; is = refl; shows = refl })
opened (Refused k) {s} e = absurd (let z : ◌≡◌ {A = ℕ} 0 1 = cc in omega arith)

refused_first : (g : Given) {k : ℕ} → first_of g ≡ RefusedR k → g ≡ Refused k
refused_first (NodeG x q) {k} e = absurd (let z : ◌≡◌ {A = ℕ} 0 1 = cc in omega arith)
refused_first (Refused n) {k} e = cc

pub second_node : {y : Given} {x : ℕ} {q : Pass} {ops₁ ops : ℕ} {sorted₁ sorted bailed₁ bailed : Bool} → y ≡ NodeG x q → Sum ops₁ q.ops ops → Or sorted₁ q.sorted sorted
    → Or bailed₁ q.bailed bailed → SecondShown y ops₁ sorted₁ bailed₁ (ShownR (shown_in 2 ops sorted bailed x))
second_node {y} {x} {q} {ops₁} {ops} {sorted₁} {sorted} {bailed₁} {bailed} d sum o b =
    record {
      is = λ {w} out a most more.
          let g = (subst (λ (z : Given). Stores out w z) d a).is in
          let st = g.after in
          let k = more x st g.is in
          let e : ops₁ + st.ops ≡ ops = ap (λ (m : ℕ). ops₁ + m) g.stands.ops ∙ sym (sum.is (let z = g.stands.ops in omega arith)) in
          let f : (sorted₁ || st.sorted) ≡ sorted = ap (λ (b : Bool). sorted₁ || b) g.stands.sorted ∙ sym o.is in
          let h : (bailed₁ || st.bailed) ≡ bailed = ap (λ (b : Bool). bailed₁ || b) g.stands.bailed ∙ sym b.is in
          record {
            is = record {
              pass = q;
              nodes = st.nodes;
              is =
                  ap (after_second ops₁ sorted₁ bailed₁) g.is
                  ∙ ap (λ (m : ℕ). shown (shown_of (shown_in 2 m (sorted₁ || st.sorted) (bailed₁ || st.bailed) x) st.nodes)) e
                  ∙ ap₂ (λ (s b : Bool). shown (shown_of (shown_in 2 ops s b x) st.nodes)) f h;
              arena = g.stands.arena;
              below = g.below;
            };
          };
    }

pub second_refused : {y : Given} {k ops : ℕ} {sorted bailed : Bool} → y ≡ Refused k → SecondShown y ops sorted bailed (RefusedR k)
second_refused {ops = ops} {sorted = sorted} {bailed = bailed} d =
    record { is = λ {w} out a most more. record { is = ap (after_second ops sorted bailed) (subst (λ (z : Given). Stores out w z) d a).is } }

-- the bits of a state are those of the working slice
bits_part : {n : ℕ} {st : State} {work : List ℕ} → Keyed n st work → length st.bits ≡ n → part work bits_at n ≡ st.bits
bits_part {n} {st} {work} k size =
    ap (part work bits_at) (sym size) ∙ (holds_from work bits_at st.bits (λ i lt. k.bits i (omega arith))).is

canonicalize_is : (p : runs.Pass) (t : Reader) (id : ℕ) (pol : Polarity) → canonicalize p t id pol ≡ after_first p t id pol (pass p t id pol)
unfolding canonicalize
canonicalize_is p t id pol = refl

-- what the second pass is given
abbrev pub again : Canon → ℕ → Canon
again c ops = record { count = c.count; base = c.base; budget = c.budget; spent = ops; functor = c.functor }

-- the facts with the set preserved
reps_kept : {table table' : List ℕ} {c d : Canon} {p p' : runs.Pass} → d.count ≡ c.count → c.count ≤ most_entries → ((id : ℕ) → p'.rep id ≡ p.rep id)
    → ((k : ℕ) → k < preserved_at → cell table' k ≡ cell table k)
    → Reps table c p → Reps table' d p'
reps_kept {table} {table'} {c} {d} {p} {p'} n few same kept r =
    record {
      is = λ id. same id ∙ r.is id ∙ turn id (ltb id c.count) refl ∙ ap (λ (m : ℕ). rep_of table' m id) (sym n);
      below = λ id lt. subst (λ (m : ℕ). p'.rep id < m) (sym n) (subst (λ (x : ℕ). x < c.count) (sym (same id)) (r.below id (subst (λ (m : ℕ). id < m) n lt)));
    }
  where
    turn : (id : ℕ) (b : Bool) → ltb id c.count ≡ b → if b (λ _. cell table id) (λ _. id) ≡ if b (λ _. cell table' id) (λ _. id)
    turn id true e = sym (kept id (let z = ltb-true id c.count e in omega arith))
    turn id false e = refl

both_zero : (b : Bool) (x : ℕ) → (b ≡ true → x ≡ 1) → (b ≡ false → x ≡ 0) → b ≡ not (eqb x 0)
both_zero true x one nil = ap not (sym (ne_eqb x 0 (λ z. omega (arith, one refl))))
both_zero false x one nil = ap not (sym (eq-eqb x 0 (nil refl)))

module _ {table : List ℕ} {c : Canon} {w work : List ℕ} {id : ℕ} {pol : Polarity} {w1 work1 : List ℕ} where
  -- the first pass is refused
  pub canonicalizes_refused : {k : ℕ} {g : Given} {r : RootAnswer} → OnePass table c w work id pol w1 work1 g → FirstShown g r → r ≡ RefusedR k
      → Canonicalizes table c w work id pol table w1 work1 r
  canonicalizes_refused {k} {g} {r} one f e =
      record {
        is = λ {p} {t} kn tb lent un lt.
            let z : g ≡ Refused k = refused_first g (sym f.is ∙ e) in
            let a = (subst (λ (y : Given). Answers (pass p t id pol) p.count w1 work work1 held_at y) z (one.is kn tb lent lt)).is in
            subst (RootIs (canonicalize p t id pol) w1) (sym e) (record { is = canonicalize_is p t id pol ∙ ap (after_first p t id pol) a });
        kept = λ un k. refl;
      }

  module _ {x : ℕ} {q : Pass} {g : Given} {table1 : List ℕ} {found : Bool} (one : OnePass table c w work id pol w1 work1 g) (e : g ≡ NodeG x q)
      (de : Detects table work1 c.count table1 found) where
    -- what the first pass gives, and what is found in its bits
    first_is : {p : runs.Pass} {t : Reader} → Knows table c p t → Tabled p t → LentTo table w work → id < c.count → Answers (pass p t id pol) p.count w1 work work1 held_at (NodeG x q)
    first_is {p} {t} kn tb lent lt = subst (λ (y : Given). Answers (pass p t id pol) p.count w1 work work1 held_at y) e (one.is kn tb lent lt)

    found_is : {p : runs.Pass} {t : Reader} (kn : Knows table c p t) (tb : Tabled p t) (lent : LentTo table w work) (lt : id < c.count) → any is_both (first_is kn tb lent lt).is.after.bits ≡ found
    found_is {p} {t} kn tb lent lt =
        let a = (first_is kn tb lent lt).is in
        let m = pass_moves kn tb lt pol x a.after a.is in
        sym (de.is ∙ ap (λ (n : ℕ). any is_both (part work1 bits_at n)) (sym kn.count) ∙ ap (any is_both) (bits_part a.keyed (m.0.steady (steady_fresh p.count)).bits))

    -- one pass is enough
    once : found ≡ false → Canonicalizes table c w work id pol table1 w1 work1 (ShownR (shown_in 1 q.ops q.sorted q.bailed x))
    once z =
        record {
          is = λ {p} {t} kn tb lent un lt.
              let a = (first_is kn tb lent lt).is in
              let m = pass_moves kn tb lt pol x a.after a.is in
              let st = a.after in
              record {
                is = record {
                  pass = q;
                  nodes = st.nodes;
                  is =
                      canonicalize_is p t id pol ∙ ap (after_first p t id pol) a.is
                      ∙ ap (λ (b : Bool). if b (λ _. after_second st.ops st.sorted st.bailed (pass (with_set p st) t id pol))
                      (λ _. shown (record { passes = 1; operations = st.ops; sorted = st.sorted; bailed = st.bailed; nodes = st.nodes; root = x })))
                      (found_is kn tb lent lt ∙ z)
                      ∙ ap (λ (n : ℕ). shown (record { passes = 1; operations = n; sorted = st.sorted; bailed = st.bailed; nodes = st.nodes; root = x })) a.stands.ops
                      ∙ ap (λ (b : Bool). shown (record { passes = 1; operations = q.ops; sorted = b; bailed = st.bailed; nodes = st.nodes; root = x })) a.stands.sorted
                      ∙ ap (λ (b : Bool). shown (record { passes = 1; operations = q.ops; sorted = q.sorted; bailed = b; nodes = st.nodes; root = x })) a.stands.bailed;
                  arena = a.stands.arena;
                  below = m.1;
                };
              };
          kept = λ un k. ap (λ (l : List ℕ). cell l k) (de.none z);
        }

    -- the second pass's set is what the first saw in both polarities
    knows_again : {p : runs.Pass} {t : Reader} {st : State} → Knows table c p t → Keyed p.count st work1 → Stands st w1 q → LentTo table w work → NonePreserved table c.count
        → Knows table1 (again c q.ops) (with_set p st) t
    knows_again {p} {t} {st} kn keyed on lent un =
        let few = kn.few in
        let long = lent.table in
        record {
          count = kn.count;
          few = kn.few;
          reads = reads_alike refl refl (record { is = λ k le. de.behind k (omega arith) }) kn.reads;
          reps = reps_kept refl few (λ i. refl) de.before kn.reps;
          marked = λ i lt. kn.marked i lt ∙ ap (λ (y : ℕ). not (eqb y 0)) (sym (de.before (marks_at + i) (omega arith)));
          preserved = λ i lt.
              let same : cell st.bits i ≡ cell work1 (bits_at + i) = sym (keyed.bits i (subst (λ (n : ℕ). i < n) (sym kn.count) lt)) in
              ap is_both same
              ∙ both_zero (is_both (cell work1 (bits_at + i))) (cell table1 (preserved_at + i)) (λ y. de.seen i lt (omega arith) y) (λ y. de.unseen i y ∙ un.is i lt);
          budget = kn.budget;
          spent = on.ops;
          functor = kn.functor;
        }

    tabled_again : {p : runs.Pass} {t : Reader} (st : State) → Tabled p t → Tabled (with_set p st) t
    tabled_again st tb = record { few = tb.few; known = tb.known; orderly = tb.orderly; reps = tb.reps; ids = tb.ids }

    module _ {w2 work2 : List ℕ} {g2 : Given} {table2 : List ℕ} {r : RootAnswer} where
      -- a second pass is shown
      twice : found ≡ true → OnePass table1 (again c q.ops) w1 work1 id pol w2 work2 g2 → Clears table1 preserved_at c.count table2
          → SecondShown g2 q.ops q.sorted q.bailed r → length table1 ≡ length table → length w1 ≡ length w → length work1 ≡ length work
          → Canonicalizes table c w work id pol table2 w2 work2 r
      twice z two cl second len-f len-w len-h =
          record {
            is = λ {p} {t} kn tb lent un lt.
                let a = (first_is kn tb lent lt).is in
                let st = a.after in
                let kn2 = knows_again kn a.keyed a.stands lent un in
                let tb2 = tabled_again st tb in
                let lf = lent.table in
                let lw = lent.arena in
                let lh = lent.work in
                let o = pass (with_set p st) t id pol in
                let b = two.is kn2 tb2 (record { table = omega arith; arena = omega arith; work = omega arith }) lt in
                let most = pass_most kn tb lt pol x st a.is in
                subst (λ (y : runs.Answer). RootIs y w2 r)
                (sym (canonicalize_is p t id pol ∙ ap (after_first p t id pol) a.is
                ∙ ap (λ (b : Bool). if b (λ _. after_second st.ops st.sorted st.bailed o)
                (λ _. shown (record { passes = 1; operations = st.ops; sorted = st.sorted; bailed = st.bailed; nodes = st.nodes; root = x })))
                (found_is kn tb lent lt ∙ z)
                ∙ ap (λ (n : ℕ). after_second n st.sorted st.bailed o) a.stands.ops
                ∙ ap₂ (λ (s b : Bool). after_second q.ops s b o) a.stands.sorted a.stands.bailed))
                (second.is o (pass_stores kn2 tb2 lt pol g2 b) (let n = a.stands.ops in omega arith) (pass_most kn2 tb2 lt pol));
            kept = λ un k. by_place un k (ltb k preserved_at) refl;
          }
        where
          above : NonePreserved table c.count → (k : ℕ) → preserved_at ≤ k → (b : Bool) → ltb k (preserved_at + c.count) ≡ b → cell table2 k ≡ cell table k
          above un k lo true e =
              let h = ltb-true k (preserved_at + c.count) e in
              let m : k ≡ preserved_at + (k - preserved_at) = omega arith in
              cl.zero k lo h ∙ sym (ap (cell table) m ∙ un.is (k - preserved_at) (omega arith))
          above un k lo false e = let h = ltb-false k (preserved_at + c.count) e in cl.behind k h ∙ de.behind k h

          by_place : NonePreserved table c.count → (k : ℕ) (b : Bool) → ltb k preserved_at ≡ b → cell table2 k ≡ cell table k
          by_place un k true e = let h = ltb-true k preserved_at e in cl.before k h ∙ de.before k h
          by_place un k false e = above un k (ltb-false k preserved_at e) (ltb k (preserved_at + c.count)) refl

  -- by the answer of the first pass, opened
  module _ {g : Given} {s : Shown} {first : RootAnswer} {table1 : List ℕ} {found : Bool} (one : OnePass table c w work id pol w1 work1 g)
      (f : FirstShown g first) (told : first ≡ ShownR s) (de : Detects table work1 c.count table1 found) where
    pub canonicalizes_once : found ≡ false → Canonicalizes table c w work id pol table1 w1 work1 (ShownR s)
    canonicalizes_once z =
        let o = opened g (sym f.is ∙ told) in
        subst (λ (y : Shown). Canonicalizes table c w work id pol table1 w1 work1 (ShownR y)) (sym o.shows) (once one o.is de z)

    pub canonicalizes_twice : {w2 work2 : List ℕ} {g2 : Given} {table2 : List ℕ} {r : RootAnswer} → found ≡ true
        → OnePass table1 (again c s.ops) w1 work1 id pol w2 work2 g2 → Clears table1 preserved_at c.count table2 → SecondShown g2 s.ops s.sorted s.bailed r
        → length table1 ≡ length table → length w1 ≡ length w → length work1 ≡ length work → Canonicalizes table c w work id pol table2 w2 work2 r
    canonicalizes_twice {w2} {work2} {g2} {table2} {r} z two cl second len-f len-w len-h =
        let o = opened g (sym f.is ∙ told) in
        twice one o.is de z (subst (λ (y : Shown). OnePass table1 (again c y.ops) w1 work1 id pol w2 work2 g2) o.shows two) cl
        (subst (λ (y : Shown). SecondShown g2 y.ops y.sorted y.bailed r) o.shows second) len-f len-w len-h
