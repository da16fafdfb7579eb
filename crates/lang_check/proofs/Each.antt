-- `each`: the ids held from h on, each replaced by its answer. Assumes nothing.
use mathlib.Core.Path.{◌≡◌, refl, sym, ap, ◌∙◌, subst}
use Prim.Native.Nat.{ℕ, zero, suc, ◌+◌, ◌≤◌, ◌<◌}
use native.Mathlib.Omega.{arith}
use native.Mathlib.Numerals.{add-one}
use mathlib.Core.List.{List, [], ◌∷◌, ◌++◌, append-nil}
use lib.ListN.{length, get_or, set, drop, length-set, drop_of_length-le}
use lib.Seq.{drop-cons, get_or-set_other}
use Rattle.cells.specs.Part.{cell, part}
use Rattle.cells.specs.Sum.{Sum}
use Rattle.cells.proofs.Parts.{run_ext, run_length, part_set_snoc}
use Rattle.cells.proofs.Holding.{holds_at}
use Rattle.rules.specs.Types.{State, Out, ok, no, bind, give}
use Rattle.rules.specs.Members.{each}
use Rattle.rules.specs.Canonicalizer.{Reader, Visit, visit}
use Rattle.rules.specs.Canonicalizer as runs
use Rattle.rules.specs.declared.Polarity.{Polarity}
use Rattle.laws.proofs.Moving.{Moved, moved_none, moved_both}
use Rattle.lang_ty.specs.declared.arena.Pass.{Pass}
use Rattle.lang_ty.specs.Given.{Given}
use Rattle.lang_ty.specs.Given.{Node, Refused}
use Rattle.lang_ty.specs.Nodes.{Stands}
use Rattle.members.specs.Flow.{On, Refused as RefusedF}
use Rattle.laws.proofs.Filtering.{under_at}
use Rattle.laws.proofs.Keeping.{bind_none, bind_more}
use Rattle.storage.specs.declared.given.Canon.{Canon}
use Rattle.storage.specs.Helds.{HeldList}
use Rattle.lang_check.specs.Cycle.{Keyed, Poised, KeptBelow, Arrives, Answers, visited, Visits, Each, Side}
use Rattle.lang_check.proofs.Poised.{poised_firm, poised_mover, poised_entry, poised_moved, poised_place, keyed_cells, kept_none}
use Rattle.cells.specs.Placed.{Under}

-- the polarity in which the i-th id is visited
abbrev pub side_of : ℕ → Polarity → Polarity → Polarity
side_of zero first pol = first
side_of (suc i) first pol = pol

side_is : (i : ℕ) {first pol r : Polarity} → Side i first pol r → r ≡ side_of i first pol
side_is zero a = a.first refl
side_is (suc i) a = a.other (λ z. omega arith)

-- after the first id all have the place's polarity
pub each_visited : (v : Visit) (pol : Polarity) (bs : List ℕ) (st : State) → each (λ (d : ℕ). v d pol) bs st ≡ visited v pol pol bs st
each_visited v pol [] st = refl
each_visited v pol (b ∷ bs) st = refl

-- the loop at id i: the answers so far are held from h on, then the ids that are left, and the rules are as far
pub record Amid (free : ℕ) (p : runs.Pass) (t : Reader) (st : State) (bs : List ℕ) (first pol : Polarity) (work₀ : List ℕ) (h n : ℕ) (w work : List ℕ) (q : Pass) (i : ℕ) : Type 0 where
  pub now : State
  pub stands : Stands now w q
  pub keyed : Keyed p.count now work
  pub moved : Moved p.count t st now
  pub kept : KeptBelow h work₀ work
  pub left : (k : ℕ) → i ≤ k → k < n → cell work (h + k) ≡ get_or bs k 0
  pub is : visited (visit free p t) first pol bs st ≡ bind (visited (visit free p t) (side_of i first pol) pol (drop i bs) now) (λ zs. give (part work h i ++ zs))

pub record Eaching (table : List ℕ) (c : Canon) (w₀ work₀ : List ℕ) (free h : ℕ) (q₀ : Pass) (n : ℕ) (first pol : Polarity) (w work : List ℕ) (q : Pass) (i : ℕ) : Type 0 where
  pub few : i ≤ n
  pub long : length w ≡ length w₀
  pub cells : length work ≡ length work₀
  pub is : {p : runs.Pass} {t : Reader} {st : State} {bs : List ℕ} → Poised table c work₀ h n p t st → Stands st w₀ q₀ → HeldList work₀ h n bs → Under c.count bs
      → Amid free p t st bs first pol work₀ h n w work q i

pub eaching_start : {table : List ℕ} {c : Canon} {w work : List ℕ} {free h : ℕ} {q : Pass} {n : ℕ} {first pol : Polarity}
    → Eaching table c w work free h q n first pol w work q 0
eaching_start {work = work} {free = free} {h = h} {first = first} {pol = pol} =
    record {
      few = omega arith;
      long = refl;
      cells = refl;
      is = λ {p} {t} {st} {bs} po on held u.
          record {
            now = st;
            stands = on;
            keyed = po.keyed;
            moved = moved_none st;
            kept = kept_none h work;
            left = λ k lo hi. let z = held.count in holds_at held.holds k (omega arith);
            is = bind_none (visited (visit free p t) first pol bs st);
          };
    }

-- what holds at id i
module _ {table : List ℕ} {c : Canon} {free : ℕ} {p : runs.Pass} {t : Reader} {st : State} {bs : List ℕ} {first pol : Polarity} {work₀ : List ℕ} {h n : ℕ}
    {w work : List ℕ} {q : Pass} {i : ℕ} (po : Poised table c work₀ h n p t st) (held : HeldList work₀ h n bs) (u : Under c.count bs)
    (mid : Amid free p t st bs first pol work₀ h n w work q i) (long : length work ≡ length work₀) where
  poised_now : Poised table c work (h + n) 0 p t mid.now
  poised_now = let b = po.roomed.behind in poised_place (poised_moved po mid.moved mid.keyed long) (omega arith) (omega arith)

  id_is : {j b : ℕ} → i < n → j ≡ h + i → b ≡ cell work j → b ≡ get_or bs i 0
  id_is lt e f = f ∙ ap (cell work) e ∙ mid.left i (omega arith) lt

  id_below : {b : ℕ} → i < n → b ≡ get_or bs i 0 → b < c.count
  id_below lt e = let z = held.count in omega (arith, under_at c.count bs i u (omega arith))

  -- the turn at id b
  turn : {b : ℕ} → i < n → b ≡ get_or bs i 0 → visited (visit free p t) first pol bs st
      ≡ bind (bind (visit free p t b (side_of i first pol) mid.now)
      (λ y z. bind (each (λ (d : ℕ). visit free p t d pol) (drop (suc i) bs) z) (λ xs. give (y ∷ xs)))) (λ zs. give (part work h i ++ zs))
  turn lt e =
      let z = held.count in
      mid.is
      ∙ ap (λ (l : List ℕ). bind (visited (visit free p t) (side_of i first pol) pol l mid.now) (λ zs. give (part work h i ++ zs)))
      (drop-cons bs i 0 (omega arith) ∙ ap (λ (v : ℕ). v ∷ drop (suc i) bs) (sym e))

  turn_refused : {b k : ℕ} → i < n → b ≡ get_or bs i 0 → visit free p t b (side_of i first pol) mid.now ≡ no k → visited (visit free p t) first pol bs st ≡ no k
  turn_refused lt e g =
      turn lt e
      ∙ ap (λ (o : Out ℕ). bind (bind o (λ y z. bind (each (λ (d : ℕ). visit free p t d pol) (drop (suc i) bs) z) (λ xs. give (y ∷ xs)))) (λ zs. give (part work h i ++ zs))) g

  amid_more : {b x k : ℕ} {w' work' work'' : List ℕ} {r : Pass} → i < n → b ≡ get_or bs i 0
      → Arrives (λ (st : State). visit free p t b (side_of i first pol) mid.now ≡ ok x st) p.count w' work work' (h + n) r → length work' ≡ length work → k ≡ h + i → work'' ≡ set work' k x
      → Amid free p t st bs first pol work₀ h n w' work'' r (suc i)
  amid_more {b} {x} {k} {w'} {work'} {work''} {r} lt e a long' place put =
      let low = po.roomed.behind in
      let fits = po.roomed.fits in
      let room = po.roomed.long in
      let fit : h + i < length work' = omega arith in
      let put' : work'' ≡ set work' (h + i) x = put ∙ ap (λ (v : ℕ). set work' v x) place in
      let other : (j : ℕ) → (j ≡ h + i → ⊥) → cell work'' j ≡ cell work' j =
      λ j ne. ap (λ (v : List ℕ). cell v j) put' ∙ get_or-set_other work' (h + i) j x 0 ne in
      let parts : part work'' h (suc i) ≡ part work h i ++ (x ∷ []) =
      ap (λ (v : List ℕ). part v h (suc i)) put' ∙ part_set_snoc work' h i x fit
      ∙ ap (λ (l : List ℕ). l ++ (x ∷ [])) (run_ext (cell work') (cell work) h i (λ j lo hi. a.kept.is j (omega arith) (omega arith))) in
      let went = poised_mover free po b (side_of i first pol) mid.now (poised_entry po (id_below lt e)) (poised_firm poised_now mid.stands) x a.after a.is in
      record {
        now = a.after;
        stands = a.stands;
        keyed = keyed_cells a.keyed (λ j l. other j (λ z. omega arith));
        moved = moved_both mid.moved went.moved;
        kept = record { is = λ j lo hi. other j (λ z. omega arith) ∙ a.kept.is j lo (omega arith) ∙ mid.kept.is j lo hi };
        left = λ j lo hi. other (h + j) (λ z. omega arith) ∙ a.kept.is (h + j) (omega arith) (omega arith) ∙ mid.left j (omega arith) hi;
        is =
            turn lt e
            ∙ ap (λ (o : Out ℕ). bind (bind o (λ y z. bind (each (λ (d : ℕ). visit free p t d pol) (drop (suc i) bs) z) (λ xs. give (y ∷ xs)))) (λ zs. give (part work h i ++ zs))) a.is
            ∙ bind_more (part work h i) (x ∷ []) (each (λ (d : ℕ). visit free p t d pol) (drop (suc i) bs) a.after)
            ∙ ap (λ (o : Out (List ℕ)). bind o (λ zs. give ((part work h i ++ (x ∷ [])) ++ zs))) (each_visited (visit free p t) pol (drop (suc i) bs) a.after)
            ∙ ap (λ (l : List ℕ). bind (visited (visit free p t) pol pol (drop (suc i) bs) a.after) (λ zs. give (l ++ zs))) (sym parts);
      }

-- the loop, turn by turn
module _ {table : List ℕ} {c : Canon} {w₀ work₀ : List ℕ} {free h : ℕ} {q₀ : Pass} {n : ℕ} {first pol : Polarity} {w work : List ℕ} {q : Pass} {i : ℕ}
    (inv : Eaching table c w₀ work₀ free h q₀ n first pol w work q i) where
  module _ {j b deep : ℕ} {one : Polarity} {w' work' : List ℕ} {g : Given} (lt : i < n) (place : j ≡ h + i) (get : b ≡ cell work j) (sum : Sum h n deep) (side : Side i first pol one)
      (call : Visits table c w work free deep q b one w' work' g) where
    -- what the visit gives
    called : {p : runs.Pass} {t : Reader} {st : State} {bs : List ℕ} (po : Poised table c work₀ h n p t st) (held : HeldList work₀ h n bs) → Under c.count bs
        → (mid : Amid free p t st bs first pol work₀ h n w work q i) → Answers (visit free p t b (side_of i first pol) mid.now) p.count w' work work' (h + n) g
    called {p} {t} po held u mid =
        let fits = po.roomed.fits in
        let at : deep ≡ h + n = sum.is (omega arith) in
        subst (λ (f : Polarity). Answers (visit free p t b f mid.now) p.count w' work work' (h + n) g) (side_is i side)
        (subst (λ (d : ℕ). Answers (visit free p t b one mid.now) p.count w' work work' d g) at
        (call.is (subst (λ (d : ℕ). Poised table c work d 0 p t mid.now) (sym at) (poised_now po held u mid inv.cells)) mid.stands
        (id_below po held u mid inv.cells lt (id_is po held u mid inv.cells lt place get))))

    pub eaching_more : {x k : ℕ} {r : Pass} {work'' : List ℕ} → g ≡ Node x r → length w' ≡ length w → length work' ≡ length work → k ≡ h + i → work'' ≡ set work' k x
        → Eaching table c w₀ work₀ free h q₀ n first pol w' work'' r (i + 1)
    eaching_more {x} {k} {r} {work''} e lw lh place' put =
        record {
          few = omega arith;
          long = lw ∙ inv.long;
          cells = ap length put ∙ length-set work' k x ∙ lh ∙ inv.cells;
          is = λ {p} {t} {st} {bs} po on held u.
              let mid = inv.is po on held u in
              let a = subst (λ (o : Given). Answers (visit free p t b (side_of i first pol) mid.now) p.count w' work work' (h + n) o) e (called po held u mid) in
              subst (λ (m : ℕ). Amid free p t st bs first pol work₀ h n w' work'' r m) (sym (add-one i))
              (amid_more po held u mid inv.cells lt (id_is po held u mid inv.cells lt place get) a.is lh place' put);
        }

    pub each_refused : {k : ℕ} → g ≡ Refused k → Each table c w₀ work₀ free h q₀ n first pol w' work' (RefusedF k)
    each_refused e =
        record {
          is = λ {p} {t} po on held u.
              let mid = inv.is po on held u in
              let a = subst (λ (o : Given). Answers (visit free p t b (side_of i first pol) mid.now) p.count w' work work' (h + n) o) e (called po held u mid) in
              record { is = turn_refused po held u mid inv.cells lt (id_is po held u mid inv.cells lt place get) a.is };
        }

  pub each_done : n ≤ i → Each table c w₀ work₀ free h q₀ n first pol w work (On q)
  each_done le =
      record {
        is = λ {p} {t} {st} {bs} po on held u.
            let mid = inv.is po on held u in
            let few = inv.few in
            let count = held.count in
            let all = part work h i in
            let size = run_length (cell work) h i in
            let gone : drop i bs ≡ [] = drop_of_length-le bs {i = i} (omega arith) in
            record {
              is = record {
                after = mid.now;
                list = all;
                is =
                    mid.is ∙ ap (λ (l : List ℕ). bind (visited (visit free p t) (side_of i first pol) pol l mid.now) (λ zs. give (all ++ zs))) gone
                    ∙ ap (λ (l : List ℕ). ok l mid.now) (append-nil all);
                stands = mid.stands;
                keyed = mid.keyed;
                kept = mid.kept;
                held = record { count = omega arith; holds = record { is = ap (part work h) size } };
              };
            };
      }
