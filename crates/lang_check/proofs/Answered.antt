-- Answers held in the working slice, and what is ready after visits. Assumes nothing.
use mathlib.Core.Path.{◌≡◌, refl, sym, ap, ◌∙◌}
use Prim.Native.Nat.{ℕ, suc}
use native.Mathlib.Omega.{arith}
use mathlib.Core.List.{List, [], ◌∷◌}
use lib.ListN.{length}
use Rattle.rules.specs.Types.{State, Out, ok}
use Rattle.rules.specs.Members.{each}
use Rattle.rules.specs.Canonicalizer.{Reader, Visit}
use Rattle.rules.specs.Canonicalizer as runs
use Rattle.laws.specs.Sound.{Tabled}
use Rattle.rules.specs.declared.Polarity.{Polarity}
use Rattle.laws.proofs.Keeping.{gave, refused_not}
use Rattle.laws.proofs.Moving.{Moved, Firm, Goes, Goer, Went, Any, any_stays, Answers as Answered, goes_each, goes_bind, goes_give}
use Rattle.laws.proofs.Rooting.{Below}
use Rattle.lang_ty.specs.Given.{Given}
use Rattle.lang_ty.specs.Given.{Node as NodeG, Refused}
use Rattle.lang_ty.specs.Nodes.{Answers as Stores}
use Rattle.storage.specs.declared.given.Canon.{Canon}
use Rattle.storage.specs.Passes.{Knows}
use Rattle.members.specs.Flow.{Flow}
use Rattle.members.specs.Flow.{On, Refused as RefusedF}
use Rattle.merge.specs.Merges.{Roomy}
use Rattle.composites.specs.Places.{GivenTo, Visited}
use Rattle.lang_check.specs.Cycle.{Keyed, Poised, KeptBelow, Answers, AnswersHeld, visited}
use Rattle.lang_check.proofs.Poised.{poised_moved, kept_both}
use Rattle.cells.specs.Placed.{Under}

module _ (p : runs.Pass) (t : Reader) (b : Tabled p t) (v : Visit) (mv : Goer p t Any v) where
  -- as many answers, all nodes
  pub goes_visited : (first pol : Polarity) (bs : List ℕ) (st : State) → Under p.count bs → Firm p.count Any st → Goes p.count t Any (Answered bs) (visited v first pol bs) st
  goes_visited first pol [] st u f = goes_give p.count t Any any_stays (Answered []) [] st f (record { below = tt; many = refl })
  goes_visited first pol (c ∷ bs) st u f =
      goes_bind p.count t Any any_stays Below (Answered (c ∷ bs)) (v c first) _ st (mv c first st u.0 f)
      (λ x s g f h. goes_bind p.count t Any any_stays (Answered bs) (Answered (c ∷ bs)) (each (λ (d : ℕ). v d pol) bs) _ s (goes_each p t b Any any_stays v mv pol bs s u.1 f)
      (λ xs z i f w. goes_give p.count t Any any_stays (Answered (c ∷ bs)) (x ∷ xs) z f (record { below = (omega arith, w.below); many = ap suc w.many })))

-- what the pass is given
pub knows_given : {table : List ℕ} {c : Canon} {p : runs.Pass} {t : Reader} → Knows table c p t → GivenTo p table c
knows_given k = record { preserves = record { size = k.count; is = k.preserved }; functor = k.functor }

-- the room that places wants
pub poised_roomy : {table : List ℕ} {c : Canon} {work work' : List ℕ} {h own : ℕ} {p : runs.Pass} {t : Reader} {st : State} → Poised table c work h own p t st
    → length work' ≡ length work → Roomy work' h
poised_roomy po e =
    let a = po.roomed.fits in
    let b = po.roomed.long in
    record { room = omega arith; small = omega arith }

-- ids held and visited: their answers, and what is ready after them
pub record Ready (table : List ℕ) (c : Canon) (o : Out (List ℕ)) (w work work' : List ℕ) (h own n : ℕ) (f : Flow) (p : runs.Pass) (t : Reader) (st : State) : Type 0 where
  pub visits : Visited o w work' h n f
  pub ready : (xs : List ℕ) (st' : State) → o ≡ ok xs st' → Poised table c work' h own p t st'
  pub kept : (xs : List ℕ) (st' : State) → o ≡ ok xs st' → KeptBelow h work work'
  pub moved : (xs : List ℕ) (st' : State) → o ≡ ok xs st' → Moved p.count t st st'

pub visited_held : {table : List ℕ} {c : Canon} (o : Out (List ℕ)) {w work work' : List ℕ} {h own n : ℕ} (f : Flow) {p : runs.Pass} {t : Reader} {st : State} {bs : List ℕ}
    → Poised table c work h own p t st → length work' ≡ length work
    → ((xs : List ℕ) (st' : State) → o ≡ ok xs st' → Went p.count t Any (Answered bs) st xs st') → AnswersHeld o p.count w work work' h n f
    → Ready table c o w work work' h own n f p t st
visited_held {table} {c} o {work' = work'} {h = h} {own = own} (On q) {p = p} {t = t} po len went a =
    let g = a.is in
    let v = went g.list g.after g.is in
    record {
      visits = record {
        is = record { after = g.after; list = g.list; is = g.is; stands = g.stands; sound = v.firm.steady.sound; count = g.held.count; holds = g.held.holds; below = v.fact.below };
      };
      ready = λ xs st' d. gave (λ _ (z : State). Poised table c work' h own p t z) (sym g.is ∙ d) (poised_moved po v.moved g.keyed len);
      kept = λ xs st' d. g.kept;
      moved = λ xs st' d. (went xs st' d).moved;
    }
visited_held o (RefusedF k) po len went a =
    record {
      visits = record { is = a.is };
      ready = λ xs st' d. refused_not (sym a.is ∙ d);
      kept = λ xs st' d. refused_not (sym a.is ∙ d);
      moved = λ xs st' d. refused_not (sym a.is ∙ d);
    }

-- lists held before an earlier slice
pub held_base : {o : Out (List ℕ)} {k : ℕ} {w d a b : List ℕ} {h n m : ℕ} {f : Flow} → KeptBelow h d a → n ≡ m → AnswersHeld o k w a b h n f → AnswersHeld o k w d b h m f
held_base {f = On q} kept e z =
    let g = z.is in
    record {
      is = record {
        after = g.after;
        list = g.list;
        is = g.is;
        stands = g.stands;
        keyed = g.keyed;
        kept = kept_both kept g.kept;
        held = record { count = sym e ∙ g.held.count; holds = g.held.holds };
      };
    }
held_base {f = RefusedF j} kept e z = record { is = z.is }

pub answers_base : {o : Out ℕ} {n : ℕ} {w d a b : List ℕ} {h : ℕ} {r : Given} → ((x : ℕ) (st : State) → o ≡ ok x st → KeptBelow h d a) → Answers o n w a b h r → Answers o n w d b h r
answers_base {r = NodeG x q} k z =
    let g = z.is in record { is = record { after = g.after; is = g.is; stands = g.stands; keyed = g.keyed; kept = kept_both (k x g.after g.is) g.kept } }
answers_base {r = Refused j} k z = record { is = z.is }

-- a step that stores after others
pub answers_after : {o : Out ℕ} {n : ℕ} {w work work' : List ℕ} {h : ℕ} {r : Given} → ((x : ℕ) (st : State) → o ≡ ok x st → Keyed n st work' × KeptBelow h work work') → Stores o w r
    → Answers o n w work work' h r
answers_after {r = NodeG x q} k z =
    let g = z.is in
    let b = k x g.after g.is in
    record { is = record { after = g.after; is = g.is; stands = g.stands; keyed = b.0; kept = b.1 } }
answers_after {r = Refused j} k z = record { is = z.is }
