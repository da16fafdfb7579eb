-- What the members of the cycle rely on, carried from one state and one working slice to the next. Assumes nothing.
use mathlib.Core.Path.{◌≡◌, refl, sym, ap, ◌∙◌, subst}
use Prim.Native.Nat.{ℕ, ◌+◌, ◌≤◌, ◌<◌}
use native.Mathlib.Omega.{arith}
use mathlib.Core.List.{List}
use lib.ListN.{length}
use Rattle.cells.specs.Part.{cell}
use Rattle.layout.specs.Layout.{counted_nodes, held_at, seen_at, bits_at}
use Rattle.rules.specs.Ceilings.{most_entries}
use Rattle.rules.specs.Types.{State, Out, ok}
use Rattle.rules.specs.Canonicalizer.{Reader, visit}
use Rattle.rules.specs.Canonicalizer as runs
use Rattle.laws.specs.Sound.{load}
use Rattle.laws.proofs.Storing.{Rooted}
use Rattle.laws.proofs.Keeping.{Later, later_steady}
use Rattle.laws.proofs.Moving.{Moved, Firm, Goer, Any, firm_any, mover_goes, visit_moves}
use Rattle.lang_ty.specs.declared.arena.Pass.{Pass}
use Rattle.lang_ty.specs.Given.{Node as NodeG, Refused}
use Rattle.lang_ty.specs.Given.{Given}
use Rattle.lang_ty.specs.Nodes.{Stands, Answers as Stores}
use Rattle.storage.specs.declared.given.Canon.{Canon}
use Rattle.lang_check.specs.Cycle.{Keyed, Poised, KeptBelow, Answers}
use Rattle.cells.specs.Placed.{Under}

-- the nodes of a state that the slices stand for have their children below them
pub stands_rooted : {st : State} {w : List ℕ} {q : Pass} → Stands st w q → Rooted st.nodes
stands_rooted on = record { is = on.arena.below }

pub poised_firm : {table : List ℕ} {c : Canon} {work w : List ℕ} {h own : ℕ} {q : Pass} {p : runs.Pass} {t : Reader} {st : State}
    → Poised table c work h own p t st → Stands st w q → Firm p.count Any st
poised_firm po on = firm_any po.steady (stands_rooted on)

pub poised_mover : {table : List ℕ} {c : Canon} {work : List ℕ} {h own : ℕ} {p : runs.Pass} {t : Reader} {st : State} (free : ℕ)
    → Poised table c work h own p t st → Goer p t Any (visit free p t)
poised_mover {p = p} {t = t} free po = mover_goes p t (visit free p t) (visit_moves p t po.tabled free)

-- an entry of the code's count is one of the pass's
pub poised_entry : {table : List ℕ} {c : Canon} {work : List ℕ} {h own : ℕ} {p : runs.Pass} {t : Reader} {st : State} {id : ℕ}
    → Poised table c work h own p t st → id < c.count → id < p.count
poised_entry {id = id} po lt = subst (λ (n : ℕ). id < n) (sym po.knows.count) lt

pub poised_under : {table : List ℕ} {c : Canon} {work : List ℕ} {h own : ℕ} {p : runs.Pass} {t : Reader} {st : State} (bs : List ℕ)
    → Poised table c work h own p t st → Under c.count bs → Under p.count bs
poised_under bs po u = subst (λ (n : ℕ). Under n bs) (sym po.knows.count) u

-- keys and bits lie below 8,192
keyed_place : {n v : ℕ} → n ≤ most_entries → v < n → seen_at + v < counted_nodes
keyed_place a b = omega arith

-- another slice with the same cells below 8,192
pub keyed_cells : {n : ℕ} {st : State} {work work' : List ℕ} → Keyed n st work → ((k : ℕ) → k < counted_nodes → cell work' k ≡ cell work k) → Keyed n st work'
keyed_cells {n} k same =
    let few = k.unseen.few in
    record {
      keys = λ i lt. same i (omega arith) ∙ k.keys i lt;
      bits = λ v lt. same (bits_at + v) (omega arith) ∙ k.bits v lt;
      unseen = record { few = few; is = λ v lt. same (seen_at + v) (omega arith) ∙ k.unseen.is v lt };
    }

-- another state with the same keys and bits
pub keyed_state : {n : ℕ} {st st' : State} {work : List ℕ} → st'.keys ≡ st.keys → st'.bits ≡ st.bits → Keyed n st work → Keyed n st' work
keyed_state e f k =
    record {
      keys = λ i lt. k.keys i lt ∙ ap (λ (l : List ℕ). cell l i) (sym e);
      bits = λ v lt. k.bits v lt ∙ ap (λ (l : List ℕ). cell l v) (sym f);
      unseen = k.unseen;
    }

pub keyed_later : {n : ℕ} {st st' : State} {work : List ℕ} → Later st st' → Keyed n st work → Keyed n st' work
keyed_later l k = keyed_state l.keys l.bits k

module _ {table : List ℕ} {c : Canon} {work : List ℕ} {h own : ℕ} {p : runs.Pass} {t : Reader} {st : State} (po : Poised table c work h own p t st) where
  -- after steps that only store
  pub poised_later : {st' : State} → Later st st' → Poised table c work h own p t st'
  poised_later {st'} l =
      let e = ap (load t 0) l.keys in
      let f = po.roomed.fits in
      record {
        knows = po.knows;
        tabled = po.tabled;
        keyed = keyed_later l po.keyed;
        steady = later_steady l po.steady;
        roomed = record { behind = po.roomed.behind; fits = omega arith; long = po.roomed.long };
      }

  -- after visits
  pub poised_moved : {st' : State} {work' : List ℕ} → Moved p.count t st st' → Keyed p.count st' work' → length work' ≡ length work
      → Poised table c work' h own p t st'
  poised_moved {st'} {work'} m k e =
      let g = m.load po.steady.keys in
      let f = po.roomed.fits in
      let z = po.roomed.long in
      record {
        knows = po.knows;
        tabled = po.tabled;
        keyed = k;
        steady = m.steady po.steady;
        roomed = record { behind = po.roomed.behind; fits = omega arith; long = omega arith };
      }

  -- at a place further on, with less room of its own
  pub poised_place : {h' own' : ℕ} → held_at ≤ h' → h' + own' ≤ h + own → Poised table c work h' own' p t st
  poised_place b le =
      let f = po.roomed.fits in
      record {
        knows = po.knows;
        tabled = po.tabled;
        keyed = po.keyed;
        steady = po.steady;
        roomed = record { behind = b; fits = omega arith; long = po.roomed.long };
      }

  -- with another slice of that length
  pub poised_slice : {work' : List ℕ} → length work' ≡ length work → ((k : ℕ) → k < counted_nodes → cell work' k ≡ cell work k) → Poised table c work' h own p t st
  poised_slice {work'} e same =
      let z = po.roomed.long in
      record {
        knows = po.knows;
        tabled = po.tabled;
        keyed = keyed_cells po.keyed same;
        steady = po.steady;
        roomed = record { behind = po.roomed.behind; fits = po.roomed.fits; long = omega arith };
      }

-- slices whose held lists did not change, one after another
pub kept_both : {h : ℕ} {a b d : List ℕ} → KeptBelow h a b → KeptBelow h b d → KeptBelow h a d
kept_both f g = record { is = λ k lo hi. g.is k lo hi ∙ f.is k lo hi }

pub kept_none : (h : ℕ) (a : List ℕ) → KeptBelow h a a
kept_none h a = record { is = λ k lo hi. refl }

-- an outcome with another name
pub answers_out : {o o' : Out ℕ} {n : ℕ} {w work work' : List ℕ} {h : ℕ} {r : Given} → o ≡ o' → Answers o n w work work' h r → Answers o' n w work work' h r
answers_out {n = n} {w = w} {work = work} {work' = work'} {h = h} {r = r} e a = subst (λ (z : Out ℕ). Answers z n w work work' h r) e a

-- a step that stores and leaves the working slice
pub answers_stored : {o : Out ℕ} {n : ℕ} {st : State} {w work : List ℕ} (h : ℕ) {r : Given} → ((x : ℕ) (st' : State) → o ≡ ok x st' → Later st st') → Keyed n st work → Stores o w r
    → Answers o n w work work h r
answers_stored {work = work} h {r = NodeG x q} keeps k a =
    let g = a.is in
    record { is = record { after = g.after; is = g.is; stands = g.stands; keyed = keyed_later (keeps x g.after g.is) k; kept = kept_none h work } }
answers_stored h {r = Refused j} keeps k a = record { is = a.is }
