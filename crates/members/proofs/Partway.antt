-- A rule that goes through a list and joins what its step gives for each member, one node or none, beside the loop that gathers them. Assumes nothing.
use mathlib.Core.Path.{◌≡◌, sym, ap, ◌∙◌}
use Prim.Native.Nat.{ℕ, suc, ◌+◌, ◌≤◌, ◌<◌}
use native.Mathlib.Omega.{arith}
use native.Mathlib.Numerals.{add-one}
use mathlib.Core.List.{List, [], ◌∷◌, ◌++◌, append-nil}
use lib.ListN.{length, get_or, drop, replicate, length-append, length-replicate, drop_of_length-le}
use lib.Seq.{drop-cons}
use Rattle.rules.specs.Ceilings.{most_members}
use Rattle.rules.specs.Types.{State, Out, ok, no, Run, bind, give}
use Rattle.laws.proofs.Filtering.{under_both}
use Rattle.laws.proofs.Keeping.{bind_none, bind_more, Later, later_none, later_both, later_under, Keeps}
use Rattle.lang_ty.specs.declared.arena.Pass.{Pass}
use Rattle.lang_ty.specs.Nodes.{Stands}
use Rattle.members.specs.Lists.{Gathered, Adds}
use Rattle.members.proofs.Gathered.{gathered_none}
use Rattle.cells.specs.Placed.{Under}

-- the rule each, by its step f
pub record Loops (f : ℕ → Run (List ℕ)) (each : List ℕ → Run (List ℕ)) : Type 0 where
  pub none : (st : State) → each [] st ≡ ok [] st
  pub more : (x : ℕ) (xs : List ℕ) (st : State) → each (x ∷ xs) st ≡ bind (f x st) (λ ys z. bind (each xs z) (λ zs. give (ys ++ zs)))
  pub keeps : (x : ℕ) → Keeps (f x)

-- at member i of ys: what was got so far, and the rule is as far
pub record Partway (each : List ℕ → Run (List ℕ)) (ys : List ℕ) (st : State) (w : List ℕ) (q : Pass) (out : List ℕ) (k i : ℕ) : Type 0 where
  pub now : State
  pub got : List ℕ
  pub later : Later st now
  pub stands : Stands now w q
  pub gathered : Gathered out k got
  pub below : Under (length now.nodes) got
  pub few : length got ≤ i
  pub is : each ys st ≡ bind (each (drop i ys) now) (λ zs. give (got ++ zs))

pub partway_start : {each : List ℕ → Run (List ℕ)} {ys : List ℕ} {st : State} {w : List ℕ} {q : Pass} → Stands st w q
    → Partway each ys st w q (replicate most_members 0) 0 0
partway_start {each} {ys} {st} on =
    record {
      now = st;
      got = [];
      later = later_none st;
      stands = on;
      gathered = gathered_none (length-replicate {A = ℕ} most_members 0);
      below = tt;
      few = omega arith;
      is = bind_none (each ys st);
    }

module _ {f : ℕ → Run (List ℕ)} {each : List ℕ → Run (List ℕ)} {ys : List ℕ} {st : State} {w : List ℕ} {q : Pass} {out : List ℕ} {k i : ℕ}
    (l : Loops f each) (p : Partway each ys st w q out k i) where
  module _ (lt : i < length ys) where
    turned : {o : Out (List ℕ)} → f (get_or ys i 0) p.now ≡ o
        → each ys st ≡ bind (bind o (λ xs z. bind (each (drop (suc i) ys) z) (λ zs. give (xs ++ zs)))) (λ zs. give (p.got ++ zs))
    turned e =
        p.is
        ∙ ap (λ (o : Out (List ℕ)). bind o (λ zs. give (p.got ++ zs)))
        (ap (λ (xs : List ℕ). each xs p.now) (drop-cons ys i 0 lt)
        ∙ l.more (get_or ys i 0) (drop (suc i) ys) p.now
        ∙ ap (λ (o : Out (List ℕ)). bind o (λ xs z. bind (each (drop (suc i) ys) z) (λ zs. give (xs ++ zs)))) e)

    pub partway_more : {w' out' : List ℕ} {k' : ℕ} {q' : Pass} → Adds (f (get_or ys i 0) p.now) w' p.got out' k' q' → Partway each ys st w' q' out' k' (i + 1)
    partway_more a =
        let g = l.keeps (get_or ys i 0) p.now a.list a.after a.is in
        record {
          now = a.after;
          got = p.got ++ a.list;
          later = later_both p.later g;
          stands = a.stands;
          gathered = a.gathered;
          below = under_both (length a.after.nodes) p.got a.list (later_under p.got g p.below) a.below;
          few = omega (arith, length-append p.got a.list, p.few, a.most);
          is =
              turned a.is
              ∙ bind_more p.got a.list (each (drop (suc i) ys) a.after)
              ∙ ap (λ (j : ℕ). bind (each (drop j ys) a.after) (λ zs. give ((p.got ++ a.list) ++ zs))) (sym (add-one i));
        }

    pub partway_no : {j : ℕ} → f (get_or ys i 0) p.now ≡ no j → each ys st ≡ no j
    partway_no e = turned e

  pub partway_done : length ys ≤ i → each ys st ≡ ok p.got p.now
  partway_done le =
      p.is
      ∙ ap (λ (o : Out (List ℕ)). bind o (λ zs. give (p.got ++ zs)))
      (ap (λ (xs : List ℕ). each xs p.now) (drop_of_length-le ys {i = i} le) ∙ l.none p.now)
      ∙ ap (λ (xs : List ℕ). ok xs p.now) (append-nil p.got)
