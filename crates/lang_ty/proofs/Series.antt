-- The store of the code beside the rules' on any series of nodes. Assumes nothing.
use mathlib.Core.Path.{◌≡◌, refl, ap, ◌∙◌}
use Prim.Native.Nat.{ℕ}
use mathlib.Core.List.{List, [], ◌∷◌}
use Rattle.rules.specs.Types.{State, Out, ok, no, bind, Node, encode, cells_of, store}
use Rattle.laws.specs.Indexed.{series}
use Rattle.lang_ty.specs.declared.arena.Pass.{Pass}
use Rattle.lang_ty.specs.Given.{Node as NodeG, Refused}
use Rattle.lang_ty.specs.Nodes.{Stands, Fits, Stored}

-- nodes stored by the code one after another, from a slice and a pass on: each was told its number
pub data Stores : List ℕ → Pass → List Node → List ℕ → List ℕ → Pass → Type 0 where
  done : {w : List ℕ} {q : Pass} → Stores w q [] [] w q
  next : {w w₁ w₂ : List ℕ} {q q₁ q₂ : Pass} {n : Node} {x : ℕ} {ns : List Node} {xs : List ℕ} → Fits n q.nodes (cells_of n)
      → Stored (encode n) (cells_of n) w q w₁ (NodeG x q₁) → Stores w₁ q₁ ns xs w₂ q₂ → Stores w q (n ∷ ns) (x ∷ xs) w₂ q₂

-- the rules' store tells the same numbers, and the slice stands for the state that it comes to
pub record Told (st : State) (ns : List Node) (xs w : List ℕ) (q : Pass) : Type 0 where
  pub after : State
  pub is : series store ns st ≡ ok xs after
  pub stands : Stands after w q

pub stores_alike : {w w' : List ℕ} {q q' : Pass} {ns : List Node} {xs : List ℕ} (st : State) → Stands st w q → Stores w q ns xs w' q' → Told st ns xs w' q'
stores_alike st on done = record { after = st; is = refl; stands = on }
stores_alike st on (next {n = n} {x = x} {ns = ns} {xs = xs} fits stored rest) =
    let g = (stored.is {n = n} on fits refl).is in
    let t = stores_alike g.after g.stands rest in
    record {
      after = t.after;
      is =
          ap (λ (o : Out ℕ). bind o (λ y s. bind (series store ns s) (λ ys z. ok (y ∷ ys) z))) g.is
          ∙ ap (λ (o : Out (List ℕ)). bind o (λ ys z. ok (x ∷ ys) z)) t.is;
      stands = t.stands;
    }

-- and where the code refuses the next node, the rules' store refuses it by the same number
pub refuses_alike : {w w' : List ℕ} {q : Pass} {n : Node} {k : ℕ} (st : State) → Stands st w q → Fits n q.nodes (cells_of n)
    → Stored (encode n) (cells_of n) w q w' (Refused k) → store n st ≡ no k
refuses_alike {n = n} st on fits stored = (stored.is {n = n} on fits refl).is
