-- A variable as a node, and beside what its bounds expand to, return by return. Assumes nothing.
use mathlib.Core.Path.{◌≡◌, sym, ap, ap₂, ◌∙◌, subst}
use mathlib.Core.Bool.{Bool, true, false, ◌||◌}
use Prim.Native.Nat.{ℕ, ◌<◌}
use native.Mathlib.Omega.{arith}
use mathlib.Core.List.{List, [], ◌∷◌}
use lib.ListN.{length, length-append}
use lib.Dec.{eqb}
use borrow.Author.Tests.{ne_eqb}
use Rattle.cells.specs.Part.{if}
use Rattle.rules.specs.Types.{State, Out, Run, bind, give, TyVar, store}
use Rattle.rules.specs.Canonicalizer.{composite_kind, composite, preserving}
use Rattle.rules.specs.Canonicalizer as rules
use Rattle.rules.specs.declared.Polarity.{Polarity}
use Rattle.rules.specs.declared.Polarity.TheVariants.{Positive, Negative}
use Rattle.laws.proofs.Storing.{store_keeps}
use Rattle.lang_ty.specs.declared.arena.Pass.{Pass}
use Rattle.lang_ty.specs.Given.{Given}
use Rattle.lang_ty.specs.Given.{Node}
use Rattle.lang_ty.specs.Nodes.{Stands, Answers, Kind, Stored}
use Rattle.lang_ty.proofs.Stores.{gives, answers_of, stored_tyvar, stored_union, stored_intersection}
use Rattle.storage.specs.declared.given.Canon.{Canon}
use Rattle.storage.specs.Passes.{Reps}
use Rattle.storage.specs.Equivs.{Rep}
use Rattle.storage.specs.Vars.{IsVariable, Beside}

pub variable_is : {table w w' : List ℕ} {c : Canon} {q : Pass} {id r : ℕ} {g : Given} → Rep table c.count id r
    → Stored (0 ∷ r ∷ []) 0 w q w' g
    → IsVariable table c w q id w' g
variable_is {id = id} rep h =
    record { is = λ {p} {st} k on. answers_of (ap (λ (x : ℕ). store (TyVar x) st) (k.is id ∙ sym rep.is)) (stored_tyvar on h) }

both_stored : {st : State} {w w' : List ℕ} {q : Pass} {r : Given} {a b : ℕ} (pol : Polarity) → Stands st w q
    → Stored (composite_kind pol ∷ 2 ∷ a ∷ b ∷ []) 2 w q w' r → a < q.nodes → b < q.nodes → Answers (store (composite pol (a ∷ b ∷ [])) st) w' r
both_stored Positive on h la lb = stored_union on h la lb
both_stored Negative on h la lb = stored_intersection on h la lb

-- what is left to do once the variable is node y
abbrev ending : Bool → Polarity → ℕ → ℕ → Run ℕ
ending b pol x y = if b (λ _. give y) (λ _. store (composite pol (y ∷ x ∷ [])))

-- `beside`
module _ {table w w₁ : List ℕ} {c : Canon} {q : Pass} {x id k : ℕ} {v : Given} (kind : Kind w x k) (h : IsVariable table c w q id w₁ v) where
  module _ {y : ℕ} {r : Pass} (e : v ≡ Node y r) where
    -- whether x is neither, by its kind
    goes : {p : rules.Pass} {st : State} (pol : Polarity) (b : Bool) → (eqb k 0 || eqb k 9) ≡ b → (reps : Reps table c p) (on : Stands st w q)
        → x < length st.nodes
        → preserving p id pol x st ≡ ending b pol x y (gives (h.is reps on) e).after
    goes {p} {st} pol b z reps on lt =
        ap₂ (λ (t : Bool) (o : Out ℕ). bind o (ending t pol x))
        (ap (λ (j : ℕ). eqb j 0 || eqb j 9) (sym (kind.is on.arena lt)) ∙ z) (gives (h.is reps on) e).is

    alone : {pol : Polarity} → (eqb k 0 || eqb k 9) ≡ true → Beside table c w q x id pol w₁ (Node y r)
    alone {pol} z =
        record {
          is = λ {p} {st} reps on lt.
              let g = gives (h.is reps on) e in
              record { is = record { after = g.after; is = goes pol true z reps on lt; stands = g.stands; below = g.below } };
        }

    pub beside_both : {pol : Polarity} {w₂ : List ℕ} {j : ℕ} {o : Given} → (k ≡ 0 → ⊥) → (k ≡ 9 → ⊥) → j ≡ composite_kind pol
        → Stored (j ∷ 2 ∷ y ∷ x ∷ []) 2 w₁ r w₂ o
        → Beside table c w q x id pol w₂ o
    beside_both {pol} {w₂} {j} {o} a b z stored =
        record {
          is = λ {p} {st} reps on lt.
              let g = gives (h.is reps on) e in
              let grown = (store_keeps (TyVar (p.rep id)) st y g.after g.is).grows in
              let longer = ap length grown.nodes ∙ length-append st.nodes grown.more in
              let count = g.stands.arena.count in
              answers_of (goes pol false (ap₂ (λ (t u : Bool). t || u) (ne_eqb k 0 a) (ne_eqb k 9 b)) reps on lt)
              (both_stored pol g.stands (subst (λ (n : ℕ). Stored (n ∷ 2 ∷ y ∷ x ∷ []) 2 w₁ r w₂ o) z stored)
              (omega (arith, g.below)) (omega arith));
        }
