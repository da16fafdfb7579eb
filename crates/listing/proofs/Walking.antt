-- The walk from several nodes: how many levels are allowed for does not matter, and what is reached stands each after its children, once. Assumes
-- nothing.
use mathlib.Core.Path.{◌≡◌, refl, sym, ap, ◌∙◌}
use mathlib.Core.Bool.{Bool, true, false}
use Prim.Native.Nat.{ℕ, zero, suc, ◌≤◌, ◌<◌}
use native.Mathlib.Omega.{arith}
use native.Mathlib.Nat.{not-suc-le-zero, lt_of_not-le}
use mathlib.Core.List.{List, [], ◌∷◌, ◌++◌, foldl}
use lib.ListN.{length}
use Rattle.cells.specs.Part.{if}
use Rattle.rules.specs.Plain.{contains}
use Rattle.rules.specs.Types.{Node, children, node_at}
use Rattle.rules.specs.Listing.{walk_by}
use Rattle.laws.proofs.Storing.{Rooted}
use Rattle.laws.proofs.Walking.{Steps, walk_each, walk_by_lem}
use Rattle.listing.specs.Walks.{reached}
use Rattle.cells.specs.Placed.{Under}
use Rattle.cells.proofs.Choices.{true_false}

-- a list of nodes below top, each after its children, once
pub record Known (ns : List Node) (top : ℕ) (seen : List ℕ) : Type 0 where
  pub steps : Steps ns [] seen
  pub within : (y : ℕ) → contains seen y ≡ true → y < top

folds_alike : (v w : List ℕ → ℕ → List ℕ) (k : ℕ) → ((seen : List ℕ) (x : ℕ) → x < k → v seen x ≡ w seen x) → (seen xs : List ℕ) → Under k xs
    → foldl v seen xs ≡ foldl w seen xs
folds_alike v w k h seen [] u = refl
folds_alike v w k h seen (x ∷ xs) u = ap (λ (l : List ℕ). foldl v l xs) (h seen x u.0) ∙ folds_alike v w k h (w seen x) xs u.1

-- one visit, of a node that was seen and of one that was not
pub visit_seen : (ns : List Node) (top : ℕ) (seen : List ℕ) (x : ℕ) → contains seen x ≡ true → walk_by top ns seen x ≡ seen
visit_seen ns zero seen x h = refl
visit_seen ns (suc f) seen x h = ap (λ (b : Bool). if b (λ _. seen) (λ _. foldl (walk_by f ns) seen (children (node_at ns x)) ++ (x ∷ []))) h

module _ (ns : List Node) (rooted : Rooted ns) where
  -- how many levels are allowed for does not matter
  levels : (f g : ℕ) (seen : List ℕ) (x : ℕ) → x < length ns → x < f → x < g → walk_by f ns seen x ≡ walk_by g ns seen x
  levels zero g seen x l a b = absurd (not-suc-le-zero a)
  levels (suc f) zero seen x l a b = absurd (not-suc-le-zero b)
  levels (suc f) (suc g) seen x l a b =
      ap (λ (l : List ℕ). if (contains seen x) (λ _. seen) (λ _. l ++ (x ∷ [])))
      (folds_alike (walk_by f ns) (walk_by g ns) x (λ s y lt. levels f g s y (omega arith) (omega arith) (omega arith)) seen (children (node_at ns x)) (rooted.is x l))

  module _ (top : ℕ) (le : top ≤ length ns) where
    pub reached_known : (xs : List ℕ) → Under top xs → Known ns top (reached ns top xs)
    reached_known xs u =
        let w = walk_each ns rooted top (walk_by_lem ns rooted top) [] xs top u (omega arith) le tt in
        record { steps = w.steps; within = λ y h. lt_of_not-le (λ l. true_false (sym h ∙ w.low y refl l)) }

    pub kids_news : (seen : List ℕ) (x : ℕ) → x < top → Known ns top seen → contains seen x ≡ false
        → contains (foldl (walk_by top ns) seen (children (node_at ns x))) x ≡ false
    kids_news seen x l kn e =
        (walk_each ns rooted top (walk_by_lem ns rooted top) seen (children (node_at ns x)) x (rooted.is x (omega arith)) (omega arith) (omega arith) kn.steps).low
        x e (omega arith)

    pub visit_new : (seen : List ℕ) (x : ℕ) → x < top → contains seen x ≡ false
        → walk_by top ns seen x ≡ foldl (walk_by top ns) seen (children (node_at ns x)) ++ (x ∷ [])
    visit_new seen x l h = by_level top le l
      where
        by_level : (f : ℕ) → f ≤ length ns → x < f → walk_by f ns seen x ≡ foldl (walk_by f ns) seen (children (node_at ns x)) ++ (x ∷ [])
        by_level zero le l = absurd (not-suc-le-zero l)
        by_level (suc f) le l =
            ap (λ (b : Bool). if b (λ _. seen) (λ _. foldl (walk_by f ns) seen (children (node_at ns x)) ++ (x ∷ []))) h
            ∙ ap (λ (s : List ℕ). s ++ (x ∷ []))
            (folds_alike (walk_by f ns) (walk_by (suc f) ns) x (λ s y lt. levels f (suc f) s y (omega arith) (omega arith) (omega arith)) seen
            (children (node_at ns x)) (rooted.is x (omega arith)))
