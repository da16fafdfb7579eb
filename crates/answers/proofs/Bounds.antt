-- Nodes that stand in an arena are so few and so short that their lines have positions. Assumes nothing.
use mathlib.Core.Path.{◌≡◌, refl, sym, ap, subst}
use mathlib.Core.Bool.{Bool, true, false}
use Prim.Native.Nat.{ℕ, zero, suc, ◌+◌, ◌≤◌}
use native.Mathlib.Omega.{arith}
use mathlib.Core.List.{List, [], ◌∷◌}
use lib.ListN.{length, get_or-eq_default}
use lib.Dec.{ltb}
use borrow.Author.Tests.{ltb-true, ltb-false}
use Rattle.cells.specs.Part.{cell}
use Rattle.cells.proofs.Holding.{holds_head, holds_tail}
use Rattle.rules.specs.Text.{greatest}
use Rattle.rules.specs.Types.{Node, Bottom, encode, node_at}
use Rattle.laws.proofs.Spreading.{sum_to}
use Rattle.laws.proofs.Bounding.{Numbers, row_length, Modest}
use Rattle.lang_ty.specs.declared.arena.Pass.{Pass}
use Rattle.lang_ty.specs.Nodes.{Arena}
use Rattle.cells.specs.Placed.{Holds}

module _ (w : List ℕ) (cells : (k : ℕ) → cell w k ≤ greatest) where
  -- each word of a row that stands in a slice is one of its cells
  row_numbers : (a : ℕ) (xs : List ℕ) → Holds w a xs → Numbers xs
  row_numbers a [] h = tt
  row_numbers a (x ∷ xs) h = (omega (arith, holds_head h, cells a), row_numbers (suc a) xs (holds_tail h))

  module _ {q : Pass} {ns : List Node} (a : Arena w q ns) where
    rows_end : (k : ℕ) → k ≤ length ns → cell w k ≡ cell w 0 + sum_to k (row_length ns)
    rows_end zero h = omega arith
    rows_end (suc k) h = let r = rows_end k (omega arith) in omega (arith, a.ends k (omega arith))

    node_numbers : (b : Bool) (x : ℕ) → ltb x (length ns) ≡ b → Numbers (encode (node_at ns x))
    node_numbers true x e = row_numbers (cell w x) (encode (node_at ns x)) (a.rows x (ltb-true x (length ns) e))
    node_numbers false x e =
        subst (λ (n : Node). Numbers (encode n)) (sym (get_or-eq_default ns Bottom {n = x} (ltb-false x (length ns) e))) (omega arith, tt)

    pub modest : Modest ns
    modest = record {
      few = omega (arith, a.count, a.few);
      words = omega (arith, rows_end (length ns) (omega arith), ap (cell w) a.count, a.few, a.cells, a.first, a.top);
      numbers = λ x. node_numbers (ltb x (length ns)) x refl;
      below = a.below;
    }
