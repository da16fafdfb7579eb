-- The walk of a root's nodes, in the working slice, and what the functions of walk.rt ensure.
use Rattle.std.specs.Prelude.{◌≡◌, false, ℕ, suc, ◌-◌, ◌≤◌, ◌<◌, length, get_or}
use mathlib.Core.List.{List, [], ◌∷◌, ◌++◌, foldl}
use Rattle.cells.specs.Part.{cell}
use Rattle.layout.specs.Layout.{work_length}
use Rattle.rules.specs.Plain.{contains}
use Rattle.rules.specs.Types.{Node}
use Rattle.rules.specs.Listing.{walk_by, walk}
use Rattle.lang_ty.specs.declared.arena.Pass.{Pass}
use Rattle.lang_ty.specs.Nodes.{Arena}
use Rattle.cells.specs.Placed.{Holds, Under}

-- where the nodes stand by their numbers in the listing
abbrev pub order_at : ℕ
order_at = 8192

-- the number of node y in the listing, by its cell
abbrev pub number_of : List ℕ → ℕ → ℕ
number_of work y = cell work y - 1

-- the nodes below top that are seen have the numbers from 0 on: the cell of each is its number and 1, of any other 0
pub record Numbered (work : List ℕ) (top : ℕ) (seen : List ℕ) (n : ℕ) : Type 0 where
  pub count : n ≡ length seen
  pub nodes : Holds work order_at seen
  pub numbers : (k : ℕ) → k < length seen → cell work (get_or seen k 0) ≡ suc k
  pub others : (y : ℕ) → y < top → contains seen y ≡ false → cell work y ≡ 0

-- what is reached from the nodes xs, all below top, in the order of the walk
abbrev pub reached : List Node → ℕ → List ℕ → List ℕ
reached ns top xs = foldl (walk_by top ns) [] xs

-- what is reached from xs has its numbers, k of them; then what is reached from x too, r of them
pub record Visits (arena work : List ℕ) (x k : ℕ) (work' : List ℕ) (r : ℕ) : Type 0 where
  pub is : {q : Pass} {ns : List Node} {top : ℕ} (xs : List ℕ) → Arena arena q ns → work_length ≤ length work → top ≤ length ns → Under top xs → x < top
      → Numbered work top (reached ns top xs) k → Numbered work' top (reached ns top (xs ++ (x ∷ []))) r

pub record Walks (arena work : List ℕ) (x : ℕ) (work' : List ℕ) (r : ℕ) : Type 0 where
  pub is : {q : Pass} {ns : List Node} → Arena arena q ns → work_length ≤ length work → x < length ns → Numbered work' (suc x) (walk ns x) r
