-- What is done to the members of a union: what the functions of unions.rt ensure.
use Rattle.std.specs.Prelude.{◌≡◌, Bool, not, ◌||◌, ℕ, ◌<◌, List, [], ◌∷◌, ◌++◌, length, get_or, eqb}
use Rattle.cells.specs.Part.{cell, if}
use Rattle.rules.specs.Ceilings.{most_members}
use Rattle.rules.specs.Plain.{filter, contains, both}
use Rattle.rules.specs.Table.{Attr}
use Rattle.rules.specs.Types.{Node, AttrSet, node_at, as_attr}
use Rattle.rules.specs.Members.{negated_inners, is_positive, cancelled, no_dyn_or_same, subsumes_node, taken_by_node, left}
use Rattle.lang_ty.specs.declared.arena.Pass.{Pass}
use Rattle.lang_ty.specs.Nodes.{Arena}
use Rattle.lang_ty.specs.Sets.{SetAt}
use Rattle.members.specs.declared.lists.Members.{Members}
use Rattle.members.specs.Lists.{Taken}
use Rattle.simplify.specs.OwnKeys.{Idle}

-- x is one half of a pair: a positive that a Neg among ys holds, or the Neg of a positive among xs
abbrev pub halved : List Node → List ℕ → List ℕ → ℕ → Bool
halved ns xs ys x = cancelled ns (filter (is_positive ns) xs) (negated_inners ns ys) x

pub record Cancels (w : List ℕ) (m g : Members) (x : ℕ) (r : Bool) : Type 0 where
  pub is : {q : Pass} {ns : List Node} {xs ys : List ℕ} → Arena w q ns → Taken m xs (length ns) → Taken g ys (length ns) → x < length ns
      → r ≡ halved ns xs ys x

-- the set at a has no dyn, or that of the one at b
pub record DynCovers (w : List ℕ) (a b : ℕ) (r : Bool) : Type 0 where
  pub is : {t u : Attr} → SetAt w a t → SetAt w b u → r ≡ no_dyn_or_same t.dyn u.dyn

-- node x, a set, takes up node y
pub record Subsumes (w : List ℕ) (x y : ℕ) (r : Bool) : Type 0 where
  pub is : {q : Pass} {ns : List Node} {t : Attr} → Arena w q ns → x < length ns → y < length ns → node_at ns x ≡ AttrSet t
      → r ≡ subsumes_node t (as_attr (node_at ns y))

-- of the 128 cells gone, those at the places ps are marked, and no others
pub record Marked (gone ps : List ℕ) : Type 0 where
  pub room : length gone ≡ most_members
  pub is : (j : ℕ) → j < most_members → eqb (cell gone j) 0 ≡ not (contains ps j)

pub record MarksIf (gone : List ℕ) (j : ℕ) (b : Bool) (gone' : List ℕ) : Type 0 where
  pub is : {ps : List ℕ} → Marked gone ps → j < most_members → Marked gone' (if b (λ _. ps ++ (j ∷ [])) (λ _. ps))

-- the set x, at place i, takes up the member at place j
pub record Takes (w ms : List ℕ) (i x j : ℕ) (gone : List ℕ) (r : Bool) : Type 0 where
  pub is : {q : Pass} {ns : List Node} {t : Attr} {ps : List ℕ} → Arena w q ns → x < length ns → node_at ns x ≡ AttrSet t → cell ms j < length ns
      → Marked gone ps → j < most_members → r ≡ both (not (eqb i j || contains ps j)) (λ _. subsumes_node t (as_attr (node_at ns (cell ms j))))

-- the places that the member at place i takes up are marked too
pub record MarksTaken (w : List ℕ) (m : Members) (i : ℕ) (own gone gone' : List ℕ) : Type 0 where
  pub is : {q : Pass} {ns : List Node} {xs ps : List ℕ} → Arena w q ns → Taken m xs (length ns) → i < m.count → Idle ns xs own → Marked gone ps
      → Marked gone' (taken_by_node ns xs ps i (as_attr (node_at ns (get_or xs i 0))))

-- the members whose places are not marked
pub record Leaves (m : Members) (gone : List ℕ) (r : Members) : Type 0 where
  pub is : {xs ps : List ℕ} {k : ℕ} → Taken m xs k → Marked gone ps → Taken r (left ps 0 xs) k
