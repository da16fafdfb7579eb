-- What the functions of primitive.rt and disjoint.rt ensure.
use Rattle.std.specs.Prelude.{◌≡◌, Bool, ◌||◌, ℕ, ◌≤◌, ◌<◌, List, length, eqb}
use Rattle.rules.specs.Table.{Attr}
use Rattle.rules.specs.Types.{Node, AttrSet, kind_of, node_at}
use Rattle.rules.specs.Members.{is_subtype_of, primitives_disjoint, lacks, are_output_types_disjoint}
use Rattle.laws.specs.Sound.{Orderly}
use Rattle.lang_ty.specs.declared.arena.Pass.{Pass}
use Rattle.lang_ty.specs.Nodes.{Arena}
use Rattle.lang_ty.specs.Sets.{SetAt}

-- "Int and Float lie below Number and nothing else lies below anything"
pub record Subtype (a b : ℕ) (r : Bool) : Type 0 where
  pub is : r ≡ is_subtype_of a b

-- where the set of node x stands
pub record SetPlace (w : List ℕ) (x r : ℕ) : Type 0 where
  pub is : {q : Pass} {ns : List Node} {t : Attr} → Arena w q ns → x < length ns → node_at ns x ≡ AttrSet t → SetAt w r t

pub record Lacks (w : List ℕ) (a b : ℕ) (r : Bool) : Type 0 where
  pub is : {t u : Attr} → SetAt w a t → SetAt w b u → Orderly t → Orderly u → r ≡ lacks t u

pub record Apart (a b : ℕ) (r : Bool) : Type 0 where
  pub is : r ≡ primitives_disjoint a b

-- a known constructor, by its kind
pub record Constructor (k : ℕ) (r : Bool) : Type 0 where
  pub is : r ≡ (eqb k 1 || eqb k 4 || eqb k 2 || eqb k 3)

-- of two nodes of one constructor: "Two sets: one closed and the other requiring a field it lacks"
pub record SameDisjoint (w : List ℕ) (k a b : ℕ) (r : Bool) : Type 0 where
  pub is : {q : Pass} {ns : List Node} → Arena w q ns → a < length ns → b < length ns → kind_of (node_at ns a) ≡ k → kind_of (node_at ns b) ≡ k
      → 1 ≤ k → k ≤ 4 → (functor : ℕ) → r ≡ are_output_types_disjoint functor ns a b

-- of any two: "Set and lambda: disjoint unless the set has `__functor`"
pub record Disjoint (w : List ℕ) (functor a b : ℕ) (r : Bool) : Type 0 where
  pub is : {q : Pass} {ns : List Node} → Arena w q ns → a < length ns → b < length ns → r ≡ are_output_types_disjoint functor ns a b
