-- What is asked of members: of two nodes, and of a node beside the members. Each contract's premises are arguments of its field.
use Rattle.std.specs.Prelude.{Bool, not, ℕ, ◌<◌, List, length}
use Rattle.rules.specs.Types.{Node, kind_of, node_at, is}
use Rattle.rules.specs.Plain.{any, all, filter, contains, both}
use Rattle.rules.specs.Members.{inner_of, negated_inners, is_positive, is_concrete, are_output_types_disjoint, is_output_subtype_or_equal, spared, takes_some}
use Rattle.lang_ty.specs.declared.arena.Pass.{Pass}
use Rattle.lang_ty.specs.Nodes.{Arena}
use Rattle.members.specs.declared.lists.Members.{Members}
use Rattle.members.specs.Lists.{first_of, Taken}

-- y has a known constructor and is not disjoint from x
abbrev pub overlap : ℕ → List Node → ℕ → ℕ → Bool
overlap functor ns x y = both (is_concrete ns y) (λ _. not (are_output_types_disjoint functor ns y x))

-- m is a Neg that holds x or a wider primitive
abbrev pub negated_by : List Node → ℕ → ℕ → Bool
negated_by ns x m = any (is_output_subtype_or_equal ns x) (inner_of (node_at ns m))

-- m is the negation of x
abbrev pub negates : List Node → ℕ → ℕ → Bool
negates ns x m = contains (inner_of (node_at ns m)) x

abbrev pub other_kind : List Node → ℕ → ℕ → Bool
other_kind ns x y = not (is ns (kind_of (node_at ns x)) y)

-- m is a Neg, and what it holds is disjoint from every member with a known constructor
abbrev pub redundant : ℕ → List Node → List ℕ → ℕ → Bool
redundant functor ns ms m = any (λ (a : ℕ). all (λ (c : ℕ). are_output_types_disjoint functor ns c a) (filter (is_concrete ns) ms)) (inner_of (node_at ns m))

-- a Neg among the members holds x or a wider primitive
abbrev pub negated : List Node → List ℕ → ℕ → Bool
negated ns xs x = any (is_output_subtype_or_equal ns x) (negated_inners ns xs)

-- what the negations among the members spare of node x
pub record Spares (w ms : List ℕ) (n x : ℕ) (r : Members) : Type 0 where
  pub is : {q : Pass} {ns : List Node} {xs : List ℕ} → Arena w q ns → Taken (first_of n ms) xs (length ns) → x < length ns
      → Taken r (spared ns (negated_inners ns xs) x) (length ns)

-- x is positive, and negated
abbrev pub subsumed : List Node → List ℕ → ℕ → Bool
subsumed ns xs x = both (is_positive ns x) (λ _. negated ns xs x)

-- x is a union, and a negation among the members takes some member of it
abbrev pub takes : List Node → List ℕ → ℕ → Bool
takes ns xs x = takes_some ns (negated_inners ns xs) x
