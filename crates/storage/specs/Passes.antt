-- How the table's slice stands for a pass and for a table's entries.
use Rattle.std.specs.Prelude.{◌≡◌, not, ℕ, suc, ◌+◌, ◌≤◌, ◌<◌, List, length, eqb, ltb}
use Rattle.cells.specs.Part.{cell, if}
use Rattle.layout.specs.Layout.{marks_at, preserved_at, rows_at}
use Rattle.rules.specs.Ceilings.{most_entries}
use Rattle.rules.specs.Table.{Entry, var, prim, tyvar, list, fn, set, neg, named, inter, union, frozen, entry_kind, kids}
use Rattle.rules.specs.Canonicalizer.{Reader}
use Rattle.rules.specs.Canonicalizer as rules
use Rattle.lang_ty.specs.Sets.{SetAt}
use Rattle.storage.specs.declared.given.Canon.{Canon}
use Rattle.cells.specs.Placed.{Holds, Under}

-- a list in a row: its length stands at l, and its numbers after that
pub record ListAt (w : List ℕ) (l : ℕ) (xs : List ℕ) : Type 0 where
  pub count : cell w l ≡ length xs
  pub holds : Holds w (suc l) xs
  pub fits : suc l + length xs ≤ 4294967295

-- the lists of a variable stand one after the other
pub record BoundsAt (w : List ℕ) (v : ℕ) (l u : List ℕ) : Type 0 where
  pub lowers : ListAt w v l
  pub uppers : ListAt w (suc v + length l) u

-- what stands after the kind of an entry whose row begins at a
abbrev pub RestAt : List ℕ → ℕ → Entry → Type 0
RestAt w a (var l u) = BoundsAt w (suc a) l u
RestAt w a (prim c) = cell w (a + 1) ≡ c
RestAt w a (tyvar x) = cell w (a + 1) ≡ x
RestAt w a (list x) = cell w (a + 1) ≡ x
RestAt w a (fn x y) = (cell w (a + 1) ≡ x) × (cell w (a + 2) ≡ y)
RestAt w a (set t) = SetAt w (suc a) t
RestAt w a (neg x) = cell w (a + 1) ≡ x
RestAt w a (named n x) = (cell w (a + 1) ≡ n) × (cell w (a + 2) ≡ x)
RestAt w a (inter x y) = (cell w (a + 1) ≡ x) × (cell w (a + 2) ≡ y)
RestAt w a (union x y) = (cell w (a + 1) ≡ x) × (cell w (a + 2) ≡ y)
RestAt w a frozen = Unit {0}

pub record EntryAt (w : List ℕ) (a : ℕ) (e : Entry) : Type 0 where
  pub kind : cell w a ≡ entry_kind e
  pub fits : a + 2 ≤ 4294967295
  pub rest : RestAt w a e

-- where entry id's row begins is told at base + id, after the facts, and its ids are entries
pub record Reads (table : List ℕ) (c : Canon) (t : Reader) : Type 0 where
  pub first : rows_at ≤ c.base
  pub behind : (id : ℕ) → id < c.count → rows_at ≤ cell table (c.base + id)
  pub entry : (id : ℕ) → id < c.count → EntryAt table (cell table (c.base + id)) (t id)
  pub known : (id : ℕ) → id < c.count → Under c.count (kids (t id))

-- "a number of n or more is its own representative"
abbrev pub rep_of : List ℕ → ℕ → ℕ → ℕ
rep_of table count id = if (ltb id count) (λ _. cell table id) (λ _. id)

-- the facts hold the pass's representatives, which are entries
pub record Reps (table : List ℕ) (c : Canon) (p : rules.Pass) : Type 0 where
  pub is : (id : ℕ) → p.rep id ≡ rep_of table c.count id
  pub below : (id : ℕ) → id < c.count → p.rep id < c.count

-- what lies in the table's slice is what the rules' pass is given
pub record Knows (table : List ℕ) (c : Canon) (p : rules.Pass) (t : Reader) : Type 0 where
  pub count : p.count ≡ c.count
  pub few : c.count ≤ most_entries
  pub reads : Reads table c t
  pub reps : Reps table c p
  pub marked : (id : ℕ) → id < c.count → p.marked id ≡ not (eqb (cell table (marks_at + id)) 0)
  pub preserved : (id : ℕ) → id < c.count → p.preserved id ≡ not (eqb (cell table (preserved_at + id)) 0)
  pub budget : p.budget ≡ c.budget
  pub spent : p.spent ≡ c.spent
  pub functor : p.functor ≡ c.functor
