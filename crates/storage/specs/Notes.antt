-- What the functions of marks.rt ensure.
use Rattle.std.specs.Prelude.{◌≡◌, Bool, false, ℕ, ◌+◌, ◌*◌, ◌%◌, ◌≤◌, List, set, eqb, ltb}
use Rattle.cells.specs.Part.{cell}
use Rattle.layout.specs.Layout.{bits_at}
use Rattle.rules.specs.Plain.{both}
use Rattle.rules.specs.Canonicalizer.{add_bit, is_both}
use Rattle.rules.specs.Canonicalizer as rules
use Rattle.rules.specs.declared.Polarity.{Polarity}
use Rattle.lang_ty.specs.declared.arena.Pass.{Pass}
use Rattle.storage.specs.declared.given.Canon.{Canon}
use Rattle.storage.specs.declared.notes.Begun.{Begun}
use Rattle.storage.specs.declared.notes.PolarityBits.{PolarityBits}
use Rattle.storage.specs.Passes.{rep_of}

pub record AddsBit (b : PolarityBits) (pol : Polarity) (r : PolarityBits) : Type 0 where
  pub is : r.bits ≡ add_bit b.bits pol

pub record IsBoth (b : PolarityBits) (r : Bool) : Type 0 where
  pub is : r ≡ is_both b.bits

pub record Slot (id : ℕ) (pol : Polarity) (r : ℕ) : Type 0 where
  pub is : 2 * id + 1 ≤ 4294967295 → r ≡ rules.slot id pol

-- "its polarity is noted", at its representative
pub record Notes (table : List ℕ) (c : Canon) (work : List ℕ) (id : ℕ) (pol : Polarity) (work' : List ℕ) : Type 0 where
  pub is : work' ≡ set work (bits_at + rep_of table c.count id) (add_bit (cell work (bits_at + rep_of table c.count id)) pol)

-- r is q with these operations and this bail
pub record PassWith (q : Pass) (counted : ℕ) (over : Bool) (r : Pass) : Type 0 where
  pub nodes : r.nodes ≡ q.nodes
  pub cells : r.cells ≡ q.cells
  pub ops : r.ops ≡ counted
  pub sorted : r.sorted ≡ q.sorted
  pub bailed : r.bailed ≡ over

pub record Exceeds (c : Canon) (q : Pass) (r : Bool) : Type 0 where
  pub is : r ≡ both (eqb (q.ops % 512) 0) (λ _. ltb c.budget (c.spent + q.ops))

abbrev pub begun_of : Begun → rules.Begun
begun_of g = record { lower = g.lower; upper = g.upper }

pub record NoneBegun (r : Begun) : Type 0 where
  pub is : begun_of r ≡ record { lower = false; upper = false }

pub record Began (g : Begun) (pol : Polarity) (r : Bool) : Type 0 where
  pub is : r ≡ rules.began (begun_of g) pol

pub record Begins (g : Begun) (pol : Polarity) (bailed : Bool) (r : Begun) : Type 0 where
  pub is : begun_of r ≡ rules.begin bailed (begun_of g) pol
