-- Records of an input.
use Rattle.std.specs.Prelude.{ℕ, ◌+◌, ◌<◌, ◌≤◌, min}
use Rattle.programs.specs.declared.Part.{Part}
use Rattle.examples.specs.declared.Record.{Record}

-- a part of n bytes, after a head at a that has a byte, unless a is their end
pub record Behind (a n : ℕ) (p : Part) : Type 0 where
  pub head : min (a + 1) n ≤ p.from
  pub order : p.from ≤ p.to
  pub end : p.to ≤ n

-- a record of n bytes, after a head at a
pub record Ahead (a n : ℕ) (r : Record) : Type 0 where
  pub head : a < r.from
  pub given : r.from ≤ r.mid
  pub between : r.mid ≤ r.start
  pub answer : r.start ≤ r.end
  pub end : r.end ≤ n
