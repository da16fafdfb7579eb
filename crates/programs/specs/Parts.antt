-- Parts of an input, parted by lines that are `next`.
use Rattle.std.specs.Prelude.{◌≡◌, Bool, true, ℕ, ◌+◌, ◌-◌, ◌≤◌, List, [], ◌∷◌, ◌++◌, length, take, drop, eqb, ltb, leb}
use Rattle.std.proofs.Math.Seq.{slice}
use Rattle.cells.specs.Part.{if, cell, eq_list}
use Rattle.rules.specs.Plain.{ascii, both}
use Rattle.rules.specs.Text.{line_feed}
use Rattle.rules.specs.Calls.{split_next}
use Rattle.programs.specs.declared.Part.{Part}

-- the line that parts, with its line feed
abbrev pub next_line : List ℕ
next_line = ascii "next" ++ (line_feed ∷ [])

-- a line begins at i; lines begin at from
abbrev pub line_at : List ℕ → ℕ → ℕ → Bool
line_at s from i = if (leb i from) (λ _. true) (λ _. eqb (cell s (i - 1)) line_feed)

pub record IsNext (s : List ℕ) (from i : ℕ) (r : Bool) : Type 0 where
  pub is : r ≡ both (line_at s from i) (λ _. eq_list (take 5 (drop i s)) next_line)

-- where what comes after a part begins: after its line `next`, or at the end of n bytes
abbrev pub behind_of : ℕ → ℕ → ℕ
behind_of n to = if (ltb (n - to) 5) (λ _. n) (λ _. to + 5)

pub record Behind (n to r : ℕ) : Type 0 where
  pub is : r ≡ behind_of n to
  pub end : r ≤ n

-- the part from a place on, up to the first line that is `next`, as the rules cut it
pub record UntilNext (s : List ℕ) (from : ℕ) (p : Part) : Type 0 where
  pub start : p.from ≡ from
  pub order : p.from ≤ p.to
  pub end : p.to ≤ length s
  pub is : split_next (drop from s) ≡ record { front = slice from p.to s; back = drop (behind_of (length s) p.to) s }
