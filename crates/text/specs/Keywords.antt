-- Kinds of lines as bytes, 17 for each kind: the length of its keyword, the keyword in 7, its section, the number of its fields, and what stands
-- in each in 7.
use Rattle.std.specs.Prelude.{◌≡◌, Bool, true, ℕ, zero, suc, ◌+◌, ◌*◌, ◌≤◌, ◌<◌, List, length, leb}
use Rattle.cells.specs.Part.{run, cell, part}
use Rattle.rules.specs.Plain.{both}
use Rattle.rules.specs.Text.{Kind, by_shape, tagged, record_in}
use Rattle.std.specs.Prelude as std
use Rattle.std.specs.Prelude.{None, Some}
use Rattle.text.specs.Reads.{span}
use Rattle.std.proofs.Math.Option.{Option, none}

pub record Byte (s : List ℕ) (i r : ℕ) : Type 0 where
  pub is : r ≡ cell s i

-- kind i has its 17 bytes, and neither its keyword nor its shape is longer than 7
pub record Slot (b : List ℕ) (i : ℕ) : Type 0 where
  pub size : 17 * i + 17 ≤ length b
  pub word : cell b (17 * i) ≤ 7
  pub shape : cell b (17 * i + 9) ≤ 7

-- the same of each of n kinds, as a test
abbrev pub slots : List ℕ → ℕ → Bool
slots b zero = true
slots b (suc n) =
    both (leb (17 * n + 17) (length b)) (λ _. both (leb (cell b (17 * n)) 7) (λ _. both (leb (cell b (17 * n + 9)) 7) (λ _. slots b n)))

pub record Slots (b : List ℕ) (n : ℕ) : Type 0 where
  pub are : slots b n ≡ true

abbrev pub word_at : List ℕ → ℕ → List ℕ
word_at b i = part b (17 * i + 1) (cell b (17 * i))

abbrev pub shape_at : List ℕ → ℕ → List ℕ
shape_at b i = part b (17 * i + 10) (cell b (17 * i + 9))

abbrev pub kind_at : List ℕ → ℕ → Kind
kind_at b i = record { word = word_at b i; section = cell b (17 * i + 8); shape = shape_at b i }

-- n kinds
abbrev pub kinds_in : List ℕ → ℕ → List Kind
kinds_in b n = run (kind_at b) 0 n

-- the row of a line with the keyword of this kind
abbrev pub record_of : List ℕ → std.Option ℕ → List (List ℕ) → Option (List ℕ)
record_of b None fs = none
record_of b (Some i) fs = tagged i (by_shape (shape_at b i) fs)

abbrev pub Under : ℕ → std.Option ℕ → Type 0
Under n None = Unit {0}
Under n (Some i) = i < n

-- the first of n kinds whose keyword stands between from and to
pub record KindOf (b : List ℕ) (n : ℕ) (s : List ℕ) (from to : ℕ) (r : std.Option ℕ) : Type 0 where
  pub is : (fs : List (List ℕ)) → record_of b r fs ≡ record_in (kinds_in b n) 0 (span s from to) fs
  pub under : Under n r
