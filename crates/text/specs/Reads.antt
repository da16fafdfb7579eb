-- A text by positions, and what the functions ask and ensure.
use Rattle.std.specs.Prelude.{◌≡◌, Bool, ℕ, ◌+◌, ◌-◌, ◌≤◌, ◌<◌, List, [], ◌∷◌, length, eqb, ltb}
use Rattle.cells.specs.Part.{cell, part, if, eq_list}
use Rattle.rules.specs.Text.{tab, comma, colon, pieces, digit, digits, number, elements, list_of, single, keyed, hex, escaped, name, up_to, sign_of}
use Rattle.rules.specs.Text.{dyn_of, field_of, by_shape, Kind, tagged, row_of}
use Rattle.std.specs.Prelude as std
use Rattle.std.specs.Prelude.{None, Some}
use Rattle.text.specs.Escapes.{Read, bad, move, put, next}
use Rattle.text.specs.declared.Step.{Step}
use Rattle.text.specs.declared.Step.TheVariants.{Move, Put}
use Rattle.text.specs.declared.State.{State}
use Rattle.text.specs.declared.State.TheVariants.{Plain, Slash, Digit as DigitOf}
use Rattle.std.proofs.Math.Option.{Option, none, some}

-- the cells from a up to e
abbrev pub span : List ℕ → ℕ → ℕ → List ℕ
span s a e = part s a (e - a)

-- the cells between places i and i + 1
abbrev pub span_at : List ℕ → List ℕ → ℕ → List ℕ
span_at s places i = span s (cell places i) (cell places (i + 1))

abbrev pub num_of : std.Option ℕ → Option ℕ
num_of None = none
num_of (Some v) = some v

-- the number of a state of the reading of a name
abbrev pub state_of : State → ℕ
state_of Plain = 0
state_of Slash = 1
state_of (DigitOf h) = 2 + h

abbrev pub step_of : std.Option Step → Read
step_of None = bad
step_of (Some (Move q)) = move (state_of q)
step_of (Some (Put x)) = put x

-- 16 of no digit
abbrev pub hex_of : std.Option ℕ → ℕ
hex_of None = 16
hex_of (Some v) = v

abbrev pub IsDigit : std.Option ℕ → Type 0
IsDigit None = Unit {0}
IsDigit (Some v) = v ≤ 15

pub record Digit (v b : ℕ) (r : std.Option ℕ) : Type 0 where
  pub is : num_of r ≡ digit v b

pub record Digits (s : List ℕ) (from to : ℕ) (r : std.Option ℕ) : Type 0 where
  pub is : num_of r ≡ digits 0 (span s from to)

pub record Number (s : List ℕ) (from to : ℕ) (r : std.Option ℕ) : Type 0 where
  pub is : num_of r ≡ number (span s from to)

pub record Word (s : List ℕ) (from to : ℕ) (w : List ℕ) (r : Bool) : Type 0 where
  pub is : r ≡ eq_list (span s from to) w

-- e is where the first separator stands between from and to, or to
pub record Seek (s : List ℕ) (from to sep e : ℕ) : Type 0 where
  pub low : from ≤ e
  pub high : e ≤ to
  pub found : e < to → cell s e ≡ sep
  pub here : e < to → pieces sep (span s from to) ≡ span s from e ∷ pieces sep (span s (e + 1) to)
  pub last : e ≡ to → pieces sep (span s from to) ≡ span s from e ∷ []

pub record Hex (b : ℕ) (r : std.Option ℕ) : Type 0 where
  pub is : hex_of r ≡ hex b
  pub small : IsDigit r

pub record Escaped (b : ℕ) (r : Bool) : Type 0 where
  pub is : r ≡ escaped b

-- a digit of a state is below 16
pub record Fits (st : State) : Type 0 where
  pub low : state_of st ≤ 17

abbrev pub Small : std.Option Step → Type 0
Small None = Unit {0}
Small (Some (Move q)) = Fits q
Small (Some (Put x)) = Unit {0}

pub record Next (st : State) (b : ℕ) (r : std.Option Step) : Type 0 where
  pub is : step_of r ≡ next (state_of st) b
  pub small : Small r

-- what a function asks that writes no more from top on than stands between from and to
pub record Room (s : List ℕ) (from to : ℕ) (w : List ℕ) (top : ℕ) : Type 0 where
  pub order : from ≤ to
  pub within : to ≤ length s
  pub room : top + (to - from) ≤ length w

-- and one word more
pub record FieldRoom (s : List ℕ) (from to : ℕ) (w : List ℕ) (top : ℕ) : Type 0 where
  pub order : from ≤ to
  pub within : to ≤ length s
  pub short : length s ≤ 65536
  pub room : top + (to - from) + 1 ≤ length w

-- and a tag, where from may stand just past to
pub record ShapeRoom (s : List ℕ) (from to : ℕ) (w : List ℕ) (top : ℕ) : Type 0 where
  pub order : from ≤ to + 1
  pub within : to ≤ length s
  pub short : length s ≤ 65536
  pub room : top + 1 + (to + 1 - from) ≤ length w

-- w' is w but from t on
pub record Above (t : ℕ) (w w' : List ℕ) : Type 0 where
  pub same_length : length w' ≡ length w
  pub below : (k : ℕ) → k < t → cell w' k ≡ cell w k

-- the words written from top on
abbrev pub got_words : ℕ → List ℕ → std.Option ℕ → Option (List ℕ)
got_words top w None = none
got_words top w (Some t) = some (span w top t)

-- what was written ends between top and top + most
abbrev pub Ends : ℕ → ℕ → std.Option ℕ → Type 0
Ends top most None = Unit {0}
Ends top most (Some t) = (top ≤ t) × (t ≤ top + most)

-- what is written from top on is what m says, and at most most words
pub record Wrote (m : Option (List ℕ)) (most top : ℕ) (w w' : List ℕ) (r : std.Option ℕ) : Type 0 where
  pub above : Above top w w'
  pub is : got_words top w' r ≡ m
  pub ends : Ends top most r

pub record Named (s : List ℕ) (from to top : ℕ) (w w' : List ℕ) (r : std.Option ℕ) : Type 0 where
  pub wrote : Wrote (name (span s from to)) (to - from) top w w' r

pub record Keyed (s : List ℕ) (from to top : ℕ) (w w' : List ℕ) (r : std.Option ℕ) : Type 0 where
  pub wrote : Wrote (keyed (pieces colon (span s from to))) (to - from) top w w' r

-- an element of a list, by the number of words that it takes
abbrev pub element_of : ℕ → List ℕ → Option (List ℕ)
element_of each = if (eqb each 2) (λ _. λ (p : List ℕ). keyed (pieces colon p)) (λ _. single)

pub record Element (s : List ℕ) (from to each top : ℕ) (w w' : List ℕ) (r : std.Option ℕ) : Type 0 where
  pub wrote : Wrote (element_of each (span s from to)) (to - from) top w w' r

pub record Elements (s : List ℕ) (from to each top : ℕ) (w w' : List ℕ) (r : std.Option ℕ) : Type 0 where
  pub wrote : Wrote (elements (element_of each) (pieces comma (span s from to))) (to - from) top w w' r

pub record Listed (s : List ℕ) (from to each top : ℕ) (w w' : List ℕ) (r : std.Option ℕ) : Type 0 where
  pub wrote : Wrote (list_of each (element_of each) (span s from to)) (to - from + 1) top w w' r

pub record Bounded (s : List ℕ) (from to most top : ℕ) (w w' : List ℕ) (r : std.Option ℕ) : Type 0 where
  pub wrote : Wrote (up_to most (span s from to)) (to - from + 1) top w w' r

pub record Dyned (s : List ℕ) (from to top : ℕ) (w w' : List ℕ) (r : std.Option ℕ) : Type 0 where
  pub wrote : Wrote (dyn_of (span s from to)) (to - from + 1) top w w' r

pub record Signed (s : List ℕ) (from to top : ℕ) (w w' : List ℕ) (r : std.Option ℕ) : Type 0 where
  pub wrote : Wrote (sign_of (span s from to)) (to - from + 1) top w w' r

pub record Field (s : List ℕ) (from to kind top : ℕ) (w w' : List ℕ) (r : std.Option ℕ) : Type 0 where
  pub wrote : Wrote (field_of kind (span s from to)) (to - from + 1) top w w' r

-- the fields from i on; none past to
abbrev pub left : List ℕ → ℕ → ℕ → List (List ℕ)
left s i to = if (ltb to i) (λ _. []) (λ _. pieces tab (span s i to))

pub record Shaped (s : List ℕ) (from to tag : ℕ) (sh : List ℕ) (top : ℕ) (w w' : List ℕ) (r : std.Option ℕ) : Type 0 where
  pub wrote : Wrote (tagged tag (by_shape sh (left s from to))) (to + 1 - from + 1) top w w' r

-- the row of a line
pub record Row (ks : List Kind) (s : List ℕ) (from to top : ℕ) (w w' : List ℕ) (r : std.Option ℕ) : Type 0 where
  pub wrote : Wrote (row_of ks (span s from to)) (to - from + 1) top w w' r
