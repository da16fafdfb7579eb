-- An old listing by positions, and what the functions ask and ensure.
use Rattle.std.specs.Prelude.{◌≡◌, Bool, ℕ, ◌+◌, ◌≤◌, ◌<◌, List, length, get_or, leb, Result as Ended, Ok, Err, Option as Maybe, Some, None}
use Rattle.cells.specs.Part.{cell, part, run, eq_list}
use Rattle.layout.specs.Layout.{line_length}
use Rattle.rules.specs.Ceilings.{most_text, most_members}
use Rattle.rules.specs.Plain.{ascii, both}
use Rattle.rules.specs.Text.{line_feed, pieces, row_of}
use Rattle.rules.specs.Table.{Root, Result, accepted, refused, all_below, attr_at}
use Rattle.rules.specs.Types.{AttrSet}
use Rattle.rules.specs.Listing.{head_kinds, node_of, node_fits, node_in_form, Taking, take_nodes, for_root, nodes_after, take_root, take_roots}
use Rattle.rules.specs.Listing.{is_answers, take_numbered, old_listing}
use Rattle.rules.specs.declared.Form.{Form}
use Rattle.text.specs.Reads.{span, span_at, Seek}
use Rattle.old_listing.specs.declared.LineAtFault.{LineAtFault}
use Rattle.old_listing.specs.declared.Reached.{Reached}
use Rattle.old_listing.specs.declared.Root.{Root as Named}
use Rattle.std.proofs.Math.Option.{Option, none, some}

-- a row that ends at to
abbrev pub row : List ℕ → ℕ → List ℕ
row w to = span w 0 to

pub record SetFits (w : List ℕ) (to names i : ℕ) (r : Bool) : Type 0 where
  pub is : r ≡ node_fits names i (AttrSet (attr_at (row w to) 1))

pub record MembersFit (w : List ℕ) (to i : ℕ) (r : Bool) : Type 0 where
  pub is : r ≡ both (all_below i (part (row w to) 2 (cell (row w to) 1))) (λ _. leb (cell (row w to) 1) most_members)

pub record NodeFits (w : List ℕ) (to names i : ℕ) (r : Bool) : Type 0 where
  pub is : r ≡ node_fits names i (node_of (row w to))

pub record NodeLine (s : List ℕ) (from to names i : ℕ) (r : Bool) : Type 0 where
  pub is : r ≡ node_in_form names i (span s from to)

-- line k begins at from, and w has room for a line's words
pub record Ready (s : List ℕ) (from k : ℕ) (w : List ℕ) : Type 0 where
  pub within : from ≤ length s
  pub short : length s ≤ most_text
  pub early : k ≤ from + 1
  pub room : line_length ≤ length w

-- read up to p, where line k begins; the lines of the root in hand begin at a
abbrev pub taking_at : List ℕ → ℕ → ℕ → ℕ → Taking
taking_at s a p k = record { text = span s a p; line = k; rest = pieces line_feed (span s p (length s)) }

-- the line that begins at from ends at e
pub record EndsAt (s : List ℕ) (from e : ℕ) : Type 0 where
  pub seek : Seek s from (length s) 10 e
  pub inside : e < length s

-- or it has no end; its number is k
pub record Endless (s : List ℕ) (from k : ℕ) (f : LineAtFault) : Type 0 where
  pub seek : Seek s from (length s) 10 (length s)
  pub line : f.0 ≡ k

abbrev pub LineEnd : List ℕ → ℕ → ℕ → Ended ℕ LineAtFault → Type 0
LineEnd s from k (Ok e) = EndsAt s from e
LineEnd s from k (Err f) = Endless s from k f

abbrev pub next_of : List ℕ → ℕ → Ended Reached LineAtFault → Result Taking
next_of s a (Ok p) = accepted (taking_at s a p.at p.line)
next_of s a (Err f) = refused 11 f.0

abbrev pub Goes : List ℕ → ℕ → Ended Reached LineAtFault → Type 0
Goes s from (Ok p) = (from ≤ p.at) × (p.at ≤ length s) × (p.line ≤ p.at + 1)
Goes s from (Err f) = Unit {0}

pub record Nodes (s : List ℕ) (from k names n : ℕ) (r : Ended Reached LineAtFault) : Type 0 where
  pub is : (a : ℕ) → a ≤ from → next_of s a r ≡ take_nodes names 0 n (taking_at s a from k)
  pub goes : Goes s from r

abbrev pub asked : ℕ → ℕ → Root
asked id sign = record { id = id; sign = sign }

pub record ForRoot (w : List ℕ) (to id sign : ℕ) (r : Bool) : Type 0 where
  pub is : r ≡ for_root (asked id sign) (row w to)

abbrev pub count_of : Maybe ℕ → Option ℕ
count_of None = none
count_of (Some n) = some n

pub record Count (w : List ℕ) (to id sign : ℕ) (r : Maybe ℕ) : Type 0 where
  pub is : count_of r ≡ nodes_after (asked id sign) (some (row w to))

pub record After (s : List ℕ) (from to id sign : ℕ) (r : Maybe ℕ) : Type 0 where
  pub is : count_of r ≡ nodes_after (asked id sign) (row_of head_kinds (span s from to))

pub record TakesRoot (s : List ℕ) (from k names id sign : ℕ) (r : Ended Reached LineAtFault) : Type 0 where
  pub is : next_of s from r ≡ take_root names (asked id sign) (taking_at s from from k)
  pub goes : Goes s from r

-- the roots rs are those of the rows that begin where the cells from first on tell
pub record RootsAt (rs : List Root) (table : List ℕ) (first n : ℕ) : Type 0 where
  pub count : length rs ≡ n
  pub is : (i : ℕ) → i < n → asked (cell table (cell table (first + i) + 1)) (cell table (cell table (first + i) + 2)) ≡ get_or rs i (asked 0 0)

pub record RootAt (table : List ℕ) (first i : ℕ) (r : Named) : Type 0 where
  pub id : r.id ≡ cell table (cell table (first + i) + 1)
  pub sign : r.sign ≡ cell table (cell table (first + i) + 2)

abbrev pub old_of : Ended (Unit {0}) LineAtFault → List ℕ → List ℕ → ℕ → Result (List (List ℕ))
old_of (Ok u) s spans n = accepted (run (span_at s spans) 0 n)
old_of (Err f) s spans n = refused 11 f.0

-- in form, the texts lie within s
abbrev pub Lies : Ended (Unit {0}) LineAtFault → List ℕ → List ℕ → ℕ → Type 0
Lies (Ok u) s spans n = (k : ℕ) → k ≤ n → cell spans k ≤ length s
Lies (Err f) s spans n = Unit {0}

pub record Roots (s : List ℕ) (from start names : ℕ) (table : List ℕ) (first n : ℕ) (spans spans' : List ℕ) (r : Ended (Unit {0}) LineAtFault) : Type 0 where
  pub is : (rs : List Root) → RootsAt rs table first n → n < length spans → old_of r s spans' n ≡ take_roots names rs (taking_at s 0 from start)
  pub lies : n < length spans → Lies r s spans' n
  pub kept : (k : ℕ) → n < k → cell spans' k ≡ cell spans k

pub record IsAnswers (s : List ℕ) (from to n : ℕ) (r : Bool) : Type 0 where
  pub is : r ≡ is_answers n (row_of head_kinds (span s from to))

pub record IsNumbered (s : List ℕ) (from to : ℕ) (r : Bool) : Type 0 where
  pub is : r ≡ eq_list (span s from to) (ascii "numbered")

-- what stands between the line `answers` and the roots
pub record TakesHeader (form : Form) (s : List ℕ) (from : ℕ) (r : Ended Reached LineAtFault) : Type 0 where
  pub is : next_of s 0 r ≡ take_numbered form (taking_at s 0 from 2)
  pub goes : Goes s from r

-- an old listing read: where the spans and the words are long enough, the answer with the spans is what the rules say. What stood after the
-- spans stands there still
pub record Read (form : Form) (s : List ℕ) (names : ℕ) (table : List ℕ) (first n : ℕ) (spans w spans' : List ℕ) (r : Ended (Unit {0}) LineAtFault) : Type 0 where
  pub is : (rs : List Root) → RootsAt rs table first n → n < length spans → line_length ≤ length w → old_of r s spans' n ≡ old_listing form names rs s
  pub lies : n < length spans → Lies r s spans' n
  pub kept : (k : ℕ) → n < k → cell spans' k ≡ cell spans k
