-- The passes and a root's answer: what the functions after the cycle ensure.
use Rattle.std.specs.Prelude.{◌≡◌, Bool, true, false, ◌||◌, ◌⊎◌, ℕ, ◌+◌, ◌≤◌, ◌<◌, List, length, set}
use Rattle.cells.specs.Part.{cell, part}
use Rattle.layout.specs.Layout.{bits_at, held_at, preserved_at, work_length, table_length, arena_length}
use Rattle.rules.specs.Plain.{any}
use Rattle.rules.specs.Ceilings.{most_operations}
use Rattle.rules.specs.Types.{Node, State, Out, ok}
use Rattle.rules.specs.Canonicalizer.{Reader, is_both, pass, shown, refused_with, after_second, canonicalize}
use Rattle.rules.specs.Canonicalizer as runs
use Rattle.laws.specs.Sound.{Tabled}
use Rattle.rules.specs.declared.Polarity.{Polarity}
use Rattle.lang_ty.specs.declared.arena.Pass.{Pass}
use Rattle.lang_ty.specs.Given.{Given}
use Rattle.lang_ty.specs.Given.{Node as NodeG, Refused}
use Rattle.lang_ty.specs.declared.arena.Shown.{Shown}
use Rattle.lang_ty.specs.Nodes.{Arena, shown_of, Answers as Stores}
use Rattle.storage.specs.declared.given.Canon.{Canon}
use Rattle.storage.specs.Passes.{Knows}
use Rattle.lang_check.specs.RootAnswer.{RootAnswer}
use Rattle.lang_check.specs.RootAnswer.{Shown as ShownR, Refused as RefusedR}
use Rattle.lang_check.specs.Cycle.{Answers}

pub record NoneCounted (q : Pass) : Type 0 where
  pub nodes : q.nodes ≡ 0
  pub cells : q.cells ≡ 0
  pub ops : q.ops ≡ 0
  pub sorted : q.sorted ≡ false
  pub bailed : q.bailed ≡ false

-- the lent slices have the lengths stated for them
pub record LentTo (t w h : List ℕ) : Type 0 where
  pub table : table_length ≤ length t
  pub arena : arena_length ≤ length w
  pub work : work_length ≤ length h

-- "A pass has its own arena, cache, keys in progress, polarity bits and operation count"
pub record OnePass (table : List ℕ) (c : Canon) (w work : List ℕ) (id : ℕ) (pol : Polarity) (w' work' : List ℕ) (r : Given) : Type 0 where
  pub is : {p : runs.Pass} {t : Reader} → Knows table c p t → Tabled p t → LentTo table w work → id < c.count
      → Answers (pass p t id pol) p.count w' work work' held_at r

-- whether id was seen in both polarities
pub record BothAt (work : List ℕ) (id : ℕ) (r : Bool) : Type 0 where
  pub is : r ≡ is_both (cell work (bits_at + id))

pub record BitsEnd (work : List ℕ) (count r : ℕ) : Type 0 where
  pub within : r ≤ length work
  pub few : r ≤ bits_at + count
  pub is : (r ≡ bits_at + count) ⊎ (r ≡ length work)

-- whether any id was
pub record AnyBoth (work : List ℕ) (count : ℕ) (r : Bool) : Type 0 where
  pub is : r ≡ any is_both (part work bits_at count)

-- an id seen in both polarities is preserved
pub record PreservesIf (table work : List ℕ) (id : ℕ) (table' : List ℕ) : Type 0 where
  pub some : is_both (cell work (bits_at + id)) ≡ true → table' ≡ set table (preserved_at + id) 1
  pub none : is_both (cell work (bits_at + id)) ≡ false → table' ≡ table

-- the variables seen in both polarities, preserved; whether there are any
pub record Detects (table work : List ℕ) (count : ℕ) (table' : List ℕ) (r : Bool) : Type 0 where
  pub is : r ≡ any is_both (part work bits_at count)
  pub seen : (v : ℕ) → v < count → preserved_at + v < length table → is_both (cell work (bits_at + v)) ≡ true → cell table' (preserved_at + v) ≡ 1
  pub unseen : (v : ℕ) → is_both (cell work (bits_at + v)) ≡ false → cell table' (preserved_at + v) ≡ cell table (preserved_at + v)
  pub before : (k : ℕ) → k < preserved_at → cell table' k ≡ cell table k
  pub behind : (k : ℕ) → preserved_at + count ≤ k → cell table' k ≡ cell table k
  pub none : r ≡ false → table' ≡ table

pub record Or (a b r : Bool) : Type 0 where
  pub is : r ≡ a || b

-- the rules show these numbers too, and the arena holds the nodes of the pass shown
pub record ShownIs (a : runs.Answer) (w : List ℕ) (sh : Shown) : Type 0 where
  pub pass : Pass
  pub nodes : List Node
  pub is : a ≡ shown (shown_of sh nodes)
  pub arena : Arena w pass nodes
  pub below : sh.node < length nodes

-- a root's answer, case by case: passes, operations of both, sorted, bailed and the root's node; or the number of its refusal
abbrev pub RootBy : runs.Answer → List ℕ → RootAnswer → Type 0
RootBy a w (ShownR sh) = ShownIs a w sh
RootBy a w (RefusedR k) = a ≡ refused_with k

pub record RootIs (a : runs.Answer) (w : List ℕ) (r : RootAnswer) : Type 0 where
  pub is : RootBy a w r

-- the answer of the first pass
abbrev pub first_of : Given → RootAnswer
first_of (NodeG x q) = ShownR (record { passes = 1; ops = q.ops; sorted = q.sorted; bailed = q.bailed; node = x })
first_of (Refused k) = RefusedR k

pub record FirstShown (g : Given) (r : RootAnswer) : Type 0 where
  pub is : r ≡ first_of g

-- the answer of the second pass, with what the first one counted and marked
pub record SecondShown (g : Given) (ops : ℕ) (sorted bailed : Bool) (r : RootAnswer) : Type 0 where
  pub is : {w : List ℕ} (o : Out ℕ) → Stores o w g → ops ≤ most_operations → ((x : ℕ) (st : State) → o ≡ ok x st → st.ops ≤ most_operations)
      → RootIs (after_second ops sorted bailed o) w r

-- no variable is preserved before the first pass
pub record NonePreserved (table : List ℕ) (count : ℕ) : Type 0 where
  pub is : (v : ℕ) → v < count → cell table (preserved_at + v) ≡ 0

-- canonicalize_standalone_with_deadline; the table is as before
pub record Canonicalizes (table : List ℕ) (c : Canon) (w work : List ℕ) (id : ℕ) (pol : Polarity) (table' w' work' : List ℕ) (r : RootAnswer) : Type 0 where
  pub is : {p : runs.Pass} {t : Reader} → Knows table c p t → Tabled p t → LentTo table w work → NonePreserved table c.count → id < c.count
      → RootIs (canonicalize p t id pol) w' r
  pub kept : NonePreserved table c.count → (k : ℕ) → cell table' k ≡ cell table k
