-- Lists of ids held in the working slice, and what the functions of held.rt ensure. Of the cells below h none changes.
use Rattle.std.specs.Prelude.{Option, Some, None, ◌≡◌, Bool, true, false, not, ℕ, ◌+◌, ◌≤◌, ◌<◌, List, [], ◌∷◌, ◌++◌, length, get_or, set as set_at, eqb}
use Rattle.cells.specs.Part.{cell, if}
use Rattle.layout.specs.Layout.{held_at, seen_at}
use Rattle.rules.specs.Ceilings.{most_entries}
use Rattle.rules.specs.Plain.{filter, contains, flag}
use Rattle.rules.specs.Members.{add_all}
use Rattle.rules.specs.Table.{Attr, var, prim, tyvar, list, fn, set, neg, named, inter, union, frozen, kids, attr_kids}
use Rattle.rules.specs.Table as rules
use Rattle.rules.specs.Types.{Run, ◌>>=◌, flip}
use Rattle.rules.specs.Canonicalizer.{Pass, Reader, Visit, variable, is_variable, is_atom, begin_list, bounds_of, expansion, preserving, variable_rule}
use Rattle.rules.specs.Canonicalizer as runs
use Rattle.rules.specs.declared.Polarity.{Polarity}
use Rattle.lang_ty.specs.Sets.{SetAt}
use Rattle.storage.specs.declared.given.Canon.{Canon}
use Rattle.storage.specs.declared.held.Bounds.{Bounds as BoundsHeld}
use Rattle.storage.specs.declared.entries.Entry.{Entry}
use Rattle.storage.specs.Passes.{ListAt, BoundsAt, Knows}
use Rattle.storage.specs.Entries.{ReadAs}
use Rattle.cells.specs.Placed.{Holds, Under}

-- n ids xs are held from h on
pub record HeldList (work : List ℕ) (h n : ℕ) (xs : List ℕ) : Type 0 where
  pub count : n ≡ length xs
  pub holds : Holds work h xs

-- x where it is kept
abbrev pub only : Bool → ℕ → List ℕ
only kept x = if kept (λ _. x ∷ []) (λ _. [])

-- b put after the k ids held, if it is kept; no other cell changes
pub record HoldsIf (work : List ℕ) (h k b : ℕ) (kept : Bool) (work' : List ℕ) (r : ℕ) : Type 0 where
  pub others : (j : ℕ) → (j ≡ h + k → ⊥) → cell work' j ≡ cell work j
  pub is : {xs : List ℕ} → HeldList work h k xs → h + length xs < length work → length xs < 4294967295 → HeldList work' h r (xs ++ only kept b)

-- the bounds of the list at l for which f holds, where what is asked of a bound answers as f does at each of count ids
pub record HoldsBounds (answers : ℕ → Bool → Type 0) (table work : List ℕ) (h l : ℕ) (work' : List ℕ) (r : ℕ) : Type 0 where
  pub kept : (k : ℕ) → k < h → cell work' k ≡ cell work k
  pub is : {bs : List ℕ} {count : ℕ} (f : ℕ → Bool) → ((b : ℕ) (x : Bool) → b < count → answers b x → x ≡ f b) → ListAt table l bs → Under count bs
      → h + length bs ≤ length work → HeldList work' h r (filter f bs)

-- what marks an id as seen is zero for each of count ids
pub record Unseen (work : List ℕ) (count : ℕ) : Type 0 where
  pub few : count ≤ most_entries
  pub is : (v : ℕ) → v < count → cell work (seen_at + v) ≡ 0

pub record Deduplicated (work : List ℕ) (h : ℕ) (bs work' : List ℕ) (r : ℕ) : Type 0 where
  pub list : HeldList work' h r (runs.deduplicated bs)
  pub kept : (k : ℕ) → k < h → cell work' k ≡ cell work k

-- b put after the k ids held, if it was not marked as seen; it is marked
pub record HoldsFirst (work : List ℕ) (h k b : ℕ) (work' : List ℕ) (r : ℕ) : Type 0 where
  pub is : HoldsIf (set_at work (seen_at + b) 1) h k b (eqb (cell work (seen_at + b)) 0) work' r

-- each id is held once, in the order of the first ones, and just these are marked; below h nothing else changes
pub record Firsts (work : List ℕ) (h count : ℕ) (bs work' : List ℕ) (r : ℕ) : Type 0 where
  pub list : HeldList work' h r (add_all [] bs)
  pub few : length (add_all [] bs) ≤ length bs
  pub marks : (v : ℕ) → v < count → cell work' (seen_at + v) ≡ flag (contains (add_all [] bs) v)
  pub kept : (k : ℕ) → k < h → ((v : ℕ) → v < count → k ≡ seen_at + v → ⊥) → cell work' k ≡ cell work k

pub record FirstOfEach (work : List ℕ) (h n : ℕ) (work' : List ℕ) (r : ℕ) : Type 0 where
  pub is : {bs : List ℕ} {count : ℕ} → HeldList work h n bs → Under count bs → Unseen work count → held_at ≤ h → h + length bs ≤ length work
      → Firsts work h count bs work' r

-- no id is marked, if only those held were; no other cell changes
pub record Forgotten (work : List ℕ) (count : ℕ) (work' : List ℕ) : Type 0 where
  pub marks : (v : ℕ) → v < count → cell work' (seen_at + v) ≡ 0
  pub kept : (k : ℕ) → ((v : ℕ) → v < count → k ≡ seen_at + v → ⊥) → cell work' k ≡ cell work k

pub record Forgets (work : List ℕ) (h n : ℕ) (work' : List ℕ) : Type 0 where
  pub is : {xs : List ℕ} {count : ℕ} → HeldList work h n xs → Under count xs → count ≤ most_entries → held_at ≤ h → held_at ≤ length work
      → ((v : ℕ) → v < count → contains xs v ≡ false → cell work (seen_at + v) ≡ 0) → Forgotten work count work'

-- "Bounds are deduplicated by id only beyond 16"
pub record Deduplicates (work : List ℕ) (h n : ℕ) (work' : List ℕ) (r : ℕ) : Type 0 where
  pub is : {bs : List ℕ} {count : ℕ} → HeldList work h n bs → Under count bs → Unseen work count → held_at ≤ h → h + length bs ≤ length work
      → Deduplicated work h bs work' r

-- the list that a fallback begins
pub record BeginsList (table : List ℕ) (c : Canon) (work : List ℕ) (h id : ℕ) (pol : Polarity) (work' : List ℕ) (r : ℕ) : Type 0 where
  pub kept : (k : ℕ) → k < h → cell work' k ≡ cell work k
  pub is : {p : Pass} {t : Reader} → Knows table c p t → id < c.count → is_variable (t id) ≡ true → h + length (kids (t id)) ≤ length work
      → HeldList work' h r (begin_list p t id pol)

-- the list of a variable's bounds in a place
pub record OwnList (table : List ℕ) (v : ℕ) (pol : Polarity) (r : ℕ) : Type 0 where
  pub is : {l u : List ℕ} → BoundsAt table v l u → ListAt table r (bounds_of pol l u)

-- the bounds that are no variables
abbrev pub concretes : Reader → List ℕ → List ℕ
concretes t bs = filter (λ (b : ℕ). not (is_variable (t b))) bs

-- the rule of a variable by these bounds, beside which it stays or not
abbrev pub own_rule : Pass → Reader → Visit → ℕ → Polarity → List ℕ → Bool → Run ℕ
own_rule p t v id pol xs true = expansion p t v id xs pol >>= preserving p id pol
own_rule p t v id pol xs false = expansion p t v id xs pol

pub record OwnHeld (p : Pass) (t : Reader) (id : ℕ) (pol : Polarity) (bs work : List ℕ) (h n : ℕ) (kept : Bool) : Type 0 where
  pub list : List ℕ
  pub held : HeldList work h n list
  pub is : (v : Visit) → variable_rule p t v id pol bs (concretes t bs) ≡ own_rule p t v id pol list kept
  pub below : Under p.count list
  pub few : length list ≤ length bs

-- what a variable's own rule begins with: itself, or so many bounds held, beside which it stays or not
pub data Own : Type 0 where
  Variable : Own
  Bounds : ℕ → Bool → Own

abbrev pub own_of : Option BoundsHeld → Own
own_of (Some b) = Bounds b.count b.kept
own_of None = Variable

abbrev pub OwnIs : Pass → Reader → ℕ → Polarity → List ℕ → List ℕ → ℕ → Own → Type 0
OwnIs p t id pol bs work h Variable = (v : Visit) → variable_rule p t v id pol bs (concretes t bs) ≡ variable p id
OwnIs p t id pol bs work h (Bounds n kept) = OwnHeld p t id pol bs work h n kept

pub record OwnBounds (table : List ℕ) (c : Canon) (work : List ℕ) (h id v : ℕ) (pol : Polarity) (work' : List ℕ) (r : Own) : Type 0 where
  pub kept : (k : ℕ) → k < h → cell work' k ≡ cell work k
  pub is : {p : Pass} {t : Reader} {l u : List ℕ} → Knows table c p t → id < c.count → BoundsAt table v l u → Under c.count l → Under c.count u
      → h + length l + length u ≤ length work → OwnIs p t id pol (bounds_of pol l u) work' h r

-- the ids that an entry holds while it is worked out; a variable and an intersection hold theirs otherwise
abbrev pub held_kids : rules.Entry → List ℕ
held_kids (var l u) = []
held_kids (prim c) = []
held_kids (tyvar x) = []
held_kids (list a) = a ∷ []
held_kids (fn a b) = a ∷ b ∷ []
held_kids (set t) = attr_kids t
held_kids (neg a) = a ∷ []
held_kids (named n a) = a ∷ []
held_kids (inter a b) = []
held_kids (union a b) = a ∷ b ∷ []
held_kids frozen = []

-- id i among the fields and the dyn of a set with n fields
pub record SetChild (table : List ℕ) (a n i r : ℕ) : Type 0 where
  pub is : {t : Attr} → SetAt table a t → n ≡ length t.fields → i < length (attr_kids t) → r ≡ get_or (attr_kids t) i 0

pub record HoldsFields (table : List ℕ) (a : ℕ) (work : List ℕ) (h : ℕ) (work' : List ℕ) (r : ℕ) : Type 0 where
  pub kept : (k : ℕ) → k < h → cell work' k ≡ cell work k
  pub is : {t : Attr} → SetAt table a t → h + length (attr_kids t) ≤ length work → HeldList work' h r (attr_kids t)

pub record HoldsOne (work : List ℕ) (h a : ℕ) (work' : List ℕ) (r : ℕ) : Type 0 where
  pub kept : (k : ℕ) → k < h → cell work' k ≡ cell work k
  pub is : h + 1 ≤ length work → HeldList work' h r (a ∷ [])

pub record HoldsChildren (table work : List ℕ) (h : ℕ) (e : Entry) (work' : List ℕ) (r : ℕ) : Type 0 where
  pub kept : (k : ℕ) → k < h → cell work' k ≡ cell work k
  pub is : {en : rules.Entry} → ReadAs table e en → h + length (held_kids en) ≤ length work → HeldList work' h r (held_kids en)

pub record HoldsTwo (work : List ℕ) (h a b : ℕ) (work' : List ℕ) (r : ℕ) : Type 0 where
  pub kept : (k : ℕ) → k < h → cell work' k ≡ cell work k
  pub is : h + 2 ≤ length work → HeldList work' h r (a ∷ b ∷ [])

-- the polarity of an entry's first child: a parameter's and a negated one's is the other one
abbrev pub first_polarity : rules.Entry → Polarity → Polarity
first_polarity (var l u) pol = pol
first_polarity (prim c) pol = pol
first_polarity (tyvar x) pol = pol
first_polarity (list a) pol = pol
first_polarity (fn a b) pol = flip pol
first_polarity (set t) pol = pol
first_polarity (neg a) pol = flip pol
first_polarity (named n a) pol = pol
first_polarity (inter a b) pol = pol
first_polarity (union a b) pol = pol
first_polarity frozen pol = pol

pub record FirstPolarity (e : Entry) (pol r : Polarity) : Type 0 where
  pub is : {w : List ℕ} {en : rules.Entry} → ReadAs w e en → r ≡ first_polarity en pol
