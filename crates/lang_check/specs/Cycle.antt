-- The cycle of visit, rule and expansion: how the working slice stands for a state, and what each member of the cycle ensures.
use Rattle.std.specs.Prelude.{Option}
use Rattle.std.specs.Prelude.{◌≡◌, Bool, true, ◌||◌, ℕ, ◌+◌, ◌*◌, ◌≤◌, ◌<◌, List, [], ◌∷◌, length, set as set_at, eqb}
use Rattle.cells.specs.Part.{if, cell}
use Rattle.layout.specs.Layout.{bits_at, held_at, work_length}
use Rattle.rules.specs.Ceilings.{most_cells}
use Rattle.rules.specs.Plain.{both}
use Rattle.rules.specs.Table.{Entry, var, prim, tyvar, list, fn, set, neg, named, inter, union, frozen, kids, as_set}
use Rattle.rules.specs.Types.{State, Out, ok, no, Run, bind, ◌>>=◌, give, refuse, store, Primitive, ListOf, Lambda, AttrSet, Named, Bottom}
use Rattle.rules.specs.Members.{each, negate_output_ty}
use Rattle.rules.specs.Canonicalizer.{Reader, Visit, variable, first_member, is_variable, expand_bounds, expand_bounds_empty_fallback}
use Rattle.rules.specs.Canonicalizer.{canonicalize_inner, inter_rule, inter_retry, rule, visit}
use Rattle.rules.specs.Canonicalizer as runs
use Rattle.laws.specs.Sound.{OrderlySet, Steady, Tabled, load}
use Rattle.rules.specs.declared.Polarity.{Polarity}
use Rattle.lang_ty.specs.declared.arena.Pass.{Pass}
use Rattle.lang_ty.specs.Given.{Given}
use Rattle.lang_ty.specs.Given.{Node, Refused}
use Rattle.lang_ty.specs.Nodes.{Stands, Answers as Stores}
use Rattle.storage.specs.declared.given.Canon.{Canon}
use Rattle.storage.specs.declared.notes.Begun.{Begun}
use Rattle.storage.specs.declared.entries.Entry.{Entry as Read}
use Rattle.storage.specs.Notes.{begun_of}
use Rattle.storage.specs.Passes.{BoundsAt, Reads, Knows}
use Rattle.storage.specs.Sets.{retyped}
use Rattle.storage.specs.Entries.{ReadAs}
use Rattle.storage.specs.Helds.{HeldList, Unseen, held_kids, first_polarity}
use Rattle.negation.specs.Negations.{KeptBut}
use Rattle.members.specs.Flow.{Flow}
use Rattle.members.specs.Flow.{On, Refused as RefusedF}
use Rattle.composites.specs.Settled.{Settled}
use Rattle.composites.specs.Settled.{Node as NodeS, Empty as EmptyS, Refused as RefusedS}
use Rattle.composites.specs.Tried.{Tried}
use Rattle.composites.specs.Places.{Visited, FirstIs, Tries, union_end}
use Rattle.cells.specs.Placed.{Under}

-- the working slice holds the state's keys and bits, and no id is marked as seen
pub record Keyed (n : ℕ) (st : State) (work : List ℕ) : Type 0 where
  pub keys : (k : ℕ) → k < 2 * n → cell work k ≡ cell st.keys k
  pub bits : (v : ℕ) → v < n → cell work (bits_at + v) ≡ cell st.bits v
  pub unseen : Unseen work n

-- from h on there is room for own ids, for those of all entries with free keys, and for a negation
pub record Roomed (t : Reader) (st : State) (work : List ℕ) (h own : ℕ) : Type 0 where
  pub behind : held_at ≤ h
  pub fits : h + own + load t 0 st.keys + most_cells ≤ work_length
  pub long : work_length ≤ length work

-- what a member of the cycle relies on, besides the nodes
pub record Poised (table : List ℕ) (c : Canon) (work : List ℕ) (h own : ℕ) (p : runs.Pass) (t : Reader) (st : State) : Type 0 where
  pub knows : Knows table c p t
  pub tabled : Tabled p t
  pub keyed : Keyed p.count st work
  pub steady : Steady p.count st
  pub roomed : Roomed t st work h own

-- of the lists held below h none changed
pub record KeptBelow (h : ℕ) (work work' : List ℕ) : Type 0 where
  pub is : (k : ℕ) → held_at ≤ k → k < h → cell work' k ≡ cell work k

-- the rules come to a state of which this is so, and the slices are as after that
pub record Arrives (Is : State → Type 0) (n : ℕ) (w work work' : List ℕ) (h : ℕ) (q : Pass) : Type 0 where
  pub after : State
  pub is : Is after
  pub stands : Stands after w q
  pub keyed : Keyed n after work'
  pub kept : KeptBelow h work work'

abbrev pub AnswerBy : Out ℕ → ℕ → List ℕ → List ℕ → List ℕ → ℕ → Given → Type 0
AnswerBy o n w work work' h (Node x q) = Arrives (λ (st : State). o ≡ ok x st) n w work work' h q
AnswerBy o n w work work' h (Refused k) = o ≡ no k

-- the code's answer is that of the rules
pub record Answers (o : Out ℕ) (n : ℕ) (w work work' : List ℕ) (h : ℕ) (r : Given) : Type 0 where
  pub is : AnswerBy o n w work work' h r

-- the rules give these answers too, and they are held from h on
pub record GivesHeld (o : Out (List ℕ)) (n : ℕ) (w work work' : List ℕ) (h m : ℕ) (q : Pass) : Type 0 where
  pub after : State
  pub list : List ℕ
  pub is : o ≡ ok list after
  pub stands : Stands after w q
  pub keyed : Keyed n after work'
  pub kept : KeptBelow h work work'
  pub held : HeldList work' h m list

abbrev pub HeldBy : Out (List ℕ) → ℕ → List ℕ → List ℕ → List ℕ → ℕ → ℕ → Flow → Type 0
HeldBy o n w work work' h m (On q) = GivesHeld o n w work work' h m q
HeldBy o n w work work' h m (RefusedF k) = o ≡ no k

pub record AnswersHeld (o : Out (List ℕ)) (n : ℕ) (w work work' : List ℕ) (h m : ℕ) (r : Flow) : Type 0 where
  pub is : HeldBy o n w work work' h m r

-- an expansion comes to a node, whatever its fallback is; or it leaves nothing, and its fallback goes on
abbrev pub GatheredBy : (Run ℕ → Out ℕ) → ℕ → List ℕ → List ℕ → List ℕ → ℕ → Settled → Type 0
GatheredBy f n w work work' h (NodeS x q) = Arrives (λ (st : State). (rest : Run ℕ) → f rest ≡ ok x st) n w work work' h q
GatheredBy f n w work work' h (EmptyS y q) = Arrives (λ (st : State). (rest : Run ℕ) → f rest ≡ rest st) n w work work' h q
GatheredBy f n w work work' h (RefusedS k) = (rest : Run ℕ) → f rest ≡ no k

pub record AnswersGathered (f : Run ℕ → Out ℕ) (n : ℕ) (w work work' : List ℕ) (h : ℕ) (r : Settled) : Type 0 where
  pub is : GatheredBy f n w work work' h r

-- the first id visited in a polarity of its own, the others in that of the place
abbrev pub visited : Visit → Polarity → Polarity → List ℕ → Run (List ℕ)
visited v first pol [] = give []
visited v first pol (b ∷ bs) = do
  x ← v b first
  xs ← each (λ (d : ℕ). v d pol) bs
  give (x ∷ xs)

-- what an entry comes to once its children have answers; a variable and an intersection come to it otherwise
abbrev pub made : runs.Pass → Polarity → Entry → List ℕ → Run ℕ
made p pol (var l u) xs = refuse 5
made p pol (prim c) xs = store (Primitive c)
made p pol (tyvar x) xs = variable p x
made p pol (list a) xs = store (ListOf (cell xs 0))
made p pol (fn a b) xs = store (Lambda (cell xs 0) (cell xs 1))
made p pol (set a) xs = store (AttrSet (retyped a xs))
made p pol (neg a) xs = negate_output_ty (cell xs 0)
made p pol (named n a) xs = store (Named n (cell xs 0))
made p pol (inter a b) xs = refuse 5
made p pol (union a b) xs = union_end p pol xs first_member
made p pol frozen xs = refuse 5

-- from h on there is room for a negation of any node
pub record Broad (work : List ℕ) (h : ℕ) : Type 0 where
  pub behind : held_at ≤ h
  pub room : h + most_cells ≤ length work
  pub small : h + most_cells ≤ 4294967295

-- a step that stores: of the cells below h only a negation's own changed
pub record Stored (o : Out ℕ) (w work work' : List ℕ) (h x : ℕ) (q : Pass) : Type 0 where
  pub after : State
  pub is : o ≡ ok x after
  pub stands : Stands after w q
  pub kept : KeptBut h work work'

abbrev pub StoredBy : Out ℕ → List ℕ → List ℕ → List ℕ → ℕ → Given → Type 0
StoredBy o w work work' h (Node x q) = Stored o w work work' h x q
StoredBy o w work work' h (Refused k) = o ≡ no k

pub record Made (table : List ℕ) (c : Canon) (w work : List ℕ) (h : ℕ) (f : Flow) (e : Read) (pol : Polarity) (w' work' : List ℕ) (r : Given) : Type 0 where
  pub is : {p : runs.Pass} {t : Reader} {en : Entry} (o : Out (List ℕ)) → Knows table c p t → ReadAs table e en → OrderlySet (as_set en)
      → Visited o w work h (length (held_kids en)) f → Broad work h → StoredBy (bind o (made p pol en)) w' work work' h r

-- a retry that contradicts itself too is Bottom
pub record Retried (w : List ℕ) (t : Tried) (w' : List ℕ) (r : Given) : Type 0 where
  pub is : (f : (List ℕ → Run ℕ) → Out ℕ) → Tries f w t → Stores (f (λ ys. store Bottom)) w' r

-- canonicalize_child
pub record Visits (table : List ℕ) (c : Canon) (w work : List ℕ) (free h : ℕ) (q : Pass) (id : ℕ) (pol : Polarity) (w' work' : List ℕ)
    (r : Given) : Type 0 where
  pub is : {p : runs.Pass} {t : Reader} {st : State} → Poised table c work h 0 p t st → Stands st w q → id < c.count
      → Answers (visit free p t id pol st) p.count w' work work' h r

-- the answer, and its key once it is a node's
pub record Caches (work : List ℕ) (sl : ℕ) (g : Given) (work' : List ℕ) (r : Given) : Type 0 where
  pub same : r ≡ g
  pub node : (x : ℕ) (q : Pass) → g ≡ Node x q → x + 2 ≤ 4294967295 → work' ≡ set_at work sl (x + 2)

pub record Rules (table : List ℕ) (c : Canon) (w work : List ℕ) (free h : ℕ) (q : Pass) (id : ℕ) (pol : Polarity) (w' work' : List ℕ) (r : Given) : Type 0 where
  pub is : {p : runs.Pass} {t : Reader} {st : State} → Poised table c work h (length (kids (t id))) p t st → Stands st w q → id < c.count
      → Answers (rule p t (visit free p t) id (t id) pol st) p.count w' work work' h r

-- the children of an entry, held from h on and replaced by their answers
pub record Children (table : List ℕ) (c : Canon) (w work : List ℕ) (free h : ℕ) (q : Pass) (e : Read) (pol : Polarity) (w' work' : List ℕ)
    (r : Flow) : Type 0 where
  pub is : {p : runs.Pass} {t : Reader} {st : State} {en : Entry} → ReadAs table e en → Under c.count (held_kids en)
      → Poised table c work h (length (held_kids en)) p t st → Stands st w q
      → AnswersHeld (visited (visit free p t) (first_polarity en pol) pol (held_kids en) st) p.count w' work work' h (length (held_kids en)) r

pub record Each (table : List ℕ) (c : Canon) (w work : List ℕ) (free h : ℕ) (q : Pass) (n : ℕ) (first pol : Polarity) (w' work' : List ℕ)
    (r : Flow) : Type 0 where
  pub is : {p : runs.Pass} {t : Reader} {st : State} {bs : List ℕ} → Poised table c work h n p t st → Stands st w q → HeldList work h n bs → Under c.count bs
      → AnswersHeld (visited (visit free p t) first pol bs st) p.count w' work work' h n r

-- the polarity in which the i-th of several ids is visited
pub record Side (i : ℕ) (one pol r : Polarity) : Type 0 where
  pub first : i ≡ 0 → r ≡ one
  pub other : (i ≡ 0 → ⊥) → r ≡ pol

-- a fallback begins no list: there is none, or after the bail the chain began it before
pub record IsCut (n : ℕ) (q : Pass) (begun : Begun) (pol : Polarity) (r : Bool) : Type 0 where
  pub is : r ≡ eqb n 0 || both q.bailed (λ _. runs.began (begun_of begun) pol)

-- canonicalize_inner
pub record Inner (table : List ℕ) (c : Canon) (w work : List ℕ) (free h : ℕ) (q : Pass) (id v : ℕ) (pol : Polarity) (w' work' : List ℕ)
    (r : Given) : Type 0 where
  pub is : {p : runs.Pass} {t : Reader} {st : State} {l u : List ℕ} → t id ≡ var l u → BoundsAt table v l u
      → Poised table c work h (length (kids (t id))) p t st → Stands st w q → id < c.count
      → Answers (canonicalize_inner p t (visit free p t) id l u pol st) p.count w' work work' h r

-- expand_bounds but for its fallback
pub record Gathered (table : List ℕ) (c : Canon) (w work : List ℕ) (free h : ℕ) (q : Pass) (n : ℕ) (pol : Polarity) (w' work' : List ℕ)
    (r : Settled) : Type 0 where
  pub is : {p : runs.Pass} {t : Reader} {st : State} {bs : List ℕ} → Poised table c work h n p t st → Stands st w q → HeldList work h n bs → Under c.count bs
      → AnswersGathered (λ rest. expand_bounds p (visit free p t) rest bs pol st) p.count w' work work' h r

-- expand_bounds
pub record Expands (table : List ℕ) (c : Canon) (w work : List ℕ) (free h : ℕ) (q : Pass) (chain : ℕ) (begun : Begun) (n id : ℕ) (pol : Polarity)
    (w' work' : List ℕ) (r : Given) : Type 0 where
  pub is : {p : runs.Pass} {t : Reader} {st : State} {bs : List ℕ} → is_variable (t id) ≡ true
      → Poised table c work h (length (kids (t id))) p t st → Stands st w q → id < c.count → HeldList work h n bs → Under c.count bs
      → length bs ≤ length (kids (t id))
      → Answers (expand_bounds p (visit free p t) (expand_bounds_empty_fallback chain p t (visit free p t) (begun_of begun) id pol) bs pol st)
      p.count w' work work' h r

-- expand_bounds_empty_fallback
pub record FallsBackTo (table : List ℕ) (c : Canon) (w work : List ℕ) (free h : ℕ) (q : Pass) (chain : ℕ) (begun : Begun) (id : ℕ) (pol : Polarity)
    (w' work' : List ℕ) (r : Given) : Type 0 where
  pub is : {p : runs.Pass} {t : Reader} {st : State} → is_variable (t id) ≡ true
      → Poised table c work h (length (kids (t id))) p t st → Stands st w q → id < c.count
      → Answers (expand_bounds_empty_fallback chain p t (visit free p t) (begun_of begun) id pol st) p.count w' work work' h r

-- Ty::Inter
pub record Inters (table : List ℕ) (c : Canon) (w work : List ℕ) (free h : ℕ) (q : Pass) (a b : ℕ) (pol : Polarity) (w' work' : List ℕ)
    (r : Given) : Type 0 where
  pub is : {p : runs.Pass} {t : Reader} {st : State} → Poised table c work h 2 p t st → Stands st w q → a < c.count → b < c.count
      → Answers (inter_rule p t (visit free p t) a b pol st) p.count w' work work' h r

-- what follows a contradiction of the first try, whose members were ys
abbrev pub after_first_try : runs.Pass → Reader → Visit → ℕ → ℕ → Polarity → List ℕ → Run ℕ
after_first_try p t v a b pol ys = if (is_variable (t a) || is_variable (t b)) (λ _. inter_retry p t v a b pol ys) (λ _. store Bottom)

-- whether one of two entries is a variable
pub record Either (table : List ℕ) (c : Canon) (a b : ℕ) (r : Bool) : Type 0 where
  pub is : {t : Reader} → Reads table c t → a < c.count → b < c.count → r ≡ is_variable (t a) || is_variable (t b)

-- a try f that only stores, and what follows it
pub record Again (table : List ℕ) (c : Canon) (w work : List ℕ) (free h : ℕ) (tr : Tried) (a b : ℕ) (pol : Polarity) (w' work' : List ℕ)
    (r : Given) : Type 0 where
  pub is : {p : runs.Pass} {t : Reader} (f : (List ℕ → Run ℕ) → Out ℕ) → Tries f w tr
      → ((x : ℕ) (after : State) → f (λ ys. give 0) ≡ ok x after → Poised table c work h 2 p t after) → a < c.count → b < c.count
      → Answers (f (after_first_try p t (visit free p t) a b pol)) p.count w' work work' h r

-- the retry; ys are all members of the first try
pub record Retries (table : List ℕ) (c : Canon) (w work : List ℕ) (free h : ℕ) (q : Pass) (y : Option ℕ) (a b : ℕ) (pol : Polarity) (w' work' : List ℕ)
    (r : Given) : Type 0 where
  pub is : {p : runs.Pass} {t : Reader} {st : State} (ys : List ℕ) → FirstIs ys y → Under (length st.nodes) ys
      → Poised table c work h 2 p t st → Stands st w q → a < c.count → b < c.count
      → Answers (inter_retry p t (visit free p t) a b pol ys st) p.count w' work work' h r
