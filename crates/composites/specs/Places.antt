-- What is made of answers in a place, and what the functions of places ensure. Each contract's premises are arguments of its fields.
use Rattle.std.specs.Prelude.{Option, Some, None}
use Rattle.std.specs.Prelude.{◌≡◌, ℕ, ◌<◌, List, [], ◌∷◌, length}
use Rattle.cells.specs.Part.{if, cell}
use Rattle.layout.specs.Layout.{preserved_at}
use Rattle.rules.specs.Types.{State, Out, ok, no, Run, bind, ◌>>=◌, ask, Union, union_kind, intersection_kind}
use Rattle.rules.specs.Types as rules
use Rattle.rules.specs.Members.{has_type_contradiction, simplify_union_neg_intersection}
use Rattle.rules.specs.Canonicalizer.{flattened, concrete_of, union_normalized, settle, top_if_emptied, composite_kind, normalized, inter_rest, first_member}
use Rattle.rules.specs.Canonicalizer as runs
use Rattle.laws.specs.Sound.{Sound}
use Rattle.rules.specs.declared.Polarity.{Polarity}
use Rattle.lang_ty.specs.declared.arena.Pass.{Pass}
use Rattle.lang_ty.specs.Given.{Given}
use Rattle.lang_ty.specs.Nodes.{Stands, Comes, Answers}
use Rattle.storage.specs.declared.given.Canon.{Canon}
use Rattle.members.specs.Flow.{Flow}
use Rattle.members.specs.Flow.{On, Refused}
use Rattle.members.specs.Lists.{Preserves}
use Rattle.merge.specs.Merges.{Roomy}
use Rattle.composites.specs.Settled.{Settled}
use Rattle.composites.specs.Settled.{Node as NodeS, Empty as EmptyS, Refused as RefusedS}
use Rattle.composites.specs.declared.binary.Try.{Try}
use Rattle.composites.specs.declared.binary.Try.TheVariants.{First, Again}
use Rattle.composites.specs.Tried.{Tried}
use Rattle.composites.specs.Tried.{Node as NodeT, Contradiction as ContradictionT, Refused as RefusedT}
use Rattle.cells.specs.Placed.{Holds, Under}

-- the pass's set, its entry count and the number of `__functor` are those of the code
pub record GivenTo (p : runs.Pass) (table : List ℕ) (c : Canon) : Type 0 where
  pub preserves : Preserves p table preserved_at c.count
  pub functor : p.functor ≡ c.functor

-- the rules' visits gave these answers too, and they are held from h on
pub record Held (o : Out (List ℕ)) (w work : List ℕ) (h n : ℕ) (q : Pass) : Type 0 where
  pub after : State
  pub list : List ℕ
  pub is : o ≡ ok list after
  pub stands : Stands after w q
  pub sound : Sound after
  pub count : n ≡ length list
  pub holds : Holds work h list
  pub below : Under (length after.nodes) list

abbrev pub HeldFlow : Out (List ℕ) → List ℕ → List ℕ → ℕ → ℕ → Flow → Type 0
HeldFlow o w work h n (On q) = Held o w work h n q
HeldFlow o w work h n (Refused k) = o ≡ no k

pub record Visited (o : Out (List ℕ)) (w work : List ℕ) (h n : ℕ) (f : Flow) : Type 0 where
  pub is : HeldFlow o w work h n f

abbrev pub FirstIs : List ℕ → Option ℕ → Type 0
FirstIs [] f = f ≡ None
FirstIs (x ∷ xs) f = f ≡ Some x

-- a list settled as a node, whatever is to be done where nothing is left
abbrev pub SettlesNode : ((List ℕ → Run ℕ) → Out ℕ) → List ℕ → ℕ → Pass → Type 0
SettlesNode f w x q = Comes (λ (st : State). (rest : List ℕ → Run ℕ) → f rest ≡ ok x st) (λ (n : ℕ). x < n) w q

-- nothing is left: what is to be done then gets all members before filtering, of which y is the first
pub record SettlesEmpty (f : (List ℕ → Run ℕ) → Out ℕ) (w : List ℕ) (y : Option ℕ) (q : Pass) : Type 0 where
  pub after : State
  pub list : List ℕ
  pub is : (rest : List ℕ → Run ℕ) → f rest ≡ rest list after
  pub stands : Stands after w q
  pub below : Under (length after.nodes) list
  pub first : FirstIs list y

abbrev pub SettlesBy : ((List ℕ → Run ℕ) → Out ℕ) → List ℕ → Settled → Type 0
SettlesBy f w (NodeS x q) = SettlesNode f w x q
SettlesBy f w (EmptyS y q) = SettlesEmpty f w y q
SettlesBy f w (RefusedS k) = (rest : List ℕ → Run ℕ) → f rest ≡ no k

pub record Settles (f : (List ℕ → Run ℕ) → Out ℕ) (w : List ℕ) (r : Settled) : Type 0 where
  pub is : SettlesBy f w r

-- an intersection tried: a contradiction is what is left to be done
abbrev pub TriesBy : ((List ℕ → Run ℕ) → Out ℕ) → List ℕ → Tried → Type 0
TriesBy f w (NodeT x q) = SettlesNode f w x q
TriesBy f w (ContradictionT y q) = SettlesEmpty f w y q
TriesBy f w (RefusedT k) = (rest : List ℕ → Run ℕ) → f rest ≡ no k

pub record Tries (f : (List ℕ → Run ℕ) → Out ℕ) (w : List ℕ) (r : Tried) : Type 0 where
  pub is : TriesBy f w r

-- answers as a union: flattened, without fillers, normalized and settled
abbrev pub union_end : runs.Pass → Polarity → List ℕ → (List ℕ → Run ℕ) → Run ℕ
union_end p pol xs rest = do
  ys ← flattened union_kind xs
  ms ← concrete_of p ys
  zs ← union_normalized pol ms
  settle (top_if_emptied pol ms) (rest ys) Union zs

-- expand_bounds, steps 2 to 5
abbrev pub bounds_end : runs.Pass → Polarity → List ℕ → (List ℕ → Run ℕ) → Run ℕ
bounds_end p pol xs rest = do
  ys ← flattened (composite_kind pol) xs
  ms ← concrete_of p ys
  normalized p (rest ys) pol ms

-- Ty::Inter up to a contradiction, in its first try
abbrev pub inter_first : runs.Pass → Polarity → List ℕ → (List ℕ → Run ℕ) → Run ℕ
inter_first p pol xs rest = do
  ys ← flattened intersection_kind xs
  ms ← concrete_of p ys
  contradicts ← ask (λ (ns : List rules.Node). has_type_contradiction p.functor ns ms)
  if contradicts (λ _. rest ys) (λ _. inter_rest p pol ys ms)

-- and in its second, which knows all members ys of the first
abbrev pub inter_second : runs.Pass → Polarity → List ℕ → List ℕ → (List ℕ → Run ℕ) → Run ℕ
inter_second p pol ys xs rest = do
  zs ← flattened intersection_kind xs
  ms ← concrete_of p zs
  simple ← simplify_union_neg_intersection p.functor ms
  contradicts ← ask (λ (ns : List rules.Node). has_type_contradiction p.functor ns simple)
  if contradicts (λ _. rest ys) (λ _. inter_rest p pol ys simple)

pub record Normalizes (table : List ℕ) (c : Canon) (w work : List ℕ) (h n : ℕ) (f : Flow) (pol : Polarity) (w' work' : List ℕ) (r : Settled) : Type 0 where
  pub kept : (k : ℕ) → k < h → cell work' k ≡ cell work k
  pub is : {p : runs.Pass} (o : Out (List ℕ)) → GivenTo p table c → Visited o w work h n f → Roomy work h
      → Settles (λ rest. bind o (λ xs. bounds_end p pol xs rest)) w' r

pub record UnionOf (table : List ℕ) (c : Canon) (w work : List ℕ) (h : ℕ) (q : Pass) (pol : Polarity) (w' : List ℕ) (r : Given) : Type 0 where
  pub is : {p : runs.Pass} (o : Out (List ℕ)) → GivenTo p table c → Visited o w work h 2 (On q) → Answers (bind o (λ xs. union_end p pol xs first_member)) w' r

pub record TriesInter (table : List ℕ) (c : Canon) (w work : List ℕ) (h : ℕ) (f : Flow) (t : Try) (pol : Polarity) (w' work' : List ℕ)
    (r : Tried) : Type 0 where
  pub kept : (k : ℕ) → k < h → cell work' k ≡ cell work k
  pub once : {p : runs.Pass} (o : Out (List ℕ)) → GivenTo p table c → Visited o w work h 2 f → Roomy work h → t ≡ First
      → Tries (λ rest. bind o (λ xs. inter_first p pol xs rest)) w' r
  pub twice : {p : runs.Pass} (o : Out (List ℕ)) (ys : List ℕ) (y : Option ℕ) → GivenTo p table c → Visited o w work h 2 f → Roomy work h → t ≡ Again y
      → FirstIs ys y
      → ((xs : List ℕ) (st : State) → o ≡ ok xs st → Under (length st.nodes) ys) → Tries (λ rest. bind o (λ xs. inter_second p pol ys xs rest)) w' r
