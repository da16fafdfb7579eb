-- What the functions of places ensure, besides those of Places. Each contract's premises are arguments of its fields.
use Rattle.std.specs.Prelude.{Option}
use Rattle.std.specs.Prelude.{◌≡◌, Bool, false, ℕ, ◌<◌, List, length}
use Rattle.cells.specs.Part.{if, cell}
use Rattle.rules.specs.Types.{Node, Intersection, Bottom, State, Out, ok, Run, bind, ◌>>=◌, ask, store}
use Rattle.rules.specs.Members.{remove_tautological_pairs, absorb_subsumed_union_members, remove_redundant_negations, has_type_contradiction}
use Rattle.rules.specs.Members.{simplify_union_neg_intersection, factor_shared_from_intersection}
use Rattle.rules.specs.Canonicalizer.{flattened, concrete_of, settle, top_if_emptied, inter_normalized, inter_rest, first_member}
use Rattle.rules.specs.Canonicalizer as runs
use Rattle.laws.specs.Sound.{Sound}
use Rattle.rules.specs.declared.Polarity.{Polarity}
use Rattle.rules.specs.declared.Polarity.TheVariants.{Positive, Negative}
use Rattle.lang_ty.specs.declared.arena.Pass.{Pass}
use Rattle.lang_ty.specs.Given.{Given}
use Rattle.lang_ty.specs.Nodes.{Stands, Answers as Stores}
use Rattle.storage.specs.declared.given.Canon.{Canon}
use Rattle.members.specs.declared.lists.Members.{Members}
use Rattle.members.specs.Flow.{Flow}
use Rattle.members.specs.Listed.{Listed}
use Rattle.members.specs.Lists.{Few, Taken, Wraps, Answers}
use Rattle.merge.specs.Merges.{Roomy}
use Rattle.composites.specs.Settled.{Settled}
use Rattle.composites.specs.declared.binary.Try.{Try}
use Rattle.composites.specs.declared.binary.Try.TheVariants.{First, Again}
use Rattle.composites.specs.Tried.{Tried}
use Rattle.composites.specs.Places.{GivenTo, Visited, FirstIs, Settles, Tries, union_end}
use Rattle.cells.specs.Placed.{Under}

-- whatever the rules gave, the state by then is sound
abbrev pub Soundly : Out (List ℕ) → Type 0
Soundly o = (xs : List ℕ) (st : State) → o ≡ ok xs st → Sound st

-- whatever the rules gave, ys are nodes by then, and y is the first of them
pub record Leads (o : Out (List ℕ)) (ys : List ℕ) (y : Option ℕ) : Type 0 where
  pub below : (xs : List ℕ) (st : State) → o ≡ ok xs st → Under (length st.nodes) ys
  pub first : (xs : List ℕ) (st : State) → o ≡ ok xs st → FirstIs ys y

-- r is what the rule f gives after l
pub record Steps (f : List ℕ → Run (List ℕ)) (w : List ℕ) (l : Listed) (w' : List ℕ) (r : Listed) : Type 0 where
  pub is : (o : Out (List ℕ)) → Answers o w l → Answers (bind o f) w' r

-- the answers held from h on, flattened
pub record Flattens (kind : ℕ) (w work : List ℕ) (h n : ℕ) (f : Flow) (r : Listed) : Type 0 where
  pub is : (o : Out (List ℕ)) → Visited o w work h n f → Answers (bind o (flattened kind)) w r

-- what is left of l without the fillers of a pass
pub record WithoutFillers (table : List ℕ) (c : Canon) (w : List ℕ) (l r : Listed) : Type 0 where
  pub is : {p : runs.Pass} → GivenTo p table c → Steps (concrete_of p) w l w r

-- what union_normalized makes of the members of a union
abbrev pub union_members : Polarity → List Node → List ℕ → List ℕ
union_members Positive ns ms = absorb_subsumed_union_members ns (remove_tautological_pairs ns ms)
union_members Negative ns ms = absorb_subsumed_union_members ns ms

-- whether nothing left of the members gives Top
pub record TopIfEmptied (pol : Polarity) (m : Members) (r : Bool) : Type 0 where
  pub is : {xs : List ℕ} → Few m xs → r ≡ top_if_emptied pol xs

-- the members as a node of that kind; ys are those before filtering
pub record SettlesList (kind : ℕ) (w : List ℕ) (q : Pass) (m : Members) (cancelled : Bool) (first : Option ℕ) (w' : List ℕ) (r : Settled) : Type 0 where
  pub is : {st : State} {xs : List ℕ} {wrap : List ℕ → Node} (ys : List ℕ) → Wraps kind wrap → Stands st w q → Taken m xs q.nodes
      → Under (length st.nodes) ys → FirstIs ys first → Settles (λ rest. settle cancelled (rest ys) wrap xs st) w' r

-- a node stored, as a list settled and as an intersection tried
pub record AsSettled (g : Given) (r : Settled) : Type 0 where
  pub is : (o : Out ℕ) (w : List ℕ) → Stores o w g → Settles (λ rest. o) w r

pub record AsTried (g : Given) (r : Tried) : Type 0 where
  pub is : (o : Out ℕ) (w : List ℕ) → Stores o w g → Tries (λ rest. o) w r

-- what is left of an intersection as a node
pub record SettlesListed (w : List ℕ) (l : Listed) (cancelled : Bool) (first : Option ℕ) (w' : List ℕ) (r : Settled) : Type 0 where
  pub is : (o : Out (List ℕ)) (ys : List ℕ) → Answers o w l → Leads o ys first → Settles (λ rest. bind o (settle cancelled (rest ys) Intersection)) w' r

-- the first of ys, or Bottom where there is none
pub record FirstOrBottom (w : List ℕ) (y : Option ℕ) (q : Pass) (w' : List ℕ) (r : Given) : Type 0 where
  pub is : {st : State} (ys : List ℕ) → Stands st w q → Under (length st.nodes) ys → FirstIs ys y → Stores (first_member ys st) w' r

-- what is to be done where nothing is left, is to take the first member before filtering
pub record OrFirst (w : List ℕ) (z : Settled) (w' : List ℕ) (r : Given) : Type 0 where
  pub is : (f : (List ℕ → Run ℕ) → Out ℕ) → Settles f w z → Stores (f first_member) w' r

-- the first member, where there is one
pub record FirstMember (m : Members) (r : Option ℕ) : Type 0 where
  pub is : {xs : List ℕ} → Few m xs → FirstIs xs r

-- the answers held from h on, as a union
pub record SettlesUnion (table : List ℕ) (c : Canon) (w work : List ℕ) (h n : ℕ) (f : Flow) (pol : Polarity) (w' : List ℕ) (r : Settled) : Type 0 where
  pub is : {p : runs.Pass} (o : Out (List ℕ)) → GivenTo p table c → Visited o w work h n f → Settles (λ rest. bind o (λ xs. union_end p pol xs rest)) w' r

-- expand_bounds, steps 4 and 5 in a negative place, once the sets are merged
abbrev pub merged_end : ℕ → Run ℕ → List ℕ → Run ℕ
merged_end functor rest one = do
  xs ← ask (λ (ns : List Node). remove_redundant_negations functor ns one)
  contradicts ← ask (λ (ns : List Node). has_type_contradiction functor ns xs)
  if contradicts (λ _. store Bottom)
      (λ _. do
        ys ← factor_shared_from_intersection xs
        settle false rest Intersection ys)

-- l is what the merge gave
pub record SettlesMerged (c : Canon) (w : List ℕ) (l : Listed) (first : Option ℕ) (w' : List ℕ) (r : Settled) : Type 0 where
  pub is : (o : Out (List ℕ)) (ys : List ℕ) → Answers o w l → Leads o ys first → Settles (λ rest. bind o (merged_end c.functor (rest ys))) w' r

-- the members of an intersection, normalized in their place; of work nothing below h changes
pub record NormalizesInter (c : Canon) (w work : List ℕ) (h : ℕ) (q : Pass) (m : Members) (pol : Polarity) (w' work' : List ℕ) (r : Listed) : Type 0 where
  pub kept : (k : ℕ) → k < h → cell work' k ≡ cell work k
  pub is : (p : runs.Pass) {st : State} {xs : List ℕ} → p.functor ≡ c.functor → Sound st → Stands st w q → Taken m xs q.nodes → Roomy work h
      → Answers (inter_normalized p pol xs st) w' r

-- Ty::Inter after its normalization; ys are all members of the first try
abbrev pub inter_end : ℕ → Bool → List ℕ → List ℕ → Run ℕ
inter_end functor cancelled ys xs = do
  simple ← simplify_union_neg_intersection functor xs
  zs ← factor_shared_from_intersection simple
  settle cancelled (first_member ys) Intersection zs

-- l is what the normalization gave
pub record SettlesInter (c : Canon) (w : List ℕ) (l : Listed) (cancelled : Bool) (first : Option ℕ) (w' : List ℕ) (r : Given) : Type 0 where
  pub is : (o : Out (List ℕ)) (ys : List ℕ) → Answers o w l → Leads o ys first → Stores (bind o (inter_end c.functor cancelled ys)) w' r

-- Ty::Inter, once its members do not contradict each other
pub record RestsInter (c : Canon) (w work : List ℕ) (h : ℕ) (q : Pass) (m : Members) (first : Option ℕ) (pol : Polarity) (w' work' : List ℕ)
    (r : Given) : Type 0 where
  pub kept : (k : ℕ) → k < h → cell work' k ≡ cell work k
  pub is : (p : runs.Pass) {st : State} {xs : List ℕ} (ys : List ℕ) → p.functor ≡ c.functor → Sound st → Stands st w q → Taken m xs q.nodes → Roomy work h
      → Under (length st.nodes) ys → FirstIs ys first → Stores (inter_rest p pol ys xs st) w' r

-- the members that a try tests
pub record TriesMembers (c : Canon) (w : List ℕ) (l : Listed) (t : Try) (w' : List ℕ) (r : Listed) : Type 0 where
  pub once : (o : Out (List ℕ)) → t ≡ First → Answers o w l → Answers o w' r
  pub twice : (y : Option ℕ) → t ≡ Again y → Steps (simplify_union_neg_intersection c.functor) w l w' r

-- the first member of the first try
pub record FirstTried (t : Try) (m : Members) (r : Option ℕ) : Type 0 where
  pub once : t ≡ First → FirstMember m r
  pub twice : (y : Option ℕ) → t ≡ Again y → r ≡ y

-- the members of a try, tested
abbrev pub inter_tested : runs.Pass → Polarity → List ℕ → (List ℕ → Run ℕ) → List ℕ → Run ℕ
inter_tested p pol ys rest ms = do
  contradicts ← ask (λ (ns : List Node). has_type_contradiction p.functor ns ms)
  if contradicts (λ _. rest ys) (λ _. inter_rest p pol ys ms)

-- l are the members of a try
pub record ChecksInter (c : Canon) (w work : List ℕ) (h : ℕ) (l : Listed) (first : Option ℕ) (pol : Polarity) (w' work' : List ℕ) (r : Tried) : Type 0 where
  pub kept : (k : ℕ) → k < h → cell work' k ≡ cell work k
  pub is : (p : runs.Pass) (o : Out (List ℕ)) (ys : List ℕ) → p.functor ≡ c.functor → Answers o w l → Soundly o → Roomy work h → Leads o ys first
      → Tries (λ rest. bind o (inter_tested p pol ys rest)) w' r
