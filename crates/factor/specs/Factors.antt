-- What the functions of factor.rt ensure. Each contract's premises are arguments of its field.
use Rattle.std.specs.Prelude.{◌≡◌, Bool, true, false, not, ◌||◌, ℕ, suc, ◌+◌, ◌-◌, ◌≤◌, ◌<◌, List, [], ◌∷◌, ◌++◌, length, get_or, take, drop, ltb}
use Rattle.rules.specs.Ceilings.{most_members}
use Rattle.rules.specs.Plain.{all, filter, contains}
use Rattle.rules.specs.Types.{Node, Union, Intersection, State, Out, no, Run, ◌>>=◌, bind, ask}
use Rattle.rules.specs.Order.{order, is_greater, insert, sort}
use Rattle.rules.specs.Members.{members_at, without, sole, mark_sorted, remainders, factor_unions}
use Rattle.lang_ty.specs.declared.arena.Pass.{Pass}
use Rattle.lang_ty.specs.Nodes.{Arena, Stands}
use Rattle.members.specs.declared.lists.Members.{Members}
use Rattle.members.specs.Flow.{Flow}
use Rattle.members.specs.Flow.{On, Refused}
use Rattle.members.specs.Listed.{Listed}
use Rattle.members.specs.AtMostOne.{AtMostOne}
use Rattle.members.specs.Grown.{Grown}
use Rattle.members.specs.Lists.{Taken, Gives, Answers, Gathered, Wraps, AnswersPart, AnswersGrown, first_of}
use Rattle.members.specs.Flattens.{Listing}
use Rattle.cells.specs.Placed.{Under}
use Rattle.factor.specs.declared.Span.{Span}

-- x is a member of node u
abbrev pub has_member : ℕ → List Node → ℕ → Bool
has_member x ns u = contains (members_at ns u) x

-- x is a member of each node of xs but the first
abbrev pub in_others : ℕ → List Node → List ℕ → Bool
in_others x ns xs = all (has_member x ns) (drop 1 xs)

-- x is a member of all unions but the first, and x is not among the shared members
abbrev pub shared_by : List Node → List ℕ → ℕ → Bool
shared_by ns us x = in_others x ns us

abbrev pub not_among : List Node → List ℕ → ℕ → Bool
not_among ns xs x = not (contains xs x)

-- the members of node u that the test f beside xs keeps
pub record Picks (f : List Node → List ℕ → ℕ → Bool) (w ms : List ℕ) (n u : ℕ) (r : Members) : Type 0 where
  pub is : {q : Pass} {ns : List Node} {xs : List ℕ} → Arena w q ns → Taken (first_of n ms) xs (length ns) → u < length ns
      → Taken r (filter (f ns xs) (members_at ns u)) (length ns)

-- what is left of union u, after what was gathered
pub record Remains (w : List ℕ) (q : Pass) (ms : List ℕ) (n u : ℕ) (out : List ℕ) (k : ℕ) (w' out' : List ℕ) (r : Grown) : Type 0 where
  pub is : {st : State} {xs got : List ℕ} → Stands st w q → Taken (first_of n ms) xs q.nodes → u < q.nodes → Gathered out k got → length got < most_members
      → AnswersGrown (sole Union (without xs (members_at st.nodes u)) st) w' got out' r

-- the code's answer is that of the rules, and there are k nodes or more
abbrev pub AnswersMore : ℕ → Out (List ℕ) → List ℕ → Members → Flow → Type 0
AnswersMore k o w m (On q) = Gives o w m q × (k ≤ q.nodes)
AnswersMore k o w m (Refused j) = o ≡ no j

-- each union without the shared members
pub record Leaves (w : List ℕ) (q : Pass) (shared unions : Members) (w' : List ℕ) (r : Listed) : Type 0 where
  pub is : {st : State} {xs us : List ℕ} → Stands st w q → Taken shared xs q.nodes → Taken unions us q.nodes
      → AnswersMore q.nodes (remainders xs us st) w' r.members r.flow

-- node y is greater than node x
abbrev pub behind : List Node → ℕ → ℕ → Bool
behind ns y x = is_greater (order (length ns) ns y x)

-- x goes into the span of the members: the one ahead of it is not greater, and the one behind it is
pub record Within (ns : List Node) (ys : List ℕ) (x : ℕ) (span : Span) : Type 0 where
  pub ahead : (i : ℕ) → suc i ≡ span.low → behind ns (get_or ys i 0) x ≡ false
  pub after : span.high < length ys → behind ns (get_or ys span.high 0) x ≡ true

-- r is a cell of the span
pub record Probed (span : Span) (r : ℕ) : Type 0 where
  pub low : span.low ≤ r
  pub high : r < span.high

-- r is a smaller span into which x goes too
pub record Halved (w ms : List ℕ) (span : Span) (x : ℕ) (r : Span) : Type 0 where
  pub some : r.low ≤ r.high
  pub high : r.high ≤ span.high
  pub less : r.high - r.low < span.high - span.low
  pub is : {q : Pass} {ns : List Node} {n : ℕ} {ys : List ℕ} → Arena w q ns → Taken (first_of n ms) ys (length ns) → x < length ns → span.high ≤ n
      → Within ns ys x span → Within ns ys x r

-- ys are the members of some list in order
pub record Sorted (ns : List Node) (ys : List ℕ) : Type 0 where
  pub of : List ℕ
  pub is : ys ≡ sort ns of

-- x goes before place r of the members, which are in order
pub record Placed (w ms : List ℕ) (n x r : ℕ) : Type 0 where
  pub few : r ≤ n
  pub is : {q : Pass} {ns : List Node} {ys : List ℕ} → Arena w q ns → Taken (first_of n ms) ys (length ns) → Sorted ns ys → x < length ns
      → insert ns x ys ≡ take r ys ++ (x ∷ drop r ys)

-- x before place i of what was gathered
pub record PutIn (ms : List ℕ) (i n x : ℕ) (ms' : List ℕ) : Type 0 where
  pub is : {ys : List ℕ} → Gathered ms n ys → length ys < most_members → i ≤ n → Gathered ms' (suc n) (take i ys ++ (x ∷ drop i ys))

pub record Inserts (w ms : List ℕ) (n x : ℕ) (ms' : List ℕ) : Type 0 where
  pub is : {q : Pass} {ns : List Node} {ys : List ℕ} → Arena w q ns → Gathered ms n ys → Under (length ns) ys → Sorted ns ys → length ys < most_members → x < length ns
      → Gathered ms' (suc n) (insert ns x ys)

-- q with the sorted mark where n is two or more
pub record Marked (q : Pass) (n : ℕ) (r : Pass) : Type 0 where
  pub nodes : r.nodes ≡ q.nodes
  pub cells : r.cells ≡ q.cells
  pub ops : r.ops ≡ q.ops
  pub sorted : r.sorted ≡ q.sorted || ltb 1 n
  pub bailed : r.bailed ≡ q.bailed

-- `sole` of a list that may be more than fit
pub record SolesAny (kind : ℕ) (w : List ℕ) (q : Pass) (m : Members) (w' : List ℕ) (r : AtMostOne) : Type 0 where
  pub is : {st : State} {xs : List ℕ} {wrap : List ℕ → Node} → Wraps kind wrap → Stands st w q → Listing m xs q.nodes → AnswersPart (sole wrap xs st) w' r

-- the shared members beside the intersection of the parts
abbrev pub beside : List ℕ → List ℕ → Run (List ℕ)
beside shared parts = do
  inner ← sole Intersection parts
  sole Union (shared ++ inner)

pub record FactorsParts (w : List ℕ) (q : Pass) (shared parts : Members) (w' : List ℕ) (r : Listed) : Type 0 where
  pub is : {st : State} {xs ys : List ℕ} → Stands st w q → Taken shared xs q.nodes → Listing parts ys q.nodes → Answers (beside xs ys st) w' r

-- what follows the rests of the unions
abbrev pub after_rests : List ℕ → List ℕ → List ℕ → Run (List ℕ)
after_rests shared others rests = do
  xs ← ask (λ (ns : List Node). sort ns shared)
  _ ← mark_sorted xs
  beside xs (rests ++ others)

-- o is the rules' outcome for the rests, before which there were k nodes
pub record FactorsRests (w : List ℕ) (rests : Listed) (shared others : Members) (w' : List ℕ) (r : Listed) : Type 0 where
  pub is : (k : ℕ) (o : Out (List ℕ)) {xs ys : List ℕ} → AnswersMore k o w rests.members rests.flow → Taken shared xs k → Taken others ys k
      → Answers (bind o (after_rests xs ys)) w' r

-- two unions or more
pub record FactorsUnions (w : List ℕ) (q : Pass) (others unions : Members) (w' : List ℕ) (r : Listed) : Type 0 where
  pub is : {st : State} {ys : List ℕ} {u v : ℕ} {us : List ℕ} → Stands st w q → Taken others ys q.nodes → Taken unions (u ∷ v ∷ us) q.nodes
      → length ys + length (u ∷ v ∷ us) ≤ most_members → Answers (factor_unions ys (u ∷ v ∷ us) st) w' r

-- a sole union
pub record FactorsOne (w : List ℕ) (q : Pass) (others : Members) (u : ℕ) (w' : List ℕ) (r : Listed) : Type 0 where
  pub is : {st : State} {ys : List ℕ} → Stands st w q → Taken others ys q.nodes → length ys < most_members → u < q.nodes
      → Answers (factor_unions ys (u ∷ []) st) w' r
