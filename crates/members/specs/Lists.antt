-- Lists of members by value and in lent slices, and what the functions on them ensure. Each contract's premises are arguments of its field.
use Rattle.std.specs.Prelude.{◌≡◌, Bool, true, false, not, ℕ, ◌+◌, ◌≤◌, ◌<◌, List, [], ◌∷◌, ◌++◌, length, drop, eqb}
use Rattle.cells.specs.Part.{cell, part}
use Rattle.cells.specs.Sum.{Sum}
use Rattle.rules.specs.Ceilings.{most_members}
use Rattle.rules.specs.Plain.{any, filter, contains}
use Rattle.rules.specs.Types.{Node, State, Out, ok, no, Run, bind, give, is}
use Rattle.rules.specs.Members.{sole, members_at}
use Rattle.rules.specs.Canonicalizer.{should_drop_filler}
use Rattle.rules.specs.Canonicalizer as rules
use Rattle.lang_ty.specs.declared.arena.Pass.{Pass}
use Rattle.lang_ty.specs.Given.{Given}
use Rattle.lang_ty.specs.Nodes.{Arena, Comes, Stands, Lists as ListNode, Answers as Stores}
use Rattle.members.specs.declared.lists.Members.{Members}
use Rattle.members.specs.Flow.{Flow}
use Rattle.members.specs.Flow.{On, Refused}
use Rattle.members.specs.Listed.{Listed}
use Rattle.members.specs.AtMostOne.{AtMostOne}
use Rattle.members.specs.AtMostOne.{Nothing, One, Refused as RefusedP}
use Rattle.members.specs.Grown.{Grown}
use Rattle.members.specs.Grown.{On as OnG, Refused as RefusedG}
use Rattle.cells.specs.Placed.{Holds, Under}

-- the members m are xs, no more than 128
pub record Few (m : Members) (xs : List ℕ) : Type 0 where
  pub count : m.count ≡ length xs
  pub holds : Holds m.at 0 xs
  pub few : length xs ≤ most_members

-- the members m are xs; a count above 128 says that there are more than fit
pub record Lists (m : Members) (xs : List ℕ) : Type 0 where
  pub fit : length xs ≤ most_members → Few m xs
  pub many : most_members < length xs → most_members < m.count

-- a list that a rule may take: no more than 128 members, each one of k nodes
pub record Taken (m : Members) (xs : List ℕ) (k : ℕ) : Type 0 where
  pub list : Few m xs
  pub below : Under k xs

-- the first n cells of ms as members
abbrev pub first_of : ℕ → List ℕ → Members
first_of n ms = record { count = n; at = ms }

-- r is what f makes of the members of m
pub record Makes (f : List Node → List ℕ → List ℕ) (w : List ℕ) (m r : Members) : Type 0 where
  pub is : {q : Pass} {ns : List Node} {xs : List ℕ} → Arena w q ns → Taken m xs (length ns) → Taken r (f ns xs) (length ns)

-- r is the answer of the test f on the members of m
pub record Tests (f : List Node → List ℕ → Bool) (w : List ℕ) (m : Members) (r : Bool) : Type 0 where
  pub is : {q : Pass} {ns : List Node} {xs : List ℕ} → Arena w q ns → Taken m xs (length ns) → r ≡ f ns xs

-- the rules give the list m too, and the arena is as after that
pub record Gives (o : Out (List ℕ)) (w : List ℕ) (m : Members) (q : Pass) : Type 0 where
  pub after : State
  pub list : List ℕ
  pub is : o ≡ ok list after
  pub stands : Stands after w q
  pub taken : Taken m list (length after.nodes)

-- the code's answer is that of the rules
abbrev pub AnswersFlow : Out (List ℕ) → List ℕ → Members → Flow → Type 0
AnswersFlow o w m (On q) = Gives o w m q
AnswersFlow o w m (Refused k) = o ≡ no k

abbrev pub Answers : Out (List ℕ) → List ℕ → Listed → Type 0
Answers o w r = AnswersFlow o w r.members r.flow

-- r is what the rule f gives for the members of m
pub record Runs (f : List ℕ → Run (List ℕ)) (w : List ℕ) (q : Pass) (m : Members) (w' : List ℕ) (r : Listed) : Type 0 where
  pub is : {st : State} {xs : List ℕ} → Stands st w q → Taken m xs q.nodes → Answers (f xs st) w' r

-- r are those of m for which the test f says so, if what is answered of a member is what f says
pub record SiftsBy (Answered : ℕ → Bool → Type 0) (m r : Members) : Type 0 where
  pub is : {xs : List ℕ} {k : ℕ} (f : ℕ → Bool) → Taken m xs k → ((x : ℕ) (b : Bool) → x < k → Answered x b → b ≡ f x) → Taken r (filter f xs) k

-- whether the test f holds of a member from place i on, if what is answered of a member is what f says
pub record AnyBy (Answered : ℕ → Bool → Type 0) (m : Members) (i : ℕ) (r : Bool) : Type 0 where
  pub is : {xs : List ℕ} {k : ℕ} (f : ℕ → Bool) → Taken m xs k → ((x : ℕ) (b : Bool) → x < k → Answered x b → b ≡ f x) → r ≡ any f (drop i xs)

-- r is the answer of the test f on node x
pub record Asks (f : List Node → ℕ → Bool) (w : List ℕ) (x : ℕ) (r : Bool) : Type 0 where
  pub is : {q : Pass} {ns : List Node} → Arena w q ns → x < length ns → r ≡ f ns x

-- r is the answer of the test f on the nodes x and y
pub record Pairs (f : List Node → ℕ → ℕ → Bool) (w : List ℕ) (x y : ℕ) (r : Bool) : Type 0 where
  pub is : {q : Pass} {ns : List Node} → Arena w q ns → x < length ns → y < length ns → r ≡ f ns x y

-- r is the answer of the test f on node x beside the members
pub record Beside (f : List Node → List ℕ → ℕ → Bool) (w ms : List ℕ) (n x : ℕ) (r : Bool) : Type 0 where
  pub is : {q : Pass} {ns : List Node} {xs : List ℕ} → Arena w q ns → Taken (first_of n ms) xs (length ns) → x < length ns → r ≡ f ns xs x

-- r are those of m for which the test f beside the members says so
pub record Sifts (f : List Node → List ℕ → ℕ → Bool) (w ms : List ℕ) (n : ℕ) (m r : Members) : Type 0 where
  pub is : {q : Pass} {ns : List Node} {xs ys : List ℕ} → Arena w q ns → Taken (first_of n ms) xs (length ns) → Taken m ys (length ns)
      → Taken r (filter (f ns xs) ys) (length ns)

-- whether x is among the first n cells of s
pub record Contains (s : List ℕ) (n x : ℕ) (r : Bool) : Type 0 where
  pub is : r ≡ contains (part s 0 n) x

-- the first k of the 128 cells out are xs
pub record Gathered (out : List ℕ) (k : ℕ) (xs : List ℕ) : Type 0 where
  pub count : k ≡ length xs
  pub holds : Holds out 0 xs
  pub room : length out ≡ most_members

-- x where it is to be kept
abbrev pub only : Bool → ℕ → List ℕ
only true x = x ∷ []
only false x = []

-- what was gathered, and x after it where it is to be kept
pub record KeepsIf (out : List ℕ) (k x : ℕ) (b : Bool) (out' : List ℕ) (r : ℕ) : Type 0 where
  pub is : {xs : List ℕ} → Gathered out k xs → length xs < most_members → Gathered out' r (xs ++ only b x)

-- the members of node x
pub record MembersOf (w : List ℕ) (x : ℕ) (r : Members) : Type 0 where
  pub is : {q : Pass} {ns : List Node} → Arena w q ns → x < length ns → Taken r (members_at ns x) (length ns)

abbrev pub any_of_kind : ℕ → List Node → List ℕ → Bool
any_of_kind k ns xs = any (is ns k) xs

-- of that kind, or not of it
abbrev pub of_kind : ℕ → Bool → List Node → ℕ → Bool
of_kind k true ns x = is ns k x
of_kind k false ns x = not (is ns k x)

-- the members for which the test says so
abbrev pub sift : (List Node → ℕ → Bool) → List Node → List ℕ → List ℕ
sift f ns xs = filter (f ns) xs

-- the number of a kind of nodes that are lists, and how the rules write one
pub record Wraps (kind : ℕ) (wrap : List ℕ → Node) : Type 0 where
  pub is : {k : ℕ} (xs : List ℕ) → Under k xs → ListNode (wrap xs) kind xs k

-- the rules give this list too
abbrev pub PartIs : Out (List ℕ) → List ℕ → List ℕ → Pass → Type 0
PartIs o w list q = Comes (λ (st : State). o ≡ ok list st) (λ (n : ℕ). Under n list) w q

abbrev pub AnswersPart : Out (List ℕ) → List ℕ → AtMostOne → Type 0
AnswersPart o w (Nothing q) = PartIs o w [] q
AnswersPart o w (One x q) = PartIs o w (x ∷ []) q
AnswersPart o w (RefusedP k) = o ≡ no k

-- nothing of nothing, a sole member itself, more as one stored node of that kind
pub record Soles (kind : ℕ) (w : List ℕ) (q : Pass) (m : Members) (w' : List ℕ) (r : AtMostOne) : Type 0 where
  pub is : {st : State} {xs : List ℕ} {wrap : List ℕ → Node} → Wraps kind wrap → Stands st w q → Taken m xs q.nodes → AnswersPart (sole wrap xs st) w' r

-- the list xs has grown by what the rules give, by one or none
pub record Adds (o : Out (List ℕ)) (w xs out : List ℕ) (k : ℕ) (q : Pass) : Type 0 where
  pub after : State
  pub list : List ℕ
  pub is : o ≡ ok list after
  pub stands : Stands after w q
  pub below : Under (length after.nodes) list
  pub most : length list ≤ 1
  pub gathered : Gathered out k (xs ++ list)

abbrev pub AnswersGrown : Out (List ℕ) → List ℕ → List ℕ → List ℕ → Grown → Type 0
AnswersGrown o w xs out (OnG k q) = Adds o w xs out k q
AnswersGrown o w xs out (RefusedG k) = o ≡ no k

pub record Grows (out : List ℕ) (k : ℕ) (p : AtMostOne) (out' : List ℕ) (r : Grown) : Type 0 where
  pub is : (o : Out (List ℕ)) (w : List ℕ) {xs : List ℕ} → AnswersPart o w p → Gathered out k xs → length xs < most_members → AnswersGrown o w xs out' r

-- the members after what was gathered
pub record CopiedInto (out : List ℕ) (k : ℕ) (m : Members) (out' : List ℕ) (r : ℕ) : Type 0 where
  pub sum : Sum k m.count r
  pub is : {xs ys : List ℕ} → Gathered out k xs → Few m ys → length xs + length ys ≤ most_members → Gathered out' r (xs ++ ys)

pub record Joined (a b r : Members) : Type 0 where
  pub is : {xs ys : List ℕ} → Lists a xs → Lists b ys → Lists r (xs ++ ys)

pub record AsListed (p : AtMostOne) (r : Listed) : Type 0 where
  pub is : (o : Out (List ℕ)) (w : List ℕ) → AnswersPart o w p → Answers o w r

-- the members and a node after them, where it fits
pub record WithLast (m : Members) (g : Given) (r : Listed) : Type 0 where
  pub is : (o : Out ℕ) (w : List ℕ) {xs : List ℕ} → Stores o w g → Few m xs → length xs < most_members
      → ((x : ℕ) (st : State) → o ≡ ok x st → Under (length st.nodes) xs) → Answers (bind o (λ x. give (xs ++ (x ∷ [])))) w r

-- the cells of the table from f on say which of count variables the pass preserves
pub record Preserves (p : rules.Pass) (table : List ℕ) (f count : ℕ) : Type 0 where
  pub size : p.count ≡ count
  pub is : (v : ℕ) → v < count → p.preserved v ≡ not (eqb (cell table (f + v)) 0)

pub record Drops (table : List ℕ) (f count : ℕ) (w : List ℕ) (x : ℕ) (r : Bool) : Type 0 where
  pub is : {p : rules.Pass} → Preserves p table f count → Asks (should_drop_filler p) w x r

-- the members that are no fillers
abbrev pub stays : rules.Pass → List Node → ℕ → Bool
stays p ns x = not (should_drop_filler p ns x)

pub record DropsFillers (table : List ℕ) (f count : ℕ) (w : List ℕ) (m r : Members) : Type 0 where
  pub is : {p : rules.Pass} → Preserves p table f count → Makes (sift (stays p)) w m r
