-- What the functions of intersections.rt ensure. Each contract's premises are arguments of its field.
use Rattle.std.specs.Prelude.{ℕ, ◌<◌, List, length}
use Rattle.rules.specs.Ceilings.{most_members}
use Rattle.rules.specs.Types.{State}
use Rattle.rules.specs.Members.{negated_inners, simplify_one, simplify_each}
use Rattle.lang_ty.specs.declared.arena.Pass.{Pass}
use Rattle.lang_ty.specs.Nodes.{Stands}
use Rattle.members.specs.declared.lists.Members.{Members}
use Rattle.members.specs.Listed.{Listed}
use Rattle.members.specs.AtMostOne.{AtMostOne}
use Rattle.members.specs.Grown.{Grown}
use Rattle.members.specs.Lists.{Taken, Gathered, Answers, AnswersPart, AnswersGrown}

-- what simplifying by the negations among the members makes of node x
pub record Simplifies (w : List ℕ) (q : Pass) (m : Members) (x : ℕ) (w' : List ℕ) (r : AtMostOne) : Type 0 where
  pub is : {st : State} {xs : List ℕ} → Stands st w q → Taken m xs (length st.nodes) → x < length st.nodes
      → AnswersPart (simplify_one (negated_inners st.nodes xs) x st) w' r

-- the same, after what was gathered
pub record SimplifiesInto (w : List ℕ) (q : Pass) (m : Members) (x : ℕ) (out : List ℕ) (k : ℕ) (w' out' : List ℕ) (r : Grown) : Type 0 where
  pub is : {st : State} {xs got : List ℕ} → Stands st w q → Taken m xs (length st.nodes) → x < length st.nodes → Gathered out k got → length got < most_members
      → AnswersGrown (simplify_one (negated_inners st.nodes xs) x st) w' got out' r

-- each member of m simplified by the negations among those of g
pub record SimplifiesAll (w : List ℕ) (q : Pass) (g m : Members) (w' : List ℕ) (r : Listed) : Type 0 where
  pub is : {st : State} {xs ys : List ℕ} → Stands st w q → Taken g ys (length st.nodes) → Taken m xs q.nodes
      → Answers (simplify_each (negated_inners st.nodes ys) xs st) w' r
