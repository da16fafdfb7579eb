-- What callers cite of the store: an answer taken apart, a store of each kind of node, and the slices with no node. Assumes nothing.
use mathlib.Core.Path.{◌≡◌, refl, sym, ap, ◌∙◌, subst}
use Prim.Native.Nat.{ℕ, ◌+◌, ◌≤◌, ◌<◌}
use native.Mathlib.Omega.{arith}
use mathlib.Core.List.{List, [], ◌∷◌}
use lib.ListN.{length, set, length-set}
use lib.Seq.{get_or-set_same, get_or-set_other}
use native.Mathlib.Nat.{not-suc-le-zero}
use Rattle.cells.specs.Part.{cell}
use Rattle.cells.specs.Clears.{Clears}
use Rattle.layout.specs.Layout.{newest_at, buckets, arena_words, arena_length}
use Rattle.laws.proofs.Storing.{distinct_none}
use Rattle.rules.specs.Types.{State, Out, no, Node, TyVar, Primitive, ListOf, Lambda, Union, Intersection, Named, Bottom, encode, store}
use Rattle.lang_ty.specs.declared.arena.Pass.{Pass}
use Rattle.lang_ty.specs.Given.{Given}
use Rattle.lang_ty.specs.Given.{Node as NodeG, Refused}
use Rattle.lang_ty.specs.Nodes.{Arena, Stands, Fresh, Gives, Answer, Answers, Fits, Stored}

module _ {o : Out ℕ} {w : List ℕ} {r : Given} where
  pub gives : {x : ℕ} {q : Pass} → Answers o w r → r ≡ NodeG x q → Gives o w x q
  gives a e = subst (λ (g : Given). Answer o w g) e a.is

  pub refuses : {k : ℕ} → Answers o w r → r ≡ Refused k → o ≡ no k
  refuses a e = subst (λ (g : Given). Answer o w g) e a.is

-- an answer of equal outcomes
pub answers_of : {o p : Out ℕ} {w : List ℕ} {r : Given} → o ≡ p → Answers p w r → Answers o w r
answers_of {w = w} {r = r} e a = subst (λ (x : Out ℕ). Answers x w r) (sym e) a

module _ {st : State} {w w' : List ℕ} {q : Pass} {r : Given} (on : Stands st w q) where
  -- a node without members, whose row has three words at most
  plain : (n : Node) → Stored (encode n) 0 w q w' r → Fits n q.nodes 0 → Answers (store n st) w' r
  plain n h f = h.is {n = n} on f refl

  pub stored_bottom : Stored (9 ∷ []) 0 w q w' r → Answers (store Bottom st) w' r
  stored_bottom h = plain Bottom h (record { cells = refl; few = omega arith; below = tt; ordered = tt; short = omega arith })

  module _ {a : ℕ} where
    pub stored_tyvar : Stored (0 ∷ a ∷ []) 0 w q w' r → Answers (store (TyVar a) st) w' r
    stored_tyvar h = plain (TyVar a) h (record { cells = refl; few = omega arith; below = tt; ordered = tt; short = omega arith })

    pub stored_primitive : Stored (1 ∷ a ∷ []) 0 w q w' r → Answers (store (Primitive a) st) w' r
    stored_primitive h = plain (Primitive a) h (record { cells = refl; few = omega arith; below = tt; ordered = tt; short = omega arith })

    pub stored_list : Stored (2 ∷ a ∷ []) 0 w q w' r → a < q.nodes → Answers (store (ListOf a) st) w' r
    stored_list h lt = plain (ListOf a) h (record { cells = refl; few = omega arith; below = (lt, tt); ordered = tt; short = omega arith })

    module _ {b : ℕ} where
      pub stored_lambda : Stored (3 ∷ a ∷ b ∷ []) 0 w q w' r → a < q.nodes → b < q.nodes → Answers (store (Lambda a b) st) w' r
      stored_lambda h lt lt' = plain (Lambda a b) h (record { cells = refl; few = omega arith; below = (lt, (lt', tt)); ordered = tt; short = omega arith })

      pub stored_named : Stored (7 ∷ a ∷ b ∷ []) 0 w q w' r → b < q.nodes → Answers (store (Named a b) st) w' r
      stored_named h lt = plain (Named a b) h (record { cells = refl; few = omega arith; below = (lt, tt); ordered = tt; short = omega arith })

      pub stored_union : Stored (5 ∷ 2 ∷ a ∷ b ∷ []) 2 w q w' r → a < q.nodes → b < q.nodes → Answers (store (Union (a ∷ b ∷ [])) st) w' r
      stored_union h lt lt' =
          h.is {n = Union (a ∷ b ∷ [])} on (record { cells = refl; few = omega arith; below = (lt, (lt', tt)); ordered = tt; short = omega arith }) refl

      pub stored_intersection : Stored (6 ∷ 2 ∷ a ∷ b ∷ []) 2 w q w' r → a < q.nodes → b < q.nodes → Answers (store (Intersection (a ∷ b ∷ [])) st) w' r
      stored_intersection h lt lt' =
          h.is {n = Intersection (a ∷ b ∷ [])} on (record { cells = refl; few = omega arith; below = (lt, (lt', tt)); ordered = tt; short = omega arith }) refl

-- the slice holds no node
pub fresh_is : {w w₁ w₂ : List ℕ} → Clears w newest_at buckets w₁ → w₂ ≡ set w₁ 0 arena_words → length w₁ ≡ length w → Fresh w w₂
fresh_is {w} {w₁} {w₂} cl e size =
    record {
      is = λ {q} none no_cells room.
          let long = ap length e ∙ length-set w₁ 0 arena_words in
          let first : cell w₂ 0 ≡ arena_words = ap (λ (l : List ℕ). cell l 0) e ∙ get_or-set_same w₁ 0 arena_words 0 (omega arith) in
          let top : cell w₂ q.nodes ≡ arena_words = ap (cell w₂) none ∙ first in
          record {
            count = sym none;
            few = omega arith;
            cells = omega arith;
            first = omega arith;
            rows = λ i lt. absurd (not-suc-le-zero lt);
            ends = λ i lt. absurd (not-suc-le-zero lt);
            top = omega arith;
            below = λ i lt. absurd (not-suc-le-zero lt);
            slim = λ i lt. absurd (not-suc-le-zero lt);
            distinct = distinct_none;
            ordered = record { is = λ i lt. absurd (not-suc-le-zero lt) };
            index = record {
              newest_of = λ b lt.
                  ap (λ (l : List ℕ). cell l (newest_at + b)) e ∙ get_or-set_other w₁ 0 (newest_at + b) arena_words 0 (λ z. omega arith)
                  ∙ cl.zero (newest_at + b) (omega arith) (omega arith);
              earlier_of = λ i lt. absurd (not-suc-le-zero lt);
              hash_of = λ i lt. absurd (not-suc-le-zero lt);
            };
            room = omega arith;
          };
    }

pub stands_none : {st : State} {w w' : List ℕ} {q : Pass} → Fresh w w' → st.nodes ≡ [] → st.cells ≡ 0 → st.ops ≡ q.ops → st.sorted ≡ q.sorted
    → st.bailed ≡ q.bailed → q.nodes ≡ 0 → q.cells ≡ 0 → arena_length ≤ length w → Stands st w' q
stands_none {st} {w} {w'} {q} fresh none cells ops sorted bailed nodes no_cells room =
    record {
      arena = subst (Arena w' q) (sym none) (fresh.is nodes no_cells room);
      cells = cells ∙ sym no_cells;
      ops = ops;
      sorted = sorted;
      bailed = bailed;
    }
