-- The walk from a node: each node once, children before it, all of them nodes; and where a child stands. Assumes nothing.
use mathlib.Core.Path.{◌≡◌, refl, sym, ◌∙◌, subst}
use mathlib.Core.Bool.{Bool, true, false}
use Prim.Native.Nat.{ℕ, zero, suc, ◌+◌, ◌≤◌, ◌<◌}
use native.Mathlib.Omega.{arith}
use native.Mathlib.Nat.{not-suc-le-zero}
use mathlib.Core.List.{List, [], ◌∷◌, ◌++◌, foldl, append-nil, append_assoc}
use mathlib.Core.Option.{some, get_or}
use lib.ListN.{length}
use lib.Dec.{eqb}
use borrow.Author.Tests.{eqb-true}
use Rattle.cells.specs.Part.{if}
use Rattle.rules.specs.Plain.{find, contains, position}
use Rattle.rules.specs.Types.{Node, children, node_at}
use Rattle.rules.specs.Listing.{walk_by, walk}
use Rattle.laws.proofs.Storing.{Rooted}
use Rattle.laws.proofs.Rooting.{All}
use Rattle.laws.proofs.Spreading.{Spread, spread_none, spread_more, spread_few}
use Rattle.laws.proofs.Containing.{last_itself, last_other}
use Rattle.cells.specs.Placed.{Under}
use Rattle.cells.proofs.Choices.{by_test, true_false}

left_turn : (b : Bool) (c d : Bool) → (c ≡ true → d ≡ true) → if b (λ _. true) (λ _. c) ≡ true → if b (λ _. true) (λ _. d) ≡ true
left_turn true c d f h = refl
left_turn false c d f h = f h

pub contains_left : (xs ys : List ℕ) (y : ℕ) → contains xs y ≡ true → contains (xs ++ ys) y ≡ true
contains_left [] ys y h = true_false (sym h)
contains_left (z ∷ xs) ys y h = left_turn (eqb y z) (contains xs y) (contains (xs ++ ys) y) (contains_left xs ys y) h

-- x comes after pre: it is new, a node, and its children are among pre
pub record Step (ns : List Node) (pre : List ℕ) (x : ℕ) : Type 0 where
  pub new : contains pre x ≡ false
  pub below : x < length ns
  pub kids : All (λ (y : ℕ). contains pre y ≡ true) (children (node_at ns x))

abbrev pub Steps : List Node → List ℕ → List ℕ → Type 0
Steps ns pre [] = Unit {0}
Steps ns pre (x ∷ xs) = Step ns pre x × Steps ns (pre ++ (x ∷ [])) xs

steps_more : (ns : List Node) (pre xs : List ℕ) (x : ℕ) → Steps ns pre xs → Step ns (pre ++ xs) x → Steps ns pre (xs ++ (x ∷ []))
steps_more ns pre [] x h s = (subst (λ (l : List ℕ). Step ns l x) (append-nil pre) s, tt)
steps_more ns pre (y ∷ xs) x h s =
    (h.0, steps_more ns (pre ++ (y ∷ [])) xs x h.1 (subst (λ (l : List ℕ). Step ns l x) (sym (append_assoc pre (y ∷ []) xs)) s))

-- from seen the walk comes to out, with xs, and with nothing new from k on
pub record Walked (ns : List Node) (seen xs : List ℕ) (k : ℕ) (out : List ℕ) : Type 0 where
  pub steps : Steps ns [] out
  pub has : All (λ (y : ℕ). contains out y ≡ true) xs
  pub keeps : (y : ℕ) → contains seen y ≡ true → contains out y ≡ true
  pub low : (y : ℕ) → contains seen y ≡ false → k ≤ y → contains out y ≡ false

all_kept : (seen out : List ℕ) → ((y : ℕ) → contains seen y ≡ true → contains out y ≡ true) → (xs : List ℕ)
    → All (λ (y : ℕ). contains seen y ≡ true) xs → All (λ (y : ℕ). contains out y ≡ true) xs
all_kept seen out f [] h = tt
all_kept seen out f (x ∷ xs) h = (f x h.0, all_kept seen out f xs h.1)

module _ (ns : List Node) (r : Rooted ns) where
  abbrev pub Walker : ℕ → Type 0
  Walker f = (seen : List ℕ) (x : ℕ) → x < f → x < length ns → Steps ns [] seen → Walked ns seen (x ∷ []) (suc x) (walk_by f ns seen x)

  pub walk_each : (f : ℕ) → Walker f → (seen xs : List ℕ) (k : ℕ) → Under k xs → k ≤ f → k ≤ length ns → Steps ns [] seen
      → Walked ns seen xs k (foldl (walk_by f ns) seen xs)
  walk_each f w seen [] k u a b s = record { steps = s; has = tt; keeps = λ y h. h; low = λ y h l. h }
  walk_each f w seen (x ∷ xs) k u a b s =
      let lt = u.0 in
      let g = w seen x (omega arith) (omega arith) s in
      let h = walk_each f w (walk_by f ns seen x) xs k u.1 a b g.steps in
      record {
        steps = h.steps;
        has = (h.keeps x g.has.0, h.has);
        keeps = λ y i. h.keeps y (g.keeps y i);
        low = λ y i l. h.low y (g.low y i (omega arith)) l;
      }

  pub walk_by_lem : (f : ℕ) → Walker f
  walk_by_lem zero seen x a b s = absurd (not-suc-le-zero a)
  walk_by_lem (suc f) seen x a b s =
      by_test (Walked ns seen (x ∷ []) (suc x)) (contains seen x) _ _
      (λ e. record { steps = s; has = (e, tt); keeps = λ y h. h; low = λ y h l. h })
      (λ e.
      let kids = children (node_at ns x) in
      let out = foldl (walk_by f ns) seen kids in
      let g = walk_each f (walk_by_lem f) seen kids x (r.is x b) (omega arith) (omega arith) s in
      record {
        steps = steps_more ns [] out x g.steps (record { new = g.low x e (omega arith); below = b; kids = g.has });
        has = (last_itself x out, tt);
        keeps = λ y h. contains_left out (x ∷ []) y (g.keeps y h);
        low = λ y h l. last_other x y (λ z. omega arith) out ∙ g.low y h (omega arith);
      })

  walked : (x : ℕ) → x < length ns → Walked ns [] (x ∷ []) (suc x) (walk ns x)
  unfolding walk
  walked x h = walk_by_lem (suc x) [] x (omega arith) h tt

  -- each node after its children, once
  pub walk_steps : (x : ℕ) → x < length ns → Steps ns [] (walk ns x)
  walk_steps x h = (walked x h).steps

  pub walk_some : (x : ℕ) → x < length ns → 1 ≤ length (walk ns x)
  walk_some x h = filled (walk ns x) (walked x h).has.0 where
    filled : (l : List ℕ) → contains l x ≡ true → 1 ≤ length l
    filled [] e = true_false (sym e)
    filled (y ∷ l) e = omega arith

-- each once, so no more than there are nodes
steps_spread : (ns : List Node) (pre xs : List ℕ) → Steps ns pre xs → Spread (length ns) pre → Spread (length ns) (pre ++ xs)
steps_spread ns pre [] h s = subst (Spread (length ns)) (sym (append-nil pre)) s
steps_spread ns pre (x ∷ xs) h s =
    subst (Spread (length ns)) (append_assoc pre (x ∷ []) xs)
    (steps_spread ns (pre ++ (x ∷ [])) xs h.1 (spread_more pre x s h.0.new h.0.below))

pub steps_few : (ns : List Node) (xs : List ℕ) → Steps ns [] xs → length xs ≤ length ns
steps_few ns xs h = spread_few (steps_spread ns [] xs h (spread_none (length ns)))

pub walk_spread : (ns : List Node) → Rooted ns → (x : ℕ) → x < length ns → Spread (length ns) (walk ns x)
walk_spread ns r x h = steps_spread ns [] (walk ns x) (walk_steps ns r x h) (spread_none (length ns))

pub walk_few : (ns : List Node) → Rooted ns → (x : ℕ) → x < length ns → length (walk ns x) ≤ length ns
walk_few ns r x h = spread_few (walk_spread ns r x h)

-- what is contained is the first, or is among the rest
pub by_first : {A : Type 0} (x z : ℕ) (xs : List ℕ) → contains (z ∷ xs) x ≡ true → (x ≡ z → A) → (contains xs x ≡ true → A) → A
by_first {A} x z xs c f g = turn (eqb x z) refl c where
  turn : (b : Bool) → eqb x z ≡ b → if b (λ _. true) (λ _. contains xs x) ≡ true → A
  turn true e c = f (eqb-true x z e)
  turn false e c = g c

pub all_has : (P : ℕ → Type 0) (xs : List ℕ) (y : ℕ) → All P xs → contains xs y ≡ true → P y
all_has P [] y h c = true_false (sym c)
all_has P (x ∷ xs) y h c = by_first y x xs c (λ e. subst P (sym e) h.0) (λ d. all_has P xs y h.1 d)

-- the children of what is reached are reached
pub steps_closed : (ns : List Node) (pre xs : List ℕ) (x y : ℕ) → Steps ns pre xs → contains xs x ≡ true → contains (children (node_at ns x)) y ≡ true
    → contains (pre ++ xs) y ≡ true
steps_closed ns pre [] x y h c d = true_false (sym c)
steps_closed ns pre (z ∷ xs) x y h c d =
    by_first x z xs c
    (λ e. contains_left pre (z ∷ xs) y
    (all_has (λ (k : ℕ). contains pre k ≡ true) (children (node_at ns z)) y h.0.kids
    (subst (λ (k : ℕ). contains (children (node_at ns k)) y ≡ true) e d)))
    (λ e. subst (λ (l : List ℕ). contains l y ≡ true) (append_assoc pre (z ∷ []) xs) (steps_closed ns (pre ++ (z ∷ [])) xs x y h.1 e d))

-- what is among the first stands among them
found_within : (i d y : ℕ) (xs ys : List ℕ) → contains xs y ≡ true → get_or (find (eqb y) i (xs ++ ys)) d < i + length xs
found_within i d y [] ys h = true_false (sym h)
found_within i d y (z ∷ xs) ys h = turn (eqb y z) h (λ e. found_within (suc i) d y xs ys e) where
  turn : (b : Bool) → if b (λ _. true) (λ _. contains xs y) ≡ true
      → (contains xs y ≡ true → get_or (find (eqb y) (suc i) (xs ++ ys)) d < suc i + length xs)
      → get_or (if b (λ _. some i) (λ _. find (eqb y) (suc i) (xs ++ ys))) d < i + length (z ∷ xs)
  turn true e f = omega arith
  turn false e f = let a = f e in omega arith

pub position_within : (y : ℕ) (xs ys : List ℕ) → contains xs y ≡ true → position (eqb y) (xs ++ ys) < length xs
position_within y xs ys h = let l = found_within 0 (length (xs ++ ys)) y xs ys h in omega arith
