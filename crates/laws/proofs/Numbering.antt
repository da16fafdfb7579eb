-- Variables numbered by their first appearance, request 1: one number exactly if one variable; the numbers are 0 up to their count; numbering
-- again changes nothing, and where there are no variables nothing changes at all; the walk stays, and so do equal nodes and unequal ones. And
-- the order of first appearance is that of the `tyvar` lines, each of which is another variable's: so a writer need only count them. Assumes
-- nothing.
use mathlib.Core.Path.{◌≡◌, refl, sym, ap, ap₂, ◌∙◌, subst}
use mathlib.Core.Logic.{◌↔◌}
use mathlib.Core.Bool.{Bool, true, false}
use Prim.Native.Nat.{ℕ, zero, suc, ◌+◌, ◌≤◌, ◌<◌}
use native.Mathlib.Omega.{arith}
use native.Mathlib.Nat.{not-suc-le-zero}
use mathlib.Core.List.{List, [], ◌∷◌, ◌++◌, map, foldl, append-nil, append_assoc, map-append}
use mathlib.Core.Option
use mathlib.Core.Option.{some}
use lib.ListN.{length, get_or, take, drop, length-append, get_or-map}
use lib.Seq.{split_at}
use lib.Dec.{eqb}
use borrow.Author.Tests.{eqb-true, eqb-false, eq-eqb, ne_eqb}
use Rattle.cells.specs.Part.{if, run}
use Rattle.cells.specs.Placed.{Under}
use Rattle.cells.proofs.Choices.{by_test, by_branch, true_false}
use Rattle.cells.proofs.Parts.{run_get_d, run_length}
use Rattle.rules.specs.Plain.{contains, add_new, joined, find, position}
use Rattle.rules.specs.Types.{Node, TyVar, Primitive, ListOf, Lambda, AttrSet, Union, Intersection, Named, Neg, Bottom, Top, children, node_at}
use Rattle.rules.specs.Members.{add_all}
use Rattle.rules.specs.Variables.{variable_of, appear_by, free_type_vars, number_among, with_variable, normalize_vars}
use Rattle.rules.specs.Listing.{walk_by, walk}
use Rattle.laws.specs.Sound.{Distinct}
use Rattle.laws.specs.Variables.{variables_among}
use Rattle.laws.proofs.Admitting.{neither}
use Rattle.laws.proofs.Storing.{Rooted}
use Rattle.laws.proofs.Rooting.{All}
use Rattle.laws.proofs.Filtering.{under_both}
use Rattle.laws.proofs.Spreading.{Spread, spread_none, spread_more, spread_few}
use Rattle.laws.proofs.Containing.{contains_first, contains_later, new_itself}
use Rattle.laws.proofs.Positions.{position_below, position_is}
use Rattle.laws.proofs.Walking.{contains_left, by_first, all_has, Steps, walk_by_lem, walk_steps, steps_closed}

-- a node is a variable, or it has none
pub data Sort : Node → Type 0 where
  is_variable_lem : (v : ℕ) → Sort (TyVar v)
  no_variable : {n : Node} → variable_of n ≡ [] → ((f : ℕ → ℕ) → with_variable f n ≡ n) → Sort n

pub sort_of : (n : Node) → Sort n
sort_of (TyVar v) = is_variable_lem v
sort_of (Primitive c) = no_variable refl (λ f. refl)
sort_of (ListOf a) = no_variable refl (λ f. refl)
sort_of (Lambda a b) = no_variable refl (λ f. refl)
sort_of (AttrSet a) = no_variable refl (λ f. refl)
sort_of (Union ms) = no_variable refl (λ f. refl)
sort_of (Intersection ms) = no_variable refl (λ f. refl)
sort_of (Named n a) = no_variable refl (λ f. refl)
sort_of (Neg a) = no_variable refl (λ f. refl)
sort_of Bottom = no_variable refl (λ f. refl)
sort_of Top = no_variable refl (λ f. refl)

-- what holds of a node holds of it with another variable, if that is so for variables
keeps_turn : (P : Node → Type 0) (f : ℕ → ℕ) → ((v : ℕ) → P (TyVar v) → P (TyVar (f v))) → (n : Node) → Sort n → P n → P (with_variable f n)
keeps_turn P f h n (is_variable_lem v) p = h v p
keeps_turn P f h n (no_variable e same) p = subst P (sym (same f)) p

pub with_keeps : (P : Node → Type 0) (f : ℕ → ℕ) → ((v : ℕ) → P (TyVar v) → P (TyVar (f v))) → (n : Node) → P n → P (with_variable f n)
with_keeps P f h n p = keeps_turn P f h n (sort_of n) p

-- and what holds of variables holds of a node's
variable_turn : (P : Node → Type 0) (k : ℕ) → ((v : ℕ) → P (TyVar v) → v < k) → (n : Node) → Sort n → P n → Under k (variable_of n)
variable_turn P k h n (is_variable_lem v) p = (h v p, tt)
variable_turn P k h n (no_variable e same) p = subst (Under k) (sym e) tt

pub variable_under : (P : Node → Type 0) (k : ℕ) → ((v : ℕ) → P (TyVar v) → v < k) → (n : Node) → P n → Under k (variable_of n)
variable_under P k h n p = variable_turn P k h n (sort_of n) p

-- other variables, the same children
module _ (f : ℕ → ℕ) where
  pub children_with : (n : Node) → children (with_variable f n) ≡ children n
  children_with n = with_keeps (λ (m : Node). children m ≡ children n) f (λ v e. e) n refl

  mapped_turn : (n : Node) → Sort n → variable_of (with_variable f n) ≡ map f (variable_of n)
  mapped_turn n (is_variable_lem v) = refl
  mapped_turn n (no_variable e same) = ap variable_of (same f) ∙ e ∙ sym (ap (map f) e)

  variable_with : (n : Node) → variable_of (with_variable f n) ≡ map f (variable_of n)
  variable_with n = mapped_turn n (sort_of n)

  pub with_at : (ns : List Node) (x : ℕ) → node_at (map (with_variable f) ns) x ≡ with_variable f (node_at ns x)
  with_at ns x = get_or-map (with_variable f) ns x Bottom

  children_at : (ns : List Node) (x : ℕ) → children (node_at (map (with_variable f) ns) x) ≡ children (node_at ns x)
  children_at ns x = ap children (with_at ns x) ∙ children_with (node_at ns x)

  -- the same walk
  module _ (ns : List Node) where
    walk_fold : (k : ℕ) → ((seen : List ℕ) (x : ℕ) → walk_by k (map (with_variable f) ns) seen x ≡ walk_by k ns seen x) → (seen xs : List ℕ)
        → foldl (walk_by k (map (with_variable f) ns)) seen xs ≡ foldl (walk_by k ns) seen xs
    walk_fold k h seen [] = refl
    walk_fold k h seen (x ∷ xs) =
        ap (λ (l : List ℕ). foldl (walk_by k (map (with_variable f) ns)) l xs) (h seen x) ∙ walk_fold k h (walk_by k ns seen x) xs

    walk_with_by : (k : ℕ) (seen : List ℕ) (x : ℕ) → walk_by k (map (with_variable f) ns) seen x ≡ walk_by k ns seen x
    walk_with_by zero seen x = refl
    walk_with_by (suc k) seen x =
        ap (λ (l : List ℕ). if (contains seen x) (λ _. seen) (λ _. l ++ (x ∷ [])))
        (ap (foldl (walk_by k (map (with_variable f) ns)) seen) (children_at ns x) ∙ walk_fold k (walk_with_by k) seen (children (node_at ns x)))

    pub walk_with : (x : ℕ) → walk (map (with_variable f) ns) x ≡ walk ns x
    unfolding walk
    walk_with x = walk_with_by (suc x) [] x

    -- and what appears is what appeared, with other numbers
    appear_each : (k : ℕ) → ((x : ℕ) → appear_by k (map (with_variable f) ns) x ≡ map f (appear_by k ns x)) → (xs : List ℕ)
        → joined (map (appear_by k (map (with_variable f) ns)) xs) ≡ map f (joined (map (appear_by k ns) xs))
    appear_each k h [] = refl
    appear_each k h (x ∷ xs) =
        ap₂ {C = List ℕ} ◌++◌ (h x) (appear_each k h xs) ∙ sym (map-append f (appear_by k ns x) (joined (map (appear_by k ns) xs)))

    appear_with : (k x : ℕ) → appear_by k (map (with_variable f) ns) x ≡ map f (appear_by k ns x)
    appear_with zero x = refl
    appear_with (suc k) x =
        ap₂ {C = List ℕ} (λ (vs cs : List ℕ). vs ++ joined (map (appear_by k (map (with_variable f) ns)) cs))
        (ap variable_of (with_at ns x) ∙ variable_with (node_at ns x)) (children_at ns x)
        ∙ ap (λ (l : List ℕ). map f (variable_of (node_at ns x)) ++ l) (appear_each k (appear_with k) (children (node_at ns x)))
        ∙ sym (map-append f (variable_of (node_at ns x)) (joined (map (appear_by k ns) (children (node_at ns x)))))

-- where f gives each number itself, nothing changes
module _ (f : ℕ → ℕ) (h : (v : ℕ) → f v ≡ v) where
  same_turn : (n : Node) → Sort n → with_variable f n ≡ n
  same_turn n (is_variable_lem v) = ap TyVar (h v)
  same_turn n (no_variable e same) = same f

  with_same : (ns : List Node) → map (with_variable f) ns ≡ ns
  with_same [] = refl
  with_same (n ∷ ns) = ap₂ {C = List Node} ◌∷◌ (same_turn n (sort_of n)) (with_same ns)

-- no number twice; pre stands before
abbrev pub Once : List ℕ → List ℕ → Type 0
Once pre [] = Unit {0}
Once pre (x ∷ xs) = (contains pre x ≡ false) × Once (pre ++ (x ∷ [])) xs

once_more : (pre xs : List ℕ) (x : ℕ) → Once pre xs → contains (pre ++ xs) x ≡ false → Once pre (xs ++ (x ∷ []))
once_more pre [] x o h = (subst (λ (l : List ℕ). contains l x ≡ false) (append-nil pre) h, tt)
once_more pre (y ∷ xs) x o h =
    (o.0, once_more (pre ++ (y ∷ [])) xs x o.1 (subst (λ (l : List ℕ). contains l x ≡ false) (sym (append_assoc pre (y ∷ []) xs)) h))

once_apart : (pre xs ys : List ℕ) (x : ℕ) → Once pre (xs ++ (x ∷ ys)) → contains (pre ++ xs) x ≡ false
once_apart pre [] ys x o = subst (λ (l : List ℕ). contains l x ≡ false) (sym (append-nil pre)) o.0
once_apart pre (y ∷ xs) ys x o = subst (λ (l : List ℕ). contains l x ≡ false) (append_assoc pre (y ∷ []) xs) (once_apart (pre ++ (y ∷ [])) xs ys x o.1)

once_added : (xs got : List ℕ) → Once [] got → Once [] (add_all got xs)
once_added [] got o = o
once_added (x ∷ xs) got o = once_added xs (add_new got x) (by_test (Once []) (contains got x) (λ _. got) (λ _. got ++ (x ∷ [])) (λ e. o) (λ e. once_more [] got x o e))

-- what was there, and what is added, is there
new_keeps : (got : List ℕ) (x y : ℕ) → contains got y ≡ true → contains (add_new got x) y ≡ true
new_keeps got x y h =
    by_branch (λ (l : List ℕ). contains l y ≡ true) (contains got x) (λ _. got) (λ _. got ++ (x ∷ [])) h (contains_left got (x ∷ []) y h)

added_keeps : (xs got : List ℕ) (y : ℕ) → contains got y ≡ true → contains (add_all got xs) y ≡ true
added_keeps [] got y h = h
added_keeps (x ∷ xs) got y h = added_keeps xs (add_new got x) y (new_keeps got x y h)

abbrev In : List ℕ → List ℕ → Type 0
In vs xs = All (λ (y : ℕ). contains vs y ≡ true) xs

added_in : (xs got : List ℕ) → In (add_all got xs) xs
added_in [] got = tt
added_in (x ∷ xs) got = (added_keeps xs (add_new got x) x (new_itself got x), added_in xs (add_new got x))

-- what is there already is not added
added_none : (xs got : List ℕ) → In got xs → add_all got xs ≡ got
added_none [] got h = refl
added_none (x ∷ xs) got h =
    ap (λ (b : Bool). add_all (if b (λ _. got) (λ _. got ++ (x ∷ []))) xs) h.0 ∙ added_none xs got h.1

added_append : (xs ys got : List ℕ) → add_all got (xs ++ ys) ≡ add_all (add_all got xs) ys
added_append [] ys got = refl
added_append (x ∷ xs) ys got = added_append xs ys (add_new got x)

in_both : (vs xs ys : List ℕ) → In vs xs → In vs ys → In vs (xs ++ ys)
in_both vs [] ys h g = g
in_both vs (x ∷ xs) ys h g = (h.0, in_both vs xs ys h.1 g)

-- numbers by f, which gives no two of vs the same
module _ (vs : List ℕ) (f : ℕ → ℕ) (one : (v w : ℕ) → contains vs v ≡ true → contains vs w ≡ true → f v ≡ f w → v ≡ w) where
  test_map : (x y : ℕ) (b : Bool) → contains vs x ≡ true → contains vs y ≡ true → eqb x y ≡ b → eqb (f x) (f y) ≡ b
  test_map x y true h g e = eq-eqb (f x) (f y) (ap f (eqb-true x y e))
  test_map x y false h g e = ne_eqb (f x) (f y) (λ q. eqb-false x y e (one x y h g q))

  contains_map : (got : List ℕ) (x : ℕ) → In vs got → contains vs x ≡ true → contains (map f got) (f x) ≡ contains got x
  contains_map [] x h g = refl
  contains_map (y ∷ got) x h g =
      ap₂ {C = Bool} (λ (b c : Bool). if b (λ _. true) (λ _. c)) (test_map x y (eqb x y) g h.0 refl) (contains_map got x h.1 g)

  new_map : (got : List ℕ) (x : ℕ) → In vs got → contains vs x ≡ true → add_new (map f got) (f x) ≡ map f (add_new got x)
  new_map got x h g = turn (contains got x) (contains_map got x h g) where
    turn : (b : Bool) → contains (map f got) (f x) ≡ b
        → if (contains (map f got) (f x)) (λ _. map f got) (λ _. map f got ++ (f x ∷ [])) ≡ map f (if b (λ _. got) (λ _. got ++ (x ∷ [])))
    turn true e = ap (λ (b : Bool). if b (λ _. map f got) (λ _. map f got ++ (f x ∷ []))) e
    turn false e = ap (λ (b : Bool). if b (λ _. map f got) (λ _. map f got ++ (f x ∷ []))) e ∙ sym (map-append f got (x ∷ []))

  in_new : (got : List ℕ) (x : ℕ) → In vs got → contains vs x ≡ true → In vs (add_new got x)
  in_new got x h g = by_branch (In vs) (contains got x) (λ _. got) (λ _. got ++ (x ∷ [])) h (in_both vs got (x ∷ []) h (g, tt))

  added_map : (xs got : List ℕ) → In vs got → In vs xs → add_all (map f got) (map f xs) ≡ map f (add_all got xs)
  added_map [] got h g = refl
  added_map (x ∷ xs) got h g =
      ap (λ (l : List ℕ). add_all l (map f xs)) (new_map got x h g.0) ∙ added_map xs (add_new got x) (in_new got x h g.0) g.1

-- the place of what stands nowhere before
found_at : (i d x : ℕ) (pre post : List ℕ) → contains pre x ≡ false → Option.get_or (find (eqb x) i (pre ++ (x ∷ post))) d ≡ i + length pre
found_at i d x [] post h =
    let z : i ≡ i + 0 = omega arith in ap (λ (b : Bool). Option.get_or (if b (λ _. some i) (λ _. find (eqb x) (suc i) post)) d) (eq-eqb x x refl) ∙ z
found_at i d x (y ∷ pre) post h =
    let p = neither (eqb x y) (λ _. contains pre x) h in
    let r = found_at (suc i) d x pre post p.1 in
    let z : suc i + length pre ≡ i + suc (length pre) = omega arith in
    ap (λ (b : Bool). Option.get_or (if b (λ _. some i) (λ _. find (eqb x) (suc i) (pre ++ (x ∷ post)))) d) p.0 ∙ r ∙ z

contains_within : (pre post : List ℕ) (x : ℕ) → contains (pre ++ (x ∷ post)) x ≡ true
contains_within [] post x = contains_first x post
contains_within (y ∷ pre) post x = contains_later y x (pre ++ (x ∷ post)) (contains_within pre post x)

-- the number of one of these
number_there : (vs : List ℕ) (v : ℕ) → contains vs v ≡ true → number_among vs v ≡ position (eqb v) vs
number_there vs v h = ap (λ (b : Bool). if b (λ _. position (eqb v) vs) (λ _. v)) h

number_at : (pre post : List ℕ) (x : ℕ) → contains pre x ≡ false → number_among (pre ++ (x ∷ post)) x ≡ length pre
number_at pre post x h =
    let z : 0 + length pre ≡ length pre = omega arith in
    number_there (pre ++ (x ∷ post)) x (contains_within pre post x) ∙ found_at 0 (length (pre ++ (x ∷ post))) x pre post h ∙ z

one_of : (vs : List ℕ) (v w : ℕ) → contains vs v ≡ true → contains vs w ≡ true → number_among vs v ≡ number_among vs w → v ≡ w
one_of vs v w h g e =
    sym (position_is v vs h)
    ∙ ap (λ (k : ℕ). get_or vs k 0) (sym (number_there vs v h) ∙ e ∙ number_there vs w g)
    ∙ position_is w vs g

-- the numbers from a on, n of them
abbrev pub up_from : ℕ → ℕ → List ℕ
up_from a n = run (λ (k : ℕ). k) a n

numbers_up : (pre xs : List ℕ) → Once pre xs → map (number_among (pre ++ xs)) xs ≡ up_from (length pre) (length xs)
numbers_up pre [] o = refl
numbers_up pre (x ∷ xs) o =
    let z : length (pre ++ (x ∷ [])) ≡ suc (length pre) = omega (arith, length-append pre (x ∷ [])) in
    ap₂ {C = List ℕ} ◌∷◌ (number_at pre xs x o.0)
    (ap (λ (l : List ℕ). map (number_among l) xs) (sym (append_assoc pre (x ∷ []) xs))
    ∙ numbers_up (pre ++ (x ∷ [])) xs o.1
    ∙ ap (λ (k : ℕ). up_from k (length xs)) z)

-- among the numbers up to n each is its own
up_itself : (n v : ℕ) → number_among (up_from 0 n) v ≡ v
up_itself n v =
    by_test (λ (k : ℕ). k ≡ v) (contains (up_from 0 n) v) (λ _. position (eqb v) (up_from 0 n)) (λ _. v)
    (λ e.
    let p = position (eqb v) (up_from 0 n) in
    let below : p < n = omega (arith, position_below v (up_from 0 n) e, run_length (λ (k : ℕ). k) 0 n) in
    let z : p ≡ 0 + p = omega arith in
    z ∙ sym (run_get_d (λ (k : ℕ). k) 0 n p 0 below) ∙ position_is v (up_from 0 n) e)
    (λ e. refl)

-- the variables of root x
module _ (ns : List Node) (x : ℕ) where
  abbrev vars : List ℕ
  vars = free_type_vars ns x

  vars_once : Once [] vars
  unfolding free_type_vars
  vars_once = once_added (appear_by (suc x) ns x) [] tt

  appear_in : In vars (appear_by (suc x) ns x)
  unfolding free_type_vars
  appear_in = added_in (appear_by (suc x) ns x) []

  -- "Two variables get one number exactly if they were one"
  pub one_number : (v w : ℕ) → contains vars v ≡ true → contains vars w ≡ true → (number_among vars v ≡ number_among vars w) ↔ (v ≡ w)
  one_number v w h g = (one_of vars v w h g, λ e. ap (number_among vars) e)

  vars_mapped : (f : ℕ → ℕ) → ((v w : ℕ) → contains vars v ≡ true → contains vars w ≡ true → f v ≡ f w → v ≡ w)
      → free_type_vars (map (with_variable f) ns) x ≡ map f vars
  unfolding free_type_vars
  vars_mapped f one = ap (add_all []) (appear_with f ns (suc x) x) ∙ added_map vars f one (appear_by (suc x) ns x) [] tt appear_in

  -- the numbers are 0 up to their count
  pub numbers_count : free_type_vars (normalize_vars ns x) x ≡ up_from 0 (length vars)
  unfolding normalize_vars
  numbers_count = vars_mapped (number_among vars) (one_of vars) ∙ numbers_up [] vars vars_once

  up_stays : (ms : List Node) (n : ℕ) → free_type_vars ms x ≡ up_from 0 n → normalize_vars ms x ≡ ms
  unfolding normalize_vars
  up_stays ms n e = ap (λ (vs : List ℕ). map (with_variable (number_among vs)) ms) e ∙ with_same (number_among (up_from 0 n)) (up_itself n) ms

  -- "and renumbering again changes nothing"
  pub numbered_again : normalize_vars (normalize_vars ns x) x ≡ normalize_vars ns x
  numbered_again = up_stays (normalize_vars ns x) (length vars) numbers_count

  -- "A root without variables keeps its nodes"
  pub numbered_none : vars ≡ [] → normalize_vars ns x ≡ ns
  unfolding normalize_vars
  numbered_none e = ap (λ (vs : List ℕ). map (with_variable (number_among vs)) ns) e ∙ with_same (number_among []) (λ v. refl) ns

  -- "Nodes are listed afresh after it": in the same places
  pub numbered_walk : (y : ℕ) → walk (normalize_vars ns x) y ≡ walk ns y
  unfolding normalize_vars
  numbered_walk y = walk_with (number_among vars) ns y

  pub numbered_at : (y : ℕ) → node_at (normalize_vars ns x) y ≡ with_variable (number_among vars) (node_at ns y)
  unfolding normalize_vars
  numbered_at y = with_at (number_among vars) ns y

  -- the numbers are as small as the variables were
  module _ (n : ℕ) (low : (y : ℕ) → Under n (variable_of (node_at ns y))) where
    each_under : (k : ℕ) → ((y : ℕ) → Under n (appear_by k ns y)) → (ys : List ℕ) → Under n (joined (map (appear_by k ns) ys))
    each_under k h [] = tt
    each_under k h (y ∷ ys) = under_both n (appear_by k ns y) (joined (map (appear_by k ns) ys)) (h y) (each_under k h ys)

    appear_under : (k y : ℕ) → Under n (appear_by k ns y)
    appear_under zero y = tt
    appear_under (suc k) y =
        under_both n (variable_of (node_at ns y)) (joined (map (appear_by k ns) (children (node_at ns y)))) (low y)
        (each_under k (appear_under k) (children (node_at ns y)))

    spread_added : (xs got : List ℕ) → Under n xs → Spread n got → Spread n (add_all got xs)
    spread_added [] got u s = s
    spread_added (v ∷ xs) got u s =
        spread_added xs (add_new got v) u.1
        (by_test (Spread n) (contains got v) (λ _. got) (λ _. got ++ (v ∷ [])) (λ e. s) (λ e. spread_more got v s e u.0))

    pub number_low : (v : ℕ) → v < n → number_among vars v < n
    unfolding free_type_vars
    number_low v h =
        by_test (λ (k : ℕ). k < n) (contains vars v) (λ _. position (eqb v) vars) (λ _. v)
        (λ e. omega (arith, position_below v vars e, spread_few (spread_added (appear_by (suc x) ns x) [] (appear_under (suc x) x) (spread_none n))))
        (λ e. h)

-- a node that has no variable is none
other : {A : Type 0} {v : ℕ} → ◌≡◌ {A = List ℕ} [] (v ∷ []) → A
other e = let z : ◌≡◌ {A = ℕ} 0 1 = ap length e in absurd (omega arith)

-- the `tyvar` lines of a listing
module _ (ns : List Node) where
  among_append : (xs ys : List ℕ) → variables_among ns (xs ++ ys) ≡ variables_among ns xs ++ variables_among ns ys
  among_append [] ys = refl
  among_append (x ∷ xs) ys =
      ap (λ (l : List ℕ). variable_of (node_at ns x) ++ l) (among_append xs ys)
      ∙ sym (append_assoc (variable_of (node_at ns x)) (variables_among ns xs) (variables_among ns ys))

  pub among_last : (xs : List ℕ) (x : ℕ) → variables_among ns (xs ++ (x ∷ [])) ≡ variables_among ns xs ++ variable_of (node_at ns x)
  among_last xs x = among_append xs (x ∷ []) ∙ ap (λ (l : List ℕ). variables_among ns xs ++ l) (append-nil (variable_of (node_at ns x)))

  few_turn : (n : Node) → Sort n → length (variable_of n) ≤ 1
  few_turn n (is_variable_lem v) = omega arith
  few_turn n (no_variable e same) = omega (arith, ap length e)

  pub among_few : (xs : List ℕ) → length (variables_among ns xs) ≤ length xs
  among_few [] = omega arith
  among_few (x ∷ xs) =
      omega (arith, among_few xs, few_turn (node_at ns x) (sort_of (node_at ns x)), length-append (variable_of (node_at ns x)) (variables_among ns xs))

  in_more : (ls vs xs : List ℕ) → In vs xs → In (ls ++ vs) xs
  in_more ls vs [] h = tt
  in_more ls vs (x ∷ xs) h = (right ls h.0, in_more ls vs xs h.1) where
    right : (ls : List ℕ) → contains vs x ≡ true → contains (ls ++ vs) x ≡ true
    right [] c = c
    right (l ∷ ls) c = contains_later l x (ls ++ vs) (right ls c)

  in_itself : (xs ys : List ℕ) → In (xs ++ ys) xs
  in_itself [] ys = tt
  in_itself (x ∷ xs) ys = (contains_first x (xs ++ ys), in_more (x ∷ []) (xs ++ ys) xs (in_itself xs ys))

  -- a node's variable is among those of nodes that have it
  among_in : (seen : List ℕ) (x : ℕ) → contains seen x ≡ true → In (variables_among ns seen) (variable_of (node_at ns x))
  among_in [] x c = true_false (sym c)
  among_in (y ∷ seen) x c =
      by_first x y seen c
      (λ e. subst (λ (k : ℕ). In (variable_of (node_at ns y) ++ variables_among ns seen) (variable_of (node_at ns k))) (sym e)
      (in_itself (variable_of (node_at ns y)) (variables_among ns seen)))
      (λ d. in_more (variable_of (node_at ns y)) (variables_among ns seen) (variable_of (node_at ns x)) (among_in seen x d))

  -- and comes from one
  record From (seen : List ℕ) (v : ℕ) : Type 0 where
    node : ℕ
    seen_node : contains seen node ≡ true
    is : node_at ns node ≡ TyVar v

  from_later : (y : ℕ) (seen : List ℕ) (v : ℕ) → From seen v → From (y ∷ seen) v
  from_later y seen v f = record { node = f.node; seen_node = contains_later y f.node seen f.seen_node; is = f.is }

  from_turn : (y : ℕ) (seen : List ℕ) (v : ℕ) (n : Node) → node_at ns y ≡ n → Sort n → (contains (variables_among ns seen) v ≡ true → From seen v)
      → contains (variable_of n ++ variables_among ns seen) v ≡ true → From (y ∷ seen) v
  from_turn y seen v n e (is_variable_lem w) later c =
      by_first v w (variables_among ns seen) c
      (λ q. record { node = y; seen_node = contains_first y seen; is = e ∙ ap TyVar (sym q) }) (λ d. from_later y seen v (later d))
  from_turn y seen v n e (no_variable z same) later c =
      from_later y seen v (later (subst (λ (l : List ℕ). contains (l ++ variables_among ns seen) v ≡ true) z c))

  among_from : (seen : List ℕ) (v : ℕ) → contains (variables_among ns seen) v ≡ true → From seen v
  among_from [] v c = true_false (sym c)
  among_from (y ∷ seen) v c = from_turn y seen v (node_at ns y) refl (sort_of (node_at ns y)) (among_from seen v) c

  module _ (r : Rooted ns) (d : Distinct ns) where
    steps_below : (pre xs : List ℕ) → Steps ns pre xs → All (λ (y : ℕ). y < length ns) xs
    steps_below pre [] s = tt
    steps_below pre (y ∷ xs) s = (s.0.below, steps_below (pre ++ (y ∷ [])) xs s.1)

    -- a variable that is met for the first time is no other node's: equal nodes are one
    among_new : (seen : List ℕ) (x v : ℕ) → Steps ns [] seen → x < length ns → node_at ns x ≡ TyVar v → contains seen x ≡ false
        → contains (variables_among ns seen) v ≡ false
    among_new seen x v s h e c = turn (contains (variables_among ns seen) v) refl where
      turn : (b : Bool) → contains (variables_among ns seen) v ≡ b → b ≡ false
      turn false q = refl
      turn true q =
          let f = among_from seen v q in
          let below = all_has (λ (y : ℕ). y < length ns) seen f.node (steps_below [] seen s) f.seen_node in
          true_false (sym f.seen_node ∙ ap (contains seen) (d.is f.node x below h (f.is ∙ sym e)) ∙ c)

    -- below what was walked nothing is new
    each_in : (vs : List ℕ) (k : ℕ) (ys : List ℕ) → ((y : ℕ) → contains ys y ≡ true → In vs (appear_by k ns y)) → In vs (joined (map (appear_by k ns) ys))
    each_in vs k [] h = tt
    each_in vs k (y ∷ ys) h =
        in_both vs (appear_by k ns y) (joined (map (appear_by k ns) ys)) (h y (contains_first y ys)) (each_in vs k ys (λ z g. h z (contains_later y z ys g)))

    walked_in : (seen : List ℕ) → Steps ns [] seen → (k x : ℕ) → contains seen x ≡ true → In (variables_among ns seen) (appear_by k ns x)
    walked_in seen s zero x c = tt
    walked_in seen s (suc k) x c =
        in_both (variables_among ns seen) (variable_of (node_at ns x)) (joined (map (appear_by k ns) (children (node_at ns x)))) (among_in seen x c)
        (each_in (variables_among ns seen) k (children (node_at ns x)) (λ y h. walked_in seen s k y (steps_closed ns [] seen x y s c h)))

    abbrev Lines : ℕ → Type 0
    Lines k = (seen : List ℕ) (x : ℕ) → x < k → x < length ns → Steps ns [] seen
        → add_all (variables_among ns seen) (appear_by k ns x) ≡ variables_among ns (walk_by k ns seen x)

    lines_each : (k : ℕ) → Lines k → (seen xs : List ℕ) (m : ℕ) → Under m xs → m ≤ k → m ≤ length ns → Steps ns [] seen
        → add_all (variables_among ns seen) (joined (map (appear_by k ns) xs)) ≡ variables_among ns (foldl (walk_by k ns) seen xs)
    lines_each k h seen [] m u a b s = refl
    lines_each k h seen (x ∷ xs) m u a b s =
        let lt = u.0 in
        let w = walk_by_lem ns r k seen x (omega arith) (omega arith) s in
        added_append (appear_by k ns x) (joined (map (appear_by k ns) xs)) (variables_among ns seen)
        ∙ ap (λ (l : List ℕ). add_all l (joined (map (appear_by k ns) xs))) (h seen x (omega arith) (omega arith) s)
        ∙ lines_each k h (walk_by k ns seen x) xs m u.1 a b w.steps

    lines_turn : (k : ℕ) → Lines k → (seen : List ℕ) (x : ℕ) → x ≤ k → x < length ns → Steps ns [] seen → contains seen x ≡ false
        → (n : Node) → node_at ns x ≡ n → Sort n
        → add_all (variables_among ns seen) (variable_of (node_at ns x) ++ joined (map (appear_by k ns) (children (node_at ns x))))
        ≡ variables_among ns (foldl (walk_by k ns) seen (children (node_at ns x)) ++ (x ∷ []))
    lines_turn k h seen x a b s e n q (is_variable_lem v) =
        let new = among_new seen x v s b q e in
        ap (λ (m : Node). add_all (variables_among ns seen) (variable_of m ++ joined (map (appear_by k ns) (children m)))) q
        ∙ ap (λ (t : Bool). if t (λ _. variables_among ns seen) (λ _. variables_among ns seen ++ (v ∷ []))) new
        ∙ ap (λ (m : Node). variables_among ns seen ++ variable_of m) (sym q)
        ∙ sym (among_last seen x)
        ∙ ap (λ (m : Node). variables_among ns (foldl (walk_by k ns) seen (children m) ++ (x ∷ []))) (sym q)
    lines_turn k h seen x a b s e n q (no_variable z same) =
        let none = ap variable_of q ∙ z in
        let kids = children (node_at ns x) in
        ap (λ (l : List ℕ). add_all (variables_among ns seen) (l ++ joined (map (appear_by k ns) kids))) none
        ∙ lines_each k h seen kids x (r.is x b) a (omega arith) s
        ∙ sym (append-nil (variables_among ns (foldl (walk_by k ns) seen kids)))
        ∙ ap (λ (l : List ℕ). variables_among ns (foldl (walk_by k ns) seen kids) ++ l) (sym none)
        ∙ sym (among_last (foldl (walk_by k ns) seen kids) x)

    lines_by_lem : (k : ℕ) → Lines k
    lines_by_lem zero seen x a b s = absurd (not-suc-le-zero a)
    lines_by_lem (suc k) seen x a b s =
        by_test (λ (l : List ℕ). add_all (variables_among ns seen) (appear_by (suc k) ns x) ≡ variables_among ns l) (contains seen x) _ _
        (λ e. added_none (appear_by (suc k) ns x) (variables_among ns seen) (walked_in seen s (suc k) x e))
        (λ e. lines_turn k (lines_by_lem k) seen x (omega arith) b s e (node_at ns x) refl (sort_of (node_at ns x)))

    -- the order of first appearance is that of the `tyvar` lines
    module _ (x : ℕ) (lt : x < length ns) where
      pub in_lines : free_type_vars ns x ≡ variables_among ns (walk ns x)
      unfolding free_type_vars walk
      in_lines = lines_by_lem (suc x) [] x (omega arith) lt tt

      -- so the number of a variable is how many `tyvar` lines stand before its own
      pub number_in_lines : (k v : ℕ) → k < length (walk ns x) → node_at ns (get_or (walk ns x) k 0) ≡ TyVar v
          → number_among (free_type_vars ns x) v ≡ length (variables_among ns (take k (walk ns x)))
      number_in_lines k v h e =
          let w = walk ns x in
          let front = variables_among ns (take k w) in
          let back = variables_among ns (drop (suc k) w) in
          let whole : free_type_vars ns x ≡ front ++ (v ∷ back) =
          in_lines ∙ ap (variables_among ns) (split_at w k 0 h) ∙ among_append (take k w) (get_or w k 0 ∷ drop (suc k) w)
          ∙ ap (λ (m : Node). front ++ (variable_of m ++ back)) e in
          ap (λ (vs : List ℕ). number_among vs v) whole
          ∙ number_at front back v (once_apart [] front back v (subst (Once []) whole (vars_once ns x)))

      -- and nodes that are listed afresh are as many: no two of them become equal
      apart_turn : (n m : Node) → Sort n → Sort m → In (free_type_vars ns x) (variable_of n) → In (free_type_vars ns x) (variable_of m)
          → with_variable (number_among (free_type_vars ns x)) n ≡ with_variable (number_among (free_type_vars ns x)) m → n ≡ m
      apart_turn n m (is_variable_lem v) (is_variable_lem u) h g w =
          let same : number_among (free_type_vars ns x) v ≡ number_among (free_type_vars ns x) u = cc in
          ap TyVar (one_of (free_type_vars ns x) v u h.0 g.0 same)
      apart_turn n m (is_variable_lem v) (no_variable k same) h g w = other (sym k ∙ ap variable_of (sym (same _) ∙ sym w))
      apart_turn n m (no_variable k same) (is_variable_lem u) h g w = other (sym k ∙ ap variable_of (sym (same _) ∙ w))
      apart_turn n m (no_variable k same) (no_variable j also) h g w = sym (same _) ∙ w ∙ also _

      pub numbered_apart : (y z : ℕ) → contains (walk ns x) y ≡ true → contains (walk ns x) z ≡ true
          → node_at (normalize_vars ns x) y ≡ node_at (normalize_vars ns x) z → y ≡ z
      numbered_apart y z c g e =
          let steps = walk_steps ns r x lt in
          let below : (k : ℕ) → contains (walk ns x) k ≡ true → k < length ns = λ k h. all_has (λ (i : ℕ). i < length ns) (walk ns x) k (steps_below [] (walk ns x) steps) h in
          let here : (k : ℕ) → contains (walk ns x) k ≡ true → In (free_type_vars ns x) (variable_of (node_at ns k)) =
          λ k h. subst (λ (vs : List ℕ). In vs (variable_of (node_at ns k))) (sym in_lines) (among_in (walk ns x) k h) in
          d.is y z (below y c) (below z g)
          (apart_turn (node_at ns y) (node_at ns z) (sort_of (node_at ns y)) (sort_of (node_at ns z)) (here y c) (here z g)
          (sym (numbered_at ns x y) ∙ e ∙ numbered_at ns x z))
