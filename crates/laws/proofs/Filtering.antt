-- Laws of tests on lists, of `filter`, and of lists whose numbers are below a number. Assumes nothing.
use mathlib.Core.Path.{◌≡◌, refl, sym, ap, ◌∙◌}
use mathlib.Core.Bool.{Bool, true, false}
use Prim.Native.Nat.{ℕ, zero, suc, ◌+◌, ◌≤◌, ◌<◌}
use native.Mathlib.Omega.{arith}
use native.Mathlib.Nat.{not-suc-le-zero}
use native.Mathlib.Numerals.{add-one}
use mathlib.Core.List.{List, [], ◌∷◌, ◌++◌}
use lib.ListN.{length, get_or, take, drop, drop_of_length-le}
use lib.Seq.{take-suc, drop-cons}
use Rattle.cells.specs.Part.{if}
use Rattle.cells.proofs.Choices.{by_branch}
use Rattle.rules.specs.Plain.{any, all, filter, contains, add_new}
use Rattle.rules.specs.Members.{add_all}
use Rattle.cells.specs.Placed.{Under}

-- what a filter makes of one member
abbrev pub kept : Bool → ℕ → List ℕ
kept b x = if b (λ _. x ∷ []) (λ _. [])

module _ (p : ℕ → Bool) where
  filter_turn : (b : Bool) (x y : ℕ) (xs : List ℕ) → filter p (xs ++ (y ∷ [])) ≡ filter p xs ++ kept (p y) y
      → if b (λ _. x ∷ filter p (xs ++ (y ∷ []))) (λ _. filter p (xs ++ (y ∷ []))) ≡ if b (λ _. x ∷ filter p xs) (λ _. filter p xs) ++ kept (p y) y
  filter_turn true x y xs e = ap (λ (l : List ℕ). x ∷ l) e
  filter_turn false x y xs e = e

  filter_snoc : (xs : List ℕ) (y : ℕ) → filter p (xs ++ (y ∷ [])) ≡ filter p xs ++ kept (p y) y
  filter_snoc [] y = refl
  filter_snoc (x ∷ xs) y = filter_turn (p x) x y xs (filter_snoc xs y)

  -- one member more
  pub filter_take : (xs : List ℕ) (i : ℕ) → i < length xs → filter p (take (suc i) xs) ≡ filter p (take i xs) ++ kept (p (get_or xs i 0)) (get_or xs i 0)
  filter_take xs i lt = ap (filter p) (take-suc xs i 0 lt) ∙ filter_snoc (take i xs) (get_or xs i 0)

  pub filter_length : (xs : List ℕ) → length (filter p xs) ≤ length xs
  filter_length [] = omega arith
  filter_length (x ∷ xs) =
      let h = filter_length xs in by_branch (λ (l : List ℕ). length l ≤ suc (length xs)) (p x) _ _ (omega arith) (omega arith)

  pub filter_under : (k : ℕ) (xs : List ℕ) → Under k xs → Under k (filter p xs)
  filter_under k [] h = tt
  filter_under k (x ∷ xs) h = let g = filter_under k xs h.1 in by_branch (Under k) (p x) _ _ (h.0, g) g

-- a filter after another, and one that leaves all
module _ (p q : ℕ → Bool) where
  both_turn : (b : Bool) (x : ℕ) (xs ys : List ℕ) → xs ≡ filter q ys
      → if (if b (λ _. q x) (λ _. false)) (λ _. x ∷ xs) (λ _. xs) ≡ filter q (if b (λ _. x ∷ ys) (λ _. ys))
  both_turn true x xs ys e = ap (λ (l : List ℕ). if (q x) (λ _. x ∷ l) (λ _. l)) e
  both_turn false x xs ys e = e

  pub filter_both : (xs : List ℕ) → filter (λ (x : ℕ). if (p x) (λ _. q x) (λ _. false)) xs ≡ filter q (filter p xs)
  filter_both [] = refl
  filter_both (x ∷ xs) = both_turn (p x) x (filter (λ (y : ℕ). if (p y) (λ _. q y) (λ _. false)) xs) (filter p xs) (filter_both xs)

pub filter_all : (xs : List ℕ) → filter (λ (x : ℕ). true) xs ≡ xs
filter_all [] = refl
filter_all (x ∷ xs) = ap (λ (l : List ℕ). x ∷ l) (filter_all xs)

pub under_at : (k : ℕ) (xs : List ℕ) (i : ℕ) → Under k xs → i < length xs → get_or xs i 0 < k
under_at k [] i h lt = absurd (not-suc-le-zero lt)
under_at k (x ∷ xs) zero h lt = h.0
under_at k (x ∷ xs) (suc i) h lt = under_at k xs i h.1 (omega arith)

pub under_both : (k : ℕ) (xs ys : List ℕ) → Under k xs → Under k ys → Under k (xs ++ ys)
under_both k [] ys h g = g
under_both k (x ∷ xs) ys h g = (h.0, under_both k xs ys h.1 g)

pub under_most : (j k : ℕ) (xs : List ℕ) → j ≤ k → Under j xs → Under k xs
under_most j k [] le h = tt
under_most j k (x ∷ xs) le h = let z = h.0 in (omega arith, under_most j k xs le h.1)

-- the parts of what is put together
pub under_front : (k : ℕ) (xs ys : List ℕ) → Under k (xs ++ ys) → Under k xs
under_front k [] ys h = tt
under_front k (x ∷ xs) ys h = (h.0, under_front k xs ys h.1)

pub under_back : (k : ℕ) (xs ys : List ℕ) → Under k (xs ++ ys) → Under k ys
under_back k [] ys h = h
under_back k (x ∷ xs) ys h = under_back k xs ys h.1

-- x at the end of got, unless it is there; each of xs
module _ (k : ℕ) where
  pub under_new : (got : List ℕ) (x : ℕ) → Under k got → x < k → Under k (add_new got x)
  under_new got x h lt = by_branch (Under k) (contains got x) (λ _. got) (λ _. got ++ (x ∷ [])) h (under_both k got (x ∷ []) h (lt, tt))

  pub under_added : (got xs : List ℕ) → Under k got → Under k xs → Under k (add_all got xs)
  under_added got [] h g = h
  under_added got (x ∷ xs) h g = under_added (add_new got x) xs (under_new got x h g.0) g.1

-- a search, at the member i of xs: what is left says what is asked
module _ (p : ℕ → Bool) (xs : List ℕ) (i : ℕ) where
  module _ {t : Bool} (h : any p (drop i xs) ≡ t) where
    any_turn : {b : Bool} → i < length xs → b ≡ p (get_or xs i 0) → if b (λ _. true) (λ _. any p (drop (suc i) xs)) ≡ t
    any_turn lt e =
        ap (λ (c : Bool). if c (λ _. true) (λ _. any p (drop (suc i) xs))) e
        ∙ sym (ap (any p) (drop-cons xs i 0 lt))
        ∙ h

    pub any_here : i < length xs → true ≡ p (get_or xs i 0) → true ≡ t
    any_here lt e = any_turn lt e

    pub any_more : i < length xs → false ≡ p (get_or xs i 0) → any p (drop (i + 1) xs) ≡ t
    any_more lt e = ap (λ (j : ℕ). any p (drop j xs)) (add-one i) ∙ any_turn lt e

    pub any_done : length xs ≤ i → false ≡ t
    any_done le = sym (ap (any p) (drop_of_length-le xs {i = i} le)) ∙ h

  module _ {t : Bool} (h : all p (drop i xs) ≡ t) where
    all_turn : {b : Bool} → i < length xs → b ≡ p (get_or xs i 0) → if b (λ _. all p (drop (suc i) xs)) (λ _. false) ≡ t
    all_turn lt e =
        ap (λ (c : Bool). if c (λ _. all p (drop (suc i) xs)) (λ _. false)) e
        ∙ sym (ap (all p) (drop-cons xs i 0 lt))
        ∙ h

    pub all_here : i < length xs → false ≡ p (get_or xs i 0) → false ≡ t
    all_here lt e = all_turn lt e

    pub all_more : i < length xs → true ≡ p (get_or xs i 0) → all p (drop (i + 1) xs) ≡ t
    all_more lt e = ap (λ (j : ℕ). all p (drop j xs)) (add-one i) ∙ all_turn lt e

    pub all_done : length xs ≤ i → true ≡ t
    all_done le = sym (ap (all p) (drop_of_length-le xs {i = i} le)) ∙ h
