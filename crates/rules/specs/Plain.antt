-- Words that the rules are written in: tests on lists, a value that may be missing, and ASCII text as bytes. Of the words below them, `if`,
-- `cell`, `part`, `run` and `eq_list` are in crates/cells/specs/Part.antt.
use Rattle.std.specs.Prelude.{Bool, true, false, ℕ, suc, List, [], ◌∷◌, ◌++◌, length, eqb, ltb}
use Prim.Native.String.{String, [] as end, ◌∷◌ as ◌then◌}
use Prim.Native.Char.{code}
use Rattle.std.proofs.Math.Option.{Option, none, some, get_or}
use Rattle.cells.specs.Part.{if}

-- an ASCII text as its bytes
abbrev pub ascii : String → List ℕ
ascii end = []
ascii (◌then◌ c s) = code c ∷ ascii s

infixl 20 ◌>>=◌
abbrev pub ◌>>=◌ : {A B : Type 0} → Option A → (A → Option B) → Option B
◌>>=◌ none f = none
◌>>=◌ (some a) f = f a

-- a where the test holds
abbrev pub given : {A : Type 0} → Bool → A → Option A
given true a = some a
given false a = none

abbrev pub both : Bool → (Unit {0} → Bool) → Bool
both a b = if a b (λ _. false)

-- the first where the test fails: guards, one after another, in the order in which they are written
abbrev pub unless : {A : Type 0} → Bool → (Unit {0} → A) → (Unit {0} → A) → A
unless b refuse pass = if b pass refuse

-- 1 if so, 0 if not
abbrev pub flag : Bool → ℕ
flag true = 1
flag false = 0

abbrev pub any : {A : Type 0} → (A → Bool) → List A → Bool
any p [] = false
any p (x ∷ xs) = if (p x) (λ _. true) (λ _. any p xs)

abbrev pub all : {A : Type 0} → (A → Bool) → List A → Bool
all p [] = true
all p (x ∷ xs) = if (p x) (λ _. all p xs) (λ _. false)

abbrev pub filter : {A : Type 0} → (A → Bool) → List A → List A
filter p [] = []
filter p (x ∷ xs) = if (p x) (λ _. x ∷ filter p xs) (λ _. filter p xs)

abbrev pub joined : {A : Type 0} → List (List A) → List A
joined [] = []
joined (x ∷ xs) = x ++ joined xs

abbrev pub contains : List ℕ → ℕ → Bool
contains xs x = any (eqb x) xs

abbrev pub empty : {A : Type 0} → List A → Bool
empty [] = true
empty (x ∷ xs) = false

-- got with x at its end, unless x is in it
abbrev pub add_new : List ℕ → ℕ → List ℕ
add_new got x = if (contains got x) (λ _. got) (λ _. got ++ (x ∷ []))

-- each number is greater than the one before it
abbrev pub ascending : List ℕ → Bool
ascending [] = true
ascending (x ∷ []) = true
ascending (x ∷ y ∷ ys) = if (ltb x y) (λ _. ascending (y ∷ ys)) (λ _. false)

-- xs comes before ys: the first difference decides, a prefix comes first
abbrev pub before : List ℕ → List ℕ → Bool
before [] [] = false
before [] (y ∷ ys) = true
before (x ∷ xs) [] = false
before (x ∷ xs) (y ∷ ys) = if (eqb x y) (λ _. before xs ys) (λ _. ltb x y)

-- the number of the first of xs that passes the test, counted from i
abbrev pub find : {A : Type 0} → (A → Bool) → ℕ → List A → Option ℕ
find p i [] = none
find p i (x ∷ xs) = if (p x) (λ _. some i) (λ _. find p (suc i) xs)

-- the same, counted from 0; past the end where there is none
abbrev pub position : {A : Type 0} → (A → Bool) → List A → ℕ
position p xs = get_or (find p 0 xs) (length xs)
