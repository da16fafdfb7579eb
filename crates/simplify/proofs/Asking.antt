-- What is asked of each member, by what is answered of it. Assumes nothing.
use mathlib.Core.Path.{◌≡◌, ap, ◌∙◌}
use mathlib.Core.Bool.{Bool, not}
use Prim.Native.Nat.{ℕ, ◌<◌}
use mathlib.Core.List.{List}
use lib.ListN.{length, drop}
use Rattle.rules.specs.Plain.{any}
use Rattle.rules.specs.Types.{Node}
use Rattle.lang_ty.specs.declared.arena.Pass.{Pass}
use Rattle.lang_ty.specs.Nodes.{Arena}
use Rattle.members.specs.declared.lists.Members.{Members}
use Rattle.members.specs.Lists.{Taken, Makes, Tests, SiftsBy, AnyBy, Asks, Pairs, Beside, Sifts, sift}

-- whether it holds of x and one of the members from a place on
pub record AnyPair (f : List Node → ℕ → ℕ → Bool) (w : List ℕ) (m : Members) (from x : ℕ) (r : Bool) : Type 0 where
  pub is : {q : Pass} {ns : List Node} {xs : List ℕ} → Arena w q ns → Taken m xs (length ns) → x < length ns → r ≡ any (f ns x) (drop from xs)

-- whether one of the members passes beside those of g
pub record AnyBeside (f : List Node → List ℕ → ℕ → Bool) (w : List ℕ) (m g : Members) (r : Bool) : Type 0 where
  pub is : {q : Pass} {ns : List Node} {xs ys : List ℕ} → Arena w q ns → Taken m xs (length ns) → Taken g ys (length ns) → r ≡ any (f ns ys) xs

-- no to what is asked
abbrev pub denied : (List Node → List ℕ → ℕ → Bool) → List Node → List ℕ → ℕ → Bool
denied f ns xs x = not (f ns xs x)

module _ {Answered : ℕ → Bool → Type 0} {w : List ℕ} {m : Members} where
  pub any_asked : {f : List Node → ℕ → Bool} {from : ℕ} {r : Bool} → AnyBy Answered m from r → ((y : ℕ) (b : Bool) → Answered y b → Asks f w y b)
      → Tests (λ ns xs. any (f ns) (drop from xs)) w m r
  any_asked {f} c says = record { is = λ {q} {ns} {xs} h t. c.is (f ns) t (λ y b l a. (says y b a).is h l) }

  pub sifts_asked : {f : List Node → ℕ → Bool} {r : Members} → SiftsBy Answered m r → ((y : ℕ) (b : Bool) → Answered y b → Asks f w y b) → Makes (sift f) w m r
  sifts_asked {f} c says = record { is = λ {q} {ns} {xs} h t. c.is (f ns) t (λ y b l a. (says y b a).is h l) }

  pub any_pair : {f : List Node → ℕ → ℕ → Bool} {from x : ℕ} {r : Bool} → AnyBy Answered m from r → ((y : ℕ) (b : Bool) → Answered y b → Pairs f w x y b)
      → AnyPair f w m from x r
  any_pair {f} {from} {x} g says = record { is = λ {q} {ns} {xs} h t lt. g.is (f ns x) t (λ y b l a. (says y b a).is h lt l) }

  pub any_beside : {f : List Node → List ℕ → ℕ → Bool} {g : Members} {r : Bool} → AnyBy Answered m 0 r → ((y : ℕ) (b : Bool) → Answered y b → Beside f w g.at g.count y b)
      → AnyBeside f w m g r
  any_beside {f} c says = record { is = λ {q} {ns} {xs} {ys} h t u. c.is (f ns ys) t (λ y b l a. (says y b a).is h u l) }

  pub sifts : {f : List Node → List ℕ → ℕ → Bool} {ms : List ℕ} {n : ℕ} {r : Members} → SiftsBy Answered m r → ((y : ℕ) (b : Bool) → Answered y b → Beside f w ms n y b)
      → Sifts f w ms n m r
  sifts {f} c says = record { is = λ {q} {ns} {xs} {ys} h t u. c.is (f ns xs) u (λ y b l a. (says y b a).is h t l) }

pub denies : {f : List Node → List ℕ → ℕ → Bool} {w ms : List ℕ} {n x : ℕ} {b d : Bool} → Beside f w ms n x d → b ≡ not d → Beside (denied f) w ms n x b
denies g e = record { is = λ h t lt. e ∙ ap not (g.is h t lt) }
