-- The small steps beside the cycle. Assumes nothing.
use mathlib.Core.Path.{◌≡◌, refl, sym, ap, ◌∙◌}
use mathlib.Core.Bool.{Bool, true, false, ◌||◌}
use Prim.Native.Nat.{ℕ, ◌+◌, ◌≤◌}
use native.Mathlib.Omega.{arith}
use mathlib.Core.List.{List}
use lib.ListN.{set}
use lib.Dec.{eqb}
use borrow.Author.Tests.{eq-eqb, ne_eqb}
use Rattle.cells.specs.Part.{cell}
use Rattle.cells.specs.Sum.{Sum}
use Rattle.cells.proofs.Choices.{true_false}
use Rattle.layout.specs.Layout.{bits_at, preserved_at}
use Rattle.rules.specs.Plain.{both}
use Rattle.rules.specs.Canonicalizer.{is_variable, is_both}
use Rattle.rules.specs.Canonicalizer as runs
use Rattle.rules.specs.declared.Polarity.{Polarity}
use Rattle.lang_ty.specs.declared.arena.Pass.{Pass}
use Rattle.lang_ty.specs.Given.{Given}
use Rattle.lang_ty.specs.Given.{Node, Refused}
use Rattle.storage.specs.declared.given.Canon.{Canon}
use Rattle.storage.specs.declared.notes.Begun.{Begun}
use Rattle.storage.specs.Notes.{begun_of, Began, IsBoth}
use Rattle.storage.specs.Entries.{IsVar}
use Rattle.lang_check.specs.Cycle.{Caches, Side, Either, IsCut}
use Rattle.lang_check.specs.Roots.{BothAt, PreservesIf}

pub caches_node : {work : List ℕ} {sl : ℕ} {g : Given} {x y : ℕ} {q : Pass} {work' : List ℕ} → g ≡ Node x q → Sum x 2 y → work' ≡ set work sl y → Caches work sl g work' (Node x q)
caches_node {work} {sl} {g} {x} {y} {q} {work'} e sum s =
    record { same = sym e; node = λ z r d le. (let k : x ≡ z = cc in s ∙ ap (set work sl) (sum.is (omega_le k le) ∙ ap (λ (m : ℕ). m + 2) k)) }
  where
    omega_le : {z : ℕ} → x ≡ z → z + 2 ≤ 4294967295 → x + 2 ≤ 4294967295
    omega_le k le = omega arith

pub caches_refused : {work : List ℕ} {sl : ℕ} {g : Given} {k : ℕ} → g ≡ Refused k → Caches work sl g work (Refused k)
caches_refused {g = g} {k = k} e = record { same = sym e; node = λ x q d le. absurd (never (sym e ∙ d)) }
  where
    never : {x : ℕ} {q : Pass} → Refused k ≡ Node x q → ⊥
    never d = let z : ◌≡◌ {A = ℕ} 0 1 = cc in omega arith

pub side_first : {i : ℕ} {one pol : Polarity} → i ≡ 0 → Side i one pol one
side_first e = record { first = λ _. refl; other = λ ne. absurd (ne e) }

pub side_other : {i : ℕ} {one pol : Polarity} → (i ≡ 0 → ⊥) → Side i one pol pol
side_other ne = record { first = λ e. absurd (ne e); other = λ _. refl }

module _ {table : List ℕ} {c : Canon} {a b : ℕ} {x : Bool} (va : IsVar table c a x) where
  pub either_first : x ≡ true → Either table c a b true
  either_first e = record { is = λ {t} rd la lb. ap (λ (z : Bool). z || is_variable (t b)) (sym e ∙ va.is rd la) }

  pub either_second : {y : Bool} → x ≡ false → IsVar table c b y → Either table c a b y
  either_second e vb = record { is = λ {t} rd la lb. vb.is rd lb ∙ ap (λ (z : Bool). z || is_variable (t b)) (sym e ∙ va.is rd la) }

-- whether a list is begun, by its three tests
cut_by : (n : ℕ) (q : Pass) (begun : Begun) (pol : Polarity) (a b : Bool) → eqb n 0 ≡ a → q.bailed ≡ b
    → (a || both b (λ _. runs.began (begun_of begun) pol)) ≡ (eqb n 0 || both q.bailed (λ _. runs.began (begun_of begun) pol))
cut_by n q begun pol a b e f =
    ap (λ (z : Bool). z || both b (λ _. runs.began (begun_of begun) pol)) (sym e)
    ∙ ap (λ (z : Bool). eqb n 0 || both z (λ _. runs.began (begun_of begun) pol)) (sym f)

module _ {n : ℕ} {q : Pass} {begun : Begun} {pol : Polarity} where
  pub cut_none : n ≡ 0 → IsCut n q begun pol true
  cut_none e = record { is = ap (λ (z : Bool). z || both q.bailed (λ _. runs.began (begun_of begun) pol)) (sym (eq-eqb n 0 e)) }

  pub cut_not : (n ≡ 0 → ⊥) → q.bailed ≡ false → IsCut n q begun pol false
  cut_not ne f = record { is = cut_by n q begun pol false false (ne_eqb n 0 ne) f }

  pub cut_begun : {b : Bool} → (n ≡ 0 → ⊥) → q.bailed ≡ true → Began begun pol b → IsCut n q begun pol b
  cut_begun ne f was = record { is = was.is ∙ cut_by n q begun pol false true (ne_eqb n 0 ne) f }

pub both_at : {work : List ℕ} {id k v : ℕ} {r : Bool} → k ≡ bits_at + id → v ≡ cell work k → IsBoth (record { bits = v }) r → BothAt work id r
both_at {work} at e is = record { is = is.is ∙ ap is_both (e ∙ ap (cell work) at) }

module _ {table work : List ℕ} {id : ℕ} {r : Bool} (at : BothAt work id r) where
  pub preserves_both : {p : ℕ} {table' : List ℕ} → r ≡ true → p ≡ preserved_at + id → table' ≡ set table p 1 → PreservesIf table work id table'
  preserves_both d here put = record { some = λ _. put ∙ ap (λ (j : ℕ). set table j 1) here; none = λ z. true_false (sym d ∙ at.is ∙ z) }

  pub preserves_not : r ≡ false → PreservesIf table work id table
  preserves_not d = record { some = λ z. true_false (sym z ∙ sym at.is ∙ d); none = λ _. refl }
