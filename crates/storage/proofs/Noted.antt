-- What a pass notes and counts, return by return. Assumes nothing.
use mathlib.Core.Path.{◌≡◌, refl, sym, ap, ◌∙◌}
use mathlib.Core.Bool.{Bool, true, false, ◌||◌}
use Prim.Native.Nat.{ℕ, suc, ◌+◌, ◌<◌}
use native.Mathlib.Omega.{arith}
use lib.Dec.{ltb}
use borrow.Author.Tests.{lt-ltb}
use Rattle.cells.specs.Part.{if}
use Rattle.rules.specs.Canonicalizer.{tick}
use Rattle.lang_ty.specs.declared.arena.Pass.{Pass}
use Rattle.storage.specs.Notes.{PassWith}

-- `count_one`
counted : (n : ℕ) (t : Bool) → ltb n 2147483647 ≡ t → if t (λ _. suc n) (λ _. n) ≡ tick n
counted n t e = ap (λ (u : Bool). if u (λ _. suc n) (λ _. n)) (sym e)

module _ {q : Pass} where
  pub counts_one : q.ops < 2147483647
      → PassWith q (tick q.ops) q.bailed (record { nodes = q.nodes; cells = q.cells; ops = q.ops + 1; sorted = q.sorted; bailed = q.bailed })
  counts_one h =
      let e : q.ops + 1 ≡ suc q.ops = omega arith in
      record { nodes = refl; cells = refl; ops = e ∙ counted q.ops true (lt-ltb q.ops 2147483647 h); sorted = refl; bailed = refl }

-- `begin`
or_true : (b : Bool) → true ≡ (b || true)
or_true true = refl
or_true false = refl

or_false : (b : Bool) → b ≡ (b || false)
or_false true = refl
or_false false = refl
