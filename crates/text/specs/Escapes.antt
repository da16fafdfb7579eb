-- How the code reads a name: byte by byte, with a state in place of a look ahead. Proofs/Naming.antt shows that this is the rules' `name`.
use Rattle.std.specs.Prelude.{ℕ, zero, suc, ◌+◌, ◌-◌, ◌*◌, List, [], ◌∷◌, eqb, ltb}
use Rattle.std.proofs.Math.Option.{Option, none, some}
use Rattle.cells.specs.Part.{if}
use Rattle.rules.specs.Plain.{◌>>=◌}
use Rattle.rules.specs.Text.{hex, escaped}

-- what a byte of a written name does: it is out of place, it goes on to another state, or it ends a byte of the name
pub data Read : Type 0 where
  bad : Read
  move : ℕ → Read
  put : ℕ → Read

-- a byte in state 0 (plain), 1 (after a backslash), 2 + h (after the digit h too)
unfoldable pub next : ℕ → ℕ → Read
next st b =
    if (eqb st 0)
    (λ _. if (eqb b 92) (λ _. move 1) (λ _. if (escaped b) (λ _. bad) (λ _. put b)))
    (λ _. if (ltb 15 (hex b)) (λ _. bad)
    (λ _. if (eqb st 1) (λ _. move (2 + hex b))
    (λ _. if (escaped ((st - 2) * 16 + hex b)) (λ _. put ((st - 2) * 16 + hex b)) (λ _. bad))))

abbrev pub after : Read → (ℕ → Option (List ℕ)) → Option (List ℕ)
after bad f = none
after (move st) f = f st
after (put x) f = f 0 >>= (λ (xs : List ℕ). some (x ∷ xs))

abbrev pub chars : ℕ → List ℕ → Option (List ℕ)
chars zero [] = some []
chars (suc st) [] = none
chars st (b ∷ bs) = after (next st b) (λ (q : ℕ). chars q bs)
