-- The variables of a listing, line by line.
use Rattle.std.specs.Prelude.{ℕ, List, map}
use Rattle.rules.specs.Plain.{joined}
use Rattle.rules.specs.Types.{Node, node_at}
use Rattle.rules.specs.Variables.{variable_of}

-- those among the nodes xs, in their order
abbrev pub variables_among : List Node → List ℕ → List ℕ
variables_among ns xs = joined (map (λ (x : ℕ). variable_of (node_at ns x)) xs)
