-- The numbers of the refusals, and a refusal with its line as the rules have it.
use Rattle.std.specs.Prelude.{ℕ}
use Rattle.rules.specs.declared.Refusal.{Refusal}
use Rattle.rules.specs.declared.Refusal.TheVariants.{Form, Ceiling, Range, Ascent, Frozen, Keys, Members, Nodes, Cells, Incomparable, Listing, Output, Scratch}

abbrev pub number : Refusal → ℕ
number Form = 1
number Ceiling = 2
number Range = 3
number Ascent = 4
number Frozen = 5
number Keys = 6
number Members = 7
number Nodes = 8
number Cells = 9
number Incomparable = 10
number Listing = 11
number Output = 12
number Scratch = 20
