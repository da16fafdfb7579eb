-- The places marked are those that the rules have taken up after the first i members.
use Rattle.simplify.proofs.Marked.{Absorbing}
use mathlib.Core.Path.{◌≡◌}
use lib.ListN.{length}
use Rattle.simplify.proofs.unions.absorb_subsumed_union_members.Given as goal

abbrev pub invariant-loop-i : goal.invariant-loop-i
invariant-loop-i l = Absorbing l.arena l.m l.gone l.i × (length l.gone ≡ length l.initial.gone)
