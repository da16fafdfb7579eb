-- The loop of Partway; its step is the rules' simplifying of one member.
use Rattle.simplify.proofs.Simplified.{Simplifying}
use mathlib.Core.Path.{◌≡◌}
use lib.ListN.{length}
use Rattle.simplify.proofs.intersections.simplify_each.Given as goal

abbrev pub invariant-loop-i : goal.invariant-loop-i
invariant-loop-i l = Simplifying l.initial.arena l.initial.q l.negs l.m l.arena l.q l.out l.k l.i × (length l.arena ≡ length l.initial.arena) × (length l.out ≡ length l.initial.out)
