-- What was merged, with what the rules' merge makes of the fields that are left, is all of it; i and j only grow.
use Rattle.merge.proofs.MergeFields.{Sweeping}
use Prim.Native.Nat.{◌-◌}
use Rattle.merge.proofs.merge_fields.Given as goal

abbrev pub invariant-loop-k : goal.invariant-loop-k
invariant-loop-k l = Sweeping l.initial.arena l.initial.held l.fn.q l.g l.x l.b l.m l.most l.arena l.held l.q l.i l.j l.k

abbrev pub decreases-loop-k : goal.decreases-loop-k
decreases-loop-k l = l.most - l.k
