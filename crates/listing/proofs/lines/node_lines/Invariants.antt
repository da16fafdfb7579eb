-- The lines of the first k nodes of the walk are written, among them so many variables'.
use Rattle.listing.proofs.NodeLines.{NodesWritten}
use Rattle.listing.specs.Writes.{Writes}
use Rattle.listing.proofs.lines.node_lines.Given as goal

abbrev pub invariant-loop-k : goal.invariant-loop-k
invariant-loop-k l = Writes (NodesWritten l.arena l.work l.form l.n l.vars l.k) l.initial.w l.w
