-- The keys of the first i fields stand from b on, and the fields, in another area, are as they were.
use Rattle.merge.proofs.Sieving.{Listing}
use Rattle.merge.proofs.list_keys.Given as goal

abbrev pub invariant-loop-i : goal.invariant-loop-i
invariant-loop-i l = Listing l.initial.held l.a l.n l.b l.held l.i
