-- What is left from word i on comes, from the hash so far, to the hash of all.
use Rattle.lang_ty.proofs.Buckets.{Hashing}
use Rattle.lang_ty.proofs.index.hash.Given as goal

abbrev pub invariant-loop-i : goal.invariant-loop-i
invariant-loop-i l = Hashing l.words l.a l.n l.h l.i
