-- The search in the row's bucket comes to what the rules' search of all nodes comes to.
use Rattle.lang_ty.proofs.Intern.{interned_old, interned_new}
use Rattle.lang_ty.proofs.arena.intern.Goals as goal

pub returns-in-Some : goal.returns-in-Some
returns-in-Some c = search interned_old

pub returns-in-None : goal.returns-in-None
returns-in-None c = search interned_new
