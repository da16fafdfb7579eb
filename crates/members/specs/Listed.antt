-- What a step that gives a list comes to.
use Rattle.std.specs.Prelude.{[], Result, Ok, Err}
use Rattle.rules.specs.Refusals.{number}
use Rattle.rules.specs.declared.Refusal.{Refusal}
use Rattle.lang_ty.specs.declared.arena.Pass.{Pass}
use Rattle.members.specs.Flow.{Flow, On, Refused}
use Rattle.members.specs.declared.lists.Members.{Members}

-- the list, and the pass after it or a refusal, beside which the list says nothing
pub record Listed : Type 0 where
  pub flow : Flow
  pub members : Members

abbrev pub listed : Result Members Refusal → Pass → Listed
listed (Ok m) q = record { flow = On q; members = m }
listed (Err k) q = record { flow = Refused (number k); members = record { count = 0; at = [] } }
