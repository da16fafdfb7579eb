use Rattle.simplify.proofs.OwnKeys.{own_skips, own_marks}
use Rattle.simplify.proofs.own_keys.mark_if_own.Goals as goal

pub returns-then-has_own_key : goal.returns-then-has_own_key
returns-then-has_own_key c = search own_marks

pub returns-else-has_own_key : goal.returns-else-has_own_key
returns-else-has_own_key c = own_skips
