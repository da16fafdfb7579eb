use Rattle.lang_ty.proofs.Items.{rest_none_is, rest_dyn_is, rest_open_is, rest_optional_is, rest_end_is}
use Rattle.lang_ty.proofs.arc_ty.set_rest.Goals as goal

pub returns-then-dyns-eq0 : goal.returns-then-dyns-eq0
returns-then-dyns-eq0 c = search rest_none_is

pub returns-then-i-eq0 : goal.returns-then-i-eq0
returns-then-i-eq0 c = search rest_dyn_is

pub returns-then-i-eq1 : goal.returns-then-i-eq1
returns-then-i-eq1 c = search rest_open_is

pub returns-then-i-add : goal.returns-then-i-add
returns-then-i-add c = search rest_optional_is

pub returns : goal.returns
returns c = search rest_end_is
