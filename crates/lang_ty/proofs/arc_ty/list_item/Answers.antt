use Rattle.lang_ty.proofs.Items.{list_child_is, list_end_is}
use Rattle.lang_ty.proofs.arc_ty.list_item.Goals as goal

pub returns-then-i-word : goal.returns-then-i-word
returns-then-i-word c = search list_child_is

pub returns : goal.returns
returns c = search list_end_is
