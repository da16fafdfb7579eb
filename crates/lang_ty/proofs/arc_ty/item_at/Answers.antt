use Rattle.lang_ty.proofs.Items.{item_set, item_list, item_plain}
use Rattle.lang_ty.proofs.arc_ty.item_at.Goals as goal

pub returns-in-AttrSet : goal.returns-in-AttrSet
returns-in-AttrSet c = search item_set

pub returns-in-Union : goal.returns-in-Union
returns-in-Union c = search item_list

pub returns-in_default : goal.returns-in_default
returns-in_default c = search item_plain
