use Rattle.lang_ty.proofs.Items.{items_set, items_list, items_plain}
use Rattle.lang_ty.proofs.arc_ty.items.Goals as goal

pub returns-in-AttrSet : goal.returns-in-AttrSet
returns-in-AttrSet c = search items_set

pub returns-in-Union : goal.returns-in-Union
returns-in-Union c = search items_list

pub returns-in_default : goal.returns-in_default
returns-in_default c = search items_plain
