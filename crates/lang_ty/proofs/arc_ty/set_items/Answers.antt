use Rattle.lang_ty.proofs.Items.{set_items_is}
use Rattle.lang_ty.proofs.arc_ty.set_items.Goals as goal

pub returns : goal.returns
returns c = search set_items_is
