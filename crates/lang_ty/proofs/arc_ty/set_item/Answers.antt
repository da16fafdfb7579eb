-- Among the fields each even item is a key and the next one its type; then comes their end, and the rest is counted from there.
use Rattle.lang_ty.proofs.Items.{set_end_is, set_rest_is, set_key_is, set_type_is}
use Rattle.lang_ty.proofs.arc_ty.set_item.Goals as goal

pub returns-then-i-m : goal.returns-then-i-m
returns-then-i-m c = search set_end_is

pub returns-then-m-i : goal.returns-then-m-i
returns-then-m-i c = search set_rest_is

pub returns-then-i-eq0 : goal.returns-then-i-eq0
returns-then-i-eq0 c = search set_key_is

pub returns : goal.returns
returns c = search set_type_is
