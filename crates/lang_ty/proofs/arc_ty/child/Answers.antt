use Rattle.lang_ty.proofs.Children.{child_field, child_dyn, child_word}
use Rattle.lang_ty.proofs.arc_ty.child.Goals as goal

pub returns-then-i-fields : goal.returns-then-i-fields
returns-then-i-fields c = search child_field

pub returns-else-i-fields : goal.returns-else-i-fields
returns-else-i-fields c = search child_dyn

pub returns-in_default : goal.returns-in_default
returns-in_default c = search child_word
