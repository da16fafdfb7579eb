-- `text::field_of` meets its contract. Assumes nothing.
use Rattle.text.proofs.Fields.{field_number, field_code, field_flag, field_list, field_dyn, field_fields, field_sign, field_name, field_none}
use native.Mathlib.Omega.{arith}
use Rattle.text.proofs.field_of.Goals as goal

pub returns-in-0 : goal.returns-in-0
returns-in-0 c = field_number c.in-0.is c.element_of.ensures

pub returns-in-1 : goal.returns-in-1
returns-in-1 c = field_code c.in-1.is c.up_to.ensures

pub returns-in-2 : goal.returns-in-2
returns-in-2 c = field_flag c.in-2.is c.up_to-in-2.ensures

pub returns-in-3 : goal.returns-in-3
returns-in-3 c = field_list c.in-3.is c.list_of.ensures

pub returns-in-4 : goal.returns-in-4
returns-in-4 c = field_dyn c.in-4.is c.dyn_of.ensures

pub returns-in-5 : goal.returns-in-5
returns-in-5 c = field_fields c.in-5.is c.list_of-in-5.ensures

pub returns-in-6 : goal.returns-in-6
returns-in-6 c = field_sign c.in-6.is c.sign_of.ensures

pub returns-in-7 : goal.returns-in-7
returns-in-7 c = field_name c.in-7.is c.name_of.ensures

pub returns-in_default : goal.returns-in_default
returns-in_default c = field_none (omega arith)
