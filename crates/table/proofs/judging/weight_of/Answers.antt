-- `table::judging::weight_of` meets its contract. Assumes nothing.
use Rattle.table.proofs.Entries.{weight_none, weight_one, weight_set, weight_two, weight_var}
use Rattle.table.proofs.judging.weight_of.Goals as goal

pub returns-in-Var : goal.returns-in-Var
returns-in-Var c = weight_var c.at.ensures c.in-Var.ensures.is c.at-a.ensures c.at-b.ensures c.at-a.type_inv c.at-b.type_inv

pub returns-in-Set : goal.returns-in-Set
returns-in-Set c = weight_set c.at.ensures c.in-Set.ensures.is c.places_of-p.ensures

pub returns-in-List : goal.returns-in-List
returns-in-List c = weight_one c.at.ensures c.kind_of.ensures c.in-List.is

pub returns-in-Fn : goal.returns-in-Fn
returns-in-Fn c = weight_two c.at.ensures c.kind_of.ensures c.in-Fn.is

pub returns-in-Frozen : goal.returns-in-Frozen
returns-in-Frozen c = weight_none c.at.ensures c.kind_of.ensures c.in-Frozen.is
