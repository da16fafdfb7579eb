-- `table::ranges::entry_known` meets its contract. Assumes nothing.
use Rattle.table.proofs.Knowing.{entry_named, entry_none, entry_one, entry_set, entry_set_no, entry_two, entry_var}
use Rattle.table.proofs.ranges.entry_known.Goals as goal

pub returns-in-Var : goal.returns-in-Var
returns-in-Var c = entry_var c.at.ensures c.in-Var.ensures.is c.var_known.ensures

pub returns-in-Named : goal.returns-in-Named
returns-in-Named c = entry_named c.at.ensures c.in-Named.ensures.is c.named_known.ensures

pub returns-in-List : goal.returns-in-List
returns-in-List c = entry_one c.at.ensures c.kind_of.ensures c.in-List.is c.below.ensures

pub returns-in-Fn : goal.returns-in-Fn
returns-in-Fn c = entry_two c.at.ensures c.kind_of.ensures c.in-Fn.is c.below-in-Fn.ensures

pub returns-in-Frozen : goal.returns-in-Frozen
returns-in-Frozen c = entry_none c.at.ensures c.kind_of.ensures c.in-Frozen.is

pub returns-then-set_known : goal.returns-then-set_known
returns-then-set_known c =
    let e = c.in-Set.ensures.is in
    search entry_set

pub returns-else-set_known : goal.returns-else-set_known
returns-else-set_known c =
    let e = c.in-Set.ensures.is in
    search entry_set_no
