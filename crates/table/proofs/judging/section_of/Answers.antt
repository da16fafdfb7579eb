-- `table::judging::section_of` meets its contract. Assumes nothing.
use native.Mathlib.Omega.{arith}
use mathlib.Core.Path.{refl}
use Rattle.rules.specs.Table.{section_of}
use Rattle.table.proofs.Verdicts.{section_is, section_entries, section_none}
use Rattle.table.proofs.judging.section_of.Goals as goal

pub returns-in-1 : goal.returns-in-1
unfolding section_of
returns-in-1 c = section_is 1 c.in-1.is refl

pub returns-in-2-to-12 : goal.returns-in-2-to-12
returns-in-2-to-12 c = section_entries (omega arith) (omega arith)

pub returns-in-13 : goal.returns-in-13
unfolding section_of
returns-in-13 c = section_is 13 c.in-13.is refl

pub returns-in-14 : goal.returns-in-14
unfolding section_of
returns-in-14 c = section_is 14 c.in-14.is refl

pub returns-in-15 : goal.returns-in-15
unfolding section_of
returns-in-15 c = section_is 15 c.in-15.is refl

pub returns-in_default : goal.returns-in_default
unfolding section_of
returns-in_default c = section_is 0 (omega arith) refl

pub returns-in_default-2 : goal.returns-in_default-2
returns-in_default-2 c = section_none (omega arith)
