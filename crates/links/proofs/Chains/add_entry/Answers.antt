use mathlib.Core.Logic.{inl, inr}
use Rattle.links.proofs.Linking.{entry_variable, entry_primitive, entry_tyvar, entry_list, entry_lambda, entry_set, entry_neg, entry_named}
use Rattle.links.proofs.Linking.{entry_inter, entry_union, entry_frozen}
use Rattle.links.proofs.Chains.add_entry.Goals as goal

pub returns-in-Variable-clause-made : goal.returns-in-Variable-clause-made
returns-in-Variable-clause-made c = search entry_variable

pub returns-in-Primitive-clause-made : goal.returns-in-Primitive-clause-made
returns-in-Primitive-clause-made c = elim c.in-Primitive.is [
  | inl p ↦ entry_primitive c.entry_at.ensures p.1
  | inr q ↦ elim q [
    | inl t ↦ entry_tyvar c.entry_at.ensures t.1
    | inr f ↦ entry_frozen c.entry_at.ensures f
  ]
]

pub returns-in-List-clause-made : goal.returns-in-List-clause-made
returns-in-List-clause-made c = elim c.in-List.is [
  | inl p ↦ entry_list c.entry_at.ensures p c.add.ensures.made
  | inr q ↦ elim q [
    | inl n ↦ entry_neg c.entry_at.ensures n c.add.ensures.made
    | inr m ↦ entry_named c.entry_at.ensures m.1 c.add.ensures.made
  ]
]

pub returns-in-Lambda-clause-made : goal.returns-in-Lambda-clause-made
returns-in-Lambda-clause-made c = elim c.in-Lambda.is [
  | inl p ↦ entry_lambda c.entry_at.ensures p c.add_two.ensures.made
  | inr q ↦ elim q [
    | inl i ↦ entry_inter c.entry_at.ensures i c.add_two.ensures.made
    | inr u ↦ entry_union c.entry_at.ensures u c.add_two.ensures.made
  ]
]

pub returns-in-AttrSet-clause-made : goal.returns-in-AttrSet-clause-made
returns-in-AttrSet-clause-made c = search entry_set
