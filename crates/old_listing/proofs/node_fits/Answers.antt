-- `old_listing::node_fits` meets its contract: the kind of the row tells which of its words are children, and a kind without any fits. Assumes nothing.
use mathlib.Core.Logic.{⊎_elim}
use native.Mathlib.Omega.{arith}
use Rattle.lang_ty.specs.declared.arena.OutputTy.TheVariants as kinds
use Rattle.lang_ty.proofs.Codes.{word_is, word_is_not}
use Rattle.old_listing.proofs.Forms.{node_else, node_fn, node_inter, node_list, node_named, node_neg, node_set, node_union}
use Rattle.old_listing.proofs.node_fits.Goals as goal

pub returns-in-AttrSet : goal.returns-in-AttrSet
returns-in-AttrSet c = search (node_set, word_is kinds.AttrSet c.of_word.ensures (omega arith) c.in-AttrSet.is)

pub returns-in-Lambda : goal.returns-in-Lambda
returns-in-Lambda c = search (node_fn, word_is kinds.Lambda c.of_word.ensures (omega arith) c.in-Lambda.is)

pub returns-in-Named : goal.returns-in-Named
returns-in-Named c = search (node_named, word_is kinds.Named c.of_word.ensures (omega arith) c.in-Named.is)

pub returns-in-Union : goal.returns-in-Union
returns-in-Union c =
    ⊎_elim (λ e. search (node_union, word_is kinds.Union c.of_word.ensures (omega arith) e)) (λ e. search (node_inter, word_is kinds.Intersection c.of_word.ensures (omega arith) e)) c.in-Union.is

pub returns-in-List : goal.returns-in-List
returns-in-List c =
    ⊎_elim (λ e. search (node_list, word_is kinds.List c.of_word.ensures (omega arith) e)) (λ e. search (node_neg, word_is kinds.Neg c.of_word.ensures (omega arith) e)) c.in-List.is

pub returns-in_default : goal.returns-in_default
returns-in_default c =
    search (node_else, word_is_not kinds.AttrSet c.of_word.ensures (omega arith) c.in_default.not-AttrSet, word_is_not kinds.Union c.of_word.ensures (omega arith) c.in_default.not-Union, word_is_not kinds.Intersection c.of_word.ensures (omega arith) c.in_default.not-Intersection, word_is_not kinds.Lambda c.of_word.ensures (omega arith) c.in_default.not-Lambda, word_is_not kinds.Named c.of_word.ensures (omega arith) c.in_default.not-Named, word_is_not kinds.List c.of_word.ensures (omega arith) c.in_default.not-List, word_is_not kinds.Neg c.of_word.ensures (omega arith) c.in_default.not-Neg)
