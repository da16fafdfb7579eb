use mathlib.Core.Path.{ap}
use mathlib.Core.Logic.{⊎_elim}
use native.Mathlib.Omega.{arith}
use Prim.Native.Nat.{◌<◌}
use Rattle.lang_ty.specs.Nodes.{code}
use Rattle.listing.proofs.Contents.{contents_tyvar, contents_primitive, contents_list, contents_neg, contents_lambda, contents_named, contents_set}
use Rattle.listing.proofs.Contents.{contents_union, contents_intersection, contents_empty}
use Rattle.listing.proofs.lines.contents.Goals as goal

pub returns-in-TyVar : goal.returns-in-TyVar
returns-in-TyVar c = search (contents_tyvar, ap code c.in-TyVar.is)

pub returns-in-Primitive : goal.returns-in-Primitive
returns-in-Primitive c = search (contents_primitive, ap code c.in-Primitive.is)

pub returns-in-List : goal.returns-in-List
returns-in-List c = ⊎_elim (λ e. search (contents_list, ap code e)) (λ e. search (contents_neg, ap code e)) c.in-List.is

pub returns-in-Lambda : goal.returns-in-Lambda
returns-in-Lambda c = search (contents_lambda, ap code c.in-Lambda.is)

pub returns-in-Named : goal.returns-in-Named
returns-in-Named c = search (contents_named, ap code c.in-Named.is)

pub returns-in-AttrSet : goal.returns-in-AttrSet
returns-in-AttrSet c = search (contents_set, ap code c.in-AttrSet.is)

pub returns-in-Union : goal.returns-in-Union
returns-in-Union c = ⊎_elim (λ e. search (contents_union, ap code e)) (λ e. search (contents_intersection, ap code e)) c.in-Union.is

pub returns-in-Bottom : goal.returns-in-Bottom
returns-in-Bottom c =
    let past : 8 < code c.kind.result = ⊎_elim (λ e. let f = ap code e in omega arith) (λ e. let f = ap code e in omega arith) c.in-Bottom.is in
    search contents_empty
