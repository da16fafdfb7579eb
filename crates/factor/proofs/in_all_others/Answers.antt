use borrow.Author.Rules.{rules}
use mathlib.Core.Bool.{not}
use Prim.Native.Nat.{ℕ}
use Rattle.factor.specs.Factors.{has_member}
use Rattle.factor.proofs.Factors.{others_by, lacks_if}
use Rattle.factor.proofs.in_all_others.Goals as goal

pub returns : goal.returns
returns c = others_by _ (λ ns xs q h m. c.any_from.ensures.is (λ (u : ℕ). not (has_member c.args.x ns u)) m (λ u b lt a. search (rules, lacks_if)))
