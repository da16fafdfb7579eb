-- What is made of an entry of one child or none.
use Rattle.std.specs.Prelude.{ℕ, List, length}
use Rattle.rules.specs.Table.{Entry, var, prim, tyvar, list, fn, set, neg, named, inter, union, frozen}
use Rattle.rules.specs.Types.{Out, bind}
use Rattle.rules.specs.Canonicalizer.{Reader}
use Rattle.rules.specs.Canonicalizer as runs
use Rattle.rules.specs.declared.Polarity.{Polarity}
use Rattle.lang_ty.specs.declared.arena.Pass.{Pass}
use Rattle.lang_ty.specs.Given.{Given}
use Rattle.storage.specs.declared.given.Canon.{Canon}
use Rattle.storage.specs.declared.entries.Entry.{Entry as Read}
use Rattle.storage.specs.Passes.{Knows}
use Rattle.storage.specs.Entries.{ReadAs}
use Rattle.storage.specs.Helds.{held_kids}
use Rattle.members.specs.Flow.{On}
use Rattle.composites.specs.Places.{Visited}
use Rattle.lang_check.specs.Cycle.{made, Broad, StoredBy}

-- neither a function nor a set nor a union
abbrev pub Single : Entry → Type 0
Single (var l u) = Unit {0}
Single (prim c) = Unit {0}
Single (tyvar x) = Unit {0}
Single (list a) = Unit {0}
Single (fn a b) = ⊥
Single (set a) = ⊥
Single (neg a) = Unit {0}
Single (named n a) = Unit {0}
Single (inter a b) = Unit {0}
Single (union a b) = ⊥
Single frozen = Unit {0}

pub record MadeOfOne (table : List ℕ) (c : Canon) (w work : List ℕ) (h : ℕ) (q : Pass) (e : Read) (w' work' : List ℕ) (r : Given) : Type 0 where
  pub is : {p : runs.Pass} {t : Reader} {en : Entry} (o : Out (List ℕ)) (pol : Polarity) → Knows table c p t → ReadAs table e en → Single en
      → Visited o w work h (length (held_kids en)) (On q) → Broad work h → StoredBy (bind o (made p pol en)) w' work work' h r
