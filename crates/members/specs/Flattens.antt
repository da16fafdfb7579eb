-- Flattening: what the functions of flatten.rt ensure.
use Rattle.std.specs.Prelude.{◌≡◌, ℕ, ◌<◌, List, [], length}
use Rattle.rules.specs.Ceilings.{most_members}
use Rattle.rules.specs.Plain.{add_new}
use Rattle.rules.specs.Types.{Node}
use Rattle.rules.specs.Members.{members_at, add_all, flatten_one, flatten_into}
use Rattle.lang_ty.specs.declared.arena.Pass.{Pass}
use Rattle.lang_ty.specs.Nodes.{Arena}
use Rattle.members.specs.declared.lists.Members.{Members}
use Rattle.members.specs.Lists.{Lists, Taken}
use Rattle.cells.specs.Placed.{Under}

-- the first k of the 128 cells out are xs; a k above 128 says that there are more than fit
pub record Collected (out : List ℕ) (k : ℕ) (xs : List ℕ) : Type 0 where
  pub room : length out ≡ most_members
  pub list : Lists (record { count = k; at = out }) xs

pub record AddsNew (out : List ℕ) (k x : ℕ) (out' : List ℕ) (r : ℕ) : Type 0 where
  pub is : {xs : List ℕ} → Collected out k xs → Collected out' r (add_new xs x)

pub record AddsMembers (w out : List ℕ) (k x : ℕ) (out' : List ℕ) (r : ℕ) : Type 0 where
  pub is : {q : Pass} {ns : List Node} {xs : List ℕ} → Arena w q ns → x < length ns → Collected out k xs → Collected out' r (add_all xs (members_at ns x))

pub record FlattensOne (kind : ℕ) (w out : List ℕ) (k x : ℕ) (out' : List ℕ) (r : ℕ) : Type 0 where
  pub is : {q : Pass} {ns : List Node} {xs : List ℕ} → Arena w q ns → x < length ns → Collected out k xs → Collected out' r (flatten_one kind ns xs x)

-- a list that may be more than fit, of nodes below k
pub record Listing (m : Members) (xs : List ℕ) (k : ℕ) : Type 0 where
  pub list : Lists m xs
  pub below : Under k xs

-- r is what f makes of the members of m, where that fits
pub record Spreads (f : List Node → List ℕ → List ℕ) (w : List ℕ) (m r : Members) : Type 0 where
  pub is : {q : Pass} {ns : List Node} {xs : List ℕ} → Arena w q ns → Taken m xs (length ns) → Listing r (f ns xs) (length ns)

-- all members, the nested ones opened
abbrev pub flatten_all : ℕ → List Node → List ℕ → List ℕ
flatten_all k ns xs = flatten_into k ns [] xs
