-- No call is refused with 0. Assumes nothing.
use mathlib.Core.Bool.{Bool}
use Prim.Native.Nat.{ℕ, zero, suc, ◌<◌}
use native.Mathlib.Omega.{arith}
use mathlib.Core.List.{List, [], ◌∷◌}
use mathlib.Core.Option.{Option, none, some}
use lib.ListN.{length}
use lib.Dec.{eqb, ltb}
use Rattle.cells.specs.Part.{cell, eq_list}
use Rattle.rules.specs.Plain.{ascii}
use Rattle.cells.proofs.Choices.{by_branch}
use Rattle.rules.specs.Ceilings.{most_text}
use Rattle.rules.specs.Text.{line_feed, pieces, row_of}
use Rattle.rules.specs.Table.{Root, Sections, Reading, nothing, Admission, admitted, fault, in_order, over, add, ascends, frozen_entry, admit}
use Rattle.rules.specs.Table.{section_of, in_form, step, kinds, Result, accepted, refused, then, at_line, begun, lines, known, entry_line, root_line, in_table}
use Rattle.rules.specs.Table.{sections_of, table_of}
use Rattle.rules.specs.declared.Form.{Form}
use Rattle.rules.specs.declared.Form.TheVariants.{Plain, Numbered}
use Rattle.rules.specs.Listing.{take_numbered, head_kinds, listing_text, root_text, Taking, next_line, take_line, take_node, take_nodes, node_in_form, nodes_after}
use Rattle.rules.specs.Listing.{take_after, take_root, blank, at_end, take_roots, is_answers, old_listing}
use Rattle.rules.specs.Calls.{fits, canon, canon_root, comparable, recheck_text, recheck, leaves, unless_short, canon_call, canon_root_call, recheck_call}

-- a refusal's number is not 0
abbrev pub NotZero : {A : Type 0} → Result A → Type 0
NotZero (accepted a) = Unit {0}
NotZero (refused k l) = 0 < k

then_not : {A B : Type 0} (r : Result A) (f : A → Result B) → NotZero r → ((a : A) → NotZero (f a)) → NotZero (then r f)
then_not (accepted a) f h g = g a
then_not (refused k l) f h g = h

-- a table is refused with 1 to 5
abbrev FaultNot : Admission → Type 0
FaultNot (admitted r) = Unit {0}
FaultNot (fault k) = 0 < k

admit_not : (r : Reading) (s : ℕ) (row : List ℕ) → FaultNot (admit r s row)
admit_not r s row =
    by_branch FaultNot (in_order r.stage s) _ _
    (by_branch FaultNot (over (add r s row) s row) _ _ (omega arith)
    (by_branch FaultNot (ascends r.table s row) _ _
    (by_branch FaultNot (eqb (cell row 0) frozen_entry) _ _ (omega arith) tt)
    (omega arith)))
    (omega arith)

form_not : (r : Reading) (m : Option (List ℕ)) → FaultNot (in_form r m)
form_not r none = omega arith
form_not r (some row) = admit_not r (section_of (cell row 0)) row

at_not : (k : ℕ) (t : Admission) → FaultNot t → NotZero (at_line k t)
at_not k (admitted r) h = tt
at_not k (fault n) h = h

begun_not : (r : Reading) (k : ℕ) → NotZero (begun r k)
begun_not r k = by_branch NotZero (eqb r.stage 0) _ _ (omega arith) tt

step_not : (k : ℕ) (r : Reading) (l : List ℕ) → NotZero (at_line k (step r l))
unfolding step
step_not k r l = at_not k (in_form r (row_of kinds l)) (form_not r (row_of kinds l))

lines_not : (k : ℕ) (r : Reading) (ls : List (List ℕ)) → NotZero (lines k r ls)
lines_not k r [] = begun_not r k
lines_not k r ([] ∷ []) = begun_not r k
lines_not k r ((b ∷ l) ∷ []) = omega arith
lines_not k r (l ∷ m ∷ ls) = then_not (at_line k (step r l)) (λ q. lines (suc k) q (m ∷ ls)) (step_not k r l) (λ q. lines_not (suc k) q (m ∷ ls))

known_not : (p : List ℕ → Bool) (k : ℕ) (rs : List (List ℕ)) → NotZero (known p k rs)
known_not p k [] = tt
known_not p k (r ∷ rs) = by_branch NotZero (p r) _ _ (known_not p (suc k) rs) (omega arith)

in_table_not : (t : Sections) → NotZero (in_table t)
unfolding in_table
in_table_not t =
    then_not (known _ (entry_line t) t.entries) _ (known_not _ (entry_line t) t.entries)
    (λ _. then_not (known _ (root_line t) t.roots) _ (known_not _ (root_line t) t.roots) (λ _. tt))

table_not : (text : List ℕ) → NotZero (table_of text)
unfolding table_of sections_of
table_not text =
    then_not (sections_of text) _
    (by_branch NotZero (ltb most_text (length text)) _ _ (omega arith)
    (then_not (lines 1 nothing (pieces line_feed text)) in_table (lines_not 1 nothing (pieces line_feed text)) in_table_not))
    (λ s. tt)

fits_not : (room : ℕ) (text : List ℕ) → NotZero (fits room text)
fits_not room text = by_branch NotZero (ltb room (length text)) _ _ (omega arith) tt

-- and so what a call leaves, with a scratch that is short or none
left_not : (out : List ℕ) (x : Result (List ℕ)) → NotZero x → NotZero (leaves out x).outcome
left_not out (accepted t) h = tt
left_not out (refused k l) h = h

call_not : (out : List ℕ) (short : Bool) (x : Result (List ℕ)) → NotZero x → NotZero (leaves out (unless_short short x)).outcome
call_not out short x h = left_not out (unless_short short x) (by_branch NotZero short _ _ (omega arith) h)

pub canon_not : (form : Form) (text out : List ℕ) (short : Bool) → NotZero (canon_call form text out short).outcome
unfolding canon canon_call
canon_not form text out short = call_not out short _ (then_not (table_of text) _ (table_not text) (λ t. fits_not (length out) (listing_text form t)))

pub canon_root_not : (text : List ℕ) (id s : ℕ) (out : List ℕ) (short : Bool) → NotZero (canon_root_call text id s out short).outcome
unfolding canon_root canon_root_call
canon_root_not text id s out short =
    call_not out short _
    (then_not (table_of text) _ (table_not text)
    (λ t. by_branch NotZero (ltb id (length t.entries)) _ _ (fits_not (length out) (root_text Plain t id s)) (omega arith)))

-- an old listing is refused with 11
next_not : {A : Type 0} (k : ℕ) (ls : List (List ℕ)) (f : List ℕ → List (List ℕ) → Result A) → ((l : List ℕ) (m : List (List ℕ)) → NotZero (f l m))
    → NotZero (next_line k ls f)
next_not k [] f h = omega arith
next_not k (l ∷ []) f h = omega arith
next_not k (l ∷ m ∷ ls) f h = h l (m ∷ ls)

module _ (names : ℕ) where
  node_not : (i : ℕ) (c : Taking) → NotZero (take_node names i c)
  node_not i c = next_not c.line c.rest _ (λ l ls. by_branch NotZero (node_in_form names i l) _ _ tt (omega arith))

  nodes_not : (i n : ℕ) (c : Taking) → NotZero (take_nodes names i n c)
  nodes_not i zero c = tt
  nodes_not i (suc n) c = then_not (take_node names i c) _ (node_not i c) (λ d. nodes_not (suc i) n d)

  after_not : (c : Taking) (n : Option ℕ) (k : ℕ) → NotZero (take_after names c n k)
  after_not c none k = omega arith
  after_not c (some n) k = nodes_not 0 n c

  root_not : (root : Root) (c : Taking) → NotZero (take_root names root c)
  root_not root c = next_not c.line c.rest _ (λ l ls. after_not (take_line c l ls) (nodes_after root (row_of head_kinds l)) c.line)

  end_not : (k : ℕ) (ls : List (List ℕ)) → NotZero (at_end k ls)
  end_not k [] = tt
  end_not k ([] ∷ []) = tt
  end_not k ((b ∷ l) ∷ []) = omega arith
  end_not k (l ∷ m ∷ ls) = omega arith

  roots_not : (roots : List Root) (c : Taking) → NotZero (take_roots names roots c)
  roots_not [] c = end_not c.line c.rest
  roots_not (r ∷ rs) c = then_not (take_root names r (blank c)) _ (root_not r (blank c)) (λ d. then_not (take_roots names rs d) _ (roots_not rs d) (λ ts. tt))

  numbered_not : (form : Form) (c : Taking) → NotZero (take_numbered form c)
  numbered_not Plain c = tt
  numbered_not Numbered c = next_not c.line c.rest _ (λ l ls. by_branch NotZero (eq_list l (ascii "numbered")) _ _ tt (omega arith))

  old_not : (form : Form) (roots : List Root) (text : List ℕ) → NotZero (old_listing form names roots text)
  unfolding old_listing
  old_not form roots text =
      by_branch NotZero (ltb most_text (length text)) _ _ (omega arith)
      (next_not 1 (pieces line_feed text) _
      (λ l ls. by_branch NotZero (is_answers (length roots) (row_of head_kinds l)) _ _
      (then_not (take_numbered form _) _ (numbered_not form _) (λ c. roots_not roots c)) (omega arith)))

pub recheck_not : (form : Form) (old new listing out : List ℕ) (short : Bool) → NotZero (recheck_call form old new listing out short).outcome
unfolding recheck recheck_call
recheck_not form old new listing out short =
    call_not out short _
    (then_not (table_of old) _ (table_not old)
    (λ t. then_not (table_of new) _ (table_not new)
    (λ u. by_branch NotZero (comparable t u) _ _
    (then_not (old_listing form (length u.names) u.roots listing) _ (old_not (length u.names) form u.roots listing)
    (λ texts. fits_not (length out) (recheck_text form t u texts)))
    (omega arith))))
