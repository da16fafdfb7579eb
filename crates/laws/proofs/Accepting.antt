-- What a table that is accepted says of a pass. Assumes nothing.
use mathlib.Core.Path.{◌≡◌, sym, ap, ◌∙◌, subst}
use mathlib.Core.Bool.{true}
use Prim.Native.Nat.{ℕ, suc, ◌+◌, ◌≤◌, ◌<◌}
use native.Mathlib.Omega.{arith}
use mathlib.Core.List.{List, [], ◌∷◌, ◌++◌}
use lib.ListN.{length, get_or, length-map, get_or-map}
use lib.Dec.{ltb}
use borrow.Author.Tests.{ltb-true}
use Rattle.cells.specs.Part.{cell}
use Rattle.rules.specs.Plain.{ascending}
use Rattle.rules.specs.Ceilings.{most_names, most_ids}
use Rattle.rules.specs.Table.{Attr, Entry, field_keys, kids, as_set, keys_in, aliases, keys_ascend, entry_of, Root, Table, root_of, accepted, all_below, table_of}
use Rattle.rules.specs.Canonicalizer.{Reader, reader_of, first_pass}
use Rattle.laws.specs.Sound.{OrderlySet, ids_of, Tabled}
use Rattle.laws.proofs.Ascending.{ascending_few}
use Rattle.laws.proofs.Admitting.{both_parts, Accepts, each_at, in_sequence, weights, range_in, root_in, Whole, WholeTable, whole}
use Rattle.laws.proofs.Joining.{representative_below}
use Rattle.laws.proofs.Filtering.{under_front, under_back, under_most}
use Rattle.cells.specs.Placed.{Under}
use mathlib.Core.Option.{Option, none, some}

pub all_under : (n : ℕ) (xs : List ℕ) → all_below n xs ≡ true → Under n xs
all_under n [] h = tt
all_under n (x ∷ xs) h = let b = both_parts (ltb x n) (λ _. all_below n xs) h in (ltb-true x n b.0, all_under n xs b.1)

-- a set whose keys ascend and are names
orderly_set : (n : ℕ) (m : Option Attr) → n ≤ most_names → keys_ascend m ≡ true → Under n (keys_in m) → OrderlySet m
orderly_set n none le h u = tt
orderly_set n (some a) le h u =
    let b = both_parts (ascending (field_keys a.fields)) (λ _. ascending a.optional) h in
    record {
      ascend = b.0;
      named = under_most _ _ (field_keys a.fields) le (under_front n (field_keys a.fields) a.optional u);
      few = ascending_few most_names a.optional b.1 (under_most _ _ a.optional le (under_back n (field_keys a.fields) a.optional u));
      optional = b.1;
    }

-- ids are among what is weighed
ids_weighed : (t : Reader) (i : ℕ) (rows : List (List ℕ)) → ((j : ℕ) → t (i + j) ≡ entry_of (get_or rows j []))
    → ids_of t i (length rows) ≤ weights rows
ids_weighed t i [] h = omega arith
ids_weighed t i (row ∷ rows) h =
    let r = ids_weighed t (suc i) rows (λ j. let z : suc i + j ≡ i + suc j = omega arith in ap t z ∙ h (suc j)) in
    let z : i ≡ i + 0 = omega arith in
    let y = ap (λ (e : Entry). length (kids e)) (ap t z ∙ h 0) in omega arith

-- what the tests of a row say of its entry
module _ (t : Table) {rs : List (List ℕ)} (w : Whole t.names t.entries rs) (id : ℕ) (lt : id < length t.entries) where
  abbrev here : Entry
  here = reader_of t id

  pub ranges : (all_below (length t.entries) (kids here) ≡ true) × (all_below (length t.names) (keys_in (as_set here) ++ aliases here) ≡ true)
  ranges =
      both_parts (all_below (length t.entries) (kids here)) (λ _. all_below (length t.names) (keys_in (as_set here) ++ aliases here))
      (each_at (range_in t.names t.entries) t.entries id w.range lt)

  kids_known : Under (length t.entries) (kids here)
  kids_known = all_under (length t.entries) (kids here) ranges.0

  keys_orderly : OrderlySet (as_set here)
  keys_orderly =
      let n = length t.names in
      orderly_set n (as_set here) w.within.few_names (each_at in_sequence t.entries id w.within.ascend lt)
      (under_front n (keys_in (as_set here)) (aliases here) (all_under n (keys_in (as_set here) ++ aliases here) ranges.1))

ids_few : (t : Table) {rs : List (List ℕ)} → Whole t.names t.entries rs → ids_of (reader_of t) 0 (length t.entries) ≤ most_ids
ids_few t w =
    let r = ids_weighed (reader_of t) 0 t.entries (λ j. let z : 0 + j ≡ j = omega arith in ap (reader_of t) z) in
    let m = w.within.ids in omega arith

whole_tabled : (t : Table) {rs : List (List ℕ)} → Whole t.names t.entries rs → Tabled (first_pass t) (reader_of t)
unfolding first_pass
whole_tabled t w =
    record { few = w.within.few; known = kids_known t w; orderly = keys_orderly t w; reps = representative_below t; ids = ids_few t w }

-- a pass over a table that is accepted finds entries at its ids and representatives, sets in order, and all within the ceilings
pub accepted_tabled : (text : List ℕ) (t : Table) → table_of text ≡ accepted t → Tabled (first_pass t) (reader_of t)
accepted_tabled text t e = whole_tabled t (subst (Accepts WholeTable) e (whole text)).is

-- and its roots are entries
pub accepted_root : (text : List ℕ) (t : Table) → table_of text ≡ accepted t → (i : ℕ) → i < length t.roots
    → (get_or t.roots i (root_of [])).id < length t.entries
accepted_root text t e i lt =
    let w = subst (Accepts WholeTable) e (whole text) in
    let many = ap length w.typed ∙ length-map w.rows root_of in
    let row = ltb-true (cell (get_or w.rows i []) 0) (length t.entries) (each_at (root_in t.entries) w.rows i w.is.rooted (omega arith)) in
    subst (λ (r : Root). r.id < length t.entries) (sym (ap (λ (rs : List Root). get_or rs i (root_of [])) w.typed ∙ get_or-map root_of w.rows i [])) row
