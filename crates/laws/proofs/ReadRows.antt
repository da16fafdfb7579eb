-- A pass over a table that is accepted stores nodes in the form of a listing, since its entries' numbers, codes and flags are within their
-- bounds, and its roots are as a listing writes them. Assumes nothing.
use mathlib.Core.Path.{◌≡◌, refl, sym, subst}
use mathlib.Core.Bool.{Bool, true, false}
use Prim.Native.Nat.{ℕ, suc, ◌≤◌, ◌<◌}
use native.Mathlib.Omega.{arith}
use mathlib.Core.List.{List, [], ◌∷◌, ◌++◌, map}
use lib.ListN.{length, get_or}
use lib.Dec.{ltb}
use borrow.Author.Tests.{ltb-true, ltb-false}
use Rattle.rules.specs.Plain.{ascending}
use Rattle.rules.specs.Ceilings.{most_names}
use Rattle.rules.specs.Text.{greatest}
use Rattle.rules.specs.Table.{Root, root_of, Entry, var, prim, tyvar, list, fn, set, neg, named, inter, union, frozen, field_keys, as_set, keys_in, aliases, keys_ascend}
use Rattle.rules.specs.Table.{Table, accepted, table_of, rep_in, representatives}
use Rattle.rules.specs.Canonicalizer.{reader_of, first_pass}
use Rattle.laws.proofs.Admitting.{both_parts, Accepts, each_at, in_sequence, WholeTable, whole, Every, EntryRow, Signed, every_at}
use Rattle.laws.proofs.Joining.{representative_below, representative_past}
use Rattle.laws.proofs.Accepting.{all_under, ranges, accepted_tabled, accepted_root}
use Rattle.laws.proofs.Forming.{FormedEntry, FormedPass}
use Rattle.laws.proofs.Filtering.{under_front, under_back}
use Rattle.laws.proofs.ReadLines.{ReadEntry}
use Rattle.cells.specs.Placed.{Under}

-- roots that are entries, with signs 0 or 1
abbrev pub KnownRoots : ℕ → List Root → Type 0
KnownRoots n [] = Unit {0}
KnownRoots n (r ∷ rs) = ((r.id < n) × (r.sign ≤ 1)) × KnownRoots n rs

-- an entry that is read, whose keys ascend and whose keys and name are names
entry_formed : (names : ℕ) (e : Entry) → names ≤ most_names → ReadEntry e → keys_ascend (as_set e) ≡ true → Under names (keys_in (as_set e) ++ aliases e) → FormedEntry names e
entry_formed names (var l u) h r a k = tt
entry_formed names (prim c) h r a k = r
entry_formed names (tyvar x) h r a k = r
entry_formed names (list c) h r a k = tt
entry_formed names (fn c d) h r a k = tt
entry_formed names (set s) h r a k =
    let b = both_parts (ascending (field_keys s.fields)) (λ _. ascending s.optional) a in
    let u = under_front names (field_keys s.fields ++ s.optional) [] k in
    record {
      ascend = b.0;
      named = under_front names (field_keys s.fields) s.optional u;
      optionals = b.1;
      others = under_back names (field_keys s.fields) s.optional u;
      opens = r;
    }
entry_formed names (neg c) h r a k = tt
entry_formed names (named m c) h r a k = let l = k.0 in omega arith
entry_formed names (inter c d) h r a k = tt
entry_formed names (union c d) h r a k = tt
entry_formed names frozen h r a k = r

module _ (text : List ℕ) (t : Table) (e : table_of text ≡ accepted t) where
  its_whole : WholeTable t
  its_whole = subst (Accepts WholeTable) e (whole text)

  rep_most : (id : ℕ) → id ≤ greatest → rep_in (representatives t) id ≤ greatest
  rep_most id h = turn (ltb id (length t.entries)) refl where
    turn : (b : Bool) → ltb id (length t.entries) ≡ b → rep_in (representatives t) id ≤ greatest
    turn true q = let l = representative_below t id (ltb-true id (length t.entries) q) in let m = its_whole.is.within.few in omega arith
    turn false q = let l = representative_past t id (ltb-false id (length t.entries) q) in omega arith

  entry_at : (id : ℕ) → id < length t.entries → FormedEntry (length t.names) (reader_of t id)
  entry_at id lt =
      let w = its_whole.is in
      entry_formed (length t.names) (reader_of t id) w.within.few_names
      (every_at EntryRow t.entries id its_whole.entries lt).read
      (each_at in_sequence t.entries id w.within.ascend lt)
      (all_under (length t.names) (keys_in (as_set (reader_of t id)) ++ aliases (reader_of t id)) (ranges t w id lt).1)

  pub few_names : length t.names ≤ most_names
  few_names = its_whole.is.within.few_names

  -- a pass over a table that is accepted stores nodes in form
  pub accepted_formed : FormedPass (length t.names) (first_pass t) (reader_of t)
  unfolding first_pass
  accepted_formed = record { tabled = accepted_tabled text t e; reps = rep_most; entries = entry_at }

  -- its roots are entries, and their signs 0 or 1
  pub roots_known : KnownRoots (length t.entries) t.roots
  roots_known =
      let w = its_whole in
      subst (KnownRoots n) (sym w.typed)
      (rooted w.rows (λ i lt. subst (λ (rs : List Root). i < length rs → (get_or rs i (root_of [])).id < n) w.typed (accepted_root text t e i) lt)
      w.signs) where
        n : ℕ
        n = length t.entries

        rooted : (rows : List (List ℕ)) → ((i : ℕ) → i < length (map root_of rows) → (get_or (map root_of rows) i (root_of [])).id < n) → Every Signed rows → KnownRoots n (map root_of rows)
        rooted [] f s = tt
        rooted (row ∷ rows) f s = ((f 0 (omega arith), s.0), rooted rows (λ i lt. f (suc i) (omega arith)) s.1)
