-- What the table's reader leaves is what a run reads: each entry's row stands in the words, its ids are entries. Assumes nothing.
use mathlib.Core.Path.{◌≡◌, sym, ap, ap₂, ◌∙◌, subst}
use Prim.Native.Nat.{ℕ, suc, ◌+◌, ◌-◌, ◌≤◌, ◌<◌}
use native.Mathlib.Omega.{arith}
use mathlib.Core.List.{List, [], ◌∷◌}
use lib.ListN.{length, get_or, length-append}
use Rattle.cells.specs.Part.{cell, part, run}
use Rattle.cells.proofs.Parts.{run_length, run_get_d, run_ext}
use Rattle.cells.proofs.Holding.{holds_head, holds_tail, holds_left, holds_right}
use Rattle.layout.specs.Layout.{rows_at, table_length}
use Rattle.rules.specs.Table.{Entry, var, prim, tyvar, list, fn, set, neg, named, inter, union, frozen, kids, entry_of, Result, accepted, then, known, from_sections, table_of}
use Rattle.rules.specs.Table as rules
use Rattle.rules.specs.Canonicalizer.{reader_of, first_pass}
use Rattle.laws.proofs.Admitting.{Accepts, Every, every_at, EntryRow, Formed, WholeS, sections_whole}
use Rattle.laws.proofs.Accepting.{accepted_tabled}
use Rattle.laws.proofs.ReadLines.{rest_words, row_words}
use Rattle.text.specs.Reads.{span}
use Rattle.text.proofs.Spans.{span_length}
use Rattle.table.specs.declared.Table.{Table}
use Rattle.std.specs.Prelude.{Ok}
use Rattle.table.specs.Rows.{begin_at, row_at, bare, table_from, rows, Read}
use Rattle.table.proofs.Growing.{built}
use Rattle.storage.specs.declared.given.Canon.{Canon}
use Rattle.storage.specs.Passes.{RestAt, EntryAt, Reads}
use Rattle.storage.proofs.Alike.{Alike}
use Rattle.cells.specs.Placed.{Holds, Under}

-- a span of words stands where it begins
holds_span : {w xs : List ℕ} (a b : ℕ) → span w a b ≡ xs → Holds w a xs
holds_span {w} {xs} a b e = record { is = ap (part w a) (sym (ap length e) ∙ span_length w a b) ∙ e }

-- where the parts of an entry stand whose row stands from a on
module _ {w : List ℕ} {a : ℕ} where
  first_at : {x : ℕ} {xs : List ℕ} → Holds w (suc a) (x ∷ xs) → cell w (a + 1) ≡ x
  first_at h = ap (cell w) (omega arith) ∙ holds_head h

  second_at : {x y : ℕ} {xs : List ℕ} → Holds w (suc a) (x ∷ y ∷ xs) → cell w (a + 2) ≡ y
  second_at h = ap (cell w) (omega arith) ∙ holds_head (holds_tail h)

  rest_at : (e : Entry) → Holds w (suc a) (rest_words e) → suc a + length (rest_words e) ≤ 4294967295 → RestAt w a e
  rest_at (var l u) h le =
      let long = length-append l (length u ∷ u) in
      let both = holds_tail h in
      let up = holds_right l (length u ∷ u) both in
      record {
        lowers = record { count = holds_head h; holds = holds_left l (length u ∷ u) both; fits = omega arith };
        uppers = record { count = holds_head up; holds = holds_tail up; fits = omega arith };
      }
  rest_at (prim c) h le = first_at h
  rest_at (tyvar x) h le = first_at h
  rest_at (list x) h le = first_at h
  rest_at (fn x y) h le = (first_at h, second_at h)
  rest_at (set t) h le = record { words = h; fits = le }
  rest_at (neg x) h le = first_at h
  rest_at (named n x) h le = (first_at h, second_at h)
  rest_at (inter x y) h le = (first_at h, second_at h)
  rest_at (union x y) h le = (first_at h, second_at h)
  rest_at frozen h le = tt

-- the entry of a shaped row that stands in the words
entry_at : (w row : List ℕ) (a b : ℕ) → row ≡ span w a b → a ≤ table_length → b ≤ table_length → EntryRow row → EntryAt w a (entry_of row)
entry_at w row a b e low high s =
    let words : span w a b ≡ row_words (entry_of row) = sym e ∙ s.is in
    let h : Holds w a (row_words (entry_of row)) = holds_span a b words in
    let long = sym (ap length words) ∙ span_length w a b in
    record { kind = holds_head h; fits = omega arith; rest = rest_at (entry_of row) (holds_tail h) (omega arith) }

-- what was read stands in a slice whose facts alone differ
module _ {text w w' : List ℕ} {t : Table} (r : Read text w (Ok t)) (h : Alike rows_at w w') where
  begin_kept : (i : ℕ) → begin_at w' i ≡ begin_at w i
  begin_kept i = h.is (rows_at + i) (omega arith)

  row_kept : (i : ℕ) → i < rows t → row_at w' i ≡ row_at w i
  row_kept i lt =
      ap₂ {C = List ℕ} (span w') (begin_kept i) (begin_kept (i + 1))
      ∙ run_ext (cell w') (cell w) (begin_at w i) (begin_at w (i + 1) - begin_at w i) (λ k low high. h.is k (omega (arith, r.laid.behind i (omega arith))))

  rows_kept : (a n : ℕ) → a + n ≤ rows t → run (row_at w') a n ≡ run (row_at w) a n
  rows_kept a n le = run_ext (row_at w') (row_at w) a n (λ k low high. row_kept k (omega arith))

  table_kept : table_from t w' ≡ table_from t w
  unfolding table_from
  table_kept =
      built (ap (λ (row : List ℕ). cell row 1) (row_kept 0 (omega arith)))
      (ap bare (rows_kept 1 t.names (omega arith)))
      (rows_kept (1 + t.names) t.entries (omega arith))
      (ap bare (rows_kept (1 + t.names + t.entries) t.pairs (omega arith)))
      (ap bare (rows_kept (1 + t.names + t.entries + t.pairs) t.marks (omega arith)))
      (ap bare (rows_kept (1 + t.names + t.entries + t.pairs + t.marks) t.roots (omega arith)))

  pub read_kept : Read text w' (Ok t)
  read_kept = record {
    is = ap (λ (u : rules.Sections). accepted u) table_kept ∙ r.is;
    laid = record {
      few = r.laid.few;
      order = λ i lt. omega (arith, begin_kept i, begin_kept (i + 1), r.laid.order i lt);
      behind = λ i le. omega (arith, begin_kept i, r.laid.behind i le);
      within = λ i le. omega (arith, begin_kept i, r.laid.within i le);
    };
  }

module _ (text w : List ℕ) (t : Table) (T : rules.Table) (r : Read text w (Ok t)) (e : table_of text ≡ accepted T) where
  pub same_table : T ≡ from_sections (table_from t w)
  unfolding table_of
  same_table =
      let z : accepted (from_sections (table_from t w)) ≡ accepted T =
      ap (λ (s : Result rules.Sections). then s (λ (u : rules.Sections). accepted (from_sections u))) r.is ∙ e in cc

  pub rows_formed : Formed (table_from t w)
  rows_formed = (subst (Accepts WholeS) (sym r.is) (sections_whole text)).formed

  entries_run : T.entries ≡ run (row_at w) (1 + t.names) t.entries
  unfolding table_from
  entries_run = ap (λ (u : rules.Table). u.entries) same_table

  pub many : length T.entries ≡ t.entries
  many = ap length entries_run ∙ run_length (row_at w) (1 + t.names) t.entries

  pub row_at_lem : (id : ℕ) → id < t.entries → get_or T.entries id [] ≡ row_at w (1 + t.names + id)
  row_at_lem id lt =
      ap (λ (l : List (List ℕ)). get_or l id []) entries_run ∙ run_get_d (row_at w) (1 + t.names) t.entries id [] lt

  entries_at : (id : ℕ) → id < t.entries → EntryAt w (begin_at w (1 + t.names + id)) (reader_of T id)
  entries_at id lt =
      let m = many in
      let low = r.laid.within (1 + t.names + id) (omega arith) in
      let high = r.laid.within (1 + t.names + id + 1) (omega arith) in
      entry_at w (get_or T.entries id []) (begin_at w (1 + t.names + id)) (begin_at w (1 + t.names + id + 1)) (row_at_lem id lt) low high
      (every_at EntryRow T.entries id (subst (λ (u : rules.Table). Every EntryRow u.entries) (sym same_table) rows_formed.entries) (omega arith))

  ids_known : (id : ℕ) → id < length T.entries → Under (length T.entries) (kids (reader_of T id))
  unfolding first_pass
  ids_known = (accepted_tabled text T e).known

  -- what a run reads of a table that was read and accepted
  pub reads_table : (c : Canon) → c.count ≡ t.entries → c.base ≡ rows_at + 1 + t.names → Reads w c (reader_of T)
  reads_table c count base =
      let place : (id : ℕ) → rows_at + (1 + t.names + id) ≡ c.base + id = λ id. omega arith in
      record {
        first = omega arith;
        behind = λ id lt. omega (arith, ap (cell w) (place id), r.laid.behind (1 + t.names + id) (omega arith));
        entry = λ id lt. subst (λ (k : ℕ). EntryAt w (cell w k) (reader_of T id)) (place id) (entries_at id (omega arith));
        known = λ id lt. let m = many in subst (λ (n : ℕ). Under n (kids (reader_of T id))) (many ∙ sym count) (ids_known id (omega arith));
      }
