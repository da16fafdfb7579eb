-- The whole text: its lines, then the ranges of its ids and names. Assumes nothing.
use mathlib.Core.Path.{◌≡◌, refl, sym, ap, ◌∙◌, subst}
use Prim.Native.Nat.{ℕ, ◌+◌, ◌≤◌, ◌<◌}
use native.Mathlib.Omega.{arith}
use mathlib.Core.List.{List}
use lib.ListN.{length, set, length-set}
use lib.Seq.{get_or-set_same, get_or-set_other}
use lib.Dec.{ltb}
use borrow.Author.Tests.{lt-ltb, le-ltb}
use Rattle.cells.specs.Part.{run, cell}
use Rattle.cells.proofs.Parts.{run_length}
use Rattle.layout.specs.Layout.{rows_at, table_words, table_length}
use Rattle.rules.specs.Ceilings.{most_text}
use Rattle.rules.specs.Table.{entry_of, in_range, Result, accepted, refused, then, known, in_table, sections_of}
use Rattle.rules.specs.Table as rules
use Rattle.table.specs.declared.Table.{Table}
use Rattle.std.specs.Prelude as std
use Rattle.std.specs.Prelude.{Ok, Err}
use Rattle.rules.specs.declared.Refusal.TheVariants.{Ceiling}
use Rattle.rules.specs.declared.Fault.{Fault}
use Rattle.table.specs.Rows.{begin_at, Few, row_at, bare, table_from, outcome, Laid, LaidBy, Apart, Started, Lines, verdict, EntriesKnown, RootsKnown, Known, ReadInto}
use Rattle.table.proofs.Admitting.{bare_length}
use Rattle.table.proofs.Knowing.{entry_test, root_test, root_row}

pub read_long : {text w : List ℕ} → most_text < length text → ReadInto text w w (Err (record { refusal = Ceiling; line = 0 }))
unfolding sections_of
read_long {text} h = record { read = record { is = simp (lt-ltb most_text (length text) h); laid = tt }; apart = record { same_length = refl; kept = λ k lt. refl } }

pub started : {w w' : List ℕ} → table_length ≤ length w → w' ≡ set w rows_at table_words → Started w w'
started {w} h put = record {
  begun = record {
    room = let l = ap length put ∙ length-set w rows_at table_words in omega arith;
    none_yet = ap (λ (l : List ℕ). begin_at l 0) put ∙ get_or-set_same w rows_at table_words 0 (omega arith);
  };
  apart = record {
    same_length = ap length put ∙ length-set w rows_at table_words;
    kept = λ k lt. ap (λ (l : List ℕ). cell l k) put ∙ get_or-set_other w rows_at k table_words 0 (omega arith);
  };
}

pub read_few : {text w w' : List ℕ} {a : std.Result Table Fault} {t : Table} → Lines text w w' a → a ≡ Ok t → Few t
read_few {text} {w} {w'} {a} {t} h e = let l : Laid t w' = subst (λ (r : std.Result Table Fault). LaidBy r w') e h.laid in l.few

-- the ranges, by the counts
in_table_lem : (t : Table) (w : List ℕ) → in_table (table_from t w)
    ≡ then (known (entry_test t) (2 + t.names) (run (row_at w) (1 + t.names) t.entries))
    (λ _. then (known (root_test t) (2 + t.names + t.entries + t.pairs + t.marks) (bare (run (row_at w) (root_row t) t.roots))) (λ _. accepted (table_from t w)))
unfolding in_table table_from
in_table_lem t w =
    let names = bare_length w 1 t.names in
    let entries = run_length (row_at w) (1 + t.names) t.entries in
    let pairs = bare_length w (1 + t.names + t.entries) t.pairs in
    let marks = bare_length w (1 + t.names + t.entries + t.pairs) t.marks in
    λ i.
    then (known (λ (row : List ℕ). in_range (entries i) (names i) (entry_of row)) (2 + names i) (run (row_at w) (1 + t.names) t.entries))
    (λ _. then (known (λ (row : List ℕ). ltb (cell row 0) (entries i)) (2 + names i + entries i + pairs i + marks i) (bare (run (row_at w) (root_row t) t.roots)))
    (λ _. accepted (table_from t w)))

abbrev roots_then : Table → List ℕ → Result rules.Sections
roots_then t w = then (known (root_test t) (2 + t.names + t.entries + t.pairs + t.marks) (bare (run (row_at w) (root_row t) t.roots))) (λ _. accepted (table_from t w))

module _ {w : List ℕ} {t : Table} {b : std.Result (Unit {0}) Fault} (x : EntriesKnown w t b) where
  first : {c : std.Result (Unit {0}) Fault} → b ≡ c → then (verdict c) (λ _. roots_then t w) ≡ in_table (table_from t w)
  first q = ap (λ (m : Result (Unit {0})). then m (λ _. roots_then t w)) (ap verdict (sym q) ∙ x.is) ∙ sym (in_table_lem t w)

  pub known_no : {e : Fault} → b ≡ Err e → Known w t (Err e)
  known_no q = record { is = first q }

  pub known_yes : {u : Unit {0}} {r : std.Result (Unit {0}) Fault} → b ≡ Ok u → RootsKnown w t r → Known w t r
  known_yes q y = record { is = ap (λ (m : Result (Unit {0})). then m (λ _. accepted (table_from t w))) y.is ∙ first q }

module _ {text w w₁ w' : List ℕ} {a : std.Result Table Fault} (short : length text ≤ most_text) (s : Started w w₁) (h : Lines text w₁ w' a) where
  whole : sections_of text ≡ then (outcome a w') in_table
  unfolding sections_of
  whole = simp (le-ltb most_text (length text) short) (ap (λ (r : Result rules.Sections). then r in_table) (sym h.is))

  apart : Apart w w'
  apart = record { same_length = h.apart.same_length ∙ s.apart.same_length; kept = λ k lt. h.apart.kept k lt ∙ s.apart.kept k lt }

  pub read_no : {f : Fault} → a ≡ Err f → ReadInto text w w' (Err f)
  read_no {f} e = record { read = record { is = sym (whole ∙ ap (λ (r : std.Result Table Fault). then (outcome r w') in_table) e); laid = tt }; apart = apart }

  module _ {t : Table} (e : a ≡ Ok t) where
    laid : Laid t w'
    laid = subst (λ (r : std.Result Table Fault). LaidBy r w') e h.laid

    module _ {r : std.Result (Unit {0}) Fault} (y : Known w' t r) where
      ranged : {v : std.Result (Unit {0}) Fault} → r ≡ v → then (verdict v) (λ _. accepted (table_from t w')) ≡ sections_of text
      ranged q =
          ap (λ (v : std.Result (Unit {0}) Fault). then (verdict v) (λ _. accepted (table_from t w'))) (sym q)
          ∙ y.is
          ∙ sym (whole ∙ ap (λ (r : std.Result Table Fault). then (outcome r w') in_table) e)

      pub read_out : {f : Fault} → r ≡ Err f → ReadInto text w w' (Err f)
      read_out q = record { read = record { is = ranged q; laid = tt }; apart = apart }

      pub read_yes : {u : Unit {0}} → r ≡ Ok u → ReadInto text w w' (Ok t)
      read_yes q = record { read = record { is = ranged q; laid = laid }; apart = apart }
