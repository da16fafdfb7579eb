-- What a text that was read says of its table, and a text brought to the output. Assumes nothing.
use mathlib.Core.Path.{◌≡◌, sym, ap, ap₂, subst, ◌∙◌}
use mathlib.Core.Bool.{Bool}
use Prim.Native.Nat.{ℕ, ◌≤◌}
use mathlib.Core.List.{List, ◌++◌}
use lib.ListN.{length, take, drop}
use lib.Seq.{take-append_seam}
use native.Mathlib.Omega.{arith}
use borrow.Author.Tests.{le-ltb}
use Rattle.cells.specs.Part.{if}
use Rattle.rules.specs.Table.{Sections, Result, accepted, refused, then, sections_of, from_sections, table_of}
use Rattle.rules.specs.Calls.{fits, leaves}
use Rattle.table.specs.Rows.{table_from, outcome, ReadInto}
use Rattle.table.specs.declared.Table.{Table}
use Rattle.std.specs.Prelude as std
use Rattle.std.specs.Prelude.{Ok, Err}
use Rattle.rules.specs.declared.Fault.{Fault}
use Rattle.rules.specs.Refusals.{number}
use Rattle.listing.proofs.Texts.{over_whole}
use Rattle.outcomes.specs.Outcomes.{Copies, Says}
use Rattle.answers.specs.Asks.{Text}

-- what the sections of a text say of its table
table_of_lem : (text : List ℕ) {s : Result Sections} → sections_of text ≡ s → table_of text ≡ then s (λ (u : Sections). accepted (from_sections u))
unfolding table_of
table_of_lem text e = ap (λ (s : Result Sections). then s (λ (u : Sections). accepted (from_sections u))) e

-- what a text that was read says of its table
pub refused_read : {text w w' : List ℕ} {a : std.Result Table Fault} {f : Fault} → ReadInto text w w' a → a ≡ Err f → table_of text ≡ refused (number f.refusal) f.line
refused_read {text} {w} {w'} q e = table_of_lem text (sym q.read.is ∙ ap (λ (x : std.Result Table Fault). outcome x w') e)

pub accepted_read : {text w w' : List ℕ} {a : std.Result Table Fault} {t : Table} → ReadInto text w w' a → a ≡ Ok t → table_of text ≡ accepted (from_sections (table_from t w'))
accepted_read {text} {w} {w'} q e = table_of_lem text (sym q.read.is ∙ ap (λ (x : std.Result Table Fault). outcome x w') e)

-- what a text of that size comes to
module _ (text out : List ℕ) where
  pub in_place : {out' : List ℕ} {size : ℕ} → size ≡ length text → size ≤ length out → out' ≡ text ++ drop (length text) out
      → Says (leaves out (fits (length out) text)) out' (accepted size)
  in_place {out'} {size} e h f =
      let z : length text ≤ length out = omega arith in
      subst (λ (b : Bool). Says (leaves out (if b (λ _. refused 12 0) (λ _. accepted text))) out' (accepted size)) (sym (le-ltb (length out) (length text) z))
      (record { outcome = ap (λ (n : ℕ). accepted n) e; output = f })

  -- written once more, straight into the output
  pub written_anew : {out' : List ℕ} {size r : ℕ} → size ≡ length text → size ≤ length out → Text text out out' r
      → Says (leaves out (fits (length out) text)) out' (accepted size)
  written_anew e h w = in_place e h (w.is ∙ over_whole out text (omega arith))

  -- copied from a draft
  pub copied_out : {out' blank draft : List ℕ} {size : ℕ} → Text text blank draft size → size ≤ length out → size ≤ length draft → length draft ≡ length blank
      → Copies out draft size out' → Says (leaves out (fits (length out) text)) out' (accepted size)
  copied_out {out'} {blank} {draft} {size} w h long l c =
      let e = w.size in
      let d : draft ≡ text ++ drop (length text) blank = w.is ∙ over_whole blank text (omega arith) in
      in_place e h
      (c.is
      ∙ ap₂ {C = List ℕ} (λ (k : ℕ) (x : List ℕ). take k x ++ drop k out) e d
      ∙ ap (λ (x : List ℕ). x ++ drop (length text) out) (take-append_seam text (drop (length text) blank)))
