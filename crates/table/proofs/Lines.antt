-- A line, and all lines: what the rows come to is what the rules say. Assumes nothing.
use mathlib.Core.Path.{◌≡◌, refl, sym, ap, ap₂, ◌∙◌, subst}
use mathlib.Core.Bool.{true, false}
use Prim.Native.Nat.{ℕ, suc, ◌+◌, ◌-◌, ◌≤◌, ◌<◌, ◌^◌}
use native.Mathlib.Omega.{arith}
use native.Mathlib.Numerals.{add-one, lt_of_le_of_ne}
use mathlib.Core.List.{List, [], ◌∷◌}
use lib.ListN.{length, set, length-set}
use lib.Seq.{get_or-set_other}
use lib.Dec.{eqb}
use borrow.Author.Tests.{eqb-false}
use Rattle.cells.specs.Part.{cell}
use Rattle.layout.specs.Layout.{rows_at, table_words, table_length}
use Rattle.rules.specs.Ceilings.{most_text, most_ids}
use Rattle.rules.specs.Text.{Kind, pieces}
use Rattle.rules.specs.Table.{kinds, section_of, in_order, row_weight, add, frozen_entry, Reading, nothing, Admission, admitted, fault, admit, in_form, step, then, at_line, begun, lines}
use Rattle.rules.specs.Table as rules
use Rattle.std.specs.Prelude as std
use Rattle.std.specs.Prelude.{None, Some, Ok, Err}
use Rattle.rules.specs.declared.Refusal.{Refusal}
use Rattle.rules.specs.Refusals.{number}
use Rattle.rules.specs.declared.Refusal.TheVariants.{Form}
use Rattle.text.specs.Reads.{span, Seek, FieldRoom, Ends, got_words, Row}
use Rattle.text.specs.Keywords.{kinds_in}
use Rattle.text.proofs.Leaves.{cut_some}
use Rattle.text.proofs.Spans.{span_none, span_next, span_whole}
use denote.Enum.Bare.{sameb}
use Rattle.table.specs.contracts.judging.Section.{the_type}
use Rattle.table.specs.declared.judging.Progress.{Progress}
use Rattle.table.specs.declared.judging.Section.{Section}
use Rattle.table.specs.declared.judging.Section.TheVariants.{Budget, Names, Entries, Pairs, Marks, Roots}
use Rattle.table.specs.Rows.{most_lines, begin_at, number_of_section, stage_of, Few, count_row, over_by, ascends_by, Fine, advance_by, Admitted, Judged, table_at, budget_by, table_from, reading_of, taken_of, Layout}
use Rattle.table.specs.Rows.{Ready, Kinds, Went, Goes, Apart, Lined, untouched, Unread, Begun, Lines}
use Rattle.table.proofs.Verdicts.{stage_is}
use Rattle.table.proofs.Growing.{grown, fine_grown, laid_grown}
use Rattle.table.proofs.Admitting.{reading_same, layout_same, said, passed, admitted_by}
use mathlib.Core.Option.{Option}

-- a row by kinds that are a table's
pub row_by : {b s : List ℕ} {from to top : ℕ} {w w' : List ℕ} {r : std.Option ℕ} → Kinds b → Row (kinds_in b 16) s from to top w w' r → Row kinds s from to top w w' r
row_by {s = s} {from} {to} {top} {w} {w'} {r} h x = subst (λ (ks : List Kind). Row ks s from to top w w' r) h.are x

-- what is written of a row stands after the beginnings of rows
row_apart : {text w w' : List ℕ} {from to : ℕ} {p : Progress} {r : std.Option ℕ} → Ready text from to w p → Row kinds text from to p.top w w' r → Apart w w'
row_apart {p = p} h x = record {
  same_length = x.wrote.above.same_length;
  kept = λ k lt. x.wrote.above.below k (omega (arith, h.layout.behind p.lines (omega arith), h.layout.ends));
}

pub line_room : {text w : List ℕ} {from to : ℕ} {p : Progress} → Ready text from to w p → FieldRoom text from to w p.top
line_room h = record { order = h.order; within = omega (arith, h.ended); short = h.short; room = omega (arith, h.room, h.low, h.ended, h.short, h.order) }

module _ {text w w' : List ℕ} {from to : ℕ} {p : Progress} {r : std.Option ℕ} (h : Ready text from to w p) (x : Row kinds text from to p.top w w' r) where
  pub line_bad : r ≡ None → Lined text from to p w w' (Err Form)
  unfolding step
  line_bad e = record {
    is = ap (in_form (reading_of p w)) (ap (got_words p.top w') (sym e) ∙ x.wrote.is);
    goes = tt;
    apart = row_apart h x;
  }

-- what the rules say of a line, by its row
step_is : (text w w' : List ℕ) (from to : ℕ) (p : Progress) (r : std.Option ℕ) (t : ℕ) → Ready text from to w p → Row kinds text from to p.top w w' r → r ≡ Some t
    → admit (reading_of p w') (section_of (cell (span w' p.top t) 0)) (span w' p.top t) ≡ step (reading_of p w) (span text from to)
unfolding step
step_is text w w' from to p r t h x e =
    ap₂ {C = Admission} (λ (q : Reading) (m : Option (List ℕ)). in_form q m) (sym (reading_same p w w' h.fine h.layout x.wrote.above)) (ap (got_words p.top w') (sym e) ∙ x.wrote.is)

bounds : (text w w' : List ℕ) (from to : ℕ) (p : Progress) (r : std.Option ℕ) (t : ℕ) → Row kinds text from to p.top w w' r → r ≡ Some t → Ends p.top (to - from + 1) (Some t)
bounds text w w' from to p r t x e = subst (Ends p.top (to - from + 1)) e x.wrote.ends

module _ {text w w' : List ℕ} {from to : ℕ} {p : Progress} {r : std.Option ℕ} {t : ℕ} {v : std.Result Progress Refusal} (h : Ready text from to w p)
    (x : Row kinds text from to p.top w w' r) (e : r ≡ Some t) (j : Judged p w' t v) where
  ruled : admit (reading_of p w') (number_of_section j.section) (span w' p.top t) ≡ step (reading_of p w) (span text from to)
  ruled = ap (λ (s : ℕ). admit (reading_of p w') s (span w' p.top t)) j.of_kind ∙ step_is text w w' from to p r t h x e

  pub line_fault : {k : Refusal} → v ≡ Err k → Lined text from to p w w' (Err k)
  line_fault {k} q = record {
    is =
        ap (λ (o : std.Result Progress Refusal). said o (add (reading_of p w') (number_of_section j.section) (span w' p.top t))) (sym q ∙ j.is)
        ∙ admitted_by p w' t h.fine (layout_same p w w' h.fine h.layout x.wrote.above) j.section
        ∙ ruled;
    goes = tt;
    apart = row_apart h x;
  }

  module _ {q : Progress} (g : v ≡ Ok q) where
    told : Admitted p t (Ok q)
    told = subst (Admitted p t) g j.admitted

    how : (in_order (stage_of p) (number_of_section j.section) ≡ true)
        × (q ≡ advance_by p j.section (row_weight (number_of_section j.section) (span w' p.top t)) t)
    how =
        passed (in_order (stage_of p) (number_of_section j.section))
        (over_by (count_row p.table (number_of_section j.section))
        (p.ids + row_weight (number_of_section j.section) (span w' p.top t)) (number_of_section j.section) ((t - p.top) - 1))
        (ascends_by p w' t (number_of_section j.section))
        (eqb (cell (span w' p.top t) 0) frozen_entry)
        q
        (advance_by p j.section (row_weight (number_of_section j.section) (span w' p.top t)) t)
        (sym g ∙ j.is)

    fine : Fine q
    fine =
        let b = bounds text w w' from to p r t x e in
        let ids : p.ids + row_weight (number_of_section j.section) (span w' p.top t) ≤ most_ids = subst (λ (n : Progress). n.ids ≤ most_ids) how.1 told.few_ids in
        subst Fine (sym how.1)
        (fine_grown p h.fine (row_weight (number_of_section j.section) (span w' p.top t)) t j.section how.0
        (subst (λ (n : Progress). Few n.table) how.1 told.few) ids (omega (arith, b.1, h.low, h.ended, h.short, h.order)))

    pub line_small : t < 2 ^ 32
    line_small = let b = bounds text w w' from to p r t x e in omega (arith, b.1, h.low, h.ended, h.short, h.order)

    few_lines : p.lines + 1 ≤ most_lines
    few_lines = omega (arith, fine.few_lines, told.lines)

    room : table_length ≤ length w'
    room = omega (arith, h.room, x.wrote.above.same_length)

    pub line_near : rows_at + q.lines < 2 ^ 64
    line_near = omega (arith, fine.few_lines)

    pub line_taken : {w'' : List ℕ} → w'' ≡ set w' (rows_at + q.lines) t → Lined text from to p w w'' (Ok q)
    line_taken {w''} put =
        let lines-too : q.lines ≡ p.lines + 1 = told.lines in
        let b = bounds text w w' from to p r t x e in
        let layout : Layout p w' = layout_same p w w' h.fine h.layout x.wrote.above in
        let there : w'' ≡ set w' (rows_at + (p.lines + 1)) t = put ∙ ap (λ (n : ℕ). set w' (rows_at + n) t) lines-too in
        record {
          is =
              ap (λ (m : List ℕ). admitted (reading_of q m)) there
              ∙ ap (λ (n : Progress). admitted (reading_of n (set w' (rows_at + (p.lines + 1)) t))) how.1
              ∙ ap (λ (n : ℕ). admitted
              (record {
                stage = n;
                ids = p.ids + row_weight (number_of_section j.section) (span w' p.top t);
                table = table_at (budget_by n (set w' (rows_at + (p.lines + 1)) t)) (count_row p.table (number_of_section j.section)) (set w' (rows_at + (p.lines + 1)) t);
              }))
              (stage_is j.section)
              ∙ ap (λ (m : rules.Sections). admitted
              (record {
                stage = rules.stage_after (number_of_section j.section);
                ids = p.ids + row_weight (number_of_section j.section) (span w' p.top t);
                table = m;
              }))
              (sym (grown p w' t layout few_lines room h.fine j.section how.0))
              ∙ ap (λ (o : std.Result Progress Refusal). said o (add (reading_of p w') (number_of_section j.section) (span w' p.top t))) (sym g ∙ j.is)
              ∙ admitted_by p w' t h.fine layout j.section
              ∙ ruled;
          goes = record {
            fine = fine;
            layout = subst (Layout q) (sym there) (laid_grown p w' t layout few_lines room b.0 q lines-too told.top);
            low = omega (arith, b.1, h.low, h.order, told.top);
            lines = lines-too;
          };
          apart = record {
            same_length = ap length put ∙ length-set w' (rows_at + q.lines) t ∙ x.wrote.above.same_length;
            kept = λ k lt. ap (λ (l : List ℕ). cell l k) put ∙ get_or-set_other w' (rows_at + q.lines) k t 0 (omega arith) ∙ (row_apart h x).kept k lt;
          };
        }

-- the code's test for the budget's section
pub unbudgeted : (s : Section) → sameb the_type s Budget ≡ eqb (number_of_section s) 0
unbudgeted Budget = refl
unbudgeted Names = refl
unbudgeted Entries = refl
unbudgeted Pairs = refl
unbudgeted Marks = refl
unbudgeted Roots = refl

-- a line with a text after it
lines_next : (k : ℕ) (r : Reading) (l x : List ℕ) → lines k r (l ∷ pieces 10 x) ≡ then (at_line k (step r l)) (λ (q : Reading). lines (suc k) q (pieces 10 x))
unfolding pieces
lines_next k r l x = cut_some (λ (q : List (List ℕ)). lines k r (l ∷ q) ≡ then (at_line k (step r l)) (λ (z : Reading). lines (suc k) z q)) (λ p ps. refl) 10 [] x

-- the lines read so far stand as rows; with what is left they are the whole
pub record Walking (text w₀ w : List ℕ) (from : ℕ) (p : Progress) : Type 0 where
  pub fine : Fine p
  pub layout : Layout p w
  pub low : p.top ≤ table_words + from
  pub high : from ≤ length text
  pub room : table_length ≤ length w
  pub apart : Apart w₀ w
  pub is : lines (p.lines + 1) (reading_of p w) (pieces 10 (span text from (length text))) ≡ lines 1 nothing (pieces 10 text)

start : (text w : List ℕ) → Begun w → Walking text w w 0 untouched
start text w h = record {
  fine = record {
    few = record
        { names = omega arith; entries = omega arith; pairs = omega arith; marks = omega arith; roots = omega arith };
    few_ids = omega arith;
    low = omega arith;
    few_lines = omega arith;
    unbegun = λ e. refl;
    begun = λ e. absurd (e refl);
    no_names = λ e. refl;
    no_entries = λ e. refl;
    no_pairs = λ e. refl;
    no_marks = λ e. refl;
    no_roots = λ e. refl;
  };
  layout = record {
    ends = h.none_yet;
    order = λ i lt. omega arith;
    behind = λ i le. let e : i ≡ 0 = omega arith in let q = ap (begin_at w) e in omega (arith, h.none_yet);
    within = λ i le. let e : i ≡ 0 = omega arith in let q = ap (begin_at w) e in omega (arith, h.none_yet);
  };
  low = omega arith;
  high = omega arith;
  room = h.room;
  apart = record { same_length = refl; kept = λ k lt. refl };
  is = ap (λ (l : List ℕ). lines 1 nothing (pieces 10 l)) (span_whole text);
}

pub walk_start : {text w : List ℕ} {p : Progress} → Begun w → Unread p → Walking text w w 0 p
walk_start {text} {w} h e = subst (Walking text w w 0) (sym e.is) (start text w h)

module _ {text w₀ w : List ℕ} {from : ℕ} {p : Progress} (inv : Walking text w₀ w from p) where
  ended : length text ≤ from → begun (reading_of p w) (p.lines + 1) ≡ lines 1 nothing (pieces 10 text)
  unfolding pieces
  ended h = ap (λ (l : List ℕ). lines (p.lines + 1) (reading_of p w) (pieces 10 l)) (sym (span_none text from (length text) h)) ∙ inv.is

  pub walk_empty : length text ≤ from → eqb (stage_of p) 0 ≡ true → Lines text w₀ w (Err (record { refusal = Form; line = p.lines + 1 }))
  walk_empty h e = record { is = simp e at (ended h); laid = tt; apart = inv.apart }

  pub walk_done : length text ≤ from → eqb (stage_of p) 0 ≡ false → Lines text w₀ w (Ok p.table)
  unfolding table_from
  walk_done h e = record {
    is = simp e at (ended h);
    laid =
        let b = inv.fine.begun (eqb-false (stage_of p) 0 e) in
        record {
          few = inv.fine.few;
          order = λ i lt. inv.layout.order i (omega arith);
          behind = λ i le. inv.layout.behind i (omega arith);
          within = λ i le. omega (arith, inv.layout.within i (omega arith), inv.fine.low);
        };
    apart = inv.apart;
  }

  module _ {e : ℕ} (lt : from < length text) (k : Seek text from (length text) 10 e) where
    pub walk_unended : e ≡ length text → Lines text w₀ w (Err (record { refusal = Form; line = p.lines + 1 }))
    walk_unended h = record {
      is =
          sym (ap (lines (p.lines + 1) (reading_of p w)) (k.last h ∙ ap (λ (l : List ℕ). l ∷ []) (ap (span text from) h ∙ span_next text from (length text) lt)))
          ∙ inv.is;
      laid = tt;
      apart = inv.apart;
    }

    module _ (some_left : e ≡ length text → ⊥) where
      within : e < length text
      within = lt_of_le_of_ne k.high some_left

      pub walk_ready : length text ≤ most_text → Ready text from e w p
      walk_ready short = record { fine = inv.fine; layout = inv.layout; order = k.low; ended = within; short = short; low = inv.low; room = inv.room }

      module _ {w' : List ℕ} {v : std.Result Progress Refusal} (d : Lined text from e p w w' v) where
        walk_apart : Apart w₀ w'
        walk_apart = record { same_length = d.apart.same_length ∙ inv.apart.same_length; kept = λ i b. d.apart.kept i b ∙ inv.apart.kept i b }

        turn : (o : Admission) → taken_of v w' ≡ o
            → then (at_line (p.lines + 1) o) (λ (q : Reading). lines (suc (p.lines + 1)) q (pieces 10 (span text (e + 1) (length text))))
            ≡ lines 1 nothing (pieces 10 text)
        turn o q =
            ap (λ (z : Admission). then (at_line (p.lines + 1) z) (λ (q : Reading). lines (suc (p.lines + 1)) q (pieces 10 (span text (e + 1) (length text))))) (sym q ∙ d.is)
            ∙ sym (ap (lines (p.lines + 1) (reading_of p w)) (k.here within) ∙ lines_next (p.lines + 1) (reading_of p w) (span text from e) (span text (e + 1) (length text)))
            ∙ inv.is

        pub walk_fault : {n : Refusal} → v ≡ Err n → Lines text w₀ w' (Err (record { refusal = n; line = p.lines + 1 }))
        walk_fault {n} q = record { is = turn (fault (number n)) (ap (λ (o : std.Result Progress Refusal). taken_of o w') q); laid = tt; apart = walk_apart }

        pub walk_more : {q : Progress} → v ≡ Ok q → Walking text w₀ w' (e + 1) q
        walk_more {q} g =
            let went : Went p e w' q = subst (Goes p e w') g d.goes in
            record {
              fine = went.fine;
              layout = went.layout;
              low = went.low;
              high = let z = within in omega arith;
              room = omega (arith, d.apart.same_length, inv.room);
              apart = walk_apart;
              is =
                  ap (λ (n : ℕ). lines n (reading_of q w') (pieces 10 (span text (e + 1) (length text)))) (ap (λ (n : ℕ). n + 1) went.lines ∙ add-one (p.lines + 1))
                  ∙ turn (admitted (reading_of q w')) (ap (λ (o : std.Result Progress Refusal). taken_of o w') g);
            }
