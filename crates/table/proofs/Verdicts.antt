-- Sections, counts, ceilings, and what is said of a row. Assumes nothing.
use mathlib.Core.Path.{◌≡◌, refl, sym, ap, ap₂, ◌∙◌}
use mathlib.Core.Bool.{Bool, true, false}
use Prim.Native.Nat.{ℕ, zero, suc, ◌+◌, ◌-◌, ◌≤◌, ◌<◌}
use native.Mathlib.Omega.{arith}
use mathlib.Core.List.{List}
use lib.ListN.{get_or-eq_default}
use lib.Dec.{eqb}
use borrow.Author.Tests.{eq-eqb, ne_eqb}
use Rattle.cells.specs.Part.{cell}
use Rattle.rules.specs.Plain.{before}
use Rattle.rules.specs.Text.{Kind, no_kind}
use Rattle.rules.specs.Table.{kinds, section_of, row_weight, stage_after}
use Rattle.text.specs.Reads.{span}
use Rattle.table.specs.declared.judging.Progress.{Progress}
use Rattle.table.specs.declared.judging.Section.{Section}
use Rattle.table.specs.declared.judging.Section.TheVariants.{Budget, Names, Entries, Pairs, Marks, Roots}
use Rattle.std.specs.Prelude.{Ok, Err}
use Rattle.rules.specs.declared.Refusal.TheVariants.{Form, Ceiling, Ascent, Frozen}
use Rattle.table.specs.Rows.{Begin, At, number_of_section, stage_of, section_after, SectionOf, Before, count_row, over_by, Over, InOrder}
use Rattle.table.specs.Rows.{NameAscends, Ascends, RowWeight, Size, advance_by, Advanced, Judged}

module _ {kind : ℕ} where
  pub section_is : {s : Section} (k : ℕ) → kind ≡ k → number_of_section s ≡ section_of k → SectionOf kind s
  section_is k e q = record { is = q ∙ ap section_of (sym e) }

  pub section_none : 16 ≤ kind → SectionOf kind Budget
  unfolding section_of
  section_none h = record { is = sym (ap (λ (k : Kind). k.section) (get_or-eq_default kinds no_kind h)) }

-- the kinds of entries stand together
section_entry : (j : ℕ) → j < 11 → 2 ≡ section_of (2 + j)
unfolding section_of
section_entry zero h = refl
section_entry (suc zero) h = refl
section_entry (suc (suc zero)) h = refl
section_entry (suc (suc (suc zero))) h = refl
section_entry (suc (suc (suc (suc zero)))) h = refl
section_entry (suc (suc (suc (suc (suc zero))))) h = refl
section_entry (suc (suc (suc (suc (suc (suc zero)))))) h = refl
section_entry (suc (suc (suc (suc (suc (suc (suc zero))))))) h = refl
section_entry (suc (suc (suc (suc (suc (suc (suc (suc zero)))))))) h = refl
section_entry (suc (suc (suc (suc (suc (suc (suc (suc (suc zero))))))))) h = refl
section_entry (suc (suc (suc (suc (suc (suc (suc (suc (suc (suc zero)))))))))) h = refl
section_entry (suc (suc (suc (suc (suc (suc (suc (suc (suc (suc (suc n))))))))))) h = omega arith

pub section_entries : {kind : ℕ} → 2 ≤ kind → kind ≤ 12 → SectionOf kind Entries
section_entries {kind} a b = section_is (2 + (kind - 2)) (omega arith) (section_entry (kind - 2) (omega arith))

module _ {p : Progress} {w : List ℕ} {to : ℕ} where
  pub name_first : p.table.names ≡ 0 → NameAscends p w to true
  name_first e = record { is = simp (eq-eqb p.table.names 0 e) }

  pub name_after_lem : {a : ℕ} {b : Bool} → (p.table.names ≡ 0 → ⊥) → Begin w p.table.names a → Before w (a + 1) p.top (p.top + 1) to b → NameAscends p w to b
  name_after_lem {a} e q h = record { is = simp (ne_eqb p.table.names 0 e) (h.is ∙ ap (λ (x : ℕ). before (span w (x + 1) p.top) (span w (p.top + 1) to)) q.is) }

pub stage_is : (s : Section) → number_of_section (section_after s) ≡ stage_after (number_of_section s)
stage_is Budget = refl
stage_is Names = refl
stage_is Entries = refl
stage_is Pairs = refl
stage_is Marks = refl
stage_is Roots = refl

-- a row judged
section_kind : {w : List ℕ} {from to kind : ℕ} {s : Section} → At w from to 0 kind → SectionOf kind s → number_of_section s ≡ section_of (cell (span w from to) 0)
section_kind k z = z.is ∙ ap section_of k.is

over_is : (p q : Progress) (w : List ℕ) (to : ℕ) (s : Section) (x size : ℕ) (b : Bool) → RowWeight w p.top to (number_of_section s) x → Advanced p s x to q
    → Size p.top to size → Over q.table q.ids (number_of_section s) size b
    → b ≡ over_by (count_row p.table (number_of_section s)) (p.ids + row_weight (number_of_section s) (span w p.top to)) (number_of_section s) ((to - p.top) - 1)
over_is p q w to s x size b r v n y =
    y.is
    ∙ ap₂ {C = Bool} (λ (m : Progress) (l : ℕ). over_by m.table m.ids (number_of_section s) l) v.is n.is
    ∙ ap (λ (m : ℕ). over_by (count_row p.table (number_of_section s)) (p.ids + m) (number_of_section s) ((to - p.top) - 1)) r.is

kind_test : (w : List ℕ) (from to kind : ℕ) (d : Bool) → At w from to 0 kind → eqb kind 12 ≡ d → eqb (cell (span w from to) 0) 12 ≡ d
kind_test w from to kind d k g = ap (λ (m : ℕ). eqb m 12) (sym k.is) ∙ g

module _ {p : Progress} {w : List ℕ} {to kind : ℕ} {s : Section} {a : Bool} (k : At w p.top to 0 kind) (z : SectionOf kind s)
    (o : InOrder (stage_of p) (number_of_section s) a) where
  pub judge_1 : a ≡ false → Judged p w to (Err Form)
  judge_1 h = record { section = s; of_kind = section_kind k z; is = simp (sym o.is ∙ h); admitted = tt }

  module _ {x size : ℕ} {q : Progress} {b : Bool} (h : a ≡ true) (r : RowWeight w p.top to (number_of_section s) x) (v : Advanced p s x to q) (n : Size p.top to size)
      (y : Over q.table q.ids (number_of_section s) size b) where
    pub judge_2 : b ≡ true → Judged p w to (Err Ceiling)
    judge_2 e = record { section = s; of_kind = section_kind k z; is = simp (sym o.is ∙ h, sym (over_is p q w to s x size b r v n y) ∙ e); admitted = tt }

    module _ {c : Bool} (e : b ≡ false) (u : Ascends p w to (number_of_section s) c) where
      pub judge_4 : c ≡ false → Judged p w to (Err Ascent)
      judge_4 f = record {
        section = s;
        of_kind = section_kind k z;
        is = simp (sym o.is ∙ h, sym (over_is p q w to s x size b r v n y) ∙ e, sym u.is ∙ f);
        admitted = tt;
      }

      module _ (f : c ≡ true) where
        pub judge_5 : eqb kind 12 ≡ true → Judged p w to (Err Frozen)
        judge_5 g = record {
          section = s;
          of_kind = section_kind k z;
          is = simp (sym o.is ∙ h, sym (over_is p q w to s x size b r v n y) ∙ e, sym u.is ∙ f, kind_test w p.top to kind true k g);
          admitted = tt;
        }

        pub judge_taken : eqb kind 12 ≡ false → Judged p w to (Ok q)
        judge_taken g = record {
          section = s;
          of_kind = section_kind k z;
          is =
              simp (sym o.is ∙ h, sym (over_is p q w to s x size b r v n y) ∙ e, sym u.is ∙ f, kind_test w p.top to kind false k g)
              (ap (λ (m : Progress). Ok m) v.is ∙ ap (λ (m : ℕ). Ok (advance_by p s m to)) r.is);
          admitted = record { few = y.few e; few_ids = y.few_ids e; lines = ap (λ (m : Progress). m.lines) v.is; top = ap (λ (m : Progress). m.top) v.is };
        }
