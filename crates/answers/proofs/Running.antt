-- A root's lines are written from its answer; what a table that was read and prepared is. Assumes nothing.
use mathlib.Core.Path.{◌≡◌, sym, ap, subst, ◌∙◌}
use Prim.Native.Nat.{ℕ, ◌+◌, ◌≤◌, ◌<◌}
use native.Mathlib.Omega.{arith}
use mathlib.Core.List.{List, [], ◌∷◌}
use lib.ListN.{length}
use lib.Seq.{ext_get_or}
use borrow.Author.Tests.{eq-eqb, ne_eqb}
use Rattle.cells.specs.Part.{cell, run}
use Rattle.cells.proofs.Parts.{run_length}
use Rattle.cells.specs.Clears.{Clears}
use Rattle.layout.specs.Layout.{rows_at, work_length}
use Rattle.rules.specs.Ceilings.{most_roots}
use Rattle.rules.specs.Text.{greatest}
use Rattle.rules.specs.Table as rules
use Rattle.rules.specs.Types.{polarity_of}
use Rattle.rules.specs.Canonicalizer.{refused_with, first_pass, reader_of, canonicalize, answer_of}
use Rattle.rules.specs.Canonicalizer as runs
use Rattle.laws.specs.Sound.{most_root_text}
use Rattle.rules.specs.Listing.{answer_text, root_text}
use Rattle.rules.specs.Variables.{answer_in}
use Rattle.rules.specs.declared.Form.{Form}
use Rattle.rules.specs.declared.Polarity.{Polarity}
use Rattle.rules.specs.declared.Polarity.TheVariants.{Positive, Negative}
use Rattle.laws.proofs.Bounding.{Numbers, modest_in, below_in, root_bounded, refused_bounded}
use Rattle.table.specs.declared.Table.{Table}
use Rattle.std.specs.Prelude as std
use Rattle.std.specs.Prelude.{Ok}
use Rattle.rules.specs.declared.Fault.{Fault}
use Rattle.table.specs.Rows.{table_from, Read, ReadInto}
use Rattle.prepare.specs.declared.Prepared.{Prepared}
use Rattle.prepare.specs.Prepares.{root_at, Prepares}
use Rattle.prepare.proofs.Prepares.{many}
use Rattle.prepare.proofs.Facts.{run_places}
use Rattle.lang_ty.specs.declared.arena.Shown.{Shown}
use Rattle.lang_check.specs.RootAnswer.{RootAnswer}
use Rattle.lang_check.specs.RootAnswer.{Shown as ShownR, Refused}
use Rattle.lang_check.specs.Roots.{LentTo, NonePreserved, ShownIs, RootBy, Canonicalizes}
use Rattle.listing.specs.Writes.{Wrote}
use Rattle.listing.specs.Printed.{WroteRoot}
use Rattle.answers.specs.Runs.{PolarityIs, Running, Bounded, WritesRoot, Fresh}
use Rattle.answers.proofs.Delivered.{accepted_read}
use Rattle.answers.proofs.Bounds.{modest}

pub positive_is : {sign : ℕ} → sign ≡ 0 → PolarityIs sign Positive
positive_is {sign} e = record { is = simp (eq-eqb sign 0 e) }

pub negative_is : {sign : ℕ} → (sign ≡ 0 → ⊥) → PolarityIs sign Negative
negative_is {sign} e = record { is = simp (ne_eqb sign 0 e) }

-- between two runs: the table is as it was, and the others are as long
pub running_on : {T : rules.Table} {g : Prepared} {table table' arena arena' work work' : List ℕ} → Running T g table arena work → table' ≡ table
    → length arena' ≡ length arena → length work' ≡ length work → Running T g table' arena' work'
running_on {T} {g} {table} {table'} {arena} {arena'} {work} {work'} u e a w =
    subst (λ (t : List ℕ). Running T g t arena' work') (sym e)
    (record {
      text = u.text;
      counts = u.counts;
      prepared = u.prepared;
      lent = record { table = u.lent.table; arena = omega (arith, u.lent.arena); work = omega (arith, u.lent.work) };
    })

-- one root, run
module _ {table arena work table' arena' work' : List ℕ} {g : Prepared} {id sign : ℕ} {pol : Polarity} {answer : RootAnswer}
    (c : Canonicalizes table g.canon arena work id pol table' arena' work' answer) (h : PolarityIs sign pol) where
  none_preserved : {T : rules.Table} → Running T g table arena work → NonePreserved table g.canon.count
  none_preserved u = record { is = u.prepared.none }

  table_kept : {T : rules.Table} → length table' ≡ length table → Running T g table arena work → table' ≡ table
  table_kept l u = ext_get_or 0 table' table l (λ i lt. c.kept (none_preserved u) i)

  answer_is : {T : rules.Table} → Running T g table arena work → id < g.canon.count → RootBy (answer_of T id (polarity_of sign)) arena' answer
  unfolding answer_of
  answer_is {T} u lt =
      subst (λ (x : Polarity). RootBy (canonicalize (first_pass T) (reader_of T) id x) arena' answer) h.is
      (c.is u.prepared.knows u.prepared.tabled u.lent (none_preserved u) lt).is

  pub root_shown : {form : Form} {s : Shown} {p r : ℕ} {o o' : List ℕ} → answer ≡ ShownR s → length table' ≡ length table → length work' ≡ length work
      → ((k : ℕ) → cell arena' k ≤ greatest) → Numbers (id ∷ sign ∷ s.passes ∷ s.ops ∷ [])
      → WroteRoot arena' work' form id sign s p o o' r
      → WritesRoot table g arena work form p id sign o table' o' r
  unfolding root_text
  root_shown {form} {s} {p} {r} {o} {o'} e l lw cells numbers w = record {
    is = λ {T} u lt.
        let a : ShownIs (answer_of T id (polarity_of sign)) arena' s =
        subst (RootBy (answer_of T id (polarity_of sign)) arena') e (answer_is u lt) in
        let long : work_length ≤ length work' = omega (arith, u.lent.work) in
        subst (λ (x : runs.Answer). Bounded most_root_text (answer_text id sign (answer_in form x)) p o o' r) (sym a.is)
        (record {
          wrote = w.is a.arena a.below long;
          short = root_bounded (modest_in form _ s.node (modest arena' cells a.arena)) (below_in form _ a.below) s.sorted s.bailed numbers;
        });
    kept = table_kept l;
  }

  pub root_refused : {form : Form} {k p r : ℕ} {o o' : List ℕ} → answer ≡ Refused k → length table' ≡ length table → Numbers (id ∷ sign ∷ k ∷ [])
      → Wrote (answer_text id sign (refused_with k)) p o o' r → WritesRoot table g arena work form p id sign o table' o' r
  unfolding root_text
  root_refused {form} {k} {p} {r} {o} {o'} e l numbers w = record {
    is = λ {T} u lt.
        let a : answer_of T id (polarity_of sign) ≡ refused_with k = subst (RootBy (answer_of T id (polarity_of sign)) arena') e (answer_is u lt) in
        subst (λ (x : runs.Answer). Bounded most_root_text (answer_text id sign (answer_in form x)) p o o' r) (sym a)
        (record { wrote = w; short = refused_bounded numbers });
    kept = table_kept l;
  }

-- a table that was read after facts that were cleared, and accepted
pub fresh_read : {text table table₁ table₂ arena work : List ℕ} {a : std.Result Table Fault} {t : Table} → Clears table 0 rows_at table₁ → length table₁ ≡ length table
    → ReadInto text table₁ table₂ a → a ≡ Ok t → LentTo table arena work → Fresh (rules.from_sections (table_from t table₂)) t table₂ arena work
fresh_read {text} {table₂ = table₂} c l q f lent =
    record {
      text = text;
      is = accepted_read q f;
      read = subst (Read text table₂) f q.read;
      zeros = λ k lt. q.apart.kept k lt ∙ c.zero k (omega arith) (omega arith);
      lent = record { table = omega (arith, lent.table, q.apart.same_length); arena = lent.arena; work = lent.work };
    }

-- a table that was accepted, prepared
module _ {T : rules.Table} {t : Table} {table arena work : List ℕ} (f : Fresh T t table arena work) where
  pub entries_many : length T.entries ≡ t.entries
  entries_many = many f.text table t T f.read f.is

  pub fresh_prepared : {table' : List ℕ} {g : Prepared} → Prepares table t table' g → length table' ≡ length table → Running T g table' arena work
  fresh_prepared p l =
      record {
        text = f.text;
        counts = t;
        prepared = p.is f.text T f.read f.is f.lent.table f.zeros;
        lent = record { table = omega (arith, f.lent.table); arena = f.lent.arena; work = f.lent.work };
      }

-- the roots of a table that is prepared, by their rows
pub roots_read : {T : rules.Table} {g : Prepared} {table arena work : List ℕ} → Running T g table arena work
    → T.roots ≡ run (λ (i : ℕ). root_at table (g.first + i)) 0 g.roots
roots_read {g = g} {table = table} u = u.prepared.rooted ∙ sym (run_places (root_at table) g.first 0 g.first g.roots (omega arith))

pub roots_many : {T : rules.Table} {g : Prepared} {table arena work : List ℕ} → Running T g table arena work → length T.roots ≡ g.roots
roots_many {g = g} u = ap length (roots_read u) ∙ run_length _ 0 g.roots

pub few_roots : {T : rules.Table} {g : Prepared} {table arena work : List ℕ} → Running T g table arena work → g.roots ≤ most_roots
few_roots u = omega (arith, u.prepared.roots, u.prepared.read.laid.few.roots)
