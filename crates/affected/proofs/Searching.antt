-- Two tables that were read, with as many names and entries, have all that the search for redone roots relies on. Assumes nothing.
use mathlib.Core.Path.{◌≡◌, sym, ap, ap₂, ◌∙◌, subst}
use Prim.Native.Nat.{ℕ, ◌+◌, ◌≤◌, ◌<◌}
use native.Mathlib.Omega.{arith}
use mathlib.Core.List.{List, []}
use lib.ListN.{length, get_or}
use Rattle.cells.specs.Part.{cell}
use Rattle.cells.proofs.Parts.{run_get_d}
use Rattle.layout.specs.Layout.{rows_at, work_length}
use Rattle.rules.specs.Ceilings.{most_ids}
use Rattle.rules.specs.Table.{root_of, accepted, known, table_of}
use Rattle.rules.specs.Table as rules
use Rattle.rules.specs.Canonicalizer.{reader_of, first_pass}
use Rattle.laws.specs.Sound.{ids_of}
use Rattle.laws.proofs.Accepting.{accepted_tabled}
use Rattle.text.specs.Reads.{span}
use Rattle.table.specs.declared.Table.{Table}
use Rattle.std.specs.Prelude.{Ok}
use Rattle.table.specs.Rows.{Read}
use Rattle.storage.specs.declared.given.Canon.{Canon}
use Rattle.prepare.proofs.Prepares.{many, row_at_lem, reads_table}
use Rattle.prepare.specs.declared.Prepared.{Prepared}
use Rattle.prepare.specs.Prepares.{root_at, IsPrepared}
use Rattle.affected.specs.Reaches.{RowsAt, Searched, RootIds}

module _ (text w : List ℕ) (t : Table) (T : rules.Table) (r : Read text w (Ok t)) (e : table_of text ≡ accepted T) where
  rows_at_lem : (c : Canon) → c.count ≡ t.entries → c.base ≡ rows_at + 1 + t.names → RowsAt w c T
  rows_at_lem c count base =
      record {
        is = λ id lt.
            let first : rows_at + (1 + t.names + id) ≡ c.base + id = omega arith in
            let last : rows_at + (1 + t.names + id + 1) ≡ c.base + id + 1 = omega arith in
            row_at_lem text w t T r e id (omega arith) ∙ ap₂ (λ (a b : ℕ). span w (cell w a) (cell w b)) first last;
      }

  ids_few : (n : ℕ) → n ≡ t.entries → ids_of (reader_of T) 0 n ≤ most_ids
  unfolding first_pass
  ids_few n z = subst (λ (k : ℕ). ids_of (reader_of T) 0 k ≤ most_ids) (many text w t T r e ∙ sym z) (accepted_tabled text T e).ids

-- root i of a table that is prepared
pub root_at_lem : {text w : List ℕ} {t : Table} {T : rules.Table} {g : Prepared} → IsPrepared text t T w g → (i : ℕ) → i < g.roots
    → get_or T.roots i (root_of []) ≡ root_at w (g.first + i)
root_at_lem {w = w} {g = g} q i lt =
    ap (λ (rs : List rules.Root). get_or rs i (root_of [])) q.rooted ∙ run_get_d (root_at w) g.first g.roots i (root_of []) lt

pub root_ids : {text w : List ℕ} {t : Table} {T : rules.Table} {g : Prepared} → IsPrepared text t T w g
    → RootIds w g.canon.count g.first g.roots T.roots
root_ids q = record {
  is = λ i lt. sym (ap (λ (r : rules.Root). r.id) (root_at_lem q i lt));
  known = λ i lt. omega (arith, ap (λ (r : rules.Root). r.id) (root_at_lem q i lt), q.known i lt);
}

-- an old and a new table
pub searched : (text₁ old : List ℕ) (u : Table) (T₁ : rules.Table) → Read text₁ old (Ok u) → table_of text₁ ≡ accepted T₁
    → (text₂ table : List ℕ) (t : Table) (T₂ : rules.Table)
    → Read text₂ table (Ok t) → table_of text₂ ≡ accepted T₂ → u.names ≡ t.names → u.entries ≡ t.entries
    → (c : Canon) → c.count ≡ t.entries → c.base ≡ rows_at + 1 + t.names → (work : List ℕ) → work_length ≤ length work → Searched old table work c T₁ T₂
searched text₁ old u T₁ r₁ e₁ text₂ table t T₂ r₂ e₂ names entries c count base work room =
    let few = r₂.laid.few in
    record {
      compared = record {
        low = omega arith;
        before = rows_at_lem text₁ old u T₁ r₁ e₁ c (omega arith) (omega arith);
        after = rows_at_lem text₂ table t T₂ r₂ e₂ c count base;
      };
      reads = reads_table text₁ old u T₁ r₁ e₁ c (omega arith) (omega arith);
      entries = omega arith;
      ids = ids_few text₁ old u T₁ r₁ e₁ c.count (omega arith);
      room = room;
    }
