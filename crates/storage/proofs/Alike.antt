-- Entries in a slice that is alike from a place on. Assumes nothing.
use mathlib.Core.Path.{◌≡◌, sym, ap, ◌∙◌, subst}
use Prim.Native.Nat.{ℕ, ◌+◌, ◌≤◌}
use native.Mathlib.Omega.{arith}
use mathlib.Core.List.{List}
use lib.ListN.{length}
use Rattle.cells.specs.Part.{cell}
use Rattle.cells.proofs.Parts.{run_ext}
use Rattle.layout.specs.Layout.{rows_at}
use Rattle.rules.specs.Table.{Entry, var, prim, tyvar, list, fn, set, neg, named, inter, union, frozen, kids}
use Rattle.rules.specs.Canonicalizer.{Reader}
use Rattle.storage.specs.declared.given.Canon.{Canon}
use Rattle.storage.specs.Passes.{ListAt, RestAt, EntryAt, Reads}
use Rattle.cells.specs.Placed.{Holds, Under}

pub record Alike (b : ℕ) (w w' : List ℕ) : Type 0 where
  pub is : (k : ℕ) → b ≤ k → cell w' k ≡ cell w k

module _ {w w' : List ℕ} {b : ℕ} (e : Alike b w w') where
  holds_alike : {a : ℕ} {xs : List ℕ} → b ≤ a → Holds w a xs → Holds w' a xs
  holds_alike {a} {xs} le h = record { is = run_ext (cell w') (cell w) a (length xs) (λ k p q. e.is k (omega arith)) ∙ h.is }

  list_alike : {l : ℕ} {xs : List ℕ} → b ≤ l → ListAt w l xs → ListAt w' l xs
  list_alike {l} le h = record { count = e.is l le ∙ h.count; holds = holds_alike (omega arith) h.holds; fits = h.fits }

  one_alike : {a x : ℕ} (k : ℕ) → b ≤ a → cell w (a + k) ≡ x → cell w' (a + k) ≡ x
  one_alike {a} k le h = e.is (a + k) (omega arith) ∙ h

  rest_alike : {a : ℕ} (en : Entry) → b ≤ a → RestAt w a en → RestAt w' a en
  rest_alike (var l u) le r = record { lowers = list_alike (omega arith) r.lowers; uppers = list_alike (omega arith) r.uppers }
  rest_alike (prim c) le r = one_alike 1 le r
  rest_alike (tyvar x) le r = one_alike 1 le r
  rest_alike (list x) le r = one_alike 1 le r
  rest_alike (fn x y) le r = (one_alike 1 le r.0, one_alike 2 le r.1)
  rest_alike (set t) le r = record { words = holds_alike (omega arith) r.words; fits = r.fits }
  rest_alike (neg x) le r = one_alike 1 le r
  rest_alike (named n x) le r = (one_alike 1 le r.0, one_alike 2 le r.1)
  rest_alike (inter x y) le r = (one_alike 1 le r.0, one_alike 2 le r.1)
  rest_alike (union x y) le r = (one_alike 1 le r.0, one_alike 2 le r.1)
  rest_alike frozen le r = tt

  entry_alike : {a : ℕ} (en : Entry) → b ≤ a → EntryAt w a en → EntryAt w' a en
  entry_alike {a} en le h = record { kind = e.is a le ∙ h.kind; fits = h.fits; rest = rest_alike en le h.rest }

-- a table whose facts alone differ is read alike
pub reads_alike : {table table' : List ℕ} {c d : Canon} {t : Reader} → d.count ≡ c.count → d.base ≡ c.base → Alike rows_at table table'
    → Reads table c t → Reads table' d t
reads_alike {table} {table'} {c} {d} {t} n f e r =
    record {
      first = omega (arith, r.first);
      behind = λ id lt. omega (arith, place id, r.behind id (omega arith));
      entry = λ id lt. subst (λ (a : ℕ). EntryAt table' a (t id)) (sym (place id)) (entry_alike e (t id) (r.behind id (omega arith)) (r.entry id (omega arith)));
      known = λ id lt. subst (λ (m : ℕ). Under m (kids (t id))) (sym n) (r.known id (omega arith));
    }
  where
    place : (id : ℕ) → cell table' (d.base + id) ≡ cell table (c.base + id)
    place id = ap (λ (a : ℕ). cell table' (a + id)) f ∙ e.is (c.base + id) (omega (arith, r.first))
