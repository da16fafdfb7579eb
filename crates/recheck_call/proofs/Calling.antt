-- Each way out of recheck comes to what the rules say. Assumes nothing.
use mathlib.Core.Path.{◌≡◌, refl, sym, ap, ap₂, subst, ◌∙◌}
use mathlib.Core.Bool.{Bool, true, false, not}
use Prim.Native.Nat.{ℕ, ◌+◌, ◌≤◌, ◌<◌}
use native.Mathlib.Omega.{arith}
use mathlib.Core.List.{List}
use lib.ListN.{length, get_or, length-map, replicate}
use lib.Dec.{ltb}
use borrow.Author.Tests.{ltb-false, lt-ltb, le-ltb, not-true, not-false}
use Rattle.cells.specs.Part.{if, cell, run}
use Rattle.cells.specs.Clears.{Clears}
use Rattle.cells.proofs.Parts.{run_length, run_ext, run_get_d}
use Rattle.layout.specs.Layout.{rows_at, table_length, line_length}
use Rattle.rules.specs.Plain.{unless}
use Rattle.rules.specs.Ceilings.{most_text, most_names, most_roots}
use Rattle.rules.specs.Table.{Root, Result, accepted, refused, then, table_of}
use Rattle.rules.specs.Table as rules
use Rattle.rules.specs.Canonicalizer.{first_pass}
use Rattle.rules.specs.Listing.{old_listing}
use Rattle.rules.specs.Calls.{fits, comparable, recheck_text, recheck, leaves, unless_short, recheck_call}
use Rattle.text.specs.Reads.{span, span_at}
use Rattle.table.specs.declared.Table.{Table}
use Rattle.rules.specs.declared.Fault.{Fault}
use Rattle.rules.specs.Refusals.{number}
use Rattle.table.specs.Rows.{row_at, table_from, Read, ReadInto}
use Rattle.prepare.specs.declared.Prepared.{Prepared}
use Rattle.prepare.specs.Prepares.{Number, FirstRoot, root_at, IsPrepared, Prepares}
use Rattle.prepare.proofs.Prepares.{same_table, many, read_kept}
use Rattle.prepare.proofs.Facts.{roots_are}
use Rattle.std.specs.Prelude.{Result as Ended, Ok, Err}
use Rattle.old_listing.specs.declared.LineAtFault.{LineAtFault}
use Rattle.old_listing.specs.Olds.{RootsAt, asked, old_of, Lies}
use Rattle.old_listing.specs.Olds.{Read as ReadOld}
use Rattle.compare.specs.Compares.{Comparable}
use Rattle.affected.specs.Reaches.{FlagsRedone}
use Rattle.compare.proofs.Comparing.{same_counts}
use Rattle.affected.proofs.Searching.{searched, root_ids}
use Rattle.lang_check.specs.Roots.{LentTo}
use Rattle.outcomes.specs.Outcomes.{Short, Says, Wiped}
use Rattle.rules.specs.declared.Form.{Form}
use Rattle.answers.specs.Runs.{Fresh}
use Rattle.answers.specs.Mixes.{OldLines, Noted}
use Rattle.answers.specs.Asks.{Delivers}
use Rattle.answers.specs.declared.asked.Asked.TheVariants.{Mixed}
use Rattle.outcomes.proofs.Promises.{long_enough, says_as, refused_as, called}
use Rattle.answers.proofs.Delivered.{refused_read, accepted_read}
use Rattle.answers.proofs.Running.{running_on, fresh_read, fresh_prepared}
use Rattle.recheck_call.specs.Rechecked.{recheck_short, Before, recheck_of, ComparesBoth, Answers, Rechecked}

-- the entries that are counted
counted : {text table : List ℕ} {t : Table} {T : rules.Table} {g : Prepared} → table_of text ≡ accepted T → IsPrepared text t T table g
    → g.canon.count ≡ t.entries
unfolding first_pass
counted {text} {table} {t} {T} e q = sym q.knows.count ∙ many text table t T q.read e

-- two tables with as many lines of each kind, and the old lines of the roots
pub record Flagged (form : Form) (listing out old table : List ℕ) (t : Table) (arena work out' : List ℕ) (r : Result ℕ) : Type 0 where
  pub is : {T₁ T₂ : rules.Table} {texts : List (List ℕ)} → Before T₁ t old → Fresh T₂ t table arena work → OldLines listing texts old t.roots
      → Says (leaves out (fits (length out) (recheck_text form T₁ T₂ texts))) out' r

-- prepared, flagged, and brought to the output
pub flagged : {form : Form} {listing out old table arena work table₁ old₁ work₁ out' : List ℕ} {t : Table} {g : Prepared} {r : Result ℕ}
    → Prepares table t table₁ g → length table₁ ≡ length table → FlagsRedone old table₁ work g.canon g.first g.roots old₁
    → length work₁ ≡ length work → Delivers listing out old₁ table₁ g arena work₁ (Mixed form) out' r → Flagged form listing out old table t arena work out' r
flagged {form} {listing} {out} {old} {table} {arena} {work} {table₁} {old₁} {work₁} {out'} {t} {g} {r} p l h lw s = record {
  is = λ {T₁} {T₂} {texts} b f lines.
      let q : IsPrepared f.text t T₂ table₁ g = p.is f.text T₂ f.read f.is f.lent.table f.zeros in
      let same = q.roots in
      let few : t.roots ≤ most_roots = q.read.laid.few.roots in
      let kept : (k : ℕ) → k ≤ g.roots → cell old₁ k ≡ cell old k = λ k le. h.before k (omega arith) in
      let noted : Noted T₁ T₂ listing texts old₁ g.roots =
      record {
        lines = record {
          are = run_ext (span_at listing old₁) (span_at listing old) 0 g.roots
              (λ k low lt. ap₂ {C = List ℕ} (span listing) (kept k (omega arith)) (kept (k + 1) (omega arith)))
              ∙ ap (run (span_at listing old) 0) same
              ∙ lines.are;
          within = λ i lt. omega (arith, kept (i + 1) (omega arith), lines.within i (omega arith));
          short = lines.short;
        };
        flags = h.is
            (searched b.text old t T₁ b.read b.is f.text table₁ t T₂ q.read f.is refl refl g.canon (counted f.is q) q.base
            work f.lent.work)
            (root_ids q) (omega (arith, b.long));
      } in
      s.is (recheck_text form T₁ T₂ texts) (running_on (fresh_prepared f p l) refl refl lw) (record { before = T₁; texts = texts; noted = noted; is = refl });
}

-- two tables that may be compared or not
module _ (form : Form) (T₁ T₂ : rules.Table) (listing : List ℕ) (room : ℕ) where
  abbrev listing_of : Result (List (List ℕ))
  listing_of = old_listing form (length T₂.names) T₂.roots listing

  abbrev fitting : Result (List (List ℕ)) → Result (List ℕ)
  fitting m = then m (λ (texts : List (List ℕ)). fits room (recheck_text form T₁ T₂ texts))

  apart_of : comparable T₁ T₂ ≡ false → recheck_of form T₁ T₂ listing room ≡ refused 10 0
  apart_of e = ap (λ (b : Bool). unless b (λ _. refused 10 0) (λ _. fitting listing_of)) e

  alike_of : comparable T₁ T₂ ≡ true → (m : Result (List (List ℕ))) → m ≡ listing_of → recheck_of form T₁ T₂ listing room ≡ fitting m
  alike_of e m f = ap (λ (b : Bool). unless b (λ _. refused 10 0) (λ _. fitting listing_of)) e ∙ ap fitting (sym f)

-- a listing that is taken is short enough
short_turn : {A : Type 0} (b : Bool) (x : Result A) (a : A) → accepted a ≡ if b (λ _. refused 11 0) (λ _. x) → b ≡ false
short_turn true x a e = absurd (let z : ◌≡◌ {A = ℕ} 0 1 = cc in omega arith)
short_turn false x a e = refl

listing_short : (form : Form) (names : ℕ) (rs : List Root) (s : List ℕ) (texts : List (List ℕ)) → accepted texts ≡ old_listing form names rs s → length s ≤ most_text
unfolding old_listing
listing_short form names rs s texts e = ltb-false most_text (length s) (short_turn (ltb most_text (length s)) _ texts e)

-- the names and the roots of a table that was read
names_many : (text w : List ℕ) (t : Table) (T : rules.Table) → Read text w (Ok t) → table_of text ≡ accepted T → length T.names ≡ t.names
unfolding table_from
names_many text w t T r e =
    ap (λ (u : rules.Table). length u.names) (same_table text w t T r e) ∙ length-map (run (row_at w) 1 t.names) _ ∙ run_length (row_at w) 1 t.names

roots_at : (text w : List ℕ) (t : Table) (T : rules.Table) {first n : ℕ} → Read text w (Ok t) → table_of text ≡ accepted T → FirstRoot t first
    → n ≡ t.roots → RootsAt T.roots w first n
roots_at text w t T {first} {n} r e f c =
    let from = rows_at + 1 + t.names + t.entries + t.pairs + t.marks in
    let are = roots_are text w t T r e in
    let place : first ≡ from = f.is r.laid.few in
    record {
      count = ap length are ∙ run_length (root_at w) from t.roots ∙ sym c;
      is = λ i lt.
          ap (λ (k : ℕ). root_at w (k + i)) place
          ∙ sym (ap (λ (rs : List Root). get_or rs i (asked 0 0)) are ∙ run_get_d (root_at w) from t.roots i (asked 0 0) (omega arith));
    }

-- what the test of two tables says
compared : {old table arena work : List ℕ} {u t : Table} {b c : Bool} → Comparable old u table t b → (T₁ T₂ : rules.Table) → Before T₁ u old
    → Fresh T₂ t table arena work → b ≡ c → comparable T₁ T₂ ≡ c
compared h T₁ T₂ o f e = sym (h.is o.read o.is f.read f.is) ∙ e

roots_counted : {T : rules.Table} {t : Table} {table arena work : List ℕ} {n : ℕ} → Fresh T t table arena work → Number t.roots n → n ≡ t.roots
roots_counted {t = t} f h = let few : t.roots ≤ most_roots = f.read.laid.few.roots in h.is (omega arith)

few_lines : {T : rules.Table} {t : Table} {table arena work : List ℕ} {n : ℕ} → Fresh T t table arena work → Number t.roots n → n ≤ most_roots
few_lines {t = t} f h = let few : t.roots ≤ most_roots = f.read.laid.few.roots in omega (arith, roots_counted f h)

-- what was read of the old listing is what the rules say
old_is : {form : Form} {listing old table arena work old₁ : List ℕ} {T : rules.Table} {t : Table} {names first n : ℕ} {a : Ended (Unit {0}) LineAtFault} → Fresh T t table arena work
    → Number t.names names → FirstRoot t first → Number t.roots n → ReadOld form listing names table first n old arena old₁ a
    → table_length ≤ length old → line_length ≤ length arena → (z : Ended (Unit {0}) LineAtFault) → a ≡ z → old_of z listing old₁ n ≡ old_listing form (length T.names) T.roots listing
old_is {form} {listing} {old} {table} {arena} {work} {old₁} {T} {t} {names} {first} {n} {a} f names-is first_is n-is q long line z e =
    let low = few_lines f n-is in
    let few : t.names ≤ most_names = f.read.laid.few.names in
    let same : names ≡ length T.names = names-is.is (omega arith) ∙ sym (names_many f.text table t T f.read f.is) in
    ap (λ (x : Ended (Unit {0}) LineAtFault). old_of x listing old₁ n) (sym e)
    ∙ q.is T.roots (roots_at f.text table t T f.read f.is first_is (roots_counted f n-is)) (omega arith) line
    ∙ ap (λ (k : ℕ). old_listing form k T.roots listing) same

-- each way out of `compare_both`
module _ {form : Form} {listing out old table arena work : List ℕ} {u t : Table} {b : Bool} (h : Comparable old u table t b) where
  pub not_comparable : not b ≡ true → ComparesBoth form listing out old u table t arena work out (refused 10 0)
  not_comparable e = record {
    is = λ {T₁} {T₂} o f l. refused_as out (apart_of form T₁ T₂ listing (length out) (compared h T₁ T₂ o f (not-true b e)));
  }

  module _ (yes : not b ≡ false) {names first n : ℕ} (names-is : Number t.names names) (first_is : FirstRoot t first) (n-is : Number t.roots n)
      {old₁ : List ℕ} {a : Ended (Unit {0}) LineAtFault} (q : ReadOld form listing names table first n old arena old₁ a) where
    pub refused_old : {g : LineAtFault} {k : ℕ} → g.0 ≡ k → a ≡ Err g → ComparesBoth form listing out old u table t arena work out (refused 11 k)
    refused_old {g} {k} d e = record {
      is = λ {T₁} {T₂} o f l.
          refused_as out
          (alike_of form T₁ T₂ listing (length out) (compared h T₁ T₂ o f (not-false b yes)) (refused 11 k)
          (ap (λ (m : ℕ). refused 11 m) (sym d) ∙ old_is f names-is first_is n-is q o.long l (Err g) e));
    }

    pub listed_both : {arena₁ out' : List ℕ} {r : Result ℕ} → a ≡ Ok tt → length old₁ ≡ length old → length arena₁ ≡ length arena
        → Flagged form listing out old₁ table t arena₁ work out' r → ComparesBoth form listing out old u table t arena work out' r
    listed_both {arena₁} {out'} {r} e lo la s = record {
      is = λ {T₁} {T₂} o f l.
          let few = few_lines f n-is in
          let same = roots_counted f n-is in
          let like = compared h T₁ T₂ o f (not-false b yes) in
          let counts : u ≡ t = same_counts o.read o.is f.read f.is like in
          let before : Before T₁ t old₁ =
          record {
            text = o.text;
            is = o.is;
            read = read_kept (subst (λ (v : Table). Read o.text old (Ok v)) counts o.read) (record { is = λ k le. q.kept k (omega arith) });
            long = omega (arith, o.long);
          } in
          let fresh : Fresh T₂ t table arena₁ work =
          record {
            text = f.text;
            is = f.is;
            read = f.read;
            zeros = f.zeros;
            lent = record { table = f.lent.table; arena = omega (arith, f.lent.arena); work = f.lent.work };
          } in
          let inside : (k : ℕ) → k ≤ n → cell old₁ k ≤ length listing =
          subst (λ (x : Ended (Unit {0}) LineAtFault). Lies x listing old₁ n) e (q.lies (omega (arith, o.long))) in
          let texts = run (span_at listing old₁) 0 n in
          let known = old_is f names-is first_is n-is q o.long l (Ok tt) e in
          let lines : OldLines listing texts old₁ t.roots =
          record {
            are = ap (run (span_at listing old₁) 0) (sym same);
            within = λ i lt. inside (i + 1) (omega arith);
            short = listing_short form (length T₂.names) T₂.roots listing texts known;
          } in
          says_as out (alike_of form T₁ T₂ listing (length out) like (accepted texts) known) (s.is before fresh lines);
    }

-- a new table, where the old one was accepted
pub record ReadsNew (form : Form) (newText listing out old : List ℕ) (u : Table) (table arena work out' : List ℕ) (r : Result ℕ) : Type 0 where
  pub is : {T₁ : rules.Table} → Before T₁ u old → LentTo table arena work → line_length ≤ length arena
      → Says (leaves out (then (table_of newText) (λ (T₂ : rules.Table). recheck_of form T₁ T₂ listing (length out)))) out' r

-- what was read of it after facts that were cleared
module _ {form : Form} {newText listing out old table arena work table₁ table₂ : List ℕ} {u : Table} where
  pub refused_new : {f : Fault} → ReadInto newText table₁ table₂ (Err f) → ReadsNew form newText listing out old u table arena work out (refused (number f.refusal) f.line)
  refused_new q = record {
    is = λ {T₁} o lent m.
        refused_as out (ap (λ (x : Result rules.Table). then x (λ (T₂ : rules.Table). recheck_of form T₁ T₂ listing (length out))) (refused_read q refl));
  }

  pub compared_new : {t : Table} {out' : List ℕ} {r : Result ℕ} → ReadInto newText table₁ table₂ (Ok t) → Clears table 0 rows_at table₁
      → length table₁ ≡ length table → ComparesBoth form listing out old u table₂ t arena work out' r → ReadsNew form newText listing out old u table arena work out' r
  compared_new q c l s = record {
    is = λ {T₁} o lent m.
        says_as out (ap (λ (x : Result rules.Table). then x (λ (T₂ : rules.Table). recheck_of form T₁ T₂ listing (length out))) (accepted_read q refl))
        (s.is o (fresh_read c l q refl lent) m);
  }

-- what the old table's text says
by_old : (form : Form) (oldText newText listing : List ℕ) (room : ℕ) (x : Result rules.Table) → table_of oldText ≡ x → recheck form oldText newText listing room
    ≡ then x (λ (T₁ : rules.Table). then (table_of newText) (λ (T₂ : rules.Table). recheck_of form T₁ T₂ listing room))
unfolding recheck
by_old form oldText newText listing room x e =
    ap (λ (m : Result rules.Table). then m (λ (T₁ : rules.Table). then (table_of newText) (λ (T₂ : rules.Table). recheck_of form T₁ T₂ listing room))) e

-- what the tests for a short scratch come to
tested : (draft old table arena work : List ℕ) {b c : Bool} → table_length ≤ length old
    → Short (length draft) (length table) (length arena) line_length (length work) b → b ≡ c → recheck_short draft old table arena work ≡ c
tested draft old table arena work room h e = rw (le-ltb (length old) table_length room) (sym h.is ∙ e)

-- each way out of `answer`; b is what the second test said
module _ {form : Form} {oldText newText listing out draft old table arena work : List ℕ} where
  answer_by : {out' : List ℕ} {r : Result ℕ} (c : Bool) → recheck_short draft old table arena work ≡ c
      → Says (leaves out (unless_short c (recheck form oldText newText listing (length out)))) out' r
      → Answers form oldText newText listing out draft old table arena work out' r
  unfolding recheck_call
  answer_by {out'} {r} c e s = record {
    is = subst (λ (x : Bool). Says (leaves out (unless_short x (recheck form oldText newText listing (length out)))) out' r) (sym e) s;
  }

  pub short_old : length old < table_length → Answers form oldText newText listing out draft old table arena work out (refused 20 0)
  short_old h = answer_by true (simp (lt-ltb (length old) table_length h)) (record { outcome = refl; output = refl })

  pub short_answer : {b : Bool} → table_length ≤ length old → Short (length draft) (length table) (length arena) line_length (length work) b → b ≡ true
      → Answers form oldText newText listing out draft old table arena work out (refused 20 0)
  short_answer room h e = answer_by true (tested draft old table arena work room h e) (record { outcome = refl; output = refl })

  module _ (room : table_length ≤ length old) {b : Bool} (h : Short (length draft) (length table) (length arena) line_length (length work) b)
      (long : b ≡ false) {old₁ : List ℕ} where
    pub refused_answer : {f : Fault} → ReadInto oldText old old₁ (Err f) → Answers form oldText newText listing out draft old table arena work out (refused (number f.refusal) f.line)
    refused_answer {f} q =
        answer_by false (tested draft old table arena work room h long)
        (refused_as out (by_old form oldText newText listing (length out) (refused (number f.refusal) f.line) (refused_read q refl)))

    pub new_answer : {u : Table} {out' : List ℕ} {r : Result ℕ} → ReadInto oldText old old₁ (Ok u) → ReadsNew form newText listing out old₁ u table arena work out' r
        → Answers form oldText newText listing out draft old table arena work out' r
    new_answer {u} q s =
        let n = long_enough h long in
        let is = accepted_read q refl in
        let before : Before (rules.from_sections (table_from u old₁)) u old₁ =
        record { text = oldText; is = is; read = q.read; long = omega (arith, q.apart.same_length) } in
        answer_by false (tested draft old table arena work room h long)
        (says_as out (by_old form oldText newText listing (length out) _ is)
        (s.is before (record { table = n.0; arena = omega (arith, n.1); work = n.2 }) n.1))

-- what `recheck_in` comes to
pub rechecked : {form : Form} {oldText newText listing out draft old table arena work draft₁ table₁ arena₁ work₁ out' draft' old' table' arena' work' : List ℕ} {n : ℕ}
    {r : Result ℕ} → Answers form oldText newText listing out draft old table arena work out' r
    → length draft₁ ≡ length draft → n ≡ length old → length table₁ ≡ length table → length arena₁ ≡ length arena → length work₁ ≡ length work
    → old' ≡ replicate n 0 → Wiped draft₁ table₁ arena₁ work₁ draft' table' arena' work'
    → Rechecked form oldText newText listing out draft old table arena work out' draft' old' table' arena' work' r
rechecked s d o t a w zo z = record { called = called s.is d t a w z; old_zero = record { is = zo ∙ ap (λ (k : ℕ). replicate k 0) o } }
