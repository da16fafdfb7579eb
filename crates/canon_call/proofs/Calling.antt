-- Each way out of canon and canon_root comes to what the rules say. Assumes nothing.
use mathlib.Core.Path.{◌≡◌, refl, sym, ap, subst, ◌∙◌}
use mathlib.Core.Bool.{Bool, true, false}
use Prim.Native.Nat.{ℕ}
use native.Mathlib.Omega.{arith}
use mathlib.Core.List.{List}
use lib.ListN.{length}
use lib.Dec.{leb}
use borrow.Author.Tests.{leb-true, leb-false, lt-ltb, le-ltb}
use Rattle.cells.specs.Clears.{Clears}
use Rattle.layout.specs.Layout.{rows_at, arena_length}
use Rattle.rules.specs.Table.{Result, accepted, refused, table_of}
use Rattle.rules.specs.Table as rules
use Rattle.rules.specs.Canonicalizer.{first_pass}
use Rattle.rules.specs.Listing.{root_text, listing_text}
use Rattle.rules.specs.declared.Form.{Form}
use Rattle.rules.specs.declared.Form.TheVariants.{Plain}
use Rattle.rules.specs.Calls.{fits, canon, canon_root, leaves, unless_short}
use Rattle.table.specs.declared.Table.{Table}
use Rattle.rules.specs.declared.Fault.{Fault}
use Rattle.rules.specs.Refusals.{number}
use Rattle.std.specs.Prelude.{Ok, Err}
use Rattle.table.specs.Rows.{table_from, ReadInto}
use Rattle.prepare.specs.declared.Prepared.{Prepared}
use Rattle.prepare.specs.Prepares.{Prepares}
use Rattle.outcomes.specs.Outcomes.{Short, Says, Wiped}
use Rattle.answers.specs.Runs.{Running, Fresh}
use Rattle.answers.specs.Asks.{AskedText, Delivers}
use Rattle.answers.specs.declared.asked.Asked.{Asked}
use Rattle.answers.specs.declared.asked.Asked.TheVariants.{All, Root, Mixed}
use Rattle.outcomes.proofs.Promises.{long_enough, says_as, refused_as, called}
use Rattle.answers.proofs.Delivered.{refused_read, accepted_read}
use Rattle.answers.proofs.Running.{fresh_read, entries_many, fresh_prepared}
use Rattle.canon_call.specs.Called.{no_entry, IsNoEntry, CallOf, Answers, Calls}

-- each way out of `is_no_entry`
module _ {t : Table} {asked : Asked} where
  pub all_known : {form : Form} → asked ≡ All form → IsNoEntry t asked false
  all_known e = record { is = sym (ap (no_entry t.entries) e) }

  pub mixed_known : {form : Form} → asked ≡ Mixed form → IsNoEntry t asked false
  mixed_known e = record { is = sym (ap (no_entry t.entries) e) }

  pub root_known : {id sign : ℕ} {b : Bool} → asked ≡ Root id sign → b ≡ leb t.entries id → IsNoEntry t asked b
  root_known e h = record { is = h ∙ sym (ap (no_entry t.entries) e) }

-- what is asked of a text that is refused
refused_by : (text : List ℕ) (room : ℕ) (asked : Asked) {x : Result (List ℕ)} {k l : ℕ} → table_of text ≡ refused k l → CallOf asked text room x → x ≡ refused k l
unfolding canon canon_root
refused_by text room (All form) e c = c ∙ simp e
refused_by text room (Root id s) e c = c ∙ simp e
refused_by text room (Mixed form) e c = absurd c

-- and of a table that was accepted: 3 for a root that it does not have, and else this text, if it fits
record Texted (room : ℕ) (T : rules.Table) (listing old : List ℕ) (g : Prepared) (asked : Asked) (x : Result (List ℕ)) : Type 0 where
  pub t : List ℕ
  pub asks : AskedText T listing old g asked t
  pub is : x ≡ fits room t

module _ (text : List ℕ) (room : ℕ) (T : rules.Table) (read : table_of text ≡ accepted T) where
  asked_none : (asked : Asked) {x : Result (List ℕ)} → no_entry (length T.entries) asked ≡ true → CallOf asked text room x → x ≡ refused 3 0
  unfolding canon_root
  asked_none (All form) h c = absurd (let z : ◌≡◌ {A = ℕ} 0 1 = cc in omega arith)
  asked_none (Root id s) h c = c ∙ simp (read, le-ltb id (length T.entries) (leb-true (length T.entries) id h))
  asked_none (Mixed form) h c = absurd c

  asked_some : (listing old : List ℕ) (g : Prepared) (asked : Asked) {x : Result (List ℕ)} → length T.entries ≡ g.canon.count
      → no_entry (length T.entries) asked ≡ false → CallOf asked text room x → Texted room T listing old g asked x
  unfolding canon canon_root
  asked_some listing old g (All form) n h c = record { t = listing_text form T; asks = refl; is = c ∙ simp read }
  asked_some listing old g (Root id s) n h c =
      let lt = leb-false (length T.entries) id h in
      record { t = root_text Plain T id s; asks = (omega arith, refl); is = c ∙ simp (read, lt-ltb id (length T.entries) lt) }
  asked_some listing old g (Mixed form) n h c = absurd c

-- a table that was read after facts that were cleared, where no scratch is short
fresh_of : {text table arena work table₁ table₂ : List ℕ} {t : Table} {d : ℕ} {b : Bool}
    → Short d (length table) (length arena) arena_length (length work) b → b ≡ false → Clears table 0 rows_at table₁ → length table₁ ≡ length table
    → ReadInto text table₁ table₂ (Ok t) → Fresh (rules.from_sections (table_from t table₂)) t table₂ arena work
fresh_of h e c l q = let n = long_enough h e in fresh_read c l q refl (record { table = n.0; arena = n.1; work = n.2 })

known_by : {T : rules.Table} {t : Table} {table arena work : List ℕ} {asked : Asked} {b c : Bool} → IsNoEntry t asked b → Fresh T t table arena work
    → b ≡ c → no_entry (length T.entries) asked ≡ c
known_by {asked = asked} h f e = ap (λ (n : ℕ). no_entry n asked) (entries_many f) ∙ sym h.is ∙ e

-- each way out of `answer`; b is what the test for a short scratch said
module _ {text out draft table arena work : List ℕ} {asked : Asked} {b : Bool}
    (h : Short (length draft) (length table) (length arena) arena_length (length work) b) where
  answer_by : {out' : List ℕ} {r : Result ℕ} (c : Bool) → b ≡ c
      → ((x : Result (List ℕ)) → CallOf asked text (length out) x → Says (leaves out (unless_short c x)) out' r)
      → Answers text asked out draft table arena work out' r
  answer_by {out'} {r} c e s = record { is = λ x k. subst (λ (y : Bool). Says (leaves out (unless_short y x)) out' r) (sym e ∙ h.is) (s x k) }

  pub short_answer : b ≡ true → Answers text asked out draft table arena work out (refused 20 0)
  short_answer e = answer_by true e (λ x k. record { outcome = refl; output = refl })

  module _ (e : b ≡ false) where
    pub refused_answer : {w w' : List ℕ} {f : Fault} → ReadInto text w w' (Err f) → Answers text asked out draft table arena work out (refused (number f.refusal) f.line)
    refused_answer q = answer_by false e (λ x c. refused_as out (refused_by text (length out) asked (refused_read q refl) c))

    module _ {table₁ table₂ : List ℕ} {t : Table} {no : Bool} (c : Clears table 0 rows_at table₁) (l : length table₁ ≡ length table)
        (q : ReadInto text table₁ table₂ (Ok t)) (z : IsNoEntry t asked no) where
      pub no_entry_lem : no ≡ true → Answers text asked out draft table arena work out (refused 3 0)
      no_entry_lem y =
          let fresh : Fresh (rules.from_sections (table_from t table₂)) t table₂ arena work = fresh_of h e c l q in
          let k = known_by z fresh y in
          answer_by false e (λ x d. refused_as out (asked_none text (length out) _ (accepted_read q refl) asked k d))

      pub delivered : {old table₃ out' : List ℕ} {g : Prepared} {r : Result ℕ} → no ≡ false → Prepares table₂ t table₃ g → length table₃ ≡ length table₂
          → Delivers text out old table₃ g arena work asked out' r → Answers text asked out draft table arena work out' r
      unfolding first_pass
      delivered {old} {table₃} {g = g} y p lp d =
          let T : rules.Table = rules.from_sections (table_from t table₂) in
          let fresh : Fresh T t table₂ arena work = fresh_of h e c l q in
          let u : Running T g table₃ arena work = fresh_prepared fresh p lp in
          let k = known_by z fresh y in
          answer_by false e
          (λ x a.
          let s = asked_some text (length out) T (accepted_read q refl) text old g asked u.prepared.knows.count k a in
          says_as out s.is (d.is s.t u s.asks))

-- what `call` comes to
pub calls : {text out draft table arena work draft₁ table₁ arena₁ work₁ out' draft' table' arena' work' : List ℕ} {asked : Asked} {r : Result ℕ}
    → Answers text asked out draft table arena work out' r
    → length draft₁ ≡ length draft → length table₁ ≡ length table → length arena₁ ≡ length arena → length work₁ ≡ length work
    → Wiped draft₁ table₁ arena₁ work₁ draft' table' arena' work' → Calls text asked out draft table arena work out' draft' table' arena' work' r
calls s d t a w z = record { is = λ x k. called (s.is x k) d t a w z }
