-- The text that is asked for is written, and brought to the output if it fits. Assumes nothing.
use mathlib.Core.Path.{◌≡◌, refl, sym, ap, ap₂, subst, ◌∙◌}
use mathlib.Core.Bool.{Bool, true, false, not, not-not}
use Prim.Native.Nat.{ℕ, zero, suc, ◌+◌, ◌≤◌, ◌<◌}
use native.Mathlib.Omega.{arith}
use mathlib.Core.List.{List, [], ◌∷◌, ◌++◌, map, append_assoc}
use lib.ListN.{length, get_or, length-append}
use lib.Dec.{eqb}
use Rattle.cells.specs.Part.{if, run}
use Rattle.cells.proofs.Parts.{run_ext, run_get_d}
use Rattle.rules.specs.Plain.{flag, joined}
use Rattle.rules.specs.Text.{line_text}
use Rattle.rules.specs.Table.{Root, root_of, accepted}
use Rattle.rules.specs.Table as rules
use Rattle.rules.specs.Listing.{root_text_of, answers_text, listing_text}
use Rattle.rules.specs.declared.Form.{Form}
use Rattle.rules.specs.declared.Form.TheVariants.{Plain}
use Rattle.rules.specs.Calls.{redone, redone_word, rechecked, recheck_text}
use Rattle.prepare.specs.declared.Prepared.{Prepared}
use Rattle.prepare.specs.Prepares.{root_at}
use Rattle.prepare.proofs.Facts.{map_run}
use Rattle.listing.specs.Writes.{Wrote}
use Rattle.laws.proofs.Containing.{flag_zero}
use Rattle.text.specs.Reads.{span_at}
use Rattle.listing.proofs.Texts.{wrote_more, wrote_as}
use Rattle.answers.specs.declared.asked.Asked.{Asked}
use Rattle.answers.specs.declared.asked.Asked.TheVariants.{All, Root as RootA, Mixed}
use Rattle.outcomes.specs.Outcomes.{Copies}
use Rattle.answers.specs.Runs.{Running, WritesRoot}
use Rattle.answers.specs.Mixes.{OldLines, Noted, kept_at, word_at, Lying, lines_at, all_lines, WritesRoots}
use Rattle.answers.specs.Asks.{Text, WritesAsked, Delivers}
use Rattle.answers.proofs.Delivered.{written_anew, copied_out}
use Rattle.answers.proofs.Running.{running_on, roots_read, roots_many, few_roots}
use Rattle.answers.proofs.Mixing.{line_short}

-- from the beginning on
pub text_written : {t o o' : List ℕ} {r : ℕ} → Wrote t 0 o o' r → length t ≤ 4294967295 → Text t o o' r
text_written w h = record { size = let e = w.to (omega arith) in omega arith; is = w.is (omega arith) }

lying_none : {listing old : List ℕ} {n : ℕ} → Lying listing old false n
lying_none = record { is = λ i lt k. absurd (let z : ◌≡◌ {A = ℕ} 0 1 = cc in omega arith) }

lying_old : {listing old : List ℕ} {texts : List (List ℕ)} {n : ℕ} → OldLines listing texts old n → Lying listing old true n
lying_old l = record { is = λ i lt k. (l.within i lt, l.short) }

-- the lines of all roots are the rules' listing
all_is : (form : Form) (listing old : List ℕ) {T : rules.Table} {table arena work : List ℕ} {g : Prepared} → Running T g table arena work
    → all_lines listing old false form T table g ≡ listing_text form T
unfolding listing_text
all_is form listing old {T} {table = table} {g = g} u =
    let many = roots_many u in
    let texts : run (λ (i : ℕ). root_text_of form T (root_at table (g.first + i))) 0 g.roots ≡ map (root_text_of form T) T.roots =
    sym (ap (map (root_text_of form T)) (roots_read u) ∙ map_run (root_text_of form T) _ 0 g.roots) in
    λ j. answers_text form (sym many j) ++ joined (texts j)

-- and after a line of `kept` or `redone` for each root the rules' text of recheck
module _ (form : Form) {T₁ T₂ : rules.Table} {listing old table arena work : List ℕ} {texts : List (List ℕ)} {g : Prepared}
    (u : Running T₂ g table arena work) (h : Noted T₁ T₂ listing texts old g.roots) where
  abbrev root : ℕ → Root
  root i = root_at table (g.first + i)

  kept_redone : (i : ℕ) → i < g.roots → kept_at old true i ≡ not (redone T₁ T₂ (root i))
  kept_redone i lt =
      let at : get_or T₂.roots i (root_of []) ≡ root i =
      ap (λ (rs : List Root). get_or rs i (root_of [])) u.prepared.rooted ∙ run_get_d (root_at table) g.first g.roots i (root_of []) lt in
      ap (λ (k : ℕ). eqb k 0) (h.flags i lt ∙ ap (λ (r : Root). flag (redone T₁ T₂ r)) at) ∙ flag_zero (redone T₁ T₂ (root i))

  words_are : run (word_at old) 0 g.roots ≡ map (λ (r : Root). redone_word (redone T₁ T₂ r)) T₂.roots
  words_are =
      run_ext (word_at old) (λ (i : ℕ). redone_word (redone T₁ T₂ (root i))) 0 g.roots
      (λ i low lt. ap (λ (b : Bool). redone_word (not b)) (kept_redone i (omega arith)) ∙ ap redone_word (not-not (redone T₁ T₂ (root i))))
      ∙ sym (ap (map (λ (r : Root). redone_word (redone T₁ T₂ r))) (roots_read u) ∙ map_run _ root 0 g.roots)

  -- the lines of each root of a run, by the rules
  abbrev lines_by : ℕ → List ℕ
  lines_by i = if (redone T₁ T₂ (root i)) (λ _. root_text_of form T₂ (root i)) (λ _. span_at listing old i)

  rechecked_run : (a n : ℕ) → rechecked form T₁ T₂ (run root a n) (run (span_at listing old) a n) ≡ run lines_by a n
  rechecked_run a zero = refl
  rechecked_run a (suc n) = ap (λ (l : List (List ℕ)). lines_by a ∷ l) (rechecked_run (suc a) n)

  turned : (b c : Bool) (x y : List ℕ) → b ≡ not c → if b (λ _. x) (λ _. y) ≡ if c (λ _. y) (λ _. x)
  turned b true x y e = ap (λ (z : Bool). if z (λ _. x) (λ _. y)) e
  turned b false x y e = ap (λ (z : Bool). if z (λ _. x) (λ _. y)) e

  lines_are : run (lines_at listing old true form T₂ table g.first) 0 g.roots ≡ rechecked form T₁ T₂ T₂.roots texts
  lines_are =
      run_ext (lines_at listing old true form T₂ table g.first) lines_by 0 g.roots
      (λ i low lt. turned (kept_at old true i) (redone T₁ T₂ (root i)) (span_at listing old i) (root_text_of form T₂ (root i)) (kept_redone i (omega arith)))
      ∙ sym (rechecked_run 0 g.roots)
      ∙ ap₂ {C = List (List ℕ)} (rechecked form T₁ T₂) (sym (roots_read u)) h.lines.are

  mixed_is : line_text (run (word_at old) 0 g.roots) ++ all_lines listing old true form T₂ table g ≡ recheck_text form T₁ T₂ texts
  unfolding recheck_text
  mixed_is =
      let many = roots_many u in
      sym (append_assoc (line_text (run (word_at old) 0 g.roots)) (answers_text form g.roots) _)
      ∙ (λ j. line_text (words_are j) ++ answers_text form (sym many j) ++ joined (lines_are j))

-- each way out of `write_asked`
module _ {listing old table arena work o table' o' : List ℕ} {g : Prepared} {asked : Asked} {r : ℕ} where
  asks : {a : Asked} → asked ≡ a → WritesAsked listing old table g arena work a o table' o' r → WritesAsked listing old table g arena work asked o table' o' r
  asks e = subst (λ (a : Asked). WritesAsked listing old table g arena work a o table' o' r) (sym e)

  pub all_asked : {form : Form} {old' : List ℕ} → asked ≡ All form → WritesRoots listing old' false table g arena work form 0 o table' o' r → WritesAsked listing old table g arena work asked o table' o' r
  all_asked {form} {old'} e w =
      asks e
      (record {
        is = λ {T} t u h.
            let a = w.is u lying_none in
            let whole : all_lines listing old' false form T table g ≡ t = all_is form listing old' u ∙ sym h in
            text_written (wrote_as a.wrote whole) (omega (arith, a.short, ap length whole));
        kept = λ t u h. w.kept u lying_none;
      })

  pub root_asked : {id sign : ℕ} → asked ≡ RootA id sign → WritesRoot table g arena work Plain 0 id sign o table' o' r
      → WritesAsked listing old table g arena work asked o table' o' r
  root_asked e w =
      asks e
      (record {
        is = λ t u h. let a = w.is u h.0 in text_written (wrote_as a.wrote (sym h.1)) (omega (arith, a.short, ap length h.1));
        kept = λ t u h. w.kept u;
      })

  pub mixed_asked : {form : Form} {o₁ : List ℕ} {p : ℕ} → asked ≡ Mixed form → Wrote (line_text (run (word_at old) 0 g.roots)) 0 o o₁ p
      → WritesRoots listing old true table g arena work form p o₁ table' o' r → WritesAsked listing old table g arena work asked o table' o' r
  mixed_asked {form} e words w =
      asks e
      (record {
        is = λ {T} t u h.
            let a = w.is u (lying_old h.noted.lines) in
            let line = line_text (run (word_at old) 0 g.roots) in
            let whole : line ++ all_lines listing old true form T table g ≡ t = mixed_is form u h.noted ∙ sym h.is in
            text_written (wrote_as (wrote_more words a.wrote) whole)
            (omega (arith, ap length whole, length-append line (all_lines listing old true form T table g), line_short old g.roots, a.short, few_roots u));
        kept = λ t u h. w.kept u (lying_old h.noted.lines);
      })

-- each way out of `deliver`: the text was written into the draft
module _ {listing out draft old table arena work draft₂ table₂ : List ℕ} {g : Prepared} {asked : Asked} {size : ℕ}
    (w : WritesAsked listing old table g arena work asked draft table₂ draft₂ size) where
  pub deliver_anew : {arena₂ work₂ table₃ out' : List ℕ} {r : ℕ} → length arena₂ ≡ length arena → length work₂ ≡ length work → size ≤ length out
      → WritesAsked listing old table₂ g arena₂ work₂ asked out table₃ out' r → Delivers listing out old table g arena work asked out' (accepted size)
  deliver_anew la lw h a = record { is = λ t u k. written_anew t out (w.is t u k).size h (a.is t (running_on u (w.kept t u k) la lw) k) }

  pub deliver_copy : {out' : List ℕ} → length draft₂ ≡ length draft → size ≤ length out → size ≤ length draft₂ → Copies out draft₂ size out'
      → Delivers listing out old table g arena work asked out' (accepted size)
  deliver_copy ld h d c = record { is = λ t u k. copied_out t out (w.is t u k) h d ld c }
