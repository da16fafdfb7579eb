-- Rechecks, from the bytes that one is given to the bytes that it gives: which roots are redone (`redone_exactly`), that each other root's lines
-- are copied (`kept_copied`), that a listing that canon gave becomes the one that canon gives now (`fresh`), that rechecks compose
-- (`recheck_composes`), that with nothing edited all is kept (`same_tables_all_kept`), and that a listing is taken in one form only
-- (`mixture_refused`). Assumes nothing.
use mathlib.Core.Path.{◌≡◌, refl, sym, ap, ap₂, ◌∙◌, subst}
use mathlib.Core.Logic.{◌↔◌}
use mathlib.Core.Bool.{Bool, true, false}
use Prim.Native.Nat.{ℕ, zero, suc, ◌≤◌, ◌<◌}
use native.Mathlib.Omega.{arith}
use native.Mathlib.Nat.{not-suc-le-zero}
use mathlib.Core.List.{List, [], ◌∷◌, ◌++◌, map, append_assoc}
use lib.ListN.{length, get_or, drop, length-append, length-map}
use lib.Dec.{ltb}
use borrow.Author.Tests.{ltb-false, le-ltb}
use Rattle.cells.specs.Part.{if, cell}
use Rattle.cells.proofs.Choices.{true_false}
use Rattle.rules.specs.Plain.{ascii, joined}
use Rattle.rules.specs.Ceilings.{most_text}
use Rattle.rules.specs.Text.{tab, line_feed, pieces, parted, line_text}
use Rattle.rules.specs.Table.{Root, Table, Result, accepted, refused, then, table_of}
use Rattle.rules.specs.declared.Form.{Form}
use Rattle.rules.specs.Listing.{root_text_of, answers_text, listing_text, old_listing}
use Rattle.rules.specs.Calls.{fits, canon, comparable, redone, redone_word, rechecked, recheck_text, recheck}
use Rattle.rules.specs.Chains.{MeetsDifference}
use Rattle.laws.proofs.Chains.{same_differs, redone_flag}
use Rattle.laws.proofs.Local.{alike, text_local}
use Rattle.laws.proofs.Printed.{Over, pieces_at}
use Rattle.laws.proofs.PrintedListing.{over_by, line_free, line_pieces, printed_listing}
use Rattle.laws.proofs.OldListing.{comes, passed, not_stopped, parted_pieces, in_form_lem, other_form, other_refused}
use Rattle.laws.proofs.Admitting.{Every}

-- a text's first line, its words, and what stands after it
abbrev pub first_line : List ℕ → List ℕ
first_line text = get_or (pieces line_feed text) 0 []

abbrev pub first_word : List ℕ → ℕ → List ℕ
first_word text i = get_or (pieces tab (first_line text)) i []

abbrev pub behind_first : List ℕ → List ℕ
behind_first text = parted line_feed (drop 1 (pieces line_feed text))

-- root i of a table
abbrev pub root_at : Table → ℕ → Root
root_at t i = get_or t.roots i (record { id = 0; sign = 0 })

fits_accepted : (room : ℕ) (x text : List ℕ) → fits room x ≡ accepted text → (text ≡ x) × (length text ≤ room)
fits_accepted room x text e =
    let s = not_stopped 12 0 (ltb room (length x)) (λ _. accepted x) e in
    let z = s.1 in
    let q : text ≡ x = cc in
    (q, omega (arith, ltb-false room (length x) s.0, ap length q))

map_at : {A B : Type 0} (f : A → B) (xs : List A) (i : ℕ) (a : A) (b : B) → i < length xs → get_or (map f xs) i b ≡ f (get_or xs i a)
map_at f [] i a b h = absurd (not-suc-le-zero h)
map_at f (x ∷ xs) zero a b h = refl
map_at f (x ∷ xs) (suc i) a b h = map_at f xs i a b (omega arith)

-- the words `redone` and `kept`
word_over : (b : Bool) → Over 43 (redone_word b)
word_over true = over_by 43 (ascii "redone") refl
word_over false = over_by 43 (ascii "kept") refl

other_words : {A : Type 0} → ascii "redone" ≡ ascii "kept" → A
other_words e = let z : ◌≡◌ {A = ℕ} 114 107 = ap (λ (w : List ℕ). cell w 0) e in absurd (omega arith)

word_redone : (b : Bool) → redone_word b ≡ ascii "redone" → b ≡ true
word_redone true e = refl
word_redone false e = other_words (sym e)

word_kept : (b : Bool) → redone_word b ≡ ascii "kept" → b ≡ false
word_kept true e = other_words e
word_kept false e = refl

module _ (old new : Table) where
  abbrev told : Root → List ℕ
  told root = redone_word (redone old new root)

  words_over : (rs : List Root) → Every (Over 43) (map told rs)
  words_over [] = tt
  words_over (r ∷ rs) = (word_over (redone old new r), words_over rs)

  -- no chain, no mark
  unmarked : (root : Root) (b : Bool) → redone old new root ≡ b → (MeetsDifference old new root.id → ⊥) → b ≡ false
  unmarked root true e h = absurd (h ((redone_flag old new root).0 e))
  unmarked root false e h = refl

  not_redone : (root : Root) → (MeetsDifference old new root.id → ⊥) → redone old new root ≡ false
  not_redone root h = unmarked root (redone old new root) refl h

  told_redone : (root : Root) → (told root ≡ ascii "redone") ↔ MeetsDifference old new root.id
  told_redone root = (λ e. (redone_flag old new root).0 (word_redone (redone old new root) e), λ d. ap redone_word ((redone_flag old new root).1 d))

  told_kept : (root : Root) → (told root ≡ ascii "kept") ↔ (MeetsDifference old new root.id → ⊥)
  told_kept root = (
    λ e d. true_false (sym ((redone_flag old new root).1 d) ∙ word_kept (redone old new root) e),
    λ h. ap redone_word (not_redone root h),
  )

  words_told : (r : Root) (rs : List Root) → pieces tab (parted tab (map told (r ∷ rs))) ≡ map told (r ∷ rs)
  words_told r rs = line_pieces (told r) (map told rs) (words_over (r ∷ rs))

  word_told : (rs : List Root) (i : ℕ) (d : Root) → i < length rs → get_or (pieces tab (parted tab (map told rs))) i [] ≡ told (get_or rs i d)
  word_told [] i d h = absurd (not-suc-le-zero h)
  word_told (r ∷ rs) i d h = ap (λ (ws : List (List ℕ)). get_or ws i []) (words_told r rs) ∙ map_at told (r ∷ rs) i d [] h

  many_told : (rs : List Root) → 0 < length rs → length (pieces tab (parted tab (map told rs))) ≡ length rs
  many_told [] h = absurd (not-suc-le-zero h)
  many_told (r ∷ rs) h = ap length (words_told r rs) ∙ length-map (r ∷ rs) told

-- the first line of a text: a word for each root, `redone` exactly if a chain of bounds or children from it meets an entry that differs, and
-- `kept` for each other root; "With no roots that line is empty"
pub record RedoneExactly (old new : Table) (text : List ℕ) : Type 0 where
  pub ended : text ≡ first_line text ++ (line_feed ∷ behind_first text)
  pub empty : length new.roots ≡ 0 → first_line text ≡ []
  pub many : 0 < length new.roots → length (pieces tab (first_line text)) ≡ length new.roots
  pub redone : (i : ℕ) → i < length new.roots → (first_word text i ≡ ascii "redone") ↔ MeetsDifference old new (root_at new i).id
  pub kept : (i : ℕ) → i < length new.roots → (first_word text i ≡ ascii "kept") ↔ (MeetsDifference old new (root_at new i).id → ⊥)

no_words : (old new : Table) (rs : List Root) → length rs ≡ 0 → parted tab (map (told old new) rs) ≡ []
no_words old new [] e = refl
no_words old new (r ∷ rs) e = absurd (let z : ⊥ = omega arith in z)

-- recheck of plain listings, and of numbered ones
module _ (form : Form) where
  -- what the parts of a recheck are that is not refused, by its tables
  pub record Rechecked (old new : Table) (l : List ℕ) (room : ℕ) (text : List ℕ) : Type 0 where
    pub texts : List (List ℕ)
    pub alike : comparable old new ≡ true
    pub in_form_lem : old_listing form (length new.names) new.roots l ≡ accepted texts
    pub is : text ≡ recheck_text form old new texts
    pub fits : length text ≤ room

  pub record RecheckAccepted (o n l : List ℕ) (room : ℕ) (text : List ℕ) : Type 0 where
    pub old : Table
    pub new : Table
    pub old_table : table_of o ≡ accepted old
    pub new_table : table_of n ≡ accepted new
    pub rechecked : Rechecked old new l room text

  pub recheck_accepted : (o n l : List ℕ) (room : ℕ) (text : List ℕ) → recheck form o n l room ≡ accepted text → RecheckAccepted o n l room text
  unfolding recheck
  recheck_accepted o n l room text e =
      let a = comes (table_of o) _ text e in
      let old = a.value in
      let b = comes (table_of n) _ text a.next in
      let new = b.value in
      let c = passed 10 0 (comparable old new) _ b.next in
      let d = comes (old_listing form (length new.names) new.roots l) _ text c.1 in
      let f = fits_accepted room (recheck_text form old new d.value) text d.next in
      record {
        old = old;
        new = new;
        old_table = a.is;
        new_table = b.is;
        rechecked = record { texts = d.value; alike = c.0; in_form_lem = d.is; is = f.0; fits = f.1 };
      }

  -- the same, where the tables are known
  known_tables : (o n l : List ℕ) (room : ℕ) (text : List ℕ) (old new : Table) → table_of o ≡ accepted old → table_of n ≡ accepted new
      → recheck form o n l room ≡ accepted text → Rechecked old new l room text
  known_tables o n l room text old new f g e =
      let r = recheck_accepted o n l room text e in
      let a = r.old_table in let b = r.new_table in
      let p : r.old ≡ old = cc in let q : r.new ≡ new = cc in
      subst (λ (t : Table). Rechecked old t l room text) q (subst (λ (t : Table). Rechecked t r.new l room text) p r.rechecked)

  -- the first line of a recheck, and what stands after it
  module _ (old new : Table) (texts : List (List ℕ)) where
    abbrev line : List ℕ
    line = parted tab (map (told old new) new.roots)

    abbrev behind : List ℕ
    behind = answers_text form (length new.roots) ++ joined (rechecked form old new new.roots texts)

    recheck_parts_lem : recheck_text form old new texts ≡ line ++ (line_feed ∷ behind)
    unfolding recheck_text
    recheck_parts_lem = simp append_assoc

    recheck_lines : (text : List ℕ) → text ≡ recheck_text form old new texts → pieces line_feed text ≡ line ∷ pieces line_feed behind
    recheck_lines text e =
        ap (pieces line_feed) (e ∙ recheck_parts_lem) ∙ pieces_at line_feed line behind (line_free (map (told old new) new.roots) (words_over old new new.roots))

    recheck_first : (text : List ℕ) → text ≡ recheck_text form old new texts → first_line text ≡ line
    recheck_first text e = ap (λ (ls : List (List ℕ)). get_or ls 0 []) (recheck_lines text e)

    recheck_behind : (text : List ℕ) → text ≡ recheck_text form old new texts → behind_first text ≡ behind
    recheck_behind text e = ap (λ (ls : List (List ℕ)). parted line_feed (drop 1 ls)) (recheck_lines text e) ∙ parted_pieces line_feed behind

  -- Where recheck isn't refused, its first line says `redone` for a root exactly if a chain of bounds or children from it meets an entry that differs
  pub redone_exactly : (o n l : List ℕ) (room : ℕ) (text : List ℕ) (old new : Table) → table_of o ≡ accepted old → table_of n ≡ accepted new
      → recheck form o n l room ≡ accepted text → RedoneExactly old new text
  redone_exactly o n l room text old new f g e =
      let r = known_tables o n l room text old new f g e in
      let first = recheck_first old new r.texts text r.is in
      let behind = recheck_behind old new r.texts text r.is in
      let word : (i : ℕ) → i < length new.roots → first_word text i ≡ told old new (root_at new i) =
      λ i h. ap (λ (l : List ℕ). get_or (pieces tab l) i []) first ∙ word_told old new new.roots i (record { id = 0; sign = 0 }) h in
      record {
        ended = r.is ∙ recheck_parts_lem old new r.texts ∙ sym (ap₂ {C = List ℕ} (λ (x y : List ℕ). x ++ (line_feed ∷ y)) first behind);
        empty = λ h. first ∙ no_words old new new.roots h;
        many = λ h. ap (λ (l : List ℕ). length (pieces tab l)) first ∙ many_told old new new.roots h;
        redone = λ i h. let w = word i h in let t = told_redone old new (root_at new i) in (λ q. t.0 (sym w ∙ q), λ d. w ∙ t.1 d);
        kept = λ i h. let w = word i h in let t = told_kept old new (root_at new i) in (λ q. t.0 (sym w ∙ q), λ d. w ∙ t.1 d);
      }

  -- a root's lines in a recheck
  module _ (old new : Table) where
    lines_at : (rs : List Root) (xs : List (List ℕ)) (i : ℕ) (d : Root) → i < length rs → length xs ≡ length rs
        → get_or (rechecked form old new rs xs) i [] ≡ if (redone old new (get_or rs i d)) (λ _. root_text_of form new (get_or rs i d)) (λ _. get_or xs i [])
    lines_at [] xs i d h m = absurd (not-suc-le-zero h)
    lines_at (r ∷ rs) [] i d h m = absurd (let z : ⊥ = omega arith in z)
    lines_at (r ∷ rs) (x ∷ xs) zero d h m = refl
    lines_at (r ∷ rs) (x ∷ xs) (suc i) d h m = lines_at rs xs i d (omega arith) (omega arith)

    many_lines : (rs : List Root) (xs : List (List ℕ)) → length xs ≡ length rs → length (rechecked form old new rs xs) ≡ length rs
    many_lines [] xs m = refl
    many_lines (r ∷ rs) [] m = absurd (let z : ⊥ = omega arith in z)
    many_lines (r ∷ rs) (x ∷ xs) m = ap suc (many_lines rs xs (omega arith))

  -- old listing and new: before and after are the lines of each root in them, and after the line `answers` nothing else stands. A root's lines
  -- are copied byte by byte, unless a chain of bounds or children from it meets an entry that differs: then they are what the new table gives
  pub record KeptCopied (old new : Table) (l text : List ℕ) : Type 0 where
    pub before : List (List ℕ)
    pub after : List (List ℕ)
    pub read : old_listing form (length new.names) new.roots l ≡ accepted before
    pub old_listing_lem : l ≡ answers_text form (length new.roots) ++ joined before
    pub new_listing : behind_first text ≡ answers_text form (length new.roots) ++ joined after
    pub many_before : length before ≡ length new.roots
    pub many_after : length after ≡ length new.roots
    pub kept : (i : ℕ) → i < length new.roots → (MeetsDifference old new (root_at new i).id → ⊥) → get_or after i [] ≡ get_or before i []
    pub redone : (i : ℕ) → i < length new.roots → MeetsDifference old new (root_at new i).id → get_or after i [] ≡ root_text_of form new (root_at new i)

  -- .. and each other root's lines are the old listing's, byte by byte; "A redone root's lines are those the new table gives, even where the old
  -- listing was wrong"
  pub kept_copied : (o n l : List ℕ) (room : ℕ) (text : List ℕ) (old new : Table) → table_of o ≡ accepted old → table_of n ≡ accepted new
      → recheck form o n l room ≡ accepted text → KeptCopied old new l text
  kept_copied o n l room text old new f g e =
      let r = known_tables o n l room text old new f g e in
      let shape = in_form_lem form (length new.names) new.roots l r.texts r.in_form_lem in
      let at : (i : ℕ) (b : Bool) → i < length new.roots → redone old new (root_at new i) ≡ b → get_or (rechecked form old new new.roots r.texts) i []
      ≡ if b (λ _. root_text_of form new (root_at new i)) (λ _. get_or r.texts i []) =
      λ i b h q. lines_at old new new.roots r.texts i (record { id = 0; sign = 0 }) h shape.many
      ∙ ap (λ (c : Bool). if c (λ _. root_text_of form new (root_at new i)) (λ _. get_or r.texts i [])) q in
      record {
        before = r.texts;
        after = rechecked form old new new.roots r.texts;
        read = r.in_form_lem;
        old_listing_lem = shape.is;
        new_listing = recheck_behind old new r.texts text r.is;
        many_before = shape.many;
        many_after = many_lines old new new.roots r.texts shape.many;
        kept = λ i h d. at i false h (not_redone old new (root_at new i) d);
        redone = λ i h d. at i true h ((redone_flag old new (root_at new i)).1 d);
      }

  -- given the lines that the old table gives, a recheck has those that the new table gives, of kept roots and redone ones alike
  module _ (old new : Table) (like : comparable old new ≡ true) where
    -- a root that is not redone has the lines that it had
    kept_text : (root : Root) → redone old new root ≡ false → root_text_of form old root ≡ root_text_of form new root
    kept_text root h = text_local form old new like root.id root.sign (λ d. true_false (sym ((redone_flag old new root).1 d) ∙ h))

    root_turn : (b : Bool) (root : Root) → redone old new root ≡ b → if b (λ _. root_text_of form new root) (λ _. root_text_of form old root) ≡ root_text_of form new root
    root_turn true root h = refl
    root_turn false root h = kept_text root h

    roots_fresh : (rs : List Root) → rechecked form old new rs (map (root_text_of form old) rs) ≡ map (root_text_of form new) rs
    roots_fresh [] = refl
    roots_fresh (r ∷ rs) = ap₂ {C = List (List ℕ)} ◌∷◌ (root_turn (redone old new r) r refl) (roots_fresh rs)

  -- what canon gives is the table's listing, wherever it fits
  record CanonAccepted (o : List ℕ) (lent : ℕ) (l : List ℕ) : Type 0 where
    table : Table
    is : table_of o ≡ accepted table
    listing : l ≡ listing_text form table

  canon_accepted : (o : List ℕ) (lent : ℕ) (l : List ℕ) → canon form o lent ≡ accepted l → CanonAccepted o lent l
  unfolding canon
  canon_accepted o lent l e =
      let a = comes (table_of o) (λ (t : Table). fits lent (listing_text form t)) l e in
      record { table = a.value; is = a.is; listing = (fits_accepted lent (listing_text form a.value) l a.next).0 }

  canon_gives : (o : List ℕ) (lent : ℕ) (t : Table) → table_of o ≡ accepted t → length (listing_text form t) ≤ lent → canon form o lent ≡ accepted (listing_text form t)
  unfolding canon
  canon_gives o lent t e h = ap (λ (r : Result Table). then r (λ (t : Table). fits lent (listing_text form t))) e ∙ rw (le-ltb lent (length (listing_text form t)) h)

  -- an old listing that canon gave falls into what the old table gives for each root
  fresh_behind : (o n l : List ℕ) (room : ℕ) (text : List ℕ) (old new : Table) → table_of o ≡ accepted old → l ≡ listing_text form old
      → Rechecked old new l room text → behind_first text ≡ listing_text form new
  unfolding listing_text
  fresh_behind o n l room text old new f p r =
      let a = alike old new r.alike in
      let shape = in_form_lem form (length new.names) new.roots l r.texts r.in_form_lem in
      let read = printed_listing form o old f (subst (λ (x : List ℕ). length x ≤ most_text) p shape.short) in
      let again = r.in_form_lem in
      let q : r.texts ≡ map (root_text_of form old) new.roots = cc (a.names, a.roots) in
      recheck_behind old new r.texts text r.is
      ∙ ap (λ (texts : List (List ℕ)). answers_text form (length new.roots) ++ joined texts)
      (ap (rechecked form old new new.roots) q ∙ roots_fresh old new r.alike new.roots)

  behind_fits : (old new : Table) (l : List ℕ) (room : ℕ) (text : List ℕ) → Rechecked old new l room text → length (behind_first text) ≤ room
  behind_fits old new l room text r =
      let whole = r.is ∙ recheck_parts_lem old new r.texts in
      let rest = recheck_behind old new r.texts text r.is in
      let parts = length-append (line old new r.texts) (line_feed ∷ behind old new r.texts) in
      omega (arith, ap length whole, ap length rest, r.fits)

  -- what canon gives, it gives in any room that is long enough
  pub canon_room : (o : List ℕ) (lent room : ℕ) (l : List ℕ) → canon form o lent ≡ accepted l → length l ≤ room → canon form o room ≡ accepted l
  canon_room o lent room l e h =
      let c = canon_accepted o lent l e in
      canon_gives o room c.table c.is (omega (arith, ap length c.listing)) ∙ ap (λ (x : List ℕ). accepted x) (sym c.listing)

  -- If the old listing is what canon gives for the old table, then what stands after the first line is what canon gives for the new table
  pub fresh : (o n l : List ℕ) (lent room : ℕ) (text : List ℕ) → canon form o lent ≡ accepted l → recheck form o n l room ≡ accepted text
      → canon form n room ≡ accepted (behind_first text)
  fresh o n l lent room text c e =
      let a = canon_accepted o lent l c in
      let r = recheck_accepted o n l room text e in
      let p = a.is in let q = r.old_table in
      let same : r.old ≡ a.table = cc in
      let behind = fresh_behind o n l room text r.old r.new q (a.listing ∙ ap (listing_text form) (sym same)) r.rechecked in
      let short = behind_fits r.old r.new l room text r.rechecked in
      canon_gives n room r.new r.new_table (omega (arith, ap length behind)) ∙ ap (λ (x : List ℕ). accepted x) (sym behind)

  -- Rechecks compose: from a first table to a second, and then from the second to a third with what came out, gives the listing that one recheck
  -- from the first to the third gives
  pub recheck_composes : (first second third l : List ℕ) (lent room room' room'' : ℕ) (text text' text'' : List ℕ) → canon form first lent ≡ accepted l
      → recheck form first second l room ≡ accepted text → recheck form second third (behind_first text) room' ≡ accepted text'
      → recheck form first third l room'' ≡ accepted text'' → behind_first text' ≡ behind_first text''
  recheck_composes first second third l lent room room' room'' text text' text'' c e e' e'' =
      let step = fresh second third (behind_first text) room room' text' (fresh first second l lent room text c e) e' in
      let d = canon_accepted third room' (behind_first text') step in
      let d'' = canon_accepted third room'' (behind_first text'') (fresh first third l lent room'' text'' c e'') in
      let a = d.is in let b = d''.is in
      let same : d.table ≡ d''.table = cc in
      d.listing ∙ ap (listing_text form) same ∙ sym d''.listing

  -- a table beside itself
  module _ (t : Table) where
    never_redone : (root : Root) → redone t t root ≡ false
    never_redone root = not_redone t t root (λ d. true_false (sym d.different ∙ same_differs t t d.met refl))

    words_kept : (rs : List Root) → map (told t t) rs ≡ map (λ (r : Root). ascii "kept") rs
    words_kept [] = refl
    words_kept (r ∷ rs) = ap₂ {C = List (List ℕ)} ◌∷◌ (ap redone_word (never_redone r)) (words_kept rs)

    lines_kept : (rs : List Root) (xs : List (List ℕ)) → length xs ≡ length rs → rechecked form t t rs xs ≡ xs
    lines_kept [] [] m = refl
    lines_kept [] (x ∷ xs) m = absurd (let z : ⊥ = omega arith in z)
    lines_kept (r ∷ rs) [] m = absurd (let z : ⊥ = omega arith in z)
    lines_kept (r ∷ rs) (x ∷ xs) m =
        ap₂ {C = List (List ℕ)} ◌∷◌ (ap (λ (b : Bool). if b (λ _. root_text_of form t r) (λ _. x)) (never_redone r)) (lines_kept rs xs (omega arith))

  -- With nothing edited every root is kept, and the old listing comes out as it is
  pub same_tables_all_kept : (o l : List ℕ) (room : ℕ) (text : List ℕ) (t : Table) → table_of o ≡ accepted t → recheck form o o l room ≡ accepted text
      → text ≡ line_text (map (λ (r : Root). ascii "kept") t.roots) ++ l
  same_tables_all_kept o l room text t f e =
      let r = known_tables o o l room text t t f f e in
      let shape = in_form_lem form (length t.names) t.roots l r.texts r.in_form_lem in
      r.is ∙ recheck_parts_lem t t r.texts
      ∙ ap₂ {C = List ℕ} (λ (words lines : List (List ℕ)). parted tab words ++ (line_feed ∷ (answers_text form (length t.roots) ++ joined lines)))
      (words_kept t t.roots) (lines_kept t t.roots r.texts shape.many)
      ∙ ap (λ (x : List ℕ). parted tab (map (λ (r : Root). ascii "kept") t.roots) ++ (line_feed ∷ x)) (sym shape.is)
      ∙ sym (append_assoc (parted tab (map (λ (r : Root). ascii "kept") t.roots)) (line_feed ∷ []) l)

  -- A listing that recheck takes is none for recheck_numbered, and the other way round: "11 for that mixture, at the header's line"
  pub mixture_refused : (o n l : List ℕ) (room room' : ℕ) (text : List ℕ) → recheck form o n l room ≡ accepted text
      → recheck (other_form form) o n l room' ≡ refused 11 2
  unfolding recheck
  mixture_refused o n l room room' text e =
      let r = recheck_accepted o n l room text e in
      let c = r.rechecked in
      rw (r.old_table, r.new_table, c.alike, other_refused (length r.new.names) form r.new.roots l c.texts c.in_form_lem)
