-- The calls: from input bytes and the length of the output to the bytes written, or the refusal. And the programs. A form is how variables are
-- shown: `Plain` is document 01's, `Numbered` that of request 1 of document 02.
use Rattle.std.specs.Prelude.{Bool, true, false, not, ℕ, zero, suc, List, [], ◌∷◌, ◌++◌, map, length, get_or, drop, eqb, ltb}
use Rattle.cells.specs.Part.{if, eq_list}
use Rattle.rules.specs.Plain.{ascii, any, both, unless, joined}
use Rattle.rules.specs.Ceilings.{most_text}
use Rattle.rules.specs.Text.{line_feed, pieces, parted, decimal, line_text}
use Rattle.rules.specs.Table.{Pair, Root, Table, entry_of, kids, Result, accepted, refused, then, table_of}
use Rattle.rules.specs.declared.Form.{Form}
use Rattle.rules.specs.declared.Form.TheVariants.{Plain}
use Rattle.rules.specs.Listing.{root_text, root_text_of, answers_text, listing_text, old_listing}

-- 12: "the text to be written is longer than the lent output"
abbrev pub fits : ℕ → List ℕ → Result (List ℕ)
fits room text = if (ltb room (length text)) (λ _. refused 12 0) (λ _. accepted text)

-- canon: the plain listing of a table; canon_numbered: the numbered one
unfoldable pub canon : Form → List ℕ → ℕ → Result (List ℕ)
canon form text room = then (table_of text) (λ (t : Table). fits room (listing_text form t))

-- "Calls that take a root directly refuse one of n or more with 3 and line 0". A sign of 0 is +, any other is -
unfoldable pub canon_root : List ℕ → ℕ → ℕ → ℕ → Result (List ℕ)
canon_root text id s room =
    then (table_of text) (λ (t : Table). unless (ltb id (length t.entries)) (λ _. refused 3 0) (λ _. fits room (root_text Plain t id s)))

-- the same elements in the same order, by this test
abbrev pub same : {A : Type 0} → (A → A → Bool) → List A → List A → Bool
same eq [] [] = true
same eq [] (y ∷ ys) = false
same eq (x ∷ xs) [] = false
same eq (x ∷ xs) (y ∷ ys) = if (eq x y) (λ _. same eq xs ys) (λ _. false)

abbrev pub same_pair : Pair → Pair → Bool
same_pair p q = both (eqb p.first q.first) (λ _. eqb p.second q.second)

abbrev pub same_root : Root → Root → Bool
same_root r s = both (eqb r.id s.id) (λ _. eqb r.sign s.sign)

-- not 10: "budget, n, or a name, pair, mark or root line differs"
unfoldable pub comparable : Table → Table → Bool
comparable old new =
    both (eqb old.budget new.budget)
    (λ _. both (eqb (length old.entries) (length new.entries))
    (λ _. both (same eq_list old.names new.names)
    (λ _. both (same same_pair old.pairs new.pairs)
    (λ _. both (eq_list old.marks new.marks) (λ _. same same_root old.roots new.roots)))))

abbrev pub row_at : Table → ℕ → List ℕ
row_at t id = get_or t.entries id []

abbrev pub differs : Table → Table → ℕ → Bool
differs old new id = not (eq_list (row_at old id) (row_at new id))

-- a chain of bounds or children from id, of at most f steps, meets an entry that differs
unfoldable pub meets : ℕ → Table → Table → ℕ → Bool
meets zero old new id = differs old new id
meets (suc f) old new id = if (differs old new id) (λ _. true) (λ _. any (meets f old new) (kids (entry_of (row_at old id))))

-- a root is redone exactly if a chain of bounds or children from it meets an entry that differs; n steps reach whatever can be reached
abbrev pub redone : Table → Table → Root → Bool
redone old new root = meets (length old.entries) old new root.id

abbrev pub redone_word : Bool → List ℕ
redone_word true = ascii "redone"
redone_word false = ascii "kept"

-- the lines of each root: copied, or what the new table gives
abbrev pub rechecked : Form → Table → Table → List Root → List (List ℕ) → List (List ℕ)
rechecked form old new [] texts = []
rechecked form old new (r ∷ rs) [] = []
rechecked form old new (r ∷ rs) (x ∷ xs) = (if (redone old new r) (λ _. root_text_of form new r) (λ _. x)) ∷ rechecked form old new rs xs

-- "a first line of `kept` or `redone` for each root, tab between, then the listing"
unfoldable pub recheck_text : Form → Table → Table → List (List ℕ) → List ℕ
recheck_text form old new texts =
    line_text (map (λ (r : Root). redone_word (redone old new r)) new.roots)
    ++ answers_text form (length new.roots)
    ++ joined (rechecked form old new new.roots texts)

-- recheck and recheck_numbered: the old table's refusals, the new table's, 10, 11, 12
unfoldable pub recheck : Form → List ℕ → List ℕ → List ℕ → ℕ → Result (List ℕ)
recheck form oldText newText listing room =
    then (table_of oldText) (λ (old : Table). then (table_of newText) (λ (new : Table).
    unless (comparable old new) (λ _. refused 10 0)
    (λ _. then (old_listing form (length new.names) new.roots listing)
    (λ (texts : List (List ℕ)). fits room (recheck_text form old new texts)))))

-- what a call leaves: how many bytes it wrote, or the refusal, and the lent output
pub record Left : Type 0 where
  pub outcome : Result ℕ
  pub output : List ℕ

-- a text stands at the beginning of the output; "Any refusal but 6 to 9 leaves the lent output as found"
abbrev pub leaves : List ℕ → Result (List ℕ) → Left
leaves out (accepted text) = record { outcome = accepted (length text); output = text ++ drop (length text) out }
leaves out (refused k l) = record { outcome = refused k l; output = out }

-- "20 before all": a lent scratch is short
abbrev pub unless_short : {A : Type 0} → Bool → Result A → Result A
unless_short short r = if short (λ _. refused 20 0) (λ _. r)

-- the public calls, of their inputs, the output as found, and whether a scratch is short
unfoldable pub canon_call : Form → List ℕ → List ℕ → Bool → Left
canon_call form text out short = leaves out (unless_short short (canon form text (length out)))

unfoldable pub canon_root_call : List ℕ → ℕ → ℕ → List ℕ → Bool → Left
canon_root_call text id s out short = leaves out (unless_short short (canon_root text id s (length out)))

unfoldable pub recheck_call : Form → List ℕ → List ℕ → List ℕ → List ℕ → Bool → Left
recheck_call form oldText newText listing out short = leaves out (unless_short short (recheck form oldText newText listing (length out)))

pub record Split : Type 0 where
  pub front : List ℕ
  pub back : List ℕ

-- a text cut at the first line that is `next`: what stands before it and after it; "A part left out for want of `next` is empty"
abbrev pub cut_next : List ℕ → List (List ℕ) → Split
cut_next got [] = record { front = got; back = [] }
cut_next got (l ∷ []) = record { front = got ++ l; back = [] }
cut_next got (l ∷ m ∷ ls) =
    if (eq_list l (ascii "next")) (λ _. record { front = got; back = parted line_feed (m ∷ ls) })
    (λ _. cut_next (got ++ l ++ (line_feed ∷ [])) (m ∷ ls))

unfoldable pub split_next : List ℕ → Split
split_next text = cut_next [] (pieces line_feed text)

-- what a program prints: the text, or "`refused`, number, line"
abbrev pub printed : Result (List ℕ) → List ℕ
printed (accepted text) = text
printed (refused k l) = line_text (ascii "refused" ∷ decimal k ∷ decimal l ∷ [])

-- "Both programs lend 65,536 bytes of output"
abbrev pub lent : ℕ
lent = most_text

-- the programs canon and canon_numbered, from standard input to standard output
unfoldable pub canon_program : Form → List ℕ → List ℕ
canon_program form input = printed (canon form input lent)

abbrev pub recheck_parts : Form → Split → Result (List ℕ)
recheck_parts form s = recheck form s.front (split_next s.back).front (split_next s.back).back lent

-- the programs recheck and recheck_numbered: "old table, a line `next`, new table, `next`, old listing"
unfoldable pub recheck_program : Form → List ℕ → List ℕ
recheck_program form input = printed (recheck_parts form (split_next input))
