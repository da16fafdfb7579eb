-- No more of an input is read than can matter: what a program prints of an input's first bytes, it prints of the whole. Assumes nothing.
use mathlib.Core.Path.{◌≡◌, refl, sym, ap, ap₂, subst, ◌∙◌}
use mathlib.Core.Bool.{Bool, true, false}
use Prim.Native.Nat.{ℕ, zero, suc, ◌+◌, ◌-◌, ◌≤◌, ◌<◌}
use native.Mathlib.Omega.{arith}
use mathlib.Core.List.{List, [], ◌∷◌, ◌++◌}
use lib.ListN.{length, take, drop, length-append}
use lib.Seq.{take_all, take-take, take-nil, length-take-le}
use lib.Dec.{eqb, ltb}
use borrow.Author.Tests.{ltb-true, ltb-false, lt-ltb}
use Rattle.cells.specs.Part.{if, eq_list}
use Rattle.cells.proofs.Choices.{by_test}
use Rattle.rules.specs.Plain.{both, unless}
use Rattle.rules.specs.Ceilings.{most_text}
use Rattle.rules.specs.Text.{line_feed}
use Rattle.rules.specs.Table.{Root, Table, Result, accepted, refused, then, sections_of, table_of}
use Rattle.rules.specs.Listing.{listing_text, old_listing}
use Rattle.rules.specs.declared.Form.{Form}
use Rattle.rules.specs.Calls.{fits, canon, comparable, recheck_text, recheck, Split, split_next, printed, lent, canon_program, recheck_parts, recheck_program}
use Rattle.programs.specs.Parts.{next_line}
use Rattle.programs.specs.Rooms.{CanonReads, RecheckReads}
use Rattle.programs.proofs.Cutting.{drop_take, scan, split_scan}

-- a text that is too long is refused before anything in it is looked at
long_table : (text : List ℕ) → most_text < length text → table_of text ≡ refused 2 0
unfolding table_of sections_of
long_table text h = rw (lt-ltb most_text (length text) h)

long_listing : (form : Form) (names : ℕ) (roots : List Root) (text : List ℕ) → most_text < length text → old_listing form names roots text ≡ refused 11 0
unfolding old_listing
long_listing form names roots text h = rw (lt-ltb most_text (length text) h)

-- the first k bytes of a text, where that is too long with and without the rest
by_length : {A : Type 0} (f : List ℕ → A) (bad : A) → ((text : List ℕ) → most_text < length text → f text ≡ bad) → (k : ℕ) → most_text < k → (text : List ℕ)
    → f (take k text) ≡ f text
by_length {A} f bad long k h text = by_case (ltb (length text) k) refl
  where
    by_case : (b : Bool) → ltb (length text) k ≡ b → f (take k text) ≡ f text
    by_case true e = ap f (take_all k text (omega (arith, ltb-true (length text) k e)))
    by_case false e =
        let le = ltb-false (length text) k e in
        long (take k text) (omega (arith, length-take-le k text le)) ∙ sym (long text (omega arith))

-- canon reads one byte more than a table may have
pub canon_enough : (form : Form) (input : List ℕ) → canon_program form (take 65537 input) ≡ canon_program form input
unfolding canon_program canon
canon_enough form input =
    ap (λ (r : Result Table). printed (then r (λ (t : Table). fits lent (listing_text form t))))
    (by_length table_of (refused 2 0) long_table 65537 (omega arith) input)

pub canon_reads : {n : ℕ} → 65537 ≡ n → CanonReads n
canon_reads e = subst CanonReads e (record { is = canon_enough })

-- a text cut, and its first bytes cut: nothing is missing, what is after the cut is cut short, or both have a front that is as long as all that was kept
data Alike (most : ℕ) (x y : Split) : Type 0 where
  whole : y ≡ x → Alike most x y
  kept : (k : ℕ) → y.front ≡ x.front → y.back ≡ take k x.back → length x.front + 5 + k ≡ most → Alike most x y
  long : most ≤ length x.front + 4 → most ≤ length y.front + 4 → Alike most x y

front_long : (start : Bool) (got rest : List ℕ) → length got ≤ length (scan start got rest).front
front_long start got [] = omega arith
front_long start got (x ∷ xs) =
    by_test (λ (s : Split). length got ≤ length s.front) (both start (λ _. eq_list (take 5 (x ∷ xs)) next_line)) _ _ (λ _. omega arith)
    (λ _. omega (arith, front_long (eqb x line_feed) (got ++ (x ∷ [])) xs, length-append got (x ∷ [])))

either : (most : ℕ) (b : Bool) (x y u v : Unit {0} → Split) → Alike most (x tt) (u tt) → Alike most (y tt) (v tt) → Alike most (if b x y) (if b u v)
either most true x y u v p q = p
either most false x y u v p q = q

alike : (start : Bool) (got rest : List ℕ) (k most : ℕ) → length got + k ≡ most → Alike most (scan start got rest) (scan start got (take k rest))
alike start got [] k most e = whole (ap (scan start got) (take-nil k))
alike start got (x ∷ xs) zero most e = long (omega (arith, front_long start got (x ∷ xs))) (omega (arith, front_long start got []))
alike start got (x ∷ xs) (suc k) most e =
    by_case (ltb k 4) refl (alike (eqb x line_feed) (got ++ (x ∷ [])) xs k most (omega (arith, length-append got (x ∷ []))))
  where
    by_case : (b : Bool) → ltb k 4 ≡ b → Alike most (scan (eqb x line_feed) (got ++ (x ∷ [])) xs) (scan (eqb x line_feed) (got ++ (x ∷ [])) (take k xs))
        → Alike most (scan start got (x ∷ xs)) (scan start got (x ∷ take k xs))
    by_case true h r =
        let lt = ltb-true k 4 h in
        long (omega (arith, front_long start got (x ∷ xs))) (omega (arith, front_long start got (x ∷ take k xs)))
    by_case false h r =
        let le = ltb-false k 4 h in
        let same : take 5 (x ∷ take k xs) ≡ take 5 (x ∷ xs) = ap (λ (l : List ℕ). x ∷ l) (take-take 4 k xs le) in
        let m : 4 + (k - 4) ≡ k = omega arith in
        subst (λ (l : List ℕ). Alike most (scan start got (x ∷ xs))
        (if (both start (λ _. eq_list l next_line)) (λ _. record { front = got; back = drop 5 (x ∷ take k xs) })
        (λ _. scan (eqb x line_feed) (got ++ (x ∷ [])) (take k xs))))
        (sym same)
        (either most (both start (λ _. eq_list (take 5 (x ∷ xs)) next_line)) _ _ _ _
        (kept (k - 4) refl (ap (λ (n : ℕ). drop 4 (take n xs)) (sym m) ∙ drop_take 4 (k - 4) xs) (omega arith)) r)

split_alike : (k : ℕ) (text : List ℕ) → Alike k (split_next text) (split_next (take k text))
split_alike k text =
    subst (λ (s : Split). Alike k s (split_next (take k text))) (sym (split_scan text))
    (subst (Alike k (scan true [] text)) (sym (split_scan (take k text))) (alike true [] text k k (omega arith)))

then_same : {A B : Type 0} (r : Result A) (f g : A → Result B) → ((a : A) → f a ≡ g a) → then r f ≡ then r g
then_same (accepted a) f g h = h a
then_same (refused k l) f g h = refl

-- recheck, where a part is too long, whatever is after it
long_old : (form : Form) (old new listing : List ℕ) (room : ℕ) → most_text < length old → recheck form old new listing room ≡ refused 2 0
unfolding recheck
long_old form old new listing room h = rw (long_table old h)

long_new : (form : Form) (old new new' listing listing' : List ℕ) (room : ℕ) → most_text < length new → most_text < length new'
    → recheck form old new listing room ≡ recheck form old new' listing' room
unfolding recheck
long_new form old new new' listing listing' room h i = then_same (table_of old) _ _ (λ t. rw (long_table new h, long_table new' i))

listing_enough : (form : Form) (old new listing : List ℕ) (room k : ℕ) → most_text < k → recheck form old new (take k listing) room ≡ recheck form old new listing room
unfolding recheck
listing_enough form old new listing room k h =
    then_same (table_of old) _ _ (λ t. then_same (table_of new) _ _ (λ u.
    ap (λ (r : Result (List (List ℕ))). unless (comparable t u) (λ _. refused 10 0)
    (λ _. then r (λ (texts : List (List ℕ)). fits room (recheck_text form t u texts))))
    (by_length (old_listing form (length u.names) u.roots) (refused 11 0) (long_listing form (length u.names) u.roots) k h listing)))

-- what stands after the old table, as recheck is given it
abbrev behind_old : Form → List ℕ → Split → Result (List ℕ)
behind_old form old s = recheck form old s.front s.back lent

new_enough : (form : Form) (old : List ℕ) (k : ℕ) (x y : Split) → 131078 ≤ k → Alike k x y → behind_old form old y ≡ behind_old form old x
new_enough form old k x y h (whole e) = ap (behind_old form old) e
new_enough form old k x y h (long p q) = long_new form old y.front x.front y.back x.back lent (omega arith) (omega arith)
new_enough form old k x y h (kept m f b e) = by_case (ltb most_text (length x.front)) refl
  where
    by_case : (c : Bool) → ltb most_text (length x.front) ≡ c → behind_old form old y ≡ behind_old form old x
    by_case true l =
        let lt = ltb-true most_text (length x.front) l in
        long_new form old y.front x.front y.back x.back lent (omega (arith, ap length f)) lt
    by_case false l =
        let le = ltb-false most_text (length x.front) l in
        ap₂ {C = Result (List ℕ)} (λ (n o : List ℕ). recheck form old n o lent) f b ∙ listing_enough form old x.front x.back lent m (omega arith)

parts_enough : (form : Form) (k : ℕ) (x y : Split) → 196619 ≤ k → Alike k x y → recheck_parts form y ≡ recheck_parts form x
parts_enough form k x y h (whole e) = ap (recheck_parts form) e
parts_enough form k x y h (long p q) =
    long_old form y.front _ _ lent (omega arith) ∙ sym (long_old form x.front _ _ lent (omega arith))
parts_enough form k x y h (kept m f b e) = by_case (ltb most_text (length x.front)) refl
  where
    by_case : (c : Bool) → ltb most_text (length x.front) ≡ c → recheck_parts form y ≡ recheck_parts form x
    by_case true l =
        let lt = ltb-true most_text (length x.front) l in
        long_old form y.front _ _ lent (omega (arith, ap length f)) ∙ sym (long_old form x.front _ _ lent lt)
    by_case false l =
        let le = ltb-false most_text (length x.front) l in
        ap₂ {C = Result (List ℕ)} (λ (o t : List ℕ). behind_old form o (split_next t)) f b
        ∙ new_enough form x.front m (split_next x.back) (split_next (take m x.back)) (omega arith) (split_alike m x.back)

-- recheck reads two tables as long as a table may be, each with its line `next`, and one byte more than an old listing may have
pub recheck_enough : (form : Form) (input : List ℕ) → recheck_program form (take 196619 input) ≡ recheck_program form input
unfolding recheck_program
recheck_enough form input = ap printed (parts_enough form 196619 (split_next input) (split_next (take 196619 input)) (omega arith) (split_alike 196619 input))

pub recheck_reads : {n : ℕ} → 196619 ≡ n → RecheckReads n
recheck_reads e = subst RecheckReads e (record { is = recheck_enough })
