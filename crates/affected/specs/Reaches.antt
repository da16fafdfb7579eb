-- Which entries are reached backwards from those that differ, and what the functions that mark them ensure.
use Rattle.std.specs.Prelude.{◌≡◌, ◌⊎◌, ℕ, ◌+◌, ◌≤◌, ◌<◌, length, get_or}
use mathlib.Core.List.{List, [], ◌++◌, Memᴰ}
use Rattle.cells.specs.Part.{run, cell}
use Rattle.cells.specs.Placed.{Under}
use Rattle.layout.specs.Layout.{table_words, reached_at, queue_at, work_length, redone_at}
use Rattle.rules.specs.Plain.{filter, contains, flag}
use Rattle.rules.specs.Ceilings.{most_entries, most_ids}
use Rattle.rules.specs.Members.{add_all}
use Rattle.rules.specs.Table.{Root, Table, root_of}
use Rattle.rules.specs.Canonicalizer.{reader_of}
use Rattle.laws.specs.Sound.{ids_of}
use Rattle.rules.specs.Calls.{row_at, differs, redone}
use Rattle.text.specs.Reads.{span}
use Rattle.storage.specs.declared.given.Canon.{Canon}
use Rattle.storage.specs.Passes.{Reads}
use Rattle.storage.specs.Helds.{HeldList, only}
use Rattle.links.specs.Links.{Link, sources, Linked}

-- the queue holds each of xs once, q ids in all, and just these are marked
pub record Queued (count : ℕ) (work : List ℕ) (q : ℕ) (xs : List ℕ) : Type 0 where
  pub entries : count ≤ most_entries
  pub room : work_length ≤ length work
  pub held : HeldList work queue_at q (add_all [] xs)
  pub known : Under count xs
  pub marks : (v : ℕ) → v < count → cell work (reached_at + v) ≡ flag (contains (add_all [] xs) v)

-- each of ys is marked too, and put after the q ids of the queue if it was not; the links stay
pub record Marks (work : List ℕ) (q : ℕ) (ys work' : List ℕ) (r : ℕ) : Type 0 where
  pub kept : (k : ℕ) → k < reached_at → cell work' k ≡ cell work k
  pub is : {count : ℕ} {xs : List ℕ} → Queued count work q xs → Under count ys → Queued count work' r (xs ++ ys)

-- the entries' rows of a table stand where the cells from base on tell
pub record RowsAt (w : List ℕ) (c : Canon) (t : Table) : Type 0 where
  pub is : (id : ℕ) → id < c.count → row_at t id ≡ span w (cell w (c.base + id)) (cell w (c.base + id + 1))

-- two tables side by side, before and after an edit
pub record Compared (old table : List ℕ) (c : Canon) (u t : Table) : Type 0 where
  pub low : c.base + c.count ≤ table_words
  pub before : RowsAt old c u
  pub after : RowsAt table c t

-- x is marked if its rows differ
pub record MarksIf (old table work : List ℕ) (c : Canon) (q x : ℕ) (work' : List ℕ) (r : ℕ) : Type 0 where
  pub kept : (k : ℕ) → k < reached_at → cell work' k ≡ cell work k
  pub is : {u t : Table} → Compared old table c u t → x < c.count → Marks work q (only (differs u t x) x) work' r

-- the entries that differ
abbrev pub differing : Table → Table → ℕ → List ℕ
differing u t count = filter (differs u t) (run (λ (id : ℕ). id) 0 count)

pub record MarksDiffering (old table work : List ℕ) (c : Canon) (work' : List ℕ) (r : ℕ) : Type 0 where
  pub kept : (k : ℕ) → k < reached_at → cell work' k ≡ cell work k
  pub is : {u t : Table} → Compared old table c u t → Marks work 0 (differing u t c.count) work' r

-- the entries with a link to x are marked
pub record MarksBefore (work : List ℕ) (n q x : ℕ) (work' : List ℕ) (r : ℕ) : Type 0 where
  pub kept : (k : ℕ) → k < reached_at → cell work' k ≡ cell work k
  pub is : {count : ℕ} {es : List Link} → Linked count work n es → x < count → Marks work q (sources es x) work' r

-- links lead from x to one of ys
pub data Leads (es : List Link) (ys : List ℕ) : ℕ → Type 0 where
  there : {x : ℕ} → Memᴰ x ys → Leads es ys x
  along : {x y : ℕ} → Memᴰ x (sources es y) → Leads es ys y → Leads es ys x

-- 1 where P is so, 0 where it is not
abbrev pub Tells : Type 0 → ℕ → Type 0
Tells P k = (P × (k ≡ 1)) ⊎ ((P → ⊥) × (k ≡ 0))

-- just the entries from which links lead to one in the queue are marked
pub record Spreads (work : List ℕ) (n count q : ℕ) (work' : List ℕ) : Type 0 where
  pub is : {es : List Link} {xs : List ℕ} → Linked count work n es → Queued count work q xs
      → (id : ℕ) → id < count → Tells (Leads es xs id) (cell work' (reached_at + id))

-- what the search relies on: the old table's entries are read from its slice, with few enough ids
pub record Searched (old table work : List ℕ) (c : Canon) (u t : Table) : Type 0 where
  pub compared : Compared old table c u t
  pub reads : Reads old c (reader_of u)
  pub entries : c.count ≤ most_entries
  pub ids : ids_of (reader_of u) 0 c.count ≤ most_ids
  pub room : work_length ≤ length work

-- just the entries are marked that would be redone as roots
pub record MarksReaching (old table work : List ℕ) (c : Canon) (work' : List ℕ) : Type 0 where
  pub is : {u t : Table} → Searched old table work c u t → (root : Root) → root.id < c.count → cell work' (reached_at + root.id) ≡ flag (redone u t root)

-- the marks of n roots, whose rows begin where the cells from first on tell
pub record FlagsRoots (table work spans : List ℕ) (first n : ℕ) (spans' : List ℕ) : Type 0 where
  pub before : (k : ℕ) → k < redone_at → cell spans' k ≡ cell spans k
  pub behind : (k : ℕ) → redone_at + n ≤ k → cell spans' k ≡ cell spans k
  pub is : redone_at + n ≤ length spans → (i : ℕ) → i < n → cell spans' (redone_at + i) ≡ cell work (reached_at + cell table (cell table (first + i) + 1))

-- the ids of the roots rs stand in these rows, and are entries
pub record RootIds (table : List ℕ) (count first n : ℕ) (rs : List Root) : Type 0 where
  pub is : (i : ℕ) → i < n → cell table (cell table (first + i) + 1) ≡ (get_or rs i (root_of [])).id
  pub known : (i : ℕ) → i < n → (get_or rs i (root_of [])).id < count

-- for each root 1 if it is redone, 0 if it is kept; no other cell changes
pub record FlagsRedone (old table work : List ℕ) (c : Canon) (first n : ℕ) (old' : List ℕ) : Type 0 where
  pub before : (k : ℕ) → k < redone_at → cell old' k ≡ cell old k
  pub behind : (k : ℕ) → redone_at + n ≤ k → cell old' k ≡ cell old k
  pub is : {u t : Table} → Searched old table work c u t → RootIds table c.count first n t.roots → redone_at + n ≤ length old
      → (i : ℕ) → i < n → cell old' (redone_at + i) ≡ flag (redone u t (get_or t.roots i (root_of [])))
