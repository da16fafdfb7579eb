-- Links from each entry to the ids that stand in it, as the working slice holds them, and what the functions that make them ensure.
use Rattle.std.specs.Prelude.{◌≡◌, ℕ, zero, suc, ◌+◌, ◌≤◌, ◌<◌, List, [], ◌∷◌, ◌++◌, length, eqb}
use Rattle.cells.specs.Part.{cell, if}
use Rattle.cells.specs.Placed.{Under}
use Rattle.layout.specs.Layout.{heads_at, next_at, from_at, work_length}
use Rattle.rules.specs.Ceilings.{most_entries, most_ids}
use Rattle.rules.specs.Table.{Attr, kids, attr_kids}
use Rattle.rules.specs.Canonicalizer.{Reader}
use Rattle.laws.specs.Sound.{ids_of}
use Rattle.lang_ty.specs.Sets.{SetAt, apart, reach}
use Rattle.storage.specs.declared.given.Canon.{Canon}
use Rattle.storage.specs.Passes.{ListAt, BoundsAt, Reads}

-- a link goes from an entry to an id that stands in it
pub record Link : Type 0 where
  pub from : ℕ
  pub to : ℕ

-- links from x to each of ys one after another, put before those there are
abbrev pub linked : ℕ → List ℕ → List Link → List Link
linked x [] es = es
linked x (y ∷ ys) es = linked x ys (record { from = x; to = y } ∷ es)

-- the links of the first n entries
abbrev pub links_of : Reader → ℕ → List Link
links_of t zero = []
links_of t (suc n) = linked n (kids (t n)) (links_of t n)

-- the entries that have a link to y
abbrev pub sources : List Link → ℕ → List ℕ
sources [] y = []
sources (e ∷ es) y = if (eqb e.to y) (λ _. e.from ∷ sources es y) (λ _. sources es y)

-- link e goes from the first of xs, the link to the same entry before it from the second, and so on; 0 is none. Numbers fall
abbrev pub Chained : List ℕ → ℕ → List ℕ → Type 0
Chained work e [] = e ≡ 0
Chained work e (x ∷ xs) = (cell work (next_at + e) < e) × (cell work (from_at + e) ≡ x) × Chained work (cell work (next_at + e)) xs

-- the links to y among n links: the last of them has a number that is told at y
pub record LinkedTo (work : List ℕ) (n : ℕ) (es : List Link) (y : ℕ) : Type 0 where
  pub last : cell work (heads_at + y) ≤ n
  pub chain : Chained work (cell work (heads_at + y)) (sources es y)

-- the working slice holds the n links es between count entries
pub record Linked (count : ℕ) (work : List ℕ) (n : ℕ) (es : List Link) : Type 0 where
  pub entries : count ≤ most_entries
  pub room : work_length ≤ length work
  pub size : n ≡ length es
  pub few : n ≤ most_ids
  pub known : (y : ℕ) → Under count (sources es y)
  pub to : (y : ℕ) → y < count → LinkedTo work n es y

-- links from x to each of ys are added to n links
pub record LinksTo (work : List ℕ) (n x : ℕ) (ys work' : List ℕ) (r : ℕ) : Type 0 where
  pub is : {count : ℕ} {es : List Link} → Linked count work n es → n + length ys ≤ most_ids → x < count → Under count ys → Linked count work' r (linked x ys es)

pub record LinksEach (table work : List ℕ) (n x a step k : ℕ) (work' : List ℕ) (r : ℕ) : Type 0 where
  pub is : reach step a k ≤ 4294967295 → LinksTo work n x (apart table step a k) work' r

pub record LinksList (table work : List ℕ) (n x a : ℕ) (work' : List ℕ) (r : ℕ) : Type 0 where
  pub is : {ys : List ℕ} → ListAt table a ys → LinksTo work n x ys work' r

pub record LinksBounds (table work : List ℕ) (n x v : ℕ) (work' : List ℕ) (r : ℕ) : Type 0 where
  pub is : {l u : List ℕ} → BoundsAt table v l u → LinksTo work n x (l ++ u) work' r

pub record LinksSet (table work : List ℕ) (n x a : ℕ) (work' : List ℕ) (r : ℕ) : Type 0 where
  pub is : {t : Attr} → SetAt table a t → LinksTo work n x (attr_kids t) work' r

pub record LinksEntry (table work : List ℕ) (c : Canon) (n x : ℕ) (work' : List ℕ) (r : ℕ) : Type 0 where
  pub is : {t : Reader} → Reads table c t → x < c.count → LinksTo work n x (kids (t x)) work' r

-- from none on, the links of all entries
pub record LinksAll (table work : List ℕ) (c : Canon) (work' : List ℕ) (r : ℕ) : Type 0 where
  pub is : {t : Reader} → Reads table c t → ids_of t 0 c.count ≤ most_ids → Linked c.count work 0 [] → Linked c.count work' r (links_of t c.count)
