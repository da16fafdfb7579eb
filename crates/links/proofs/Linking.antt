-- Links made one after another: what stands of them in the working slice. Assumes nothing.
use mathlib.Core.Path.{◌≡◌, refl, sym, ap, ap₂, ◌∙◌, subst}
use mathlib.Core.Bool.{Bool, true, false}
use Prim.Native.Nat.{ℕ, zero, suc, ◌+◌, ◌-◌, ◌≤◌, ◌<◌}
use native.Mathlib.Omega.{arith}
use native.Mathlib.Numerals.{add-one}
use mathlib.Core.List.{List, [], ◌∷◌, ◌++◌}
use mathlib.Core.Option.{Option, none, some}
use lib.ListN.{length, set, length-set, length-append}
use lib.Seq.{get_or-set_same, get_or-set_other}
use lib.Dec.{eqb}
use borrow.Author.Tests.{eqb-true, eqb-false}
use Rattle.cells.specs.Part.{cell, part, if}
use Rattle.cells.specs.Sum.{Sum}
use Rattle.cells.specs.Placed.{Holds, Under}
use Rattle.cells.proofs.Holding.{holds_place, holds_head, holds_tail}
use Rattle.layout.specs.Layout.{work_length, heads_at, next_at, from_at, reached_at}
use Rattle.rules.specs.Ceilings.{most_ids}
use Rattle.rules.specs.Table.{Field, kids, field_types, dyn_ids, var, prim, tyvar, list, fn, neg, named, inter, union, frozen}
use Rattle.rules.specs.Table as rules
use Rattle.rules.specs.Types.{field_words, dyn_words}
use Rattle.rules.specs.Canonicalizer.{Reader}
use Rattle.laws.specs.Sound.{ids_of}
use Rattle.laws.proofs.Rows.{attr_words_length, set_fields, set_dyn}
use Rattle.laws.proofs.Filtering.{under_front, under_back}
use Rattle.lang_ty.specs.Sets.{Fields, DynPlace, apart, reach}
use Rattle.lang_ty.proofs.Attrsets.{reach_most, reach_one, reach_two, apart_part}
use Rattle.storage.specs.declared.given.Canon.{Canon}
use Rattle.storage.specs.declared.entries.Entry.{Entry}
use Rattle.storage.specs.declared.entries.Entry.TheVariants.{Variable, Primitive, TyVar, List as ListOf, Lambda, AttrSet, Neg, Named, Inter, Union, Frozen}
use Rattle.storage.specs.Passes.{ListAt, Reads}
use Rattle.storage.specs.Entries.{ReadAs, EntryRead, Uppers}
use Rattle.storage.proofs.HeldIds.{read_as}
use Rattle.links.specs.Links.{Link, linked, links_of, sources, Chained, Linked, LinksTo, LinksEach, LinksList, LinksBounds, LinksSet}
use Rattle.links.specs.Links.{LinksEntry, LinksAll}

-- links in a slice that is alike up to link e
chained_ext : (w w' : List ℕ) (e : ℕ) (xs : List ℕ) → ((j : ℕ) → j ≤ e → cell w' (next_at + j) ≡ cell w (next_at + j))
    → ((j : ℕ) → j ≤ e → cell w' (from_at + j) ≡ cell w (from_at + j)) → Chained w e xs → Chained w' e xs
chained_ext w w' e [] f g h = h
chained_ext w w' e (x ∷ xs) f g h =
    let z = f e (omega arith) in
    let lt = h.0 in (
      omega arith,
      g e (omega arith) ∙ h.1,
      subst (λ (j : ℕ). Chained w' j xs) (sym z) (chained_ext w w' (cell w (next_at + e)) xs (λ j le. f j (omega arith)) (λ j le. g j (omega arith)) h.2),
    )

-- in a slice that is alike below the marks
pub linked_ext : {count n : ℕ} {w w' : List ℕ} {es : List Link} → Linked count w n es → work_length ≤ length w' → ((k : ℕ) → k < reached_at → cell w' k ≡ cell w k)
    → Linked count w' n es
linked_ext {count} {n} {w} {w'} {es} h room kept =
    let many = h.entries in
    let few = h.few in
    record {
      entries = h.entries;
      room = room;
      size = h.size;
      few = h.few;
      known = h.known;
      to = λ y lt.
          let l = h.to y lt in
          let low = l.last in
          let z : cell w' (heads_at + y) ≡ cell w (heads_at + y) = kept (heads_at + y) (omega arith) in
          record {
            last = omega arith;
            chain =
                subst (λ (e : ℕ). Chained w' e (sources es y)) (sym z)
                (chained_ext w w' (cell w (heads_at + y)) (sources es y) (λ j le. kept (next_at + j) (omega arith)) (λ j le. kept (from_at + j) (omega arith))
                l.chain);
          };
    }

-- one link more
module _ {work w₁ w₂ work' : List ℕ} {n x y e p last q r s : ℕ} (sum : Sum n 1 e) (at : p ≡ heads_at + y) (get : last ≡ cell work p) (at₁ : q ≡ next_at + e)
    (put₁ : w₁ ≡ set work q last) (at₂ : r ≡ from_at + e) (put₂ : w₂ ≡ set w₁ r x) (at₃ : s ≡ heads_at + y) (put₃ : work' ≡ set w₂ s e) where
  module _ {count : ℕ} {es : List Link} (h : Linked count work n es) (room : n + 1 ≤ most_ids) (xin : x < count) (yin : y < count) where
    abbrev new : Link
    new = record { from = x; to = y }

    number : e ≡ n + 1
    number = sum.is (omega arith)

    long : length work' ≡ length work
    long = ap length put₃ ∙ length-set w₂ s e ∙ ap length put₂ ∙ length-set w₁ r x ∙ ap length put₁ ∙ length-set work q last

    long₁ : length w₁ ≡ length work
    long₁ = ap length put₁ ∙ length-set work q last

    long₂ : length w₂ ≡ length work
    long₂ = ap length put₂ ∙ length-set w₁ r x ∙ long₁

    -- a cell that is not written
    other : (k : ℕ) → (k ≡ next_at + e → ⊥) → (k ≡ from_at + e → ⊥) → (k ≡ heads_at + y → ⊥) → cell work' k ≡ cell work k
    other k a b c =
        ap (λ (l : List ℕ). cell l k) put₃
        ∙ get_or-set_other w₂ s k e 0 (λ z. c (z ∙ at₃))
        ∙ ap (λ (l : List ℕ). cell l k) put₂
        ∙ get_or-set_other w₁ r k x 0 (λ z. b (z ∙ at₂))
        ∙ ap (λ (l : List ℕ). cell l k) put₁
        ∙ get_or-set_other work q k last 0 (λ z. a (z ∙ at₁))

    head : cell work' (heads_at + y) ≡ e
    head =
        let l = long₂ in
        let big = h.room in
        let many = h.entries in
        ap₂ cell put₃ (sym at₃) ∙ get_or-set_same w₂ s e 0 (omega arith)

    next : cell work' (next_at + e) ≡ last
    next =
        let l = number in
        let big = h.room in
        let many = h.entries in
        ap (λ (w : List ℕ). cell w (next_at + e)) put₃
        ∙ get_or-set_other w₂ s (next_at + e) e 0 (omega arith)
        ∙ ap (λ (w : List ℕ). cell w (next_at + e)) put₂
        ∙ get_or-set_other w₁ r (next_at + e) x 0 (omega arith)
        ∙ ap₂ cell put₁ (sym at₁)
        ∙ get_or-set_same work q last 0 (omega arith)

    source : cell work' (from_at + e) ≡ x
    source =
        let l = number in
        let m = long₁ in
        let big = h.room in
        let many = h.entries in
        ap (λ (w : List ℕ). cell w (from_at + e)) put₃
        ∙ get_or-set_other w₂ s (from_at + e) e 0 (omega arith)
        ∙ ap₂ cell put₂ (sym at₂)
        ∙ get_or-set_same w₁ r x 0 (omega arith)

    -- what was chained is chained still
    before : (i : ℕ) (xs : List ℕ) → i ≤ n → Chained work i xs → Chained work' i xs
    before i xs le g =
        let l = number in
        let many = h.entries in
        chained_ext work work' i xs (λ j less. other (next_at + j) (omega arith) (omega arith) (omega arith))
        (λ j less. other (from_at + j) (omega arith) (omega arith) (omega arith)) g

    to_turn : (z : ℕ) → z < count → (b : Bool) → eqb y z ≡ b
        → (cell work' (heads_at + z) ≤ e) × Chained work' (cell work' (heads_at + z)) (if b (λ _. x ∷ sources es z) (λ _. sources es z))
    to_turn z lt true f =
        let same : y ≡ z = eqb-true y z f in
        let l = number in
        let was = h.to z lt in
        let here : cell work' (heads_at + z) ≡ e = ap (λ (j : ℕ). cell work' (heads_at + j)) (sym same) ∙ head in
        let old : last ≡ cell work (heads_at + z) = get ∙ ap (cell work) (at ∙ ap (λ (j : ℕ). heads_at + j) same) in
        let low = was.last in
        let follow = next in (
          omega arith,
          subst (λ (j : ℕ). Chained work' j (x ∷ sources es z)) (sym here) (
            omega arith,
            source,
            subst (λ (j : ℕ). Chained work' j (sources es z)) (sym (next ∙ old)) (before (cell work (heads_at + z)) (sources es z) low was.chain),
          ),
        )
    to_turn z lt false f =
        let differ = eqb-false y z f in
        let l = number in
        let many = h.entries in
        let was = h.to z lt in
        let low = was.last in
        let here : cell work' (heads_at + z) ≡ cell work (heads_at + z) = other (heads_at + z) (omega arith) (omega arith) (λ o. differ (omega arith)) in
        (omega arith, subst (λ (j : ℕ). Chained work' j (sources es z)) (sym here) (before (cell work (heads_at + z)) (sources es z) low was.chain))

    known_turn : (z : ℕ) (b : Bool) → Under count (if b (λ _. x ∷ sources es z) (λ _. sources es z))
    known_turn z true = (xin, h.known z)
    known_turn z false = h.known z

    link_more : Linked count work' e (new ∷ es)
    link_more =
        let l = number in
        let m = long in
        let big = h.room in
        let size = h.size in
        record {
          entries = h.entries;
          room = omega arith;
          size = omega arith;
          few = omega arith;
          known = λ z. known_turn z (eqb y z);
          to = λ z lt. let t = to_turn z lt (eqb y z) refl in record { last = t.0; chain = t.1 };
        }

  pub link_is : LinksTo work n x (y ∷ []) work' e
  link_is = record { is = λ h room xin yin. link_more h room xin yin.0 }

linked_length : (x : ℕ) (ys : List ℕ) (es : List Link) → length (linked x ys es) ≡ length ys + length es
linked_length x [] es = omega arith
linked_length x (y ∷ ys) es = omega (arith, linked_length x ys (record { from = x; to = y } ∷ es))

linked_both : (x : ℕ) (ys zs : List ℕ) (es : List Link) → linked x (ys ++ zs) es ≡ linked x zs (linked x ys es)
linked_both x [] zs es = refl
linked_both x (y ∷ ys) zs es = linked_both x ys zs (record { from = x; to = y } ∷ es)

links_none : {work : List ℕ} {n x : ℕ} → LinksTo work n x [] work n
links_none = record { is = λ h room xin yin. h }

links_both : {work w work' : List ℕ} {n m r x : ℕ} (ys zs : List ℕ) → LinksTo work n x ys w m → LinksTo w m x zs work' r
    → LinksTo work n x (ys ++ zs) work' r
links_both {work' = work'} {r = r} {x} ys zs a b =
    record {
      is = λ {count} {es} h room xin yin.
          let len = length-append ys zs in
          let first = a.is h (omega arith) xin (under_front count ys zs yin) in
          let size = h.size in
          let more = first.size in
          let l = linked_length x ys es in
          subst (λ (k : List Link). Linked count work' r k) (sym (linked_both x ys zs es)) (b.is first (omega arith) xin (under_back count ys zs yin));
    }

links_list : {work work' : List ℕ} {n r x : ℕ} {ys zs : List ℕ} → ys ≡ zs → LinksTo work n x ys work' r → LinksTo work n x zs work' r
links_list {work} {work'} {n} {r} {x} e h = subst (λ (l : List ℕ). LinksTo work n x l work' r) e h

-- `link_each` at id i, which stands at p: links to the rest make links to all
pub record Linking (table work₀ : List ℕ) (n x a step k : ℕ) (work : List ℕ) (e p i : ℕ) : Type 0 where
  pub few : i ≤ k
  pub place : reach step a k ≤ 4294967295 → reach step p (k - i) ≡ reach step a k
  pub is : reach step a k ≤ 4294967295 → {work' : List ℕ} {r : ℕ} → LinksTo work e x (apart table step p (k - i)) work' r
      → LinksTo work₀ n x (apart table step a k) work' r

module _ {table work₀ : List ℕ} {n x a step k : ℕ} where
  pub linking_start : Linking table work₀ n x a step k work₀ n a 0
  linking_start =
      let z : k - 0 ≡ k = omega arith in
      record { few = omega arith; place = λ h. ap (reach step a) z; is = λ h g. links_list (ap (apart table step a) z) g }

  pub linking_more : {work w : List ℕ} {e m p i y s : ℕ} → Linking table work₀ n x a step k work e p i → i < k → y ≡ cell table p
      → LinksTo work e x (y ∷ []) w m
      → Sum p step s → Linking table work₀ n x a step k w m s (i + 1)
  linking_more {p = p} {i} {y} {s} l lt get link sum =
      let rest = k - (i + 1) in
      let left : k - i ≡ suc rest = omega arith in
      let far : reach step a k ≤ 4294967295 → reach step (p + step) rest ≡ reach step a k = λ h. sym (ap (reach step p) left) ∙ l.place h in
      let here : reach step a k ≤ 4294967295 → s ≡ p + step = λ h. let z = far h in sum.is (omega (arith, reach_most step (p + step) rest)) in
      record {
        few = omega arith;
        place = λ h. ap (λ (j : ℕ). reach step j rest) (here h) ∙ far h;
        is = λ h g.
            l.is h
            (links_list (ap₂ {C = List ℕ} ◌∷◌ get (ap (λ (j : ℕ). apart table step j rest) (here h)) ∙ sym (ap (apart table step p) left))
            (links_both (y ∷ []) (apart table step s rest) link g));
      }

  pub linking_done : {work : List ℕ} {e p i : ℕ} → Linking table work₀ n x a step k work e p i → k ≤ i → LinksEach table work₀ n x a step k work e
  linking_done {p = p} {i} l le =
      let z : k - i ≡ 0 = omega arith in
      record { is = λ h. l.is h (links_list (sym (ap (apart table step p) z)) links_none) }

-- a list's ids stand one apart, the types of fields two
apart_types : {w : List ℕ} {a : ℕ} (fs : List Field) → Holds w a (field_words fs) → apart w 2 (suc a) (length fs) ≡ field_types fs
apart_types {w = w} {a = a} [] h = refl
apart_types {w = w} {a = a} (f ∷ fs) h =
    let z : suc (suc a) ≡ a + 2 = omega arith in
    let y : suc (a + 2) ≡ suc a + 2 = omega arith in
    ap₂ {C = List ℕ} ◌∷◌ (holds_head (holds_tail h))
    (sym (ap (λ (b : ℕ). apart w 2 b (length fs)) y) ∙ apart_types {a = a + 2} fs (holds_place z (holds_tail (holds_tail h))))

module _ {table work : List ℕ} {n x : ℕ} where
  pub list_is : {a b k r : ℕ} {work' : List ℕ} → Sum a 1 b → k ≡ cell table a → LinksEach table work n x b 1 k work' r → LinksList table work n x a work' r
  list_is {a} {b} {k} one e each =
      record {
        is = λ {ys} at.
            let z : k ≡ length ys = e ∙ at.count in
            let f = at.fits in
            let y : b ≡ suc a = one.is (omega arith) ∙ omega arith in
            links_list (apart_part table b k ∙ ap₂ (part table) y z ∙ at.holds.is) (each.is (omega (arith, reach_one b k)));
      }

  pub bounds_is : {v u m r : ℕ} {w work' : List ℕ} → LinksList table work n x v w m → Uppers table v u → LinksList table w m x u work' r
      → LinksBounds table work n x v work' r
  bounds_is first up second =
      record {
        is = λ {l} {u} b.
            links_both l u (first.is b.lowers) (second.is (subst (λ (j : ℕ). ListAt table j u) (sym (up.is b.lowers)) b.uppers));
      }

dyn_list : {w : List ℕ} {a : ℕ} (d : Option ℕ) → Holds w a (dyn_words d) → suc a + length (dyn_ids d) ≤ 4294967295 → ListAt w a (dyn_ids d)
dyn_list none h f = record { count = holds_head h; holds = holds_tail h; fits = f }
dyn_list (some d) h f = record { count = holds_head h; holds = holds_tail h; fits = f }

module _ {table work : List ℕ} {n x : ℕ} where
  pub set_is : {a b k m d r : ℕ} {w work' : List ℕ} → Sum a 2 b → Fields table a k → LinksEach table work n x b 2 k w m → DynPlace table a d
      → LinksList table w m x d work' r → LinksSet table work n x a work' r
  set_is {a} {b} {k} {d = d} two fs first place second =
      record {
        is = λ {t} s.
            let z = fs.is s in
            let l = attr_words_length t in
            let f = s.fits in
            let y : b ≡ suc (a + 1) = two.is (omega arith) ∙ omega arith in
            let q = place.is s in
            links_both (field_types t.fields) (dyn_ids t.dyn)
            (links_list (ap₂ (apart table 2) y z ∙ apart_types t.fields (set_fields t s.words)) (first.is (omega (arith, reach_two b k))))
            (second.is (subst (λ (j : ℕ). ListAt table j (dyn_ids t.dyn)) (sym q) (dyn_list t.dyn (set_dyn t s.words) (omega arith))));
      }

pub two_is : {work : List ℕ} {n x y z m r : ℕ} {w work' : List ℕ} → LinksTo work n x (y ∷ []) w m → LinksTo w m x (z ∷ []) work' r
    → LinksTo work n x (y ∷ z ∷ []) work' r
two_is {y = y} {z} a b = links_both (y ∷ []) (z ∷ []) a b

-- an entry's ids, kind by kind
module _ {table work : List ℕ} {c : Canon} {n x : ℕ} {e : Entry} (read : EntryRead table c x e) where
  entry_by_lem : {work' : List ℕ} {r : ℕ} (k : Entry) → e ≡ k → ((en : rules.Entry) → ReadAs table k en → LinksTo work n x (kids en) work' r)
      → LinksEntry table work c n x work' r
  entry_by_lem k q f = record { is = λ {t} reads lt. f (t x) (read_as k q (read.is reads lt)) }

  same_kids : {work' : List ℕ} {r : ℕ} {en : rules.Entry} (k : rules.Entry) → en ≡ k → LinksTo work n x (kids k) work' r → LinksTo work n x (kids en) work' r
  same_kids k q h = links_list (ap kids (sym q)) h

  pub entry_primitive : {y : ℕ} → e ≡ Primitive y → LinksEntry table work c n x work n
  entry_primitive {y} q = entry_by_lem (Primitive y) q (λ en a. same_kids (prim y) a.is links_none)

  pub entry_tyvar : {y : ℕ} → e ≡ TyVar y → LinksEntry table work c n x work n
  entry_tyvar {y} q = entry_by_lem (TyVar y) q (λ en a. same_kids (tyvar y) a.is links_none)

  pub entry_frozen : e ≡ Frozen → LinksEntry table work c n x work n
  entry_frozen q = entry_by_lem Frozen q (λ en a. same_kids frozen a.is links_none)

  module _ {work' : List ℕ} {r : ℕ} where
    pub entry_variable : {v : ℕ} → e ≡ Variable v → LinksBounds table work n x v work' r → LinksEntry table work c n x work' r
    entry_variable {v} q l = entry_by_lem (Variable v) q (λ en a. same_kids (var a.is.lower a.is.upper) a.is.is (l.is a.is.bounds))

    pub entry_set : {v : ℕ} → e ≡ AttrSet v → LinksSet table work n x v work' r → LinksEntry table work c n x work' r
    entry_set {v} q l = entry_by_lem (AttrSet v) q (λ en a. same_kids (rules.set a.is.set) a.is.is (l.is a.is.at))

    pub entry_list : {y : ℕ} → e ≡ ListOf y → LinksTo work n x (y ∷ []) work' r → LinksEntry table work c n x work' r
    entry_list {y} q l = entry_by_lem (ListOf y) q (λ en a. same_kids (list y) a.is l)

    pub entry_neg : {y : ℕ} → e ≡ Neg y → LinksTo work n x (y ∷ []) work' r → LinksEntry table work c n x work' r
    entry_neg {y} q l = entry_by_lem (Neg y) q (λ en a. same_kids (neg y) a.is l)

    pub entry_named : {m y : ℕ} → e ≡ Named m y → LinksTo work n x (y ∷ []) work' r → LinksEntry table work c n x work' r
    entry_named {m} {y} q l = entry_by_lem (Named m y) q (λ en a. same_kids (named m y) a.is l)

    pub entry_lambda : {y z : ℕ} → e ≡ Lambda y z → LinksTo work n x (y ∷ z ∷ []) work' r → LinksEntry table work c n x work' r
    entry_lambda {y} {z} q l = entry_by_lem (Lambda y z) q (λ en a. same_kids (fn y z) a.is l)

    pub entry_inter : {y z : ℕ} → e ≡ Inter y z → LinksTo work n x (y ∷ z ∷ []) work' r → LinksEntry table work c n x work' r
    entry_inter {y} {z} q l = entry_by_lem (Inter y z) q (λ en a. same_kids (inter y z) a.is l)

    pub entry_union : {y z : ℕ} → e ≡ Union y z → LinksTo work n x (y ∷ z ∷ []) work' r → LinksEntry table work c n x work' r
    entry_union {y} {z} q l = entry_by_lem (Union y z) q (λ en a. same_kids (union y z) a.is l)

-- the ids of the first n entries
ids_last : (t : Reader) (i j n : ℕ) → j ≡ i + n → ids_of t i (suc n) ≡ ids_of t i n + length (kids (t j))
ids_last t i j zero e = let z : i ≡ j = omega arith in omega (arith, ap (λ (k : ℕ). length (kids (t k))) z)
ids_last t i j (suc n) e = omega (arith, ids_last t (suc i) j n (omega arith))

ids_most : (t : Reader) (i n k : ℕ) → n ≤ k → ids_of t i n ≤ ids_of t i k
ids_most t i zero k le = omega arith
ids_most t i (suc n) zero le = absurd (omega arith)
ids_most t i (suc n) (suc k) le = omega (arith, ids_most t (suc i) n k (omega arith))

-- `link_all` at entry x
pub record LinkingAll (table work₀ : List ℕ) (c : Canon) (count : ℕ) (work : List ℕ) (n x : ℕ) : Type 0 where
  pub few : x ≤ count
  pub whole : count ≡ c.count
  pub is : {t : Reader} → Reads table c t → ids_of t 0 c.count ≤ most_ids → Linked c.count work₀ 0 [] → Linked c.count work n (links_of t x)

links_length : (t : Reader) (n : ℕ) → length (links_of t n) ≡ ids_of t 0 n
links_length t zero = refl
links_length t (suc n) = omega (arith, linked_length n (kids (t n)) (links_of t n), links_length t n, ids_last t 0 n n (omega arith))

module _ {table work₀ : List ℕ} {c : Canon} {count : ℕ} where
  pub all_start : count ≡ c.count → LinkingAll table work₀ c count work₀ 0 0
  all_start e = record { few = omega arith; whole = e; is = λ reads few h. h }

  pub all_more : {work work' : List ℕ} {n m x : ℕ} → LinkingAll table work₀ c count work n x → x < count → LinksEntry table work c n x work' m
      → LinkingAll table work₀ c count work' m (x + 1)
  all_more {work' = work'} {n} {m} {x} l lt entry =
      let e = l.whole in
      record {
        few = omega arith;
        whole = e;
        is = λ {t} reads few h.
            let was = l.is reads few h in
            let size = was.size in
            let z = links_length t x in
            let w : length (kids (t x)) + ids_of t 0 x ≤ ids_of t 0 c.count =
            omega (arith, ids_last t 0 x x (omega arith), ids_most t 0 (suc x) c.count (omega arith)) in
            subst (λ (j : ℕ). Linked c.count work' m (links_of t j)) (sym (add-one x))
            ((entry.is reads (omega arith)).is was (omega arith) (omega arith) (reads.known x (omega arith)));
      }

  pub all_done : {work : List ℕ} {n x : ℕ} → LinkingAll table work₀ c count work n x → count ≤ x → LinksAll table work₀ c work n
  all_done {work} {n} {x} l le =
      let e = l.whole in
      let few = l.few in
      let z : x ≡ c.count = omega arith in
      record { is = λ {t} reads ids h. subst (λ (j : ℕ). Linked c.count work n (links_of t j)) z (l.is reads ids h) }
