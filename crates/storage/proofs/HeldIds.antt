-- Lists of ids held in the working slice. Assumes nothing.
use mathlib.Core.Path.{◌≡◌, refl, sym, ap, ap₂, ◌∙◌, subst}
use mathlib.Core.Bool.{Bool, true, false, not}
use Prim.Native.Nat.{ℕ, suc, ◌+◌, ◌≤◌, ◌<◌}
use native.Mathlib.Omega.{arith}
use native.Mathlib.Numerals.{add-one}
use mathlib.Core.List.{List, [], ◌∷◌, ◌++◌}
use lib.ListN.{length, get_or, take, set, length-set, length-append, length-map, get_or-append}
use lib.Seq.{get_or-set_same, get_or-set_other, take_all, take-suc, length-take-le, get_or-append-add}
use denote.Enum.Declared.{tag_of}
use types.Run.{OneOf, miss}
use Rattle.cells.specs.Part.{cell}
use Rattle.cells.specs.Sum.{Sum}
use Rattle.cells.proofs.Parts.{run_ext}
use Rattle.cells.proofs.Holding.{holds_none, holds_place, holds_cons, holds_both}
use Rattle.rules.specs.Plain.{filter}
use Rattle.rules.specs.Table.{Field, Attr, field_types, dyn_ids, attr_kids}
use Rattle.rules.specs.Table as rules
use Rattle.rules.specs.declared.Polarity.{Polarity}
use Rattle.laws.proofs.Rows.{attr_words_length, few_dyns}
use Rattle.lang_ty.specs.Sets.{SetAt, Fields, FieldType, Dyns, DynType}
use Rattle.lang_ty.proofs.Children.{kids_length}
use Rattle.storage.specs.declared.entries.Entry.{Entry}
use Rattle.storage.specs.declared.entries.Entry.TheVariants.{Variable, Primitive, TyVar, List as ListOf, Lambda, AttrSet, Neg, Named, Inter, Union, Frozen}
use Rattle.storage.specs.Passes.{ListAt}
use Rattle.storage.specs.Entries.{ReadAs}
use Rattle.storage.specs.Helds.{HeldList, only, HoldsIf, HoldsBounds, held_kids, SetChild, HoldsFields, HoldsOne, HoldsTwo, HoldsChildren, first_polarity}
use Rattle.storage.specs.contracts.entries.Entry.{the_type}
use Rattle.laws.proofs.Filtering.{filter_length, under_at}
use Rattle.storage.proofs.Sifted.{filter_more}
use Rattle.storage.proofs.EntryReads.{list_item}
use Rattle.cells.specs.Placed.{Under}

pub held_list : {work xs ys : List ℕ} {h n : ℕ} → xs ≡ ys → HeldList work h n xs → HeldList work h n ys
held_list {work} {h = h} {n} e g = subst (λ (l : List ℕ). HeldList work h n l) e g

pub held_none : (work : List ℕ) (h : ℕ) → HeldList work h 0 []
held_none work h = record { count = refl; holds = holds_none work h }

-- in a slice that is alike there
pub held_ext : {work work' xs : List ℕ} {h n : ℕ} → HeldList work h n xs → ((k : ℕ) → h ≤ k → k < h + length xs → cell work' k ≡ cell work k) → HeldList work' h n xs
held_ext {work} {work'} {xs} {h} g e = record { count = g.count; holds = record { is = run_ext (cell work') (cell work) h (length xs) e ∙ g.holds.is } }

-- one more after them
held_put : {work xs : List ℕ} {h k : ℕ} (x : ℕ) → HeldList work h k xs → h + length xs < length work → HeldList (set work (h + k) x) h (k + 1) (xs ++ (x ∷ []))
held_put {work} {xs} {h} {k} x g lt =
    let c = g.count in
    let long = length-append xs (x ∷ []) in
    let same = held_ext {work' = set work (h + k) x} g (λ j le l. get_or-set_other work (h + k) j x 0 (omega arith)) in
    record {
      count = omega arith;
      holds =
          holds_both xs (x ∷ []) same.holds
          (holds_place (omega arith) (holds_cons (get_or-set_same work (h + k) x 0 (omega arith)) (holds_none (set work (h + k) x) (suc (h + k)))));
    }

held_slice : {work work' xs : List ℕ} {h n : ℕ} → work' ≡ work → HeldList work h n xs → HeldList work' h n xs
held_slice {xs = xs} {h} {n} e g = subst (λ (w : List ℕ). HeldList w h n xs) (sym e) g

held_count : {work xs : List ℕ} {h n r : ℕ} → r ≡ n → HeldList work h n xs → HeldList work h r xs
held_count e g = record { count = e ∙ g.count; holds = g.holds }

if_some : {work work' : List ℕ} (h k b : ℕ) {r : ℕ} (kept : Bool) → not kept ≡ false → work' ≡ set work (h + k) b → Sum k 1 r → HoldsIf work h k b kept work' r
if_some {work} h k b true e f sum =
    record {
      others = λ j n. ap (λ (l : List ℕ). cell l j) f ∙ get_or-set_other work (h + k) j b 0 n;
      is = λ g lt few. let c = g.count in held_slice f (held_count (sum.is (omega arith)) (held_put b g lt));
    }
if_some h k b false e f sum = let z : ◌≡◌ {A = ℕ} 0 1 = cc in absurd (omega arith)

pub if_kept : {work work' : List ℕ} {h k b p r : ℕ} {kept : Bool} → not kept ≡ false → p ≡ h + k → work' ≡ set work p b → Sum k 1 r → HoldsIf work h k b kept work' r
if_kept {work} {h = h} {k} {b} {kept = kept} e f g sum = if_some h k b kept e (g ∙ ap (λ (j : ℕ). set work j b) f) sum

-- `hold_bounds` at bound i
pub record Bounding (answers : ℕ → Bool → Type 0) (table work₀ : List ℕ) (h l n : ℕ) (work : List ℕ) (k i : ℕ) : Type 0 where
  pub few : i ≤ n
  pub size : n ≡ cell table l
  pub kept : (j : ℕ) → j < h → cell work j ≡ cell work₀ j
  pub is : {bs : List ℕ} {count : ℕ} (f : ℕ → Bool) → ((b : ℕ) (x : Bool) → b < count → answers b x → x ≡ f b) → ListAt table l bs → Under count bs
      → h + length bs ≤ length work₀ → HeldList work h k (filter f (take i bs))

module _ {answers : ℕ → Bool → Type 0} {table work₀ : List ℕ} {h l n : ℕ} where
  pub bounding_more : {work work' : List ℕ} {k k' i s q b : ℕ} {x : Bool} → Bounding answers table work₀ h l n work k i → length work ≡ length work₀
      → i < n → Sum l 1 s → q ≡ s + i → b ≡ cell table q → answers b x → HoldsIf work h k b x work' k'
      → Bounding answers table work₀ h l n work' k' (i + 1)
  bounding_more {work} {work'} {k} {k'} {i} {s} {q} {b} {x} g same lt one e read want put =
      record {
        few = omega arith;
        size = g.size;
        kept = λ j less. put.others j (omega arith) ∙ g.kept j less;
        is = λ {bs} {count} f agree at under room.
            let z = g.size in
            let size = at.count in
            let fits = at.fits in
            let y : b ≡ get_or bs i 0 = list_item at (omega arith) one e read in
            let below = under_at count bs i under (omega arith) in
            let v : x ≡ f (get_or bs i 0) = agree b x (omega arith) want ∙ ap f y in
            let len = filter_length f (take i bs) in
            let few = length-take-le i bs (omega arith) in
            held_list
            (ap (λ (l : List ℕ). filter f (take i bs) ++ l) (ap₂ only v y)
            ∙ sym (ap (λ (j : ℕ). filter f (take j bs)) (add-one i) ∙ filter_more f bs i (omega arith)))
            (put.is (g.is f agree at under room) (omega arith) (omega arith));
      }

  pub bounding_done : {work : List ℕ} {k i : ℕ} → Bounding answers table work₀ h l n work k i → n ≤ i → HoldsBounds answers table work₀ h l work k
  bounding_done {i = i} g le =
      record {
        kept = g.kept;
        is = λ {bs} {count} f agree at under room.
            let z = g.size in
            let size = at.count in
            held_list (ap (filter f) (take_all i bs (omega arith))) (g.is f agree at under room);
      }

-- the children of a set
types_length : (t : Attr) → length (field_types t.fields) ≡ length t.fields
types_length t = length-map t.fields (λ (f : Field). f.type)

module _ {table : List ℕ} {a n i r : ℕ} where
  pub child_field : i < n → FieldType table a i r → SetChild table a n i r
  child_field lt f =
      record {
        is = λ {t} s e less.
            f.is s (omega arith) ∙ sym (get_or-append (field_types t.fields) (dyn_ids t.dyn) 0 i (omega (arith, types_length t)));
      }

  pub child_dyn : n ≤ i → DynType table a r → SetChild table a n i r
  child_dyn le d =
      record {
        is = λ {t} s e less.
            let size = kids_length t in
            let few = few_dyns t.dyn in
            let z : i ≡ length (field_types t.fields) + 0 = omega (arith, types_length t) in
            d.is s (omega arith) ∙ sym (ap (λ (j : ℕ). get_or (attr_kids t) j 0) z ∙ get_or-append-add (field_types t.fields) (dyn_ids t.dyn) 0 0);
      }

-- `hold_fields` at child i
pub record Fielding (table : List ℕ) (a : ℕ) (work₀ : List ℕ) (h f n : ℕ) (work : List ℕ) (i : ℕ) : Type 0 where
  pub few : i ≤ n
  pub fields : Fields table a f
  pub kept : (j : ℕ) → j < h → cell work j ≡ cell work₀ j
  pub size : {t : Attr} → SetAt table a t → n ≡ length (attr_kids t)
  pub is : {t : Attr} → SetAt table a t → h + length (attr_kids t) ≤ length work₀ → HeldList work h i (take i (attr_kids t))

module _ {table : List ℕ} {a : ℕ} {work₀ : List ℕ} {h f n : ℕ} where
  pub fielding_start : {d : ℕ} → Fields table a f → Dyns table a d → Sum f d n → Fielding table a work₀ h f n work₀ 0
  fielding_start {d} fs ds sum =
      record {
        few = omega arith;
        fields = fs;
        kept = λ j lt. refl;
        size = λ {t} s.
            let x = fs.is s in
            let y = ds.is s in
            let z = s.fits in
            let w = attr_words_length t in
            sum.is (omega arith) ∙ omega (arith, kids_length t);
        is = λ s room. held_none work₀ h;
      }

  pub fielding_more : {p x i : ℕ} {work work' : List ℕ} → work' ≡ set work p x → p ≡ h + i → SetChild table a f i x
      → Fielding table a work₀ h f n work i → i < n → length work ≡ length work₀ → Fielding table a work₀ h f n work' (i + 1)
  fielding_more {p} {x} {i} {work} {work'} put e child g lt same =
      let z : work' ≡ set work (h + i) x = put ∙ ap (λ (j : ℕ). set work j x) e in
      record {
        few = omega arith;
        fields = g.fields;
        kept = λ j less. ap (λ (l : List ℕ). cell l j) z ∙ get_or-set_other work (h + i) j x 0 (omega arith) ∙ g.kept j less;
        size = λ s. g.size s;
        is = λ {t} s room.
            let size = g.size s in
            let y : x ≡ get_or (attr_kids t) i 0 = child.is s (g.fields.is s) (omega arith) in
            let few = length-take-le i (attr_kids t) (omega arith) in
            held_slice z
            (held_list
            (ap (λ (k : ℕ). take i (attr_kids t) ++ (k ∷ [])) y ∙ sym (ap (λ (j : ℕ). take j (attr_kids t)) (add-one i) ∙ take-suc (attr_kids t) i 0 (omega arith)))
            (held_put x (g.is s room) (omega arith)));
      }

pub one_is : {work work' : List ℕ} {h a : ℕ} → work' ≡ set work h a → HoldsOne work h a work' 1
one_is {work} {work'} {h} {a} e =
    record {
      kept = λ k lt. ap (λ (l : List ℕ). cell l k) e ∙ get_or-set_other work h k a 0 (omega arith);
      is = λ room.
          record { count = refl; holds = holds_cons (ap (λ (l : List ℕ). cell l h) e ∙ get_or-set_same work h a 0 (omega arith)) (holds_none work' (suc h)) };
    }

pub two_is : {work w work' : List ℕ} {h a b p : ℕ} → w ≡ set work h a → p ≡ h + 1 → work' ≡ set w p b → HoldsTwo work h a b work' 2
two_is {work} {w} {work'} {h} {a} {b} {p} e f g =
    let one : HoldsOne work h a w 1 = one_is e in
    let y : work' ≡ set w (h + 1) b = g ∙ ap (λ (j : ℕ). set w j b) f in
    record {
      kept = λ k lt. ap (λ (l : List ℕ). cell l k) y ∙ get_or-set_other w (h + 1) k b 0 (omega arith) ∙ one.kept k lt;
      is = λ room. let size = ap length e in held_slice y (held_put b (one.is (omega arith)) (omega (arith, length-set work h a)));
    }

pub read_as : {w : List ℕ} {e : Entry} {en : rules.Entry} (x : Entry) → e ≡ x → ReadAs w e en → ReadAs w x en
read_as {w} {en = en} x q read = subst (λ (y : Entry). ReadAs w y en) q read

abbrev childless : List ℕ
childless = 0 ∷ 1 ∷ 2 ∷ 8 ∷ 10 ∷ []

no_kids : {w : List ℕ} {en : rules.Entry} (e : Entry) → OneOf childless (tag_of the_type e) → ReadAs w e en → held_kids en ≡ []
no_kids (Variable v) o read = ap held_kids read.is.is
no_kids (Primitive x) o read = ap held_kids read.is
no_kids (TyVar x) o read = ap held_kids read.is
no_kids (ListOf a) o read = absurd (miss childless 3 tt o)
no_kids (Lambda a b) o read = absurd (miss childless 4 tt o)
no_kids (AttrSet a) o read = absurd (miss childless 5 tt o)
no_kids (Neg a) o read = absurd (miss childless 6 tt o)
no_kids (Named n a) o read = absurd (miss childless 7 tt o)
no_kids (Inter a b) o read = ap held_kids read.is
no_kids (Union a b) o read = absurd (miss childless 9 tt o)
no_kids Frozen o read = ap held_kids read.is

module _ {table work : List ℕ} {h : ℕ} {e : Entry} where
  children_is : {work' : List ℕ} {r : ℕ} (ks : List ℕ) → ((k : ℕ) → k < h → cell work' k ≡ cell work k) → ((en : rules.Entry) → ReadAs table e en → held_kids en ≡ ks)
      → (h + length ks ≤ length work → HeldList work' h r ks) → HoldsChildren table work h e work' r
  children_is ks kept f g = record { kept = kept; is = λ {en} read room. let z = f en read in let y = ap length z in held_list (sym z) (g (omega arith)) }

  pub children_none : OneOf childless (tag_of the_type e) → HoldsChildren table work h e work 0
  children_none o = children_is [] (λ k lt. refl) (λ en read. no_kids e o read) (λ room. held_none work h)

  module _ {work' : List ℕ} {r a : ℕ} where
    pub children_list : e ≡ ListOf a → HoldsOne work h a work' r → HoldsChildren table work h e work' r
    children_list q o = children_is (a ∷ []) o.kept (λ en read. ap held_kids (read_as (ListOf a) q read).is) (λ room. o.is room)

    pub children_neg : e ≡ Neg a → HoldsOne work h a work' r → HoldsChildren table work h e work' r
    children_neg q o = children_is (a ∷ []) o.kept (λ en read. ap held_kids (read_as (Neg a) q read).is) (λ room. o.is room)

    pub children_named : {n : ℕ} → e ≡ Named n a → HoldsOne work h a work' r → HoldsChildren table work h e work' r
    children_named {n} q o = children_is (a ∷ []) o.kept (λ en read. ap held_kids (read_as (Named n a) q read).is) (λ room. o.is room)

    pub children_lambda : {b : ℕ} → e ≡ Lambda a b → HoldsTwo work h a b work' r → HoldsChildren table work h e work' r
    children_lambda {b} q o = children_is (a ∷ b ∷ []) o.kept (λ en read. ap held_kids (read_as (Lambda a b) q read).is) (λ room. o.is room)

    pub children_set : e ≡ AttrSet a → HoldsFields table a work h work' r → HoldsChildren table work h e work' r
    children_set q o =
        record {
          kept = o.kept;
          is = λ read room.
              let s = (read_as (AttrSet a) q read).is in
              let z = ap held_kids s.is in
              let y = ap length z in
              held_list (sym z) (o.is s.at (omega arith));
        }

-- the polarity of the first child
stays : {w : List ℕ} {en : rules.Entry} (e : Entry) (pol : Polarity) → ((a b : ℕ) → e ≡ Lambda a b → ⊥) → ((a : ℕ) → e ≡ Neg a → ⊥) → ReadAs w e en → first_polarity en pol ≡ pol
stays (Variable v) pol no_lambda no_neg read = ap (λ (x : rules.Entry). first_polarity x pol) read.is.is
stays (Primitive x) pol no_lambda no_neg read = ap (λ (x : rules.Entry). first_polarity x pol) read.is
stays (TyVar x) pol no_lambda no_neg read = ap (λ (x : rules.Entry). first_polarity x pol) read.is
stays (ListOf a) pol no_lambda no_neg read = ap (λ (x : rules.Entry). first_polarity x pol) read.is
stays (Lambda a b) pol no_lambda no_neg read = absurd (no_lambda a b refl)
stays (AttrSet a) pol no_lambda no_neg read = ap (λ (x : rules.Entry). first_polarity x pol) read.is.is
stays (Neg a) pol no_lambda no_neg read = absurd (no_neg a refl)
stays (Named n a) pol no_lambda no_neg read = ap (λ (x : rules.Entry). first_polarity x pol) read.is
stays (Inter a b) pol no_lambda no_neg read = ap (λ (x : rules.Entry). first_polarity x pol) read.is
stays (Union a b) pol no_lambda no_neg read = ap (λ (x : rules.Entry). first_polarity x pol) read.is
stays Frozen pol no_lambda no_neg read = ap (λ (x : rules.Entry). first_polarity x pol) read.is
