-- Entries marked and queued, each once. Assumes nothing.
use mathlib.Core.Path.{◌≡◌, refl, sym, ap, ap₂, ◌∙◌, subst}
use mathlib.Core.Logic.{⊎_elim}
use mathlib.Core.Bool.{Bool, true, false, not}
use Prim.Native.Nat.{ℕ, zero, suc, ◌+◌, ◌-◌, ◌≤◌, ◌<◌}
use native.Mathlib.Omega.{arith}
use native.Mathlib.Nat.{eq-or-lt_of_le}
use native.Mathlib.Numerals.{add-one}
use mathlib.Core.List.{List, [], ◌∷◌, ◌++◌, append_assoc, append-nil}
use lib.ListN.{length, set, length-set, length-append}
use lib.Seq.{get_or-set_same, get_or-set_other}
use lib.Dec.{eqb}
use borrow.Author.Tests.{eqb-true, eqb-false}
use Rattle.cells.specs.Part.{run, cell, if, eq_list}
use Rattle.cells.specs.Sum.{Sum}
use Rattle.cells.specs.Placed.{Under}
use Rattle.layout.specs.Layout.{heads_at, next_at, from_at, reached_at, queue_at}
use Rattle.rules.specs.Plain.{filter, contains, flag, add_new}
use Rattle.rules.specs.Ceilings.{most_entries}
use Rattle.rules.specs.Members.{add_all}
use Rattle.rules.specs.Table.{Table}
use Rattle.rules.specs.Calls.{differs}
use Rattle.laws.proofs.Filtering.{under_both, under_front, under_back}
use Rattle.laws.proofs.Containing.{new_itself, new_other}
use Rattle.text.specs.Reads.{span}
use Rattle.storage.specs.declared.given.Canon.{Canon}
use Rattle.storage.specs.Helds.{HeldList, HoldsIf, only}
use Rattle.storage.proofs.HeldIds.{held_list, held_ext, if_kept}
use Rattle.compare.specs.Compares.{SameRow}
use Rattle.links.specs.Links.{Link, sources, Chained, Linked}
use Rattle.affected.specs.Reaches.{Queued, Marks, Compared, MarksIf, differing, MarksDiffering, MarksBefore}

-- how many of the first n ids are not in got
abbrev free : List ℕ → ℕ → ℕ
free got zero = 0
free got (suc n) = flag (not (contains got n)) + free got n

free_none : (n : ℕ) → free [] n ≡ n
free_none zero = refl
free_none (suc n) = omega (arith, free_none n)

module _ (got : List ℕ) (x : ℕ) where
  free_past : (n : ℕ) → n ≤ x → free (add_new got x) n ≡ free got n
  free_past zero le = refl
  free_past (suc n) le =
      ap₂ (λ (b : Bool) (k : ℕ). flag (not b) + k) (new_other got x n (omega arith)) (free_past n (omega arith))

  module _ (out : contains got x ≡ false) where
    free_turn : (n : ℕ) → x < suc n → (b : Bool) → eqb n x ≡ b → (x < n → suc (free (add_new got x) n) ≡ free got n)
        → suc (free (add_new got x) (suc n)) ≡ free got (suc n)
    free_turn n lt true e ih =
        let z : n ≡ x = eqb-true n x e in
        let now : contains (add_new got x) n ≡ true = ap (contains (add_new got x)) z ∙ new_itself got x in
        let was : contains got n ≡ false = ap (contains got) z ∙ out in
        let a = ap (λ (b : Bool). flag (not b)) now in
        let c = ap (λ (b : Bool). flag (not b)) was in
        let d = free_past n (omega arith) in
        omega arith
    free_turn n lt false e ih =
        let differ = eqb-false n x e in
        let a = ap (λ (b : Bool). flag (not b)) (new_other got x n differ) in
        let d = ih (⊎_elim (λ (z : x ≡ n). absurd (differ (sym z))) (λ (l : x < n). l) (eq-or-lt_of_le (omega arith))) in
        omega arith

    free_less : (n : ℕ) → x < n → suc (free (add_new got x) n) ≡ free got n
    free_less zero lt = absurd (omega arith)
    free_less (suc n) lt = free_turn n lt (eqb n x) refl (free_less n)

  whole_turn : (n : ℕ) → x < n → (b : Bool) → contains got x ≡ b → length got + free got n ≡ n → length (add_new got x) + free (add_new got x) n ≡ n
  whole_turn n lt true e h = ap (λ (l : List ℕ). length l + free l n) (ap (λ (b : Bool). if b (λ _. got) (λ _. got ++ (x ∷ []))) e) ∙ h
  whole_turn n lt false e h =
      let a = ap length (ap (λ (b : Bool). if b (λ _. got) (λ _. got ++ (x ∷ []))) e) in
      omega (arith, free_less e n lt, length-append got (x ∷ []))

added_whole : (n : ℕ) (got xs : List ℕ) → Under n xs → length got + free got n ≡ n → length (add_all got xs) + free (add_all got xs) n ≡ n
added_whole n got [] u h = h
added_whole n got (x ∷ xs) u h = added_whole n (add_new got x) xs u.1 (whole_turn got x n u.0 (contains got x) refl h)

-- of n ids each once there are at most n
pub added_few : (n : ℕ) (xs : List ℕ) → Under n xs → length (add_all [] xs) ≤ n
added_few n xs u = omega (arith, added_whole n [] xs u (omega (arith, free_none n)))

pub adds_both : (got xs ys : List ℕ) → add_all got (xs ++ ys) ≡ add_all (add_all got xs) ys
adds_both got [] ys = refl
adds_both got (x ∷ xs) ys = adds_both (add_new got x) xs ys

queued_list : {count q : ℕ} {work xs ys : List ℕ} → xs ≡ ys → Queued count work q xs → Queued count work q ys
queued_list {count} {q} {work} e h = subst (λ (l : List ℕ). Queued count work q l) e h

marks_none : {work : List ℕ} {q : ℕ} → Marks work q [] work q
marks_none = record { kept = λ k lt. refl; is = λ {count} {xs} h u. queued_list (sym (append-nil xs)) h }

marks_both : {work w work' : List ℕ} {q m r : ℕ} (ys zs : List ℕ) → Marks work q ys w m → Marks w m zs work' r → Marks work q (ys ++ zs) work' r
marks_both ys zs a b =
    record {
      kept = λ k lt. b.kept k lt ∙ a.kept k lt;
      is = λ {count} {xs} h u.
          queued_list (append_assoc xs ys zs) (b.is (a.is h (under_front count ys zs u)) (under_back count ys zs u));
    }

marks_list : {work work' : List ℕ} {q r : ℕ} {ys zs : List ℕ} → ys ≡ zs → Marks work q ys work' r → Marks work q zs work' r
marks_list {work} {work'} {q} {r} e h = subst (λ (l : List ℕ). Marks work q l work' r) e h

flag_true : (b : Bool) → (flag b ≡ 0 → ⊥) → b ≡ true
flag_true true n = refl
flag_true false n = absurd (n refl)

flag_false : (b : Bool) → flag b ≡ 0 → b ≡ false
flag_false true e = absurd (omega arith)
flag_false false e = refl

-- `mark`
module _ (work : List ℕ) (q x : ℕ) {p m : ℕ} (at : p ≡ reached_at + x) (get : m ≡ cell work p) where
  module _ {count : ℕ} {xs : List ℕ} (h : Queued count work q xs) (known : x < count) where
    told : m ≡ flag (contains (add_all [] xs) x)
    told = get ∙ ap (cell work) at ∙ h.marks x known

    under : Under count (xs ++ (x ∷ []))
    under = under_both count xs (x ∷ []) h.known (known, tt)

    again : (b : Bool) → contains (add_all [] xs) x ≡ b → add_all [] (xs ++ (x ∷ [])) ≡ if b (λ _. add_all [] xs) (λ _. add_all [] xs ++ (x ∷ []))
    again b e = adds_both [] xs (x ∷ []) ∙ ap (λ (b : Bool). if b (λ _. add_all [] xs) (λ _. add_all [] xs ++ (x ∷ []))) e

  marked_before : (m ≡ 0 → ⊥) → Marks work q (x ∷ []) work q
  marked_before n =
      record {
        kept = λ k lt. refl;
        is = λ {count} {xs} h u.
            let e : add_all [] (xs ++ (x ∷ [])) ≡ add_all [] xs = again h u.0 true (flag_true _ (λ z. n (told h u.0 ∙ z))) in
            record {
              entries = h.entries;
              room = h.room;
              held = held_list (sym e) h.held;
              known = under h u.0;
              marks = λ v lt. h.marks v lt ∙ sym (ap (λ (l : List ℕ). flag (contains l v)) e);
            };
      }

  module _ (w work' : List ℕ) (r : ℕ) {s j : ℕ} (none : m ≡ 0) (at₁ : s ≡ reached_at + x) (put : w ≡ set work s 1) (at₂ : j ≡ queue_at + q)
      (put₂ : work' ≡ set w j x) (sum : Sum q 1 r) where
    marked : w ≡ set work (reached_at + x) 1
    marked = put ∙ ap (λ (k : ℕ). set work k 1) at₁

    behind : HoldsIf w queue_at q x true work' r
    behind = if_kept refl at₂ put₂ sum

    long : length w ≡ length work
    long = ap length marked ∙ length-set work (reached_at + x) 1

    alike : (k : ℕ) → (k ≡ reached_at + x → ⊥) → (k ≡ queue_at + q → ⊥) → cell work' k ≡ cell work k
    alike k a b = behind.others k b ∙ ap (λ (l : List ℕ). cell l k) marked ∙ get_or-set_other work (reached_at + x) k 1 0 a

    module _ {count : ℕ} {xs : List ℕ} (h : Queued count work q xs) (u : Under count (x ∷ [])) where
      new : add_all [] (xs ++ (x ∷ [])) ≡ add_all [] xs ++ (x ∷ [])
      new = again h u.0 false (flag_false _ (sym (told h u.0) ∙ none))

      few : length (add_all [] xs) ≤ most_entries
      few = let many = h.entries in omega (arith, added_few count xs h.known)

      held : HeldList work' queue_at r (add_all [] xs ++ (x ∷ []))
      held =
          let l = long in
          let room = h.room in
          let many = h.entries in
          let lt = u.0 in
          let f = few in
          behind.is
          (held_ext h.held (λ k le less. ap (λ (l : List ℕ). cell l k) marked ∙ get_or-set_other work (reached_at + x) k 1 0 (omega arith)))
          (omega arith) (omega arith)

      mark_turn : (v : ℕ) → v < count → (b : Bool) → eqb v x ≡ b → cell work' (reached_at + v) ≡ flag (contains (add_new (add_all [] xs) x) v)
      mark_turn v less true y =
          let z : v ≡ x = eqb-true v x y in
          let room = h.room in
          let many = h.entries in
          ap (λ (k : ℕ). cell work' (reached_at + k)) z
          ∙ behind.others (reached_at + x) (omega arith)
          ∙ ap (λ (l : List ℕ). cell l (reached_at + x)) marked
          ∙ get_or-set_same work (reached_at + x) 1 0 (omega arith)
          ∙ sym (ap flag (new_itself (add_all [] xs) x))
          ∙ sym (ap (λ (k : ℕ). flag (contains (add_new (add_all [] xs) x) k)) z)
      mark_turn v less false y =
          let n = eqb-false v x y in
          let many = h.entries in
          alike (reached_at + v) (λ o. n (omega arith)) (omega arith) ∙ h.marks v less ∙ sym (ap flag (new_other (add_all [] xs) x v n))

    marked_now : Marks work q (x ∷ []) work' r
    marked_now =
        record {
          kept = λ k lt. alike k (omega arith) (omega arith);
          is = λ {count} {xs} h u.
              let l = long in
              let l₂ = ap length put₂ ∙ length-set w j x in
              let room = h.room in
              record {
                entries = h.entries;
                room = omega arith;
                held = held_list (sym (new h u)) (held h u);
                known = under h u.0;
                marks = λ v lt. mark_turn h u v lt (eqb v x) refl ∙ sym (ap (λ (l : List ℕ). flag (contains l v)) (adds_both [] xs (x ∷ [])));
              };
        }

module _ {work : List ℕ} {q x p m : ℕ} where
  pub mark_old : p ≡ reached_at + x → m ≡ cell work p → (m ≡ 0 → ⊥) → Marks work q (x ∷ []) work q
  mark_old at get n = marked_before work q x at get n

  pub mark_new : {w work' : List ℕ} {s j r : ℕ} → p ≡ reached_at + x → m ≡ cell work p → m ≡ 0 → s ≡ reached_at + x → w ≡ set work s 1 → j ≡ queue_at + q
      → work' ≡ set w j x → Sum q 1 r → Marks work q (x ∷ []) work' r
  mark_new {w} {work'} {r = r} at get none at₁ put at₂ put₂ sum = marked_now work q x at get w work' r none at₁ put at₂ put₂ sum

-- `mark_if_differs`
module _ {old table : List ℕ} {c : Canon} {x p : ℕ} {same : Bool} (sum : Sum c.base x p) (row : SameRow old table p same) where
  differ_is : {u t : Table} → Compared old table c u t → x < c.count → differs u t x ≡ not same
  differ_is {u} {t} g lt =
      let low = g.low in
      let z : p ≡ c.base + x = sum.is (omega arith) in
      ap₂ (λ (a b : List ℕ). not (eq_list a b)) (g.before.is x lt) (g.after.is x lt)
      ∙ sym (ap not (row.is ∙ ap (λ (k : ℕ). eq_list (span old (cell old k) (cell old (k + 1))) (span table (cell table k) (cell table (k + 1)))) z))

  module _ {work : List ℕ} {q : ℕ} where
    pub same_is : same ≡ true → MarksIf old table work c q x work q
    same_is e =
        record {
          kept = λ k lt. refl;
          is = λ g lt. marks_list (sym (ap (λ (b : Bool). only b x) (differ_is g lt ∙ ap not e))) marks_none;
        }

    pub differs_is : {work' : List ℕ} {r : ℕ} → same ≡ false → Marks work q (x ∷ []) work' r → MarksIf old table work c q x work' r
    differs_is e h =
        record {
          kept = h.kept;
          is = λ g lt. marks_list (sym (ap (λ (b : Bool). only b x) (differ_is g lt ∙ ap not e))) h;
        }

-- `mark_differing` at entry x: marks of the rest make marks of all
pub record Differing (old table work₀ : List ℕ) (c : Canon) (count : ℕ) (work : List ℕ) (q x : ℕ) : Type 0 where
  pub few : x ≤ count
  pub whole : count ≡ c.count
  pub kept : (k : ℕ) → k < reached_at → cell work k ≡ cell work₀ k
  pub is : {u t : Table} → Compared old table c u t → {work' : List ℕ} {r : ℕ}
      → Marks work q (filter (differs u t) (run (λ (id : ℕ). id) x (count - x))) work' r
      → Marks work₀ 0 (differing u t count) work' r

filter_next : (p : ℕ → Bool) (x : ℕ) (xs : List ℕ) → only (p x) x ++ filter p xs ≡ filter p (x ∷ xs)
filter_next p x xs = turn (p x)
  where
    turn : (b : Bool) → only b x ++ filter p xs ≡ if b (λ _. x ∷ filter p xs) (λ _. filter p xs)
    turn true = refl
    turn false = refl

module _ {old table work₀ : List ℕ} {c : Canon} {count : ℕ} where
  pub differing_start : count ≡ c.count → Differing old table work₀ c count work₀ 0 0
  differing_start e =
      let z : count - 0 ≡ count = omega arith in
      record { few = omega arith; whole = e; kept = λ k lt. refl; is = λ {u} {t} g h. marks_list (ap (differing u t) z) h }

  pub differing_more : {work work' : List ℕ} {q r x : ℕ} → Differing old table work₀ c count work q x → x < count → MarksIf old table work c q x work' r
      → Differing old table work₀ c count work' r (x + 1)
  differing_more {x = x} d lt m =
      let e = d.whole in
      let rest = count - (x + 1) in
      let left : count - x ≡ suc rest = omega arith in
      record {
        few = omega arith;
        whole = d.whole;
        kept = λ k less. m.kept k less ∙ d.kept k less;
        is = λ {u} {t} g h.
            let ids : List ℕ = run (λ (id : ℕ). id) (x + 1) rest in
            d.is g
            (marks_list
            (filter_next (differs u t) x ids
            ∙ ap (λ (k : ℕ). filter (differs u t) (x ∷ run (λ (id : ℕ). id) k rest)) (add-one x)
            ∙ sym (ap (λ (k : ℕ). filter (differs u t) (run (λ (id : ℕ). id) x k)) left))
            (marks_both (only (differs u t x) x) (filter (differs u t) ids) (m.is g (omega arith)) h));
      }

  pub differing_done : {work : List ℕ} {q x : ℕ} → Differing old table work₀ c count work q x → count ≤ x → MarksDiffering old table work₀ c work q
  differing_done {x = x} d le =
      let z : count - x ≡ 0 = omega arith in
      record {
        kept = d.kept;
        is = λ {u} {t} g.
            marks_list (ap (differing u t) d.whole)
            (d.is g (marks_list (sym (ap (λ (k : ℕ). filter (differs u t) (run (λ (id : ℕ). id) x k)) z)) marks_none));
      }

-- `mark_before` at link e, the i-th: marks of what is left of the links make marks of all
pub record Left (work₀ : List ℕ) (n q₀ : ℕ) (all work : List ℕ) (q e i : ℕ) : Type 0 where
  pub rest : List ℕ
  pub chain : Chained work₀ e rest
  pub low : e + i ≤ n
  pub is : {work' : List ℕ} {r : ℕ} → Marks work q rest work' r → Marks work₀ q₀ all work' r

pub record Before (work₀ : List ℕ) (n q₀ x : ℕ) (work : List ℕ) (q e i : ℕ) : Type 0 where
  pub few : i ≤ n
  pub kept : (k : ℕ) → k < reached_at → cell work k ≡ cell work₀ k
  pub is : {count : ℕ} {es : List Link} → Linked count work₀ n es → x < count → Left work₀ n q₀ (sources es x) work q e i

-- no link is left
left_none : (work : List ℕ) (e : ℕ) (xs : List ℕ) → Chained work e xs → e ≡ 0 → xs ≡ []
left_none work e [] h z = refl
left_none work e (x ∷ xs) h z = let lt = h.0 in absurd (omega arith)

left_more : {work₀ : List ℕ} {n q₀ : ℕ} (work w : List ℕ) (q m e e' i y : ℕ) (all : List ℕ) → y ≡ cell work₀ (from_at + e) → Marks work q (y ∷ []) w m
    → e' ≡ cell work₀ (next_at + e) → (e ≡ 0 → ⊥)
    → (xs : List ℕ) → Chained work₀ e xs → e + i ≤ n → ((work' : List ℕ) (r : ℕ) → Marks work q xs work' r → Marks work₀ q₀ all work' r)
    → Left work₀ n q₀ all w m e' (i + 1)
left_more work w q m e e' i y all get mark next some [] h low f = absurd (some h)
left_more {work₀} work w q m e e' i y all get mark next some (z ∷ xs) h low f =
    let lt = h.0 in
    record {
      rest = xs;
      chain = subst (λ (j : ℕ). Chained work₀ j xs) (sym next) h.2;
      low = omega arith;
      is = λ {work'} {r} g. f work' r (marks_list (ap (λ (k : ℕ). k ∷ xs) (get ∙ h.1)) (marks_both (y ∷ []) xs mark g));
    }

module _ {work₀ : List ℕ} {n q₀ x : ℕ} where
  pub before_start : {p e : ℕ} → p ≡ heads_at + x → e ≡ cell work₀ p → Before work₀ n q₀ x work₀ q₀ e 0
  before_start {p} {e} at get =
      let z : e ≡ cell work₀ (heads_at + x) = get ∙ ap (cell work₀) at in
      record {
        few = omega arith;
        kept = λ k lt. refl;
        is = λ {count} {es} h lt.
            let l = h.to x lt in
            let last = l.last in
            record { rest = sources es x; chain = subst (λ (j : ℕ). Chained work₀ j (sources es x)) (sym z) l.chain; low = omega arith; is = λ g. g };
      }

  pub before_more : {work w : List ℕ} {q m e p y s e' i : ℕ} → Before work₀ n q₀ x work q e i → i < n → (e ≡ 0 → ⊥) → p ≡ from_at + e → y ≡ cell work p
      → Marks work q (y ∷ []) w m → s ≡ next_at + e → e' ≡ cell w s → Before work₀ n q₀ x w m e' (i + 1)
  before_more {work} {w} {q} {m} {e} {p} {y} {s} {e'} {i} b lt some at get mark at₂ get₂ =
      record {
        few = omega arith;
        kept = λ k less. mark.kept k less ∙ b.kept k less;
        is = λ {count} {es} h known.
            let l = b.is h known in
            let low = l.low in
            let few = h.few in
            left_more work w q m e e' i y (sources es x)
            (get ∙ ap (cell work) at ∙ b.kept (from_at + e) (omega arith))
            mark
            (get₂ ∙ ap (cell w) at₂ ∙ mark.kept (next_at + e) (omega arith) ∙ b.kept (next_at + e) (omega arith))
            some l.rest l.chain low (λ work' r g. l.is g);
      }

  pub before_done : {work : List ℕ} {q e i : ℕ} → Before work₀ n q₀ x work q e i → e ≡ 0 → MarksBefore work₀ n q₀ x work q
  before_done {e = e} b z =
      record {
        kept = b.kept;
        is = λ h known. let l = b.is h known in l.is (marks_list (sym (left_none work₀ e l.rest l.chain z)) marks_none);
      }

  pub before_end : {work : List ℕ} {q e i : ℕ} → Before work₀ n q₀ x work q e i → n ≤ i → MarksBefore work₀ n q₀ x work q
  before_end {e = e} b le =
      record {
        kept = b.kept;
        is = λ h known.
            let l = b.is h known in
            let low = l.low in
            l.is (marks_list (sym (left_none work₀ e l.rest l.chain (omega arith))) marks_none);
      }
