-- The search for a node's row along its bucket, turn by turn. Assumes nothing.
use Rattle.std.specs.Prelude.{Some, None}
use mathlib.Core.Path.{◌≡◌, refl, sym, ap, ap₂, ◌∙◌}
use mathlib.Core.Bool.{Bool, true, false}
use Prim.Native.Nat.{ℕ, zero, suc, ◌+◌, ◌-◌, ◌≤◌, ◌<◌}
use native.Mathlib.Omega.{arith}
use mathlib.Core.List.{List}
use lib.ListN.{length}
use lib.Dec.{eqb}
use borrow.Author.Tests.{ne_eqb}
use Rattle.cells.specs.Part.{cell, part, if, eq_list}
use Rattle.cells.specs.Sum.{Sum}
use Rattle.cells.proofs.Choices.{not_so}
use Rattle.cells.proofs.Parts.{left, left_whole, left_next, left_other, left_none, eq_list_longer}
use Rattle.layout.specs.Layout.{earlier_at, hashes_at}
use Rattle.rules.specs.Types.{Node, encode, node_at}
use Rattle.laws.specs.Indexed.{bucket_at, row_at, newest, seek, seek_node}
use Rattle.laws.proofs.Indexing.{newest_low, newest_is, seek_newest, seek_turn}
use Rattle.laws.proofs.Storing.{eq_list_true}
use Rattle.lang_ty.specs.declared.arena.Pass.{Pass}
use Rattle.lang_ty.specs.Nodes.{Same, Offered, RowIs, Hit, Sought}
use Rattle.lang_ty.proofs.Words.{row_few}
use mathlib.Core.Option.{Option, some}
use Rattle.lang_ty.specs.Buckets.{hash, bucket_of, bucket, link_of, Newest}
use Rattle.lang_ty.proofs.Buckets.{bucket_low}

-- `same` at word i: what is left to compare says what the whole says
pub record Comparing (w : List ℕ) (a b n i : ℕ) : Type 0 where
  pub few : i ≤ n
  pub is : left w a b n i ≡ eq_list (part w a n) (part w b n)

module _ {w : List ℕ} {a b n : ℕ} where
  pub comparing_start : Comparing w a b n 0
  comparing_start = record { few = omega arith; is = left_whole w a b n }

  module _ {i : ℕ} (c : Comparing w a b n i) where
    pub comparing_more : {p p' x y : ℕ} → p ≡ a + i → x ≡ cell w p → p' ≡ b + i → y ≡ cell w p' → x ≡ y → i < n → Comparing w a b n (i + 1)
    comparing_more {p} {p'} e f e' f' g lt =
        record { few = omega arith; is = sym (left_next w a b n i lt (sym (f ∙ ap (cell w) e) ∙ g ∙ f' ∙ ap (cell w) e')) ∙ c.is }

    pub comparing_other : {p p' x y : ℕ} → p ≡ a + i → x ≡ cell w p → p' ≡ b + i → y ≡ cell w p' → (x ≡ y → ⊥) → i < n → Same w a b n false
    comparing_other e f e' f' g lt =
        record { is = sym (left_other w a b n i lt (λ z. g (f ∙ ap (cell w) e ∙ z ∙ sym (f' ∙ ap (cell w) e')))) ∙ c.is }

    pub comparing_done : n ≤ i → Same w a b n true
    comparing_done h = record { is = sym (left_none w a b n i h) ∙ c.is }

-- `row_is`: a row of another length, and one of the same
module _ {w : List ℕ} {i top len a p e l : ℕ} (from : a ≡ cell w i) (next : p ≡ i + 1) (to : e ≡ cell w p) (sum : Sum a len l) where
  row_size : {q : Pass} {ns : List Node} {n : Node} → Offered w q top len ns n → i < length ns
      → (l ≡ a + len) × (e ≡ a + length (encode (node_at ns i)))
  row_size o lt =
      let k : p ≡ suc i = omega arith in
      let f = ap (cell w) k in
      (sum.is (omega (arith, row_few o.arena i lt, o.short)), omega (arith, o.arena.ends i lt))

  pub row_other : (e ≡ l → ⊥) → RowIs w i top len (eqb e l)
  row_other h =
      record {
        is = λ {q} {ns} {n} o lt.
            let z = row_size o lt in
            ne_eqb e l h ∙ sym (eq_list_longer (encode n) (encode (node_at ns i)) (λ y. h (omega (arith, z.0, z.1, o.size))));
      }

  pub row_same : {r : Bool} → e ≡ l → Same w top a len r → RowIs w i top len r
  row_same h c =
      record {
        is = λ {q} {ns} {n} o lt.
            let z = row_size o lt in
            let m : len ≡ length (encode (node_at ns i)) = omega (arith, z.0, z.1) in
            c.is
            ∙ ap₂ eq_list
            (ap (part w top) o.size ∙ o.row.is)
            (ap₂ (part w) from m ∙ (o.arena.rows i lt).is);
      }

-- `hit`: rows of different hashes are different
module _ {w : List ℕ} {x h top len p g : ℕ} (at : p ≡ hashes_at + x) (is : g ≡ cell w p) where
  pub hit_other : (g ≡ h → ⊥) → Hit w x h top len (eqb g h)
  hit_other apart =
      record {
        is = λ {q} {ns} {n} o e lt.
            let told = is ∙ ap (cell w) at ∙ o.arena.index.hash_of x lt in
            ne_eqb g h apart ∙ not_so (eq_list (encode n) (encode (node_at ns x)))
            (λ z. apart (told ∙ ap hash (sym (eq_list_true (encode n) (encode (node_at ns x)) z)) ∙ sym e));
      }

  pub hit_same : {r : Bool} → RowIs w x top len r → Hit w x h top len r
  hit_same c = record { is = λ o e lt. c.is o lt }

-- the search for n among the first k nodes
abbrev pub sought_in : List Node → Node → ℕ → Option ℕ
sought_in ns n k = seek (bucket_at bucket ns) (row_at (encode n) ns) (bucket (encode n)) k

-- `find` at the place p, the link of the node with this number and 1: what is left to search comes to what the whole search comes to
pub record Left (ns : List Node) (n : Node) (p : ℕ) : Type 0 where
  pub number : ℕ
  pub at : p ≡ link_of number
  pub few : number ≤ length ns
  pub of_bucket : (x : ℕ) → number ≡ suc x → bucket_at bucket ns x ≡ bucket (encode n)
  pub is : sought_in ns n number ≡ seek_node bucket n ns

-- the newest of the first k nodes, where these are what is left
newest_left : (ns : List Node) (n : Node) (k p : ℕ) → k ≤ length ns → sought_in ns n k ≡ seek_node bucket n ns
    → p ≡ link_of (newest (bucket_at bucket ns) (bucket (encode n)) k) → Left ns n p
newest_left ns n k p le h e =
    let f = bucket_at bucket ns in
    let b = bucket (encode n) in
    record {
      number = newest f b k;
      at = e;
      few = omega (arith, newest_low f b k);
      of_bucket = λ x z. newest_is f b k x z;
      is = sym (seek_newest f b (row_at (encode n) ns) k) ∙ h;
    }

pub record Walking (w : List ℕ) (h top len p : ℕ) : Type 0 where
  pub small : p ≤ 4294967295
  pub is : {q : Pass} {ns : List Node} {n : Node} → Offered w q top len ns n → h ≡ hash (encode n) → Left ns n p

-- the number that a place tells
number_zero : (i p : ℕ) → p ≡ link_of i → p < earlier_at → i ≡ 0
number_zero zero p e lt = refl
number_zero (suc x) p e lt = absurd (omega arith)

number_suc : (i p x : ℕ) → p ≡ link_of i → earlier_at ≤ p → x ≡ p - earlier_at → i ≡ suc x
number_suc zero p x e le f = absurd (omega arith)
number_suc (suc y) p x e le f = omega arith

-- links fall
link_low : (i x : ℕ) → i ≤ x → link_of i < earlier_at + x
link_low zero x le = omega arith
link_low (suc y) x le = omega arith

module _ {w : List ℕ} {h top len p : ℕ} where
  pub walking_start : Newest w h p → p ≤ 4294967295 → Walking w h top len p
  walking_start c small =
      record {
        small = small;
        is = λ {q} {ns} {n} o e.
            let low = bucket_low (encode n) e in
            newest_left ns n (length ns) p (omega arith) refl
            (c.is ∙ o.arena.index.newest_of (bucket_of h) low
            ∙ ap (λ (b : ℕ). link_of (newest (bucket_at bucket ns) b (length ns))) (ap bucket_of e));
      }

  pub walking_done : Walking w h top len p → p < earlier_at → Sought w h top len None
  walking_done c lt =
      record {
        is = λ {q} {ns} {n} o e.
            let l = c.is o e in
            ap (sought_in ns n) (sym (number_zero l.number p l.at lt)) ∙ l.is;
      }

  module _ {x : ℕ} {t : Bool} (c : Walking w h top len p) (le : earlier_at ≤ p) (at : x ≡ p - earlier_at) (g : Hit w x h top len t) where
    module _ {q : Pass} {ns : List Node} {n : Node} (o : Offered w q top len ns n) (e : h ≡ hash (encode n)) where
      number_is : (c.is o e).number ≡ suc x
      number_is = number_suc (c.is o e).number p x (c.is o e).at le at

      among : x < length ns
      among = omega (arith, number_is, (c.is o e).few)

      of : bucket_at bucket ns x ≡ bucket (encode n)
      of = (c.is o e).of_bucket x number_is

      -- node x is looked at next, and says t
      turn : if t (λ _. some x) (λ _. sought_in ns n x) ≡ seek_node bucket n ns
      turn =
          ap (λ (u : Bool). if u (λ _. some x) (λ _. sought_in ns n x)) (g.is o e among)
          ∙ sym (seek_turn (bucket_at bucket ns) (bucket (encode n)) (row_at (encode n) ns) x of) ∙ sym (ap (sought_in ns n) number_is) ∙ (c.is o e).is

      -- where the next link leads
      next : {e' : ℕ} → e' ≡ cell w p → e' ≡ link_of (newest (bucket_at bucket ns) (bucket (encode n)) x)
      next z =
          let here : p ≡ earlier_at + x = omega arith in
          z ∙ ap (cell w) here ∙ o.arena.index.earlier_of x among ∙ ap (λ (b : ℕ). link_of (newest (bucket_at bucket ns) b x)) of

    pub walking_here : t ≡ true → Sought w h top len (Some x)
    walking_here z =
        record {
          is = λ {q} {ns} {n} o e.
              ap (λ (u : Bool). if u (λ _. some x) (λ _. sought_in ns n x)) (sym z) ∙ turn o e;
        }

    module _ {v i : ℕ} (other : t ≡ false) (read : v ≡ cell w p) (same : i ≡ v) where
      -- a link that does not fall is in no index
      pub walking_lost : p ≤ i → Sought w h top len None
      walking_lost up =
          record {
            is = λ {q} {ns} {n} o e.
                absurd (omega (arith, next o e (same ∙ read), newest_falls ns n));
          }
        where
          newest_falls : (ns : List Node) (n : Node) → link_of (newest (bucket_at bucket ns) (bucket (encode n)) x) < p
          newest_falls ns n =
              omega (arith, link_low (newest (bucket_at bucket ns) (bucket (encode n)) x) x (newest_low (bucket_at bucket ns) (bucket (encode n)) x))

      pub walking_more : i < p → Walking w h top len i
      walking_more down =
          record {
            small = omega (arith, c.small);
            is = λ {q} {ns} {n} o e.
                newest_left ns n x i (omega (arith, among o e))
                (ap (λ (u : Bool). if u (λ _. some x) (λ _. sought_in ns n x)) (sym other) ∙ turn o e)
                (next o e (same ∙ read));
          }
