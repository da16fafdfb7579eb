-- Rows written after the others, and kept. Assumes nothing.
use mathlib.Core.Path.{◌≡◌, refl, sym, ap, ◌∙◌, subst}
use Prim.Native.Nat.{ℕ, suc, ◌+◌, ◌≤◌, ◌<◌}
use native.Mathlib.Omega.{arith}
use native.Mathlib.Numerals.{add-one}
use mathlib.Core.List.{List, [], ◌∷◌, ◌++◌}
use lib.ListN.{length, set, length-set, length-append}
use lib.Seq.{get_or-set_same, get_or-set_other}
use Rattle.cells.specs.Part.{cell, part}
use Rattle.cells.specs.Sum.{Sum}
use Rattle.cells.proofs.Parts.{run_length, run_snoc}
use Rattle.cells.proofs.Holding.{holds_none, holds_place, holds_list, holds_cons, holds_both, holds_ext}
use Rattle.rules.specs.Ceilings.{most_members}
use Rattle.rules.specs.Types.{State, encode, node_at}
use Rattle.laws.specs.Sound.{OrderlySet}
use Rattle.laws.proofs.Storing.{store_many}
use Rattle.lang_ty.specs.declared.arena.Pass.{Pass}
use Rattle.lang_ty.specs.Given.{Given}
use Rattle.lang_ty.specs.Given.{Refused}
use Rattle.lang_ty.specs.Nodes.{Stands, Top, Interned, Written, Copied, Stored, Listed}
use Rattle.lang_ty.proofs.Words.{row_end, high}
use Rattle.lang_ty.proofs.Buckets.{index_alike}

pub written_none : (t : ℕ) (w : List ℕ) → Written t w w []
written_none t w = record { same_length = refl; below = λ k lt. refl; row = λ h. holds_none w t }

-- one more number at the end
pub written_more : {t : ℕ} {w w' w'' xs : List ℕ} {p : ℕ} (v : ℕ) → Written t w w' xs → p ≡ t + length xs → w'' ≡ set w' p v → Written t w w'' (xs ++ (v ∷ []))
written_more {t} {w} {w'} {w''} {xs} {p} v h place e =
    subst (λ (l : List ℕ). Written t w l (xs ++ (v ∷ []))) (sym e)
    (record {
      same_length = length-set w' p v ∙ h.same_length;
      below = λ k lt. get_or-set_other w' p k v 0 (omega arith) ∙ h.below k lt;
      row = λ room.
          let long = length-append xs (v ∷ []) in
          holds_both xs (v ∷ [])
          (holds_ext (h.row (omega arith)) (λ k lt. get_or-set_other w' p k v 0 (omega arith)))
          (holds_place place (holds_cons (get_or-set_same w' p v 0 (omega (arith, h.same_length))) (holds_none (set w' p v) (suc p))));
    })

pub written_list : {t : ℕ} {w w' xs ys : List ℕ} → xs ≡ ys → Written t w w' xs → Written t w w' ys
written_list {t} {w} {w'} e h = subst (λ (l : List ℕ). Written t w w' l) e h

-- after what was written
pub written_both : {t m : ℕ} {w w' w'' xs ys : List ℕ} → Written t w w' xs → m ≡ t + length xs → Written m w' w'' ys → Written t w w'' (xs ++ ys)
written_both {t} {m} {w} {w'} {w''} {xs} {ys} h place k =
    record {
      same_length = k.same_length ∙ h.same_length;
      below = λ j lt. k.below j (omega arith) ∙ h.below j lt;
      row = λ room.
          let long = length-append xs ys in
          holds_both xs ys (holds_ext (h.row (omega arith)) (λ j lt. k.below j (omega arith)))
          (holds_place place (k.row (omega (arith, h.same_length))));
    }

-- `copy` at number i
pub record Copying (t : ℕ) (w₀ from : List ℕ) (a n : ℕ) (w : List ℕ) (i : ℕ) : Type 0 where
  pub few : i ≤ n
  pub written : Written t w₀ w (part from a i)

pub copying_start : {t : ℕ} {w from : List ℕ} {a n : ℕ} → Copying t w from a n w 0
copying_start {t} {w} = record { few = omega arith; written = written_none t w }

pub copying_more : {t : ℕ} {w₀ w w' from : List ℕ} {a n i : ℕ} → Copying t w₀ from a n w i → i < n → Copied t w from a i w' → Copying t w₀ from a n w' (i + 1)
copying_more {from = from} {a = a} {i = i} h lt c =
    record {
      few = omega arith;
      written =
          written_list (sym (ap (part from a) (add-one i) ∙ run_snoc (cell from) a i))
          (written_more (cell from (a + i)) h.written (omega (arith, run_length (cell from) a i)) c.is);
    }

pub copying_done : {t : ℕ} {w₀ w from : List ℕ} {a n i : ℕ} → Copying t w₀ from a n w i → n ≤ i → Written t w₀ w (part from a n)
copying_done {from = from} {a = a} {n = n} {i = i} h le =
    let f = h.few in let e : i ≡ n = omega arith in written_list (ap (part from a) e) h.written

-- the nodes below stand as they did
pub stands_below : {st : State} {w w' xs : List ℕ} {q : Pass} → Stands st w q → Written (cell w q.nodes) w w' xs → Stands st w' q
stands_below {st} {w} {w'} {xs} {q} on h =
    let a = on.arena in
    let same : (i : ℕ) → i ≤ length st.nodes → cell w' i ≡ cell w i = λ i le. h.below i (omega (arith, high a, a.count, a.few)) in
    record {
      arena = record {
        count = a.count;
        few = a.few;
        cells = a.cells;
        first = omega (arith, a.first, same 0 (omega arith));
        rows = λ i lt. holds_place (sym (same i (omega arith))) (holds_ext (a.rows i lt) (λ k le. h.below k (omega (arith, row_end a i lt))));
        ends = λ i lt. same (suc i) (omega arith) ∙ a.ends i lt ∙ ap (λ (k : ℕ). k + length (encode (node_at st.nodes i))) (sym (same i (omega arith)));
        top = let z = h.below q.nodes (omega (arith, high a, a.few)) in omega (arith, a.top);
        below = a.below;
        slim = a.slim;
        distinct = a.distinct;
        ordered = a.ordered;
        index = index_alike a.index (omega (arith, a.count, a.few)) (λ k lt. h.below k (omega (arith, high a)));
        room = omega (arith, h.same_length, a.room);
      };
      cells = on.cells;
      ops = on.ops;
      sorted = on.sorted;
      bailed = on.bailed;
    }

-- a row that was written, as a node
pub stored_row : {w w' w'' xs : List ℕ} {q : Pass} {t len count : ℕ} {r : Given} → Top w q t → Written t w w' xs → len ≡ length xs → Interned w' q len count w'' r
    → Stored xs count w q w'' r
stored_row {w} {w'} {w''} {xs} {q} {t} {len} top h size g =
    let h' = subst (λ (k : ℕ). Written k w w' xs) top.is h in
    record {
      is = λ {st} {n} on fits e.
          let a = on.arena in
          let long = ap length e in
          g.is {n = n} (stands_below on h') fits
          (holds_place (sym (h'.below q.nodes (omega (arith, high a, a.few)))) (holds_list (sym e) (h'.row (omega (arith, a.top, a.few, a.cells, a.room, fits.short)))))
          (omega arith);
    }

-- two numbers, and more after them
pub written_two : {t p a b : ℕ} {w w1 w2 : List ℕ} → w1 ≡ set w t a → p ≡ t + 1 → w2 ≡ set w1 p b → Written t w w2 (a ∷ b ∷ [])
written_two {t} {p} {a} {b} {w} first place second = written_more b (written_more a (written_none t w) (omega arith) first) place second

-- rows of one word to three
module _ {w w1 : List ℕ} {q : Pass} {t k : ℕ} (top : Top w q t) where
  pub stored_one : {w'' : List ℕ} {count : ℕ} {r : Given} → w1 ≡ set w t k → Interned w1 q 1 count w'' r → Stored (k ∷ []) count w q w'' r
  stored_one first g = stored_row top (written_more k (written_none t w) (omega arith) first) refl g

  module _ {a : ℕ} (head : Written t w w1 (k ∷ a ∷ [])) where
    pub stored_two : {w'' : List ℕ} {count : ℕ} {r : Given} → Interned w1 q 2 count w'' r → Stored (k ∷ a ∷ []) count w q w'' r
    stored_two g = stored_row top head refl g

    pub stored_three : {w2 w'' : List ℕ} {p b count : ℕ} {r : Given} → p ≡ t + 2 → w2 ≡ set w1 p b → Interned w2 q 3 count w'' r
        → Stored (k ∷ a ∷ b ∷ []) count w q w'' r
    stored_three {b = b} place third g = stored_row top (written_more b head place third) refl g

    -- a row of two words and what was written after them
    stored_behind : {w2 w'' xs : List ℕ} {m len count : ℕ} {r : Given} → Sum t 2 m → Written m w1 w2 xs → len ≡ 2 + length xs → Interned w2 q len count w'' r
        → Stored (k ∷ a ∷ xs) count w q w'' r
    stored_behind {m = m} sum rest size g =
        record {
          is = λ {st} {n} on fits e.
              let c = on.arena in
              let z : m ≡ t + 2 = sum.is (omega (arith, top.is, c.top, c.few, c.cells)) in
              (stored_row top (written_both head z rest) (omega arith) g).is {n = n} on fits e;
        }

    pub stored_four : {w2 w'' : List ℕ} {m b c count : ℕ} {r : Given} → Sum t 2 m → Written m w1 w2 (b ∷ c ∷ []) → Interned w2 q 4 count w'' r
        → Stored (k ∷ a ∷ b ∷ c ∷ []) count w q w'' r
    stored_four sum rest g = stored_behind sum rest refl g

    -- a list of members after its kind and their number
    pub listed_few : {m o len : ℕ} {from w2 w'' : List ℕ} {r : Given} → a ≤ most_members → Sum t 2 m → Written m w1 w2 (part from o a) → len ≡ a + 2 → Interned w2 q len a w'' r
        → Listed k from o a w q w'' r
    listed_few {o = o} {from = from} few sum rest size g =
        let long = run_length (cell from) o a in
        record {
          is = λ {st} {m = n} on l.
              let e : encode n ≡ k ∷ a ∷ part from o a = l.row ∙ ap (λ (j : ℕ). k ∷ j ∷ part from o a) long in
              (stored_behind sum rest (omega arith) g).is {n = n} on
              (record { cells = l.cells ∙ long; few = omega (arith, ap length l.members); below = l.below; ordered = subst OrderlySet (sym l.plain) tt; short = omega (arith, ap length e) })
              e;
        }

pub listed_many : {kind a n : ℕ} {from w : List ℕ} {q : Pass} → most_members < n → Listed kind from a n w q w (Refused 7)
listed_many {a = a} {n = n} {from = from} h =
    record {
      is = λ {st} {m} on l.
          record { is = store_many m st (omega (arith, ap length l.members, run_length (cell from) a n)) };
    }
