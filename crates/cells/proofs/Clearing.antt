-- What stands in a slice after a part of it is filled with zeros. Assumes nothing.
use mathlib.Core.Path.{◌≡◌, ap, ◌∙◌}
use mathlib.Core.Logic.{⊎_elim}
use Prim.Native.Nat.{ℕ, ◌+◌, ◌-◌, ◌≤◌, ◌<◌, min}
use native.Mathlib.Omega.{arith}
use Rattle.std.proofs.Common.{get_or-take, get_or-drop}
use Rattle.std.proofs.lemmas.Bool.{cases_lt}
use mathlib.Core.List.{List, ◌++◌}
use lib.ListN.{length, take, drop, replicate, length-replicate, get_or-append, get_or-replicate, get_or-eq_default}
use lib.Seq.{length-take-le, get_or-append_right}
use borrow.Rule.Slice.PartMut.{mid_len, put_mid, post_of}
use Rattle.cells.specs.Part.{cell}
use Rattle.cells.specs.Clears.{Clears}

-- the part from b up to e is filled
module _ (s z : List ℕ) (b e : ℕ) (order : b ≤ e) (within : e ≤ length s) (zeros : z ≡ replicate (length (take (e - b) (drop b s))) 0) where
  start : length (take b s) ≡ b
  start = length-take-le b s (omega arith)

  count : length (take (e - b) (drop b s)) ≡ e - b
  count = mid_len b e s within

  as_long : length z ≡ e - b
  as_long = ap length zeros ∙ length-replicate (length (take (e - b) (drop b s))) 0 ∙ count

  below : (k : ℕ) → k < b → cell (put_mid b (e - b) s z) k ≡ cell s k
  below k h =
      let l = start in
      get_or-append (take b s) (z ++ post_of b (e - b) s) 0 k (omega arith) ∙ get_or-take b s k 0 h

  on : (k : ℕ) → b ≤ k → cell (put_mid b (e - b) s z) k ≡ cell (z ++ post_of b (e - b) s) (k - b)
  on k h =
      let l = start in
      get_or-append_right (take b s) (z ++ post_of b (e - b) s) k 0 (omega arith) ∙ ap (λ (j : ℕ). cell (z ++ post_of b (e - b) s) (k - j)) l

  inside : (k : ℕ) → b ≤ k → k < e → cell (put_mid b (e - b) s z) k ≡ 0
  inside k h l =
      let m = as_long in
      let c = count in
      on k h ∙ get_or-append z (post_of b (e - b) s) 0 (k - b) (omega arith)
      ∙ ap (λ (y : List ℕ). cell y (k - b)) zeros
      ∙ get_or-replicate (length (take (e - b) (drop b s))) (k - b) 0 0 (omega arith)

  behind : (k : ℕ) → e ≤ k → cell (put_mid b (e - b) s z) k ≡ cell s k
  behind k h =
      let m = as_long in
      on k (omega arith) ∙ get_or-append_right z (post_of b (e - b) s) (k - b) 0 (omega arith)
      ∙ get_or-drop (e - b) (drop b s) ((k - b) - length z) 0
      ∙ get_or-drop b s ((e - b) + ((k - b) - length z)) 0
      ∙ ap (cell s) (omega arith)

pub filled_clears : {s z : List ℕ} {a n p e b : ℕ} → p ≡ a + n → e ≡ min p (length s) → b ≡ min a e
    → z ≡ replicate (length (take (e - b) (drop b s))) 0 → Clears s a n (put_mid b (e - b) s z)
filled_clears {s} {z} {a} {n} {p} {e} {b} place end start zeros =
    let order : b ≤ e = omega arith in
    let within : e ≤ length s = omega arith in
    record {
      zero = λ k lo hi.
          ⊎_elim (λ (h : k < e). inside s z b e order within zeros k (omega arith) h)
          (λ (h : e ≤ k). behind s z b e order within zeros k h ∙ get_or-eq_default s 0 (omega arith))
          (cases_lt k e);
      before = λ k h.
          ⊎_elim (λ (l : k < b). below s z b e order within zeros k l) (λ (l : b ≤ k). behind s z b e order within zeros k (omega arith)) (cases_lt k b);
      behind = λ k h. behind s z b e order within zeros k (omega arith);
    }
