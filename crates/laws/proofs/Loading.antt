-- Laws of the load, the ids of the entries with free keys: what taking a key does to it. And that members are counted among the cells.
-- Assumes nothing.
use mathlib.Core.Path.{◌≡◌, refl, sym, ap, ◌∙◌}
use Prim.Native.Nat.{ℕ, zero, suc, ◌+◌, ◌*◌, ◌≤◌, ◌<◌}
use native.Mathlib.Omega.{arith}
use mathlib.Core.List.{List, [], ◌∷◌}
use lib.ListN.{length, set as set_at, replicate}
use Rattle.cells.specs.Part.{cell}
use Rattle.rules.specs.Table.{kids}
use Rattle.rules.specs.Types.{Node, State, members, node_at}
use Rattle.rules.specs.Canonicalizer.{Reader, slot}
use Rattle.laws.specs.Sound.{cells_in, Sound, while_free, load, ids_of}
use Rattle.rules.specs.declared.Polarity.{Polarity}
use Rattle.rules.specs.declared.Polarity.TheVariants.{Positive, Negative}

module _ (t : Reader) where
  -- a free key that is taken leaves the load without the ids of its entry, of entries from i on
  take_from : (i n id : ℕ) (pol : Polarity) (ks : List ℕ) → id < n → length ks ≡ 2 * n → cell ks (slot id pol) ≡ 0
      → load t i (set_at ks (slot id pol) 1) + length (kids (t (i + id))) ≡ load t i ks
  take_from i n id pol [] h l e = absurd (omega arith)
  take_from i n id pol (a ∷ []) h l e = absurd (omega arith)
  take_from i n zero Positive (a ∷ b ∷ ks) h l e =
      let z : i + 0 ≡ i = omega arith in
      let y = ap (λ (k : ℕ). length (kids (t k))) z in
      let x = ap (λ (k : ℕ). while_free k (length (kids (t i)))) e in omega arith
  take_from i n zero Negative (a ∷ b ∷ ks) h l e =
      let z : i + 0 ≡ i = omega arith in
      let y = ap (λ (k : ℕ). length (kids (t k))) z in
      let x = ap (λ (k : ℕ). while_free k (length (kids (t i)))) e in omega arith
  take_from i zero (suc id) pol (a ∷ b ∷ ks) h l e = absurd (omega arith)
  take_from i (suc n) (suc id) pol (a ∷ b ∷ ks) h l e =
      let s : slot (suc id) pol ≡ suc (suc (slot id pol)) = omega arith in
      let z : i + suc id ≡ suc i + id = omega arith in
      let y = ap (λ (k : ℕ). length (kids (t k))) z in
      let x = ap (λ (k : ℕ). load t i (set_at (a ∷ b ∷ ks) k 1)) s in
      let r = take_from (suc i) n id pol ks (omega arith) (omega arith) (sym (ap (cell (a ∷ b ∷ ks)) s) ∙ e) in omega arith

  pub load_take : (ks : List ℕ) (id : ℕ) (pol : Polarity) {n : ℕ} → id < n → length ks ≡ 2 * n → cell ks (slot id pol) ≡ 0
      → load t 0 (set_at ks (slot id pol) 1) + length (kids (t id)) ≡ load t 0 ks
  load_take ks id pol {n} h l e =
      let z : 0 + id ≡ id = omega arith in let y = ap (λ (k : ℕ). length (kids (t k))) z in let r = take_from 0 n id pol ks h l e in omega arith

  -- a key that is taken or named never raises it
  pub load_keep : (i : ℕ) (ks : List ℕ) (k x : ℕ) → load t i (set_at ks k (suc x)) ≤ load t i ks
  load_keep i [] k x = omega arith
  load_keep i (a ∷ []) zero x = omega arith
  load_keep i (a ∷ []) (suc k) x = omega arith
  load_keep i (a ∷ b ∷ ks) zero x = omega arith
  load_keep i (a ∷ b ∷ ks) (suc zero) x = omega arith
  load_keep i (a ∷ b ∷ ks) (suc (suc k)) x = let r = load_keep (suc i) ks k x in omega arith

  fresh_from : (i n : ℕ) → load t i (replicate (2 * n) 0) ≡ 2 * ids_of t i n
  fresh_from i zero = refl
  fresh_from i (suc n) =
      let z : 2 * suc n ≡ suc (suc (2 * n)) = omega arith in
      let y = ap (λ (k : ℕ). load t i (replicate k 0)) z in
      let r = fresh_from (suc i) n in omega arith

  -- while no key is taken
  pub load_fresh : (n : ℕ) → load t 0 (replicate (2 * n) 0) ≡ 2 * ids_of t 0 n
  load_fresh n = fresh_from 0 n

-- how many members the first k nodes have together
abbrev pub members_to : List Node → ℕ → ℕ
members_to ns zero = 0
members_to ns (suc k) = members_to ns k + length (members (node_at ns k))

members_first : (n : Node) (ns : List Node) (k : ℕ) → members_to (n ∷ ns) (suc k) ≡ length (members n) + members_to ns k
members_first n ns zero = omega arith
members_first n ns (suc k) = let r = members_first n ns k in omega arith

-- any sum made so is this one
pub members_alike : (ns : List Node) (f : ℕ → ℕ) → f 0 ≡ 0 → ((k : ℕ) → f (suc k) ≡ f k + length (members (node_at ns k))) → (k : ℕ) → f k ≡ members_to ns k
members_alike ns f z h zero = z
members_alike ns f z h (suc k) = h k ∙ ap (λ (m : ℕ). m + length (members (node_at ns k))) (members_alike ns f z h k)

cells_members : (ns : List Node) (k : ℕ) → k ≤ length ns → members_to ns k ≤ cells_in ns
cells_members ns zero h = omega arith
cells_members [] (suc k) h = absurd (omega arith)
cells_members (n ∷ ns) (suc k) h = let r = cells_members ns k (omega arith) in omega (arith, members_first n ns k)

-- of a sound state, as counted
pub sound_members : (st : State) (k : ℕ) → Sound st → k ≤ length st.nodes → members_to st.nodes k ≤ st.cells
sound_members st k s h = omega (arith, cells_members st.nodes k h, s.counted)
