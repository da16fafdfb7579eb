-- Parents and representatives: chains end, a chain is halved, classes are joined, and at the end each parent is a representative.
-- Assumes nothing.
use mathlib.Core.Path.{◌≡◌, refl, sym, ap, ap₂, ◌∙◌, subst}
use mathlib.Core.Bool.{Bool, true, false}
use mathlib.Core.Logic.{⊎_elim}
use Prim.Native.Nat.{ℕ, zero, suc, ◌+◌, ◌-◌, ◌≤◌, ◌<◌}
use native.Mathlib.Omega.{arith}
use native.Mathlib.Nat.{eq-or-lt_of_le, not-suc-le-zero}
use mathlib.Core.List.{List, [], ◌∷◌, map}
use lib.ListN.{length, get_or, set, length-set, length-map, get_or-eq_default}
use lib.Seq.{get_or-set_same, get_or-set_other, set-get_or}
use lib.Dec.{eqb, ltb}
use borrow.Author.Tests.{ltb-true, ltb-false, lt-ltb, le-ltb, eqb-true, eqb-false, eq-eqb, ne_eqb}
use Rattle.cells.specs.Part.{cell, part, run, if}
use Rattle.cells.proofs.Parts.{run_ext, run_next}
use Rattle.cells.proofs.Holding.{holds_from}
use Rattle.rules.specs.Plain.{flag, both}
use Rattle.rules.specs.Table.{Pair, join_classes, join_pair, join_pairs, rep_in, upward}
use Rattle.laws.proofs.Joining.{upward_length}
use Rattle.laws.proofs.Containing.{flag_few}
use Rattle.storage.specs.Equivs.{pair_at, Inside, Stays, roots, Forest, Finds, Unites, Alone, Settles, pairs_in, Behind, UnitesAll, Represents}

-- a cell after one was set: what holds of both values, and what holds of each at its place
set_any : (l : List ℕ) (j v i : ℕ) (P : ℕ → Type 0) → P v → P (cell l i) → P (cell (set l j v) i)
set_any [] j v i P a b = b
set_any (x ∷ l) zero v zero P a b = a
set_any (x ∷ l) zero v (suc i) P a b = b
set_any (x ∷ l) (suc j) v zero P a b = b
set_any (x ∷ l) (suc j) v (suc i) P a b = set_any l j v i P a b

set_by : (l : List ℕ) (j v : ℕ) (P : ℕ → ℕ → Type 0) → j < length l → P j v → (i : ℕ) → ((i ≡ j → ⊥) → P i (cell l i)) → P i (cell (set l j v) i)
set_by l j v P lt here i other = turn (eqb i j) refl where
  turn : (b : Bool) → eqb i j ≡ b → P i (cell (set l j v) i)
  turn true e =
      subst (λ (k : ℕ). P k (cell (set l j v) k)) (sym (eqb-true i j e)) (subst (P j) (sym (get_or-set_same l j v 0 lt)) here)
  turn false e = subst (P i) (sym (get_or-set_other l j i v 0 (eqb-false i j e))) (other (eqb-false i j e))

-- how many ids are their own representatives
flag_le : (b c : Bool) → (b ≡ true → c ≡ true) → flag b ≤ flag c
flag_le true c h = let e : flag c ≡ 1 = ap flag (h refl) in omega arith
flag_le false c h = omega arith

roots_most : (f : ℕ → ℕ) (n : ℕ) → roots f n ≤ n
roots_most f zero = omega arith
roots_most f (suc n) = omega (arith, flag_few (eqb (f n) n), roots_most f n)

module _ (f g : ℕ → ℕ) where
  root_le : (n : ℕ) → (g n ≡ n → f n ≡ n) → flag (eqb (g n) n) ≤ flag (eqb (f n) n)
  root_le n h = flag_le (eqb (g n) n) (eqb (f n) n) (λ e. eq-eqb (f n) n (h (eqb-true (g n) n e)))

  roots_le : (n : ℕ) → ((i : ℕ) → i < n → g i ≡ i → f i ≡ i) → roots g n ≤ roots f n
  roots_le zero h = omega arith
  roots_le (suc n) h = omega (arith, root_le n (h n (omega arith)), roots_le n (λ i lt. h i (omega arith)))

  roots_less : (n k : ℕ) → ((i : ℕ) → i < n → g i ≡ i → f i ≡ i) → k < n → f k ≡ k → (g k ≡ k → ⊥) → roots g n < roots f n
  roots_less zero k h lt e ne = absurd (not-suc-le-zero lt)
  roots_less (suc n) k h lt e ne =
      ⊎_elim
      (λ (z : k ≡ n).
      let a : flag (eqb (f n) n) ≡ 1 = ap flag (eq-eqb (f n) n (ap f (sym z) ∙ e ∙ z)) in
      let b : flag (eqb (g n) n) ≡ 0 = ap flag (ne_eqb (g n) n (λ y. ne (ap g z ∙ y ∙ sym z))) in
      omega (arith, roots_le n (λ i l. h i (omega arith))))
      (λ (z : k < n). omega (arith, root_le n (h n (omega arith)), roots_less n k (λ i l. h i (omega arith)) z e ne))
      (eq-or-lt_of_le (omega arith))

roots_some : (f : ℕ → ℕ) (n k : ℕ) → k < n → f k ≡ k → 0 < roots f n
roots_some f n k lt e = omega (arith, roots_less f (λ (i : ℕ). suc i) n k (λ i l z. absurd (omega arith)) lt e (λ z. omega arith))

-- the parents of ids stay ids
stays_none : {parent : List ℕ} {count : ℕ} → Inside parent count → Stays parent count parent
stays_none h = record { inside = h; kept = λ k le. refl }

stays_both : {a b c : List ℕ} {count : ℕ} → Stays a count b → Stays b count c → Stays a count c
stays_both h k = record { inside = k.inside; kept = λ i le. k.kept i le ∙ h.kept i le }

stays_set : {parent parent' : List ℕ} {count j v : ℕ} → Inside parent count → j < count → v < count → parent' ≡ set parent j v → Stays parent count parent'
stays_set {parent} {parent'} {count} {j} {v} h lj lv e =
    subst (λ (l : List ℕ). Stays parent count l) (sym e)
    (record {
      inside = record { is = λ i lt. set_any parent j v i (λ (x : ℕ). x < count) lv (h.is i lt) };
      kept = λ k le. get_or-set_other parent j k v 0 (λ z. omega arith);
    })

module _ {parent reps : List ℕ} {count : ℕ} (f : Forest parent count reps) where
  own_rep : (i : ℕ) → i < count → cell reps (cell reps i) ≡ cell reps i
  own_rep i lt = f.own (cell reps i) (f.known i lt) (f.root i lt)

  shallow : (i : ℕ) → i < count → f.depth i < count
  shallow i lt = omega (arith, f.deep i lt, roots_some (cell reps) count (cell reps i) (f.known i lt) (own_rep i lt))

  -- an id that is no representative gets a parent of its class that is nearer the end
  abbrev lifted : (cur v : ℕ) → cur < count → v < count → cell reps v ≡ cell reps cur → f.depth v < f.depth cur → (cell parent cur ≡ cur → ⊥)
      → Forest (set parent cur v) count reps
  lifted cur v lc lv same low un =
      let in_list : cur < length parent = omega (arith, f.room) in
      let other : v ≡ cur → ⊥ = λ z. let e = ap f.depth z in omega arith in
      record {
        room = omega (arith, length-set parent cur v, f.room);
        whole = f.whole;
        inside = λ i lt. set_by parent cur v (λ (k x : ℕ). x < count) in_list lv i (λ _. f.inside i lt);
        above = λ i lt. set_by parent cur v (λ (k x : ℕ). cell reps x ≡ cell reps k) in_list same i (λ _. f.above i lt);
        known = f.known;
        root = λ i lt.
            get_or-set_other parent cur (cell reps i) v 0 (λ z. un (subst (λ (k : ℕ). cell parent k ≡ k) z (f.root i lt))) ∙ f.root i lt;
        own = λ i lt. set_by parent cur v (λ (k x : ℕ). x ≡ k → cell reps k ≡ k) in_list (λ z. absurd (other z)) i (λ _. f.own i lt);
        depth = f.depth;
        down = λ i lt. set_by parent cur v (λ (k x : ℕ). (x ≡ k → ⊥) → f.depth x < f.depth k) in_list (λ _. low) i (λ _. f.down i lt);
        flat = λ i lt. set_by parent cur v (λ (k x : ℕ). x ≡ k → f.depth k ≡ 0) in_list (λ z. absurd (other z)) i (λ _. f.flat i lt);
        deep = f.deep;
      }

  -- the parent of a parent is not farther from the end
  upper : (p : ℕ) → p < count → f.depth (cell parent p) ≤ f.depth p
  upper p lt = turn (eqb (cell parent p) p) refl where
    turn : (b : Bool) → eqb (cell parent p) p ≡ b → f.depth (cell parent p) ≤ f.depth p
    turn true e = let z = ap f.depth (eqb-true (cell parent p) p e) in omega arith
    turn false e = omega (arith, f.down p lt (eqb-false (cell parent p) p e))

  -- an id's representative as its parent
  landed : (i : ℕ) → i < count → Forest (set parent i (cell reps i)) count reps
  landed i lt = turn (eqb (cell parent i) i) refl where
    turn : (b : Bool) → eqb (cell parent i) i ≡ b → Forest (set parent i (cell reps i)) count reps
    turn true e =
        let z = eqb-true (cell parent i) i e in
        subst (λ (l : List ℕ). Forest l count reps) (sym (ap (set parent i) (f.own i lt z ∙ sym z) ∙ set-get_or parent i 0)) f
    turn false e =
        let z = eqb-false (cell parent i) i e in
        lifted i (cell reps i) lt (f.known i lt) (own_rep i lt)
        (omega (arith, f.flat (cell reps i) (f.known i lt) (f.root i lt), f.down i lt z)) z

-- `find` at id cur after i steps
pub record Climbs (count id : ℕ) (parent₀ parent reps : List ℕ) (cur i : ℕ) : Type 0 where
  pub forest : Forest parent count reps
  pub same : cell reps cur ≡ cell reps id
  pub below : cur < count
  pub low : forest.depth cur + i < count
  pub settled : (k : ℕ) → k < count → cell parent₀ k ≡ cell reps k → cell parent k ≡ cell reps k

pub record Climbing (parent₀ : List ℕ) (count id : ℕ) (parent : List ℕ) (cur i : ℕ) : Type 0 where
  pub few : i ≤ count
  pub stays : Inside parent₀ count → id < count → Stays parent₀ count parent
  pub below : Inside parent₀ count → id < count → cur < count
  pub is : {reps : List ℕ} → Forest parent₀ count reps → id < count → Climbs count id parent₀ parent reps cur i

module _ {parent₀ : List ℕ} {count id : ℕ} where
  pub climbing_start : Climbing parent₀ count id parent₀ id 0
  climbing_start =
      record {
        few = omega arith;
        stays = λ h lt. stays_none h;
        below = λ h lt. lt;
        is = λ f lt. record { forest = f; same = refl; below = lt; low = omega (arith, shallow f id lt); settled = λ k l e. e };
      }

  module _ {parent : List ℕ} {cur i : ℕ} (c : Climbing parent₀ count id parent cur i) where
    abbrev twice : ℕ
    twice = cell parent (cell parent cur)

    climbs : {reps : List ℕ} → (cell parent cur ≡ cur → ⊥) → Climbs count id parent₀ parent reps cur i
        → Climbs count id parent₀ (set parent cur twice) reps twice (i + 1)
    climbs {reps} un k =
        let f = k.forest in
        let lp = f.inside cur k.below in
        let near = f.down cur k.below un in
        let up = upper f (cell parent cur) lp in
        let same = f.above (cell parent cur) lp ∙ f.above cur k.below in
        let low = k.low in
        record {
          forest = lifted f cur twice k.below (f.inside (cell parent cur) lp) same (omega arith) un;
          same = same ∙ k.same;
          below = f.inside (cell parent cur) lp;
          low = omega arith;
          settled = λ j lt. set_by parent cur twice (λ (m x : ℕ). cell parent₀ m ≡ cell reps m → x ≡ cell reps m) (omega (arith, f.room, k.below))
              (λ e. ap (cell parent) (k.settled cur k.below e) ∙ f.root cur k.below) j (λ _. k.settled j lt);
        }

    climbed : i < count → (cell parent cur ≡ cur → ⊥) → Climbing parent₀ count id (set parent cur twice) twice (i + 1)
    climbed lt un =
        record {
          few = omega arith;
          stays = λ h l.
              let s = c.stays h l in
              let b = c.below h l in
              stays_both s (stays_set s.inside b (s.inside.is (cell parent cur) (s.inside.is cur b)) refl);
          below = λ h l. let s = (c.stays h l).inside in s.is (cell parent cur) (s.is cur (c.below h l));
          is = λ f l. climbs un (c.is f l);
        }

    pub climbing_more : {p above : ℕ} {parent' : List ℕ} → i < count → p ≡ cell parent cur → (p ≡ cur → ⊥) → above ≡ cell parent p
        → parent' ≡ set parent cur above
        → Climbing parent₀ count id parent' above (i + 1)
    climbing_more {p} {above} {parent'} lt e un g put =
        let z : above ≡ twice = g ∙ ap (cell parent) e in
        subst (λ (l : List ℕ). Climbing parent₀ count id l above (i + 1)) (sym put)
        (subst (λ (a : ℕ). Climbing parent₀ count id (set parent cur a) a (i + 1)) (sym z) (climbed lt (λ y. un (e ∙ y))))

    pub climbing_here : {p : ℕ} → p ≡ cell parent cur → p ≡ cur → Finds parent₀ count id parent cur
    climbing_here e g =
        record {
          stays = c.stays;
          below = c.below;
          is = λ f lt.
              let k = c.is f lt in
              record { forest = k.forest; is = sym (k.forest.own cur k.below (sym e ∙ g)) ∙ k.same; settled = k.settled };
        }

    pub climbing_done : count ≤ i → Finds parent₀ count id parent cur
    climbing_done le = record { stays = c.stays; below = c.below; is = λ f lt. let z = (c.is f lt).low in absurd (omega arith) }

-- values of a list that each is turned into another
map_at : (h : ℕ → ℕ) (l : List ℕ) (i : ℕ) → i < length l → cell (map h l) i ≡ h (cell l i)
map_at h [] i lt = absurd (not-suc-le-zero lt)
map_at h (x ∷ l) zero lt = refl
map_at h (x ∷ l) (suc i) lt = map_at h l i (omega arith)

map_same : (h : ℕ → ℕ) (l : List ℕ) → ((x : ℕ) → h x ≡ x) → map h l ≡ l
map_same h [] e = refl
map_same h (x ∷ l) e = ap₂ {C = List ℕ} ◌∷◌ (e x) (map_same h l e)

get_d_in : (l : List ℕ) (i d e : ℕ) → i < length l → get_or l i d ≡ get_or l i e
get_d_in [] i d e lt = absurd (not-suc-le-zero lt)
get_d_in (x ∷ l) zero d e lt = refl
get_d_in (x ∷ l) (suc i) d e lt = get_d_in l i d e (omega arith)

-- two classes joined
module _ (ra rb : ℕ) where
  abbrev to : ℕ → ℕ
  to r = if (eqb r ra) (λ _. rb) (λ _. r)

  to_by : (P : ℕ → Type 0) (r : ℕ) → (r ≡ ra → P rb) → ((r ≡ ra → ⊥) → P r) → P (to r)
  to_by P r a b = turn (eqb r ra) refl where
    turn : (t : Bool) → eqb r ra ≡ t → P (if t (λ _. rb) (λ _. r))
    turn true e = a (eqb-true r ra e)
    turn false e = b (eqb-false r ra e)

  to_same : (r : ℕ) → r ≡ ra → to r ≡ rb
  to_same r e = ap (λ (t : Bool). if t (λ _. rb) (λ _. r)) (eq-eqb r ra e)

  to_other : (r : ℕ) → (r ≡ ra → ⊥) → to r ≡ r
  to_other r e = ap (λ (t : Bool). if t (λ _. rb) (λ _. r)) (ne_eqb r ra e)

  module _ {parent reps : List ℕ} {count : ℕ} (f : Forest parent count reps) (la : ra < count) (lb : rb < count) (ea : cell parent ra ≡ ra) (eb : cell parent rb ≡ rb) where
    abbrev after : List ℕ
    after = join_classes reps ra rb

    rep_after : (i : ℕ) → i < count → cell after i ≡ to (cell reps i)
    rep_after i lt = map_at to reps i (omega (arith, f.whole))

    oa : cell reps ra ≡ ra
    oa = f.own ra la ea

    ob : cell reps rb ≡ rb
    ob = f.own rb lb eb

    module _ (ne : ra ≡ rb → ⊥) where
      ja : cell after ra ≡ rb
      ja = rep_after ra la ∙ to_same (cell reps ra) oa

      jb : cell after rb ≡ rb
      jb = rep_after rb lb ∙ to_other (cell reps rb) (λ z. ne (sym z ∙ ob)) ∙ ob

      -- the members of the class that ends go one step farther
      abbrev farther : ℕ → ℕ
      farther i = f.depth i + flag (eqb (cell reps i) ra)

      fewer : roots (cell after) count < roots (cell reps) count
      fewer =
          roots_less (cell reps) (cell after) count ra
          (λ i lt e. to_by (λ (x : ℕ). x ≡ i → cell reps i ≡ i) (cell reps i) (λ z g. ap (cell reps) (sym g) ∙ ob ∙ g) (λ z g. g) (sym (rep_after i lt) ∙ e))
          la oa (λ z. ne (sym z ∙ ja))

      apart : Forest (set parent ra rb) count after
      apart =
          let in_list : ra < length parent = omega (arith, f.room) in
          record {
            room = omega (arith, length-set parent ra rb, f.room);
            whole = length-map reps to ∙ f.whole;
            inside = λ i lt. set_by parent ra rb (λ (k x : ℕ). x < count) in_list lb i (λ _. f.inside i lt);
            above = λ i lt. set_by parent ra rb (λ (k x : ℕ). cell after x ≡ cell after k) in_list (jb ∙ sym ja) i
                (λ _. rep_after (cell parent i) (f.inside i lt) ∙ ap to (f.above i lt) ∙ sym (rep_after i lt));
            known = λ i lt. subst (λ (x : ℕ). x < count) (sym (rep_after i lt)) (to_by (λ (x : ℕ). x < count) (cell reps i) (λ _. lb) (λ _. f.known i lt));
            root = λ i lt. subst (λ (x : ℕ). cell (set parent ra rb) x ≡ x) (sym (rep_after i lt))
                (to_by (λ (x : ℕ). cell (set parent ra rb) x ≡ x) (cell reps i)
                (λ _. get_or-set_other parent ra rb rb 0 (λ z. ne (sym z)) ∙ eb)
                (λ z. get_or-set_other parent ra (cell reps i) rb 0 z ∙ f.root i lt));
            own = λ i lt. set_by parent ra rb (λ (k x : ℕ). x ≡ k → cell after k ≡ k) in_list (λ z. absurd (ne (sym z))) i
                (λ un e. rep_after i lt ∙ to_other (cell reps i) (λ z. un (sym (f.own i lt e) ∙ z)) ∙ f.own i lt e);
            depth = farther;
            down = λ i lt. set_by parent ra rb (λ (k x : ℕ). (x ≡ k → ⊥) → farther x < farther k) in_list
                (λ _.
                let x : flag (eqb (cell reps rb) ra) ≡ 0 = ap flag (ne_eqb (cell reps rb) ra (λ z. ne (sym z ∙ ob))) in
                let y : flag (eqb (cell reps ra) ra) ≡ 1 = ap flag (eq-eqb (cell reps ra) ra oa) in
                omega (arith, f.flat rb lb eb)) i
                (λ _ un. let x = ap (λ (r : ℕ). flag (eqb r ra)) (f.above i lt) in omega (arith, f.down i lt un));
            flat = λ i lt. set_by parent ra rb (λ (k x : ℕ). x ≡ k → farther k ≡ 0) in_list (λ z. absurd (ne (sym z))) i
                (λ un e.
                let x : flag (eqb (cell reps i) ra) ≡ 0 = ap flag (ne_eqb (cell reps i) ra (λ z. un (sym (f.own i lt e) ∙ z))) in
                omega (arith, f.flat i lt e));
            deep = λ i lt. omega (arith, f.deep i lt, flag_few (eqb (cell reps i) ra), fewer);
          }

    joined : Forest (set parent ra rb) count after
    joined = turn (eqb ra rb) refl where
      turn : (b : Bool) → eqb ra rb ≡ b → Forest (set parent ra rb) count after
      turn true e =
          let z = eqb-true ra rb e in
          subst (λ (l : List ℕ). Forest l count after) (sym (ap (set parent ra) (sym z ∙ sym ea) ∙ set-get_or parent ra 0))
          (subst (λ (rs : List ℕ). Forest parent count rs) (sym (map_same to reps (λ x. to_by (λ (y : ℕ). y ≡ x) x (λ w. sym z ∙ sym w) (λ _. refl)))) f)
      turn false e = apart (eqb-false ra rb e)

-- a pair of ids, and one with a number that is no id
module _ (reps : List ℕ) (a b : ℕ) where
  abbrev pair_by : Bool → Bool → List ℕ
  pair_by t u = if (both t (λ _. u)) (λ _. join_classes reps (rep_in reps a) (rep_in reps b)) (λ _. reps)

  pair_in : a < length reps → b < length reps → join_pair reps (record { first = a; second = b }) ≡ join_classes reps (cell reps a) (cell reps b)
  pair_in la lb =
      ap₂ pair_by (lt-ltb a (length reps) la) (lt-ltb b (length reps) lb) ∙ ap₂ (join_classes reps) (get_d_in reps a a 0 la) (get_d_in reps b b 0 lb)

  pair_first : length reps ≤ a → join_pair reps (record { first = a; second = b }) ≡ reps
  pair_first le = ap (λ (t : Bool). pair_by t (ltb b (length reps))) (le-ltb a (length reps) le)

  pair_second : a < length reps → length reps ≤ b → join_pair reps (record { first = a; second = b }) ≡ reps
  pair_second lt le = ap₂ pair_by (lt-ltb a (length reps) lt) (le-ltb b (length reps) le)

module _ {parent : List ℕ} {count a b : ℕ} where
  pub unites_both : {p₁ p₂ p₃ : List ℕ} {ra rb : ℕ} → a < count → b < count → Finds parent count a p₁ ra → Finds p₁ count b p₂ rb → p₃ ≡ set p₂ ra rb
      → Unites parent count a b p₃
  unites_both {p₁} {p₂} {p₃} {ra} {rb} la lb fa fb put =
      record {
        stays = λ h.
            let s = fa.stays h la in
            let t = fb.stays s.inside lb in
            stays_both s (stays_both t (stays_set t.inside (fa.below h la) (fb.below s.inside lb) put));
        is = λ {reps} f.
            let g = fa.is f la in
            let h = fb.is g.forest lb in
            let k = h.forest in
            subst (λ (l : List ℕ). Forest l count (join_pair reps (record { first = a; second = b }))) (sym (put ∙ ap₂ (set p₂) g.is h.is))
            (subst (λ (rs : List ℕ). Forest (set p₂ (cell reps a) (cell reps b)) count rs)
            (sym (pair_in reps a b (omega (arith, k.whole)) (omega (arith, k.whole))))
            (joined (cell reps a) (cell reps b) k (k.known a la) (k.known b lb) (k.root a la) (k.root b lb)));
      }

-- `alone` at id i
pub record Lone (parent₀ : List ℕ) (count : ℕ) (parent : List ℕ) (i : ℕ) : Type 0 where
  pub few : i ≤ count
  pub long : length parent ≡ length parent₀
  pub own : (k : ℕ) → k < i → k < length parent₀ → cell parent k ≡ k
  pub kept : (k : ℕ) → i ≤ k → cell parent k ≡ cell parent₀ k

upward_at : (a n i : ℕ) → i < n → cell (upward a n) i ≡ a + i
upward_at a zero i lt = absurd (not-suc-le-zero lt)
upward_at a (suc n) zero lt = omega arith
upward_at a (suc n) (suc i) lt = upward_at (suc a) n i (omega arith) ∙ omega arith

module _ {parent₀ : List ℕ} {count : ℕ} where
  module _ {parent : List ℕ} {i : ℕ} (c : Lone parent₀ count parent i) where
    module _ (le : count ≤ i) where
      lone_inside : (k : ℕ) → k < count → cell parent k < count
      lone_inside k lt = turn (ltb k (length parent)) refl where
        turn : (b : Bool) → ltb k (length parent) ≡ b → cell parent k < count
        turn true e = let z = ltb-true k (length parent) e in omega (arith, c.own k (omega arith) (omega (arith, c.long)))
        turn false e = omega (arith, get_or-eq_default parent 0 (ltb-false k (length parent) e))

      lone_forest : count ≤ length parent₀ → Forest parent count (upward 0 count)
      lone_forest room =
          let own : (k : ℕ) → k < count → cell parent k ≡ k = λ k lt. c.own k (omega arith) (omega arith) in
          let up : (k : ℕ) → k < count → cell (upward 0 count) k ≡ k = λ k lt. upward_at 0 count k lt ∙ omega arith in
          record {
            room = omega (arith, c.long);
            whole = upward_length 0 count;
            inside = lone_inside;
            above = λ k lt. ap (cell (upward 0 count)) (own k lt);
            known = λ k lt. omega (arith, up k lt);
            root = λ k lt. subst (λ (x : ℕ). cell parent x ≡ x) (sym (up k lt)) (own k lt);
            own = λ k lt e. up k lt;
            depth = λ k. 0;
            down = λ k lt un. absurd (un (own k lt));
            flat = λ k lt e. refl;
            deep = λ k lt. omega (arith, roots_most (cell (upward 0 count)) count);
          }

      pub lone_done : Alone parent₀ count parent
      lone_done =
          record {
            stays = record { inside = record { is = lone_inside }; kept = λ k l. c.kept k (omega (arith, c.few)) };
            is = lone_forest;
          }

-- `settle` at id i
pub record Settled (count : ℕ) (parent reps : List ℕ) (i : ℕ) : Type 0 where
  pub forest : Forest parent count reps
  pub is : (k : ℕ) → k < i → cell parent k ≡ cell reps k

pub record Settling (parent₀ : List ℕ) (count : ℕ) (parent : List ℕ) (i : ℕ) : Type 0 where
  pub few : i ≤ count
  pub stays : Inside parent₀ count → Stays parent₀ count parent
  pub is : {reps : List ℕ} → Forest parent₀ count reps → Settled count parent reps i

module _ {parent₀ : List ℕ} {count : ℕ} where
  module _ {parent : List ℕ} {i : ℕ} (c : Settling parent₀ count parent i) where
    pub settling_more : {p₁ p₂ : List ℕ} {r : ℕ} → i < count → Finds parent count i p₁ r → p₂ ≡ set p₁ i r → Settling parent₀ count p₂ (i + 1)
    settling_more {p₁} {p₂} {r} lt find put =
        record {
          few = omega arith;
          stays = λ h.
              let s = c.stays h in
              let t = find.stays s.inside lt in
              stays_both s (stays_both t (stays_set t.inside lt (find.below s.inside lt) put));
          is = λ {reps} f.
              let s = c.is f in
              let g = find.is s.forest lt in
              subst (λ (l : List ℕ). Settled count l reps (i + 1)) (sym (put ∙ ap (set p₁ i) g.is))
              (record {
                forest = landed g.forest i lt;
                is = λ k l.
                    set_by p₁ i (cell reps i) (λ (j x : ℕ). x ≡ cell reps j) (omega (arith, g.forest.room)) refl k
                    (λ un. g.settled k (omega arith) (s.is k (below k l un)));
              });
        } where
          below : (k : ℕ) → k < i + 1 → (k ≡ i → ⊥) → k < i
          below k l un = ⊎_elim (λ (z : k ≡ i). absurd (un z)) (λ (z : k < i). z) (eq-or-lt_of_le (omega arith))

    pub settling_done : count ≤ i → Settles parent₀ count parent
    settling_done le =
        record {
          stays = c.stays;
          is = λ {reps} f.
              let s = c.is f in
              let whole = s.forest.whole in
              ap (part parent 0) (sym whole) ∙ (holds_from parent 0 reps (λ k lt. ap (cell parent) (omega arith) ∙ s.is k (omega arith))).is;
        }

-- `union_pairs` at pair i
pub record United (table₀ : List ℕ) (count first pairs : ℕ) (table reps : List ℕ) (i : ℕ) : Type 0 where
  pub reached : List ℕ
  pub forest : Forest table count reached
  pub left : join_pairs reached (run (pair_at table₀) (first + i) (pairs - i)) ≡ join_pairs reps (pairs_in table₀ first pairs)

pub record Uniting (table₀ : List ℕ) (count first pairs : ℕ) (table : List ℕ) (i : ℕ) : Type 0 where
  pub few : i ≤ pairs
  pub stays : Inside table₀ count → Stays table₀ count table
  pub is : {reps : List ℕ} → Forest table₀ count reps → Behind table₀ count first pairs → United table₀ count first pairs table reps i

-- a pair is read after the parents, where no cell changes
pair_kept : {a b : List ℕ} {count first pairs : ℕ} → Stays a count b → Behind a count first pairs → (i : ℕ) → i < pairs → pair_at b (first + i) ≡ pair_at a (first + i)
pair_kept {a} {b} {count} {first} s h i lt =
    let begin : cell b (first + i) ≡ cell a (first + i) = s.kept (first + i) (omega (arith, h.places)) in
    let word : (k : ℕ) → cell b (cell b (first + i) + k) ≡ cell a (cell a (first + i) + k) =
    λ k. ap (λ (m : ℕ). cell b (m + k)) begin ∙ s.kept (cell a (first + i) + k) (omega (arith, h.rows i lt)) in
    ap₂ {C = Pair} (λ (x y : ℕ). record { first = x; second = y }) (word 1) (word 2)

module _ {table₀ : List ℕ} {count first pairs : ℕ} where
  module _ {table : List ℕ} {i : ℕ} (c : Uniting table₀ count first pairs table i) where
    pub uniting_more : {table' : List ℕ} {p a p₁ p₂ x y : ℕ} → i < pairs → p ≡ first + i → a ≡ cell table p → p₁ ≡ a + 1 → x ≡ cell table p₁ → p₂ ≡ a + 2
        → y ≡ cell table p₂ → Unites table count x y table' → Uniting table₀ count first pairs table' (i + 1)
    uniting_more {table'} {x = x} {y = y} lt e f e₁ f₁ e₂ f₂ u =
        let z = f ∙ ap (cell table) e in
        let pair : ◌≡◌ {A = Pair} (record { first = x; second = y }) (pair_at table (first + i)) =
        ap₂ {C = Pair} (λ (k m : ℕ). record { first = k; second = m }) (f₁ ∙ ap (cell table) (e₁ ∙ ap (λ (k : ℕ). k + 1) z)) (f₂ ∙ ap (cell table) (e₂ ∙ ap (λ (k : ℕ). k + 2) z)) in
        record {
          few = omega arith;
          stays = λ h. let s = c.stays h in stays_both s (u.stays s.inside);
          is = λ {reps} g b.
              let v = c.is g b in
              let s = c.stays (record { is = g.inside }) in
              record {
                reached = join_pair v.reached (pair_at table₀ (first + i));
                forest = subst (λ (l : Pair). Forest table' count (join_pair v.reached l)) (pair ∙ pair_kept s b i lt) (u.is v.forest);
                left = sym (ap (join_pairs v.reached) (run_next (pair_at table₀) first pairs i lt)) ∙ v.left;
              };
        }

-- `from_storage`
module _ {table t₁ t₂ t₃ : List ℕ} {count first pairs : ℕ} (a : Alone table count t₁) (u : UnitesAll t₁ count first pairs t₂) (s : Settles t₂ count t₃) where
  behind_kept : Behind table count first pairs → Behind t₁ count first pairs
  behind_kept b = record { places = b.places; rows = λ i lt. omega (arith, b.places, b.rows i lt, a.stays.kept (first + i) (omega (arith, b.places))) }

  pairs_kept : Behind table count first pairs → pairs_in t₁ first pairs ≡ pairs_in table first pairs
  pairs_kept b = run_ext (pair_at t₁) (pair_at table) first pairs (λ k low high. subst (λ (m : ℕ). pair_at t₁ m ≡ pair_at table m) (omega arith) (pair_kept a.stays b (k - first) (omega arith)))

  pub represents_is : Represents table count first pairs t₃
  represents_is =
      record {
        is = λ room b. s.is (u.is (a.is room) (behind_kept b)) ∙ ap (join_pairs (upward 0 count)) (pairs_kept b);
        kept = let t = u.stays a.stays.inside in (stays_both a.stays (stays_both t (s.stays t.inside))).kept;
      }
