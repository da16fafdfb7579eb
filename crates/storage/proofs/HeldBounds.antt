-- The bounds by which a variable is expanded: by its own rule, and where a fallback begins. Assumes nothing.
use mathlib.Core.Path.{◌≡◌, refl, sym, ap, ap₂, ◌∙◌, subst}
use mathlib.Core.Bool.{Bool, true, false, not, ◌||◌}
use Prim.Native.Nat.{ℕ, ◌+◌, ◌≤◌, ◌<◌}
use native.Mathlib.Omega.{arith}
use mathlib.Core.List.{List, [], ◌∷◌}
use lib.ListN.{length, length-append}
use lib.Dec.{eqb}
use borrow.Author.Tests.{eq-eqb}
use Rattle.cells.specs.Part.{cell, if}
use Rattle.cells.specs.Sum.{Sum}
use Rattle.layout.specs.Layout.{marks_at}
use Rattle.rules.specs.Plain.{filter}
use Rattle.rules.specs.Table.{var, kids}
use Rattle.rules.specs.Table as rules
use Rattle.rules.specs.Canonicalizer.{Pass, Reader, Visit, variable, is_variable, is_atom, lowers, uppers, begin_list, bounds_of, expansion, variable_rule}
use Rattle.rules.specs.declared.Polarity.{Polarity}
use Rattle.rules.specs.declared.Polarity.TheVariants.{Positive, Negative}
use Rattle.storage.specs.declared.given.Canon.{Canon}
use Rattle.storage.specs.Passes.{ListAt, BoundsAt, Reads, Knows}
use Rattle.storage.specs.Equivs.{Rep}
use Rattle.storage.specs.Vars.{IsPreserved}
use Rattle.storage.specs.Entries.{Row, IsVar, IsAtom, Uppers}
use Rattle.storage.specs.Helds.{HoldsBounds, BeginsList, concretes, own_rule, OwnList, Variable as OwnVariable, Bounds, OwnBounds}
use Rattle.laws.proofs.Filtering.{filter_length, filter_under, under_front, under_back}
use Rattle.laws.proofs.Filtering.{filter_all}
use Rattle.storage.proofs.EntryReads.{variable_at, entry_at_row, behind}
use Rattle.storage.proofs.HeldIds.{held_list}
use Rattle.cells.specs.Placed.{Under}

-- the list that a fallback begins
module _ {table : List ℕ} {c : Canon} {p : Pass} {t : Reader} {id x y : ℕ} (k : Knows table c p t) (lt : id < c.count) where
  own_mark : y ≡ marks_at + id → x ≡ cell table y → p.marked id ≡ not (eqb x 0)
  own_mark e f = k.marked id lt ∙ ap (λ (j : ℕ). not (eqb j 0)) (sym (f ∙ ap (cell table) e))

  reps_mark : {q : ℕ} → Rep table c.count id q → y ≡ marks_at + q → x ≡ cell table y → p.marked (p.rep id) ≡ not (eqb x 0)
  reps_mark r e f =
      k.marked (p.rep id) (k.reps.below id lt)
      ∙ ap (λ (j : ℕ). not (eqb (cell table (marks_at + j)) 0)) (k.reps.is id ∙ sym r.is)
      ∙ ap (λ (j : ℕ). not (eqb j 0)) (sym (f ∙ ap (cell table) e))

-- the lists of a variable whose row begins at a
pub record Lists (table : List ℕ) (count v : ℕ) (en : rules.Entry) : Type 0 where
  pub lower : List ℕ
  pub upper : List ℕ
  pub is : en ≡ var lower upper
  pub bounds : BoundsAt table v lower upper
  pub size : length (kids en) ≡ length lower + length upper
  pub under : Under count lower × Under count upper

lists_of : {table : List ℕ} {c : Canon} {t : Reader} {id a v : ℕ} → Row table c id a → Sum a 1 v → Reads table c t → id < c.count
    → is_variable (t id) ≡ true → Lists table c.count v (t id)
lists_of {table = table} {c} {t} {id} {a} {v} row one h lt e =
    let en = entry_at_row row h lt in
    let w = variable_at (t id) en e in
    let below = subst (λ (x : rules.Entry). Under c.count (kids x)) w.is (h.known id lt) in
    record {
      lower = w.lower;
      upper = w.upper;
      is = w.is;
      bounds = subst (λ (j : ℕ). BoundsAt table j w.lower w.upper) (sym (behind one en.fits)) w.bounds;
      size = ap (λ (x : rules.Entry). length (kids x)) w.is ∙ length-append w.lower w.upper;
      under = (under_front c.count w.lower w.upper below, under_back c.count w.lower w.upper below);
    }

upper_at : {table l u : List ℕ} {v r : ℕ} → Uppers table v r → BoundsAt table v l u → ListAt table r u
upper_at {table} {u = u} up b = subst (λ (j : ℕ). ListAt table j u) (sym (up.is b.lowers)) b.uppers

module _ {table : List ℕ} {c : Canon} {work : List ℕ} {h id : ℕ} {pol : Polarity} where
  pub begin_upper : {work' : List ℕ} {a v u r : ℕ} {answers : ℕ → Bool → Type 0} → pol ≡ Positive → Row table c id a → Sum a 1 v → Uppers table v u → HoldsBounds answers table work h u work' r
      → ((b : ℕ) (x : Bool) → answers b x → IsAtom table c b x)
      → BeginsList table c work h id pol work' r
  begin_upper e row one up hold atom =
      record {
        kept = hold.kept;
        is = λ {p} {t} k lt isv room.
            let w = lists_of row one k.reads lt isv in
            let size = w.size in
            held_list
            (sym (ap (begin_list p t id) e ∙ ap (λ (x : rules.Entry). filter (λ (b : ℕ). is_atom t (t b)) (uppers x)) w.is))
            (hold.is (λ b. is_atom t (t b)) (λ b x lt agree. (atom b x agree).is k.reads lt) (upper_at up w.bounds) w.under.1 (omega arith));
      }

  module _ {x y : ℕ} (e : pol ≡ Negative) (at : y ≡ marks_at + id) (own : x ≡ cell table y) where
    module _ {q x' y' : ℕ} (none : x ≡ 0) (rep : Rep table c.count id q) (at' : y' ≡ marks_at + q) (reps : x' ≡ cell table y') where
      pub begin_lower : {work' : List ℕ} {a v r : ℕ} {answers : ℕ → Bool → Type 0} → x' ≡ 0 → Row table c id a → Sum a 1 v → HoldsBounds answers table work h v work' r
          → ((b : ℕ) (x : Bool) → answers b x → x ≡ true)
          → BeginsList table c work h id pol work' r
      begin_lower n row one hold all =
          record {
            kept = hold.kept;
            is = λ {p} {t} k lt isv room.
                let w = lists_of row one k.reads lt isv in
                let size = w.size in
                held_list
                (filter_all w.lower
                ∙ sym (ap (begin_list p t id) e
                ∙ ap₂ (λ (a b : Bool). if (a || b) (λ _. []) (λ _. lowers (t id)))
                (own_mark k lt at own ∙ ap not (eq-eqb x 0 none))
                (reps_mark k lt rep at' reps ∙ ap not (eq-eqb x' 0 n))
                ∙ ap lowers w.is))
                (hold.is (λ _. true) (λ b x lt agree. all b x agree) w.bounds.lowers w.under.0 (omega arith));
          }

under_of : (pol : Polarity) (k : ℕ) (l u : List ℕ) → Under k l → Under k u → Under k (bounds_of pol l u)
under_of Positive k l u a b = a
under_of Negative k l u a b = b

pub bounds_short : (pol : Polarity) (l u : List ℕ) → length (bounds_of pol l u) ≤ length l + length u
bounds_short Positive l u = omega arith
bounds_short Negative l u = omega arith

module _ (p : Pass) (t : Reader) (v : Visit) (id : ℕ) (pol : Polarity) (bs : List ℕ) where
  rule_turn : (x : ℕ) (cs : List ℕ) (b : Bool)
      → if b (λ _. own_rule p t v id pol (x ∷ cs) true) (λ _. own_rule p t v id pol (x ∷ cs) false) ≡ own_rule p t v id pol (x ∷ cs) b
  rule_turn x cs true = refl
  rule_turn x cs false = refl

  rule_some : (cs : List ℕ) (kept : Bool) → (length cs ≡ 0 → ⊥) → kept ≡ p.preserved (p.rep id) → variable_rule p t v id pol bs cs ≡ own_rule p t v id pol cs kept
  rule_some [] kept n e = absurd (n refl)
  rule_some (x ∷ cs) kept n e = rule_turn x cs (p.preserved (p.rep id)) ∙ sym (ap (own_rule p t v id pol (x ∷ cs)) e)

  -- the bounds of other classes
  abbrev others : List ℕ
  others = filter (λ (b : ℕ). not (eqb (p.rep b) (p.rep id))) bs

  rule_variable : (cs : List ℕ) → length cs ≡ 0 → true ≡ p.preserved (p.rep id) → variable_rule p t v id pol bs cs ≡ variable p id
  rule_variable [] n e = ap (λ (b : Bool). if b (λ _. variable p id) (λ _. expansion p t v id others pol)) (sym e)
  rule_variable (x ∷ cs) n e = absurd (omega arith)

  rule_others : (cs : List ℕ) → length cs ≡ 0 → false ≡ p.preserved (p.rep id) → variable_rule p t v id pol bs cs ≡ expansion p t v id others pol
  rule_others [] n e = ap (λ (b : Bool). if b (λ _. variable p id) (λ _. expansion p t v id others pol)) (sym e)
  rule_others (x ∷ cs) n e = absurd (omega arith)

module _ {table : List ℕ} {c : Canon} {work : List ℕ} {h id v : ℕ} {pol : Polarity} {l n : ℕ} {work' : List ℕ} {kept : Bool} {answers : ℕ → Bool → Type 0}
    (ol : OwnList table v pol l) (pre : IsPreserved table c id kept) (hold : HoldsBounds answers table work h l work' n)
    (concrete : (b : ℕ) (x : Bool) → answers b x → (v : Bool) × IsVar table c b v × x ≡ not v) where
  as_concrete : {p : Pass} {t : Reader} → Knows table c p t → (b : ℕ) (x : Bool) → b < c.count → answers b x → x ≡ not (is_variable (t b))
  as_concrete k b x lt agree = let (v, is, e) = concrete b x agree in e ∙ ap not (is.is k.reads lt)

  pub own_concrete : (n ≡ 0 → ⊥) → OwnBounds table c work h id v pol work' (Bounds n kept)
  own_concrete some =
      record {
        kept = hold.kept;
        is = λ {p} {t} {l = lo} {u = up} k lt b ul uu room.
            let bs = bounds_of pol lo up in
            let under = under_of pol c.count lo up ul uu in
            let held = hold.is (λ b. not (is_variable (t b))) (as_concrete k) (ol.is b) under (omega (arith, bounds_short pol lo up)) in
            record {
              list = concretes t bs;
              held = held;
              is = λ v. rule_some p t v id pol bs (concretes t bs) kept (λ z. some (held.count ∙ z)) (pre.is k lt);
              below = subst (λ (j : ℕ). Under j (concretes t bs)) (sym k.count) (filter_under (λ (x : ℕ). not (is_variable (t x))) c.count bs under);
              few = filter_length (λ (x : ℕ). not (is_variable (t x))) bs;
            };
      }

  pub own_variable : n ≡ 0 → kept ≡ true → OwnBounds table c work h id v pol work' OwnVariable
  own_variable none e =
      record {
        kept = hold.kept;
        is = λ {p} {t} {l = lo} {u = up} k lt b ul uu room v.
            let bs = bounds_of pol lo up in
            let held = hold.is (λ b. not (is_variable (t b))) (as_concrete k) (ol.is b) (under_of pol c.count lo up ul uu) (omega (arith, bounds_short pol lo up)) in
            rule_variable p t v id pol bs (concretes t bs) (sym held.count ∙ none) (sym e ∙ pre.is k lt);
      }

  pub own_others : {work'' : List ℕ} {q m : ℕ} {again : ℕ → Bool → Type 0} → n ≡ 0 → kept ≡ false → Rep table c.count id q → length work' ≡ length work
      → HoldsBounds again table work' h l work'' m
      → ((b : ℕ) (x : Bool) → again b x → (j : ℕ) × Rep table c.count b j × x ≡ not (eqb j q))
      → OwnBounds table c work h id v pol work'' (Bounds m false)
  own_others {q = q} none e rep same rest other =
      record {
        kept = λ j lt. rest.kept j lt ∙ hold.kept j lt;
        is = λ {p} {t} {l = lo} {u = up} k lt b ul uu room.
            let bs = bounds_of pol lo up in
            let under = under_of pol c.count lo up ul uu in
            let few = bounds_short pol lo up in
            let held = hold.is (λ b. not (is_variable (t b))) (as_concrete k) (ol.is b) under (omega arith) in
            let z : q ≡ p.rep id = rep.is ∙ sym (k.reps.is id) in
            record {
              list = filter (λ (x : ℕ). not (eqb (p.rep x) (p.rep id))) bs;
              held = held_list (ap (λ (i : ℕ). filter (λ (x : ℕ). not (eqb (p.rep x) i)) bs) z)
                  (rest.is (λ b. not (eqb (p.rep b) q)) (λ b x lt agree. let (j, r, y) = other b x agree in y ∙ ap (λ (i : ℕ). not (eqb i q)) (r.is ∙ sym (k.reps.is b))) (ol.is b) under (omega arith));
              is = λ v. rule_others p t v id pol bs (concretes t bs) (sym held.count ∙ none) (sym e ∙ pre.is k lt);
              below =
                  subst (λ (j : ℕ). Under j (filter (λ (x : ℕ). not (eqb (p.rep x) (p.rep id))) bs)) (sym k.count)
                  (filter_under (λ (x : ℕ). not (eqb (p.rep x) (p.rep id))) c.count bs under);
              few = filter_length (λ (x : ℕ). not (eqb (p.rep x) (p.rep id))) bs;
            };
      }
