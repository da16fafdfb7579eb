-- Places marked as gone: the marks stand for the rules' list of places, and what is left. Assumes nothing.
use mathlib.Core.Path.{◌≡◌, refl, sym, ap, ap₂, ◌∙◌, subst}
use mathlib.Core.Bool.{Bool, true, false, not, ◌||◌}
use Prim.Native.Nat.{ℕ, suc, ◌+◌, ◌≤◌, ◌<◌}
use native.Mathlib.Omega.{arith}
use native.Mathlib.Numerals.{add-one}
use mathlib.Core.List.{List, [], ◌∷◌, ◌++◌, append-nil, append_assoc}
use lib.ListN.{length, get_or, drop, set, replicate, length-set, length-append, length-replicate, get_or-replicate, drop_of_length-le}
use lib.Seq.{drop-cons, get_or-set_same, get_or-set_other}
use lib.Dec.{eqb}
use borrow.Author.Tests.{eqb-true, eqb-false, eq-eqb, ne_eqb, not-true, not-false}
use Rattle.cells.specs.Part.{cell, if}
use Rattle.cells.proofs.Choices.{if_same, if_false}
use Rattle.rules.specs.Ceilings.{most_members}
use Rattle.rules.specs.Plain.{contains, both}
use Rattle.rules.specs.Table.{Attr, attr_at}
use Rattle.rules.specs.Types.{Node, AttrSet, encode, kind_of, node_at, as_attr}
use Rattle.rules.specs.Members.{subsumes_node, taken_by, taken_by_node, taken_up, left, absorb_subsumed_union_members}
use Rattle.laws.proofs.Rows.{node_of}
use Rattle.lang_ty.specs.declared.arena.Pass.{Pass}
use Rattle.lang_ty.specs.Nodes.{Arena, Is}
use Rattle.members.specs.declared.lists.Members.{Members}
use Rattle.members.specs.Lists.{Taken, Makes, Gathered, only, KeepsIf, first_of}
use Rattle.simplify.specs.OwnKeys.{Idle, MarksOwn}
use Rattle.simplify.specs.Unions.{Marked, MarksIf, Takes, MarksTaken, Leaves}
use Rattle.laws.proofs.Filtering.{under_both}
use Rattle.members.proofs.Gathered.{few_at, few_below, gathered_few}
use Rattle.simplify.proofs.Cancelled.{any_both, once}
use Rattle.simplify.proofs.Absorbed.{no_attr}
use Rattle.simplify.proofs.OwnKeys.{idle_none}
use Rattle.cells.specs.Placed.{Under}
use mathlib.Core.Option.{Option, none, some}

-- no place is marked, and one more
marked_none : Marked (replicate most_members 0) []
marked_none = record { room = length-replicate {A = ℕ} most_members 0; is = λ j lt. ap (λ (v : ℕ). eqb v 0) (get_or-replicate most_members j 0 0 lt) }

any_way : (b : Bool) → if b (λ _. true) (λ _. true) ≡ true
any_way true = refl
any_way false = refl

module _ {gone ps : List ℕ} {j : ℕ} (m : Marked gone ps) (lt : j < most_members) where
  place_by : (b : Bool) (k : ℕ) → k < most_members → eqb k j ≡ b → eqb (cell (set gone j 1) k) 0 ≡ not (if (contains ps k) (λ _. true) (λ _. if b (λ _. true) (λ _. false)))
  place_by true k le e =
      ap (λ (v : ℕ). eqb v 0) (ap (cell (set gone j 1)) (eqb-true k j e) ∙ get_or-set_same gone j 1 0 (omega (arith, m.room)))
      ∙ sym (ap not (any_way (contains ps k)))
  place_by false k le e =
      ap (λ (v : ℕ). eqb v 0) (get_or-set_other gone j k 1 0 (eqb-false k j e)) ∙ m.is k le ∙ ap not (sym (once (contains ps k)))

  marked_more : Marked (set gone j 1) (ps ++ (j ∷ []))
  marked_more =
      record {
        room = length-set gone j 1 ∙ m.room;
        is = λ k le. place_by (eqb k j) k le refl ∙ sym (ap not (any_both (eqb k) ps (j ∷ [])));
      }

-- `mark_if`
pub marks_one : {gone gone' : List ℕ} {j : ℕ} {b : Bool} → b ≡ true → gone' ≡ set gone j 1 → MarksIf gone j b gone'
marks_one {gone} {gone'} {j} e f =
    subst (λ (c : Bool). MarksIf gone j c gone') (sym e)
    (record { is = λ {ps} m lt. subst (λ (g : List ℕ). Marked g (ps ++ (j ∷ []))) (sym f) (marked_more m lt) })

-- what `takes_up` answers
abbrev wanted : Bool → Bool → Bool → Bool
wanted same gone takes = both (not (same || gone)) (λ _. takes)

-- the ways of `mark_taken`: the member is gone itself, is no set, or takes up others
node_gone : (ns : List Node) (xs ps : List ℕ) (i : ℕ) (a : Option Attr) → contains ps i ≡ true → taken_by_node ns xs ps i a ≡ ps
node_gone ns xs ps i none e = refl
node_gone ns xs ps i (some a) e = ap (λ (b : Bool). if b (λ _. ps) (λ _. taken_by ns i a ps 0 xs)) e

pub taken_gone : {w own gone : List ℕ} {g : Members} {i y : ℕ} → y ≡ cell gone i → (y ≡ 0 → ⊥) → MarksTaken w g i own gone gone
taken_gone {gone = gone} {i = i} e f =
    record {
      is = λ {q} {ns} {xs} {ps} h t lt _ m.
          let few = t.list.few in
          let size = t.list.count in
          subst (λ (l : List ℕ). Marked gone l)
          (sym (node_gone ns xs ps i (as_attr (node_at ns (get_or xs i 0)))
          (not-false (contains ps i) (sym (m.is i (omega arith)) ∙ ne_eqb (cell gone i) 0 (λ z. f (e ∙ z))))))
          m;
    }

pub taken_none : {w own gone : List ℕ} {g : Members} {i x : ℕ} {b : Bool} → x ≡ cell g.at i → Is w 4 x b → not b ≡ true → MarksTaken w g i own gone gone
taken_none {gone = gone} {i = i} {x = x} {b = b} e k f =
    record {
      is = λ {q} {ns} {xs} {ps} h t lt _ m.
          subst (λ (l : List ℕ). Marked gone l)
          (sym (ap (taken_by_node ns xs ps i)
          (ap (λ (y : ℕ). as_attr (node_at ns y)) (sym (few_at t.list e lt))
          ∙ no_attr (node_at ns x) (eqb-false (kind_of (node_at ns x)) 4 (sym (k.is h (few_below t e lt)) ∙ not-true b f)))))
          m;
    }

-- nothing is added where the set takes up none of the others
taken_nothing : (ns : List Node) (i : ℕ) (t : Attr) (ps : List ℕ) (j : ℕ) (ys : List ℕ)
    → ((d : ℕ) → d < length ys → (i ≡ j + d → ⊥) → subsumes_node t (as_attr (node_at ns (get_or ys d 0))) ≡ false) → taken_by ns i t ps j ys ≡ ps
taken_nothing ns i t ps j [] h = refl
taken_nothing ns i t ps j (m ∷ ms) h =
    ap (λ (b : Bool). taken_by ns i t (if b (λ _. ps ++ (j ∷ [])) (λ _. ps)) (suc j) ms) (quiet (eqb i j) refl)
    ∙ taken_nothing ns i t ps (suc j) ms (λ d lt other. h (suc d) (omega arith) (λ e. other (omega arith))) where
      quiet : (b : Bool) → eqb i j ≡ b → wanted b (contains ps j) (subsumes_node t (as_attr (node_at ns m))) ≡ false
      quiet true e = refl
      quiet false e = ap (wanted false (contains ps j)) (h 0 (omega arith) (λ f. eqb-false i j e (omega arith))) ∙ if_false (not (contains ps j))

node_idle : {ns : List Node} {xs own : List ℕ} (ps : List ℕ) (i : ℕ) (a : Option Attr) → Idle ns xs own → i < length xs → (cell own i ≡ 0 → ⊥)
    → as_attr (node_at ns (get_or xs i 0)) ≡ a → taken_by_node ns xs ps i a ≡ ps
node_idle ps i none o lt f e = refl
node_idle {ns} {xs} ps i (some t) o lt f e =
    ap (λ (l : List ℕ). if (contains ps i) (λ _. ps) (λ _. l)) (taken_nothing ns i t ps 0 xs (λ d l other. o.is i lt f e d l (λ z. other (omega arith))))
    ∙ if_same (contains ps i) ps

pub taken_own : {w own gone : List ℕ} {g : Members} {i y : ℕ} → y ≡ cell own i → (y ≡ 0 → ⊥) → MarksTaken w g i own gone gone
taken_own {gone = gone} {i = i} e f =
    record {
      is = λ {q} {ns} {xs} {ps} h t lt o m.
          subst (λ (l : List ℕ). Marked gone l)
          (sym (node_idle ps i (as_attr (node_at ns (get_or xs i 0))) o (omega (arith, t.list.count)) (λ z. f (e ∙ z)) refl))
          m;
    }

-- `mark_taken` at place j: the places marked so far, and the rules are as far
pub record Midmark (ns : List Node) (i : ℕ) (t : Attr) (xs ps gone : List ℕ) (j : ℕ) : Type 0 where
  pub now : List ℕ
  pub marked : Marked gone now
  pub is : taken_by ns i t ps 0 xs ≡ taken_by ns i t now j (drop j xs)

pub record Marking (w : List ℕ) (s : Members) (i x : ℕ) (gone₀ gone : List ℕ) (j : ℕ) : Type 0 where
  pub few : j ≤ s.count
  pub is : {q : Pass} {ns : List Node} {xs ps : List ℕ} {t : Attr} → Arena w q ns → Taken s xs (length ns) → x < length ns → node_at ns x ≡ AttrSet t
      → Marked gone₀ ps → Midmark ns i t xs ps gone j

module _ {w gone₀ : List ℕ} {s : Members} {i x : ℕ} where
  pub marking_more : {gone gone' : List ℕ} {j : ℕ} {b : Bool} → Marking w s i x gone₀ gone j → j < s.count → Takes w s.at i x j gone b → MarksIf gone j b gone'
      → Marking w s i x gone₀ gone' (j + 1)
  marking_more {gone} {gone'} {j} {b} c lt a g =
      record {
        few = omega arith;
        is = λ {q} {ns} {xs} {ps} {t} h m lx node o.
            let mid = c.is h m lx node o in
            let now = mid.now in
            let few = m.list.few in
            let size = m.list.count in
            record {
              now = if b (λ _. now ++ (j ∷ [])) (λ _. now);
              marked = g.is mid.marked (omega arith);
              is =
                  mid.is
                  ∙ ap (taken_by ns i t now j) (drop-cons xs j 0 (omega arith))
                  ∙ ap₂ (λ (v : Bool) (k : ℕ). taken_by ns i t (if v (λ _. now ++ (j ∷ [])) (λ _. now)) k (drop k xs))
                  (sym (a.is h lx node (few_below m refl lt) mid.marked (omega arith)
                  ∙ ap (λ (y : ℕ). wanted (eqb i j) (contains now j) (subsumes_node t (as_attr (node_at ns y)))) (few_at m.list refl lt)))
                  (sym (add-one j));
            };
      }

  pub marking_done : {own gone : List ℕ} {j y : ℕ} {b : Bool} → y ≡ cell gone₀ i → y ≡ 0 → x ≡ cell s.at i → Is w 4 x b → not b ≡ false → Marking w s i x gone₀ gone j → s.count ≤ j
      → MarksTaken w s i own gone₀ gone
  marking_done {gone = gone} {j} {y} {b} e f g k z c le =
      record {
        is = λ {q} {ns} {xs} {ps} h m lt _ o.
            let v = node_at ns x in
            let lx = few_below m g lt in
            let few = m.list.few in
            let size = m.list.count in
            let t = attr_at (encode v) 1 in
            let node : v ≡ AttrSet t = sym (node_of v 4 (eqb-true (kind_of v) 4 (sym (k.is h lx) ∙ not-false b z))) in
            let mid = c.is h m lx node o in
            subst (λ (l : List ℕ). Marked gone l)
            (sym (ap (λ (u : ℕ). taken_by_node ns xs ps i (as_attr (node_at ns u))) (sym (few_at m.list g lt))
            ∙ ap (λ (u : Node). taken_by_node ns xs ps i (as_attr u)) node
            ∙ ap (λ (u : Bool). if u (λ _. ps) (λ _. taken_by ns i t ps 0 xs)) (not-true (contains ps i) (sym (o.is i (omega arith)) ∙ eq-eqb (cell gone₀ i) 0 (sym e ∙ f)))
            ∙ mid.is
            ∙ ap (taken_by ns i t mid.now j) (drop_of_length-le xs {i = j} (omega arith))))
            mid.marked;
      }

-- `left` at member i: what is left so far, and the rules are as far
pub record Midleft (xs ps : List ℕ) (top : ℕ) (out : List ℕ) (k i : ℕ) : Type 0 where
  pub got : List ℕ
  pub gathered : Gathered out k got
  pub below : Under top got
  pub few : length got ≤ i
  pub is : left ps 0 xs ≡ got ++ left ps i (drop i xs)

pub record Leaving (gone : List ℕ) (s : Members) (out : List ℕ) (k i : ℕ) : Type 0 where
  pub few : i ≤ s.count
  pub is : {xs ps : List ℕ} {top : ℕ} → Taken s xs top → Marked gone ps → Midleft xs ps top out k i

only_left : (b : Bool) (x : ℕ) (l : List ℕ) → if b (λ _. l) (λ _. x ∷ l) ≡ only (not b) x ++ l
only_left true x l = refl
only_left false x l = refl

only_most : (b : Bool) (x : ℕ) → length (only b x) ≤ 1
only_most true x = omega arith
only_most false x = omega arith

only_under : (b : Bool) (x k : ℕ) → x < k → Under k (only b x)
only_under true x k lt = (lt, tt)
only_under false x k lt = tt

module _ {gone : List ℕ} {s : Members} where
  pub leaving_more : {out out' : List ℕ} {k k' i x y : ℕ} {b : Bool} → Leaving gone s out k i → i < s.count → x ≡ cell s.at i → y ≡ cell gone i → b ≡ eqb y 0 → KeepsIf out k x b out' k'
      → Leaving gone s out' k' (i + 1)
  leaving_more {out} {out'} {k} {k'} {i} {x} {y} {b} c lt e f z g =
      record {
        few = omega arith;
        is = λ {xs} {ps} {top} t m.
            let mid = c.is t m in
            let few = t.list.few in
            let size = t.list.count in
            let rest = left ps (suc i) (drop (suc i) xs) in
            let v : b ≡ not (contains ps i) = z ∙ ap (λ (u : ℕ). eqb u 0) f ∙ m.is i (omega arith) in
            record {
              got = mid.got ++ only b x;
              gathered = g.is mid.gathered (omega (arith, mid.few));
              below = under_both top mid.got (only b x) mid.below (only_under b x top (few_below t e lt));
              few = omega (arith, length-append mid.got (only b x), only_most b x, mid.few);
              is =
                  mid.is
                  ∙ ap (λ (l : List ℕ). mid.got ++ l)
                  (ap (left ps i) (drop-cons xs i 0 (omega arith))
                  ∙ only_left (contains ps i) (get_or xs i 0) rest
                  ∙ ap₂ (λ (u : Bool) (w : ℕ). only u w ++ rest) (sym v) (sym (few_at t.list e lt)))
                  ∙ sym (append_assoc mid.got (only b x) rest)
                  ∙ ap (λ (j : ℕ). (mid.got ++ only b x) ++ left ps j (drop j xs)) (sym (add-one i));
            };
      }

  pub leaving_done : {out : List ℕ} {k i : ℕ} → Leaving gone s out k i → s.count ≤ i → Leaves s gone (first_of k out)
  leaving_done {out} {k} {i} c le =
      record {
        is = λ {xs} {ps} {k = top} t m.
            let mid = c.is t m in
            let e : left ps 0 xs ≡ mid.got =
            mid.is ∙ ap (λ (l : List ℕ). mid.got ++ left ps i l) (drop_of_length-le xs {i = i} (omega (arith, t.list.count))) ∙ append-nil mid.got in
            subst (λ (l : List ℕ). Taken (first_of k out) l top) (sym e)
            (record { list = gathered_few mid.gathered (omega (arith, mid.few, c.few, t.list.count, t.list.few)); below = mid.below });
      }

-- `absorb_subsumed_union_members` at place i
pub record Midway (ns : List Node) (xs gone : List ℕ) (i : ℕ) : Type 0 where
  pub now : List ℕ
  pub marked : Marked gone now
  pub is : taken_up ns xs [] 0 xs ≡ taken_up ns xs now i (drop i xs)

pub record Absorbing (w : List ℕ) (s : Members) (gone : List ℕ) (i : ℕ) : Type 0 where
  pub few : i ≤ s.count
  pub is : {q : Pass} {ns : List Node} {xs : List ℕ} → Arena w q ns → Taken s xs (length ns) → Midway ns xs gone i

module _ {w : List ℕ} {s : Members} where
  pub absorbing_start : Absorbing w s (replicate most_members 0) 0
  absorbing_start = record { few = omega arith; is = λ h t. record { now = []; marked = marked_none; is = refl } }

  pub absorbing_more : {own gone gone' : List ℕ} {i : ℕ} → MarksOwn w s.at s.count (replicate most_members 0) own → Absorbing w s gone i → i < s.count → MarksTaken w s i own gone gone'
      → Absorbing w s gone' (i + 1)
  absorbing_more {i = i} o c lt g =
      record {
        few = omega arith;
        is = λ {q} {ns} {xs} h t.
            let mid = c.is h t in
            let more = taken_by_node ns xs mid.now i (as_attr (node_at ns (get_or xs i 0))) in
            record {
              now = more;
              marked = g.is h t lt (o.is h t (idle_none t.list.few)) mid.marked;
              is =
                  mid.is
                  ∙ ap (taken_up ns xs mid.now i) (drop-cons xs i 0 (omega (arith, t.list.count)))
                  ∙ ap (λ (j : ℕ). taken_up ns xs more j (drop j xs)) (sym (add-one i));
            };
      }

  pub absorbing_done : {gone : List ℕ} {i : ℕ} {r : Members} → Absorbing w s gone i → s.count ≤ i → Leaves s gone r → Makes absorb_subsumed_union_members w s r
  unfolding absorb_subsumed_union_members
  absorbing_done {gone} {i} {r} c le g =
      record {
        is = λ {q} {ns} {xs} h t.
            let mid = c.is h t in
            subst (λ (l : List ℕ). Taken r (left l 0 xs) (length ns))
            (sym (mid.is ∙ ap (taken_up ns xs mid.now i) (drop_of_length-le xs {i = i} (omega (arith, t.list.count)))))
            (g.is t mid.marked);
      }
