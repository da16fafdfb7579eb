-- Factoring: the members of a node sifted, what is left of the unions, the shared members in order, and the parts put together. Assumes nothing.
use mathlib.Core.Path.{◌≡◌, refl, sym, ap, ap₂, ◌∙◌, subst}
use mathlib.Core.Bool.{Bool, true, false, not, ◌||◌}
use Prim.Native.Nat.{ℕ, zero, suc, ◌+◌, ◌≤◌, ◌<◌}
use native.Mathlib.Omega.{arith}
use native.Mathlib.Nat.{not-suc-le-zero}
use native.Mathlib.Numerals.{add-one}
use mathlib.Core.List.{List, [], ◌∷◌, ◌++◌, append_assoc}
use lib.ListN.{length, get_or, take, drop, set, replicate, length-set, length-append, length-replicate, drop_of_length-le}
use lib.Seq.{get_or-set_other, take_all, take-suc, drop-cons}
use lib.Dec.{eqb, ltb}
use borrow.Author.Tests.{eq-eqb, ne_eqb, le-ltb, lt-ltb}
use Rattle.cells.specs.Part.{run, cell, part, if}
use Rattle.cells.proofs.Parts.{run_length, part_set_snoc}
use Rattle.cells.proofs.Holding.{holds_at, holds_head}
use Rattle.rules.specs.Ceilings.{most_members}
use Rattle.rules.specs.Plain.{any, all, filter, contains}
use Rattle.rules.specs.Types.{Node, Union, Intersection, State, Out, ok, no, Run, bind, give, store, members, is}
use Rattle.rules.specs.Order.{is_greater, insert, sort_into, sort}
use Rattle.rules.specs.Members.{members_at, without, sole, remainders, factored, factor_unions, factor_shared_from_intersection}
use Rattle.laws.proofs.Sorting.{sort_sorted, insert_at}
use Rattle.laws.proofs.Storing.{store_many}
use Rattle.laws.proofs.Keeping.{later_length, gave, refused_not, keeps_union, keeps_intersection}
use Rattle.lang_ty.specs.declared.arena.Pass.{Pass}
use Rattle.std.specs.declared.cmp.Ordering.{Ordering}
use Rattle.std.specs.declared.cmp.Ordering.TheVariants.{Less, Equal, Greater}
use Rattle.lang_ty.specs.Nodes.{Arena, Stands, Count, Member}
use Rattle.lang_ty.specs.Orders.{order_of, Compared}
use Rattle.members.specs.declared.lists.Members.{Members}
use Rattle.members.specs.Flow.{Flow}
use Rattle.members.specs.Flow.{On, Refused}
use Rattle.members.specs.Listed.{Listed}
use Rattle.members.specs.AtMostOne.{AtMostOne}
use Rattle.members.specs.AtMostOne.{Refused as RefusedP}
use Rattle.members.specs.Grown.{Grown}
use Rattle.members.specs.Grown.{On as OnG, Refused as RefusedG}
use Rattle.members.specs.Lists.{Few, Lists, Taken, Makes, Tests, Gives, AnswersFlow, Answers, Runs, Asks, Contains, MembersOf, Gathered}
use Rattle.members.specs.Lists.{of_kind, sift, Soles, AnswersPart, AnswersGrown, Grows, Joined, AsListed, first_of, Pairs}
use Rattle.members.specs.Flattens.{Listing}
use Rattle.factor.specs.declared.Span.{Span}
use Rattle.factor.specs.Factors.{has_member, in_others, shared_by, not_among, Picks, Remains, AnswersMore, Leaves, behind, Within, Probed, Halved, Placed, PutIn, Inserts, Marked}
use Rattle.factor.specs.Factors.{SolesAny, beside, FactorsParts, after_rests, FactorsRests, FactorsUnions, FactorsOne}
use Rattle.laws.proofs.Filtering.{under_both, under_most, any_here, any_more, any_done}
use Rattle.members.proofs.Gathered.{few_lists, few_at, few_below, gathered_none, gathered_few, gathered_list, taken_list}
use Rattle.members.proofs.Gathered.{all_not, wraps_union, wraps_intersection, refuses}
use Rattle.members.proofs.Flattened.{by_length}
use Rattle.lang_ty.proofs.Words.{arena_pass}
use Rattle.members.proofs.Partway.{Loops, Partway, partway_start, partway_more, partway_no, partway_done}
use Rattle.cells.specs.Placed.{Under}

-- where there are more nodes
taken_most : {m : Members} {xs : List ℕ} {j k : ℕ} → j ≤ k → Taken m xs j → Taken m xs k
taken_most {xs = xs} {j = j} {k = k} le t = record { list = t.list; below = under_most j k xs le t.below }

-- `has_member` at member i
pub record Having (w : List ℕ) (u x n i : ℕ) : Type 0 where
  pub few : i ≤ n
  pub is : {q : Pass} {ns : List Node} → Arena w q ns → u < length ns → any (eqb x) (drop i (members_at ns u)) ≡ any (eqb x) (members_at ns u)

module _ {w : List ℕ} {u x n : ℕ} where
  pub having_start : Having w u x n 0
  having_start = record { few = omega arith; is = λ h lt. refl }

  module _ {i y : ℕ} (count : Count w u n) (c : Having w u x n i) (lt : i < n) (member : Member w u i y) where
    here : {q : Pass} {ns : List Node} → Arena w q ns → u < length ns → eqb x (get_or (members_at ns u) i 0) ≡ eqb x y
    here h le = ap (eqb x) (sym (member.is h le (omega (arith, count.is h le))))

    pub having_here : y ≡ x → Asks (has_member x) w u true
    having_here e =
        record { is = λ {q} {ns} h le. any_here (eqb x) (members_at ns u) i (c.is h le) (omega (arith, count.is h le)) (sym (here h le ∙ eq-eqb x y (sym e))) }

    pub having_more : (y ≡ x → ⊥) → Having w u x n (i + 1)
    having_more e =
        record {
          few = omega arith;
          is = λ {q} {ns} h le. any_more (eqb x) (members_at ns u) i (c.is h le) (omega (arith, count.is h le)) (sym (here h le ∙ ne_eqb x y (λ o. e (sym o))));
        }

  pub having_done : {i : ℕ} → Count w u n → Having w u x n i → n ≤ i → Asks (has_member x) w u false
  having_done {i} count c le = record { is = λ {q} {ns} h lt. any_done (eqb x) (members_at ns u) i (c.is h lt) (omega (arith, count.is h lt)) }

-- `in_all_others`: none of the others lacks it
pub others_by : (x : ℕ) {w : List ℕ} {m : Members} {b : Bool}
    → ((ns : List Node) (xs : List ℕ) (q : Pass) → Arena w q ns → Taken m xs (length ns) → b ≡ any (λ (u : ℕ). not (has_member x ns u)) (drop 1 xs))
    → Tests (in_others x) w m (not b)
others_by x g = record { is = λ {q} {ns} {xs} h m. ap not (g ns xs q h m) ∙ sym (all_not (has_member x ns) (drop 1 xs)) }

pub lacks_if : (x : ℕ) {u : ℕ} {w : List ℕ} {q : Pass} {ns : List Node} {b c : Bool} → Arena w q ns → u < length ns → Asks (has_member x) w u c → b ≡ not c
    → b ≡ not (has_member x ns u)
lacks_if x h lt a e = e ∙ ap not (a.is h lt)

-- `shared_members` and `unshared_members`
pub shared_if : (x : ℕ) {w : List ℕ} {m : Members} {q : Pass} {ns : List Node} {xs : List ℕ} {b c : Bool} → Arena w q ns → Taken m xs (length ns) → Tests (in_others x) w m c → b ≡ c
    → b ≡ shared_by ns xs x
shared_if x h m t e = e ∙ t.is h m

pub among_if : (x : ℕ) (ns : List Node) {m : Members} {xs : List ℕ} {k : ℕ} {b c : Bool} → Taken m xs k → Contains m.at m.count x c → b ≡ not c → b ≡ not_among ns xs x
among_if x ns m h e = e ∙ ap not (h.is ∙ ap (λ (l : List ℕ). contains l x) (taken_list m))

-- `sole` gives no more than one
one_most : (o : Out ℕ) {l : List ℕ} {st : State} → bind o (λ z. give (z ∷ [])) ≡ ok l st → length l ≤ 1
one_most (ok x s) e = gave (λ l st. length l ≤ 1) e (omega arith)
one_most (no k) e = refused_not e

sole_most : (wrap : List ℕ → Node) (xs : List ℕ) (st : State) {l : List ℕ} {st' : State} → sole wrap xs st ≡ ok l st' → length l ≤ 1
sole_most wrap [] st e = gave (λ l st. length l ≤ 1) e (omega arith)
sole_most wrap (x ∷ []) st e = gave (λ l st. length l ≤ 1) e (omega arith)
sole_most wrap (x ∷ y ∷ xs) st e = one_most (store (wrap (x ∷ y ∷ xs)) st) e

-- `remainder`
pub remains_is : {w ms out w' out' : List ℕ} {q : Pass} {n u k : ℕ} {rest : Members} {p : AtMostOne} {r : Grown} → Picks not_among w ms n u rest
    → Soles 5 w q rest w' p → Grows out k p out' r → Remains w q ms n u out k w' out' r
remains_is {w' = w'} {u = u} a b g =
    record {
      is = λ {st} {xs} {got} on t lt gathered le.
          let e = on.arena.count in
          g.is (sole Union (without xs (members_at st.nodes u)) st) w'
          (b.is wraps_union on (taken_most (omega arith) (a.is on.arena (taken_most (omega arith) t) (omega arith))))
          gathered le;
    }

-- `remainders` at union i
abbrev rest : List ℕ → ℕ → Run (List ℕ)
rest xs u = λ st. sole Union (without xs (members_at st.nodes u)) st

rest_loops : (xs : List ℕ) → Loops (rest xs) (remainders xs)
rest_loops xs = record { none = λ st. refl; more = λ u us st. refl; keeps = λ u st. keeps_union (without xs (members_at st.nodes u)) st }

pub record Leaving (w₀ : List ℕ) (p : Pass) (s us : Members) (w out : List ℕ) (k : ℕ) (q : Pass) (i : ℕ) : Type 0 where
  pub few : i ≤ us.count
  pub small : us.count ≤ 4294967295
  pub words : length w ≡ length w₀
  pub is : {st : State} {xs ys : List ℕ} → Stands st w₀ p → Taken s xs p.nodes → Taken us ys p.nodes → Partway (remainders xs) ys st w q out k i

module _ {w₀ : List ℕ} {p : Pass} {s us : Members} where
  pub leaving_start : us.count ≤ 4294967295 → Leaving w₀ p s us w₀ (replicate most_members 0) 0 p 0
  leaving_start le = record { few = omega arith; small = le; words = refl; is = λ on t m. partway_start on }

  module _ {w out w' out' : List ℕ} {k : ℕ} {q : Pass} {i u : ℕ} {g : Grown} (a : Leaving w₀ p s us w out k q i) (r : Remains w q s.at s.count u out k w' out' g)
      (lt : i < us.count) (e : u ≡ cell us.at i) where
    -- what the call gives for the union
    called : {st : State} {xs ys : List ℕ} {h : Grown} → g ≡ h → (on : Stands st w₀ p) (t : Taken s xs p.nodes) (m : Taken us ys p.nodes)
        → AnswersGrown (rest xs (get_or ys i 0) (a.is on t m).now) w' (a.is on t m).got out' h
    called {xs = xs} {ys = ys} z on t m =
        let l = a.is on t m in
        let x = on.arena.count in
        let y = l.stands.arena.count in
        let d = m.list.count in
        let f = m.list.few in
        let low = later_length l.later in
        subst (λ (h : Grown). AnswersGrown (rest xs (get_or ys i 0) l.now) w' l.got out' h) z
        (subst (λ (v : ℕ). AnswersGrown (rest xs v l.now) w' l.got out' g) (few_at m.list e lt)
        (r.is l.stands (taken_most (omega arith) t) (omega (arith, few_below m e lt)) l.gathered (omega (arith, l.few))))

    pub leaving_more : {k' : ℕ} {q' : Pass} → g ≡ OnG k' q' → length w' ≡ length w → Leaving w₀ p s us w' out' k' q' (i + 1)
    leaving_more z long =
        record {
          few = omega arith;
          small = a.small;
          words = long ∙ a.words;
          is = λ {st} {xs} {ys} on t m. partway_more (rest_loops xs) (a.is on t m) (omega (arith, m.list.count)) (called z on t m);
        }

    pub leaves_refused : {j : ℕ} {res : Listed} → g ≡ RefusedG j → res.flow ≡ Refused j → Leaves w₀ p s us w' res
    leaves_refused {j} {res} z f =
        record {
          is = λ {st} {xs} {us = ys} on t m.
              subst (λ (h : Flow). AnswersMore p.nodes (remainders xs ys st) w' res.members h) (sym f)
              (partway_no (rest_loops xs) (a.is on t m) (omega (arith, m.list.count)) (called z on t m));
        }

  pub leaves_done : {w out : List ℕ} {k : ℕ} {q : Pass} {i : ℕ} → Leaving w₀ p s us w out k q i → us.count ≤ i
      → Leaves w₀ p s us w (record { flow = On q; members = first_of k out })
  leaves_done a le =
      record {
        is = λ {st} {xs} {us = ys} on t m.
            let l = a.is on t m in
            let d = m.list.count in (
              record {
                after = l.now;
                list = l.got;
                is = partway_done (rest_loops xs) l (omega arith);
                stands = l.stands;
                taken = record { list = gathered_few l.gathered (omega (arith, l.few, a.few, m.list.few)); below = l.below };
              },
              omega (arith, on.arena.count, l.stands.arena.count, later_length l.later),
            );
      }

-- `is_behind`
module _ {w : List ℕ} {y x : ℕ} {o : Ordering} (c : Compared w y x o) where
  behind_by : {p : Ordering} → o ≡ p → Pairs behind w y x (is_greater (order_of p))
  behind_by e = record { is = λ {q} {ns} h ly lx. ap (λ (p : Ordering). is_greater (order_of p)) (sym e) ∙ ap is_greater (c.is h ly lx) }

  pub behind_less : o ≡ Less → Pairs behind w y x false
  behind_less e = behind_by e

  pub behind_equal : o ≡ Equal → Pairs behind w y x false
  behind_equal e = behind_by e

  pub behind_greater : o ≡ Greater → Pairs behind w y x true
  behind_greater e = behind_by e

-- `halved`: the cell that is compared is greater, or it is not
module _ {w ms : List ℕ} {span : Span} {x mid y : ℕ} {b : Bool} (probe : Probed span mid) (e : y ≡ cell ms mid) (t : Pairs behind w y x b) where
  middle : {q : Pass} {ns : List Node} {n : ℕ} {ys : List ℕ} → Arena w q ns → Taken (first_of n ms) ys (length ns) → x < length ns → span.high ≤ n
      → behind ns (get_or ys mid 0) x ≡ b
  middle {ns = ns} h m l le =
      ap (λ (k : ℕ). behind ns k x) (sym (few_at m.list e (omega (arith, probe.high)))) ∙ sym (t.is h (few_below m e (omega (arith, probe.high))) l)

  pub halved_low : b ≡ true → Halved w ms span x (record { low = span.low; high = mid })
  halved_low z =
      record {
        some = probe.low;
        high = omega (arith, probe.high);
        less = omega (arith, probe.low, probe.high);
        is = λ h m l le c. record { ahead = c.ahead; after = λ lt. middle h m l le ∙ z };
      }

  pub halved_high : b ≡ false → Halved w ms span x (record { low = mid + 1; high = span.high })
  halved_high z =
      record {
        some = omega (arith, probe.high);
        high = omega arith;
        less = omega (arith, probe.low, probe.high);
        is = λ {ns = ns} {ys = ys} h m l le c.
            record {
              ahead = λ i f. let same : i ≡ mid = omega arith in ap (λ (k : ℕ). behind ns (get_or ys k 0) x) same ∙ middle h m l le ∙ z;
              after = c.after;
            };
      }

-- `place_of` with the span that is left
pub record Seeking (w ms : List ℕ) (n x : ℕ) (span : Span) : Type 0 where
  pub some : span.low ≤ span.high
  pub few : span.high ≤ n
  pub is : {q : Pass} {ns : List Node} {ys : List ℕ} → Arena w q ns → Taken (first_of n ms) ys (length ns) → x < length ns → Within ns ys x span

module _ {w ms : List ℕ} {n x : ℕ} where
  pub seeking_start : Seeking w ms n x (record { low = 0; high = n })
  seeking_start =
      record {
        some = omega arith;
        few = omega arith;
        is = λ h m l. record { ahead = λ i e. absurd (omega arith); after = λ lt. absurd (omega (arith, m.list.count)) };
      }

  module _ {span : Span} (c : Seeking w ms n x span) where
    pub seeking_more : {r : Span} → Halved w ms span x r → Seeking w ms n x r
    seeking_more g =
        record { some = g.some; few = omega arith; is = λ h m l. g.is h m l c.few (c.is h m l) }

    pub seeking_done : span.high ≤ span.low → Placed w ms n x span.low
    seeking_done le =
        let one : span.low ≡ span.high = omega arith in
        record {
          few = omega arith;
          is = λ {q} {ns} {ys} h m s l.
              let size = m.list.count in
              let g = c.is h m l in
              insert_at ns x ys span.low (rw s.is (sort_sorted ns s.of)) (omega arith) g.ahead
              (λ lt. ap (λ (k : ℕ). behind ns (get_or ys k 0) x) one ∙ g.after (omega arith));
        }

-- `put_in` at cell j, where v is to go
run_take : (f : ℕ → ℕ) (a n i : ℕ) → i ≤ n → take i (run f a n) ≡ run f a i
run_take f a n zero le = refl
run_take f a zero (suc i) le = absurd (not-suc-le-zero le)
run_take f a (suc n) (suc i) le = ap (λ (l : List ℕ). f a ∷ l) (run_take f (suc a) n i (omega arith))

-- the cell written, after those before it
put_at : (s : List ℕ) (j v : ℕ) → j < length s → part (set s j v) 0 (suc j) ≡ part s 0 j ++ (v ∷ [])
put_at s j v lt = let z : j ≡ 0 + j = omega arith in ap (λ (m : ℕ). part (set s m v) 0 (suc j)) z ∙ part_set_snoc s 0 j v (omega arith)

pub record Putting (s₀ : List ℕ) (i n x : ℕ) (s : List ℕ) (v j : ℕ) : Type 0 where
  pub same : length s ≡ length s₀
  pub above : (k : ℕ) → j ≤ k → cell s k ≡ cell s₀ k
  pub few : i ≤ n → j ≤ n
  pub is : {ys : List ℕ} → Gathered s₀ n ys → length ys < most_members → i ≤ n → part s 0 j ++ (v ∷ drop j ys) ≡ take i ys ++ (x ∷ drop i ys)

module _ {s₀ : List ℕ} {i n x : ℕ} where
  pub putting_start : Putting s₀ i n x s₀ x i
  putting_start =
      record {
        same = refl;
        above = λ k le. refl;
        few = λ le. le;
        is = λ {ys} g short le.
            ap (λ (l : List ℕ). l ++ (x ∷ drop i ys))
            (sym (run_take (cell s₀) 0 n i le) ∙ ap (take i) (ap (part s₀ 0) g.count ∙ g.holds.is));
      }

  module _ {s s' : List ℕ} {v j : ℕ} (c : Putting s₀ i n x s v j) (e : s' ≡ set s j v) where
    pub putting_more : {y : ℕ} → j < n → y ≡ cell s j → Putting s₀ i n x s' y (j + 1)
    putting_more {y} lt f =
        record {
          same = ap length e ∙ length-set s j v ∙ c.same;
          above = λ k le. ap (λ (l : List ℕ). cell l k) e ∙ get_or-set_other s j k v 0 (omega arith) ∙ c.above k (omega arith);
          few = λ le. omega arith;
          is = λ {ys} g short le.
              let size = g.count in
              let at : 0 + j ≡ j = omega arith in
              let next : y ≡ get_or ys j 0 = f ∙ c.above j (omega arith) ∙ ap (cell s₀) (sym at) ∙ holds_at g.holds j (omega arith) in
              ap (λ (l : List ℕ). part l 0 (j + 1) ++ (y ∷ drop (j + 1) ys)) e
              ∙ ap (λ (m : ℕ). part (set s j v) 0 m ++ (y ∷ drop m ys)) (add-one j)
              ∙ ap₂ {C = List ℕ} (λ (a b : List ℕ). a ++ b) (put_at s j v (omega (arith, c.same, g.room)))
              (ap (λ (z : ℕ). z ∷ drop (suc j) ys) next ∙ sym (drop-cons ys j 0 (omega arith)))
              ∙ append_assoc (part s 0 j) (v ∷ []) (drop j ys)
              ∙ c.is g short le;
        }

    pub putting_done : n ≤ j → PutIn s₀ i n x s'
    putting_done ge =
        record {
          is = λ {ys} g lt le.
              let size = g.count in
              let top = c.few le in
              let l = take i ys ++ (x ∷ drop i ys) in
              let z : part s' 0 (suc j) ≡ l =
              ap (λ (m : List ℕ). part m 0 (suc j)) e
              ∙ put_at s j v (omega (arith, c.same, g.room))
              ∙ ap (λ (d : List ℕ). part s 0 j ++ (v ∷ d)) (sym (drop_of_length-le ys {i = j} (omega arith)))
              ∙ c.is g lt le in
              let long : length l ≡ suc j = sym (ap length z) ∙ run_length (cell s') 0 (suc j) in
              record {
                count = omega arith;
                holds = record { is = ap (part s' 0) long ∙ z };
                room = ap length e ∙ length-set s j v ∙ c.same ∙ g.room;
              };
        }

-- `insert`
pub inserts_is : {w ms ms' : List ℕ} {n x i : ℕ} → Placed w ms n x i → PutIn ms i n x ms' → Inserts w ms n x ms'
inserts_is p c =
    record {
      is = λ h g u s lt le.
          gathered_list (sym (p.is h (record { list = gathered_few g (omega arith); below = u }) s le)) (c.is g lt p.few);
    }

-- `sort` at member i
insert_turn : (b : Bool) (ns : List Node) (k x y : ℕ) (ys : List ℕ) → x < k → Under k (y ∷ ys) → Under k (insert ns x ys)
    → Under k (if b (λ _. x ∷ y ∷ ys) (λ _. y ∷ insert ns x ys))
insert_turn true ns k x y ys lt u h = (lt, u)
insert_turn false ns k x y ys lt u h = (u.0, h)

insert_under : (ns : List Node) (k x : ℕ) (ys : List ℕ) → x < k → Under k ys → Under k (insert ns x ys)
insert_under ns k x [] lt u = (lt, tt)
insert_under ns k x (y ∷ ys) lt u = insert_turn (behind ns y x) ns k x y ys lt u (insert_under ns k x ys lt u.1)

into_snoc : (ns : List Node) (got xs : List ℕ) (y : ℕ) → sort_into ns got (xs ++ (y ∷ [])) ≡ insert ns y (sort_into ns got xs)
into_snoc ns got [] y = refl
into_snoc ns got (x ∷ xs) y = into_snoc ns (insert ns x got) xs y

pub record Inserting (w ms : List ℕ) (n : ℕ) (out : List ℕ) (i : ℕ) : Type 0 where
  pub few : i ≤ n
  pub is : {q : Pass} {ns : List Node} {xs : List ℕ} → Arena w q ns → Taken (first_of n ms) xs (length ns) → Gathered out i (sort_into ns [] (take i xs))
  pub below : {q : Pass} {ns : List Node} {xs : List ℕ} → Arena w q ns → Taken (first_of n ms) xs (length ns) → Under (length ns) (sort_into ns [] (take i xs))

module _ {w ms : List ℕ} {n : ℕ} where
  pub inserting_start : Inserting w ms n (replicate most_members 0) 0
  inserting_start = record { few = omega arith; is = λ h m. gathered_none (length-replicate {A = ℕ} most_members 0); below = λ h m. tt }

  pub inserting_more : {out out' : List ℕ} {i x : ℕ} → Inserting w ms n out i → i < n → x ≡ cell ms i → Inserts w out i x out' → Inserting w ms n out' (i + 1)
  unfolding sort
  inserting_more {out} {out'} {i} {x} c lt e g =
      record {
        few = omega arith;
        is = λ {q} {ns} {xs} h m.
            let got = c.is h m in
            let size = m.list.count in
            let most = m.list.few in
            let z = got.count in
            gathered_list (next ns m)
            (subst (λ (k : ℕ). Gathered out' k (insert ns x (sort_into ns [] (take i xs)))) (sym (add-one i))
            (g.is h got (c.below h m) (record { of = take i xs; is = refl }) (omega arith) (few_below m e lt)));
        below = λ {q} {ns} {xs} h m.
            subst (Under (length ns)) (next ns m) (insert_under ns (length ns) x (sort_into ns [] (take i xs)) (few_below m e lt) (c.below h m));
      } where
        next : (ns : List Node) {xs : List ℕ} → Taken (first_of n ms) xs (length ns) → insert ns x (sort_into ns [] (take i xs)) ≡ sort_into ns [] (take (i + 1) xs)
        next ns {xs} m =
            let size = m.list.count in
            ap (λ (v : ℕ). insert ns v (sort_into ns [] (take i xs))) (few_at m.list e lt)
            ∙ sym (ap (λ (j : ℕ). sort_into ns [] (take j xs)) (add-one i) ∙ ap (sort_into ns []) (take-suc xs i 0 (omega arith)) ∙ into_snoc ns [] (take i xs) (get_or xs i 0))

  pub inserting_done : {out : List ℕ} {i : ℕ} → Inserting w ms n out i → n ≤ i → Makes sort w (first_of n ms) (first_of n out)
  unfolding sort
  inserting_done {out} {i} c le =
      record {
        is = λ {q} {ns} {xs} h m.
            let f = c.few in
            let size = m.list.count in
            let e : i ≡ n = omega arith in
            let all = take_all i xs (omega arith) in
            let g = gathered_list (ap (sort_into ns []) all) (subst (λ (k : ℕ). Gathered out k (sort_into ns [] (take i xs))) e (c.is h m)) in
            record {
              list = gathered_few g (omega (arith, g.count, m.list.few));
              below = subst (λ (l : List ℕ). Under (length ns) (sort_into ns [] l)) all (c.below h m);
            };
      }

-- `mark_sorted`, and the state so marked
or_false : (b : Bool) → b ≡ b || false
or_false true = refl
or_false false = refl

or_true : (b : Bool) → true ≡ b || true
or_true true = refl
or_true false = refl

pub marked_few : {q : Pass} {n : ℕ} → n < 2 → Marked q n q
marked_few {q} {n} lt =
    record {
      nodes = refl;
      cells = refl;
      ops = refl;
      sorted = or_false q.sorted ∙ ap (λ (b : Bool). q.sorted || b) (sym (le-ltb 1 n (omega arith)));
      bailed = refl;
    }

pub marked_more : {q : Pass} {n : ℕ} → 2 ≤ n → Marked q n (record { nodes = q.nodes; cells = q.cells; ops = q.ops; sorted = true; bailed = q.bailed })
marked_more {q} {n} le =
    record {
      nodes = refl;
      cells = refl;
      ops = refl;
      sorted = or_true q.sorted ∙ ap (λ (b : Bool). q.sorted || b) (sym (lt-ltb 1 n (omega arith)));
      bailed = refl;
    }

abbrev marked_by : List ℕ → State → State
marked_by xs s =
    record { nodes = s.nodes; cells = s.cells; keys = s.keys; bits = s.bits; ops = s.ops; sorted = s.sorted || ltb 1 (length xs); bailed = s.bailed }

marked_stands : {st : State} {w : List ℕ} {q p : Pass} {n : ℕ} (xs : List ℕ) → Stands st w q → Marked q n p → n ≡ length xs → Stands (marked_by xs st) w p
marked_stands {q = q} xs on m e =
    record {
      arena = arena_pass (sym m.nodes) (sym m.cells) on.arena;
      cells = on.cells ∙ sym m.cells;
      ops = on.ops ∙ sym m.ops;
      sorted = ap (λ (b : Bool). b || ltb 1 (length xs)) on.sorted ∙ ap (λ (k : ℕ). q.sorted || ltb 1 k) (sym e) ∙ sym m.sorted;
      bailed = on.bailed ∙ sym m.bailed;
    }

-- `sole_of_any`
sole_many : (wrap : List ℕ → Node) (xs : List ℕ) (st : State) → most_members < length xs → length (members (wrap xs)) ≡ length xs → sole wrap xs st ≡ no 7
sole_many wrap [] st lt e = absurd (omega arith)
sole_many wrap (x ∷ []) st lt e = absurd (omega arith)
sole_many wrap (x ∷ y ∷ xs) st lt e = ap (λ (o : Out ℕ). bind o (λ z. give (z ∷ []))) (store_many (wrap (x ∷ y ∷ xs)) st (omega arith))

lists_few : {m : Members} (xs : List ℕ) → Lists m xs → m.count ≤ most_members → Few m xs
lists_few xs l le = by_length xs l.fit (λ h. let z = l.many h in absurd (omega arith))

module _ {kind : ℕ} {w : List ℕ} {q : Pass} {m : Members} where
  pub any_many : most_members < m.count → SolesAny kind w q m w (RefusedP 7)
  any_many h =
      record {
        is = λ {st} {xs} {wrap} wraps on l.
            by_length xs (λ le. let f = l.list.fit le in let e = f.count in absurd (omega arith))
            (λ lt. sole_many wrap xs st lt (ap length (wraps.is xs l.below).members));
      }

  pub any_few : {w' : List ℕ} {r : AtMostOne} → m.count ≤ most_members → Soles kind w q m w' r → SolesAny kind w q m w' r
  any_few le o = record { is = λ {st} {xs} wraps on l. o.is wraps on (record { list = lists_few xs l.list le; below = l.below }) }

-- `factored`
module _ {w w₁ : List ℕ} {q : Pass} {parts : Members} {first : AtMostOne} {inner : Listed} (one : SolesAny 6 w q parts w₁ first) (list : AsListed first inner) where
  inner_is : {f : Flow} {st : State} {ys : List ℕ} → inner.flow ≡ f → Stands st w q → Listing parts ys q.nodes
      → AnswersFlow (sole Intersection ys st) w₁ inner.members f
  inner_is {f} {st} {ys} e on l =
      subst (λ (f : Flow). AnswersFlow (sole Intersection ys st) w₁ inner.members f) e
      (list.is (sole Intersection ys st) w₁ (one.is wraps_intersection on l))

  pub parts_on : {w' : List ℕ} {r : Pass} {shared all : Members} {whole : AtMostOne} {res : Listed} → inner.flow ≡ On r → Joined shared inner.members all
      → SolesAny 5 w₁ r all w' whole → AsListed whole res → FactorsParts w q shared parts w' res
  parts_on {w'} {r} {res = res} e j two last =
      record {
        is = λ {st} {xs} {ys} on t l.
            let a : Gives (sole Intersection ys st) w₁ inner.members r = inner_is e on l in
            let m = later_length (keeps_intersection ys st a.list a.after a.is) in
            let d = a.stands.arena.count in
            subst (λ (o : Out (List ℕ)). Answers (bind o (λ z. sole Union (xs ++ z))) w' res) (sym a.is)
            (last.is (sole Union (xs ++ a.list) a.after) w'
            (two.is wraps_union a.stands
            (record {
              list = j.is (few_lists t.list) (few_lists a.taken.list);
              below =
                  under_both r.nodes xs a.list (under_most q.nodes r.nodes xs (omega (arith, on.arena.count)) t.below)
                  (under_most (length a.after.nodes) r.nodes a.list (omega arith) a.taken.below);
            })));
      }

pub parts_refused : {w w₁ : List ℕ} {q : Pass} {parts shared : Members} {k : ℕ} {res : Listed} → SolesAny 6 w q parts w₁ (RefusedP k) → res.flow ≡ Refused k
    → FactorsParts w q shared parts w₁ res
parts_refused {w₁ = w₁} {res = res} one f =
    record {
      is = λ {st} {xs} {ys} on t l.
          refuses res (beside xs ys st) w₁ f (ap (λ (o : Out (List ℕ)). bind o (λ z. sole Union (xs ++ z))) (one.is wraps_intersection on l));
    }

-- a refusal of `sole` as one of a list
pub listed_refused : {k : ℕ} {m : Members} → AsListed (RefusedP k) (record { flow = Refused k; members = m })
listed_refused = record { is = λ o w a. a }

-- `factor_rests`
module _ {w : List ℕ} {rests : Listed} {shared others : Members} where
  pub rests_on : {w' : List ℕ} {q p : Pass} {inorder parts : Members} {res : Listed} → rests.flow ≡ On q → Makes sort w shared inorder → Joined rests.members others parts
      → Marked q inorder.count p → FactorsParts w p inorder parts w' res → FactorsRests w rests shared others w' res
  rests_on {w'} {q} {p} {inorder} {parts} {res} e sorted j mark fac =
      record {
        is = λ k o {xs} {ys} a ts ty.
            let b : Gives o w rests.members q × (k ≤ q.nodes) = subst (λ (f : Flow). AnswersMore k o w rests.members f) e a in
            let g = b.0 in
            let le = b.1 in
            let ns = g.after.nodes in
            let size = g.stands.arena.count in
            let same = mark.nodes in
            let order = sorted.is g.stands.arena (taken_most (omega arith) ts) in
            subst (λ (o : Out (List ℕ)). Answers (bind o (after_rests xs ys)) w' res) (sym g.is)
            (fac.is (marked_stands (sort ns xs) g.stands mark order.list.count) (taken_most (omega arith) order)
            (record {
              list = j.is (few_lists g.taken.list) (few_lists ty.list);
              below =
                  under_both p.nodes g.list ys (under_most (length ns) p.nodes g.list (omega arith) g.taken.below)
                  (under_most k p.nodes ys (omega arith) ty.below);
            }));
      }

pub rests_refused : {w : List ℕ} {rests : Listed} {shared others : Members} {j : ℕ} {res : Listed} → rests.flow ≡ Refused j → res.flow ≡ Refused j
    → FactorsRests w rests shared others w res
rests_refused {w} {rests} {res = res} e f =
    record {
      is = λ k o {xs} {ys} a ts ty.
          refuses res (bind o (after_rests xs ys)) w f
          (ap (λ (o : Out (List ℕ)). bind o (after_rests xs ys)) (subst (λ (f : Flow). AnswersMore k o w rests.members f) e a));
    }

-- `factor_unions`: the members of u that all of us have
abbrev shared_of : List Node → ℕ → List ℕ → List ℕ
shared_of ns u us = filter (λ (m : ℕ). all (λ (z : ℕ). contains (members_at ns z) m) us) (members_at ns u)

module _ {w : List ℕ} {q : Pass} {unions shared : Members} (picks : Picks shared_by w unions.at unions.count (cell unions.at 0) shared) where
  shared_is : {st : State} {u v : ℕ} {us : List ℕ} → Stands st w q → Taken unions (u ∷ v ∷ us) q.nodes
      → Taken shared (shared_of st.nodes u (v ∷ us)) q.nodes
  shared_is {st} {u} {v} {us} on t =
      let e = on.arena.count in
      let z = holds_head t.list.holds in
      let b = t.below.0 in
      taken_most (omega arith)
      (subst (λ (x : ℕ). Taken shared (filter (shared_by st.nodes (u ∷ v ∷ us)) (members_at st.nodes x)) (length st.nodes)) z
      (picks.is on.arena (taken_most (omega arith) t) (omega arith)))

  none_turn : {st : State} {others all : Members} (ys zs l : List ℕ) → Stands st w q → Taken others ys q.nodes → Taken unions zs q.nodes → length ys + length zs ≤ most_members
      → Joined others unions all → shared.count ≡ 0 → Taken shared l q.nodes → Answers (factored ys zs l st) w (record { flow = On q; members = all })
  none_turn {st} ys zs [] on ty tz le j e t =
      let d = on.arena.count in
      record {
        after = st;
        list = ys ++ zs;
        is = refl;
        stands = on;
        taken = record {
          list = (j.is (few_lists ty.list) (few_lists tz.list)).fit (omega (arith, length-append ys zs));
          below =
              under_both (length st.nodes) ys zs (under_most q.nodes (length st.nodes) ys (omega arith) ty.below)
              (under_most q.nodes (length st.nodes) zs (omega arith) tz.below);
        };
      }
  none_turn ys zs (x ∷ l) on ty tz le j e t = absurd (omega (arith, t.list.count))

  pub unions_none : {others all : Members} → shared.count ≡ 0 → Joined others unions all → FactorsUnions w q others unions w (record { flow = On q; members = all })
  unions_none e j =
      record {
        is = λ {st} {ys} {u} {v} {us} on ty tz le.
            none_turn ys (u ∷ v ∷ us) (shared_of st.nodes u (v ∷ us)) on ty tz le j e (shared_is on tz);
      }

  module _ {w₁ w' : List ℕ} {others : Members} {rests res : Listed} (some : shared.count ≡ 0 → ⊥) (left : Leaves w q shared unions w₁ rests) (fac : FactorsRests w₁ rests shared others w' res) where
    some_turn : {st : State} (ys zs l : List ℕ) → Stands st w q → Taken others ys q.nodes → Taken unions zs q.nodes → Taken shared l q.nodes
        → Answers (factored ys zs l st) w' res
    some_turn ys zs [] on ty tz t = absurd (some t.list.count)
    some_turn {st} ys zs (x ∷ l) on ty tz t = fac.is q.nodes (remainders (x ∷ l) zs st) (left.is on t tz) t ty

    pub unions_some : FactorsUnions w q others unions w' res
    unions_some =
        record {
          is = λ {st} {ys} {u} {v} {us} on ty tz le.
              some_turn ys (u ∷ v ∷ us) (shared_of st.nodes u (v ∷ us)) on ty tz (shared_is on tz);
        }

-- `factor_one`
module _ {w w' : List ℕ} {q : Pass} {u : ℕ} {whole : Members} {p : AtMostOne} (all : MembersOf w u whole) (one : Soles 5 w q whole w' p) where
  last_by : {st : State} → Stands st w q → u < q.nodes → AnswersPart (sole Union (members_at st.nodes u) st) w' p
  last_by {st} on lt = one.is wraps_union on (taken_most (omega (arith, on.arena.count)) (all.is on.arena (omega (arith, on.arena.count))))

  module _ {last : Listed} (list : AsListed p last) where
    last_is : {f : Flow} {st : State} → last.flow ≡ f → Stands st w q → u < q.nodes → AnswersFlow (sole Union (members_at st.nodes u) st) w' last.members f
    last_is {f} {st} e on lt =
        let o = sole Union (members_at st.nodes u) st in
        subst (λ (f : Flow). AnswersFlow o w' last.members f) e (list.is o w' (last_by on lt))

    pub one_on : {r : Pass} {others all : Members} → last.flow ≡ On r → Joined others last.members all → FactorsOne w q others u w' (record { flow = On r; members = all })
    one_on {r} e j =
        record {
          is = λ {st} {ys} on t few lt.
              let a : Gives (sole Union (members_at st.nodes u) st) w' last.members r = last_is e on lt in
              let m = later_length (keeps_union (members_at st.nodes u) st a.list a.after a.is) in
              let d = on.arena.count in
              record {
                after = a.after;
                list = ys ++ a.list;
                is = ap (λ (o : Out (List ℕ)). bind o (λ z. give (ys ++ z))) a.is;
                stands = a.stands;
                taken = record {
                  list = (j.is (few_lists t.list) (few_lists a.taken.list)).fit (omega (arith, length-append ys a.list, sole_most Union (members_at st.nodes u) st a.is));
                  below = under_both (length a.after.nodes) ys a.list (under_most q.nodes (length a.after.nodes) ys (omega arith) t.below) a.taken.below;
                };
              };
        }

  pub one_refused : {k : ℕ} {others : Members} {res : Listed} → p ≡ RefusedP k → res.flow ≡ Refused k → FactorsOne w q others u w' res
  one_refused {res = res} e f =
      record {
        is = λ {st} {ys} on t few lt.
            refuses res (factor_unions ys (u ∷ []) st) w' f
            (ap (λ (o : Out (List ℕ)). bind o (λ z. give (ys ++ z))) (subst (λ (v : AtMostOne). AnswersPart (sole Union (members_at st.nodes u) st) w' v) e (last_by on lt)));
      }

-- `factor_shared_from_intersection`: the unions and the others are the members
split_turn : (p : ℕ → Bool) (b : Bool) (x : ℕ) (xs : List ℕ) → length (filter p xs) + length (filter (λ (y : ℕ). not (p y)) xs) ≡ length xs
    → length (if b (λ _. x ∷ filter p xs) (λ _. filter p xs)) + length (if (not b) (λ _. x ∷ filter (λ (y : ℕ). not (p y)) xs) (λ _. filter (λ (y : ℕ). not (p y)) xs)) ≡ suc (length xs)
split_turn p true x xs h = omega arith
split_turn p false x xs h = omega arith

split_length : (p : ℕ → Bool) (xs : List ℕ) → length (filter p xs) + length (filter (λ (y : ℕ). not (p y)) xs) ≡ length xs
split_length p [] = refl
split_length p (x ∷ xs) = split_turn p (p x) x xs (split_length p xs)

module _ {w : List ℕ} {q : Pass} {m unions others : Members} (a : Makes (sift (of_kind 5 true)) w m unions) (b : Makes (sift (of_kind 5 false)) w m others) where
  module _ {w' : List ℕ} {r : Listed}
      (go : (st : State) (ys zs : List ℕ) → Stands st w q → Taken others ys q.nodes → Taken unions zs q.nodes → length ys + length zs ≤ most_members → Answers (factor_unions ys zs st) w' r) where
    runs_by : Runs factor_shared_from_intersection w q m w' r
    unfolding factor_shared_from_intersection
    runs_by =
        record {
          is = λ {st} {xs} on t.
              let e = on.arena.count in
              let few = t.list.few in
              let all = taken_most {k = length st.nodes} (omega arith) t in
              let us = filter (is st.nodes 5) xs in
              let os = filter (λ (x : ℕ). not (is st.nodes 5 x)) xs in
              go st os us on (taken_most (omega arith) (b.is on.arena all)) (taken_most (omega arith) (a.is on.arena all)) (omega (arith, split_length (is st.nodes 5) xs));
        }

  none_way : {st : State} (ys zs : List ℕ) → unions.count ≡ 0 → Stands st w q → Taken others ys q.nodes → Taken unions zs q.nodes
      → Answers (factor_unions ys zs st) w (record { flow = On q; members = others })
  none_way {st} ys [] e on ty tz =
      record { after = st; list = ys; is = refl; stands = on; taken = taken_most (omega (arith, on.arena.count)) ty }
  none_way ys (z ∷ zs) e on ty tz = absurd (omega (arith, tz.list.count))

  pub runs_none : unions.count ≡ 0 → Runs factor_shared_from_intersection w q m w (record { flow = On q; members = others })
  runs_none e = runs_by (λ st ys zs on ty tz le. none_way ys zs e on ty tz)

  module _ {w' : List ℕ} {r : Listed} where
    one_way : {st : State} {x : ℕ} (ys zs : List ℕ) → unions.count ≡ 1 → x ≡ cell unions.at 0 → FactorsOne w q others x w' r → Stands st w q → Taken others ys q.nodes
        → Taken unions zs q.nodes → length ys + length zs ≤ most_members → Answers (factor_unions ys zs st) w' r
    one_way ys [] e f g on ty tz le = absurd (omega (arith, tz.list.count))
    one_way {st} {x} ys (z ∷ []) e f g on ty tz le =
        let h : x ≡ z = f ∙ holds_head tz.list.holds in
        let low = tz.below.0 in
        subst (λ (v : ℕ). Answers (factor_unions ys (v ∷ []) st) w' r) h (g.is on ty (omega arith) (omega arith))
    one_way ys (z ∷ v ∷ zs) e f g on ty tz le = absurd (omega (arith, tz.list.count))

    pub runs_one : {x : ℕ} → unions.count ≡ 1 → x ≡ cell unions.at 0 → FactorsOne w q others x w' r → Runs factor_shared_from_intersection w q m w' r
    runs_one e f g = runs_by (λ st ys zs on ty tz le. one_way ys zs e f g on ty tz le)

    more_way : {st : State} (ys zs : List ℕ) → (unions.count ≡ 0 → ⊥) → (unions.count ≡ 1 → ⊥) → FactorsUnions w q others unions w' r → Stands st w q → Taken others ys q.nodes
        → Taken unions zs q.nodes → length ys + length zs ≤ most_members → Answers (factor_unions ys zs st) w' r
    more_way ys [] e f g on ty tz le = absurd (e tz.list.count)
    more_way ys (z ∷ []) e f g on ty tz le = absurd (f tz.list.count)
    more_way ys (z ∷ v ∷ zs) e f g on ty tz le = g.is on ty tz le

    pub runs_more : (unions.count ≡ 0 → ⊥) → (unions.count ≡ 1 → ⊥) → FactorsUnions w q others unions w' r → Runs factor_shared_from_intersection w q m w' r
    runs_more e f g = runs_by (λ st ys zs on ty tz le. more_way ys zs e f g on ty tz le)
