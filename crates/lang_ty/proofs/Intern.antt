-- A row after the others found, refused, or kept as the next node. Assumes nothing.
use Rattle.std.specs.Prelude.{Option, Some, None}
use mathlib.Core.Path.{◌≡◌, sym, ap, ap₂, ◌∙◌, subst}
use Prim.Native.Nat.{ℕ, suc, ◌+◌, ◌≤◌, ◌<◌}
use native.Mathlib.Omega.{arith}
use mathlib.Core.List.{List, [], ◌∷◌, ◌++◌, map}
use lib.ListN.{length, set, length-append, length-map}
use Rattle.cells.specs.Part.{cell, part, eq_list}
use Rattle.cells.specs.Sum.{Sum}
use Rattle.cells.proofs.Parts.{run_ext}
use Rattle.cells.proofs.Holding.{holds_place}
use Rattle.layout.specs.Layout.{arena_words}
use Rattle.rules.specs.Ceilings.{most_members, most_nodes, most_cells}
use Rattle.cells.proofs.Sums.{sum_low, sum_most}
use Rattle.rules.specs.Types.{State, Out, ok, Node, encode, node_at, members, children, as_attr, grown, keep}
use Rattle.laws.proofs.Rows.{row_length_lem}
use Rattle.laws.proofs.Storing.{by_place, node_before, node_last, rooted_more, distinct_more, hit, miss, keep_full, keep_over, keep_new, store_few}
use Rattle.laws.proofs.Indexing.{seek_finds}
use Rattle.laws.specs.Sound.{Distinct, OrderlySet}
use Rattle.lang_ty.specs.declared.arena.Pass.{Pass}
use Rattle.lang_ty.specs.Given.{Given}
use Rattle.lang_ty.specs.Given.{Node as NodeG, Refused}
use Rattle.lang_ty.specs.Buckets.{hash, bucket, Hashed, Linked}
use Rattle.lang_ty.proofs.Buckets.{bucket_low, Joined, joined, index_more}
use Rattle.lang_ty.proofs.Words.{low, high}
use Rattle.lang_ty.specs.Nodes.{Arena, Stands, Answers, Fits, Sought, Kept, Interned, found_of}
use Rattle.cells.specs.Placed.{Holds, Under}
use mathlib.Core.Option.{some, none}
use Rattle.rules.specs.Plain.{find}

-- the pass with one more node
abbrev after : Pass → ℕ → Pass
after q sum = record { nodes = q.nodes + 1; cells = sum; ops = q.ops; sorted = q.sorted; bailed = q.bailed }

-- the slice holds n too, once it is joined
module _ {w w' : List ℕ} {q : Pass} {ns : List Node} {n : Node} {g end count : ℕ} (h : Arena w q ns) (fits : Fits n q.nodes count)
    (row : Holds w (cell w q.nodes) (encode n)) (is : g ≡ hash (encode n)) (to : end ≡ cell w q.nodes + length (encode n))
    (apart : Distinct (ns ++ (n ∷ []))) (j : Joined w g q.nodes end w') where
  before : q.nodes < most_nodes → (i : ℕ) → i ≤ length ns → cell w' i ≡ cell w i
  before room i le = let c = h.count in j.other i (λ z. omega arith) (λ z. omega arith) (λ z. omega arith) (λ z. omega arith)

  -- a row stands where it stood: rows lie after the index
  stays : {a : ℕ} (m : Node) → q.nodes < most_nodes → arena_words ≤ a → Holds w a (encode m) → Holds w' a (encode m)
  stays {a} m room behind r =
      let low = bucket_low (encode n) is in
      record {
        is =
            run_ext (cell w') (cell w) a (length (encode m))
            (λ k le lt. j.other k (λ z. omega arith) (λ z. omega arith) (λ z. omega arith) (λ z. omega arith)) ∙ r.is;
      }

  arena_more : {sum : ℕ} → q.nodes < most_nodes → sum ≡ q.cells + count → sum ≤ most_cells → Arena w' (after q sum) (ns ++ (n ∷ []))
  arena_more room is_sum few =
      let c = h.count in
      let f : cell w' (length ns) ≡ cell w q.nodes = before room (length ns) (omega arith) ∙ ap (cell w) c in
      let e : cell w' (suc (length ns)) ≡ end = (let z : suc (length ns) ≡ q.nodes + 1 = omega arith in ap (cell w') z) ∙ j.ends in
      record {
        count = omega (arith, length-append ns (n ∷ []));
        few = omega arith;
        cells = few;
        first = omega (arith, h.first, before room 0 (omega arith));
        rows = by_place ns n (λ (i : ℕ). Holds w' (cell w' i) (encode (node_at (ns ++ (n ∷ [])) i)))
            (λ i lt. subst (λ (a : ℕ). Holds w' a (encode (node_at (ns ++ (n ∷ [])) i))) (sym (before room i (omega arith)))
            (subst (λ (m : Node). Holds w' (cell w i) (encode m)) (sym (node_before ns n i lt))
            (stays (node_at ns i) room (low h i (omega arith)) (h.rows i lt))))
            (subst (λ (a : ℕ). Holds w' a (encode (node_at (ns ++ (n ∷ [])) (length ns)))) (sym f)
            (subst (λ (m : Node). Holds w' (cell w q.nodes) (encode m)) (sym (node_last ns n)) (stays n room (high h) row)));
        ends = by_place ns n (λ (i : ℕ). cell w' (suc i) ≡ cell w' i + length (encode (node_at (ns ++ (n ∷ [])) i)))
            (λ i lt. let b = before room i (omega arith) in let d = before room (suc i) (omega arith) in
            omega (arith, h.ends i lt, ap (λ (m : Node). length (encode m)) (node_before ns n i lt)))
            (omega (arith, ap (λ (m : Node). length (encode m)) (node_last ns n)));
        top = omega (arith, j.ends, h.top, row_length_lem n, fits.cells);
        below = (rooted_more ns n (record { is = h.below }) (subst (λ (m : ℕ). Under m (children n)) (sym c) fits.below)).is;
        slim = by_place ns n (λ (i : ℕ). length (members (node_at (ns ++ (n ∷ [])) i)) ≤ most_members)
            (λ i lt. omega (arith, h.slim i lt, ap (λ (m : Node). length (members m)) (node_before ns n i lt)))
            (omega (arith, fits.few, ap (λ (m : Node). length (members m)) (node_last ns n)));
        distinct = apart;
        ordered = record {
          is = by_place ns n (λ (i : ℕ). OrderlySet (as_attr (node_at (ns ++ (n ∷ [])) i)))
              (λ i lt. subst (λ (m : Node). OrderlySet (as_attr m)) (sym (node_before ns n i lt)) (h.ordered.is i lt))
              (subst (λ (m : Node). OrderlySet (as_attr m)) (sym (node_last ns n)) fits.ordered);
        };
        index = index_more n h.index j is (sym c) room;
        room = omega (arith, j.same_length, h.room);
      }

module _ {w : List ℕ} {q : Pass} {g end count : ℕ} where
  pub kept_full : most_nodes ≤ q.nodes → Kept w q g end count w (Refused 8)
  kept_full h = record { is = λ {st} {n} on fits row is to apart. record { is = keep_full n st (omega (arith, on.arena.count)) } }

  pub kept_over : {sum : ℕ} → q.nodes < most_nodes → Sum q.cells count sum → most_cells < sum → Kept w q g end count w (Refused 9)
  kept_over h sum over =
      record {
        is = λ {st} {n} on fits row is to apart.
            record { is = keep_over n st (omega (arith, on.arena.count)) (omega (arith, sum_most sum, on.cells, fits.cells)) };
      }

  pub kept_new : {w₁ w₂ : List ℕ} {k sum : ℕ} → q.nodes < most_nodes → Sum q.cells count sum → sum ≤ most_cells → k ≡ q.nodes + 1 → w₁ ≡ set w k end
      → Linked w₁ g q.nodes w₂ → Kept w q g end count w₂ (NodeG q.nodes (after q sum))
  kept_new {w₁} {w₂} {k} {sum} h add le place e link =
      record {
        is = λ {st} {n} on fits row is to apart.
            let a = on.arena in
            let s : sum ≡ q.cells + count = sum_low add (omega arith) in
            record {
              is = record {
                after = grown n st;
                is = keep_new n st (omega (arith, a.count)) (omega (arith, on.cells, fits.cells)) ∙ ap (λ (x : ℕ). ok x (grown n st)) a.count;
                stands = record {
                  arena = arena_more a fits row is to apart (joined w end place e link h (bucket_low (encode n) is) a.room) h s le;
                  cells = omega (arith, on.cells, fits.cells);
                  ops = on.ops;
                  sorted = on.sorted;
                  bailed = on.bailed;
                };
                below = omega (arith, a.count, length-append st.nodes (n ∷ []));
              };
            };
      }

-- `intern`: the search found the row, or did not
module _ {w : List ℕ} {q : Pass} {top len g count : ℕ} {f : Option ℕ} (at_top : top ≡ cell w q.nodes) (of : Hashed w top len g) (sought : Sought w g top len f) where
  module _ {st : State} {n : Node} (on : Stands st w q) (fits : Fits n q.nodes count) (row : Holds w (cell w q.nodes) (encode n))
      (size : len ≡ length (encode n)) where
    hash_of : g ≡ hash (encode n)
    hash_of = of.is ∙ ap hash (ap₂ (part w) at_top size ∙ row.is)

    -- what the rules' search comes to
    offered : found_of f ≡ find (eq_list (encode n)) 0 (map encode st.nodes)
    offered =
        sought.is {n = n} (record { arena = on.arena; row = holds_place (sym at_top) row; size = size; short = omega (arith, fits.short) }) hash_of
        ∙ seek_finds n st.nodes on.arena.distinct bucket

  pub interned_old : {i : ℕ} → f ≡ Some i → Interned w q len count w (NodeG i q)
  interned_old {i} e =
      record {
        is = λ {st} {n} on fits row size.
            let found : find (eq_list (encode n)) 0 (map encode st.nodes) ≡ some i = sym (offered on fits row size) ∙ ap found_of e in
            record {
              is = record {
                after = st;
                is = store_few n st fits.few ∙ ap (keep n st) found;
                stands = on;
                below = omega (arith, (hit (encode n) (map encode st.nodes) 0 i found).to, length-map st.nodes encode);
              };
            };
      }

  pub interned_new : {end : ℕ} {w' : List ℕ} {r : Given} → f ≡ None → Sum top len end → Kept w q g end count w' r → Interned w q len count w' r
  interned_new {w' = w'} {r = r} e sum kept =
      record {
        is = λ {st} {n} on fits row size.
            let found : find (eq_list (encode n)) 0 (map encode st.nodes) ≡ none = sym (offered on fits row size) ∙ ap found_of e in
            let is = sum.is (omega (arith, on.arena.top, on.arena.few, on.arena.cells, fits.short)) in
            subst (λ (o : Out ℕ). Answers o w' r) (sym (store_few n st fits.few ∙ ap (keep n st) found))
            (kept.is on fits row (hash_of on fits row size) (omega arith)
            (distinct_more st.nodes n on.arena.distinct (miss (encode n) (map encode st.nodes) 0 found)));
      }
