-- Lines of an old listing, taken one by one. Assumes nothing.
use mathlib.Core.Path.{◌≡◌, refl, sym, ap, ap₂, subst, ◌∙◌}
use mathlib.Core.Bool.{Bool, true, false, not, ◌&&◌}
use mathlib.Core.Logic.{⊎_elim}
use Prim.Native.Nat.{ℕ, suc, ◌+◌, ◌-◌, ◌≤◌, ◌<◌}
use native.Mathlib.Omega.{arith}
use native.Mathlib.Nat.{eq-or-lt_of_le, not-suc-le-zero}
use native.Mathlib.Numerals.{add-one}
use mathlib.Core.List.{List, [], ◌∷◌, ◌++◌, append-nil, append_assoc}
use lib.ListN.{length, get_or, set, take, drop, length-set, drop_of_length-le}
use lib.Seq.{get_or-set_same, get_or-set_other, drop-cons}
use lib.Dec.{eqb}
use lib.Pointwise.{pointwise}
use borrow.Author.Tests.{eq-eqb, ne_eqb, lt-ltb, le-ltb, not-true, not-false}
use Rattle.cells.specs.Part.{if, cell, run, eq_list}
use Rattle.cells.proofs.Parts.{run_snoc, run_ext}
use Rattle.layout.specs.Layout.{line_length}
use Rattle.rules.specs.Ceilings.{most_text}
use Rattle.rules.specs.Plain.{ascii, both}
use Rattle.rules.specs.Text.{tab, line_feed, cut, pieces, number, by_word, row_of}
use Rattle.rules.specs.Table.{Root, Result, accepted, refused, then}
use Rattle.rules.specs.Types.{node_kinds}
use Rattle.rules.specs.declared.Form.{Form}
use Rattle.rules.specs.declared.Form.TheVariants.{Plain, Numbered}
use Rattle.rules.specs.Listing.{take_numbered}
use Rattle.rules.specs.Listing.{head_kinds, is_number, row_fits, node_line_fits, node_in_form, Taking, next_line, take_line, take_node, take_nodes, nodes_after, take_after}
use Rattle.rules.specs.Listing.{take_root, at_end, take_roots, is_answers, old_listing}
use Rattle.text.specs.Reads.{span, span_at, left, num_of, got_words, Seek, Number, FieldRoom, Row}
use Rattle.text.proofs.Spans.{span_none, span_next, span_snoc, span_append, span_whole}
use Rattle.cells.proofs.Parts.{part_taken}
use Rattle.text.proofs.Leaves.{cut_some}
use Rattle.text.proofs.Shaping.{pieces_here}
use Rattle.std.specs.Prelude.{Result as Ended, Ok, Err, Option as Maybe, Some, None}
use Rattle.old_listing.specs.declared.LineAtFault.{LineAtFault}
use Rattle.old_listing.specs.declared.Reached.{Reached}
use Rattle.old_listing.specs.declared.Root.{Root as Named}
use Rattle.old_listing.specs.Olds.{asked, NodeFits, NodeLine, EndsAt, Endless, Ready, taking_at, next_of, Goes, Nodes, count_of, After, TakesRoot, RootsAt, RootAt}
use Rattle.old_listing.specs.Olds.{Roots, IsAnswers, IsNumbered, TakesHeader, Read}
use mathlib.Core.Option.{Option, none, some}

-- a node's line: its number and the rest
form_so : (s : List ℕ) (from to k names i : ℕ) (m : Option ℕ) → Seek s from to 9 k → m ≡ number (span s from k)
    → both (is_number i m) (λ _. row_fits names i (by_word node_kinds (left s (k + 1) to))) ≡ node_in_form names i (span s from to)
unfolding node_in_form
form_so s from to k names i m y e =
    ap (λ (z : Option ℕ). both (is_number i z) (λ _. row_fits names i (by_word node_kinds (left s (k + 1) to)))) e
    ∙ ap (node_line_fits names i) (sym (pieces_here s from to k y))

numbered : (s : List ℕ) (from to k names i n : ℕ) (m : Maybe ℕ) → Seek s from to 9 k → Number s from k m → m ≡ Some n → n ≡ i
    → row_fits names i (by_word node_kinds (left s (k + 1) to)) ≡ node_in_form names i (span s from to)
numbered s from to k names i n m y h e f =
    ap (λ (b : Bool). both b (λ _. row_fits names i (by_word node_kinds (left s (k + 1) to)))) (sym (eq-eqb n i f))
    ∙ form_so s from to k names i (some n) y (ap num_of (sym e) ∙ h.is)

rest_so : (s : List ℕ) (k to : ℕ) (w w' : List ℕ) (r : Maybe ℕ) → k < to → Row node_kinds s (k + 1) to 0 w w' r → got_words 0 w' r ≡ by_word node_kinds (left s (k + 1) to)
unfolding row_of
rest_so s k to w w' r l q =
    let z : left s (k + 1) to ≡ pieces tab (span s (k + 1) to) = simp (le-ltb to (k + 1) (omega arith)) in
    q.wrote.is ∙ ap (by_word node_kinds) (sym z)

module _ {s : List ℕ} {from to k names i : ℕ} {m : Maybe ℕ} (y : Seek s from to 9 k) (h : Number s from k m) where
  pub line_unnumbered : m ≡ None → NodeLine s from to names i false
  line_unnumbered e = record { is = form_so s from to k names i none y (ap num_of (sym e) ∙ h.is) }

  module _ {n : ℕ} (e : m ≡ Some n) where
    pub line_misnumbered : (n ≡ i → ⊥) → NodeLine s from to names i false
    line_misnumbered f = record {
      is =
          ap (λ (b : Bool). both b (λ _. row_fits names i (by_word node_kinds (left s (k + 1) to)))) (sym (ne_eqb n i f))
          ∙ form_so s from to k names i (some n) y (ap num_of (sym e) ∙ h.is);
    }

    pub line_bare : n ≡ i → k ≡ to → NodeLine s from to names i false
    line_bare f g =
        let z : left s (k + 1) to ≡ [] = simp (lt-ltb to (k + 1) (omega arith)) in
        record { is = ap (λ (q : List (List ℕ)). row_fits names i (by_word node_kinds q)) (sym z) ∙ numbered s from to k names i n m y h e f }

    module _ (f : n ≡ i) (g : k ≡ to → ⊥) {w w' : List ℕ} {r : Maybe ℕ} (q : Row node_kinds s (k + 1) to 0 w w' r) where
      pub line_bad : r ≡ None → NodeLine s from to names i false
      line_bad d = record {
        is = ap (row_fits names i) (ap (got_words 0 w') (sym d) ∙ rest_so s k to w w' r (omega (arith, y.high)) q) ∙ numbered s from to k names i n m y h e f;
      }

      pub line_good : {t : ℕ} {b : Bool} → r ≡ Some t → NodeFits w' t names i b → NodeLine s from to names i b
      line_good d a = record {
        is = a.is ∙ ap (row_fits names i) (ap (got_words 0 w') (sym d) ∙ rest_so s k to w w' r (omega (arith, y.high)) q) ∙ numbered s from to k names i n m y h e f;
      }

-- the next line
next_here : {A : Type 0} (k : ℕ) (f : List ℕ → List (List ℕ) → Result A) (s : List ℕ) (at m e : ℕ) → Seek s at m 10 e → e < m
    → next_line k (pieces line_feed (span s at m)) f ≡ f (span s at e) (pieces line_feed (span s (e + 1) m))
unfolding pieces
next_here k f s at m e y l = ap (λ (q : List (List ℕ)). next_line k q f) (y.here l)
    ∙ cut_some (λ (q : List (List ℕ)). next_line k (span s at e ∷ q) f ≡ f (span s at e) q) (λ p ps. refl) line_feed [] (span s (e + 1) m)

next_last : {A : Type 0} (k : ℕ) (f : List ℕ → List (List ℕ) → Result A) (s : List ℕ) (at m e : ℕ) → Seek s at m 10 e → e ≡ m → next_line k (pieces line_feed (span s at m)) f ≡ refused 11 k
next_last k f s at m e y l = ap (λ (q : List (List ℕ)). next_line k q f) (y.last l)

-- a line that is taken
taken_so : (s : List ℕ) (a at e k : ℕ) → a ≤ at → Seek s at (length s) 10 e → e < length s
    → take_line (taking_at s a at k) (span s at e) (pieces line_feed (span s (e + 1) (length s))) ≡ taking_at s a (e + 1) (k + 1)
taken_so s a at e k h y l =
    ap₂ {C = Taking} (λ (x : List ℕ) (n : ℕ). record { text = x; line = n; rest = pieces line_feed (span s (e + 1) (length s)) })
    (ap₂ {C = List ℕ} (λ (x : List ℕ) (n : ℕ). x ++ (n ∷ [])) (sym (span_append s a at e h y.low)) (sym (y.found l)) ∙ sym (span_snoc s a e (omega (arith, y.low))))
    (sym (add-one k))

-- the nodes from i on
pub record Walking (s : List ℕ) (from k names n at line i : ℕ) : Type 0 where
  pub few : i ≤ n
  pub low : from ≤ at
  pub high : at ≤ length s
  pub early : line ≤ at + 1
  pub is : (a : ℕ) → a ≤ from → take_nodes names i (n - i) (taking_at s a at line) ≡ take_nodes names 0 n (taking_at s a from k)

pub walk_start : {s w : List ℕ} {from k names n : ℕ} → Ready s from k w → Walking s from k names n from k 0
walk_start {s} {w} {from} {k} {names} {n} h = record {
  few = omega arith;
  low = omega arith;
  high = h.within;
  early = h.early;
  is = λ a l. ap (λ (m : ℕ). take_nodes names 0 m (taking_at s a from k)) (let z : n - 0 ≡ n = omega arith in z);
}

pub walk_done : {s : List ℕ} {from k names n : ℕ} {p : Reached} {i : ℕ} → Walking s from k names n p.at p.line i → n ≤ i → Nodes s from k names n (Ok p)
walk_done {s} {from} {k} {names} {n} {p} {i} inv h = record {
  is = λ a l. ap (λ (m : ℕ). take_nodes names i m (taking_at s a p.at p.line)) (let z : 0 ≡ n - i = omega arith in z) ∙ inv.is a l;
  goes = (inv.low, inv.high, inv.early);
}

then_if : (t : Bool) (d : Taking) (k : ℕ) (f : Taking → Result Taking) → then (if t (λ _. accepted d) (λ _. refused 11 k)) f ≡ if t (λ _. f d) (λ _. refused 11 k)
then_if true d k f = refl
then_if false d k f = refl

-- one node more
walk_turn : (s : List ℕ) (from k names n at line i a : ℕ) → Walking s from k names n at line i → i < n → a ≤ from
    → then (take_node names i (taking_at s a at line)) (λ (d : Taking). take_nodes names (i + 1) (n - (i + 1)) d) ≡ take_nodes names 0 n (taking_at s a from k)
walk_turn s from k names n at line i a inv l h =
    ap (λ (j : ℕ). then (take_node names i (taking_at s a at line)) (λ (d : Taking). take_nodes names j (n - (i + 1)) d)) (add-one i)
    ∙ ap (λ (m : ℕ). take_nodes names i m (taking_at s a at line)) (let z : suc (n - (i + 1)) ≡ n - i = omega arith in z)
    ∙ inv.is a h

turn_so : (s : List ℕ) (from k names n at line i e a : ℕ) (b t : Bool) → Walking s from k names n at line i → i < n → Seek s at (length s) 10 e → e < length s
    → NodeLine s at e names i b → b ≡ t → a ≤ from
    → if t (λ _. take_nodes names (i + 1) (n - (i + 1)) (taking_at s a (e + 1) (line + 1))) (λ _. refused 11 line) ≡ take_nodes names 0 n (taking_at s a from k)
turn_so s from k names n at line i e a b t inv lt y l q f h =
    sym (then_if t (taking_at s a (e + 1) (line + 1)) line (λ (d : Taking). take_nodes names (i + 1) (n - (i + 1)) d))
    ∙ ap (λ (o : Result Taking). then o (λ (d : Taking). take_nodes names (i + 1) (n - (i + 1)) d)) (sym node)
    ∙ walk_turn s from k names n at line i a inv lt h
  where
    node : take_node names i (taking_at s a at line) ≡ if t (λ _. accepted (taking_at s a (e + 1) (line + 1))) (λ _. refused 11 line)
    node =
        next_here line (λ l ls. if (node_in_form names i l) (λ _. accepted (take_line (taking_at s a at line) l ls)) (λ _. refused 11 line)) s at (length s) e y l
        ∙ ap₂ {C = Result Taking} (λ (u : Bool) (d : Taking). if u (λ _. accepted d) (λ _. refused 11 line)) (sym q.is ∙ f) (taken_so s a at e line (omega (arith, inv.low)) y l)

module _ {s : List ℕ} {from k names n at line i : ℕ} (inv : Walking s from k names n at line i) (lt : i < n) where
  pub walk_last : {f : LineAtFault} → Endless s at line f → Nodes s from k names n (Err f)
  walk_last {f} y = record {
    is = λ a l.
        ap (λ (m : ℕ). refused 11 m) y.line
        ∙ ap (λ (o : Result Taking). then o (λ (d : Taking). take_nodes names (i + 1) (n - (i + 1)) d))
        (sym (next_last line (λ l ls. if (node_in_form names i l) (λ _. accepted (take_line (taking_at s a at line) l ls)) (λ _. refused 11 line)) s at (length s) (length s) y.seek refl))
        ∙ walk_turn s from k names n at line i a inv lt l;
    goes = tt;
  }

  module _ {e : ℕ} (y : EndsAt s at e) {b : Bool} (q : NodeLine s at e names i b) where
    pub walk_bad : {f : LineAtFault} → f.0 ≡ line → not b ≡ true → Nodes s from k names n (Err f)
    walk_bad h f = record {
      is = λ a l. ap (λ (m : ℕ). refused 11 m) h ∙ turn_so s from k names n at line i e a b false inv lt y.seek y.inside q (not-true b f) l;
      goes = tt;
    }

    pub walk_more : not b ≡ false → Walking s from k names n (e + 1) (line + 1) (i + 1)
    walk_more f = record {
      few = omega arith;
      low = omega (arith, inv.low, y.seek.low);
      high = omega (arith, y.inside);
      early = omega (arith, inv.early, y.seek.low);
      is = λ a l. turn_so s from k names n at line i e a b true inv lt y.seek y.inside q (not-false b f) l;
    }

pub line_room : {s w w' : List ℕ} {from k at e : ℕ} → Ready s from k w → length w' ≡ length w → EndsAt s at e → FieldRoom s at e w' 0
line_room g l y = record { order = y.seek.low; within = y.seek.high; short = g.short; room = omega (arith, y.seek.high, g.short, g.room) }

-- a root's lines
root_so : (s : List ℕ) (from k e names id sign : ℕ) (x : Maybe ℕ) → Seek s from (length s) 10 e → e < length s → After s from e id sign x
    → take_after names (taking_at s from (e + 1) (k + 1)) (count_of x) k ≡ take_root names (asked id sign) (taking_at s from from k)
root_so s from k e names id sign x y l a =
    ap₂ {C = Result Taking} (λ (d : Taking) (m : Option ℕ). take_after names d m k) (sym (taken_so s from from e k (omega arith) y l)) a.is
    ∙ sym (next_here k (λ l ls. take_after names (take_line (taking_at s from from k) l ls) (nodes_after (asked id sign) (row_of head_kinds l)) k) s from (length s) e y l)

goes_from : (s : List ℕ) (from at : ℕ) (r : Ended Reached LineAtFault) → from ≤ at → Goes s at r → Goes s from r
goes_from s from at (Ok p) h g = (omega (arith, g.0), g.1, g.2)
goes_from s from at (Err f) h g = tt

module _ {s : List ℕ} {from k names id sign : ℕ} where
  pub root_last : {f : LineAtFault} → Endless s from k f → TakesRoot s from k names id sign (Err f)
  root_last {f} y = record {
    is =
        ap (λ (m : ℕ). refused 11 m) y.line
        ∙ sym (next_last k (λ l ls. take_after names (take_line (taking_at s from from k) l ls) (nodes_after (asked id sign) (row_of head_kinds l)) k) s from (length s) (length s) y.seek refl);
    goes = tt;
  }

  module _ {e : ℕ} (y : EndsAt s from e) {x : Maybe ℕ} (a : After s from e id sign x) where
    pub root_bad : {f : LineAtFault} → f.0 ≡ k → x ≡ None → TakesRoot s from k names id sign (Err f)
    root_bad h f = record {
      is =
          ap (λ (m : ℕ). refused 11 m) h
          ∙ ap (λ (z : Maybe ℕ). take_after names (taking_at s from (e + 1) (k + 1)) (count_of z) k) (sym f)
          ∙ root_so s from k e names id sign x y.seek y.inside a;
      goes = tt;
    }

    pub root_good : {n : ℕ} {r : Ended Reached LineAtFault} → x ≡ Some n → Nodes s (e + 1) (k + 1) names n r → TakesRoot s from k names id sign r
    root_good {n} {r} f b = record {
      is =
          b.is from (omega (arith, y.seek.low))
          ∙ ap (λ (z : Maybe ℕ). take_after names (taking_at s from (e + 1) (k + 1)) (count_of z) k) (sym f)
          ∙ root_so s from k e names id sign x y.seek y.inside a;
      goes = goes_from s from (e + 1) r (omega (arith, y.seek.low)) b.goes;
    }

pub root_ready : {s w w' : List ℕ} {from k e : ℕ} → Ready s from k w → length w' ≡ length w → EndsAt s from e → Ready s (e + 1) (k + 1) w'
root_ready g l y = record { within = omega (arith, y.inside); short = g.short; early = omega (arith, g.early, y.seek.low); room = omega (arith, g.room) }

-- what is left after the last root
end_if : (k : ℕ) (g q : List (List ℕ)) (t : Bool) → at_end k g ≡ refused 11 k → at_end k q ≡ refused 11 k → at_end k (if t (λ _. g) (λ _. q)) ≡ refused 11 k
end_if k g q true h i = h
end_if k g q false h i = i

end_many : (k : ℕ) (p g : List ℕ) (gs : List (List ℕ)) → at_end k (p ∷ g ∷ gs) ≡ refused 11 k
end_many k [] g gs = refl
end_many k (b ∷ l) g gs = refl

end_two_if : (k : ℕ) (p g : List ℕ) (gs q : List (List ℕ)) (t : Bool) → at_end k (p ∷ q) ≡ refused 11 k → at_end k (p ∷ if t (λ _. g ∷ gs) (λ _. q)) ≡ refused 11 k
end_two_if k p g gs q true h = end_many k p g gs
end_two_if k p g gs q false h = h

end_two : (k sep : ℕ) (p got bs : List ℕ) → at_end k (p ∷ cut sep got bs) ≡ refused 11 k
end_two k sep p got [] = end_many k p got []
end_two k sep p got (b ∷ bs) = end_two_if k p got (cut sep [] bs) (cut sep (got ++ (b ∷ [])) bs) (eqb b sep) (end_two k sep p (got ++ (b ∷ [])) bs)

end_got : (k sep b : ℕ) (got bs : List ℕ) → at_end k (cut sep (b ∷ got) bs) ≡ refused 11 k
end_got k sep b got [] = refl
end_got k sep b got (c ∷ bs) = end_if k ((b ∷ got) ∷ cut sep [] bs) (cut sep (b ∷ (got ++ (c ∷ []))) bs) (eqb c sep) (end_two k sep (b ∷ got) [] bs) (end_got k sep b (got ++ (c ∷ [])) bs)

end_surplus : (s : List ℕ) (at k : ℕ) → at < length s → at_end k (pieces line_feed (span s at (length s))) ≡ refused 11 k
unfolding pieces
end_surplus s at k h =
    ap (λ (l : List ℕ). at_end k (cut line_feed [] l)) (span_next s at (length s) h)
    ∙ end_if k ([] ∷ cut line_feed [] (span s (at + 1) (length s))) (cut line_feed (cell s at ∷ []) (span s (at + 1) (length s))) (eqb (cell s at) line_feed)
    (end_two k line_feed [] [] (span s (at + 1) (length s))) (end_got k line_feed (cell s at) [] (span s (at + 1) (length s)))

end_here : (s : List ℕ) (at k : ℕ) → length s ≤ at → at_end k (pieces line_feed (span s at (length s))) ≡ accepted []
unfolding pieces
end_here s at k h = ap (λ (l : List ℕ). at_end k (cut line_feed [] l)) (span_none s at (length s) h)

-- what a root's lines so far are does not matter for those that follow
roots_blank : (s : List ℕ) (names a b p k : ℕ) (rs : List Root) → take_roots names rs (taking_at s a p k) ≡ take_roots names rs (taking_at s b p k)
roots_blank s names a b p k [] = refl
roots_blank s names a b p k (r ∷ rs) = refl

then_same : (m : Result (List (List ℕ))) → then m (λ (ts : List (List ℕ)). accepted ts) ≡ m
then_same (accepted ts) = refl
then_same (refused k l) = refl

then_more : (m : Result (List (List ℕ))) (x : List ℕ) (got : List (List ℕ))
    → then (then m (λ (ts : List (List ℕ)). accepted (x ∷ ts))) (λ (ts : List (List ℕ)). accepted (got ++ ts))
    ≡ then m (λ (ts : List (List ℕ)). accepted ((got ++ (x ∷ [])) ++ ts))
then_more (accepted ts) x got = ap (λ (l : List (List ℕ)). accepted l) (sym (append_assoc got (x ∷ []) ts))
then_more (refused k l) x got = refl

-- a root that was taken, and those after it
abbrev with_rest : ℕ → List Root → Result Taking → Result (List (List ℕ))
with_rest names rs o = then o (λ (d : Taking). then (take_roots names rs d) (λ (ts : List (List ℕ)). accepted (d.text ∷ ts)))

-- the texts of the roots before i, and those that m says
abbrev joined : List ℕ → List ℕ → ℕ → ℕ → Result (List (List ℕ)) → Result (List (List ℕ))
joined s spans at i m = then m (λ (ts : List (List ℕ)). accepted (run (span_at s (set spans i at)) 0 i ++ ts))

-- the roots from i on, after the texts of those before
abbrev roots_from : List ℕ → ℕ → List Root → List ℕ → ℕ → ℕ → ℕ → Result (List (List ℕ))
roots_from s names rs spans at line i = joined s spans at i (take_roots names (drop i rs) (taking_at s at at line))

pub record Rooting (s : List ℕ) (from start names : ℕ) (table : List ℕ) (first n : ℕ) (spans₀ spans : List ℕ) (at line i : ℕ) : Type 0 where
  pub few : i ≤ n
  pub high : at ≤ length s
  pub early : line ≤ at + 1
  pub kept : length spans ≡ length spans₀
  pub lies : n < length spans₀ → (k : ℕ) → k < i → cell spans k ≤ length s
  pub others : (k : ℕ) → n < k → cell spans k ≡ cell spans₀ k
  pub is : (rs : List Root) → RootsAt rs table first n → n < length spans₀ → roots_from s names rs spans at line i ≡ take_roots names rs (taking_at s 0 from start)

pub rooting_start : {s w table spans : List ℕ} {from start names first n : ℕ} → Ready s from start w → Rooting s from start names table first n spans spans from start 0
rooting_start {s} {w} {table} {spans} {from} {start} {names} h = record {
  few = omega arith;
  high = h.within;
  early = h.early;
  kept = refl;
  lies = λ l k lt. absurd (not-suc-le-zero lt);
  others = λ k lt. refl;
  is = λ rs g l. then_same (take_roots names rs (taking_at s from from start)) ∙ roots_blank s names from 0 from start rs;
}

-- one more place that lies within s, and others untouched
set_lies : (spans : List ℕ) (i at m : ℕ) → i < length spans → at ≤ m → ((k : ℕ) → k < i → cell spans k ≤ m) → (k : ℕ) → k ≤ i → cell (set spans i at) k ≤ m
set_lies spans i at m room h low k le =
    ⊎_elim
    (λ (z : k ≡ i). omega (arith, ap (cell (set spans i at)) z, get_or-set_same spans i at 0 room))
    (λ (lt : k < i). omega (arith, get_or-set_other spans i k at 0 (omega arith), low k lt))
    (eq-or-lt_of_le le)

set_others : (spans₀ spans : List ℕ) (i at n : ℕ) → i ≤ n → ((k : ℕ) → n < k → cell spans k ≡ cell spans₀ k) → (k : ℕ) → n < k → cell (set spans i at) k ≡ cell spans₀ k
set_others spans₀ spans i at n h same k lt = get_or-set_other spans i k at 0 (omega arith) ∙ same k lt

-- the texts so far, with one more
got_more : (s spans : List ℕ) (at q i : ℕ) → i + 1 < length spans → run (span_at s (set (set spans i at) (i + 1) q)) 0 (i + 1) ≡ run (span_at s (set spans i at)) 0 i ++ (span s at q ∷ [])
got_more s spans at q i h =
    ap (λ (m : ℕ). run (span_at s (set (set spans i at) (i + 1) q)) 0 m) (add-one i)
    ∙ run_snoc (span_at s (set (set spans i at) (i + 1) q)) 0 i
    ∙ ap₂ {C = List (List ℕ)} (λ (l : List (List ℕ)) (x : List ℕ). l ++ (x ∷ [])) before here
  where
    same : (j : ℕ) → j ≤ i → cell (set (set spans i at) (i + 1) q) j ≡ cell (set spans i at) j
    same j l = get_or-set_other (set spans i at) (i + 1) j q 0 (omega arith)

    before : run (span_at s (set (set spans i at) (i + 1) q)) 0 i ≡ run (span_at s (set spans i at)) 0 i
    before = run_ext (span_at s (set (set spans i at) (i + 1) q)) (span_at s (set spans i at)) 0 i (λ j a b. ap₂ {C = List ℕ} (span s) (same j (omega arith)) (same (j + 1) (omega arith)))

    first : cell (set (set spans i at) (i + 1) q) (0 + i) ≡ at
    first = ap (cell (set (set spans i at) (i + 1) q)) (let z : 0 + i ≡ i = omega arith in z) ∙ same i (omega arith) ∙ get_or-set_same spans i at 0 (omega arith)

    second : cell (set (set spans i at) (i + 1) q) (0 + i + 1) ≡ q
    second =
        ap (cell (set (set spans i at) (i + 1) q)) (let z : 0 + i + 1 ≡ i + 1 = omega arith in z)
        ∙ get_or-set_same (set spans i at) (i + 1) q 0 (let z = length-set spans i at in omega arith)

    here : span_at s (set (set spans i at) (i + 1) q) (0 + i) ≡ span s at q
    here = ap₂ {C = List ℕ} (span s) first second

-- root i, and those after it
step_so : (s : List ℕ) (names at line i : ℕ) (spans : List ℕ) (rs : List Root) (r : Ended Reached LineAtFault) → i < length rs
    → next_of s at r ≡ take_root names (get_or rs i (asked 0 0)) (taking_at s at at line)
    → joined s spans at i (with_rest names (drop (i + 1) rs) (next_of s at r)) ≡ roots_from s names rs spans at line i
step_so s names at line i spans rs r l e =
    ap (λ (o : Result Taking). joined s spans at i (with_rest names (drop (i + 1) rs) o))
    (e ∙ ap (λ (x : List ℕ). take_root names (get_or rs i (asked 0 0)) (record { text = x; line = line; rest = pieces line_feed (span s at (length s)) })) (span_none s at at (omega arith)))
    ∙ ap (λ (j : ℕ). joined s spans at i (take_roots names (get_or rs i (asked 0 0) ∷ drop j rs) (taking_at s at at line))) (add-one i)
    ∙ ap (λ (l : List Root). joined s spans at i (take_roots names l (taking_at s at at line))) (sym (drop-cons rs i (asked 0 0) l))

module _ {s table spans₀ spans spans₁ : List ℕ} {from start names first n at line i : ℕ} {root : Named} {r : Ended Reached LineAtFault} (inv : Rooting s from start names table first n spans₀ spans at line i)
    (lt : i < n) (st : spans₁ ≡ set spans i at) (a : RootAt table first i root) (h : TakesRoot s at line names root.id root.sign r) where
  root_here : (rs : List Root) → RootsAt rs table first n → next_of s at r ≡ take_root names (get_or rs i (asked 0 0)) (taking_at s at at line)
  root_here rs g =
      h.is ∙ ap (λ (o : Root). take_root names o (taking_at s at at line)) (ap₂ {C = Root} asked a.id a.sign ∙ g.is i lt)

  step_here : (rs : List Root) → RootsAt rs table first n → n < length spans₀ → (z : Ended Reached LineAtFault) → r ≡ z
      → joined s spans at i (with_rest names (drop (i + 1) rs) (next_of s at z)) ≡ take_roots names rs (taking_at s 0 from start)
  step_here rs g l z e =
      ap (λ (y : Ended Reached LineAtFault). joined s spans at i (with_rest names (drop (i + 1) rs) (next_of s at y))) (sym e)
      ∙ step_so s names at line i spans rs r (let c = g.count in omega arith) (root_here rs g)
      ∙ inv.is rs g l

  pub rooting_fault : {f : LineAtFault} → r ≡ Err f → Roots s from start names table first n spans₀ spans₁ (Err f)
  rooting_fault {f} e = record {
    is = λ rs g l. step_here rs g l (Err f) e;
    lies = λ l. tt;
    kept = λ j m. ap (λ (w : List ℕ). cell w j) st ∙ set_others spans₀ spans i at n (omega arith) inv.others j m;
  }

  pub rooting_more : {p : Reached} → r ≡ Ok p → Rooting s from start names table first n spans₀ spans₁ p.at p.line (i + 1)
  rooting_more {p} e =
      let b : Goes s at (Ok p) = subst (Goes s at) e h.goes in
      record {
        few = omega arith;
        high = b.1;
        early = b.2;
        kept = ap length st ∙ length-set spans i at ∙ inv.kept;
        lies = λ l j m.
            omega (arith, ap (λ (w : List ℕ). cell w j) st, set_lies spans i at (length s) (omega (arith, inv.kept)) inv.high (inv.lies l) j (omega arith));
        others = λ j m. ap (λ (w : List ℕ). cell w j) st ∙ set_others spans₀ spans i at n (omega arith) inv.others j m;
        is = λ rs g l.
            ap₂ {C = Result (List (List ℕ))} (λ (m : Result (List (List ℕ))) (got : List (List ℕ)). then m (λ (ts : List (List ℕ)). accepted (got ++ ts)))
            (roots_blank s names p.at at p.at p.line (drop (i + 1) rs))
            (ap (λ (w : List ℕ). run (span_at s (set w (i + 1) p.at)) 0 (i + 1)) st ∙ got_more s spans at p.at i (let c = inv.kept in omega arith))
            ∙ sym (then_more (take_roots names (drop (i + 1) rs) (taking_at s at p.at p.line)) (span s at p.at) (run (span_at s (set spans i at)) 0 i))
            ∙ step_here rs g l (Ok p) e;
      }

-- after the last root
module _ {s table spans₀ spans : List ℕ} {from start names first n at line i : ℕ} (inv : Rooting s from start names table first n spans₀ spans at line i) (h : n ≤ i) where
  last_so : (rs : List Root) (o : Result (List (List ℕ))) → RootsAt rs table first n → n < length spans₀
      → at_end line (pieces line_feed (span s at (length s))) ≡ o → joined s spans at n o ≡ take_roots names rs (taking_at s 0 from start)
  last_so rs o g l e =
      ap₂ {C = Result (List (List ℕ))} (λ (m : Result (List (List ℕ))) (j : ℕ). joined s spans at j m)
      (sym e ∙ ap (λ (q : List Root). take_roots names q (taking_at s at at line)) (sym (drop_of_length-le rs {i = i} (let c = g.count in omega arith))))
      (let z : n ≡ i = omega (arith, inv.few) in z)
      ∙ inv.is rs g l

  module _ {spans₁ : List ℕ} (st : spans₁ ≡ set spans n at) where
    untouched : (k : ℕ) → n < k → cell spans₁ k ≡ cell spans₀ k
    untouched k lt = ap (λ (w : List ℕ). cell w k) st ∙ set_others spans₀ spans n at n (omega arith) inv.others k lt

    pub rooting_surplus : {f : LineAtFault} → f.0 ≡ line → at < length s → Roots s from start names table first n spans₀ spans₁ (Err f)
    rooting_surplus e l = record {
      is = λ rs g m. ap (λ (k : ℕ). refused 11 k) e ∙ last_so rs (refused 11 line) g m (end_surplus s at line l);
      lies = λ m. tt;
      kept = untouched;
    }

    pub rooting_done : length s ≤ at → Roots s from start names table first n spans₀ spans₁ (Ok tt)
    rooting_done l = record {
      is = λ rs g m.
          ap (λ (q : List (List ℕ)). accepted q) (ap (λ (w : List ℕ). run (span_at s w) 0 n) st ∙ sym (append-nil (run (span_at s (set spans n at)) 0 n)))
          ∙ last_so rs (accepted []) g m (end_here s at line l);
      lies = λ m k le.
          omega (arith, ap (λ (w : List ℕ). cell w k) st, set_lies spans n at (length s) (omega (arith, inv.kept)) inv.high (λ j lt. inv.lies m j (omega arith)) k le);
      kept = untouched;
    }

pub rooting_ready : {s w w' table spans₀ spans : List ℕ} {from start names first n at line i : ℕ} → Ready s from start w → length w' ≡ length w
    → Rooting s from start names table first n spans₀ spans at line i → Ready s at line w'
rooting_ready g l inv = record { within = inv.high; short = g.short; early = inv.early; room = omega (arith, g.room) }

and_if : (a b : Bool) → (a && b) ≡ if a (λ _. b) (λ _. false)
and_if true b = refl
and_if false b = refl

same_lists : (x y : List ℕ) → pointwise eqb x y ≡ eq_list x y
same_lists [] [] = refl
same_lists [] (b ∷ y) = refl
same_lists (a ∷ x) [] = refl
same_lists (a ∷ x) (b ∷ y) = simp (same_lists x y) (and_if (eqb a b) (eq_list x y))

pub numbered_same : {s : List ℕ} {from to : ℕ} {b : Bool} → from ≤ to → to ≤ length s
    → b ≡ pointwise eqb (take (to - from) (drop from s)) (ascii "numbered") → IsNumbered s from to b
numbered_same {s} {from} {to} h l e = record {
  is =
      e
      ∙ same_lists (take (to - from) (drop from s)) (ascii "numbered")
      ∙ ap (λ (w : List ℕ). eq_list w (ascii "numbered")) (part_taken s from (to - from) (omega arith));
}

abbrev numbered_line : List ℕ → ℕ → List ℕ → List (List ℕ) → Result Taking
numbered_line s from l ls = if (eq_list l (ascii "numbered")) (λ _. accepted (take_line (taking_at s 0 from 2) l ls)) (λ _. refused 11 2)

-- the line `numbered`
module _ {form : Form} {s : List ℕ} {from e : ℕ} (one : 1 ≤ from) (within : from ≤ length s) (f : form ≡ Numbered) (y : EndsAt s from e) {b : Bool} (a : IsNumbered s from e b) where
  pub header_line : {p : Reached} → p.at ≡ e + 1 → p.line ≡ 3 → not b ≡ false → TakesHeader form s from (Ok p)
  header_line {p} c d q = record {
    is =
        ap₂ {C = Result Taking} (λ (x k : ℕ). accepted (taking_at s 0 x k)) c d
        ∙ ap₂ {C = Result Taking} (λ (u : Bool) (t : Taking). if u (λ _. accepted t) (λ _. refused 11 2)) (sym (not-false b q) ∙ a.is)
        (sym (taken_so s 0 from e 2 (omega arith) y.seek y.inside))
        ∙ sym (next_here 2 (numbered_line s from) s from (length s) e y.seek y.inside)
        ∙ ap (λ (g : Form). take_numbered g (taking_at s 0 from 2)) (sym f);
    goes = (omega (arith, y.seek.low), omega (arith, y.inside), omega (arith, y.seek.low));
  }

-- the whole listing
abbrev first_line : Form → ℕ → List Root → List ℕ → List (List ℕ) → Result (List (List ℕ))
first_line form names rs l ls =
    if (is_answers (length rs) (row_of head_kinds l))
    (λ _. then (take_numbered form (record { text = []; line = 2; rest = ls })) (λ (c : Taking). take_roots names rs c)) (λ _. refused 11 1)

old_so : (form : Form) (names : ℕ) (rs : List Root) (s : List ℕ) → length s ≤ most_text
    → next_line 1 (pieces line_feed (span s 0 (length s))) (first_line form names rs) ≡ old_listing form names rs s
unfolding old_listing
old_so form names rs s h =
    ap (λ (l : List ℕ). next_line 1 (pieces line_feed l) (first_line form names rs)) (span_whole s)
    ∙ ap (λ (b : Bool). if b (λ _. refused 11 0) (λ _. next_line 1 (pieces line_feed s) (first_line form names rs))) (sym (le-ltb most_text (length s) h))

long_so : (form : Form) (names : ℕ) (rs : List Root) (s : List ℕ) → most_text < length s → refused 11 0 ≡ old_listing form names rs s
unfolding old_listing
long_so form names rs s h =
    ap (λ (b : Bool). if b (λ _. refused 11 0) (λ _. next_line 1 (pieces line_feed s) (first_line form names rs))) (sym (lt-ltb most_text (length s) h))

module _ {form : Form} {s table spans w : List ℕ} {names first n : ℕ} where
  pub old_long : {f : LineAtFault} → f.0 ≡ 0 → most_text < length s → Read form s names table first n spans w spans (Err f)
  old_long e h = record { is = λ rs g l m. ap (λ (k : ℕ). refused 11 k) e ∙ long_so form names rs s h; lies = λ l. tt; kept = λ k lt. refl }

  pub old_poor : {f : LineAtFault} → length w < line_length → Read form s names table first n spans w spans (Err f)
  old_poor h = record { is = λ rs g l m. absurd (let z : ⊥ = omega arith in z); lies = λ l. tt; kept = λ k lt. refl }

-- what was taken before the roots makes no difference to them
roots_text : (names line : ℕ) (x : List ℕ) (ls : List (List ℕ)) (rs : List Root)
    → take_roots names rs (record { text = x; line = line; rest = ls }) ≡ take_roots names rs (record { text = []; line = line; rest = ls })
roots_text names line x ls [] = refl
roots_text names line x ls (r ∷ rs) = refl

after_text : (names : ℕ) (x : List ℕ) (rs : List Root) (l : List ℕ) (ls : List (List ℕ)) (line : ℕ) (b : Bool)
    → then (if b (λ _. accepted (record { text = x ++ l ++ (line_feed ∷ []); line = suc line; rest = ls })) (λ _. refused 11 line)) (λ (c : Taking). take_roots names rs c)
    ≡ then (if b (λ _. accepted (record { text = l ++ (line_feed ∷ []); line = suc line; rest = ls })) (λ _. refused 11 line)) (λ (c : Taking). take_roots names rs c)
after_text names x rs l ls line true = roots_text names (suc line) (x ++ l ++ (line_feed ∷ [])) ls rs ∙ sym (roots_text names (suc line) (l ++ (line_feed ∷ [])) ls rs)
after_text names x rs l ls line false = refl

header_text : (form : Form) (names line : ℕ) (x : List ℕ) (ls : List (List ℕ)) (rs : List Root)
    → then (take_numbered form (record { text = x; line = line; rest = ls })) (λ (c : Taking). take_roots names rs c)
    ≡ then (take_numbered form (record { text = []; line = line; rest = ls })) (λ (c : Taking). take_roots names rs c)
header_text Plain names line x ls rs = roots_text names line x ls rs
header_text Numbered names line x [] rs = refl
header_text Numbered names line x (l ∷ []) rs = refl
header_text Numbered names line x (l ∷ m ∷ ls) rs = after_text names x rs l (m ∷ ls) line (eq_list l (ascii "numbered"))

-- what comes after the line `answers`
abbrev behind_first : Form → ℕ → List Root → List ℕ → ℕ → Result (List (List ℕ))
behind_first form names rs s e = then (take_numbered form (taking_at s 0 (e + 1) 2)) (λ (c : Taking). take_roots names rs c)

first_so : (form : Form) (s : List ℕ) (names n e : ℕ) (rs : List Root) (b t : Bool) → length s ≤ most_text → Seek s 0 (length s) 10 e → e < length s
    → IsAnswers s 0 e n b → b ≡ t → length rs ≡ n → if t (λ _. behind_first form names rs s e) (λ _. refused 11 1) ≡ old_listing form names rs s
first_so form s names n e rs b t h y l a f c =
    ap₂ {C = Result (List (List ℕ))} (λ (u : Bool) (o : Result (List (List ℕ))). if u (λ _. o) (λ _. refused 11 1))
    (sym f ∙ a.is ∙ ap (λ (m : ℕ). is_answers m (row_of head_kinds (span s 0 e))) (sym c))
    (header_text form names 2 (span s 0 (e + 1)) (pieces line_feed (span s (e + 1) (length s))) rs)
    ∙ sym (next_here 1 (first_line form names rs) s 0 (length s) e y l)
    ∙ old_so form names rs s h

-- what the header comes to, and the roots after it
header_here : (form : Form) (s : List ℕ) (names n e : ℕ) (rs : List Root) (b : Bool) (r z : Ended Reached LineAtFault) → length s ≤ most_text → Seek s 0 (length s) 10 e → e < length s
    → IsAnswers s 0 e n b → b ≡ true → length rs ≡ n → TakesHeader form s (e + 1) r → r ≡ z
    → then (next_of s 0 z) (λ (c : Taking). take_roots names rs c) ≡ old_listing form names rs s
header_here form s names n e rs b r z h y l a f c t q =
    ap (λ (o : Result Taking). then o (λ (c : Taking). take_roots names rs c)) (ap (next_of s 0) (sym q) ∙ t.is)
    ∙ first_so form s names n e rs b true h y l a f c

module _ {form : Form} {s table spans w : List ℕ} {names first n : ℕ} (h : length s ≤ most_text) where
  pub old_none : {f : LineAtFault} → Endless s 0 1 f → Read form s names table first n spans w spans (Err f)
  old_none y = record {
    is = λ rs g l m.
        ap (λ (k : ℕ). refused 11 k) y.line ∙ sym (next_last 1 (first_line form names rs) s 0 (length s) (length s) y.seek refl) ∙ old_so form names rs s h;
    lies = λ l. tt;
    kept = λ k lt. refl;
  }

  module _ {e : ℕ} (y : EndsAt s 0 e) {b : Bool} (a : IsAnswers s 0 e n b) where
    pub old_other : {g : LineAtFault} → g.0 ≡ 1 → not b ≡ true → Read form s names table first n spans w spans (Err g)
    old_other d f = record {
      is = λ rs g l m. ap (λ (k : ℕ). refused 11 k) d ∙ first_so form s names n e rs b false h y.seek y.inside a (not-true b f) g.count;
      lies = λ l. tt;
      kept = λ k lt. refl;
    }

    module _ {r : Ended Reached LineAtFault} (f : b ≡ true) (t : TakesHeader form s (e + 1) r) where
      pub old_header : {g : LineAtFault} → r ≡ Err g → Read form s names table first n spans w spans (Err g)
      old_header {g} q = record {
        is = λ rs c l m. header_here form s names n e rs b r (Err g) h y.seek y.inside a f c.count t q;
        lies = λ l. tt;
        kept = λ k lt. refl;
      }

      pub old_roots : {p : Reached} {spans' : List ℕ} {o : Ended (Unit {0}) LineAtFault} → r ≡ Ok p → Roots s p.at p.line names table first n spans spans' o
          → Read form s names table first n spans w spans' o
      old_roots {p} q v = record {
        is = λ rs g l m. v.is rs g l ∙ header_here form s names n e rs b r (Ok p) h y.seek y.inside a f g.count t q;
        lies = v.lies;
        kept = v.kept;
      }
