-- Laws of the bailed mark: what request 2 moved. Assumes nothing.
use mathlib.Core.Path.{◌≡◌, refl, sym, ap, ap₂, ◌∙◌, subst}
use mathlib.Core.Bool.{Bool, true, false, ◌||◌}
use Prim.Native.Nat.{ℕ, ◌+◌}
use mathlib.Core.List.{List, [], ◌∷◌, map}
use lib.ListN.{length, drop, get_or, length-append}
use Rattle.cells.specs.Part.{if}
use Rattle.rules.specs.Plain.{flag, any, joined}
use Rattle.rules.specs.Types.{State, Out, ok, no}
use Rattle.rules.specs.Text.{decimal, field_text, shape_texts, no_kind, row_texts}
use Rattle.rules.specs.Table.{Table, Root}
use Rattle.rules.specs.Canonicalizer.{Pass, Reader, is_both, pass, Answer, shown, after_second, with_set, after_first, canonicalize, reader_of, first_pass, answer_of}
use Rattle.rules.specs.Types.{polarity_of}
use Rattle.rules.specs.declared.Form.TheVariants.{Plain}
use Rattle.laws.proofs.NumberedAnswers.{plain_answer}
use Rattle.rules.specs.Listing.{root_head, head_kinds, head_text, node_texts, walk, answer_text, answers_text, root_text, root_text_of, listing_text}
use Rattle.rules.specs.declared.Polarity.{Polarity}
use Rattle.laws.specs.Marks.{of_one, of_both, after_second_alone, after_first_alone, answer_alone, listing_alone, did_bail, marked_too, Moves, stays, rises}
use Rattle.laws.proofs.Bounding.{weigh, line_length_lem}

or_self : (b : Bool) → b ≡ b || b
or_self true = refl
or_self false = refl

or_second : (a b : Bool) → b ≡ true → b ≡ a || b
or_second true b e = e
or_second false b e = refl

second_marked : (s : State) (o : Out ℕ) → after_second s.ops s.sorted s.bailed o ≡ marked_too s.bailed (after_second_alone s o)
second_marked s (no k) = refl
second_marked s (ok y u) = refl

module _ (p : Pass) (t : Reader) (id : ℕ) (pol : Polarity) where
  first_marked : (o : Out ℕ) → after_first p t id pol o ≡ marked_too (did_bail o) (after_first_alone p t id pol o)
  first_marked (no k) = refl
  first_marked (ok x s) = turn (any is_both s.bits)
    where
      turn : (b : Bool) → if b (λ _. after_second s.ops s.sorted s.bailed (pass (with_set p s) t id pol)) (λ _. shown (of_one x s s.bailed))
          ≡ marked_too s.bailed (if b (λ _. after_second_alone s (pass (with_set p s) t id pol)) (λ _. shown (of_one x s s.bailed)))
      turn true = second_marked s (pass (with_set p s) t id pol)
      turn false = ap (λ (mark : Bool). shown (of_one x s mark)) (or_self s.bailed)

  -- by the bails of both passes
  module _ {x y : ℕ} {s u : State} (e : pass p t id pol ≡ ok x s) (f : pass (with_set p s) t id pol ≡ ok y u) where
    alike : u.bailed ≡ s.bailed || u.bailed → Moves p t id pol (shown (of_both s y u u.bailed)) (shown (of_both s y u (s.bailed || u.bailed)))
    alike g = subst (λ (b : Bool). Moves p t id pol (shown (of_both s y u u.bailed)) (shown (of_both s y u b))) g stays

    by_bails : (a b : Bool) → s.bailed ≡ a → u.bailed ≡ b → Moves p t id pol (shown (of_both s y u u.bailed)) (shown (of_both s y u (s.bailed || u.bailed)))
    by_bails a true g h = alike (or_second s.bailed u.bailed h)
    by_bails false false g h = alike (ap (λ (a : Bool). a || u.bailed) (sym g))
    by_bails true false g h =
        subst (λ (b : Bool). Moves p t id pol (shown (of_both s y u b)) (shown (of_both s y u (s.bailed || u.bailed)))) (sym h)
        (subst (λ (b : Bool). Moves p t id pol (shown (of_both s y u false)) (shown (of_both s y u b))) (ap (λ (a : Bool). a || u.bailed) (sym g)) (rises e g f h))

  second_moves : {x : ℕ} {s : State} → pass p t id pol ≡ ok x s → (o : Out ℕ) → pass (with_set p s) t id pol ≡ o
      → Moves p t id pol (after_second_alone s o) (after_second s.ops s.sorted s.bailed o)
  second_moves e (no k) f = stays
  second_moves {x} {s} e (ok y u) f = by_bails e f s.bailed u.bailed refl refl

  first_moves : (o : Out ℕ) → pass p t id pol ≡ o → Moves p t id pol (after_first_alone p t id pol o) (after_first p t id pol o)
  first_moves (no k) e = stays
  first_moves (ok x s) e = turn (any is_both s.bits)
    where
      turn : (b : Bool) → Moves p t id pol (if b (λ _. after_second_alone s (pass (with_set p s) t id pol)) (λ _. shown (of_one x s s.bailed)))
          (if b (λ _. after_second s.ops s.sorted s.bailed (pass (with_set p s) t id pol)) (λ _. shown (of_one x s s.bailed)))
      turn true = second_moves e (pass (with_set p s) t id pol) refl
      turn false = stays

module _ (t : Table) (id : ℕ) (pol : Polarity) where
  -- the answer is the one before, and its mark tells of the first pass too
  pub mark_of_either : answer_of t id pol ≡ marked_too (did_bail (pass (first_pass t) (reader_of t) id pol)) (answer_alone t id pol)
  unfolding answer_of canonicalize
  mark_of_either = first_marked (first_pass t) (reader_of t) id pol (pass (first_pass t) (reader_of t) id pol)

  -- it moved by the mark at most, from 0 to 1, where the first pass bailed and the second did not
  pub mark_moves : Moves (first_pass t) (reader_of t) id pol (answer_alone t id pol) (answer_of t id pol)
  unfolding answer_of canonicalize
  mark_moves = first_moves (first_pass t) (reader_of t) id pol (pass (first_pass t) (reader_of t) id pol) refl

-- the line of a root with this mark; a flag takes one byte
module _ (id s passes ops n : ℕ) (sorted : Bool) where
  abbrev row : Bool → List ℕ
  row mark = root_head ∷ id ∷ s ∷ passes ∷ ops ∷ flag sorted ∷ flag mark ∷ n ∷ []

  head_weighs : (mark : Bool) → length (head_text (row mark)) ≡ weigh (row_texts head_kinds (row mark))
  unfolding row_texts
  head_weighs mark = line_length_lem (get_or head_kinds root_head no_kind).word (shape_texts (get_or head_kinds root_head no_kind).shape (drop 1 (row mark)))

  weighs_alike : weigh (row_texts head_kinds (row false)) ≡ weigh (row_texts head_kinds (row true))
  unfolding row_texts field_text decimal
  weighs_alike = refl

  head_as_long : length (head_text (row false)) ≡ length (head_text (row true))
  head_as_long = head_weighs false ∙ weighs_alike ∙ sym (head_weighs true)

answer_as_long : {p : Pass} {t : Reader} {id : ℕ} {pol : Polarity} (i s : ℕ) {a b : Answer} → Moves p t id pol a b → length (answer_text i s a) ≡ length (answer_text i s b)
answer_as_long i s stays = refl
answer_as_long i sign (rises {x} {y} {s} {u} e f g h) =
    let w = walk u.nodes y in
    let ns = node_texts u.nodes w 0 w in
    let head : Bool → List ℕ = λ mark. head_text (row i sign 2 (s.ops + u.ops) (length w) (s.sorted || u.sorted) mark) in
    length-append (head false) ns
    ∙ ap (λ (n : ℕ). n + length ns) (head_as_long i sign 2 (s.ops + u.ops) (length w) (s.sorted || u.sorted))
    ∙ sym (length-append (head true) ns)

joined_as_long : (f g : Root → List ℕ) → ((r : Root) → length (f r) ≡ length (g r)) → (rs : List Root) → length (joined (map f rs)) ≡ length (joined (map g rs))
joined_as_long f g e [] = refl
joined_as_long f g e (r ∷ rs) =
    length-append (f r) (joined (map f rs)) ∙ ap₂ (λ (m n : ℕ). m + n) (e r) (joined_as_long f g e rs) ∙ sym (length-append (g r) (joined (map g rs)))

-- and its listing has as many bytes, so that refusal 12 comes where it came
pub listing_as_long : (t : Table) → length (listing_alone t) ≡ length (listing_text Plain t)
unfolding listing_text root_text
listing_as_long t =
    let head = answers_text Plain (length t.roots) in
    length-append head _
    ∙ ap (λ (n : ℕ). length head + n) (joined_as_long _ (root_text_of Plain t)
    (λ r. answer_as_long r.id r.sign (mark_moves t r.id (polarity_of r.sign))
    ∙ ap (λ (a : Answer). length (answer_text r.id r.sign a)) (sym (plain_answer (answer_of t r.id (polarity_of r.sign))))) t.roots)
    ∙ sym (length-append head (joined (map (root_text_of Plain t) t.roots)))
