-- What request 2 moved: the answer of a root as it was, where the mark told of the pass shown alone, and how far the answer of the rules is from it.
use Rattle.std.specs.Prelude.{◌≡◌, Bool, true, false, ◌||◌, ℕ, ◌+◌, List, ◌++◌, map, length}
use Rattle.cells.specs.Part.{if}
use Rattle.rules.specs.Plain.{any, joined}
use Rattle.rules.specs.Types.{State, Out, ok, no}
use Rattle.rules.specs.Table.{Table, Root}
use Rattle.rules.specs.Canonicalizer.{Pass, Reader, is_both, pass, Shown, Answer, shown, refused_with, with_set, reader_of, first_pass}
use Rattle.rules.specs.Listing.{answer_text, answers_text}
use Rattle.rules.specs.declared.Form.TheVariants.{Plain}
use Rattle.rules.specs.Types.{polarity_of}
use Rattle.rules.specs.declared.Polarity.{Polarity}

-- what one pass shows, s its state, with this mark
abbrev pub of_one : ℕ → State → Bool → Shown
of_one x s mark = record { passes = 1; operations = s.ops; sorted = s.sorted; bailed = mark; nodes = s.nodes; root = x }

-- what two passes show, s the first one's state and u the second one's, with this mark
abbrev pub of_both : State → ℕ → State → Bool → Shown
of_both s y u mark = record { passes = 2; operations = s.ops + u.ops; sorted = s.sorted || u.sorted; bailed = mark; nodes = u.nodes; root = y }

-- "bailed (1 if the pass shown bailed)"
abbrev pub after_second_alone : State → Out ℕ → Answer
after_second_alone s (no k) = refused_with k
after_second_alone s (ok y u) = shown (of_both s y u u.bailed)

abbrev pub after_first_alone : Pass → Reader → ℕ → Polarity → Out ℕ → Answer
after_first_alone p t id pol (no k) = refused_with k
after_first_alone p t id pol (ok x s) =
    if (any is_both s.bits) (λ _. after_second_alone s (pass (with_set p s) t id pol)) (λ _. shown (of_one x s s.bailed))

-- the answer of a root of a table as it was
abbrev pub answer_alone : Table → ℕ → Polarity → Answer
answer_alone t id pol = after_first_alone (first_pass t) (reader_of t) id pol (pass (first_pass t) (reader_of t) id pol)

-- the listing of a table as it was
abbrev pub listing_alone : Table → List ℕ
listing_alone t = answers_text Plain (length t.roots) ++ joined (map (λ (root : Root). answer_text root.id root.sign (answer_alone t root.id (polarity_of root.sign))) t.roots)

-- whether a pass bailed; one that is refused shows nothing
abbrev pub did_bail : Out ℕ → Bool
did_bail (no k) = false
did_bail (ok x s) = s.bailed

-- an answer whose mark tells of this too
abbrev pub marked_too : Bool → Answer → Answer
marked_too b (refused_with k) = refused_with k
marked_too b (shown a) =
    shown (record { passes = a.passes; operations = a.operations; sorted = a.sorted; bailed = b || a.bailed; nodes = a.nodes; root = a.root })

-- how far the first answer is from the second: not at all; or by the mark alone, 0 in the first and 1 in the second, where the first pass bailed
-- and the second pass did not. Which of the two it is, the equation `mark_of_either` says
pub data Moves (p : Pass) (t : Reader) (id : ℕ) (pol : Polarity) : Answer → Answer → Type 0 where
  stays : {a : Answer} → Moves p t id pol a a
  rises : {x y : ℕ} {s u : State} → pass p t id pol ≡ ok x s → s.bailed ≡ true → pass (with_set p s) t id pol ≡ ok y u → u.bailed ≡ false
      → Moves p t id pol (shown (of_both s y u false)) (shown (of_both s y u true))
