-- Lines that are no nodes: fields after a keyword, each after a tab. Assumes nothing.
use mathlib.Core.Path.{◌≡◌, sym, ap, ap₂, ◌∙◌}
use Prim.Native.Nat.{ℕ}
use mathlib.Core.List.{List, [], ◌∷◌, ◌++◌, append-nil, append_assoc}
use Rattle.rules.specs.Plain.{ascii, flag}
use Rattle.rules.specs.Text.{tab, parted, decimal, field_text, a_sign, row_texts, line_text}
use Rattle.rules.specs.Canonicalizer.{refused_with}
use Rattle.rules.specs.Listing.{numbered_text, answers_text, answer_text}
use Rattle.rules.specs.declared.Form.{Form}
use Rattle.rules.specs.declared.Form.TheVariants.{Plain, Numbered}
use Rattle.lang_ty.specs.declared.arena.Shown.{Shown}
use Rattle.listing.specs.Writes.{Wrote}
use Rattle.listing.specs.Printed.{tabbed, count_texts, head_line}
use Rattle.listing.proofs.Texts.{wrote_none, wrote_more, wrote_as}

parted_tabbed : (w : List ℕ) (fs : List (List ℕ)) → w ++ tabbed fs ≡ parted tab (w ∷ fs)
parted_tabbed w [] = append-nil w
parted_tabbed w (f ∷ fs) = ap (λ (l : List ℕ). w ++ (tab ∷ l)) (parted_tabbed f fs)

-- a line is its keyword, its fields and a line feed
pub line_tabbed : (w : List ℕ) (fs : List (List ℕ)) → w ++ tabbed fs ++ (10 ∷ []) ≡ line_text (w ∷ fs)
line_tabbed w fs = ap (λ (l : List ℕ). l ++ (10 ∷ [])) (parted_tabbed w fs)

-- the line `numbered`, or none
pub numbered_none : {form : Form} {p : ℕ} {o : List ℕ} → form ≡ Plain → Wrote (numbered_text form) p o o p
numbered_none {p = p} {o} e = wrote_as (wrote_none p o) (ap numbered_text (sym e))

pub numbered_line_lem : {form : Form} {p r : ℕ} {o o' : List ℕ} → form ≡ Numbered → Wrote (ascii "numbered\n") p o o' r → Wrote (numbered_text form) p o o' r
numbered_line_lem e w = wrote_as w (ap numbered_text (sym e))

module _ {p q₁ q₂ q₃ r : ℕ} {o o₁ o₂ o₃ o₄ : List ℕ} where
  pub answers_is : (form : Form) (n : ℕ) → Wrote (ascii "answers") p o o₁ q₁ → Wrote (tab ∷ decimal n) q₁ o₁ o₂ q₂ → Wrote (10 ∷ []) q₂ o₂ o₃ q₃
      → Wrote (numbered_text form) q₃ o₃ o₄ r → Wrote (answers_text form n) p o o₄ r
  unfolding row_texts field_text
  answers_is form n a b c d = wrote_more (wrote_more (wrote_more a b) c) d

module _ {p q₁ q₂ q₃ r : ℕ} {o o₁ o₂ o₃ o₄ : List ℕ} where
  pub refused_call_is : (n l : ℕ) → Wrote (ascii "refused") p o o₁ q₁ → Wrote (tab ∷ decimal n) q₁ o₁ o₂ q₂ → Wrote (tab ∷ decimal l) q₂ o₂ o₃ q₃
      → Wrote (10 ∷ []) q₃ o₃ o₄ r → Wrote (line_text (ascii "refused" ∷ decimal n ∷ decimal l ∷ [])) p o o₄ r
  refused_call_is n l a b c d = wrote_as (wrote_more (wrote_more (wrote_more a b) c) d) (simp append_assoc)

module _ {p q₁ q₂ q₃ q₄ r : ℕ} {o o₁ o₂ o₃ o₄ o₅ : List ℕ} where
  pub refused_root_is : (id s n : ℕ) → Wrote (ascii "refused") p o o₁ q₁ → Wrote (tab ∷ decimal id) q₁ o₁ o₂ q₂
      → Wrote (tab ∷ field_text a_sign (s ∷ [])) q₂ o₂ o₃ q₃
      → Wrote (tab ∷ decimal n) q₃ o₃ o₄ q₄ → Wrote (10 ∷ []) q₄ o₄ o₅ r → Wrote (answer_text id s (refused_with n)) p o o₅ r
  unfolding row_texts field_text
  refused_root_is id s n a b c d e = wrote_as (wrote_more (wrote_more (wrote_more (wrote_more a b) c) d) e) (simp append_assoc)

  pub counts_is : {x y : ℕ} (s : Shown) (n : ℕ) → Wrote (tab ∷ decimal s.passes) p o o₁ q₁ → Wrote (tab ∷ decimal s.ops) q₁ o₁ o₂ q₂ → x ≡ flag s.sorted
      → Wrote (tab ∷ decimal x) q₂ o₂ o₃ q₃ → y ≡ flag s.bailed → Wrote (tab ∷ decimal y) q₃ o₃ o₄ q₄ → Wrote (tab ∷ decimal n) q₄ o₄ o₅ r
      → Wrote (tabbed (count_texts s n)) p o o₅ r
  counts_is {x} {y} s n a b e c f d g =
      wrote_as (wrote_more (wrote_more (wrote_more (wrote_more a b) c) d) g)
      (together (decimal s.passes) (decimal s.ops) (decimal x) (decimal y) (decimal n)
      ∙ ap₂ {C = List ℕ} (λ (u v : ℕ). tabbed (decimal s.passes ∷ decimal s.ops ∷ decimal u ∷ decimal v ∷ decimal n ∷ [])) e f)
    where
      together : (a b c d e : List ℕ) → (tab ∷ a) ++ (tab ∷ b) ++ (tab ∷ c) ++ (tab ∷ d) ++ (tab ∷ e) ≡ tabbed (a ∷ b ∷ c ∷ d ∷ e ∷ [])
      together a b c d e = simp (append_assoc, append-nil)

  pub root_line_is : (id sign : ℕ) (s : Shown) (n : ℕ) → Wrote (ascii "root") p o o₁ q₁ → Wrote (tab ∷ decimal id) q₁ o₁ o₂ q₂
      → Wrote (tab ∷ field_text a_sign (sign ∷ [])) q₂ o₂ o₃ q₃ → Wrote (tabbed (count_texts s n)) q₃ o₃ o₄ q₄ → Wrote (10 ∷ []) q₄ o₄ o₅ r
      → Wrote (head_line id sign s n) p o o₅ r
  unfolding row_texts field_text
  root_line_is id sign s n a b c d e =
      wrote_as (wrote_more (wrote_more (wrote_more (wrote_more a b) c) d) e)
      (ap (λ (l : List ℕ). l ++ (10 ∷ []))
      (append_assoc (ascii "root" ++ (tab ∷ decimal id)) (tab ∷ field_text a_sign (sign ∷ [])) (tabbed (count_texts s n))
      ∙ append_assoc (ascii "root") (tab ∷ decimal id) (tab ∷ (field_text a_sign (sign ∷ []) ++ tabbed (count_texts s n))))
      ∙ line_tabbed (ascii "root") (decimal id ∷ field_text a_sign (sign ∷ []) ∷ count_texts s n))

-- a number in other words
pub field_as : {v p r : ℕ} {o o' : List ℕ} (n : ℕ) → v ≡ n → Wrote (tab ∷ decimal v) p o o' r → Wrote (tab ∷ decimal n) p o o' r
field_as n e a = wrote_as a (ap (λ (k : ℕ). tab ∷ decimal k) e)
