-- A set's row with answers in place of ids. Assumes nothing.
use mathlib.Core.Path.{◌≡◌, refl, sym, ap, ◌∙◌, subst}
use mathlib.Core.Bool.{Bool, true, false}
use mathlib.Core.Logic.{⊎_elim}
use Prim.Native.Nat.{ℕ, suc, ◌+◌, ◌*◌, ◌≤◌, ◌<◌}
use native.Mathlib.Omega.{arith}
use native.Mathlib.Nat.{eq-or-lt_of_le, not-suc-le-zero}
use mathlib.Core.List.{List, [], ◌∷◌, ◌++◌}
use lib.ListN.{length, get_or, set, length-set, length-append, length-map}
use lib.Seq.{get_or-set_same, get_or-set_other}
use lib.Dec.{eqb}
use borrow.Author.Tests.{eqb-true, eqb-false}
use Rattle.cells.specs.Part.{cell, part}
use Rattle.cells.specs.Sum.{Sum}
use Rattle.cells.proofs.Holding.{holds_none, holds_place, holds_head, holds_tail, holds_cons, holds_right, holds_both, holds_at, holds_from}
use Rattle.layout.specs.Layout.{arena_length}
use Rattle.rules.specs.Ceilings.{most_names}
use Rattle.rules.specs.Table.{Field, Attr, field_keys, field_types, dyn_ids, attr_kids}
use Rattle.rules.specs.Types.{field_words, dyn_words, attr_words, AttrSet}
use Rattle.laws.specs.Sound.{Orderly}
use Rattle.laws.proofs.Ascending.{ascending_few, orderly_same}
use Rattle.laws.proofs.Rows.{field_words_length, dyn_words_length, attr_words_length, few_dyns, set_count, set_fields, set_dyn, dyns_read, key_read}
use Rattle.lang_ty.specs.declared.arena.Pass.{Pass}
use Rattle.lang_ty.specs.Given.{Given}
use Rattle.lang_ty.specs.Nodes.{highest, Interned, Top, Written}
use Rattle.lang_ty.specs.Sets.{Fields, Dyns, Optionals}
use Rattle.lang_ty.proofs.Rows.{written_none, written_more, written_list, written_both, stored_row}
use Rattle.storage.specs.Sets.{retype_fields, retype_dyn, retyped, PutsTypes, PutsDyn, StoresSet}
use Rattle.cells.specs.Placed.{Holds, Under}
use mathlib.Core.Option.{Option, none, some}

-- `put_types` at field i
pub record Putting (w₀ : List ℕ) (a n : ℕ) (held : List ℕ) (h : ℕ) (w : List ℕ) (i : ℕ) : Type 0 where
  pub few : i ≤ n
  pub same_length : length w ≡ length w₀
  pub is : (j : ℕ) → j < i → 2 * n ≤ 4294967295 → a + 2 * j + 2 < length w₀ → cell w (a + 2 * j + 2) ≡ cell held (h + j)
  pub other : (k : ℕ) → 2 * n ≤ 4294967295 → ((j : ℕ) → j < i → k ≡ a + 2 * j + 2 → ⊥) → cell w k ≡ cell w₀ k

module _ {w₀ held : List ℕ} {a n h : ℕ} where
  pub putting_start : Putting w₀ a n held h w₀ 0
  putting_start = record { few = omega arith; same_length = refl; is = λ j lt. absurd (not-suc-le-zero lt); other = λ k fits un. refl }

  pub putting_more : {w w' : List ℕ} {i m o p r v : ℕ} → w' ≡ set w p v → p ≡ a + o → Sum m 2 o → Sum i i m → v ≡ cell held r → r ≡ h + i
      → Putting w₀ a n held h w i → i < n → Putting w₀ a n held h w' (i + 1)
  putting_more {w} {w'} {i} {m} {o} {p} {r} {v} put place more two read from c lt =
      let at : 2 * n ≤ 4294967295 → p ≡ a + 2 * i + 2 = λ fits. let x = two.is (omega arith) in let y = more.is (omega arith) in omega arith in
      subst (λ (l : List ℕ). Putting w₀ a n held h l (i + 1)) (sym put)
      (record {
        few = omega arith;
        same_length = length-set w p v ∙ c.same_length;
        is = λ j lj fits room.
            let z = at fits in
            ⊎_elim
            (λ (e : j ≡ i).
            let y : a + 2 * j + 2 ≡ p = omega arith in
            ap (cell (set w p v)) y ∙ get_or-set_same w p v 0 (omega (arith, c.same_length)) ∙ read ∙ ap (cell held) (omega arith))
            (λ (e : j < i). get_or-set_other w p (a + 2 * j + 2) v 0 (λ y. omega arith) ∙ c.is j e fits room)
            (eq-or-lt_of_le (omega arith));
        other = λ k fits un.
            let z = at fits in
            get_or-set_other w p k v 0 (λ y. un i (omega arith) (y ∙ z)) ∙ c.other k fits (λ j lj. un j (omega arith));
      })

  pub putting_done : {w : List ℕ} {i : ℕ} → Putting w₀ a n held h w i → n ≤ i → PutsTypes w₀ a n held h w
  putting_done c le =
      record {
        same_length = c.same_length;
        is = λ j lt. c.is j (omega arith);
        other = λ k fits un. c.other k fits (λ j lt. un j (omega (arith, c.few)));
      }

-- the set with answers: as many fields, and the answers as its children
retype_length : (fs : List Field) (xs : List ℕ) → length (retype_fields fs xs) ≡ length fs
retype_length [] xs = refl
retype_length (f ∷ fs) [] = ap suc (retype_length fs [])
retype_length (f ∷ fs) (x ∷ xs) = ap suc (retype_length fs xs)

keys_retyped : (fs : List Field) (xs : List ℕ) → field_keys (retype_fields fs xs) ≡ field_keys fs
keys_retyped [] xs = refl
keys_retyped (f ∷ fs) [] = ap (λ (ks : List ℕ). f.key ∷ ks) (keys_retyped fs [])
keys_retyped (f ∷ fs) (x ∷ xs) = ap (λ (ks : List ℕ). f.key ∷ ks) (keys_retyped fs xs)

pub orderly_retyped : (a : Attr) (xs : List ℕ) → Orderly a → Orderly (retyped a xs)
orderly_retyped a xs o = orderly_same a (retype_fields a.fields xs) (keys_retyped a.fields xs) o

retype_dyns : (d : Option ℕ) (x : ℕ) → length (dyn_ids (retype_dyn d x)) ≡ length (dyn_ids d)
retype_dyns none x = refl
retype_dyns (some d) x = refl

retype_kids : (fs : List Field) (d : Option ℕ) (xs : List ℕ) → length xs ≡ length fs + length (dyn_ids d)
    → field_types (retype_fields fs xs) ++ dyn_ids (retype_dyn d (cell xs (length fs))) ≡ xs
retype_kids [] none [] e = refl
retype_kids [] none (x ∷ xs) e = absurd (omega arith)
retype_kids [] (some d) [] e = absurd (omega arith)
retype_kids [] (some d) (x ∷ []) e = refl
retype_kids [] (some d) (x ∷ y ∷ xs) e = absurd (omega arith)
retype_kids (f ∷ fs) d [] e = absurd (omega arith)
retype_kids (f ∷ fs) d (x ∷ xs) e = ap (λ (l : List ℕ). x ∷ l) (retype_kids fs d xs (omega arith))

-- fields with these keys and answers stand from p on
fields_put : {w : List ℕ} {p : ℕ} (fs : List Field) (xs : List ℕ) → length fs ≤ length xs
    → ((i : ℕ) → i < length fs → cell w (p + 2 * i) ≡ get_or (field_keys fs) i 0)
    → ((i : ℕ) → i < length fs → cell w (p + 2 * i + 1) ≡ get_or xs i 0) → Holds w p (field_words (retype_fields fs xs))
fields_put {w} {p} [] xs le keys types = holds_none w p
fields_put (f ∷ fs) [] le keys types = absurd (not-suc-le-zero le)
fields_put {w} {p} (f ∷ fs) (x ∷ xs) le keys types =
    holds_cons (ap (cell w) (omega arith) ∙ keys 0 (omega arith))
    (holds_cons (ap (cell w) (omega arith) ∙ types 0 (omega arith))
    (fields_put fs xs (omega arith) (λ i lt. ap (cell w) (omega arith) ∙ keys (suc i) (omega arith)) (λ i lt. ap (cell w) (omega arith) ∙ types (suc i) (omega arith))))

-- a dyn with this answer stands at p
dyn_stands : {w : List ℕ} {p x : ℕ} (d : Option ℕ) → cell w p ≡ length (dyn_ids d) → (0 < length (dyn_ids d) → cell w (suc p) ≡ x)
    → Holds w p (dyn_words (retype_dyn d x))
dyn_stands {w} {p} none e f = holds_cons e (holds_none w (suc p))
dyn_stands {w} {p} (some d) e f = holds_cons e (holds_cons (f (omega arith)) (holds_none w (suc (suc p))))

-- the row of a set after its answers were put
module _ {w w₁ w₂ held xs : List ℕ} {b n d h : ℕ} (t : Attr) (row : Holds w b (attr_words t)) (puts : PutsTypes w b n held h w₁) (dyn : PutsDyn w₁ b n d held h w₂)
    (fields : n ≡ length t.fields) (dyns : d ≡ length (dyn_ids t.dyn)) (few : n ≤ most_names) (answers : Holds held h xs) (size : length xs ≡ length (attr_kids t))
    (room : b + length (attr_words t) ≤ length w) where
  kids_length : length xs ≡ length t.fields + length (dyn_ids t.dyn)
  kids_length = omega (arith, size, length-append (field_types t.fields) (dyn_ids t.dyn), length-map t.fields (λ (f : Field). f.type))

  dyn_same : (k : ℕ) → (k ≡ b + (2 * n + 2) → ⊥) → cell w₂ k ≡ cell w₁ k
  dyn_same k un = turn (eqb d 0) refl where
    turn : (z : Bool) → eqb d 0 ≡ z → cell w₂ k ≡ cell w₁ k
    turn true e = ap (λ (l : List ℕ). cell l k) (dyn.none (eqb-true d 0 e))
    turn false e = ap (λ (l : List ℕ). cell l k) (dyn.some (eqb-false d 0 e) (omega arith)) ∙ get_or-set_other w₁ (b + (2 * n + 2)) k (cell held (h + n)) 0 un

  put_same : (k : ℕ) → ((i : ℕ) → i < n → k ≡ b + 2 * i + 2 → ⊥) → (k ≡ b + (2 * n + 2) → ⊥) → cell w₂ k ≡ cell w k
  put_same k un last = dyn_same k last ∙ puts.other k (omega arith) un

  put_length : length w₂ ≡ length w
  put_length = turn (eqb d 0) refl where
    turn : (z : Bool) → eqb d 0 ≡ z → length w₂ ≡ length w
    turn true e = ap length (dyn.none (eqb-true d 0 e)) ∙ puts.same_length
    turn false e =
        ap length (dyn.some (eqb-false d 0 e) (omega arith)) ∙ length-set w₁ (b + (2 * n + 2)) (cell held (h + n)) ∙ puts.same_length

  put_fields : Holds w₂ (b + 1) (field_words (retype_fields t.fields xs))
  put_fields =
      let long = attr_words_length t in
      let all = kids_length in
      fields_put t.fields xs (omega arith)
      (λ i lt. put_same (b + 1 + 2 * i) (λ j lj e. omega arith) (λ e. omega arith) ∙ key_read t.fields i (set_fields t row) lt)
      (λ i lt.
      ap (cell w₂) (omega arith) ∙ dyn_same (b + 2 * i + 2) (λ e. omega arith)
      ∙ puts.is i (omega arith) (omega arith) (omega arith) ∙ holds_at answers i (omega arith))

  put_dyn : Holds w₂ (b + 1 + 2 * length t.fields) (dyn_words (retype_dyn t.dyn (cell xs (length t.fields))))
  put_dyn =
      let long = attr_words_length t in
      let all = kids_length in
      dyn_stands t.dyn
      (put_same (b + 1 + 2 * length t.fields) (λ j lj e. omega arith) (λ e. omega arith) ∙ dyns_read t.dyn (set_dyn t row))
      (λ has.
      ap (cell w₂) (omega arith) ∙ ap (λ (l : List ℕ). cell l (b + (2 * n + 2))) (dyn.some (λ e. omega arith) (omega arith))
      ∙ get_or-set_same w₁ (b + (2 * n + 2)) (cell held (h + n)) 0 (omega (arith, puts.same_length))
      ∙ ap (λ (k : ℕ). cell held (h + k)) fields ∙ holds_at answers (length t.fields) (omega arith))

  abbrev rest : List ℕ
  rest = t.is_open ∷ length t.optional ∷ t.optional

  put_rest : Holds w₂ (b + 2 * n + 2 + d) rest
  put_rest =
      let old = holds_right (field_words t.fields ++ dyn_words t.dyn) rest (holds_tail row) in
      let before = length-append (field_words t.fields) (dyn_words t.dyn) in
      let fw = field_words_length t.fields in
      let dw = dyn_words_length t.dyn in
      let z : suc b + length (field_words t.fields ++ dyn_words t.dyn) ≡ b + 2 * n + 2 + d = omega arith in
      holds_from w₂ (b + 2 * n + 2 + d) rest
      (λ i lt. same (b + 2 * n + 2 + d + i) (omega arith) ∙ holds_at (holds_place z old) i lt) where
        same : (k : ℕ) → b + 2 * n + 2 + d ≤ k → cell w₂ k ≡ cell w k
        same k le = turn (eqb d 0) refl where
          turn : (z : Bool) → eqb d 0 ≡ z → cell w₂ k ≡ cell w k
          turn true e = ap (λ (l : List ℕ). cell l k) (dyn.none (eqb-true d 0 e)) ∙ puts.other k (omega arith) (λ j lj y. omega arith)
          turn false e = let un = eqb-false d 0 e in put_same k (λ j lj y. omega arith) (λ y. un (omega arith))

  put_row : Holds w₂ b (attr_words (retyped t xs))
  put_row =
      let fs = retype_fields t.fields xs in
      let d' = retype_dyn t.dyn (cell xs (length t.fields)) in
      let same = retype_length t.fields xs in
      let fw = field_words_length fs in
      let dw = dyn_words_length d' in
      let dl = retype_dyns t.dyn (cell xs (length t.fields)) in
      let before = length-append (field_words fs) (dyn_words d') in
      holds_cons (put_same b (λ j lj e. omega arith) (λ e. omega arith) ∙ set_count t row ∙ sym same)
      (holds_place (omega arith)
      (holds_both (field_words fs ++ dyn_words d') rest
      (holds_both (field_words fs) (dyn_words d') put_fields (holds_place (omega arith) put_dyn))
      (holds_place (omega arith) put_rest)))

-- `store_set`
pub stores_set : {table w held w₁ w₂ w₃ w₄ w' : List ℕ} {a h n d k two m e len top b l cells : ℕ} {q : Pass} {r : Given} → Fields table a n
    → Dyns table a d → Optionals table a k
    → Sum n n two → Sum two k m → Sum d 4 e → Sum m e len → Top w q top → Sum top 1 b → w₁ ≡ set w top 4 → Written b w₁ w₂ (part table a len)
    → PutsTypes w₂ b n held h w₃ → PutsDyn w₃ b n d held h w₄ → Sum len 1 l → Sum two k cells → Interned w₄ q l cells w' r
    → StoresSet table a w held h q w' r
stores_set {table} {w = w} {w₂ = w₂} {a = a} {n = n} {d = d} {k = k} {len = len} {top = top} {b = b} {q = q} f g o s₁ s₂ s₃ s₄ high s₅ kind copy puts dyn s₆ s₇ interned =
    record {
      is = λ {st} {t} {xs} on at orderly answers size under.
          let arena = on.arena in
          let fields : n ≡ length t.fields = f.is at in
          let dyns : d ≡ length (dyn_ids t.dyn) = g.is at in
          let optionals : k ≡ length t.optional = o.is at in
          let keys = ascending_few most_names (field_keys t.fields) orderly.ascend orderly.named in
          let few : n ≤ most_names = omega (arith, fields, length-map t.fields (λ (x : Field). x.key)) in
          let short : k ≤ most_names = omega (arith, optionals, orderly.few) in
          let one : d ≤ 1 = omega (arith, dyns, few_dyns t.dyn) in
          let long = attr_words_length t in
          let e₁ = s₁.is (omega arith) in
          let e₂ = s₂.is (omega arith) in
          let e₃ = s₃.is (omega arith) in
          let e₄ = s₄.is (omega arith) in
          let e₆ = s₆.is (omega arith) in
          let e₇ = s₇.is (omega arith) in
          let low : top ≤ highest = omega (arith, high.is, arena.top, arena.few, arena.cells) in
          let e₅ : b ≡ top + 1 = s₅.is (omega arith) in
          let whole : len ≡ length (attr_words t) = omega arith in
          let room : arena_length ≤ length w = arena.room in
          let written = written_both (written_more 4 (written_none top w) (omega arith) kind) e₅ (written_list (ap (part table a) whole ∙ at.words.is) copy) in
          let old = written.row (omega arith) in
          let there : Holds w₂ b (attr_words t) = holds_place (omega arith) (holds_tail old) in
          let fit : b + length (attr_words t) ≤ length w₂ = omega (arith, written.same_length) in
          let same = put_same t there puts dyn fields dyns few answers size fit in
          let more = attr_words_length (retyped t xs) in
          let more₁ = retype_length t.fields xs in
          let more₂ = retype_dyns t.dyn (cell xs (length t.fields)) in
          let kids : attr_kids (retyped t xs) ≡ xs = retype_kids t.fields t.dyn xs (kids_length t there puts dyn fields dyns few answers size fit) in
          (stored_row high
          (record {
            same_length = put_length t there puts dyn fields dyns few answers size fit ∙ written.same_length;
            below = λ j lt. same j (λ i li z. omega arith) (λ z. omega arith) ∙ written.below j lt;
            row = λ _. holds_cons (same top (λ i li z. omega arith) (λ z. omega arith) ∙ holds_head old)
                (holds_place (omega arith) (put_row t there puts dyn fields dyns few answers size fit));
          })
          (omega arith) interned).is {n = AttrSet (retyped t xs)} on
          (record { cells = omega arith; few = omega arith; below = subst (λ (ys : List ℕ). Under q.nodes ys) (sym kids) under; ordered = orderly_retyped t xs orderly; short = omega arith }) refl;
    }
