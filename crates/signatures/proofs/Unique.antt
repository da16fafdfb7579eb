-- What an export promises leaves nothing open: two numbers that keep it are the same and tell the same outcome, and output and scratch after
-- them are the same. Assumes nothing.
use mathlib.Core.Path.{◌≡◌}
use Prim.Native.Nat.{ℕ}
use mathlib.Core.List.{List}
use Rattle.rules.specs.declared.Form.{Form}
use Rattle.outcomes.proofs.Promises.{Same}
use Rattle.canon_call.specs.Called.{Canon, CanonRoot}
use Rattle.canon_call.proofs.Unique.{canon_unique, canon_root_unique}
use Rattle.recheck_call.specs.Rechecked.{Rechecked}
use Rattle.recheck_call.proofs.Unique.{recheck_unique}
use Rattle.signatures.specs.Exports.{told_by, Exported}
use Rattle.signatures.proofs.Codes.{told_one}

module _ {draft table arena work o d t a w o' d' t' a' w' : List ℕ} {c c' : ℕ} where
  pub canon_export_unique : (form : Form) (text out : List ℕ) → Exported (Canon form text out draft table arena work o d t a w) c
      → Exported (Canon form text out draft table arena work o' d' t' a' w') c' → Same o d t a w (told_by c) o' d' t' a' w' (told_by c') × (c ≡ c')
  canon_export_unique form text out x y = let p = canon_unique form text out x.promised y.promised in (p, told_one c c' p.0)

  pub canon_root_export_unique : (text : List ℕ) (id sign : ℕ) (out : List ℕ) → Exported (CanonRoot text id sign out draft table arena work o d t a w) c
      → Exported (CanonRoot text id sign out draft table arena work o' d' t' a' w') c' → Same o d t a w (told_by c) o' d' t' a' w' (told_by c') × (c ≡ c')
  canon_root_export_unique text id sign out x y = let p = canon_root_unique text id sign out x.promised y.promised in (p, told_one c c' p.0)

module _ {draft old table arena work o d s t a w o' d' s' t' a' w' : List ℕ} {c c' : ℕ} where
  pub recheck_export_unique : (form : Form) (oldText newText listing out : List ℕ)
      → Exported (Rechecked form oldText newText listing out draft old table arena work o d s t a w) c
      → Exported (Rechecked form oldText newText listing out draft old table arena work o' d' s' t' a' w') c'
      → Same o d t a w (told_by c) o' d' t' a' w' (told_by c') × (s ≡ s') × (c ≡ c')
  recheck_export_unique form oldText newText listing out x y =
      let p = recheck_unique form oldText newText listing out x.promised y.promised in (p.0, p.1, told_one c c' p.0.0)
