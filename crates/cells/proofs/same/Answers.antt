use mathlib.Core.Bool.{Bool}
use mathlib.Core.Path.{◌≡◌, ap₂, ◌∙◌}
use native.Mathlib.Omega.{arith}
use Prim.Native.Nat.{ℕ, ◌+◌, ◌-◌}
use Rattle.cells.specs.Part.{part, eq_list}
use Rattle.cells.proofs.Parts.{part_eq}
use Rattle.cells.proofs.same.Goals as goal

pub returns : goal.returns
returns c =
    let s = c.args.s.now in
    let a = c.args.a in
    let b = c.args.b in
    let n = c.args.n in
    let u : (a + n) - a ≡ n = omega arith in
    let v : (b + n) - b ≡ n = omega arith in
    c.eq.ensures
    ∙ part_eq s s a (a + n) b (b + n) (omega arith) c.requires.0 (omega arith) c.requires.1
    ∙ ap₂ {C = Bool} (λ (x y : ℕ). eq_list (part s a x) (part s b y)) u v
