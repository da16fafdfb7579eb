-- `old_listing::set_fits` meets its contract: children, order of keys, order of optional keys and names are looked at one by one, and together they are the rules' test. Assumes nothing.
use Rattle.old_listing.proofs.Forms.{set_keys_no, set_kids_no, set_last, set_optional_no}
use mathlib.Core.Path.{sym, ◌∙◌}
use Rattle.old_listing.proofs.set_fits.Goals.{then-set_known, else-set_known, then-ascend, else-ascend}
use Rattle.old_listing.proofs.set_fits.Goals as goal

pub returns-then-ascend-2 : goal.returns-then-ascend-2
returns-then-ascend-2 c = elim c.if-ascend.branch [
  | then-ascend w ↦ elim c.if-set_known.branch [
    | then-set_known v ↦
        set_last c.set_known.ensures v.if-set_known.true c.places_of-p.ensures v.ascend.ensures (sym v.value-is ∙ w.if-ascend.true)
        w.ascend-then-ascend.ensures (sym w.value-is ∙ c.if-ascend-2.true) c.keys_known.ensures
    | else-set_known v ↦ absurd (cc (v.value-is, w.if-ascend.true, v.if-set_known.false))
  ]
  | else-ascend w ↦ absurd (cc (w.value-is, w.if-ascend.false, c.if-ascend-2.true))
]

pub returns-else-ascend-2 : goal.returns-else-ascend-2
returns-else-ascend-2 c = elim c.if-set_known.branch [
  | then-set_known v ↦ elim c.if-ascend.branch [
    | then-ascend w ↦
        set_optional_no c.set_known.ensures v.if-set_known.true c.places_of-p.ensures v.ascend.ensures (sym v.value-is ∙ w.if-ascend.true)
        w.ascend-then-ascend.ensures (sym w.value-is ∙ c.if-ascend-2.false) c.if-ascend-2.false
    | else-ascend w ↦
        set_keys_no c.set_known.ensures v.if-set_known.true c.places_of-p.ensures v.ascend.ensures (sym v.value-is ∙ w.if-ascend.false) c.if-ascend-2.false
  ]
  | else-set_known v ↦ set_kids_no c.set_known.ensures v.if-set_known.false c.if-ascend-2.false
]
