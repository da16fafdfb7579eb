-- All scratch is lent in full, so the call is not refused for want of it and comes to the rules' canon.
use mathlib.Core.Path.{refl}
use Rattle.canon_call.proofs.Showing.{canon_shown}
use Rattle.canon_call.proofs.program.answer_canon.Goals as goal

pub returns : goal.returns
returns c =
    let args = c.args in
    canon_shown args.form args.text.now args.out.now refl refl refl refl c.canon_in-r.ensures c.canon_in-r.auto.out c.shown.ensures
