-- All scratch is lent in full, so the call is not refused for want of it and comes to the rules' recheck.
use mathlib.Core.Path.{refl}
use Rattle.recheck_call.proofs.Showing.{recheck_shown}
use Rattle.recheck_call.proofs.program.answer_recheck.Goals as goal

pub returns : goal.returns
returns c =
    let args = c.args in
    recheck_shown args.form args.old.now args.new.now args.listing.now args.out.now refl refl refl refl refl c.recheck_in-r.ensures
    c.recheck_in-r.auto.out c.shown.ensures
