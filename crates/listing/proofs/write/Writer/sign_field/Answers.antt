use Rattle.listing.proofs.Texts.{sign_plus, sign_minus}
use Rattle.listing.proofs.write.Writer.sign_field.Goals as goal

pub returns-then-sign-eq0 : goal.returns-then-sign-eq0
returns-then-sign-eq0 c = search sign_plus

pub returns-else-sign-eq0 : goal.returns-else-sign-eq0
returns-else-sign-eq0 c = search sign_minus
