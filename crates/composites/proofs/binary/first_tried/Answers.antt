use Rattle.composites.proofs.Tries.{first_once, first_twice}
use Rattle.composites.proofs.binary.first_tried.Goals as goal

pub returns-in-First : goal.returns-in-First
returns-in-First c = search first_once

pub returns-in-Again : goal.returns-in-Again
returns-in-Again c = search first_twice
