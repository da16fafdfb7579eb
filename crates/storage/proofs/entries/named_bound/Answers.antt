use Rattle.storage.proofs.EntryReads.{named_found}
use Rattle.std.proofs.Common.{rules}
use Rattle.storage.proofs.entries.named_bound.Goals as goal

pub returns : goal.returns
returns c = named_found c.find_named.result c.find_named.ensures c.or_else.ensures (λ p. search rules)
