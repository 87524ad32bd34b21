use Rattle.std.proofs.Common.{map, ap, ◌∙◌}
use Rattle.std.proofs.lemmas.List.{map-set}
use Rattle.fixed.specs.Held.{held}
use Rattle.bytes_exchange.specs.Queues.{entry}
use Rattle.bytes_exchange.proofs.entry.MergeQueue.replace.Goals as goal

pub returns-clause-after : goal.returns-clause-after
returns-clause-after c = ap (map entry) c.replace.ensures.after ∙ map-set entry (held c.args.self.now.entries) c.args.place c.args.other
