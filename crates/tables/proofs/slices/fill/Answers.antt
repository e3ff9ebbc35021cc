use Rattle.std.proofs.Common.{rules}
use Rattle.std.proofs.lemmas.List.{take_more_set, replicate_more, take_all}
use Rattle.tables.proofs.slices.fill.Goals as goal

pub loop-y-preserved : goal.loop-y-preserved
loop-y-preserved g c = search (rules, take_more_set, replicate_more)

pub returns : goal.returns
returns g c = search (rules, take_all)
