use Rattle.std.proofs.Common.{rules}
use Rattle.rows.proofs.Walks.{along_stops, along_passes, along_end}
use Rattle.rows.proofs.view.Rows.advance.Goals as goal

pub returns-in-Some : goal.returns-in-Some
returns-in-Some c = search (rules, along_stops)

pub loop-row-preserved : goal.loop-row-preserved
loop-row-preserved c = search (rules, along_passes)

pub returns : goal.returns
returns c = search (rules, along_end)
