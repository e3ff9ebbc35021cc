use Rattle.std.proofs.Common.{rules, arith, ap, length}
use Rattle.std.proofs.lemmas.List.{length-take}
use Rattle.records.specs.declared.buffer.ChunkRow.{ChunkRow}
use Rattle.rows.specs.Vectors.{carried_in}
use Rattle.rows.proofs.view.Rows.carried.Goals as goal

pub returns-clause-rows : goal.returns-clause-rows
unfolding carried_in
returns-clause-rows c = search rules

pub returns-clause-few : goal.returns-clause-few
returns-clause-few c = omega (arith, length-take {A = ChunkRow}, ap length c.front.ensures)
