use Rattle.std.proofs.Common.{rules, arith, ap, length}
use Rattle.std.proofs.lemmas.List.{length-take, length-drop}
use Rattle.records.specs.declared.buffer.ChunkRow.{ChunkRow}
use Rattle.rows.specs.Vectors.{range}
use Rattle.rows.proofs.Walks.{range_front}
use Rattle.rows.proofs.view.Rows.new.Goals as goal

pub invariant_of-result : goal.invariant_of-result
invariant_of-result c =
    omega (arith, length-take {A = ChunkRow}, length-drop {A = ChunkRow}, ap length c.front.ensures, ap length c.behind.ensures)

pub returns : goal.returns
unfolding range
returns c = let e = range_front c.args.first c.args.count 65536 c.args.table.now in search (rules, e)
