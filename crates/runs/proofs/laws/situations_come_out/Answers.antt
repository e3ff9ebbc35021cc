use Rattle.std.proofs.Common.{rules}
use Rattle.rows.specs.Vectors.{range, total, all_within, carried_in, iovecs_of, iovec_bytes, along}
use Rattle.runs.proofs.laws.situations_come_out.Goals as goal

-- computed
pub returns : goal.returns
unfolding range total all_within carried_in iovecs_of iovec_bytes along
returns c = search rules
