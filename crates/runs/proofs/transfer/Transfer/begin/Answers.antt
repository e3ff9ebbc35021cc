use Rattle.runs.proofs.Recording.{begin_recorded}
use Rattle.runs.proofs.transfer.Transfer.begin.Goals as goal

pub returns-clause-recorded : goal.returns-clause-recorded
returns-clause-recorded c = rw c.admit.ensures.answer (begin_recorded c.args.table.now c.args.wanted)
