use Rattle.runs.proofs.Recording.{submit_recorded}
use Rattle.runs.proofs.transfer.Transfer.submit.Goals as goal

pub returns-clause-recorded : goal.returns-clause-recorded
returns-clause-recorded c =
    rw (c.stage.ensures.answer, c.stage.ensures.after, c.stage.ensures.list) (submit_recorded _ _ _ _ _)
