use Rattle.runs.proofs.Keeping.{every_run}
use Rattle.runs.proofs.laws.every_run_is_lawful.Goals as goal

pub returns : goal.returns
returns c = every_run
