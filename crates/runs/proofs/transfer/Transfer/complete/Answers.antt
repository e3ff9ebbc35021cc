use Rattle.std.proofs.Common.{◌≡◌, rules}
use Rattle.runs.specs.Calls.{complete_answer, complete_after, left_at}
use Rattle.runs.proofs.Recording.{complete_recorded}
use Rattle.runs.proofs.transfer.Transfer.complete.Goals as goal

pub returns-clause-recorded : goal.returns-clause-recorded
returns-clause-recorded c =
    let a : c.hear.result ≡ complete_answer c.args.table.now c.args.self.now.standing c.args.state c.args.res = search rules in
    let b : c.hear.new.self ≡ left_at c.args.self.now (complete_after c.args.table.now c.args.self.now.standing c.args.state c.args.res) = search rules in
    rw (a, b) (complete_recorded c.args.table.now c.args.self.now.wanted c.args.self.now.standing c.args.state c.args.res)
