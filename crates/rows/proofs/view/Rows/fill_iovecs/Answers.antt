use Rattle.std.proofs.Common.{rules, arith}
use Rattle.std.proofs.lemmas.List.{drop-set-lt}
use Rattle.rows.proofs.Walks.{fill_more, fill_end}
use Rattle.rows.proofs.view.Rows.fill_iovecs.Goals as goal

pub loop-i-preserved : goal.loop-i-preserved
loop-i-preserved c = search (rules, fill_more, drop-set-lt)

pub returns-clause-list : goal.returns-clause-list
returns-clause-list c =
    let e = fill_end c.carried-carried.result.now c.loop-i.iovecs c.args.iovecs.now c.loop-i.i c.loop-i.within (omega arith) c.loop-i.invariant.1 in
    search (rules, e)
