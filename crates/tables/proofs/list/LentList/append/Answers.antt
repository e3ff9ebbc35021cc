use Rattle.std.proofs.Common.{sym, rules}
use Rattle.tables.proofs.Laying.{took}
use Rattle.tables.proofs.list.LentList.append.Goals as goal

pub returns-clause-answer : goal.returns-clause-answer
returns-clause-answer g c = sym (took _ _ c.in_ok-longer.longer _ c.args.x c.self.view_is (search rules)).0

pub returns-clause-list : goal.returns-clause-list
returns-clause-list g c = rw c.append.ensures.list (took _ _ c.in_ok-longer.longer _ c.args.x c.self.view_is (search rules)).1
