-- What is in flight after a call.
use Rattle.std.specs.Prelude.{Bool, false, cond, ℤ, Some, None, Ok, Err, vec_items, Option, Result}
use Rattle.records.specs.declared.denial.Denial.{Denial}
use Rattle.records.specs.declared.submission.Submission.{Submission}
use Rattle.records.specs.declared.waiter.WaiterState.TheVariants.{Active, CancelRequested}
use Rattle.records.specs.declared.outcome.Outcome.{Outcome}
use Rattle.cqe.specs.declared.step.Step.{Step}
use Rattle.sqe.specs.declared.Setting.{Setting}
use Rattle.runs.specs.declared.transfer.Standing.{Standing}
use Rattle.runs.specs.declared.transfer.Transfer.{Transfer}
use Rattle.runs.specs.Calls.{submit_answer, submit_after, complete_answer, complete_after, left_at}
use Rattle.transfer.specs.declared.play.Player.{Player}
use Rattle.transfer.specs.declared.play.Running.{Running}

-- the same run, with its transfer standing elsewhere
abbrev pub moved_to : Running → Standing → Running
moved_to r p = record { transfer = left_at r.transfer p; state = r.state; token = r.token }

-- nothing is in flight where no submission could be built
abbrev pub in_flight : Running → Standing → Result Submission Denial → Option Running
in_flight r p (Ok s) = Some (moved_to r p)
in_flight r p (Err d) = None

-- a running transfer keeps its own token
abbrev pub setting_of : Player → Running → Setting
setting_of p r = record { descriptor = p.setting.descriptor; hints = p.setting.hints; token = r.token; list = p.setting.list }

abbrev pub submitted : Player → Running → Option Running
submitted p r = in_flight r
    (submit_after (vec_items p.table) r.transfer.standing (setting_of p r) (vec_items p.iovecs))
    (submit_answer (vec_items p.table) r.transfer.standing (setting_of p r) (vec_items p.iovecs))

abbrev pub began : Player → Result Transfer Denial → Option Running
began p (Ok t) = submitted p (record { transfer = t; state = Active None; token = p.setting.token })
began p (Err d) = None

abbrev pub cancelled : Option Running → Option Running
cancelled None = None
cancelled (Some r) = Some (record { transfer = r.transfer; state = CancelRequested; token = r.token })

-- the word that a file does not support hints lasts
abbrev pub marked : Setting → (unsupported : Bool) → Setting
marked s unsupported = record { descriptor = s.descriptor; hints = cond unsupported false s.hints; token = s.token; list = s.list }

abbrev pub with_setting : Player → Setting → Player
with_setting p s = record { table = p.table; iovecs = p.iovecs; setting = s; running = p.running }

abbrev pub followed : Player → Running → Option Outcome → Option Running
followed p r None = submitted p r
followed p r (Some o) = None

abbrev pub step_followed : Player → Running → Step → Option Running
step_followed p r s = followed (with_setting p (marked p.setting s.unsupported)) r s.outcome

-- a completion that does not fit changes nothing
abbrev pub answered : Player → Running → Standing → Result Step Denial → Option Running
answered p r after (Ok s) = step_followed p (moved_to r after) s
answered p r after (Err d) = Some r

abbrev pub completed : Player → Option Running → ℤ → Option Running
completed p None z = None
completed p (Some r) z = answered p r
    (complete_after (vec_items p.table) r.transfer.standing r.state z)
    (complete_answer (vec_items p.table) r.transfer.standing r.state z)
