-- A request after a completion.
use Rattle.std.specs.Prelude.{Bool, true, false, Some, None, Option}
use Rattle.records.specs.declared.outcome.Outcome.{Outcome}
use Rattle.records.specs.declared.outcome.Outcome.TheVariants.{Timeout}
use Rattle.request.specs.declared.kinds.Request.{Request}
use Rattle.cqe.specs.declared.step.Step.{Step}

-- a request that wants another submission, or the result that it ended with; the file is told nothing
abbrev pub stepped : Request → Option Outcome → Step
stepped q o = record { request = q; outcome = o; unsupported = false }

abbrev pub goes_on : Request → Step
goes_on q = stepped q None

abbrev pub ends : Request → Outcome → Step
ends q o = stepped q (Some o)

-- the file is told that hints are not supported
abbrev pub unhinted : Request → Step
unhinted q = record { request = q; outcome = None; unsupported = true }

-- after a granted cancel what would go on ends in Timeout
abbrev pub settled_outcome : (cancelled : Bool) → Option Outcome → Option Outcome
settled_outcome true None = Some Timeout
settled_outcome false None = None
settled_outcome cancelled (Some o) = Some o

abbrev pub settled : (cancelled : Bool) → Step → Step
settled cancelled s = record { request = s.request; outcome = settled_outcome cancelled s.outcome; unsupported = s.unsupported }
