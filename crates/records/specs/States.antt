-- Whether a waiter's cancel was granted.
use Rattle.std.specs.Prelude.{Bool, true, false}
use Rattle.records.specs.declared.waiter.WaiterState.{WaiterState}
use Rattle.records.specs.declared.waiter.WaiterState.TheVariants.{Active, CancelRequested}

abbrev pub cancel_granted : WaiterState → Bool
cancel_granted (Active t) = false
cancel_granted CancelRequested = true
