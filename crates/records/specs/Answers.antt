-- For each enum that a call answers: which number belongs to a case, and which values.
use Rattle.std.specs.Prelude.{ℕ, Bool, true, ◌&&◌, Some, None, Option, nat_le}
use Rattle.records.specs.declared.denial.Denial.{Denial}
use Rattle.records.specs.declared.denial.Denial.TheVariants.{FileNotLive, LimitBroken, UnfitForDirect, WrongObserver, NoFreeSlot, NoSuchWaiter, InFlight, CancelGranted, SettledOtherwise, PermitConflict, UnknownToken, CompletionMisfit, FileInUse, ListTooShort}
use Rattle.records.specs.declared.id.WaiterId.{WaiterId}
use Rattle.records.specs.declared.outcome.Outcome.{Outcome}
use Rattle.records.specs.declared.outcome.Outcome.TheVariants as outcome
use Rattle.records.specs.declared.outcome.CompletionOutcome.{CompletionOutcome}
use Rattle.records.specs.declared.outcome.CompletionOutcome.TheVariants.{Requeue, Complete}
use Rattle.records.specs.declared.outcome.Observation.{Observation}
use Rattle.records.specs.declared.outcome.Observation.TheVariants.{Ready, Pending, Refresh}
use Rattle.records.specs.declared.output.RequestOutput.{RequestOutput}

-- a refusal: its cause's number
abbrev pub denial_number : Denial → ℕ
denial_number FileNotLive = 1
denial_number LimitBroken = 2
denial_number UnfitForDirect = 3
denial_number WrongObserver = 4
denial_number NoFreeSlot = 5
denial_number NoSuchWaiter = 6
denial_number InFlight = 7
denial_number CancelGranted = 8
denial_number SettledOtherwise = 9
denial_number PermitConflict = 10
denial_number UnknownToken = 11
denial_number (CompletionMisfit largest) = 12
denial_number FileInUse = 13
denial_number (ListTooShort needed) = 14

-- the largest result that fits, the places needed
abbrev pub denial_value : Denial → Option ℕ
denial_value FileNotLive = None
denial_value LimitBroken = None
denial_value UnfitForDirect = None
denial_value WrongObserver = None
denial_value NoFreeSlot = None
denial_value NoSuchWaiter = None
denial_value InFlight = None
denial_value CancelGranted = None
denial_value SettledOtherwise = None
denial_value PermitConflict = None
denial_value UnknownToken = None
denial_value (CompletionMisfit largest) = Some largest
denial_value FileInUse = None
denial_value (ListTooShort needed) = Some needed

-- how a request ends
abbrev pub outcome_number : Outcome → ℕ
outcome_number outcome.Ok = 0
outcome_number outcome.Timeout = 1
outcome_number outcome.SendFailed = 2
outcome_number outcome.RecvFailed = 3
outcome_number outcome.ReadFailed = 4
outcome_number outcome.WriteFailed = 5
outcome_number outcome.BlobInsufficientLength = 6
outcome_number outcome.Closed = 7
outcome_number (outcome.Io code) = 8
outcome_number outcome.LedgerSpent = 9

abbrev pub outcome_code : Outcome → Option ℕ
outcome_code outcome.Ok = None
outcome_code outcome.Timeout = None
outcome_code outcome.SendFailed = None
outcome_code outcome.RecvFailed = None
outcome_code outcome.ReadFailed = None
outcome_code outcome.WriteFailed = None
outcome_code outcome.BlobInsufficientLength = None
outcome_code outcome.Closed = None
outcome_code (outcome.Io code) = Some code
outcome_code outcome.LedgerSpent = None

-- the kernel's error codes are 1 to 4,095
abbrev pub code_limits : Option ℕ → Bool
code_limits None = true
code_limits (Some code) = nat_le 1 code && nat_le code 4095

abbrev pub outcome_limits : Outcome → Bool
outcome_limits o = code_limits (outcome_code o)

-- what a granted completion asks of the driver
abbrev pub completion_number : CompletionOutcome → ℕ
completion_number (Requeue w) = 0
completion_number (Complete w o) = 1

abbrev pub completion_waiter : CompletionOutcome → WaiterId
completion_waiter (Requeue w) = w
completion_waiter (Complete w o) = w

abbrev pub completion_result : CompletionOutcome → Option Outcome
completion_result (Requeue w) = None
completion_result (Complete w o) = Some o

-- what an observer sees
abbrev pub observation_number : Observation → ℕ
observation_number (Ready output) = 0
observation_number Pending = 1
observation_number Refresh = 2

abbrev pub observation_output : Observation → Option RequestOutput
observation_output (Ready output) = Some output
observation_output Pending = None
observation_output Refresh = None
