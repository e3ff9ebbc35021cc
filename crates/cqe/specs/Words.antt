-- The words in which a completion and its step are told.
use Rattle.std.specs.Prelude.{ℕ, Bool, true, false, List, ◌++◌, Some, None, Option, codes}
use Rattle.records.specs.declared.outcome.Outcome.{Outcome}
use Rattle.records.specs.Words.{told, outcome_text}
use Rattle.cqe.specs.declared.result.CqeResult.{CqeResult}
use Rattle.cqe.specs.declared.result.CqeResult.TheVariants.{Retry, Cancelled, Error, Zero, Count}
use Rattle.cqe.specs.declared.step.Step.{Step}

abbrev pub class_text : CqeResult → List ℕ
class_text Retry = codes "retry"
class_text Cancelled = codes "cancelled"
class_text (Error code) = told (codes "error ") code
class_text Zero = codes "zero"
class_text (Count n) = told (codes "count ") n

abbrev pub step_words : Option Outcome → (unsupported : Bool) → List ℕ
step_words None true = codes "goes on without hints"
step_words None false = codes "goes on"
step_words (Some o) unsupported = codes "ends " ++ outcome_text o

abbrev pub step_text : Step → List ℕ
step_text s = step_words s.outcome s.unsupported
