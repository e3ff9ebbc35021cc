-- The result of a completion: io_uring_enter(2) has it as a signed 32-bit result code. By the kernel's convention it is
-- what the system call would have answered, an error negated.
use Rattle.std.specs.Prelude.{ℕ, ◌+◌, Bool, cond, not, ◌&&◌, ◌||◌, ℤ, pos, negsuc, Some, None, Option, ◌==◌, nat_lt}
use Rattle.cqe.specs.declared.result.CqeResult.{CqeResult}
use Rattle.cqe.specs.declared.result.CqeResult.TheVariants.{Retry, Cancelled, Error, Zero, Count}

-- EAGAIN is 11, EINTR is 4; ECANCELED, 125, is a cancellation only where a cancel was granted
abbrev pub error_class : ℕ → (cancelled : Bool) → CqeResult
error_class code cancelled = cond (code == 11 || code == 4) Retry (cond (code == 125 && cancelled) Cancelled (Error code))

-- no bytes are a count only where none were asked for
abbrev pub count_class : ℕ → (empty : Bool) → CqeResult
count_class n empty = cond (n == 0 && not empty) Zero (Count n)

-- errors are -1 to -4,095, by the kernel's convention and in none of the pages (negsuc k is -(k + 1)); below that nothing fits
abbrev pub classified : ℤ → (cancelled empty : Bool) → Option CqeResult
classified (pos n) cancelled empty = Some (count_class n empty)
classified (negsuc k) cancelled empty = cond (nat_lt k 4095) (Some (error_class (k + 1) cancelled)) None
