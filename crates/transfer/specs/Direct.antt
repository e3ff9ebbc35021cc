-- When a read gives direct reading up.
use Rattle.std.specs.Prelude.{Bool, false, not, ◌&&◌, is_some, Some, None, Option}
use Rattle.records.specs.declared.outcome.Outcome.{Outcome}
use Rattle.request.specs.declared.kinds.Request.{Request}
use Rattle.request.specs.declared.kinds.Request.TheVariants.{Send, Recv, ReadAt, WriteAt, Sync}

abbrev pub reads_direct : Request → Bool
reads_direct (Send q) = false
reads_direct (Recv q) = false
reads_direct (ReadAt q) = is_some q.direct
reads_direct (WriteAt q) = false
reads_direct (Sync q) = false

-- a direct read that goes on as another
abbrev pub gives_up : (before after : Request) → Option Outcome → Bool
gives_up before after None = reads_direct before && not (reads_direct after)
gives_up before after (Some o) = false
