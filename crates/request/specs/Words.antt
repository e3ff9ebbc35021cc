-- The words in which a request is told.
use Rattle.std.specs.Prelude.{ℕ, List, ◌++◌, Some, None, Option, codes}
use Rattle.records.specs.Sums.{plus}
use Rattle.records.specs.Words.{told}
use Rattle.request.specs.declared.kinds.Direct.{Direct}
use Rattle.request.specs.declared.kinds.ReadAtRequest.{ReadAtRequest}
use Rattle.request.specs.declared.kinds.Request.{Request}
use Rattle.request.specs.declared.kinds.Request.TheVariants as request
use Rattle.request.specs.Progress.{bytes_to_move}

-- of a direct read the range, not its superset
abbrev pub read_text_as : (offset buffered : ℕ) → Option Direct → List ℕ
read_text_as offset buffered (Some d) = told (codes "direct read of ") d.length ++ told (codes " bytes at offset ") (plus offset d.skip)
read_text_as offset buffered None = told (codes "read of ") buffered ++ told (codes " bytes at offset ") offset

abbrev pub read_text : ReadAtRequest → List ℕ
read_text q = read_text_as q.offset q.buffer.length q.direct

abbrev pub moved_text : List ℕ → Request → List ℕ → ℕ → List ℕ
moved_text kind q where_to n = told kind (bytes_to_move q) ++ told where_to n

abbrev pub request_text : Request → List ℕ
request_text (request.Send q) = moved_text (codes "send of ") (request.Send q) (codes " bytes on socket ") q.descriptor
request_text (request.Recv q) = moved_text (codes "recv of ") (request.Recv q) (codes " bytes on socket ") q.descriptor
request_text (request.ReadAt q) = read_text q
request_text (request.WriteAt q) = moved_text (codes "write of ") (request.WriteAt q) (codes " bytes at offset ") q.offset
request_text (request.Sync q) = codes "sync"
