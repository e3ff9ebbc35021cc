-- A source with n of its bytes reported.
use Rattle.std.proofs.Common.{◌≡◌, ℕ, ◌+◌, ◌-◌, ◌≤◌, List, refl, arith}
use Rattle.records.specs.Sums.{plus}
use Rattle.records.specs.Writes.{write_length, write_done, write_left}
use Rattle.records.specs.declared.buffer.ChunkRow.{ChunkRow}
use Rattle.records.specs.declared.write.Cursor.{Cursor}
use Rattle.records.specs.declared.write.Source.{Source}
use Rattle.records.specs.declared.write.Source.TheVariants as source
use Rattle.records.specs.declared.write.WriteBuffers.{WriteBuffers}
use Rattle.records.specs.declared.write.WriteBuffers.TheVariants as buffers
use Rattle.rows.specs.Laws.{Sound, Stands, before}
use Rattle.rows.specs.Vectors.{range, total, advanced}
use Rattle.rows.proofs.CursorLaws.{cursor_laws}
use Rattle.request.specs.Progress.{write_submitted}
use Rattle.cqe.specs.Writes.{write_moved}
use Rattle.runs.specs.Notions.{sum, rows_of, source_bytes}

pub record RowsPlaced (table : List ChunkRow) (first count n : ℕ) (c : Cursor) : Type 0 where
  pub sound : Sound (range table first count)
  pub cut : range table first count ≡ rows_of table first count
  pub total_is : total (range table first count) ≡ sum (rows_of table first count)
  pub stands : Stands (range table first count) c
  pub before_is : before (range table first count) c ≡ n
  pub small : total (range table first count) ≤ 1099511627776

abbrev pub Placed : List ChunkRow → Source → ℕ → Cursor → Type 0
Placed table (source.Single place m) n c = (place + m ≤ 140737488355328) × (m ≤ 1099511627776)
Placed table (source.Rows first count) n c = RowsPlaced table first count n c

abbrev pub write_at : List ChunkRow → Source → ℕ → Cursor → WriteBuffers
write_at table (source.Single place m) n c = buffers.Single (record { place = place; length = m; done = n })
write_at table (source.Rows first count) n c = buffers.Rows (record { first = first; count = count; cursor = c; length = total (range table first count); done = n })

pub at_length : (table : List ChunkRow) (s : Source) (n : ℕ) (c : Cursor) → Placed table s n c → write_length (write_at table s n c) ≡ source_bytes table s
at_length table (source.Single place m) n c p = refl
at_length table (source.Rows first count) n c p = p.total_is

pub at_done : (table : List ChunkRow) (s : Source) (n : ℕ) (c : Cursor) → write_done (write_at table s n c) ≡ n
at_done table (source.Single place m) n c = refl
at_done table (source.Rows first count) n c = refl

pub at_left : (table : List ChunkRow) (s : Source) (n : ℕ) (c : Cursor) → Placed table s n c → write_left (write_at table s n c) ≡ source_bytes table s - n
at_left table s n c p = omega (arith, at_length table s n c p, at_done table s n c)

pub record Moved (table : List ChunkRow) (s : Source) (n m : ℕ) (c : Cursor) : Type 0 where
  pub cursor : Cursor
  pub is : write_moved table (write_at table s n c) m ≡ write_at table s (n + m) cursor
  pub placed : Placed table s (n + m) cursor
  pub inside : n + m ≤ source_bytes table s

-- as many bytes further as a submission asked for at most
pub at_moves : (table : List ChunkRow) (s : Source) (n m : ℕ) (c : Cursor) → Placed table s n c → n ≤ source_bytes table s →
    m ≤ write_submitted table (write_at table s n c) → Moved table s n m c
at_moves table (source.Single place k) n m c p h f =
    let e : plus n m ≡ n + m = omega arith in
    record { cursor = c; is = rw e; placed = p; inside = omega arith }
at_moves table (source.Rows first count) n m c p h f =
    let a = cursor_laws.within table first count c p.sound p.stands in
    let i : n + m ≤ total (range table first count) = omega arith in
    let e : plus n m ≡ n + m = omega arith in
    let v = cursor_laws.moves table first count c m p.sound p.stands (omega arith) in
    record {
      cursor = advanced table first count c m;
      is = rw e;
      placed = record {
        sound = p.sound;
        cut = p.cut;
        total_is = p.total_is;
        stands = cursor_laws.stands table first count c m p.sound p.stands;
        before_is = omega arith;
        small = p.small;
      };
      inside = omega arith;
    }
