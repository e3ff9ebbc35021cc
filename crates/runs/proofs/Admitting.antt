-- An admitted transfer begins with what holds.
use Rattle.std.proofs.Common.{◌≡◌, ℕ, ◌+◌, ◌<◌, ◌≤◌, Bool, true, false, cond, ◌&&◌, leb, List, length, Some, None, Ok, Err, Option, Result, refl, ap, ◌∙◌, inl, arith}
use Rattle.std.proofs.lemmas.Bool.{cond_both, leb-true}
use Rattle.std.proofs.lemmas.Bool.Decides.{nat_tests}
use Rattle.records.specs.declared.buffer.ChunkRow.{ChunkRow}
use Rattle.records.specs.declared.denial.Denial.{Denial}
use Rattle.records.specs.declared.denial.Denial.TheVariants.{LimitBroken, UnfitForDirect}
use Rattle.records.specs.declared.id.FileId.{FileId}
use Rattle.records.specs.declared.buffer.Buffer.{Buffer}
use Rattle.records.specs.declared.mode.Cache.{Cache}
use Rattle.records.specs.declared.mode.Cache.TheVariants.{Enabled, Disabled}
use Rattle.records.specs.declared.mode.WriteMode.{WriteMode}
use Rattle.records.specs.declared.write.Cursor.{Cursor}
use Rattle.records.specs.declared.write.Source.{Source}
use Rattle.records.specs.declared.write.Source.TheVariants as source
use Rattle.records.specs.declared.write.WriteBuffers.{WriteBuffers}
use Rattle.records.specs.declared.write.WriteBuffers.TheVariants as buffers
use Rattle.records.specs.Limits.{below_top, few_bytes, buffer_limits, descriptor_limits}
use Rattle.records.specs.Modes.{started}
use Rattle.records.specs.Writes.{write_length}
use Rattle.request.specs.declared.kinds.Request.{Request}
use Rattle.request.specs.declared.kinds.Request.TheVariants as request
use Rattle.request.specs.declared.kinds.Wanted.{Wanted}
use Rattle.request.specs.declared.kinds.Wanted.TheVariants as wanted
use Rattle.request.specs.Admission.{admitted, begun, rows_begun, range_limits, send_begun, recv_begun, read_begun, direct_begun, direct_limits, write_begun}
use Rattle.rows.proofs.CursorLaws.{inside_none}
use Rattle.rows.specs.Vectors.{range, total, all_within, inside_table, limited}
use Rattle.runs.specs.Notions.{bytes_wanted, source_bytes, sum, rows_of, first_attempt}
use Rattle.runs.proofs.Links.{range_is, sum_is, within_is}
use Rattle.runs.proofs.Placing.{Placed, write_at, at_length}
use Rattle.runs.proofs.Going.{hint, Going}

abbrev pub AdmittedWell : List ChunkRow → Wanted → Result Request Denial → Type 0
AdmittedWell table w (Err d) = Unit {0}
AdmittedWell table w (Ok q) = Going table w q (first_attempt w) 0 false

-- a source as it begins
abbrev start : Cursor
start = record { row = 0; within = 0 }

abbrev BegunWell : List ChunkRow → Source → Option WriteBuffers → Type 0
BegunWell table s None = Unit {0}
BegunWell table s (Some b) = (b ≡ write_at table s 0 start) × Placed table s 0 start

rows_begin : (table : List ChunkRow) (first count : ℕ) (a b : Bool) → inside_table (length table) first count ≡ a → all_within (range table first count) ≡ b →
    BegunWell table (source.Rows first count) (rows_begun first count (cond a (limited b (total (range table first count))) None))
unfolding total
rows_begin table first count false b e f = tt
rows_begin table first count true false e f = tt
rows_begin table first count true true e f =
    cond_both (few_bytes (total (range table first count))) (Some (total (range table first count))) None
    (λ o. BegunWell table (source.Rows first count) (rows_begun first count o))
    (λ g.
    let i : first + count ≤ 65536 = grind (arith, nat_tests) in
    let c : range table first count ≡ rows_of table first count = range_is table first count i in
    let s = within_is (range table first count) f in (
      refl,
      record {
        sound = s;
        cut = c;
        total_is = sum_is (range table first count) ∙ ap sum c;
        stands = inside_none (range table first count) s;
        before_is = refl;
        small = leb-true _ _ g;
      },
    ))
    (λ g. tt)

begins_well : (table : List ChunkRow) (s : Source) → BegunWell table s (begun table s)
begins_well table (source.Single place n) =
    cond_both (below_top place n && few_bytes n) (Some (buffers.Single (record { place = place; length = n; done = 0 }))) None
    (BegunWell table (source.Single place n))
    (λ e. (refl, (grind (arith, nat_tests), grind (arith, nat_tests))))
    (λ e. tt)
begins_well table (source.Rows first count) =
    rows_begin table first count (inside_table (length table) first count) (all_within (range table first count)) refl refl

-- each kind

send_admits : (table : List ChunkRow) (d : ℕ) (s : Source) (b : Bool) (o : Option WriteBuffers) → BegunWell table s o → 0 < source_bytes table s →
    AdmittedWell table (wanted.Send d s) (send_begun d b o)
send_admits table d s true (Some x) g z =
    record { n = 0; c = start; request_is = ap (λ y. request.Send (record { descriptor = d; write = y })) g.0; tried_is = refl; facts = record { placed = g.1; left = z; few = omega arith } }
send_admits table d s true None g z = tt
send_admits table d s false o g z = tt

small_hint : (c : Cache) → hint c ≤ 1
small_hint Enabled = omega arith
small_hint Disabled = omega arith

write_admits : (table : List ChunkRow) (f : FileId) (offset : ℕ) (s : Source) (m : WriteMode) (cache : Cache) (o : Option WriteBuffers) → BegunWell table s o → 0 < source_bytes table s →
    AdmittedWell table (wanted.WriteAt f offset s m cache) (write_begun f offset m cache o)
write_admits table f offset s m cache None g z = tt
write_admits table f offset s m cache (Some b) g z =
    cond_both (range_limits offset (write_length b)) (Ok (request.WriteAt (record { file = f; offset = offset; write = b; state = started m; cache = cache }))) (Err LimitBroken)
    (AdmittedWell table (wanted.WriteAt f offset s m cache))
    (λ e.
    let i : offset + write_length b ≤ 9223372036854775807 = grind (arith, nat_tests) in
    let l : write_length b ≡ source_bytes table s = ap write_length g.0 ∙ at_length table s 0 start g.1 in
    let k = small_hint cache in
    inl (record {
      n = 0;
      c = start;
      cache = cache;
      request_is = ap (λ y. request.WriteAt (record { file = f; offset = offset; write = y; state = started m; cache = cache })) g.0;
      tried_is = refl;
      not_yet = refl;
      facts = record { placed = g.1; left = z; ends = omega arith; few = omega arith };
    }))
    (λ e. tt)

recv_admits : (table : List ChunkRow) (d : ℕ) (b : Buffer) (n : ℕ) (exact : Bool) → 0 < n → AdmittedWell table (wanted.Recv d b n exact) (recv_begun d b n exact)
recv_admits table d b n exact z =
    cond_both (descriptor_limits d && (buffer_limits b && (leb n b.capacity && few_bytes n)))
    (Ok (request.Recv (record { descriptor = d; buffer = b; length = n; received = 0; exact = exact }))) (Err LimitBroken)
    (AdmittedWell table (wanted.Recv d b n exact))
    (λ e.
    record { n = 0; request_is = refl; tried_is = refl; facts = record { left = z; small = grind (arith, nat_tests); inside = grind (arith, nat_tests); few = omega arith } })
    (λ e. tt)

read_admits : (table : List ChunkRow) (f : FileId) (offset : ℕ) (b : Buffer) (cache : Cache) → 0 < b.length → AdmittedWell table (wanted.ReadAt f offset b cache) (read_begun f offset b cache)
read_admits table f offset b cache z =
    cond_both (buffer_limits b && range_limits offset b.length)
    (Ok (request.ReadAt (record { file = f; offset = offset; read = 0; buffer = b; cache = cache; direct = None }))) (Err LimitBroken)
    (AdmittedWell table (wanted.ReadAt f offset b cache))
    (λ e.
    let k = small_hint cache in
    record { n = 0; cache = cache; request_is = refl; tried_is = refl; facts = record { left = z; small = grind (arith, nat_tests); ends = grind (arith, nat_tests); inside = grind (arith, nat_tests); few = omega arith } })
    (λ e. tt)

direct_admits : (table : List ChunkRow) (f : FileId) (d offset n place capacity : ℕ) → 0 < n → AdmittedWell table (wanted.DirectReadAt f d offset n place capacity) (direct_begun f d offset n place capacity)
direct_admits table f d offset n place capacity z =
    cond_both (descriptor_limits d && (below_top place capacity && range_limits offset n)) _ (Err LimitBroken)
    (AdmittedWell table (wanted.DirectReadAt f d offset n place capacity))
    (λ e. cond_both (direct_limits offset n place capacity) _ (Err UnfitForDirect) (AdmittedWell table (wanted.DirectReadAt f d offset n place capacity))
    (λ g.
    inl (record {
      n = 0;
      request_is = refl;
      tried_is = refl;
      facts = record {
        left = omega arith;
        some = z;
        small = grind (arith, nat_tests);
        ends = grind (arith, nat_tests);
        fits = grind (arith, nat_tests);
        inside = grind (arith, nat_tests);
        few = omega arith;
      };
    }))
    (λ g. tt))
    (λ e. tt)

pub admits : (table : List ChunkRow) (w : Wanted) → 0 < bytes_wanted table w → AdmittedWell table w (admitted table w)
admits table (wanted.Send d s) z = send_admits table d s (descriptor_limits d) (begun table s) (begins_well table s) z
admits table (wanted.Recv d b n exact) z = recv_admits table d b n exact z
admits table (wanted.ReadAt f offset b cache) z = read_admits table f offset b cache z
admits table (wanted.DirectReadAt f d offset n place capacity) z = direct_admits table f d offset n place capacity z
admits table (wanted.WriteAt f offset s m cache) z = write_admits table f offset s m cache (begun table s) (begins_well table s) z
admits table (wanted.Sync f) z = absurd (omega arith)
