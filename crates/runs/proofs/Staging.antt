-- A submission begins where the laws say, and the request in flight keeps what holds.
use Rattle.std.proofs.Common.{◌≡◌, ℕ, suc, ◌-◌, ◌<◌, ◌≤◌, min, Bool, true, false, cond, ltb, List, [], ◌∷◌, ◌++◌, length, take, drop, Ok, Err, Result, sym, refl, ap, ◌∙◌, inl, inr, arith}
use Rattle.std.proofs.lemmas.List.{take_at}
use Rattle.records.specs.declared.submission.Opcode.TheVariants as op
use Rattle.records.specs.declared.buffer.ChunkRow.{ChunkRow}
use Rattle.records.specs.declared.buffer.Iovec.{Iovec}
use Rattle.records.specs.declared.denial.Denial.{Denial}
use Rattle.records.specs.declared.denial.Denial.TheVariants.{ListTooShort}
use Rattle.records.specs.declared.id.FileId.{FileId}
use Rattle.records.specs.declared.mode.Cache.{Cache}
use Rattle.records.specs.declared.mode.Cache.TheVariants.{Enabled, Disabled}
use Rattle.records.specs.declared.mode.WriteMode.{WriteMode}
use Rattle.records.specs.declared.mode.WriteMode.TheVariants as mode
use Rattle.records.specs.declared.write.Cursor.{Cursor}
use Rattle.records.specs.declared.write.Source.{Source}
use Rattle.records.specs.declared.write.Source.TheVariants as source
use Rattle.records.specs.Sums.{plus}
use Rattle.request.specs.declared.kinds.Request.{Request}
use Rattle.request.specs.declared.kinds.Request.TheVariants as request
use Rattle.request.specs.declared.kinds.Wanted.{Wanted}
use Rattle.request.specs.declared.kinds.Wanted.TheVariants as wanted
use Rattle.request.specs.Progress.{bytes_submitted}
use Rattle.rows.specs.Laws.{left_after}
use Rattle.rows.specs.Vectors.{range, carried, iovecs_of, iovec_bytes}
use Rattle.rows.proofs.CursorLaws.{cursor_laws}
use Rattle.cqe.specs.Cqe.{is_sync}
use Rattle.sqe.specs.declared.Setting.{Setting}
use Rattle.sqe.specs.declared.Staged.{Staged}
use Rattle.sqe.specs.Building.{built, built_list, kept_hint, send_built, bytes_built, rows_part}
use Rattle.runs.specs.Notions.{Tried, Tried.plainly, is_fsync, asks_for, sizes, rows_of, bytes_wanted}
use Rattle.runs.specs.Laws.{Begins}
use Rattle.runs.proofs.Links.{sizes_is}
use Rattle.runs.proofs.Placing.{RowsPlaced}
use Rattle.runs.proofs.ReactingWrites.{not_syncing, all_submitted}
use Rattle.runs.proofs.Going.{hint, sending, writing, SendFacts, ReadFacts, WriteFacts, Going}

-- what a built submission is, for the request in flight
abbrev pub BuiltWell : List ChunkRow → Wanted → Tried → ℕ → Bool → Result Staged Denial → List Iovec → Type 0
BuiltWell table w t tk sy (Err d) after = Unit {0}
BuiltWell table w t tk sy (Ok s) after =
    Going table w s.request t tk sy
    × (is_fsync s.submission ≡ is_sync s.request)
    × (is_sync s.request ≡ false → bytes_submitted table s.request ≡ asks_for s.submission after)
    × Begins (is_fsync s.submission) table w t s.submission after

-- rows as iovecs

iovecs_length : (o : ℕ) (rs : List ChunkRow) → length (iovecs_of o rs) ≡ length rs
unfolding iovecs_of
iovecs_length o [] = refl
iovecs_length o (r ∷ rs) = ap suc (iovecs_length 0 rs)

module _ (table : List ChunkRow) (first count n : ℕ) (c : Cursor) (list : List Iovec) where
  abbrev needed : ℕ
  needed = length (carried table first count c.row)

  abbrev iovecs : List Iovec
  iovecs = iovecs_of c.within (carried table first count c.row)

  abbrev after : List Iovec
  after = iovecs ++ drop needed list

  first_iovecs : take needed after ≡ iovecs
  first_iovecs = take_at iovecs (drop needed list) needed (iovecs_length c.within (carried table first count c.row))

  pub pieces : RowsPlaced table first count n c → take needed after ≡ take 1024 (left_after n (rows_of table first count))
  pieces p =
      let a = cursor_laws.carries table first count c p.sound p.stands in
      first_iovecs ∙ a ∙ ap (λ k. take 1024 (left_after k (range table first count))) p.before_is ∙ ap (λ r. take 1024 (left_after n r)) p.cut

  pub exactly : RowsPlaced table first count n c → min (iovec_bytes iovecs) 18446744073709551615 ≡ sizes (take needed after)
  exactly p =
      let a = ap sizes first_iovecs in
      let b = sizes_is iovecs in
      let i = cursor_laws.within table first count c p.sound p.stands in
      omega arith

kept_less : (c : Cache) (h : Bool) → hint (kept_hint c h) ≤ hint c
kept_less Enabled h = omega arith
kept_less Disabled true = omega arith
kept_less Disabled false = omega arith

read_kept : {offset place m past n tk : ℕ} {cache : Cache} → ReadFacts offset place m past n tk cache → (h : Bool) → ReadFacts offset place m past n tk (kept_hint cache h)
read_kept {cache} a h =
    let k = kept_less cache h in record { left = a.left; small = a.small; ends = a.ends; inside = a.inside; few = omega arith }

-- sends

send_rows : (b : Bool) (table : List ChunkRow) (d first count n tk : ℕ) (c : Cursor) (sy : Bool) (g : Setting) (list : List Iovec) → SendFacts table (source.Rows first count) n tk c →
    BuiltWell table (wanted.Send d (source.Rows first count)) (plainly n) tk sy
    (send_built (sending table d (source.Rows first count) n c) g
    (rows_part g.list (cond b (Err (ListTooShort (length (carried table first count c.row)))) (Ok (length (carried table first count c.row))))))
    (cond b list (after table first count n c list))
send_rows true table d first count n tk c sy g list a = tt
send_rows false table d first count n tk c sy g list a = (
  record { n = n; c = c; request_is = refl; tried_is = refl; facts = a },
  refl,
  (λ e. exactly table first count n c list a.placed),
  (pieces table first count n c list a.placed, a.left),
)

send_stages : (table : List ChunkRow) (d : ℕ) (s : Source) (n tk : ℕ) (c : Cursor) (sy : Bool) (g : Setting) (list : List Iovec) → SendFacts table s n tk c →
    BuiltWell table (wanted.Send d s) (plainly n) tk sy (built table (request.Send (sending table d s n c)) g list) (built_list table (request.Send (sending table d s n c)) list)
send_stages table d (source.Single place m) n tk c sy g list a =
    let p = a.placed in (
      record { n = n; c = c; request_is = refl; tried_is = refl; facts = a },
      refl,
      (λ e. omega arith),
      (omega arith, a.left),
    )
send_stages table d (source.Rows first count) n tk c sy g list a =
    send_rows (ltb (length list) (length (carried table first count c.row))) table d first count n tk c sy g list a

-- writes

module _ (table : List ChunkRow) (f : FileId) (offset : ℕ) (made : Cache) where
  write_on : (s : Source) (m : WriteMode) (n tk : ℕ) (c : Cursor) (cache : Cache) (h : Bool) → WriteFacts table offset s n tk c cache →
      Going table (wanted.WriteAt f offset s m made) (request.WriteAt (writing table f offset s m n c (kept_hint cache h))) (plainly n) tk false
  write_on s m n tk c cache h a =
      let k = kept_less cache h in
      inl (record {
        n = n;
        c = c;
        cache = kept_hint cache h;
        request_is = refl;
        tried_is = refl;
        not_yet = refl;
        facts = record { placed = a.placed; left = a.left; ends = a.ends; few = omega arith };
      })

  write_rows : (b : Bool) (first count : ℕ) (m : WriteMode) (n tk : ℕ) (c : Cursor) (cache : Cache) (g : Setting) (list : List Iovec) →
      WriteFacts table offset (source.Rows first count) n tk c cache →
      BuiltWell table (wanted.WriteAt f offset (source.Rows first count) m made) (plainly n) tk false
      (bytes_built (writing table f offset (source.Rows first count) m n c cache) g
      (rows_part g.list (cond b (Err (ListTooShort (length (carried table first count c.row)))) (Ok (length (carried table first count c.row))))))
      (cond b list (after table first count n c list))
  write_rows true first count m n tk c cache g list a = tt
  write_rows false first count m n tk c cache g list a = (
    write_on (source.Rows first count) m n tk c cache g.hints a,
    sym (not_syncing m),
    (λ z. all_submitted m _ ∙ exactly table first count n c list a.placed),
    (omega arith, pieces table first count n c list a.placed, a.left),
  )

  write_single : (place k : ℕ) (m : WriteMode) (n tk : ℕ) (c : Cursor) (cache : Cache) (g : Setting) (list : List Iovec) →
      WriteFacts table offset (source.Single place k) n tk c cache →
      BuiltWell table (wanted.WriteAt f offset (source.Single place k) m made) (plainly n) tk false
      (bytes_built (writing table f offset (source.Single place k) m n c cache) g (Ok (record { opcode = op.Write; place = plus place n; length = min (k - n) 4294967295 })))
      list
  write_single place k m n tk c cache g list a =
      let p = a.placed in (
        write_on (source.Single place k) m n tk c cache g.hints a,
        sym (not_syncing m),
        (λ z. all_submitted m _),
        (omega arith, omega arith, a.left),
      )

  write_stages : (s : Source) (m : WriteMode) (n tk : ℕ) (c : Cursor) (cache : Cache) (g : Setting) (list : List Iovec) → WriteFacts table offset s n tk c cache →
      BuiltWell table (wanted.WriteAt f offset s m made) (plainly n) tk false (built table (request.WriteAt (writing table f offset s m n c cache)) g list) (built_list table (request.WriteAt (writing table f offset s m n c cache)) list)
  write_stages (source.Single place k) mode.Writing n tk c cache g list a = write_single place k mode.Writing n tk c cache g list a
  write_stages (source.Single place k) mode.WritingSync n tk c cache g list a = write_single place k mode.WritingSync n tk c cache g list a
  write_stages (source.Single place k) mode.WritingBeforeSync n tk c cache g list a = write_single place k mode.WritingBeforeSync n tk c cache g list a
  write_stages (source.Rows first count) mode.Writing n tk c cache g list a =
      write_rows (ltb (length list) (length (carried table first count c.row))) first count mode.Writing n tk c cache g list a
  write_stages (source.Rows first count) mode.WritingSync n tk c cache g list a =
      write_rows (ltb (length list) (length (carried table first count c.row))) first count mode.WritingSync n tk c cache g list a
  write_stages (source.Rows first count) mode.WritingBeforeSync n tk c cache g list a =
      write_rows (ltb (length list) (length (carried table first count c.row))) first count mode.WritingBeforeSync n tk c cache g list a

-- each kind

pub stages : (table : List ChunkRow) (w : Wanted) (q : Request) (t : Tried) (tk : ℕ) (sy : Bool) (g : Setting) (list : List Iovec) → 0 < bytes_wanted table w → Going table w q t tk sy →
    BuiltWell table w t tk sy (built table q g list) (built_list table q list)
stages table (wanted.Send d s) q t tk sy g list z a = rw (a.request_is, a.tried_is) (send_stages table d s a.n tk a.c sy g list a.facts)
stages table (wanted.Recv d b m exact) q t tk sy g list z a =
    let x = a.facts in
    rw (a.request_is, a.tried_is) (
      record { n = a.n; request_is = refl; tried_is = refl; facts = x },
      refl,
      (λ e. omega arith),
      (omega arith, x.left),
    )
stages table (wanted.ReadAt f offset b cache) q t tk sy g list z a =
    let x = read_kept a.facts g.hints in
    rw (a.request_is, a.tried_is) (
      record { n = a.n; cache = kept_hint a.cache g.hints; request_is = refl; tried_is = refl; facts = x },
      refl,
      (λ e. omega arith),
      (omega arith, omega arith, x.left),
    )
stages table (wanted.DirectReadAt f d offset m place capacity) q t tk sy g list z (inl a) =
    let x = a.facts in
    rw (a.request_is, a.tried_is) (
      inl (record { n = a.n; request_is = refl; tried_is = refl; facts = x }),
      refl,
      (λ e. omega arith),
      (omega arith, omega arith, refl, x.left),
    )
stages table (wanted.DirectReadAt f d offset m place capacity) q t tk sy g list z (inr a) =
    let x = read_kept a.facts g.hints in
    rw (a.request_is, a.tried_is) (
      inr (record { n = a.n; cache = kept_hint a.cache g.hints; request_is = refl; tried_is = refl; facts = x }),
      refl,
      (λ e. omega arith),
      (omega arith, omega arith, x.left),
    )
stages table (wanted.WriteAt f offset s m cache) q t tk sy g list z (inl a) =
    rw (a.request_is, a.tried_is, a.not_yet) (write_stages table f offset cache s m a.n tk a.c a.cache g list a.facts)
stages table (wanted.WriteAt f offset s m cache) q t tk sy g list z (inr a) =
    rw (a.request_is, a.tried_is, a.not_yet) (
      inr (record { c = a.c; cache = a.cache; request_is = refl; tried_is = refl; not_yet = refl; facts = a.facts }),
      refl,
      (λ e. cc),
      (a.facts.made, refl),
    )
stages table (wanted.Sync f) q t tk sy g list z a = absurd (omega arith)
