-- Completions of sends and writes keep what holds.
use Rattle.std.proofs.Common.{◌≡◌, ℕ, ◌+◌, ◌-◌, ◌<◌, ◌≤◌, Bool, true, false, ◌&&◌, eqb, ltb, List, refl, ap, subst, inl, inr, add-zero, zero-add, arith, Some, None}
use Rattle.std.proofs.lemmas.Bool.{cond_both, ltb-true, ltb-false, leb-true, and_parts}
use Rattle.records.specs.declared.buffer.ChunkRow.{ChunkRow}
use Rattle.records.specs.declared.id.FileId.{FileId}
use Rattle.records.specs.declared.mode.Cache.{Cache}
use Rattle.records.specs.declared.mode.Cache.TheVariants.{Enabled}
use Rattle.records.specs.declared.mode.WriteMode.{WriteMode}
use Rattle.records.specs.declared.mode.WriteMode.TheVariants as mode
use Rattle.records.specs.declared.outcome.Outcome.{Outcome}
use Rattle.records.specs.declared.outcome.Outcome.TheVariants as outcome
use Rattle.records.specs.declared.write.Cursor.{Cursor}
use Rattle.records.specs.declared.write.Source.{Source}
use Rattle.records.specs.Modes.{hinting, started}
use Rattle.request.specs.declared.kinds.WriteAtRequest.{WriteAtRequest}
use Rattle.request.specs.declared.kinds.Request.TheVariants as request
use Rattle.request.specs.declared.kinds.Wanted.TheVariants as wanted
use Rattle.request.specs.Completing.{ended_well}
use Rattle.request.specs.Progress.{write_submitted, written_in}
use Rattle.cqe.specs.declared.result.CqeResult.{CqeResult}
use Rattle.cqe.specs.declared.result.CqeResult.TheVariants.{Retry, Cancelled, Error, Zero, Count}
use Rattle.cqe.specs.declared.step.Step.{Step}
use Rattle.cqe.specs.Cqe.{fits, syncs_in}
use Rattle.cqe.specs.Steps.{unhinted, goes_on, ends}
use Rattle.cqe.specs.Writes.{send_step, bytes_step, write_step, write_whole, without_hint, write_error, sync_outcome}
use Rattle.runs.specs.Notions.{Tried, Tried.plainly, source_bytes, reports, besides_retry, told, synced_by}
use Rattle.runs.specs.Laws.{SyncedIf}
use Rattle.runs.proofs.Placing.{Placed, Moved, write_at, at_left, at_moves}
use Rattle.runs.proofs.Going.{sending, writing, owing, SendFacts, WriteFacts, OwedFacts, Sending, After, ends_badly}
use Rattle.runs.proofs.ReactingReads.{class_heard, hint_given, Proper}

-- sends

module _ (table : List ChunkRow) (d : ℕ) (s : Source) (sy : Bool) where
  send_on : (n tk : ℕ) (c : Cursor) → SendFacts table s n tk c → Sending table d s (request.Send (sending table d s n c)) (plainly n) tk
  send_on n tk c a = record { n = n; c = c; request_is = refl; tried_is = refl; facts = a }

  send_fails : (o : Outcome) (n tk : ℕ) (c : Cursor) → ended_well o ≡ false → SendFacts table s n tk c →
      After table (wanted.Send d s) (Some o) (request.Send (sending table d s n c)) (plainly n) (1 + tk) sy
  send_fails o n tk c e a = ends_badly table (wanted.Send d s) o (request.Send (sending table d s n c)) (plainly n) tk sy e (omega arith) (send_on n tk c a)

  pub send_reacts : (n tk : ℕ) (c : Cursor) (k : CqeResult) → Proper k → fits table (request.Send (sending table d s n c)) k ≡ true → SendFacts table s n tk c →
      After table (wanted.Send d s) (send_step table (sending table d s n c) k).outcome (send_step table (sending table d s n c) k).request
      (reports 0 (plainly n) (class_heard k)) (besides_retry (class_heard k) + tk) sy
  send_reacts n tk c Retry p f a = rw zero-add (send_on n tk c a)
  send_reacts n tk c Cancelled p f a = send_fails outcome.Timeout n tk c refl a
  send_reacts n tk c (Error code) p f a = send_fails outcome.SendFailed n tk c refl a
  send_reacts n tk c Zero p f a = rw (add-zero n) (send_fails outcome.SendFailed n tk c refl a)
  send_reacts n tk c (Count k) p f a =
      let v : Moved table s n k c = at_moves table s n k c a.placed (omega arith) (leb-true _ _ f) in
      let i = v.inside in
      rw (v.is, at_left table s (n + k) v.cursor v.placed)
      (cond_both (ltb 0 (source_bytes table s - (n + k))) None (Some outcome.Ok) (λ o. After table (wanted.Send d s) o (request.Send (sending table d s (n + k) v.cursor)) (plainly (n + k)) (1 + tk) sy)
      (λ e. let b = ltb-true _ _ e in send_on (n + k) (1 + tk) v.cursor (record { placed = v.placed; left = omega arith; few = omega arith }))
      (λ e. let b = ltb-false _ _ e in (omega arith, i, λ o. omega arith)))

-- writes

pub synced_true : (m : WriteMode) → SyncedIf m true
synced_true mode.Writing = tt
synced_true mode.WritingSync = tt
synced_true mode.WritingBeforeSync = refl

-- a write's bytes are submitted as bytes in each mode

pub not_syncing : (m : WriteMode) → syncs_in (started m) ≡ false
not_syncing mode.Writing = refl
not_syncing mode.WritingSync = refl
not_syncing mode.WritingBeforeSync = refl

pub all_submitted : (m : WriteMode) (n : ℕ) → written_in (started m) n ≡ n
all_submitted mode.Writing n = refl
all_submitted mode.WritingSync n = refl
all_submitted mode.WritingBeforeSync n = refl

no_error : (m : WriteMode) (code : ℕ) → ended_well (write_error (started m) code) ≡ false
no_error mode.Writing code = refl
no_error mode.WritingSync code = refl
no_error mode.WritingBeforeSync code = refl

module _ (table : List ChunkRow) (f : FileId) (offset : ℕ) (s : Source) (made : Cache) where
  abbrev at : WriteMode → ℕ → Cursor → Cache → WriteAtRequest
  at m n c cache = writing table f offset s m n c cache

  abbrev Leaves : WriteMode → Step → Tried → ℕ → Type 0
  Leaves m z t tk = After table (wanted.WriteAt f offset s m made) z.outcome z.request t tk false

  write_on : (m : WriteMode) (n tk : ℕ) (c : Cursor) (cache : Cache) → WriteFacts table offset s n tk c cache → Leaves m (goes_on (request.WriteAt (at m n c cache))) (plainly n) tk
  write_on m n tk c cache a = inl (record { n = n; c = c; cache = cache; request_is = refl; tried_is = refl; not_yet = refl; facts = a })

  write_fails : (m : WriteMode) (o : Outcome) (n tk : ℕ) (c : Cursor) (cache : Cache) → ended_well o ≡ false → WriteFacts table offset s n tk c cache →
      Leaves m (ends (request.WriteAt (at m n c cache)) o) (plainly n) (1 + tk)
  write_fails m o n tk c cache e a =
      ends_badly table (wanted.WriteAt f offset s m made) o (request.WriteAt (at m n c cache)) (plainly n) tk false e (omega arith) (write_on m n tk c cache a)

  write_errs : (m : WriteMode) (n tk code : ℕ) (c : Cursor) (cache : Cache) → WriteFacts table offset s n tk c cache →
      Leaves m (bytes_step table (at m n c cache) (Error code)) (plainly n) (1 + tk)
  write_errs m n tk code c cache a =
      cond_both (eqb code 95 && hinting cache) (unhinted (request.WriteAt (without_hint (at m n c cache)))) (ends (request.WriteAt (at m n c cache)) (write_error (started m) code))
      (λ z. Leaves m z (plainly n) (1 + tk))
      (λ b. let h = hint_given cache (and_parts (eqb code 95) (hinting cache) b).1 in
      write_on m n (1 + tk) c Enabled (record { placed = a.placed; left = a.left; ends = a.ends; few = omega arith }))
      (λ b. write_fails m (write_error (started m) code) n tk c cache (no_error m code) a)

  -- all bytes are reported
  write_ends : (m : WriteMode) (j n tk : ℕ) (b c : Cursor) (cache : Cache) → Placed table s n c → n ≡ source_bytes table s → tk ≤ source_bytes table s + 1 →
      Leaves m (write_whole (started m) (at m j b cache) (write_at table s n c)) (plainly n) tk
  write_ends mode.Writing j n tk b c cache p z w = (omega arith, omega arith, ((λ o. (omega arith, tt)), (λ o y. refl)))
  write_ends mode.WritingSync j n tk b c cache p z w = (omega arith, omega arith, ((λ o. (omega arith, tt)), (λ o y. refl)))
  write_ends mode.WritingBeforeSync j n tk b c cache p z w =
      inr (record {
        c = c;
        cache = cache;
        request_is = rw z refl;
        tried_is = ap plainly z;
        not_yet = refl;
        facts = record { made = refl; placed = subst (λ k. Placed table s k c) z p; few = w };
      })

  write_counts : (m : WriteMode) (n tk k : ℕ) (c : Cursor) (cache : Cache) → 0 < k → k ≤ write_submitted table (write_at table s n c) → WriteFacts table offset s n tk c cache →
      Leaves m (bytes_step table (at m n c cache) (Count k)) (plainly (n + k)) (1 + tk)
  write_counts m n tk k c cache p g a =
      let v : Moved table s n k c = at_moves table s n k c a.placed (omega arith) g in
      let i = v.inside in
      rw (v.is, at_left table s (n + k) v.cursor v.placed)
      (cond_both (ltb 0 (source_bytes table s - (n + k))) (goes_on (request.WriteAt (at m (n + k) v.cursor cache))) (write_whole (started m) (at m n c cache) (write_at table s (n + k) v.cursor))
      (λ z. Leaves m z (plainly (n + k)) (1 + tk))
      (λ e. let b = ltb-true _ _ e in write_on m (n + k) (1 + tk) v.cursor cache (record { placed = v.placed; left = omega arith; ends = a.ends; few = omega arith }))
      (λ e. let b = ltb-false _ _ e in write_ends m n (n + k) (1 + tk) c v.cursor cache v.placed (omega arith) (omega arith)))

  bytes_reacts : (m : WriteMode) (n tk : ℕ) (c : Cursor) (cache : Cache) (k : CqeResult) → Proper k → fits table (request.WriteAt (at m n c cache)) k ≡ true → WriteFacts table offset s n tk c cache →
      Leaves m (bytes_step table (at m n c cache) k) (reports 0 (plainly n) (class_heard k)) (besides_retry (class_heard k) + tk)
  bytes_reacts m n tk c cache Retry p g a = rw zero-add (write_on m n tk c cache a)
  bytes_reacts m n tk c cache Cancelled p g a = write_fails m outcome.WriteFailed n tk c cache refl a
  bytes_reacts m n tk c cache (Error code) p g a = write_errs m n tk code c cache a
  bytes_reacts m n tk c cache Zero p g a = rw (add-zero n) (write_fails m outcome.WriteFailed n tk c cache refl a)
  bytes_reacts m n tk c cache (Count k) p g a = write_counts m n tk k c cache p (leb-true _ _ (rw (not_syncing m, all_submitted m) at g)) a

  -- the trailing sync

  sync_on : (m : WriteMode) (tk : ℕ) (c : Cursor) (cache : Cache) → OwedFacts table s m tk c →
      Leaves m (goes_on (request.WriteAt (owing table f offset s c cache))) (plainly (source_bytes table s)) tk
  sync_on m tk c cache a = inr (record { c = c; cache = cache; request_is = refl; tried_is = refl; not_yet = refl; facts = a })

  sync_fails : (m : WriteMode) (o : Outcome) (tk : ℕ) (c : Cursor) (cache : Cache) → ended_well o ≡ false → OwedFacts table s m tk c → 0 < source_bytes table s →
      Leaves m (ends (request.WriteAt (owing table f offset s c cache)) o) (plainly (source_bytes table s)) (1 + tk)
  sync_fails m o tk c cache e a z =
      ends_badly table (wanted.WriteAt f offset s m made) o (request.WriteAt (owing table f offset s c cache)) (plainly (source_bytes table s)) tk false e z (sync_on m tk c cache a)

  pub sync_reacts : (m : WriteMode) (tk : ℕ) (c : Cursor) (cache : Cache) (k : CqeResult) → OwedFacts table s m tk c → 0 < source_bytes table s →
      After table (wanted.WriteAt f offset s m made) (sync_outcome k) (request.WriteAt (owing table f offset s c cache)) (plainly (source_bytes table s)) (besides_retry (class_heard k) + tk) (synced_by true (class_heard k) false)
  sync_reacts m tk c cache Retry a z = rw zero-add (sync_on m tk c cache a)
  sync_reacts m tk c cache Cancelled a z = sync_fails m (outcome.Io 125) tk c cache refl a z
  sync_reacts m tk c cache (Error code) a z = sync_fails m (outcome.Io code) tk c cache refl a z
  sync_reacts m tk c cache Zero a z = (omega arith, omega arith, ((λ o. (omega arith, synced_true m)), (λ o y. refl)))
  sync_reacts m tk c cache (Count k) a z = (omega arith, omega arith, ((λ o. (omega arith, synced_true m)), (λ o y. refl)))

  pub write_reacts : (m : WriteMode) (n tk : ℕ) (c : Cursor) (cache : Cache) (k : CqeResult) → Proper k → fits table (request.WriteAt (at m n c cache)) k ≡ true → WriteFacts table offset s n tk c cache →
      After table (wanted.WriteAt f offset s m made) (write_step table (at m n c cache) k).outcome (write_step table (at m n c cache) k).request
      (told (syncs_in (started m)) 0 (plainly n) (class_heard k)) (besides_retry (class_heard k) + tk) (synced_by (syncs_in (started m)) (class_heard k) false)
  write_reacts mode.Writing n tk c cache k p g a = bytes_reacts mode.Writing n tk c cache k p g a
  write_reacts mode.WritingSync n tk c cache k p g a = bytes_reacts mode.WritingSync n tk c cache k p g a
  write_reacts mode.WritingBeforeSync n tk c cache k p g a = bytes_reacts mode.WritingBeforeSync n tk c cache k p g a
