-- What holds of a request while its transfer goes on, and of how it ends.
use Rattle.std.proofs.lemmas.Bool.{true≢false}
use Rattle.std.proofs.Common.{◌≡◌, ℕ, ◌+◌, ◌-◌, ◌*◌, ◌/◌, ◌%◌, ◌<◌, ◌≤◌, Bool, true, false, ◌⊎◌, List, Some, None, inl, inr, arith, Option}
use Rattle.records.specs.declared.buffer.Buffer.{Buffer}
use Rattle.records.specs.declared.buffer.ChunkRow.{ChunkRow}
use Rattle.records.specs.declared.id.FileId.{FileId}
use Rattle.records.specs.declared.mode.Cache.{Cache}
use Rattle.records.specs.declared.mode.Cache.TheVariants.{Enabled, Disabled}
use Rattle.records.specs.declared.mode.WriteMode.{WriteMode}
use Rattle.records.specs.declared.mode.WriteMode.TheVariants as mode
use Rattle.records.specs.declared.mode.WriteAtState.TheVariants as state
use Rattle.records.specs.declared.outcome.Outcome.{Outcome}
use Rattle.records.specs.declared.outcome.Outcome.TheVariants as outcome
use Rattle.records.specs.declared.write.Cursor.{Cursor}
use Rattle.records.specs.declared.write.Source.{Source}
use Rattle.records.specs.Modes.{started}
use Rattle.request.specs.declared.kinds.ReadAtRequest.{ReadAtRequest}
use Rattle.request.specs.declared.kinds.RecvRequest.{RecvRequest}
use Rattle.request.specs.declared.kinds.Request.{Request}
use Rattle.request.specs.declared.kinds.Request.TheVariants as request
use Rattle.request.specs.declared.kinds.SendRequest.{SendRequest}
use Rattle.request.specs.declared.kinds.Wanted.{Wanted}
use Rattle.request.specs.declared.kinds.Wanted.TheVariants as wanted
use Rattle.request.specs.declared.kinds.WriteAtRequest.{WriteAtRequest}
use Rattle.request.specs.Completing.{ended_well}
use Rattle.runs.specs.Notions.{Tried, Tried.directly, Tried.plainly, source_bytes, bytes_wanted}
use Rattle.runs.specs.Laws.{Within, Covers, SyncedIf, Means, most_completions}
use Rattle.runs.proofs.Placing.{Placed, write_at}

abbrev pub hint : Cache → ℕ
hint Enabled = 0
hint Disabled = 1

-- a request with n bytes reported

abbrev pub sending : List ChunkRow → ℕ → Source → ℕ → Cursor → SendRequest
sending table d s n c = record { descriptor = d; write = write_at table s n c }

abbrev pub receiving : ℕ → Buffer → ℕ → Bool → ℕ → RecvRequest
receiving d b m exact n = record { descriptor = d; buffer = b; length = m; received = n; exact = exact }

abbrev pub reading : FileId → (offset place capacity m n : ℕ) → Cache → ReadAtRequest
reading f offset place capacity m n cache =
    record { file = f; offset = offset; read = n; buffer = record { place = place; capacity = capacity; length = m }; cache = cache; direct = None }

abbrev pub directing : FileId → (d offset m place capacity n : ℕ) → ReadAtRequest
directing f d offset m place capacity n = record {
  file = f;
  offset = offset - offset % 4096;
  read = n;
  buffer = record { place = place; capacity = capacity; length = (offset % 4096 + m + 4095) / 4096 * 4096 };
  cache = Disabled;
  direct = Some (record { descriptor = d; skip = offset % 4096; length = m });
}

abbrev pub writing : List ChunkRow → FileId → ℕ → Source → WriteMode → ℕ → Cursor → Cache → WriteAtRequest
writing table f offset s m n c cache = record { file = f; offset = offset; write = write_at table s n c; state = started m; cache = cache }

-- with the trailing sync owed
abbrev pub owing : List ChunkRow → FileId → ℕ → Source → Cursor → Cache → WriteAtRequest
owing table f offset s c cache =
    record { file = f; offset = offset; write = write_at table s (source_bytes table s) c; state = state.Syncing; cache = cache }

-- what holds of it, after tk completions besides retries

pub record SendFacts (table : List ChunkRow) (s : Source) (n tk : ℕ) (c : Cursor) : Type 0 where
  pub placed : Placed table s n c
  pub left : n < source_bytes table s
  pub few : tk ≤ n

pub record RecvFacts (b : Buffer) (m n tk : ℕ) : Type 0 where
  pub left : n < m
  pub small : m ≤ 1099511627776
  pub inside : b.place + m ≤ 140737488355328
  pub few : tk ≤ n

-- a buffered read of m bytes, with some completions before it
pub record ReadFacts (offset place m past n tk : ℕ) (cache : Cache) : Type 0 where
  pub left : n < m
  pub small : m ≤ 1099511627776
  pub ends : offset + m ≤ 9223372036854775807
  pub inside : place + m ≤ 140737488355328
  pub few : tk + hint cache ≤ n + 1 + past

pub record DirectFacts (offset m place capacity n tk : ℕ) : Type 0 where
  pub left : n < offset % 4096 + m
  pub some : 0 < m
  pub small : m ≤ 1099511627776
  pub ends : offset + m ≤ 9223372036854775807
  pub fits : (offset % 4096 + m + 4095) / 4096 * 4096 ≤ capacity
  pub inside : place + capacity ≤ 140737488355328
  pub few : tk * 4096 ≤ n

pub record WriteFacts (table : List ChunkRow) (offset : ℕ) (s : Source) (n tk : ℕ) (c : Cursor) (cache : Cache) : Type 0 where
  pub placed : Placed table s n c
  pub left : n < source_bytes table s
  pub ends : offset + source_bytes table s ≤ 9223372036854775807
  pub few : tk + hint cache ≤ n + 1

-- the trailing sync is owed
pub record OwedFacts (table : List ChunkRow) (s : Source) (m : WriteMode) (tk : ℕ) (c : Cursor) : Type 0 where
  pub made : m ≡ mode.WritingBeforeSync
  pub placed : Placed table s (source_bytes table s) c
  pub few : tk ≤ source_bytes table s + 1

-- a transfer of each kind goes on

pub record Sending (table : List ChunkRow) (d : ℕ) (s : Source) (q : Request) (t : Tried) (tk : ℕ) : Type 0 where
  pub n : ℕ
  pub c : Cursor
  pub request_is : q ≡ request.Send (sending table d s n c)
  pub tried_is : t ≡ plainly n
  pub facts : SendFacts table s n tk c

pub record Receiving (d : ℕ) (b : Buffer) (m : ℕ) (exact : Bool) (q : Request) (t : Tried) (tk : ℕ) : Type 0 where
  pub n : ℕ
  pub request_is : q ≡ request.Recv (receiving d b m exact n)
  pub tried_is : t ≡ plainly n
  pub facts : RecvFacts b m n tk

pub record Reading (f : FileId) (offset place capacity m past : ℕ) (q : Request) (t : Tried) (tk : ℕ) : Type 0 where
  pub n : ℕ
  pub cache : Cache
  pub request_is : q ≡ request.ReadAt (reading f offset place capacity m n cache)
  pub tried_is : t ≡ plainly n
  pub facts : ReadFacts offset place m past n tk cache

pub record Directly (f : FileId) (d offset m place capacity : ℕ) (q : Request) (t : Tried) (tk : ℕ) : Type 0 where
  pub n : ℕ
  pub request_is : q ≡ request.ReadAt (directing f d offset m place capacity n)
  pub tried_is : t ≡ directly n
  pub facts : DirectFacts offset m place capacity n tk

pub record Writing (table : List ChunkRow) (f : FileId) (offset : ℕ) (s : Source) (m : WriteMode) (q : Request) (t : Tried) (tk : ℕ) (sy : Bool) : Type 0 where
  pub n : ℕ
  pub c : Cursor
  pub cache : Cache
  pub request_is : q ≡ request.WriteAt (writing table f offset s m n c cache)
  pub tried_is : t ≡ plainly n
  pub not_yet : sy ≡ false
  pub facts : WriteFacts table offset s n tk c cache

pub record Owing (table : List ChunkRow) (f : FileId) (offset : ℕ) (s : Source) (m : WriteMode) (q : Request) (t : Tried) (tk : ℕ) (sy : Bool) : Type 0 where
  pub c : Cursor
  pub cache : Cache
  pub request_is : q ≡ request.WriteAt (owing table f offset s c cache)
  pub tried_is : t ≡ plainly (source_bytes table s)
  pub not_yet : sy ≡ false
  pub facts : OwedFacts table s m tk c

abbrev pub Going : List ChunkRow → Wanted → Request → Tried → ℕ → Bool → Type 0
Going table (wanted.Send d s) q t tk sy = Sending table d s q t tk
Going table (wanted.Recv d b m exact) q t tk sy = Receiving d b m exact q t tk
Going table (wanted.ReadAt f offset b cache) q t tk sy = Reading f offset b.place b.capacity b.length 0 q t tk
Going table (wanted.DirectReadAt f d offset m place capacity) q t tk sy =
    Directly f d offset m place capacity q t tk
    ⊎ Reading f offset (place + offset % 4096) (capacity - offset % 4096) m (1 + (offset % 4096 + m - 1) / 4096) q t tk
Going table (wanted.WriteAt f offset s m cache) q t tk sy = Writing table f offset s m q t tk sy ⊎ Owing table f offset s m q t tk sy
Going table (wanted.Sync f) q t tk sy = Unit {0}

abbrev pub After : List ChunkRow → Wanted → Option Outcome → Request → Tried → ℕ → Bool → Type 0
After table w None q t tk sy = Going table w q t tk sy
After table w (Some o) q t tk sy = (tk ≤ most_completions table w) × Within table w t × Means table w t sy o

-- the range is not covered, or its sync has not reported
abbrev pub Unfulfilled : List ChunkRow → Wanted → Tried → Bool → Type 0
Unfulfilled table (wanted.Send d s) t sy = Unit {0}
Unfulfilled table (wanted.Recv d b m exact) t sy = Unit {0}
Unfulfilled table (wanted.ReadAt f offset b cache) t sy = Covers table (wanted.ReadAt f offset b cache) t → ⊥
Unfulfilled table (wanted.DirectReadAt f d offset m place capacity) t sy = Covers table (wanted.DirectReadAt f d offset m place capacity) t → ⊥
Unfulfilled table (wanted.WriteAt f offset s m cache) t sy = Covers table (wanted.WriteAt f offset s m cache) t → SyncedIf m sy → ⊥
Unfulfilled table (wanted.Sync f) t sy = Unit {0}

pub failing : (table : List ChunkRow) (w : Wanted) (t : Tried) (sy : Bool) (o : Outcome) → (o ≡ outcome.Ok → ⊥) → Unfulfilled table w t sy → Means table w t sy o
failing table (wanted.Send d s) t sy o e u = λ k. absurd (e k)
failing table (wanted.Recv d b m true) t sy o e u = λ k. absurd (e k)
failing table (wanted.Recv d b m false) t sy o e u = λ k. absurd (e k)
failing table (wanted.ReadAt f offset b cache) t sy o e u = ((λ k. absurd (e k)), (λ c. absurd (u c)))
failing table (wanted.DirectReadAt f d offset m place capacity) t sy o e u = ((λ k. absurd (e k)), (λ c. absurd (u c)))
failing table (wanted.WriteAt f offset s m cache) t sy o e u = ((λ k. absurd (e k)), (λ c y. absurd (u c y)))
failing table (wanted.Sync f) t sy o e u = tt

-- while a transfer goes on it is not fulfilled, and has reported no more than its range; one that moves bytes has had few completions

pub unfulfilled : (table : List ChunkRow) (w : Wanted) (q : Request) (t : Tried) (tk : ℕ) (sy : Bool) → Going table w q t tk sy → Unfulfilled table w t sy
unfulfilled table (wanted.Send d s) q t tk sy g = tt
unfulfilled table (wanted.Recv d b m exact) q t tk sy g = tt
unfulfilled table (wanted.ReadAt f offset b cache) q t tk sy g = let a = g.facts in rw g.tried_is (λ c. omega arith)
unfulfilled table (wanted.DirectReadAt f d offset m place capacity) q t tk sy (inl g) = let a = g.facts in rw g.tried_is (λ c. omega arith)
unfulfilled table (wanted.DirectReadAt f d offset m place capacity) q t tk sy (inr g) = let a = g.facts in rw g.tried_is (λ c. omega arith)
unfulfilled table (wanted.WriteAt f offset s m cache) q t tk sy (inl g) = let a = g.facts in rw g.tried_is (λ c y. omega arith)
unfulfilled table (wanted.WriteAt f offset s m cache) q t tk sy (inr g) = let a = g.facts in rw (a.made, g.tried_is, g.not_yet) (λ c y. cc)
unfulfilled table (wanted.Sync f) q t tk sy g = tt

pub going_within : (table : List ChunkRow) (w : Wanted) (q : Request) (t : Tried) (tk : ℕ) (sy : Bool) → Going table w q t tk sy → Within table w t
going_within table (wanted.Send d s) q t tk sy g = let a = g.facts in rw g.tried_is (omega arith)
going_within table (wanted.Recv d b m exact) q t tk sy g = let a = g.facts in rw g.tried_is (omega arith)
going_within table (wanted.ReadAt f offset b cache) q t tk sy g = let a = g.facts in rw g.tried_is (omega arith)
going_within table (wanted.DirectReadAt f d offset m place capacity) q t tk sy (inl g) = let a = g.facts in rw g.tried_is (omega arith)
going_within table (wanted.DirectReadAt f d offset m place capacity) q t tk sy (inr g) = let a = g.facts in rw g.tried_is (omega arith)
going_within table (wanted.WriteAt f offset s m cache) q t tk sy (inl g) = let a = g.facts in rw g.tried_is (omega arith)
going_within table (wanted.WriteAt f offset s m cache) q t tk sy (inr g) = rw g.tried_is (omega arith)
going_within table (wanted.Sync f) q t tk sy g = tt

pub one_more : (table : List ChunkRow) (w : Wanted) (q : Request) (t : Tried) (tk : ℕ) (sy : Bool) → 0 < bytes_wanted table w → Going table w q t tk sy → 1 + tk ≤ most_completions table w
one_more table (wanted.Send d s) q t tk sy z g = let a = g.facts in omega arith
one_more table (wanted.Recv d b m exact) q t tk sy z g = let a = g.facts in omega arith
one_more table (wanted.ReadAt f offset b cache) q t tk sy z g = let a = g.facts in omega arith
one_more table (wanted.DirectReadAt f d offset m place capacity) q t tk sy z (inl g) = let a = g.facts in omega arith
one_more table (wanted.DirectReadAt f d offset m place capacity) q t tk sy z (inr g) = let a = g.facts in omega arith
one_more table (wanted.WriteAt f offset s m cache) q t tk sy z (inl g) = let a = g.facts in omega arith
one_more table (wanted.WriteAt f offset s m cache) q t tk sy z (inr g) = let a = g.facts in omega arith
one_more table (wanted.Sync f) q t tk sy z g = absurd (omega arith)

pub record Bounded (table : List ChunkRow) (w : Wanted) (t : Tried) (tk : ℕ) (sy : Bool) : Type 0 where
  pub within : Within table w t
  pub unfulfilled : Unfulfilled table w t sy
  pub few : 1 + tk ≤ most_completions table w

pub bounded : (table : List ChunkRow) (w : Wanted) (q : Request) (t : Tried) (tk : ℕ) (sy : Bool) → 0 < bytes_wanted table w → Going table w q t tk sy → Bounded table w t tk sy
bounded table w q t tk sy z g = record { within = going_within table w q t tk sy g; unfulfilled = unfulfilled table w q t tk sy g; few = one_more table w q t tk sy z g }

pub not_ok : (o : Outcome) → ended_well o ≡ false → o ≡ outcome.Ok → ⊥
not_ok o e k = true≢false (rw k at e)

-- a completion that ends without Ok and reports nothing
pub ends_badly : (table : List ChunkRow) (w : Wanted) (o : Outcome) (q : Request) (t : Tried) (tk : ℕ) (sy : Bool) → ended_well o ≡ false → 0 < bytes_wanted table w →
    Going table w q t tk sy → After table w (Some o) q t (1 + tk) sy
ends_badly table w o q t tk sy e z g =
    let b = bounded table w q t tk sy z g in
    (b.few, b.within, failing table w t sy o (not_ok o e) b.unfulfilled)

-- what ends where it would go on
pub stopping : (table : List ChunkRow) (w : Wanted) (o : Outcome) (q : Request) (t : Tried) (tk : ℕ) (sy : Bool) → ended_well o ≡ false → 0 < bytes_wanted table w →
    Going table w q t tk sy → After table w (Some o) q t tk sy
stopping table w o q t tk sy e z g = let a = ends_badly table w o q t tk sy e z g in (omega arith, a.1, a.2)
