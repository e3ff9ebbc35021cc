-- Completions of receives and reads keep what holds.
use Rattle.std.proofs.Common.{◌≡◌, ℕ, ◌+◌, ◌-◌, ◌*◌, ◌/◌, ◌%◌, ◌<◌, ◌≤◌, min, Bool, true, false, cond, ◌&&◌, eqb, ltb, leb, List, Some, None, refl, inl, inr, add-zero, zero-add, arith, Option}
use Rattle.std.proofs.lemmas.Bool.{cond_both, ltb-true, ltb-false, leb-true, leb-false, eqb-true, lt-leb, lt-ltb, and_parts}
use Rattle.records.specs.declared.buffer.Buffer.{Buffer}
use Rattle.records.specs.declared.buffer.ChunkRow.{ChunkRow}
use Rattle.records.specs.declared.id.FileId.{FileId}
use Rattle.records.specs.declared.mode.Cache.{Cache}
use Rattle.records.specs.declared.mode.Cache.TheVariants.{Enabled, Disabled}
use Rattle.records.specs.declared.outcome.Outcome.{Outcome}
use Rattle.records.specs.declared.outcome.Outcome.TheVariants as outcome
use Rattle.records.specs.Modes.{hinting}
use Rattle.records.specs.Sums.{plus}
use Rattle.request.specs.declared.kinds.Direct.{Direct}
use Rattle.request.specs.declared.kinds.ReadAtRequest.{ReadAtRequest}
use Rattle.request.specs.declared.kinds.Request.{Request}
use Rattle.request.specs.declared.kinds.Request.TheVariants as request
use Rattle.request.specs.declared.kinds.Wanted.TheVariants as wanted
use Rattle.request.specs.Completing.{ended_well}
use Rattle.cqe.specs.declared.result.CqeResult.{CqeResult}
use Rattle.cqe.specs.declared.result.CqeResult.TheVariants.{Retry, Cancelled, Error, Zero, Count}
use Rattle.cqe.specs.declared.step.Step.{Step}
use Rattle.cqe.specs.Cqe.{fits}
use Rattle.cqe.specs.Reads.{recv_step, buffered_step, direct_step, given_up, without_hint}
use Rattle.cqe.specs.Steps.{unhinted, goes_on, ends}
use Rattle.runs.specs.Notions.{Heard, Heard.retry, Heard.failed, Heard.moved, Tried, Tried.directly, Tried.plainly, lead, reports, besides_retry, counted_directly}
use Rattle.runs.proofs.Going.{hint, receiving, reading, directing, RecvFacts, ReadFacts, DirectFacts, Receiving, Reading, After, not_ok, ends_badly}

-- a classified result in the laws' words
abbrev pub class_heard : CqeResult → Heard
class_heard Retry = retry
class_heard Cancelled = failed 125
class_heard (Error code) = failed code
class_heard Zero = moved 0
class_heard (Count n) = moved n

-- the hint that an error is blamed on was given
pub hint_given : (cache : Cache) → hinting cache ≡ true → hint cache ≡ 1
hint_given Disabled e = refl
hint_given Enabled e = cc

-- a count is of one byte or more where some are wanted
abbrev pub Proper : CqeResult → Type 0
Proper Retry = Unit {0}
Proper Cancelled = Unit {0}
Proper (Error code) = Unit {0}
Proper Zero = Unit {0}
Proper (Count n) = 0 < n

-- receives

module _ (table : List ChunkRow) (d : ℕ) (b : Buffer) (m : ℕ) (sy : Bool) where
  recv_on : (exact : Bool) (n tk : ℕ) → RecvFacts b m n tk → Receiving d b m exact (request.Recv (receiving d b m exact n)) (plainly n) tk
  recv_on exact n tk a = record { n = n; request_is = refl; tried_is = refl; facts = a }

  recv_fails : (o : Outcome) (exact : Bool) (n tk : ℕ) → ended_well o ≡ false → RecvFacts b m n tk →
      After table (wanted.Recv d b m exact) (Some o) (request.Recv (receiving d b m exact n)) (plainly n) (1 + tk) sy
  recv_fails o exact n tk e a =
      ends_badly table (wanted.Recv d b m exact) o (request.Recv (receiving d b m exact n)) (plainly n) tk sy e (omega arith) (recv_on exact n tk a)

  recv_counts : (exact : Bool) (n tk k : ℕ) → 0 < k → k ≤ min (m - n) 4294967295 → RecvFacts b m n tk →
      After table (wanted.Recv d b m exact) (cond (exact && ltb (n + k) m) None (Some outcome.Ok)) (request.Recv (receiving d b m exact (n + k))) (plainly (n + k)) (1 + tk) sy
  recv_counts true n tk k p f a =
      cond_both (ltb (n + k) m) None (Some outcome.Ok) (λ v. After table (wanted.Recv d b m true) v (request.Recv (receiving d b m true (n + k))) (plainly (n + k)) (1 + tk) sy)
      (λ e. recv_on true (n + k) (1 + tk) (record { left = ltb-true _ _ e; small = a.small; inside = a.inside; few = omega arith }))
      (λ e. let c = ltb-false _ _ e in (omega arith, omega arith, λ o. c))
  recv_counts false n tk k p f a = (omega arith, omega arith, λ o. omega arith)

  pub recv_reacts : (exact : Bool) (n tk : ℕ) (k : CqeResult) → Proper k → fits table (request.Recv (receiving d b m exact n)) k ≡ true → RecvFacts b m n tk →
      After table (wanted.Recv d b m exact) (recv_step (receiving d b m exact n) k).outcome (recv_step (receiving d b m exact n) k).request
      (reports 0 (plainly n) (class_heard k)) (besides_retry (class_heard k) + tk) sy
  recv_reacts exact n tk Retry p f a = rw zero-add (recv_on exact n tk a)
  recv_reacts exact n tk Cancelled p f a = recv_fails outcome.Timeout exact n tk refl a
  recv_reacts exact n tk (Error code) p f a = recv_fails outcome.RecvFailed exact n tk refl a
  recv_reacts exact n tk Zero p f a = rw (add-zero n) (recv_fails outcome.RecvFailed exact n tk refl a)
  recv_reacts exact n tk (Count k) p f a =
      let g : k ≤ min (m - n) 4294967295 = leb-true _ _ f in
      let e : plus n k ≡ n + k = omega arith in
      rw e (recv_counts exact n tk k p g a)

-- buffered reads, from the start or after direct reading was given up

abbrev pub ReadMeans : ℕ → Tried → Outcome → Type 0
ReadMeans m (plainly x) o = (x ≤ m) × (o ≡ outcome.Ok → m ≤ x) × (m ≤ x → o ≡ outcome.Ok)
ReadMeans m (directly x) o = ⊥

module _ (f : FileId) (offset place capacity m past : ℕ) where
  abbrev pub AfterReading : Option Outcome → Request → Tried → ℕ → Type 0
  AfterReading None q t tk = Reading f offset place capacity m past q t tk
  AfterReading (Some o) q t tk = (tk ≤ m + 1 + past) × ReadMeans m t o

  abbrev at : ℕ → Cache → ReadAtRequest
  at n cache = reading f offset place capacity m n cache

  read_on : (n tk : ℕ) (cache : Cache) → ReadFacts offset place m past n tk cache → Reading f offset place capacity m past (request.ReadAt (at n cache)) (plainly n) tk
  read_on n tk cache a = record { n = n; cache = cache; request_is = refl; tried_is = refl; facts = a }

  read_fails : (o : Outcome) (n tk : ℕ) (cache : Cache) → ended_well o ≡ false → ReadFacts offset place m past n tk cache → AfterReading (Some o) (request.ReadAt (at n cache)) (plainly n) (1 + tk)
  read_fails o n tk cache e a = (omega arith, (omega arith, (λ k. absurd (not_ok o e k)), (λ c. absurd (omega arith))))

  read_errs : (n tk code : ℕ) (cache : Cache) → ReadFacts offset place m past n tk cache →
      AfterReading (buffered_step (at n cache) (Error code)).outcome (buffered_step (at n cache) (Error code)).request (plainly n) (1 + tk)
  read_errs n tk code cache a =
      cond_both (eqb code 95 && hinting cache) (unhinted (request.ReadAt (without_hint (at n cache)))) (ends (request.ReadAt (at n cache)) outcome.ReadFailed)
      (λ (z : Step). AfterReading z.outcome z.request (plainly n) (1 + tk))
      (λ b. let h = hint_given cache (and_parts (eqb code 95) (hinting cache) b).1 in
      read_on n (1 + tk) Enabled (record { left = a.left; small = a.small; ends = a.ends; inside = a.inside; few = omega arith }))
      (λ b. read_fails outcome.ReadFailed n tk cache refl a)

  pub read_reacts : (table : List ChunkRow) (end n tk : ℕ) (cache : Cache) (k : CqeResult) → Proper k → fits table (request.ReadAt (at n cache)) k ≡ true → ReadFacts offset place m past n tk cache →
      AfterReading (buffered_step (at n cache) k).outcome (buffered_step (at n cache) k).request (reports end (plainly n) (class_heard k)) (besides_retry (class_heard k) + tk)
  read_reacts table end n tk cache Retry p g a = rw zero-add (read_on n tk cache a)
  read_reacts table end n tk cache Cancelled p g a = read_fails outcome.ReadFailed n tk cache refl a
  read_reacts table end n tk cache (Error code) p g a = read_errs n tk code cache a
  read_reacts table end n tk cache Zero p g a = rw (add-zero n) (read_fails outcome.BlobInsufficientLength n tk cache refl a)
  read_reacts table end n tk cache (Count k) p g a =
      let f : k ≤ min (m - n) 4294967295 = leb-true _ _ g in
      let z : plus n k ≡ n + k = omega arith in
      rw z (cond_both (ltb (n + k) m) None (Some outcome.Ok) (λ v. AfterReading v (request.ReadAt (at (n + k) cache)) (plainly (n + k)) (1 + tk))
      (λ b. read_on (n + k) (1 + tk) cache (record { left = ltb-true _ _ b; small = a.small; ends = a.ends; inside = a.inside; few = omega arith }))
      (λ b. let c = ltb-false _ _ b in (omega arith, (omega arith, (λ o. c), (λ o. refl)))))

-- a buffered read as such, and one that was direct
pub read_plainly : (table : List ChunkRow) (f : FileId) (offset : ℕ) (b : Buffer) (cache : Cache) (v : Option Outcome) (q : Request) (t : Tried) (tk : ℕ) (sy : Bool) →
    AfterReading f offset b.place b.capacity b.length 0 v q t tk → After table (wanted.ReadAt f offset b cache) v q t tk sy
read_plainly table f offset b cache None q t tk sy a = a
read_plainly table f offset b cache (Some o) q (plainly x) tk sy a = (omega arith, a.1.0, (a.1.1, a.1.2))
read_plainly table f offset b cache (Some o) q (directly x) tk sy a = absurd a.1

pub read_after_direct : (table : List ChunkRow) (f : FileId) (d offset m place capacity : ℕ) (v : Option Outcome) (q : Request) (t : Tried) (tk : ℕ) (sy : Bool) →
    AfterReading f offset (place + offset % 4096) (capacity - offset % 4096) m (1 + (offset % 4096 + m - 1) / 4096) v q t tk →
    After table (wanted.DirectReadAt f d offset m place capacity) v q t tk sy
read_after_direct table f d offset m place capacity None q t tk sy a = inr a
read_after_direct table f d offset m place capacity (Some o) q (plainly x) tk sy a = (omega arith, a.1.0, (a.1.1, a.1.2))
read_after_direct table f d offset m place capacity (Some o) q (directly x) tk sy a = absurd a.1

-- direct reads

module _ (table : List ChunkRow) (f : FileId) (d offset m place capacity : ℕ) (sy : Bool) where
  abbrev direct_part : Direct
  direct_part = record { descriptor = d; skip = offset % 4096; length = m }

  abbrev direct_at : ℕ → ReadAtRequest
  direct_at n = directing f d offset m place capacity n

  abbrev Leaves : Step → Tried → ℕ → Type 0
  Leaves z t tk = After table (wanted.DirectReadAt f d offset m place capacity) z.outcome z.request t tk sy

  direct_on : (n tk : ℕ) → DirectFacts offset m place capacity n tk → Leaves (goes_on (request.ReadAt (direct_at n))) (directly n) tk
  direct_on n tk a = inl (record { n = n; request_is = refl; tried_is = refl; facts = a })

  direct_fails : (n tk : ℕ) → DirectFacts offset m place capacity n tk → Leaves (ends (request.ReadAt (direct_at n)) outcome.ReadFailed) (directly n) (1 + tk)
  direct_fails n tk a = ends_badly table (wanted.DirectReadAt f d offset m place capacity) outcome.ReadFailed (request.ReadAt (direct_at n)) (directly n) tk sy refl a.some (direct_on n tk a)

  direct_given_up : (n tk : ℕ) → DirectFacts offset m place capacity n tk → Leaves (goes_on (request.ReadAt (given_up (direct_at n) direct_part))) (plainly 0) (1 + tk)
  direct_given_up n tk a =
      let x : plus (offset - offset % 4096) (offset % 4096) ≡ offset = omega arith in
      let y : plus place (offset % 4096) ≡ place + offset % 4096 = omega arith in
      inr (record {
        n = 0;
        cache = Disabled;
        request_is = rw (x, y) refl;
        tried_is = refl;
        facts = record { left = a.some; small = a.small; ends = a.ends; inside = omega arith; few = omega arith };
      })

  direct_counts : (covers whole : Bool) (n tk k : ℕ) (x : ReadAtRequest) → 0 < k → k ≤ min ((offset % 4096 + m + 4095) / 4096 * 4096 - n) 2147479552 →
      leb (offset % 4096 + m) (n + k) ≡ covers → eqb (k % 4096) 0 ≡ whole → DirectFacts offset m place capacity n tk →
      Leaves (cond covers (ends (request.ReadAt x) outcome.Ok) (cond whole (goes_on (request.ReadAt (direct_at (n + k)))) (goes_on (request.ReadAt (given_up (direct_at n) direct_part)))))
      (counted_directly covers whole (n + k)) (1 + tk)
  direct_counts true whole n tk k x p g c v a = let h = leb-true _ _ c in (omega arith, omega arith, ((λ o. h), (λ o. refl)))
  direct_counts false true n tk k x p g c v a =
      let h = leb-false _ _ c in let r = eqb-true _ _ v in
      direct_on (n + k) (1 + tk) (record { left = h; some = a.some; small = a.small; ends = a.ends; fits = a.fits; inside = a.inside; few = omega arith })
  direct_counts false false n tk k x p g c v a = direct_given_up n tk a

  direct_errs : (b : Bool) (n tk : ℕ) → DirectFacts offset m place capacity n tk →
      Leaves (cond b (ends (request.ReadAt (direct_at n)) outcome.ReadFailed) (goes_on (request.ReadAt (given_up (direct_at n) direct_part)))) (cond b (directly n) (plainly 0)) (1 + tk)
  direct_errs true n tk a = direct_fails n tk a
  direct_errs false n tk a = direct_given_up n tk a

  pub direct_reacts : (n tk : ℕ) (k : CqeResult) → Proper k → fits table (request.ReadAt (direct_at n)) k ≡ true → DirectFacts offset m place capacity n tk →
      Leaves (direct_step (direct_at n) direct_part k) (reports (lead offset + m) (directly n) (class_heard k)) (besides_retry (class_heard k) + tk)
  direct_reacts n tk Retry p g a = rw zero-add (direct_on n tk a)
  direct_reacts n tk Cancelled p g a = direct_fails n tk a
  direct_reacts n tk (Error code) p g a = direct_errs (eqb code 125) n tk a
  direct_reacts n tk Zero p g a =
      let z : leb (offset % 4096 + m) (n + 0) ≡ false = lt-leb (offset % 4096 + m) (n + 0) (omega arith) in
      rw z (direct_given_up n tk a)
  direct_reacts n tk (Count k) p g a =
      let h : k ≤ min ((offset % 4096 + m + 4095) / 4096 * 4096 - n) 2147479552 = leb-true _ _ g in
      let x : plus (offset % 4096) m ≡ offset % 4096 + m = omega arith in
      let y : plus n k ≡ n + k = omega arith in
      let u : ltb 0 k ≡ true = lt-ltb 0 k p in
      rw (x, y, u) (direct_counts (leb (offset % 4096 + m) (n + k)) (eqb (k % 4096) 0) n tk k _ p h refl refl a)
