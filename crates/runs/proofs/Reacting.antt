-- A granted completion keeps what holds, whatever was wanted.
use Rattle.std.proofs.Common.{◌≡◌, ℕ, ◌+◌, ◌-◌, ◌/◌, ◌%◌, ◌<◌, Bool, true, false, cond, ◌&&◌, ◌||◌, eqb, ltb, leb, List, ℤ, pos, negsuc, Some, None, Ok, Err, Option, Result, refl, ap, inl, inr, arith}
use Rattle.std.proofs.lemmas.Bool.{cond_both, leb-true, eqb-true, eqb-false}
use Rattle.records.specs.declared.buffer.ChunkRow.{ChunkRow}
use Rattle.records.specs.declared.denial.Denial.{Denial}
use Rattle.records.specs.declared.outcome.Outcome.{Outcome}
use Rattle.records.specs.declared.outcome.Outcome.TheVariants as outcome
use Rattle.request.specs.declared.kinds.Request.{Request}
use Rattle.request.specs.declared.kinds.Wanted.{Wanted}
use Rattle.request.specs.declared.kinds.Wanted.TheVariants as wanted
use Rattle.request.specs.Progress.{bytes_submitted}
use Rattle.cqe.specs.declared.result.CqeResult.{CqeResult}
use Rattle.cqe.specs.declared.result.CqeResult.TheVariants.{Retry, Cancelled, Error, Zero, Count}
use Rattle.cqe.specs.declared.step.Step.{Step}
use Rattle.cqe.specs.Classes.{classified, error_class}
use Rattle.cqe.specs.Cqe.{fits, reacted, is_sync, read_as}
use Rattle.cqe.specs.Steps.{settled_outcome}
use Rattle.runs.specs.Notions.{Heard, Heard.retry, Heard.failed, Heard.moved, heard, Tried, bytes_wanted, besides_retry, told, synced_by, range_end}
use Rattle.runs.specs.Laws.{FitsAsked}
use Rattle.runs.proofs.Going.{Going, After, stopping}
use Rattle.runs.proofs.ReactingReads.{class_heard, Proper, recv_reacts, read_reacts, direct_reacts, read_plainly, read_after_direct}
use Rattle.runs.proofs.ReactingWrites.{send_reacts, write_reacts, sync_reacts}

-- each kind

pub reacts : (table : List ChunkRow) (w : Wanted) (q : Request) (t : Tried) (tk : ℕ) (sy : Bool) (k : CqeResult) → 0 < bytes_wanted table w → Proper k → fits table q k ≡ true → Going table w q t tk sy →
    After table w (reacted table q k).outcome (reacted table q k).request (told (is_sync q) (range_end w) t (class_heard k)) (besides_retry (class_heard k) + tk) (synced_by (is_sync q) (class_heard k) sy)
reacts table (wanted.Send d s) q t tk sy k z p f g =
    let e = rw g.request_is at f in rw (g.request_is, g.tried_is) (send_reacts table d s sy g.n tk g.c k p e g.facts)
reacts table (wanted.Recv d b m exact) q t tk sy k z p f g =
    let e = rw g.request_is at f in rw (g.request_is, g.tried_is) (recv_reacts table d b m sy exact g.n tk k p e g.facts)
reacts table (wanted.ReadAt fl offset b cache) q t tk sy k z p f g =
    let e = rw g.request_is at f in
    rw (g.request_is, g.tried_is) (read_plainly table fl offset b cache _ _ _ _ sy
    (read_reacts fl offset b.place b.capacity b.length 0 table 0 g.n tk g.cache k p e g.facts))
reacts table (wanted.DirectReadAt fl d offset m place capacity) q t tk sy k z p f (inl g) =
    let e = rw g.request_is at f in rw (g.request_is, g.tried_is) (direct_reacts table fl d offset m place capacity sy g.n tk k p e g.facts)
reacts table (wanted.DirectReadAt fl d offset m place capacity) q t tk sy k z p f (inr g) =
    let e = rw g.request_is at f in
    rw (g.request_is, g.tried_is) (read_after_direct table fl d offset m place capacity _ _ _ _ sy
    (read_reacts fl offset (place + offset % 4096) (capacity - offset % 4096) m (1 + (offset % 4096 + m - 1) / 4096) table (offset % 4096 + m) g.n tk g.cache k p e g.facts))
reacts table (wanted.WriteAt fl offset s m cache) q t tk sy k z p f (inl g) =
    let e = rw g.request_is at f in
    rw (g.request_is, g.tried_is, g.not_yet) (write_reacts table fl offset s cache m g.n tk g.c g.cache k p e g.facts)
reacts table (wanted.WriteAt fl offset s m cache) q t tk sy k z p f (inr g) =
    rw (g.request_is, g.tried_is, g.not_yet) (sync_reacts table fl offset s cache m tk g.c g.cache k g.facts z)
reacts table (wanted.Sync fl) q t tk sy k z p f g = absurd (omega arith)

-- a result as it is classified is heard as the laws hear it
abbrev pub Matches : Heard → Option CqeResult → Type 0
Matches e None = Unit {0}
Matches e (Some k) = (e ≡ class_heard k) × Proper k

count_matches : (n : ℕ) (b : Bool) → eqb n 0 ≡ b → Matches (moved n) (Some (cond (b && true) Zero (Count n)))
count_matches n true e = (ap moved (eqb-true n 0 e), tt)
count_matches n false e = (refl, omega (arith, eqb-false n 0 e))

error_matches : (code : ℕ) (a b x : Bool) → eqb code 125 ≡ b → Matches (cond a retry (failed code)) (Some (cond a Retry (cond (b && x) Cancelled (Error code))))
error_matches code true b x e = (refl, tt)
error_matches code false true true e = (ap failed (eqb-true code 125 e), tt)
error_matches code false true false e = (refl, tt)
error_matches code false false x e = (refl, tt)

low_matches : (c : Bool) (code : ℕ) (x : Bool) → Matches (cond (eqb code 11 || eqb code 4) retry (failed code)) (cond c (Some (error_class code x)) None)
low_matches true code x = error_matches code (eqb code 11 || eqb code 4) (eqb code 125) x refl
low_matches false code x = tt

pub matches : (r : ℤ) (x : Bool) → Matches (heard r) (classified r x false)
matches (pos n) x = count_matches n (eqb n 0) refl
matches (negsuc k) x = low_matches (ltb k 4095) (k + 1) x

-- after a cancel nothing goes on
settles : (table : List ChunkRow) (w : Wanted) (x : Bool) (v : Option Outcome) (q : Request) (t : Tried) (tk : ℕ) (sy : Bool) → 0 < bytes_wanted table w →
    After table w v q t tk sy → After table w (settled_outcome x v) q t tk sy
settles table w true None q t tk sy z a = stopping table w outcome.Timeout q t tk sy refl z a
settles table w false None q t tk sy z a = a
settles table w x (Some o) q t tk sy z a = a

-- a count that is granted fits what was asked for
class_fits : (y : Bool) (n : ℕ) (k : CqeResult) → ((j : ℕ) → k ≡ Count j → (y || leb j n) ≡ true) → FitsAsked y n (class_heard k)
class_fits true n k h = tt
class_fits false n Retry h = tt
class_fits false n Cancelled h = tt
class_fits false n (Error code) h = tt
class_fits false n Zero h = omega arith
class_fits false n (Count j) h = leb-true _ _ (h j refl)

goes_uncancelled : (x : Bool) (v : Option Outcome) → settled_outcome x v ≡ None → x ≡ false
goes_uncancelled true None e = cc
goes_uncancelled false None e = refl
goes_uncancelled x (Some o) e = cc

-- what a granted completion leaves, that it fits, and that a cancelled one ends
abbrev pub CompletedWell : List ChunkRow → Wanted → Request → (cancelled : Bool) → Heard → Tried → ℕ → Bool → Result Step Denial → Type 0
CompletedWell table w q x e t tk sy (Err d) = Unit {0}
CompletedWell table w q x e t tk sy (Ok s) =
    After table w s.outcome s.request (told (is_sync q) (range_end w) t e) (besides_retry e + tk) (synced_by (is_sync q) e sy)
    × FitsAsked (is_sync q) (bytes_submitted table q) e
    × (s.outcome ≡ None → x ≡ false)

pub read_in : (table : List ChunkRow) (w : Wanted) (q : Request) (t : Tried) (tk : ℕ) (sy x : Bool) (e : Heard) (o : Option CqeResult) → Matches e o → 0 < bytes_wanted table w → Going table w q t tk sy →
    CompletedWell table w q x e t tk sy (read_as table q x o)
read_in table w q t tk sy x e None m z g = tt
read_in table w q t tk sy x e (Some k) m z g =
    rw m.0 (cond_both (fits table q k) _ _ (CompletedWell table w q x (class_heard k) t tk sy)
    (λ f. (
      settles table w x (reacted table q k).outcome (reacted table q k).request _ _ _ z (reacts table w q t tk sy k z m.1 f g),
      class_fits (is_sync q) (bytes_submitted table q) k (λ j i. rw i at f),
      goes_uncancelled x (reacted table q k).outcome,
    ))
    (λ f. tt))
