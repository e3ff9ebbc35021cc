-- Every run of a transfer keeps the laws.
use Rattle.std.proofs.Common.{◌≡◌, ℕ, ◌<◌, Bool, true, false, eqb, List, [], ◌∷◌, ◌++◌, ℤ, Some, None, Ok, Option, sym, refl, ◌∙◌, subst, inl, inr, arith}
use Rattle.std.proofs.lemmas.Bool.{ne_eqb}
use Rattle.records.specs.declared.buffer.ChunkRow.{ChunkRow}
use Rattle.records.specs.declared.waiter.WaiterState.{WaiterState}
use Rattle.records.specs.declared.outcome.Outcome.{Outcome}
use Rattle.records.specs.States.{cancel_granted}
use Rattle.request.specs.declared.kinds.Request.{Request}
use Rattle.request.specs.declared.kinds.Wanted.{Wanted}
use Rattle.request.specs.declared.kinds.Wanted.TheVariants as wanted
use Rattle.request.specs.Progress.{bytes_to_move, bytes_submitted}
use Rattle.cqe.specs.Classes.{classified}
use Rattle.cqe.specs.Cqe.{is_sync, on_cqe}
use Rattle.runs.specs.Notions.{Event, Event.submitted, Event.completed, Heard, heard, Tried, bytes_wanted, takes, tried, synced, fsync_last, asked_last, cancelled_last}
use Rattle.runs.specs.Laws.{Good, FitsAsked, Lawful, EveryRunIsLawful}
use Rattle.runs.specs.declared.transfer.Standing.{Standing}
use Rattle.runs.specs.declared.transfer.Standing.TheVariants.{Queued, InFlight, Ended}
use Rattle.runs.specs.Runs.{stands, Run, Run.begins, Run.submits, Run.completes}
use Rattle.runs.proofs.Placing.{at_length}
use Rattle.runs.proofs.Going.{Going, After, bounded}
use Rattle.runs.proofs.Reacting.{matches, CompletedWell, read_in}
use Rattle.runs.proofs.Staging.{BuiltWell, stages}
use Rattle.runs.proofs.Admitting.{AdmittedWell, admits}

-- at each event, with what came before it
module _ {A : Type 0} (P : A → List A → Type 0) where
  abbrev pub Each : List A → Type 0
  Each h = (later earlier : List A) (e : A) → h ≡ later ++ (e ∷ earlier) → P e earlier

  pub each_none : Each []
  each_none [] earlier e eq = cc
  each_none (x ∷ later) earlier e eq = cc

  pub each_more : (e : A) (h : List A) → P e h → Each h → Each (e ∷ h)
  each_more e h p all [] earlier e' eq =
      let a : e ≡ e' = cc in let b : h ≡ earlier = cc in
      rw (← a, ← b) p
  each_more e h p all (x ∷ later) earlier e' eq = all later earlier e' (cc)

-- some bytes are to be moved
not_empty : (n : ℕ) → 0 < n → eqb n 0 ≡ false
not_empty n h = ne_eqb n 0 (λ e. omega arith)

moving : (table : List ChunkRow) (w : Wanted) (q : Request) (t : Tried) (tk : ℕ) (sy : Bool) → 0 < bytes_wanted table w → Going table w q t tk sy → eqb (bytes_to_move q) 0 ≡ false
moving table (wanted.Send d s) q t tk sy z g = rw (g.request_is, at_length table s g.n g.c g.facts.placed) (not_empty _ z)
moving table (wanted.Recv d b m exact) q t tk sy z g = rw g.request_is (not_empty _ z)
moving table (wanted.ReadAt f offset b cache) q t tk sy z g = rw g.request_is (not_empty _ z)
moving table (wanted.DirectReadAt f d offset m place capacity) q t tk sy z (inl g) = rw g.request_is (not_empty _ z)
moving table (wanted.DirectReadAt f d offset m place capacity) q t tk sy z (inr g) = rw g.request_is (not_empty _ z)
moving table (wanted.WriteAt f offset s m cache) q t tk sy z (inl g) = rw (g.request_is, at_length table s g.n g.c g.facts.placed) (not_empty _ z)
moving table (wanted.WriteAt f offset s m cache) q t tk sy z (inr g) = rw (g.request_is, at_length table s _ g.c g.facts.placed) (not_empty _ z)
moving table (wanted.Sync f) q t tk sy z g = absurd (omega arith)

-- what was submitted asked for no less than the request says
wider : (y z : Bool) (a b : ℕ) (e : Heard) → z ≡ y → (y ≡ false → a ≡ b) → FitsAsked y a e → FitsAsked z b e
wider true z a b e i j f = rw i tt
wider false z a b e i j f = rw (i, ← j refl) f

-- a run

abbrev pub Inv : List ChunkRow → Wanted → Standing → List Event → Type 0
Inv table w (Queued q) h = Going table w q (tried w h) (takes h) (synced h) × (cancelled_last h ≡ false)
Inv table w (InFlight q) h =
    Going table w q (tried w h) (takes h) (synced h)
    × (fsync_last h ≡ is_sync q)
    × (is_sync q ≡ false → bytes_submitted table q ≡ asked_last h)
Inv table w (Ended q o) h = After table w (Some o) q (tried w h) (takes h) (synced h)

completing : (table : List ChunkRow) (w : Wanted) (v : Option Outcome) (q : Request) (x : Bool) (r : ℤ) (h : List Event) →
    After table w v q (tried w (completed x r ∷ h)) (takes (completed x r ∷ h)) (synced (completed x r ∷ h)) → (v ≡ None → x ≡ false) →
    Inv table w (stands v q) (completed x r ∷ h)
completing table w None q x r h a c = (a, c refl)
completing table w (Some o) q x r h a c = a

pub record Kept (table : List ChunkRow) (w : Wanted) (p : Standing) (h : List Event) : Type 0 where
  pub inv : Inv table w p h
  pub each : Each (Good table w) h

completes_well : (table : List ChunkRow) (w : Wanted) (q : Request) (state : WaiterState) (r : ℤ) (h : List Event) → 0 < bytes_wanted table w → Going table w q (tried w h) (takes h) (synced h) →
    CompletedWell table w q (cancel_granted state) (heard r) (tried w h) (takes h) (synced h) (on_cqe table q state r)
completes_well table w q state r h z g =
    let x = cancel_granted state in
    rw (moving table w q (tried w h) (takes h) (synced h) z g) (read_in table w q (tried w h) (takes h) (synced h) x (heard r) (classified r x false) (matches r x) z g)

pub kept : {table : List ChunkRow} {w : Wanted} {p : Standing} {h : List Event} → Run table w p h → 0 < bytes_wanted table w → Kept table w p h
kept {table} {w} (begins p q e i) z =
    let a : Going table w q _ 0 false = subst (AdmittedWell table w) e (admits table w z) in
    rw i (record { inv = (a, refl); each = each_none (Good table w) })
kept {table} {w} (submits p q g list after s h run b a i) z =
    let k = kept run z in
    let c : BuiltWell table w (tried w h) (takes h) (synced h) (Ok s) after =
    subst (λ r. BuiltWell table w (tried w h) (takes h) (synced h) r after) b (rw a (stages table w q (tried w h) (takes h) (synced h) g list z k.inv.0)) in
    rw i (record {
      inv = (c.0, c.1, c.2);
      each = each_more (Good table w) (submitted s.submission after) h (c.3, k.inv.1) k.each;
    })
kept {table} {w} (completes p q state r s h run b i) z =
    let k = kept run z in
    let c = subst (CompletedWell table w q (cancel_granted state) (heard r) (tried w h) (takes h) (synced h)) b (completes_well table w q state r h z k.inv.0) in
    rw i (record {
      inv = completing table w s.outcome s.request (cancel_granted state) r h (rw k.inv.1 c.0) c.2;
      each = each_more (Good table w) (completed (cancel_granted state) r) h (wider (is_sync q) (fsync_last h) _ _ (heard r) k.inv.1 k.inv.2 c.1) k.each;
    })

pub every_run : EveryRunIsLawful
every_run table w p h run z = conclude p (kept run z)
  where
    conclude : (p : Standing) → Kept table w p h → Lawful table w p h
    conclude (Queued q) k =
        let b = bounded table w q _ _ _ z k.inv.0 in
        record { within = b.within; each = k.each; bound = omega arith; asked = tt; ending = tt }
    conclude (InFlight q) k =
        let b = bounded table w q _ _ _ z k.inv.0 in
        record { within = b.within; each = k.each; bound = omega arith; asked = λ e. k.inv.2 (sym k.inv.1 ∙ e); ending = tt }
    conclude (Ended q o) k = record { within = k.inv.1; each = k.each; bound = k.inv.0; asked = tt; ending = k.inv.2 }
