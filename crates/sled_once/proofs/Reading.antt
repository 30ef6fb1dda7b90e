-- What a crash leaves of the disk behind is read as what the calls may have left.
use Rattle.std.proofs.Common.{◌≡◌, ◌∙◌, inl, inr, ⊎_elim, ℕ, ◌+◌, ◌≤◌, ◌<◌, List, [], ◌∷◌, ◌++◌, length, refl, sym, ap, subst, arith, length-append}
use Rattle.std.specs.Int.{w64, to_le_bytes}
use Rattle.std.proofs.lemmas.List.{append-nil}
use Rattle.sled_disk.specs.Disk.{written, Torn, NoMore}
use Rattle.sled_disk.proofs.Calls.{torn_written, torn_lost}
use Rattle.sled_log.specs.Digest.{digest}
use Rattle.sled_log.specs.Log.{opened, closed, blocks}
use Rattle.sled_log.specs.Tear.{log_to_tear}
use Rattle.sled_log.proofs.ReadingLemmas.{digest_small}
use Rattle.sled_log.proofs.Tearing.{log_reads, torn_gate}
use Rattle.sled_host.specs.Event.{Event}
use Rattle.sled_host.specs.Outcomes.{LeftAfterAll, MayLeave}
use Rattle.sled_once.specs.Once.{Once, LeavesAsRead}
use Rattle.sled_once.specs.Stages.{IsBlock, EndsIn, IsReadAsLeft, IsToldAt, IsTold, IsHeld, IsReadAsOne, IsOpen, IsTornFrom, IsTornOf, IsTornIn, IsOver, LeavesReadAs, Agrees}
use Rattle.sled_once.specs.declared.stage.Stage.{Stage}
use Rattle.sled_once.specs.declared.stage.Stage.TheVariants.{Through, Held, Opened, Torn as TornOff, Stopped}
use Rattle.sled_once.proofs.Ending.{block_for, with_block, behind_closed}

-- a log whose gate is not the first byte has a block
has_block : (gate : ℕ) (file : List ℕ) (e : EndsIn gate file) → 0 < gate → e.payloads ≡ [] → ⊥
has_block gate file e behind none = absurd (omega (arith, behind, e.log.gate_is, ap (λ (ps : List (List ℕ)). length (blocks digest ps)) none))

has_one : (ps : List (List ℕ)) (p : List ℕ) → ps ++ p ∷ [] ≡ [] → ⊥
has_one ps p none = absurd (omega (arith, ap length none, length-append ps (p ∷ [])))

-- what was left of a block, for more files
pub torn_of : (files others : List ℕ → Type 0) → NoMore others files → (gate : ℕ) (bytes c : List ℕ) → IsTornOf files gate bytes c → IsTornOf others gate bytes c
torn_of files others more gate bytes c t = record { file = t.file; ends = t.ends; last = t.last; behind = t.behind; block = t.block; under_way = more (written (gate + 1) bytes t.file) t.under_way; torn = t.torn }

pub as_itself : (calls : List Event) (c : List ℕ) → LeftAfterAll calls c → IsReadAsLeft calls c
as_itself calls c left = record { file = c; left = inr left; is_read = inl refl }

module _ (calls : List Event) (gate : ℕ) (bytes file : List ℕ) (e : EndsIn gate file) (last : gate + 1 ≡ length file) (behind : 0 < gate) (k : IsBlock bytes) where
  abbrev staged : List ℕ
  staged = written (gate + 1) bytes file

  abbrev whole : List ℕ
  whole = written gate (opened ∷ []) staged

  place : gate + 1 ≤ length file
  place = omega (arith, last)

  staged_reads : log_to_tear digest staged ≡ e.payloads
  staged_reads = log_reads digest digest_small (behind_closed gate bytes file staged e k (torn_written (gate + 1) bytes file place))

  whole_reads : log_to_tear digest whole ≡ e.payloads ++ k.payload ∷ []
  whole_reads = log_reads digest digest_small (with_block gate bytes file e k)

  -- while the gate is closed
  pub as_staged : (c : List ℕ) → Torn (gate + 1) bytes file c → MayLeave calls staged → IsReadAsLeft calls c
  as_staged c torn left = record {
    file = staged;
    left = left;
    is_read = inr (
      log_reads digest digest_small (behind_closed gate bytes file c e k torn) ∙ sym staged_reads,
      λ none. has_block gate file e behind (sym staged_reads ∙ none),
    );
  }

  pub torn_staged : (c : List ℕ) → IsTornFrom gate bytes file c → MayLeave calls staged → IsTornOf (MayLeave calls) gate bytes c
  torn_staged c torn left = record { file = file; ends = e; last = last; behind = behind; block = k; under_way = left; torn = torn }

  -- while it is opened
  pub as_torn : (c : List ℕ) → IsTornFrom gate bytes file c → MayLeave calls staged → MayLeave calls whole → IsToldAt gate bytes c → IsReadAsLeft calls c
  as_torn c t closed opening told =
      let b = block_for e k in
      let torn = torn_gate b last t.staged c t.block_torn t.gate_torn in
      ⊎_elim
      (λ none. record {
        file = staged;
        left = closed;
        is_read = inr (
          torn.log ∙ ap (λ (more : List (List ℕ)). e.payloads ++ more) none ∙ append-nil e.payloads ∙ sym staged_reads,
          λ nothing. has_block gate file e behind (sym staged_reads ∙ nothing),
        );
      })
      (λ new. record {
        file = whole;
        left = opening;
        is_read = inr (
          torn.log ∙ ap (λ (more : List (List ℕ)). e.payloads ++ more) new ∙ sym whole_reads,
          λ nothing. has_one e.payloads k.payload (sym whole_reads ∙ nothing),
        );
      })
      (torn.told (λ read is. told read k.payload is k.is))

module _ {D : Type 0} (seen : D → List ℕ) (may_leave : D → List ℕ → Type 0) (disk : D) (calls : List Event) where
  read_held : (gate : ℕ) (bytes : List ℕ) → IsHeld seen may_leave gate bytes disk calls → (c : List ℕ) → may_leave disk c → IsReadAsLeft calls c
  read_held gate bytes h c left =
      as_staged calls gate bytes (seen disk) h.ends h.last h.behind h.block c
      (subst (λ (l : List ℕ). Torn (gate + 1) bytes (seen disk) l) (sym (h.only c left)) (torn_lost (gate + 1) bytes (seen disk)))
      (inl (sym h.shows))

  pub read_open : (gate : ℕ) (bytes : List ℕ) → IsOpen seen may_leave gate bytes disk calls → (c : List ℕ) → may_leave disk c → IsToldAt gate bytes c → IsReadAsLeft calls c
  read_open gate bytes o c left told = as_torn calls gate bytes o.file o.ends o.last o.behind o.block c (o.torn c left) (inr o.closed) (inl (sym o.shows ∙ o.same)) told

  pub torn_open : (gate : ℕ) (bytes : List ℕ) → IsOpen seen may_leave gate bytes disk calls → (c : List ℕ) → may_leave disk c → IsTornOf (MayLeave calls) gate bytes c
  torn_open gate bytes o c left = record { file = o.file; ends = o.ends; last = o.last; behind = o.behind; block = o.block; under_way = inr o.closed; torn = o.torn c left }

  -- whatever is left
  reads : (stage : Stage) → Agrees seen may_leave stage disk calls → (c : List ℕ) → may_leave disk c → IsTold stage c → IsReadAsLeft calls c
  reads (Through end is_synced) t c left told = as_itself calls c (t.left c left)
  reads (Held gate block) h c left told = read_held gate block.items h c left
  reads (Opened gate block) o c left told = read_open gate block.items o c left told
  reads (TornOff gate block) t c left told = t.told c left told
  reads Stopped a c left told = a c left

  -- and what the digest does not tell
  tears : (stage : Stage) → Agrees seen may_leave stage disk calls → (c : List ℕ) → may_leave disk c → (IsTold stage c → ⊥) → IsTornIn stage (MayLeave calls) c
  tears (Through end is_synced) t c left untold = untold tt
  tears (Held gate block) h c left untold = untold tt
  tears (Opened gate block) o c left untold = torn_open gate block.items o c left
  tears (TornOff gate block) t c left untold = t.torn c left
  tears Stopped a c left untold = untold tt

pub reads_as_left : {D : Type 0} (seen : D → List ℕ) (may_leave : D → List ℕ → Type 0) (f : Once D) → Agrees seen may_leave f.stage f.disk f.calls → LeavesAsRead may_leave f
reads_as_left seen may_leave f a = record { each = reads seen may_leave f.disk f.calls f.stage a; untold = tears seen may_leave f.disk f.calls f.stage a }

-- of no bytes the digest tells all
pub told_of_none : (gate : ℕ) (c : List ℕ) → IsToldAt gate [] c
told_of_none gate c read new is none = absurd (omega (arith, ap length none, length-append (to_le_bytes w64 (length new)) (to_le_bytes w64 (digest new) ++ new ++ closed ∷ []), length-append (to_le_bytes w64 (digest new)) (new ++ closed ∷ []), length-append new (closed ∷ [])))

-- what is left once a call was refused
pub read_over : {D : Type 0} (seen : D → List ℕ) (may_leave : D → List ℕ → Type 0) (disk : D) (calls : List Event) (stage : Stage) → IsOver stage → Agrees seen may_leave stage disk calls → LeavesReadAs (MayLeave calls) (may_leave disk)
read_over seen may_leave disk calls (Through end synced) o agrees = absurd o
read_over seen may_leave disk calls (Held gate block) o agrees = absurd o
read_over seen may_leave disk calls (Opened gate block) o agrees = absurd o
read_over seen may_leave disk calls (TornOff gate block) o t = record {
  gate = gate;
  bytes = block.items;
  each = λ c left told. let r : IsReadAsLeft calls c = t.told c left told in (r.file, r.left, r.is_read);
  untold = λ c left untold. torn_of (MayLeave calls) (IsReadAsOne (MayLeave calls)) (λ file l. (file, l, inl refl)) gate block.items c (t.torn c left);
}
read_over seen may_leave disk calls Stopped o agrees = record {
  gate = 0;
  bytes = [];
  each = λ c left told. let r : IsReadAsLeft calls c = agrees c left in (r.file, r.left, r.is_read);
  untold = λ c left untold. absurd (untold (told_of_none 0 c));
}
