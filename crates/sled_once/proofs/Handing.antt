-- A block that is held back, and how it is handed on.
use Rattle.std.proofs.Common.{◌≡◌, ◌∙◌, inl, inr, ℕ, ◌+◌, ◌≤◌, ◌<◌, ◌^◌, true, false, List, [], ◌∷◌, length, Vec, refl, sym, ap, subst, arith, length-append}
use Rattle.std.specs.declared.alloc.Global.{Global}
use Rattle.sled_disk.specs.Disk.{written, Torn, Follows, NoMore, Only}
use Rattle.sled_disk.proofs.Calls.{torn_written, torn_lost}
use Rattle.sled_log.specs.Digest.{digest}
use Rattle.sled_log.specs.Log.{opened, closed, blocks}
use Rattle.sled_host.specs.Event.{Event, wrote}
use Rattle.sled_host.specs.Outcomes.{seen_after_all, LeftAfterAll}
use Rattle.sled_once.specs.Stages.{IsBlock, EndsIn, EndsAs, IsTornFrom, Stands}
use Rattle.sled_once.specs.declared.stage.End.{End}
use Rattle.sled_once.specs.declared.stage.End.TheVariants.{Staged}
use Rattle.sled_once.specs.declared.stage.Stage.TheVariants.{Through, Held, Opened, Torn as TornOff}
use Rattle.sled_once.proofs.Ending.{behind_block, behind_closed}
use Rattle.sled_once.proofs.Reading.{as_staged, as_torn, torn_staged, read_open, torn_open}
use Rattle.sled_once.proofs.Going.{stays_wrote, stays_lost}

-- the gate is within a file behind whose gate a block was written
pub gate_within : (gate : ℕ) (bytes file : List ℕ) → EndsIn gate file → gate + 1 ≤ length file → IsBlock bytes → gate < length (written (gate + 1) bytes file)
gate_within gate bytes file e place k =
    let log = behind_closed gate bytes file (written (gate + 1) bytes file) e k (torn_written (gate + 1) bytes file place) in
    omega (arith, log.gate_is, ap length log.file_is, length-append (blocks digest e.payloads) (closed ∷ log.rest))

module _ {D : Type 0} (seen : D → List ℕ) (may_leave : D → List ℕ → Type 0) where
  -- a block is held back
  pub held : (old new : D) (end : End) (calls : List Event) (s : Stands seen may_leave (Through end true) old calls) (gate at : ℕ) (block : Vec ℕ Global) (bytes : List ℕ)
      → EndsIn gate (seen old) → at ≡ gate + 1 → at ≡ length (seen old) → 0 < gate → at < 2 ^ 64 → IsBlock block.items → block.items ≡ bytes → seen new ≡ seen old → NoMore (may_leave old) (may_leave new)
      → Stands seen may_leave (Held gate block) new (wrote at bytes true ∷ calls)
  held old new end calls s gate at block bytes ends place len behind small k is same more = record {
    stays = stays_wrote calls s.stays at bytes true (omega (arith, len, ap length s.agrees.same));
    agrees = record {
      only = λ c l. s.agrees.only refl c (more c l) ∙ sym same;
      ends = subst (λ (l : List ℕ). EndsIn gate l) (sym same) ends;
      last = omega (arith, place, len, ap length same);
      behind = behind;
      small = omega (arith, place, small);
      block = k;
      shows = ap (λ (n : ℕ). written n bytes (seen_after_all calls)) place
          ∙ ap (λ (l : List ℕ). written (gate + 1) l (seen_after_all calls)) (sym is)
          ∙ ap (λ (l : List ℕ). written (gate + 1) block.items l) (sym (same ∙ s.agrees.same));
    };
  }

  module _ (old : D) (gate : ℕ) (block : Vec ℕ Global) (calls : List Event) (s : Stands seen may_leave (Held gate block) old calls) where
    abbrev file : List ℕ
    file = seen old

    abbrev staged : List ℕ
    staged = written (gate + 1) block.items file

    abbrev whole : List ℕ
    whole = written gate (opened ∷ []) staged

    from_file : (mid : D) → Follows (Torn (gate + 1) block.items) (may_leave old) (may_leave mid) → (c : List ℕ) → may_leave mid c → Torn (gate + 1) block.items file c
    from_file mid follows c l = let from = follows c l in subst (λ (d : List ℕ). Torn (gate + 1) block.items d c) (s.agrees.only from.0 from.1) from.2

    gate_closed : (mid : D) → Follows (Torn (gate + 1) block.items) (may_leave old) (may_leave mid) → (c : List ℕ) → may_leave mid c → IsTornFrom gate block.items file c
    gate_closed mid follows c l = record { staged = c; block_torn = from_file mid follows c l; gate_torn = torn_lost gate (opened ∷ []) c }

    -- it was to be written behind its closed gate
    pub off_staged : (mid : D) → Follows (Torn (gate + 1) block.items) (may_leave old) (may_leave mid) → Stands seen may_leave (TornOff gate block) mid calls
    off_staged mid follows = record {
      stays = s.stays;
      agrees = record {
        told = λ c l told. as_staged calls gate block.items file s.agrees.ends s.agrees.last s.agrees.behind s.agrees.block c (from_file mid follows c l) (inl (sym s.agrees.shows));
        torn = λ c l. torn_staged calls gate block.items file s.agrees.ends s.agrees.last s.agrees.behind s.agrees.block c (gate_closed mid follows c l) (inl (sym s.agrees.shows));
      };
    }

    pub off_synced : (mid new : D) → Follows (Torn (gate + 1) block.items) (may_leave old) (may_leave mid) → NoMore (may_leave mid) (may_leave new) → Stands seen may_leave (TornOff gate block) new calls
    off_synced mid new follows more = record { stays = s.stays; agrees = record { told = λ c l told. (off_staged mid follows).agrees.told c (more c l) told; torn = λ c l. (off_staged mid follows).agrees.torn c (more c l) } }

    -- and it was, and synced
    pub handed : (mid new : D) (count : ℕ) → count ≡ length block.items → seen mid ≡ staged → seen new ≡ seen mid → Only (seen mid) (may_leave new) → Stands seen may_leave (Through (Staged gate count) true) new calls
    handed mid new count count_is is same only = record {
      stays = s.stays;
      agrees = record {
        same = same ∙ is ∙ sym s.agrees.shows;
        left = λ c l. subst (λ (d : List ℕ). LeftAfterAll calls d) (s.agrees.shows ∙ sym is ∙ sym (only c l)) s.stays;
        ends = record { before = file; ends = s.agrees.ends; bytes = block.items; block = s.agrees.block; count_is = sym count_is; is = same ∙ is };
        only = λ yes c l. only c l ∙ sym same;
      };
    }

    place : gate + 1 ≤ length file
    place = omega (arith, s.agrees.last)

    within : gate ≤ length (seen_after_all calls)
    within = omega (arith, gate_within gate block.items file s.agrees.ends place s.agrees.block, ap length s.agrees.shows)

    pub gate_place : (mid : D) → seen mid ≡ staged → gate ≤ length (seen mid)
    gate_place mid is = omega (arith, gate_within gate block.items file s.agrees.ends place s.agrees.block, ap length is)

    abbrev refused : List Event
    refused = wrote gate (opened ∷ []) false ∷ calls

    -- the block was to be written, or its gate to be opened, and that was refused
    pub off_block : (mid : D) → Follows (Torn (gate + 1) block.items) (may_leave old) (may_leave mid) → Stands seen may_leave (TornOff gate block) mid refused
    off_block mid follows = record {
      stays = stays_lost calls s.stays gate (opened ∷ []);
      agrees = record {
        told = λ c l told. as_staged refused gate block.items file s.agrees.ends s.agrees.last s.agrees.behind s.agrees.block c (from_file mid follows c l) (inl (sym s.agrees.shows));
        torn = λ c l. torn_staged refused gate block.items file s.agrees.ends s.agrees.last s.agrees.behind s.agrees.block c (gate_closed mid follows c l) (inl (sym s.agrees.shows));
      };
    }

    torn_off : (mid new : D) → Follows (Torn (gate + 1) block.items) (may_leave old) (may_leave mid) → Follows (Torn gate (opened ∷ [])) (may_leave mid) (may_leave new) → (c : List ℕ) → may_leave new c → IsTornFrom gate block.items file c
    torn_off mid new follows gate_follows c l = let from = gate_follows c l in record { staged = from.0; block_torn = from_file mid follows from.0 from.1; gate_torn = from.2 }

    stays_staged : LeftAfterAll calls staged
    stays_staged = subst (λ (d : List ℕ). LeftAfterAll calls d) s.agrees.shows s.stays

    pub off_gate : (mid new : D) → Follows (Torn (gate + 1) block.items) (may_leave old) (may_leave mid) → Follows (Torn gate (opened ∷ [])) (may_leave mid) (may_leave new) → Stands seen may_leave (TornOff gate block) new refused
    off_gate mid new follows gate_follows = record {
      stays = stays_lost calls s.stays gate (opened ∷ []);
      agrees = record {
        told = λ c l told.
            as_torn refused gate block.items file s.agrees.ends s.agrees.last s.agrees.behind s.agrees.block c (torn_off mid new follows gate_follows c l)
            (inl (sym s.agrees.shows))
            (inr (staged, stays_staged, torn_written gate (opened ∷ []) staged (omega (arith, gate_within gate block.items file s.agrees.ends place s.agrees.block))))
            told;
        torn = λ c l. torn_staged refused gate block.items file s.agrees.ends s.agrees.last s.agrees.behind s.agrees.block c (torn_off mid new follows gate_follows c l) (inl (sym s.agrees.shows));
      };
    }

    -- both were written
    pub opens : (mid new : D) → seen mid ≡ staged → seen new ≡ written gate (opened ∷ []) (seen mid) → Follows (Torn (gate + 1) block.items) (may_leave old) (may_leave mid) → Follows (Torn gate (opened ∷ [])) (may_leave mid) (may_leave new)
        → Stands seen may_leave (Opened gate block) new (wrote gate (opened ∷ []) true ∷ calls)
    opens mid new is gate_is follows gate_follows = record {
      stays = stays_wrote calls s.stays gate (opened ∷ []) true within;
      agrees = record {
        file = file;
        ends = s.agrees.ends;
        last = s.agrees.last;
        behind = s.agrees.behind;
        block = s.agrees.block;
        same = gate_is ∙ ap (λ (l : List ℕ). written gate (opened ∷ []) l) (is ∙ sym s.agrees.shows);
        shows = gate_is ∙ ap (λ (l : List ℕ). written gate (opened ∷ []) l) is;
        torn = torn_off mid new follows gate_follows;
        closed = (staged, stays_staged, torn_lost gate (opened ∷ []) staged);
      };
    }

  module _ (old new : D) (gate : ℕ) (block : Vec ℕ Global) (calls : List Event) (s : Stands seen may_leave (Opened gate block) old calls) where
    -- both are on the disk
    pub brought : (end : End) (count : ℕ) → count ≡ length block.items → ((l : List ℕ) → EndsIn (gate + count) l → EndsAs end l) → seen new ≡ seen old → Only (seen old) (may_leave new) → Stands seen may_leave (Through end true) new calls
    brought end count count_is known same only = record {
      stays = s.stays;
      agrees = record {
        same = same ∙ s.agrees.same;
        left = λ c l. subst (λ (d : List ℕ). LeftAfterAll calls d) (sym (only c l ∙ s.agrees.same)) s.stays;
        ends = known (seen new) (
            subst (λ (n : ℕ). EndsIn (gate + n) (seen new)) (sym count_is)
            (subst (λ (l : List ℕ). EndsIn (gate + length block.items) l) (sym (same ∙ s.agrees.shows)) (behind_block gate block.items s.agrees.file s.agrees.ends s.agrees.block))
            );
        only = λ yes c l. only c l ∙ sym same;
      };
    }

    -- or that was refused
    pub off_sync : NoMore (may_leave old) (may_leave new) → Stands seen may_leave (TornOff gate block) new calls
    off_sync more = record {
      stays = s.stays;
      agrees = record {
        told = λ c l told. read_open seen may_leave old calls gate block.items s.agrees c (more c l) told;
        torn = λ c l. torn_open seen may_leave old calls gate block.items s.agrees c (more c l);
      };
    }
