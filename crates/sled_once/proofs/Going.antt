-- What the disk behind has after one call more.
use Rattle.std.proofs.Common.{◌≡◌, ◌∙◌, inl, inr, ⊎_elim, ℕ, ◌≤◌, Bool, true, false, List, ◌∷◌, length, take, Vec, refl, sym, ap, subst, arith}
use Rattle.std.specs.declared.alloc.Global.{Global}
use Rattle.std.proofs.lemmas.List.{take_all}
use Rattle.sled_disk.specs.Disk.{written, Torn, Shortened, Follows, NoMore, Only}
use Rattle.sled_disk.proofs.Calls.{torn_written, torn_lost, shortened_cut}
use Rattle.sled_host.specs.Event.{Event, wrote, cut, synced}
use Rattle.sled_host.specs.Outcomes.{seen_after_all, LeftAfterAll, MayLeave}
use Rattle.sled_once.specs.Stages.{EndsAs, IsReadAsLeft, IsTornOff, IsOver, Stands}
use Rattle.sled_once.specs.declared.stage.End.{End}
use Rattle.sled_once.specs.declared.stage.Stage.{Stage}
use Rattle.sled_once.specs.declared.stage.Stage.TheVariants.{Through, Held, Opened, Torn as TornOff, Stopped}
use Rattle.sled_once.proofs.Reading.{as_itself, torn_of}

shortened_lost : (n : ℕ) (file : List ℕ) → Shortened n file file
shortened_lost n file = record { no_shorter = omega arith; front = sym (take_all (length file) file (omega arith)) }

module _ (calls : List Event) (stays : LeftAfterAll calls (seen_after_all calls)) where
  pub stays_wrote : (at : ℕ) (bytes : List ℕ) (done : Bool) → at ≤ length (seen_after_all calls) → LeftAfterAll (wrote at bytes done ∷ calls) (seen_after_all (wrote at bytes done ∷ calls))
  stays_wrote at bytes true le = (seen_after_all calls, stays, torn_written at bytes (seen_after_all calls) le)
  stays_wrote at bytes false le = (seen_after_all calls, stays, torn_lost at bytes (seen_after_all calls))

  pub stays_lost : (at : ℕ) (bytes : List ℕ) → LeftAfterAll (wrote at bytes false ∷ calls) (seen_after_all calls)
  stays_lost at bytes = (seen_after_all calls, stays, torn_lost at bytes (seen_after_all calls))

  pub stays_cut : (n : ℕ) → n ≤ length (seen_after_all calls) → LeftAfterAll (cut n true ∷ calls) (take n (seen_after_all calls))
  stays_cut n le = (seen_after_all calls, stays, shortened_cut n (seen_after_all calls) le)

  pub stays_uncut : (n : ℕ) → LeftAfterAll (cut n false ∷ calls) (seen_after_all calls)
  stays_uncut n = (seen_after_all calls, stays, shortened_lost n (seen_after_all calls))

  pub stays_synced : (done : Bool) → LeftAfterAll (synced done ∷ calls) (seen_after_all calls)
  stays_synced true = (seen_after_all calls, stays, refl)
  stays_synced false = (seen_after_all calls, stays, refl)

-- a call that was not done takes nothing from what may be left
left_unwritten : (calls : List Event) (at : ℕ) (bytes : List ℕ) → NoMore (MayLeave (wrote at bytes false ∷ calls)) (MayLeave calls)
left_unwritten calls at bytes file left = ⊎_elim (λ is. inl is) (λ l. inr (file, l, torn_lost at bytes file)) left

left_uncut : (calls : List Event) (n : ℕ) → NoMore (MayLeave (cut n false ∷ calls)) (MayLeave calls)
left_uncut calls n file left = ⊎_elim (λ is. inl is) (λ l. inr (file, l, shortened_lost n file)) left

left_unsynced : (calls : List Event) → NoMore (MayLeave (synced false ∷ calls)) (MayLeave calls)
left_unsynced calls file left = ⊎_elim (λ is. inl is) (λ l. inr (file, l, refl)) left

read_then : (calls later : List Event) → NoMore (MayLeave later) (MayLeave calls) → (c : List ℕ) → IsReadAsLeft calls c → IsReadAsLeft later c
read_then calls later more c r = record { file = r.file; left = more r.file r.left; is_read = r.is_read }

-- calls are refused where no block is under way or may be
pub is_over : (stage : Stage) → ((end : End) (is_synced : Bool) → stage ≡ Through end is_synced → ⊥) → ((gate : ℕ) (block : Vec ℕ Global) → stage ≡ Held gate block → ⊥) → ((gate : ℕ) (block : Vec ℕ Global) → stage ≡ Opened gate block → ⊥) → IsOver stage
is_over (Through end is_synced) no_end no_hold no_gate = no_end end is_synced refl
is_over (Held gate block) no_end no_hold no_gate = no_hold gate block refl
is_over (Opened gate block) no_end no_hold no_gate = no_gate gate block refl
is_over (TornOff gate block) no_end no_hold no_gate = tt
is_over Stopped no_end no_hold no_gate = tt

torn_then : {D : Type 0} (may_leave : D → List ℕ → Type 0) (gate : ℕ) (bytes : List ℕ) (disk : D) (calls later : List Event) → NoMore (MayLeave later) (MayLeave calls) → IsTornOff may_leave gate bytes disk calls → IsTornOff may_leave gate bytes disk later
torn_then may_leave gate bytes disk calls later more t = record {
  told = λ c left told. read_then calls later more c (t.told c left told);
  torn = λ c left. torn_of (MayLeave calls) (MayLeave later) more gate bytes c (t.torn c left);
}

module _ {D : Type 0} (seen : D → List ℕ) (may_leave : D → List ℕ → Type 0) where
  -- a refused call, once calls are refused
  pub over_unwritten : (stage : Stage) (disk : D) (calls : List Event) (at : ℕ) (bytes : List ℕ) → IsOver stage → Stands seen may_leave stage disk calls → Stands seen may_leave stage disk (wrote at bytes false ∷ calls)
  over_unwritten (Through end is_synced) disk calls at bytes over s = absurd over
  over_unwritten (Held gate block) disk calls at bytes over s = absurd over
  over_unwritten (Opened gate block) disk calls at bytes over s = absurd over
  over_unwritten (TornOff gate block) disk calls at bytes over s = record { stays = stays_lost calls s.stays at bytes; agrees = torn_then may_leave gate block.items disk calls (wrote at bytes false ∷ calls) (left_unwritten calls at bytes) s.agrees }
  over_unwritten Stopped disk calls at bytes over s = record { stays = stays_lost calls s.stays at bytes; agrees = λ c left. read_then calls (wrote at bytes false ∷ calls) (left_unwritten calls at bytes) c (s.agrees c left) }

  pub over_uncut : (stage : Stage) (disk : D) (calls : List Event) (n : ℕ) → IsOver stage → Stands seen may_leave stage disk calls → Stands seen may_leave stage disk (cut n false ∷ calls)
  over_uncut (Through end is_synced) disk calls n over s = absurd over
  over_uncut (Held gate block) disk calls n over s = absurd over
  over_uncut (Opened gate block) disk calls n over s = absurd over
  over_uncut (TornOff gate block) disk calls n over s = record { stays = stays_uncut calls s.stays n; agrees = torn_then may_leave gate block.items disk calls (cut n false ∷ calls) (left_uncut calls n) s.agrees }
  over_uncut Stopped disk calls n over s = record { stays = stays_uncut calls s.stays n; agrees = λ c left. read_then calls (cut n false ∷ calls) (left_uncut calls n) c (s.agrees c left) }

  pub over_unsynced : (stage : Stage) (disk : D) (calls : List Event) → IsOver stage → Stands seen may_leave stage disk calls → Stands seen may_leave stage disk (synced false ∷ calls)
  over_unsynced (Through end is_synced) disk calls over s = absurd over
  over_unsynced (Held gate block) disk calls over s = absurd over
  over_unsynced (Opened gate block) disk calls over s = absurd over
  over_unsynced (TornOff gate block) disk calls over s = record { stays = stays_synced calls s.stays false; agrees = torn_then may_leave gate block.items disk calls (synced false ∷ calls) (left_unsynced calls) s.agrees }
  over_unsynced Stopped disk calls over s = record { stays = stays_synced calls s.stays false; agrees = λ c left. read_then calls (synced false ∷ calls) (left_unsynced calls) c (s.agrees c left) }

  module _ (old : D) (end : End) (is_synced : Bool) (calls : List Event) (s : Stands seen may_leave (Through end is_synced) old calls) where
    -- a write that was not made
    pub unwritten : (at : ℕ) (bytes : List ℕ) → Stands seen may_leave (Through end is_synced) old (wrote at bytes false ∷ calls)
    unwritten at bytes = record {
      stays = stays_lost calls s.stays at bytes;
      agrees = record { same = s.agrees.same; left = λ c l. (c, s.agrees.left c l, torn_lost at bytes c); ends = s.agrees.ends; only = s.agrees.only };
    }

    module _ (new : D) where
      -- a call that changes nothing
      pub unchanged : seen new ≡ seen old → NoMore (may_leave old) (may_leave new) → Stands seen may_leave (Through end is_synced) new calls
      unchanged is more = record {
        stays = s.stays;
        agrees = record {
          same = is ∙ s.agrees.same;
          left = λ c l. s.agrees.left c (more c l);
          ends = subst (λ (l : List ℕ). EndsAs end l) (sym is) s.agrees.ends;
          only = λ yes c l. s.agrees.only yes c (more c l) ∙ sym is;
        };
      }

      -- a write that was made
      pub through_written : (at : ℕ) (bytes : List ℕ) (next : End) → at ≤ length (seen old) → seen new ≡ written at bytes (seen old) → Follows (Torn at bytes) (may_leave old) (may_leave new) → EndsAs next (written at bytes (seen old))
          → Stands seen may_leave (Through next false) new (wrote at bytes true ∷ calls)
      through_written at bytes next place is follows ends = record {
        stays = stays_wrote calls s.stays at bytes true (omega (arith, place, ap length s.agrees.same));
        agrees = record {
          same = is ∙ ap (λ (l : List ℕ). written at bytes l) s.agrees.same;
          left = λ c l. let from = follows c l in (from.0, s.agrees.left from.0 from.1, from.2);
          ends = subst (λ (l : List ℕ). EndsAs next l) (sym is) ends;
          only = λ yes. absurd (cc);
        };
      }

      -- and one that was refused
      pub stopped_writing : (at : ℕ) (bytes : List ℕ) → Follows (Torn at bytes) (may_leave old) (may_leave new) → Stands seen may_leave Stopped new (wrote at bytes false ∷ calls)
      stopped_writing at bytes follows = record {
        stays = stays_lost calls s.stays at bytes;
        agrees = λ c l. let from = follows c l in as_itself (wrote at bytes false ∷ calls) c (from.0, s.agrees.left from.0 from.1, from.2);
      }

      pub through_cut : (n : ℕ) (next : End) → n ≤ length (seen old) → seen new ≡ take n (seen old) → Follows (Shortened n) (may_leave old) (may_leave new) → EndsAs next (take n (seen old))
          → Stands seen may_leave (Through next false) new (cut n true ∷ calls)
      through_cut n next place is follows ends = record {
        stays = stays_cut calls s.stays n (omega (arith, place, ap length s.agrees.same));
        agrees = record {
          same = is ∙ ap (λ (l : List ℕ). take n l) s.agrees.same;
          left = λ c l. let from = follows c l in (from.0, s.agrees.left from.0 from.1, from.2);
          ends = subst (λ (l : List ℕ). EndsAs next l) (sym is) ends;
          only = λ yes. absurd (cc);
        };
      }

      pub stopped_cutting : (n : ℕ) → Follows (Shortened n) (may_leave old) (may_leave new) → Stands seen may_leave Stopped new (cut n false ∷ calls)
      stopped_cutting n follows = record {
        stays = stays_uncut calls s.stays n;
        agrees = λ c l. let from = follows c l in as_itself (cut n false ∷ calls) c (from.0, s.agrees.left from.0 from.1, from.2);
      }

      pub through_synced : seen new ≡ seen old → Only (seen old) (may_leave new) → NoMore (may_leave old) (may_leave new) → Stands seen may_leave (Through end true) new (synced true ∷ calls)
      through_synced is only more = record {
        stays = stays_synced calls s.stays true;
        agrees = record {
          same = is ∙ s.agrees.same;
          left = λ c l. (c, s.agrees.left c (more c l), only c l ∙ s.agrees.same);
          ends = subst (λ (l : List ℕ). EndsAs end l) (sym is) s.agrees.ends;
          only = λ yes c l. only c l ∙ sym is;
        };
      }

      pub stopped_syncing : NoMore (may_leave old) (may_leave new) → Stands seen may_leave Stopped new (synced false ∷ calls)
      stopped_syncing more = record {
        stays = stays_synced calls s.stays false;
        agrees = λ c l. as_itself (synced false ∷ calls) c (c, s.agrees.left c (more c l), refl);
      }

  -- where all is on the disk, a sync may be noted that was made before
  pub synced_before : (disk : D) (end : End) (calls : List Event) → Stands seen may_leave (Through end true) disk calls → Stands seen may_leave (Through end true) disk (synced true ∷ calls)
  synced_before disk end calls s = record {
    stays = stays_synced calls s.stays true;
    agrees = record { same = s.agrees.same; left = λ c l. (c, s.agrees.left c l, s.agrees.only refl c l ∙ s.agrees.same); ends = s.agrees.ends; only = s.agrees.only };
  }

  -- and while a block is held back
  pub held_synced : (disk : D) (gate : ℕ) (block : _) (calls : List Event) → Stands seen may_leave (Held gate block) disk calls → Stands seen may_leave (Held gate block) disk (synced true ∷ calls)
  held_synced disk gate block calls s = record {
    stays = stays_synced calls s.stays true;
    agrees = record { only = s.agrees.only; ends = s.agrees.ends; last = s.agrees.last; behind = s.agrees.behind; small = s.agrees.small; block = s.agrees.block; shows = s.agrees.shows };
  }
