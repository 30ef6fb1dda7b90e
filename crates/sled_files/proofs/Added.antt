-- A payload is added to the files of a store: what a crash leaves meanwhile, and what is kept then.
use Rattle.std.proofs.Common.{◌≡◌, inl, inr, ℕ, ◌≤◌, Bool, true, false, List, [], ◌∷◌, refl, sym, ◌∙◌, ap, subst, arith, ◌⊎◌}
use Rattle.std.specs.Prelude.{Option, Some, None, if◌then◌else◌, ◌&&◌, not}
use Rattle.sled_store.specs.In.{In}
use Rattle.sled_store.specs.Store.{Store, now, after_flush}
use Rattle.sled_pages.specs.declared.memory.MemPages.{MemPages}
use Rattle.sled_pages.specs.Memory.{store_of}
use Rattle.sled_bytes.specs.declared.change.Change.{Change}
use Rattle.sled_bytes.specs.declared.change.Change.TheVariants.{Marked, Limited}
use Rattle.sled_files.specs.Change.{Durable, changed_all, AreAdded}
use Rattle.sled_files.specs.Files.{Files, IsReady, KeepsTime, LeavesPairs, AreForEither}
use Rattle.sled_files.specs.Lasting.{Limits, AreRaised, IsRight, IsLasting}
use Rattle.sled_files.specs.Pending.{IsPending, Spells}
use Rattle.sled_files.specs.Stored.{Stored, stored_as, over, asked_of, AreWithin, Stands, IsSound}
use Rattle.sled_files.specs.theory.Given.{sealed_over}
use Rattle.sled_files.proofs.OfStore.{all_higher, added_limits, added_mark}
use Rattle.sled_files.proofs.Flushing.{right_before, right_after, added_pending, flush_ends}
use Rattle.sled_files.proofs.Grows.{lasts_same}
use Rattle.sled_files.proofs.Sound.{sound_faults, stands_same}
use Rattle.sled_files.proofs.Moments.{lasts_ready, moments_either, moments_none, asks_more}

module _ {D : Type 0} {moment : D → ℕ} {left_since : D → ℕ → List ℕ → Type 0} {seen : D → List ℕ} {may_leave : D → List ℕ → Type 0} where
  -- what a crash leaves at each moment, where what the files stood for is right, and what they stand for then
  pub moments_added : (f : Stored D) (files : Files D) (payload : List ℕ) (changes : List Change) (asked : List ℕ) → KeepsTime moment left_since may_leave f.files.first → KeepsTime moment left_since may_leave f.files.second → IsSound seen may_leave f → Spells payload changes → ((st : Stands seen may_leave f.limits (stored_as f) f.files f.pending) → AreAdded changes st.durable)
      → (f.files.failed ≡ true → files ≡ f.files)
      → ((d : Durable) (list : List Change) → IsReady seen may_leave f.files d → Spells payload list → AreAdded list d → LeavesPairs moment left_since may_leave f.files files (AreForEither d (changed_all list d)))
      → ((x : ℕ) → In x (asked_of f.asked) → In x asked)
      → ((st : Stands seen may_leave f.limits (stored_as f) f.files f.pending) → IsRight asked f.limits (stored_as f) (changed_all changes st.durable))
      → LeavesPairs moment left_since may_leave f.files files (IsLasting asked f.limits (stored_as f))
  moments_added f files payload changes asked first second sound spells added stays any more right = elim f.files.failed as (λ b. f.files.failed ≡ b → LeavesPairs moment left_since may_leave f.files files (IsLasting asked f.limits (stored_as f))) [
    | true ↦ λ e. moments_none first second (stays e) (record { each = λ a b x y. asks_more asked more (sound.lasts.each a b x y) })
    | false ↦ λ e. let st = sound.stands e in moments_either (right_before st.pends (sealed_over f)) (right st) (any st.durable changes st.ready spells (added st))
  ] refl

  -- what is kept where that was refused: the files stay, or a disk refused it
  pub sound_refused : (f : Stored D) (files : Files D) (asked : Option ℕ) (faults : ℕ) → IsSound seen may_leave f
      → (((files ≡ f.files) × (asked ≡ f.asked)) ⊎ (files.failed ≡ true))
      → LeavesPairs moment left_since may_leave f.files files (IsLasting (asked_of asked) f.limits (stored_as f))
      → IsSound seen may_leave (record f { files = files; asked = asked; faults = faults })
  sound_refused f files asked faults sound (inl same) l = subst (λ (x : Files D). IsSound seen may_leave (record f { files = x; asked = asked; faults = faults })) (sym same.0)
      (subst (λ (x : Option ℕ). IsSound seen may_leave (record f { asked = x; faults = faults })) (sym same.1) (sound_faults seen may_leave f faults sound))
  sound_refused f files asked faults sound (inr is_over) l = record {
    stands = λ up. absurd (cc);
    lasts = record { each = λ a b x y. lasts_same (l.now.each a b x y) _ refl refl refl };
    within = record { numbered = sound.within.numbered; pids = sound.within.pids; versions = sound.within.versions };
  }

-- limits are set, while the same is pending
pends_raised : {limits : Limits} {s : Store} {d : Durable} {pending : List ℕ} (pids versions : ℕ) → limits.pids ≤ pids → limits.versions ≤ versions → IsPending limits s d pending → IsPending (record { pids = pids; versions = versions }) s (changed_all (Limited pids versions ∷ []) d) pending
pends_raised {limits} {s} {d} pids versions more further p = record { base = p.base; mark = p.mark; limited = record { pids = refl; versions = refl }; changes = p.changes; spells = p.spells; within = all_higher d (changed_all (Limited pids versions ∷ []) d) (omega (arith, more, p.limited.pids)) (omega (arith, further, p.limited.versions)) p.changes p.within; acts = p.acts; aside = p.aside }

module _ {D : Type 0} {seen : D → List ℕ} {may_leave : D → List ℕ → Type 0} where
  -- what is kept of a store that was opened
  pub sound_new : (pages : MemPages) (files : Files D) (limits : Limits) (pending : List ℕ) (mark : ℕ) → pending ≡ [] → mark ≡ (store_of pages).mark → Stands seen may_leave limits (store_of pages) files [] → AreWithin limits (store_of pages)
      → IsSound seen may_leave (record { pages = pages; files = files; pending = pending; mark = mark; limits = limits; asked = None; faults = 0; longest = 4000000; missed = 0 })
  sound_new pages files limits pending mark none same st within =
      let later = stands_same seen may_leave (over mark 0 (store_of pages)) pending st refl refl same none in
      record {
        stands = λ _. later;
        lasts = lasts_ready later.ready (right_before later.pends pages.kept.sealed);
        within = record { numbered = within.numbered; pids = within.pids; versions = within.versions };
      }

  -- limits that are no lower
  pub right_raised : {limits : Limits} {s : Store} {files : Files D} {pending : List ℕ} (asked : List ℕ) (pids versions : ℕ) → AreRaised limits (record { pids = pids; versions = versions }) → s.base.in_group ≡ false
      → (st : Stands seen may_leave limits s files pending) → IsRight asked limits s (changed_all (Limited pids versions ∷ []) st.durable)
  right_raised asked pids versions raised sealed st =
      let right = right_before st.pends {asked = asked} sealed in
      record { state = right.state; mark = right.mark; no_lower = right.no_lower; limited = record { pids = raised.pids; versions = raised.versions; pids_most = raised.pids_most; versions_most = raised.versions_most } }

  pub added_limited : {limits : Limits} {s : Store} {files : Files D} {pending : List ℕ} (st : Stands seen may_leave limits s files pending) (pids versions : ℕ) {payload : List ℕ} → Spells payload (Limited pids versions ∷ []) → limits.pids ≤ pids → limits.versions ≤ versions → AreAdded (Limited pids versions ∷ []) st.durable
  added_limited st pids versions spells more further = added_limits st.ready.stands.stands.made pids versions spells (omega (arith, more, st.pends.limited.pids)) (omega (arith, further, st.pends.limited.versions))

  pub sound_raised : (f : Stored D) (files : Files D) (payload : List ℕ) (pids versions : ℕ) → IsSound seen may_leave f → f.files.failed ≡ false
      → ((d : Durable) (list : List Change) → IsReady seen may_leave f.files d → Spells payload list → AreAdded list d → IsReady seen may_leave files (changed_all list d))
      → Spells payload (Limited pids versions ∷ []) → f.limits.pids ≤ pids → f.limits.versions ≤ versions
      → IsSound seen may_leave (record f { files = files; limits = record { pids = pids; versions = versions } })
  sound_raised f files payload pids versions sound up ready spells more further =
      let st = sound.stands up in
      let ready_now = ready st.durable _ st.ready spells (added_limited st pids versions spells more further) in
      let pends = pends_raised pids versions more further st.pends in
      record {
        stands = λ _. record { durable = changed_all (Limited pids versions ∷ []) st.durable; ready = ready_now; pends = pends };
        lasts = lasts_ready ready_now (right_before pends (sealed_over f));
        within = record {
          numbered = sound.within.numbered;
          pids = λ p positive is. omega (arith, more, sound.within.pids p positive is);
          versions = λ v is. omega (arith, further, sound.within.versions v is);
        };
      }

  -- a mark that is asked for
  pub right_marked : {limits : Limits} {s : Store} {files : Files D} {pending : List ℕ} (asked : List ℕ) (upto : ℕ) → s.mark ≤ upto → In upto asked → s.base.in_group ≡ false
      → (st : Stands seen may_leave limits s files pending) → IsRight asked limits s (changed_all (Marked upto ∷ []) st.durable)
  right_marked asked upto le one sealed st =
      let right = right_before st.pends {asked = asked} sealed in
      record { state = right.state; mark = inr one; no_lower = le; limited = record { pids = right.limited.pids; versions = right.limited.versions; pids_most = right.limited.pids_most; versions_most = right.limited.versions_most } }

  pub sound_marked : (f : Stored D) (files : Files D) (payload : List ℕ) (upto : ℕ) → IsSound seen may_leave f → f.files.failed ≡ false
      → ((d : Durable) (list : List Change) → IsReady seen may_leave f.files d → Spells payload list → AreAdded list d → IsReady seen may_leave files (changed_all list d))
      → Spells payload (Marked upto ∷ []) → IsSound seen may_leave (record f { files = files; mark = upto })
  sound_marked f files payload upto sound up ready spells =
      let st = sound.stands up in
      let p = st.pends in
      let ready_now = ready st.durable _ st.ready spells (added_mark st.ready.stands.stands.made upto) in
      let pends : IsPending f.limits (over upto f.faults (store_of f.pages)) (changed_all (Marked upto ∷ []) st.durable) f.pending =
      record { base = p.base; mark = refl; limited = record { pids = p.limited.pids; versions = p.limited.versions }; changes = p.changes; spells = p.spells; within = all_higher st.durable (changed_all (Marked upto ∷ []) st.durable) (omega arith) (omega arith) p.changes p.within; acts = p.acts; aside = p.aside } in
      record {
        stands = λ _. record { durable = changed_all (Marked upto ∷ []) st.durable; ready = ready_now; pends = pends };
        lasts = lasts_ready ready_now (right_before pends (sealed_over f));
        within = record { numbered = sound.within.numbered; pids = sound.within.pids; versions = sound.within.versions };
      }

  -- what is pending
  pub right_flushed : {limits : Limits} {s : Store} {files : Files D} {pending : List ℕ} (asked : List ℕ) → (now s).in_group ≡ false
      → (st : Stands seen may_leave limits s files pending) → IsRight asked limits s (changed_all st.pends.changes st.durable)
  right_flushed asked out st = right_after st.pends out

  pub sound_flushed : (f : Stored D) (files : Files D) (pages : MemPages) → IsSound seen may_leave f → f.files.failed ≡ false → (now (store_of f.pages)).in_group ≡ false
      → ((d : Durable) (list : List Change) → IsReady seen may_leave f.files d → Spells f.pending list → AreAdded list d → IsReady seen may_leave files (changed_all list d))
      → store_of pages ≡ after_flush (store_of f.pages) → IsSound seen may_leave (record f { pages = pages; files = files; pending = [] })
  sound_flushed f files pages sound up out ready is =
      let st = sound.stands up in
      let ready_now = ready st.durable st.pends.changes st.ready st.pends.spells (added_pending st.pends st.ready.stands.stands.made out) in
      let later : after_flush (stored_as f) ≡ over f.mark f.faults (store_of pages) = ap (over f.mark f.faults) (sym is) in
      let pends = subst (λ (s : Store). IsPending f.limits s (changed_all st.pends.changes st.durable) []) later (flush_ends f.limits (stored_as f) st.durable f.pending st.pends) in
      record {
        stands = λ _. record { durable = changed_all st.pends.changes st.durable; ready = ready_now; pends = pends };
        lasts = lasts_ready ready_now (right_before pends (ap (λ (s : Store). s.base.in_group) is ∙ out));
        within = subst (AreWithin f.limits) later (record { numbered = sound.within.numbered; pids = sound.within.pids; versions = sound.within.versions });
      }

module _ {D : Type 0} {moment : D → ℕ} {left_since : D → ℕ → List ℕ → Type 0} {seen : D → List ℕ} {may_leave : D → List ℕ → Type 0} (f : Stored D) (files : Files D) (payload : List ℕ)
    (first : KeepsTime moment left_since may_leave f.files.first) (second : KeepsTime moment left_since may_leave f.files.second) (sound : IsSound seen may_leave f) (stays : f.files.failed ≡ true → files ≡ f.files)
    (any : (d : Durable) (list : List Change) → IsReady seen may_leave f.files d → Spells payload list → AreAdded list d → LeavesPairs moment left_since may_leave f.files files (AreForEither d (changed_all list d))) where
  pub moments_raised : (pids versions : ℕ) → Spells payload (Limited pids versions ∷ []) → AreRaised f.limits (record { pids = pids; versions = versions }) → LeavesPairs moment left_since may_leave f.files files (IsLasting (asked_of f.asked) f.limits (stored_as f))
  moments_raised pids versions spells raised =
      moments_added f files payload (Limited pids versions ∷ []) (asked_of f.asked) first second sound spells (λ st. added_limited st pids versions spells raised.pids raised.versions) stays any (λ x i. i) (λ st. right_raised (asked_of f.asked) pids versions raised (sealed_over f) st)

  pub moments_marked : (upto : ℕ) (asked : List ℕ) → f.mark ≤ upto → Spells payload (Marked upto ∷ []) → ((x : ℕ) → In x (asked_of f.asked) → In x asked) → In upto asked → LeavesPairs moment left_since may_leave f.files files (IsLasting asked f.limits (stored_as f))
  moments_marked upto asked le spells more one =
      moments_added f files payload (Marked upto ∷ []) asked first second sound spells (λ st. added_mark st.ready.stands.stands.made upto) stays any more (λ st. right_marked asked upto le one (sealed_over f) st)

  pub moments_flushed : payload ≡ f.pending → (now (store_of f.pages)).in_group ≡ false → LeavesPairs moment left_since may_leave f.files files (IsLasting (asked_of f.asked) f.limits (stored_as f))
  moments_flushed is out = elim f.files.failed as (λ b. f.files.failed ≡ b → LeavesPairs moment left_since may_leave f.files files (IsLasting (asked_of f.asked) f.limits (stored_as f))) [
    | true ↦ λ e. moments_none first second (stays e) sound.lasts
    | false ↦ λ e. let st = sound.stands e in
        moments_either (right_before st.pends (sealed_over f)) (right_flushed (asked_of f.asked) out st) (any st.durable st.pends.changes st.ready (subst (λ (l : List ℕ). Spells l st.pends.changes) (sym is) st.pends.spells) (added_pending st.pends st.ready.stands.stands.made out))
  ] refl

  -- what is kept where a mark was refused: it was asked for where a disk refused it just now
  pub sound_asked : (upto : ℕ) (asked : Option ℕ) (faults : ℕ) → f.mark ≤ upto → Spells payload (Marked upto ∷ []) → asked ≡ (if files.failed && not f.files.failed then Some upto else f.asked) → ((files ≡ f.files) ⊎ (files.failed ≡ true))
      → IsSound seen may_leave (record f { files = files; asked = asked; faults = faults })
  sound_asked upto asked faults le spells asked_is why = go f.files.failed files.failed refl refl
    where
      kept : files ≡ f.files → asked ≡ f.asked → IsSound seen may_leave (record f { files = files; asked = asked; faults = faults })
      kept same none = subst (λ (x : Files D). IsSound seen may_leave (record f { files = x; asked = asked; faults = faults })) (sym same)
          (subst (λ (x : Option ℕ). IsSound seen may_leave (record f { asked = x; faults = faults })) (sym none) (sound_faults seen may_leave f faults sound))

      asked_by : (was is : Bool) → f.files.failed ≡ was → files.failed ≡ is → asked ≡ (if is && not was then Some upto else f.asked)
      asked_by was is e k = asked_is ∙ ap (λ b. if b && not f.files.failed then Some upto else f.asked) k ∙ ap (λ b. if is && not b then Some upto else f.asked) e

      same_of : files.failed ≡ false → (files ≡ f.files) ⊎ (files.failed ≡ true) → files ≡ f.files
      same_of k (inl same) = same
      same_of k (inr is_over) = absurd (cc)

      go : (was is : Bool) → f.files.failed ≡ was → files.failed ≡ is → IsSound seen may_leave (record f { files = files; asked = asked; faults = faults })
      go true true e k = kept (stays e) (asked_by true true e k)
      go true false e k = kept (stays e) (asked_by true false e k)
      go false false e k = kept (same_of k why) (asked_by false false e k)
      go false true e k =
          let st = sound.stands e in
          let moments = moments_either (right_before st.pends {asked = upto ∷ []} (sealed_over f)) (right_marked (upto ∷ []) upto le (inl refl) (sealed_over f) st) (any st.durable (Marked upto ∷ []) st.ready spells (added_mark st.ready.stands.stands.made upto)) in
          subst (λ (x : Option ℕ). IsSound seen may_leave (record f { files = files; asked = x; faults = faults })) (sym (asked_by false true e k))
          (sound_refused f files (Some upto) faults sound (inr k) moments)

-- which mark is asked for, by whether a disk refused it just now
pub asks_by : (was is : Bool) (before asked : Option ℕ) (upto : ℕ) → asked ≡ (if is && not was then Some upto else before) → (asked ≡ before) ⊎ ((asked ≡ Some upto) × (was ≡ false) × (is ≡ true))
asks_by true true before asked upto e = inl e
asks_by true false before asked upto e = inl e
asks_by false true before asked upto e = inr (e, refl, refl)
asks_by false false before asked upto e = inl e

-- a mark that a disk refused, of a store that was not stopped before
pub asked_new : (was is : Bool) (before asked : Option ℕ) (upto : ℕ) → was ≡ false → asked ≡ (if is then Some upto else before) → asked ≡ (if is && not was then Some upto else before)
asked_new true is before asked upto up e = absurd (cc)
asked_new false true before asked upto up e = e
asked_new false false before asked upto up e = e
