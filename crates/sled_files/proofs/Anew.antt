-- What a flush that begins a file anew makes of the files of a store, against the store.
use Rattle.std.proofs.Common.{◌≡◌, inl, inr, arith, ℕ, ◌<◌, ◌^◌, Bool, true, false, List, [], refl, sym, ◌∙◌, ap, subst, ◌⊎◌}
use Rattle.std.proofs.lemmas.List.Elements.{All-nil, All-weaker}
use Rattle.sled_nodes.specs.declared.error.Error.{Error}
use Rattle.sled_nodes.specs.declared.error.Error.TheVariants.{NoMemory}
use Rattle.sled_store.specs.In.{In}
use Rattle.sled_store.specs.State.{State}
use Rattle.sled_store.specs.Faults.{IsFault, fault_as}
use Rattle.sled_store.specs.Store.{Store, now, after_flush}
use Rattle.sled_store.specs.Crash.{crash_states}
use Rattle.sled_pages.specs.declared.memory.MemPages.{MemPages}
use Rattle.sled_pages.specs.Memory.{store_of}
use Rattle.sled_files.specs.Change.{Durable, nothing_yet, changed_all, IsWithin, AreOfStore}
use Rattle.sled_files.specs.Files.{Files, IsReady, KeepsTime, LeavesPairs, AreForEither}
use Rattle.sled_files.specs.Lasting.{Limits, AreRaised, IsRight, IsLasting}
use Rattle.sled_files.specs.Pending.{IsPending}
use Rattle.sled_files.specs.Stored.{Stored, stored_as, over, asked_of, AreWithin, IsSound}
use Rattle.sled_files.specs.theory.Given.{sealed_over}
use Rattle.sled_files.specs.theory.Snapshot.{Makes, MakesAnew, durable_now}
use Rattle.sled_files.specs.theory.Spelled.{WereGiven}
use Rattle.sled_files.proofs.Crashing.{last_left}
use Rattle.sled_files.proofs.OfStore.{given_within}
use Rattle.sled_files.proofs.Flushing.{right_before}
use Rattle.sled_files.proofs.Grows.{spells_none}
use Rattle.sled_files.proofs.Moments.{lasts_ready, moments_either, moments_none}

-- what changes of a store make of nothing
pub made_whole : {bytes : List ℕ} {d : Durable} (m : MakesAnew bytes d) → AreOfStore m.changes (changed_all m.changes nothing_yet)
made_whole m = subst (λ (e : Durable). AreOfStore m.changes e) (sym m.makes) m.made

-- a state in which no group is open
out_is : (t : State) → t.in_group ≡ false → record t { in_group = false } ≡ t
out_is t e = ap (λ (b : Bool). record t { in_group = b }) (sym e)

module _ {limits raised : Limits} (s : Store) (out : (now s).in_group ≡ false) (lower : AreRaised limits raised) where
  -- what a store is now is right for it
  pub right_whole : {asked : List ℕ} → IsRight asked limits s (durable_now s s.mark raised.pids raised.versions)
  right_whole = record {
    state = record { is = subst (λ (x : State). In x (crash_states s)) (sym (out_is (now s) out)) (last_left s.base s.recent out) };
    mark = inl refl;
    no_lower = omega arith;
    limited = record { pids = lower.pids; versions = lower.versions; pids_most = lower.pids_most; versions_most = lower.versions_most };
  }

  -- and with that nothing is pending of the flushed store
  pub whole_ends : IsPending raised (after_flush s) (durable_now s s.mark raised.pids raised.versions) []
  whole_ends = record {
    base = out_is (now s) out;
    mark = refl;
    limited = record { pids = refl; versions = refl };
    changes = [];
    spells = spells_none;
    within = All-nil (IsWithin (durable_now s s.mark raised.pids raised.versions));
    acts = refl;
    aside = λ whole. refl;
  }

-- what a store in files is now, with these limits
abbrev pub whole_of : {D : Type 0} → Stored D → Limits → Durable
whole_of f raised = durable_now (stored_as f) f.mark raised.pids raised.versions

-- what makes it of nothing are changes of a store
anew : {D : Type 0} {seen : D → List ℕ} {may_leave : D → List ℕ → Type 0} (f : Stored D) (payload : List ℕ) (raised : Limits) → AreRaised f.limits raised → raised.versions < 2 ^ 64 → IsSound seen may_leave f → Makes (store_of f.pages) payload (whole_of f raised) → MakesAnew payload (whole_of f raised)
anew f payload raised lower fits sound m =
    let within : AreWithin f.limits (store_of f.pages) = record { numbered = sound.within.numbered; pids = sound.within.pids; versions = sound.within.versions } in
    record {
      changes = m.changes;
      spells = m.spells;
      makes = m.makes;
      made = record {
        within = All-weaker (WereGiven (store_of f.pages)) (IsWithin (whole_of f raised)) (given_within (whole_of f raised) within lower.pids lower.versions) m.changes m.given;
        fits = fits;
        sealed = refl;
      };
    }

module _ {D : Type 0} {seen : D → List ℕ} {may_leave : D → List ℕ → Type 0} (f : Stored D) (files : Files D) (payload : List ℕ) (sound : IsSound seen may_leave f)
    (out : (now (store_of f.pages)).in_group ≡ false) (raised : Limits) (lower : AreRaised f.limits raised) (fits : raised.versions < 2 ^ 64) (m : Makes (store_of f.pages) payload (whole_of f raised)) where
  pub sound_anew : (pages : MemPages) → f.files.failed ≡ false → ((d made : Durable) → IsReady seen may_leave f.files d → MakesAnew payload made → IsReady seen may_leave files made)
      → store_of pages ≡ after_flush (store_of f.pages) → IsSound seen may_leave (record f { pages = pages; files = files; pending = []; limits = raised })
  sound_anew pages up ready is =
      let st = sound.stands up in
      let ready_now = ready st.durable (whole_of f raised) st.ready (anew f payload raised lower fits sound m) in
      let later : after_flush (stored_as f) ≡ over f.mark f.faults (store_of pages) = ap (over f.mark f.faults) (sym is) in
      let pends = subst (λ (s : Store). IsPending raised s (whole_of f raised) []) later (whole_ends {limits = f.limits} {raised = raised} (stored_as f) out lower) in
      record {
        stands = λ _. record { durable = whole_of f raised; ready = ready_now; pends = pends };
        lasts = lasts_ready ready_now (right_before pends (ap (λ (s : Store). s.base.in_group) is ∙ out));
        within = subst (AreWithin raised) later (record { numbered = sound.within.numbered; pids = λ p positive given. omega (arith, lower.pids, sound.within.pids p positive given); versions = λ v given. omega (arith, lower.versions, sound.within.versions v given) });
      }

module _ {D : Type 0} {moment : D → ℕ} {left_since : D → ℕ → List ℕ → Type 0} {seen : D → List ℕ} {may_leave : D → List ℕ → Type 0} (f : Stored D) (files : Files D) (payload : List ℕ) (sound : IsSound seen may_leave f)
    (out : (now (store_of f.pages)).in_group ≡ false) (raised : Limits) (lower : AreRaised f.limits raised) (fits : raised.versions < 2 ^ 64) (m : Makes (store_of f.pages) payload (whole_of f raised)) where
  pub moments_anew : KeepsTime moment left_since may_leave f.files.first → KeepsTime moment left_since may_leave f.files.second → (f.files.failed ≡ true → files ≡ f.files)
      → ((d made : Durable) → IsReady seen may_leave f.files d → MakesAnew payload made → LeavesPairs moment left_since may_leave f.files files (AreForEither d made))
      → LeavesPairs moment left_since may_leave f.files files (IsLasting (asked_of f.asked) f.limits (stored_as f))
  moments_anew first second stays any = elim f.files.failed as (λ b. f.files.failed ≡ b → LeavesPairs moment left_since may_leave f.files files (IsLasting (asked_of f.asked) f.limits (stored_as f))) [
    | true ↦ λ e. moments_none first second (stays e) sound.lasts
    | false ↦ λ e. let st = sound.stands e in moments_either (right_before st.pends (sealed_over f)) (right_whole {limits = f.limits} {raised = raised} (stored_as f) out lower) (any st.durable (whole_of f raised) st.ready (anew f payload raised lower fits sound m))
  ] refl

-- what is refused for memory, and not by a disk, changes nothing
pub unchanged : {D : Type 0} (f : Stored D) (files : Files D) (faults : ℕ) (e : Error) → IsFault f.faults faults e → (files ≡ f.files) ⊎ (files.failed ≡ true) → e ≡ NoMemory → files.failed ≡ false → record f { files = files; faults = faults } ≡ f
unchanged {D} f files faults e fault (inl same) is up =
    ap (λ (x : Files D). record f { files = x; faults = faults }) same ∙ ap (λ (n : ℕ). record f { faults = n }) (subst (λ (x : Error). fault_as f.faults faults x) is fault.is)
unchanged f files faults e fault (inr is_over) is up = absurd (cc)
