-- What a flush that raises the limits in its block makes of the files of a store, against the store.
use Rattle.std.proofs.Common.{take, length, length-append, ◌+◌, ◌≤◌, ◌<◌, ◌^◌, ◌≡◌, inl, arith, cond, ℕ, true, false, List, [], ◌∷◌, ◌++◌, refl, sym, ◌∙◌, ap, subst}
use Rattle.std.specs.Prelude.{Result, Ok, Err, OnOk, ◌==◌, ◌&&◌}
use Rattle.std.proofs.lemmas.Bool.Decides.{nat_tests}
use Rattle.std.proofs.lemmas.List.{append-nil}
use Rattle.std.specs.List.{flat_map}
use Rattle.std.proofs.lemmas.List.Elements.{All-nil, All-cons, All-append}
use Rattle.std.proofs.Math.Seq.{take-append_seam}
use Rattle.sled_store.specs.In.{In}
use Rattle.sled_store.specs.State.{State}
use Rattle.sled_store.specs.Store.{Store, now, after_flush}
use Rattle.sled_store.specs.Crash.{crash_states}
use Rattle.sled_pages.specs.declared.memory.MemPages.{MemPages}
use Rattle.sled_pages.specs.Memory.{store_of}
use Rattle.sled_bytes.specs.declared.change.Change.{Change}
use Rattle.sled_bytes.specs.declared.change.Change.TheVariants.{Limited, Marked}
use Rattle.sled_bytes.specs.Spelling.{number, change_bytes, FitsChange}
use Rattle.sled_files.specs.Change.{Durable, changed_all, IsWithin, AreOfStore, AreAdded}
use Rattle.sled_files.specs.Files.{Files, IsReady, KeepsTime, LeavesPairs, AreForEither}
use Rattle.sled_files.specs.Lasting.{Limits, AreLimits, IsRight, IsLasting, AreRaised}
use Rattle.sled_files.specs.Pending.{IsPending, Spells}
use Rattle.sled_files.specs.Raised.{limits_length}
use Rattle.sled_files.specs.Stored.{Stored, stored_as, over, asked_of, AreWithin, IsSound}
use Rattle.sled_files.specs.theory.Given.{sealed_over}
use Rattle.sled_files.specs.theory.Ahead.{IsAhead}
use Rattle.sled_files.proofs.Adding.{changed_both}
use Rattle.sled_files.proofs.OfStore.{all_higher}
use Rattle.sled_files.proofs.Crashing.{last_left}
use Rattle.sled_files.proofs.Flushing.{now_is, right_before}
use Rattle.sled_files.proofs.Grows.{spells_none, spells_more}
use Rattle.sled_files.proofs.Moments.{lasts_ready, moments_either, moments_none}

pub no_lower : {limits raised : Limits} → raised ≡ limits → AreRaised limits raised
no_lower {limits} {raised} is =
    let pids : raised.pids ≡ limits.pids = ap (λ (l : Limits). l.pids) is in
    let versions : raised.versions ≡ limits.versions = ap (λ (l : Limits). l.versions) is in
    record { pids = omega (arith, pids); versions = omega (arith, versions); pids_most = omega (arith, pids); versions_most = omega (arith, versions) }

-- limits are spelled by 17 bytes, and a mark by 9
limited_bytes : (pids versions : ℕ) → length (change_bytes (Limited pids versions)) ≡ 17
unfolding number
limited_bytes pids versions = refl

pub limited_length : {bytes : List ℕ} {pids versions : ℕ} → Spells bytes (Limited pids versions ∷ []) → length bytes ≡ 17
unfolding number
limited_length {bytes} {pids} {versions} s = let e : length (flat_map change_bytes (Limited pids versions ∷ [])) ≡ 17 = refl in omega (arith, e, ap length s.spelled)

pub marked_length : {bytes : List ℕ} {upto : ℕ} → Spells bytes (Marked upto ∷ []) → length bytes ≡ 9
unfolding number
marked_length {bytes} {upto} s = let e : length (flat_map change_bytes (Marked upto ∷ [])) ≡ 9 = refl in omega (arith, e, ap length s.spelled)

-- how many bytes that is, where they stay and where they do not
no_bytes : (limits raised : Limits) → raised.pids ≡ limits.pids → raised.versions ≡ limits.versions → 0 ≡ limits_length limits raised
no_bytes limits raised pids versions = grind (arith, nat_tests)

some_bytes : (limits raised : Limits) → (raised.pids ≡ limits.pids → raised.versions ≡ limits.versions → ⊥) → 17 ≡ limits_length limits raised
some_bytes limits raised other = elim ((raised.pids == limits.pids) && (raised.versions == limits.versions)) as (λ b. ((raised.pids == limits.pids) && (raised.versions == limits.versions)) ≡ b → ◌≡◌ {A = ℕ} 17 (cond b 0 17)) [
  | true ↦ λ e. absurd (other (grind (arith, nat_tests)) (grind (arith, nat_tests)))
  | false ↦ λ e. refl
] refl

few_bytes : (limits raised : Limits) → limits_length limits raised ≤ 17
few_bytes limits raised = elim ((raised.pids == limits.pids) && (raised.versions == limits.versions)) as (λ b. cond b 0 17 ≤ 17) [
  | true ↦ omega arith
  | false ↦ omega arith
]

pub ahead_none : (limits raised : Limits) {before after : List ℕ} → raised.pids ≡ limits.pids → raised.versions ≡ limits.versions → after ≡ before → IsAhead limits raised before after
ahead_none limits raised {before} pids versions is = record {
  rest = [];
  bytes = is ∙ sym (append-nil before);
  long = no_bytes limits raised pids versions;
  more = [];
  spells = λ changes s. subst (λ (l : List ℕ). Spells l (changes ++ [])) (sym is) (subst (λ (l : List Change). Spells before l) (sym (append-nil changes)) s);
  state = λ d. refl;
  mark = λ d. refl;
  limited = λ d h. record { pids = h.pids ∙ sym pids; versions = h.versions ∙ sym versions };
  within = λ d. All-nil (IsWithin d);
  fits = λ d lt. lt;
}

pub ahead_more : (limits : Limits) (pids versions : ℕ) {before after : List ℕ} → (pids ≡ limits.pids → versions ≡ limits.versions → ⊥) → FitsChange (Limited pids versions) → after ≡ before ++ change_bytes (Limited pids versions) → IsAhead limits (record { pids = pids; versions = versions }) before after
ahead_more limits pids versions other fits is = record {
  rest = change_bytes (Limited pids versions);
  bytes = is;
  long = limited_bytes pids versions ∙ some_bytes limits (record { pids = pids; versions = versions }) other;
  more = Limited pids versions ∷ [];
  spells = λ changes s. subst (λ (l : List ℕ). Spells l (changes ++ Limited pids versions ∷ [])) (sym is) (spells_more s (Limited pids versions) fits);
  state = λ d. refl;
  mark = λ d. refl;
  limited = λ d h. record { pids = refl; versions = refl };
  within = λ d. All-cons (IsWithin d) (Limited pids versions) [] tt (All-nil (IsWithin d));
  fits = λ d lt. fits.1;
}

-- where that is done
pub ahead_done : {E : Type 0} (limits : Limits) (pids versions : ℕ) (before after : List ℕ) (r : Result (Unit {0}) E) → (pids ≡ limits.pids → versions ≡ limits.versions → ⊥) → OnOk r (FitsChange (Limited pids versions)) → OnOk r (after ≡ before ++ change_bytes (Limited pids versions)) → OnOk r (IsAhead limits (record { pids = pids; versions = versions }) before after)
ahead_done limits pids versions before after (Ok x) other fits is = ahead_more limits pids versions other fits is
ahead_done limits pids versions before after (Err e) other fits is = tt

-- how many bytes there are then
pub ahead_length : {limits raised : Limits} {before after : List ℕ} → IsAhead limits raised before after → length after ≡ length before + limits_length limits raised
ahead_length {limits} {raised} {before} {after} a = ap length a.bytes ∙ length-append before a.rest ∙ ap (λ (n : ℕ). length before + n) a.long

pub ahead_short : {limits raised : Limits} {before after : List ℕ} → IsAhead limits raised before after → length after ≤ length before + 17
ahead_short {limits} {raised} a = omega (arith, ahead_length a, few_bytes limits raised)

-- and taken out again
pub taken_out : {limits raised : Limits} {before after : List ℕ} (n : ℕ) → IsAhead limits raised before after → n ≡ length before → take n after ≡ before
taken_out {limits} {raised} {before} {after} n a is = ap (λ (k : ℕ). take k after) is ∙ ap (take (length before)) a.bytes ∙ take-append_seam before a.rest

module _ {limits raised : Limits} {s : Store} {d : Durable} {bytes after : List ℕ} (p : IsPending limits s d bytes) (a : IsAhead limits raised bytes after) where
  abbrev pub ahead_changes : List Change
  ahead_changes = p.changes ++ a.more

  pub ahead_spells : Spells after ahead_changes
  ahead_spells = a.spells p.changes p.spells

  both : changed_all ahead_changes d ≡ changed_all a.more (changed_all p.changes d)
  both = changed_both p.changes a.more d

  state_then : (changed_all ahead_changes d).state ≡ now s
  state_then = ap (λ (x : Durable). x.state) both ∙ a.state (changed_all p.changes d) ∙ now_is p

  mark_then : (changed_all ahead_changes d).mark ≡ s.mark
  mark_then = ap (λ (x : Durable). x.mark) both ∙ a.mark (changed_all p.changes d) ∙ ap (λ x. x.0) (p.aside d) ∙ p.mark

  limits_pending : AreLimits limits (changed_all p.changes d)
  limits_pending = record { pids = ap (λ x. x.1) (p.aside d) ∙ p.limited.pids; versions = ap (λ x. x.2) (p.aside d) ∙ p.limited.versions }

  limited_then : AreLimits raised (changed_all ahead_changes d)
  limited_then = subst (AreLimits raised) (sym both) (a.limited (changed_all p.changes d) limits_pending)

  pub added_ahead : {olds : List Change} → AreOfStore olds d → AreRaised limits raised → (now s).in_group ≡ false → AreAdded ahead_changes d
  added_ahead {olds} old lower out =
      let e = changed_all ahead_changes d in
      let pids : d.pids ≤ e.pids = omega (arith, p.limited.pids, limited_then.pids, lower.pids) in
      let versions : d.versions ≤ e.versions = omega (arith, p.limited.versions, limited_then.versions, lower.versions) in
      record {
        of_store = record {
          within = All-append (IsWithin e) p.changes a.more (all_higher d e pids versions p.changes p.within) (a.within e);
          fits = subst (λ (x : Durable). x.versions < 2 ^ 64) (sym both) (a.fits (changed_all p.changes d) (omega (arith, old.fits, p.limited.versions, limits_pending.versions)));
          sealed = ap (λ (x : State). x.in_group) state_then ∙ out;
        };
        pids = pids;
        versions = versions;
      }

  pub right_ahead : {asked : List ℕ} → AreRaised limits raised → (now s).in_group ≡ false → IsRight asked limits s (changed_all ahead_changes d)
  right_ahead lower out = record {
    state = record { is = subst (λ (x : State). In x (crash_states s)) (sym state_then) (last_left s.base s.recent out) };
    mark = inl mark_then;
    no_lower = omega (arith, mark_then);
    limited = record {
      pids = omega (arith, lower.pids, limited_then.pids);
      versions = omega (arith, lower.versions, limited_then.versions);
      pids_most = omega (arith, lower.pids_most, limited_then.pids);
      versions_most = omega (arith, lower.versions_most, limited_then.versions);
    };
  }

  pub ends_ahead : IsPending raised (after_flush s) (changed_all ahead_changes d) []
  ends_ahead = record {
    base = state_then;
    mark = mark_then;
    limited = limited_then;
    changes = [];
    spells = spells_none;
    within = All-nil (IsWithin (changed_all ahead_changes d));
    acts = refl;
    aside = λ whole. refl;
  }

module _ {D : Type 0} {seen : D → List ℕ} {may_leave : D → List ℕ → Type 0} (f : Stored D) (files : Files D) (payload : List ℕ) (sound : IsSound seen may_leave f) (out : (now (store_of f.pages)).in_group ≡ false)
    (raised : Limits) (lower : AreRaised f.limits raised) (a : IsAhead f.limits raised f.pending payload) where
  pub sound_ahead : (pages : MemPages) → f.files.failed ≡ false → ((d : Durable) (list : List Change) → IsReady seen may_leave f.files d → Spells payload list → AreAdded list d → IsReady seen may_leave files (changed_all list d))
      → store_of pages ≡ after_flush (store_of f.pages) → IsSound seen may_leave (record f { pages = pages; files = files; pending = []; limits = raised })
  sound_ahead pages up ready is =
      let st = sound.stands up in
      let made = changed_all (ahead_changes st.pends a) st.durable in
      let ready_now = ready st.durable (ahead_changes st.pends a) st.ready (ahead_spells st.pends a) (added_ahead st.pends a st.ready.stands.stands.made lower out) in
      let later : after_flush (stored_as f) ≡ over f.mark f.faults (store_of pages) = ap (over f.mark f.faults) (sym is) in
      let pends = subst (λ (s : Store). IsPending raised s made []) later (ends_ahead st.pends a) in
      record {
        stands = λ _. record { durable = made; ready = ready_now; pends = pends };
        lasts = lasts_ready ready_now (right_before pends (ap (λ (s : Store). s.base.in_group) is ∙ out));
        within = subst (AreWithin raised) later (record { numbered = sound.within.numbered; pids = λ p positive given. omega (arith, lower.pids, sound.within.pids p positive given); versions = λ v given. omega (arith, lower.versions, sound.within.versions v given) });
      }

module _ {D : Type 0} {moment : D → ℕ} {left_since : D → ℕ → List ℕ → Type 0} {seen : D → List ℕ} {may_leave : D → List ℕ → Type 0} (f : Stored D) (files : Files D) (payload : List ℕ) (sound : IsSound seen may_leave f) (out : (now (store_of f.pages)).in_group ≡ false)
    (raised : Limits) (lower : AreRaised f.limits raised) (a : IsAhead f.limits raised f.pending payload) where
  pub moments_ahead : KeepsTime moment left_since may_leave f.files.first → KeepsTime moment left_since may_leave f.files.second → (f.files.failed ≡ true → files ≡ f.files)
      → ((d : Durable) (list : List Change) → IsReady seen may_leave f.files d → Spells payload list → AreAdded list d → LeavesPairs moment left_since may_leave f.files files (AreForEither d (changed_all list d)))
      → LeavesPairs moment left_since may_leave f.files files (IsLasting (asked_of f.asked) f.limits (stored_as f))
  moments_ahead first second stays any = elim f.files.failed as (λ b. f.files.failed ≡ b → LeavesPairs moment left_since may_leave f.files files (IsLasting (asked_of f.asked) f.limits (stored_as f))) [
    | true ↦ λ e. moments_none first second (stays e) sound.lasts
    | false ↦ λ e. let st = sound.stands e in moments_either (right_before st.pends (sealed_over f)) (right_ahead st.pends a lower out) (any st.durable (ahead_changes st.pends a) st.ready (ahead_spells st.pends a) (added_ahead st.pends a st.ready.stands.stands.made lower out))
  ] refl
