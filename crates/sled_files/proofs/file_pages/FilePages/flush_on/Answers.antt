use Rattle.std.proofs.Common.{rules, arith, length, ◌≡◌, ◌∙◌, inl, inr, ⊎_elim, refl, ap, sym, subst, false, List, ℕ, [], ◌<◌}
use Rattle.sled_store.specs.Store.{now}
use Rattle.sled_pages.specs.Memory.{store_of}
use Rattle.sled_files.specs.Lasting.{Limits, AreRaised}
use Rattle.sled_files.specs.Stored.{Stored, stored_as}
use Rattle.sled_files.specs.theory.Ahead.{IsAhead}
use Rattle.sled_files.proofs.Over.{own_fault}
use Rattle.sled_files.proofs.Added.{sound_refused}
use Rattle.sled_files.proofs.Moments.{moments_none}
use Rattle.sled_files.proofs.Raising.{sound_ahead, moments_ahead, taken_out, ahead_length, ahead_short}
use Rattle.sled_files.proofs.Sound.{sound_faults}
use Rattle.sled_files.proofs.Coding.{unstored_early, unstored_weaker, unstored_over, goes_on, stops_unstored}
use Rattle.sled_files.specs.Raised.{RaisesNear}
use Rattle.sled_files.proofs.Limits.{same_limits, grown_by, AreFlushed, flushed_limits}
use Rattle.sled_files.proofs.file_pages.FilePages.flush_on.Goals as goal

pub returns-in-Err-clause-err : goal.returns-in-Err-clause-err
returns-in-Err-clause-err g c = rw (← c.self.view_is, c.in-Err.ensures.err.0) (record { is = refl })

pub returns-in-Err-clause-any_moment : goal.returns-in-Err-clause-any_moment
returns-in-Err-clause-any_moment g c = rw (← c.self.view_is) (moments_none c.law_time.ensures.first c.law_time.ensures.second refl c.self.invariant.lasts)

pub invariant_of-self-in-Err-add : goal.invariant_of-self-in-Err-add
invariant_of-self-in-Err-add g c =
    let out : (now (store_of c.self.inside.pages)).in_group ≡ false = ap (λ (v : Stored g.row.D.Denot). (now (stored_as v)).in_group) c.self.view_is ∙ c.requires in
    let raised : Limits = record { pids = c.ahead-pids.result.0; versions = c.ahead-pids.result.1 } in
    let limits : Limits = record { pids = c.self.inside.limit_pids; versions = c.self.inside.limit_versions } in
    let lower : AreRaised limits raised = subst (λ (v : Stored g.row.D.Denot). AreRaised v.limits raised) (sym c.self.view_is) c.ahead-pids.ensures.raised in
    let more : IsAhead limits raised c.self.inside.pending.items c.deref.result.now = subst (λ (l : List ℕ). IsAhead limits raised c.self.inside.pending.items l) (sym c.deref.ensures.value) c.in_default.ensures.ok in
    let same : c.len-len.result ≡ length c.self.inside.pending.items = search rules in
    rw (c.truncate.ensures.items ∙ taken_out c.len-len.result c.in_default.ensures.ok same)
    (sound_refused _ c.add.new.files c.self.inside.asked c.add.new.faults c.self.invariant (⊎_elim (λ e. inl (e, refl)) (λ e. inr e) c.in-Err-add.ensures.err)
    (moments_ahead _ c.add.new.files c.deref.result.now c.self.invariant out raised lower more c.add.ensures.first c.add.ensures.second c.add.ensures.over c.add.ensures.any_moment))

pub returns-in-Err-add-clause-err : goal.returns-in-Err-add-clause-err
returns-in-Err-add-clause-err g c = rw (← c.self.view_is) (own_fault (store_of c.self.inside.pages) c.in-Err-add.ensures.fault)

pub returns-in-Err-add-clause-any_moment : goal.returns-in-Err-add-clause-any_moment
returns-in-Err-add-clause-any_moment g c =
    let out : (now (store_of c.self.inside.pages)).in_group ≡ false = ap (λ (v : Stored g.row.D.Denot). (now (stored_as v)).in_group) c.self.view_is ∙ c.requires in
    let raised : Limits = record { pids = c.ahead-pids.result.0; versions = c.ahead-pids.result.1 } in
    let limits : Limits = record { pids = c.self.inside.limit_pids; versions = c.self.inside.limit_versions } in
    let lower : AreRaised limits raised = subst (λ (v : Stored g.row.D.Denot). AreRaised v.limits raised) (sym c.self.view_is) c.ahead-pids.ensures.raised in
    let more : IsAhead limits raised c.self.inside.pending.items c.deref.result.now = subst (λ (l : List ℕ). IsAhead limits raised c.self.inside.pending.items l) (sym c.deref.ensures.value) c.in_default.ensures.ok in
    rw (← c.self.view_is) (moments_ahead _ c.add.new.files c.deref.result.now c.self.invariant out raised lower more c.add.ensures.first c.add.ensures.second c.add.ensures.over c.add.ensures.any_moment)

pub invariant_of-self-2 : goal.invariant_of-self-2
invariant_of-self-2 g c =
    let out : (now (store_of c.self.inside.pages)).in_group ≡ false = ap (λ (v : Stored g.row.D.Denot). (now (stored_as v)).in_group) c.self.view_is ∙ c.requires in
    let raised : Limits = record { pids = c.ahead-pids.result.0; versions = c.ahead-pids.result.1 } in
    let limits : Limits = record { pids = c.self.inside.limit_pids; versions = c.self.inside.limit_versions } in
    let lower : AreRaised limits raised = subst (λ (v : Stored g.row.D.Denot). AreRaised v.limits raised) (sym c.self.view_is) c.ahead-pids.ensures.raised in
    let more : IsAhead limits raised c.self.inside.pending.items c.deref.result.now = subst (λ (l : List ℕ). IsAhead limits raised c.self.inside.pending.items l) (sym c.deref.ensures.value) c.in_default.ensures.ok in
    rw (c.in_default-add.ensures.same, c.clear.ensures.items)
    (sound_ahead _ c.add.new.files c.deref.result.now c.self.invariant out raised lower more c.flush_uncounted.new.self c.in_default-add.ensures.up c.in_default-add.ensures.ready c.flush_uncounted.ensures.ok)

pub returns-clause-any_moment : goal.returns-clause-any_moment
returns-clause-any_moment g c =
    let out : (now (store_of c.self.inside.pages)).in_group ≡ false = ap (λ (v : Stored g.row.D.Denot). (now (stored_as v)).in_group) c.self.view_is ∙ c.requires in
    let raised : Limits = record { pids = c.ahead-pids.result.0; versions = c.ahead-pids.result.1 } in
    let limits : Limits = record { pids = c.self.inside.limit_pids; versions = c.self.inside.limit_versions } in
    let lower : AreRaised limits raised = subst (λ (v : Stored g.row.D.Denot). AreRaised v.limits raised) (sym c.self.view_is) c.ahead-pids.ensures.raised in
    let more : IsAhead limits raised c.self.inside.pending.items c.deref.result.now = subst (λ (l : List ℕ). IsAhead limits raised c.self.inside.pending.items l) (sym c.deref.ensures.value) c.in_default.ensures.ok in
    rw (← c.self.view_is) (moments_ahead _ c.add.new.files c.deref.result.now c.self.invariant out raised lower more c.add.ensures.first c.add.ensures.second c.add.ensures.over c.add.ensures.any_moment)

pub returns-in-Err-clause-cause : goal.returns-in-Err-clause-cause
returns-in-Err-clause-cause g c = rw (← c.self.view_is) (unstored_early c.self.inside.files c.self.inside.faults c.in-Err.e c.in-Err.ensures.err.0)

pub returns-in-Err-add-clause-cause : goal.returns-in-Err-add-clause-cause
returns-in-Err-add-clause-cause g c =
    let raised : Limits = record { pids = c.ahead-pids.result.0; versions = c.ahead-pids.result.1 } in
    let limits : Limits = record { pids = c.self.inside.limit_pids; versions = c.self.inside.limit_versions } in
    let more : IsAhead limits raised c.self.inside.pending.items c.deref.result.now = subst (λ (l : List ℕ). IsAhead limits raised c.self.inside.pending.items l) (sym c.deref.ensures.value) c.in_default.ensures.ok in
    rw (← c.self.view_is) (unstored_weaker (λ lacks. omega (arith, lacks, ahead_short more)) c.in-Err-add.ensures.cause)

pub returns-clause-grown : goal.returns-clause-grown
returns-clause-grown g c =
    let raised : Limits = record { pids = c.ahead-pids.result.0; versions = c.ahead-pids.result.1 } in
    let limits : Limits = record { pids = c.self.inside.limit_pids; versions = c.self.inside.limit_versions } in
    let more : IsAhead limits raised c.self.inside.pending.items c.deref.result.now = subst (λ (l : List ℕ). IsAhead limits raised c.self.inside.pending.items l) (sym c.deref.ensures.value) c.in_default.ensures.ok in
    let same : c.len-len.result ≡ length c.self.inside.pending.items = search rules in
    let kept : AreFlushed raised c.self.inside.pending.items c.args.self.now = flushed_limits c.args.self.now raised same (λ idle. same_limits (c.ahead-pids.ensures.idle idle).0 (c.ahead-pids.ensures.idle idle).1) c.ahead-pids.ensures.near in
    rw (← c.self.view_is) (record {
      files = grown_by _ _ (ahead_length more) c.in_default-add.ensures.grown;
      idle = subst (λ (v : Stored g.row.D.Denot). c.self.inside.pending.items ≡ [] → raised ≡ v.limits) (sym c.self.view_is) kept.idle;
      limits = subst (λ (v : Stored g.row.D.Denot). 0 < length c.self.inside.pending.items → RaisesNear (stored_as v) v.limits raised) (sym c.self.view_is) kept.busy;
    })

pub returns-then-failed-clause-err : goal.returns-then-failed-clause-err
returns-then-failed-clause-err g c = rw (← c.self.view_is) (own_fault (store_of c.self.inside.pages) c.fault.ensures.counted)

pub returns-then-failed-clause-cause : goal.returns-then-failed-clause-cause
returns-then-failed-clause-cause g c = rw (← c.self.view_is) (unstored_over c.self.inside.files c.self.inside.faults c.fault.result (search rules) c.fault.ensures.is)

pub returns-in-Err-clause-stops : goal.returns-in-Err-clause-stops
returns-in-Err-clause-stops g c = goes_on _ _ c.in-Err.e (search rules)

pub returns-in-Err-add-clause-stops : goal.returns-in-Err-add-clause-stops
returns-in-Err-add-clause-stops g c = rw (← c.self.view_is) (stops_unstored _ _ c.in-Err-add.e c.in-Err-add.ensures.cause)

pub returns-then-failed-clause-any_moment : goal.returns-then-failed-clause-any_moment
returns-then-failed-clause-any_moment g c = rw (← c.self.view_is) (moments_none c.law_time.ensures.first c.law_time.ensures.second refl c.self.invariant.lasts)

pub invariant_of-self : goal.invariant_of-self
invariant_of-self g c = sound_faults g.D.Disk.seen g.D.Disk.may_leave _ c.fault.new.faults c.self.invariant

pub returns-in-Err-add-clause-pending : goal.returns-in-Err-add-clause-pending
returns-in-Err-add-clause-pending g c =
    let same : c.len-len.result ≡ length c.self.inside.pending.items = search rules in
    rw (← c.self.view_is) (c.truncate.ensures.items ∙ taken_out c.len-len.result c.in_default.ensures.ok same)
