use Rattle.std.proofs.Common.{◌∷◌, [], inl, inr, ⊎_elim, refl, sym, ap, ◌∙◌, subst, arith, List, ℕ, ◌⊎◌, ◌≤◌}
use Rattle.sled_files.specs.Raised.{raised_to, ComeNext}
use Rattle.sled_pages.specs.Memory.{store_of}
use Rattle.sled_bytes.specs.declared.change.Change.TheVariants.{Limited}
use Rattle.sled_files.specs.Pending.{Spells}
use Rattle.sled_files.proofs.Over.{own_fault}
use Rattle.sled_files.proofs.Sound.{sound_faults}
use Rattle.sled_files.proofs.Moments.{moments_none}
use Rattle.sled_files.proofs.Added.{sound_refused, sound_raised, moments_raised}
use Rattle.sled_files.proofs.Limits.{same_limits, grown_by, next_over, raised_by}
use Rattle.sled_files.proofs.Coding.{unstored_weaker}
use Rattle.sled_files.proofs.Ungiven.{used_up_at}
use Rattle.sled_files.proofs.Raising.{limited_length}
use Rattle.sled_files.specs.Stored.{Stored, stored_as, over}
use Rattle.sled_files.specs.Codes.{AreUsedUp}
use Rattle.sled_files.proofs.file_pages.FilePages.raise.Goals as goal
use Rattle.sled_files.proofs.file_pages.FilePages.raise.Goals.{then-pids-pid-via-then-pids-pid, then-pids-pid-via-else-pids-pid+then-versions-version}

pub invariant_of-self : goal.invariant_of-self
invariant_of-self g c = sound_faults g.D.Disk.seen g.D.Disk.may_leave _ c.fault.new.faults c.self.invariant

pub returns-then-pids-pid-clause-err : goal.returns-then-pids-pid-clause-err
returns-then-pids-pid-clause-err g c = rw (← c.self.view_is) (own_fault (store_of c.self.inside.pages) c.fault.ensures.counted)

pub returns-then-pids-pid-clause-any_moment : goal.returns-then-pids-pid-clause-any_moment
returns-then-pids-pid-clause-any_moment g c = rw (← c.self.view_is) (moments_none c.law_time.ensures.first c.law_time.ensures.second refl c.self.invariant.lasts)

pub returns-in-Err-clause-any_moment : goal.returns-in-Err-clause-any_moment
returns-in-Err-clause-any_moment g c = rw (← c.self.view_is) (moments_none c.law_time.ensures.first c.law_time.ensures.second refl c.self.invariant.lasts)

pub invariant_of-self-in-Err-add : goal.invariant_of-self-in-Err-add
invariant_of-self-in-Err-add g c =
    let next = subst (λ (v : Stored g.row.D.Denot). ComeNext (stored_as v) c.args.pid c.args.version) (sym c.self.view_is) (next_over c.args.self.now.mark c.args.self.now.faults c.requires) in
    let lower = raised_by c.raised-pids.result c.raised-versions.result c.self.invariant.within next (c.raised-pids.ensures.is ∙ ap (raised_to c.self.inside.limit_pids) c.pid.view_is) (c.raised-versions.ensures.is ∙ ap (raised_to c.self.inside.limit_versions) c.version.view_is) in
    let spells = subst (λ (l : List ℕ). Spells l (Limited c.raised-pids.result c.raised-versions.result ∷ [])) (sym c.deref.ensures.value) c.in-Ok.ensures.ok in
    sound_refused _ c.add.new.files c.self.inside.asked c.add.new.faults c.self.invariant (⊎_elim (λ e. inl (e, refl)) (λ e. inr e) c.in-Err-add.ensures.err)
    (moments_raised _ c.add.new.files c.deref.result.now c.add.ensures.first c.add.ensures.second c.self.invariant c.add.ensures.over c.add.ensures.any_moment c.raised-pids.result c.raised-versions.result spells lower)

pub returns-in-Err-add-clause-err : goal.returns-in-Err-add-clause-err
returns-in-Err-add-clause-err g c = rw (← c.self.view_is) (own_fault (store_of c.self.inside.pages) c.in-Err-add.ensures.fault)

pub returns-in-Err-add-clause-any_moment : goal.returns-in-Err-add-clause-any_moment
returns-in-Err-add-clause-any_moment g c =
    let next = subst (λ (v : Stored g.row.D.Denot). ComeNext (stored_as v) c.args.pid c.args.version) (sym c.self.view_is) (next_over c.args.self.now.mark c.args.self.now.faults c.requires) in
    let lower = raised_by c.raised-pids.result c.raised-versions.result c.self.invariant.within next (c.raised-pids.ensures.is ∙ ap (raised_to c.self.inside.limit_pids) c.pid.view_is) (c.raised-versions.ensures.is ∙ ap (raised_to c.self.inside.limit_versions) c.version.view_is) in
    let spells = subst (λ (l : List ℕ). Spells l (Limited c.raised-pids.result c.raised-versions.result ∷ [])) (sym c.deref.ensures.value) c.in-Ok.ensures.ok in
    rw (← c.self.view_is)
    (moments_raised _ c.add.new.files c.deref.result.now c.add.ensures.first c.add.ensures.second c.self.invariant c.add.ensures.over c.add.ensures.any_moment c.raised-pids.result c.raised-versions.result spells lower)

pub invariant_of-self-2 : goal.invariant_of-self-2
invariant_of-self-2 g c =
    let spells = subst (λ (l : List ℕ). Spells l (Limited c.raised-pids.result c.raised-versions.result ∷ [])) (sym c.deref.ensures.value) c.in-Ok.ensures.ok in
    rw c.in_default.ensures.same (sound_raised _ c.add.new.files c.deref.result.now c.raised-pids.result c.raised-versions.result c.self.invariant c.in_default.ensures.up c.in_default.ensures.ready spells c.raised-pids.ensures.no_lower c.raised-versions.ensures.no_lower)

pub returns-clause-any_moment : goal.returns-clause-any_moment
returns-clause-any_moment g c =
    let next = subst (λ (v : Stored g.row.D.Denot). ComeNext (stored_as v) c.args.pid c.args.version) (sym c.self.view_is) (next_over c.args.self.now.mark c.args.self.now.faults c.requires) in
    let lower = raised_by c.raised-pids.result c.raised-versions.result c.self.invariant.within next (c.raised-pids.ensures.is ∙ ap (raised_to c.self.inside.limit_pids) c.pid.view_is) (c.raised-versions.ensures.is ∙ ap (raised_to c.self.inside.limit_versions) c.version.view_is) in
    let spells = subst (λ (l : List ℕ). Spells l (Limited c.raised-pids.result c.raised-versions.result ∷ [])) (sym c.deref.ensures.value) c.in-Ok.ensures.ok in
    rw (← c.self.view_is)
    (moments_raised _ c.add.new.files c.deref.result.now c.add.ensures.first c.add.ensures.second c.self.invariant c.add.ensures.over c.add.ensures.any_moment c.raised-pids.result c.raised-versions.result spells lower)

pub returns-clause-limits : goal.returns-clause-limits
returns-clause-limits g c = rw (← c.self.view_is) (same_limits (c.raised-pids.ensures.is ∙ ap (raised_to c.self.inside.limit_pids) c.pid.view_is) (c.raised-versions.ensures.is ∙ ap (raised_to c.self.inside.limit_versions) c.version.view_is))

pub returns-clause-same : goal.returns-clause-same
returns-clause-same g c = rw (← c.self.view_is) (ap (λ (n : ℕ). over c.self.inside.mark n (store_of c.self.inside.pages)) c.in_default.ensures.same)

pub returns-clause-grown : goal.returns-clause-grown
returns-clause-grown g c =
    let spells = subst (λ (l : List ℕ). Spells l (Limited c.raised-pids.result c.raised-versions.result ∷ [])) (sym c.deref.ensures.value) c.in-Ok.ensures.ok in
    rw (← c.self.view_is) (grown_by _ _ (limited_length spells) c.in_default.ensures.grown)

pub returns-then-pids-pid-clause-cause : goal.returns-then-pids-pid-clause-cause
returns-then-pids-pid-clause-cause g c =
    let pids = c.raised-pids.ensures.is ∙ ap (raised_to c.self.inside.limit_pids) c.pid.view_is in
    let versions = c.raised-versions.ensures.is ∙ ap (raised_to c.self.inside.limit_versions) c.version.view_is in
    let low : (raised_to c.self.inside.limit_pids c.args.pid ≤ c.args.pid) ⊎ (raised_to c.self.inside.limit_versions c.args.version ≤ c.args.version) = elim c.then-pids-pid.branch [
      | then-pids-pid-via-then-pids-pid w ↦ inl (omega (arith, w.if-pids-pid.true, pids, c.pid.view_is))
      | then-pids-pid-via-else-pids-pid+then-versions-version w ↦ inr (omega (arith, w.if-versions-version.true, versions, c.version.view_is))
    ] in
    let given : AreUsedUp (stored_as c.args.self.now) = used_up_at c.self.inside.limit_pids c.self.inside.limit_versions c.requires low in
    let same : AreUsedUp (store_of c.self.inside.pages) = subst (λ (v : Stored g.row.D.Denot). AreUsedUp (stored_as v)) (sym c.self.view_is) given in
    rw (← c.self.view_is) (inl (record { given = same; files = refl; is = c.fault.ensures.is }))

pub returns-in-Err-add-clause-cause : goal.returns-in-Err-add-clause-cause
returns-in-Err-add-clause-cause g c =
    let spells = subst (λ (l : List ℕ). Spells l (Limited c.raised-pids.result c.raised-versions.result ∷ [])) (sym c.deref.ensures.value) c.in-Ok.ensures.ok in
    rw (← c.self.view_is) (inr (unstored_weaker (λ lacks. omega (arith, lacks, limited_length spells)) c.in-Err-add.ensures.cause))
