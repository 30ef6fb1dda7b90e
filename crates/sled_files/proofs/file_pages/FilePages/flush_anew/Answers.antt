use Rattle.std.proofs.Common.{length, ℕ, ◌≡◌, ◌∙◌, inl, inr, ⊎_elim, refl, ap, sym, subst, false}
use Rattle.sled_store.specs.Store.{now}
use Rattle.sled_pages.specs.Memory.{store_of}
use Rattle.sled_files.specs.Stored.{Stored, stored_as}
use Rattle.sled_files.specs.Lasting.{Limits, AreRaised}
use Rattle.sled_files.specs.theory.Snapshot.{Makes}
use Rattle.sled_files.proofs.Coding.{stops_unstored}
use Rattle.sled_files.proofs.Over.{own_fault}
use Rattle.sled_files.proofs.Added.{sound_refused}
use Rattle.sled_files.proofs.Anew.{whole_of, sound_anew, moments_anew, unchanged}
use Rattle.sled_files.specs.Raised.{RaisesNear}
use Rattle.sled_files.specs.Snapshot.{IsSnapshot}
use Rattle.sled_files.proofs.file_pages.FilePages.flush_anew.Goals as goal

pub invariant_of-self : goal.invariant_of-self
invariant_of-self g c =
    let raised : Limits = record { pids = c.args.pids; versions = c.args.versions } in
    let whole = subst (λ (v : Stored g.row.D.Denot). Makes (store_of v.pages) c.args.whole.now (whole_of v raised)) (sym c.self.view_is) c.requires.whole in
    let lower : AreRaised (record { pids = c.self.inside.limit_pids; versions = c.self.inside.limit_versions }) raised = subst (λ (v : Stored g.row.D.Denot). AreRaised v.limits raised) (sym c.self.view_is) c.requires.raised in
    let out : (now (store_of c.self.inside.pages)).in_group ≡ false = ap (λ (v : Stored g.row.D.Denot). (now (stored_as v)).in_group) c.self.view_is ∙ c.requires.out in
    sound_refused _ c.begin_anew.new.files c.self.inside.asked c.begin_anew.new.faults c.self.invariant (⊎_elim (λ e. inl (e, refl)) (λ e. inr e) c.in-Err.ensures.err)
    (moments_anew _ c.begin_anew.new.files c.args.whole.now c.self.invariant out raised lower c.ranges.versions.fits whole c.begin_anew.ensures.first c.begin_anew.ensures.second c.begin_anew.ensures.over c.begin_anew.ensures.any_moment)

pub returns-in-Err-clause-err : goal.returns-in-Err-clause-err
returns-in-Err-clause-err g c = rw (← c.self.view_is) (own_fault (store_of c.self.inside.pages) c.in-Err.ensures.fault)

pub returns-in-Err-clause-stays : goal.returns-in-Err-clause-stays
returns-in-Err-clause-stays g c = rw (← c.self.view_is) (unchanged _ c.begin_anew.new.files c.begin_anew.new.faults c.in-Err.e c.in-Err.ensures.fault c.in-Err.ensures.err)

pub returns-in-Err-clause-any_moment : goal.returns-in-Err-clause-any_moment
returns-in-Err-clause-any_moment g c =
    let raised : Limits = record { pids = c.args.pids; versions = c.args.versions } in
    let whole = subst (λ (v : Stored g.row.D.Denot). Makes (store_of v.pages) c.args.whole.now (whole_of v raised)) (sym c.self.view_is) c.requires.whole in
    let lower : AreRaised (record { pids = c.self.inside.limit_pids; versions = c.self.inside.limit_versions }) raised = subst (λ (v : Stored g.row.D.Denot). AreRaised v.limits raised) (sym c.self.view_is) c.requires.raised in
    let out : (now (store_of c.self.inside.pages)).in_group ≡ false = ap (λ (v : Stored g.row.D.Denot). (now (stored_as v)).in_group) c.self.view_is ∙ c.requires.out in
    rw (← c.self.view_is) (moments_anew _ c.begin_anew.new.files c.args.whole.now c.self.invariant out raised lower c.ranges.versions.fits whole c.begin_anew.ensures.first c.begin_anew.ensures.second c.begin_anew.ensures.over c.begin_anew.ensures.any_moment)

pub invariant_of-self-2 : goal.invariant_of-self-2
invariant_of-self-2 g c =
    let raised : Limits = record { pids = c.args.pids; versions = c.args.versions } in
    let whole = subst (λ (v : Stored g.row.D.Denot). Makes (store_of v.pages) c.args.whole.now (whole_of v raised)) (sym c.self.view_is) c.requires.whole in
    let lower : AreRaised (record { pids = c.self.inside.limit_pids; versions = c.self.inside.limit_versions }) raised = subst (λ (v : Stored g.row.D.Denot). AreRaised v.limits raised) (sym c.self.view_is) c.requires.raised in
    let out : (now (store_of c.self.inside.pages)).in_group ≡ false = ap (λ (v : Stored g.row.D.Denot). (now (stored_as v)).in_group) c.self.view_is ∙ c.requires.out in
    rw (c.in_default.ensures.same, c.clear.ensures.items)
    (sound_anew _ c.begin_anew.new.files c.args.whole.now c.self.invariant out raised lower c.ranges.versions.fits whole c.flush_uncounted.new.self c.in_default.ensures.up c.in_default.ensures.ready c.flush_uncounted.ensures.ok)

pub returns-clause-any_moment : goal.returns-clause-any_moment
returns-clause-any_moment g c =
    let raised : Limits = record { pids = c.args.pids; versions = c.args.versions } in
    let whole = subst (λ (v : Stored g.row.D.Denot). Makes (store_of v.pages) c.args.whole.now (whole_of v raised)) (sym c.self.view_is) c.requires.whole in
    let lower : AreRaised (record { pids = c.self.inside.limit_pids; versions = c.self.inside.limit_versions }) raised = subst (λ (v : Stored g.row.D.Denot). AreRaised v.limits raised) (sym c.self.view_is) c.requires.raised in
    let out : (now (store_of c.self.inside.pages)).in_group ≡ false = ap (λ (v : Stored g.row.D.Denot). (now (stored_as v)).in_group) c.self.view_is ∙ c.requires.out in
    rw (← c.self.view_is) (moments_anew _ c.begin_anew.new.files c.args.whole.now c.self.invariant out raised lower c.ranges.versions.fits whole c.begin_anew.ensures.first c.begin_anew.ensures.second c.begin_anew.ensures.over c.begin_anew.ensures.any_moment)

pub returns-in-Err-clause-cause : goal.returns-in-Err-clause-cause
returns-in-Err-clause-cause g c = rw (← c.self.view_is) c.in-Err.ensures.cause

pub returns-clause-renewed : goal.returns-clause-renewed
returns-clause-renewed g c =
    let raised : Limits = record { pids = c.args.pids; versions = c.args.versions } in
    let near : RaisesNear (stored_as c.args.self.now) c.args.self.now.limits raised = c.requires.near in
    let whole : IsSnapshot (now (store_of c.self.inside.pages)) c.self.inside.mark raised (length c.args.whole.now) = subst (λ (v : Stored g.row.D.Denot). IsSnapshot (now (stored_as v)) v.mark raised (length c.args.whole.now)) (sym c.self.view_is) c.requires.long in
    rw (← c.self.view_is) (record {
      files = c.in_default.ensures.renewed;
      snapshot = subst (λ (long : ℕ). IsSnapshot (now (store_of c.self.inside.pages)) c.self.inside.mark raised long) (sym c.in_default.ensures.snapshot) whole;
      limits = subst (λ (v : Stored g.row.D.Denot). RaisesNear (stored_as v) v.limits raised) (sym c.self.view_is) near;
    })

pub returns-in-Err-clause-stops : goal.returns-in-Err-clause-stops
returns-in-Err-clause-stops g c = rw (← c.self.view_is) (stops_unstored _ _ c.in-Err.e c.in-Err.ensures.cause)
