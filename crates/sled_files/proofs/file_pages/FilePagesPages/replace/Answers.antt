use Rattle.std.proofs.Common.{◌≡◌, ◌<◌, ◌∙◌, refl, inl, sym, subst, ap, rules}
use Rattle.sled_store.specs.Store.{Store}
use Rattle.sled_pages.specs.Memory.{store_of}
use Rattle.sled_files.specs.Stored.{Stored, stored_as, over}
use Rattle.sled_files.proofs.Coding.{stops_unreached, goes_on_err, reaches_calm, goes_on_ok}
use Rattle.sled_files.proofs.Over.{if_ok, if_err, changes_over, refused_over}
use Rattle.sled_files.proofs.Sound.{sound_spelled}
use Rattle.sled_files.proofs.Ungiven.{ungiven_in_memory}
use Rattle.sled_files.proofs.Limits.{reaches_ok, reaches_err, fails_to_reach}
use Rattle.sled_files.proofs.file_pages.FilePagesPages.replace.Goals as goal

pub invariant_of-self : goal.invariant_of-self
invariant_of-self g c =
    let below : c.in-Ok.next < c.self.inside.limit_versions = subst (λ (v : Stored g.row.D.Denot). c.in-Ok.next < v.limits.versions) (sym c.self.view_is) (search rules) in
    sound_spelled g.D.Disk.seen g.D.Disk.may_leave _ c.replace.new.pages c.replace.new.pending.items c.self.invariant c.replace.ensures.spelled (λ w. c.replace.ensures.within _ w (search rules))

pub returns-in-Ok-clause-ok : goal.returns-in-Ok-clause-ok
returns-in-Ok-clause-ok g c =
    let same : over c.self.inside.mark c.self.inside.faults (store_of c.self.inside.pages) ≡ stored_as c.args.self.now = ap stored_as c.self.view_is ∙ c.in-Ok.ensures.same in
    rw (← same) (if_ok c.replace.result (λ a h. changes_over c.self.inside.mark c.self.inside.faults h) c.replace.ensures.ok)

pub returns-in-Ok-clause-err : goal.returns-in-Ok-clause-err
returns-in-Ok-clause-err g c =
    let same : over c.self.inside.mark c.self.inside.faults (store_of c.self.inside.pages) ≡ stored_as c.args.self.now = ap stored_as c.self.view_is ∙ c.in-Ok.ensures.same in
    rw (← same) (if_err c.replace.result (λ e h. refused_over c.self.inside.mark c.self.inside.faults h) c.replace.ensures.err)

pub returns-in-Ok-clause-limits : goal.returns-in-Ok-clause-limits
returns-in-Ok-clause-limits g c = reaches_ok _ (ap (λ (v : Stored g.row.D.Denot). v.files) c.self.view_is) (ap (λ (v : Stored g.row.D.Denot). v.limits) c.self.view_is) c.replace.result c.in-Ok.ensures.limits

pub returns-in-Ok-clause-refused : goal.returns-in-Ok-clause-refused
returns-in-Ok-clause-refused g c = reaches_err _ (ap (λ (v : Stored g.row.D.Denot). v.files) c.self.view_is) (ap (λ (v : Stored g.row.D.Denot). v.limits) c.self.view_is) c.replace.result c.in-Ok.ensures.limits

pub returns-in-Err-clause-refused : goal.returns-in-Err-clause-refused
returns-in-Err-clause-refused g c = fails_to_reach c.in-Err.ensures.kept c.in-Err.ensures.fails

pub returns-in-Ok-clause-cause : goal.returns-in-Ok-clause-cause
returns-in-Ok-clause-cause g c =
    let faults = ap (λ (s : Store). s.faults) (ap stored_as c.self.view_is ∙ c.in-Ok.ensures.same) in
    ungiven_in_memory g.D.Disk.faults c.args.self.now _ c.self.inside.pages c.self.inside.faults c.replace.result (ap (λ (v : Stored g.row.D.Denot). v.pages) c.self.view_is ∙ c.in-Ok.ensures.pages.pages) faults refl c.replace.ensures.err

pub returns-in-Err-clause-cause : goal.returns-in-Err-clause-cause
returns-in-Err-clause-cause g c = inl c.in-Err.ensures.cause

pub returns-in-Err-clause-stops : goal.returns-in-Err-clause-stops
returns-in-Err-clause-stops g c = stops_unreached _ _ c.in-Err.e c.in-Err.ensures.cause

pub returns-in-Ok-clause-stops : goal.returns-in-Ok-clause-stops
returns-in-Ok-clause-stops g c = goes_on_err g.D.Disk.faults c.args.self.now _ c.replace.result (ap (λ (v : Stored g.row.D.Denot). v.files.failed) c.self.view_is ∙ reaches_calm _ _ c.in-Ok.ensures.limits)

pub returns-in-Ok-clause-goes_on : goal.returns-in-Ok-clause-goes_on
returns-in-Ok-clause-goes_on g c = goes_on_ok c.replace.result (ap (λ (v : Stored g.row.D.Denot). v.files.failed) c.self.view_is ∙ reaches_calm _ _ c.in-Ok.ensures.limits)

pub returns-in-Ok-clause-adds : goal.returns-in-Ok-clause-adds
returns-in-Ok-clause-adds g c =
    let same : c.self.inside.pending.items ≡ c.args.self.now.pending = ap (λ (v : Stored g.row.D.Denot). v.pending) c.self.view_is ∙ c.in-Ok.ensures.pages.pending in
    rw (← same) c.replace.ensures.adds

pub returns-in-Ok-clause-kept : goal.returns-in-Ok-clause-kept
returns-in-Ok-clause-kept g c =
    let same : c.self.inside.pending.items ≡ c.args.self.now.pending = ap (λ (v : Stored g.row.D.Denot). v.pending) c.self.view_is ∙ c.in-Ok.ensures.pages.pending in
    rw (← same) c.replace.ensures.kept
