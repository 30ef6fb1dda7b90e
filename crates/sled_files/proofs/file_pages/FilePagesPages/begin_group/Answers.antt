use Rattle.std.proofs.Common.{ap, refl}
use Rattle.sled_files.specs.Stored.{over}
use Rattle.sled_files.proofs.Over.{if_ok, if_err, refused_over}
use Rattle.sled_files.proofs.Sound.{sound_spelled}
use Rattle.sled_files.proofs.file_pages.FilePagesPages.begin_group.Goals as goal

pub invariant_of-self : goal.invariant_of-self
invariant_of-self g c = sound_spelled g.D.Disk.seen g.D.Disk.may_leave _ c.begin_group.new.pages c.begin_group.new.pending.items c.self.invariant c.begin_group.ensures.spelled (c.begin_group.ensures.within _)

pub returns-clause-ok : goal.returns-clause-ok
returns-clause-ok g c = rw (← c.self.view_is) (if_ok c.begin_group.result (λ a h. ap (over c.self.inside.mark c.self.inside.faults) h) c.begin_group.ensures.ok)

pub returns-clause-err : goal.returns-clause-err
returns-clause-err g c = rw (← c.self.view_is) (if_err c.begin_group.result (λ e h. refused_over c.self.inside.mark c.self.inside.faults h) c.begin_group.ensures.err)

pub returns-clause-adds : goal.returns-clause-adds
returns-clause-adds g c = rw (← c.self.view_is) c.begin_group.ensures.adds

pub returns-clause-kept : goal.returns-clause-kept
returns-clause-kept g c = rw (← c.self.view_is) c.begin_group.ensures.kept

pub returns-clause-cause : goal.returns-clause-cause
returns-clause-cause g c = rw (← c.self.view_is) (if_err c.begin_group.result (λ e h. record { is = h; calm = refl }) c.begin_group.ensures.err)
