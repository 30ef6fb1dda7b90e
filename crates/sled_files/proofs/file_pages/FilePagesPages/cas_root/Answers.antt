use Rattle.std.proofs.Common.{refl}
use Rattle.sled_files.proofs.Over.{if_ok, if_err, swaps_over, refused_over}
use Rattle.sled_files.proofs.Sound.{sound_spelled}
use Rattle.sled_files.proofs.file_pages.FilePagesPages.cas_root.Goals as goal

pub invariant_of-self : goal.invariant_of-self
invariant_of-self g c = sound_spelled g.D.Disk.seen g.D.Disk.may_leave _ c.cas_root.new.pages c.cas_root.new.pending.items c.self.invariant c.cas_root.ensures.spelled (c.cas_root.ensures.within _)

pub returns-clause-ok : goal.returns-clause-ok
returns-clause-ok g c = rw (← c.self.view_is) (if_ok c.cas_root.result (λ a h. swaps_over c.self.inside.mark c.self.inside.faults h) c.cas_root.ensures.ok)

pub returns-clause-err : goal.returns-clause-err
returns-clause-err g c = rw (← c.self.view_is) (if_err c.cas_root.result (λ e h. refused_over c.self.inside.mark c.self.inside.faults h) c.cas_root.ensures.err)

pub returns-clause-adds : goal.returns-clause-adds
returns-clause-adds g c = rw (← c.self.view_is) c.cas_root.ensures.adds

pub returns-clause-kept : goal.returns-clause-kept
returns-clause-kept g c = rw (← c.self.view_is) c.cas_root.ensures.kept

pub returns-clause-cause : goal.returns-clause-cause
returns-clause-cause g c = rw (← c.self.view_is) (if_err c.cas_root.result (λ e h. record { is = h; calm = refl }) c.cas_root.ensures.err)
