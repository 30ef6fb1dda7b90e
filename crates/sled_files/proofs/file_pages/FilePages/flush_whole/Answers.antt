use Rattle.std.proofs.Common.{refl, rules}
use Rattle.sled_pages.specs.Memory.{store_of}
use Rattle.sled_files.proofs.Over.{own_fault}
use Rattle.sled_files.proofs.Moments.{moments_none}
use Rattle.sled_files.proofs.Sound.{sound_faults}
use Rattle.sled_files.proofs.Coding.{unstored_early, unstored_over}
use Rattle.sled_files.proofs.file_pages.FilePages.flush_whole.Goals as goal

pub returns-in-Err-clause-any_moment : goal.returns-in-Err-clause-any_moment
returns-in-Err-clause-any_moment g c = rw (← c.self.view_is) (moments_none c.law_time.ensures.first c.law_time.ensures.second refl c.self.invariant.lasts)

pub returns-in-Err-clause-cause : goal.returns-in-Err-clause-cause
returns-in-Err-clause-cause g c = unstored_early c.args.self.now.files c.args.self.now.faults c.in-Err.e c.in-Err.ensures.err

pub returns-then-failed-clause-err : goal.returns-then-failed-clause-err
returns-then-failed-clause-err g c = rw (← c.self.view_is) (own_fault (store_of c.self.inside.pages) c.fault.ensures.counted)

pub returns-then-failed-clause-cause : goal.returns-then-failed-clause-cause
returns-then-failed-clause-cause g c = rw (← c.self.view_is) (unstored_over c.self.inside.files c.self.inside.faults c.fault.result (search rules) c.fault.ensures.is)

pub returns-then-failed-clause-any_moment : goal.returns-then-failed-clause-any_moment
returns-then-failed-clause-any_moment g c = rw (← c.self.view_is) (moments_none c.law_time.ensures.first c.law_time.ensures.second refl c.self.invariant.lasts)

pub invariant_of-self : goal.invariant_of-self
invariant_of-self g c = sound_faults g.D.Disk.seen g.D.Disk.may_leave _ c.fault.new.faults c.self.invariant
