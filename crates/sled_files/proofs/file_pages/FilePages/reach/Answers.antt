use Rattle.std.proofs.Common.{refl, inl}
use Rattle.sled_pages.specs.Memory.{store_of}
use Rattle.sled_files.proofs.Over.{own_fault}
use Rattle.sled_files.proofs.Sound.{sound_faults}
use Rattle.sled_files.proofs.Moments.{moments_none}
use Rattle.sled_files.proofs.file_pages.FilePages.reach.Goals as goal

pub invariant_of-self : goal.invariant_of-self
invariant_of-self g c = sound_faults g.D.Disk.seen g.D.Disk.may_leave _ c.fault.new.faults c.self.invariant

pub returns-in_default-clause-err : goal.returns-in_default-clause-err
returns-in_default-clause-err g c = rw (← c.self.view_is) (own_fault (store_of c.self.inside.pages) c.fault.ensures.counted)

pub returns-in_default-clause-any_moment : goal.returns-in_default-clause-any_moment
returns-in_default-clause-any_moment g c = rw (← c.self.view_is) (moments_none c.law_time.ensures.first c.law_time.ensures.second refl c.self.invariant.lasts)

pub returns-in_default-clause-cause : goal.returns-in_default-clause-cause
returns-in_default-clause-cause g c = rw (← c.self.view_is) (inl (record { given = c.in_default.ensures.none; files = refl; is = c.fault.ensures.is }))
