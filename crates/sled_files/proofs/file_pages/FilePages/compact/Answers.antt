use Rattle.std.proofs.Common.{refl}
use Rattle.sled_files.proofs.Moments.{moments_none}
use Rattle.sled_files.proofs.file_pages.FilePages.compact.Goals as goal

pub returns-then-in_group-clause-any_moment : goal.returns-then-in_group-clause-any_moment
returns-then-in_group-clause-any_moment g c = rw (← c.self.view_is) (moments_none c.law_time.ensures.first c.law_time.ensures.second refl c.self.invariant.lasts)
