use Rattle.sled_files.proofs.Limits.{near_over, raised_ahead, same_limits}
use Rattle.sled_files.proofs.file_pages.FilePages.ahead.Goals as goal

pub returns-clause-near : goal.returns-clause-near
returns-clause-near g c = λ busy. rw (← c.self.view_is) (near_over c.self.inside.mark c.self.inside.faults (c.ahead.ensures.near busy))

pub returns-clause-raised : goal.returns-clause-raised
returns-clause-raised g c =
    rw (← c.self.view_is) (raised_ahead c.args.is_idle c.self.invariant.within (λ idle. same_limits (c.ahead.ensures.idle idle).0 (c.ahead.ensures.idle idle).1) (λ busy. near_over c.self.inside.mark c.self.inside.faults (c.ahead.ensures.near busy)))
