use Rattle.sled_once.proofs.Reading.{reads_as_left}
use Rattle.sled_once.proofs.once.law_read_as_left.Goals as goal

pub returns : goal.returns
returns g c = rw (← c.file.view_is) (reads_as_left g.D.Disk.seen g.D.Disk.may_leave (record { disk = c.file.inside.disk; calls = c.file.inside.noted.events; stage = c.file.inside.stage; refused = c.file.inside.refused }) c.file.invariant.agrees)
