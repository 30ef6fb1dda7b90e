use Rattle.sled.proofs.Reopening.{empty_is_well, empty_is_calm}
use Rattle.sled.proofs.memory.empty_pages.Goals as goal

pub returns : goal.returns
returns c = record { empty = c.new.ensures; well = empty_is_well _ c.new.ensures; no_group = empty_is_calm _ c.new.ensures }
