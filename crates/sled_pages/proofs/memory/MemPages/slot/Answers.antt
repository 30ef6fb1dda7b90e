use Rattle.std.proofs.Common.{ap, sym, ◌∙◌}
use Rattle.sled_pages.specs.Table.{page_of}
use Rattle.std.specs.Option.{option_map}
use Rattle.sled_pages.proofs.Kept.{pages_here}
use Rattle.sled_pages.proofs.memory.MemPages.slot.Goals as goal

pub returns : goal.returns
returns c = ap (option_map page_of) c.get.ensures ∙ sym (pages_here c.args.self.now c.args.pid)
