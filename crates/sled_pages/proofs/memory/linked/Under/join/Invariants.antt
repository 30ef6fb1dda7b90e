use Rattle.std.proofs.Common.{◌≡◌, take}
use Rattle.sled_pages.specs.Parts.{after_links}
use Rattle.sled_pages.proofs.memory.linked.Under.join.Given as goal

abbrev pub invariant-loop-link : goal.invariant-loop-link
invariant-loop-link l = l.node ≡ after_links (take l.link-index l.self.1) l.self.0
