use Rattle.sled_pages.proofs.Kept.{later}
use Rattle.std.proofs.Common.{Some, ap, ◌∙◌}
use Rattle.sled_store.specs.Update.{put_at}
use Rattle.sled_pages.specs.Parts.{Parts}
use Rattle.sled_pages.specs.Memory.{parts_of}
use Rattle.sled_pages.proofs.memory.MemPages.commit_node.Goals as goal

pub invariant_of-self-clause-below : goal.invariant_of-self-clause-below
invariant_of-self-clause-below c = later _ _ _ c.args.self.now.below

pub returns-clause-parts : goal.returns-clause-parts
returns-clause-parts c = c.commit.ensures.parts ∙ ap (λ (q : Parts). put_at (parts_of c.args.self.now) c.args.pid (Some q)) c.new-page.ensures
