use Rattle.std.proofs.lemmas.Result.{IfOk-weaker}
use Rattle.sled_pages.proofs.Answered.{roots_told}
use Rattle.sled_pages.proofs.memory.MemPagesPages.roots.Goals as goal

pub returns-clause-ok : goal.returns-clause-ok
returns-clause-ok c = IfOk-weaker c.copy_pointers.result _ _ (λ roots e. roots_told c.args.self.now roots.items _ c.as_slice.ensures.value e) c.copy_pointers.ensures.ok
