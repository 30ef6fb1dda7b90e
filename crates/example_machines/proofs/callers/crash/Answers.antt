use Rattle.std.proofs.Common.{subst, IfOk}
use Rattle.sled_store.specs.Crash.{Crashes}
use Rattle.sled_pages.specs.Memory.{store_of}
use Rattle.example_machines.proofs.callers.crash.Goals as goal

pub crash_pages-requires : goal.crash_pages-requires
crash_pages-requires g c = c.into_pages.ensures.safe

pub returns-clause-crashes : goal.returns-clause-crashes
returns-clause-crashes g c = subst (λ p. IfOk c.crash_pages.result (λ left. Crashes c.args.keep (store_of p) (store_of left))) c.into_pages.ensures.pages c.crash_pages.ensures.ok
