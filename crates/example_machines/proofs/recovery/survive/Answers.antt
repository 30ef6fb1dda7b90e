use Rattle.std.proofs.Common.{◌∙◌, ap}
use Rattle.sled_store.specs.theory.Facts.{may_leave_crashed}
use Rattle.sled_pages.specs.declared.memory.MemPages.{MemPages}
use Rattle.sled.specs.Values.{DbValue}
use Rattle.example_machines.proofs.Surviving.{survives}
use Rattle.example_machines.proofs.recovery.survive.Goals as goal

pub returns-in-Ok-open-clause-each : goal.returns-in-Ok-open-clause-each
returns-in-Ok-open-clause-each c =
    survives _ _ c.args.name.now _ _ c.args.keep _ _ _ c.into_pages-2.result c.in_ok-left.left _ c.into_pages-in-Ok-open.result c.in-Ok.ensures.ok c.new-machine.ensures.db c.new-machine.ensures.flights c.new-machine.ensures.slots c.in-Ok-run.ensures.ok c.in-Ok-run.ensures.each (c.into_pages-2.ensures.pages ∙ ap (λ (d : DbValue MemPages _). d.pages) c.into_db-2.ensures)
    (may_leave_crashed _ _ _ c.in_ok-left.ensures.ok) c.in_ok-left.ensures.ok c.in-Ok-open.ensures.ok c.into_pages-in-Ok-open.ensures.pages

pub returns-in-Ok-open-clause-ok : goal.returns-in-Ok-open-clause-ok
returns-in-Ok-open-clause-ok c = (returns-in-Ok-open-clause-each c).survives
