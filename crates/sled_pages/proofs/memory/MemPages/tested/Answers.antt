use Rattle.std.proofs.Common.{ap, sym, ◌∙◌}
use Rattle.std.proofs.lemmas.Bool.{eqb-true, eqb-false}
use Rattle.std.specs.Option.{option_copied}
use Rattle.sled_pages.proofs.Kept.{placed_here}
use Rattle.sled_pages.proofs.Answered.{has_version, has_other, has_none}
use Rattle.sled_pages.proofs.memory.MemPages.tested.Goals as goal

pub returns-then-eq-clause-ok : goal.returns-then-eq-clause-ok
returns-then-eq-clause-ok c = has_version c.args.self.now _ _ _ c.in-Some.slot.now c.get.ensures (ap option_copied c.in-Some.is) (eqb-true _ _ (sym c.if-eq.ensures))

pub returns-then-eq-clause-placed : goal.returns-then-eq-clause-placed
returns-then-eq-clause-placed c = placed_here c.args.self.now.slots c.args.pid c.in-Some.slot.now (sym c.get.ensures ∙ ap option_copied c.in-Some.is)

pub returns-else-eq-clause-err : goal.returns-else-eq-clause-err
returns-else-eq-clause-err c = has_other c.args.self.now _ _ _ c.in-Some.slot.now c.get.ensures (ap option_copied c.in-Some.is) (eqb-false _ _ (sym c.if-eq.ensures))

pub returns-in-None-clause-err : goal.returns-in-None-clause-err
returns-in-None-clause-err c = has_none c.args.self.now _ _ _ c.get.ensures (ap option_copied c.in-None.is)
