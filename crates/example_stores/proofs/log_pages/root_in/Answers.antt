use Rattle.std.proofs.Common.{refl, sym, ◌∙◌}
use Rattle.example_stores.proofs.Logging.{root_said, root_past, root_other, same_text, other_text}
use Rattle.example_stores.proofs.log_pages.root_in.Goals as goal
use Rattle.example_stores.proofs.log_pages.root_in.Goals.{in-RootBecame+else-eq, in_default}

pub returns-then-eq : goal.returns-then-eq
returns-then-eq c =
    sym (root_said c.args.log.now c.loop-i.i c.from_end.result.now c.loop-i-test.true c.from_end.ensures c.in-RootBecame.of c.args.name.now c.in-RootBecame.root c.in-RootBecame.is (same_text _ _ _ (sym c.if-eq.ensures) c.as_ref.ensures))
    ∙ c.loop-i.invariant

pub loop-i-preserved : goal.loop-i-preserved
loop-i-preserved c = elim c.match-from_end.branch [
  | in-RootBecame+else-eq w ↦ root_past c.args.log.now c.loop-i.i c.from_end.result.now c.loop-i-test.true c.from_end.ensures w.in-RootBecame.of c.args.name.now w.in-RootBecame.root w.in-RootBecame.is (other_text _ _ _ (sym w.if-eq.ensures) w.as_ref.ensures) ∙ c.loop-i.invariant
  | in_default w ↦ root_other c.args.log.now c.loop-i.i c.from_end.result.now c.loop-i-test.true c.from_end.ensures c.from_end.result.now c.args.name.now refl w.in_default.not-RootBecame ∙ c.loop-i.invariant
]
