use Rattle.std.proofs.Common.{refl, sym, ◌∙◌}
use Rattle.std.proofs.lemmas.Bool.{eqb-true, eqb-false}
use Rattle.example_stores.proofs.Logging.{page_said, page_past, page_other}
use Rattle.example_stores.proofs.log_pages.page_in.Goals as goal
use Rattle.example_stores.proofs.log_pages.page_in.Goals.{in-PageBecame+else-eq, in_default}

pub returns-then-eq : goal.returns-then-eq
returns-then-eq c =
    c.as_ref.ensures.value
    ∙ (sym (page_said c.args.log.now c.loop-i.i c.from_end.result.now c.loop-i-test.true c.from_end.ensures c.in-PageBecame.of c.args.pid c.in-PageBecame.page c.in-PageBecame.is (eqb-true _ _ (sym c.if-eq.ensures)))
    ∙ c.loop-i.invariant)

pub loop-i-preserved : goal.loop-i-preserved
loop-i-preserved c = elim c.match-from_end.branch [
  | in-PageBecame+else-eq w ↦ page_past c.args.log.now c.loop-i.i c.from_end.result.now c.loop-i-test.true c.from_end.ensures w.in-PageBecame.of c.args.pid w.in-PageBecame.page w.in-PageBecame.is (eqb-false _ _ (sym w.if-eq.ensures)) ∙ c.loop-i.invariant
  | in_default w ↦ page_other c.args.log.now c.loop-i.i c.from_end.result.now c.loop-i-test.true c.from_end.ensures c.from_end.result.now c.args.pid refl w.in_default.not-PageBecame ∙ c.loop-i.invariant
]
