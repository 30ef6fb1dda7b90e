use Rattle.std.proofs.Common.{◌≡◌, ℕ, suc, ◌+◌, Some, sym, ap, ◌∙◌, subst, arith}
use Rattle.example_progress.proofs.Turning.{Turned, in_turn, none_turned, one_more, tells}
use Rattle.example_progress.proofs.step_in_turn.Goals as goal

pub loop-turn-init : goal.loop-turn-init
loop-turn-init g c = none_turned g.P.Pages.store g.P.Pages.flush_number g.M.MergeOperator.meant c.args.machine.now c.requires.reached

pub loop-turn-preserved : goal.loop-turn-preserved
loop-turn-preserved g c =
    subst (λ n. Turned g.P.Pages.store g.P.Pages.flush_number g.M.MergeOperator.meant c.args.machine.now n c.step-told.new.self) (next c.loop-turn.turn)
    (one_more g.P.Pages.store g.P.Pages.flush_number g.M.MergeOperator.meant c.args.machine.now c.loop-turn.machine c.step-told.new.self _ c.loop-turn.turn c.loop-turn.invariant
    (record {
      step = c.in-Moved.ensures.step;
      sound = c.in-Moved.ensures.sound;
      does = c.in-Moved.ensures.does;
      follows = c.in-Moved.ensures.follows;
      passes = c.in-Moved.ensures.passes;
      slots = c.in-Moved.ensures.slots;
      loses = c.in-Moved.ensures.loses;
      leaves = c.in-Moved.ensures.leaves;
      gives_up = record { is = tt };
      tested = record { is = tt };
      way = record { is = tt };
    })
    (record { db = c.audit.ensures.sound; calls = c.audit.ensures.known }))
  where
    next : (n : ℕ) → suc n ≡ n + 1
    next n = omega arith

pub returns-in_default : goal.returns-in_default
returns-in_default g c =
    let told =
    tells g.P.Pages.store g.P.Pages.flush_number g.M.MergeOperator.meant c.args.machine.now c.loop-turn.machine c.step-told.new.self c.args.slots.now c.index-slots-turn.result c.loop-turn.turn c.step-told.result c.loop-turn.invariant
    (in_turn c.args.slots.now c.loop-turn.turn _ c.requires.some ∙ ap Some (sym c.index-slots-turn.is))
    (record {
      step = c.step-told.ensures.step;
      sound = c.step-told.ensures.sound;
      does = c.step-told.ensures.does;
      follows = c.step-told.ensures.follows;
      passes = c.step-told.ensures.passes;
      slots = c.step-told.ensures.slots;
      loses = c.step-told.ensures.loses;
      leaves = c.step-told.ensures.leaves;
      gives_up = record { is = tt };
      tested = record { is = tt };
      way = record { is = tt };
    })
    (record { db = c.audit.ensures.sound; calls = c.audit.ensures.known }) in
    record { told = (c.in_default.not-Moved, told.0); moves = tt; few = tt; reached = told.1 }
