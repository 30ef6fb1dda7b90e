use Rattle.std.proofs.Common.{arith, sym, ap, length}
use Rattle.std.proofs.lemmas.Bool.{eqb-false}
use Rattle.ordered_keys.specs.declared.part.Kind.TheVariants as kinds
use Rattle.ordered_keys.proofs.Parts.{parts_more, parts_stop, parts_left}
use Rattle.ordered_keys.proofs.part.parts_of.Goals as goal

pub returns-in_default-clause-none : goal.returns-in_default-clause-none
returns-in_default-clause-none c = parts_stop c.args.shape.now c.kinds.kind-index kinds.Number c.kinds.parts.items c.kinds.rest.now c.args.key.now (omega arith) c.kinds.invariant (rw c.in_default.is at c.in_ok-part.ensures.none)

pub kinds-preserved : goal.kinds-preserved
kinds-preserved c = parts_more c.args.shape.now c.kinds.kind-index kinds.Number c.kinds.parts.items c.push.new.self.items c.in-Some.part c.kinds.rest.now c.in-Some.others.now c.args.key.now (omega arith) c.kinds.invariant (rw c.in-Some.is at c.in_ok-part.ensures.some) c.in_ok-push.ensures.items

pub returns-else-is_empty-clause-none : goal.returns-else-is_empty-clause-none
returns-else-is_empty-clause-none c = parts_left c.args.shape.now c.kinds.kind-index c.kinds.parts.items c.kinds.rest.now c.args.key.now (omega arith) (λ e. eqb-false (length c.kinds.rest.now) 0 (sym c.if-is_empty.ensures) (ap length e)) c.kinds.invariant
