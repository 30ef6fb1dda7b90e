use Rattle.std.proofs.Common.{IfOk, IfErr, arith, sym, subst, ◌∙◌}
use Rattle.std.specs.Cmp.Lexicographic.{slice_cmp}
use Rattle.std.specs.Ordering.{nat_cmp}
use Rattle.sled_nodes.specs.theory.Rising.{IsHit, IsGap}
use Rattle.sled_nodes.proofs.Put.{stands_at}
use Rattle.sled_nodes.proofs.Rising.{all_stand, all_go}
use Rattle.sled_nodes.proofs.pairs.place.Goals as goal

pub returns-then-ascends-clause-stands : goal.returns-then-ascends-clause-stands
returns-then-ascends-clause-stands g c = all_stand (slice_cmp nat_cmp) c.args.key.now c.args.pairs.now c.search.result (subst (λ k. IfOk c.search.result (IsHit (slice_cmp nat_cmp) k c.args.pairs.now)) c.as_ref.ensures c.search.ensures.ok)

pub returns-then-ascends-clause-goes : goal.returns-then-ascends-clause-goes
returns-then-ascends-clause-goes g c = all_go (slice_cmp nat_cmp) c.args.key.now c.args.pairs.now c.search.result (subst (λ k. IfErr c.search.result (IsGap (slice_cmp nat_cmp) k c.args.pairs.now)) c.as_ref.ensures c.search.ensures.err)

pub returns-in-Equal-clause-stands : goal.returns-in-Equal-clause-stands
returns-in-Equal-clause-stands g c = stands_at (slice_cmp nat_cmp) _ _ c.index-pairs-i.result _ (omega arith) c.loop-i.invariant (sym c.cmp.ensures ∙ c.in-Equal.is)
