use Rattle.std.proofs.Common.{true, false, sym, ◌∙◌, ap, Some, None, if◌then◌else◌}
use Rattle.line_words.proofs.Batching.{after_two}
use Rattle.line_words.proofs.batch.add_writes.Goals as goal

pub returns-then-not-branch-clause-ok : goal.returns-then-not-branch-clause-ok
returns-then-not-branch-clause-ok c =
    sym c.loop-rest.invariant
    ∙ after_two c.loop-rest.batch c.add_write.new.batch false _ _ c.first_word-in-Some.result.1 c.in-Some.words c.in-Some-others.others _ _ c.in-Some.is c.first_word.ensures c.in-Some-others.is c.first_word-in-Some.ensures
    (c.in_ok-add_write.ensures.ok ∙ ap (λ b. if b then Some c.add_write.new.batch else None) c.if-not-branch.true)

pub loop-rest-preserved : goal.loop-rest-preserved
loop-rest-preserved c =
    sym (after_two c.loop-rest.batch c.add_write.new.batch true _ _ c.first_word-in-Some.result.1 c.in-Some.words c.in-Some-others.others _ _ c.in-Some.is c.first_word.ensures c.in-Some-others.is c.first_word-in-Some.ensures
    (c.in_ok-add_write.ensures.ok ∙ ap (λ b. if b then Some c.add_write.new.batch else None) c.if-not-branch.false))
    ∙ c.loop-rest.invariant
