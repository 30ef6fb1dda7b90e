use Rattle.sled_nodes.proofs.Basics.{ok_weaker}
use Rattle.machine_shared.proofs.ReadMakes.{is_answer}
use Rattle.machine_shared.proofs.reading.answer_now.Goals as goal

pub returns-clause-kind : goal.returns-clause-kind
returns-clause-kind g c = ok_weaker _ _ (λ answer reads. is_answer g.P.Pages.store g.M.MergeOperator.meant c.args.machine.now.db c.args.tree.now c.args.question.now answer c.audit.ensures.ascend reads) c.answer_to.result c.answer_to.ensures.ok
