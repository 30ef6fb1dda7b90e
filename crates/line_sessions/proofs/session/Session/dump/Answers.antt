use Rattle.std.proofs.Common.{ap}
use Rattle.line_words.specs.Print.{dump_text}
use Rattle.line_sessions.proofs.Obeying.{all_shown, refusal_shown}
use Rattle.line_sessions.proofs.session.Session.dump.Goals as goal

pub returns-in-Ok : goal.returns-in-Ok
returns-in-Ok g c = all_shown g.P.Pages.store g.P.Pages.flush_number g.M.MergeOperator.meant c.args.self.now _ _ _ _ _ _ (rw c.db.ensures at c.in-Ok.ensures.no_group) (ap dump_text (rw c.db.ensures at c.in-Ok.ensures.ok)) (rw c.as_slice.ensures.value at c.write_trees.ensures)

pub returns-in-Err : goal.returns-in-Err
returns-in-Err g c = refusal_shown g.P.Pages.store g.P.Pages.flush_number g.M.MergeOperator.meant c.args.self.now _ _ _ _ _ (rw c.db.ensures at c.in-Err.ensures.err) c.show.ensures
