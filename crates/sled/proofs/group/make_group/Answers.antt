use Rattle.sled.proofs.Telling.{short_of_memory, left_so}
use Rattle.sled.proofs.group.make_group.Goals as goal

pub returns-in-Err-clause-err : goal.returns-in-Err-clause-err
returns-in-Err-clause-err g c = short_of_memory c.args.writes.now (g.P.Pages.store c.args.pages.now) (g.P.Pages.store c.args.pages.now) c.args.queues.now c.requires.calm c.in-Err.e c.prepare_events.new.queues c.cancel.new.self c.in-Err.ensures.err c.cancel.ensures

pub returns-in-Err-write_group-clause-err : goal.returns-in-Err-write_group-clause-err
returns-in-Err-write_group-clause-err g c = left_so c.args.writes.now (g.P.Pages.store c.args.pages.now) (g.P.Pages.store c.write_group.new.pages) c.args.queues.now c.requires.calm c.in-Err-write_group.e c.prepare_events.new.queues c.cancel-in-Err-write_group.new.self c.in_default.ensures.ok c.in-Err-write_group.ensures.err c.cancel-in-Err-write_group.ensures
