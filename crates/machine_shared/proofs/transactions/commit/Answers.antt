use Rattle.machine_shared.proofs.Committing.{commits_alone, commits_flushed, stops_flushing, stops_group}
use Rattle.machine_shared.proofs.transactions.commit.Goals as goal

pub returns-in-Err-clause-stops : goal.returns-in-Err-clause-stops
returns-in-Err-clause-stops g c = stops_group g.P.Pages.store g.P.Pages.flush_number g.M.MergeOperator.meant c.args.group.items c.args.flushes c.args.me.now c.args.me.now c.make.new.me c.args.state.now c.args.state.now c.make.new.self c.in-Err.e c.in-Err.ensures.stops

pub returns-then-not-flushes-clause-commits : goal.returns-then-not-flushes-clause-commits
returns-then-not-flushes-clause-commits g c = commits_alone g.P.Pages.store g.P.Pages.flush_number g.M.MergeOperator.meant c.args.group.items c.args.flushes c.args.me.now c.make.new.me c.make.new.me c.args.state.now c.make.new.self c.make.new.self c.if-not-flushes.true c.in_default.ensures.makes

pub returns-clause-commits : goal.returns-clause-commits
returns-clause-commits g c = commits_flushed g.P.Pages.store g.P.Pages.flush_number g.M.MergeOperator.meant c.args.group.items c.args.flushes c.args.me.now c.make.new.me c.make_flush.new.me c.args.state.now c.make.new.self c.make_flush.new.state c.make_flush.result c.if-not-flushes.false c.in_default.ensures.makes c.make_flush.ensures.makes

pub returns-clause-stops : goal.returns-clause-stops
returns-clause-stops g c = stops_flushing g.P.Pages.store g.P.Pages.flush_number g.M.MergeOperator.meant c.args.group.items c.args.flushes c.args.me.now c.make.new.me c.make_flush.new.me c.args.state.now c.make.new.self c.make_flush.new.state c.make_flush.result c.if-not-flushes.false c.in_default.ensures.makes c.make_flush.ensures.stops
