use Rattle.std.proofs.Common.{is_ok}
use Rattle.sled_host.proofs.Outcomes.{cut_off_follows}
use Rattle.sled_host.proofs.host.HostFileDisk.cut.Goals as goal

pub returns-clause-crash : goal.returns-clause-crash
returns-clause-crash c = cut_off_follows c.args.self.now.system.record.events c.args.len (is_ok c.cut-answer.result) c.cut-answer.new.self.record.events c.cut-answer.ensures c.requires
