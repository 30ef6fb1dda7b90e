use Rattle.std.proofs.Common.{is_ok}
use Rattle.sled_host.proofs.Outcomes.{written_follows}
use Rattle.sled_host.proofs.host.HostFileDisk.write_at.Goals as goal

pub returns-clause-crash : goal.returns-clause-crash
returns-clause-crash c = written_follows c.args.self.now.system.record.events c.args.at c.args.bytes.now (is_ok c.write-answer.result) c.write-answer.new.self.record.events c.write-answer.ensures c.requires
