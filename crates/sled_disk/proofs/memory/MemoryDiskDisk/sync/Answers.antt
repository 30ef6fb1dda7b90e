use Rattle.sled_disk.specs.declared.memory.Call.TheVariants.{Sync}
use Rattle.sled_disk.proofs.Calls.{sync_replays, sync_durable, sync_adds_none}
use Rattle.sled_disk.proofs.Fitting.{sync_fits}
use Rattle.sled_disk.proofs.Time.{elapses_either}
use Rattle.sled_disk.proofs.memory.MemoryDiskDisk.sync.Goals as goal

pub invariant_of-self-2 : goal.invariant_of-self-2
invariant_of-self-2 c = record {
  replayed = sync_replays c.add.result c.args.self.now.first.items c.args.self.now.bytes.items c.args.self.now.calls.items c.add.new.calls.items c.add.ensures.ok c.add.ensures.kept c.args.self.now.replayed;
  begun = c.args.self.now.begun;
  fits = sync_fits c.add.result c.args.self.now.first.items c.args.self.now.calls.items c.add.new.calls.items c.add.ensures.ok c.add.ensures.kept c.args.self.now.fits;
}

pub returns-clause-durable : goal.returns-clause-durable
returns-clause-durable c = sync_durable c.add.result c.args.self.now.first.items c.args.self.now.bytes.items c.args.self.now.calls.items c.add.new.calls.items c.add.ensures.ok c.args.self.now.replayed

pub returns-clause-crash : goal.returns-clause-crash
returns-clause-crash c = sync_adds_none c.add.result c.args.self.now.first.items c.args.self.now.bytes.items c.args.self.now.calls.items c.add.new.calls.items c.add.ensures.ok c.add.ensures.kept c.args.self.now.replayed

pub returns-clause-time : goal.returns-clause-time
returns-clause-time c = elapses_either c.args.self.now.first.items c.args.self.now.calls.items Sync c.add.result c.add.new.calls.items c.add.ensures.ok c.add.ensures.kept
