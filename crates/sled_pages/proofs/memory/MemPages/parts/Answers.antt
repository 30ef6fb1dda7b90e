use Rattle.std.proofs.Common.{◌≡◌, Some, None, rules}
use Rattle.sled_pages.specs.Memory.{parts_of}
use Rattle.sled_pages.proofs.Parted.{parts_join}
use Rattle.sled_pages.proofs.memory.MemPages.parts.Goals as goal

pub returns-in-Some-clause-joins : goal.returns-in-Some-clause-joins
returns-in-Some-clause-joins c =
    let here : Some (c.base.result.now, c.links.result.now) ≡ parts_of c.args.self.now c.args.pid = search rules in
    parts_join c.args.self.now c.args.pid (Some (c.base.result.now, c.links.result.now)) here

pub returns-in-None-clause-joins : goal.returns-in-None-clause-joins
returns-in-None-clause-joins c =
    let here : None ≡ parts_of c.args.self.now c.args.pid = search rules in
    parts_join c.args.self.now c.args.pid None here
