use Rattle.std.proofs.Common.{rules}
use Rattle.sled_files.proofs.Readying.{place_of, opens_store}
use Rattle.sled_files.proofs.files.files_of.Goals as goal

pub new-requires : goal.new-requires
new-requires g c =
    let place = place_of g.D.Disk.seen g.D.Disk.may_leave c.args.first c.args.second c.requires.first_only c.requires.second_only c.args.opened.is_second c.requires.opened in
    search rules

pub returns-clause-opens : goal.returns-clause-opens
returns-clause-opens g c = opens_store g.D.Disk.seen g.D.Disk.may_leave c.args.first c.args.second c.requires.first_only c.requires.second_only c.requires.opened c.new.result c.new.ensures
