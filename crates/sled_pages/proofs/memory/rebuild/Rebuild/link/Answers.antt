use Rattle.std.proofs.Common.{rules, ◌≡◌, ◌+◌, max}
use Rattle.sled_store.specs.Roots.{roots_of}
use Rattle.sled_pages.specs.Blocks.{lies_of}
use Rattle.sled_pages.proofs.Rebuilding.{built_same, link_is, link_builds}
use Rattle.sled_pages.proofs.memory.rebuild.Rebuild.link.Goals as goal

pub invariant_of-self-2 : goal.invariant_of-self-2
invariant_of-self-2 c = let m = c.args.self.now in
    let n : c.max-self.result ≡ max m.next_version (c.args.version + 1) = search rules in
    record { building = link_builds c.args.link (lies_of m.pages) (lies_of c.settle-done.new.self) m.roots.items c.place_of.result m.last m.next_version _ c.args.version c.in_default.ensures.ok n m.building }

pub returns-clause-ok : goal.returns-clause-ok
returns-clause-ok c = let m = c.args.self.now in
    let n : c.max-self.result ≡ max m.next_version (c.args.version + 1) = search rules in
    link_is c.args.link (lies_of m.pages) (lies_of c.settle-done.new.self) (roots_of m.roots.items) c.place_of.result c.args.pid m.last m.next_version _ c.args.version c.requires.positive c.place_of.ensures c.in_default.ensures.ok n

pub returns-in-Err-clause-err : goal.returns-in-Err-clause-err
returns-in-Err-clause-err c = let m = c.args.self.now in built_same (lies_of m.pages) (lies_of c.settle-done.new.self) (roots_of m.roots.items) m.last m.next_version c.in-Err.ensures.err
