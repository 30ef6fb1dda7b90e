use Rattle.std.proofs.Common.{rules, ◌≡◌, ◌+◌, max, ap, ◌∙◌}
use Rattle.sled_store.specs.Roots.{roots_of}
use Rattle.sled_pages.specs.Blocks.{lies_of}
use Rattle.sled_pages.specs.Parts.{node_of}
use Rattle.sled_pages.proofs.Rebuilding.{built_same, put_is, put_builds}
use Rattle.sled_pages.proofs.memory.rebuild.Rebuild.put.Goals as goal

pub returns-in-Err-clause-err : goal.returns-in-Err-clause-err
returns-in-Err-clause-err c = let m = c.args.self.now in built_same (lies_of m.pages) (lies_of c.make.new.self) (roots_of m.roots.items) m.last m.next_version c.make.ensures.slots

pub invariant_of-self-2 : goal.invariant_of-self-2
invariant_of-self-2 c = let m = c.args.self.now in
    let l : c.max-self.result ≡ max m.last c.args.pid = search rules in
    let n : c.max-self-2.result ≡ max m.next_version (c.args.version + 1) = search rules in
    record {
      building = put_builds (lies_of c.make.new.self) (lies_of c.put-before.new.self) m.roots.items c.place_of-place.result c.args.pid m.last _ m.next_version _ c.args.version c.new-page.result c.requires.positive c.place_of-place.ensures c.put-before.ensures.slots l n
          (rw c.make.ensures.slots m.building);
    }

pub returns-clause-ok : goal.returns-clause-ok
returns-clause-ok c = let m = c.args.self.now in
    let l : c.max-self.result ≡ max m.last c.args.pid = search rules in
    let n : c.max-self-2.result ≡ max m.next_version (c.args.version + 1) = search rules in
    put_is (lies_of m.pages) (lies_of c.put-before.new.self) (roots_of m.roots.items) c.place_of-place.result c.args.pid m.last _ m.next_version _ c.args.version c.new-page.result c.args.node c.requires.positive c.place_of-place.ensures
    (rw (← c.make.ensures.slots) c.put-before.ensures.slots) (ap node_of c.new-page.ensures ∙ c.in_ok-node.ensures.ok) l n
