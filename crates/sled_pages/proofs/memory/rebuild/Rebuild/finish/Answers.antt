use Rattle.std.proofs.Common.{rules, ◌≡◌, ◌-◌, max, false, ap}
use Rattle.std.specs.List.{list_all}
use mathlib.Core.List.{reverse}
use Rattle.sled_store.specs.Roots.{roots_of}
use Rattle.sled_pages.specs.Blocks.{lies_of}
use Rattle.sled_pages.specs.Slots.{slots_of, places_of, given_of}
use Rattle.sled_pages.specs.Table.{has_place, undo_given, base_of}
use Rattle.sled_pages.specs.theory.Table.{table}
use Rattle.sled_pages.proofs.Rebuilding.{finish_is, numbered_below, wider}
use Rattle.sled_pages.proofs.memory.rebuild.Rebuild.finish.Goals as goal

pub from_blocks-requires : goal.from_blocks-requires
from_blocks-requires c = let m = c.args.self in
    let g : c.max-given.result ≡ max m.last (c.args.pids - 1) = search rules in
    wider (lies_of m.pages) m.last _ (c.args.pids - 1) g m.building.unused

pub invariant_of-result : goal.invariant_of-result
invariant_of-result c = let m = c.args.self in
    let n : c.max.result ≡ max m.next_version c.args.versions = search rules in
    record {
      kept = record {
        placed = ap (list_all (has_place (places_of c.from_blocks.result))) c.new.ensures.items;
        sealed = ap (λ l. (base_of (reverse l) (table (slots_of c.from_blocks.result) (roots_of m.roots.items) false)).in_group) c.new.ensures.items;
      };
      ascends = m.building.ascends;
      below = record {
        here = numbered_below (lies_of m.pages) (slots_of c.from_blocks.result) m.next_version _ c.args.versions c.from_blocks.ensures.slots n m.building.below;
        in_log = ap (list_all (undo_given c.max.result)) c.new.ensures.items;
      };
    }

pub returns-clause-is : goal.returns-clause-is
returns-clause-is c = let m = c.args.self in
    let g : c.max-given.result ≡ max m.last (c.args.pids - 1) = search rules in
    let n : c.max.result ≡ max m.next_version c.args.versions = search rules in
    finish_is (lies_of m.pages) (slots_of c.from_blocks.result) (roots_of m.roots.items) c.new.result.items c.new-3.result.items (given_of c.from_blocks.result) m.last m.next_version c.args.pids c.args.versions c.args.mark c.max-given.result c.max.result
    c.new.ensures.items c.new-3.ensures.items c.from_blocks.ensures.slots g c.from_blocks.ensures.given n
