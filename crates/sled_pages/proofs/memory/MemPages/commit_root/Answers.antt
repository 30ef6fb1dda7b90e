use Rattle.std.proofs.Common.{refl, sym, ◌∙◌}
use Rattle.sled_pages.specs.Slots.{slots_of, places_of, given_of}
use Rattle.sled_store.specs.Roots.{roots_of}
use Rattle.sled_pages.proofs.Kept.{root_commits, root_keeps, roots_here, log_below}
use Rattle.sled_pages.proofs.memory.MemPages.commit_root.Goals as goal

pub returns-clause-ok : goal.returns-clause-ok
returns-clause-ok c = let m = c.args.self.now in
    root_commits (slots_of m.slots) (roots_of m.roots.items) _ m.in_group m.log.items _ c.args.name.now _ _ c.args.new c.args.old m.actions m.faults m.unreadable.items m.mark m.recovered (given_of m.slots) m.next_version
    c.in_ok-set_root.ensures.ok (sym c.requires.root ∙ roots_here m c.args.name.now) c.in_ok-key.ensures.ok c.in_ok-undo.ensures.ok c.push_reserved.ensures.items

pub invariant_of-self-2-clause-kept : goal.invariant_of-self-2-clause-kept
invariant_of-self-2-clause-kept c = let m = c.args.self.now in
    root_keeps (slots_of m.slots) (roots_of m.roots.items) _ m.in_group m.log.items _ c.args.name.now _ _ c.args.new c.args.old (places_of m.slots)
    c.in_ok-set_root.ensures.ok (sym c.requires.root ∙ roots_here m c.args.name.now) c.in_ok-key.ensures.ok c.in_ok-undo.ensures.ok c.push_reserved.ensures.items m.kept

pub invariant_of-self-2-clause-below : goal.invariant_of-self-2-clause-below
invariant_of-self-2-clause-below c = log_below _ _ _ _ _ c.push_reserved.ensures.items refl c.args.self.now.below
