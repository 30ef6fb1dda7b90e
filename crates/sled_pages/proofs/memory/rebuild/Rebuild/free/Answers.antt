use Rattle.std.proofs.Common.{◌≡◌, ℕ, ◌<◌, ◌∙◌, arith}
use Rattle.sled_store.specs.Roots.{roots_of}
use Rattle.sled_pages.specs.Blocks.{lies_of}
use Rattle.sled_pages.proofs.Rebuilding.{free_is, free_builds}
use Rattle.sled_pages.proofs.memory.rebuild.Rebuild.free.Goals as goal

-- numbers begin at 1
some_number : (pid q : ℕ) → q ≡ pid → (q ≡ 0 → ⊥) → 0 < pid
some_number pid q e h = grind arith

pub invariant_of-self : goal.invariant_of-self
invariant_of-self c = let m = c.args.self.now in
    record { building = free_builds (lies_of m.pages) (lies_of c.let_go.new.self) m.roots.items c.place_of-place.result m.last m.next_version (c.let_go.ensures ∙ c.take_at-before.ensures.slots) m.building }

pub returns : goal.returns
returns c = let m = c.args.self.now in
    free_is (lies_of m.pages) (lies_of c.take_at-before.new.pages) (lies_of c.let_go.new.self) (roots_of m.roots.items) c.place_of-place.result c.args.pid m.last m.next_version (some_number c.args.pid c.pid.inside.0 c.pid.view_is c.if-pid-eq0.false) c.place_of-place.ensures c.take_at-before.ensures.slots c.let_go.ensures
