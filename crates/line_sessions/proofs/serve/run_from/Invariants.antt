use Rattle.std.proofs.Common.{◌≡◌, Bool, false, [], Some, IfSome}
use Rattle.sled_store.specs.Store.{now}
use Rattle.sled_pages.specs.Memory.{store_of, empty_store}
use Rattle.tree_laws.specs.Crashes.{IsValid}
use Rattle.line_sessions.specs.Serve.{bad_left}
use Rattle.line_sessions.specs.theory.Serve.{ServesFrom}
use Rattle.line_sessions.specs.Serve.{Place, place}
use Rattle.line_sessions.proofs.serve.run_from.Given as goal

-- the pages can be opened, the first bad line is still to be read, all that was printed is written, and whoever serves the lines to come
-- has served all
abbrev pub invariant-loop : goal.invariant-loop
invariant-loop g l = record {
  well : IsValid (now (store_of l.pages));
  no_group : (now (store_of l.pages)).in_group ≡ false;
  bad : IfSome (bad_left l.fn.buffers.number (g.R.Read.remaining l.fn.input)) (λ bad. bad_left l.buffers.number (g.R.Read.remaining l.input) ≡ Some bad);
  written : l.buffers.out.items ≡ [];
  serves : (read : Bool) (there : Place) → ServesFrom (store_of l.pages) (place l.buffers (g.R.Read.remaining l.input) (g.W.Write.contents l.output)) read there
      → ServesFrom empty_store (place l.fn.buffers (g.R.Read.remaining l.fn.input) (g.W.Write.contents l.fn.output)) read there;
}
