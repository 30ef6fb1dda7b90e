use Rattle.std.proofs.Common.{◌≡◌, [], Some, IfSome}
use Rattle.line_sessions.specs.Serve.{bad_left, Place, place, RunsFrom}
use Rattle.line_sessions.specs.declared.lines.End.{End}
use Rattle.line_sessions.proofs.lines.run_lines.Given as goal

-- nothing is gathered, the first bad line is still to be read, and whoever runs the lines to come has run all
abbrev pub invariant-loop : goal.invariant-loop
invariant-loop g l = record {
  written : l.buffers.out.items ≡ [];
  bad : IfSome (bad_left l.fn.buffers.number (g.R.Read.remaining l.fn.input)) (λ bad. bad_left l.buffers.number (g.R.Read.remaining l.input) ≡ Some bad);
  runs : (e : End) (last : _) (there : Place) → RunsFrom g.P.Pages.store g.P.Pages.flush_number g.M.MergeOperator.meant l.session (place l.buffers (g.R.Read.remaining l.input) (g.W.Write.contents l.output)) e last there
      → RunsFrom g.P.Pages.store g.P.Pages.flush_number g.M.MergeOperator.meant l.fn.session (place l.fn.buffers (g.R.Read.remaining l.fn.input) (g.W.Write.contents l.fn.output)) e last there;
}
