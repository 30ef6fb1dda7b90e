use Rattle.std.proofs.Common.{◌≢◌, All}
use Rattle.std.specs.Io.KnownBytes.{Consumes}
use Rattle.line_words.proofs.input.copy_line.Given as goal

-- what is copied was read, and no line end is in it
abbrev pub invariant-loop : goal.invariant-loop
invariant-loop g l = record {
  taken : Consumes (g.R.Read.remaining l.fn.input) (g.R.Read.remaining l.input) l.line.items;
  all : All (λ b. b ≢ 10) l.line.items;
}
