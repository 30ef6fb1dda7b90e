use Rattle.std.proofs.Common.{subst}
use Rattle.example_transactions.specs.theory.Indexed.{TellsFree}
use Rattle.example_transactions.proofs.indexed.put_inside.Goals as goal

pub returns-in-Ok-clause-ok : goal.returns-in-Ok-clause-ok
returns-in-Ok-clause-ok g c = record {
  free = subst (TellsFree g.P.Pages.store c.args.both.now c.args.id.now c.args.email.now) c.if-not-branch.false c.in_ok-is_free.ensures;
  had = c.in_ok-before.ensures.ok;
  between = c.insert.new.self;
  row = c.in_ok-before.ensures.put;
  entry = c.in-Ok.ensures;
}
