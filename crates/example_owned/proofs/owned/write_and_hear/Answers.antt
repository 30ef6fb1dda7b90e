use Rattle.example_owned.proofs.Hearing.{hears_writes, follows_tree}
use Rattle.example_owned.proofs.owned.write_and_hear.Goals as goal

pub returns-clause-hears : goal.returns-clause-hears
returns-clause-hears g c = hears_writes g.P.Pages.store g.P.Pages.flush_number g.M.MergeOperator.meant c.law_hears.ensures _ _ _ _ _ _ _ _ _ _ _ _ _ _ c.put-insert.ensures c.put_both-both.ensures c.put-later.ensures c.next-next.ensures.takes

pub returns-clause-follows : goal.returns-clause-follows
returns-clause-follows g c = follows_tree g.P.Pages.store g.P.Pages.flush_number g.M.MergeOperator.meant c.law_hears.ensures _ _ _ _ _ _ _ _ _ _ _ _ _ _ c.put-insert.ensures c.put_both-both.ensures c.put-later.ensures c.next-next.ensures.takes
