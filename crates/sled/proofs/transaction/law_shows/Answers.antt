use Rattle.sled.proofs.Transacting.{shows, shows_at, refuses_to_show, refuses_to_show_at}
use Rattle.sled.proofs.transaction.law_shows.Goals as goal

pub returns-clause-tree : goal.returns-clause-tree
returns-clause-tree g c = shows g.P.Pages.store g.M.MergeOperator.meant

pub returns-clause-list : goal.returns-clause-list
returns-clause-list g c = shows_at g.P.Pages.store g.M.MergeOperator.meant

pub returns-clause-tree_refused : goal.returns-clause-tree_refused
returns-clause-tree_refused g c = refuses_to_show g.P.Pages.store g.M.MergeOperator.meant

pub returns-clause-list_refused : goal.returns-clause-list_refused
returns-clause-list_refused g c = refuses_to_show_at g.P.Pages.store g.M.MergeOperator.meant
