use Rattle.sled.proofs.Reopening.{left_is_well, left_is_calm}
use Rattle.test_examples.proofs.stores.has_kept.Goals as goal

pub open-requires-clause-well : goal.open-requires-clause-well
open-requires-clause-well g c = λ κs. left_is_well _ _ _ c.crash-left.ensures c.into_pages.ensures.safe

pub open-requires-clause-no_group : goal.open-requires-clause-no_group
open-requires-clause-no_group g c = λ κs. left_is_calm _ _ _ c.crash-left.ensures
