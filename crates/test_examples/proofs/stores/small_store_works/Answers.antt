use Rattle.sled.proofs.Reopening.{empty_is_well, empty_is_calm}
use Rattle.test_examples.proofs.stores.small_store_works.Goals as goal

pub open-requires-clause-well : goal.open-requires-clause-well
open-requires-clause-well c = λ κs. empty_is_well _ c.new.ensures

pub open-requires-clause-no_group : goal.open-requires-clause-no_group
open-requires-clause-no_group c = λ κs. empty_is_calm _ c.new.ensures
