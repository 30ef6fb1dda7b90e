-- What is handed back.
use Rattle.std.proofs.Common.{Result, Ok, Err, IfErr}
use Rattle.sled_pages.specs.declared.memory.MemPages.{MemPages}
use Rattle.sled_model.specs.Maps.{Merge}
use Rattle.sled.specs.Values.{DbValue}
use Rattle.example_crashes.specs.Stopping.{stopped_as}
use Rattle.example_crashes.specs.theory.Raised.{is_raised}
use Rattle.example_crashes.specs.declared.way.Stopped.{Stopped}
use Rattle.example_crashes.specs.declared.way.Stopped.TheVariants.{Unshared, Unraised, Uncrashed, Unfound}

after_raises : {L M : Type 0} (meant : M → Merge) (db : DbValue MemPages M) (e : Stopped L M) → is_raised e → stopped_as meant db e
after_raises meant db (Unshared left e) h = absurd h
after_raises meant db (Unraised left) h = absurd h
after_raises meant db (Uncrashed left e) h = tt
after_raises meant db (Unfound left) h = h

pub stopped_after : {A L M : Type 0} (meant : M → Merge) (db : DbValue MemPages M) (r : Result A (Stopped L M)) → IfErr r is_raised → IfErr r (stopped_as meant db)
stopped_after meant db (Ok x) h = tt
stopped_after meant db (Err e) h = after_raises meant db e h
