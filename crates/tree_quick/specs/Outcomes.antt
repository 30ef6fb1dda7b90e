-- The outcome of a call that is made at once.
use Rattle.std.specs.Prelude.{Result, Ok, Err}
use Rattle.sled_nodes.specs.declared.error.Error.{Error}
use Rattle.sled_model.specs.declared.reply.Reply.{Reply}
use Rattle.sled_tree.specs.declared.flight.Went.{Went}
use Rattle.sled_tree.specs.declared.flight.Went.TheVariants.{Decided, Refused}

-- how its last step comes out, as one of a call in flight
abbrev pub went_of : Result Reply Error → Went
went_of (Ok reply) = Decided reply
went_of (Err e) = Refused e
