-- Of Orders, for proofs. Pairs that are read one after the other.
use Rattle.std.specs.Prelude.{◌≡◌, true, Bool, List, [], ◌∷◌, Option, Some, None, Ok, Err, Result}
use Rattle.sled_nodes.specs.Order.{Key}
use Rattle.sled_nodes.specs.declared.error.Error.{Error}
use Rattle.sled_store.specs.Store.{Store}
use Rattle.tree_reads.specs.Ranges.{Coming}
use Rattle.tree_reads.specs.Walk.{RefusesWalk}
use Rattle.machine_shared.specs.Orders.{in_order}
use Rattle.machine_shared.specs.Reads.{pages_walked}
use Rattle.machine_shared.specs.declared.read.Answer.{Answer}
use Rattle.machine_shared.specs.declared.read.Answer.TheVariants.{Pairs}

-- if no more is given nothing is left
abbrev pub Begun : {P : Type 0} → Coming P → Type 0
Begun c = c.ended ≡ true → c.pairs ≡ []

-- the answer is pairs
abbrev pub IsPage : Answer → Type 0
IsPage answer = (pairs : List (Key × Key)) × (answer ≡ Pairs pairs)

-- a walk to more pairs in this direction is refused
abbrev pub StopsWalk : {P : Type 0} → (P → Store) → Bool → Coming P → Error → Type 0
StopsWalk store back c e = RefusesWalk (pages_walked back) (store c.pages) c.root e

-- the next pair in order is given, or there is none, or the read stops
abbrev pub Gives : {P : Type 0} → (P → Store) → Bool → Coming P → Option (Result (Key × Key) Error) → Coming P → Type 0
Gives store back old (Some (Ok pair)) new = (in_order back old.pairs ≡ pair ∷ in_order back new.pairs) × Begun new × (new.pages ≡ old.pages) × (new.root ≡ old.root)
Gives store back old (Some (Err e)) new = StopsWalk store back old e
Gives store back old None new = in_order back old.pairs ≡ []
