-- A number at a key that threads raise by one: each reads it, and swaps it for the next.
use Rattle.std.specs.Prelude.{◌≡◌, ◌⊎◌, ℕ, ◌+◌, ◌≤◌, length, sum_by, count_by, List, [], ◌∷◌, ◌++◌, map, Bool, true, false, Option, Some, None, Ok, All, if◌then◌else◌}
use Rattle.std.specs.List.{AllByRecursion}
use Rattle.std.specs.Option.{option_to_list}
use Rattle.sled_nodes.specs.Order.{Key}
use Rattle.sled_batch.specs.Batch.{Writes}
use Rattle.sled_store.specs.Store.{Store}
use Rattle.sled_model.specs.Maps.{Maps}
use Rattle.sled_model.specs.declared.call.Call.TheVariants.{Get, CompareAndSwap}
use Rattle.sled_model.specs.declared.outcome.Outcome.{Outcome}
use Rattle.sled_model.specs.declared.outcome.Outcome.TheVariants.{Decided}
use Rattle.sled_model.specs.declared.reply.Reply.TheVariants.{Swapped}
use Rattle.sled_model.specs.declared.tree.Tree.{Tree}
use Rattle.machine_shared.specs.Crashes.{LeadsThrough}
use Rattle.machine_shared.specs.Gathered.{IsMadeIn, IsOfGiven, EachOnce}
use Rattle.machine_shared.specs.History.{IsLegal, maps_from}
use Rattle.machine_shared.specs.Made.{MadeValue, PointMade, WholeMade, TransactionMade, EntryValue}
use Rattle.machine_shared.specs.Sound.{maps_now}
use Rattle.machine_shared.specs.Values.{CallerValue, StateValue}
use Rattle.machine_shared.specs.Wholes.{Flush}
use Rattle.example_parts.specs.Counters.{number_in}
use Rattle.example_shared.specs.Places.{value_at, made_in, is_at, Leaves}
use Rattle.example_shared.specs.declared.raising.Raised.{Raised}
use Rattle.example_shared.specs.declared.raising.Raised.TheVariants.{To, Overtaken}

-- A transaction that sets one key, and writes nothing else, is a swap that succeeded: its tree, the key, what was there, and the value
abbrev pub sole_swap : List (Tree × Writes) → List (Option Key) → Option (Tree × Key × Option Key × Key)
sole_swap ((tree, (key, Some value) ∷ []) ∷ []) (stood ∷ []) = Some (tree, key, stood, value)
sole_swap batches stood = None

abbrev pub is_sole_at : Key → Key → Option (Tree × Key × Option Key × Key) → Type 0
is_sole_at tree key None = ⊥
is_sole_at tree key (Some s) = (s.0.name ≡ tree) × (s.1 ≡ key)

-- a swap at the key, whatever it replied
abbrev pub IsSwapAt : Key → Key → MadeValue → Type 0
IsSwapAt tree key (PointMade t (CompareAndSwap k old new) reply) = (t.name ≡ tree) × (k ≡ key)
IsSwapAt tree key (TransactionMade batches stood) = is_sole_at tree key (sole_swap batches stood)
IsSwapAt tree key m = ⊥

abbrev pub swapped_alone : Key → Key → Option (Tree × Key × Option Key × Key) → List (Option Key × Option Key)
swapped_alone tree key None = []
swapped_alone tree key (Some s) = if is_at tree key s.0 s.1 then ((s.2, Some s.3) ∷ []) else []

-- a swap at the key that succeeded: the value that it found, and the one that it wrote
abbrev pub swapped_by : Key → Key → MadeValue → List (Option Key × Option Key)
swapped_by tree key (PointMade t (CompareAndSwap k old new) (Swapped (Ok done))) = if is_at tree key t k then ((old, new) ∷ []) else []
swapped_by tree key (TransactionMade batches stood) = swapped_alone tree key (sole_swap batches stood)
swapped_by tree key m = []

-- the swaps at the key that succeeded, in order
abbrev pub swapped : Key → Key → List MadeValue → List (Option Key × Option Key)
swapped tree key [] = []
swapped tree key (m ∷ made) = swapped_by tree key m ++ swapped tree key made

-- each found what the one before it wrote, the first found this value, and that is what the last wrote
abbrev pub Follow : Option Key → List (Option Key × Option Key) → Option Key → Type 0
Follow first [] last = last ≡ first
Follow first (swap ∷ swaps) last = (swap.0 ≡ first) × Follow swap.1 swaps last

-- No update is lost, of a legal history in which each call is a swap at the key, or leaves what is there
abbrev pub SwapsLaw : Type 0
SwapsLaw = (old new : Maps) (tree key : Key) (history : List EntryValue) → IsLegal old history new
    → AllByRecursion (λ m. IsSwapAt tree key m ⊎ Leaves tree key m) (made_in history) → Follow (value_at old tree key) (swapped tree key (made_in history)) (value_at new tree key)

-- a number for the one above it
abbrev pub IsRaise : Option Key × Option Key → Type 0
IsRaise swap = number_in swap.1 ≡ number_in swap.0 + 1

-- .. and if each of those that succeeded raised a number by one, the number is higher by as many as there were
abbrev pub RaisesLaw : Type 0
RaisesLaw = (old new : Maps) (tree key : Key) (history : List EntryValue) → IsLegal old history new
    → AllByRecursion (λ m. IsSwapAt tree key m ⊎ Leaves tree key m) (made_in history) → AllByRecursion IsRaise (swapped tree key (made_in history))
    → number_in (value_at new tree key) ≡ number_in (value_at old tree key) + length (swapped tree key (made_in history))

-- so many swaps of a caller at the key succeeded
abbrev pub swaps_of : Key → Key → CallerValue → ℕ
swaps_of tree key c = length (swapped tree key c.made)

-- the swaps in a history are those of all callers that were gathered
abbrev pub SharesLaw : Type 0
SharesLaw = (tree key : Key) (history : List EntryValue) (given : ℕ) (callers : List CallerValue) → All (IsMadeIn history) callers → EachOnce given callers → All (IsOfGiven given) history
    → length (swapped tree key (made_in history)) ≡ sum_by (swaps_of tree key) callers

abbrev pub is_sole_raise : Tree → Key → Option (Tree × Key × Option Key × Key) → Type 0
is_sole_raise tree key None = ⊥
is_sole_raise tree key (Some s) = (s.0 ≡ tree) × (s.1 ≡ key) × IsRaise (s.2, Some s.3)

-- a part of a raise: a read of the key, or a swap of a number there for the one above it, whatever they replied
abbrev pub is_part : Tree → Key → MadeValue → Type 0
is_part tree key (PointMade t (Get k) reply) = (t ≡ tree) × (k ≡ key)
is_part tree key (PointMade t (CompareAndSwap k old new) reply) = (t ≡ tree) × (k ≡ key) × IsRaise (old, new)
is_part tree key (TransactionMade batches stood) = is_sole_raise tree key (sole_swap batches stood)
is_part tree key m = ⊥

-- a caller made nothing but parts of raises
abbrev pub OnlyRaises : Tree → Key → CallerValue → Type 0
OnlyRaises tree key c = AllByRecursion (is_part tree key) c.made

-- No raise is lost: if all callers that were gathered made nothing else, the number is higher by as many as their swaps that succeeded
abbrev pub RaisedLaw : Type 0
RaisedLaw = (old new : Maps) (tree : Tree) (key : Key) (history : List EntryValue) (given : ℕ) (callers : List CallerValue) → IsLegal old history new
    → All (IsMadeIn history) callers → EachOnce given callers → All (IsOfGiven given) history → All (OnlyRaises tree key) callers
    → number_in (value_at new tree.name key) ≡ number_in (value_at old tree.name key) + sum_by (swaps_of tree.name key) callers

-- the number that was written, if one was
abbrev pub raised_to : Raised → Option ℕ
raised_to (To n) = Some n
raised_to r = None

-- the number that a swap for it wrote, if it succeeded
abbrev pub swap_wrote : Outcome → ℕ → Option ℕ
swap_wrote (Decided (Swapped (Ok done))) n = Some n
swap_wrote o n = None

-- Parts of raises were added to a list. If this number was written one of the swaps succeeded, and wrote it, and else none did
pub record Raises (tree : Tree) (key : Key) (n : Option ℕ) (made more : List MadeValue) : Type 0 where
  pub added : List MadeValue
  pub adds : more ≡ made ++ added
  pub parts : AllByRecursion (is_part tree key) added
  pub wrote : map (λ s. number_in s.1) (swapped tree.name key added) ≡ option_to_list n

-- if all attempts were overtaken, a list is longer by so many calls, and else by so many at most
abbrev pub calls_made : Raised → ℕ → List MadeValue → List MadeValue → Type 0
calls_made Overtaken n made more = length more ≡ length made + n
calls_made r n made more = length more ≤ length made + n

-- a swap that was overtaken was decided
abbrev pub overtaken_by : Outcome → Raised → Type 0
overtaken_by (Decided reply) r = Unit {0}
overtaken_by o Overtaken = ⊥
overtaken_by o r = Unit {0}

-- nothing but parts of raises was added to a list
pub record RaisesOn (tree : Tree) (key : Key) (made more : List MadeValue) : Type 0 where
  pub added : List MadeValue
  pub adds : more ≡ made ++ added
  pub parts : AllByRecursion (is_part tree key) added

-- a swap that succeeded, or a transaction
abbrev pub has_written : MadeValue → Bool
has_written (PointMade tree (CompareAndSwap key old new) (Swapped (Ok done))) = true
has_written (TransactionMade batches stood) = true
has_written m = false

-- so many swaps of a caller succeeded
pub record HasWritten (times : ℕ) (c : CallerValue) : Type 0 where
  pub is : count_by has_written c.made ≡ times

-- the number at a key of a state's database is by so much higher than it was when the database was shared
abbrev pub StandsHigher : {P M : Type 0} → (P → Store) → Tree → Key → ℕ → StateValue P M → Type 0
StandsHigher store tree key n s = number_in (value_at (maps_now store s.machine) tree.name key) ≡ number_in (value_at (maps_from s.opening.contents) tree.name key) + n

-- a flush
abbrev pub IsFlush : MadeValue → Type 0
IsFlush (WholeMade Flush reply) = Unit {0}
IsFlush m = ⊥

-- .. or a part of a raise
abbrev pub IsPartOrFlush : Tree → Key → MadeValue → Type 0
IsPartOrFlush tree key m = is_part tree key m ⊎ IsFlush m

-- the number at a key of these maps is between two
abbrev pub StandsBetween : Tree → Key → ℕ → ℕ → Maps → Type 0
StandsBetween tree key low high maps = (low ≤ number_in (value_at maps tree.name key)) × (number_in (value_at maps tree.name key) ≤ high)

-- Over a crash no raise comes from nowhere, and none is lost that was flushed. Of a history of parts of raises and of flushes: in what a
-- crash may leave, the number has grown since the beginning by at least as many as succeeded before any of the flushes. It is never above
-- what it is at the end
abbrev pub CrashedLaw : Type 0
CrashedLaw = (old new : Maps) (before left : List Maps) (tree : Tree) (key : Key) (history : List EntryValue) → LeadsThrough old before history new left → AllByRecursion (IsPartOrFlush tree key) (made_in history)
    → (early late : List MadeValue) (flush : MadeValue) → made_in history ≡ early ++ flush ∷ late → IsFlush flush
    → AllByRecursion (StandsBetween tree key (number_in (value_at old tree.name key) + length (swapped tree.name key early)) (number_in (value_at new tree.name key))) left
