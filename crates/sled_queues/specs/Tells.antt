-- What the calls on queues answer.
use Rattle.std.specs.Prelude.{◌≡◌, ℕ, ◌<◌, nat_eq, ◌&&◌, Bool, true, false, Some}
use Rattle.std.specs.List.{starts_with}
use Rattle.sled_nodes.specs.Order.{Key}
use Rattle.sled_nodes.specs.declared.error.Error.{Error}
use Rattle.sled_nodes.specs.declared.error.Error.TheVariants.{Unsupported, NoMemory}
use Rattle.sled_nodes.specs.declared.texts.TheConstants.{NUMBERS_USED_UP}
use Rattle.sled_queues.specs.Values.{WaitingValue, Waitings}

-- the queue waits for what happens to a key of a tree
abbrev pub waits_for : ℕ → Key → WaitingValue → Bool
waits_for tree key w = nat_eq w.tree tree && starts_with nat_eq key w.prefix

-- no queue does
pub record IsUnwatched (tree : ℕ) (key : Key) (queues : Waitings) : Type 0 where
  pub none : (n : ℕ) (w : WaitingValue) → queues n ≡ Some w → waits_for tree key w ≡ false

-- some queue does
pub record IsWatched (tree : ℕ) (key : Key) (queues : Waitings) : Type 0 where
  pub subscriber : ℕ
  pub queue : WaitingValue
  pub there : queues subscriber ≡ Some queue
  pub waits : waits_for tree key queue ≡ true

-- whether some queue waits for what happens to a key of a tree
abbrev pub is_watched_as : ℕ → Key → Waitings → Bool → Type 0
is_watched_as tree key queues true = IsWatched tree key queues
is_watched_as tree key queues false = IsUnwatched tree key queues

-- why no subscriber was added: there was no memory, or the greatest number is given
abbrev pub refuses_watch : ℕ → Error → Type 0
refuses_watch given NoMemory = given < 18446744073709551615
refuses_watch given (Unsupported text) = (text.now ≡ NUMBERS_USED_UP.now) × (given ≡ 18446744073709551615)
refuses_watch given e = ⊥
