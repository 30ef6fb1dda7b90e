-- Of Lists, for proofs. The lists at the beginnings of a key, and what becomes of the queues of a list.
use Rattle.std.specs.Prelude.{ℕ, zero, suc, ◌-◌, nat_eq, not, Bool, true, false, List, [], ◌∷◌, ◌++◌, take, length, Option, Some, None, option_map, if◌then◌else◌}
use Rattle.std.specs.List.{filter}
use Rattle.sled_nodes.specs.Order.{Key}
use Rattle.sled_model.specs.declared.event.Event.{Event}
use Rattle.sled_queues.specs.Values.{WaitingValue, Waitings}
use Rattle.sled_queues.specs.Tells.{waits_for}
use Rattle.sled_queues.specs.Lists.{is_in}

-- the list without the number
abbrev pub without : ℕ → List ℕ → List ℕ
without n ns = filter (λ m. not (nat_eq m n)) ns

-- the lists at so many beginnings of a key, the shortest first
abbrev pub at_beginnings : (Key → List ℕ) → Key → ℕ → List ℕ
at_beginnings lists key zero = []
at_beginnings lists key (suc n) = at_beginnings lists key n ++ lists (take n key)

-- the queue, if there is one, waits for the key of the tree
abbrev pub waits_in : ℕ → Key → Option WaitingValue → Bool
waits_in tree key None = false
waits_in tree key (Some w) = waits_for tree key w

abbrev pub has_some : List ℕ → Bool
has_some [] = false
has_some (n ∷ ns) = true

-- the queue of a number is changed, if there is one; and those of all numbers in a list
abbrev pub changed_at : (WaitingValue → WaitingValue) → ℕ → Waitings → Waitings
changed_at f k queues n = if nat_eq n k then option_map f (queues n) else queues n

abbrev pub changed_in : (WaitingValue → WaitingValue) → List ℕ → Waitings → Waitings
changed_in f ns queues n = if is_in n ns then option_map f (queues n) else queues n

-- the event is prepared, or the last one that was prepared goes again
abbrev pub gains : Event → WaitingValue → WaitingValue
gains e w = record w { coming = w.coming ++ e ∷ [] }

abbrev pub loses : WaitingValue → WaitingValue
loses w = record w { coming = take (length w.coming - 1) w.coming }
