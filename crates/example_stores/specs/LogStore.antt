-- What a store that keeps a list of all that was done means.
use Rattle.std.specs.Prelude.{ℕ, Bool, true, List, length, take, drop}
use Rattle.sled_store.specs.Store.{Store}
use Rattle.example_stores.specs.declared.log_pages.LogPages.{LogPages}
use Rattle.example_stores.specs.declared.log_pages.Logged.{Logged}
use Rattle.example_stores.specs.Log.{actions_of, state_after, up_to, below}

-- the base is the result of the flushed ones, and the others are recent
abbrev pub meaning : List Logged → ℕ → ℕ → ℕ → ℕ → ℕ → ℕ → Bool → Store
meaning log flushed actions last next faults mark recovered = record {
  base = state_after (take flushed log);
  recent = actions_of (drop flushed log);
  actions = actions;
  faults = faults;
  is_readable = λ _. true;
  mark = mark;
  recovered = recovered;
  pids = up_to last;
  versions = below next;
}

abbrev pub store_of : LogPages → Store
store_of m = meaning m.log.items m.flushed m.actions m.last_pid m.next_version m.faults m.mark m.recovered

-- a flush answers how many actions it makes durable
abbrev pub flush_number_of : LogPages → ℕ
flush_number_of m = length (store_of m).recent
