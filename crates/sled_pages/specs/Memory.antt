-- What a store in memory means.
use Rattle.std.specs.Prelude.{ℕ, Option, option_map, Bool, List, None, true, false, not, [], length, nat_eq, nat_lt}
use Rattle.std.specs.List.{list_any}
use mathlib.Core.List.{reverse}
use Rattle.sled_pages.specs.declared.memory.MemPages.{MemPages}
use Rattle.sled_pages.specs.declared.memory.undo.Undo.{Undo}
use Rattle.sled_pages.specs.declared.memory.slots.Slot.{Slot}
use Rattle.sled_pages.specs.Parts.{Parts}
use Rattle.sled_store.specs.Store.{Store}
use Rattle.sled_pages.specs.Slots.{slots_of, given_of}
use Rattle.sled_store.specs.Roots.{roots_of}
use Rattle.sled_pages.specs.Table.{Table, state_of, base_of, recent_of}

abbrev pub table_of : MemPages → Table
table_of m = record { slots = slots_of m.slots; roots = roots_of m.roots.items; in_group = m.in_group }

-- the state at the last flush is the one before all that the log has, and the versions that were given are those below the next one
abbrev pub meaning : Table → List Undo → ℕ → ℕ → List ℕ → ℕ → Bool → (ℕ → Bool) → ℕ → Store
meaning t log actions faults unreadable mark recovered given next_version = record {
  base = state_of (base_of (reverse log) t);
  recent = recent_of (reverse log) t;
  actions = actions;
  faults = faults;
  is_readable = λ pid. not (list_any (λ p. nat_eq p pid) unreadable);
  mark = mark;
  recovered = recovered;
  pids = given;
  versions = λ v. nat_lt v next_version;
}

abbrev pub store_of : MemPages → Store
store_of m = meaning (table_of m) m.log.items m.actions m.faults m.unreadable.items m.mark m.recovered (given_of m.slots) m.next_version

-- the base and the links of each page
abbrev pub parts_of : MemPages → ℕ → Option Parts
parts_of m pid = option_map (λ (s : Slot). s.page) (slots_of m.slots pid)

-- a flush answers how many actions it makes durable
abbrev pub flush_number_of : MemPages → ℕ
flush_number_of m = length (store_of m).recent

-- the calls that will be refused, by their numbers
abbrev pub calls_refused : MemPages → List ℕ
calls_refused m = m.refused.items

-- a store that has nothing in it, and never gave anything
abbrev pub empty_store : Store
empty_store = record {
  base = record { pages = λ _. None; roots = λ _. None; in_group = false };
  recent = [];
  actions = 0;
  faults = 0;
  is_readable = λ _. true;
  mark = 0;
  recovered = false;
  pids = λ _. false;
  versions = λ _. false;
}
