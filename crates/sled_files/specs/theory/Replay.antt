-- A store that is replayed from the changes of a file.
use Rattle.std.specs.Prelude.{◌≡◌, ◌≤◌, ◌<◌, ◌+◌, false, ◌^◌, ℕ, max, List, [], ◌∷◌, Result, Ok, Err}
use Rattle.std.specs.List.{All}
use Rattle.sled_bytes.specs.declared.change.Change.{Change}
use Rattle.sled_bytes.specs.declared.change.Change.TheVariants.{Given, Linked}
use Rattle.sled_bytes.specs.declared.refusal.Flaw.{Flaw}
use Rattle.sled_bytes.specs.Reading.{Read}
use Rattle.sled_pages.specs.Rebuild.{rebuilt_of}
use Rattle.sled_files.specs.declared.replay.Replay.{Replay}
use Rattle.sled_files.specs.declared.replay.Halt.{Halt}
use Rattle.sled_files.specs.declared.replay.Halt.TheVariants.{NoMemory, Flawed}
use Rattle.sled_files.specs.Change.{Durable, nothing_yet, changed_all}

-- what was replayed so far
abbrev pub replayed_of : Replay → Durable
replayed_of r = record {
  state = record { pages = (rebuilt_of r.rebuild).pages; roots = (rebuilt_of r.rebuild).roots; in_group = r.in_group };
  mark = r.mark;
  pids = r.pids;
  versions = r.versions;
}

-- the greatest number that a page was given, and the version above all that were
abbrev pub Numbers : Type 0
Numbers = ℕ × ℕ

abbrev pub numbers_of : Replay → Numbers
numbers_of r = ((rebuilt_of r.rebuild).last, (rebuilt_of r.rebuild).next)

abbrev pub numbers_after : Change → Numbers → Numbers
numbers_after (Given pid version node) n = (max n.0 pid, max n.1 (version + 1))
numbers_after (Linked pid version link) n = (n.0, max n.1 (version + 1))
numbers_after _ n = n

abbrev pub numbers_after_all : List Change → Numbers → Numbers
numbers_after_all [] n = n
numbers_after_all (c ∷ changes) n = numbers_after_all changes (numbers_after c n)

-- the page has a number, and the version one that comes after it
abbrev pub HasPlace : Change → Type 0
HasPlace (Given pid version node) = (0 < pid) × (version + 1 < 2 ^ 64)
HasPlace (Linked pid version link) = (0 < pid) × (version + 1 < 2 ^ 64)
HasPlace _ = Unit {0}

-- why a change is not replayed
abbrev pub is_why_halted : Halt → Change → Type 0
is_why_halted NoMemory change = Unit {0}
is_why_halted Flawed change = HasPlace change → ⊥

-- why a change is not read
abbrev pub is_why_unread : Halt → Read Change → Type 0
is_why_unread NoMemory read = Unit {0}
is_why_unread Flawed read = (flaw : Flaw) × (read ≡ Err flaw)

-- changes were replayed, each of which a store can have made
pub record Replays (changes : List Change) (old new : Replay) : Type 0 where
  pub made : replayed_of new ≡ changed_all changes (replayed_of old)
  pub numbers : numbers_of new ≡ numbers_after_all changes (numbers_of old)
  pub placed : All HasPlace changes

-- the changes that were read were replayed
pub record ReplaysRead (read : Result (List Change) Flaw) (old new : Replay) : Type 0 where
  pub changes : List Change
  pub is : read ≡ Ok changes
  pub replays : Replays changes old new

-- changes that were read were replayed from nothing
pub record IsReplay (read : Result (List Change) Flaw) (r : Replay) : Type 0 where
  pub changes : List Change
  pub is : read ≡ Ok changes
  pub made : replayed_of r ≡ changed_all changes nothing_yet
  pub numbers : numbers_of r ≡ numbers_after_all changes (0, 0)
  pub placed : All HasPlace changes

-- why changes that were read are not replayed: for memory, or as they are none that a store can have made
abbrev pub halts : Halt → Result (List Change) Flaw → Type 0
halts NoMemory read = Unit {0}
halts Flawed read = (changes : List Change) → read ≡ Ok changes → All HasPlace changes → ⊥

-- the numbers are below the limits
pub record AreBelow (n : Numbers) (d : Durable) : Type 0 where
  pub pids : 0 < n.0 → n.0 < d.pids
  pub versions : n.1 ≤ d.versions

-- what was replayed is a store: no group is open, and its numbers are below the limits
pub record IsWhole (r : Replay) : Type 0 where
  pub sealed : r.in_group ≡ false
  pub fits : r.versions < 2 ^ 64
  pub below : AreBelow (numbers_of r) (replayed_of r)
