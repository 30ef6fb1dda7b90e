-- Of Session, for proofs. A session: what a command does to its machine, and what is printed.
use Rattle.std.specs.Prelude.{◌≡◌, ℕ, List, ◌++◌}
use Rattle.sled_store.specs.Store.{Store}
use Rattle.sled_model.specs.Maps.{Merge}
use Rattle.sled_model.specs.declared.outcome.Outcome.{Outcome}
use Rattle.line_words.specs.Print.{outcome_line}
use Rattle.line_sessions.specs.Session.{slot_at, acts_at, performs, current_after}
use Rattle.line_words.specs.declared.command.Command.{Command}
use Rattle.line_words.specs.declared.print.Shown.{Shown}
use Rattle.line_sessions.specs.declared.session.Act.{Act}
use Rattle.line_sessions.specs.declared.session.Session.{Session}

-- a command came out so, and the line of it is gathered
pub record Shows {P M : Type 0} (store : P → Store) (flush_number : P → ℕ) (meant : M → Merge) (old : Session P M) (c : Command) (new : Session P M) (gathered gathered_then : List ℕ) : Type 0 where
  pub show : Shown
  pub outcome : Outcome
  pub performs : performs store flush_number meant old c show outcome new
  pub tree : new.tree ≡ current_after c old.tree outcome
  pub line : gathered_then ≡ gathered ++ outcome_line show outcome

-- something is done with the call in the slot of a number, and the line of how it came out is gathered
pub record ActsAndShows {P M : Type 0} (store : P → Store) (flush_number : P → ℕ) (meant : M → Merge) (old : Session P M) (act : Act) (n : ℕ) (new : Session P M) (gathered gathered_then : List ℕ) : Type 0 where
  pub show : Shown
  pub outcome : Outcome
  pub acts : acts_at store flush_number meant old.machine act (slot_at old.slots.items n) show outcome new.machine
  pub tree : new.tree ≡ old.tree
  pub slots : new.slots ≡ old.slots
  pub line : gathered_then ≡ gathered ++ outcome_line show outcome
