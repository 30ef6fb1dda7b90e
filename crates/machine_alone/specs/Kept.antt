-- What is kept of a whole call: copies of its reply beside the one that goes to the caller, and how many parts it did.
use Rattle.std.specs.Prelude.{ℕ, Option}
use Rattle.sled_store.specs.Store.{Store}
use Rattle.sled_model.specs.Maps.{Merge}
use Rattle.sled_model.specs.declared.call.Whole.{Whole}
use Rattle.sled_model.specs.declared.call.Whole.TheVariants.{Next}
use Rattle.sled_model.specs.declared.reply.Reply.{Reply}
use Rattle.sled_model.specs.declared.reply.Reply.TheVariants.{Done}
use Rattle.sled_model.specs.declared.outcome.Outcome.{Outcome}
use Rattle.sled_model.specs.declared.outcome.Outcome.TheVariants.{Decided}
use Rattle.sled.specs.Values.{DbValue}
use Rattle.tree_steps.specs.Outcomes.{kept_of}
use Rattle.machine_alone.specs.Ways.{way_for}

-- how a whole call came out that may be told again: of what a subscriber got next, which is given once, only that it was given
abbrev pub told_again : Whole → Outcome → Outcome
told_again (Next subscriber) (Decided reply) = Decided Done
told_again whole o = o

-- Of a whole call two copies of the reply are kept, as of a step; but what a subscriber got next is not: `Done` is in its place
abbrev pub kept_of_whole : Whole → Outcome → Option (Reply × Reply)
kept_of_whole whole o = kept_of (told_again whole o)

-- A clear and an import did so many parts, decided or not; a call that is not done in parts did none
abbrev pub counts_as : {P M : Type 0} → (P → Store) → (M → Merge) → DbValue P M → Whole → Outcome → ℕ → DbValue P M → Type 0
counts_as store meant old whole o number new = (way_for store meant old whole).counts o number new

pub record CountsParts {P M : Type 0} (store : P → Store) (meant : M → Merge) (old : DbValue P M) (whole : Whole) (o : Outcome) (number : ℕ) (new : DbValue P M) : Type 0 where
  pub is : counts_as store meant old whole o number new
