-- What whole calls reply.
use Rattle.std.proofs.Common.{ℕ, List, sym, subst, inl, inr}
use Rattle.sled_store.specs.Store.{Store}
use Rattle.sled_model.specs.Maps.{Maps, Merge}
use Rattle.sled_model.specs.State.{State}
use Rattle.sled_model.specs.Transition.{Configuration, does_of, transition_as}
use Rattle.sled_model.specs.declared.call.Whole.{Whole}
use Rattle.sled_model.specs.declared.call.Whole.TheVariants.{Flush, PopMin, PopMax, Clear, Group, OpenTree, DropTree, GenerateId, Import, Watch, Next, Unsubscribe}
use Rattle.sled_model.specs.declared.outcome.Outcome.{Outcome}
use Rattle.sled_model.specs.declared.outcome.Outcome.TheVariants as outcome
use Rattle.sled_model.specs.declared.outcome.Step.TheVariants as step
use Rattle.sled_model.specs.declared.reply.Reply.{Reply}
use Rattle.machine_alone.specs.Values.{MachineValue}
use Rattle.machine_shared.specs.Made.{EntryValue, MadeValue}
use Rattle.machine_shared.specs.Replies.{IsReplyTo, RepliesTo}
use Rattle.machine_shared.specs.WholeNotes.{ComesToWhole, NotesWhole}

-- a whole call that is decided has a reply of its kind
reply_as : (a : Configuration) (w : Whole) (reply : Reply) (b : State) (maps : List Maps) → (does_of w).decides a reply b maps → IsReplyTo w reply
reply_as a Flush reply b maps t = (_, t.1)
reply_as a (PopMin tree) reply b maps t = (_, t.replies)
reply_as a (PopMax tree) reply b maps t = (_, t.replies)
reply_as a (Clear tree) reply b maps t = t.0
reply_as a (Group batches) reply b maps t = t.replies
reply_as a (OpenTree name) reply b maps t = (_, _, t.replies)
reply_as a (DropTree name) reply b maps t = (_, t.replies)
reply_as a GenerateId reply b maps t = (_, t.replies)
reply_as a (Import collections) reply b maps t = t.0
reply_as a (Watch tree prefix) reply b maps t = (t.0, t.1)
reply_as a (Next subscriber) reply b maps t = (t.0, t.1)
reply_as a (Unsubscribe subscriber) reply b maps t = t.0

replies_as : (a b : Configuration) (w : Whole) (o : Outcome) (maps : List Maps) → transition_as a (step.Whole w) o b maps → RepliesTo w o
replies_as a b w (outcome.Decided reply) maps t = reply_as a w reply b.state maps t
replies_as a b w other maps t = tt

came : {P M : Type 0} (store : P → Store) (number : P → ℕ) (meant : M → Merge) (a b : MachineValue P M) (w : Whole) (o : Outcome) (noted : List MadeValue) → ComesToWhole store number meant a w o b noted → RepliesTo w o
came store number meant a b w o noted (inl d) = replies_as _ _ w o d.step.step.maps d.step.step.step.is
came store number meant a b w o noted (inr c) = subst (RepliesTo w) (sym c.refused) tt

pub whole_replies : {P M : Type 0} (store : P → Store) (number : P → ℕ) (meant : M → Merge) (a b : MachineValue P M) (history longer : List EntryValue) (n : ℕ) (made more : List MadeValue) (w : Whole) (o : Outcome)
    → NotesWhole store number meant a history n made w o b longer more → RepliesTo w o
whole_replies store number meant a b history longer n made more w o t = came store number meant a b w o t.noted t.comes
