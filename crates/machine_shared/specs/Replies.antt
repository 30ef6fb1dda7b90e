-- What whole calls reply, and the errors of calls.
use Rattle.std.specs.Prelude.{◌≡◌, ℕ, List, ◌++◌, None, Ok, Err, Result}
use Rattle.sled_nodes.specs.declared.error.Error.{Error}
use Rattle.sled_model.specs.declared.call.Whole.{Whole}
use Rattle.sled_model.specs.declared.outcome.Outcome.{Outcome}
use Rattle.sled_model.specs.declared.outcome.Outcome.TheVariants as outcome
use Rattle.sled_model.specs.declared.reply.Reply.{Reply}
use Rattle.sled_model.specs.declared.reply.Reply.TheVariants as told
use Rattle.machine_shared.specs.Made.{MadeValue, whole_value}
pub use Rattle.machine_shared.specs.WholeMade.{TellsPair, TellsFlag, TellsNext}
use Rattle.machine_shared.specs.WholeMade.{makes_of}
use Rattle.machine_shared.specs.WholeNotes.{noted_with}
use Rattle.machine_shared.specs.Wholes.{WholeValue}
use Rattle.machine_shared.specs.declared.call_error.CallError.{CallError}
use Rattle.machine_shared.specs.declared.call_error.CallError.TheVariants.{Refused, NoSuchSlot}

-- the kind of reply that a whole call has
abbrev pub IsReplyTo : Whole → Reply → Type 0
IsReplyTo whole reply = (makes_of (whole_value whole)).replies reply

-- a whole call that is decided has such a reply
abbrev pub RepliesTo : Whole → Outcome → Type 0
RepliesTo whole (outcome.Decided reply) = IsReplyTo whole reply
RepliesTo whole o = Unit {0}

-- a call that was refused is added at the end of a list with the parts that it did, if it did any
abbrev pub AddsParts : WholeValue → List MadeValue → List MadeValue → Type 0
AddsParts whole made more = (number : ℕ) × (more ≡ made ++ noted_with whole None number)

-- the error of a call that was refused
abbrev pub IsRefused : CallError → Type 0
IsRefused e = (cause : Error) × (e ≡ Refused cause)

-- how a call came out that ended so
abbrev pub ended_as : Result Reply CallError → Outcome
ended_as (Ok reply) = outcome.Decided reply
ended_as (Err (Refused cause)) = outcome.Refused cause
ended_as (Err NoSuchSlot) = outcome.NoSuchSlot

-- .. if what it returned is told by such a reply
abbrev pub ended_with : {A : Type 0} → (A → Reply) → Result A CallError → Outcome
ended_with tell (Ok answer) = outcome.Decided (tell answer)
ended_with tell (Err (Refused cause)) = outcome.Refused cause
ended_with tell (Err NoSuchSlot) = outcome.NoSuchSlot

-- that a call was done
abbrev pub tell_done : Unit {0} → Reply
tell_done done = told.Done
