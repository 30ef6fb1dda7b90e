-- What a step notes: an entry in the history, and the same in the list of its caller.
use Rattle.std.specs.Prelude.{◌≡◌, ℕ, List, [], ◌∷◌, ◌++◌, map, Option, Some, None}
use Rattle.sled_nodes.specs.Ranges.{Range}
use Rattle.sled_nodes.specs.declared.error.Error.TheVariants.{Closed}
use Rattle.sled_model.specs.State.{CallInFlight, range_of}
use Rattle.sled_model.specs.declared.outcome.Outcome.{Outcome}
use Rattle.sled_model.specs.declared.outcome.Outcome.TheVariants.{Begun, Decided, Refused, Abandoned, NoSuchSlot}
use Rattle.sled_model.specs.declared.call.Call.{Call}
use Rattle.sled_model.specs.declared.tree.Tree.{Tree}
use Rattle.sled_model.specs.declared.reply.Reply.{Reply}
use Rattle.sled_model.specs.declared.reply.Reply.TheVariants.{End}
use Rattle.machine_shared.specs.Made.{MadeValue, PointMade, EntryValue}

-- a call on a key that is decided is noted with its reply, and a scan is not
abbrev pub noted_as : Option Range → Tree → Call → Reply → List MadeValue
noted_as None tree call reply = PointMade tree call reply ∷ []
noted_as (Some range) tree call reply = []

-- what a step notes of the call in its slot: nothing, unless it is decided
abbrev pub noted_in : Outcome → Option CallInFlight → List MadeValue
noted_in (Decided reply) (Some f) = noted_as (range_of f.call) f.tree f.call reply
noted_in (Decided reply) None = []
noted_in o slot = []

-- the same as entries of the caller of this number
abbrev pub entries_of : ℕ → List MadeValue → List EntryValue
entries_of n made = map (λ m. record { by = n; made = m }) made

-- what is noted of this call on a key: the call with its reply if it is decided, and else nothing
abbrev pub noted_of : Outcome → Tree → Call → List MadeValue
noted_of (Decided reply) tree call = PointMade tree call reply ∷ []
noted_of o tree call = []

-- a reply, but that of a scan that has ended, is added at the end of a list with some call
abbrev pub AddsReply : Reply → List MadeValue → List MadeValue → Type 0
AddsReply End made more = more ≡ made
AddsReply reply made more = (tree : Tree) × (call : Call) × (more ≡ made ++ PointMade tree call reply ∷ [])

-- a step that returns a reply adds it to a list, and any other adds nothing. No step begins a call or abandons one
abbrev pub AddsStep : Outcome → List MadeValue → List MadeValue → Type 0
AddsStep (Decided reply) made more = AddsReply reply made more
AddsStep (Begun slot) made more = ⊥
AddsStep Abandoned made more = ⊥
AddsStep o made more = more ≡ made

-- a call ends with a reply, with a refusal, or because another caller ended its slot
abbrev pub IsEnd : Outcome → Type 0
IsEnd (Decided reply) = Unit {0}
IsEnd (Refused e) = Unit {0}
IsEnd NoSuchSlot = Unit {0}
IsEnd o = ⊥

-- a call is abandoned, or the slot has none, or the database was taken out of its lock
abbrev pub IsGivenUp : Outcome → Type 0
IsGivenUp Abandoned = Unit {0}
IsGivenUp NoSuchSlot = Unit {0}
IsGivenUp (Refused Closed) = Unit {0}
IsGivenUp o = ⊥
