-- Lines: how outcomes are printed.
use Rattle.std.specs.Prelude.{ℕ, true, false, ◌-◌, ◌^◌, min, sum_by, List, [], ◌∷◌, ◌++◌, length, Option, Some, None, Ok, Err, codes, decimal}
use Rattle.std.specs.List.{flat_map}
use Rattle.std.specs.Io.KnownBytes.{Appends, append_known}
use Rattle.sled_nodes.specs.Order.{Key}
use Rattle.sled_nodes.specs.declared.error.Error.{Error}
use Rattle.sled_nodes.specs.declared.error.Error.TheVariants.{CollectionNotFound, Unsupported, ReportableBug, Io, Corruption, NoMemory, Closed}
use Rattle.sled_model.specs.Maps.{Map}
use Rattle.sled_model.specs.declared.call.Call.{Call}
use Rattle.sled_model.specs.declared.call.Call.TheVariants.{Get, Insert, Remove, CompareAndSwap, Merge, Scan}
use Rattle.sled_model.specs.declared.call.Whole.{Whole}
use Rattle.sled_model.specs.declared.call.Whole.TheVariants as whole
use Rattle.sled_model.specs.declared.event.Event.{Event}
use Rattle.sled_model.specs.declared.event.Event.TheVariants as event
use Rattle.sled_model.specs.declared.event.Next.{Next}
use Rattle.sled_model.specs.declared.event.Next.TheVariants as told
use Rattle.sled_model.specs.declared.reply.Reply.{Reply}
use Rattle.sled_model.specs.declared.reply.Reply.TheVariants.{Value, Swapped, Number, Done, Pair, Tree, Flag, Subscriber}
use Rattle.sled_model.specs.declared.reply.Reply.TheVariants as reply
use Rattle.sled_model.specs.declared.reply.CompareAndSwapError.{CompareAndSwapError}
use Rattle.sled_model.specs.declared.outcome.Outcome.{Outcome}
use Rattle.sled_model.specs.declared.outcome.Outcome.TheVariants.{Begun, Moved, Yielded, Decided, Refused, Abandoned, NoSuchSlot}
use Rattle.line_words.specs.Words.{printed, word_of}
use Rattle.line_words.specs.declared.print.Piece.{Piece}
use Rattle.line_words.specs.declared.print.Piece.TheVariants as piece
use Rattle.line_words.specs.declared.print.Shown.{Shown}
use Rattle.line_words.specs.declared.print.Shown.TheVariants as shown

-- each line ends so
abbrev pub end : List ℕ
end = 10 ∷ []

abbrev pub piece_text : Piece → List ℕ
piece_text (piece.Text text) = text.now
piece_text (piece.Number n) = decimal n
piece_text (piece.Word bytes) = printed bytes.now

-- a get shows the value that is there and a merge the new one, an insert and a removal the one that was there; a swap and a scan reply no
-- such value
abbrev pub shown_of : Call → Shown
shown_of (Get key) = shown.Value
shown_of (Insert key value) = shown.Old
shown_of (Remove key) = shown.Old
shown_of (CompareAndSwap key old new) = shown.Value
shown_of (Merge key bytes) = shown.Value
shown_of (Scan lo hi back) = shown.Value

-- the number in the reply to a whole call is an id, or counts what a flush made durable
abbrev pub shown_of_whole : Whole → Shown
shown_of_whole whole.GenerateId = shown.Number
shown_of_whole made = shown.Value

abbrev pub name_of : Shown → List ℕ
name_of shown.Old = codes "old "
name_of show = codes "value "

abbrev pub number_name_of : Shown → List ℕ
number_name_of shown.Number = codes "number "
number_name_of show = codes "flushed "

-- a value that was not swapped: the one that is there, and the one that was to be set
abbrev pub conflict_line : CompareAndSwapError → List ℕ
conflict_line conflict = codes "conflict " ++ word_of conflict.current ++ codes " " ++ word_of conflict.proposed ++ end

-- a pair that was taken out, or that a scan gave
abbrev pub entry_line : Key → Key → List ℕ
entry_line key value = codes "pair " ++ printed key ++ codes " " ++ printed value ++ end

abbrev pub tree_line : Key → List ℕ
tree_line name = codes "tree " ++ printed name ++ end

abbrev pub subscriber_line : ℕ → List ℕ
subscriber_line n = codes "subscriber " ++ decimal n ++ end

abbrev pub event_line : Event → List ℕ
event_line (event.Insert key value) = codes "event insert " ++ printed key ++ codes " " ++ printed value ++ end
event_line (event.Remove key) = codes "event remove " ++ printed key ++ end

-- what a subscriber got: nothing, an event, or how many it missed
abbrev pub next_line : Option Next → List ℕ
next_line None = codes "event -" ++ end
next_line (Some (told.Event taken)) = event_line taken
next_line (Some (told.Missed count)) = codes "event missed " ++ decimal count ++ end

abbrev pub reply_line : Shown → Reply → List ℕ
reply_line show (Value bytes) = name_of show ++ word_of bytes ++ end
reply_line show (Swapped (Ok done)) = codes "swapped" ++ end
reply_line show (Swapped (Err conflict)) = conflict_line conflict
reply_line show (Number n) = number_name_of show ++ decimal n ++ end
reply_line show reply.End = codes "end" ++ end
reply_line show Done = codes "done" ++ end
reply_line show (Pair (Some pair)) = entry_line pair.0 pair.1
reply_line show (Pair None) = codes "pair -" ++ end
reply_line show (Tree tree) = tree_line tree.name
reply_line show (Flag true) = codes "yes" ++ end
reply_line show (Flag false) = codes "no" ++ end
reply_line show (Subscriber n) = subscriber_line n
reply_line show (reply.Next next) = next_line next

-- errors are numbered in the order of their variants; 7 was the number of one that is no more
abbrev pub error_number : Error → ℕ
error_number (CollectionNotFound name) = 1
error_number (Unsupported text) = 2
error_number (ReportableBug text) = 3
error_number (Io fault) = 4
error_number (Corruption fault) = 5
error_number NoMemory = 6
error_number Closed = 8

abbrev pub refused_line : Error → List ℕ
refused_line e = codes "refused E" ++ decimal (error_number e) ++ end

abbrev pub slot_line : ℕ → List ℕ
slot_line n = codes "slot " ++ decimal n ++ end

abbrev pub outcome_line : Shown → Outcome → List ℕ
outcome_line show (Begun slot) = slot_line slot
outcome_line show Moved = codes "moved" ++ end
outcome_line show (Yielded key value) = entry_line key value
outcome_line show (Decided reply) = reply_line show reply
outcome_line show (Refused e) = refused_line e
outcome_line show Abandoned = codes "abandoned" ++ end
outcome_line show NoSuchSlot = codes "no slot" ++ end

-- a pair of a dump, behind the name of its tree
abbrev pub pair_line : Key → Key → Key → List ℕ
pair_line tree key value = codes "pair " ++ printed tree ++ codes " " ++ printed key ++ codes " " ++ printed value ++ end

abbrev pub end_line : ℕ → List ℕ
end_line n = codes "end " ++ decimal n ++ end

-- the lines of a collection's pairs: of its type, its name and its map
abbrev pub collection_lines : Key × Key × Map → List ℕ
collection_lines c = flat_map (λ pair. pair_line c.1 pair.0 pair.1) c.2

-- all pairs, and how many there are: a count past 64 bits stops at the greatest number
abbrev pub dump_text : List (Key × Key × Map) → List ℕ
dump_text all = flat_map collection_lines all ++ end_line (min (sum_by (λ c. length c.2) all) (2 ^ 64 - 1))

abbrev pub recovered_line : List ℕ
recovered_line = codes "recovered" ++ end

abbrev pub bad_line : ℕ → List ℕ
bad_line n = codes "bad line " ++ decimal n ++ end

-- These bytes came behind those that a writer holds and those gathered for it, if the former are known
pub record Prints (held : Option (List ℕ)) (gathered : List ℕ) (held_then : Option (List ℕ)) (gathered_then : List ℕ) (bytes : List ℕ) : Type 0 where
  pub is : Appends (append_known held gathered) (append_known held_then gathered_then) bytes
