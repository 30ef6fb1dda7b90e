-- Commands: what a line asks for.
use Rattle.std.specs.Prelude.{ℕ, List, [], ◌∷◌, Option, Some, None, is_some, option_map, codes, if◌then◌else◌}
use Rattle.std.specs.Str.{bytes_eq}
use Rattle.sled_nodes.specs.Order.{Key}
use Rattle.sled_batch.specs.Batch.{Writes}
use Rattle.sled_model.specs.declared.call.Call.{Call}
use Rattle.sled_model.specs.declared.call.Call.TheVariants as call
use Rattle.line_words.specs.Words.{words_of, read_word, read_value, read_number}
use Rattle.line_words.specs.Batch.{batch_of}
use Rattle.line_words.specs.declared.command.Name.{Name}
use Rattle.line_words.specs.declared.command.Name.TheVariants as name
use Rattle.line_words.specs.declared.command.Command.{Command}
use Rattle.line_words.specs.declared.command.Command.TheVariants.{Point, Begin, Step, Finish, Abandon, Batch, Flush, Crash, Dump, OpenTree}

-- the name of a call
abbrev pub call_name_of : List ℕ → Option Name
call_name_of word =
    if bytes_eq word (codes "insert") then Some name.Insert
    else if bytes_eq word (codes "get") then Some name.Get
    else if bytes_eq word (codes "remove") then Some name.Remove
    else if bytes_eq word (codes "cas") then Some name.Cas
    else None

-- the name of a command that is about a call in flight
abbrev pub flight_name_of : List ℕ → Option Name
flight_name_of word =
    if bytes_eq word (codes "begin") then Some name.Begin
    else if bytes_eq word (codes "step") then Some name.Step
    else if bytes_eq word (codes "finish") then Some name.Finish
    else if bytes_eq word (codes "abandon") then Some name.Abandon
    else None

-- the name of another command
abbrev pub other_name_of : List ℕ → Option Name
other_name_of word =
    if bytes_eq word (codes "batch") then Some name.Batch
    else if bytes_eq word (codes "flush") then Some name.Flush
    else if bytes_eq word (codes "crash") then Some name.Crash
    else if bytes_eq word (codes "dump") then Some name.Dump
    else if bytes_eq word (codes "tree") then Some name.Tree
    else None

-- the name of a command
abbrev pub name_of : List ℕ → Option Name
name_of word =
    if is_some (call_name_of word) then call_name_of word
    else if is_some (flight_name_of word) then flight_name_of word
    else other_name_of word

-- the only word of the arguments
abbrev pub one_of : List (List ℕ) → Option (List ℕ)
one_of (word ∷ []) = Some word
one_of arguments = None

-- the two words of the arguments
abbrev pub two_of : List (List ℕ) → Option (List ℕ × List ℕ)
two_of (first ∷ second ∷ []) = Some (first, second)
two_of arguments = None

-- the three words of the arguments
abbrev pub three_of : List (List ℕ) → Option (List ℕ × List ℕ × List ℕ)
three_of (first ∷ second ∷ third ∷ []) = Some (first, second, third)
three_of arguments = None

-- an insert of a key and a value, if there are both
abbrev pub inserts : Option Key → Option Key → Option Call
inserts (Some key) (Some value) = Some (call.Insert key value)
inserts key value = None

abbrev pub insert_of : Option (List ℕ × List ℕ) → Option Call
insert_of (Some words) = inserts (read_word words.0) (read_word words.1)
insert_of None = None

-- what is made of the key, or the name, that is the only word
abbrev pub keyed : {A : Type 0} → (Key → A) → Option (List ℕ) → Option A
keyed make (Some word) = option_map make (read_word word)
keyed make None = None

-- a swap at a key, if there are all three; the values may be none
abbrev pub swaps : Option Key → Option (Option Key) → Option (Option Key) → Option Call
swaps (Some key) (Some old) (Some new) = Some (call.CompareAndSwap key old new)
swaps key old new = None

abbrev pub swap_of : Option (List ℕ × List ℕ × List ℕ) → Option Call
swap_of (Some words) = swaps (read_word words.0) (read_value words.1) (read_value words.2)
swap_of None = None

-- the call of a name and its arguments
abbrev pub call_of : Option Name → List (List ℕ) → Option Call
call_of (Some name.Insert) arguments = insert_of (two_of arguments)
call_of (Some name.Get) arguments = keyed (λ key. call.Get key) (one_of arguments)
call_of (Some name.Remove) arguments = keyed (λ key. call.Remove key) (one_of arguments)
call_of (Some name.Cas) arguments = swap_of (three_of arguments)
call_of name arguments = None

-- the call of some words
abbrev pub call_of_words : List (List ℕ) → Option Call
call_of_words [] = None
call_of_words (name ∷ arguments) = call_of (name_of name) arguments

-- the command that asks for a call, at once or in a slot
abbrev pub at_once : Option Call → Option Command
at_once call = option_map (λ c. Point c) call

abbrev pub in_slot : Option Call → Option Command
in_slot call = option_map (λ c. Begin c) call

-- a command of one number
abbrev pub numbered : (ℕ → Command) → Option (List ℕ) → Option Command
numbered make (Some word) = option_map make (read_number word)
numbered make None = None

-- a command without arguments
abbrev pub alone : Command → List (List ℕ) → Option Command
alone command [] = Some command
alone command (word ∷ words) = None

-- the command that makes these writes together
abbrev pub batched : Option Writes → Option Command
batched writes = option_map (λ w. Batch w) writes

-- the command of a name and its arguments
abbrev pub command_from : Option Name → List (List ℕ) → Option Command
command_from None arguments = None
command_from (Some name.Insert) arguments = at_once (call_of (Some name.Insert) arguments)
command_from (Some name.Get) arguments = at_once (call_of (Some name.Get) arguments)
command_from (Some name.Remove) arguments = at_once (call_of (Some name.Remove) arguments)
command_from (Some name.Cas) arguments = at_once (call_of (Some name.Cas) arguments)
command_from (Some name.Begin) arguments = in_slot (call_of_words arguments)
command_from (Some name.Step) arguments = numbered (λ n. Step n) (one_of arguments)
command_from (Some name.Finish) arguments = numbered (λ n. Finish n) (one_of arguments)
command_from (Some name.Abandon) arguments = numbered (λ n. Abandon n) (one_of arguments)
command_from (Some name.Batch) arguments = batched (batch_of arguments)
command_from (Some name.Flush) arguments = alone Flush arguments
command_from (Some name.Crash) arguments = numbered (λ n. Crash n) (one_of arguments)
command_from (Some name.Dump) arguments = alone Dump arguments
command_from (Some name.Tree) arguments = keyed (λ name. OpenTree name) (one_of arguments)

-- the command of some words
abbrev pub command_of_words : List (List ℕ) → Option Command
command_of_words [] = None
command_of_words (name ∷ arguments) = command_from (name_of name) arguments

-- the command of a line, if it can be read
abbrev pub command_of : List ℕ → Option Command
command_of line = command_of_words (words_of line)
