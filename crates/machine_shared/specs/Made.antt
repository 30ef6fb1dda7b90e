-- What callers made, as contracts see it.
use Rattle.std.specs.Prelude.{ℕ, List, Option, map}
use Rattle.sled_nodes.specs.Order.{Key}
use Rattle.sled_batch.specs.Batch.{Writes}
use Rattle.sled_model.specs.Collections.{contents_of}
use Rattle.sled_model.specs.declared.call.Call.{Call}
use Rattle.sled_model.specs.declared.call.Whole.{Whole}
use Rattle.sled_model.specs.declared.call.Whole.TheVariants.{Flush, PopMin, PopMax, Clear, Group, OpenTree, DropTree, GenerateId, Import, Watch, Next, Unsubscribe}
use Rattle.sled_model.specs.declared.tree.Tree.{Tree}
use Rattle.sled_model.specs.declared.reply.Reply.{Reply}
use Rattle.machine_shared.specs.Wholes.{WholeValue}
use Rattle.machine_shared.specs.Wholes as value
use Rattle.machine_shared.specs.declared.entry.Entry.{Entry}
use Rattle.machine_shared.specs.declared.entry.Made.{Made}
use Rattle.machine_shared.specs.declared.entry.Made.TheVariants as made
use Rattle.machine_shared.specs.declared.read.Read.{Read}

-- What was made: a decided call on a key of a tree, or a decided whole call, with its reply; so many parts of a whole call that was refused
-- after them; a read, with what it returned. Or it is what a transaction wrote, with what was before at the key of each of its writes
pub data MadeValue : Type 0 where
  PointMade : (tree : Tree) (call : Call) (reply : Reply) → MadeValue
  WholeMade : (whole : WholeValue) (reply : Reply) → MadeValue
  PartsMade : (whole : WholeValue) (number : ℕ) → MadeValue
  ReadMade : (read : Read) → MadeValue
  TransactionMade : (batches : List (Tree × Writes)) (stood : List (Option Key)) → MadeValue

-- .. and the number of the caller whose step decided it
pub record EntryValue : Type 0 where
  pub by : ℕ
  pub made : MadeValue

abbrev pub whole_value : Whole → WholeValue
whole_value Flush = value.Flush
whole_value (PopMin tree) = value.PopMin tree
whole_value (PopMax tree) = value.PopMax tree
whole_value (Clear tree) = value.Clear tree
whole_value (Group batches) = value.Group batches.items
whole_value (OpenTree name) = value.OpenTree name
whole_value (DropTree name) = value.DropTree name
whole_value GenerateId = value.GenerateId
whole_value (Import collections) = value.Import (contents_of collections.items)
whole_value (Watch tree prefix) = value.Watch tree prefix
whole_value (Next subscriber) = value.Next subscriber
whole_value (Unsubscribe subscriber) = value.Unsubscribe subscriber

abbrev pub made_value : Made → MadeValue
made_value (made.Point tree call reply) = PointMade tree call reply
made_value (made.Whole whole reply) = WholeMade (whole_value whole) reply
made_value (made.Parts whole number) = PartsMade (whole_value whole) number
made_value (made.Read read) = ReadMade read
made_value (made.Transaction batches stood) = TransactionMade batches.items stood.items

abbrev pub entry_value : Entry → EntryValue
entry_value e = record { by = e.by; made = made_value e.made }

abbrev pub made_values : List Made → List MadeValue
made_values all = map made_value all

abbrev pub entry_values : List Entry → List EntryValue
entry_values all = map entry_value all
