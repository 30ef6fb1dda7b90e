-- Batches: the writes of the words of a line.
use Rattle.std.specs.Prelude.{ℕ, List, [], ◌∷◌, Option, Some, None}
use Rattle.std.specs.FinMap.Entries.{put}
use Rattle.sled_nodes.specs.Order.{Key, key_cmp}
use Rattle.sled_batch.specs.Batch.{Writes}
use Rattle.line_words.specs.Words.{read_word, read_value}

-- these writes, and one more of a key, if there is one: it is to have a value, or none. Of a key the last write counts
abbrev pub write_after : Writes → Option Key → Option (Option Key) → Option Writes
write_after before (Some key) (Some value) = Some (put key_cmp key value before)
write_after before key value = None

-- these writes, if there are some, and then those of words, which are a key and its value in turn: - for none
abbrev pub writes_after : Option Writes → List (List ℕ) → Option Writes
writes_after None words = None
writes_after (Some before) [] = Some before
writes_after (Some before) (key ∷ []) = None
writes_after (Some before) (key ∷ value ∷ words) = writes_after (write_after before (read_word key) (read_value value)) words

-- the writes of words, if they are keys and values
abbrev pub batch_of : List (List ℕ) → Option Writes
batch_of words = writes_after (Some []) words
