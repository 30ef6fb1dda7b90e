-- Of Reading, for proofs. The payload of a block.
use Rattle.std.specs.Prelude.{ℕ, List, Option, Some, None, if◌then◌else◌}
use Rattle.sled_log.specs.Log.{is_whole, payload_in}

-- the payload of a block, from the bytes behind its gate
abbrev pub payload_of : (List ℕ → ℕ) → List ℕ → Option (List ℕ)
payload_of digest bytes = if is_whole digest bytes then Some (payload_in bytes) else None
