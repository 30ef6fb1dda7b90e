-- What is read of a log.
use Rattle.std.specs.Prelude.{◌≡◌, ℕ, List, Err}
use Rattle.sled_log.specs.declared.reading.LogError.{LogError}
use Rattle.sled_log.specs.declared.reading.LogError.TheVariants.{NoMemory, Decayed}
use Rattle.sled_log.specs.Digest.{digest}
use Rattle.sled_log.specs.Log.{log_of}

-- why these bytes were not read as a log
abbrev pub is_why : LogError → List ℕ → Type 0
is_why NoMemory bytes = Unit {0}
is_why (Decayed at) bytes = log_of digest bytes ≡ Err at
