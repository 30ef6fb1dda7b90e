-- What the system answers when a file is to be locked.
use Rattle.std.specs.Prelude.{Bool, true, false}
use Rattle.sled_host.specs.declared.system.Lock.{Lock}
use Rattle.sled_host.specs.declared.system.Lock.TheVariants.{Held}

-- whether the file was locked
abbrev pub is_held : Lock → Bool
is_held Held = true
is_held _ = false
