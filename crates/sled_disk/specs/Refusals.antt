-- Which calls of a disk in memory are refused, and how.
use Rattle.std.specs.Prelude.{ℕ, ◌+◌, ◌-◌, ◌^◌, Bool, ◌&&◌, ◌||◌, if◌then◌else◌, nat_eq, nat_lt, List}
use Rattle.std.specs.List.{list_any}
use Rattle.sled_disk.specs.declared.disk.DiskError.{DiskError}
use Rattle.sled_disk.specs.declared.disk.DiskError.TheVariants.{NoMemory}

-- a number is given to each call and to each fault, up to this one
abbrev pub last_number : ℕ
last_number = 2 ^ 64 - 1

-- whether the call after so many others is refused for a fault, if calls were named: its number is one of them, or no number is left for it
abbrev pub is_refused : ℕ → List ℕ → Bool
is_refused made named = nat_eq made last_number || list_any (λ n. nat_eq n (made + 1)) named

-- what it answers if it is refused, by how many faults there were: this fault if it can be counted, and else that there was no memory
abbrev pub refusal_of : DiskError → ℕ → List ℕ → ℕ → DiskError
refusal_of fault made named faults = if is_refused made named && nat_lt faults last_number then fault else NoMemory
