-- What a crash leaves of a file in memory, by the numbers of a test.
use Rattle.std.specs.Prelude.{ℕ, ◌+◌, ◌-◌, min, Bool, true, false, ◌&&◌, List, [], ◌∷◌, ◌++◌, length, take, drop, map, slice_index, if◌then◌else◌, nat_eq, nat_lt}
use Rattle.std.specs.List.{list_any, range_with_len}
use Rattle.sled_disk.specs.Disk.{written}
use Rattle.sled_disk.specs.Choices.{chosen_of}
use Rattle.sled_disk.specs.Calls.{seen_after}
use Rattle.sled_disk.specs.declared.memory.Call.{Call}
use Rattle.sled_disk.specs.declared.memory.Call.TheVariants.{Write, Cut, Sync}

-- a byte of a write, by a number: the new one (0), the old one (1), or any other (2 more than that one)
abbrev pub byte_by : ℕ → ℕ → ℕ → ℕ
byte_by number old new = if nat_eq number 0 then new else (if nat_eq number 1 then old else number - 2)

-- so many bytes of a write, each by a number of its own; past the end an old byte is 0
abbrev pub bytes_by : List ℕ → ℕ → List ℕ → List ℕ → List ℕ
bytes_by numbers count old new = map (λ i. byte_by (chosen_of 257 (drop i numbers)) (slice_index old i) (slice_index new i)) (range_with_len 0 count)

-- how many bytes of a write are written: those within the file, and past its end as many as the first number says
abbrev pub count_by : List ℕ → ℕ → List ℕ → List ℕ → ℕ
count_by numbers at bytes file = let within = min (length file - at) (length bytes) in within + chosen_of (length bytes - within) numbers

-- whether a write is of a single byte within the file
abbrev pub is_single : ℕ → List ℕ → List ℕ → Bool
is_single at bytes file = nat_eq (length bytes) 1 && nat_lt at (length file)

-- what becomes of a write that is not: each byte that is written has a number behind the first one
abbrev pub several_by : List ℕ → ℕ → List ℕ → List ℕ → List ℕ
several_by numbers at bytes file = take at file ++ bytes_by (drop 1 numbers) (count_by numbers at bytes file) (drop at file) bytes ++ drop (at + length bytes) file

-- what becomes of a write. If the file ends before it, since an earlier write was lost, it is lost too
abbrev pub torn_by : List ℕ → ℕ → List ℕ → List ℕ → List ℕ
torn_by numbers at bytes file =
    if nat_lt (length file) at then file
    else (
    if is_single at bytes file then (if nat_eq (chosen_of 1 numbers) 0 then written at bytes file else file)
    else several_by numbers at bytes file
    )

-- how many numbers that takes
abbrev pub numbers_of_write : List ℕ → ℕ → List ℕ → List ℕ → ℕ
numbers_of_write numbers at bytes file =
    if nat_lt (length file) at then 0
    else (if is_single at bytes file then 1 else 1 + count_by numbers at bytes file)

-- what becomes of a cut: the number says how many bytes stay of those to be cut off
abbrev pub shortened_by : List ℕ → ℕ → List ℕ → List ℕ
shortened_by numbers n file = let least = min n (length file) in take (least + chosen_of (length file - least) numbers) file

-- what becomes of a call that no sync followed
abbrev pub made_by : Call → List ℕ → List ℕ → List ℕ
made_by (Write at bytes) numbers file = torn_by numbers at bytes.items file
made_by (Cut n) numbers file = shortened_by numbers n file
made_by Sync numbers file = file

-- how many numbers that takes
abbrev pub numbers_of : Call → List ℕ → List ℕ → ℕ
numbers_of (Write at bytes) numbers file = numbers_of_write numbers at bytes.items file
numbers_of (Cut n) numbers file = 1
numbers_of Sync numbers file = 0

abbrev pub is_sync : Call → Bool
is_sync (Write at bytes) = false
is_sync (Cut n) = false
is_sync Sync = true

-- What a crash leaves of a file after these calls, and the numbers that are left then. What a sync followed is there as it was
-- made; of what no sync followed the numbers choose.
abbrev pub left_by : List Call → List ℕ → List ℕ → List ℕ × List ℕ
left_by [] numbers file = (file, numbers)
left_by (call ∷ calls) numbers file =
    if list_any is_sync (call ∷ calls) then left_by calls numbers (seen_after call file)
    else left_by calls (drop (numbers_of call numbers file) numbers) (made_by call numbers file)
