-- What a file has after its calls, of which the newest comes first, and what a crash may leave of it.
use Rattle.std.specs.Prelude.{◌≡◌, ◌⊎◌, ◌≤◌, ℕ, true, false, List, [], ◌∷◌, ◌+◌, length, take}
use Rattle.sled_disk.specs.Disk.{written, Torn, Shortened}
use Rattle.sled_host.specs.Event.{Event, opened, wrote, cut, synced}

-- what a file has after a call; one that was not done is taken to have changed nothing, and nothing is read from then on
abbrev pub seen_after : Event → List ℕ → List ℕ
seen_after (opened is_new bytes) seen = bytes
seen_after (wrote at bytes true) seen = written at bytes seen
seen_after (wrote at bytes false) seen = seen
seen_after (cut n true) seen = take n seen
seen_after (cut n false) seen = seen
seen_after (synced done) seen = seen

-- the same after all calls
abbrev pub seen_after_all : List Event → List ℕ
seen_after_all [] = []
seen_after_all (event ∷ earlier) = seen_after event (seen_after_all earlier)

-- what a crash may make of a call, by what the file had before it: of what was left so far this may be left
abbrev pub MayBecome : Event → List ℕ → List ℕ → List ℕ → Type 0
MayBecome (opened is_new bytes) seen old new = new ≡ bytes
MayBecome (wrote at bytes done) seen old new = Torn at bytes old new
MayBecome (cut n done) seen old new = Shortened n old new
MayBecome (synced true) seen old new = new ≡ seen
MayBecome (synced false) seen old new = new ≡ old

abbrev pub LeftAfterAll : List Event → List ℕ → Type 0
LeftAfterAll [] c = c ≡ []
LeftAfterAll (event ∷ earlier) c = (old : List ℕ) × LeftAfterAll earlier old × MayBecome event (seen_after_all earlier) old c

-- what a crash may leave after these calls: what the file has, or what the calls may have made of it
abbrev pub MayLeave : List Event → List ℕ → Type 0
MayLeave events c = (c ≡ seen_after_all events) ⊎ LeftAfterAll events c

-- the same after some number of the calls, from t on
abbrev pub LeftSince : List Event → ℕ → List ℕ → Type 0
LeftSince [] t c = (t ≤ 0) × MayLeave [] c
LeftSince (event ∷ earlier) t c = ((t ≤ length earlier + 1) × MayLeave (event ∷ earlier) c) ⊎ LeftSince earlier t c
