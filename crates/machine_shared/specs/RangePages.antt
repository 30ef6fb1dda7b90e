-- Pages of a range, one after the other.
use Rattle.std.specs.Prelude.{◌≡◌, ◌⊎◌, ℕ, ◌-◌, nat_lt, nat_eq, Bool, true, false, ◌||◌, List, [], ◌∷◌, ◌++◌, length, slice_get, Option, Some, None, Result, Ok, Err}
use Rattle.std.specs.Option.{option_map}
use Rattle.std.specs.declared.ops.Bound.{Bound}
use Rattle.std.specs.declared.ops.Bound.TheVariants.{Excluded}
use Rattle.sled_nodes.specs.Order.{Key}
use Rattle.sled_nodes.specs.declared.error.Error.{Error}
use Rattle.sled_nodes.specs.declared.error.Error.TheVariants.{NoMemory}
use Rattle.sled_store.specs.Store.{Store}
use Rattle.sled_model.specs.Maps.{Merge}
use Rattle.machine_shared.specs.Made.{MadeValue, ReadMade}
use Rattle.machine_shared.specs.Reads.{Asked, IsPart, OfTree}
use Rattle.machine_shared.specs.UnderLock.{AsksUnderLock, ReadsUnderLock}
use Rattle.machine_shared.specs.Values.{CallerValue}
use Rattle.machine_shared.specs.declared.range_pages.RangePages.{RangePages}
use Rattle.machine_shared.specs.declared.read.Answer.TheVariants as told
use Rattle.machine_shared.specs.declared.read.Question.TheVariants as asks
use Rattle.machine_shared.specs.declared.read.Read.{Read}
use Rattle.machine_shared.specs.declared.read.Read.TheVariants as read

-- the key of the last of these pairs, if there is one
abbrev pub last_key : List (Key × Key) → Option Key
last_key pairs = option_map (λ (p : Key × Key). p.0) (slice_get pairs (length pairs - 1))

-- the bounds after a key, in the order in which pairs are read
abbrev pub lo_behind : Bool → Option Key → Bound Key → Bound Key
lo_behind true key lo = lo
lo_behind false None lo = lo
lo_behind false (Some key) lo = Excluded key

abbrev pub hi_behind : Bool → Option Key → Bound Key → Bound Key
hi_behind false key hi = hi
hi_behind true None hi = hi
hi_behind true (Some key) hi = Excluded key

-- a page of fewer pairs than there may be, or of none, is the last
abbrev pub is_last_page : ℕ → ℕ → Bool
is_last_page most count = nat_lt count most || nat_eq count 0

-- what is left of a range after these pairs
abbrev pub behind : RangePages → List (Key × Key) → RangePages
behind r pairs = record r { lo = lo_behind r.back (last_key pairs) r.lo; hi = hi_behind r.back (last_key pairs) r.hi; ended = is_last_page r.most (length pairs) }

-- the next page, as it is asked for, as it is read, and as it is noted
abbrev pub page_asked : RangePages → Asked
page_asked r = OfTree r.tree (asks.Page r.lo r.hi r.back r.most)

abbrev pub page_read : RangePages → List (Key × Key) → Read
page_read r pairs = read.Tree r.tree (asks.Page r.lo r.hi r.back r.most) (told.Pairs pairs)

abbrev pub page_made : RangePages → List (Key × Key) → MadeValue
page_made r pairs = ReadMade (page_read r pairs)

-- The next page is given, and added at the end of a list. It is a part of what was left of the range, and what is left is after it
pub record GivesPage (old : RangePages) (pairs : List (Key × Key)) (new : RangePages) (made more : List MadeValue) : Type 0 where
  pub unended : old.ended ≡ false
  pub part : IsPart old.lo old.hi old.back old.most pairs
  pub rest : new ≡ behind old pairs
  pub adds : more ≡ made ++ page_made old pairs ∷ []

-- A page was read, as a part of what was left of the range, and there was no memory to go past it
pub record LacksMemory (old : RangePages) (made more : List MadeValue) (e : Error) : Type 0 where
  pub cause : e ≡ NoMemory
  pub pairs : List (Key × Key)
  pub part : IsPart old.lo old.hi old.back old.most pairs
  pub adds : more ≡ made ++ page_made old pairs ∷ []

-- Before the range has ended a page is refused, and is next still. Nothing is added to the list, but what was read before memory ran out
pub record RefusesPage (old new : RangePages) (made more : List MadeValue) (e : Error) : Type 0 where
  pub unended : old.ended ≡ false
  pub same : new ≡ old
  pub adds : (more ≡ made) ⊎ LacksMemory old made more e

module _ {P M : Type 0} (store : P → Store) (meant : M → Merge) (r : RangePages) (me more : CallerValue) where
  -- the next page came of a read under the lock
  abbrev pub ReadsPage : Result (List (Key × Key)) Error → Type 0
  ReadsPage result = ReadsUnderLock store meant (page_asked r) (page_read r) result me more

  -- So did a page that is given. One that is refused was refused there or before, by want of memory to ask for it; or it was read, and there
  -- was no memory to go past it
  abbrev pub PagesUnderLock : Result (List (Key × Key)) Error → Type 0
  PagesUnderLock (Ok pairs) = ReadsPage (Ok pairs)
  PagesUnderLock (Err e) = AsksUnderLock store meant (page_asked r) (page_read r) (Err e) me more ⊎ ((e ≡ NoMemory) × (pairs : List (Key × Key)) × ReadsPage (Ok pairs))
