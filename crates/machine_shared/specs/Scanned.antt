-- What the scans that were noted gave, beside a history.
use Rattle.std.specs.Prelude.{◌≡◌, ℕ, nat_eq, Bool, true, List, [], ◌∷◌, ◌++◌, Some, if◌then◌else◌}
use Rattle.std.specs.declared.ops.Bound.{Bound}
use Rattle.sled_nodes.specs.Order.{Key}
use Rattle.sled_nodes.specs.Ranges.{Range, is_in_range}
use Rattle.sled_store.specs.In.{In}
use Rattle.sled_model.specs.Maps.{Map, Maps}
use Rattle.sled_model.specs.State.{range_of}
use Rattle.sled_model.specs.declared.call.Call.TheVariants.{Scan}
use Rattle.sled_model.specs.declared.tree.Tree.{Tree}
use Rattle.scan_laws.specs.Scanned.{InOrder}
use Rattle.machine_shared.specs.Moments.{AtOneMoment, AtEachMoment}
use Rattle.machine_shared.specs.declared.scans.Scanned.{Scanned}
use Rattle.machine_shared.specs.declared.scans.Scanned.TheVariants as did
use Rattle.machine_shared.specs.declared.scans.ScanNote.{ScanNote}

-- the pair that a scan gave, if it gave one
abbrev pub pair_of : Scanned → List (Key × Key)
pair_of (did.Gave key value) = (key, value) ∷ []
pair_of d = []

-- the pairs that the scan in a slot gave, in order
abbrev pub gave_in : ℕ → List ScanNote → List (Key × Key)
gave_in slot [] = []
gave_in slot (n ∷ ns) = (if nat_eq n.slot slot then pair_of n.did else []) ++ gave_in slot ns

-- the pair is in the tree's map
pub record IsPairOf (tree : Tree) (e : Key × Key) (maps : Maps) : Type 0 where
  pub map : Map
  pub there : maps tree.name ≡ Some map
  pub pair : In e map

-- the key is in the tree's map, with some value
abbrev pub IsKeyOf : Tree → Key → Maps → Type 0
IsKeyOf tree key maps = (value : Key) × IsPairOf tree (key, value) maps

-- What a scan gave that began in this slot, at this length of the history, with these bounds in the tree
pub record GaveAllOf (moments : List Maps) (notes : List ScanNote) (slot from : ℕ) (tree : Tree) (bounds : Range) : Type 0 where
  -- the keys that it gave strictly rise or, backwards, fall; and they are within the bounds
  pub ordered : InOrder bounds.back (gave_in slot notes)
  pub within : (e : Key × Key) → In e (gave_in slot notes) → is_in_range bounds e.0 ≡ true
  -- each pair was in the tree's map at some moment from the begin to the step that gave it
  pub seen : (n : ScanNote) (key value : Key) → In n notes → n.slot ≡ slot → n.did ≡ did.Gave key value → AtOneMoment moments from n.at (IsPairOf tree (key, value))
  -- if it ended, it gave each key within the bounds that was in the tree's map at each moment from the begin to the end
  pub complete : (n : ScanNote) → In n notes → n.slot ≡ slot → n.did ≡ did.Ended → (key : Key) → is_in_range bounds key ≡ true → AtEachMoment moments from n.at (IsKeyOf tree key) → (value : Key) × In (key, value) (gave_in slot notes)

-- each scan whose begin was noted gave so
abbrev pub AreScanned : List Maps → List ScanNote → Type 0
AreScanned moments notes = (n : ScanNote) (tree : Tree) (lo hi : Bound Key) (back : Bool) → In n notes → n.did ≡ did.Begun tree (Scan lo hi back)
    → GaveAllOf moments notes n.slot n.at tree (record { lo = lo; hi = hi; back = back })

-- it is noted that something began
abbrev pub IsBegin : Scanned → Type 0
IsBegin (did.Begun tree call) = Unit {0}
IsBegin d = ⊥

-- the begin of a scan in this slot is noted
pub record HasBegun (notes : List ScanNote) (slot : ℕ) : Type 0 where
  pub note : ScanNote
  pub there : In note notes
  pub here : note.slot ≡ slot
  pub begins : IsBegin note.did

-- what began is a scan, and a pair or an end is one of a scan whose begin was noted before it
abbrev pub is_of_scan : List ScanNote → ℕ → Scanned → Type 0
is_of_scan before slot (did.Begun tree call) = (bounds : Range) × (range_of call ≡ Some bounds)
is_of_scan before slot d = HasBegun before slot

-- so it is with all that is noted behind these
abbrev pub AreOfScans : List ScanNote → List ScanNote → Type 0
AreOfScans before [] = Unit {0}
AreOfScans before (n ∷ ns) = is_of_scan before n.slot n.did × AreOfScans (before ++ n ∷ []) ns
