-- What scans did, in the order of their steps.
use Rattle.std.specs.Prelude.{◌≡◌, ◌≢◌, ◌≤◌, ℕ, Bool, true, false, List, [], ◌∷◌, ◌++◌, map}
use Rattle.sled_model.specs.declared.call.Call.{Call}
use Rattle.sled_model.specs.declared.call.Call.TheVariants.{Scan}
use Rattle.sled_model.specs.declared.tree.Tree.{Tree}
use Rattle.sled_model.specs.declared.reply.Reply.TheVariants.{End}
use Rattle.sled_model.specs.declared.outcome.Outcome.{Outcome}
use Rattle.sled_model.specs.declared.outcome.Outcome.TheVariants.{Yielded, Decided}
use Rattle.machine_shared.specs.declared.scans.Scanned.{Scanned}
use Rattle.machine_shared.specs.declared.scans.Scanned.TheVariants as did
use Rattle.machine_shared.specs.declared.scans.ScanNote.{ScanNote}

-- what is noted of scans, and whether what they do from now on will be
pub record ScansValue : Type 0 where
  pub keeps : Bool
  pub notes : List ScanNote

-- What a scan did at a step of its slot that came out so: it gave a pair, or it ended. No other call gives a pair or ends so
abbrev pub scanned_of : Outcome → List Scanned
scanned_of (Yielded key value) = did.Gave key value ∷ []
scanned_of (Decided End) = did.Ended ∷ []
scanned_of o = []

-- a scan that begins is noted with its tree and its bounds
abbrev pub begun_of : Tree → Call → List Scanned
begun_of tree (Scan lo hi back) = did.Begun tree (Scan lo hi back) ∷ []
begun_of tree call = []

-- what a scan did in a slot, with the length of the history at that step
abbrev pub noted_at : ℕ → ℕ → List Scanned → List ScanNote
noted_at slot length all = map (λ d. record { slot = slot; at = length; did = d }) all

-- These are noted after all others, or none is since none are kept. Or there was no memory for them, and from there on none are kept
pub data NotesScan (old : ScansValue) (notes : List ScanNote) (new : ScansValue) : Type 0 where
  AreNoted : old.keeps ≡ true → new ≡ record { keeps = true; notes = old.notes ++ notes } → NotesScan old notes new
  AreNotKept : old.keeps ≡ false → new ≡ old → NotesScan old notes new
  Stops : old.keeps ≡ true → notes ≢ [] → new ≡ record { keeps = false; notes = old.notes } → NotesScan old notes new

-- From one length of the history on, each was noted at no lesser one than the one before it, and the last at no greater one than this
pub data AreInOrder : ℕ → List ScanNote → ℕ → Type 0 where
  NoneMore : {a b : ℕ} → a ≤ b → AreInOrder a [] b
  OneMore : {a b : ℕ} {note : ScanNote} {notes : List ScanNote} → a ≤ note.at → AreInOrder note.at notes b → AreInOrder a (note ∷ notes) b
