-- A log that a crash may have torn: a block was written together with its open gate, and the crash left a part of it.
--
-- A whole block is known by its digest; that no torn one has a digest that fits is a premise (`Tells`). The log ends where no whole block
-- is, and nothing from there on counts.
use Rattle.std.specs.Prelude.{◌≡◌, ◌⊎◌, ◌+◌, ◌<◌, ◌^◌, ℕ, zero, suc, List, [], ◌∷◌, ◌++◌, length, drop, Option, Some, None, Result, Ok, Err}
use Rattle.std.specs.List.{AllByRecursion}
use Rattle.sled_log.specs.Digest.{digest}
use Rattle.sled_log.specs.Log.{blocks, next_of}
use Rattle.sled_log.specs.Append.{IsBlockFor}

-- the payloads from a place on, by what is there and by what follows a payload
abbrev pub tear_by : Result (Option (List ℕ)) (Unit {0}) → (List ℕ → List (List ℕ)) → List (List ℕ)
tear_by (Ok None) following = []
tear_by (Ok (Some payload)) following = payload ∷ following payload
tear_by (Err fault) following = []

-- the payloads up to the first place with no whole open block. The number bounds the blocks
abbrev pub tear_from : (List ℕ → ℕ) → ℕ → List ℕ → List (List ℕ)
tear_from digest zero bytes = []
tear_from digest (suc most) bytes = tear_by (next_of digest bytes) (λ payload. tear_from digest most (drop (17 + length payload) bytes))

-- the log of a file's bytes up to a tear. Of a log that has none these are its payloads
abbrev pub log_to_tear : (List ℕ → ℕ) → List ℕ → List (List ℕ)
log_to_tear digest bytes = tear_from digest (length bytes) bytes

-- up to a tear a file is read as another one is
abbrev pub ReadsAs : List ℕ → List ℕ → Type 0
ReadsAs file c = log_to_tear digest c ≡ log_to_tear digest file

-- no whole open block is at the front of the bytes
abbrev pub HasNoBlock : (List ℕ → ℕ) → List ℕ → Type 0
HasNoBlock digest bytes = (payload : List ℕ) → next_of digest bytes ≡ Ok (Some payload) → ⊥

-- the file is open blocks of these payloads, and at this place, behind them, is no other one that is whole
pub record EndsAt (digest : List ℕ → ℕ) (file : List ℕ) (payloads : List (List ℕ)) (place : ℕ) : Type 0 where
  pub fit : AllByRecursion (λ p. length p < 2 ^ 64) payloads
  pub rest : List ℕ
  pub file_is : file ≡ blocks digest payloads ++ rest
  pub ends : HasNoBlock digest rest
  pub place_is : length (blocks digest payloads) ≡ place

-- The digest tells what a crash left of a new block: if a whole open block is at the gate, then it is the new one
abbrev pub Tells : {file : List ℕ} {gate : ℕ} {bytes : List ℕ} → IsBlockFor file gate bytes → List ℕ → Type 0
Tells {file} {gate} {bytes} b c = (payload : List ℕ) → next_of b.digest (drop gate c) ≡ Ok (Some payload) → payload ≡ b.payload

-- What a crash leaves while a block is added in one sync: a log that begins with the payloads from before, whatever the digest tells.
-- If it tells what was left, then behind them is the new one or none
pub record IsTorn {file : List ℕ} {gate : ℕ} {bytes : List ℕ} (b : IsBlockFor file gate bytes) (c : List ℕ) : Type 0 where
  pub more : List (List ℕ)
  pub log : log_to_tear b.digest c ≡ b.payloads ++ more
  pub told : Tells b c → (more ≡ []) ⊎ (more ≡ b.payload ∷ [])
