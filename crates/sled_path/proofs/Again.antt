-- What is opened after a crash, in two syncs and in one, and why not.
use Rattle.std.proofs.Common.{◌≡◌, ◌∙◌, ℕ, List, sym, subst}
use Rattle.sled_store.specs.Store.{Store}
use Rattle.sled_files.specs.Files.{Files}
use Rattle.sled_files.specs.Lasting.{IsLasting}
use Rattle.sled_files.specs.Stored.{Stored, Lasts, stored_as, asked_of}
use Rattle.sled_files.proofs.Reopening.{recovers_each, opened_goes_on}
use Rattle.sled_host.specs.Host.{bytes_of, outcomes_of}
use Rattle.sled_host.specs.Pair.{is_why_unpaired}
use Rattle.sled_host.specs.declared.host.HostFile.{HostFile}
use Rattle.sled_host.specs.declared.pair.HostError.{HostError}
use Rattle.sled_host.specs.declared.pair.HostError.TheVariants as host
use Rattle.sled_host.specs.declared.pair.Opening.{Opening}
use Rattle.sled_once.specs.Once.{Once}
use Rattle.sled_once.specs.Once as once
use Rattle.files_once.specs.Lasting.{AreReadLasting, LastsAsRead}
use Rattle.files_once.proofs.Alike.{read_lasting}
use Rattle.sled_path.specs.Path.{StoreOver, AreAsFound, GoesOnFrom, GoesOnIn}
use Rattle.sled_path.specs.Once.{AreWhole, GoesOnOnce}

-- that two openings need locks alike, so they are refused alike
pub unpaired_alike : (one two : Opening) → one.needs_lock ≡ two.needs_lock → (e : HostError) → is_why_unpaired one e → is_why_unpaired two e
unpaired_alike one two same (host.NoLocks error) why = sym same ∙ why
unpaired_alike one two same host.NoMemory why = tt
unpaired_alike one two same host.Locked why = tt
unpaired_alike one two same host.NotAFolder why = tt
unpaired_alike one two same host.NotAFile why = tt
unpaired_alike one two same (host.Io error) why = tt

-- a store that was opened of files that are right for one goes on from it
module _ {D E : Type 0} (old : Stored D) (seen : E → List ℕ) (may_leave : E → List ℕ → Type 0) (known : HostFile → HostFile → Type 0) (files : Files E) (found : Store) where
  right_goes_on : (is : StoreOver seen may_leave known files found) → IsLasting (asked_of old.asked) old.limits (stored_as old) (bytes_of is.first) (bytes_of is.second) → GoesOnFrom old found
  right_goes_on is right =
      opened_goes_on (asked_of old.asked) old.limits (stored_as old) found (bytes_of is.first) (bytes_of is.second) right
      (λ d a. (recovers_each seen may_leave (bytes_of is.first) (bytes_of is.second) files found is.opens d a).1)

pub goes_on_in : (old : Stored HostFile) → Lasts outcomes_of (asked_of old.asked) old.limits (stored_as old) old.files → GoesOnIn old
goes_on_in old lasts opening is_locked files found is h =
    right_goes_on old bytes_of outcomes_of (AreAsFound opening is_locked) files found is (lasts.each (bytes_of is.first) (bytes_of is.second) h.first_is h.second_is)

module _ (old : Stored (Once HostFile)) (lasts : LastsAsRead outcomes_of old) where
  pub goes_on : GoesOnOnce old
  goes_on opening is_locked files found is h =
      let w = is.are in
      let m = w.mended in
      let asked : List ℕ = asked_of old.asked in
      let read : AreReadLasting asked old.limits (stored_as old) (bytes_of m.first_found) (bytes_of m.second_found) = lasts (bytes_of m.first_found) (bytes_of m.second_found) h.found.first_is h.found.second_is h.first_told h.second_told in
      let left : IsLasting asked old.limits (stored_as old) (bytes_of w.first_left) (bytes_of w.second_left) =
      read_lasting (bytes_of m.first_found) (bytes_of m.second_found) (bytes_of w.first_left) (bytes_of w.second_left) m.first_mended m.second_mended asked old.limits (stored_as old) read in
      let one : IsLasting asked old.limits (stored_as old) (bytes_of is.first) (bytes_of w.second_left) = subst (λ (l : List ℕ). IsLasting asked old.limits (stored_as old) l (bytes_of w.second_left)) (sym (m.first_only (bytes_of is.first) h.again.first_is)) left in
      let both : IsLasting asked old.limits (stored_as old) (bytes_of is.first) (bytes_of is.second) = subst (λ (l : List ℕ). IsLasting asked old.limits (stored_as old) (bytes_of is.first) l) (sym (m.second_only (bytes_of is.second) h.again.second_is)) one in
      right_goes_on old once.bytes_of once.outcomes_of (AreWhole opening is_locked) files found is both
