-- What a file stands for when its log has a payload more.
use Rattle.std.proofs.Common.{◌≡◌, inl, inr, append_assoc, ℕ, ◌<◌, ◌^◌, List, [], ◌∷◌, ◌++◌, length, refl, sym, ◌∙◌, ap}
use Rattle.std.specs.Prelude.{Result, Ok, Err, ◌⊎◌}
use Rattle.std.proofs.lemmas.List.{append-nil}
use Rattle.sled_log.specs.Digest.{digest}
use Rattle.sled_log.specs.Log.{log_of, IsLog}
use Rattle.sled_log.specs.Append.{behind_gate, IsBlockFor, IsBeforeOrAfter}
use Rattle.sled_log.proofs.ReadingLemmas.{digest_small, log_read}
use Rattle.sled_bytes.specs.declared.change.Change.{Change}
use Rattle.sled_bytes.specs.declared.refusal.Flaw.{Flaw}
use Rattle.sled_bytes.specs.Reading.{changes_of}
use Rattle.sled_bytes.proofs.Again.{changes_again}
use Rattle.sled_files.specs.Change.{Durable, changed, changed_all, nothing_yet, AreAdded}
use Rattle.sled_files.specs.Header.{header}
use Rattle.sled_files.specs.Standing.{joined, all_changes, HasChanges, OfGeneration, StandsFor, StandsAt, IsBlank, IsOlder}
use Rattle.sled_files.specs.Pending.{Spells}
use Rattle.sled_files.specs.Files.{AreForEither}
use Rattle.sled_files.proofs.OfStore.{of_both}

-- a file of a store is one whatever its changes are
abbrev pub of_generation : {bytes : List ℕ} {generation : ℕ} {changes : List Change} → HasChanges bytes generation changes → OfGeneration bytes generation
of_generation has = record { fits = has.fits; first = has.first; others = has.others; log = has.log }

joined_swap : (x : Result (List Change) Flaw) → joined x (Ok []) ≡ joined (Ok []) x
joined_swap (Ok front) = ap (λ (l : List Change). Ok l) (append-nil front)
joined_swap (Err flaw) = refl

joined_assoc : (x y z : Result (List Change) Flaw) → joined x (joined y z) ≡ joined (joined x y) z
joined_assoc (Ok a) (Ok b) (Ok c) = ap (λ (l : List Change). Ok l) (sym (append_assoc a b c))
joined_assoc (Ok a) (Ok b) (Err flaw) = refl
joined_assoc (Ok a) (Err flaw) z = refl
joined_assoc (Err flaw) y z = refl

-- the changes of one payload more
pub changes_push : (ps : List (List ℕ)) (p : List ℕ) → all_changes (ps ++ p ∷ []) ≡ joined (all_changes ps) (changes_of p)
changes_push [] p = joined_swap (changes_of p)
changes_push (q ∷ ps) p = ap (λ (r : Result (List Change) Flaw). joined (changes_of q) r) (changes_push ps p) ∙ joined_assoc (changes_of q) (all_changes ps) (changes_of p)

pub changed_both : (front more : List Change) (d : Durable) → changed_all (front ++ more) d ≡ changed_all more (changed_all front d)
changed_both [] more d = refl
changed_both (c ∷ front) more d = changed_both front more (changed c d)

-- what spells changes is read as these
pub says : {bytes : List ℕ} {changes : List Change} → Spells bytes changes → changes_of bytes ≡ Ok changes
says {bytes} {changes} s = ap changes_of s.spelled ∙ changes_again changes s.fit

-- the changes of one payload alone
pub alone : {bytes : List ℕ} {changes : List Change} → Spells bytes changes → all_changes (bytes ∷ []) ≡ Ok changes
alone {bytes} {changes} s = ap (λ (r : Result (List Change) Flaw). joined r (Ok [])) (says s) ∙ ap (λ (l : List Change). Ok l) (append-nil changes)

module _ {file : List ℕ} {generation : ℕ} {d : Durable} (s : StandsFor file generation d) where
  abbrev pub payloads : List (List ℕ)
  payloads = (header generation ++ s.has.first) ∷ s.has.others

  -- a file that is read as the same payloads stands for the same
  pub stands_same : (c : List ℕ) → log_of digest c ≡ Ok payloads → StandsFor c generation d
  stands_same c log = record { changes = s.changes; has = record { fits = s.has.fits; first = s.has.first; others = s.has.others; log = log; decoded = s.has.decoded }; makes = s.makes; made = s.made }

  -- with one payload more it stands for what that one's changes make
  abbrev pub stands_more : (payload : List ℕ) (more : List Change) (longer : List ℕ) → changes_of payload ≡ Ok more → AreAdded more d → log_of digest longer ≡ Ok (payloads ++ payload ∷ []) → StandsFor longer generation (changed_all more d)
  stands_more payload more longer says added log = record {
    changes = s.changes ++ more;
    has = record {
      fits = s.has.fits;
      first = s.has.first;
      others = s.has.others ++ payload ∷ [];
      log = log;
      decoded = changes_push (s.has.first ∷ s.has.others) payload ∙ ap (λ (r : Result (List Change) Flaw). joined r (changes_of payload)) s.has.decoded ∙ ap (λ (r : Result (List Change) Flaw). joined (Ok s.changes) r) says;
    };
    makes = changed_both s.changes more nothing_yet ∙ ap (changed_all more) s.makes;
    made = of_both s.changes more d s.made added;
  }

module _ {one : List ℕ} {gate generation : ℕ} {d : Durable} (at : StandsAt one gate generation d) {payload : List ℕ} {changes : List Change} (spells : Spells payload changes) (added : AreAdded changes d) (few : length payload < 2 ^ 64) where
  -- the block of the payload is one for the file
  abbrev pub block_for : (block : List ℕ) → block ≡ behind_gate digest payload → IsBlockFor one gate block
  block_for block is = record { digest = digest; small = digest_small; payloads = payloads at.stands; log = at.log; payload = payload; fits = few; bytes_are = is }

  -- what a crash leaves while it is added, beside the other file
  pub before_or_after : (block : List ℕ) (is : block ≡ behind_gate digest payload) (c other : List ℕ) → IsBlank other ⊎ IsOlder generation other → IsBeforeOrAfter (block_for block is) c → AreForEither d (changed_all changes d) c other
  before_or_after block is c other behind (inl log) = inl (record { generation = generation; which = inl (record { stands = stands_same at.stands c log; behind = behind }) })
  before_or_after block is c other behind (inr log) = inr (record { generation = generation; which = inl (record { stands = stands_more at.stands payload changes c (says spells) added log; behind = behind }) })

  -- once it is added
  abbrev pub stands_after : (longer : List ℕ) (place : ℕ) → IsLog digest longer (payloads at.stands ++ payload ∷ []) place → StandsAt longer place generation (changed_all changes d)
  stands_after longer place log = record { stands = stands_more at.stands payload changes longer (says spells) added (log_read digest_small log); log = log }
