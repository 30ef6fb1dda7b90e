-- What a crash leaves of a file that is begun anew.
use Rattle.std.proofs.Common.{◌≡◌, inl, inr, ⊎_elim, ℕ, ◌+◌, ◌<◌, ◌≤◌, List, [], ◌∷◌, ◌++◌, length, take, drop, refl, sym, ◌∙◌, ap, subst, arith, length-append, length-take, length-drop}
use Rattle.std.specs.Prelude.{Result, Ok, Err, OnOk}
use Rattle.sled_disk.specs.Disk.{written, Torn, Shortened}
use Rattle.sled_log.specs.Digest.{digest}
use Rattle.sled_log.specs.Log.{closed, opened, log_of, IsLog}
use Rattle.sled_log.specs.Append.{IsBlockFor, IsBeforeOrAfter}
use Rattle.sled_log.proofs.ReadingLemmas.{digest_small, log_read}
use Rattle.sled_bytes.specs.declared.change.Change.{Change}
use Rattle.sled_files.specs.Change.{Durable, changed_all, nothing_yet}
use Rattle.sled_files.specs.Header.{header}
use Rattle.sled_files.specs.Standing.{StandsFor, StandsWith, IsBlank, IsBegun}
use Rattle.sled_files.specs.theory.Begun.{IsFirstBlock, IsEmptied}
use Rattle.sled_files.specs.Laws.{NewStoreLasts}
use Rattle.sled_files.proofs.Adding.{alone}

-- the file with a closed gate at its front is a log of nothing
gate_first : (file : List ℕ) → IsLog digest (written 0 (closed ∷ []) file) [] 0
gate_first file = record { fit = tt; rest = drop 1 file; file_is = refl; gate_is = refl }

-- what a crash leaves while that gate is written
pub closed_or_blank : (file c : List ℕ) → Torn 0 (closed ∷ []) file c → IsEmptied file c
closed_or_blank [] c torn = inr (inl (omega (arith, torn.no_longer)))
closed_or_blank (x ∷ rest) c torn = ⊎_elim (λ is. inl is) (λ is. inr (inr (ap (log_of digest) is ∙ log_read digest_small (gate_first (x ∷ rest))))) (torn.single refl (omega arith))

pub closed_or_not : (file c : List ℕ) (generation : ℕ) (d : Durable) → Torn 0 (closed ∷ []) file c → IsBegun file generation d c
closed_or_not file c generation d torn = ⊎_elim (λ is. inl is) (λ blank. inr (inl blank)) (closed_or_blank file c torn)

-- and what it leaves while all behind that gate is cut off
pub cut_blank : (file c : List ℕ) → Shortened 1 (written 0 (closed ∷ []) file) c → IsBlank c
cut_blank file [] cut = inl (omega arith)
cut_blank file (x ∷ rest) cut = inr (log_read digest_small (cut_log cut.front))
  where
    cut_log : x ∷ rest ≡ closed ∷ take (length rest) (drop 1 file) → IsLog digest (x ∷ rest) [] 0
    cut_log is = record { fit = tt; rest = take (length rest) (drop 1 file); file_is = is; gate_is = refl }

module _ {block payload : List ℕ} {generation : ℕ} {changes : List Change} (first : IsFirstBlock block payload generation changes) where
  abbrev stands_new : (c : List ℕ) → log_of digest c ≡ Ok ((header generation ++ payload) ∷ []) → StandsFor c generation (changed_all changes nothing_yet)
  stands_new c log = record { changes = changes; has = record { fits = first.fits; first = payload; others = []; log = log; decoded = alone first.spells }; makes = refl; made = first.made }

  module _ (file mid : List ℕ) (written_is : mid ≡ written 0 (closed ∷ []) file) where
    -- the first block is one for the file behind its closed gate
    abbrev pub block_for_first : IsBlockFor mid 0 block
    block_for_first = record { digest = digest; small = digest_small; payloads = []; log = record { fit = tt; rest = drop 1 file; file_is = written_is; gate_is = refl }; payload = header generation ++ payload; fits = first.few; bytes_are = first.bytes_are }

    -- what a crash leaves while that block is added
    pub begun_or_not : (c : List ℕ) → IsBeforeOrAfter block_for_first c → IsBegun file generation (changed_all changes nothing_yet) c
    begun_or_not c (inl log) = inr (inl (inr log))
    begun_or_not c (inr log) = inr (inr (stands_new c log))

    -- once it is added
    stands_begun : (new : List ℕ) → IsLog digest new ((header generation ++ payload) ∷ []) (0 + length block) → StandsWith new (length block) (length payload) generation (changed_all changes nothing_yet)
    stands_begun new log = record { at = record { stands = stands_new new (log_read digest_small log); log = subst (λ (n : ℕ). IsLog digest new ((header generation ++ payload) ∷ []) n) (omega arith) log }; snapshot_is = refl }

pub stands_on_ok : {T E : Type 0} (r : Result T E) (file mid new block : List ℕ) → mid ≡ written 0 (closed ∷ []) file → OnOk r ((b : IsBlockFor mid 0 block) → IsLog b.digest new (b.payloads ++ b.payload ∷ []) (0 + length block))
    → OnOk r ((payload : List ℕ) (generation : ℕ) (changes : List Change) → IsFirstBlock block payload generation changes → StandsWith new (length block) (length payload) generation (changed_all changes nothing_yet))
stands_on_ok (Ok x) file mid new block is next = λ payload generation changes first. stands_begun first file mid is new (next (block_for_first first file mid is))
stands_on_ok (Err e) file mid new block is next = next

-- a write that begins within the file ends within it
pub write_ends : (at : ℕ) (bytes file : List ℕ) → at ≤ length file → at + length bytes ≤ length (written at bytes file)
write_ends at bytes file within = omega (arith, within, length-append (take at file ++ bytes) (drop (at + length bytes) file), length-append (take at file) bytes, length-take at file)

-- and leaves it no shorter
pub write_keeps : (at : ℕ) (bytes file : List ℕ) → at ≤ length file → length file ≤ length (written at bytes file)
write_keeps at bytes file within = omega (arith, within, length-append (take at file ++ bytes) (drop (at + length bytes) file), length-append (take at file) bytes, length-take at file, length-drop (at + length bytes) file)

-- so a block that was added and its gate are within the file
pub block_ends : (gate : ℕ) (block file : List ℕ) → gate < length file → gate + length block < length (written gate (opened ∷ []) (written (gate + 1) block file))
block_ends gate block file within =
    let mid = written (gate + 1) block file in
    let ends : gate + 1 + length block ≤ length mid = write_ends (gate + 1) block file (omega (arith, within)) in
    omega (arith, ends, write_keeps gate (opened ∷ []) mid (omega (arith, ends)))

-- while the first file of a store that is still to be made is begun
pub new_store_lasts : NewStoreLasts
new_store_lasts generation d first second left blank (inl is) = inl (record { first_is = subst IsBlank (sym is) blank.first_is; second_is = blank.second_is })
new_store_lasts generation d first second left blank (inr (inl empty)) = inl (record { first_is = empty; second_is = blank.second_is })
new_store_lasts generation d first second left blank (inr (inr stands)) = inr (record { generation = generation; which = inl (record { stands = stands; behind = inl blank.second_is }) })
