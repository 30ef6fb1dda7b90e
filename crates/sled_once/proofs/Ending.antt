-- What is known of where a log ends, after one call more.
use Rattle.std.proofs.Common.{◌≡◌, ◌∙◌, ℕ, ◌+◌, ◌<◌, List, [], ◌∷◌, ◌++◌, length, take, drop, refl, sym, ap, subst, arith, append_assoc, length-append, take-append-drop, take-take}
use Rattle.std.proofs.lemmas.List.{take_at}
use Rattle.sled_disk.specs.Disk.{written, Torn}
use Rattle.sled_log.specs.Digest.{digest}
use Rattle.sled_log.specs.Log.{closed, opened, blocks, IsLog}
use Rattle.sled_log.specs.Append.{IsBlockFor}
use Rattle.sled_log.proofs.ReadingLemmas.{digest_small}
use Rattle.sled_log.proofs.Appending.{gate_stays, log_after}
use Rattle.sled_once.specs.Stages.{IsBlock, EndsIn, IsStaged}

abbrev pub block_for : {gate : ℕ} {file bytes : List ℕ} → EndsIn gate file → IsBlock bytes → IsBlockFor file gate bytes
block_for e k = record { digest = digest; small = digest_small; payloads = e.payloads; log = e.log; payload = k.payload; fits = k.fits; bytes_are = k.is }

-- a closed gate at the front ends a log of nothing
pub front_closed : (file : List ℕ) → EndsIn 0 (written 0 (closed ∷ []) file)
front_closed file = record { payloads = []; log = record { fit = tt; rest = drop 1 file; file_is = refl; gate_is = refl } }

pub block_staged : (gate at : ℕ) (bytes block file : List ℕ) → EndsIn gate file → IsBlock block → block ≡ bytes → at ≡ gate + 1 → IsStaged gate (length block) (written at bytes file)
block_staged gate at bytes block file e k is place = record { before = file; ends = e; bytes = block; block = k; count_is = refl; is = ap (λ (n : ℕ). written n bytes file) place ∙ ap (λ (l : List ℕ). written (gate + 1) l file) (sym is) }

-- once its gate is open, the block is part of the log
pub with_block : (gate : ℕ) (bytes file : List ℕ) (e : EndsIn gate file) (k : IsBlock bytes) → IsLog digest (written gate (opened ∷ []) (written (gate + 1) bytes file)) (e.payloads ++ k.payload ∷ []) (gate + length bytes)
with_block gate bytes file e k = log_after (block_for e k)

pub behind_block : (gate : ℕ) (bytes file : List ℕ) → EndsIn gate file → IsBlock bytes → EndsIn (gate + length bytes) (written gate (opened ∷ []) (written (gate + 1) bytes file))
behind_block gate bytes file e k = record { payloads = e.payloads ++ k.payload ∷ []; log = with_block gate bytes file e k }

pub gate_opened : (gate count : ℕ) (file : List ℕ) → IsStaged gate count file → EndsIn (gate + count) (written gate (opened ∷ []) file)
gate_opened gate count file s =
    subst (λ (n : ℕ). EndsIn (gate + n) (written gate (opened ∷ []) file)) s.count_is
    (subst (λ (l : List ℕ). EndsIn (gate + length s.bytes) (written gate (opened ∷ []) l)) (sym s.is) (behind_block gate s.bytes s.before s.ends s.block))

-- what is cut off behind the gate is no part of the log
pub cut_behind : (gate len : ℕ) (file : List ℕ) → EndsIn gate file → gate < len → EndsIn gate (take len file)
cut_behind gate len file e long =
    let front = blocks digest e.payloads in
    let rest = drop (gate + 1) (take len file) in
    let up_to : take (gate + 1) file ≡ front ++ closed ∷ [] =
    ap (λ (l : List ℕ). take (gate + 1) l) (e.log.file_is ∙ sym (append_assoc front (closed ∷ []) e.log.rest))
    ∙ take_at (front ++ closed ∷ []) e.log.rest (gate + 1) (length-append front (closed ∷ []) ∙ ap (λ (n : ℕ). n + 1) e.log.gate_is) in
    record {
      payloads = e.payloads;
      log = record {
        fit = e.log.fit;
        rest = rest;
        file_is = sym (take-append-drop (gate + 1) (take len file))
            ∙ ap (λ (l : List ℕ). l ++ rest) (take-take (gate + 1) len file (omega (arith, long)) ∙ up_to)
            ∙ append_assoc front (closed ∷ []) rest;
        gate_is = e.log.gate_is;
      };
    }

-- a block behind the closed gate is no part of the log
pub behind_closed : (gate : ℕ) (bytes file c : List ℕ) → (e : EndsIn gate file) → IsBlock bytes → Torn (gate + 1) bytes file c → IsLog digest c e.payloads gate
behind_closed gate bytes file c e k torn = record { fit = e.log.fit; rest = drop (gate + 1) c; file_is = gate_stays (block_for e k) c torn; gate_is = e.log.gate_is }
