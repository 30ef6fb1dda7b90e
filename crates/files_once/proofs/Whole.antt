-- Which logs are whole.
use Rattle.std.proofs.Common.{◌≡◌, ◌∙◌, ℕ, ◌+◌, List, [], ◌∷◌, ◌++◌, map, length, drop, refl, sym, ap, inl, inr, ⊎_elim, arith, length-append, drop_at}
use Rattle.std.specs.Prelude.{◌⊎◌, Some, slice_get}
use Rattle.sled_log.specs.Digest.{digest}
use Rattle.sled_log.specs.Log.{closed, blocks, IsLog}
use Rattle.sled_log.specs.Tear.{EndsAt, log_to_tear}
use Rattle.sled_log.proofs.ReadingLemmas.{digest_small, log_read}
use Rattle.files_once.specs.Mended.{IsOfStore, BeginsAsStore, IsMadeWhole, IsMended}

-- nothing is behind a gate that is the last byte
none_behind : (file front rest : List ℕ) (gate : ℕ) → file ≡ front ++ closed ∷ rest → length front ≡ gate → gate + 1 ≡ length file → rest ≡ []
none_behind file front [] gate is there last = refl
none_behind file front (x ∷ rest) gate is there last = absurd (omega (arith, last, there, ap length is, length-append front (closed ∷ x ∷ rest)))

-- a file that began as one of a store is whole, once it is such a log
pub made_whole : (before after : List ℕ) (gate : ℕ) → BeginsAsStore before → IsLog digest after (log_to_tear digest before) gate → gate + 1 ≡ length after → IsMadeWhole before after
made_whole before after gate began l last = record {
  began = began;
  log = log_read digest_small l;
  is = l.file_is ∙ ap (λ (r : List ℕ). blocks digest (log_to_tear digest before) ++ closed ∷ r) (none_behind after (blocks digest (log_to_tear digest before)) l.rest gate l.file_is l.gate_is last);
}

-- one that needs nothing is mended
pub mended_same : (file : List ℕ) → (IsOfStore file → ⊥) ⊎ IsMadeWhole file file → IsMended file file
mended_same file = ⊎_elim (λ none. inl (refl, none)) (λ whole. inr whole)

-- a log that ends with a closed gate, the last byte of the file
gate_ends : (file : List ℕ) (payloads : List (List ℕ)) (place : ℕ) → EndsAt digest file payloads place → drop place file ≡ closed ∷ [] → file ≡ blocks digest payloads ++ closed ∷ []
gate_ends file payloads place e is =
    let rest : e.rest ≡ closed ∷ [] = sym (ap (λ (l : List ℕ). drop place l) e.file_is ∙ drop_at (blocks digest payloads) e.rest place e.place_is) ∙ is in
    e.file_is ∙ ap (λ (l : List ℕ). blocks digest payloads ++ l) rest

-- so one that began as one of a store is whole
pub gate_whole : (file : List ℕ) (gate : ℕ) → BeginsAsStore file → EndsAt digest file (log_to_tear digest file) gate → drop gate file ≡ closed ∷ [] → IsMadeWhole file file
gate_whole file gate began e is =
    let ends = gate_ends file (log_to_tear digest file) gate e is in
    let l : IsLog digest file (log_to_tear digest file) gate = record { fit = e.fit; rest = []; file_is = ends; gate_is = e.place_is } in
    record { began = began; log = log_read digest_small l; is = ends }

-- the list begins with its first item
pub begins_with : {A B : Type 0} (f : A → B) (items : List A) (item : A) → Some item ≡ slice_get items 0 → map f items ≡ f item ∷ drop 1 (map f items)
begins_with f [] item is = absurd (cc)
begins_with f (first ∷ items) item is = cc
